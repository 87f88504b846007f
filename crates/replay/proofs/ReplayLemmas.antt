-- A journal is replayed event by event.
use Rattle.std.proofs.Common.{◌≡◌, ◌∙◌, sym, ap, subst, refl, ℕ, suc, ◌+◌, ◌<◌, ◌≤◌, List, [], ◌∷◌, ◌++◌, add-one, append_assoc, length, get_or, take, drop, drop-cons, take-append-drop, take_all, true, false, true≢false}
use Rattle.std.proofs.lemmas.List.{take_more}
use Rattle.an_base.specs.declared.event.Event.{Event}
use Rattle.net_script.specs.Scripts.{IsScript, ScriptOf}
use Rattle.common_lines.specs.declared.stop.Refusal.TheVariants as stopped
use Rattle.journal_cause.specs.declared.cause.JournalCause.{JournalCause}
use Rattle.journal.specs.Reading.{BeginsJournal}
use Rattle.journal.specs.Steps.{JournalRefusal, IsRefusal as IsUnread}
use Rattle.journal.specs.Texts.{IsJournal}
use Rattle.net_state.specs.Fabric.{FabricOf}
use Rattle.net_state.specs.declared.ending.Ending.{Ending}
use Rattle.net_state.specs.Lawful.{is_lawful}
use Rattle.net_world.specs.World.{WorldOf, after_all, begun, step, world_after}
use Rattle.net_world.specs.Histories.{AreLawful, IsLawful, IsLegal}
use Rattle.net_world.proofs.CountLemmas.{lawful_events}
use Rattle.net_world.proofs.InductionLemmas.{world_script}
use Rattle.fabric_book.specs.Nets.{NetOf, history_of, with_step}
use Rattle.replay.specs.Replays.{HasMade, HasNoEnd, IfIllegal, IsIllegal, IsNoReplay, IsRefusal, IsUnlawfulNext, as_replayed, line_after, no_journal, not_legal, unended, unlawful}
use Rattle.replay.specs.declared.refusal.ReplayRefusal.{ReplayRefusal}
use Rattle.replay.specs.declared.refusal.ReplayRefusal.TheVariants as refusal

-- THE LINE OF AN EVENT

-- the script of a network can be, where that of its fabric can
pub kept_there : (script : ScriptOf) (events : List Event) (fabric : FabricOf) → fabric ≡ (world_after script events).fabric → IsScript fabric.script → IsScript script
kept_there script events fabric is kept =
    subst IsScript (ap (λ (f : FabricOf). f.script) is ∙ world_script script events) kept

-- the line of the next event, by how many there were
pub line_is : (script : ScriptOf) (events : List Event) (fabric : FabricOf) (count : ℕ) → IsLawful script events → fabric ≡ (world_after script events).fabric → IsScript fabric.script → count ≡ fabric.events → count + 2 ≡ line_after events
line_is script events fabric count lawful is kept counted =
    ap (λ (n : ℕ). n + 2) (counted ∙ ap (λ (f : FabricOf). f.events) is ∙ lawful_events script (kept_there script events fabric is kept) events lawful)

-- WHY A JOURNAL IS REFUSED

pub if_illegal : (why : ReplayRefusal) (P Q : ℕ → JournalCause → Type 0) → ((line : ℕ) (cause : JournalCause) → P line cause → Q line cause) → IfIllegal why P → IfIllegal why Q
if_illegal (refusal.Illegal line cause) P Q f p = f line cause p
if_illegal refusal.OutOfMemory P Q f p = p

-- SO MANY EVENTS WERE MADE

-- what is so of the network
pub made_lawful : (script : ScriptOf) (events : List Event) (net : NetOf) → HasMade script events net → IsLawful net.script net.events
made_lawful script events net made = subst (λ (n : NetOf). IsLawful n.script n.events) (sym made.net_is) made.lawful

pub made_here : (script : ScriptOf) (events : List Event) (net : NetOf) → HasMade script events net → net.lost ≡ false
made_here script events net made = ap (λ (n : NetOf). n.lost) made.net_is

-- at the beginning
pub made_none : (script : ScriptOf) (net : NetOf) → net ≡ record { script = script; events = []; lost = false } → HasMade script [] net
made_none script net is = record { net_is = is; lawful = tt }

-- one more event
pub made_more : (script : ScriptOf) (events : List Event) (event : Event) (old new : NetOf) → HasMade script events old → new ≡ with_step event old → IsLawful new.script new.events → HasMade script (events ++ event ∷ []) new
made_more script events event old new made is lawful =
    let net_is : new ≡ record { script = script; events = events ++ event ∷ []; lost = false } = is ∙ ap (with_step event) made.net_is in
    record { net_is = net_is; lawful = subst (λ (n : NetOf). IsLawful n.script n.events) net_is lawful }

-- one more event of a journal
pub made_next : (script : ScriptOf) (journal : List Event) (place : ℕ) (event d : Event) (net : NetOf) → place < length journal → event ≡ get_or journal place d → HasMade script (take place journal ++ event ∷ []) net → HasMade script (take (place + 1) journal) net
made_next script journal place event d net within at made =
    let more : take place journal ++ event ∷ [] ≡ take (place + 1) journal = ap (λ (e : Event). take place journal ++ e ∷ []) at ∙ sym (take_more journal place d within) in
    subst (λ (events : List Event). HasMade script events net) more made

-- the event at a place is the first that is not lawful
parts_at : (journal : List Event) (place : ℕ) (event d : Event) → place < length journal → event ≡ get_or journal place d → journal ≡ take place journal ++ event ∷ drop (place + 1) journal
parts_at journal place event d within at =
    let behind : drop place journal ≡ event ∷ drop (place + 1) journal = rw (add-one) (drop-cons journal place d within ∙ ap (λ (e : Event). e ∷ drop (suc place) journal) (sym at)) in
    sym (take-append-drop place journal) ∙ ap (λ (events : List Event). take place journal ++ events) behind

pub refused_at : (script : ScriptOf) (journal : List Event) (place : ℕ) (event d : Event) (net : NetOf) (why : ReplayRefusal) → place < length journal → event ≡ get_or journal place d → HasMade script (take place journal) net → IfIllegal why (IsUnlawfulNext (history_of net) event) → IsRefusal script journal why
refused_at script journal place event d net why within at made next =
    let here = subst (λ (n : NetOf). IfIllegal why (IsUnlawfulNext (history_of n) event)) made.net_is next in
    if_illegal why (IsUnlawfulNext (record { script = script; events = take place journal }) event) (IsIllegal script journal)
    (λ line cause is. unlawful (take place journal) (drop (place + 1) journal) event (record { parts = parts_at journal place event d within at; lawful = made.lawful; fault = is.fault }) is.stands is.cause_is)
    here

-- all were made
pub made_all : (script : ScriptOf) (journal : List Event) (place : ℕ) (net : NetOf) → length journal ≤ place → HasMade script (take place journal) net → HasMade script journal net
made_all script journal place net all made = subst (λ (events : List Event). HasMade script events net) (take_all place journal all) made

pub refused_behind : (script : ScriptOf) (journal : List Event) (net : NetOf) (why : ReplayRefusal) → HasMade script journal net → IfIllegal why (HasNoEnd (history_of net)) → IsRefusal script journal why
refused_behind script journal net why made none =
    let here = subst (λ (n : NetOf). IfIllegal why (HasNoEnd (history_of n))) made.net_is none in
    if_illegal why (HasNoEnd (record { script = script; events = journal })) (IsIllegal script journal)
    (λ line cause is. unended made.lawful is.none is.stands is.cause_is)
    here

-- A TEXT IS REFUSED

-- it is no journal
pub refused_fault : (script : ScriptOf) (bytes : List ℕ) (fault : JournalRefusal) → IsUnread script bytes fault → IfIllegal (as_replayed fault) (IsNoReplay script bytes)
refused_fault script bytes (stopped.Fault line why) is = no_journal is
refused_fault script bytes stopped.OutOfMemory is = tt

-- an event of its journal is not lawful
pub refused_event : (script : ScriptOf) (bytes : List ℕ) (before : List Event) (event : Event) (why : ReplayRefusal) → BeginsJournal script bytes (before ++ event ∷ []) → IsLawful script before → IfIllegal why (IsUnlawfulNext (record { script = script; events = before }) event) → IfIllegal why (IsNoReplay script bytes)
refused_event script bytes before event why begins lawful next =
    let journal = (before ++ event ∷ []) ++ begins.more in
    if_illegal why (IsUnlawfulNext (record { script = script; events = before }) event) (IsNoReplay script bytes)
    (λ line cause is. not_legal journal begins.is_journal (unlawful before begins.more event (record { parts = append_assoc before (event ∷ []) begins.more; lawful = lawful; fault = is.fault }) is.stands is.cause_is))
    next

-- its journal comes to no end
pub refused_end : (script : ScriptOf) (bytes : List ℕ) (net : NetOf) (why : ReplayRefusal) → IsJournal script bytes net.events → HasMade script net.events net → IfIllegal why (HasNoEnd (history_of net)) → IfIllegal why (IsNoReplay script bytes)
refused_end script bytes net why is_journal made none =
    if_illegal why (IsIllegal script net.events) (IsNoReplay script bytes)
    (λ line cause is. not_legal net.events is_journal is)
    (refused_behind script net.events net why made none)

-- THE EVENTS OF A NETWORK

pub events_are : (script : ScriptOf) (events : List Event) (net : NetOf) → HasMade script events net → net.events ≡ events
events_are script events net made = ap (λ (n : NetOf). n.events) made.net_is

pub made_these : (script : ScriptOf) (events : List Event) (net : NetOf) → HasMade script events net → HasMade script net.events net
made_these script events net made = subst (λ (es : List Event). HasMade script es net) (sym (events_are script events net made)) made

pub unlawful_there : (script : ScriptOf) (net : NetOf) (event : Event) (why : ReplayRefusal) → HasMade script net.events net → IfIllegal why (IsUnlawfulNext (history_of net) event) → IfIllegal why (IsUnlawfulNext (record { script = script; events = net.events }) event)
unlawful_there script net event why made next = subst (λ (n : NetOf). IfIllegal why (IsUnlawfulNext (history_of n) event)) made.net_is next

-- A LEGAL JOURNAL IS NOT REFUSED

lawful_there : (world : WorldOf) (before after : List Event) (event : Event) → AreLawful world (before ++ event ∷ after) → is_lawful (after_all before world).fabric event ≡ true
lawful_there world [] after event all = all.0
lawful_there world (first ∷ before) after event all = lawful_there (step world first) before after event all.1

lawful_at : (script : ScriptOf) (before after : List Event) (event : Event) → IsLawful script (before ++ event ∷ after) → is_lawful (world_after script before).fabric event ≡ true
unfolding world_after
lawful_at script before after event all = lawful_there (begun script) before after event all

none_illegal : (script : ScriptOf) (journal : List Event) (end : Ending) (line : ℕ) (why : JournalCause) → IsLegal script journal end → IsIllegal script journal line why → ⊥
none_illegal script journal end line why legal (unlawful before after event first stands cause_is) =
    true≢false (sym (lawful_at script before after event (subst (IsLawful script) first.parts legal.lawful)) ∙ first.fault)
none_illegal script journal end line why legal (unended lawful none stands cause_is) = absurd (cc (legal.ends, none))

pub legal_is_not_refused : (script : ScriptOf) (journal : List Event) (end : Ending) (why : ReplayRefusal) → IsLegal script journal end → IsRefusal script journal why → why ≡ refusal.OutOfMemory
legal_is_not_refused script journal end (refusal.Illegal line why) legal illegal = absurd (none_illegal script journal end line why legal illegal)
legal_is_not_refused script journal end refusal.OutOfMemory legal wanting = refl
