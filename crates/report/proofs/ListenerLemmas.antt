-- A text is told of a history moment by moment.
use Rattle.std.proofs.Common.{◌≡◌, ◌∙◌, sym, ap, subst, ℕ, ◌+◌, ◌<◌, List, [], ◌∷◌, ◌++◌, Option, Some, append_assoc, append-nil, get_or, length, take}
use Rattle.std.specs.List.{flat_map}
use Rattle.std.specs.Option.{option_map_or}
use Rattle.std.proofs.lemmas.List.{flat_map_more, take_more}
use Rattle.an_base.specs.declared.event.Event.{Event}
use Rattle.net_script.specs.Scripts.{ScriptOf}
use Rattle.net_state.specs.declared.ending.Ending.{Ending}
use Rattle.net_state.specs.declared.line.Line.{Line}
use Rattle.net_world.specs.Histories.{IsLawful, world_of}
use Rattle.net_world.specs.Lines.{lines_of}
use Rattle.net_world.specs.World.{world_after}
use Rattle.fabric_book.specs.Nets.{NetOf, history_of, with_step}
use Rattle.replay.specs.Replays.{HasMade}
use Rattle.replay.proofs.ReplayLemmas.{made_more}
use Rattle.report.specs.Moments.{IsHeard, Moment, moments, told_so_far, told_whole}
use Rattle.report.proofs.MomentLemmas.{moments_more}

-- THE TEXT

pub told_none : (first : List ℕ) (told : Moment → List ℕ) (text : List ℕ) → text ≡ first → text ≡ told_so_far first told []
unfolding told_so_far
told_none first told text is = is ∙ sym (append-nil first)

pub told_more : (first : List ℕ) (told : Moment → List ℕ) (history : List Event) (event : Event) → told_so_far first told (history ++ event ∷ []) ≡ told_so_far first told history ++ told (record { before = history; event = event })
unfolding told_so_far
told_more first told history event =
    ap (λ (ms : List Moment). first ++ flat_map told ms) (moments_more history event)
    ∙ sym (flat_map_more told first (moments history) (record { before = history; event = event }))

-- THE NEXT EVENT

-- what is so of a network that has made events
pub at_net : (P : ScriptOf → List Event → Type 0) (script : ScriptOf) (history : List Event) (net : NetOf) → HasMade script history net → P net.script net.events → P script history
at_net P script history net made p = subst (λ (n : NetOf). P n.script n.events) made.net_is p

pub of_net : (P : ScriptOf → List Event → Type 0) (script : ScriptOf) (history : List Event) (net : NetOf) → HasMade script history net → P script history → P net.script net.events
of_net P script history net made p = subst (λ (n : NetOf). P n.script n.events) (sym made.net_is) p

pub own_made : (script : ScriptOf) (history : List Event) (net : NetOf) → HasMade script history net → HasMade net.script net.events net
own_made script history net made = of_net (λ s h. HasMade s h net) script history net made made

-- what is so behind the next event
pub next_so : (P : ScriptOf → List Event → Type 0) (script : ScriptOf) (event : Event) (net new : NetOf) → HasMade script net.events net → new.events ≡ net.events ++ event ∷ [] → P net.script (net.events ++ event ∷ []) → P script new.events
next_so P script event net new made events p =
    subst (P script) (sym events) (at_net (λ s h. P s (h ++ event ∷ [])) script net.events net made p)

pub next_told : (first : List ℕ) (told : ScriptOf → Moment → List ℕ) (script : ScriptOf) (event : Event) (net new : NetOf) (text more : List ℕ) → HasMade script net.events net → new.events ≡ net.events ++ event ∷ [] → text ≡ told_so_far first (told script) net.events → more ≡ text ++ told net.script (record { before = net.events; event = event }) → more ≡ told_so_far first (told script) new.events
next_told first told script event net new text more made events says one =
    let here = at_net (λ s h. more ≡ text ++ told s (record { before = h; event = event })) script net.events net made one in
    let line = told script (record { before = net.events; event = event }) in
    here ∙ ap (λ (t : List ℕ). t ++ line) says ∙ sym (told_more first (told script) net.events event)
    ∙ ap (told_so_far first (told script)) (sym events)

-- with the last line it is the whole
pub last_told : (first : List ℕ) (told : Moment → List ℕ) (last : ScriptOf → List Event → Ending → List ℕ) (script : ScriptOf) (journal : List Event) (net : NetOf) (end : Ending) (all : Option Ending) (written text new : List ℕ) → HasMade script journal net → all ≡ Some end → written ++ text ≡ told_so_far first told journal → new ≡ text ++ last net.script net.events end → written ++ new ≡ told_whole first told (last script journal) journal all
unfolding told_whole
last_told first told last script journal net end all written text new made ends says one =
    let here = at_net (λ s h. new ≡ text ++ last s h end) script journal net made one in
    let line = last script journal end in
    ap (λ (t : List ℕ). written ++ t) here ∙ sym (append_assoc written text line) ∙ ap (λ (t : List ℕ). t ++ line) says
    ∙ ap (λ (o : Option Ending). told_so_far first told journal ++ option_map_or (last script journal) o []) (sym ends)

-- what is heard of it
pub script_on : (net new : NetOf) (event : Event) → new ≡ with_step event net → new.script ≡ net.script
script_on net new event stepped = ap (λ (n : NetOf). n.script) stepped

pub heard : (net new : NetOf) (event : Event) (lines : List Line) → HasMade net.script net.events net → new ≡ with_step event net → IsLawful new.script new.events → lines ≡ lines_of (world_of (history_of net)) event → IsHeard net.events event new lines
heard net new event lines made stepped lawful told = record {
  made = subst (λ (s : ScriptOf). HasMade s (net.events ++ event ∷ []) new) (sym (script_on net new event stepped)) (made_more net.script net.events event net new made stepped lawful);
  lines_are = told ∙ ap (λ (s : ScriptOf). lines_of (world_after s net.events) event) (sym (script_on net new event stepped));
}

-- one event more of a journal
pub next_at : (P : ScriptOf → List Event → Type 0) (script : ScriptOf) (journal : List Event) (place : ℕ) (event d : Event) (net : NetOf) → place < length journal → event ≡ get_or journal place d → HasMade script (take place journal) net → P net.script (net.events ++ event ∷ []) → P script (take (place + 1) journal)
next_at P script journal place event d net within at made p =
    let more : take place journal ++ event ∷ [] ≡ take (place + 1) journal = ap (λ (e : Event). take place journal ++ e ∷ []) at ∙ sym (take_more journal place d within) in
    subst (P script) more (at_net (λ s h. P s (h ++ event ∷ [])) script (take place journal) net made p)

pub next_says : (first : List ℕ) (told : ScriptOf → Moment → List ℕ) (script : ScriptOf) (journal : List Event) (place : ℕ) (event d : Event) (net : NetOf) (text more : List ℕ) → place < length journal → event ≡ get_or journal place d → HasMade script (take place journal) net → text ≡ told_so_far first (told script) (take place journal)
    → more ≡ text ++ told net.script (record { before = net.events; event = event }) → more ≡ told_so_far first (told script) (take (place + 1) journal)
next_says first told script journal place event d net text more within at made says one =
    let before = take place journal in
    let here = at_net (λ s h. more ≡ text ++ told s (record { before = h; event = event })) script before net made one in
    let next : before ++ event ∷ [] ≡ take (place + 1) journal = ap (λ (e : Event). before ++ e ∷ []) at ∙ sym (take_more journal place d within) in
    here ∙ ap (λ (t : List ℕ). t ++ told script (record { before = before; event = event })) says ∙ sym (told_more first (told script) before event) ∙ ap (told_so_far first (told script)) next
