-- The packets that a script sends, and those that enter a component.
use Rattle.std.proofs.Common.{◌≡◌, ◌≢◌, ◌∙◌, sym, ap, subst, refl, ℕ, ◌+◌, ◌<◌, ◌≤◌, ◌==◌, List, [], ◌∷◌, ◌++◌, Option, Some, None, true, arith, length, length-append, length-take, get_or, take, rules, Fits, w32, inl, inr, All, AllPairs, Contains}
use Rattle.std.specs.Prelude.{fold, not, position}
use Rattle.std.proofs.lemmas.Bool.{and_parts, eqb-true, eqb-false, cases_lt, not-true}
use Rattle.std.proofs.lemmas.List.{get_or-map, get_or_default, get_or_past, length-map}
use Rattle.std.proofs.lemmas.List.Elements.{All-nil, All-cons, All-push, All-weaker, filter_passes}
use Rattle.std.proofs.lemmas.List.Kept.{AllPairs-filter}
use Rattle.std.proofs.lemmas.List.Quantifiers.{position-Some}
use Rattle.std.proofs.lemmas.List.Sums.{fold_more, length-filter, count_by-le-length}
use Rattle.an_base.specs.Values.{EntryOf}
use Rattle.an_base.specs.Numbers.{AreNumbers}
use Rattle.an_base.specs.declared.event.Event.{Event}
use Rattle.an_base.specs.declared.event.Event.TheVariants.{Tick, Clock, Take, Handle, Load, Fail, Repair, Lose, Again, Swap, Noise, Send, Move, Restart}
use Rattle.common_values.proofs.PairLemmas.{AllPairs-append}
use Rattle.net_graph.specs.declared.wiring.SwitchAt.{SwitchAt}
use Rattle.net_graph.specs.Wires.{Wires, IsWired, uid_of}
use Rattle.net_graph.proofs.CollectLemmas.{uid_one}
use Rattle.net_script.specs.declared.command.Command.{Command}
use Rattle.net_script.specs.Scripts.{ScriptOf, IsScript}
use Rattle.topo_graph.specs.Topology.{nothing, entry_at}
use Rattle.switch_numbering.specs.Numbering.{numbering}
use Rattle.table_build.proofs.TableLemmas.{one_number}
use Rattle.flow_text.specs.declared.sent.Sent.{Sent}
use Rattle.flow_text.specs.Sends.{entering, enters_in, has_both, is_local, MayAllEnter, number_at, number_in, number_of, numbers_in, sends_after, sends_of, switch_of, with_event}
use Rattle.check_text.proofs.ComponentLemmas.{uid_is}

-- EACH PACKET HAS ITS OWN NUMBER

-- the packets are different ones of 1 to their count
record AreCounted (sends : List Sent) : Type 0 where
  low : All (λ s. s.packet ≤ length sends) sends
  apart : AllPairs (λ a b. a.packet ≢ b.packet) sends

none_counted : AreCounted []
none_counted = record { low = λ k d low. absurd (omega arith); apart = λ i j d less low. absurd (omega arith) }

counted_push : (sends : List Sent) (s : Sent) → s.packet ≡ length sends + 1 → AreCounted sends → AreCounted (sends ++ s ∷ [])
counted_push sends s is so_far =
    let more : length (sends ++ s ∷ []) ≡ length sends + 1 = length-append sends (s ∷ []) in
    record {
      low = All-push (λ t. t.packet ≤ length (sends ++ s ∷ [])) sends s (All-weaker (λ t. t.packet ≤ length sends) (λ t. t.packet ≤ length (sends ++ s ∷ [])) (λ t l. omega arith) sends so_far.low) (omega arith);
      apart = AllPairs-append (λ a b. a.packet ≢ b.packet) sends (s ∷ []) so_far.apart (λ i j d less low. absurd (omega arith))
          (All-weaker (λ t. t.packet ≤ length sends) (λ t. All (λ u. t.packet ≢ u.packet) (s ∷ [])) (λ t l. All-cons (λ u. t.packet ≢ u.packet) s [] (λ same. omega arith) (All-nil (λ u. t.packet ≢ u.packet))) sends so_far.low);
    }

counted_event : (script : ScriptOf) (sends : List Sent) (event : Event) → AreCounted sends → AreCounted (with_event script sends event)
counted_event script sends (Send from to) so_far = counted_push sends (record { packet = length sends + 1; from = switch_of script from; to = switch_of script to }) refl so_far
counted_event script sends Tick so_far = so_far
counted_event script sends (Clock s) so_far = so_far
counted_event script sends (Take s port) so_far = so_far
counted_event script sends (Handle s) so_far = so_far
counted_event script sends (Load s) so_far = so_far
counted_event script sends (Fail s port) so_far = so_far
counted_event script sends (Repair s port) so_far = so_far
counted_event script sends (Lose s port n) so_far = so_far
counted_event script sends (Again s port n) so_far = so_far
counted_event script sends (Swap s port n) so_far = so_far
counted_event script sends (Noise s port n) so_far = so_far
counted_event script sends (Move packet) so_far = so_far
counted_event script sends (Restart s) so_far = so_far

length_event : (script : ScriptOf) (sends : List Sent) (event : Event) → length (with_event script sends event) ≤ length sends + 1
length_event script sends (Send from to) = let e = length-append sends (record { packet = length sends + 1; from = switch_of script from; to = switch_of script to } ∷ []) in omega arith
length_event script sends Tick = omega arith
length_event script sends (Clock s) = omega arith
length_event script sends (Take s port) = omega arith
length_event script sends (Handle s) = omega arith
length_event script sends (Load s) = omega arith
length_event script sends (Fail s port) = omega arith
length_event script sends (Repair s port) = omega arith
length_event script sends (Lose s port n) = omega arith
length_event script sends (Again s port n) = omega arith
length_event script sends (Swap s port n) = omega arith
length_event script sends (Noise s port n) = omega arith
length_event script sends (Move packet) = omega arith
length_event script sends (Restart s) = omega arith

counted_from : (script : ScriptOf) (sends : List Sent) (commands : List Command) → AreCounted sends → AreCounted (fold (λ sends command. with_event script sends command.event) sends commands)
counted_from script sends [] so_far = so_far
counted_from script sends (command ∷ commands) so_far = counted_from script (with_event script sends command.event) commands (counted_event script sends command.event so_far)

length_from : (script : ScriptOf) (sends : List Sent) (commands : List Command) → length (fold (λ sends command. with_event script sends command.event) sends commands) ≤ length sends + length commands
length_from script sends [] = omega arith
length_from script sends (command ∷ commands) =
    let one = length_event script sends command.event in
    let rest = length_from script (with_event script sends command.event) commands in
    omega arith

pub sends_few : (script : ScriptOf) (commands : List Command) → length (sends_after script commands) ≤ length commands
sends_few script commands =
    let few : length (sends_after script commands) ≤ 0 + length commands = length_from script [] commands in
    omega arith

-- one command more
pub sends_more : (script : ScriptOf) (commands : List Command) (i : ℕ) (command : Command) → i < length commands → command ≡ get_or commands i command → sends_after script (take (i + 1) commands) ≡ with_event script (sends_after script (take i commands)) command.event
sends_more script commands i command low is =
    fold_more (λ sends c. with_event script sends c.event) [] commands i command low ∙ ap (λ (c : Command). with_event script (sends_after script (take i commands)) c.event) (sym is)

-- the number of the next packet fits
pub packet_fits : (script : ScriptOf) (i n : ℕ) (sends : List Sent) → length script.commands ≤ 10000 → sends ≡ sends_after script (take i script.commands) → n ≡ length sends → Fits w32 (n + 1)
packet_fits script i n sends most so_far count =
    let few = sends_few script (take i script.commands) in
    let short = length-take i script.commands in
    let same : length sends ≡ length (sends_after script (take i script.commands)) = ap (λ (l : List Sent). length l) so_far in
    let low : n + 1 ≤ 10001 = omega arith in
    search (rules, low)

-- PACKETS THAT ENTER A COMPONENT

-- a switch that has a number in a component is one of its members
pub record IsFound (switches : List SwitchAt) (es : List EntryOf) (switch number : ℕ) : Type 0 where
  pub in_range : switch < length switches
  pub place : ℕ
  pub low : place < length es
  pub uid : (entry_at es place).life.uid ≡ (get_or switches switch (record { uid = 0; had = 1 })).uid
  pub number_is : number ≡ get_or (numbering es) place 0

at_place : (switches : List SwitchAt) (es : List EntryOf) (switch : ℕ) (o : Option ℕ) → switch < length switches → position (λ e. e.life.uid == (get_or switches switch (record { uid = 0; had = 1 })).uid) es ≡ o → number_of (numbering es) o ≢ 0 → IsFound switches es switch (number_of (numbering es) o)
at_place switches es switch None low at some = absurd (some refl)
at_place switches es switch (Some place) low at some =
    let s : SwitchAt = get_or switches switch (record { uid = 0; had = 1 }) in
    let found = position-Some (λ e. e.life.uid == s.uid) es place nothing at in
    record { in_range = low; place = place; low = found.0; uid = eqb-true (entry_at es place).life.uid s.uid found.1; number_is = refl }

pub found : (switches : List SwitchAt) (es : List EntryOf) (switch : ℕ) → number_at (numbers_in switches es) switch ≢ 0 → IsFound switches es switch (number_at (numbers_in switches es) switch)
found switches es switch some = elim (cases_lt switch (length switches)) [
  | inl low ↦ (
      let none : SwitchAt = record { uid = 0; had = 1 } in
      let s : SwitchAt = get_or switches switch none in
      let is : number_at (numbers_in switches es) switch ≡ number_in es s = get_or-map (number_in es) switches switch none 0 low in
      subst (IsFound switches es switch) (sym is) (at_place switches es switch (position (λ e. e.life.uid == s.uid) es) low refl (λ nil. some (is ∙ nil))))
  | inr past ↦ absurd (some (get_or_past (numbers_in switches es) switch 0 (let e = length-map switches (number_in es) in omega arith)))
]

-- what it is to enter
record HasEntry (home : List ℕ) (s : Sent) : Type 0 where
  apart : s.from ≢ s.to
  from : number_at home s.from ≢ 0
  to : number_at home s.to ≢ 0

is_some : (n : ℕ) → not (n == 0) ≡ true → n ≢ 0
is_some n test = eqb-false n 0 (not-true (n == 0) test)

has_entry : (home : List ℕ) (s : Sent) → enters_in home s ≡ true → HasEntry home s
has_entry home s test =
    let parts = and_parts (not (is_local s)) (has_both home s) test in
    let both = and_parts (not (number_at home s.from == 0)) (not (number_at home s.to == 0)) parts.1 in
    record { apart = eqb-false s.from s.to (not-true (s.from == s.to) parts.0); from = is_some (number_at home s.from) both.0; to = is_some (number_at home s.to) both.1 }

-- its number is one of the component's
number_there : (switches : List SwitchAt) (es : List EntryOf) (switch number : ℕ) → length (numbering es) ≡ length es → IsFound switches es switch number → Contains (numbering es) number
number_there switches es switch number count f =
    let low = f.low in
    (f.place, (omega arith), get_or_default (numbering es) f.place number 0 (omega arith) ∙ sym f.number_is)

-- and two switches have two numbers
numbers_apart : (w : Wires) (es : List EntryOf) (s : Sent) (a b : ℕ) → IsWired w → AreNumbers (numbering es) → length (numbering es) ≡ length es → s.from ≢ s.to → IsFound w.switches es s.from a → IsFound w.switches es s.to b → a ≢ b
numbers_apart w es s a b wired named count apart f g same =
    let low = f.low in
    let low' = g.low in
    let place : f.place ≡ g.place = one_number (numbering es) f.place g.place named (omega arith) (omega arith) (sym f.number_is ∙ same ∙ g.number_is) in
    let none : SwitchAt = record { uid = 0; had = 1 } in
    let uids : uid_of w.switches s.from ≡ uid_of w.switches s.to =
    uid_is w.switches s.from none f.in_range ∙ sym f.uid ∙ ap (λ (k : ℕ). (entry_at es k).life.uid) place ∙ g.uid ∙ sym (uid_is w.switches s.to none g.in_range) in
    apart (uid_one w s.from s.to wired f.in_range g.in_range uids)

-- so those that enter a component may all enter
pub may_enter : (script : ScriptOf) (es : List EntryOf) → IsScript script → AreNumbers (numbering es) → length (numbering es) ≡ length es → MayAllEnter (numbering es) (numbers_in script.wires.switches es) (entering (numbers_in script.wires.switches es) (sends_of script))
may_enter script es kept named count =
    let home = numbers_in script.wires.switches es in
    let sends = sends_of script in
    let those = entering home sends in
    let each : All (HasEntry home) those = All-weaker (λ s. enters_in home s ≡ true) (HasEntry home) (has_entry home) those (filter_passes (enters_in home) sends) in
    let counted = counted_from script [] script.commands none_counted in
    record {
      few =
          let a = length-filter (enters_in home) sends in
          let b = count_by-le-length (enters_in home) sends in
          let c = sends_few script script.commands in
          let d = kept.command_count in
          omega arith;
      apart = AllPairs-filter (λ a b. a.packet ≢ b.packet) (enters_in home) sends counted.apart;
      from_in = All-weaker (HasEntry home) (λ s. Contains (numbering es) (number_at home s.from)) (λ s e. number_there script.wires.switches es s.from (number_at home s.from) count (found script.wires.switches es s.from e.from)) those each;
      to_in = All-weaker (HasEntry home) (λ s. Contains (numbering es) (number_at home s.to)) (λ s e. number_there script.wires.switches es s.to (number_at home s.to) count (found script.wires.switches es s.to e.to)) those each;
      others = All-weaker (HasEntry home) (λ s. number_at home s.from ≢ number_at home s.to) (λ s e. numbers_apart script.wires es s (number_at home s.from) (number_at home s.to) kept.wired named count e.apart (found script.wires.switches es s.from e.from) (found script.wires.switches es s.to e.to)) those each;
    }
