-- As many packets arrive as enter some component.
use Rattle.std.proofs.Common.{◌≡◌, ◌≢◌, ◌∙◌, sym, ap, subst, refl, ℕ, zero, suc, ◌+◌, ◌<◌, ◌≤◌, ◌==◌, ◌&&◌, ◌||◌, List, [], ◌∷◌, Some, Bool, true, false, not, arith, length, cond, map, All, AllPairs, inl, inr}
use Rattle.std.specs.List.{flat_map}
use Rattle.std.specs.Prelude.{count_by, fold, replicate}
use Rattle.std.proofs.lemmas.Bool.{and_parts, cases_Bool, eq-eqb}
use Rattle.std.proofs.lemmas.List.{length-set}
use Rattle.std.proofs.lemmas.List.Elements.{All-head, All-tail}
use Rattle.std.proofs.lemmas.List.Folds.{Any-from_list_any}
use Rattle.std.proofs.lemmas.List.Sums.{sum_by-append, sum_by-cons}
use Rattle.std.proofs.lemmas.Option.{same_Some}
use Rattle.an_base.specs.Values.{EntryOf, LifeId}
use Rattle.common_values.proofs.ListLemmas.{AllPairs-head, AllPairs-tail}
use Rattle.common_values.proofs.PairLemmas.{AllPairs-map}
use Rattle.net_graph.specs.Forest.{IsComponent, IsForest, IsMember, RootsBelow}
use Rattle.net_graph.specs.Wires.{IsWired, Wires, uid_of}
use Rattle.net_graph.proofs.CollectLemmas.{uid_one}
use Rattle.net_script.specs.Scripts.{IsScript, ScriptOf}
use Rattle.table_script.proofs.JoinedLemmas.{joined_self, walk_joined}
use Rattle.table_script.specs.Tables.{are_joined}
use Rattle.topo_graph.specs.Topology.{entry_at, nothing}
use Rattle.flow_channels.specs.declared.went.Went.{Went}
use Rattle.flow_channels.specs.declared.went.Went.TheVariants.{Arrived, Out}
use Rattle.flow_channels.specs.Flows.{FlowOf, PacketOf, WaitOf, all_starting, empty_flow, in_queues, left_of}
use Rattle.flow_channels.specs.Layout.{IsWired as IsWiredLayout, LayoutOf}
use Rattle.flow_channels.specs.Moves.{Arrives, Goes, IsPossible, IsTurn, Move, after, went_by, went_first, went_out, Turns}
use Rattle.flow_channels.specs.Sound.{IsSound}
use Rattle.flow_channels.proofs.LeftLaws.{arrive_left, go_left}
use Rattle.flow_channels.proofs.SoundLaws.{turn_sound}
use Rattle.flow_channels.proofs.ViewLaws.{entered_left}
use Rattle.flow_text.specs.declared.sent.Sent.{Sent}
use Rattle.flow_text.specs.Flows.{FlowPart, IsFlowPart, entries_of, is_arrival, layout_in, part_lines, start_of, went_line, with_entered}
use Rattle.flow_text.specs.Sends.{entering, enters_in, has_both, homes_of, is_entering, is_joined, is_local, number_at, numbers_in, sends_of}
use Rattle.check_text.proofs.ComponentLemmas.{uid_is}
use Rattle.flow_text.proofs.FlowLaws.{parts_of, running}
use Rattle.flow_text.proofs.FlowSends.{found, may_enter}
use Rattle.check_text.proofs.OwnApart.{switches_apart}
use Rattle.expect_text.proofs.PartLemmas.{IsPart}

-- TURNS

-- 1 for a move of which the line says that a packet arrives
abbrev arrives_by : ScriptOf → List EntryOf → Went → ℕ
arrives_by s es went = cond (is_arrival (went_line s es went)) 1 0

turn_left : (s : ScriptOf) (es : List EntryOf) (layout : LayoutOf) (known : List ℕ) (old new : FlowOf) (went : Went) → IsWiredLayout layout → IsSound layout known old → IsTurn layout old went new → arrives_by s es went + left_of new ≡ left_of old
turn_left s es layout known old new went wires sound turn = go turn.move turn.next.possible turn.went_is turn.after_is where
  go : (move : Move) → IsPossible layout old move → went_by old move ≡ Some went → new ≡ after layout move old → arrives_by s es went + left_of new ≡ left_of old
  go (Arrives c) (packet, entry, first, far) went_is after_is =
      let is : Arrived packet.packet packet.to ≡ went = same_Some (Arrived packet.packet packet.to) went (ap went_first (sym first) ∙ went_is) in
      let one : 1 ≡ arrives_by s es went = ap (arrives_by s es) is in
      let left = arrive_left layout wires known old c sound (packet, entry, first, far) in
      let same = ap left_of after_is in
      omega (arith, one, left, same)
  go (Goes at place port) can went_is after_is =
      let is : Out can.wait.packet.packet at port ≡ went = same_Some (Out can.wait.packet.packet at port) went (ap (went_out at port) (sym can.there) ∙ went_is) in
      let none : 0 ≡ arrives_by s es went = ap (arrives_by s es) is in
      let left = go_left layout wires known old at place port sound can in
      let same = ap left_of after_is in
      omega (arith, none, left, same)

turns_left : (s : ScriptOf) (es : List EntryOf) (layout : LayoutOf) (known : List ℕ) (went : List Went) (old new : FlowOf) → IsWiredLayout layout → IsSound layout known old → Turns layout old went new → count_by is_arrival (map (went_line s es) went) + left_of new ≡ left_of old
turns_left s es layout known [] old new wires sound same = omega (arith, ap left_of same)
turns_left s es layout known (one ∷ went) old new wires sound (next, turn, rest) =
    let first = turn_left s es layout known old next one wires sound turn in
    let more = turns_left s es layout known went next new wires (turn_sound layout wires known old next one sound turn) rest in
    let sum = sum_by-cons (λ x. cond (is_arrival x) 1 0) (went_line s es one) (map (went_line s es) went) in
    omega (arith, first, more, sum)

-- WHO ENTERED

abbrev no_packets : List PacketOf
no_packets = []

abbrev no_waits : List WaitOf
no_waits = []

no_queues : (n : ℕ) → in_queues (replicate n no_packets) ≡ 0
no_queues zero = refl
no_queues (suc n) = omega (arith, no_queues n)

none_starting : (n : ℕ) → all_starting (replicate n no_waits) ≡ 0
none_starting zero = refl
none_starting (suc n) = omega (arith, none_starting n)

empty_left : left_of empty_flow ≡ 0
empty_left = omega (arith, no_queues 1651, none_starting 127)

entered_count : (home : List ℕ) (sends : List Sent) (flow : FlowOf) → All (λ sent. number_at home sent.from < 127) sends → length flow.waiting ≡ 127 → left_of (fold (with_entered home) flow sends) ≡ left_of flow + length sends
entered_count home [] flow low size = omega arith
entered_count home (sent ∷ sends) flow low size =
    let from = number_at home sent.from in
    let P : Sent → Type 0 = λ s. number_at home s.from < 127 in
    let one = entered_left sent.packet from (number_at home sent.to) flow size (All-head P sent sends low) in
    let kept : length (with_entered home flow sent).waiting ≡ 127 = length-set flow.waiting from _ ∙ size in
    let more = entered_count home sends (with_entered home flow sent) (All-tail P sent sends low) kept in
    omega (arith, one, more)

-- the packets that enter a component arrive there
part_arrives : (s : ScriptOf) (room : ℕ) (p : FlowPart) → IsScript s → 1 ≤ room → IsPart s p.part → IsFlowPart s room p → count_by is_arrival (part_lines s p) ≡ length (entering (numbers_in s.wires.switches (entries_of p)) (sends_of s))
part_arrives s room p kept some part is =
    let es = entries_of p in
    let home = numbers_in s.wires.switches es in
    let run = running s room p kept some part in
    let may = may_enter s es kept part.numbers part.count in
    let low : All (λ sent. number_at home sent.from < 127) (entering home (sends_of s)) = λ k d within. run.wires.low _ (may.from_in k d within) in
    let all = entered_count home (entering home (sends_of s)) empty_flow low refl in
    let left = turns_left s es (layout_in room p.part) run.known p.moves (start_of s es) p.end run.wires run.sound is.turns in
    omega (arith, all, left, is.done, empty_left)

-- OVER ALL COMPONENTS

abbrev all_entering : List (List ℕ) → List Sent → ℕ
all_entering [] sends = 0
all_entering (home ∷ homes) sends = length (entering home sends) + all_entering homes sends

-- no two have a number for one switch
abbrev AreApart : List ℕ → List ℕ → Type 0
AreApart home other = (switch : ℕ) → number_at home switch ≢ 0 → number_at other switch ≢ 0 → ⊥

has_from : (home : List ℕ) (sent : Sent) → has_both home sent ≡ true → number_at home sent.from ≢ 0
has_from home sent both none =
    let test : not (number_at home sent.from == 0) ≡ true = (and_parts (not (number_at home sent.from == 0)) (not (number_at home sent.to == 0)) both).0 in
    let zero_is : (number_at home sent.from == 0) ≡ true = eq-eqb (number_at home sent.from) 0 none in
    absurd (cc)

not_both : (home : List ℕ) (homes : List (List ℕ)) (sent : Sent) → All (AreApart home) homes → has_both home sent ≡ true → is_joined homes sent ≡ true → ⊥
not_both home homes sent apart here there =
    let (k, other, low, at, has) = Any-from_list_any (λ numbers. has_both numbers sent) homes there in
    subst (AreApart home) at (apart k other low) sent.from (has_from home sent here) (has_from other sent has)

-- so a packet enters the first, or one of the others, or none
one_each : (local here there : Bool) → (here ≡ true → there ≡ true → ⊥) → cond (not local && (here || there)) 1 0 ≡ cond (not local && here) 1 0 + cond (not local && there) 1 0
one_each true here there never = omega arith
one_each false true true never = absurd (never refl refl)
one_each false true false never = omega arith
one_each false false there never = omega arith

length_filter : (home : List ℕ) (sent : Sent) (sends : List Sent) → length (entering home (sent ∷ sends)) ≡ cond (enters_in home sent) 1 0 + length (entering home sends)
length_filter home sent sends = elim (cases_Bool (enters_in home sent)) [ inl some ↦ rw some (omega arith) | inr none ↦ rw none (omega arith) ]

split_count : (home : List ℕ) (homes : List (List ℕ)) (sends : List Sent) → All (AreApart home) homes → count_by (is_entering (home ∷ homes)) sends ≡ length (entering home sends) + count_by (is_entering homes) sends
split_count home homes [] apart = omega arith
split_count home homes (sent ∷ sends) apart =
    let all = sum_by-cons (λ (s : Sent). cond (is_entering (home ∷ homes) s) 1 0) sent sends in
    let others = sum_by-cons (λ (s : Sent). cond (is_entering homes s) 1 0) sent sends in
    let here = length_filter home sent sends in
    let one = one_each (is_local sent) (has_both home sent) (is_joined homes sent) (not_both home homes sent apart) in
    let rest = split_count home homes sends apart in
    omega (arith, all, others, here, one, rest)

none_enter : (sends : List Sent) → count_by (is_entering []) sends ≡ 0
none_enter [] = refl
none_enter (sent ∷ sends) =
    let all = sum_by-cons (λ (s : Sent). cond (is_entering [] s) 1 0) sent sends in
    let none : ◌≡◌ {A = ℕ} (cond (is_entering [] sent) 1 0) 0 = elim (cases_Bool (is_local sent)) [ inl here ↦ rw here refl | inr apart ↦ rw apart refl ] in
    omega (arith, all, none, none_enter sends)

count_entering : (homes : List (List ℕ)) (sends : List Sent) → AllPairs AreApart homes → all_entering homes sends ≡ count_by (is_entering homes) sends
count_entering [] sends apart = sym (none_enter sends)
count_entering (home ∷ homes) sends apart =
    let split = split_count home homes sends (AllPairs-head AreApart home homes apart) in
    let rest = count_entering homes sends (AllPairs-tail AreApart home homes apart) in
    omega (arith, split, rest)

-- A SWITCH IS IN ONE COMPONENT

-- a switch with a number in a component is joined with its root
number_joined : (w : Wires) (r : ℕ) (es : List EntryOf) (switch : ℕ) → IsWired w → IsComponent w r es → number_at (numbers_in w.switches es) switch ≢ 0 → are_joined w.links switch r ≡ true
number_joined w r es switch wired component some =
    let f = found w.switches es switch some in
    let member : IsMember w r (entry_at es f.place) = component.only f.place nothing f.low in
    let uids : uid_of w.switches member.0 ≡ uid_of w.switches switch = sym (ap (λ (life : LifeId). life.uid) member.2.life) ∙ f.uid ∙ sym (uid_is w.switches switch (record { uid = 0; had = 1 }) f.in_range) in
    subst (λ (x : ℕ). are_joined w.links x r ≡ true) (uid_one w member.0 switch wired member.1 f.in_range uids)
    (walk_joined w (entry_at es f.place).position.level member.0 r member.2.place.level.walk)

homes_apart : (w : Wires) (r q : ℕ) (a b : List EntryOf) → IsWired w → IsComponent w r a → IsComponent w q b → RootsBelow a b → AreApart (numbers_in w.switches a) (numbers_in w.switches b)
homes_apart w r q a b wired is_a is_b below switch one other =
    switches_apart w r q a b switch switch wired is_a is_b below (number_joined w r a switch wired is_a one) (number_joined w q b switch wired is_b other) (joined_self w.links switch)

forest_apart : (w : Wires) (forest : List (List EntryOf)) → IsWired w → IsForest w forest → AllPairs AreApart (homes_of w.switches forest)
forest_apart w forest wired trees = AllPairs-map AreApart (numbers_in w.switches) forest (λ i j d before low.
    let one = trees.components i d (omega (arith, before, low)) in
    let two = trees.components j d low in
    homes_apart w one.0 two.0 _ _ wired one.1 two.1 (trees.rising i j d before low))

-- ALL THAT ENTER ARRIVE

parts_arrive : (s : ScriptOf) (room : ℕ) (parts : List FlowPart) → IsScript s → 1 ≤ room → All (IsPart s) (map (λ p. p.part) parts) → All (IsFlowPart s room) parts → count_by is_arrival (flat_map (part_lines s) parts) ≡ all_entering (homes_of s.wires.switches (map entries_of parts)) (sends_of s)
parts_arrive s room [] kept some each are = refl
parts_arrive s room (p ∷ parts) kept some each are =
    let P = IsFlowPart s room in
    let sum = sum_by-append (λ x. cond (is_arrival x) 1 0) (part_lines s p) (flat_map (part_lines s) parts) in
    let first = part_arrives s room p kept some (All-head (IsPart s) p.part (map (λ r. r.part) parts) each) (All-head P p parts are) in
    let more = parts_arrive s room parts kept some (All-tail (IsPart s) p.part (map (λ r. r.part) parts) each) (All-tail P p parts are) in
    omega (arith, sum, first, more)

pub all_arrive : (s : ScriptOf) (room : ℕ) (parts : List FlowPart) → IsScript s → 1 ≤ room → IsForest s.wires (map entries_of parts) → All (IsFlowPart s room) parts → count_by is_arrival (flat_map (part_lines s) parts) ≡ count_by (is_entering (homes_of s.wires.switches (map entries_of parts))) (sends_of s)
all_arrive s room parts kept some trees flows =
    parts_arrive s room parts kept some (parts_of s room parts kept trees flows) flows
    ∙ count_entering (homes_of s.wires.switches (map entries_of parts)) (sends_of s) (forest_apart s.wires (map entries_of parts) kept.wired trees)
