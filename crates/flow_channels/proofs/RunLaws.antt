-- Each turn is fixed by the flow before it, and so is a run.
use Rattle.std.proofs.Common.{◌≡◌, ◌∙◌, sym, ap, subst, refl, ℕ, zero, suc, ◌<◌, ◌≤◌, List, [], ◌∷◌, None, true, false, arith, length, get_or, inl, inr, ◌==◌}
use Rattle.std.specs.Ordering.{nat_cmp, ordering_then, is_le}
use Rattle.std.specs.declared.cmp.Ordering.{Ordering}
use Rattle.std.proofs.lemmas.Bool.{cases_order}
use Rattle.std.proofs.lemmas.Bool.Decides.{nat_tests}
use Rattle.std.proofs.lemmas.Option.{same_Some}
use Rattle.dep_check.specs.declared.channel.Channel.{Channel}
use Rattle.dep_check.specs.Tables.{place_of}
use Rattle.dep_check.proofs.SpotLemmas.{option_cases}
use Rattle.flow_channels.specs.declared.went.Went.{Went}
use Rattle.flow_channels.specs.Layout.{LayoutOf, spot, IsWired}
use Rattle.flow_channels.specs.Flows.{FlowOf, PacketOf, WaitOf, first_of, queue_at, waiting_at, in_queues, starting, all_starting, left_of}
use Rattle.flow_channels.specs.Moves.{Move, IsPossible, IsTurn, move_cmp, went_by, after, Turns}
use Rattle.flow_channels.specs.Moves.Move.{Arrives, Goes}
use Rattle.flow_channels.specs.Sound.{IsSound, WaitsThere}
use Rattle.flow_channels.proofs.CountLemmas.{no_queue}
use Rattle.flow_channels.proofs.SoundLaws.{got, brought, starts_there, turn_sound}

later_not : (a b : ℕ) (o : Ordering) → a < b → is_le (ordering_then (nat_cmp b a) o) ≡ false
later_not a b o less = grind (arith, nat_tests)

then_rest : (a b : ℕ) (o : Ordering) → a ≡ b → is_le (ordering_then (nat_cmp a b) o) ≡ is_le o
then_rest a b o same = grind (arith, nat_tests)

-- neither is above the other, so the first numbers are one
both_le : (a b : ℕ) (o p : Ordering) → is_le (ordering_then (nat_cmp a b) o) ≡ true → is_le (ordering_then (nat_cmp b a) p) ≡ true → (a ≡ b) × (is_le o ≡ true) × (is_le p ≡ true)
both_le a b o p x y = elim (cases_order a b) [
  | inl same ↦ (same, sym (then_rest a b o same) ∙ x, sym (then_rest b a p (sym same)) ∙ y)
  | inr other ↦ elim other [
    | inl less ↦ absurd (let never = later_not a b p less in cc)
    | inr more ↦ absurd (let never = later_not b a o more in cc)
  ]
]

last_le : (a b : ℕ) → is_le (nat_cmp a b) ≡ true → is_le (nat_cmp b a) ≡ true → a ≡ b
last_le a b x y = grind (arith, nat_tests)

one_channel : (a b : Channel) → a.at ≡ b.at → a.port ≡ b.port → a ≡ b
one_channel a b e f = ap (λ (n : ℕ). spot n a.port) e ∙ ap (λ (n : ℕ). spot b.at n) f

one_move : (a b c d e f : ℕ) → a ≡ d → b ≡ e → c ≡ f → Goes a b c ≡ Goes d e f
one_move a b c d e f x y z = ap (λ (n : ℕ). Goes n b c) x ∙ ap (λ (n : ℕ). Goes d n c) y ∙ ap (λ (n : ℕ). Goes d e n) z

one_least : (a b : Move) → is_le (move_cmp a b) ≡ true → is_le (move_cmp b a) ≡ true → a ≡ b
one_least (Arrives a) (Arrives b) x y =
    let first = both_le a.at b.at (nat_cmp a.port b.port) (nat_cmp b.port a.port) x y in
    ap (λ (c : Channel). Arrives c) (one_channel a b first.0 (last_le a.port b.port first.1 first.2))
one_least (Arrives a) (Goes at place port) x y = absurd (cc)
one_least (Goes at place port) (Arrives b) x y = absurd (cc)
one_least (Goes a i p) (Goes b j q) x y =
    let first = both_le a b (ordering_then (nat_cmp i j) (nat_cmp p q)) (ordering_then (nat_cmp j i) (nat_cmp q p)) x y in
    let second = both_le i j (nat_cmp p q) (nat_cmp q p) first.1 first.2 in
    one_move a i p b j q first.0 second.0 (last_le p q second.1 second.2)

pub one_turn : (layout : LayoutOf) (old new other : FlowOf) (went way : Went) → IsTurn layout old went new → IsTurn layout old way other → (went ≡ way) × (new ≡ other)
one_turn layout old new other went way a b =
    let same = one_least a.move b.move (a.next.least b.move b.next.possible) (b.next.least a.move a.next.possible) in (
      same_Some went way (sym a.went_is ∙ ap (went_by old) same ∙ b.went_is),
      a.after_is ∙ ap (λ (m : Move). after layout m old) same ∙ sym b.after_is,
    )

-- where nothing is left, nothing can move
none_starts : (waiting : List (List WaitOf)) → all_starting waiting ≡ 0 → (at : ℕ) → starting (get_or waiting at []) ≡ 0
none_starts [] none at = refl
none_starts (ws ∷ waiting) none zero = omega arith
none_starts (ws ∷ waiting) none (suc at) = none_starts waiting (omega arith) at

starts_one : (ws : List WaitOf) (i : ℕ) (w : WaitOf) → i < length ws → get_or ws i w ≡ w → w.entry ≡ 0 → 1 ≤ starting ws
starts_one [] i w low is first = absurd (omega arith)
starts_one (x ∷ ws) zero w low is first =
    let entry : x.entry ≡ 0 = ap (λ (v : WaitOf). v.entry) is ∙ first in
    let test : (x.entry == 0) ≡ true = (grind (arith, nat_tests)) in
    rw test (omega arith)
starts_one (x ∷ ws) (suc i) w low is first = let rest = starts_one ws i w (omega arith) is first in omega arith

no_first : (queues : List (List PacketOf)) (k : ℕ) (p : PacketOf) (others : List PacketOf) → in_queues queues ≡ 0 → get_or queues k [] ≡ p ∷ others → ⊥
no_first queues k p others none some = absurd (let empty = no_queue queues none k in cc)

pub no_moves : (layout : LayoutOf) (known : List ℕ) (flow : FlowOf) (move : Move) → IsWired layout → IsSound layout known flow → left_of flow ≡ 0 → IsPossible layout flow move → ⊥
no_moves layout known flow (Arrives c) wired sound none (packet, entry, first, far) =
    let empty : queue_at flow c ≡ [] = no_queue flow.queues (omega arith) (place_of c) in
    let gone : first_of flow c ≡ None = rw empty refl in
    absurd (cc)
no_moves layout known flow (Goes at i port) wired sound none can =
    let w = can.wait in
    let g = got layout wired known (waiting_at flow at) i w can.there in
    let waits : WaitsThere layout flow at w = subst (λ (v : WaitOf). WaitsThere layout flow at v) g.1 (sound.waits at i w g.0) in
    elim (option_cases (layout.far (spot at w.entry))) [
      | inl start ↦ absurd (
          let one = starts_one (waiting_at flow at) i w g.0 g.1 (starts_there layout wired known flow at w start waits) in
          let gone = none_starts flow.waiting (omega arith) at in
          omega arith)
      | inr (c, by) ↦ (let first = brought layout wired known flow at w c by waits in no_first flow.queues (place_of c) w.packet first.0 (omega arith) first.1)
    ]

pub one_run : (layout : LayoutOf) (known : List ℕ) (went ways : List Went) (old new other : FlowOf) → IsWired layout → IsSound layout known old → Turns layout old went new → left_of new ≡ 0 → Turns layout old ways other → left_of other ≡ 0 → (went ≡ ways) × (new ≡ other)
one_run layout known [] [] old new other wired sound a end b end' = (refl, sym a ∙ b)
one_run layout known [] (way ∷ ways) old new other wired sound a end (next, turn, rest) end' =
    absurd (no_moves layout known old turn.move wired sound (ap left_of a ∙ end) turn.next.possible)
one_run layout known (one ∷ went) [] old new other wired sound (next, turn, rest) end b end' =
    absurd (no_moves layout known old turn.move wired sound (ap left_of b ∙ end') turn.next.possible)
one_run layout known (one ∷ went) (way ∷ ways) old new other wired sound (next, turn, rest) end (next', turn', rest') end' =
    let same = one_turn layout old next next' one way turn turn' in
    let more = one_run layout known went ways next new other wired (turn_sound layout wired known old next one sound turn) rest end (subst (λ (f : FlowOf). Turns layout f ways other) (sym same.1) rest') end' in (
      ap (λ (w : Went). w ∷ went) same.0 ∙ ap (λ (ws : List Went). way ∷ ws) more.0,
      more.1,
    )
