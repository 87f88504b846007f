use Rattle.std.proofs.Common.{◌≡◌, sym, subst, refl, ℕ, ◌+◌, ◌<◌, ◌≤◌, List, Option, Some, None, Bool, true, false, arith, inl, inr, ◌⊎◌}
use Rattle.std.specs.Prelude.{Contains, MatchBool, is_some, not}
use Rattle.std.specs.Ordering.{nat_cmp, ordering_then, is_le}
use Rattle.std.proofs.lemmas.Bool.{cases_eq, cases_lt}
use Rattle.std.proofs.lemmas.Bool.Decides.{nat_tests}
use Rattle.an_base.specs.Rows.{RowOf}
use Rattle.an_base.specs.Numbers.{AreNumbers}
use Rattle.dep_check.specs.declared.channel.Channel.{Channel}
use Rattle.dep_check.specs.declared.steps.Steps.{Steps}
use Rattle.dep_check.specs.declared.gap.Pair.{Pair}
use Rattle.dep_check.specs.Packets.{MeetsGap, AllAreJoined, IsLeastGap}
use Rattle.dep_check.specs.Tables.{IsSpot, wire_at, WiresAreWithin}
use Rattle.dep_check.specs.Search.{AreSteps}
use Rattle.dep_check.specs.Walks.{IsClear, IsWalked}
use Rattle.dep_check.specs.Pairs.{IsStuckFrom, StaysClear, FirstStuck, IsParted, FirstOf, IsLeastParted, IsLeastPair, IsLeastEnd}
use Rattle.dep_check.proofs.BridgeLemmas.{stuck_meets, meets_stuck, number_low}
use Rattle.dep_check.proofs.WalkLemmas.{clear_walked, clear_never}

-- what a test of an option says
pub not_none : {A : Type 0} (o p : Option A) (b : Bool) (x : A) → o ≡ p → is_some o ≡ not b → b ≡ true → p ≡ Some x → ⊥
not_none o p b x e s t h = absurd (let f : is_some o ≡ true = rw (e, h) refl in let n : not b ≡ false = rw t refl in cc)

pub yes_none : {A : Type 0} (o p : Option A) (b : Bool) → o ≡ p → is_some o ≡ not b → b ≡ false → p ≡ None → ⊥
yes_none o p b e s f h = absurd (let t : is_some o ≡ false = rw (e, h) refl in let n : not b ≡ true = rw f refl in cc)

pub none_yes : {A : Type 0} (o p : Option A) (b : Bool) → o ≡ p → is_some o ≡ not b → b ≡ true → p ≡ None
none_yes None p b e s t = sym e
none_yes (Some x) p b e s t = absurd (let n : not b ≡ false = rw t refl in cc)

-- the switch at which packets start
abbrev pub start_of : ℕ → Channel
start_of from = record { at = from; port = 0 }

pub start_spot : (from : ℕ) → from < 127 → IsSpot (start_of from)
start_spot from low = record { at = low; port = omega arith }

-- the first switch from which packets get stuck is the first that is not joined
module _ (wires : List (Option Channel)) (rows : List RowOf) (numbers : List ℕ) (to : ℕ) (steps : Steps) (within : WiresAreWithin wires) (are : AreSteps wires rows (Some to) steps) (named : AreNumbers numbers) (to_in : Contains numbers to) where
  parted_stuck : (f : ℕ) → IsParted (wire_at wires) numbers rows f to → IsStuckFrom numbers steps to f × (f < 127)
  parted_stuck f parted =
      let low = number_low numbers f named parted.from_in in
      let stuck = meets_stuck wires rows to steps within are f parted.end low parted.meets in
      (record { from_in = parted.from_in; apart = parted.apart; end = parted.end; gets = stuck.0 }, low)

  stuck_parted : (f : ℕ) → f < 127 → IsStuckFrom numbers steps to f → IsParted (wire_at wires) numbers rows f to
  stuck_parted f low stuck = record { from_in = stuck.from_in; to_in = to_in; apart = stuck.apart; end = stuck.end; meets = (stuck_meets wires rows to steps within are f stuck.end low stuck.gets).0 }

  pub first_parted : (found : Option ℕ) → FirstStuck numbers steps to 127 found → FirstOf (wire_at wires) numbers rows to found
  first_parted None first = λ f parted. let s = parted_stuck f parted in first f s.1 s.0
  first_parted (Some from) first = (stuck_parted from first.0 first.1, λ f parted. let s = parted_stuck f parted in first.2 f s.1 s.0)

-- no packets get stuck from what is clear
pub clear_from : (numbers : List ℕ) (steps : Steps) (to from : ℕ) (had seen : List Bool) → from < 127 → IsClear steps had → IsWalked steps (start_of from) had seen false → StaysClear numbers steps to from seen
clear_from numbers steps to from had seen low clear walked =
    let now = clear_walked steps (start_of from) had seen clear walked in
    record {
      count = walked.count;
      clear = now;
      none = λ stuck. clear_never steps seen now stuck.gets.0 (start_of from) stuck.end (start_spot from low) walked.begun stuck.gets.1 stuck.gets.2;
    }

-- a walk that tells so finds where they do
pub stuck_found : (numbers : List ℕ) (steps : Steps) (to from : ℕ) (had seen : List Bool) → Contains numbers from → (from ≡ to → ⊥) → IsWalked steps (start_of from) had seen true → IsStuckFrom numbers steps to from
stuck_found numbers steps to from had seen from_in apart walked =
    let end = walked.found refl in
    record { from_in = from_in; apart = apart; end = end.0; gets = (end.2.0, end.2.1, end.3) }

-- the walk from the switch says both
pub walk_tells : (numbers : List ℕ) (steps : Steps) (to from : ℕ) (had seen : List Bool) (stuck : Bool) → Contains numbers from → (from ≡ to → ⊥) → from < 127 → IsClear steps had → IsWalked steps (start_of from) had seen stuck → MatchBool stuck (IsStuckFrom numbers steps to from) (StaysClear numbers steps to from seen)
walk_tells numbers steps to from had seen true from_in apart low clear walked = stuck_found numbers steps to from had seen from_in apart walked
walk_tells numbers steps to from had seen false from_in apart low clear walked = clear_from numbers steps to from had seen low clear walked

-- a target that is no number parts nothing
pub no_target : (far : Channel → Option Channel) (numbers : List ℕ) (rows : List RowOf) (to : ℕ) → (Contains numbers to → ⊥) → FirstOf far numbers rows to None
no_target far numbers rows to none = λ f parted. none parted.to_in

-- the least pair, with one target more
module _ (far : Channel → Option Channel) (numbers : List ℕ) (rows : List RowOf) (to : ℕ) where
  pub pair_same : (best : Option Pair) → IsLeastPair far numbers rows to best → FirstOf far numbers rows to None → IsLeastPair far numbers rows (to + 1) best
  pair_same None so_far none = λ f t low parted. elim (cases_eq t to) [
    | inl last ↦ none f (subst (λ (n : ℕ). IsParted far numbers rows f n) last parted)
    | inr before ↦ so_far f t (omega arith) parted
  ]
  pair_same (Some pair) so_far none = record {
    parted = so_far.parted;
    below = (let low = so_far.below in omega arith);
    least = λ f t low parted. elim (cases_eq t to) [
      | inl last ↦ absurd (none f (subst (λ (n : ℕ). IsParted far numbers rows f n) last parted))
      | inr before ↦ so_far.least f t (omega arith) parted
    ];
  }

  pub pair_kept : (pair : Pair) (from : ℕ) → pair.from ≤ from → IsLeastParted far numbers rows to pair → FirstOf far numbers rows to (Some from) → IsLeastParted far numbers rows (to + 1) pair
  pair_kept pair from le so_far first = record {
    parted = so_far.parted;
    below = (let low = so_far.below in omega arith);
    least = λ f t low parted. elim (cases_eq t to) [
      | inl last ↦ (let h = first.1 f (subst (λ (n : ℕ). IsParted far numbers rows f n) last parted) in let b = so_far.below in (omega arith, λ same. omega arith))
      | inr before ↦ so_far.least f t (omega arith) parted
    ];
  }

  pub pair_first : (from : ℕ) → IsLeastPair far numbers rows to None → FirstOf far numbers rows to (Some from) → IsLeastParted far numbers rows (to + 1) (record { from = from; to = to })
  pair_first from so_far first = record {
    parted = first.0;
    below = omega arith;
    least = λ f t low parted. elim (cases_eq t to) [
      | inl last ↦ (let h = first.1 f (subst (λ (n : ℕ). IsParted far numbers rows f n) last parted) in (h, λ same. omega arith))
      | inr before ↦ absurd (so_far f t (omega arith) parted)
    ];
  }

  pub pair_less : (pair : Pair) (from : ℕ) → from < pair.from → IsLeastParted far numbers rows to pair → FirstOf far numbers rows to (Some from) → IsLeastParted far numbers rows (to + 1) (record { from = from; to = to })
  pair_less pair from less so_far first = record {
    parted = first.0;
    below = omega arith;
    least = λ f t low parted. elim (cases_eq t to) [
      | inl last ↦ (let h = first.1 f (subst (λ (n : ℕ). IsParted far numbers rows f n) last parted) in (h, λ same. omega arith))
      | inr before ↦ (let h = (so_far.least f t (omega arith) parted).0 in (omega arith, λ same. absurd (omega arith)))
    ];
  }

-- no least pair: all are joined
pub all_joined : (far : Channel → Option Channel) (numbers : List ℕ) (rows : List RowOf) → AreNumbers numbers → IsLeastPair far numbers rows 127 None → AllAreJoined far numbers rows
all_joined far numbers rows named none from to at entry meets =
    none from to (number_low numbers to named meets.to_in) (record { from_in = meets.from_in; to_in = meets.to_in; apart = meets.apart; end = record { at = at; port = entry }; meets = meets.meets })

-- the order of four numbers
four_le : (a b c d x y z w : ℕ) → (a < x) ⊎ ((a ≡ x) × ((b < y) ⊎ ((b ≡ y) × (is_le (ordering_then (nat_cmp c z) (nat_cmp d w)) ≡ true)))) → is_le (ordering_then (nat_cmp a x) (ordering_then (nat_cmp b y) (ordering_then (nat_cmp c z) (nat_cmp d w)))) ≡ true
four_le a b c d x y z w h = grind (arith, nat_tests)

-- the least end of the least pair
module _ (wires : List (Option Channel)) (rows : List RowOf) (numbers : List ℕ) (pair : Pair) (steps : Steps) (within : WiresAreWithin wires) (are : AreSteps wires rows (Some pair.to) steps) (named : AreNumbers numbers) (parted : IsLeastParted (wire_at wires) numbers rows 127 pair) where
  from_low : pair.from < 127
  from_low = number_low numbers pair.from named parted.parted.from_in

  -- there is one
  pub some_end : (found : Option Channel) → IsLeastEnd steps (start_of pair.from) found → (end : Channel) × (found ≡ Some end)
  some_end None none = absurd (let s = meets_stuck wires rows pair.to steps within are pair.from parted.parted.end from_low parted.parted.meets in none parted.parted.end s.1 s.0)
  some_end (Some end) least = (end, refl)

  pub least_gap : (end : Channel) → IsLeastEnd steps (start_of pair.from) (Some end) → IsLeastGap (wire_at wires) numbers rows pair.from pair.to end.at end.port
  least_gap end least = record {
    meets = record { from_in = parted.parted.from_in; to_in = parted.parted.to_in; apart = parted.parted.apart; meets = (stuck_meets wires rows pair.to steps within are pair.from end from_low least.1).0 };
    least = λ f t a e meets.
        let t_low = number_low numbers t named meets.to_in in
        let pairs = parted.least f t t_low (record { from_in = meets.from_in; to_in = meets.to_in; apart = meets.apart; end = record { at = a; port = e }; meets = meets.meets }) in
        let le = pairs.0 in
        four_le pair.from pair.to end.at end.port f t a e (elim (cases_lt pair.from f) [
          | inl less ↦ inl less
          | inr more ↦ (
              let same : pair.from ≡ f = omega arith in
              let to_le = pairs.1 same in
              inr (
                same,
                elim (cases_lt pair.to t) [
                  | inl less ↦ inl less
                  | inr more_to ↦ (
                      let same_to : pair.to ≡ t = omega arith in
                      let m : MeetsGap (wire_at wires) rows pair.from pair.to (record { at = a; port = e }) = subst (λ (n : ℕ). MeetsGap (wire_at wires) rows pair.from n (record { at = a; port = e })) (sym same_to) (subst (λ (n : ℕ). MeetsGap (wire_at wires) rows n t (record { at = a; port = e })) (sym same) meets.meets) in
                      let s = meets_stuck wires rows pair.to steps within are pair.from (record { at = a; port = e }) from_low m in
                      inr (same_to, least.2 (record { at = a; port = e }) s.1 s.0))
                ],
              ))
        ]);
  }
