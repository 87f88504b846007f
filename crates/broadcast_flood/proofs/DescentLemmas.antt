-- No place comes twice from the highest to the lowest.
use Rattle.std.proofs.Common.{◌≡◌, ◌≢◌, ◌∙◌, sym, ap, subst, ℕ, zero, suc, ◌<◌, ◌≤◌, List, true, arith, length, get_or, AllPairs, inl, inr, ◌==◌, if◌then◌else◌}
use Rattle.std.specs.List.{position_or_len}
use Rattle.std.proofs.lemmas.Bool.{cases_Bool, cases_lt, eqb-true, eq-eqb}
use Rattle.std.proofs.lemmas.Bool.Decides.{nat_tests}
use Rattle.std.proofs.lemmas.List.{get_or_default}
use Rattle.std.proofs.lemmas.List.Sums.{fails_before_first, passes_at_first}
use Rattle.an_base.specs.Values.{EntryOf}
use Rattle.common_values.proofs.PigeonLemmas.{pigeons}
use Rattle.topo_graph.specs.Topology.{IsGraph}
use Rattle.updown.specs.declared.order.Height.{Height}
use Rattle.updown.specs.Order.{IsDescent, place_at}
use Rattle.updown.specs.Routes.{is_up_end}
use Rattle.updown.proofs.OrderLemmas.{position_is, place_low}
use Rattle.updown.proofs.RouteLemmas.{one_higher}

-- the ground's height
abbrev nowhere : Height
nowhere = record { level = 0; place = 0 }

-- the first position of a place
abbrev first_at : List Height → ℕ → ℕ
first_at order x = position_or_len (λ h. h.place == x) order

-- it is not behind any other
first_least : (order : List Height) (k x : ℕ) → place_at order k ≡ x → first_at order x ≤ k
first_least order k x at = elim (cases_lt k (first_at order x)) [
  | inl before ↦ absurd (
      let fails = fails_before_first (λ h. h.place == x) order k nowhere before in
      let passes : ((get_or order k nowhere).place == x) ≡ true = eq-eqb (get_or order k nowhere).place x at in
      cc)
  | inr behind ↦ behind
]

module _ (es : List EntryOf) (order : List Height) (descent : IsDescent es order) where
  -- each place has a first position, and stands there
  first_within : (x : ℕ) → x < length es → first_at order x < length order
  first_within x low =
      let k = position_is es order x descent low in
      let least = first_least order k.0 x k.2 in
      let within = k.1 in
      omega arith

  first_is : (x : ℕ) → x < length es → place_at order (first_at order x) ≡ x
  first_is x low = eqb-true (place_at order (first_at order x)) x (passes_at_first (λ h. h.place == x) order nowhere (first_within x low))

  -- with one place at two positions the later one is nobody's first
  missed : (i j x : ℕ) → i < j → place_at order i ≡ place_at order j → x < length es → first_at order x ≢ j
  missed i j x less same low is =
      let at : place_at order j ≡ x = subst (λ (k : ℕ). place_at order k ≡ x) is (first_is x low) in
      let least = first_least order i x (same ∙ at) in
      absurd (omega arith)

  -- the first position of a place, with that one in place of the last
  abbrev hole : ℕ → ℕ → ℕ → ℕ
  hole j n x = if first_at order x == n then j else first_at order x

  hole_low : (j n f : ℕ) → j < suc n → f < suc n → f ≢ j → (if f == n then j else f) < n
  hole_low j n f low below other = grind (arith, nat_tests)

  hole_apart : (j n f g : ℕ) → f ≢ j → g ≢ j → (if f == n then j else f) ≡ (if g == n then j else g) → f ≡ g
  hole_apart j n f g other other' same = grind (arith, nat_tests)

  pub places_apart : (i j : ℕ) → i < j → j < length order → place_at order i ≡ place_at order j → ⊥
  places_apart i j less low same = crowded (length order) refl_of
    where
      refl_of : length order ≡ length order
      refl_of = λ _. length order

      crowded : (n : ℕ) → length order ≡ n → ⊥
      crowded zero is = absurd (omega arith)
      crowded (suc n) is =
          let count = descent.heights.count in
          let both = pigeons n (hole j n) (λ x below. hole_low j n (first_at order x) (omega arith) (let within = first_within x (omega arith) in omega arith) (missed i j x less same (omega arith))) in
          let x = both.0 in
          let y = both.1 in
          let x_low : x < length es = (let lt = both.2 in let le = both.3 in omega arith) in
          let y_low : y < length es = (let lt = both.2 in let le = both.3 in omega arith) in
          let one = hole_apart j n (first_at order x) (first_at order y) (missed i j x less same x_low) (missed i j y less same y_low) both.4 in
          let same_place : x ≡ y = sym (first_is x x_low) ∙ ap (place_at order) one ∙ first_is y y_low in
          absurd (let lt = both.2 in omega arith)

  -- so each is higher than each later one
  pub falls : IsGraph es → AllPairs (λ a b. is_up_end es a.place b.place ≡ true) order
  falls graph i j d less low =
      let a : (get_or order i d).place ≡ place_at order i = ap (λ (h : Height). h.place) (get_or_default order i d nowhere (omega arith)) in
      let b : (get_or order j d).place ≡ place_at order j = ap (λ (h : Height). h.place) (get_or_default order j d nowhere low) in
      rw (a, b) (elim (cases_Bool (is_up_end es (place_at order i) (place_at order j))) [
        | inl up ↦ up
        | inr not_up ↦ absurd (places_apart i j less low (one_higher es (place_at order i) (place_at order j) graph
            (place_low es order i descent (omega arith)) (place_low es order j descent low) not_up (descent.falling i j (omega arith) low)))
      ])
