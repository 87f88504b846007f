use Rattle.std.proofs.Common.{◌≡◌, ◌≢◌, ◌∙◌, sym, ap, subst, ℕ, ◌+◌, ◌<◌, List, Option, Some, None, arith, length, set, inl, inr}
use Rattle.std.specs.Prelude.{slice_index}
use Rattle.std.proofs.lemmas.Bool.{cases_eq}
use Rattle.std.proofs.lemmas.Option.{same_Some}
use Rattle.std.proofs.lemmas.List.{get_or-set_same, get_or-set_other, length-set}
use Rattle.an_base.specs.Numbers.{AreNumbers}
use Rattle.table_build.specs.Routing.{place_at, ArePlaces}

-- at first no number has a place
pub no_places : (numbers : List ℕ) (places : List (Option ℕ)) → length places ≡ 127 → ((n : ℕ) → place_at places n ≡ None) → ArePlaces numbers 0 places
no_places numbers places count none = record {
  count = count;
  each = λ n y e. absurd (let at = none n in cc);
  whole = λ y low. absurd (omega arith);
}

-- one number more
pub places_more : (numbers : List ℕ) (i n : ℕ) (places : List (Option ℕ)) → AreNumbers numbers → ArePlaces numbers i places → i < length numbers → n ≡ slice_index numbers i → ArePlaces numbers (i + 1) (set places n (Some i))
places_more numbers i n places are so_far low is =
    let within = are.within i 0 low in
    let fits : n < length places = omega (arith, so_far.count, within.1) in
    record {
      count = length-set places n (Some i) ∙ so_far.count;
      each = λ m y e. elim (cases_eq m n) [
        | inl same ↦ (
            let got : place_at (set places n (Some i)) n ≡ Some i = get_or-set_same places n (Some i) None fits in
            let y_is : i ≡ y = same_Some i y (sym got ∙ subst (λ (k : ℕ). place_at (set places n (Some i)) k ≡ Some y) same e) in
            (omega arith, sym (ap (slice_index numbers) y_is) ∙ sym is ∙ sym same))
        | inr other ↦ (let old = so_far.each m y (sym (get_or-set_other places n m (Some i) None other) ∙ e) in (let h = old.0 in omega arith, old.1))
      ];
      whole = λ y below. elim (cases_eq y i) [
        | inl same ↦ (
            let at : slice_index numbers y ≡ n = ap (slice_index numbers) same ∙ sym is in
            rw (at, same) (get_or-set_same places n (Some i) None fits))
        | inr other ↦ (
            let differ : slice_index numbers y ≢ n = (λ e. are.apart y i 0 (omega arith) low (e ∙ is)) in
            get_or-set_other places n (slice_index numbers y) (Some i) None differ ∙ so_far.whole y (omega arith))
      ];
    }
