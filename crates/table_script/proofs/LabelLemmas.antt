use Rattle.std.proofs.Common.{◌≡◌, ◌∙◌, sym, ap, refl, subst, Result, Ok, Err, IfOk, ℕ, ◌+◌, ◌-◌, ◌<◌, ◌≤◌, List, [], ◌∷◌, arith, length, get_or, take, drop, map, Bool, cond, eqb, ◌&&◌, ◌||◌, All}
use Rattle.std.specs.List.{range_with_len, list_any}
use Rattle.std.proofs.lemmas.Bool.Decides.{nat_tests}
use Rattle.std.proofs.lemmas.List.{length-map, get_or-map, nil_from_length, take_rest, get_or_default}
use Rattle.std.proofs.lemmas.List.Elements.{All-head, All-tail}
use Rattle.std.proofs.lemmas.List.FromFn.{length-range_with_len, get_or-range_with_len}
use Rattle.net_graph.specs.declared.wiring.LinkAt.{LinkAt}
use Rattle.net_graph.specs.Wires.{Wires, IsLink}
use Rattle.table_script.specs.Tables.{are_joined, AreLabels}
use Rattle.table_script.specs.TableDrafts.{TableDraftOf}
use Rattle.table_script.specs.TableRules.{is_number_taken, is_labelled, IsNumberAt}

-- without links each switch has a label of its own
pub labels_none : (count : ℕ) → AreLabels count [] (range_with_len 0 count)
unfolding are_joined
labels_none count = record {
  count_is = length-range_with_len 0 count;
  alike = λ x y low high. rw (get_or-range_with_len 0 count x 0 low, get_or-range_with_len 0 count y 0 high) (same x y);
}
  where
    same : (x y : ℕ) → eqb x y ≡ eqb (0 + x) (0 + y)
    same x y = let e : 0 + x ≡ x = omega arith in let f : 0 + y ≡ y = omega arith in rw (e, f) refl

-- two labels after one was put for another
pub relabelled : (x y a b : ℕ) → (eqb x y || ((eqb x a && eqb b y) || (eqb x b && eqb a y))) ≡ eqb (cond (eqb x b) a x) (cond (eqb y b) a y)
relabelled x y a b = grind (arith, nat_tests)

-- with a link the labels of its ends become alike
pub labels_more : (count : ℕ) (l : LinkAt) (ls : List LinkAt) (labels : List ℕ) (from to : ℕ) → IsLink count l → AreLabels count ls labels → from ≡ get_or labels l.b 0 → to ≡ get_or labels l.a 0 → AreLabels count (l ∷ ls) (map (λ c. cond (eqb c from) to c) labels)
unfolding are_joined
labels_more count l ls labels from to is are b_is a_is = record {
  count_is = length-map labels (λ c. cond (eqb c from) to c) ∙ are.count_is;
  alike = λ x y low high.
      rw (
        are.alike x y low high,
        are.alike x l.a low is.a_below,
        are.alike l.b y is.b_below high,
        are.alike x l.b low is.b_below,
        are.alike l.a y is.a_below high,
        get_or-map (λ c. cond (eqb c from) to c) labels x 0 0 (omega (arith, are.count_is)),
        get_or-map (λ c. cond (eqb c from) to c) labels y 0 0 (omega (arith, are.count_is)),
        b_is,
        a_is,
      )
      (relabelled (get_or labels x 0) (get_or labels y 0) (get_or labels l.a 0) (get_or labels l.b 0));
}

-- the labels that a function answers
pub labels_start : {V E : Type 0} (items : V → List ℕ) (r : Result V E) (count : ℕ) (links : List LinkAt) → length links < 1 → IfOk r (λ v. items v ≡ range_with_len 0 count) → IfOk r (λ v. AreLabels count links (items v))
labels_start items (Ok v) count links none is = rw (is, nil_from_length links (omega arith)) (labels_none count)
labels_start items (Err e) count links none is = tt

-- a list that has a first element
list_first : {X : Type 0} (xs : List X) (d : X) → 1 ≤ length xs → xs ≡ get_or xs 0 d ∷ take (length xs - 1) (drop 1 xs)
list_first [] d some = absurd (omega arith)
list_first {X} (x ∷ xs) d some = ap (λ (ys : List X). x ∷ ys) (sym (take_rest (x ∷ xs) 1))

pub labels_step : {V E : Type 0} (items : V → List ℕ) (r : Result V E) (count : ℕ) (links : List LinkAt) (d : LinkAt) (labels passed : List ℕ) (at_b at_a from to : ℕ) → 1 ≤ length links → All (IsLink count) links → AreLabels count (take (length links - 1) (drop 1 links)) labels → at_b ≡ (get_or links 0 d).b → at_a ≡ (get_or links 0 d).a → from ≡ get_or labels at_b from → to ≡ get_or labels at_a to → passed ≡ labels → IfOk r (λ v. items v ≡ map (λ c. cond (eqb c from) to c) passed) → IfOk r (λ v. AreLabels count links (items v))
labels_step items (Err e) count links d labels passed at_b at_a from to some all are b_is a_is from_is to_is passed_is is = tt
labels_step items (Ok v) count links d labels passed at_b at_a from to some all are b_is a_is from_is to_is passed_is is =
    let l = get_or links 0 d in
    let link : IsLink count l = all 0 d (omega arith) in
    let b_low : at_b < length labels = omega (arith, link.b_below, are.count_is) in
    let a_low : at_a < length labels = omega (arith, link.a_below, are.count_is) in
    rw is (rw passed_is (subst (λ (ls : List LinkAt). AreLabels count ls (map (λ c. cond (eqb c from) to c) labels)) (sym (list_first links d some))
    (labels_more count l (take (length links - 1) (drop 1 links)) labels from to link are
    (from_is ∙ get_or_default labels at_b from 0 b_low ∙ ap (λ (i : ℕ). get_or labels i 0) b_is)
    (to_is ∙ get_or_default labels at_a to 0 a_low ∙ ap (λ (i : ℕ). get_or labels i 0) a_is))))

-- a link between two switches with one label changes none
same_label : (labels : List ℕ) (from to : ℕ) → from ≡ to → map (λ c. cond (eqb c from) to c) labels ≡ labels
same_label [] from to same = refl
same_label (c ∷ labels) from to same = rw (same_label labels from to same) (ap (λ (x : ℕ). x ∷ labels) (kept c from to same))
  where
    kept : (c from to : ℕ) → from ≡ to → cond (eqb c from) to c ≡ c
    kept c from to same = grind (arith, nat_tests)

pub labels_kept : (count : ℕ) (links : List LinkAt) (d : LinkAt) (labels : List ℕ) (at_b at_a from to : ℕ) → 1 ≤ length links → All (IsLink count) links → AreLabels count (take (length links - 1) (drop 1 links)) labels → at_b ≡ (get_or links 0 d).b → at_a ≡ (get_or links 0 d).a → from ≡ get_or labels at_b from → to ≡ get_or labels at_a to → from ≡ to → AreLabels count links labels
labels_kept count links d labels at_b at_a from to some all are b_is a_is from_is to_is same =
    subst (λ (ls : List ℕ). AreLabels count links ls) (same_label labels from to same)
    (labels_step {V = List ℕ} {E = ℕ} (λ (v : List ℕ). v) (Ok (map (λ c. cond (eqb c from) to c) labels)) count links d labels labels at_b at_a from to some all are b_is a_is from_is to_is refl refl)

-- tests that agree on each element
pub list_any_same : {X : Type 0} (p q : X → Bool) (xs : List X) → All (λ x. p x ≡ q x) xs → list_any p xs ≡ list_any q xs
list_any_same p q [] all = refl
list_any_same p q (x ∷ xs) all = rw (All-head (λ y. p y ≡ q y) x xs all, list_any_same p q xs (All-tail (λ y. p y ≡ q y) x xs all)) refl

-- a number is taken where a switch with the label has it
pub taken_is : (w : Wires) (d : TableDraftOf) (labels : List ℕ) (s n : ℕ) → AreLabels (length w.switches) w.links labels → All (IsNumberAt (length w.switches)) d.numbers → s < length w.switches → is_labelled labels d s n ≡ is_number_taken w d s n
unfolding is_labelled is_number_taken
taken_is w d labels s n are numbers low =
    list_any_same (λ x. eqb x.number n && eqb (get_or labels x.s 0) (get_or labels s 0)) (λ x. eqb x.number n && are_joined w.links x.s s) d.numbers
    (λ k e within. ap (λ (b : Bool). eqb (get_or d.numbers k e).number n && b) (sym (are.alike (get_or d.numbers k e).s s (numbers k e within).switch low)))
