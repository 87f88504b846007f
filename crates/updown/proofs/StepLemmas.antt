use Rattle.std.proofs.Common.{◌≡◌, ◌∙◌, sym, ap, subst, refl, ℕ, ◌+◌, ◌<◌, ◌≤◌, List, [], Option, Some, None, true, false, arith, length, set, inl, inr}
use Rattle.std.proofs.lemmas.Bool.{cases_eq, cases_Bool}
use Rattle.std.proofs.lemmas.List.{get_or-set_same, get_or-set_other, length-set}
use Rattle.an_base.specs.Values.{EntryOf}
use Rattle.an_base.specs.declared.limits.TheConstants.{MOST_LEVEL}
use Rattle.topo_graph.specs.Topology.{far_of, IsGraph}
use Rattle.topo_graph.proofs.FarLemmas.{one_far}
use Rattle.updown.specs.declared.order.Height.{Height}
use Rattle.updown.specs.Order.{place_at, IsDescent}
use Rattle.updown.specs.Routes.{is_up_end, HasDown, HasLegal, IsLeast}
use Rattle.updown.specs.Lengths.{length_at, left_of, Onward, AreAtMost, AreDownSoFar, AreUpSoFar, AreLengths}
use Rattle.updown.proofs.RouteLemmas.{NextDown, NextLegal, down_zero, down_here, down_suc, down_on, legal_zero, legal_here, legal_suc, legal_on}
use Rattle.updown.proofs.LeastLemmas.{least_has, least_iff, least_onward}
use Rattle.updown.proofs.OrderLemmas.{position_is, place_low, later, earlier, down_bound, legal_bound}

-- what is left behind a port, of routes downward
pub behind_down : (es : List EntryOf) (down : List (Option ℕ)) (x to p : ℕ) → ((z q : ℕ) → far_of es x p ≡ Some (z, q) → is_up_end es z x ≡ false → IsLeast (HasDown es z to) (length_at down z)) → IsLeast (NextDown es x to p) (left_of es [] down x p)
behind_down es down x to p known = go (far_of es x p) refl
  where
    go : (o : Option (ℕ × ℕ)) → far_of es x p ≡ o → IsLeast (NextDown es x to p) (left_of es [] down x p)
    go None e = rw e (λ n next. absurd (let f = next.2 in cc))
    go (Some (z, q)) e = elim (cases_Bool (is_up_end es z x)) [
      | inl up ↦ rw (e, up) (λ n next. absurd (
          let same = one_far es x p next.0 next.1 z q next.2 e in
          let not_up : is_up_end es z x ≡ false = subst (λ (w : ℕ). is_up_end es w x ≡ false) same next.3 in
          cc))
      | inr not_up ↦ rw (e, not_up) (least_iff (HasDown es z to) (NextDown es x to p) (length_at down z)
          (λ n has. (z, q, e, not_up, has))
          (λ n next. subst (λ (w : ℕ). HasDown es w to n) (one_far es x p next.0 next.1 z q next.2 e) next.4)
          (known z q e not_up))
    ]

-- and of legal routes
pub behind_legal : (es : List EntryOf) (up down : List (Option ℕ)) (x to p : ℕ) → ((z q : ℕ) → far_of es x p ≡ Some (z, q) → is_up_end es z x ≡ true → IsLeast (HasLegal es z to) (length_at up z)) → ((z q : ℕ) → far_of es x p ≡ Some (z, q) → is_up_end es z x ≡ false → IsLeast (HasDown es z to) (length_at down z)) → IsLeast (NextLegal es x to p) (left_of es up down x p)
behind_legal es up down x to p known_up known_down = go (far_of es x p) refl
  where
    go : (o : Option (ℕ × ℕ)) → far_of es x p ≡ o → IsLeast (NextLegal es x to p) (left_of es up down x p)
    go None e = rw e (λ n next. absurd (let f = next.2 in cc))
    go (Some (z, q)) e = elim (cases_Bool (is_up_end es z x)) [
      | inl is_up ↦ rw (e, is_up) (least_iff (HasLegal es z to) (NextLegal es x to p) (length_at up z)
          (λ n has. (z, q, e, inl (is_up, has)))
          (λ n next. let same = one_far es x p next.0 next.1 z q next.2 e in elim next.3 [
            | inl legal ↦ subst (λ (w : ℕ). HasLegal es w to n) same legal.1
            | inr lead ↦ absurd (let not_up : is_up_end es z x ≡ false = subst (λ (w : ℕ). is_up_end es w x ≡ false) same lead.0 in cc)
          ])
          (known_up z q e is_up))
      | inr not_up ↦ rw (e, not_up) (least_iff (HasDown es z to) (NextLegal es x to p) (length_at down z)
          (λ n has. (z, q, e, inr (not_up, has)))
          (λ n next. let same = one_far es x p next.0 next.1 z q next.2 e in elim next.3 [
            | inl legal ↦ absurd (let is_up : is_up_end es z x ≡ true = subst (λ (w : ℕ). is_up_end es w x ≡ true) same legal.0 in cc)
            | inr lead ↦ subst (λ (w : ℕ). HasDown es w to n) same lead.1
          ])
          (known_down z q e not_up))
    ]

-- one more length that is within the bound
most_set : (lengths : List (Option ℕ)) (x : ℕ) (o : Option ℕ) (most : ℕ) → x < length lengths → ((n : ℕ) → o ≡ Some n → n ≤ most) → AreAtMost lengths most → AreAtMost (set lengths x o) most
most_set lengths x o most low new old y n e = elim (cases_eq y x) [
  | inl same ↦ new n (sym (get_or-set_same lengths x o None low) ∙ subst (λ (z : ℕ). length_at (set lengths x o) z ≡ Some n) same e)
  | inr other ↦ old y n (sym (get_or-set_other lengths x y o None other) ∙ e)
]

-- the next place of the order, upwards
pub down_step : (es : List EntryOf) (to : ℕ) (order : List Height) (down : List (Option ℕ)) (i x : ℕ) (o : Option ℕ) → IsGraph es → IsDescent es order → i < length order → x ≡ place_at order i → AreDownSoFar es to order down (i + 1) → IsLeast (Onward es [] down to x) o → AreDownSoFar es to order (set down x o) i
down_step es to order down i x o graph descent low at so_far least =
    let first : IsLeast (HasDown es x to) o = least_onward es [] down to x (HasDown es x to) (NextDown es x to) o (down_zero es x to) (down_here es x to) (down_suc es x to) (down_on es x to)
    (λ p. behind_down es down x to p (λ z q e not_up.
    let j = later es order i p z q graph descent low (rw (← at) e) (rw (← at) not_up) in
    subst (λ (w : ℕ). IsLeast (HasDown es w to) (length_at down w)) j.3 (so_far.known j.0 (let l = j.1 in omega arith) j.2)))
    least in
    let x_low : x < length down = (let l = place_low es order i descent low in omega (arith, so_far.count, at)) in
    record {
      count = length-set down x o ∙ so_far.count;
      known = λ k from below. elim (cases_eq (place_at order k) x) [
        | inl same ↦ rw (same, get_or-set_same down x o None x_low) first
        | inr other ↦ rw get_or-set_other (so_far.known k (elim (cases_eq k i) [
          | inl is ↦ absurd (other (ap (place_at order) is ∙ sym at))
          | inr is_not ↦ omega arith
        ]) below)
      ];
      most = most_set down x o MOST_LEVEL x_low (λ n is.
          let b = down_bound es order to n i x graph descent low (sym at) (least_has (HasDown es x to) o n first is) in
          omega (arith, descent.heights.count, graph.most)) so_far.most;
    }

-- the next place of the order, downwards
pub up_step : (es : List EntryOf) (to : ℕ) (order : List Height) (up down : List (Option ℕ)) (i x : ℕ) (o : Option ℕ) → IsGraph es → IsDescent es order → i < length order → x ≡ place_at order i → AreDownSoFar es to order down 0 → AreUpSoFar es to order up i → IsLeast (Onward es up down to x) o → AreUpSoFar es to order (set up x o) (i + 1)
up_step es to order up down i x o graph descent low at all so_far least =
    let first : IsLeast (HasLegal es x to) o = least_onward es up down to x (HasLegal es x to) (NextLegal es x to) o (legal_zero es x to) (legal_here es x to) (legal_suc es x to) (legal_on es x to)
    (λ p. behind_legal es up down x to p
    (λ z q e is_up.
    let j = earlier es order i p z q graph descent low (rw (← at) e) (rw (← at) is_up) in
    subst (λ (w : ℕ). IsLeast (HasLegal es w to) (length_at up w)) j.2 (so_far.known j.0 j.1))
    (λ z q e not_up.
    let j = later es order i p z q graph descent low (rw (← at) e) (rw (← at) not_up) in
    subst (λ (w : ℕ). IsLeast (HasDown es w to) (length_at down w)) j.3 (all.known j.0 (omega arith) j.2)))
    least in
    let x_low : x < length up = (let l = place_low es order i descent low in omega (arith, so_far.count, at)) in
    record {
      count = length-set up x o ∙ so_far.count;
      known = λ k below. elim (cases_eq (place_at order k) x) [
        | inl same ↦ rw (same, get_or-set_same up x o None x_low) first
        | inr other ↦ rw get_or-set_other (so_far.known k (elim (cases_eq k i) [
          | inl is ↦ absurd (other (ap (place_at order) is ∙ sym at))
          | inr is_not ↦ omega arith
        ]))
      ];
      most = most_set up x o 250 x_low (λ n is.
          let b = legal_bound es order to n i x graph descent low (sym at) (least_has (HasLegal es x to) o n first is) in
          omega (arith, descent.heights.count, graph.most)) so_far.most;
    }

-- with all places of the order, the lengths are those of all places
pub all_lengths : (es : List EntryOf) (to : ℕ) (order : List Height) (up down : List (Option ℕ)) → IsDescent es order → AreDownSoFar es to order down 0 → AreUpSoFar es to order up (length order) → AreLengths es to (record { up = up; down = down })
all_lengths es to order up down descent all_down all_up = record {
  up = λ x low. let k = position_is es order x descent low in subst (λ (z : ℕ). IsLeast (HasLegal es z to) (length_at up z)) k.2 (all_up.known k.0 k.1);
  down = λ x low. let k = position_is es order x descent low in subst (λ (z : ℕ). IsLeast (HasDown es z to) (length_at down z)) k.2 (all_down.known k.0 (omega arith) k.1);
  up_count = all_up.count;
  down_count = all_down.count;
}
