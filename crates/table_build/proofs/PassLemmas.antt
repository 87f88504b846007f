-- A pass over the places in order, up or down, which makes the best ways to each from those to the places before it.
use Rattle.std.proofs.Common.{◌≡◌, ◌≢◌, ◌∙◌, sym, ap, subst, refl, ℕ, ◌+◌, ◌<◌, ◌≤◌, List, [], ◌∷◌, Option, Some, None, Bool, true, false, arith, length, set, inl, inr}
use Rattle.std.specs.Prelude.{replicate}
use Rattle.std.proofs.lemmas.Bool.{cases_eq, cases_lt, cases_Bool}
use Rattle.std.proofs.lemmas.List.{get_or-replicate, get_or-set_same, get_or-set_other, length-replicate, length-set}
use Rattle.an_base.specs.Values.{EntryOf}
use Rattle.topo_graph.specs.Topology.{far_of, IsGraph}
use Rattle.updown.specs.declared.order.Height.{Height}
use Rattle.updown.specs.Order.{place_at, IsDescent}
use Rattle.updown.specs.Routes.{is_up_end}
use Rattle.updown.proofs.OrderLemmas.{position_is, place_low, later, earlier}
use Rattle.updown.proofs.RouteLemmas.{not_both_higher, leads_down, one_higher}
use Rattle.table_build.specs.declared.best.Best.{Best}
use Rattle.table_build.specs.declared.best.Search.{Search}
use Rattle.table_build.specs.Bests.{Goes, IsBest, KnowsFar, AreBestTo, best_at, climbing}

-- a table with a place for each entry has the best ways to the places at these positions of the order
pub record AreBestAt (es : List EntryOf) (any up down : Bool) (x : ℕ) (order : List Height) (Known : ℕ → Type 0) (bests : List (Option Best)) : Type 0 where
  pub count : length bests ≡ length es
  pub each : (k : ℕ) → Known k → k < length order → IsBest any (λ ps. Goes es up down x ps (place_at order k)) (best_at bests (place_at order k))

-- the best ways to one place more
pub one_more : (es : List EntryOf) (any up down : Bool) (x : ℕ) (order : List Height) (Known New : ℕ → Type 0) (i y : ℕ) (bests : List (Option Best)) (o : Option Best) → IsDescent es order → i < length order → y ≡ place_at order i → ((k : ℕ) → New k → k ≢ i → Known k) → AreBestAt es any up down x order Known bests → IsBest any (λ ps. Goes es up down x ps y) o → AreBestAt es any up down x order New (set bests y o)
one_more es any up down x order Known New i y bests o descent low at known so_far best =
    let y_low : y < length bests = (let l = place_low es order i descent low in omega (arith, so_far.count, at)) in
    record {
      count = length-set bests y o ∙ so_far.count;
      each = λ k new below. elim (cases_eq (place_at order k) y) [
        | inl same ↦ rw (same, get_or-set_same bests y o None y_low) best
        | inr other ↦ rw get_or-set_other (so_far.each k (known k new (λ is. other (ap (place_at order) is ∙ sym at))) below)
      ];
    }

-- with all positions, they are the best ways to all places
pub all_known : (es : List EntryOf) (any up down : Bool) (x : ℕ) (order : List Height) (Known : ℕ → Type 0) (bests : List (Option Best)) → IsDescent es order → ((k : ℕ) → k < length order → Known k) → AreBestAt es any up down x order Known bests → AreBestTo es any up down x bests
all_known es any up down x order Known bests descent all known = record {
  each = λ y low. let k = position_is es order y descent low in subst (λ (z : ℕ). IsBest any (λ ps. Goes es up down x ps z) (best_at bests z)) k.2 (known.each k.0 (all k.0 k.1) k.1);
}

-- of a link that does not lead up to y the far place is higher
far_higher : (es : List EntryOf) (y port z q : ℕ) → IsGraph es → far_of es y port ≡ Some (z, q) → is_up_end es y z ≡ false → is_up_end es z y ≡ true
far_higher es y port z q graph e down = elim (cases_Bool (is_up_end es z y)) [
  | inl is ↦ is
  | inr is_not ↦ absurd (let up = leads_down es y port z q graph e is_not in cc)
]

-- from the lowest place on, the far places below one are known before it
pub knows_below : (es : List EntryOf) (from : ℕ) (any : Bool) (order : List Height) (i y : ℕ) (bests : List (Option Best)) → IsGraph es → IsDescent es order → i < length order → y ≡ place_at order i → AreBestAt es any true false from order (λ k. i + 1 ≤ k) bests → KnowsFar es (climbing from any) true bests y
knows_below es from any order i y bests graph descent low at so_far = record {
  each = λ port z q e is.
      let j = later es order i port z q graph descent low (rw (← at) e) (rw (← at) (not_both_higher es y z is)) in
      subst (λ (w : ℕ). IsBest any (λ ps. Goes es true false from ps w) (best_at bests w)) j.3 (so_far.each j.0 (let l = j.1 in omega arith) j.2);
}

-- and from the highest place on, those above one
pub knows_above : (es : List EntryOf) (search : Search) (order : List Height) (i y : ℕ) (bests : List (Option Best)) → IsGraph es → IsDescent es order → i < length order → y ≡ place_at order i → AreBestAt es search.any search.up search.down search.from order (λ k. k < i) bests → KnowsFar es search false bests y
knows_above es search order i y bests graph descent low at so_far = record {
  each = λ port z q e is.
      let j = earlier es order i port z q graph descent low (rw (← at) e) (rw (← at) (far_higher es y port z q graph e is)) in
      subst (λ (w : ℕ). IsBest search.any (λ ps. Goes es search.up search.down search.from ps w) (best_at bests w)) j.2 (so_far.each j.0 j.1 (let l = j.1 in omega arith));
}

-- a way downward leads to its start or to a later place
down_later : (es : List EntryOf) (order : List Height) (ps : List ℕ) (i x y : ℕ) → IsGraph es → IsDescent es order → i < length order → place_at order i ≡ x → Goes es false true x ps y → (j : ℕ) × (i ≤ j) × (j < length order) × (place_at order j ≡ y)
down_later es order [] i x y graph descent low at same = (i, omega arith, low, at ∙ same)
down_later es order (p ∷ ps) i x y graph descent low at (z, q, e, inl (up, never, g)) = absurd (cc)
down_later es order (p ∷ ps) i x y graph descent low at (z, q, e, inr (down, may, g)) =
    let j = later es order i p z q graph descent low (rw at e) (rw at down) in
    let rest = down_later es order ps j.0 z y graph descent j.2 j.3 g in
    (rest.0, (let a = j.1 in let b = rest.1 in omega arith), rest.2, rest.3)

-- and one upward to its start or to an earlier place
up_earlier : (es : List EntryOf) (order : List Height) (ps : List ℕ) (i x y : ℕ) → IsGraph es → IsDescent es order → i < length order → place_at order i ≡ x → Goes es true false x ps y → (j : ℕ) × (j ≤ i) × (place_at order j ≡ y)
up_earlier es order [] i x y graph descent low at same = (i, omega arith, at ∙ same)
up_earlier es order (p ∷ ps) i x y graph descent low at (z, q, e, inr (down, never, g)) = absurd (cc)
up_earlier es order (p ∷ ps) i x y graph descent low at (z, q, e, inl (up, may, g)) =
    let j = earlier es order i p z q graph descent low (rw at e) (rw at up) in
    let rest = up_earlier es order ps j.0 z y graph descent (let a = j.1 in omega arith) j.2 g in
    (rest.0, (let a = j.1 in let b = rest.1 in omega arith), rest.2)

-- of two places that stand at positions both ways round one is the other
same_height : (es : List EntryOf) (order : List Height) (a b i j x y : ℕ) → IsGraph es → IsDescent es order → x < length es → y < length es → a ≤ b → b < length order → place_at order a ≡ x → place_at order b ≡ y → i ≤ j → j < length order → place_at order i ≡ y → place_at order j ≡ x → x ≡ y
same_height es order a b i j x y graph descent x_low y_low ab b_low ax by ij j_low iy jx =
    one_higher es x y graph x_low y_low
    (subst (λ (w : ℕ). is_up_end es x w ≡ false) iy (subst (λ (w : ℕ). is_up_end es w (place_at order i) ≡ false) jx (descent.falling i j ij j_low)))
    (subst (λ (w : ℕ). is_up_end es y w ≡ false) ax (subst (λ (w : ℕ). is_up_end es w (place_at order a) ≡ false) by (descent.falling a b ab b_low)))

-- where no way is known
none_at : (n y : ℕ) (bests : List (Option Best)) → bests ≡ replicate n None → y < n → best_at bests y ≡ None
none_at n y bests is low = ap (λ (bs : List (Option Best)). best_at bs y) is ∙ get_or-replicate n y None None low

-- no way downward leads before the first position of its start
pub none_higher : (es : List EntryOf) (any : Bool) (order : List Height) (start x : ℕ) (bests : List (Option Best)) → IsGraph es → IsDescent es order → x < length es → ((k : ℕ) → k < start → place_at order k ≢ x) → bests ≡ replicate (length es) None → AreBestAt es any false true x order (λ k. k < start) bests
none_higher es any order start x bests graph descent low before is = record {
  count = ap (λ (bs : List (Option Best)). length bs) is ∙ length-replicate (length es) None;
  each = λ k less below.
      let y_low = place_low es order k descent below in
      subst (λ (o : Option Best). IsBest any (λ ps. Goes es false true x ps (place_at order k)) o) (sym (none_at (length es) (place_at order k) bests is y_low)) (λ ps g. no_way k less below y_low ps g);
}
  where
    no_way : (k : ℕ) → k < start → k < length order → place_at order k < length es → (ps : List ℕ) → Goes es false true x ps (place_at order k) → ⊥
    no_way k less below y_low ps g =
        let i = position_is es order x descent low in
        let j = down_later es order ps i.0 x (place_at order k) graph descent i.1 i.2 g in
        let past : start ≤ i.0 = elim (cases_lt i.0 start) [
          | inl here ↦ absurd (before i.0 here i.2)
          | inr past ↦ past
        ] in
        before k less (sym (same_height es order i.0 j.0 k i.0 x (place_at order k) graph descent low y_low j.1 j.2 i.2 j.3 (omega arith) i.1 refl i.2))

-- and none upward behind the last one
pub none_lower : (es : List EntryOf) (any : Bool) (order : List Height) (start x : ℕ) (bests : List (Option Best)) → IsGraph es → IsDescent es order → x < length es → ((k : ℕ) → start ≤ k → k < length order → place_at order k ≢ x) → bests ≡ replicate (length es) None → AreBestAt es any true false x order (λ k. start ≤ k) bests
none_lower es any order start x bests graph descent low behind is = record {
  count = ap (λ (bs : List (Option Best)). length bs) is ∙ length-replicate (length es) None;
  each = λ k past below.
      let y_low = place_low es order k descent below in
      subst (λ (o : Option Best). IsBest any (λ ps. Goes es true false x ps (place_at order k)) o) (sym (none_at (length es) (place_at order k) bests is y_low)) (λ ps g. no_way k past below y_low ps g);
}
  where
    no_way : (k : ℕ) → start ≤ k → k < length order → place_at order k < length es → (ps : List ℕ) → Goes es true false x ps (place_at order k) → ⊥
    no_way k past below y_low ps g =
        let i = position_is es order x descent low in
        let j = up_earlier es order ps i.0 x (place_at order k) graph descent i.1 i.2 g in
        let before : i.0 < start = elim (cases_lt i.0 start) [
          | inl here ↦ here
          | inr there ↦ absurd (behind i.0 there i.1 i.2)
        ] in
        behind k past below (sym (same_height es order i.0 k j.0 i.0 x (place_at order k) graph descent low y_low (omega arith) below i.2 refl j.1 i.1 j.2 i.2))
