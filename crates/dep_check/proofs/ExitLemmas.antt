use Rattle.std.proofs.Common.{◌≡◌, ◌∙◌, sym, ap, subst, refl, ℕ, ◌+◌, ◌<◌, ◌≤◌, List, [], Option, true, false, arith, length, set, get_or, All, inl, inr, ◌⊎◌, ◌↔◌}
use Rattle.std.specs.Prelude.{Contains, replicate}
use Rattle.std.proofs.lemmas.Bool.{cases_eq}
use Rattle.std.proofs.lemmas.List.{get_or-replicate, get_or-set_same, get_or-set_other, length-replicate, length-set, get_or_default}
use Rattle.std.proofs.lemmas.List.Elements.{All-contains, All-weaker}
use Rattle.an_base.specs.Rows.{RowOf, ArePorts}
use Rattle.dep_check.specs.declared.channel.Channel.{Channel}
use Rattle.dep_check.specs.Tables.{IsSpot, place_of, set_at, has_at, has_port, row_at, Counts, HasBelow, AreExitsBelow}
use Rattle.dep_check.proofs.SpotLemmas.{one_spot, place_low}
use Rattle.dep_check.proofs.PortLemmas.{no_port}

-- the row at k counts and has the exit, for what came in at a spot
pub record HasHere (rows : List RowOf) (to : Option ℕ) (k : ℕ) (s : Channel) (p : ℕ) : Type 0 where
  pub counts : Counts to (row_at rows k)
  pub at : (row_at rows k).at ≡ s.at
  pub entry : (row_at rows k).entry ≡ s.port
  pub has : Contains (row_at rows k).exits p

-- one row more
pub has_more : (rows : List RowOf) (to : Option ℕ) (k : ℕ) (s : Channel) (p : ℕ) → HasBelow rows to (k + 1) s p → HasBelow rows to k s p ⊎ HasHere rows to k s p
has_more rows to k s p has = elim (cases_eq has.index k) [
  | inl last ↦ inr (subst (λ (i : ℕ). HasHere rows to i s p) last (record { counts = has.counts; at = has.at; entry = has.entry; has = has.has }))
  | inr before ↦ inl (record { index = has.index; below = (let low = has.below in omega arith); counts = has.counts; at = has.at; entry = has.entry; has = has.has })
]

pub has_up : (rows : List RowOf) (to : Option ℕ) (k : ℕ) (s : Channel) (p : ℕ) → HasBelow rows to k s p → HasBelow rows to (k + 1) s p
has_up rows to k s p has = record { index = has.index; below = (let low = has.below in omega arith); counts = has.counts; at = has.at; entry = has.entry; has = has.has }

pub has_here : (rows : List RowOf) (to : Option ℕ) (k : ℕ) (s : Channel) (p : ℕ) → HasHere rows to k s p → HasBelow rows to (k + 1) s p
has_here rows to k s p has = record { index = k; below = omega arith; counts = has.counts; at = has.at; entry = has.entry; has = has.has }

-- a table without exits
pub exits_none : (rows : List RowOf) (to : Option ℕ) (table : List ℕ) → table ≡ replicate 1651 0 → AreExitsBelow rows to 0 table
exits_none rows to table is = record {
  count = ap (λ (xs : List ℕ). length xs) is ∙ length-replicate {A = ℕ} 1651 0;
  ports = λ s p spot has. absurd (let low = has.below in omega arith);
  each = λ s p spot low. (
    λ has. absurd (
        let none : set_at table s ≡ 0 = ap (λ (xs : List ℕ). get_or xs (place_of s) 0) is ∙ get_or-replicate {A = ℕ} 1651 (place_of s) 0 0 (place_low s spot) in
        let gone : has_at table s p ≡ false = ap (λ (ports : ℕ). has_port ports p) none ∙ no_port p in
        cc),
    λ has. absurd (let below = has.below in omega arith),
  );
}

-- a row that adds nothing
pub exits_same : (rows : List RowOf) (to : Option ℕ) (k : ℕ) (table : List ℕ) → ((s : Channel) (p : ℕ) → IsSpot s → HasHere rows to k s p → ⊥) → AreExitsBelow rows to k table → AreExitsBelow rows to (k + 1) table
exits_same rows to k table nothing so_far = record {
  count = so_far.count;
  ports = λ s p spot has. elim (has_more rows to k s p has) [
    | inl before ↦ so_far.ports s p spot before
    | inr here ↦ absurd (nothing s p spot here)
  ];
  each = λ s p spot low. (
    λ is. has_up rows to k s p ((so_far.each s p spot low).0 is),
    λ has. elim (has_more rows to k s p has) [
      | inl before ↦ (so_far.each s p spot low).1 before
      | inr here ↦ absurd (nothing s p spot here)
    ],
  );
}

-- the spot of a row
abbrev pub spot_of : RowOf → Channel
spot_of r = record { at = r.at; port = r.entry }

same_spot : (x y p q : ℕ) → x ≡ y → p ≡ q → ◌≡◌ {A = Channel} (record { at = x; port = p }) (record { at = y; port = q })
same_spot x y p q e f = rw (e, f) refl

-- a row that counts
pub exits_add : (rows : List RowOf) (to : Option ℕ) (k : ℕ) (r : RowOf) (table : List ℕ) (new : ℕ) → row_at rows k ≡ r → Counts to r → IsSpot (spot_of r) → All (λ p. p < 13) r.exits → ((p : ℕ) → p < 13 → ((has_port new p ≡ true) ↔ ((has_at table (spot_of r) p ≡ true) ⊎ Contains r.exits p))) → AreExitsBelow rows to k table → AreExitsBelow rows to (k + 1) (set table (place_of (spot_of r)) new)
exits_add rows to k r table new is counts spot ports added so_far = record {
  count = length-set table (place_of (spot_of r)) new ∙ so_far.count;
  ports = λ s p s_spot has. elim (has_more rows to k s p has) [
    | inl before ↦ so_far.ports s p s_spot before
    | inr here ↦ All-contains (λ p. p < 13) r.exits p ports (subst (λ (x : RowOf). Contains x.exits p) is here.has)
  ];
  each = λ s p s_spot low. elim (cases_eq (place_of s) (place_of (spot_of r))) [
    | inl same ↦ (
        let here : s ≡ spot_of r = one_spot s (spot_of r) s_spot spot same in
        let got : set_at (set table (place_of (spot_of r)) new) s ≡ new = rw same (get_or-set_same table (place_of (spot_of r)) new none (let l = place_low (spot_of r) spot in omega (arith, so_far.count))) in
        let has_is : has_at (set table (place_of (spot_of r)) new) s p ≡ has_port new p = ap (λ (x : ℕ). has_port x p) got in (
          λ is_true. elim ((added p low).0 (sym has_is ∙ is_true)) [
            | inl before ↦ has_up rows to k s p ((so_far.each s p s_spot low).0 (ap (λ (x : Channel). has_at table x p) here ∙ before))
            | inr new_one ↦ has_here rows to k s p (record {
              counts = subst (λ (x : RowOf). Counts to x) (sym is) counts;
              at = ap (λ (x : RowOf). x.at) is ∙ sym (ap (λ (x : Channel). x.at) here);
              entry = ap (λ (x : RowOf). x.entry) is ∙ sym (ap (λ (x : Channel). x.port) here);
              has = subst (λ (x : RowOf). Contains x.exits p) (sym is) new_one;
            })
          ],
          λ has. has_is ∙ (added p low).1 (elim (has_more rows to k s p has) [
            | inl before ↦ inl (sym (ap (λ (x : Channel). has_at table x p) here) ∙ (so_far.each s p s_spot low).1 before)
            | inr at_k ↦ inr (subst (λ (x : RowOf). Contains x.exits p) is at_k.has)
          ]),
        ))
    | inr other ↦ (
        let got : set_at (set table (place_of (spot_of r)) new) s ≡ set_at table s = get_or-set_other table (place_of (spot_of r)) (place_of s) new none other in
        let has_is : has_at (set table (place_of (spot_of r)) new) s p ≡ has_at table s p = ap (λ (x : ℕ). has_port x p) got in (
          λ is_true. has_up rows to k s p ((so_far.each s p s_spot low).0 (sym has_is ∙ is_true)),
          λ has. has_is ∙ (elim (has_more rows to k s p has) [
            | inl before ↦ (so_far.each s p s_spot low).1 before
            | inr at_k ↦ absurd (other (ap place_of (sym (same_spot r.at s.at r.entry s.port (sym (ap (λ (x : RowOf). x.at) is) ∙ at_k.at) (sym (ap (λ (x : RowOf). x.entry) is) ∙ at_k.entry)))))
          ]),
        ))
  ];
}
  where
    none : ℕ
    none = 0

-- the row that a loop is at
pub row_is : (rows : List RowOf) (k : ℕ) (r : RowOf) → k < length rows → r ≡ get_or rows k r → row_at rows k ≡ r
row_is rows k r low is = get_or_default rows k (record { at = 0; entry = 0; to = 0; exits = [] }) r low ∙ sym is

-- a row that counts, as it is added
pub row_added : (rows : List RowOf) (to : Option ℕ) (k place : ℕ) (r : RowOf) (exits : List ℕ) (table : List ℕ) (had new : ℕ) → row_at rows k ≡ r → Counts to r → r.at ≤ 126 → r.entry ≤ 12 → exits ≡ r.exits → ArePorts r.exits → place ≡ place_of (spot_of r) → had ≡ get_or table place had → ((p : ℕ) → p < 13 → ((has_port new p ≡ true) ↔ ((has_port had p ≡ true) ⊎ Contains exits p))) → AreExitsBelow rows to k table → AreExitsBelow rows to (k + 1) (set table place new)
row_added rows to k place r exits table had new is counts at entry all ports here read added so_far =
    let spot : IsSpot (spot_of r) = record { at = omega arith; port = omega arith } in
    let low = place_low (spot_of r) spot in
    let old : had ≡ set_at table (spot_of r) = read ∙ ap (λ (i : ℕ). get_or table i had) here ∙ get_or_default table (place_of (spot_of r)) had 0 (omega (arith, so_far.count)) in
    let low_ports : All (λ p. p < 13) r.exits = All-weaker (λ p. (1 ≤ p) × (p ≤ 12)) (λ p. p < 13) (λ p h. let most = h.1 in omega arith) r.exits ports in
    let step : (p : ℕ) → p < 13 → ((has_port new p ≡ true) ↔ ((has_at table (spot_of r) p ≡ true) ⊎ Contains r.exits p)) = (λ (p : ℕ) (p_low : p < 13).
    subst (λ (xs : List ℕ). (has_port new p ≡ true) ↔ ((has_at table (spot_of r) p ≡ true) ⊎ Contains xs p)) all
    (subst (λ (x : ℕ). (has_port new p ≡ true) ↔ ((has_port x p ≡ true) ⊎ Contains exits p)) old (added p p_low))) in
    subst (λ (i : ℕ). AreExitsBelow rows to (k + 1) (set table i new)) (sym here) (exits_add rows to k r table new is counts spot low_ports step so_far)
