use Rattle.std.proofs.Common.{◌≡◌, ◌≢◌, ◌∙◌, sym, ap, subst, refl, ℕ, ◌<◌, ◌≤◌, List, [], ◌∷◌, ◌++◌, Option, Some, None, arith, All, AllPairs, Contains, length, inl, inr, true, false, ◌==◌, ◌&&◌, ◌↔◌, map}
use Rattle.std.specs.Prelude.{Any}
use Rattle.std.specs.List.{flat_map}
use Rattle.std.proofs.lemmas.Bool.{cases_Bool, and_parts, and_from, eqb-true, eq-eqb}
use Rattle.std.proofs.lemmas.Option.{same_Some}
use Rattle.std.proofs.lemmas.List.Elements.{All-head, All-tail, All-contains}
use Rattle.an_base.specs.Tree.{IsClosed}
use Rattle.net_graph.specs.declared.wiring.LinkAt.{LinkAt}
use Rattle.net_graph.specs.Wires.{far_of, has_end, has_other_end, a_end, b_end, link_ends, host_end, IsLink, IsFar, Joins, Wires, IsWired, network, far_or_host}
use Rattle.net_graph.specs.declared.wiring.Far.TheVariants.{Switch}
use Rattle.common_values.proofs.MemberLemmas.{Contains-here, Contains-later, Contains-cons_cases}
use Rattle.common_values.proofs.PairLemmas.{AllPairs-front}
use Rattle.common_values.proofs.ListLemmas.{AllPairs-head, AllPairs-tail, Any-later, Any-cons_cases}

-- pairs are equal where their parts are, and a test of both parts tells
pub port_is : (a p s q : ℕ) → ((a == s) && (p == q)) ≡ true → ◌≡◌ {A = ℕ × ℕ} (a, p) (s, q)
port_is a p s q test =
    let parts = and_parts (a == s) (p == q) test in
    let one : a ≡ s = eqb-true a s parts.0 in
    let other : p ≡ q = eqb-true p q parts.1 in
    ap (λ (x : ℕ). (x, p)) one ∙ ap (λ (x : ℕ). (s, x)) other

-- and equal pairs pass the test
pub port_test : (a p s q : ℕ) → ◌≡◌ {A = ℕ × ℕ} (a, p) (s, q) → ((a == s) && (p == q)) ≡ true
port_test a p s q same =
    and_from (a == s) (p == q) (eq-eqb a s (ap (λ (x : ℕ × ℕ). x.0) same)) (eq-eqb p q (ap (λ (x : ℕ × ℕ). x.1) same))

-- pairs that fail the test are not equal
pub not_port : (a p s q : ℕ) → ((a == s) && (p == q)) ≡ false → ◌≡◌ {A = ℕ × ℕ} (a, p) (s, q) → ⊥
not_port a p s q test same = let t = port_test a p s q same in absurd (cc)

-- a port at the first end of the first link
far_at_a : (l : LinkAt) (ls : List LinkAt) (s p : ℕ) → has_end l s p ≡ true → far_of (l ∷ ls) s p ≡ Some (b_end l)
far_at_a l ls s p at = rw at

-- at the second end of the first link
far_at_b : (l : LinkAt) (ls : List LinkAt) (s p : ℕ) → has_end l s p ≡ false → has_other_end l s p ≡ true → far_of (l ∷ ls) s p ≡ Some (a_end l)
far_at_b l ls s p other at = rw (other, at)

-- at neither end of the first link
far_later : (l : LinkAt) (ls : List LinkAt) (s p : ℕ) → has_end l s p ≡ false → has_other_end l s p ≡ false → far_of (l ∷ ls) s p ≡ far_of ls s p
far_later l ls s p other neither = rw (other, neither)

-- two lists of two are equal where their parts are
pairs_are : (x y u v : ℕ × ℕ) → x ≡ u → y ≡ v → x ∷ y ∷ [] ≡ u ∷ v ∷ []
pairs_are x y u v one other = cc

-- a port leads to the other end of a link
pub joined : (ls : List LinkAt) (s p y q : ℕ) → far_of ls s p ≡ Some (y, q) → Any (λ l. Joins l s p y q) ls
joined [] s p y q e = absurd (cc)
joined (l ∷ ls) s p y q e = elim (cases_Bool (has_end l s p)) [
  | inl at ↦ (0, l, omega arith, refl, inl (pairs_are (a_end l) (b_end l) (s, p) (y, q) (port_is l.a l.a_port s p at) (same_Some (b_end l) (y, q) (sym (far_at_a l ls s p at) ∙ e))))
  | inr other ↦ elim (cases_Bool (has_other_end l s p)) [
    | inl at ↦ (0, l, omega arith, refl, inr (pairs_are (a_end l) (b_end l) (y, q) (s, p) (same_Some (a_end l) (y, q) (sym (far_at_b l ls s p other at) ∙ e)) (port_is l.b l.b_port s p at)))
    | inr neither ↦ Any-later (λ m. Joins m s p y q) l ls (joined ls s p y q (sym (far_later l ls s p other neither) ∙ e))
  ]
]

-- and the parts are equal where the lists are
firsts : (x y u v : ℕ × ℕ) → x ∷ y ∷ [] ≡ u ∷ v ∷ [] → (x ≡ u) × (y ≡ v)
firsts x y u v e = (cc, cc)

-- both ends of a link are used
pub joined_used : (ls : List LinkAt) (s p y q : ℕ) → Any (λ l. Joins l s p y q) ls → Contains (flat_map link_ends ls) (s, p)
joined_used [] s p y q any = absurd (let l = any.2 in omega arith)
joined_used (l ∷ ls) s p y q any = elim (Any-cons_cases (λ m. Joins m s p y q) l ls any) [
  | inl (inl e) ↦ subst (λ (x : ℕ × ℕ). Contains (a_end l ∷ b_end l ∷ flat_map link_ends ls) x) (firsts (a_end l) (b_end l) (s, p) (y, q) e).0 (Contains-here (a_end l) (b_end l ∷ flat_map link_ends ls))
  | inl (inr e) ↦ Contains-later (a_end l) (s, p) (b_end l ∷ flat_map link_ends ls) (subst (λ (x : ℕ × ℕ). Contains (b_end l ∷ flat_map link_ends ls) x) (firsts (a_end l) (b_end l) (y, q) (s, p) e).1 (Contains-here (b_end l) (flat_map link_ends ls)))
  | inr later ↦ Contains-later (a_end l) (s, p) (b_end l ∷ flat_map link_ends ls) (Contains-later (b_end l) (s, p) (flat_map link_ends ls) (joined_used ls s p y q later))
]

-- a port that is used leads somewhere
pub used_far : (ls : List LinkAt) (s p : ℕ) → far_of ls s p ≡ None → Contains (flat_map link_ends ls) (s, p) → ⊥
used_far [] s p none has = let l = has.1 in absurd (omega arith)
used_far (l ∷ ls) s p none has = elim (cases_Bool (has_end l s p)) [
  | inl at ↦ absurd (let f = far_at_a l ls s p at in cc)
  | inr other ↦ elim (cases_Bool (has_other_end l s p)) [
    | inl at ↦ absurd (let f = far_at_b l ls s p other at in cc)
    | inr neither ↦ elim (Contains-cons_cases (a_end l) (s, p) (b_end l ∷ flat_map link_ends ls) has) [
      | inl is ↦ not_port l.a l.a_port s p other is
      | inr later ↦ elim (Contains-cons_cases (b_end l) (s, p) (flat_map link_ends ls) later) [
        | inl is ↦ not_port l.b l.b_port s p neither is
        | inr rest ↦ used_far ls s p (sym (far_later l ls s p other neither) ∙ none) rest
      ]
    ]
  ]
]

-- where no port is used twice, a port leads to the other end of any link that it has
pub joins_far : (ls : List LinkAt) (s p y q : ℕ) → AllPairs (λ a b. a ≢ b) (flat_map link_ends ls) → Any (λ l. Joins l s p y q) ls → far_of ls s p ≡ Some (y, q)
joins_far [] s p y q apart any = absurd (let l = any.2 in omega arith)
joins_far (l ∷ ls) s p y q apart any = elim (Any-cons_cases (λ m. Joins m s p y q) l ls any) [
  | inl (inl e) ↦ (let f = firsts (a_end l) (b_end l) (s, p) (y, q) e in far_at_a l ls s p (port_test l.a l.a_port s p f.0) ∙ ap (λ (x : ℕ × ℕ). Some x) f.1)
  | inl (inr e) ↦ (let f = firsts (a_end l) (b_end l) (y, q) (s, p) e in elim (cases_Bool (has_end l s p)) [
    | inl at ↦ absurd (a_apart (s, p) (Contains-cons f.1) (port_is l.a l.a_port s p at))
    | inr other ↦ far_at_b l ls s p other (port_test l.b l.b_port s p f.1) ∙ ap (λ (x : ℕ × ℕ). Some x) f.0
  ])
  | inr later ↦ (let used = joined_used ls s p y q later in elim (cases_Bool (has_end l s p)) [
    | inl at ↦ absurd (a_apart (s, p) (Contains-later (b_end l) (s, p) (flat_map link_ends ls) used) (port_is l.a l.a_port s p at))
    | inr other ↦ elim (cases_Bool (has_other_end l s p)) [
      | inl at ↦ absurd (b_apart (s, p) used (port_is l.b l.b_port s p at))
      | inr neither ↦ far_later l ls s p other neither ∙ joins_far ls s p y q (AllPairs-tail (λ a b. a ≢ b) (b_end l) (flat_map link_ends ls) rest) later
    ]
  ])
]
  where
    rest : AllPairs (λ a b. a ≢ b) (b_end l ∷ flat_map link_ends ls)
    rest = AllPairs-tail (λ a b. a ≢ b) (a_end l) (b_end l ∷ flat_map link_ends ls) apart

    a_apart : (x : ℕ × ℕ) → Contains (b_end l ∷ flat_map link_ends ls) x → a_end l ≡ x → ⊥
    a_apart x has = All-contains (λ y. a_end l ≢ y) (b_end l ∷ flat_map link_ends ls) x (AllPairs-head (λ a b. a ≢ b) (a_end l) (b_end l ∷ flat_map link_ends ls) apart) has

    b_apart : (x : ℕ × ℕ) → Contains (flat_map link_ends ls) x → b_end l ≡ x → ⊥
    b_apart x has = All-contains (λ y. b_end l ≢ y) (flat_map link_ends ls) x (AllPairs-head (λ a b. a ≢ b) (b_end l) (flat_map link_ends ls) rest) has

    Contains-cons : {x : ℕ × ℕ} → b_end l ≡ x → Contains (b_end l ∷ flat_map link_ends ls) x
    Contains-cons is = subst (λ (z : ℕ × ℕ). Contains (b_end l ∷ flat_map link_ends ls) z) is (Contains-here (b_end l) (flat_map link_ends ls))

-- a link joins two ports both ways
swapped : (l : LinkAt) (s p y q : ℕ) → Joins l s p y q → Joins l y q s p
swapped l s p y q (inl e) = inr e
swapped l s p y q (inr e) = inl e

-- the same of some link
back_any : (ls : List LinkAt) (s p y q : ℕ) → Any (λ l. Joins l s p y q) ls → Any (λ l. Joins l y q s p) ls
back_any ls s p y q (k, l, low, is, j) = (k, l, low, is, swapped l s p y q j)

-- links lead both ways
pub far_back : (w : Wires) → IsWired w → (x p y q : ℕ) → far_of w.links x p ≡ Some (y, q) → far_of w.links y q ≡ Some (x, p)
far_back w wired x p y q e =
    joins_far w.links y q x p (AllPairs-front (λ a b. a ≢ b) (flat_map link_ends w.links) (map host_end w.hosts) wired.ports_apart) (back_any w.links x p y q (joined w.links x p y q e))

-- what a port leads to with one link more: as before, or else by the new link
pub far_push : (ls : List LinkAt) (l : LinkAt) (s p : ℕ) (far : ℕ × ℕ) → far_of ls s p ≡ Some far → far_of (ls ++ l ∷ []) s p ≡ Some far
far_push [] l s p far e = absurd (cc)
far_push (m ∷ ls) l s p far e = elim (cases_Bool (has_end m s p)) [
  | inl here ↦ rw here (rw here at e)
  | inr other ↦ elim (cases_Bool (has_other_end m s p)) [
    | inl here ↦ rw (other, here) (rw (other, here) at e)
    | inr neither ↦ rw (other, neither) (far_push ls l s p far (rw (other, neither) at e))
  ]
]

-- what a port that led nowhere leads to with one link more
pub far_push_none : (ls : List LinkAt) (l : LinkAt) (s p : ℕ) → far_of ls s p ≡ None → far_of (ls ++ l ∷ []) s p ≡ far_of (l ∷ []) s p
far_push_none [] l s p e = refl
far_push_none (m ∷ ls) l s p e = elim (cases_Bool (has_end m s p)) [
  | inl here ↦ absurd (let f = rw here at e in cc)
  | inr other ↦ elim (cases_Bool (has_other_end m s p)) [
    | inl here ↦ absurd (let f = rw (other, here) at e in cc)
    | inr neither ↦ rw (other, neither) (far_push_none ls l s p (rw (other, neither) at e))
  ]
]

-- a new link leads from its ends to one another, where they were free
pub far_new_a : (ls : List LinkAt) (l : LinkAt) (s p : ℕ) → has_end l s p ≡ true → far_of ls s p ≡ None → far_of (ls ++ l ∷ []) s p ≡ Some (b_end l)
far_new_a ls l s p at none = far_push_none ls l s p none ∙ far_at_a l [] s p at

-- the same of the second end
pub far_new_b : (ls : List LinkAt) (l : LinkAt) (s p : ℕ) → has_end l s p ≡ false → has_other_end l s p ≡ true → far_of ls s p ≡ None → far_of (ls ++ l ∷ []) s p ≡ Some (a_end l)
far_new_b ls l s p other at none = far_push_none ls l s p none ∙ far_at_b l [] s p other at

-- and other ports lead where they led
pub far_new_other : (ls : List LinkAt) (l : LinkAt) (s p : ℕ) → has_end l s p ≡ false → has_other_end l s p ≡ false → far_of (ls ++ l ∷ []) s p ≡ far_of ls s p
far_new_other ls l s p other neither = go (far_of ls s p) refl
  where
    go : (o : Option (ℕ × ℕ)) → far_of ls s p ≡ o → far_of (ls ++ l ∷ []) s p ≡ o
    go None e = far_push_none ls l s p e ∙ far_later l [] s p other neither
    go (Some far) e = far_push ls l s p far e

-- both ends of a link are in range
pub record FarIn (n s p y q : ℕ) : Type 0 where
  pub s_below : s < n
  pub p_least : 1 ≤ p
  pub p_most : p ≤ 12
  pub y_below : y < n
  pub q_least : 1 ≤ q
  pub q_most : q ≤ 12

-- the range of what the first link leads to, or else of what the others lead to
step : (n : ℕ) (l : LinkAt) (ls : List LinkAt) (s p y q : ℕ) → IsLink n l → (far_of ls s p ≡ Some (y, q) → FarIn n s p y q) → far_of (l ∷ ls) s p ≡ Some (y, q) → FarIn n s p y q
step n l ls s p y q is rest e = record {
  s_below = grind arith;
  p_least = grind arith;
  p_most = grind arith;
  y_below = grind arith;
  q_least = grind arith;
  q_most = grind arith;
}

-- what a port leads to is in range, and so is the port
pub far_range : (n : ℕ) (ls : List LinkAt) (s p y q : ℕ) → All (IsLink n) ls → far_of ls s p ≡ Some (y, q) → FarIn n s p y q
far_range n [] s p y q all e = absurd (cc)
far_range n (l ∷ ls) s p y q all e = step n l ls s p y q (All-head (IsLink n) l ls all) (far_range n ls s p y q (All-tail (IsLink n) l ls all)) e

-- ports lead to switches that there are
pub network_closed : (w : Wires) → IsWired w → IsClosed (network w)
network_closed w wired = λ x p y q e. (far_range (length w.switches) w.links x p y q wired.links e).y_below

-- the same as one fact
pub far_is : (w : Wires) (s p : ℕ) (far : ℕ × ℕ) → IsWired w → far_of w.links s p ≡ Some far → IsFar (length w.switches) s p far
far_is w s p far wired e =
    let r = far_range (length w.switches) w.links s p far.0 far.1 wired.links e in
    record { node_below = r.s_below; own_port_least = r.p_least; own_port_most = r.p_most; below = r.y_below; port_least = r.q_least; port_most = r.q_most }

-- a port leads to another exactly where a link joins the two
pub far_joins : (w : Wires) (s p y q : ℕ) → IsWired w → (far_of w.links s p ≡ Some (y, q)) ↔ Any (λ l. Joins l s p y q) w.links
far_joins w s p y q wired =
    (joined w.links s p y q, joins_far w.links s p y q (AllPairs-front (λ a b. a ≢ b) (flat_map link_ends w.links) (map host_end w.hosts) wired.ports_apart))

-- where a port leads to a switch, it is by a link
pub to_switch : (f : Option (ℕ × ℕ)) (h : Option ℕ) (y q : ℕ) → far_or_host f h ≡ Some (Switch y q) → f ≡ Some (y, q)
to_switch (Some far) h y q e = grind arith
to_switch None (Some h) y q e = absurd (cc)
to_switch None None y q e = absurd (cc)

-- and else there is no link
pub to_host : (f : Option (ℕ × ℕ)) (h : Option ℕ) → ((y q : ℕ) → far_or_host f h ≡ Some (Switch y q) → ⊥) → f ≡ None
to_host (Some far) h none = absurd (none far.0 far.1 refl)
to_host None h none = refl
