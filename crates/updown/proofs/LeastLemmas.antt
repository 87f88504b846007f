use Rattle.std.proofs.Common.{◌≡◌, ◌≢◌, ◌∙◌, sym, ap, subst, refl, ℕ, zero, suc, ◌+◌, ◌<◌, ◌≤◌, List, Option, Some, None, arith, inl, inr, add-one, min}
use Rattle.std.proofs.lemmas.Bool.{cases_eq, cases_lt}
use Rattle.std.proofs.lemmas.Option.{same_Some}
use Rattle.an_base.specs.Values.{EntryOf}
use Rattle.topo_graph.specs.Topology.{far_of, IsGraph}
use Rattle.std.proofs.lemmas.Bool.{cases_Bool}
use Rattle.updown.specs.Routes.{is_up_end, IsLeast}
use Rattle.updown.specs.Lengths.{length_at, lesser_of, left_at, left_of, AreAtMost, Onward}

-- where something has it, the least is there and is no more
pub least_found : (P : ℕ → Type 0) (o : Option ℕ) (m : ℕ) → IsLeast P o → P m → (n : ℕ) × (o ≡ Some n) × (n ≤ m)
least_found P None m least has = absurd (least m has)
least_found P (Some n) m least has = (n, refl, least.1 m has)

-- the least has it
pub least_has : (P : ℕ → Type 0) (o : Option ℕ) (n : ℕ) → IsLeast P o → o ≡ Some n → P n
least_has P o n least e = (subst (λ (l : Option ℕ). IsLeast P l) e least).0

-- what two properties share
pub least_iff : (P Q : ℕ → Type 0) (o : Option ℕ) → ((n : ℕ) → P n → Q n) → ((n : ℕ) → Q n → P n) → IsLeast P o → IsLeast Q o
least_iff P Q None to back least = λ n q. least n (back n q)
least_iff P Q (Some n) to back least = (to n least.0, λ m q. least.1 m (back m q))

-- there is one least
pub one_least : (P : ℕ → Type 0) (a b : Option ℕ) → IsLeast P a → IsLeast P b → a ≡ b
one_least P None None least least' = refl
one_least P None (Some b) least least' = absurd (least b least'.0)
one_least P (Some a) None least least' = absurd (least' a least.0)
one_least P (Some a) (Some b) least least' = let h = least.1 b least'.0 in let k = least'.1 a least.0 in let e : a ≡ b = omega arith in ap (λ (n : ℕ). Some n) e

-- some port below end has this left behind it
abbrev pub Below : (ℕ → Option ℕ) → ℕ → ℕ → Type 0
Below f end n = (p : ℕ) × (p < end) × (f p ≡ Some n)

-- the least of one port more
pub least_port : (f : ℕ → Option ℕ) (end : ℕ) (best next : Option ℕ) → IsLeast (Below f end) best → next ≡ f end → IsLeast (Below f (end + 1)) (lesser_of best next)
least_port f end None None least is = λ n (p, low, e). elim (cases_eq p end) [
  | inl same ↦ absurd (let g : f p ≡ f end = ap f same in cc)
  | inr other ↦ least n (p, omega arith, e)
]
least_port f end None (Some b) least is = (
  (end, omega arith, sym is),
  λ m (p, low, e). elim (cases_eq p end) [
    | inl same ↦ (let g : Some b ≡ Some m = is ∙ ap f (sym same) ∙ e in let h : b ≡ m = same_Some b m g in omega arith)
    | inr other ↦ absurd (least m (p, omega arith, e))
  ],
)
least_port f end (Some a) None least is = (
  (least.0.0, let low = least.0.1 in omega arith, least.0.2),
  λ m (p, low, e). elim (cases_eq p end) [
    | inl same ↦ absurd (let g : f p ≡ f end = ap f same in cc)
    | inr other ↦ least.1 m (p, omega arith, e)
  ],
)
least_port f end (Some a) (Some b) least is = (
  elim (cases_lt b a) [
    | inl less ↦ (let m : min a b ≡ b = omega arith in rw m (end, omega arith, sym is))
    | inr more ↦ (let m : min a b ≡ a = omega arith in rw m (least.0.0, let low = least.0.1 in omega arith, least.0.2))
  ],
  λ m (p, low, e). elim (cases_eq p end) [
    | inl same ↦ (let g : Some b ≡ Some m = is ∙ ap f (sym same) ∙ e in let h : b ≡ m = same_Some b m g in omega arith)
    | inr other ↦ (let h = least.1 m (p, omega arith, e) in omega arith)
  ],
)

-- at first there is none
pub least_none : (f : ℕ → Option ℕ) → IsLeast (Below f 0) None
least_none f = λ n (p, low, e). absurd (omega arith)

-- after the last port it is the least of all
pub least_all : (es : List EntryOf) (up down : List (Option ℕ)) (x : ℕ) (best : Option ℕ) → IsGraph es → IsLeast (Below (left_of es up down x) 13) best → IsLeast (λ n. (p : ℕ) × (left_of es up down x p ≡ Some n)) best
least_all es up down x best graph least = least_iff (Below (left_of es up down x) 13) (λ n. (p : ℕ) × (left_of es up down x p ≡ Some n)) best (λ n (p, low, e). (p, e)) (λ n (p, e). (p, low p n e, e)) least
  where
    low : (p n : ℕ) → left_of es up down x p ≡ Some n → p < 13
    low p n e = go (far_of es x p) refl
      where
        go : (o : Option (ℕ × ℕ)) → far_of es x p ≡ o → p < 13
        go None is = absurd (let none : left_of es up down x p ≡ None = rw is refl in cc)
        go (Some far) is = let within = graph.within x p far is in omega (arith, within.port_most)

-- one link before what is left
pub onward_next : (es : List EntryOf) (up down : List (Option ℕ)) (to x : ℕ) (o : Option ℕ) (left : ℕ) → x ≢ to → IsLeast (λ n. (p : ℕ) × (left_of es up down x p ≡ Some n)) o → o ≡ Some left → IsLeast (Onward es up down to x) (Some (left + 1))
onward_next es up down to x o left other least is =
    let l = subst (λ (b : Option ℕ). IsLeast (λ n. (p : ℕ) × (left_of es up down x p ≡ Some n)) b) is least in
    (rw add-one l.0, go l)
  where
    go : IsLeast (λ n. (p : ℕ) × (left_of es up down x p ≡ Some n)) (Some left) → (m : ℕ) → Onward es up down to x m → left + 1 ≤ m
    go l zero on = absurd (other on)
    go l (suc m) on = let h = l.1 m on in omega arith

pub onward_none : (es : List EntryOf) (up down : List (Option ℕ)) (to x : ℕ) (o : Option ℕ) → x ≢ to → IsLeast (λ n. (p : ℕ) × (left_of es up down x p ≡ Some n)) o → o ≡ None → IsLeast (Onward es up down to x) None
onward_none es up down to x o other least is = go (subst (λ (b : Option ℕ). IsLeast (λ n. (p : ℕ) × (left_of es up down x p ≡ Some n)) b) is least)
  where
    go : IsLeast (λ n. (p : ℕ) × (left_of es up down x p ≡ Some n)) None → (m : ℕ) → Onward es up down to x m → ⊥
    go l zero on = other on
    go l (suc m) on = l m on

-- at the place itself nothing is left
pub onward_here : (es : List EntryOf) (up down : List (Option ℕ)) (to x : ℕ) → x ≡ to → IsLeast (Onward es up down to x) (Some 0)
onward_here es up down to x same = (same, λ m on. omega arith)

-- Where what is left behind each port is the least of what may follow it, the least way onward is the least of a property that goes on behind a port.
pub least_onward : (es : List EntryOf) (up down : List (Option ℕ)) (to x : ℕ) (H : ℕ → Type 0) (Q : ℕ → ℕ → Type 0) (o : Option ℕ) → (H 0 → x ≡ to) → (x ≡ to → H 0) → ((n : ℕ) → H (suc n) → (p : ℕ) × Q p n) → ((n p : ℕ) → Q p n → H (suc n)) → ((p : ℕ) → IsLeast (Q p) (left_of es up down x p)) → IsLeast (Onward es up down to x) o → IsLeast H o
least_onward es up down to x H Q None zero_to zero_from suc_to suc_from known least = none
  where
    none : (m : ℕ) → H m → ⊥
    none zero h = least 0 (zero_to h)
    none (suc m) h = let q = suc_to m h in let f = least_found (Q q.0) (left_of es up down x q.0) m (known q.0) q.1 in least (suc f.0) (q.0, f.1)
least_onward es up down to x H Q (Some n) zero_to zero_from suc_to suc_from known least = (has n least.0, at_most)
  where
    has : (n : ℕ) → Onward es up down to x n → H n
    has zero on = zero_from on
    has (suc n) (p, e) = suc_from n p (least_has (Q p) (left_of es up down x p) n (known p) e)

    at_most : (m : ℕ) → H m → n ≤ m
    at_most zero h = least.1 0 (zero_to h)
    at_most (suc m) h = let q = suc_to m h in let f = least_found (Q q.0) (left_of es up down x q.0) m (known q.0) q.1 in let l = least.1 (suc f.0) (q.0, f.1) in let k = f.2 in omega arith

-- what is left behind a port is one of the lengths
pub behind_most : (es : List EntryOf) (up down : List (Option ℕ)) (x p n : ℕ) → AreAtMost up 250 → AreAtMost down 250 → left_of es up down x p ≡ Some n → n ≤ 250
behind_most es up down x p n up_most down_most e = go (far_of es x p) refl
  where
    go : (o : Option (ℕ × ℕ)) → far_of es x p ≡ o → n ≤ 250
    go None is = absurd (let none : left_of es up down x p ≡ None = rw is refl in cc)
    go (Some (z, q)) is =
        let at : left_of es up down x p ≡ left_at es up down x (z, q) = rw is refl in
        elim (cases_Bool (is_up_end es z x)) [
          | inl is_up ↦ up_most z n (let f : left_at es up down x (z, q) ≡ length_at up z = rw is_up refl in sym f ∙ sym at ∙ e)
          | inr not_up ↦ down_most z n (let f : left_at es up down x (z, q) ≡ length_at down z = rw not_up refl in sym f ∙ sym at ∙ e)
        ]
