use Rattle.std.proofs.Common.{◌≡◌, ◌⊎◌, inl, inr, ℕ, suc, ◌≤◌, ◌<◌, List, [], ◌∷◌, length, Bool, true, false, cond, refl, sym, ap, ◌∙◌, subst, ⊎_elim, arith}
use Rattle.std.specs.Prelude.{◌==◌, nat_lt}
use Rattle.std.proofs.lemmas.Bool.{cases_lt, lt-ltb, le-ltb}
use Rattle.an_base.specs.declared.body.Body.{Body}
use Rattle.an_base.specs.declared.body.Body.TheVariants.{Pos, Answer, Stable, Topo}
use Rattle.epoch_core.specs.Log.{CardOf, OnPort, Log, on_port}
use Rattle.epoch_core.specs.Epoch.{version, position, has_moved}
use Rattle.epoch_game.specs.Slice.{Earlier}
use Rattle.epoch_game.specs.Streams.{positions_in}
use Rattle.epoch_game.proofs.Lists.{earlier_itself, earlier_total}
use Rattle.epoch_game.proofs.ViewLemmas.{not_moved}

-- the version rises by one exactly where the position moves
pub version_cases : (c : CardOf) (x : OnPort) (l : Log)
    → ((has_moved c x l ≡ false) × (version c (x ∷ l) ≡ version c l))
    ⊎ ((has_moved c x l ≡ true) × (version c (x ∷ l) ≡ suc (version c l)))
version_cases c x l = by (has_moved c x l) refl
  where
    by : (g : Bool) → has_moved c x l ≡ g → ((has_moved c x l ≡ false) × (version c (x ∷ l) ≡ version c l)) ⊎ ((has_moved c x l ≡ true) × (version c (x ∷ l) ≡ suc (version c l)))
    by false e = inl (e, ap (λ (g : Bool). cond g (suc (version c l)) (version c l)) e)
    by true e = inr (e, ap (λ (g : Bool). cond g (suc (version c l)) (version c l)) e)

pub version_least : (c : CardOf) (l : Log) → 1 ≤ version c l
version_least c [] = omega arith
version_least c (x ∷ l) = let old = version_least c l in ⊎_elim (λ w. subst (λ n. 1 ≤ n) (sym w.1) old) (λ w. subst (λ n. 1 ≤ n) (sym w.1) (omega arith)) (version_cases c x l)

pub version_grows : (c : CardOf) (h l : Log) → Earlier h l → version c h ≤ version c l
version_grows c h [] e = subst (λ i. version c i ≤ 1) (sym e) (omega arith)
version_grows c h (x ∷ l) (inl e) = subst (λ i. version c i ≤ version c (x ∷ l)) (sym e) (omega arith)
version_grows c h (x ∷ l) (inr e) =
    let old = version_grows c h l e in
    ⊎_elim (λ w. subst (λ n. version c h ≤ n) (sym w.1) old) (λ w. subst (λ n. version c h ≤ n) (sym w.1) (omega (arith, old))) (version_cases c x l)

-- there was a moment with each version up to the present one
pub version_had : (c : CardOf) (l : Log) (n : ℕ) → 1 ≤ n → n ≤ version c l → (h : Log) × (Earlier h l) × (version c h ≡ n)
version_had c [] n lo hi = ([], refl, omega (arith, lo, hi))
version_had c (x ∷ l) n lo hi =
    ⊎_elim
    (λ (lt : version c l < n). (x ∷ l, inl refl, ⊎_elim (λ w. let same = w.1 in absurd (omega (arith, lt, hi, same))) (λ w. let up = w.1 in omega (arith, lt, hi, up)) (version_cases c x l)))
    (λ (ge : n ≤ version c l). let old = version_had c l n lo ge in (old.0, inr old.1, old.2))
    (cases_lt (version c l) n)

-- moments of one version have one position
pub version_position : (c : CardOf) (h l : Log) → Earlier h l → version c h ≡ version c l → position c h ≡ position c l
version_position c h [] e v = ap (position c) e
version_position c h (x ∷ l) (inl e) v = ap (position c) e
version_position c h (x ∷ l) (inr e) v =
    let low = version_grows c h l e in
    ⊎_elim
    (λ w. version_position c h l e (v ∙ w.1) ∙ sym (not_moved c x l w.0))
    (λ w. let up = w.1 in absurd (omega (arith, low, v, up)))
    (version_cases c x l)

pub one_position : (c : CardOf) (l h k : Log) → Earlier h l → Earlier k l → version c h ≡ version c k → position c h ≡ position c k
one_position c l h k a b e = ⊎_elim (λ w. version_position c h k w e) (λ w. sym (version_position c k h w (sym e))) (earlier_total h k l a b)

-- what was accepted on a port only grows
pub on_port_grows : (p : ℕ) (h l : Log) → Earlier h l → Earlier (on_port p h) (on_port p l)
on_port_grows p h [] e = ap (on_port p) e
on_port_grows p h (x ∷ l) (inl e) = subst (λ i. Earlier (on_port p i) (on_port p (x ∷ l))) (sym e) (earlier_itself (on_port p (x ∷ l)))
on_port_grows p h (x ∷ l) (inr e) = more (x.port == p) (on_port_grows p h l e)
  where
    more : (g : Bool) → Earlier (on_port p h) (on_port p l) → Earlier (on_port p h) (cond g (x.body ∷ on_port p l) (on_port p l))
    more true old = inr old
    more false old = old

pub positions_grow : (r s : List Body) → Earlier r s → positions_in r ≤ positions_in s
positions_grow r [] e = subst (λ i. positions_in i ≤ 0) (sym e) (omega arith)
positions_grow r (b ∷ s) (inl e) = subst (λ i. positions_in i ≤ positions_in (b ∷ s)) (sym e) (omega arith)
positions_grow r (Pos b ∷ s) (inr e) = let old = positions_grow r s e in omega (arith, old)
positions_grow r (Answer b ∷ s) (inr e) = positions_grow r s e
positions_grow r (Stable es ∷ s) (inr e) = positions_grow r s e
positions_grow r (Topo t ∷ s) (inr e) = positions_grow r s e

-- the list as it was when it had i items
abbrev pub at : Log → ℕ → Log
at [] i = []
at (x ∷ l) i = cond (nat_lt (length l) i) (x ∷ l) (at l i)

pub at_cases : (x : OnPort) (l : Log) (i : ℕ) → ((length l < i) × (at (x ∷ l) i ≡ x ∷ l)) ⊎ ((i ≤ length l) × (at (x ∷ l) i ≡ at l i))
at_cases x l i =
    ⊎_elim
    (λ (lt : length l < i). inl (lt, ap (λ (g : Bool). cond g (x ∷ l) (at l i)) (lt-ltb (length l) i lt)))
    (λ (ge : i ≤ length l). inr (ge, ap (λ (g : Bool). cond g (x ∷ l) (at l i)) (le-ltb (length l) i ge)))
    (cases_lt (length l) i)

pub at_earlier : (l : Log) (i : ℕ) → Earlier (at l i) l
at_earlier [] i = refl
at_earlier (x ∷ l) i = ⊎_elim (λ w. inl w.1) (λ w. inr (subst (λ h. Earlier h l) (sym w.1) (at_earlier l i))) (at_cases x l i)

pub at_grows : (l : Log) (i j : ℕ) → i ≤ j → Earlier (at l i) (at l j)
at_grows [] i j e = refl
at_grows (x ∷ l) i j e =
    ⊎_elim
    (λ (w : (length l < j) × (at (x ∷ l) j ≡ x ∷ l)). subst (Earlier (at (x ∷ l) i)) (sym w.1) (at_earlier (x ∷ l) i))
    (λ (w : (j ≤ length l) × (at (x ∷ l) j ≡ at l j)).
    ⊎_elim
    (λ (v : (length l < i) × (at (x ∷ l) i ≡ x ∷ l)). let a = v.0 in let b = w.0 in absurd (omega (arith, a, b, e)))
    (λ (v : (i ≤ length l) × (at (x ∷ l) i ≡ at l i)). subst (λ h. Earlier h (at (x ∷ l) j)) (sym v.1) (subst (Earlier (at l i)) (sym w.1) (at_grows l i j e)))
    (at_cases x l i))
    (at_cases x l j)

pub at_whole : (l : Log) → at l (length l) ≡ l
at_whole [] = refl
at_whole (x ∷ l) = ⊎_elim (λ w. w.1) (λ w. let a = w.0 in absurd (omega (arith, a))) (at_cases x l (length (x ∷ l)))

pub earlier_length : (h l : Log) → Earlier h l → length h ≤ length l
earlier_length h [] e = subst (λ i. length i ≤ 0) (sym e) (omega arith)
earlier_length h (x ∷ l) (inl e) = subst (λ i. length i ≤ length (x ∷ l)) (sym e) (omega arith)
earlier_length h (x ∷ l) (inr e) = let old = earlier_length h l e in omega (arith, old)

-- each moment has a number
pub number : (h l : Log) → Earlier h l → (length h ≤ length l) × (at l (length h) ≡ h)
number h [] e = (earlier_length h [] e, sym e)
number h (x ∷ l) (inl e) = (earlier_length h (x ∷ l) (inl e), ap (λ i. at (x ∷ l) (length i)) e ∙ at_whole (x ∷ l) ∙ sym e)
number h (x ∷ l) (inr e) =
    let short = earlier_length h l e in
    let old = number h l e in
    (earlier_length h (x ∷ l) (inr e), ⊎_elim (λ w. let a = w.0 in absurd (omega (arith, short, a))) (λ w. w.1 ∙ old.1) (at_cases x l (length h)))
