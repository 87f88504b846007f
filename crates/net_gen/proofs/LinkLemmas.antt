-- The links that are drawn.
use Rattle.std.proofs.Common.{◌≡◌, ◌∙◌, sym, ap, subst, refl, ℕ, zero, suc, ◌+◌, ◌-◌, ◌<◌, ◌≤◌, List, [], ◌∷◌, ◌++◌, Option, Some, None, arith, append-nil, Bool, true, false, not, eqb, is_some, Contains, ◌/◌, ◌^◌, inl, inr}
use Rattle.std.specs.Prelude.{find}
use Rattle.std.specs.List.{fold, range_with_len, flat_map}
use Rattle.std.proofs.lemmas.Bool.{cases_Bool}
use Rattle.std.proofs.lemmas.List.Elements.{All-push, All-nil}
use Rattle.std.proofs.lemmas.List.Folds.{find-append}
use Rattle.std.proofs.lemmas.List.Sums.{fold_push}
use Rattle.std.proofs.Math.Nat.{mod-one}
use Rattle.common_values.proofs.ListLemmas.{range_more, some_is}
use Rattle.net_graph.specs.declared.wiring.LinkAt.{LinkAt}
use Rattle.net_graph.specs.Wires.{far_of, link_ends}
use Rattle.net_graph.proofs.FarLemmas.{used_far, far_push}
use Rattle.net_gen.specs.Drawn.{next_seed, drawn}
use Rattle.net_gen.specs.Generated.{DrawnOf, is_free, lowest_free, has_free, link_by, with_link, with_link_to, from_on, grown, joined, tree_of, all_joined, links_of}
use Rattle.net_gen.specs.Made.{IsLow, AreLow}

-- what is found has what was looked for, and is in the range
pub found_in : (p : ℕ → Bool) (a n x : ℕ) → find p (range_with_len a n) ≡ Some x → (p x ≡ true) × (a ≤ x) × (x < a + n)
found_in p a zero x e = absurd (cc)
found_in p a (suc n) x e = elim (cases_Bool (p a)) [
  | inl here ↦ (let s : Some a ≡ Some x = sym (rw here refl) ∙ e in let is : a ≡ x = cc in (subst (λ (y : ℕ). p y ≡ true) is here, omega (arith, is), omega (arith, is)))
  | inr not_here ↦ (let later : find p (range_with_len (a + 1) n) ≡ Some x = rw not_here at e in let f = found_in p (a + 1) n x later in (f.0, omega (arith, f.1), omega (arith, f.2)))
]

-- a range is gone through as far as nothing is found
pub find_more : (p : ℕ → Bool) (a n : ℕ) → find p (range_with_len a n) ≡ None → p (a + n) ≡ false → find p (range_with_len a (n + 1)) ≡ None
find_more p a n none fails = ap (find p) (range_more a n) ∙ find-append p (range_with_len a n) ((a + n) ∷ []) ∙ rw (none, fails) refl

pub find_here : (p : ℕ → Bool) (a n end : ℕ) → find p (range_with_len a n) ≡ None → p (a + n) ≡ true → n < end → find p (range_with_len a end) ≡ Some (a + n)
find_here p a n zero none passes low = absurd (omega (arith, low))
find_here p a zero (suc end) none passes low = let e : a + 0 ≡ a = omega arith in let t : p a ≡ true = ap p (sym e) ∙ passes in rw (t, e) refl
find_here p a (suc n) (suc end) none passes low = elim (cases_Bool (p a)) [
  | inl here ↦ absurd (let s : Some a ≡ None = sym (rw here refl) ∙ none in cc)
  | inr not_here ↦ (
      let e : a + suc n ≡ (a + 1) + n = omega arith in
      let later : find p (range_with_len (a + 1) n) ≡ None = rw not_here at none in
      rw (not_here, e) (find_here p (a + 1) n end later (ap p (sym e) ∙ passes) (omega (arith, low))))
]

-- the same by the number that is looked at
pub find_next : (p : ℕ → Bool) (a x : ℕ) → a ≤ x → find p (range_with_len a (x - a)) ≡ None → p x ≡ false → find p (range_with_len a (x + 1 - a)) ≡ None
find_next p a x low none fails =
    let n : x + 1 - a ≡ (x - a) + 1 = omega (arith, low) in
    let at : a + (x - a) ≡ x = omega (arith, low) in
    rw n (find_more p a (x - a) none (ap p at ∙ fails))

pub find_at_last : (p : ℕ → Bool) (a x end : ℕ) → a ≤ x → x < end → find p (range_with_len a (x - a)) ≡ None → p x ≡ true → find p (range_with_len a (end - a)) ≡ Some x
find_at_last p a x end low below none passes =
    let at : a + (x - a) ≡ x = omega (arith, low) in
    find_here p a (x - a) (end - a) none (ap p at ∙ passes) (omega (arith, low, below)) ∙ ap (λ (k : ℕ). Some k) at

-- a port that is free is used by no link
pub free_unused : (links : List LinkAt) (place port : ℕ) → is_free links place port ≡ true → Contains (flat_map link_ends links) (place, port) → ⊥
free_unused links place port free = used_far links place port (none_of (far_of links place port) free)
  where
    none_of : {X : Type 0} (o : Option X) → not (is_some o) ≡ true → o ≡ None
    none_of None t = refl
    none_of (Some x) t = absurd (cc)

-- the lowest free port of a switch
pub record IsLowest (links : List LinkAt) (place port : ℕ) : Type 0 where
  pub free : is_free links place port ≡ true
  pub least : 1 ≤ port
  pub most : port ≤ 8

pub lowest_is : (links : List LinkAt) (place port : ℕ) → lowest_free links place ≡ Some port → IsLowest links place port
lowest_is links place port e =
    let f = found_in (is_free links place) 1 8 port e in
    record { free = f.0; least = f.1; most = omega (arith, f.2) }

-- links stay low
low_by : (links : List LinkAt) (a b : ℕ) (p q : Option ℕ) → lowest_free links a ≡ p → lowest_free links b ≡ q → AreLow links → AreLow (links ++ link_by p q a b)
low_by links a b None q ea eb low = rw (append-nil links) low
low_by links a b (Some p) None ea eb low = rw (append-nil links) low
low_by links a b (Some p) (Some q) ea eb low =
    All-push IsLow links (record { a = a; a_port = p; b = b; b_port = q }) low (record { a_most = (lowest_is links a p ea).most; b_most = (lowest_is links b q eb).most })

pub low_with : (links : List LinkAt) (a b : ℕ) → AreLow links → AreLow (with_link links a b)
low_with links a b low = low_by links a b (lowest_free links a) (lowest_free links b) refl refl low

low_to : (links : List LinkAt) (o : Option ℕ) (place : ℕ) → AreLow links → AreLow (with_link_to links o place)
low_to links None place low = low
low_to links (Some before) place low = low_with links before place low

pub low_grown : (so_far : DrawnOf) (place : ℕ) → AreLow so_far.links → AreLow (grown so_far place).links
low_grown so_far place low = low_to so_far.links (find (has_free so_far.links) (from_on (drawn (next_seed so_far.seed) place) place)) place low

pub low_joined : (count : ℕ) (so_far : DrawnOf) → AreLow so_far.links → AreLow (joined count so_far).links
low_joined count so_far low = elim (cases_Bool (eqb (drawn (next_seed so_far.seed) count) (drawn (next_seed (next_seed so_far.seed)) count))) [
  | inl t ↦ rw t low
  | inr t ↦ rw t (low_with so_far.links (drawn (next_seed so_far.seed) count) (drawn (next_seed (next_seed so_far.seed)) count) low)
]

-- what each step keeps, all of them keep
pub folded : {X : Type 0} (P : DrawnOf → Type 0) (f : DrawnOf → X → DrawnOf) → ((d : DrawnOf) (x : X) → P d → P (f d x)) → (d : DrawnOf) (xs : List X) → P d → P (fold f d xs)
folded P f keeps d [] p = p
folded P f keeps d (x ∷ xs) p = folded P f keeps (f d x) xs (keeps d x p)

pub low_tree : (seed count : ℕ) → AreLow (tree_of seed count).links
low_tree seed count = folded (λ d. AreLow d.links) grown low_grown (record { links = []; seed = seed }) (range_with_len 1 (count - 1)) (All-nil IsLow)

pub low_all : (count : ℕ) (tree : DrawnOf) (times : ℕ) → AreLow tree.links → AreLow (all_joined count tree times).links
low_all count tree zero low = low
low_all count tree (suc times) low = low_joined count (all_joined count tree times) (low_all count tree times low)

-- one switch more, and one time more
pub tree_more : (seed place : ℕ) → 1 ≤ place → tree_of seed (place + 1) ≡ grown (tree_of seed place) place
tree_more seed place least =
    let start : DrawnOf = record { links = []; seed = seed } in
    let e : place + 1 - 1 ≡ (place - 1) + 1 = omega arith in
    let at : 1 + (place - 1) ≡ place = omega arith in
    ap (λ (n : ℕ). fold grown start (range_with_len 1 n)) e
    ∙ ap (fold grown start) (range_more 1 (place - 1))
    ∙ fold_push grown start (range_with_len 1 (place - 1)) (1 + (place - 1))
    ∙ ap (grown (tree_of seed place)) at

pub joined_more : (count : ℕ) (tree : DrawnOf) (times : ℕ) → all_joined count tree (times + 1) ≡ joined count (all_joined count tree times)
joined_more count tree times = let e : times + 1 ≡ suc times = omega arith in ap (all_joined count tree) e

-- THE FIRST LINK

-- the first switch has a link at its first port
abbrev HasFar : List LinkAt → Type 0
HasFar links = is_some (far_of links 0 1) ≡ true

far_by : (links : List LinkAt) (a b : ℕ) (p q : Option ℕ) → HasFar links → HasFar (links ++ link_by p q a b)
far_by links a b None q has = rw (append-nil links) has
far_by links a b (Some p) None has = rw (append-nil links) has
far_by links a b (Some p) (Some q) has =
    let (far, is) = some_is (far_of links 0 1) has in
    rw (far_push links (record { a = a; a_port = p; b = b; b_port = q }) 0 1 far is) refl

far_with : (links : List LinkAt) (a b : ℕ) → HasFar links → HasFar (with_link links a b)
far_with links a b has = far_by links a b (lowest_free links a) (lowest_free links b) has

far_to : (links : List LinkAt) (o : Option ℕ) (place : ℕ) → HasFar links → HasFar (with_link_to links o place)
far_to links None place has = has
far_to links (Some before) place has = far_with links before place has

far_grown : (so_far : DrawnOf) (place : ℕ) → HasFar so_far.links → HasFar (grown so_far place).links
far_grown so_far place has = far_to so_far.links (find (has_free so_far.links) (from_on (drawn (next_seed so_far.seed) place) place)) place has

far_joined : (count : ℕ) (so_far : DrawnOf) → HasFar so_far.links → HasFar (joined count so_far).links
far_joined count so_far has = elim (cases_Bool (eqb (drawn (next_seed so_far.seed) count) (drawn (next_seed (next_seed so_far.seed)) count))) [
  | inl t ↦ rw t has
  | inr t ↦ rw t (far_with so_far.links (drawn (next_seed so_far.seed) count) (drawn (next_seed (next_seed so_far.seed)) count) has)
]

-- the second switch is linked to the first one
first_grown : (seed : ℕ) → HasFar (grown (record { links = []; seed = seed }) 1).links
first_grown seed = at (drawn (next_seed seed) 1) (mod-one (next_seed seed / 2 ^ 33))
  where
    at : (first : ℕ) → first ≡ 0 → HasFar (with_link_to [] (find (has_free []) (from_on first 1)) 1)
    at first is = rw is refl

far_all : (count : ℕ) (tree : DrawnOf) (times : ℕ) → HasFar tree.links → HasFar (all_joined count tree times).links
far_all count tree zero has = has
far_all count tree (suc times) has = far_joined count (all_joined count tree times) (far_all count tree times has)

pub first_linked : (seed count : ℕ) → 2 ≤ count → HasFar (links_of seed count)
first_linked seed count two = far_all count (tree_of seed count) count (in_tree (count - 1) (omega arith))
  where
    in_tree : (n : ℕ) → 1 ≤ n → HasFar (fold grown (record { links = []; seed = seed }) (range_with_len 1 n)).links
    in_tree zero least = absurd (omega arith)
    in_tree (suc n) least = folded (λ d. HasFar d.links) grown far_grown (grown (record { links = []; seed = seed }) 1) (range_with_len 2 n) (first_grown seed)
