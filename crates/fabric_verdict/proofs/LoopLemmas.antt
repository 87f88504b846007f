-- A loop as a list: the step from each of it to the next one, and what is told with each.
use Rattle.std.proofs.Common.{◌≡◌, ◌∙◌, sym, ap, subst, refl, ℕ, zero, suc, ◌+◌, ◌%◌, ◌<◌, ◌≤◌, ◌⊎◌, List, [], ◌∷◌, ◌++◌, Option, Some, length, map, take, get_or, inl, inr, arith}
use Rattle.std.specs.declared.cmp.Ordering.{Ordering}
use Rattle.std.specs.Prelude.{slice_get, option_map}
use Rattle.std.proofs.lemmas.Bool.{cases_lt}
use Rattle.std.proofs.lemmas.List.{get_or-map, length-map, length-take-le, map-append, take_all, take_more}
use Rattle.std.proofs.lemmas.Option.{none-some, same_Some, slice_get-get_or, slice_get-map, slice_get_within}
use Rattle.std.proofs.Math.Nat.{mod-eq_of_lt, mod-lt, mod_self}
use Rattle.common_graph.specs.Cycles.{IsCycle, IsLeastCycle, Path}

-- what a list with one more has at a place
push_cases : {A : Type 0} (xs : List A) (y : A) (k : ℕ) (x : A) → slice_get (xs ++ y ∷ []) k ≡ Some x → (slice_get xs k ≡ Some x) ⊎ ((k ≡ length xs) × (y ≡ x))
push_cases [] y zero x is = inr (refl, same_Some y x is)
push_cases [] y (suc k) x is = absurd (none-some x is)
push_cases (z ∷ zs) y zero x is = inl is
push_cases (z ∷ zs) y (suc k) x is = elim (push_cases zs y k x is) [
  | inl at ↦ inl at
  | inr (last, same) ↦ inr (omega arith, same)
]

push_front : {A : Type 0} (xs : List A) (y : A) (k : ℕ) (x : A) → slice_get xs k ≡ Some x → slice_get (xs ++ y ∷ []) k ≡ Some x
push_front [] y k x is = absurd (none-some x is)
push_front (z ∷ zs) y zero x is = is
push_front (z ∷ zs) y (suc k) x is = push_front zs y k x is

push_last : {A : Type 0} (xs : List A) (y : A) (k : ℕ) → k ≡ length xs → slice_get (xs ++ y ∷ []) k ≡ Some y
push_last [] y zero last = refl
push_last [] y (suc k) last = absurd (omega arith)
push_last (z ∷ zs) y zero last = absurd (omega arith)
push_last (z ∷ zs) y (suc k) last = push_last zs y k (omega arith)

module _ {Node : Type 0} (Step : Node → Node → Type 0) where
  step_as : (a b c d : Node) → a ≡ c → b ≡ d → Step a b → Step c d
  step_as a b c d one other step = subst (λ (x : Node). Step x d) one (subst (λ (y : Node). Step a y) other step)

  -- the steps of a path
  path_step : (start : Node) (rest : List Node) (end : Node) → Path Step start rest end → (k : ℕ) (one next : Node) → slice_get (start ∷ rest) k ≡ Some one → slice_get (rest ++ end ∷ []) k ≡ Some next → Step one next
  path_step start [] end path zero one next a b = step_as start end one next (same_Some start one a) (same_Some end next b) path
  path_step start [] end path (suc k) one next a b = absurd (none-some one a)
  path_step start (n ∷ rest) end (step, path) zero one next a b = step_as start n one next (same_Some start one a) (same_Some n next b) step
  path_step start (n ∷ rest) end (step, path) (suc k) one next a b = path_step n rest end path k one next a b

  -- and of a closed one
  around : (start : Node) (rest : List Node) → IsCycle Step start rest → (k : ℕ) (one next : Node) → slice_get (start ∷ rest) k ≡ Some one → slice_get (start ∷ rest) ((k + 1) % length (start ∷ rest)) ≡ Some next → Step one next
  around start rest cycle k one next a b = path_step start rest start cycle k one next a (after (cases_lt (k + 1) (length (start ∷ rest))))
    where
      at : (i : ℕ) → (k + 1) % length (start ∷ rest) ≡ i → slice_get (start ∷ rest) i ≡ Some next
      at i is = ap (λ (j : ℕ). slice_get (start ∷ rest) j) (sym is) ∙ b

      full : length (start ∷ rest) ≤ k + 1 → k + 1 ≡ length (start ∷ rest)
      full more = let low = slice_get_within (start ∷ rest) k one a in omega arith

      round : k + 1 ≡ length (start ∷ rest) → (k + 1) % length (start ∷ rest) ≡ 0
      round same = ap (λ (i : ℕ). i % length (start ∷ rest)) same ∙ mod_self (length (start ∷ rest))

      after : (k + 1 < length (start ∷ rest)) ⊎ (length (start ∷ rest) ≤ k + 1) → slice_get (rest ++ start ∷ []) k ≡ Some next
      after (inl less) = push_front rest start k next (at (suc k) (let same : (k + 1) % length (start ∷ rest) ≡ k + 1 = mod-eq_of_lt less in omega arith))
      after (inr more) = push_last rest start k (let same = full more in omega arith) ∙ at 0 (round (full more))

-- what stands at a place of a list, among those of places, and what stands at the next one
module _ {Spot : Type 0} (spot_at : ℕ → Spot) where
  pub spot_there : (places : List ℕ) (at : ℕ) (d spot : Spot) → at < length places → spot ≡ spot_at (get_or places at 0) → get_or (map spot_at places) at d ≡ spot
  spot_there places at d spot less is = get_or-map spot_at places at 0 d less ∙ sym is

  pub next_at : (places : List ℕ) (at : ℕ) (d spot : Spot) → at < length places → spot ≡ spot_at (get_or places ((at + 1) % length places) 0) → get_or (map spot_at places) ((at + 1) % length (map spot_at places)) d ≡ spot
  next_at places at d spot less is =
      let some : 0 < length places = omega arith in
      ap (λ (n : ℕ). get_or (map spot_at places) ((at + 1) % n) d) (length-map places spot_at) ∙ spot_there places ((at + 1) % length places) d spot (mod-lt (at + 1) some) is

  -- the steps of the least closed walk, by what is read
  module _ {Node : Type 0} (node_of : Spot → Node) (compare : Node → Node → Ordering) (Step : Node → Node → Type 0) where
    loop_step : (spots : List Spot) → IsLeastCycle compare Step (map node_of spots) → (k : ℕ) (one next : Spot) → slice_get spots k ≡ Some one → slice_get spots ((k + 1) % length spots) ≡ Some next → Step (node_of one) (node_of next)
    loop_step [] least k one next a b = absurd (none-some one a)
    loop_step (spot ∷ spots) least k one next a b = around Step (node_of spot) (map node_of spots) least.from.closed k (node_of one) (node_of next) (mapped k one a) (ap (λ (n : ℕ). slice_get (map node_of (spot ∷ spots)) ((k + 1) % n)) (length-map (spot ∷ spots) node_of) ∙ mapped ((k + 1) % length (spot ∷ spots)) next b)
      where
        mapped : (i : ℕ) (x : Spot) → slice_get (spot ∷ spots) i ≡ Some x → slice_get (map node_of (spot ∷ spots)) i ≡ Some (node_of x)
        mapped i x is = slice_get-map node_of (spot ∷ spots) i ∙ ap (λ (o : Option Spot). option_map node_of o) is

    loop_at : (spots : List Spot) → IsLeastCycle compare Step (map node_of spots) → (place : ℕ) (d : Spot) → place < length spots → Step (node_of (get_or spots place d)) (node_of (get_or spots ((place + 1) % length spots) d))
    loop_at spots least place d less =
        let some : 0 < length spots = omega arith in
        loop_step spots least place (get_or spots place d) (get_or spots ((place + 1) % length spots) d) (slice_get-get_or spots place d less) (slice_get-get_or spots ((place + 1) % length spots) d (mod-lt (place + 1) some))

    pub loop_places : (places : List ℕ) (at : ℕ) (channel next : Spot) → at < length places → channel ≡ spot_at (get_or places at 0) → next ≡ spot_at (get_or places ((at + 1) % length places) 0) → IsLeastCycle compare Step (map node_of (map spot_at places)) → Step (node_of channel) (node_of next)
    loop_places places at channel next less is is_next least =
        let size = length-map places spot_at in
        step_as (λ (a b : Spot). Step (node_of a) (node_of b)) (get_or (map spot_at places) at channel) (get_or (map spot_at places) ((at + 1) % length (map spot_at places)) channel) channel next
        (spot_there places at channel channel less is) (next_at places at channel next less is_next) (loop_at (map spot_at places) least at channel (omega arith))

-- what is told with each of a loop fits it and the next one
module _ {Spot One : Type 0} (spot_of : One → Spot) (Fits : One → Spot → Type 0) where
  abbrev pub AllFit : List Spot → List One → Type 0
  AllFit spots found =
      (place : ℕ) (one : One) (next : Spot) → slice_get found place ≡ Some one
      → slice_get spots ((place + 1) % length spots) ≡ Some next → Fits one next

  fits_more : (spots : List Spot) (found : List One) (one : One) (next : Spot) → AllFit spots found → slice_get spots ((length found + 1) % length spots) ≡ Some next → Fits one next → AllFit spots (found ++ one ∷ [])
  fits_more spots found one next are is by place other after has has_after = elim (push_cases found one place other has) [
    | inl before ↦ are place other after before has_after
    | inr (last, same) ↦ (
        let there : slice_get spots ((place + 1) % length spots) ≡ Some next = ap (λ (i : ℕ). slice_get spots ((i + 1) % length spots)) last ∙ is in
        let to : next ≡ after = same_Some next after (sym there ∙ has_after) in
        subst (λ (o : One). Fits o after) same (subst (λ (s : Spot). Fits one s) to by))
  ]

  -- those so far
  abbrev pub AreSoFar : List Spot → ℕ → List One → Type 0
  AreSoFar spots place found = (map spot_of found ≡ take place spots) × AllFit spots found

  pub more : (spots : List Spot) (found new : List One) (one : One) (place : ℕ) (d : Spot) → new ≡ found ++ one ∷ [] → place < length spots → AreSoFar spots place found → spot_of one ≡ get_or spots place d → Fits one (get_or spots ((place + 1) % length spots) d) → AreSoFar spots (place + 1) new
  more spots found new one place d is less so_far same by = subst (λ (xs : List One). AreSoFar spots (place + 1) xs) (sym is) (here, fits_more spots found one (get_or spots ((place + 1) % length spots) d) so_far.1 there by)
    where
      here : map spot_of (found ++ one ∷ []) ≡ take (place + 1) spots
      here = map-append spot_of found (one ∷ []) ∙ ap (λ (xs : List Spot). xs ++ spot_of one ∷ []) so_far.0 ∙ ap (λ (s : Spot). take place spots ++ s ∷ []) same ∙ sym (take_more spots place d less)

      count : length found ≡ place
      count = sym (length-map found spot_of) ∙ ap (λ (xs : List Spot). length xs) so_far.0 ∙ length-take-le place spots (omega arith)

      there : slice_get spots ((length found + 1) % length spots) ≡ Some (get_or spots ((place + 1) % length spots) d)
      there =
          let some : 0 < length spots = omega arith in
          ap (λ (n : ℕ). slice_get spots ((n + 1) % length spots)) count ∙ slice_get-get_or spots ((place + 1) % length spots) d (mod-lt (place + 1) some)

  pub done : (spots : List Spot) (found : List One) (place : ℕ) → length spots ≤ place → AreSoFar spots place found → (map spot_of found ≡ spots) × AllFit (map spot_of found) found
  done spots found place past so_far =
      let same : map spot_of found ≡ spots = so_far.0 ∙ take_all place spots past in
      (same, subst (λ (xs : List Spot). AllFit xs found) (sym same) so_far.1)
