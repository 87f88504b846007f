-- Lists in which something holds of each element at its place.
use Rattle.std.proofs.Common.{◌≡◌, subst, ℕ, zero, suc, List, [], ◌∷◌, ◌++◌, Some, length}
use Rattle.std.specs.Prelude.{slice_get}
use Rattle.std.proofs.lemmas.Option.{none-some, same_Some}

-- one more element
pub each_more : {X : Type 0} (P : ℕ → X → Type 0) (xs : List X) (y : X) → ((n : ℕ) (x : X) → slice_get xs n ≡ Some x → P n x) → P (length xs) y → (n : ℕ) (x : X) → slice_get (xs ++ y ∷ []) n ≡ Some x → P n x
each_more P [] y each last zero x is = subst (P 0) (same_Some y x is) last
each_more P [] y each last (suc n) x is = absurd (none-some x is)
each_more P (z ∷ xs) y each last zero x is = each 0 x is
each_more P (z ∷ xs) y each last (suc n) x is = each_more (λ (m : ℕ). P (suc m)) xs y (λ m w at. each (suc m) w at) last n x is
