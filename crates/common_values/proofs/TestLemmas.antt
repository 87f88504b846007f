-- Proofs by the two answers of a test.
use Rattle.std.proofs.Common.{◌≡◌, refl, Bool, true, false, cond}

-- what holds at both answers of a test holds of it
pub by_test : (P : Bool → Type 0) (b : Bool) → (b ≡ true → P true) → (b ≡ false → P false) → P b
by_test P true = λ yes _. yes refl
by_test P false = λ _ no. no refl

-- what holds of the value that a test chooses
pub by_choice : {A : Type 0} (P : A → Type 0) (b : Bool) (x y : A) → (b ≡ true → P x) → (b ≡ false → P y) → P (cond b x y)
by_choice P true x y one other = one refl
by_choice P false x y one other = other refl
