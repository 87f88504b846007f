use Rattle.std.proofs.Common.{◌≡◌, refl, ℕ, List, Option, Some, None, Bool, true, false, cond}
use Rattle.std.specs.Str.{bytes_eq}
use Rattle.std.specs.Option.{option_map}
use Rattle.std.proofs.lemmas.Slice.Eq.{bytes_eq-Decides}

-- bytes that compare alike are one
pub word_is : (w v : List ℕ) → bytes_eq w v ≡ true → w ≡ v
word_is w v same = (bytes_eq-Decides w v).0 same

-- a choice that found something
pub branch : {X : Type 0} (b : Bool) (one more : Option X) (f : X) (Q : Type 0) → (b ≡ true → one ≡ Some f → Q) → (b ≡ false → more ≡ Some f → Q) → cond b one more ≡ Some f → Q
branch true one more f Q here later found = here refl found
branch false one more f Q here later found = later refl found

-- a choice by a map
pub mapped : {X Y : Type 0} (o : Option X) (g : X → Y) (f : Y) (Q : Type 0) → ((x : X) → o ≡ Some x → g x ≡ f → Q) → option_map g o ≡ Some f → Q
mapped None g f Q here found = absurd (cc)
mapped (Some x) g f Q here found = let same : g x ≡ f = cc in here x refl same
