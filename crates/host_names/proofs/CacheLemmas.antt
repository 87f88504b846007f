-- Steps of a cache: what is put in front, and what a look-up finds.
use Rattle.std.proofs.Common.{◌≡◌, List, [], ◌∷◌, Bool, Some, Ok, Err, cond, inl, inr, subst}
use Rattle.std.specs.Prelude.{All, find, insert, is_ok, IsOk, Result}
use Rattle.std.proofs.lemmas.Bool.{cases_Bool}
use Rattle.std.proofs.lemmas.List.Elements.{All-head, All-tail}

-- where there is room, what is inserted at 0 is in front
pub put_first : {X T E : Type 0} (r : Result T E) (now was : List X) (x : X) → IsOk r → now ≡ cond (is_ok r) (insert was 0 x) was → now ≡ x ∷ was
put_first (Ok v) now was x ok is = is
put_first (Err e) now was x ok is = absurd (cc)

-- what is found has what all have
pub found_has : {X : Type 0} (P : X → Type 0) (test : X → Bool) (xs : List X) (x : X) → All P xs → find test xs ≡ Some x → P x
found_has P test [] x all is = absurd (cc)
found_has P test (y ∷ ys) x all is = elim (cases_Bool (test y)) [
  | inl passes ↦ (
      let same : Some y ≡ Some x = rw passes at is in
      let one : y ≡ x = cc in
      subst P one (All-head P y ys all))
  | inr fails ↦ (
      let rest : find test ys ≡ Some x = rw fails at is in
      found_has P test ys x (All-tail P y ys all) rest)
]
