-- Earlier lists are the ends of later ones.
use Rattle.std.proofs.Common.{◌⊎◌, inl, inr, List, [], ◌∷◌, ◌++◌, refl, sym, subst}
use Rattle.epoch_game.specs.Slice.{Earlier}

pub earlier_itself : {A : Type 0} (l : List A) → Earlier l l
earlier_itself [] = refl
earlier_itself (b ∷ l) = inl refl

pub earlier_nil : {A : Type 0} (l : List A) → Earlier [] l
earlier_nil [] = refl
earlier_nil (b ∷ l) = inr (earlier_nil l)

pub earlier_trans : {A : Type 0} (h k l : List A) → Earlier h k → Earlier k l → Earlier h l
earlier_trans h k [] a b = subst (Earlier h) b a
earlier_trans h k (x ∷ l) a (inl e) = subst (Earlier h) e a
earlier_trans h k (x ∷ l) a (inr b) = inr (earlier_trans h k l a b)

-- of two earlier ones one is the earlier
pub earlier_total : {A : Type 0} (h k l : List A) → Earlier h l → Earlier k l → Earlier h k ⊎ Earlier k h
earlier_total h k [] a b = inl (subst (Earlier h) (sym b) a)
earlier_total h k (x ∷ l) (inl e) b = inr (subst (Earlier k) (sym e) b)
earlier_total h k (x ∷ l) (inr a) (inl e) = inl (subst (Earlier h) (sym e) (inr a))
earlier_total h k (x ∷ l) (inr a) (inr b) = earlier_total h k l a b

pub earlier_append : {A : Type 0} (a r o : List A) → Earlier r o → Earlier r (a ++ o)
earlier_append [] r o e = e
earlier_append (x ∷ a) r o e = inr (earlier_append a r o e)
