-- Histories: what holds of all, and beginnings of one.

use Rattle.std.specs.Prelude.{◌≡◌, ◌⊎◌, List, [], ◌∷◌, ◌++◌, refl}
use Rattle.std.proofs.Common.{sym, ap, subst, inl, inr, append_assoc}
use Rattle.std.proofs.lemmas.List.{append-nil}
use Rattle.an_base.specs.declared.event.Event.{Event}

-- what holds at first and after each event more holds of each history
pub onward : (P : List Event → Type 0) → ((h : List Event) (e : Event) → P h → P (h ++ e ∷ [])) → (more h : List Event) → P h → P (h ++ more)
onward P next [] h old = subst P (sym (append-nil h)) old
onward P next (e ∷ more) h old = subst P (append_assoc h (e ∷ []) more) (onward P next more (h ++ e ∷ []) (next h e old))

pub by_events : (P : List Event → Type 0) → P [] → ((h : List Event) (e : Event) → P h → P (h ++ e ∷ [])) → (h : List Event) → P h
by_events P first next h = onward P next h [] first

-- of two beginnings of a history one is a beginning of the other
abbrev first_or : Event → List Event → Event
first_or d [] = d
first_or d (x ∷ xs) = x

abbrev rest_of : List Event → List Event
rest_of [] = []
rest_of (x ∷ xs) = xs

pub beginnings : (a b r s : List Event) → a ++ r ≡ b ++ s → ((m : List Event) × (b ≡ a ++ m)) ⊎ ((m : List Event) × (a ≡ b ++ m))
beginnings [] b r s is = inl (b, refl)
beginnings (x ∷ a) [] r s is = inr (x ∷ a, refl)
beginnings (x ∷ a) (y ∷ b) r s is = by (beginnings a b r s (ap rest_of is)) (ap (first_or x) is) where
  by : ((m : List Event) × (b ≡ a ++ m)) ⊎ ((m : List Event) × (a ≡ b ++ m)) → x ≡ y → ((m : List Event) × (y ∷ b ≡ x ∷ a ++ m)) ⊎ ((m : List Event) × (x ∷ a ≡ y ∷ b ++ m))
  by (inl k) head = inl (k.0, λ i. sym head i ∷ k.1 i)
  by (inr k) head = inr (k.0, λ i. head i ∷ k.1 i)
