use Rattle.std.proofs.Common.{◌≡◌, ◌↔◌, Bool, true, false, not, refl}
use Rattle.std.proofs.lemmas.Bool.{false≢true, iff_false}
use Rattle.fabric_routes.proofs.audience.is_heard.Goals as goal

-- what is so unless something else is
if_not : (b : Bool) (Else Is : Type 0) → ((b ≡ true) ↔ Else) → ((Else → ⊥) → Is) → (Is → Else → ⊥) → ((not b ≡ true) ↔ Is)
if_not true Else Is told is only = (λ e. absurd (false≢true e), λ has. absurd (only has (told.0 refl)))
if_not false Else Is told is only = (λ _. is (λ other. false≢true (told.1 other)), λ _. refl)

pub returns-then-not-is_heard_from : goal.returns-then-not-is_heard_from
returns-then-not-is_heard_from c = (λ e. absurd (false≢true e), λ heard. absurd (iff_false c.is_heard_from.ensures c.if-not-is_heard_from.true heard.is_from))

pub returns : goal.returns
returns c = if_not c.is_owner.result _ _ c.is_owner.ensures
    (λ other. record { is_from = c.is_heard_from.ensures.0 c.if-not-is_heard_from.false; other = other })
    (λ heard. heard.other)
