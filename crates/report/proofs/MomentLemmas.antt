-- The moments of a history that goes on.
use Rattle.std.proofs.Common.{◌≡◌, ◌∙◌, sym, ap, List, [], ◌∷◌, ◌++◌, append_assoc, append-nil}
use Rattle.an_base.specs.declared.event.Event.{Event}
use Rattle.report.specs.Moments.{Moment, moments, moments_after}

pub moments_on : (before events more : List Event) → moments_after before (events ++ more) ≡ moments_after before events ++ moments_after (before ++ events) more
moments_on before [] more = ap (λ (b : List Event). moments_after b more) (sym (append-nil before))
moments_on before (event ∷ events) more =
    let here : Moment = record { before = before; event = event } in
    let behind : List Event = before ++ event ∷ [] in
    ap (λ (ms : List Moment). here ∷ ms)
    (moments_on behind events more ∙ ap (λ (b : List Event). moments_after behind events ++ moments_after b more) (append_assoc before (event ∷ []) events))

pub moments_more : (history : List Event) (event : Event) → moments (history ++ event ∷ []) ≡ moments history ++ record { before = history; event = event } ∷ []
moments_more history event = moments_on [] history (event ∷ [])
