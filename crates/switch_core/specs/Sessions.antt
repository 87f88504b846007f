-- What is kept of the sessions at the ports represents their two directions.

use Rattle.std.specs.Prelude.{◌≡◌, ℕ, suc, ◌+◌, ◌-◌, ◌<◌, ◌≤◌, slice_get, Option, Some}
use Rattle.an_base.specs.declared.body.Body.{Body}
use Rattle.an_base.specs.declared.limits.TheConstants.{PORTS}
use Rattle.ordered_link.specs.Sending.{Sending, SenderOf, IsKeptOf, IsOut, unused}
use Rattle.ordered_link.specs.Receiving.{Receiving, IsLeftOf, last, untouched}
use Rattle.switch_core.specs.declared.session.Session.{Session}
use Rattle.switch_core.specs.declared.session.Sessions.{Sessions}
use Rattle.switch_core.specs.Switch.{at_port, is_unacked}

-- `session` represents its two directions
abbrev pub IsSessionOf : Session → Sending → Receiving → Type 0
IsSessionOf session sending receiving = IsKeptOf session.sender sending × IsLeftOf session.receiver receiving

-- nothing was sent or received in the session
abbrev pub IsNew : Session → Type 0
IsNew session = IsSessionOf session unused untouched

-- for each port, from port 1: the session, and whether some body that was pushed there is not acknowledged
abbrev pub AreSessions : Sessions → (ℕ → Sending) → (ℕ → Receiving) → Type 0
AreSessions sessions sendings receivings =
    (index : ℕ) → ((session : Session) → slice_get sessions.items index ≡ Some session
    → IsSessionOf session (sendings (suc index)) (receivings (suc index)))
    × (index < PORTS → slice_get sessions.unacked index ≡ Some (is_unacked (sendings (suc index))))

-- `P` holds for what the sender of `port` keeps
abbrev pub OfSender : Sessions → ℕ → (SenderOf → Type 0) → Type 0
OfSender sessions port P =
    (session : Session) → slice_get sessions.items (port - 1) ≡ Some session → P session.sender

-- body `number` is outstanding at `port`
abbrev pub IsOutAt : Sessions → ℕ → ℕ → Type 0
IsOutAt sessions port number = (1 ≤ number) × OfSender sessions port (λ kept. IsOut kept number)

-- what is sent changes by `change`, and `number` is the `answer` for what it was before
abbrev pub SendsBy : (Sending → Sending) → (Sending → Option ℕ) → Session → Session → Option ℕ → Type 0
SendsBy change answer old new number =
    (sending : Sending) (receiving : Receiving) → IsSessionOf old sending receiving
    → IsSessionOf new (change sending) receiving × (number ≡ answer sending)

-- what is received changes by `change`, and `value` is the `answer` for what it was before
abbrev pub ReceivesBy : {A : Type 0} → (Receiving → Receiving) → (Receiving → A) → Session → Session → A
    → Type 0
ReceivesBy change answer old new value =
    (sending : Sending) (receiving : Receiving) → IsSessionOf old sending receiving
    → IsSessionOf new sending (change receiving) × (value ≡ answer receiving)

-- what is sent at `port` changes by `change`, and `number` is the `answer` for what it was before
abbrev pub Sends : ℕ → (Sending → Sending) → (Sending → Option ℕ) → Sessions → Sessions → Option ℕ → Type 0
Sends port change answer old new number =
    (sendings : ℕ → Sending) (receivings : ℕ → Receiving) → AreSessions old sendings receivings
    → AreSessions new (at_port port (change (sendings port)) sendings) receivings
    × (number ≡ answer (sendings port))

-- what is received at `port` changes by `change`, and the value returned is the `answer` for what it was before
abbrev pub Receives : {A : Type 0} → ℕ → (Receiving → Receiving) → (Receiving → A) → Sessions → Sessions → A
    → Type 0
Receives port change answer old new value =
    (sendings : ℕ → Sending) (receivings : ℕ → Receiving) → AreSessions old sendings receivings
    → AreSessions new sendings (at_port port (change (receivings port)) receivings)
    × (value ≡ answer (receivings port))

-- the wanted body, if it is held
abbrev pub wanted : Receiving → Option Body
wanted receiving = receiving.held (last receiving + 1)
