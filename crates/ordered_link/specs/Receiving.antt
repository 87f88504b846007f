-- One direction of a session at its receiver: which bodies are accepted, held or ignored, and which are
-- acknowledged.

use Rattle.std.specs.Prelude.{◌≡◌, ℕ, zero, suc, ◌+◌, ◌%◌, ◌<◌, ◌≤◌, ◌==◌, ◌||◌, nat_le, List, [], ◌∷◌, ◌++◌}
use Rattle.std.specs.Prelude.{length, drop, slice_index_or, Option, Some, None, is_some, Bool, true, false}
use Rattle.std.specs.Prelude.{if◌then◌else◌}
use Rattle.an_base.specs.declared.body.Body.{Body}
use Rattle.ordered_link.specs.declared.receiver.Verdict.{Verdict}
use Rattle.ordered_link.specs.declared.receiver.Verdict.TheVariants.{Accepted, Held, Repeat, Ahead}
use Rattle.ordered_link.specs.declared.receiver.Early.{Early}

-- the bodies accepted, the k-th of which has number k, and the body held for each number
pub record Receiving : Type 0 where
  pub accepted : List Body
  pub held : ℕ → Option Body

-- nothing was received
abbrev pub untouched : Receiving
untouched = record { accepted = []; held = λ number. None }

-- the number of the last body accepted
abbrev pub last : Receiving → ℕ
last receiving = length receiving.accepted

-- whether body `number` was accepted or is held
abbrev pub has_come : ℕ → Receiving → Bool
has_come number receiving = nat_le number (last receiving) || is_some (receiving.held number)

-- the receiver after it has accepted `body`
abbrev pub accept : Body → Receiving → Receiving
accept body receiving = record receiving { accepted = receiving.accepted ++ body ∷ [] }

-- the receiver that holds this body, or none, for `number`
abbrev pub hold : ℕ → Option Body → Receiving → Receiving
hold number body receiving =
    record receiving { held = λ other. if other == number then body else receiving.held other }

-- the receiver after body `number` comes: a repeat; or the wanted one, which is accepted; or one of the seven after
-- it, which is held; or one ahead of these
abbrev pub come : ℕ → Body → Receiving → Receiving
come number body receiving =
    if has_come number receiving then receiving
    else if number == last receiving + 1 then accept body receiving
    else if nat_le number (last receiving + 8) then hold number (Some body) receiving
    else receiving

-- the verdict on body `number`: accepted; a repeat, with the number of the last accepted body; or held or ahead,
-- with the wanted number and its own
abbrev pub verdict : ℕ → Body → Receiving → Verdict
verdict number body receiving =
    if has_come number receiving then Repeat (last receiving)
    else if number == last receiving + 1 then Accepted body
    else if nat_le number (last receiving + 8) then Held (last receiving + 1) number
    else Ahead (last receiving + 1) number

-- the receiver after it has accepted the wanted body, if that is held
abbrev pub follow_with : Option Body → Receiving → Receiving
follow_with None receiving = receiving
follow_with (Some body) receiving = hold (last receiving + 1) None (accept body receiving)

-- the receiver after it has accepted the wanted body, if it holds it
abbrev pub follow : Receiving → Receiving
follow receiving = follow_with (receiving.held (last receiving + 1)) receiving

-- the receiver after it has accepted up to `most` held bodies that follow each other
abbrev pub follow_all : ℕ → Receiving → Receiving
follow_all zero receiving = receiving
follow_all (suc most) receiving = follow_all most (follow receiving)

-- the receiver after this verdict: if the body is accepted, so are the held ones that follow it, at most seven
abbrev pub after_verdict : Verdict → Receiving → Receiving
after_verdict (Accepted body) receiving = follow_all 7 receiving
after_verdict (Held wanted got) receiving = receiving
after_verdict (Repeat last) receiving = receiving
after_verdict (Ahead wanted got) receiving = receiving

-- the receiver after body `number` comes, and the held ones that follow it are accepted, if it is
abbrev pub received : ℕ → Body → Receiving → Receiving
received number body receiving = after_verdict (verdict number body receiving) (come number body receiving)

-- the bodies that are accepted when body `number` comes, in the order of their numbers
abbrev pub accepted_by : ℕ → Body → Receiving → List Body
accepted_by number body receiving = drop (last receiving) (received number body receiving).accepted

-- whether all bodies accepted up to now are acknowledged: they are, unless the body is too far ahead
abbrev pub is_acknowledged : Verdict → Bool
is_acknowledged (Accepted body) = true
is_acknowledged (Held wanted got) = true
is_acknowledged (Repeat last) = true
is_acknowledged (Ahead wanted got) = false

-- what a receiver keeps; it need not keep the bodies that it accepted
pub record ReceiverOf : Type 0 where
  pub last : ℕ
  pub places : List (Option Early)

-- a held body, with its number
abbrev pub early : ℕ → Option Body → Option Early
early number None = None
early number (Some body) = Some (record { k = number; body = body })

-- the receiver keeps the number of accepted bodies, and each held body in the slot of its number
pub record IsLeftOf (kept : ReceiverOf) (receiving : Receiving) : Type 0 where
  pub last : kept.last ≡ length receiving.accepted
  pub held : (number : ℕ) → kept.last < number → number ≤ kept.last + 8
      → slice_index_or kept.places (number % 8) None ≡ early number (receiving.held number)
  pub near : (number : ℕ) → kept.last + 8 < number → receiving.held number ≡ None
