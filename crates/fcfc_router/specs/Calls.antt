-- The calls of a router in order, and what follows from them for each packet.
use Rattle.std.specs.Prelude.{◌≡◌, ◌≢◌, ◌==◌, ◌+◌, ◌<◌, ◌≤◌, ℕ, List, [], ◌∷◌, ◌++◌, Option, Some, None, All}
use Rattle.std.specs.Prelude.{length, if◌then◌else◌}
use Rattle.an_base.specs.Rows.{ArePorts, ExitsRise}
use Rattle.fcfc_router.specs.declared.router.Grant.{Grant}
use Rattle.fcfc_router.specs.Router.{RequestOf, IsGranted}

-- `request` may be added: there is space, the packet does not wait, and there are 1 to 12 ports from 1 to 12, in
-- ascending order
pub record MayAsk (most : ℕ) (waiting : List RequestOf) (request : RequestOf) : Type 0 where
  pub room : length waiting < most
  pub new : All (λ other. other.packet ≢ request.packet) waiting
  pub some : 1 ≤ length request.ports
  pub ports : ArePorts request.ports
  pub rising : ExitsRise request.ports

-- a call: a request is added at the end; or a grant is asked for with the ports `free`, and `answer` is the result
pub data Call : Type 0 where
  Ask : (request : RequestOf) → Call
  Grants : (free : ℕ) → (answer : Option Grant) → Call

-- a list of calls leads from the waiting requests `old` to the waiting requests `new`
abbrev pub Leads : ℕ → List RequestOf → List Call → List RequestOf → Type 0
Leads most old [] new = old ≡ new
Leads most old (Ask request ∷ calls) new =
    MayAsk most old request × Leads most (old ++ (request ∷ [])) calls new
Leads most old (Grants free answer ∷ calls) new =
    (next : List RequestOf) × IsGranted free old next answer × Leads most next calls new

-- 1 if `one` and `other` are the same packet, otherwise 0
abbrev pub counts : ℕ → ℕ → ℕ
counts one other = if one == other then 1 else 0

-- how often `packet` asked
abbrev pub asked : ℕ → List Call → ℕ
asked packet [] = 0
asked packet (Ask request ∷ calls) = counts request.packet packet + asked packet calls
asked packet (Grants free answer ∷ calls) = asked packet calls

-- how often `packet` was granted a port
abbrev pub granted_by : ℕ → Option Grant → ℕ
granted_by packet None = 0
granted_by packet (Some grant) = counts grant.packet packet

abbrev pub granted : ℕ → List Call → ℕ
granted packet [] = 0
granted packet (Ask request ∷ calls) = granted packet calls
granted packet (Grants free answer ∷ calls) = granted_by packet answer + granted packet calls

-- how often `packet` waits
abbrev pub waits : ℕ → List RequestOf → ℕ
waits packet [] = 0
waits packet (request ∷ waiting) = counts request.packet packet + waits packet waiting

-- `request` was added in `calls`, and has not been granted since
abbrev pub WaitsSince : List Call → RequestOf → Type 0
WaitsSince calls request =
    (before after : List Call) × (calls ≡ before ++ (Ask request ∷ after))
    × (granted request.packet after ≡ 0)
