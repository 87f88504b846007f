-- The requests that wait at a switch, and the next grant: first come, first considered.
use Rattle.std.specs.Prelude.{◌≡◌, ◌≤◌, ℕ, List, ◌∷◌, ◌++◌, Option, Some, None, All, Any, Contains}
use Rattle.std.specs.Int.{bit_at}
use Rattle.fcfc_router.specs.declared.router.Grant.{Grant}

-- a packet that waits, and the ports that it may leave by, in ascending order
pub record RequestOf : Type 0 where
  pub packet : ℕ
  pub ports : List ℕ

-- `port` is in the set `ports`: the bit of its number is 1
abbrev pub IsFree : ℕ → ℕ → Type 0
IsFree ports port = bit_at ports port ≡ 1

-- `port` is the lowest port of the set `ports`
pub record IsLowest (ports port : ℕ) : Type 0 where
  pub is_in : IsFree ports port
  pub least : (other : ℕ) → IsFree ports other → port ≤ other

-- `request` names a free port
abbrev pub CanGo : ℕ → RequestOf → Type 0
CanGo free request = Any (IsFree free) request.ports

-- no waiting request names a free port
abbrev pub NoneCanGo : ℕ → List RequestOf → Type 0
NoneCanGo free waiting = All (λ request. CanGo free request → ⊥) waiting

-- `grant` gives `request` the lowest free port that it names
pub record Gets (free : ℕ) (request : RequestOf) (grant : Grant) : Type 0 where
  pub packet : grant.packet ≡ request.packet
  pub named : Contains request.ports grant.port
  pub is_free : IsFree free grant.port
  pub lowest : (port : ℕ) → Contains request.ports port → IsFree free port → grant.port ≤ port

-- `grant` is for the oldest request that names a free port. It is removed, and the others keep their order.
pub record Grants (free : ℕ) (old new : List RequestOf) (grant : Grant) : Type 0 where
  pub older : List RequestOf
  pub request : RequestOf
  pub younger : List RequestOf
  pub old_is : old ≡ older ++ (request ∷ younger)
  pub new_is : new ≡ older ++ younger
  pub passed : NoneCanGo free older
  pub gets : Gets free request grant

-- the result of asking for a grant: None if and only if no request names a free port, and then nothing changes
abbrev pub IsGranted : ℕ → List RequestOf → List RequestOf → Option Grant → Type 0
IsGranted free old new None = (new ≡ old) × NoneCanGo free old
IsGranted free old new (Some grant) = Grants free old new grant
