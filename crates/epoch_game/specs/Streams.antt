-- What was accepted on a port is a prefix, in order of time, of what the far end sent there, and shows the far end
-- as it was at some point in time.

use Rattle.std.specs.Prelude.{◌≡◌, ◌==◌, ◌≤◌, ◌⊎◌, ℕ, suc, List, [], ◌∷◌, Some, None, true, Contains}
use Rattle.an_base.specs.Values.{LifeId, Place, EntryOf, PosOf, TopoOf}
use Rattle.an_base.specs.declared.body.Body.{Body}
use Rattle.an_base.specs.declared.body.Body.TheVariants.{Pos, Answer, Stable, Topo}
use Rattle.epoch_core.specs.Log.{CardOf, Log, on_port, last_pos, is_claimed, answered, fresh_report}
use Rattle.epoch_core.specs.Epoch.{version, position, is_stable, report, finish, sent}
use Rattle.epoch_game.specs.Slice.{Earlier, Node, Slice, Names, IsCardOf}

-- the number of positions among bodies, and the number of answers
abbrev pub positions_in : List Body → ℕ
positions_in [] = 0
positions_in (Pos told ∷ bodies) = suc (positions_in bodies)
positions_in (Answer told ∷ bodies) = positions_in bodies
positions_in (Stable entries ∷ bodies) = positions_in bodies
positions_in (Topo topology ∷ bodies) = positions_in bodies

abbrev pub answers_in : List Body → ℕ
answers_in [] = 0
answers_in (Pos told ∷ bodies) = answers_in bodies
answers_in (Answer told ∷ bodies) = suc (answers_in bodies)
answers_in (Stable entries ∷ bodies) = answers_in bodies
answers_in (Topo topology ∷ bodies) = answers_in bodies

-- the position that a life sends on one of its ports for a version, by its number, and a place
abbrev pub told_on : ℕ → Place → ℕ → PosOf
told_on number place own_port =
    record { version = number; root = place.root; level = place.level; to_parent = (own_port == place.port) }

-- `entries` was the report of the life at a stable point in time up to `until`, in the same version, when
-- `own_port` led to its parent
pub record ReportsFrom (card : CardOf) (own_port : ℕ) (until : Log) (entries : List EntryOf) : Type 0 where
  pub moment : Log
  pub earlier : Earlier moment until
  pub version : version card moment ≡ version card until
  pub stable : is_stable card moment ≡ true
  pub report : entries ≡ report card moment
  pub port : (position card moment).port ≡ own_port

-- the last answer is to the position that the life had last heard on `own_port` at a point in time up to `until`,
-- and there are as many answers as it had heard positions there then
pub record AnswersFrom (card : CardOf) (own_port : ℕ) (until : Log) (heard : List Body) : Type 0 where
  pub moment : Log
  pub told : PosOf
  pub earlier : Earlier moment until
  pub version : version card moment ≤ version card until
  pub count : positions_in (on_port own_port moment) ≡ answers_in heard
  pub last : last_pos (on_port own_port moment) ≡ Some told
  pub answered : answered heard ≡ Some told.version

-- there is no answer in `heard`
pub record HasNoAnswer (heard : List Body) : Type 0 where
  pub count : answers_in heard ≡ 0
  pub answered : answered heard ≡ None

-- `heard`, which a life sent on `own_port`, shows the life as it was at `moment`
pub record Shows (card : CardOf) (own_port : ℕ) (moment : Log) (heard : List Body) : Type 0 where
  -- the last position is that of `moment`, and there are as many positions as the version then says
  pub count : positions_in heard ≡ version card moment
  pub place : last_pos heard ≡ Some (told_on (version card moment) (position card moment) own_port)
  -- the life claims if and only if its port leads to its parent
  pub claimed : is_claimed heard ≡ (own_port == (position card moment).port)
  pub report : (entries : List EntryOf) → fresh_report heard ≡ Some entries
      → ReportsFrom card own_port moment entries
  pub answer : HasNoAnswer heard ⊎ AnswersFrom card own_port moment heard
  -- a topology that was heard is the one with which the life finished
  pub topology : (topology : TopoOf) → Contains heard (Topo topology) → finish card moment ≡ Some topology

-- what `life` accepted on a port was sent: the far end has joined, each names the other, and what was accepted is
-- the beginning of what the far end sent there
pub record WasSent (state : Slice) (life : LifeId) (own : Node) (own_port : ℕ) (heard : List Body)
    : Type 0 where
  pub far : LifeId
  pub port : ℕ
  pub node : Node
  pub named : Names own.card own_port far port
  pub joined : state far ≡ Some node
  pub back : Names node.card port life own_port
  pub earlier : Earlier heard (sent node.card port node.log)

-- what `life` accepted on a port shows the far end as it was at some point in time
pub record ShowsFar (state : Slice) (life : LifeId) (own : Node) (own_port : ℕ) (heard : List Body)
    : Type 0 where
  pub far : LifeId
  pub port : ℕ
  pub node : Node
  pub named : Names own.card own_port far port
  pub joined : state far ≡ Some node
  pub back : Names node.card port life own_port
  pub moment : Log
  pub earlier : Earlier moment node.log
  pub shows : Shows node.card port moment heard

-- `answered_version` is the number of answers in `heard`, and the life has had that version
pub record NamesItsNumber (node : Node) (heard : List Body) (answered_version : ℕ) : Type 0 where
  pub number : answered_version ≡ answers_in heard
  pub had : answered_version ≤ version node.card node.log

-- What holds of the streams of an epoch, at every point in time of each life that has joined:
pub record HasStreams (lives : List LifeId) (state : Slice) : Type 0 where
  -- a life that has joined is one of the lives, and has its own card
  pub nodes : (life : LifeId) (node : Node) → state life ≡ Some node
      → IsCardOf life node.card × Contains lives life
  -- what it accepted on a port is a beginning of what the far end sent there
  pub accepted : (life : LifeId) (node : Node) (port : ℕ) (moment : Log) → state life ≡ Some node
      → Earlier moment node.log
      → (on_port port moment ≡ []) ⊎ WasSent state life node port (on_port port moment)
  -- what it accepted on a port shows the far end as it was at some point in time
  pub shown : (life : LifeId) (node : Node) (port : ℕ) (moment : Log) → state life ≡ Some node
      → Earlier moment node.log
      → (on_port port moment ≡ []) ⊎ ShowsFar state life node port (on_port port moment)
  -- the last answer on a port names the version that has its number
  pub answers : (life : LifeId) (node : Node) (port : ℕ) (moment : Log) (answered_version : ℕ)
      → state life ≡ Some node → Earlier moment node.log
      → answered (on_port port moment) ≡ Some answered_version
      → NamesItsNumber node (on_port port moment) answered_version

-- a life that has joined keeps its card, and its list only grows
pub record HasGrown (state : Slice) (life : LifeId) (before : Node) : Type 0 where
  pub node : Node
  pub joined : state life ≡ Some node
  pub card : node.card ≡ before.card
  pub log : Earlier before.log node.log
