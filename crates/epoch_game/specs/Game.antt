-- The game of all lives and all epochs, and its moves.

use Rattle.std.specs.Prelude.{◌≡◌, ◌≢◌, ◌==◌, ◌+◌, ◌<◌, ◌⊎◌, ◌↔◌, ℕ, List, [], ◌∷◌, Option, Some, None, Bool, true, false, if◌then◌else◌, Contains}
use Rattle.std.specs.Ordering.{is_eq}
use Rattle.an_base.specs.Values.{LifeId, TopoOf}
use Rattle.an_base.specs.Order.{life_cmp}
use Rattle.an_base.specs.declared.body.Body.{Body}
use Rattle.epoch_core.specs.Log.{CardOf, on_port}
use Rattle.epoch_core.specs.Epoch.{version, position, finish, sent}
use Rattle.epoch_game.specs.Slice.{Earlier, Node, Slice, with_node, Names, IsCardOf, IsJoinedBy}
use Rattle.epoch_game.specs.Detection.{Reached, IsDetected}

-- The game of all epochs: the epoch in which each life is now, its node in each epoch that it joined, and whether
-- it loaded there. It has left each epoch that it joined except for its present one.
pub record Game : Type 0 where
  pub present : LifeId → ℕ
  pub nodes : LifeId → ℕ → Option Node
  pub loaded : LifeId → ℕ → Bool

-- one epoch of the game
abbrev pub slice : ℕ → Game → Slice
slice epoch game life = game.nodes life epoch

-- at first each life is in some epoch that it has not joined
abbrev pub begins : (LifeId → ℕ) → Game
begins first = record { present = first; nodes = λ life epoch. None; loaded = λ life epoch. false }

-- the game with another node of a life in an epoch
abbrev pub with_node_in : Game → ℕ → LifeId → Node → LifeId → ℕ → Option Node
with_node_in game epoch life node other other_epoch =
    if epoch == other_epoch then with_node (slice other_epoch game) life node other
    else game.nodes other other_epoch

-- the present epochs, after a life has moved to this one
abbrev pub with_present : Game → LifeId → ℕ → LifeId → ℕ
with_present game life epoch other = if is_eq (life_cmp life other) then epoch else game.present other

-- the loads, after a life loaded in this epoch
abbrev pub with_loaded : Game → LifeId → ℕ → LifeId → ℕ → Bool
with_loaded game life epoch other other_epoch =
    if is_eq (life_cmp life other) then (if epoch == other_epoch then true else game.loaded other other_epoch)
    else game.loaded other other_epoch

-- the game after a life joined an epoch with this card
abbrev pub after_join : Game → LifeId → ℕ → CardOf → Game
after_join game life epoch card =
    record {
      present = with_present game life epoch;
      nodes = with_node_in game epoch life (record { card = card; log = [] });
      loaded = game.loaded;
    }

-- the game after a life accepted a body on a port in its present epoch
abbrev pub after_accept : Game → LifeId → Node → ℕ → Body → Game
after_accept game life node port body =
    let next : Node = record { card = node.card; log = record { port = port; body = body } ∷ node.log } in
    record {
      present = game.present;
      nodes = with_node_in game (game.present life) life next;
      loaded = game.loaded;
    }

-- the game after a life loaded in its present epoch
abbrev pub after_load : Game → LifeId → Game
after_load game life =
    record { present = game.present; nodes = game.nodes; loaded = with_loaded game life (game.present life) }

-- some life has sent a body in `epoch`
pub record HasSent (game : Game) (epoch : ℕ) : Type 0 where
  pub life : LifeId
  pub node : Node
  pub joined : game.nodes life epoch ≡ Some node
  pub port : ℕ
  pub sent : sent node.card port node.log ≢ []

-- `epoch` is higher than the present one of `life`: the next, or one in which a body was sent
pub record MayJoin (game : Game) (life : LifeId) (epoch : ℕ) : Type 0 where
  pub greater : game.present life < epoch
  pub known : (epoch ≡ game.present life + 1) ⊎ HasSent game epoch

-- The moves: a life joins a higher epoch and leaves its present one; a life accepts in its present epoch, on a
-- port, the next body of what another sent on the far one, if each names the other, even if that one has left; a
-- life that has finished loads in its present epoch, once.
pub data Play (lives : List LifeId) (game : Game) : Game → Type 0 where
  none : Play lives game game
  joins : (later : Game) (life : LifeId) (epoch : ℕ) (card : CardOf) → Play lives game later
      → MayJoin later life epoch → Contains lives life → IsCardOf life card
      → Play lives game (after_join later life epoch card)
  accepts : (later : Game) (life other : LifeId) (port other_port : ℕ) (node other_node : Node) (body : Body)
      → Play lives game later
      → later.nodes life (later.present life) ≡ Some node
      → later.nodes other (later.present life) ≡ Some other_node → Names node.card port other other_port
      → Names other_node.card other_port life port
      → Earlier (body ∷ on_port port node.log) (sent other_node.card other_port other_node.log)
      → Play lives game (after_accept later life node port body)
  loads : (later : Game) (life : LifeId) (node : Node) (topology : TopoOf) → Play lives game later
      → later.nodes life (later.present life) ≡ Some node → finish node.card node.log ≡ Some topology
      → later.loaded life (later.present life) ≡ false
      → Play lives game (after_load later life)

-- `life` has finished in `epoch`
pub record HasFinished (game : Game) (life : LifeId) (epoch : ℕ) : Type 0 where
  pub node : Node
  pub joined : game.nodes life epoch ≡ Some node
  pub topology : TopoOf
  pub finish : finish node.card node.log ≡ Some topology

-- What holds of an epoch in which `root_life` was stable at some point in time with itself as root, now and after
-- every further move, as long as only `members` join the epoch:
pub record IsDetectedIn (lives members : List LifeId) (game : Game) (epoch : ℕ) (root_life : LifeId)
    : Type 0 where
  pub detected : IsDetected members (slice epoch game) root_life
  -- later, the same lives are reached from the root in that epoch
  pub reached : (later : Game) (life : LifeId)
      → Play lives game later → IsJoinedBy members (slice epoch later)
      → (Reached (slice epoch later) root_life life) ↔ (Reached (slice epoch game) root_life life)
  -- each life that is reached keeps its version and its position there
  pub version : (life : LifeId) (node later_node : Node) (later : Game)
      → Reached (slice epoch game) root_life life → game.nodes life epoch ≡ Some node
      → Play lives game later → IsJoinedBy members (slice epoch later)
      → later.nodes life epoch ≡ Some later_node
      → version later_node.card later_node.log ≡ version node.card node.log
  pub position : (life : LifeId) (node later_node : Node) (later : Game)
      → Reached (slice epoch game) root_life life → game.nodes life epoch ≡ Some node
      → Play lives game later → IsJoinedBy members (slice epoch later)
      → later.nodes life epoch ≡ Some later_node
      → position later_node.card later_node.log ≡ position node.card node.log
