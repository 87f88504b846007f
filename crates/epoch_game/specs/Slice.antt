-- One epoch of the game: which lives joined it with which links, what each accepted, and the moves.

use Rattle.std.specs.Prelude.{◌≡◌, ◌≢◌, ◌==◌, ◌≤◌, ◌⊎◌, ℕ, List, [], ◌∷◌, Option, Some, None, if◌then◌else◌, All, Contains}
use Rattle.std.specs.Ordering.{is_eq}
use Rattle.an_base.specs.Values.{LifeId, EndId, PeerAt}
use Rattle.an_base.specs.Order.{life_cmp, PortsRise}
use Rattle.an_base.specs.declared.body.Body.{Body}
use Rattle.epoch_core.specs.Log.{CardOf, Log, on_port}
use Rattle.epoch_core.specs.Epoch.{sent}

-- Lists have the newest first. The first list is what the second was at some point in time, or is now: a tail of
-- it.
abbrev pub Earlier : {A : Type 0} → List A → List A → Type 0
Earlier moment [] = moment ≡ []
Earlier moment (newest ∷ rest) = (moment ≡ newest ∷ rest) ⊎ Earlier moment rest

-- a life that joined an epoch: what was fixed then, and what it has accepted since
pub record Node : Type 0 where
  pub card : CardOf
  pub log : Log

-- One epoch of the game: the node of each life that joined it. A life that has not joined has no links and no list.
abbrev pub Slice : Type 0
Slice = LifeId → Option Node

-- nobody has joined
abbrev pub nobody : Slice
nobody life = None

-- only these lives have joined
abbrev pub IsJoinedBy : List LifeId → Slice → Type 0
IsJoinedBy members state = (life : LifeId) (node : Node) → state life ≡ Some node → Contains members life

-- the epoch with another node of a life
abbrev pub with_node : Slice → LifeId → Node → Slice
with_node state life node other = if is_eq (life_cmp life other) then Some node else state other

-- the far end of the link at a port
abbrev pub link_at : ℕ → List PeerAt → Option EndId
link_at port [] = None
link_at port (link ∷ rest) = if link.port == port then Some link.peer else link_at port rest

-- the life with this card names a port of another as the far end of its own port
abbrev pub Names : CardOf → ℕ → LifeId → ℕ → Type 0
Names card port other other_port = link_at port card.links ≡ Some (record { life = other; port = other_port })

-- what `life` can join with: its links in ascending order of port, 1 to 12, and none to itself. The ends that they
-- name need not exist, nor name the life.
pub record IsCardOf (life : LifeId) (card : CardOf) : Type 0 where
  pub me : card.me ≡ life
  pub ports : PortsRise card.links
  pub least : All (λ link. 1 ≤ link.port) card.links
  pub most : All (λ link. link.port ≤ 12) card.links
  pub others : All (λ link. link.peer.life ≢ life) card.links

-- The lives and moves of an epoch: one of the lives joins with its own card, or accepts on a port the next body of
-- what another sent on the far one, if each names the other. A life that leaves only makes no more moves.
pub data Run (lives : List LifeId) (state : Slice) : Slice → Type 0 where
  none : Run lives state state
  joins : (later : Slice) (life : LifeId) (card : CardOf) → Run lives state later
      → later life ≡ None → Contains lives life → IsCardOf life card
      → Run lives state (with_node later life (record { card = card; log = [] }))
  accepts : (later : Slice) (life other : LifeId) (port other_port : ℕ) (node other_node : Node) (body : Body)
      → Run lives state later
      → later life ≡ Some node → later other ≡ Some other_node → Names node.card port other other_port
      → Names other_node.card other_port life port
      → Earlier (body ∷ on_port port node.log) (sent other_node.card other_port other_node.log)
      → Run lives state
      (with_node later life (record {
        card = node.card;
        log = record { port = port; body = body } ∷ node.log;
      }))
