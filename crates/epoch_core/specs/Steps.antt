-- The effect of one more body on each part of what is kept of an epoch, used by the private functions of the core.

use Rattle.std.specs.Prelude.{◌≡◌, suc, ⊤, List, [], ◌∷◌, ◌++◌, map, Option, Some, None, Bool, not}
use Rattle.std.specs.Prelude.{if◌then◌else◌}
use Rattle.std.specs.List.{flat_map}
use Rattle.an_base.specs.Values.{Place, TopoOf, EntryOf}
use Rattle.an_base.specs.declared.body.Body.{Body}
use Rattle.an_base.specs.declared.body.Body.TheVariants.{Pos, Answer, Stable, Topo}
use Rattle.tree_position.specs.Position.{position_of}
use Rattle.epoch_core.specs.Log.{OnPort, Log}
use Rattle.topo_report.specs.Report.{report_of}
use Rattle.std.specs.Option.{option_or}
use Rattle.epoch_core.specs.Epoch.{position, version, is_same, is_stable, finish, topology_of}
use Rattle.epoch_core.specs.Epoch.{reported_on, claiming_among, passed_on, positions_of, sent_up, sent_down}
use Rattle.epoch_core.specs.Heard.{HasHeard}
use Rattle.epoch_core.specs.StandsFor.{CoreOf, StandsFor, offers_of}

-- one more item is recorded and the position follows it, but stability and finish are still those before it
pub record HasNoted (core : CoreOf) (item : OnPort) (log : Log) : Type 0 where
  pub offers : core.offers ≡ offers_of core.card (item ∷ log)
  pub ports : HasHeard core.ports (item ∷ log)
  pub position : core.position ≡ position core.card (item ∷ log)
  pub version : core.version ≡ version core.card (item ∷ log)
  pub stable : core.is_stable ≡ is_stable core.card log
  pub finish : core.finish ≡ finish core.card log

-- the body is no topology
abbrev pub IsNoTopo : Body → Type 0
IsNoTopo (Pos pos) = ⊤
IsNoTopo (Answer answer) = ⊤
IsNoTopo (Stable entries) = ⊤
IsNoTopo (Topo topo) = ⊥

-- the position that the offers give
abbrev pub best_of : CoreOf → Place
best_of core = position_of core.offers.me core.offers.links core.offers.offered

-- whether the offers give another position than the one kept
abbrev pub is_moved : CoreOf → Bool
is_moved core = not (is_same (best_of core) core.position)

-- the core with the position that the offers give
abbrev pub repositioned : CoreOf → CoreOf
repositioned core = record core {
  position = best_of core;
  version = if is_moved core then suc core.version else core.version;
}

-- the position that the offers give, on each link, if it differs from the one kept
abbrev pub told_by : CoreOf → List OnPort
told_by core = if is_moved core then positions_of (suc core.version) (best_of core) core.card.links else []

-- whatever item was recorded, except for a topology, `new` represents the log with it, and the bodies that follow
-- from being stable were appended to what is to be sent
pub record Settles (old new : CoreOf) (before after : List OnPort) : Type 0 where
  pub card : new.card ≡ old.card
  pub epoch : new.epoch ≡ old.epoch
  pub version : new.version ≡ old.version
  pub stands : (item : OnPort) (log : Log) → IsNoTopo item.body → HasNoted old item log
      → StandsFor new (item ∷ log)
  pub sends : (item : OnPort) (log : Log) → IsNoTopo item.body → HasNoted old item log
      → after ≡ before ++ (sent_up old.card item log ++ sent_down old.card item log)

-- the entry of the life at the kept position
abbrev pub entry_of : CoreOf → EntryOf
entry_of core = record {
  life = core.card.me;
  position = core.position;
  proposed = core.card.proposed;
  links = core.card.links;
}

-- the report and its numbering, from what was kept of a log
abbrev pub topology_by : CoreOf → Log → TopoOf
topology_by core log =
    topology_of
    (report_of core.card.me (entry_of core ∷ flat_map (reported_on log) (claiming_among core.card.links log)))

-- the topology that the core has finished with or, if there is none, the report and its numbering
abbrev pub finish_or : CoreOf → Log → Option TopoOf
finish_or core log = option_or core.finish (Some (topology_by core log))

-- the bodies `down`, none if the core has finished already
abbrev pub unless_finished : Option TopoOf → List OnPort → List OnPort
unless_finished None down = down
unless_finished (Some topo) down = []

-- a core that has not finished finishes with the report of whatever log it keeps, and sends it on the links that
-- claim
pub record FinishesAsRoot (old new : CoreOf) (before after : List OnPort) : Type 0 where
  pub rest : new ≡ record old { finish = new.finish }
  pub finish : (log : Log) → HasHeard old.ports log → new.finish ≡ finish_or old log
  pub sends : (log : Log) → HasHeard old.ports log
      → after ≡ before
      ++ unless_finished old.finish
      (map (passed_on (topology_by old log)) (claiming_among old.card.links log))
