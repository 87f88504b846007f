use Rattle.std.proofs.Common.{sym, subst, ℕ, arith, inl, inr}
use Rattle.std.proofs.lemmas.Bool.{cases_eq}
use Rattle.fabric_model.specs.declared.node.EndPort.{EndPort}
use Rattle.fabric_tables.specs.Cells.{tables_of}
use Rattle.fabric_lane_tables.specs.Lanes.{lanes_of}
use Rattle.fabric_lane_tables.specs.Levels.{levels_of}
use Rattle.fabric_routes.proofs.StartLemmas.{sent_low}
use Rattle.fabric_lane_witness.specs.Search.{Takes}
use Rattle.fabric_lane_witness.specs.Witness.{lane_channel_of}
use Rattle.fabric_lane_witness.proofs.TakeLemmas.{least_witness}
use Rattle.fabric_lane_witness.proofs.witness.find_lane_witness.Goals as goal

pub lids-init : goal.lids-init
lids-init c = λ other low. absurd (omega arith)

pub lids-preserved : goal.lids-preserved
lids-preserved c = λ other low. elim (cases_eq other c.lids.lid) [
  | inr before ↦ c.lids.invariant other (omega arith)
  | inl same ↦ subst (λ (d : ℕ). (source : EndPort) → Takes c.args.routing.now.fabric.now (tables_of c.args.routing.now.cells.now) (lanes_of c.args.routing.now.lanes.now) c.args.routing.now.traffic (levels_of c.args.routing.now.levels.now) d (lane_channel_of c.args.channel) (lane_channel_of c.args.next) source → ⊥) (sym same) (rw c.in_default.is at c.in_ok-found.ensures)
]

pub returns-in-Some : goal.returns-in-Some
returns-in-Some c = least_witness c.args.routing.now.fabric.now (tables_of c.args.routing.now.cells.now) (lanes_of c.args.routing.now.lanes.now) c.args.routing.now.traffic (levels_of c.args.routing.now.levels.now) c.lids.lid (lane_channel_of c.args.channel) (lane_channel_of c.args.next) c.in-Some.source c.in-Some.level c.lids.invariant (rw c.in-Some.is at c.in_ok-found.ensures)

pub returns : goal.returns
returns c = λ lid source level takes. c.lids.invariant lid (let low = sent_low c.args.routing.now.fabric.now (tables_of c.args.routing.now.cells.now) c.args.routing.now.traffic c.args.routing.now.cells.now.blocks c.args.routing.now.owners c.blocks-lid-end.ensures.past lid source takes.comes.sends.sends in omega arith) source (level, takes)
