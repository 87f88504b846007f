use Rattle.std.proofs.Common.{◌<◌, ℕ}
use Rattle.fabric_model.specs.declared.node.EndPort.TheVariants.{Switch}
use Rattle.fabric_model.specs.Fabric.{switch_count}
use Rattle.fabric_tables.specs.Cells.{tables_of}
use Rattle.fabric_routes.specs.Witness.{ComesFor}
use Rattle.fabric_routes.specs.Trace.{IsReady, hop_to, way}
use Rattle.fabric_routes.proofs.witness.first_switch.Given as goal

-- none of those so far comes
abbrev pub invariant-switches : goal.invariant-switches
invariant-switches l = record {
  ready : IsReady (hop_to l.fabric (tables_of l.cells) (way l.lid l.via)) (switch_count l.fabric) l.marks;
  none : (other : ℕ) → other < l.switch → ComesFor l.fabric (tables_of l.cells) l.audience l.lid l.via (Switch other) → ⊥;
}
