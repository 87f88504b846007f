use Rattle.std.proofs.Common.{inl, inr}
use Rattle.fabric_lane_commands.specs.Inputs.{no_levels, wanting}
use Rattle.fabric_lane_commands.proofs.input.read_for.Goals as goal

pub returns-in-Err-clause-stopped : goal.returns-in-Err-clause-stopped
returns-in-Err-clause-stopped g c old new gave = elim c.in-Err.ensures.refused [
  | inl want ↦ wanting want
  | inr refused ↦ no_levels (record {
    text = c.args.topology.text.items;
    fabric = c.args.topology.fabric;
    found = c.in_ok-tables.tables;
    tables = record { gave = gave; tables = c.in_ok-tables.ensures.text };
    rows = c.in_ok-lanes.lanes;
    lanes = c.in_ok-lanes.ensures.lanes;
    refused = refused;
  })
]
