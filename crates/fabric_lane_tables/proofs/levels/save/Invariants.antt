use Rattle.fabric_lane_tables.specs.PathLevels.{AreBlocksOf, AreOthersSame, ArePlaces, KeepsBlocks}
use Rattle.fabric_lane_tables.proofs.levels.save.Given as goal

-- the first blocks are kept
abbrev pub invariant-saving : goal.invariant-saving
invariant-saving l = record {
  kept : KeepsBlocks l.initial.rows.keys l.rows.keys;
  places : ArePlaces l.rows.keys l.places;
  saved : AreBlocksOf l.rows.keys l.places l.first l.block l.row;
  others : AreOthersSame l.initial.places l.places l.first l.blocks;
}
