use Rattle.std.proofs.Common.{◌≡◌, ◌<◌, ◌≤◌, ◌+◌, ℕ, length, true, false, cond}
use Rattle.fabric_tables.specs.Cells.{tables_of}
use Rattle.fabric_lane_counts.specs.Gone.{AreSomeGone, IsSettled}
use Rattle.fabric_model.specs.Fabric.{switch_count}
use Rattle.fabric_routes.specs.Waves.{gap}
use Rattle.fabric_lane_tables.specs.Lanes.{lanes_of}
use Rattle.fabric_lane_counts.proofs.gone.put_gone.Given as goal

-- if nothing was fresh in a round, no word is to have a bit more
abbrev pub invariant-rounds : goal.invariant-rounds
invariant-rounds l = record {
  some : AreSomeGone l.routing.fabric.now (tables_of l.routing.cells.now) (lanes_of l.routing.lanes.now) l.lid l.gone;
  count : length l.gone ≡ switch_count l.routing.fabric.now;
  rest : l.fresh ≡ false → (switch : ℕ) → switch < switch_count l.routing.fabric.now → IsSettled l.routing.fabric.now (tables_of l.routing.cells.now) (lanes_of l.routing.lanes.now) l.lid l.gone switch;
}

abbrev pub decreases-rounds : goal.decreases-rounds
decreases-rounds l = cond l.fresh (gap l.gone + 1) 0

-- the same of the switches so far
abbrev pub invariant-switches : goal.invariant-switches
invariant-switches l = record {
  some : AreSomeGone l.routing.fabric.now (tables_of l.routing.cells.now) (lanes_of l.routing.lanes.now) l.lid l.gone;
  count : length l.gone ≡ switch_count l.routing.fabric.now;
  rest : l.fresh ≡ false → (switch : ℕ) → switch < l.switch → IsSettled l.routing.fabric.now (tables_of l.routing.cells.now) (lanes_of l.routing.lanes.now) l.lid l.gone switch;
  most : gap l.gone ≤ gap l.initial.gone;
  less : l.fresh ≡ true → gap l.gone < gap l.initial.gone;
}
