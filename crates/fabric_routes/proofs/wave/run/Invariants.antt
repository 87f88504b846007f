use Rattle.std.proofs.Common.{◌≡◌, ◌<◌, ◌≤◌, ◌+◌, ℕ, true, false, cond}
use Rattle.fabric_tables.specs.Cells.{tables_of}
use Rattle.fabric_routes.specs.Waves.{IsRunning, HasBit, gap}
use Rattle.fabric_model.specs.Fabric.{switch_count}
use Rattle.fabric_routes.proofs.wave.run.Given as goal

-- where nothing was fresh in a round, all is done
abbrev pub invariant-rounds : goal.invariant-rounds
invariant-rounds l = record {
  running : IsRunning l.fabric (tables_of l.cells) l.block (record { seen = l.fn.seen; graph = l.fn.graph; stopped = l.stopped }) (record { seen = l.seen; graph = l.graph; stopped = l.stops }) l.done;
  rest : l.fresh ≡ false → (switch bit : ℕ) → switch < switch_count l.fabric → HasBit l.seen switch bit → HasBit l.done switch bit;
}

abbrev pub decreases-rounds : goal.decreases-rounds
decreases-rounds l = cond l.fresh (gap l.done + 1) 0

-- the same of the switches so far
abbrev pub invariant-switches : goal.invariant-switches
invariant-switches l = record {
  running : IsRunning l.fabric (tables_of l.cells) l.block (record { seen = l.fn.seen; graph = l.fn.graph; stopped = l.stopped }) (record { seen = l.seen; graph = l.graph; stopped = l.stops }) l.done;
  rest : l.fresh ≡ false → (switch bit : ℕ) → switch < l.at → HasBit l.seen switch bit → HasBit l.done switch bit;
  most : gap l.done ≤ gap l.initial.done;
  less : l.fresh ≡ true → gap l.done < gap l.initial.done;
}
