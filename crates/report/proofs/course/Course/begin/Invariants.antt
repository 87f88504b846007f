use Rattle.std.proofs.Common.{◌≡◌, map}
use Rattle.std.specs.List.{range_with_len}
use Rattle.net_graph.specs.Wires.{network}
use Rattle.report.proofs.course.Course.begin.Given as goal

-- the lives so far
abbrev pub invariant-switches : goal.invariant-switches
invariant-switches l = l.lives.items ≡ map (network l.wiring).life (range_with_len 0 l.s)
