use Rattle.std.proofs.Common.{◌≡◌, ◌*◌, ◌<◌, ◌/◌, ◌%◌, ℕ, true, map, length}
use Rattle.std.specs.List.{range_with_len}
use Rattle.net_graph.specs.Wires.{far_at}
use Rattle.wire_set.specs.WireState.{side_of, is_link, far_place}
use Rattle.wire_set.proofs.wires.sides_of.Given as goal

-- the sides so far
abbrev pub invariant-places : goal.invariant-places
invariant-places l = record {
  sides : l.sides.items ≡ map (λ at. side_of (far_at l.wiring (at / 13) (at % 13))) (range_with_len 0 l.at);
  far : (at : ℕ) → at < l.at → is_link (far_at l.wiring (at / 13) (at % 13)) ≡ true → far_place (far_at l.wiring (at / 13) (at % 13)) < 13 * length l.wiring.switches;
}
