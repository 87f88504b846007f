use Rattle.std.proofs.Common.{◌≡◌, map}
use Rattle.std.specs.List.{range_with_len}
use Rattle.net_gen.specs.Generated.{send_of}
use Rattle.net_gen.specs.Made.{with_commands}
use Rattle.net_gen.proofs.script.add_sends.Given as goal

-- the sends so far
abbrev pub invariant-places : goal.invariant-places
invariant-places l = l.script ≡ with_commands (map (send_of l.count l.time) (range_with_len 0 l.place)) l.fn.script
