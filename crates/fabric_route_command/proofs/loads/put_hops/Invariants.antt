use Rattle.std.proofs.Common.{◌≡◌, ◌<◌, ℕ, get_or}
use Rattle.fabric_tables.specs.Cells.{tables_of}
use Rattle.fabric_routes.specs.declared.hop.Hop.TheVariants.{Arrive}
use Rattle.fabric_routes.specs.Routes.{hop}
use Rattle.fabric_route_command.proofs.loads.put_hops.Given as goal

abbrev pub invariant-switches : goal.invariant-switches
invariant-switches l = (switch : ℕ) → switch < l.switch → get_or l.hops switch Arrive ≡ hop l.fabric (tables_of l.cells) switch l.lid
