use Rattle.std.proofs.Common.{◌≤◌}
use Rattle.fabric_routes.specs.Counting.{IsCountOf}
use Rattle.fabric_routes.specs.Found.{IsChannel}
use Rattle.fabric_verdict.specs.Count.{IsLinkAt}
use Rattle.fabric_verdict.specs.Steps.{IsOutOfFirst}
use Rattle.fabric_verdict.proofs.links.links_of.Given as goal

-- those at the ports so far
abbrev pub invariant-ports : goal.invariant-ports
invariant-ports l =
    record {
      links : IsCountOf (IsOutOfFirst (IsLinkAt l.fabric) l.switch l.number) l.links;
      few_links : l.links ≤ l.number;
      channels : IsCountOf (IsOutOfFirst (IsChannel l.fabric) l.switch l.number) l.channels;
      few_channels : l.channels ≤ l.number;
    }
