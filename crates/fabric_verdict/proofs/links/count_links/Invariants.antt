use Rattle.std.proofs.Common.{◌≤◌, ◌*◌}
use Rattle.fabric_routes.specs.Counting.{IsCountOf}
use Rattle.fabric_routes.specs.Found.{IsChannel}
use Rattle.fabric_verdict.specs.Count.{IsLinkAt}
use Rattle.fabric_verdict.specs.Steps.{IsOutBelow}
use Rattle.fabric_verdict.proofs.links.count_links.Given as goal

-- those of the switches so far
abbrev pub invariant-switches : goal.invariant-switches
invariant-switches l =
    record {
      links : IsCountOf (IsOutBelow (IsLinkAt l.fabric) l.switch) l.links;
      few_links : l.links ≤ l.switch * 255;
      channels : IsCountOf (IsOutBelow (IsChannel l.fabric) l.switch) l.channels;
      few_channels : l.channels ≤ l.switch * 255;
    }
