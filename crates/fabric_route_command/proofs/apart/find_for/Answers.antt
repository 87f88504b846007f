use Rattle.std.proofs.Common.{subst, sym}
use Rattle.std.specs.Prelude.{MatchOption}
use Rattle.fabric_model.specs.declared.traffic.Traffic.{Traffic}
use Rattle.fabric_route_command.specs.Joined.{AllJoined, IsApart}
use Rattle.fabric_route_command.proofs.ApartLemmas.{apart_by_one, joined_by_one, match_option}
use Rattle.fabric_route_command.proofs.apart.find_for.Goals as goal

pub returns-in-Managed : goal.returns-in-Managed
returns-in-Managed c =
    let fabric = c.args.fabric.now in
    subst (λ (traffic : Traffic). MatchOption c.find_managed.result (AllJoined fabric traffic) (λ pair. IsApart fabric traffic pair.lid pair.source)) (sym c.in-Managed.is) c.find_managed.ensures

pub returns-in_default : goal.returns-in_default
returns-in_default c =
    let fabric = c.args.fabric.now in
    match_option (joined_by_one fabric c.args.traffic) (λ pair. apart_by_one fabric c.args.traffic c.in_default.not-Managed pair.lid pair.source) c.find_pair.result c.find_pair.ensures
