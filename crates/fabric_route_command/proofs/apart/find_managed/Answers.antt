use Rattle.fabric_route_command.proofs.ApartLemmas.{apart_of_host, apart_to_host, joined_managed, match_option}
use Rattle.fabric_route_command.proofs.apart.find_managed.Goals as goal

pub returns-in-Some : goal.returns-in-Some
returns-in-Some c = apart_of_host c.args.fabric.now c.in-Some.pair.lid c.in-Some.pair.source c.in-Some.ensures

pub returns-in-None : goal.returns-in-None
returns-in-None c =
    let fabric = c.args.fabric.now in
    match_option (joined_managed fabric c.in-None.ensures) (λ pair. apart_to_host fabric pair.lid pair.source) c.find_pair-in-None.result c.find_pair-in-None.ensures
