use Rattle.fabric_route_command.proofs.ArriveLemmas.{arrived_joined}
use Rattle.fabric_route_command.proofs.law.arrived_are_joined.Goals as goal

pub returns : goal.returns
returns c text fabric tables traffic is all = arrived_joined fabric (λ spot end leads. (c.links_have_two_ends.ensures.cables text fabric spot end is).0 leads) (c.a_text_is_of_a_fabric.ensures text fabric is) tables traffic all
