use Rattle.fabric_verdict.proofs.PacketLemmas.{arrives}
use Rattle.fabric_verdict.proofs.law.no_packet_is_dropped.Goals as goal

pub returns : goal.returns
returns c fabric tables traffic channel packet kept stands leaves = arrives fabric tables traffic kept channel packet stands leaves
