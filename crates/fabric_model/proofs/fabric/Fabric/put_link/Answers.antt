use Rattle.fabric_model.proofs.FabricLemmas.{linked, same_ports}
use Rattle.fabric_model.proofs.fabric.Fabric.put_link.Goals as goal

pub put_side-requires-2-clause-port : goal.put_side-requires-2-clause-port
put_side-requires-2-clause-port c = same_ports c.args.self.now c.put_side.new.self c.put_side.new.self.sides c.args.other c.put_side.ensures.rest c.requires.other_port

pub returns : goal.returns
returns c = linked c.args.self.now c.put_side.new.self c.put_side-2.new.self c.args.one c.args.other c.put_side.ensures c.put_side-2.ensures
