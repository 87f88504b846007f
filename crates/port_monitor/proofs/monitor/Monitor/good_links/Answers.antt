use Rattle.port_monitor.proofs.TwelveLemmas.{links_are}
use Rattle.port_monitor.proofs.monitor.Monitor.good_links.Goals as goal

pub returns : goal.returns
returns c histories after = links_are c.args.self.now histories c.links_of.result c.links_of.ensures.twelve after c.links_of.ensures.links
