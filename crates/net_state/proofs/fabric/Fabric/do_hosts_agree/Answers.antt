use Rattle.std.proofs.Common.{◌∙◌, ap, rules, tests}
use Rattle.std.specs.List.{list_all}
use Rattle.std.proofs.lemmas.Iterator.{YieldsList-from_slice}
use Rattle.std.proofs.lemmas.Iterator.Search.{all_from_yields_List}
use Rattle.net_state.specs.Fabric.{FabricOf}
use Rattle.net_state.specs.Agree.{host_agrees}
use Rattle.net_state.proofs.fabric.Fabric.do_hosts_agree.Goals as goal

pub returns : goal.returns
returns c =
    all_from_yields_List (host_agrees c.args.self.now) _ _ _ c.all.ensures.ran (YieldsList-from_slice c.hosts.result.now (cc)) (λ x b q k. search (rules, tests)) ∙ ap (list_all (host_agrees c.args.self.now)) (c.hosts.ensures.hosts ∙ ap (λ (f : FabricOf). f.script.wires.hosts) c.self.view_is)
