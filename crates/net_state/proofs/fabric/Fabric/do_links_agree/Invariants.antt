use Rattle.std.proofs.Common.{◌≡◌, drop}
use Rattle.std.specs.List.{list_all}
use Rattle.net_state.specs.Agree.{link_agrees}
use Rattle.net_state.proofs.fabric.Fabric.do_links_agree.Given as goal

-- what is left decides
abbrev pub invariant-links : goal.invariant-links
invariant-links l = list_all (link_agrees l.self) l.link-items ≡ list_all (link_agrees l.self) (drop l.link-index l.link-items)
