use Rattle.std.proofs.Common.{◌≡◌, take, length}
use Rattle.topo_graph.specs.Table.{HasLinks, LinksAreWithin}
use Rattle.topo_graph.proofs.graph.row_of.Given as goal

-- the row has the links so far
abbrev pub invariant-links : goal.invariant-links
invariant-links l = HasLinks l.entries l.x (take l.link-index l.link-items) l.cells × LinksAreWithin l.entries l.x l.cells × (length l.cells ≡ 13)
