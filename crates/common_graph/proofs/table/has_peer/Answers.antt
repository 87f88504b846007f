use Rattle.common_graph.specs.Search.{HasNoneWithin, HasPeer, IsFirstWithin}
use Rattle.common_graph.proofs.OptionLemmas.{whether_some}
use Rattle.common_graph.proofs.WithinLemmas.{has_no_peer, is_peer}
use Rattle.common_graph.proofs.table.has_peer.Goals as goal

pub returns : goal.returns
returns c =
    let graph = c.args.graph.now in
    let table = c.args.table.now in
    let node = c.args.node in
    let own = c.value_of-own.result in
    let is = c.value_of-own.ensures in
    whether_some (HasNoneWithin graph table node own own) (HasPeer graph table node) (IsFirstWithin graph table node own own) c.first_within.result c.is_some.result c.is_some.ensures
    (has_no_peer graph table node own is)
    (is_peer graph table node own is)
    c.first_within.ensures.first
