use Rattle.flow_channels.proofs.BoardLemmas.{flow_asked, kept_asked, may_ask}
use Rattle.flow_channels.proofs.board.Board.ask.Goals as goal

pub ask_set-requires : goal.ask_set-requires
ask_set-requires c =
    let b = c.args.self.now in
    let r = c.requires in
    may_ask c.args.tables.now b.packets b.entries b.queues b.routers r.kept c.args.at c.args.slot c.args.entry r.at r.entry r.slot r.sound c.from.result c.get-exits.result c.index_mut-2.result.now c.index.result.now c.from.ensures c.index_mut-2.ensures.value c.index.ensures c.get-exits.ensures

pub returns-clause-kept : goal.returns-clause-kept
returns-clause-kept c =
    let b = c.args.self.now in
    let r = c.requires in
    kept_asked c.args.tables.now b.packets b.entries b.queues b.routers r.kept c.args.at c.args.slot c.args.entry r.at r.entry r.slot r.sound c.from.result c.get-exits.result c.index_mut-2.result.now c.index.result.now c.from.ensures c.index_mut-2.ensures.value c.index.ensures c.get-exits.ensures c.ask_set.new.self c.ask_set.ensures

pub returns-clause-flow : goal.returns-clause-flow
returns-clause-flow c =
    let b = c.args.self.now in
    let r = c.requires in
    flow_asked c.args.tables.now b.packets b.entries b.queues b.routers r.kept c.args.at c.args.slot c.args.entry r.at r.entry r.slot r.sound c.from.result c.get-exits.result c.index_mut-2.result.now c.index.result.now c.from.ensures c.index_mut-2.ensures.value c.index.ensures c.get-exits.ensures c.ask_set.new.self c.ask_set.ensures
