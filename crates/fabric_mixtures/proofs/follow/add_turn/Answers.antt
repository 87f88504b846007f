use Rattle.std.proofs.Common.{sym}
use Rattle.fabric_tables.specs.Cells.{tables_of}
use Rattle.fabric_mixtures.proofs.RowLemmas.{insert_numbers}
use Rattle.fabric_mixtures.proofs.TurnLemmas.{turn_put}
use Rattle.fabric_mixtures.proofs.follow.add_turn.Goals as goal

pub returns-in-On-hop_for : goal.returns-in-On-hop_for
returns-in-On-hop_for c =
    let f = c.args.fabric.now in
    let link = c.in-On.ensures.link in
    turn_put f (tables_of c.args.first.now) (tables_of c.args.second.now) c.args.lid c.args.at c.in-On.port c.in-On.next c.in-On-hop_for.next_port c.in-On-hop_for._after c.args.graph.now c.insert.new.self (sym c.in-On.ensures.hop) (sym c.in-On-hop_for.ensures.hop)
    (insert_numbers c.args.graph.now c.insert.new.self c.args.at f.most c.in-On.port c.in-On.next c.in-On-hop_for.next_port c.most.result c.from.result c.from-in-On-hop_for.result c.most.ensures.most c.from.ensures c.from-in-On-hop_for.ensures (c.requires.graph.bases c.args.at c.in-On.port c.in-On.next link.entry link.leads) c.insert.ensures.leads)
    c.insert.ensures.wide c.insert.ensures.bases
