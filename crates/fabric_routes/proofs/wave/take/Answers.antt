use Rattle.std.proofs.Common.{◌≡◌, ◌∙◌, ◌<◌, sym, ap, subst, ◌⊎◌, ◌↔◌, ℕ, ◌+◌, ◌-◌, ◌*◌, arith, inl, inr, get_or}
use Rattle.common_graph.specs.Graph.{GraphOf, LeadsTo}
use Rattle.fabric_tables.specs.Cells.{tables_of}
use Rattle.fabric_routes.proofs.ChannelLemmas.{insert_as, node_as, offset_as}
use Rattle.fabric_routes.proofs.TakenLemmas.{taken_arrive, taken_last, taken_on, taken_stop}
use Rattle.fabric_routes.proofs.wave.take.Goals as goal

-- the numbers of the code are those of the channels
numbers : (old new : GraphOf) (at most port next next_port wide_most wide_port wide_next : ℕ) → wide_most ≡ most → wide_port ≡ port → wide_next ≡ next_port → get_or old.bases (at * most + (port - 1)) 0 ≡ next * most → ((one other : ℕ) → (LeadsTo new one other ↔ (LeadsTo old one other ⊎ ((one ≡ at * wide_most + (wide_port - 1)) × (other ≡ get_or old.bases (at * wide_most + (wide_port - 1)) 0 + (wide_next - 1)))))) → (one other : ℕ) → (LeadsTo new one other ↔ (LeadsTo old one other ⊎ ((one ≡ at * most + (port - 1)) × (other ≡ next * most + (next_port - 1)))))
numbers old new at most port next next_port wide_most wide_port wide_next m p n base leads one other =
    let channel : at * wide_most + (wide_port - 1) ≡ at * most + (port - 1) = cc in
    let first : get_or old.bases (at * wide_most + (wide_port - 1)) 0 ≡ next * most = ap (λ (k : ℕ). get_or old.bases k 0) channel ∙ base in
    let second : get_or old.bases (at * wide_most + (wide_port - 1)) 0 + (wide_next - 1) ≡ next * most + (next_port - 1) = cc in (
      λ has. elim ((leads one other).0 has) [
        | inl had ↦ inl had
        | inr (a, b) ↦ inr (a ∙ channel, b ∙ second)
      ],
      λ either. elim either [
        | inl had ↦ (leads one other).1 (inl had)
        | inr (a, b) ↦ (leads one other).1 (inr (a ∙ sym channel, b ∙ sym second))
      ],
    )

pub insert-requires-clause-within : goal.insert-requires-clause-within
insert-requires-clause-within c = insert_as c.args.fabric.now c.args.graph.now c.args.at c.in-On.port c.in-On.next c.in-Some.next_port c.most.result c.from.result c.from-in-Some.result c.most.ensures.most c.from.ensures c.from-in-Some.ensures c.requires.graph c.in-On.ensures.link c.in-Some.ensures.low.0 c.in-Some.ensures.low.1

pub returns-in-Some : goal.returns-in-Some
returns-in-Some c =
    let f = c.args.fabric.now in
    let link = c.in-On.ensures.link in
    taken_on f (tables_of c.args.cells.now) c.args.block c.args.at c.args.bit c.in-On.port c.in-On.next (sym c.in-On.ensures.hop) c.args.seen.now c.mark.new.words c.args.graph.now c.args.stopped c.mark.ensures (omega arith) c.in-Some.next_port c.in-Some.ensures.hop.0 c.in-Some.ensures.hop.1 c.insert.new.self
    (numbers c.args.graph.now c.insert.new.self c.args.at f.most c.in-On.port c.in-On.next c.in-Some.next_port c.most.result c.from.result c.from-in-Some.result c.most.ensures.most c.from.ensures c.from-in-Some.ensures (c.requires.graph.bases c.args.at c.in-On.port c.in-On.next link.entry link.leads) c.insert.ensures.leads)
    c.insert.ensures.wide c.insert.ensures.bases

pub returns-in_default : goal.returns-in_default
returns-in_default c =
    taken_last c.args.fabric.now (tables_of c.args.cells.now) c.args.block c.args.at c.args.bit c.in-On.port c.in-On.next (sym c.in-On.ensures.hop) c.args.seen.now c.mark.new.words c.args.graph.now c.args.stopped c.mark.ensures (omega arith) c.in_default.ensures.hop

pub mark-requires-clause-switch : goal.mark-requires-clause-switch
mark-requires-clause-switch c = subst (λ (n : ℕ). c.in-On.next < n) (sym c.requires.count) c.in-On.ensures.link.within

pub overflow_sub-channel : goal.overflow_sub-channel
overflow_sub-channel c = subst (λ (n : ℕ). 0 < n) (sym c.from.ensures) c.in-On.ensures.link.used

pub overflow_sub-from : goal.overflow_sub-from
overflow_sub-from c = subst (λ (n : ℕ). 0 < n) (sym c.from-in-Some.ensures) c.in-Some.ensures.low.0

pub insert-requires-clause-node : goal.insert-requires-clause-node
insert-requires-clause-node c = node_as c.args.fabric.now c.args.graph.now c.args.at c.in-On.port c.most.result c.from.result c.most.ensures.most c.from.ensures c.requires.graph c.requires.at c.in-On.ensures.link.used c.in-On.ensures.link.low

pub insert-requires-clause-offset : goal.insert-requires-clause-offset
insert-requires-clause-offset c = offset_as c.args.fabric.now c.args.graph.now c.in-Some.next_port c.from-in-Some.result c.from-in-Some.ensures c.requires.graph c.in-Some.ensures.low.0 c.in-Some.ensures.low.1

pub returns-in-Arrive : goal.returns-in-Arrive
returns-in-Arrive c = taken_arrive c.args.fabric.now (tables_of c.args.cells.now) c.args.block c.args.at c.args.bit (sym c.in-Arrive.ensures.hop) c.args.seen.now c.args.graph.now c.args.stopped

pub returns-in-Stop : goal.returns-in-Stop
returns-in-Stop c = taken_stop c.args.fabric.now (tables_of c.args.cells.now) c.args.block c.args.at c.args.bit _ (sym c.in-Stop.ensures.hop) c.args.seen.now c.args.graph.now c.args.stopped
