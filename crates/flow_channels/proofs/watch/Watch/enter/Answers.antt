use Rattle.std.proofs.Common.{◌∙◌, ap, sym, subst, arith, ℕ, List, set}
use Rattle.flow_channels.specs.Board.{flow_of}
use Rattle.flow_channels.specs.Flows.{asks, FlowOf, WaitOf}
use Rattle.flow_channels.specs.Watch.{AreAwake, IsWatched}
use Rattle.flow_channels.proofs.WatchLemmas.{arriving_entered, awake_entered, free_entered}
use Rattle.flow_channels.proofs.watch.Watch.enter.Goals as goal

pub insert-requires : goal.insert-requires
insert-requires c =
    let low = c.requires.from in
    let at = c.from.ensures in
    omega arith

pub returns-clause-watched : goal.returns-clause-watched
returns-clause-watched c =
    let t = c.args.tables.now in
    let old = flow_of c.args.board.now in
    let watch = c.args.self.now in
    let packet = c.args.packet in
    let wait : WaitOf = record { packet = record { packet = packet.packet; to = packet.to }; entry = 0 } in
    let sets = c.insert.ensures ∙ ap (λ (k : ℕ). set watch.awake k 1) c.from.ensures in
    subst (λ (f : FlowOf). IsWatched t f (record { arriving = watch.arriving; free = watch.free; awake = c.insert.new.self })) (sym c.enter.ensures.flow) (record {
      arriving = arriving_entered t c.args.from wait old watch.arriving c.requires.watched.arriving;
      free = free_entered t c.args.from wait old watch.free.items c.requires.watched.free;
      awake = subst (λ (xs : List ℕ). AreAwake t (asks c.args.from wait old) xs) (sym sets) (awake_entered t c.args.from wait old watch.awake c.requires.from c.requires.watched.awake);
    })
