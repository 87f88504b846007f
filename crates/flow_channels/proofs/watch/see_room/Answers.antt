use Rattle.std.proofs.Common.{◌∙◌, ap, arith, sym, subst, ℕ, get_or, set}
use Rattle.std.proofs.lemmas.List.{get_or_read}
use Rattle.flow_channels.specs.Board.{flow_of}
use Rattle.flow_channels.specs.Watch.{AreFreePorts, HasPortIf}
use Rattle.flow_channels.proofs.WatchLemmas.{free_seen}
use Rattle.flow_channels.proofs.watch.see_room.Goals as goal

pub returns : goal.returns
returns c =
    let t = c.args.tables.now in
    let flow = flow_of c.args.board.now in
    let was = c.requires.was in
    let sets = c.args.free.now.items in
    let channel = c.args.channel in
    let has = c.has_room-has_room.result in
    let new = c.with_port.result in
    let count = was.held.count in
    let low = c.requires.spot.at in
    let at = c.from-at.ensures in
    let read = get_or_read sets c.from-at.result c.index.result.now (omega arith) c.index.ensures 0 ∙ ap (λ (k : ℕ). get_or sets k 0) c.from-at.ensures in
    let set_is = subst (λ (s : ℕ). HasPortIf s channel.port has new) read c.with_port.ensures in
    subst (λ (k : ℕ). AreFreePorts t flow 127 (set sets k new)) (sym c.from-at.ensures) (
    free_seen t channel has was.old flow sets new was.held c.requires.spot was.touched c.has_room-has_room.ensures set_is)
