use Rattle.std.proofs.Common.{◌≡◌, ◌∙◌, ap, sym, subst, arith, ℕ, List, set}
use Rattle.flow_channels.specs.Board.{flow_of, ways}
use Rattle.flow_channels.specs.Watch.{AreAwake}
use Rattle.flow_channels.proofs.AheadLemmas.{ahead_asks, ahead_still}
use Rattle.flow_channels.proofs.WatchLemmas.{awake_here, awake_there}
use Rattle.flow_channels.proofs.watch.Watch.see.Goals as goal

pub see_first-requires-clause-was : goal.see_first-requires-clause-was
see_first-requires-clause-was c = let was = c.requires.was in record { old = was.old; held = was.held.arriving; touched = was.touched }

pub see_room-requires-clause-was : goal.see_room-requires-clause-was
see_room-requires-clause-was c = let was = c.requires.was in record { old = was.old; held = was.held.free; touched = was.touched }

pub insert-requires : goal.insert-requires
insert-requires c =
    let low = c.requires.spot.at in
    let at = c.from.ensures in
    omega arith

pub insert-requires-in-Some : goal.insert-requires-in-Some
insert-requires-in-Some c =
    let low = (c.requires.kept.within c.args.channel c.in-Some.end (ahead_asks (ways c.args.tables.now) (flow_of c.args.board.now) c.args.channel c.in-Some.end c.args.ahead c.requires.ahead (sym c.asks.ensures ∙ c.in-Some.is))).at in
    let at = c.from-in-Some.ensures in
    omega arith

pub returns-in-Some : goal.returns-in-Some
returns-in-Some c =
    let t = c.args.tables.now in
    let b = c.args.board.now in
    let sets = c.args.self.now.awake in
    let was = c.requires.was in
    let far = ahead_asks (ways t) (flow_of b) c.args.channel c.in-Some.end c.args.ahead c.requires.ahead (sym c.asks.ensures ∙ c.in-Some.is) in
    let first : c.insert.new.self ≡ set sets c.args.channel.at 1 = c.insert.ensures ∙ ap (λ (k : ℕ). set sets k 1) c.from.ensures in
    let second : c.insert-in-Some.new.self ≡ set (set sets c.args.channel.at 1) c.in-Some.end.at 1 = c.insert-in-Some.ensures ∙ ap (λ (k : ℕ). set c.insert.new.self k 1) c.from-in-Some.ensures ∙ ap (λ (xs : List ℕ). set xs c.in-Some.end.at 1) first in
    record {
      arriving = c.see_first.ensures;
      free = c.see_room.ensures;
      awake = subst (λ (xs : List ℕ). AreAwake t (flow_of b) xs) (sym second) (
          awake_there t c.args.channel was.old (flow_of b) sets was.held.awake c.requires.spot was.touched c.in-Some.end far (c.requires.kept.within c.args.channel c.in-Some.end far));
    }

pub returns-in_default : goal.returns-in_default
returns-in_default c =
    let t = c.args.tables.now in
    let b = c.args.board.now in
    let sets = c.args.self.now.awake in
    let was = c.requires.was in
    let first : c.insert.new.self ≡ set sets c.args.channel.at 1 = c.insert.ensures ∙ ap (λ (k : ℕ). set sets k 1) c.from.ensures in
    record {
      arriving = c.see_first.ensures;
      free = c.see_room.ensures;
      awake = subst (λ (xs : List ℕ). AreAwake t (flow_of b) xs) (sym first) (
          awake_here t c.args.channel was.old (flow_of b) sets was.held.awake c.requires.spot was.touched (ahead_still (ways t) (flow_of b) c.args.channel c.args.ahead c.requires.ahead (sym c.asks.ensures ∙ c.in_default.is)));
    }
