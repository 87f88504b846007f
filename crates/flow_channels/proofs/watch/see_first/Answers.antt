use Rattle.std.proofs.Common.{◌∙◌, ap, sym, subst, refl, ℕ, List, set}
use Rattle.flow_channels.specs.Board.{flow_of, ways}
use Rattle.flow_channels.specs.Watch.{AreArriving}
use Rattle.flow_channels.proofs.AheadLemmas.{ahead_arrives, arriving, not_ahead}
use Rattle.flow_channels.proofs.WatchLemmas.{arriving_seen, one_in}
use Rattle.flow_channels.proofs.watch.see_first.Goals as goal

pub returns-in-Arrives : goal.returns-in-Arrives
returns-in-Arrives c =
    let t = c.args.tables.now in
    let flow = flow_of c.args.board.now in
    let sets = c.args.arriving.now in
    let was = c.requires.was in
    subst (λ (xs : List ℕ). AreArriving t flow xs) (sym (c.insert.ensures ∙ ap (λ (k : ℕ). set sets k 1) c.place_of-place.ensures.place)) (
    arriving_seen t c.args.channel was.old flow sets 1 was.held c.requires.spot was.touched
    (λ _. ahead_arrives (ways t) flow c.args.channel (sym c.requires.ahead ∙ c.in-Arrives.is)) (λ _. one_in))

pub returns-in-Rests : goal.returns-in-Rests
returns-in-Rests c =
    let t = c.args.tables.now in
    let flow = flow_of c.args.board.now in
    let sets = c.args.arriving.now in
    let was = c.requires.was in
    subst (λ (xs : List ℕ). AreArriving t flow xs) (sym (c.remove.ensures ∙ ap (λ (k : ℕ). set sets k 0) c.place_of-place.ensures.place)) (
    arriving_seen t c.args.channel was.old flow sets 0 was.held c.requires.spot was.touched
    (λ has. absurd (has refl)) (λ can. absurd (not_ahead (ways t) flow c.args.channel c.args.ahead c.requires.ahead (ap arriving c.in-Rests.is) can)))

pub returns-in-Asks : goal.returns-in-Asks
returns-in-Asks c =
    let t = c.args.tables.now in
    let flow = flow_of c.args.board.now in
    let sets = c.args.arriving.now in
    let was = c.requires.was in
    subst (λ (xs : List ℕ). AreArriving t flow xs) (sym (c.remove-in-Asks.ensures ∙ ap (λ (k : ℕ). set sets k 0) c.place_of-place.ensures.place)) (
    arriving_seen t c.args.channel was.old flow sets 0 was.held c.requires.spot was.touched
    (λ has. absurd (has refl)) (λ can. absurd (not_ahead (ways t) flow c.args.channel c.args.ahead c.requires.ahead (ap arriving c.in-Asks.is) can)))
