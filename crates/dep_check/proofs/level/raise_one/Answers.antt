use Rattle.std.proofs.Common.{arith}
use Rattle.dep_check.proofs.LevelLemmas.{none_told, some_told, level_read}
use Rattle.dep_check.proofs.RoundLemmas.{raise_same, raise_new}
use Rattle.dep_check.proofs.level.raise_one.Goals as goal

pub returns-then-is_some : goal.returns-then-is_some
returns-then-is_some c = λ had due so_far.
    let levels = c.args.levels.now.items in
    let read = level_read levels c.place_of-place.result c.args.spot c.index.result.now c.place_of-place.ensures.place (omega (arith, c.requires.count, c.place_of-place.ensures.low)) c.index.ensures in
    let has = some_told c.index.result.now _ c.is_some.result read c.is_some.ensures c.if-is_some.true in
    raise_same c.args.level had due levels c.args.raised.now.items c.args.spot has.0 has.1 so_far

pub returns : goal.returns
returns c = λ had due so_far.
    let levels = c.args.levels.now.items in
    let read = level_read levels c.place_of-place.result c.args.spot c.index.result.now c.place_of-place.ensures.place (omega (arith, c.requires.count, c.place_of-place.ensures.low)) c.index.ensures in
    let bare = none_told c.index.result.now _ c.is_some.result read c.is_some.ensures c.if-is_some.false in
    rw (c.in_ok-push.ensures.items, c.place_of-place.ensures.place) (raise_new c.args.level had due levels c.args.raised.now.items c.args.spot c.requires.spot bare so_far)
