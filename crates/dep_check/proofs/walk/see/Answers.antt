use Rattle.std.proofs.Common.{◌≡◌, ◌∙◌, sym, ◌<◌, false, length, arith}
use Rattle.dep_check.specs.Walks.{seen_at}
use Rattle.dep_check.proofs.WalkLemmas.{sees_one, seen_read}
use Rattle.dep_check.proofs.walk.see.Goals as goal

pub returns-in_ok-push : goal.returns-in_ok-push
returns-in_ok-push c =
    let seen = c.args.seen.now.items in
    let low : c.place_of-place.result < length seen = omega (arith, c.requires.count, c.place_of-place.ensures.low) in
    let read = seen_read seen c.place_of-place.result c.args.spot c.index.result.now c.place_of-place.ensures.place low c.index.ensures in
    let bare : seen_at seen c.args.spot ≡ false = sym read ∙ c.if-not-index.true in
    rw (c.in_ok-push.ensures.items, c.place_of-place.ensures.place) (sees_one seen c.args.ahead.now.items c.args.spot c.requires.count c.requires.spot bare)
