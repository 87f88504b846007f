use Rattle.std.proofs.Common.{◌∙◌, sym, ◌<◌, true, length, arith}
use Rattle.dep_check.proofs.DeepLemmas.{visited}
use Rattle.dep_check.proofs.WalkLemmas.{seen_read}
use Rattle.dep_check.proofs.deep.make_visit.Goals as goal

pub returns-in_ok-come_to_all : goal.returns-in_ok-come_to_all
returns-in_ok-come_to_all c =
    let seen = c.args.seen.now.items in
    let low : c.place_of-place.result < length seen = omega (arith, c.requires.count, c.place_of-place.ensures.low) in
    let read = seen_read seen c.place_of-place.result c.args.at.spot c.index.result.now c.place_of-place.ensures.place low c.index.ensures in
    visited seen c.args.path.now.items c.push-then-not-index.new.self.items c.come_to_all.new.path.items c.args.left.now.items c.args.at.spot c.place_of-place.result (record { spot = c.args.at.spot; leaves = true }) c.requires.count c.requires.spot c.place_of-place.ensures.place (sym read ∙ c.if-not-index.true) c.in_ok-push-2.ensures.items c.in_ok-come_to_all.ensures c.requires.left
