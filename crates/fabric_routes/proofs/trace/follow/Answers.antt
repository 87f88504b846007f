use Rattle.std.proofs.Common.{◌∙◌, ◌+◌, sym, ap, refl, arith, length-set, set, take}
use Rattle.std.proofs.lemmas.List.{take_more_set}
use Rattle.fabric_tables.specs.Cells.{tables_of}
use Rattle.fabric_model.specs.Fabric.{switch_count}
use Rattle.fabric_routes.specs.declared.trace.Mark.TheVariants.{Open}
use Rattle.fabric_routes.specs.Trace.{hop_to}
use Rattle.fabric_routes.proofs.TraceLemmas.{few_new, fewer_new, follow_first, follow_more, followed_after, goes_after, reach_as}
use Rattle.fabric_routes.proofs.trace.follow.Goals as goal

pub hops-init : goal.hops-init
hops-init c = record {
  following = follow_first (hop_to c.args.fabric.now (tables_of c.args.cells.now) c.args.target) c.args.start c.args.marks.now (take 0 c.args.path.now) refl c.requires.new (let size = c.requires.ready.size in omega arith) c.requires.ready.settled c.requires.ready.ends c.requires.ready.short;
  room = few_new c.args.marks.now;
}

pub bounds-path-count : goal.bounds-path-count
bounds-path-count c =
    let less = fewer_new c.hops.marks c.hops.at c.hops.invariant.following.low (take c.hops.count c.hops.path) c.hops.invariant.following.opened c.hops.invariant.following.new in
    omega arith

pub returns-in-Ends-clause-followed : goal.returns-in-Ends-clause-followed
returns-in-Ends-clause-followed c =
    let hop_at = hop_to c.args.fabric.now (tables_of c.args.cells.now) c.args.target in
    let less = fewer_new c.hops.marks c.hops.at c.hops.invariant.following.low (take c.hops.count c.hops.path) c.hops.invariant.following.opened c.hops.invariant.following.new in
    let reached = reach_as hop_at c.args.start c.hops.marks (take c.hops.count c.hops.path) (take (c.hops.count + 1) (set c.hops.path c.hops.count c.hops.at)) c.hops.at c.hops.invariant.following (take_more_set c.hops.path c.hops.count c.hops.at (omega arith)) in
    followed_after hop_at c.args.start (set c.hops.marks c.hops.at Open) _ c.hops.at c.hop_to-does.result c.in-Ends.beyond reached.0 reached.1 (sym c.hop_to-does.ensures.hop) c.in-Ends.ensures

pub hops-preserved : goal.hops-preserved
hops-preserved c =
    let hop_at = hop_to c.args.fabric.now (tables_of c.args.cells.now) c.args.target in
    let less = fewer_new c.hops.marks c.hops.at c.hops.invariant.following.low (take c.hops.count c.hops.path) c.hops.invariant.following.opened c.hops.invariant.following.new in
    let reached = reach_as hop_at c.args.start c.hops.marks (take c.hops.count c.hops.path) (take (c.hops.count + 1) (set c.hops.path c.hops.count c.hops.at)) c.hops.at c.hops.invariant.following (take_more_set c.hops.path c.hops.count c.hops.at (omega arith)) in
    let goes = goes_after (set c.hops.marks c.hops.at Open) (switch_count c.args.fabric.now) c.hop_to-does.result c.in-Goes.next c.in-Goes.ensures c.hop_to-does.ensures.within in
    let size = c.requires.ready.size in
    let kept = c.hops.auto.marks in
    let same = length-set c.hops.marks c.hops.at Open in
    let room = c.hops.invariant.room in
    let low = goes.3 in
    record {
      following = follow_more hop_at c.args.start (set c.hops.marks c.hops.at Open) _ goes.0 c.in-Goes.next reached.0 (ap hop_at reached.1 ∙ sym c.hop_to-does.ensures.hop ∙ goes.1) goes.2 (omega arith);
      room = omega arith;
    }

pub hops-smaller : goal.hops-smaller
hops-smaller c = fewer_new c.hops.marks c.hops.at c.hops.invariant.following.low (take c.hops.count c.hops.path) c.hops.invariant.following.opened c.hops.invariant.following.new
