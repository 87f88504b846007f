use Rattle.std.proofs.Common.{◌∙◌, sym, ap, [], arith}
use Rattle.net_gen.specs.Generated.{DrawnOf, all_joined, made_of}
use Rattle.net_gen.specs.Made.{drawn_of}
use Rattle.net_gen.proofs.LinkLemmas.{joined_more}
use Rattle.net_gen.proofs.MadeLemmas.{joined_made, made_switches}
use Rattle.net_gen.proofs.script.add_links.Goals as goal

pub join-requires-clause-within : goal.join-requires-clause-within
join-requires-clause-within c =
    let t = all_joined c.args.count (drawn_of c.args.script.now c.args.draw.now) c.times._time in
    let count = made_switches c.args.count 0 t.links [] c.times.script c.times.invariant.0 in
    omega (arith, count)

pub times-preserved : goal.times-preserved
times-preserved c =
    let start = drawn_of c.args.script.now c.args.draw.now in
    let t = all_joined c.args.count start c.times._time in
    let (made, seed) = joined_made c.args.count t c.times.script c.join.new.script c.times.draw c.join.new.draw c.times.invariant.0 c.times.invariant.1 c.in_ok-join.ensures.links c.in_ok-join.ensures.seed in
    let more = sym (joined_more c.args.count start c.times._time) in
    (made ∙ ap (λ (d : DrawnOf). made_of c.args.count d.links 0 []) more, seed ∙ ap (λ (d : DrawnOf). d.seed) more)
