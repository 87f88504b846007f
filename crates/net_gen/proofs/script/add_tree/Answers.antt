use Rattle.std.proofs.Common.{◌∙◌, sym, ap, [], arith}
use Rattle.net_gen.specs.Generated.{DrawnOf, made_of, tree_of}
use Rattle.net_gen.proofs.LinkLemmas.{tree_more}
use Rattle.net_gen.proofs.MadeLemmas.{grown_made, made_switches}
use Rattle.net_gen.proofs.script.add_tree.Goals as goal

pub grow-requires-clause-within : goal.grow-requires-clause-within
grow-requires-clause-within c =
    let t = tree_of c.args.draw.now c.places.place in
    let count = made_switches c.args.count 0 t.links [] c.places.script c.places.invariant.0 in
    omega (arith, count, c.places-test.true)

pub places-preserved : goal.places-preserved
places-preserved c =
    let t = tree_of c.args.draw.now c.places.place in
    let (made, seed) = grown_made c.args.count c.places.place t c.places.script c.grow.new.script c.places.draw c.grow.new.draw c.places.invariant.0 c.places.invariant.1 c.in_ok-grow.ensures.links c.in_ok-grow.ensures.seed in
    let more = sym (tree_more c.args.draw.now c.places.place (omega (arith, c.places.auto.place))) in
    (made ∙ ap (λ (d : DrawnOf). made_of c.args.count d.links 0 []) more, seed ∙ ap (λ (d : DrawnOf). d.seed) more)
