use Rattle.std.proofs.Common.{◌∙◌, sym, refl}
use Rattle.updown.proofs.PlaceLemmas.{life_here, are_distances}
use Rattle.updown.proofs.reach.distances.Goals as goal

pub unwrap-place-requires : goal.unwrap-place-requires
unwrap-place-requires c = let here = life_here c.args.graph.now c.args.to c.place.ensures.graph c.requires in rw (c.place.ensures.place, here.1) refl

pub returns : goal.returns
returns c =
    rw c.new.ensures (are_distances c.args.graph.now c.args.to c.unwrap-place.result c.in_ok-lives.lives.items c.in_ok-lengths.lengths (sym c.place.ensures.place ∙ c.unwrap-place.ensures) c.in_ok-lives.ensures.lives c.in_ok-lengths.ensures)
