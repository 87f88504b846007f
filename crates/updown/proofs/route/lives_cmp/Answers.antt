use Rattle.std.proofs.Common.{◌∙◌, sym}
use Rattle.updown.proofs.RouteLemmas.{lives_by_place}
use Rattle.updown.proofs.route.lives_cmp.Goals as goal

pub returns : goal.returns
returns c = c.cmp.ensures ∙ sym (lives_by_place c.args.graph.now c.args.x c.args.y c.count-count.ensures.graph c.requires.x c.requires.y)
