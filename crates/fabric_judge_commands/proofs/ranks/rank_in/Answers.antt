use Rattle.std.proofs.Common.{◌∙◌, sym}
use Rattle.fabric_model.specs.declared.node.Side.TheVariants.{To}
use Rattle.fabric_judge_commands.proofs.RankLemmas.{rank_over_side}
use Rattle.fabric_judge_commands.proofs.ranks.rank_in.Goals as goal

pub returns-in-To : goal.returns-in-To
returns-in-To c =
    c.listed.ensures
    ∙ rank_over_side c.args.fabric.now c.args.place c.args.ranks.now (To c.in-To.field-0 c.in-To.field-1) c.requires (sym c.side_at.ensures.side ∙ c.in-To.is)
