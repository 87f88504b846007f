use Rattle.std.proofs.Common.{◌∙◌, sym}
use Rattle.fabric_lane_tables.specs.Levels.{levels_of}
use Rattle.fabric_lane_tables.proofs.InUseLemmas.{used_both, used_none}
use Rattle.fabric_lane_tables.proofs.in_use.used_at.Goals as goal

pub returns-in-None : goal.returns-in-None
returns-in-None c = λ level low. used_none c.args.fabric.now (levels_of c.args.given.now) c.args.source c.args.lid c.levels-asked.result level low c.levels-asked.ensures (sym c.owner.ensures ∙ c.in-None.is)

pub returns-in-Some : goal.returns-in-Some
returns-in-Some c = λ level low. used_both c.args.fabric.now (levels_of c.args.given.now) c.args.source c.in-Some.owner c.args.lids.now c.args.lid c.levels-asked.result c.asked_to.result level low c.levels-asked.ensures (sym c.owner.ensures ∙ c.in-Some.is) c.requires (c.asked_to.ensures level low)
