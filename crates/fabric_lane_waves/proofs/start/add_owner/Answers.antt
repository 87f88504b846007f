use Rattle.std.proofs.Common.{◌∙◌, sym}
use Rattle.fabric_lane_waves.proofs.SetLemmas.{own_at, own_away, own_none}
use Rattle.fabric_lane_waves.proofs.start.add_owner.Goals as goal

pub returns-in_default : goal.returns-in_default
returns-in_default c = own_none c.args.fabric.now c.args.block c.args.bit c.args.owned.now (sym c.owner.ensures ∙ c.in_default.is)

pub returns-in_default-place_of_source : goal.returns-in_default-place_of_source
returns-in_default-place_of_source c = own_away c.args.fabric.now c.args.block c.args.bit c.args.owned.now c.in-Some.owner (sym c.owner.ensures ∙ c.in-Some.is) (sym c.place_of_source.ensures.place ∙ c.in_default-place_of_source.is)

pub returns : goal.returns
returns c = own_at c.args.fabric.now c.args.block c.args.bit c.args.owned.now c.in-Some.owner (sym c.owner.ensures ∙ c.in-Some.is) c.in-Some-place_of_source.place (sym c.place_of_source.ensures.place ∙ c.in-Some-place_of_source.is) c.in-Some-place_of_source.ensures.low c.mark.new.words c.mark.auto.words c.mark.ensures
