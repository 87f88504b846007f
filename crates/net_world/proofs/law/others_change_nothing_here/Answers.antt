use Rattle.net_world.proofs.ElsewhereLemmas.{world_elsewhere}
use Rattle.net_world.proofs.FitLemmas.{world_hand_elsewhere, fit_stays}
use Rattle.net_world.proofs.law.others_change_nothing_here.Goals as goal

pub returns-clause-place : goal.returns-clause-place
returns-clause-place c script h more s others = (world_elsewhere script h more s others).place

pub returns-clause-switch : goal.returns-clause-switch
returns-clause-switch c script h more s others = (world_elsewhere script h more s others).switch

pub returns-clause-hand : goal.returns-clause-hand
returns-clause-hand c = world_hand_elsewhere

pub returns-clause-fit : goal.returns-clause-fit
returns-clause-fit c = fit_stays
