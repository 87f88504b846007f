use Rattle.std.proofs.Common.{refl}
use Rattle.fabric_judge_call.specs.declared.words.Task.TheVariants.{Answer, Between, Lanes, LanesDot, Repair, Repaired, Route}
use Rattle.fabric_commands.proofs.CallLemmas.{answers_call, answers_usage}
use Rattle.fabric_commands.proofs.fabric.fabric.Goals as goal

pub returns-in-Answer : goal.returns-in-Answer
returns-in-Answer g c = answers_call _ _ _ _ _ _ c.in-Some.call (Answer c.in-Answer.question) c.in-Some.ensures.call c.in-Answer.is (refl, c.answer_question.ensures)

pub returns-in-Route : goal.returns-in-Route
returns-in-Route g c = answers_call _ _ _ _ _ _ c.in-Some.call Route c.in-Some.ensures.call c.in-Route.is (record { more_kept = refl; tables_kept = refl; answers = c.route.ensures })

pub returns-in-Repair : goal.returns-in-Repair
returns-in-Repair g c = answers_call _ _ _ _ _ _ c.in-Some.call Repair c.in-Some.ensures.call c.in-Repair.is (refl, c.answer.ensures)

pub returns-in-Repaired : goal.returns-in-Repaired
returns-in-Repaired g c = answers_call _ _ _ _ _ _ c.in-Some.call Repaired c.in-Some.ensures.call c.in-Repaired.is (refl, c.answer-in-Repaired.ensures)

pub returns-in-Lanes : goal.returns-in-Lanes
returns-in-Lanes g c = answers_call _ _ _ _ _ _ c.in-Some.call Lanes c.in-Some.ensures.call c.in-Lanes.is (record { asked = c.asked_for-asked.result; names = c.asked_for-asked.ensures.named; replies = c.asked_for-asked.ensures.replies; silent = c.asked_for-asked.ensures.silent; answers = c.lanes.ensures })

pub returns-in-LanesDot : goal.returns-in-LanesDot
returns-in-LanesDot g c = answers_call _ _ _ _ _ _ c.in-Some.call LanesDot c.in-Some.ensures.call c.in-LanesDot.is (record { asked = c.asked_for-asked.result; names = c.asked_for-asked.ensures.named; replies = c.asked_for-asked.ensures.replies; silent = c.asked_for-asked.ensures.silent; answers = c.draw_lanes.ensures })

pub returns-in-Between : goal.returns-in-Between
returns-in-Between g c = answers_call _ _ _ _ _ _ c.in-Some.call Between c.in-Some.ensures.call c.in-Between.is (record { fourth_kept = refl; answers = c.between.ensures })

pub returns-in_default : goal.returns-in_default
returns-in_default g c = answers_usage _ _ _ _ _ _ c.in_default.ensures.call refl (record { read = refl; out = refl; told = c.finish.ensures })
