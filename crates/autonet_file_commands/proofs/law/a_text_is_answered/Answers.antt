use Rattle.expect_text.specs.Expect.{IsExpectOf}
use Rattle.flood_text.specs.Floods.{IsFloodOf}
use Rattle.flow_text.specs.Flows.{IsFlowOf}
use Rattle.autonet_call.proofs.SaidLemmas.{text_is_said}
use Rattle.autonet_file_commands.proofs.CompleteLemmas.{text_is_judged}
use Rattle.autonet_file_commands.proofs.law.a_text_is_answered.Goals as goal

pub returns-clause-expect : goal.returns-clause-expect
returns-clause-expect c = text_is_said IsExpectOf

pub returns-clause-flood : goal.returns-clause-flood
returns-clause-flood c = text_is_said IsFloodOf

pub returns-clause-flow : goal.returns-clause-flow
returns-clause-flow c = λ answer room. text_is_said (λ script said. IsFlowOf script room said) answer

pub returns-clause-check : goal.returns-clause-check
returns-clause-check c = text_is_judged
