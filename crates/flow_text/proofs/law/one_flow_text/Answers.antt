use Rattle.flow_text.proofs.FlowLaws.{one_flow_text}
use Rattle.flow_text.proofs.law.one_flow_text.Goals as goal

pub returns : goal.returns
returns c = one_flow_text
