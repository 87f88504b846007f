use Rattle.switch_core.proofs.LawLemmas.{frame_came}
use Rattle.switch_core.proofs.law.a_frame_comes_by_its_port.Goals as goal

pub returns : goal.returns
returns c = frame_came
