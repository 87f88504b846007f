use Rattle.check_text.proofs.OneJudgement.{one_judgement}
use Rattle.check_text.proofs.law.one_judgement.Goals as goal

pub returns : goal.returns
returns c = one_judgement
