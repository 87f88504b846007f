use Rattle.expect_text.proofs.OneText.{one_expect_text}
use Rattle.expect_text.proofs.law.one_expect_text.Goals as goal

pub returns : goal.returns
returns c = one_expect_text
