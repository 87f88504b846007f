use Rattle.std.proofs.Common.{◌∙◌, ap}
use Rattle.std.proofs.lemmas.Result.{IfOk-weaker}
use Rattle.common_lines.specs.Lines.{words_of, parts_of}
use Rattle.common_lines.proofs.line.words.Goals as goal

pub returns : goal.returns
unfolding words_of
returns c = IfOk-weaker c.parts.result _ _ (λ v is. is ∙ ap parts_of c.before_comment.ensures) c.parts.ensures
