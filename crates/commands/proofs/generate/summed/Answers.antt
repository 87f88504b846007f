use Rattle.std.proofs.Common.{◌∙◌, ◌++◌, ap, ℕ, List}
use Rattle.commands.proofs.CommentLemmas.{comment_behind}
use Rattle.commands.proofs.generate.summed.Goals as goal

pub returns : goal.returns
returns c =
    let (line, summary, comment, more) = c.in_ok-push_summary.ensures in
    let printed = c.in_ok-text.ensures in (
      line,
      summary,
      comment_behind c.args.script.now c.in_ok-text.text.items line c.push_summary.new.text.items printed.canonical printed.text comment more,
      more ∙ ap (λ (text : List ℕ). text ++ line) printed.canonical,
    )
