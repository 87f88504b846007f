use Rattle.std.proofs.Common.{◌∙◌, ap, arith, List, ℕ, eqb}
use Rattle.std.specs.Cmp.Lexicographic.{pointwise}
use Rattle.autonet_call.proofs.WordLemmas.{two_words}
use Rattle.autonet_file_commands.proofs.words.word_after.Goals as goal

pub returns-then-eq : goal.returns-then-eq
returns-then-eq c =
    two_words c.args.words.now c.first-item.result c.word-item.result c.args.bytes.now c.eq.result (omega arith) c.first-item.is c.word-item.is
    (c.eq.ensures ∙ ap (λ (t : List ℕ). pointwise eqb t c.args.bytes.now) c.as_bytes.ensures) c.if-eq.true
