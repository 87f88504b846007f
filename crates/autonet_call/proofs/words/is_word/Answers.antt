use Rattle.std.proofs.Common.{◌∙◌, ap, arith, List, ℕ, eqb}
use Rattle.std.specs.Cmp.Lexicographic.{pointwise}
use Rattle.autonet_call.proofs.WordLemmas.{one_word}
use Rattle.autonet_call.proofs.words.is_word.Goals as goal

pub returns-in-len1 : goal.returns-in-len1
returns-in-len1 c =
    one_word c.args.words.now c.word-item.result c.args.bytes.now c.eq.result (omega arith) c.word-item.is
    (c.eq.ensures ∙ ap (λ (t : List ℕ). pointwise eqb t c.args.bytes.now) c.as_bytes.ensures)
