use Rattle.std.proofs.Common.{◌∙◌, ap, arith, List, ℕ, eqb}
use Rattle.std.specs.Cmp.Lexicographic.{pointwise}
use Rattle.autonet_call.proofs.WordLemmas.{three_words}
use Rattle.commands.proofs.generate.words_behind.Goals as goal

pub returns-then-eq : goal.returns-then-eq
returns-then-eq c =
    three_words c.args.words.now c.first-item.result c.second-item.result c.third-item.result c.args.bytes.now c.eq.result (omega arith) c.first-item.is c.second-item.is c.third-item.is
    (c.eq.ensures ∙ ap (λ (t : List ℕ). pointwise eqb t c.args.bytes.now) c.as_bytes.ensures) c.if-eq.true
