use Rattle.std.proofs.Common.{◌∙◌, sym, ap, arith, Some, None, cond, Bool, drop}
use Rattle.std.proofs.lemmas.Option.{none-some}
use Rattle.fabric_judge_call.specs.Steps.{after_word}
use Rattle.fabric_judge_call.proofs.SaidLemmas.{complete, sound}
use Rattle.fabric_judge_call.proofs.WordLemmas.{said_all, said_off}
use Rattle.fabric_judge_call.proofs.said.said_by.Goals as goal

pub returns-in_err-said : goal.returns-in_err-said
returns-in_err-said c = rw c.from_residual.ensures (λ said is. (
    let took = ap (after_word c.words.said.part c.words.said c.words.place) (sym c.as_bytes.ensures) ∙ sym c.after_word.ensures ∙ c.in_err-said.was in
    let none = c.words.invariant ∙ said_off c.args.words.now c.words.said c.words.place c.index-words-place.result c.words-test.true c.index-words-place.is took in
    let come = complete (drop 1 c.args.words.now) said is in
    none-some come.0 (sym none ∙ come.1)))

pub returns-then-is_ended : goal.returns-then-is_ended
returns-then-is_ended c =
    let all = said_all c.args.words.now c.words.said c.words.place (omega arith) in
    sound (drop 1 c.args.words.now) c.words.said (c.words.invariant ∙ all ∙ ap (λ (b : Bool). cond b (Some c.words.said) None) (sym c.is_ended.ensures ∙ c.if-is_ended.true))

pub returns-else-is_ended : goal.returns-else-is_ended
returns-else-is_ended c = λ said is.
    let all = said_all c.args.words.now c.words.said c.words.place (omega arith) in
    let none = c.words.invariant ∙ all ∙ ap (λ (b : Bool). cond b (Some c.words.said) None) (sym c.is_ended.ensures ∙ c.if-is_ended.false) in
    let come = complete (drop 1 c.args.words.now) said is in
    none-some come.0 (sym none ∙ come.1)
