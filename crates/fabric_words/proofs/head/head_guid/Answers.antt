use Rattle.std.proofs.Common.{◌≡◌, ◌∙◌, sym, ℕ, ◌-◌, ◌≤◌, List, length, take, drop, None, Some, false, ltb, arith, ap, Option}
use Rattle.std.specs.Prelude.{codes}
use Rattle.std.proofs.lemmas.Bool.Decides.{nat_tests}
use Rattle.std.proofs.lemmas.List.{take_rest}
use Rattle.fabric_words.specs.Cuts.{after}
use Rattle.fabric_words.specs.Digits.{guid}
use Rattle.fabric_words.specs.Heads.{head_guid}
use Rattle.fabric_words.proofs.head.head_guid.Goals as goal

tail_none : (front line rest : List ℕ) → after front line ≡ Some rest → 16 ≤ length rest → after (codes ", base LID ") (take (length rest - 16) (drop 16 rest)) ≡ None → head_guid front line ≡ None
unfolding head_guid
tail_none front line rest some long none =
    let t : ltb (length rest) 16 ≡ false = grind (arith, nat_tests) in
    let tail : after (codes ", base LID ") (drop 16 rest) ≡ None = ap (after (codes ", base LID ")) (sym (take_rest rest 16)) ∙ none in
    rw (some, t, tail)

tail_some : (front line rest tail : List ℕ) → after front line ≡ Some rest → 16 ≤ length rest → after (codes ", base LID ") (take (length rest - 16) (drop 16 rest)) ≡ Some tail → head_guid front line ≡ guid (take 16 rest)
unfolding head_guid
tail_some front line rest tail some long found =
    let t : ltb (length rest) 16 ≡ false = grind (arith, nat_tests) in
    let tail : after (codes ", base LID ") (drop 16 rest) ≡ Some tail = ap (after (codes ", base LID ")) (sym (take_rest rest 16)) ∙ found in
    rw (some, t, tail)

pub returns-in_err-_tail : goal.returns-in_err-_tail
returns-in_err-_tail c = c.from_residual-in_err-_tail.ensures ∙ sym (tail_none c.args.front.now c.args.line.now c.in_ok-rest.rest.now c.in_ok-rest.ensures c.if-rest-lt16.false c.in_err-_tail.ensures)

pub returns : goal.returns
returns c = c.guid.ensures ∙ sym (tail_some c.args.front.now c.args.line.now c.in_ok-rest.rest.now c.in_ok-_tail._tail.now c.in_ok-rest.ensures c.if-rest-lt16.false c.in_ok-_tail.ensures)
