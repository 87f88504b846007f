use Rattle.dep_check.proofs.GapLemmas.{walk_tells}
use Rattle.dep_check.proofs.gap.is_stuck_from.Goals as goal

pub has-requires : goal.has-requires
has-requires c = rw c.requires.numbers.count c.requires.from

pub returns-then-not-has-clause-stuck : goal.returns-then-not-has-clause-stuck
returns-then-not-has-clause-stuck c = record {
  count = c.requires.count;
  clear = c.requires.clear;
  none = λ stuck. absurd (
      let has = c.has.ensures.1 ((c.requires.numbers.each c.args.from c.requires.from).1 stuck.from_in) in
      let gone = c.if-not-has.true in
      cc);
}

pub returns-clause-stuck : goal.returns-clause-stuck
returns-clause-stuck c =
    let from_in = (c.requires.numbers.each c.args.from c.requires.from).0 (c.has.ensures.0 c.if-not-has.false) in
    walk_tells c.args.numbers.now c.args.steps.now c.args.to c.args.from c.args.seen.now.items c.walk.new.seen.items c.in_ok-stuck.stuck from_in c.if-from-to.false c.requires.from c.requires.clear c.in_ok-stuck.ensures.walked
