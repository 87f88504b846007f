use Rattle.std.proofs.Common.{refl}
use Rattle.dep_check.specs.Tables.{wire_at}
use Rattle.dep_check.proofs.GapLemmas.{first_parted, no_target}
use Rattle.dep_check.proofs.TargetLemmas.{tables_for}
use Rattle.dep_check.proofs.gap.stuck_towards.Goals as goal

pub has-requires : goal.has-requires
has-requires c = rw c.requires.rows.count c.requires.to

pub returns-then-not-has : goal.returns-then-not-has
returns-then-not-has c =
    let are = tables_for c.args.rows.now c.args.numbers.now c.args.by_target.now c.as_slice-names.ensures.numbers c.requires.rows in
    record {
      first = no_target (wire_at c.args.steps.now.wires.items) c.args.numbers.now c.args.rows.now c.args.to (λ there. absurd (
          let has = c.has.ensures.1 ((are.each c.args.to c.requires.to).1 there) in
          let gone = c.if-not-has.true in
          cc));
      kept = record { wires_are = refl; count = c.requires.count };
    }

pub turn-requires-clause-known : goal.turn-requires-clause-known
turn-requires-clause-known c =
    let are = tables_for c.args.rows.now c.args.numbers.now c.args.by_target.now c.as_slice-names.ensures.numbers c.requires.rows in
    (are.each c.args.to c.requires.to).0 (c.has.ensures.0 c.if-not-has.false)

pub first_stuck-requires : goal.first_stuck-requires
first_stuck-requires c = tables_for c.args.rows.now c.args.numbers.now c.args.by_target.now c.as_slice-names.ensures.numbers c.requires.rows

pub returns : goal.returns
returns c =
    let are = tables_for c.args.rows.now c.args.numbers.now c.args.by_target.now c.as_slice-names.ensures.numbers c.requires.rows in
    let known = (are.each c.args.to c.requires.to).0 (c.has.ensures.0 c.if-not-has.false) in
    let steps = c.turn.ensures in
    record {
      first = first_parted c.args.steps.now.wires.items c.args.rows.now c.args.numbers.now c.args.to c.turn.new.self c.args.steps.now.links.within steps c.as_slice-names.ensures.numbers known c.in_ok-first.first c.in_ok-first.ensures;
      kept = record { wires_are = steps.wires_are; count = steps.exits.count };
    }
