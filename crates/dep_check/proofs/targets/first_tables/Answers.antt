use Rattle.std.proofs.Common.{arith}
use Rattle.dep_check.proofs.WalkLemmas.{push_more}
use Rattle.dep_check.proofs.TargetLemmas.{tables_more}
use Rattle.dep_check.proofs.targets.first_tables.Goals as goal

pub first_table-requires : goal.first_table-requires
first_table-requires c = λ rows to. rw c.deref.ensures.value (c.in_ok-blank.ensures rows to)

pub numbers-preserved : goal.numbers-preserved
numbers-preserved c = rw c.in_ok-push.ensures.items (record {
  count = (let more = push_more c.numbers.tables.items c.in_ok-table.table in let count = c.numbers.invariant.count in omega arith);
  each = λ rows. tables_more rows c.args.numbers.now c.numbers.number c.numbers.tables.items c.in_ok-table.table c.numbers.invariant.count (c.numbers.invariant.each rows) (c.in_ok-table.ensures rows);
})

pub returns : goal.returns
returns c = λ rows. record {
  count = (let count = c.numbers.invariant.count in omega arith);
  each = λ number low. c.numbers.invariant.each rows number (omega arith);
}
