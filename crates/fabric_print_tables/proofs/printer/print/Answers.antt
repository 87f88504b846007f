use Rattle.std.proofs.Common.{List, Ok, Err, Result, arith, sym, subst, ℕ}
use Rattle.fabric_print_tables.proofs.ReservedLemmas.{reserved}
use Rattle.std.specs.Prelude.{IfOk}
use Rattle.fabric_tables.specs.Cells.{tables_of}
use Rattle.fabric_print_tables.specs.Printed.{HasPrinted, part_at}
use Rattle.fabric_print_tables.proofs.KnownLemmas.{no_switch}
use Rattle.fabric_print_tables.proofs.StepLemmas.{all_printed, none_printed, part_after, plain_printed}
use Rattle.fabric_print_tables.proofs.printer.print.Goals as goal

if_ok : {Done Error : Type 0} {Is As : Done → Type 0} → ((done : Done) → Is done → As done) → (r : Result Done Error) → IfOk r Is → IfOk r As
if_ok leads (Ok done) is = leads done is
if_ok leads (Err error) is = tt

pub returns-then-switches-eq0 : goal.returns-then-switches-eq0
returns-then-switches-eq0 c = if_ok (λ text is. plain_printed c.args.fabric.now (tables_of c.args.cells.now) text.items (λ s l. no_switch c.args.cells.now s l (omega arith)) is) c.print_none.result c.print_none.ensures

pub switches-init : goal.switches-init
switches-init c = subst (λ (text : List ℕ). HasPrinted c.args.fabric.now (tables_of c.args.cells.now) text (part_at 0) 0 0) (sym c.new-text.ensures.items) (none_printed c.args.fabric.now (tables_of c.args.cells.now))

pub returns : goal.returns
returns c = all_printed c.args.fabric.now (tables_of c.args.cells.now) c.switches.text.items c.switches.switch (part_at c.switches.switch) (part_after c.switches.switch (omega arith)) (λ s l past. no_switch c.args.cells.now s l (omega arith)) c.switches.invariant

pub push_table-requires-clause-reserved : goal.push_table-requires-clause-reserved
push_table-requires-clause-reserved c = c.requires.reserved (reserved c.args.fabric.now c.switches-switch-end.ensures.fabric)
