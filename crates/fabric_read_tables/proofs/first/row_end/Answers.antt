use Rattle.std.proofs.Common.{◌≡◌, arith, eqb, false, get_or}
use Rattle.std.proofs.lemmas.Bool.Decides.{nat_tests}
use Rattle.fabric_read_tables.proofs.FirstLemmas.{second_byte, third_byte}
use Rattle.fabric_read_tables.proofs.first.row_end.Goals as goal

pub returns-then-bytes-eq10 : goal.returns-then-bytes-eq10
returns-then-bytes-eq10 c = (second_byte c.args.bytes.now c.requires.row c.requires.long c.if-bytes-eq10.true, omega arith)

pub returns-then-bytes-eq10-2 : goal.returns-then-bytes-eq10-2
returns-then-bytes-eq10-2 c =
    let other : eqb (get_or c.args.bytes.now 11 0) 10 ≡ false = grind (arith, nat_tests) in
    (third_byte c.args.bytes.now c.requires.row c.requires.long other c.if-bytes-eq10-2.true, omega arith)
