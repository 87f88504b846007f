use Rattle.std.proofs.Common.{arith}
use Rattle.fabric_print.specs.Pictures.{switch_row}
use Rattle.fabric_print.proofs.WordLemmas.{rows_more}
use Rattle.fabric_print.proofs.picture.push_switches.Goals as goal

pub names-preserved : goal.names-preserved
names-preserved c = rows_more switch_row c.args.names.now c.names.name-index c.name-item.result c.args.text.now.items c.names.text.items c.push_switch.new.text.items (omega arith) c.name-item.is c.names.invariant c.in_ok-push_switch.ensures
