use Rattle.std.proofs.Common.{length}
use Rattle.table_script.proofs.table_form.+push_ports.Given as goal

abbrev pub decreases-push_ports : goal.decreases-push_ports
decreases-push_ports l = length l.text.now
