use Rattle.std.proofs.Common.{arith}
use Rattle.fabric_print.proofs.PictureLemmas.{escaped_more}
use Rattle.fabric_print.proofs.label.push_escaped.Goals as goal

pub bytes-preserved : goal.bytes-preserved
bytes-preserved c = escaped_more c.args.name.now c.bytes.byte-index c.args.text.now.items c.bytes.text.items c.push_byte.new.text.items (omega arith) c.bytes.invariant c.in_ok-push_byte.ensures
