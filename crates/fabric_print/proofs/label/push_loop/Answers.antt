use Rattle.fabric_print.proofs.PictureLemmas.{loop_is}
use Rattle.fabric_print.proofs.label.push_loop.Goals as goal

pub returns : goal.returns
returns c = loop_is c.args.many c.args.text.now.items c.extend_from_slice-2.new.self.items c.push_decimal.new.text.items c.extend_from_slice-3.new.self.items c.if-many-eq0.false c.in_ok-extend_from_slice.ensures.items c.in_ok-push_decimal.ensures.ok c.in_ok-extend_from_slice-2.ensures.items
