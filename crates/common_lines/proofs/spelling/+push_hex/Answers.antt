use Rattle.common_lines.proofs.SpellLemmas.{hex_none, hex_more}
use Rattle.common_lines.proofs.spelling.+push_hex.Goals as goal

pub returns-in_ok-push : goal.returns-in_ok-push
returns-in_ok-push t c = hex_more c.args.text.now.items c.push_hex.new.text.items c.push.new.self.items c.args.digits c.args.number c.hex_glyph.result c.if-digits-gt0.true c.in_ok-push_hex.ensures c.in_ok-push.ensures.items c.hex_glyph.ensures

pub returns-else-digits-gt0 : goal.returns-else-digits-gt0
returns-else-digits-gt0 t c = hex_none c.args.text.now.items c.args.digits c.args.number c.if-digits-gt0.false
