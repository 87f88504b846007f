use Rattle.std.proofs.Common.{◌∙◌, ap, ℕ, List, ◌++◌}
use Rattle.fabric_print_tables.proofs.WordLemmas.{row_bytes}
use Rattle.fabric_print_tables.proofs.printer.push_row.Goals as goal

pub returns : goal.returns
returns c = c.in_ok-extend_from_slice.ensures.items ∙ ap (λ (t : List ℕ). c.args.text.now.items ++ t) (row_bytes c.args.lid c.args.port c.hex_glyph.result c.hex_glyph-2.result c.hex_glyph-3.result c.hex_glyph-4.result c.hex_glyph.ensures c.hex_glyph-2.ensures c.hex_glyph-3.ensures c.hex_glyph-4.ensures)
