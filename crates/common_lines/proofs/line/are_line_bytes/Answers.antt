use Rattle.std.proofs.Common.{◌∙◌, ap, arith}
use Rattle.std.specs.List.{list_all}
use Rattle.std.proofs.lemmas.List.{take_all}
use Rattle.common_lines.specs.Lines.{is_line_byte}
use Rattle.common_lines.proofs.LineLemmas.{fit_more}
use Rattle.common_lines.proofs.line.are_line_bytes.Goals as goal

pub bytes-preserved : goal.bytes-preserved
bytes-preserved c = fit_more is_line_byte c.args.line.now c.bytes.c-index c.bytes.fit c.is_line_byte-fit.result c.bytes-test.true c.bytes.invariant c.is_line_byte-fit.ensures

pub returns : goal.returns
returns c = c.bytes.invariant ∙ ap (list_all is_line_byte) (take_all c.bytes.c-index c.args.line.now c.bytes-test.false)
