use Rattle.std.proofs.Common.{◌≡◌, take}
use Rattle.std.specs.List.{list_all}
use Rattle.common_lines.specs.Lines.{is_line_byte}
use Rattle.common_lines.proofs.line.are_line_bytes.Given as goal

-- whether the bytes so far may
abbrev pub invariant-bytes : goal.invariant-bytes
invariant-bytes l = l.fit ≡ list_all is_line_byte (take l.c-index l.line)
