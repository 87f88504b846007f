use Rattle.std.proofs.Common.{◌∙◌, ◌<◌, ◌≤◌, sym, subst, ap, ℕ, List, arith, length, length-drop, length-take, drop, take, ◌-◌}
use Rattle.fabric_read_lines.specs.Pieces.{IsReadOn}
use Rattle.fabric_read_lines.proofs.PieceLemmas.{moved, too_long}
use Rattle.fabric_read_lines.proofs.reader.read_held.Goals as goal

pub returns-then-count-from-clause-stopped : goal.returns-then-count-from-clause-stopped
returns-then-count-from-clause-stopped g c =
    let held = take c.args.count c.args.held.now in
    let rest = drop c.in_ok-from.from held in
    let told = c.read_lines.new.told in
    let many : 4097 < length rest = omega (arith, c.if-count-from.true, c.requires.count, length-drop c.in_ok-from.from held, length-take c.args.count c.args.held.now) in
    rw c.too_long.ensures (λ start bytes read. too_long (g.T.TakesLines.adds c.args.fabric.now) (g.T.TakesLines.is_faulty c.args.fabric.now) g.T.TakesLines.is_ended g.Cause.TextCause.no_end start bytes rest told c.read_lines.new.line g.Cause.TextCause.too_long (g.met.T.TakesLines.long c.args.fabric.now told) (c.in_ok-from.ensures.read.read start bytes read) c.in_ok-from.ensures.read.cut many)

pub returns-clause-read : goal.returns-clause-read
returns-clause-read g c =
    let held = take c.args.count c.args.held.now in
    let low : c.in_ok-from.from ≤ c.args.count = omega (arith, c.in_ok-from.ensures.within, c.requires.count, length-take c.args.count c.args.held.now) in
    let same = ap (take (c.args.count - c.in_ok-from.from)) c.copy_within.ensures.after ∙ moved c.args.held.now c.in_ok-from.from c.args.count low c.requires.count in
    subst (λ (rest : List ℕ). IsReadOn (g.T.TakesLines.adds c.args.fabric.now) held c.args.told.now c.args.line.now c.read_lines.new.told c.read_lines.new.line rest) (sym same) c.in_ok-from.ensures.read
