use Rattle.std.proofs.Common.{◌∙◌, ap, sym}
use Rattle.std.specs.Prelude.{is_some}
use Rattle.fabric_engine.proofs.PutLemmas.{put_kept}
use Rattle.fabric_engine.proofs.writing.put_port.Goals as goal

pub returns-then-is_some-clause-tables : goal.returns-then-is_some-clause-tables
returns-then-is_some-clause-tables c =
    let owned = ap is_some (sym c.owner.ensures) ∙ sym c.is_some.ensures ∙ c.if-is_some.true in
    put_kept c.args.fabric.now c.args.cells.now c.put.new.self c.args.switch c.args.lid c.args.port owned c.requires.tables c.put.result c.put.ensures.switches c.put.ensures.blocks c.put.ensures.put c.put.ensures.kept
