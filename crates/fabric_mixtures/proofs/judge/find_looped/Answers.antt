use Rattle.std.proofs.Common.{sym, subst}
use Rattle.fabric_tables.specs.Cells.{tables_of}
use Rattle.fabric_mixtures.specs.Verdict.{IsLooped}
use Rattle.fabric_mixtures.proofs.VerdictLemmas.{looped_is}
use Rattle.fabric_mixtures.proofs.judge.find_looped.Goals as goal

pub returns : goal.returns
returns c =
    let old = tables_of c.args.old.now in
    let new = tables_of c.args.new.now in
    subst (IsLooped c.args.fabric.now old new) (sym c.looped_by.ensures) (looped_is c.args.fabric.now old new c.in_ok-is_old.is_old c.in_ok-is_new.is_new c.in_ok-is_old.ensures.some c.in_ok-is_old.ensures.none c.in_ok-is_new.ensures.some c.in_ok-is_new.ensures.none)
