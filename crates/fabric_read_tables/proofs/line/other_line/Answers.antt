use Rattle.std.proofs.Common.{◌∙◌, sym, ap, subst, map}
use Rattle.fabric_words.specs.Says.{IsSaid}
use Rattle.fabric_read_tables.specs.TableLines.{Said}
use Rattle.fabric_read_tables.proofs.SaidLemmas.{said_by_words}
use Rattle.fabric_read_tables.proofs.line.other_line.Goals as goal

pub returns : goal.returns
returns c =
    let words = ap (map (λ w. w.now)) c.deref.ensures.value ∙ c.in_ok-words.ensures in
    let said = said_by_words c.args.line.now _ c.requires.short c.requires.no_row (sym c.begins.ensures ∙ c.if-begins.false) (sym c.begins-2.ensures ∙ c.if-begins-2.false) words in
    subst (λ (s : Said). IsSaid c.or_stop-2.result s) (c.said_by.ensures ∙ sym said) c.or_stop-2.ensures
