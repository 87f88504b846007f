use Rattle.std.proofs.Common.{◌∙◌, ◌++◌, sym, ap, arith, ℕ, List}
use Rattle.std.proofs.lemmas.Result.{on_ok_weaker}
use Rattle.an_base.specs.Values.{EntryOf}
use Rattle.row_text.specs.Names.{life_text}
use Rattle.row_text.proofs.NameLemmas.{name_is}
use Rattle.row_text.proofs.piece.push_name.Goals as goal

pub returns : goal.returns
returns c =
    let s = c.args.script.now in
    on_ok_weaker c.push_life.result (λ is. is ∙ ap (λ (t : List ℕ). c.args.text.now.items ++ t)
    (ap (λ (d : EntryOf). life_text s d.life) c.entry.view_is
    ∙ name_is s c.args.entries.now c.args.numbers.now c.args.number c.in-Some.place c.index-entries-place.result (sym c.in-Some.ensures.place) (omega (arith, c.in-Some.ensures.range)) c.index-entries-place.is)) c.push_life.ensures
