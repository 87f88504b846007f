use Rattle.std.proofs.Common.{◌∙◌, sym, ap, eqb-true}
use Rattle.fabric_lane_tables.specs.PathLevels.{LevelRowsOf}
use Rattle.fabric_lane_tables.proofs.SameLemmas.{same_block}
use Rattle.fabric_lane_tables.proofs.levels.LevelRows.are_same.Goals as goal

pub returns : goal.returns
returns c = λ is.
    let last = ap (λ (v : LevelRowsOf). v.current) c.self.view_is in
    same_block c.args.self.now c.args.one c.args.other c.args.block c.in-Some.at c.in-Some-place.there (sym c.place.ensures.place ∙ c.in-Some.is) (sym c.place-2.ensures.place ∙ c.in-Some-place.is)
    (λ e. c.if-at-self.false (e ∙ sym last)) (λ e. c.if-there-self.false (e ∙ sym last))
    (sym c.place_of_block.ensures ∙ eqb-true c.place_of_block.result c.place_of_block-2.result is ∙ c.place_of_block-2.ensures)
