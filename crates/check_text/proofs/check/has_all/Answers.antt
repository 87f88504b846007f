use Rattle.std.proofs.Common.{◌∙◌, ap, List, Bool}
use Rattle.std.specs.List.{list_all}
use Rattle.check_text.specs.Check.{is_row_of}
use Rattle.check_text.proofs.check.has_all.Goals as goal

pub returns : goal.returns
returns c =
    c.are_rows_of.ensures
    ∙ ap (λ (members : List Bool). list_all (is_row_of members) c.rows.result.now) (c.deref.ensures.value ∙ c.in_ok-members.ensures)
    ∙ ap (list_all (is_row_of _)) c.rows.ensures.all
