use Rattle.std.proofs.Common.{◌∙◌, ◌<◌, ap, rules, length}
use Rattle.std.proofs.lemmas.Fn.{always_returns_same}
use Rattle.an_base.specs.Rows.{RowOf}
use Rattle.table_build.specs.Tables.{TableOf}
use Rattle.table_build.proofs.SearchLemmas.{row_cmp, sought, row_found, row_lost}
use Rattle.table_build.proofs.table.Table.exits.Goals as goal

pub returns-in-Ok : goal.returns-in-Ok
returns-in-Ok c =
    let found = c.in-Ok.ensures.position (λ r. row_cmp r (sought c.args.entry c.args.number)) (always_returns_same _ _ _ (λ a r g called. (search rules, search rules))) in
    let t : TableOf = record { number = c.self.inside.number; rows = c.self.inside.rows.items } in
    let rows = c.self.inside.rows.items in
    let low : c.in-Ok.i < length rows = rw c.deref.ensures.value at c.in-Ok.ensures.bound in
    rw (← c.self.view_is) (c.copy.ensures ∙ ap (λ (r : RowOf). r.exits) c.row.view_is ∙ row_found t c.args.entry c.args.number c.in-Ok.i c.index-row.result.now c.self.invariant.2 low (rw c.deref.ensures.value at found) c.index-row.ensures)

pub returns-in-Err : goal.returns-in-Err
returns-in-Err c =
    let found = c.in-Err.ensures.position (λ r. row_cmp r (sought c.args.entry c.args.number)) (always_returns_same _ _ _ (λ a r g called. (search rules, search rules))) in
    let t : TableOf = record { number = c.self.inside.number; rows = c.self.inside.rows.items } in
    rw (← c.self.view_is) (c.new.ensures ∙ row_lost t c.args.entry c.args.number c.in-Err.field-0 c.self.invariant.2 (rw c.deref.ensures.value at found))
