use Rattle.std.proofs.Common.{◌≡◌, ◌∙◌, sym, ap, subst, ℕ, List, ◌<◌, length, Some, arith}
use Rattle.an_base.specs.Rows.{RowOf}
use Rattle.dep_check.specs.Tables.{row_at, AreExitsBelow}
use Rattle.dep_check.specs.Targets.{table_of}
use Rattle.dep_check.proofs.TargetLemmas.{table_read, tables_above, tables_added, tables_out}
use Rattle.dep_check.proofs.targets.add_to_target.Goals as goal

pub returns-then-row-gt-MOST_NUMBER : goal.returns-then-row-gt-MOST_NUMBER
returns-then-row-gt-MOST_NUMBER c = λ rows numbers k is so_far.
    let to : (row_at rows k).to ≡ c.row.inside.to = ap (λ (r : RowOf). r.to) (is ∙ sym c.row.view_is) in
    let high = c.if-row-gt-MOST_NUMBER.true in
    tables_above rows numbers k c.args.tables.now.items (omega arith) so_far

pub returns-then-as_slice-from : goal.returns-then-as_slice-from
returns-then-as_slice-from c = λ rows numbers k is so_far.
    let tables = c.args.tables.now.items in
    let to = c.from-to.result in
    let here : (row_at rows k).to ≡ to = ap (λ (r : RowOf). r.to) (is ∙ sym c.row.view_is) ∙ sym c.from-to.ensures in
    let most = c.if-row-gt-MOST_NUMBER.false in
    let same = c.from-to.ensures in
    let count = c.requires in
    let low : to < length tables = omega arith in
    let read = c.as_slice.ensures.value ∙ table_read tables to c.index.result.now low c.index.ensures in
    tables_out rows numbers k to tables here (λ whole. c.if-as_slice-from.true (ap length read ∙ whole ∙ sym c.from.ensures)) so_far

pub add_row-requires : goal.add_row-requires
add_row-requires c =
    let tables = c.args.tables.now.items in
    let to = c.from-to.result in
    let most = c.if-row-gt-MOST_NUMBER.false in
    let same = c.from-to.ensures in
    let count = c.requires in
    let low : to < length tables = omega arith in
    let read = c.as_slice.ensures.value ∙ table_read tables to c.index.result.now low c.index.ensures in
    ap length (table_read tables to c.index_mut.result.now low c.index_mut.ensures.value) ∙ sym (ap length read) ∙ c.if-as_slice-from.false ∙ c.from.ensures

pub returns : goal.returns
returns c = λ rows numbers k is so_far.
    let tables = c.args.tables.now.items in
    let to = c.from-to.result in
    let here : (row_at rows k).to ≡ to = ap (λ (r : RowOf). r.to) (is ∙ sym c.row.view_is) ∙ sym c.from-to.ensures in
    let most = c.if-row-gt-MOST_NUMBER.false in
    let same = c.from-to.ensures in
    let count = c.requires in
    let low : to < length tables = omega arith in
    let read = c.as_slice.ensures.value ∙ table_read tables to c.index.result.now low c.index.ensures in
    let table = table_read tables to c.index_mut.result.now low c.index_mut.ensures.value in
    let whole : length (table_of tables to) ≡ 1651 = sym (ap length read) ∙ c.if-as_slice-from.false ∙ c.from.ensures in
    tables_added rows numbers k to tables c.add_row.new.table here low (λ before. c.add_row.ensures rows (Some to) k is (ap (λ (r : RowOf). r.to) (sym c.row.view_is) ∙ sym c.from-to.ensures) (subst (λ (t : List ℕ). AreExitsBelow rows (Some to) k t) (sym table) before)) whole so_far
