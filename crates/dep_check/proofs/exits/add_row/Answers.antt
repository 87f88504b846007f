use Rattle.std.proofs.Common.{◌≡◌, ◌∙◌, sym, ap, subst, refl, arith}
use Rattle.an_base.specs.Rows.{RowOf}
use Rattle.dep_check.specs.Tables.{Counts}
use Rattle.dep_check.proofs.ExitLemmas.{exits_same, row_added}
use Rattle.dep_check.proofs.PortLemmas.{told_with}
use Rattle.dep_check.proofs.exits.add_row.Goals as goal
use Rattle.dep_check.proofs.exits.add_row.Goals.{then-row-gt-MOST_NUMBER-via-then-row-gt-MOST_NUMBER, then-row-gt-MOST_NUMBER-via-else-row-gt-MOST_NUMBER+then-row-gt-LAST_PORT}

pub returns-then-row-gt-MOST_NUMBER : goal.returns-then-row-gt-MOST_NUMBER
returns-then-row-gt-MOST_NUMBER c = λ rows to k is counts so_far.
    exits_same rows to k c.args.table.now.items (λ s p spot here.
    let view = is ∙ sym c.row.view_is in
    let at : c.row.inside.at ≡ s.at = sym (ap (λ (r : RowOf). r.at) view) ∙ here.at in
    let entry : c.row.inside.entry ≡ s.port = sym (ap (λ (r : RowOf). r.entry) view) ∙ here.entry in
    let at_low = spot.at in
    let port_low = spot.port in
    elim c.then-row-gt-MOST_NUMBER.branch [
      | then-row-gt-MOST_NUMBER-via-then-row-gt-MOST_NUMBER w ↦ absurd (let h = w.if-row-gt-MOST_NUMBER.true in omega arith)
      | then-row-gt-MOST_NUMBER-via-else-row-gt-MOST_NUMBER+then-row-gt-LAST_PORT w ↦ absurd (let h = w.if-row-gt-LAST_PORT.true in omega arith)
    ]) so_far

pub returns : goal.returns
returns c = λ rows to k is counts so_far.
    let i = c.row.inside in
    let r : RowOf = record { at = i.at; entry = i.entry; to = i.to; exits = i.exits } in
    row_added rows to k c.place_of-place.result r i.exits c.args.table.now.items c.index.result.now c.with.result (is ∙ sym c.row.view_is) (subst (λ (x : RowOf). Counts to x) (sym c.row.view_is) counts) c.if-row-gt-MOST_NUMBER.false c.if-row-gt-LAST_PORT.false refl c.as_set.ensures.ports c.place_of-place.ensures.place c.index.ensures (λ p low. told_with c.with.result c.index.result.now c.as_set.result i.exits c.with.ensures c.as_set.ensures.each p) so_far
