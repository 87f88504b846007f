use Rattle.std.proofs.Common.{◌∷◌, ◌++◌, ◌*◌, ◌+◌, [], arith, set, subst}
use Rattle.an_base.specs.Rows.{RowOf}
use Rattle.flow_channels.specs.Exits.{AreExitsOf}
use Rattle.flow_channels.proofs.ExitTableLemmas.{row_beside, row_more}
use Rattle.flow_channels.proofs.exits.add_row.Goals as goal
use Rattle.flow_channels.proofs.exits.add_row.Goals.{then-row-gt-MOST_NUMBER-via-then-row-gt-MOST_NUMBER, then-row-gt-MOST_NUMBER-via-else-row-gt-MOST_NUMBER+then-row-gt-LAST_PORT, then-row-gt-MOST_NUMBER-via-else-row-gt-MOST_NUMBER+else-row-gt-LAST_PORT+then-row-gt-MOST_NUMBER-2}

pub returns-then-row-gt-MOST_NUMBER-clause-exits : goal.returns-then-row-gt-MOST_NUMBER-clause-exits
returns-then-row-gt-MOST_NUMBER-clause-exits c = λ rows are.
    let i = c.row.inside in
    let r : RowOf = record { at = i.at; entry = i.entry; to = i.to; exits = i.exits } in
    let sets = c.args.sets.now.items in
    subst (λ (x : RowOf). AreExitsOf (rows ++ x ∷ []) sets) c.row.view_is (row_beside rows r sets (λ came spot at entry low.
    let at_low = spot.at in
    let port_low = spot.port in
    elim c.then-row-gt-MOST_NUMBER.branch [
      | then-row-gt-MOST_NUMBER-via-then-row-gt-MOST_NUMBER w ↦ (let h = w.if-row-gt-MOST_NUMBER.true in omega arith)
      | then-row-gt-MOST_NUMBER-via-else-row-gt-MOST_NUMBER+then-row-gt-LAST_PORT w ↦ (let h = w.if-row-gt-LAST_PORT.true in omega arith)
      | then-row-gt-MOST_NUMBER-via-else-row-gt-MOST_NUMBER+else-row-gt-LAST_PORT+then-row-gt-MOST_NUMBER-2 w ↦ (let h = w.if-row-gt-MOST_NUMBER-2.true in omega arith)
    ]) c.as_set-exits.ensures.ports are)

pub returns-clause-exits : goal.returns-clause-exits
returns-clause-exits c = λ rows are.
    let i = c.row.inside in
    let r : RowOf = record { at = i.at; entry = i.entry; to = i.to; exits = i.exits } in
    let sets = c.args.sets.now.items in
    let at_low = c.if-row-gt-MOST_NUMBER.false in
    let port_low = c.if-row-gt-LAST_PORT.false in
    let low = c.if-row-gt-MOST_NUMBER-2.false in
    let place_is = c.place_of.ensures.place in
    let to_is = c.from.ensures in
    subst (λ (x : RowOf). AreExitsOf (rows ++ x ∷ []) (set sets (c.place_of.result * 127 + c.from.result) c.with.result)) c.row.view_is
    (row_more rows r sets (c.place_of.result * 127 + c.from.result) c.index.result.now c.as_set-exits.result c.with.result (record { at = omega arith; port = omega arith }) (omega arith) c.requires (omega arith) c.index.ensures c.with.ensures c.as_set-exits.ensures.each c.as_set-exits.ensures.ports are)
