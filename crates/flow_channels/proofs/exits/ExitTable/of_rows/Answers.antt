use Rattle.std.proofs.Common.{◌≡◌, ◌∙◌, ◌∷◌, ◌++◌, ◌+◌, ◌<◌, [], ap, arith, length, List, refl, subst, sym, take}
use Rattle.std.proofs.lemmas.List.{take_all, take_more}
use Rattle.an_base.specs.Rows.{RowOf}
use Rattle.flow_channels.specs.Exits.{AreExitsOf}
use Rattle.flow_channels.proofs.ExitTableLemmas.{no_rows, starts_of_turn, turn_exits}
use Rattle.flow_channels.proofs.exits.ExitTable.of_rows.Goals as goal

pub rows-init : goal.rows-init
rows-init c =
    let sets = c.in_ok-sets.sets.items in
    let (exits, count) = no_rows 209677 sets refl (c.in_ok-sets.ensures.items_if_clones_equal (λ y is. is)) in
    record { count = count; exits = exits }

pub rows-preserved : goal.rows-preserved
rows-preserved c =
    let rows = c.args.rows.now in
    let row = c.row-item.result in
    let k = c.rows.row-index in
    let new = c.add_row.new.sets.items in
    let more : take k rows ++ row ∷ [] ≡ take (k + 1) rows = ap (λ (x : RowOf). take k rows ++ x ∷ []) c.row-item.is ∙ sym (take_more rows k row c.rows-test.true) in
    record {
      count = c.add_row.ensures.count ∙ c.rows.invariant.count;
      exits = subst (λ (xs : List RowOf). AreExitsOf xs new) more (c.add_row.ensures.exits (take k rows) c.rows.invariant.exits);
    }

pub invariant_of-result : goal.invariant_of-result
invariant_of-result c = starts_of_turn c.in_ok-starts.starts.items c.rows.sets.items c.in_ok-starts.ensures c.rows.invariant.count

pub returns : goal.returns
returns c =
    let rows = c.args.rows.now in
    let sets = c.rows.sets.items in
    let past = c.rows-test.false in
    let whole : take c.rows.row-index rows ≡ rows = take_all c.rows.row-index rows (omega arith) in
    turn_exits rows c.in_ok-starts.starts.items sets c.in_ok-starts.ensures c.rows.invariant.count (subst (λ (xs : List RowOf). AreExitsOf xs sets) whole c.rows.invariant.exits)
