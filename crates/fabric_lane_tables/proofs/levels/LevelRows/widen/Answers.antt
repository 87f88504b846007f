use Rattle.std.proofs.Common.{◌≡◌, ◌∙◌, ◌*◌, ◌+◌, ◌≤◌, ap, sym, subst, arith, length, List, ℕ}
use Rattle.fabric_lane_tables.specs.PathLevels.{AreWidened, LevelRowsOf, told_levels}
use Rattle.fabric_lane_tables.proofs.WideLemmas.{levels_same, row_still, wide_fits}
use Rattle.fabric_lane_tables.proofs.levels.LevelRows.widen.Goals as goal

pub invariant_of-self-2 : goal.invariant_of-self-2
invariant_of-self-2 c =
    let old : LevelRowsOf = record { ends = c.self.inside.ends; switches = c.self.inside.switches; blocks = c.self.inside.blocks; count = c.self.inside.count; rows = c.self.inside.rows.keys; places = c.self.inside.places.items; current = c.self.inside.current; row = c.self.inside.row.items } in
    let ok = c.self.invariant in
    let more : old.blocks ≤ c.args.blocks = subst (λ (v : LevelRowsOf). v.blocks ≤ c.args.blocks) (sym c.self.view_is) c.requires.more in
    let one = c.in_ok-resize.ensures in
    let are = subst (λ (xs : List ℕ). AreWidened xs (old.ends + old.switches) old.blocks c.args.blocks c.in_ok-places.places.items) c.deref.ensures.value c.in_ok-places.ensures in
    let size : length c.resize.new.self.items ≡ 64 * c.args.blocks = sym c.resize.new.self.ok.0 ∙ one.len in
    let less : length c.self.inside.row.items ≤ 64 * c.args.blocks = omega (arith, ok.row_size, more) in
    wide_fits old ok c.args.blocks more c.requires.few c.in_ok-places.places.items c.resize.new.self.items are size
    (row_still c.self.inside.row.items c.resize.new.self.items (64 * c.args.blocks) c.self.inside.row.len c.self.inside.row.ok.0 less one.items)

pub returns-clause-same : goal.returns-clause-same
returns-clause-same c source lid =
    let old : LevelRowsOf = record { ends = c.self.inside.ends; switches = c.self.inside.switches; blocks = c.self.inside.blocks; count = c.self.inside.count; rows = c.self.inside.rows.keys; places = c.self.inside.places.items; current = c.self.inside.current; row = c.self.inside.row.items } in
    let ok = c.self.invariant in
    let more : old.blocks ≤ c.args.blocks = subst (λ (v : LevelRowsOf). v.blocks ≤ c.args.blocks) (sym c.self.view_is) c.requires.more in
    let one = c.in_ok-resize.ensures in
    let are = subst (λ (xs : List ℕ). AreWidened xs (old.ends + old.switches) old.blocks c.args.blocks c.in_ok-places.places.items) c.deref.ensures.value c.in_ok-places.ensures in
    let size : length c.resize.new.self.items ≡ 64 * c.args.blocks = sym c.resize.new.self.ok.0 ∙ one.len in
    let less : length c.self.inside.row.items ≤ 64 * c.args.blocks = omega (arith, ok.row_size, more) in
    levels_same old ok c.args.blocks more c.requires.few c.in_ok-places.places.items c.resize.new.self.items are size
    (row_still c.self.inside.row.items c.resize.new.self.items (64 * c.args.blocks) c.self.inside.row.len c.self.inside.row.ok.0 less one.items) source lid
    ∙ ap (λ (v : LevelRowsOf). told_levels v source lid) c.self.view_is
