use Rattle.std.proofs.Common.{ℕ, List, inl, ◌≡◌, ◌∙◌, ◌+◌, ◌*◌, ◌<◌, ap, sym, subst, arith, length, drop, take, ◌++◌}
use Rattle.fabric_lane_tables.specs.PathLevels.{ArePlaces, LevelRowsOf, SaysAsMuch}
use Rattle.fabric_lane_tables.proofs.SelectLemmas.{says_still, selected, still_fits, whole}
use Rattle.fabric_lane_tables.proofs.levels.LevelRows.select.Goals as goal

pub returns-clause-same : goal.returns-clause-same
returns-clause-same c =
    let old : LevelRowsOf = record { ends = c.self.inside.ends; switches = c.self.inside.switches; blocks = c.self.inside.blocks; count = c.self.inside.count; rows = c.self.inside.rows.keys; places = c.self.inside.places.items; current = c.self.inside.current; row = c.self.inside.row.items } in
    let e = c.self.view_is in
    let low : c.args.place < old.ends + old.switches = subst (λ (v : LevelRowsOf). c.args.place < v.ends + v.switches) (sym e) c.requires in
    let many : c.self.inside.places.len ≡ length c.save.new.places = omega (arith, c.self.inside.places.ok.0, c.save.auto.places, c.deref_mut.ensures.len) in
    let size : length c.load.new.row ≡ 64 * old.blocks = c.load.auto.row ∙ ap length c.deref_mut-2.ensures.value ∙ c.self.invariant.row_size in
    let wide : c.self.inside.row.len ≡ length c.load.new.row = omega (arith, c.self.inside.row.ok.0, c.self.invariant.row_size, size) in
    let places_is = whole c.self.inside.places.len c.save.new.places (drop (length c.save.new.places) c.self.inside.places.items) many in
    let row_is = whole c.self.inside.row.len c.load.new.row (drop (length c.load.new.row) c.self.inside.row.items) wide in
    let seen = c.deref-2.ensures.value ∙ places_is in
    subst (λ (v : LevelRowsOf). SaysAsMuch v (record { ends = old.ends; switches = old.switches; blocks = old.blocks; count = old.count; rows = c.save.new.rows.keys; places = take c.self.inside.places.len (c.save.new.places ++ drop (length c.save.new.places) c.self.inside.places.items); current = c.args.place; row = take c.self.inside.row.len (c.load.new.row ++ drop (length c.load.new.row) c.self.inside.row.items) })) e
    (selected old c.self.invariant c.save.new.rows.keys c.deref_mut.result.now c.deref.result.now c.save.new.places c.deref-2.result.now c.load.new.row
    (take c.self.inside.places.len (c.save.new.places ++ drop (length c.save.new.places) c.self.inside.places.items))
    (take c.self.inside.row.len (c.load.new.row ++ drop (length c.load.new.row) c.self.inside.row.items))
    c.args.place c.deref_mut.ensures.value c.deref.ensures.value seen places_is row_is
    c.in_ok-save.ensures.kept c.in_ok-save.ensures.saved c.in_ok-save.ensures.others c.load.ensures size low c.if-place-self.false)

pub invariant_of-self : goal.invariant_of-self
invariant_of-self c =
    let old : LevelRowsOf = record { ends = c.self.inside.ends; switches = c.self.inside.switches; blocks = c.self.inside.blocks; count = c.self.inside.count; rows = c.self.inside.rows.keys; places = c.self.inside.places.items; current = c.self.inside.current; row = c.self.inside.row.items } in
    let many : c.self.inside.places.len ≡ length c.save.new.places = omega (arith, c.self.inside.places.ok.0, c.save.auto.places, c.deref_mut.ensures.len) in
    let places_is = whole c.self.inside.places.len c.save.new.places (drop (length c.save.new.places) c.self.inside.places.items) many in
    let same : length c.save.new.places ≡ length old.places = omega (arith, many, c.self.inside.places.ok.0) in
    let given = take c.self.inside.places.len (c.save.new.places ++ drop (length c.save.new.places) c.self.inside.places.items) in
    let are : ArePlaces c.save.new.rows.keys (take c.self.inside.places.len (c.save.new.places ++ drop (length c.save.new.places) c.self.inside.places.items)) = subst (λ (xs : List ℕ). ArePlaces c.save.new.rows.keys xs) (sym places_is) c.save.ensures.places in
    let alike = says_still old c.self.invariant c.save.new.rows.keys c.deref_mut.result.now c.save.new.places given c.deref_mut.ensures.value places_is c.save.ensures.kept c.save.ensures.others in
    still_fits old (record { ends = old.ends; switches = old.switches; blocks = old.blocks; count = old.count; rows = c.save.new.rows.keys; places = take c.self.inside.places.len (c.save.new.places ++ drop (length c.save.new.places) c.self.inside.places.items); current = old.current; row = old.row }) c.self.invariant alike are (ap length places_is ∙ same) c.self.invariant.row_size c.save.ensures.kept.few c.self.invariant.current

pub invariant_of-self-2 : goal.invariant_of-self-2
invariant_of-self-2 c =
    let old : LevelRowsOf = record { ends = c.self.inside.ends; switches = c.self.inside.switches; blocks = c.self.inside.blocks; count = c.self.inside.count; rows = c.self.inside.rows.keys; places = c.self.inside.places.items; current = c.self.inside.current; row = c.self.inside.row.items } in
    let many : c.self.inside.places.len ≡ length c.save.new.places = omega (arith, c.self.inside.places.ok.0, c.save.auto.places, c.deref_mut.ensures.len) in
    let places_is = whole c.self.inside.places.len c.save.new.places (drop (length c.save.new.places) c.self.inside.places.items) many in
    let same : length c.save.new.places ≡ length old.places = omega (arith, many, c.self.inside.places.ok.0) in
    let given = take c.self.inside.places.len (c.save.new.places ++ drop (length c.save.new.places) c.self.inside.places.items) in
    let are : ArePlaces c.save.new.rows.keys (take c.self.inside.places.len (c.save.new.places ++ drop (length c.save.new.places) c.self.inside.places.items)) = subst (λ (xs : List ℕ). ArePlaces c.save.new.rows.keys xs) (sym places_is) c.save.ensures.places in
    let e = c.self.view_is in
    let low : c.args.place < old.ends + old.switches = subst (λ (v : LevelRowsOf). c.args.place < v.ends + v.switches) (sym e) c.requires in
    let size : length c.load.new.row ≡ 64 * old.blocks = c.load.auto.row ∙ ap length c.deref_mut-2.ensures.value ∙ c.self.invariant.row_size in
    let wide : c.self.inside.row.len ≡ length c.load.new.row = omega (arith, c.self.inside.row.ok.0, c.self.invariant.row_size, size) in
    let row_is = whole c.self.inside.row.len c.load.new.row (drop (length c.load.new.row) c.self.inside.row.items) wide in
    let seen = c.deref-2.ensures.value ∙ places_is in
    let alike = selected old c.self.invariant c.save.new.rows.keys c.deref_mut.result.now c.deref.result.now c.save.new.places c.deref-2.result.now c.load.new.row
    (take c.self.inside.places.len (c.save.new.places ++ drop (length c.save.new.places) c.self.inside.places.items))
    (take c.self.inside.row.len (c.load.new.row ++ drop (length c.load.new.row) c.self.inside.row.items))
    c.args.place c.deref_mut.ensures.value c.deref.ensures.value seen places_is row_is
    c.in_ok-save.ensures.kept c.in_ok-save.ensures.saved c.in_ok-save.ensures.others c.load.ensures size low c.if-place-self.false in
    still_fits old (record { ends = old.ends; switches = old.switches; blocks = old.blocks; count = old.count; rows = c.save.new.rows.keys; places = take c.self.inside.places.len (c.save.new.places ++ drop (length c.save.new.places) c.self.inside.places.items); current = c.args.place; row = take c.self.inside.row.len (c.load.new.row ++ drop (length c.load.new.row) c.self.inside.row.items) }) c.self.invariant alike are (ap length places_is ∙ same) (ap length row_is ∙ size) c.save.ensures.kept.few (inl low)
