use Rattle.std.proofs.Common.{◌≡◌, ◌∙◌, ◌*◌, ◌%◌, ◌^◌, ◌<◌, ap, sym, subst, arith, length, get_or, set, ℕ, Some, ◌+◌, max}
use Rattle.std.specs.Prelude.{bit_or}
use Rattle.std.proofs.lemmas.List.{get_or_default}
use Rattle.std.proofs.lemmas.Nat.{one_shl}
use Rattle.fabric_lane_tables.specs.PathLevels.{AreLevelRows, IsLevelAdded, LevelRowsOf, SaysAsMuch, told_levels, place_of_source}
use Rattle.fabric_lane_tables.proofs.SelectLemmas.{added_after, added_fits, not_placed, place_as}
use Rattle.fabric_lane_tables.proofs.levels.LevelRows.add.Goals as goal

pub returns-in_default-clause-added : goal.returns-in_default-clause-added
returns-in_default-clause-added c = absurd (not_placed c.args.self.now c.args.source c.requires.source (sym c.place.ensures.place ∙ c.in_default.is))

pub returns-in_ok-select-clause-added : goal.returns-in_ok-select-clause-added
returns-in_ok-select-clause-added c =
    let mid : LevelRowsOf = record { ends = c.self.inside.ends; switches = c.self.inside.switches; blocks = c.self.inside.blocks; count = c.self.inside.count; rows = c.self.inside.rows.keys; places = c.self.inside.places.items; current = c.self.inside.current; row = c.self.inside.row.items } in
    let e = c.self.view_is in
    let alike : SaysAsMuch c.args.self.now mid = subst (λ (v : LevelRowsOf). SaysAsMuch c.args.self.now v) (sym e) c.in_ok-select.ensures.same in
    let now : mid.current ≡ c.in-Some.place = subst (λ (v : LevelRowsOf). v.current ≡ c.in-Some.place) (sym e) c.in_ok-select.ensures.current in
    let at : place_of_source c.args.self.now c.args.source ≡ Some c.in-Some.place = sym c.place.ensures.place ∙ c.in-Some.is in
    let within : c.args.lid < length mid.row = omega (arith, c.requires.lid, c.self.invariant.row_size, alike.blocks) in
    let word : c.index.result.now ≡ get_or mid.row c.args.lid 0 = c.index.ensures ∙ get_or_default mid.row c.args.lid c.index.result.now 0 within in
    let bit = one_shl c.args.level 16 c.requires.level in
    let both : bit_or c.index.result.now (1 * 2 ^ c.args.level % 2 ^ 16) ≡ bit_or (get_or mid.row c.args.lid 0) (2 ^ c.args.level) = ap (λ (w : ℕ). bit_or w (1 * 2 ^ c.args.level % 2 ^ 16)) word ∙ ap (λ (w : ℕ). bit_or (get_or mid.row c.args.lid 0) w) bit in
    subst (λ (n : ℕ). IsLevelAdded (told_levels c.args.self.now) (told_levels (record { ends = mid.ends; switches = mid.switches; blocks = mid.blocks; count = mid.count; rows = mid.rows; places = mid.places; current = mid.current; row = set mid.row c.args.lid n })) c.args.source c.args.lid c.args.level) (sym both)
    (added_after c.args.self.now mid c.args.source c.in-Some.place c.args.lid c.args.level alike c.self.invariant.row_size now at c.requires.lid)

pub invariant_of-self : goal.invariant_of-self
invariant_of-self c =
    let mid : LevelRowsOf = record { ends = c.self.inside.ends; switches = c.self.inside.switches; blocks = c.self.inside.blocks; count = c.self.inside.count; rows = c.self.inside.rows.keys; places = c.self.inside.places.items; current = c.self.inside.current; row = c.self.inside.row.items } in
    let e = c.self.view_is in
    let alike : SaysAsMuch c.args.self.now mid = subst (λ (v : LevelRowsOf). SaysAsMuch c.args.self.now v) (sym e) c.in_ok-select.ensures.same in
    let now : mid.current ≡ c.in-Some.place = subst (λ (v : LevelRowsOf). v.current ≡ c.in-Some.place) (sym e) c.in_ok-select.ensures.current in
    let at : place_of_source c.args.self.now c.args.source ≡ Some c.in-Some.place = sym c.place.ensures.place ∙ c.in-Some.is in
    let within : c.args.lid < length mid.row = omega (arith, c.requires.lid, c.self.invariant.row_size, alike.blocks) in
    let word : c.index.result.now ≡ get_or mid.row c.args.lid 0 = c.index.ensures ∙ get_or_default mid.row c.args.lid c.index.result.now 0 within in
    let bit = one_shl c.args.level 16 c.requires.level in
    let both : bit_or c.index.result.now (1 * 2 ^ c.args.level % 2 ^ 16) ≡ bit_or (get_or mid.row c.args.lid 0) (2 ^ c.args.level) = ap (λ (w : ℕ). bit_or w (1 * 2 ^ c.args.level % 2 ^ 16)) word ∙ ap (λ (w : ℕ). bit_or (get_or mid.row c.args.lid 0) w) bit in
    let there = place_as c.args.self.now mid c.args.source alike ∙ at in
    let few : c.args.lid < 64 * mid.blocks = omega (arith, c.requires.lid, alike.blocks) in
    subst (λ (n : ℕ). AreLevelRows (record { ends = mid.ends; switches = mid.switches; blocks = mid.blocks; count = n; rows = mid.rows; places = mid.places; current = mid.current; row = set mid.row c.args.lid (bit_or c.index.result.now (1 * 2 ^ c.args.level % 2 ^ 16)) })) (sym c.max-self-inside.ensures)
    (subst (λ (n : ℕ). AreLevelRows (record { ends = mid.ends; switches = mid.switches; blocks = mid.blocks; count = max mid.count (c.args.level + 1); rows = mid.rows; places = mid.places; current = mid.current; row = set mid.row c.args.lid n })) (sym both)
    (added_fits mid c.self.invariant c.args.source c.in-Some.place c.args.lid c.args.level there now few c.requires.level))
