-- Room for more LIDs.
use Rattle.std.proofs.Common.{◌≡◌, ◌∙◌, sym, ap, refl, subst, ℕ, ◌+◌, ◌*◌, ◌-◌, ◌/◌, ◌%◌, ◌<◌, ◌≤◌, ◌++◌, Bool, true, false, cond, ltb, Option, Some, None, List, arith, length, get_or, replicate, take, inl, inr}
use Rattle.std.specs.Int.{bit_at}
use Rattle.std.proofs.Math.Nat.{div-lt_iff_lt-mul}
use Rattle.std.proofs.lemmas.Bool.{cases_eq, cases_lt}
use Rattle.std.proofs.lemmas.Bool.Decides.{nat_tests}
use Rattle.std.proofs.lemmas.List.{get_or_append_left, get_or-append_right, get_or_past, get_or-replicate, length-replicate, take_all}
use Rattle.std.proofs.lemmas.Nat.{div-mul-add, mod-mul-add, mul-add-lt}
use Rattle.std.proofs.lemmas.Option.{slice_get_past}
use Rattle.fabric_model.specs.declared.node.EndPort.{EndPort}
use Rattle.fabric_lane_tables.specs.PathLevels.{AreLevelRows, AreWidened, IsBlockPlace, LevelRowsOf}
use Rattle.fabric_lane_tables.specs.PathLevels.{block_word, levels_at, levels_here, place_of_source, stored_at, told_levels, wide_place, word_in}
use Rattle.fabric_lane_tables.proofs.SelectLemmas.{here_now, here_stored, levels_past, place_low, spot_low}

-- the place of a block among rows that have more
pub spot_of : (rows old new index : ℕ) → index < rows * new → index % new < old → index / new * old + index % new < rows * old
spot_of rows old new index low less =
    let some : 0 < new = elim (cases_eq new 0) [
      | inl zero ↦ (let none : rows * new ≡ rows * 0 = ap (λ (n : ℕ). rows * n) zero in absurd (omega arith))
      | inr other ↦ (omega arith)
    ] in
    let row = (div-lt_iff_lt-mul {k = new} {x = index} {y = rows} some).1 low in
    let spot = mul-add-lt (index / new) old (index % new) rows row less in
    omega arith

-- a row with more says what it said
zeros : (zero n k : ℕ) → get_or (replicate n zero) k zero ≡ zero
zeros zero n k = elim (cases_lt k n) [
  | inl low ↦ get_or-replicate n k zero zero low
  | inr past ↦ get_or_past (replicate n zero) k zero (omega (arith, past, length-replicate n zero))
]

pub row_still : (old new : List ℕ) (count size : ℕ) → size ≡ length old → length old ≤ count → new ≡ take count old ++ replicate (count - size) 0 → (lid : ℕ) → get_or new lid 0 ≡ get_or old lid 0
row_still old new count size size_is less is lid =
    let whole : new ≡ old ++ replicate (count - size) 0 = is ∙ ap (λ (xs : List ℕ). xs ++ replicate (count - size) 0) (take_all count old less) in
    ap (λ (xs : List ℕ). get_or xs lid 0) whole ∙ elim (cases_lt lid (length old)) [
      | inl low ↦ get_or_append_left old (replicate (count - size) 0) 0 lid low
      | inr past ↦ get_or-append_right old (replicate (count - size) 0) (length old) lid 0 refl past ∙ zeros 0 (count - size) (lid - length old) ∙ sym (get_or_past old lid 0 past)
    ]

wide_low : (places : List ℕ) (old row block : ℕ) → block < old → wide_place places old row block ≡ get_or places (row * old + block) 4294967295
wide_low places old row block low =
    let b : ltb block old ≡ true = grind (arith, nat_tests) in
    ap (λ (c : Bool). cond c (get_or places (row * old + block) 4294967295) 4294967295) b

wide_past : (places : List ℕ) (old row block : ℕ) → old ≤ block → wide_place places old row block ≡ 4294967295
wide_past places old row block past =
    let b : ltb block old ≡ false = grind (arith, nat_tests) in
    ap (λ (c : Bool). cond c (get_or places (row * old + block) 4294967295) 4294967295) b

at_within : (t : LevelRowsOf) (p lid : ℕ) → lid < 64 * t.blocks → levels_at t lid (Some p) ≡ levels_here t p lid
at_within t p lid within =
    let b : ltb lid (64 * t.blocks) ≡ true = grind (arith, nat_tests) in
    ap (λ (c : Bool). cond c (levels_here t p lid) 0) b

module _ (old : LevelRowsOf) (ok : AreLevelRows old) (blocks : ℕ) (more : old.blocks ≤ blocks) (few : blocks ≤ 1024) (places row : List ℕ) (are : AreWidened old.places (old.ends + old.switches) old.blocks blocks places) (size : length row ≡ 64 * blocks) (row_is : (lid : ℕ) → get_or row lid 0 ≡ get_or old.row lid 0) where
  abbrev new : LevelRowsOf
  new = record { ends = old.ends; switches = old.switches; blocks = blocks; count = old.count; rows = old.rows; places = places; current = old.current; row = row }

  place_at : (p lid : ℕ) → p < old.ends + old.switches → lid < 64 * blocks → get_or places (p * blocks + lid / 64) 4294967295 ≡ wide_place old.places old.blocks p (lid / 64)
  place_at p lid low within =
      let block : lid / 64 < blocks = omega arith in
      let spot = spot_low (old.ends + old.switches) blocks p lid ((old.ends + old.switches) * blocks) low within refl in
      are.each (p * blocks + lid / 64) spot
      ∙ ap (λ (r : ℕ). wide_place old.places old.blocks r ((p * blocks + lid / 64) % blocks)) (div-mul-add p blocks (lid / 64) block)
      ∙ ap (wide_place old.places old.blocks p) (mod-mul-add p blocks (lid / 64) block)

  stored_low : (p lid : ℕ) → p < old.ends + old.switches → lid < 64 * old.blocks → stored_at new p lid ≡ stored_at old p lid
  stored_low p lid low within =
      let there : lid < 64 * blocks = omega arith in
      let block : lid / 64 < old.blocks = omega arith in
      ap (λ (n : ℕ). block_word old.rows n lid) (place_at p lid low there ∙ wide_low old.places old.blocks p (lid / 64) block)

  stored_past : (p lid : ℕ) → p < old.ends + old.switches → 64 * old.blocks ≤ lid → lid < 64 * blocks → stored_at new p lid ≡ 0
  stored_past p lid low past within =
      let block : old.blocks ≤ lid / 64 = omega arith in
      ap (λ (n : ℕ). block_word old.rows n lid) (place_at p lid low within ∙ wide_past old.places old.blocks p (lid / 64) block)
      ∙ ap (λ (o : Option (List ℕ)). word_in o lid) (slice_get_past old.rows 4294967295 ok.rows)

  here_low : (p lid : ℕ) → p < old.ends + old.switches → lid < 64 * old.blocks → levels_here new p lid ≡ levels_here old p lid
  here_low p lid low within = elim (cases_eq p old.current) [
    | inl last ↦ here_now new p lid last ∙ row_is lid ∙ sym (here_now old p lid last)
    | inr away ↦ here_stored new p lid away ∙ stored_low p lid low within ∙ sym (here_stored old p lid away)
  ]

  here_past : (p lid : ℕ) → p < old.ends + old.switches → 64 * old.blocks ≤ lid → lid < 64 * blocks → levels_here new p lid ≡ 0
  here_past p lid low past within = elim (cases_eq p old.current) [
    | inl last ↦ (let beyond : length old.row ≤ lid = omega (arith, ok.row_size) in here_now new p lid last ∙ row_is lid ∙ get_or_past old.row lid 0 beyond)
    | inr away ↦ here_stored new p lid away ∙ stored_past p lid low past within
  ]

  at_same : (lid : ℕ) (o : Option ℕ) → ((p : ℕ) → o ≡ Some p → p < old.ends + old.switches) → levels_at new lid o ≡ levels_at old lid o
  at_same lid None low = refl
  at_same lid (Some p) low = elim (cases_lt lid (64 * blocks)) [
    | inl within ↦ (elim (cases_lt lid (64 * old.blocks)) [
      | inl less ↦ at_within new p lid within ∙ here_low p lid (low p refl) less ∙ sym (at_within old p lid less)
      | inr past ↦ at_within new p lid within ∙ here_past p lid (low p refl) past within ∙ sym (levels_past old lid (Some p) past)
    ])
    | inr past ↦ levels_past new lid (Some p) past ∙ sym (levels_past old lid (Some p) (omega arith))
  ]

  -- each level stays
  pub levels_same : (source : EndPort) (lid : ℕ) → told_levels new source lid ≡ told_levels old source lid
  levels_same source lid = at_same lid (place_of_source old source) (λ p at. place_low old source p at)

  wide_is : (k : ℕ) → k < (old.ends + old.switches) * blocks → IsBlockPlace old.rows (wide_place old.places old.blocks (k / blocks) (k % blocks))
  wide_is k low = elim (cases_lt (k % blocks) old.blocks) [
    | inl less ↦
        let spot = spot_of (old.ends + old.switches) old.blocks blocks k low less in
        subst (IsBlockPlace old.rows) (sym (wide_low old.places old.blocks (k / blocks) (k % blocks) less)) (ok.each (k / blocks * old.blocks + k % blocks) (omega (arith, spot, ok.size)))
    | inr past ↦ inl (wide_past old.places old.blocks (k / blocks) (k % blocks) past)
  ]

  pub wide_fits : AreLevelRows new
  wide_fits = record {
    size = are.size;
    row_size = size;
    few_ends = ok.few_ends;
    few = ok.few;
    low = few;
    rows = ok.rows;
    each = λ k low. (let less : k < (old.ends + old.switches) * blocks = omega (arith, low, are.size) in subst (IsBlockPlace old.rows) (sym (are.each k less)) (wide_is k less));
    current = ok.current;
    few_levels = ok.few_levels;
    below = λ source lid level has. ok.below source lid level (has.0, ap (λ (n : ℕ). bit_at n level) (sym (levels_same source lid)) ∙ has.1);
  }
