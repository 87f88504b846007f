-- End ports whose blocks of levels are kept as one.
use Rattle.std.proofs.Common.{◌≡◌, ◌≢◌, ◌∙◌, sym, ap, ℕ, ◌+◌, ◌*◌, ◌/◌, ◌<◌, Bool, cond, ltb, Some, get_or, arith}
use Rattle.std.proofs.lemmas.Bool.{ne_eqb}
use Rattle.std.proofs.lemmas.Nat.{div-mul-add}
use Rattle.fabric_model.specs.declared.node.EndPort.{EndPort}
use Rattle.fabric_lane_tables.specs.PathLevels.{HaveSameLevels, LevelRowsOf, block_word, levels_at, place_of_source, stored_at, told_levels}

module _ (told : LevelRowsOf) where
  -- the levels of an end port that was not told last
  told_at : (source : EndPort) (place lid : ℕ) → place_of_source told source ≡ Some place → place ≢ told.current → told_levels told source lid ≡ cond (ltb lid (64 * told.blocks)) (stored_at told place lid) 0
  told_at source place lid at other =
      ap (levels_at told lid) at
      ∙ ap (λ (b : Bool). cond (ltb lid (64 * told.blocks)) (cond b (get_or told.row lid 0) (stored_at told place lid)) 0) (ne_eqb place told.current other)

  block_of : (block bit : ℕ) → bit < 64 → (64 * block + bit) / 64 ≡ block
  block_of block bit low =
      let same : 64 * block + bit ≡ block * 64 + bit = omega arith in
      ap (λ (n : ℕ). n / 64) same ∙ div-mul-add block 64 bit low

  pub same_block : (one other : EndPort) (block at there : ℕ) → place_of_source told one ≡ Some at → place_of_source told other ≡ Some there → at ≢ told.current → there ≢ told.current → get_or told.places (at * told.blocks + block) 4294967295 ≡ get_or told.places (there * told.blocks + block) 4294967295 → HaveSameLevels (told_levels told) one other block
  same_block one other block at there is_at is_there differs differs_too same bit low =
      let lid = 64 * block + bit in
      let here = ap (λ (b : ℕ). get_or told.places (at * told.blocks + b) 4294967295) (block_of block bit low) in
      let over = ap (λ (b : ℕ). get_or told.places (there * told.blocks + b) 4294967295) (block_of block bit low) in
      told_at one at (64 * block + bit) is_at differs
      ∙ ap (λ (place : ℕ). cond (ltb (64 * block + bit) (64 * told.blocks)) (block_word told.rows place (64 * block + bit)) 0) (here ∙ same ∙ sym over)
      ∙ sym (told_at other there (64 * block + bit) is_there differs_too)
