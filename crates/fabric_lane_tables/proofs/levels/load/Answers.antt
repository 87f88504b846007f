use Rattle.std.proofs.Common.{◌∙◌, ◌+◌, ◌/◌, ◌<◌, ap, sym, arith, length, get_or, set, inl, inr, ℕ}
use Rattle.std.proofs.lemmas.Bool.{cases_eq}
use Rattle.std.proofs.lemmas.List.{get_or-set_same, get_or-set_other, get_or_default}
use Rattle.fabric_lane_tables.specs.PathLevels.{block_word}
use Rattle.fabric_lane_tables.proofs.levels.load.Goals as goal

pub lids-preserved : goal.lids-preserved
lids-preserved c k low =
    let within : c.lids.lid < length c.lids.row = omega (arith, c.lids-test.true, c.lids.auto.row, c.requires.size) in
    let spot : c.args.first + c.lids.lid / 64 < length c.args.places.now = omega (arith, c.lids-test.true, c.requires.within) in
    elim (cases_eq k c.lids.lid) [
      | inl same ↦
          ap (λ (j : ℕ). get_or (set c.lids.row c.lids.lid c.word_at.result) j 0) same
          ∙ get_or-set_same c.lids.row c.lids.lid c.word_at.result 0 within
          ∙ c.word_at.ensures
          ∙ ap (λ (n : ℕ). block_word c.args.rows.now.keys n c.lids.lid) (get_or_default c.args.places.now (c.args.first + c.lids.lid / 64) 0 4294967295 spot)
          ∙ ap (λ (j : ℕ). block_word c.args.rows.now.keys (get_or c.args.places.now (c.args.first + j / 64) 4294967295) j) (sym same)
      | inr other ↦ get_or-set_other c.lids.row c.lids.lid k c.word_at.result 0 other ∙ c.lids.invariant k (omega arith)
    ]
