-- Texts of levels: each is that of one assignment, or has one first fault.
use Rattle.std.proofs.Common.{◌≡◌, ◌∙◌, sym, ap, refl, ℕ, ◌⊎◌, inl, inr, List, Bool, true, false}
use Rattle.fabric_model.specs.Fabric.{FabricOf}
use Rattle.fabric_lane_tables.specs.PathLevels.{LevelsOf}
use Rattle.fabric_words.specs.declared.lane_cause.LaneCause.{LaneCause}
use Rattle.fabric_words.specs.declared.lane_cause.LaneCause.TheVariants.{NoEnd}
use Rattle.fabric_read_lines.proofs.TextLaws as laws
use Rattle.fabric_read_lanes.specs.Levels.{IsEnded, IsLevelsFault, IsLevelsText, Told, is_begun, none_told, told_after}

begun_or : (begun : Bool) → (begun ≡ true) ⊎ (¬ (begun ≡ true))
begun_or true = inl refl
begun_or false = inr (λ is. absurd (cc))

ended_or : (told : Told) → IsEnded told ⊎ (¬ IsEnded told)
ended_or told = begun_or (is_begun told.part)

module _ (fabric : FabricOf) (bytes : List ℕ) where
  pub one_text : (levels others : LevelsOf) → IsLevelsText fabric bytes levels → IsLevelsText fabric bytes others → levels ≡ others
  one_text levels others is too = is.says ∙ ap (λ (t : Told). t.levels) (laws.one_text (told_after fabric) IsEnded ended_or NoEnd none_told bytes is.last too.last is.text too.text) ∙ sym too.says

  pub one_fault : (line other : ℕ) (cause also : LaneCause) → IsLevelsFault fabric bytes line cause → IsLevelsFault fabric bytes other also → (line ≡ other) × (cause ≡ also)
  one_fault line other cause also is too = laws.one_fault (told_after fabric) IsEnded ended_or NoEnd none_told bytes line other cause also is too

  pub not_both : (levels : LevelsOf) (line : ℕ) (cause : LaneCause) → IsLevelsText fabric bytes levels → IsLevelsFault fabric bytes line cause → ⊥
  not_both levels line cause is fault = laws.text_or (told_after fabric) IsEnded ended_or NoEnd none_told bytes is.last line cause is.text fault

  pub either : ((levels : LevelsOf) × IsLevelsText fabric bytes levels) ⊎ ((line : ℕ) × (cause : LaneCause) × IsLevelsFault fabric bytes line cause)
  either = elim (laws.either (told_after fabric) IsEnded ended_or NoEnd none_told bytes) [
    | inl text ↦ inl (text.0.levels, record { last = text.0; text = text.1; says = refl })
    | inr fault ↦ inr fault
  ]
