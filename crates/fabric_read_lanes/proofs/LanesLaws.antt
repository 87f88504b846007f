-- Texts of lanes: each is that of one assignment, or has one first fault.
use Rattle.std.proofs.Common.{◌≡◌, ◌∙◌, sym, ap, refl, ℕ, ◌⊎◌, inl, inr, Bool, true, false, List}
use Rattle.fabric_model.specs.Fabric.{FabricOf}
use Rattle.fabric_lane_tables.specs.Lanes.{LanesOf, lanes_by}
use Rattle.fabric_words.specs.declared.lane_cause.LaneCause.{LaneCause}
use Rattle.fabric_words.specs.declared.lane_cause.LaneCause.TheVariants.{NoEnd}
use Rattle.fabric_read_lines.proofs.TextLaws as laws
use Rattle.fabric_read_lanes.specs.Lanes.{IsEnded, IsLanesFault, IsLanesText, Told, may_end, none_told, told_after}

is_or : (b : Bool) → (b ≡ true) ⊎ (¬ (b ≡ true))
is_or true = inl refl
is_or false = inr (λ is. absurd (cc))

ended_or : (told : Told) → IsEnded told ⊎ (¬ IsEnded told)
ended_or told = is_or (may_end told.part)

module _ (fabric : FabricOf) (bytes : List ℕ) where
  pub one_text : (lanes others : LanesOf) → IsLanesText fabric bytes lanes → IsLanesText fabric bytes others → lanes ≡ others
  one_text lanes others is too = is.says ∙ ap (λ (t : Told). lanes_by t.rows) (laws.one_text (told_after fabric) IsEnded ended_or NoEnd none_told bytes is.last too.last is.text too.text) ∙ sym too.says

  pub one_fault : (line other : ℕ) (cause also : LaneCause) → IsLanesFault fabric bytes line cause → IsLanesFault fabric bytes other also → (line ≡ other) × (cause ≡ also)
  one_fault line other cause also is too = laws.one_fault (told_after fabric) IsEnded ended_or NoEnd none_told bytes line other cause also is too

  pub not_both : (lanes : LanesOf) (line : ℕ) (cause : LaneCause) → IsLanesText fabric bytes lanes → IsLanesFault fabric bytes line cause → ⊥
  not_both lanes line cause is fault = laws.text_or (told_after fabric) IsEnded ended_or NoEnd none_told bytes is.last line cause is.text fault

  pub either : ((lanes : LanesOf) × IsLanesText fabric bytes lanes) ⊎ ((line : ℕ) × (cause : LaneCause) × IsLanesFault fabric bytes line cause)
  either = elim (laws.either (told_after fabric) IsEnded ended_or NoEnd none_told bytes) [
    | inl text ↦ inl (lanes_by text.0.rows, record { last = text.0; text = text.1; says = refl })
    | inr fault ↦ inr fault
  ]
