-- One text, or one fault.
use Rattle.std.proofs.Common.{◌≡◌, ap, refl, ◌∙◌, sym, ℕ, ◌⊎◌, inl, inr, Bool, true, false, List}
use Rattle.std.proofs.lemmas.Bool.{false≢true}
use Rattle.fabric_model.specs.Fabric.{FabricOf}
use Rattle.fabric_tables.specs.Cells.{TablesOf}
use Rattle.fabric_read_lines.proofs.TextLaws as laws
use Rattle.fabric_read_tables.specs.declared.cause.TablesCause.{TablesCause}
use Rattle.fabric_read_tables.specs.declared.cause.TablesCause.TheVariants.{NoEnd}
use Rattle.fabric_read_tables.specs.Tables.{Told, may_end, none_told, told_after, IsEnded, IsTablesText, IsTablesFault}

or_not : (b : Bool) → (b ≡ true) ⊎ (¬ (b ≡ true))
or_not true = inl refl
or_not false = inr false≢true

ended_or : (d : Told) → IsEnded d ⊎ (¬ IsEnded d)
ended_or d = or_not (may_end d.part)

module _ (fabric : FabricOf) (bytes : List ℕ) where
  pub one_text : (tables others : TablesOf) (rows unowned more other : ℕ) → IsTablesText fabric bytes tables rows unowned → IsTablesText fabric bytes others more other → (tables ≡ others) × (rows ≡ more) × (unowned ≡ other)
  one_text tables others rows unowned more other a b =
      let last = laws.one_text (told_after fabric) IsEnded ended_or NoEnd none_told bytes a.last b.last (record { good = a.good; ended = a.ended }) (record { good = b.good; ended = b.ended }) in (
        a.says ∙ ap (λ (t : Told). t.tables) last ∙ sym b.says,
        a.rows_are ∙ ap (λ (t : Told). t.rows) last ∙ sym b.rows_are,
        a.unowned_are ∙ ap (λ (t : Told). t.unowned) last ∙ sym b.unowned_are,
      )

  pub no_fault : (tables : TablesOf) (rows unowned line : ℕ) (cause : TablesCause) → IsTablesText fabric bytes tables rows unowned → IsTablesFault fabric bytes line cause → ⊥
  no_fault tables rows unowned line cause text fault = laws.text_or (told_after fabric) IsEnded ended_or NoEnd none_told bytes text.last line cause (record { good = text.good; ended = text.ended }) fault

  pub one_fault : (line other : ℕ) (cause also : TablesCause) → IsTablesFault fabric bytes line cause → IsTablesFault fabric bytes other also → (line ≡ other) × (cause ≡ also)
  one_fault line other cause also one two = laws.one_fault (told_after fabric) IsEnded ended_or NoEnd none_told bytes line other cause also one two

  pub text_or_fault : ((tables : TablesOf) × (rows : ℕ) × (unowned : ℕ) × IsTablesText fabric bytes tables rows unowned) ⊎ ((line : ℕ) × (cause : TablesCause) × IsTablesFault fabric bytes line cause)
  text_or_fault = elim (laws.either (told_after fabric) IsEnded ended_or NoEnd none_told bytes) [
    | inl text ↦ inl (text.0.tables, text.0.rows, text.0.unowned, record { last = text.0; good = text.1.good; ended = text.1.ended; says = refl; rows_are = refl; unowned_are = refl })
    | inr fault ↦ inr fault
  ]
