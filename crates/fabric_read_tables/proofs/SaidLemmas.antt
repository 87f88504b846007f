-- What lines say, and what they add.
use Rattle.std.proofs.Common.{◌≡◌, ◌∙◌, sym, ap, refl, ℕ, ◌≤◌, inl, inr, List, arith, length, take, min, Ok, false, ltb}
use Rattle.std.specs.Prelude.{codes}
use Rattle.std.proofs.lemmas.Bool.{cases_lt}
use Rattle.std.proofs.lemmas.Bool.Decides.{nat_tests}
use Rattle.std.proofs.lemmas.List.{take_all}
use Rattle.common_lines.specs.Lines.{words_of}
use Rattle.fabric_words.specs.Cuts.{begins}
use Rattle.fabric_model.specs.Fabric.{FabricOf}
use Rattle.fabric_read_tables.specs.declared.line.TableLine.{TableLine}
use Rattle.fabric_read_tables.specs.TableLines.{said_by, said_in}
use Rattle.fabric_read_tables.specs.Tables.{Told, told_with, told_after}

-- a front of as many bytes as there are, and sixteen at most
pub front_of : (bytes : List ℕ) (count : ℕ) → count ≡ min (length bytes) 16 → take count bytes ≡ take 16 bytes
front_of bytes count is = elim (cases_lt (length bytes) 16) [
  | inl few ↦ take_all count bytes (omega (arith, is)) ∙ sym (take_all 16 bytes (omega arith))
  | inr many ↦ let same : count ≡ 16 = omega (arith, is) in ap (λ (n : ℕ). take n bytes) same
]

-- a line that is no row, no head and no warning
pub said_by_words : (line : List ℕ) (words : List (List ℕ)) → length line ≤ 4096 → begins (codes "0x") line ≡ false → begins (codes "Unicast lids ") line ≡ false → begins (codes "*** WARNING ***") line ≡ false → words ≡ words_of line → said_in line ≡ said_by words
unfolding said_in
said_by_words line words short row head warning are =
    let t : ltb 4096 (length line) ≡ false = grind (arith, nat_tests) in
    rw (t, row, head, warning, are) refl

-- what a line says leads to what is told after the line
pub told_by : (fabric : FabricOf) (told : Told) (line : List ℕ) (said : TableLine) → said_in line ≡ Ok said → told_after fabric told line ≡ told_with fabric told said
unfolding told_after
told_by fabric told line said is = rw is refl
