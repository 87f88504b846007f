use Rattle.std.proofs.Common.{◌≡◌, refl, ℕ, ◌+◌, ◌<◌, [], ◌∷◌, map, true, false, eqb, leb, arith}
use Rattle.std.specs.Char.{is_ascii_digit}
use Rattle.std.proofs.lemmas.Bool.Decides.{nat_tests}
use Rattle.common_lines.specs.Words.{number_value}
use Rattle.table_script.specs.TableRules.{are_ports, port_words}
use Rattle.table_script.proofs.ShortLemmas.{one_digit}

-- a port of one digit
pub one_port : (a d : ℕ) → is_ascii_digit a ≡ true → d + 48 ≡ a → d < 10 → 0 < d → (are_ports 0 (port_words (a ∷ [])) ≡ true) × (d ∷ [] ≡ map number_value (port_words (a ∷ [])))
one_port a d digit is low some =
    let n = one_digit a d digit is low in
    let dash : eqb a 45 ≡ false = grind (arith, nat_tests) in
    let slash : eqb a 47 ≡ false = grind (arith, nat_tests) in
    let least : leb 1 d ≡ true = grind (arith, nat_tests) in
    let most : leb d 12 ≡ true = grind (arith, nat_tests) in
    (rw (dash, slash, n.0, ← n.1, least, most) refl, rw (dash, slash, ← n.1) refl)
