use Rattle.std.proofs.Common.{◌≡◌, ℕ, ◌<◌, ◌≤◌, ◌^◌, List, [], ◌∷◌, arith, length, lit<, true, refl}
use Rattle.std.specs.List.{list_all}
use Rattle.std.proofs.lemmas.Bool.{and_parts}
use Rattle.std.proofs.lemmas.Bool.Decides.{nat_tests}
use Rattle.std.proofs.Math.Nat.{pow-le-pow_right}
use Rattle.common_lines.specs.Words.{hex_text}
use Rattle.common_lines.proofs.SpellLemmas.{IsPrinted, IsWord, all_from_test, hex_digits, hex_printed, hex_says, length-hex_text}
use Rattle.net_names.specs.Words.{is_name_byte, IsName, is_uid, uid_value}

-- Names and identifiers are printed words.

-- a byte that passes the test of names is printed
name_byte : (c : ℕ) → is_name_byte c ≡ true → IsPrinted c
name_byte c t = (grind (arith, nat_tests), grind (arith, nat_tests))

-- what a name's test says
pub name_parts : (w : List ℕ) → IsName w → (0 < length w) × (length w ≤ 16) × (list_all is_name_byte w ≡ true)
name_parts [] is = absurd (cc)
name_parts (c ∷ w) is =
    let first = and_parts _ _ is in
    let rest = and_parts _ _ first.1 in
    (omega arith, grind (arith, nat_tests), rest.1)

-- names are printed words
pub name_word : (w : List ℕ) → IsName w → IsWord w
name_word w is = let p = name_parts w is in record { bytes = all_from_test is_name_byte IsPrinted name_byte w p.2; some = p.0; most = omega arith }

-- identifiers are printed words
pub uid_word : (n : ℕ) → IsWord (hex_text 12 n)
uid_word n = record { bytes = hex_printed 12 n; some = omega (arith, length-hex_text 12 n); most = omega (arith, length-hex_text 12 n) }

pub uid_is : (n : ℕ) → is_uid (hex_text 12 n) ≡ true
uid_is n = rw (length-hex_text 12 n, hex_digits 12 n) refl

pub uid_value_is : (n : ℕ) → n < 2 ^ 48 → uid_value (hex_text 12 n) ≡ n
unfolding uid_value
uid_value_is n low = hex_says 12 n (omega arith)

-- an identifier keeps below 2 ^ 48
pub uid_fits : (i n : ℕ) → i ≤ 12 → n < 16 ^ i → n < 2 ^ 48
uid_fits i n few below = let p : 16 ^ i ≤ 16 ^ 12 = pow-le-pow_right {n = 16} (lit< tt) few in omega arith
