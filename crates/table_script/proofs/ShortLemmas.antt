-- What numbers of up to three digits say.
use Rattle.std.proofs.Common.{◌≡◌, refl, ℕ, ◌+◌, ◌*◌, ◌<◌, ◌≤◌, List, [], ◌∷◌, length, get_or, true, false, eqb, not, arith}
use Rattle.std.specs.Char.{digit_value, is_ascii_digit}
use Rattle.std.proofs.lemmas.Bool.{or_right}
use Rattle.std.proofs.lemmas.Bool.Decides.{nat_tests}
use Rattle.common_lines.specs.Words.{is_number, number_value}
use Rattle.common_lines.proofs.WordLemmas.{digit_says}

said : (byte d : ℕ) → d + 48 ≡ byte → d < 10 → digit_value byte ≡ d
said byte d is low = let s = digit_says byte (omega arith) (omega arith) in omega arith

not_zero : (byte d : ℕ) → d + 48 ≡ byte → 0 < d → eqb byte 48 ≡ false
not_zero byte d is some = grind (arith, nat_tests)

pub one_digit : (a d : ℕ) → is_ascii_digit a ≡ true → d + 48 ≡ a → d < 10 → (is_number (a ∷ []) ≡ true) × (d ≡ number_value (a ∷ []))
unfolding number_value
one_digit a d digit is low =
    let value : number_value (a ∷ []) ≡ 0 * 10 + digit_value a = refl in
    let s = said a d is low in (
      rw digit (or_right (not (eqb a 48)) true refl),
      omega arith,
    )

pub two_digits : (a b d e : ℕ) → is_ascii_digit a ≡ true → d + 48 ≡ a → d < 10 → 0 < d → is_ascii_digit b ≡ true → e + 48 ≡ b → e < 10 → (is_number (a ∷ b ∷ []) ≡ true) × (d * 10 + e ≡ number_value (a ∷ b ∷ []))
unfolding number_value
two_digits a b d e digit_a is_a low_a some digit_b is_b low_b =
    let value : number_value (a ∷ b ∷ []) ≡ (0 * 10 + digit_value a) * 10 + digit_value b = refl in
    let s = said a d is_a low_a in
    let t = said b e is_b low_b in (
      rw (digit_a, digit_b, not_zero a d is_a some) refl,
      omega arith,
    )

pub three_digits : (a b c d e f : ℕ) → is_ascii_digit a ≡ true → d + 48 ≡ a → d < 10 → 0 < d → is_ascii_digit b ≡ true → e + 48 ≡ b → e < 10 → is_ascii_digit c ≡ true → f + 48 ≡ c → f < 10 → (is_number (a ∷ b ∷ c ∷ []) ≡ true) × (d * 100 + e * 10 + f ≡ number_value (a ∷ b ∷ c ∷ []))
unfolding number_value
three_digits a b c d e f digit_a is_a low_a some digit_b is_b low_b digit_c is_c low_c =
    let value : number_value (a ∷ b ∷ c ∷ []) ≡ ((0 * 10 + digit_value a) * 10 + digit_value b) * 10 + digit_value c = refl in
    let s = said a d is_a low_a in
    let t = said b e is_b low_b in
    let u = said c f is_c low_c in (
      rw (digit_a, digit_b, digit_c, not_zero a d is_a some) refl,
      omega arith,
    )

-- the digit at a place of a word
abbrev pub IsDigitAt : List ℕ → ℕ → ℕ → Type 0
IsDigitAt word i d = (is_ascii_digit (get_or word i 0) ≡ true) × (d + 48 ≡ get_or word i 0) × (d < 10)

abbrev pub IsFirstDigit : List ℕ → ℕ → Type 0
IsFirstDigit word d = (is_ascii_digit (get_or word 0 0) ≡ true) × (d + 48 ≡ get_or word 0 0) × (d < 10) × (0 < d)

pub short_one : (word : List ℕ) (d : ℕ) → 1 ≤ length word → length word < 2 → IsDigitAt word 0 d → (is_number word ≡ true) × (d ≡ number_value word)
short_one [] d least most digit = absurd (omega arith)
short_one (a ∷ []) d least most digit = one_digit a d digit.0 digit.1 digit.2
short_one (a ∷ b ∷ rest) d least most digit = absurd (omega arith)

pub short_two : (word : List ℕ) (d e : ℕ) → 2 ≤ length word → length word < 3 → IsFirstDigit word d → IsDigitAt word 1 e → (is_number word ≡ true) × (d * 10 + e ≡ number_value word)
short_two [] d e least most first second = absurd (omega arith)
short_two (a ∷ []) d e least most first second = absurd (omega arith)
short_two (a ∷ b ∷ []) d e least most first second = two_digits a b d e first.0 first.1 first.2 first.3 second.0 second.1 second.2
short_two (a ∷ b ∷ c ∷ rest) d e least most first second = absurd (omega arith)

pub short_three : (word : List ℕ) (d e f : ℕ) → 3 ≤ length word → length word < 4 → IsFirstDigit word d → IsDigitAt word 1 e → IsDigitAt word 2 f → (is_number word ≡ true) × (d * 100 + e * 10 + f ≡ number_value word)
short_three [] d e f least most first second third = absurd (omega arith)
short_three (a ∷ []) d e f least most first second third = absurd (omega arith)
short_three (a ∷ b ∷ []) d e f least most first second third = absurd (omega arith)
short_three (a ∷ b ∷ c ∷ []) d e f least most first second third = three_digits a b c d e f first.0 first.1 first.2 first.3 second.0 second.1 second.2 third.0 third.1 third.2
short_three (a ∷ b ∷ c ∷ x ∷ rest) d e f least most first second third = absurd (omega arith)
