use Rattle.std.proofs.Common.{rules, ◌≡◌, ◌∙◌, ap, refl, ℕ, ◌+◌, ◌-◌, ◌*◌, ◌^◌, ◌<◌, ◌≤◌, List, arith, length, get_or, take, lit<, pow-suc, add-one, true}
use Rattle.std.specs.List.{list_all}
use Rattle.std.specs.Char.{digit_value, is_digit, is_ascii_digit}
use Rattle.std.specs.Str.Parse.{digits_value}
use Rattle.std.proofs.lemmas.List.Folds.{list_all_more}
use Rattle.std.proofs.lemmas.Bool.Decides.{nat_tests}
use Rattle.std.proofs.lemmas.Int.Digits.{digits_value_more}
use Rattle.std.proofs.lemmas.Str.Parse.{IsNumeralModel, numerals_by_value, digit_at, digits_value-take-le}
use Rattle.common_lines.specs.Words.{number_value}

-- digits, and what they say
pub own : IsNumeralModel (λ ds. list_all is_ascii_digit ds ≡ true) (digits_value 10)
own = numerals_by_value (λ ds. list_all is_ascii_digit ds ≡ true) (search rules)

-- a digit of a number
pub digit_here : (w : List ℕ) (i : ℕ) → list_all is_ascii_digit w ≡ true → i < length w → (48 ≤ get_or w i 0) × (get_or w i 0 ≤ 57)
digit_here w i all within = let h = digit_at w i (own.to w all) within in (omega arith, omega arith)

-- what such a digit says
pub digit_says : (c : ℕ) → 48 ≤ c → c ≤ 57 → digit_value c ≡ c - 48
digit_says c least most = grind (arith, nat_tests)

-- what the digits say with one more
pub number_more : (w : List ℕ) (i : ℕ) → list_all is_ascii_digit w ≡ true → i < length w → digits_value 10 (take (i + 1) w) ≡ digits_value 10 (take i w) * 10 + (get_or w i 0 - 48)
number_more w i all within =
    let d = digit_here w i all within in
    digits_value_more 10 w i within ∙ ap (λ (x : ℕ). digits_value 10 (take i w) * 10 + x) (digit_says (get_or w i 0) d.0 d.1)

-- what the digits in front say is no more than what all say
pub number_front : (w : List ℕ) (i : ℕ) → digits_value 10 (take i w) ≤ digits_value 10 w
number_front w i = digits_value-take-le 10 w i (omega arith)

-- the value of hexadecimal digits, with one more
pub hex_value_more : (w : List ℕ) (i : ℕ) → i < length w → digits_value 16 (take (i + 1) w) ≡ digits_value 16 (take i w) * 16 + digit_value (get_or w i 0)
hex_value_more w i within = digits_value_more 16 w i within

-- the value of i + 1 digits is below 16 ^ (i + 1)
pub hex_value_fits : (n d i : ℕ) → n < 16 ^ i → d < 16 → n * 16 + d < 16 ^ (i + 1)
hex_value_fits n d i below low = let p : 16 ^ (i + 1) ≡ 16 ^ i * 16 = rw (add-one, pow-suc) refl in omega arith

-- a number past 64 bits
pub number_over : (w : List ℕ) (i n : ℕ) → list_all is_ascii_digit w ≡ true → i < length w → n ≡ digits_value 10 (take i w) → 2 ^ 64 ≤ n * 10 + (get_or w i 0 - 48) → 2 ^ 64 ≤ number_value w
unfolding number_value
number_over w i n all within so_far high =
    let h = number_front w (i + 1) in
    let next = number_more w i all within in
    omega arith

-- what the digits say so far, with one more
pub number_step : (w : List ℕ) (i n m : ℕ) → list_all is_ascii_digit w ≡ true → i < length w → n ≡ digits_value 10 (take i w) → m ≡ n * 10 + (get_or w i 0 - 48) → m ≡ digits_value 10 (take (i + 1) w)
number_step w i n m all within so_far next = let more = number_more w i all within in omega arith

-- hexadecimal digits, with one more
pub hex_digits_more : (w : List ℕ) (i : ℕ) → i < length w → list_all (λ c. is_digit c 16) (take i w) ≡ true → is_digit (get_or w i 0) 16 ≡ true → list_all (λ c. is_digit c 16) (take (i + 1) w) ≡ true
hex_digits_more w i within so_far here = list_all_more (λ c. is_digit c 16) w i 0 within ∙ rw (so_far, here) refl

pub hex_value_next : (w : List ℕ) (i n d : ℕ) → i < length w → n ≡ digits_value 16 (take i w) → d ≡ digit_value (get_or w i 0) → n * 16 + d ≡ digits_value 16 (take (i + 1) w)
hex_value_next w i n d within so_far here = let more = hex_value_more w i within in omega arith
