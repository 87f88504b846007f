use Rattle.std.proofs.Common.{◌≡◌, ◌∙◌, ap, refl, ℕ, ◌-◌, ◌^◌, ◌<◌, ◌≤◌, List, arith, length, get_or, map, lit<, Option, Some, None, Bool, true, false, eqb, nat_lt, nat_le}
use Rattle.std.proofs.Math.Bool.{and-false}
use Rattle.std.specs.Prelude.{MatchOption, if◌then◌else◌}
use Rattle.std.specs.List.{list_all, range_with_len}
use Rattle.std.specs.Char.{is_digit, digit_value}
use Rattle.std.specs.Str.Parse.{digits_value}
use Rattle.std.proofs.lemmas.List.Folds.{list_all_at}
use Rattle.std.proofs.lemmas.List.FromFn.{get_or-map-range_with_len}
use Rattle.std.proofs.lemmas.Bool.{false≢true, false_from_ne_true}
use Rattle.std.proofs.lemmas.Bool.Decides.{nat_tests}
use Rattle.std.proofs.Math.Nat.{pow-le-pow_right}
use Rattle.common_lines.specs.Words.{is_number_in, number_value}
use Rattle.fabric_words.specs.Digits.{digit_or_more, is_hex, hex, guid, decimal}

-- words that are no number in hexadecimal digits
pub hex_of_none : (word : List ℕ) → length word ≡ 0 → is_hex word ≡ false
hex_of_none word none = let t : nat_lt 0 (length word) ≡ false = grind (arith, nat_tests) in rw t (and-false (list_all (λ byte. is_digit byte 16) word))

pub hex_of_many : (word : List ℕ) → 16 < length word → is_hex word ≡ false
hex_of_many word many =
    let s : nat_lt 0 (length word) ≡ true = grind (arith, nat_tests) in
    let t : nat_le (length word) 16 ≡ false = grind (arith, nat_tests) in
    rw (s, t) (and-false (list_all (λ byte. is_digit byte 16) word))

pub hex_of_other : (word : List ℕ) (i : ℕ) → i < length word → is_digit (get_or word i 0) 16 ≡ false → is_hex word ≡ false
hex_of_other word i low other = let t : list_all (λ byte. is_digit byte 16) word ≡ false = list_all_at (λ byte. is_digit byte 16) word i 0 low other in rw t refl

-- and one that is
pub hex_of_digits : (word : List ℕ) → 0 < length word → length word ≤ 16 → list_all (λ byte. is_digit byte 16) word ≡ true → is_hex word ≡ true
hex_of_digits word some few all =
    let s : nat_lt 0 (length word) ≡ true = grind (arith, nat_tests) in
    let t : nat_le (length word) 16 ≡ true = grind (arith, nat_tests) in
    rw (all, s, t) refl

-- fewer than sixteen digits keep below 2 ^ 60
pub digits_fit : (i n : ℕ) → i ≤ 15 → n < 16 ^ i → n < 2 ^ 60
digits_fit i n few below = let p : 16 ^ i ≤ 16 ^ 15 = pow-le-pow_right {n = 16} (lit< tt) few in omega arith

pub hex_is : (word : List ℕ) (r : Option ℕ) → MatchOption r (is_hex word ≡ false) (λ n. (is_hex word ≡ true) × (n ≡ digits_value 16 word)) → r ≡ hex word
unfolding hex
hex_is word None fails = rw fails refl
hex_is word (Some n) (passes, says) = rw passes (ap (λ (x : ℕ). Some x) says)

pub guid_is : (word : List ℕ) (r : Option ℕ) → eqb (length word) 16 ≡ true → r ≡ hex word → r ≡ guid word
unfolding guid
guid_is word r fit says = rw fit says

pub no_guid : (word : List ℕ) → eqb (length word) 16 ≡ false → None ≡ guid word
unfolding guid
no_guid word fit = rw fit refl

pub decimal_is : (word : List ℕ) (r : Option ℕ) → MatchOption r (is_number_in 0 (2 ^ 64 - 1) word ≡ false) (λ n. (is_number_in 0 (2 ^ 64 - 1) word ≡ true) × (n ≡ number_value word)) → r ≡ decimal word
unfolding decimal
decimal_is word None fails = rw fails refl
decimal_is word (Some n) (passes, says) = rw passes (ap (λ (x : ℕ). Some x) says)

-- the table of digits, by its rule
abbrev pub digit_table : List ℕ
digit_table = map digit_or_more (range_with_len 0 256)

pub in_table : (table : List ℕ) (c : ℕ) → table ≡ digit_table → c < 256 → get_or table c 0 ≡ digit_or_more c
in_table table c is within = ap (λ (l : List ℕ). get_or l c 0) is ∙ get_or-map-range_with_len digit_or_more 0 256 c c 0 within (omega arith)

if_below : (passes : Bool) (n d : ℕ) → n ≡ (if passes then d else 65536) → n < 65536 → (passes ≡ true) × (n ≡ d)
if_below true n d is low = (refl, is)
if_below false n d is low = absurd (omega (arith, is))

if_digit : (passes : Bool) (n d : ℕ) → n ≡ (if passes then d else 65536) → passes ≡ true → n ≡ d
if_digit true n d is holds = is
if_digit false n d is holds = absurd (false≢true holds)

if_most : (passes : Bool) (n d : ℕ) → (passes ≡ true → d < 16) → n ≡ (if passes then d else 65536) → n ≤ 65536
if_most true n d small is = omega (arith, is, small refl)
if_most false n d small is = omega (arith, is)

digit_low : (c : ℕ) → is_digit c 16 ≡ true → digit_value c < 16
digit_low c digit = grind (arith, nat_tests)

-- what is looked up is a digit, or more than four digits say
pub digit_below : (c n : ℕ) → n ≡ digit_or_more c → n < 65536 → (is_digit c 16 ≡ true) × (n ≡ digit_value c)
digit_below c n is low = if_below (is_digit c 16) n (digit_value c) is low

pub digit_small : (c n : ℕ) → n ≡ digit_or_more c → is_digit c 16 ≡ true → n < 16
digit_small c n is digit = omega (arith, if_digit (is_digit c 16) n (digit_value c) is digit, digit_low c digit)

pub digit_most : (c n : ℕ) → n ≡ digit_or_more c → n ≤ 65536
digit_most c n is = if_most (is_digit c 16) n (digit_value c) (digit_low c) is

pub no_digit : (c n : ℕ) → n ≡ digit_or_more c → 16 ≤ n → is_digit c 16 ≡ false
no_digit c n is high = false_from_ne_true (is_digit c 16) (λ digit. let low = digit_small c n is digit in omega arith)
