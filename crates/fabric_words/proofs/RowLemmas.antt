use Rattle.std.proofs.Common.{◌≡◌, ap, refl, lit<, ℕ, ◌+◌, ◌-◌, ◌*◌, ◌<◌, ◌≤◌, List, arith, length, Option, Some, None, Bool, true, false, eqb, ◌&&◌, ◌||◌, nat_le, get_or}
use Rattle.std.specs.Prelude.{if◌then◌else◌}
use Rattle.std.specs.Char.{is_digit, is_ascii_digit, digit_value}
use Rattle.std.proofs.lemmas.Bool.{false_from_ne_true, and_parts}
use Rattle.std.proofs.lemmas.Bool.Decides.{nat_tests}
use Rattle.std.proofs.lemmas.Option.{none-some}
use borrow.Author.Count.{below_none, below_more}
use Rattle.fabric_words.specs.Cuts.{◌>>=◌}
use Rattle.fabric_words.specs.Digits.{digit_or_more}
use Rattle.fabric_words.specs.Rows.{four_hex, three_decimal, is_row, row}
use Rattle.fabric_words.proofs.DigitLemmas.{digit_below, digit_small}

-- digits
pub no_four : (a b c d : ℕ) → ((is_digit a 16 && is_digit b 16) && (is_digit c 16 && is_digit d 16)) ≡ false → None ≡ four_hex a b c d
unfolding four_hex
no_four a b c d fails = rw fails refl

pub four : (a b c d n : ℕ) → is_digit a 16 ≡ true → is_digit b 16 ≡ true → is_digit c 16 ≡ true → is_digit d 16 ≡ true → n ≡ digit_value a * 4096 + digit_value b * 256 + digit_value c * 16 + digit_value d → Some n ≡ four_hex a b c d
unfolding four_hex
four a b c d n ta tb tc td says = rw (ta, tb, tc, td) (ap (λ (x : ℕ). Some x) says)

pub four_within : (a b c d w x y z : ℕ) → w ≡ digit_or_more a → x ≡ digit_or_more b → y ≡ digit_or_more c → z ≡ digit_or_more d → w * 4096 + x * 256 + y * 16 + z ≤ 65535 → Some (w * 4096 + x * 256 + y * 16 + z) ≡ four_hex a b c d
four_within a b c d w x y z is_w is_x is_y is_z within =
    let p = digit_below a w is_w (omega arith) in
    let q = digit_below b x is_x (omega arith) in
    let r = digit_below c y is_y (omega arith) in
    let s = digit_below d z is_z (omega arith) in
    four a b c d (w * 4096 + x * 256 + y * 16 + z) p.0 q.0 r.0 s.0 (rw (← p.1, ← q.1, ← r.1, ← s.1) refl)

pub four_beyond : (a b c d w x y z : ℕ) → w ≡ digit_or_more a → x ≡ digit_or_more b → y ≡ digit_or_more c → z ≡ digit_or_more d → 65535 < w * 4096 + x * 256 + y * 16 + z → None ≡ four_hex a b c d
four_beyond a b c d w x y z is_w is_x is_y is_z beyond =
    no_four a b c d (false_from_ne_true ((is_digit a 16 && is_digit b 16) && (is_digit c 16 && is_digit d 16)) (λ all.
    let front = and_parts (is_digit a 16 && is_digit b 16) (is_digit c 16 && is_digit d 16) all in
    let p = and_parts (is_digit a 16) (is_digit b 16) front.0 in
    let q = and_parts (is_digit c 16) (is_digit d 16) front.1 in
    omega (arith, beyond, digit_small a w is_w p.0, digit_small b x is_x p.1, digit_small c y is_y q.0, digit_small d z is_z q.1)))

pub no_three : (a b c : ℕ) → (is_ascii_digit a && (is_ascii_digit b && is_ascii_digit c)) ≡ false → None ≡ three_decimal a b c
unfolding three_decimal
no_three a b c fails = rw fails refl

pub three_over : (a b c n : ℕ) → (is_ascii_digit a && (is_ascii_digit b && is_ascii_digit c)) ≡ true → n ≡ (a - 48) * 100 + (b - 48) * 10 + (c - 48) → 255 < n → None ≡ three_decimal a b c
unfolding three_decimal
three_over a b c n digits says over = let t : nat_le ((a - 48) * 100 + (b - 48) * 10 + (c - 48)) 255 ≡ false = rw (← says) (grind (arith, nat_tests)) in rw (digits, t) refl

pub three : (a b c n : ℕ) → (is_ascii_digit a && (is_ascii_digit b && is_ascii_digit c)) ≡ true → n ≡ (a - 48) * 100 + (b - 48) * 10 + (c - 48) → n ≤ 255 → Some n ≡ three_decimal a b c
unfolding three_decimal
three a b c n digits says fits = let t : nat_le ((a - 48) * 100 + (b - 48) * 10 + (c - 48)) 255 ≡ true = rw (← says) (grind (arith, nat_tests)) in rw (digits, t) (ap (λ (x : ℕ). Some x) says)

-- rows
pub no_row : (line : List ℕ) → is_row line ≡ false → None ≡ row line
unfolding row
no_row line fails = rw fails refl

pub row_no_lid : (line : List ℕ) → is_row line ≡ true → None ≡ four_hex (get_or line 2 0) (get_or line 3 0) (get_or line 4 0) (get_or line 5 0) → None ≡ row line
unfolding row
row_no_lid line says none = rw (says, ← none) refl

pub row_no_port : (line : List ℕ) (lid : ℕ) → is_row line ≡ true → Some lid ≡ four_hex (get_or line 2 0) (get_or line 3 0) (get_or line 4 0) (get_or line 5 0) → None ≡ three_decimal (get_or line 7 0) (get_or line 8 0) (get_or line 9 0) → None ≡ row line
unfolding row
row_no_port line lid says some none = rw (says, ← some, ← none) refl

pub row_is : (line : List ℕ) (lid port : ℕ) → is_row line ≡ true → Some lid ≡ four_hex (get_or line 2 0) (get_or line 3 0) (get_or line 4 0) (get_or line 5 0) → Some port ≡ three_decimal (get_or line 7 0) (get_or line 8 0) (get_or line 9 0) → Some (lid, port) ≡ row line
unfolding row
row_is line lid port says some here = rw (says, ← some, ← here) refl

-- what a row says, taken apart
if_passed : (passes : Bool) (n m : ℕ) → (if passes then Some n else None) ≡ Some m → passes ≡ true
if_passed true n m is = refl
if_passed false n m is = absurd (none-some m is)

parts_of : (passes : Bool) (lid port : Option ℕ) (found : ℕ × ℕ) → (if passes then lid >>= (λ l. port >>= (λ p. Some (l, p))) else None) ≡ Some found → (passes ≡ true) × (lid ≡ Some found.0) × (port ≡ Some found.1)
parts_of true (Some l) (Some p) found is = let same : (l, p) ≡ found = cc in (refl, ap (λ (x : ℕ × ℕ). Some x.0) same, ap (λ (x : ℕ × ℕ). Some x.1) same)
parts_of true (Some l) None found is = absurd (none-some found is)
parts_of true None port found is = absurd (none-some found is)
parts_of false lid port found is = absurd (none-some found is)

pub row_parts : (line : List ℕ) (found : ℕ × ℕ) → row line ≡ Some found → (is_row line ≡ true) × (four_hex (get_or line 2 0) (get_or line 3 0) (get_or line 4 0) (get_or line 5 0) ≡ Some found.0) × (three_decimal (get_or line 7 0) (get_or line 8 0) (get_or line 9 0) ≡ Some found.1)
unfolding row
row_parts line found is = parts_of (is_row line) (four_hex (get_or line 2 0) (get_or line 3 0) (get_or line 4 0) (get_or line 5 0)) (three_decimal (get_or line 7 0) (get_or line 8 0) (get_or line 9 0)) found is

four_digits : (a b c d n : ℕ) → four_hex a b c d ≡ Some n → ((is_digit a 16 ≡ true) × (is_digit b 16 ≡ true)) × ((is_digit c 16 ≡ true) × (is_digit d 16 ≡ true))
unfolding four_hex
four_digits a b c d n is =
    let all = and_parts (is_digit a 16 && is_digit b 16) (is_digit c 16 && is_digit d 16) (if_passed ((is_digit a 16 && is_digit b 16) && (is_digit c 16 && is_digit d 16)) (digit_value a * 4096 + digit_value b * 256 + digit_value c * 16 + digit_value d) n is) in
    (and_parts (is_digit a 16) (is_digit b 16) all.0, and_parts (is_digit c 16) (is_digit d 16) all.1)

three_digits : (a b c n : ℕ) → three_decimal a b c ≡ Some n → (is_ascii_digit a ≡ true) × ((is_ascii_digit b ≡ true) × (is_ascii_digit c ≡ true))
unfolding three_decimal
three_digits a b c n is =
    let number = (a - 48) * 100 + (b - 48) * 10 + (c - 48) in
    let digits = is_ascii_digit a && (is_ascii_digit b && is_ascii_digit c) in
    let all = and_parts (is_ascii_digit a) (is_ascii_digit b && is_ascii_digit c) ((and_parts digits (nat_le number 255) (if_passed (digits && nat_le number 255) number n is)).0) in
    (all.0, and_parts (is_ascii_digit b) (is_ascii_digit c) all.1)

pub row_front : (line : List ℕ) → is_row line ≡ true → (nat_le 10 (length line) ≡ true) × (eqb (get_or line 0 0) 48 ≡ true) × (eqb (get_or line 1 0) 120 ≡ true) × (eqb (get_or line 6 0) 32 ≡ true) × ((eqb (length line) 10 || eqb (get_or line 10 0) 32) ≡ true)
row_front line is =
    let last = eqb (length line) 10 || eqb (get_or line 10 0) 32 in
    let long = and_parts (nat_le 10 (length line)) (eqb (get_or line 0 0) 48 && (eqb (get_or line 1 0) 120 && (eqb (get_or line 6 0) 32 && last))) is in
    let zero = and_parts (eqb (get_or line 0 0) 48) (eqb (get_or line 1 0) 120 && (eqb (get_or line 6 0) 32 && last)) long.1 in
    let x = and_parts (eqb (get_or line 1 0) 120) (eqb (get_or line 6 0) 32 && last) zero.1 in
    let spaces = and_parts (eqb (get_or line 6 0) 32) last x.1 in
    (long.0, zero.0, x.0, spaces.0, spaces.1)

-- no byte of a row is a line feed
hex_no_feed : (c : ℕ) → is_digit c 16 ≡ true → eqb c 10 ≡ false
hex_no_feed c digit = grind (arith, nat_tests)

decimal_no_feed : (c : ℕ) → is_ascii_digit c ≡ true → eqb c 10 ≡ false
decimal_no_feed c digit = grind (arith, nat_tests)

other_no_feed : (c n : ℕ) → 10 < n → eqb c n ≡ true → eqb c 10 ≡ false
other_no_feed c n other same = grind (arith, nat_tests)

pub row_free : (line : List ℕ) (found : ℕ × ℕ) → row line ≡ Some found → (k : ℕ) → k < 10 → eqb (get_or line k 0) 10 ≡ false
row_free line found is =
    let parts = row_parts line found is in
    let front = row_front line parts.0 in
    let lid = four_digits (get_or line 2 0) (get_or line 3 0) (get_or line 4 0) (get_or line 5 0) found.0 parts.1 in
    let port = three_digits (get_or line 7 0) (get_or line 8 0) (get_or line 9 0) found.1 parts.2 in
    let P : ℕ → Type 0 = λ k. eqb (get_or line k 0) 10 ≡ false in
    let to_1 = below_more P 0 (below_none P) (other_no_feed (get_or line 0 0) 48 (lit< tt) front.1) in
    let to_2 = below_more P 1 to_1 (other_no_feed (get_or line 1 0) 120 (lit< tt) front.2) in
    let to_3 = below_more P 2 to_2 (hex_no_feed (get_or line 2 0) lid.0.0) in
    let to_4 = below_more P 3 to_3 (hex_no_feed (get_or line 3 0) lid.0.1) in
    let to_5 = below_more P 4 to_4 (hex_no_feed (get_or line 4 0) lid.1.0) in
    let to_6 = below_more P 5 to_5 (hex_no_feed (get_or line 5 0) lid.1.1) in
    let to_7 = below_more P 6 to_6 (other_no_feed (get_or line 6 0) 32 (lit< tt) front.3) in
    let to_8 = below_more P 7 to_7 (decimal_no_feed (get_or line 7 0) port.0) in
    let to_9 = below_more P 8 to_8 (decimal_no_feed (get_or line 8 0) port.1.0) in
    below_more P 9 to_9 (decimal_no_feed (get_or line 9 0) port.1.1)

-- what follows a row begins with a space
pub row_space : (line : List ℕ) (found : ℕ × ℕ) → row line ≡ Some found → 10 < length line → get_or line 10 0 ≡ 32
row_space line found is long =
    let last = (row_front line ((row_parts line found is).0)).4 in
    grind (arith, nat_tests)

-- only the first eleven bytes of a line say whether it is a row
pub row_by_front : (line other : List ℕ) → 10 < length line → 10 < length other → ((k : ℕ) → k < 11 → get_or line k 0 ≡ get_or other k 0) → row line ≡ row other
unfolding row
row_by_front line other long also same =
    let s : nat_le 10 (length line) ≡ true = grind (arith, nat_tests) in
    let t : nat_le 10 (length other) ≡ true = grind (arith, nat_tests) in
    let u : eqb (length line) 10 ≡ false = grind (arith, nat_tests) in
    let v : eqb (length other) 10 ≡ false = grind (arith, nat_tests) in
    rw (s, t, u, v, same 0 (lit< tt), same 1 (lit< tt), same 2 (lit< tt), same 3 (lit< tt), same 4 (lit< tt), same 5 (lit< tt), same 6 (lit< tt), same 7 (lit< tt), same 8 (lit< tt), same 9 (lit< tt), same 10 (lit< tt)) refl
