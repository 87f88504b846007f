use Rattle.std.proofs.Common.{◌≡◌, ◌∙◌, sym, ap, refl, ℕ, zero, suc, ◌+◌, ◌*◌, ◌-◌, ◌/◌, ◌%◌, ◌^◌, ◌<◌, ◌≤◌, ◌⊎◌, List, [], ◌∷◌, ◌++◌, append_assoc, append-nil, arith, length, length-append, get_or, take, All, Bool, true, false, not, eqb, None, inl, inr, ◌||◌, ◌&&◌, ltb, leb, map, pow-suc}
use Rattle.std.specs.List.{list_all, slice_split, join_with_byte, before_first, filter, position_or_len}
use Rattle.std.specs.Char.{is_ascii_digit, is_digit, digit_value}
use Rattle.std.specs.Fmt.{decimal}
use Rattle.std.specs.Str.Lines.{lines_of_parts, strip_carriage_return}
use Rattle.std.specs.Str.Parse.{digits_value}
use Rattle.std.proofs.lemmas.Bool.{cases_lt, and_parts}
use Rattle.std.proofs.lemmas.Bool.Decides.{nat_tests}
use Rattle.std.proofs.lemmas.Fmt.{digits_decimal, digits_value-decimal, decimal_nonempty, first_decimal, length-decimal-le, decimal_digit}
use Rattle.std.proofs.lemmas.Int.Digits.{digits_value_push}
use Rattle.std.proofs.lemmas.List.{take_all}
use Rattle.std.proofs.lemmas.List.Sums.{position_or_len_is}
use Rattle.std.proofs.lemmas.List.Elements.{All-head, All-tail, All-nil, All-cons, All-append, All-weaker, All-push}
use Rattle.std.proofs.lemmas.List.Folds.{list_all-append}
use Rattle.std.proofs.lemmas.List.Splits.{slice_split_none, slice_split_at}
use Rattle.common_lines.specs.Faults.{unless}
use Rattle.common_lines.specs.Words.{is_number, is_number_in, number_value, hex_text, hex_glyph}
use Rattle.common_lines.specs.Lines.{lines_of, words_of, parts_of, is_blank, is_line_byte, lines_text}
use Rattle.common_lines.specs.Grammar.{bytes_cause_by}
use Rattle.common_lines.proofs.WordLemmas.{own}
use Rattle.common_lines.proofs.LineLemmas.{is_feed, first_of_parts, parts_some}

-- a byte of a printed word: above `,` and below DEL
abbrev pub IsPrinted : ℕ → Type 0
IsPrinted c = (44 < c) × (c < 127)

-- a printed word
pub record IsWord (word : List ℕ) : Type 0 where
  pub bytes : All IsPrinted word
  pub some : 0 < length word
  pub most : length word ≤ 30

-- what passes a test along a list
pub all_from_test : (p : ℕ → Bool) (P : ℕ → Type 0) → ((c : ℕ) → p c ≡ true → P c) → (xs : List ℕ) → list_all p xs ≡ true → All P xs
all_from_test p P each [] t = All-nil P
all_from_test p P each (x ∷ xs) t = let parts = and_parts (p x) (list_all p xs) t in All-cons P x xs (each x parts.0) (all_from_test p P each xs parts.1)

pub test_from_all : (p : ℕ → Bool) (P : ℕ → Type 0) → ((c : ℕ) → P c → p c ≡ true) → (xs : List ℕ) → All P xs → list_all p xs ≡ true
test_from_all p P each [] all = refl
test_from_all p P each (x ∷ xs) all = rw (each x (All-head P x xs all), test_from_all p P each xs (All-tail P x xs all)) refl

-- a digit is printed
digit_byte : (c : ℕ) → is_ascii_digit c ≡ true → IsPrinted c
digit_byte c t = (grind (arith, nat_tests), grind (arith, nat_tests))

-- numbers in decimal are printed words
pub decimal_word : (n : ℕ) → n < 2 ^ 64 → IsWord (decimal n)
decimal_word n low = record {
  bytes = all_from_test is_ascii_digit IsPrinted digit_byte (decimal n) (digits_decimal own n low);
  some = decimal_nonempty n low;
  most = let h = length-decimal-le 20 n (omega arith) (omega arith) low in omega arith;
}

-- they are numbers, and say what they were
pub decimal_value : (n : ℕ) → n < 2 ^ 64 → number_value (decimal n) ≡ n
unfolding number_value
decimal_value n low = digits_value-decimal own n low

lone_zero : (w : List ℕ) (n : ℕ) → (n ≡ 0 → length w ≡ 1) → (0 < n → 48 < get_or w 0 0) → (not (eqb (get_or w 0 0) 48) || eqb (length w) 1) ≡ true
lone_zero w n zero_one above = elim (cases_lt 0 n) [
  | inl some ↦ (let h = above some in grind (arith, nat_tests))
  | inr none ↦ (let h = zero_one (omega arith) in grind (arith, nat_tests))
]

pub decimal_number : (n : ℕ) → n < 2 ^ 64 → is_number (decimal n) ≡ true
decimal_number n low =
    let some : ltb 0 (length (decimal n)) ≡ true = (let h = decimal_nonempty n low in grind (arith, nat_tests)) in
    let one : n ≡ 0 → length (decimal n) ≡ 1 = (λ none. ap (λ (m : ℕ). length (decimal m)) none ∙ ap length (decimal_digit 0 (omega arith))) in
    rw (digits_decimal own n low, some, lone_zero (decimal n) n one (λ above. first_decimal n above low)) refl

-- tests of order, through an equality
pub le_test : (a b c : ℕ) → b ≡ c → a ≤ c → leb a b ≡ true
le_test a b c same le = grind (arith, nat_tests)

pub ge_test : (a b c : ℕ) → a ≡ c → c ≤ b → leb a b ≡ true
ge_test a b c same le = grind (arith, nat_tests)

pub lt_test : (a b : ℕ) → a < b → ltb a b ≡ true
lt_test a b lt = grind (arith, nat_tests)

ranged : {Cause : Type 0} (bad : Cause) (a b c : Bool) → a ≡ true → b ≡ true → c ≡ true → unless (a && (b && c)) bad ≡ None
ranged bad a b c p q r = rw (p, q, r) refl

-- a number in its range, as a number of a range
pub decimal_good : {Cause : Type 0} (bad : Cause) (least most n : ℕ) → n < 2 ^ 64 → least ≤ n → n ≤ most → unless (is_number_in least most (decimal n)) bad ≡ None
decimal_good bad least most n low least_ok most_ok =
    let v = decimal_value n low in
    ranged bad (is_number (decimal n)) (leb least (number_value (decimal n))) (leb (number_value (decimal n)) most) (decimal_number n low) (le_test least (number_value (decimal n)) n v least_ok) (ge_test (number_value (decimal n)) most n v most_ok)

-- identifiers: as many digits as are asked for, each a digit, that say n
pub length-hex_text : (k n : ℕ) → length (hex_text k n) ≡ k
unfolding hex_text
length-hex_text zero n = refl
length-hex_text (suc k) n = omega (arith, length-append (hex_text k (n / 16)) (hex_glyph (n % 16) ∷ []), length-hex_text k (n / 16))

pub glyph_digit : (d : ℕ) → d < 16 → is_digit (hex_glyph d) 16 ≡ true
glyph_digit d low = grind (arith, nat_tests)

pub glyph_value : (d : ℕ) → d < 16 → digit_value (hex_glyph d) ≡ d
glyph_value d low = grind (arith, nat_tests)

glyph_printed : (d : ℕ) → d < 16 → IsPrinted (hex_glyph d)
glyph_printed d low = (grind (arith, nat_tests), grind (arith, nat_tests))

pub hex_digits : (k n : ℕ) → list_all (λ c. is_digit c 16) (hex_text k n) ≡ true
unfolding hex_text
hex_digits zero n = refl
hex_digits (suc k) n = list_all-append (λ c. is_digit c 16) (hex_text k (n / 16)) (hex_glyph (n % 16) ∷ []) ∙ rw (hex_digits k (n / 16), glyph_digit (n % 16) (omega arith)) refl

pub hex_printed : (k n : ℕ) → All IsPrinted (hex_text k n)
unfolding hex_text
hex_printed zero n = All-nil IsPrinted
hex_printed (suc k) n = All-push IsPrinted (hex_text k (n / 16)) (hex_glyph (n % 16)) (hex_printed k (n / 16)) (glyph_printed (n % 16) (omega arith))

pub hex_says : (k n : ℕ) → n < 16 ^ k → digits_value 16 (hex_text k n) ≡ n
unfolding hex_text
hex_says zero n low = let none : n ≡ 0 = omega arith in sym none
hex_says (suc k) n low =
    let p : 16 ^ suc k ≡ 16 ^ k * 16 = rw pow-suc refl in
    let front : n / 16 < 16 ^ k = omega arith in
    digits_value_push 16 (hex_text k (n / 16)) (hex_glyph (n % 16))
    ∙ ap (λ (x : ℕ). x * 16 + digit_value (hex_glyph (n % 16))) (hex_says k (n / 16) front)
    ∙ ap (λ (x : ℕ). n / 16 * 16 + x) (glyph_value (n % 16) (omega arith))
    ∙ (let split : n / 16 * 16 + n % 16 ≡ n = omega arith in split)

-- digits appended one by one
pub hex_none : (text : List ℕ) (k n : ℕ) → k ≤ 0 → text ≡ text ++ hex_text k n
unfolding hex_text
hex_none text zero n none = sym (append-nil text)
hex_none text (suc k) n none = absurd (omega arith)

pub hex_more : (text front all : List ℕ) (k n glyph : ℕ) → 0 < k → front ≡ text ++ hex_text (k - 1) (n / 16) → all ≡ front ++ glyph ∷ [] → glyph ≡ hex_glyph (n % 16) → all ≡ text ++ hex_text k n
unfolding hex_text
hex_more text front all zero n glyph some so_far last is = absurd (omega arith)
hex_more text front all (suc k) n glyph some so_far last is =
    let one : suc k - 1 ≡ k = omega arith in
    last ∙ ap (λ (f : List ℕ). f ++ glyph ∷ []) (so_far ∙ ap (λ (j : ℕ). text ++ hex_text j (n / 16)) one) ∙ append_assoc text (hex_text k (n / 16)) (glyph ∷ []) ∙ ap (λ (g : ℕ). text ++ (hex_text k (n / 16) ++ g ∷ [])) is

-- lines

-- a line that is not blank at any byte
free_of : (w : List ℕ) (p : ℕ → Bool) → ((c : ℕ) → IsPrinted c → p c ≡ false) → IsWord w → All (λ c. p c ≡ false) w
free_of w p each is = All-weaker IsPrinted (λ c. p c ≡ false) each w is.bytes

-- a byte of a line of printed words
abbrev pub IsLineByte : ℕ → Type 0
IsLineByte c = (c ≡ 32) ⊎ IsPrinted c

pub line_bytes : (row : List (List ℕ)) → All IsWord row → All IsLineByte (join_with_byte 32 row)
line_bytes [] are = All-nil IsLineByte
line_bytes (w ∷ []) are = All-weaker IsPrinted IsLineByte (λ c is. inr is) w (All-head IsWord w [] are).bytes
line_bytes (w ∷ v ∷ more) are =
    All-append IsLineByte w (32 ∷ join_with_byte 32 (v ∷ more)) (All-weaker IsPrinted IsLineByte (λ c is. inr is) w (All-head IsWord w (v ∷ more) are).bytes)
    (All-cons IsLineByte 32 (join_with_byte 32 (v ∷ more)) (inl refl) (line_bytes (v ∷ more) (All-tail IsWord w (v ∷ more) are)))

-- a line of words is not long
pub line_short : (row : List (List ℕ)) → All IsWord row → length (join_with_byte 32 row) ≤ 31 * length row
line_short [] are = omega arith
line_short (w ∷ []) are = let h = (All-head IsWord w [] are).most in omega arith
line_short (w ∷ v ∷ more) are = let h = (All-head IsWord w (v ∷ more) are).most in omega (arith, length-append w (32 ∷ join_with_byte 32 (v ∷ more)), line_short (v ∷ more) (All-tail IsWord w (v ∷ more) are))

-- nothing is wrong with its bytes
pub line_byte : (c : ℕ) → IsLineByte c → is_line_byte c ≡ true
line_byte c is = elim is [ inl space ↦ rw space refl | inr printed ↦ (let h = printed.0 in let k = printed.1 in grind (arith, nat_tests)) ]

pub line_good : {Cause : Type 0} (too_long not_ascii : Cause) (most : ℕ) (row : List (List ℕ)) → All IsWord row → 31 * length row ≤ most → bytes_cause_by too_long not_ascii most (join_with_byte 32 row) ≡ None
line_good too_long not_ascii most row are few =
    let short : leb (length (join_with_byte 32 row)) most ≡ true = (let h = line_short row are in grind (arith, nat_tests)) in
    rw (short, test_from_all is_line_byte IsLineByte line_byte (join_with_byte 32 row) (line_bytes row are)) refl

-- cut at blanks it gives its words again
not_blank : (c : ℕ) → IsPrinted c → is_blank c ≡ false
not_blank c is = let h = is.0 in grind (arith, nat_tests)

-- the same for any cut at spaces that leaves words whole
pub split_words : (p : ℕ → Bool) → ((c : ℕ) → IsPrinted c → p c ≡ false) → p 32 ≡ true → (w : List ℕ) (more : List (List ℕ)) → All IsWord (w ∷ more) → slice_split p (join_with_byte 32 (w ∷ more)) ≡ w ∷ more
split_words p whole space w [] are = slice_split_none p w (free_of w p whole (All-head IsWord w [] are))
split_words p whole space w (v ∷ more) are =
    slice_split_at p w 32 (join_with_byte 32 (v ∷ more)) (free_of w p whole (All-head IsWord w (v ∷ more) are)) space
    ∙ ap (λ (ws : List (List ℕ)). w ∷ ws) (split_words p whole space v more (All-tail IsWord w (v ∷ more) are))

-- no word is empty
pub nonempty : (w : List ℕ) → IsWord w → not (eqb (length w) 0) ≡ true
nonempty w is = let h = is.some in grind (arith, nat_tests)

keep_words : (row : List (List ℕ)) → All IsWord row → filter (λ w. not (eqb (length w) 0)) row ≡ row
keep_words [] are = refl
keep_words (w ∷ ws) are = rw (nonempty w (All-head IsWord w ws are), keep_words ws (All-tail IsWord w ws are)) refl

-- it has no comment
before_none : (p : ℕ → Bool) (xs : List ℕ) → All (λ c. p c ≡ false) xs → before_first p xs ≡ xs
before_none p xs free =
    let past : position_or_len p xs ≡ length xs = position_or_len_is p xs (length xs) 0 (omega arith) (λ k low. free k 0 low) (λ low. absurd (omega arith)) in
    ap (λ (n : ℕ). take n xs) past ∙ take_all (length xs) xs (omega arith)

not_comment : (c : ℕ) → IsLineByte c → eqb c 35 ≡ false
not_comment c is = elim is [ inl space ↦ rw space refl | inr printed ↦ (let h = printed.0 in grind (arith, nat_tests)) ]

pub line_words : (row : List (List ℕ)) → 0 < length row → All IsWord row → words_of (join_with_byte 32 row) ≡ row
unfolding words_of
line_words [] some are = absurd (omega arith)
line_words (w ∷ more) some are =
    ap parts_of (before_none (λ c. eqb c 35) (join_with_byte 32 (w ∷ more)) (All-weaker IsLineByte (λ c. eqb c 35 ≡ false) not_comment (join_with_byte 32 (w ∷ more)) (line_bytes (w ∷ more) are)))
    ∙ ap (λ (ws : List (List ℕ)). filter (λ v. not (eqb (length v) 0)) ws) (split_words is_blank not_blank refl w more are)
    ∙ keep_words (w ∷ more) are

-- the lines of printed rows are the rows, joined

not_feed : (c : ℕ) → IsLineByte c → is_feed c ≡ false
not_feed c is = elim is [ inl space ↦ rw space refl | inr printed ↦ (let h = printed.0 in grind (arith, nat_tests)) ]

no_return : (xs : List ℕ) → All IsLineByte xs → eqb (get_or xs (length xs - 1) 0) 13 ≡ false
no_return [] all = refl
no_return (x ∷ xs) all = elim (all (length (x ∷ xs) - 1) 0 (omega arith)) [
  | inl space ↦ rw space refl
  | inr printed ↦ (let h = printed.0 in grind (arith, nat_tests))
]

strip_none : (xs : List ℕ) → All IsLineByte xs → strip_carriage_return xs ≡ xs
strip_none xs all = rw (no_return xs all) refl

pub lines_of-line : (l rest : List ℕ) → All IsLineByte l → lines_of (l ++ 10 ∷ rest) ≡ l ∷ lines_of rest
unfolding lines_of
lines_of-line l rest all =
    ap lines_of_parts (slice_split_at is_feed l 10 rest (All-weaker IsLineByte (λ c. is_feed c ≡ false) not_feed l all) refl)
    ∙ first_of_parts l (slice_split is_feed rest) (parts_some rest)
    ∙ ap (λ (x : List ℕ). x ∷ lines_of_parts (slice_split is_feed rest)) (strip_none l all)

-- no bytes have no lines
pub no_line : lines_of [] ≡ []
unfolding lines_of
no_line = refl

pub lines_of-text : (rows : List (List (List ℕ))) → All (All IsWord) rows → lines_of (lines_text rows) ≡ map (join_with_byte 32) rows
lines_of-text [] are = no_line
lines_of-text (row ∷ rows) are =
    ap lines_of (append_assoc (join_with_byte 32 row) (10 ∷ []) (lines_text rows))
    ∙ lines_of-line (join_with_byte 32 row) (lines_text rows) (line_bytes row (All-head (All IsWord) row rows are))
    ∙ ap (λ (ls : List (List ℕ)). join_with_byte 32 row ∷ ls) (lines_of-text rows (All-tail (All IsWord) row rows are))

-- fixed words
word_byte : (c : ℕ) → (ltb 44 c && ltb c 127) ≡ true → (44 < c) × (c < 127)
word_byte c t = (grind (arith, nat_tests), grind (arith, nat_tests))

word_bytes : (w : List ℕ) → list_all (λ c. ltb 44 c && ltb c 127) w ≡ true → All (λ c. (44 < c) × (c < 127)) w
word_bytes [] t = All-nil (λ c. (44 < c) × (c < 127))
word_bytes (c ∷ w) t = let parts = and_parts (ltb 44 c && ltb c 127) (list_all (λ b. ltb 44 b && ltb b 127) w) t in All-cons (λ b. (44 < b) × (b < 127)) c w (word_byte c parts.0) (word_bytes w parts.1)

pub fixed_word : (w : List ℕ) → list_all (λ c. ltb 44 c && ltb c 127) w ≡ true → 0 < length w → length w ≤ 30 → IsWord w
fixed_word w t some most = record { bytes = word_bytes w t; some = some; most = most }

pub words_cons : (w : List ℕ) (ws : List (List ℕ)) → IsWord w → All IsWord ws → All IsWord (w ∷ ws)
words_cons w ws is are = All-cons IsWord w ws is are

pub words_nil : All IsWord []
words_nil = All-nil IsWord
