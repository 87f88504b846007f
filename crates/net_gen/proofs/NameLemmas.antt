-- Names of switches and hosts: a letter with a number.
use Rattle.std.proofs.Common.{◌≡◌, ◌≢◌, ◌∙◌, sym, refl, ℕ, ◌+◌, ◌<◌, ◌≤◌, List, [], ◌∷◌, arith, length, map, leb, true, Contains}
use Rattle.std.specs.Prelude.{Any}
use Rattle.std.specs.Char.{is_ascii_digit, is_ascii_alphabetic}
use Rattle.std.specs.Fmt.{decimal}
use Rattle.std.specs.List.{list_all, range_with_len}
use Rattle.std.proofs.lemmas.Bool.{and_parts}
use Rattle.std.proofs.lemmas.Bool.Decides.{nat_tests}
use Rattle.std.proofs.lemmas.Fmt.{decimal_injective, digits_decimal, length-decimal-le}
use Rattle.std.proofs.lemmas.List.FromFn.{length-range_with_len, get_or-range_with_len}
use Rattle.common_values.proofs.MemberLemmas.{Any-from_map}
use Rattle.net_names.specs.Words.{is_name_byte, IsName}
use Rattle.common_lines.proofs.WordLemmas.{own}

-- a digit is a byte of a name
digit_of_name : (c : ℕ) → is_ascii_digit c ≡ true → is_name_byte c ≡ true
digit_of_name c t = grind (arith, nat_tests)

digits_of_name : (xs : List ℕ) → list_all is_ascii_digit xs ≡ true → list_all is_name_byte xs ≡ true
digits_of_name [] t = refl
digits_of_name (x ∷ xs) t =
    let parts = and_parts (is_ascii_digit x) (list_all is_ascii_digit xs) t in
    rw (digit_of_name x parts.0, digits_of_name xs parts.1) refl

-- a letter with a number is a name
pub numbered : (c n : ℕ) → is_ascii_alphabetic c ≡ true → is_name_byte c ≡ true → n ≤ 1000 → IsName (c ∷ decimal n)
numbered c n letter byte low =
    let short = length-decimal-le 15 n (omega arith) (omega arith) (omega arith) in
    let le : leb (length (c ∷ decimal n)) 16 ≡ true = grind (arith, nat_tests) in
    rw (letter, le, byte, digits_of_name (decimal n) (digits_decimal own n (omega arith))) refl

-- some number of a range has what some element of it has
pub any_place : (P : ℕ → Type 0) (a n : ℕ) → Any P (range_with_len a n) → (x : ℕ) × (a ≤ x) × (x < a + n) × P x
any_place P a n (k, x, low, is, p) =
    let len = length-range_with_len a n in
    let at = get_or-range_with_len a n k x (omega (arith, low, len)) in
    let e : x ≡ a + k = sym is ∙ at in
    (x, omega (arith, e), omega (arith, e, low, len), p)

-- the names with one letter, of so many numbers
abbrev pub names_with : ℕ → ℕ → List (List ℕ)
names_with c n = map (λ place. c ∷ decimal (place + 1)) (range_with_len 0 n)

-- the next one is new among them
pub next_is_new : (c n : ℕ) → n ≤ 1000 → Contains (names_with c n) (c ∷ decimal (n + 1)) → ⊥
next_is_new c n low has =
    let (x, _, below, is) = any_place (λ place. c ∷ decimal (place + 1) ≡ c ∷ decimal (n + 1)) 0 n (Any-from_map (λ place. c ∷ decimal (place + 1)) (range_with_len 0 n) (c ∷ decimal (n + 1)) has) in
    let d : decimal (x + 1) ≡ decimal (n + 1) = cc in
    let s = decimal_injective (x + 1) (n + 1) (omega arith) (omega arith) d in
    absurd (omega (arith, s, below))

-- and so is one with another letter
pub other_is_new : (c d n : ℕ) (w : List ℕ) → c ≢ d → Contains (names_with c n) (d ∷ w) → ⊥
other_is_new c d n w apart has =
    let (x, _, _, is) = any_place (λ place. c ∷ decimal (place + 1) ≡ d ∷ w) 0 n (Any-from_map (λ place. c ∷ decimal (place + 1)) (range_with_len 0 n) (d ∷ w) has) in
    let e : c ≡ d = cc in
    absurd (apart e)
