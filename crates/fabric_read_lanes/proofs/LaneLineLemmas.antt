-- The row of lanes that words say, from the last lane on.
use denote.Bor.{Bor}
use Rattle.std.proofs.Math.ListN.{get_or-map}
use Rattle.std.proofs.lemmas.List.{length-map}
use Rattle.std.proofs.Common.{◌≡◌, ◌∙◌, sym, ap, refl, map, ℕ, suc, zero, ◌+◌, ◌-◌, ◌*◌, ◌<◌, ◌≤◌, ◌^◌, List, [], ◌∷◌, length, get_or, drop, drop-cons, add-one, arith, Bool, true, false, cond, Option, Some, None, length-drop}
use Rattle.std.proofs.lemmas.Bool.{and_parts, leb-true}
use Rattle.std.proofs.lemmas.Option.{same_Some, none-some}
use Rattle.std.proofs.lemmas.Nat.{pow-add}
use Rattle.std.proofs.Math.Nat.{pow-le-pow_right}
use Rattle.std.specs.Prelude.{nat_le, ◌&&◌}
use Rattle.common_lines.specs.Words.{is_number, is_number_in, number_value}
use Rattle.fabric_words.specs.Cuts.{◌>>=◌}
use Rattle.fabric_words.specs.Digits.{number_to}
use Rattle.fabric_read_lanes.specs.LaneLines.{packed}

-- a number is in its range
number_by : (most : ℕ) (word : List ℕ) (n : ℕ) (b : Bool) → is_number_in 0 most word ≡ b → cond b (Some (number_value word)) None ≡ Some n → n ≤ most
number_by most word n true is some =
    let all = and_parts (is_number word) (nat_le 0 (number_value word) && nat_le (number_value word) most) is in
    let low = leb-true (number_value word) most ((and_parts (nat_le 0 (number_value word)) (nat_le (number_value word) most) all.1).1) in
    let same : number_value word ≡ n = same_Some (number_value word) n some in
    omega arith
number_by most word n false is some = absurd (none-some n some)

pub number_low : (most : ℕ) (word : List ℕ) (n : ℕ) → number_to most word ≡ Some n → n ≤ most
number_low most word n some = number_by most word n (is_number_in 0 most word) refl some

-- a row has four bits for each lane
row_by : (lane : List ℕ) (lanes : List (List ℕ)) (row : ℕ) (higher lowest : Option ℕ) → number_to 15 lane ≡ lowest → ((h : ℕ) → higher ≡ Some h → h < 16 ^ length lanes) → (higher >>= (λ h. lowest >>= (λ l. Some (h * 16 + l)))) ≡ Some row → row < 16 ^ length (lane ∷ lanes)
row_by lane lanes row None lowest last before is = absurd (none-some row is)
row_by lane lanes row (Some h) None last before is = absurd (none-some row is)
row_by lane lanes row (Some h) (Some l) last before is =
    let more : length (lane ∷ lanes) ≡ length lanes + 1 = omega arith in
    let size : 16 ^ length (lane ∷ lanes) ≡ 16 ^ length lanes * 16 = ap (λ (n : ℕ). 16 ^ n) more ∙ pow-add 16 (length lanes) 1 in
    let high : h < 16 ^ length lanes = before h refl in
    let low : l ≤ 15 = number_low 15 lane l last in
    let same : h * 16 + l ≡ row = same_Some (h * 16 + l) row is in
    omega arith

pub packed_low : (lanes : List (List ℕ)) (row : ℕ) → packed lanes ≡ Some row → row < 16 ^ length lanes
packed_low [] row is = let same : 0 ≡ row = same_Some 0 row is in omega arith
packed_low (lane ∷ lanes) row is = row_by lane lanes row (packed lanes) (number_to 15 lane) refl (λ h some. packed_low lanes h some) is

-- .. so that one more fits
pub packed_fits : (lanes : List (List ℕ)) (left row : ℕ) → 0 < left → left ≤ length lanes → length lanes ≤ 16 → packed (drop left lanes) ≡ Some row → row < 2 ^ 60
packed_fits lanes left row some within few is =
    let low = packed_low (drop left lanes) row is in
    let count : length (drop left lanes) ≤ 15 = omega (arith, length-drop left lanes) in
    let most : 16 ^ length (drop left lanes) ≤ 16 ^ 15 = pow-le-pow_right (omega arith) count in
    omega arith

-- one lane more
rest_at : (lanes : List (List ℕ)) (left : ℕ) → left < length lanes → drop left lanes ≡ get_or lanes left [] ∷ drop (left + 1) lanes
rest_at lanes left low = rw (add-one, drop-cons lanes left [] low) refl

pub packed_more : (lanes : List (List ℕ)) (left row n : ℕ) → left < length lanes → packed (drop (left + 1) lanes) ≡ Some row → is_number_in 0 15 (get_or lanes left []) ≡ true → n ≡ number_value (get_or lanes left []) → packed (drop left lanes) ≡ Some (row * 16 + n)
packed_more lanes left row n low is number value = rw (rest_at lanes left low, is, number, value) refl

pub packed_none : (lanes : List (List ℕ)) (left row : ℕ) → left < length lanes → packed (drop (left + 1) lanes) ≡ Some row → is_number_in 0 15 (get_or lanes left []) ≡ false → packed (drop left lanes) ≡ None
packed_none lanes left row low is number = rw (rest_at lanes left low, is, number) refl

-- where there is no row of some of the last lanes, there is none of all
pub none_of_all : (lanes : List (List ℕ)) (left : ℕ) → packed (drop left lanes) ≡ None → packed lanes ≡ None
none_of_all lanes zero none = none
none_of_all [] (suc left) none = none
none_of_all (lane ∷ lanes) (suc left) none = rw (none_of_all lanes left none) refl

-- a lane of slices
abbrev no_word : Bor (List ℕ)
no_word = record { ref_ptr = (0, 0); now = [] }

word_at : (lanes : List (Bor (List ℕ))) (i : ℕ) → get_or (map (λ (w : Bor (List ℕ)). w.now) lanes) i [] ≡ (get_or lanes i no_word).now
word_at lanes i = get_or-map (λ (w : Bor (List ℕ)). w.now) lanes i no_word

module _ (lanes : List (Bor (List ℕ))) (left row : ℕ) (some : 0 < left) (within : left ≤ length lanes) (rest : packed (drop left (map (λ (w : Bor (List ℕ)). w.now) lanes)) ≡ Some row) where
  low : left - 1 < length (map (λ (w : Bor (List ℕ)). w.now) lanes)
  low = omega (arith, length-map lanes (λ (w : Bor (List ℕ)). w.now))

  rest_from : packed (drop (left - 1 + 1) (map (λ (w : Bor (List ℕ)). w.now) lanes)) ≡ Some row
  rest_from = let back : left - 1 + 1 ≡ left = omega arith in ap (λ (n : ℕ). packed (drop n (map (λ (w : Bor (List ℕ)). w.now) lanes))) back ∙ rest

  pub fits : length lanes ≤ 16 → row < 2 ^ 60
  fits few =
      let size = length-map lanes (λ (w : Bor (List ℕ)). w.now) in
      packed_fits (map (λ (w : Bor (List ℕ)). w.now) lanes) left row some (omega arith) (omega arith) rest

  pub row_more : (n : ℕ) → is_number_in 0 15 (get_or lanes (left - 1) no_word).now ≡ true → n ≡ number_value (get_or lanes (left - 1) no_word).now → packed (drop (left - 1) (map (λ (w : Bor (List ℕ)). w.now) lanes)) ≡ Some (row * 16 + n)
  row_more n is value =
      packed_more (map (λ (w : Bor (List ℕ)). w.now) lanes) (left - 1) row n low rest_from (ap (is_number_in 0 15) (word_at lanes (left - 1)) ∙ is) (value ∙ sym (ap number_value (word_at lanes (left - 1))))

  pub row_none : is_number_in 0 15 (get_or lanes (left - 1) no_word).now ≡ false → packed (map (λ (w : Bor (List ℕ)). w.now) lanes) ≡ None
  row_none is =
      none_of_all (map (λ (w : Bor (List ℕ)). w.now) lanes) (left - 1) (packed_none (map (λ (w : Bor (List ℕ)). w.now) lanes) (left - 1) row low rest_from (ap (is_number_in 0 15) (word_at lanes (left - 1)) ∙ is))
