-- The lane of a level in a row is what its word says.
use Rattle.std.proofs.Common.{◌≡◌, ◌∙◌, sym, ap, refl, ℕ, suc, zero, ◌+◌, ◌*◌, ◌/◌, ◌%◌, ◌<◌, ◌≤◌, ◌^◌, List, [], ◌∷◌, length, get_or, arith, Bool, true, false, cond, eqb, Option, Some, None}
use Rattle.std.proofs.lemmas.Bool.{eqb-true}
use Rattle.std.proofs.lemmas.Option.{same_Some, none-some}
use Rattle.std.proofs.lemmas.Nat.{div-mul-add, shr-shr}
use Rattle.fabric_words.specs.Cuts.{◌>>=◌}
use Rattle.fabric_lane_tables.specs.Lanes.{lane_in}
use Rattle.fabric_words.specs.Digits.{number_to}
use Rattle.fabric_read_lanes.specs.LaneLines.{lanes_in, packed}
use Rattle.fabric_read_lanes.proofs.LaneLineLemmas.{number_low}

-- the lowest lane, and the higher ones
lane_0 : (h l : ℕ) → l ≤ 15 → lane_in (h * 16 + l) 0 ≡ l
lane_0 h l low = omega arith

lane_more : (h l k : ℕ) → l ≤ 15 → lane_in (h * 16 + l) (suc k) ≡ lane_in h k
lane_more h l k low =
    let place : 4 * suc k ≡ 4 + 4 * k = omega arith in
    ap (λ (n : ℕ). (h * 16 + l) / 2 ^ n % 16) place
    ∙ ap (λ (n : ℕ). n % 16) (sym (shr-shr (h * 16 + l) 4 (4 * k)))
    ∙ ap (λ (n : ℕ). n / 2 ^ (4 * k) % 16) (div-mul-add h 16 l (omega arith))

lane_by : (lane : List ℕ) (lanes : List (List ℕ)) (row level : ℕ) (higher lowest : Option ℕ) → number_to 15 lane ≡ lowest → ((h k : ℕ) → higher ≡ Some h → k < length lanes → number_to 15 (get_or lanes k []) ≡ Some (lane_in h k)) → (higher >>= (λ h. lowest >>= (λ l. Some (h * 16 + l)))) ≡ Some row → level < length (lane ∷ lanes) → number_to 15 (get_or (lane ∷ lanes) level []) ≡ Some (lane_in row level)
lane_by lane lanes row level None lowest last before is low = absurd (none-some row is)
lane_by lane lanes row level (Some h) None last before is low = absurd (none-some row is)
lane_by lane lanes row zero (Some h) (Some l) last before is low =
    let same : h * 16 + l ≡ row = same_Some (h * 16 + l) row is in
    last ∙ ap (λ (n : ℕ). Some n) (sym (lane_0 h l (number_low 15 lane l last)) ∙ ap (λ (n : ℕ). lane_in n 0) same)
lane_by lane lanes row (suc k) (Some h) (Some l) last before is low =
    let same : h * 16 + l ≡ row = same_Some (h * 16 + l) row is in
    before h k refl (omega arith) ∙ ap (λ (n : ℕ). Some n) (sym (lane_more h l k (number_low 15 lane l last)) ∙ ap (λ (n : ℕ). lane_in n (suc k)) same)

lane_of : (lanes : List (List ℕ)) (row level : ℕ) → packed lanes ≡ Some row → level < length lanes → number_to 15 (get_or lanes level []) ≡ Some (lane_in row level)
lane_of [] row level is low = absurd (omega arith)
lane_of (lane ∷ lanes) row level is low = lane_by lane lanes row level (packed lanes) (number_to 15 lane) refl (λ h k some within. lane_of lanes h k some within) is low

sixteen : (lanes : List (List ℕ)) (row : ℕ) (b : Bool) → eqb (length lanes) 16 ≡ b → cond b (packed lanes) None ≡ Some row → (length lanes ≡ 16) × (packed lanes ≡ Some row)
sixteen lanes row true size is = (eqb-true (length lanes) 16 size, is)
sixteen lanes row false size is = absurd (none-some row is)

pub lane_of_word : (lanes : List (List ℕ)) (row level : ℕ) → lanes_in lanes ≡ Some row → level < 16 → number_to 15 (get_or lanes level []) ≡ Some (lane_in row level)
unfolding lanes_in
lane_of_word lanes row level is low =
    let all = sixteen lanes row (eqb (length lanes) 16) refl is in
    lane_of lanes row level all.1 (omega (arith, all.0))
