use Rattle.std.proofs.Common.{◌≡◌, refl, ℕ, ◌<◌, Option, Some, None, Bool, true, false, arith, inl, inr, ◌⊎◌, ◌&&◌}
use Rattle.std.specs.Prelude.{nat_lt}
use Rattle.std.proofs.lemmas.Bool.Decides.{nat_tests}
use Rattle.dep_check.specs.declared.channel.Channel.{Channel}
use Rattle.dep_check.specs.Tables.{IsSpot, is_spot, place_of}

-- an option is none or some
pub option_cases : {A : Type 0} (o : Option A) → (o ≡ None) ⊎ ((x : A) × (o ≡ Some x))
option_cases None = inl refl
option_cases (Some x) = inr (x, refl)

-- the place of a spot is in the tables
pub place_low : (s : Channel) → IsSpot s → place_of s < 1651
place_low s spot = let a = spot.at in let b = spot.port in omega arith

-- two spots at one place are one
pub one_spot : (s t : Channel) → IsSpot s → IsSpot t → place_of s ≡ place_of t → s ≡ t
one_spot s t a b e =
    let a1 = a.port in
    let b1 = b.port in
    let at : s.at ≡ t.at = omega arith in
    let port : s.port ≡ t.port = omega arith in
    same s.at t.at s.port t.port at port
  where
    same : (x y p q : ℕ) → x ≡ y → p ≡ q → ◌≡◌ {A = Channel} (record { at = x; port = p }) (record { at = y; port = q })
    same x y p q e f = rw (e, f) refl

-- the test of a spot
pub spot_true : (s : Channel) → IsSpot s → is_spot s ≡ true
spot_true s spot = let a = spot.at in let b = spot.port in grind (arith, nat_tests)

pub spot_from : (s : Channel) → is_spot s ≡ true → IsSpot s
spot_from s is = record { at = low s.at s.port is; port = high s.at s.port is }
  where
    low : (x p : ℕ) → (nat_lt x 127 && nat_lt p 13) ≡ true → x < 127
    low x p e = grind (arith, nat_tests)

    high : (x p : ℕ) → (nat_lt x 127 && nat_lt p 13) ≡ true → p < 13
    high x p e = grind (arith, nat_tests)

-- a spot or none
pub spot_cases : (s : Channel) → IsSpot s ⊎ (is_spot s ≡ false)
spot_cases s = go (is_spot s) refl
  where
    go : (b : Bool) → is_spot s ≡ b → IsSpot s ⊎ (is_spot s ≡ false)
    go true e = inl (spot_from s e)
    go false e = inr e
