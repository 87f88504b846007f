-- How often something failed, and how long it is held down for it.

use Rattle.std.specs.Prelude.{ℕ, ◌+◌, ◌-◌, ◌^◌, min, nat_le, Bool, if◌then◌else◌}

-- a level, 0 to 7, and the number of good samples in a row
pub record SkepticOf : Type 0 where
  pub level : ℕ
  pub run : ℕ

-- the number of good samples in a row that are required
abbrev pub hold : SkepticOf → ℕ
hold skeptic = 2 ^ skeptic.level

-- the skeptic after a failure, which raises the level by one, up to 7, and restarts the count
abbrev pub failed : SkepticOf → SkepticOf
failed skeptic = record { level = min 7 (skeptic.level + 1); run = 0 }

-- the skeptic after a good sample: the 64th in a row lowers the level by one, not below 0, and restarts the count
abbrev pub praised : SkepticOf → SkepticOf
praised skeptic =
    if nat_le 64 (skeptic.run + 1)
    then record { level = skeptic.level - 1; run = 0 }
    else record skeptic { run = skeptic.run + 1 }

-- whether one more good sample is the last one required
abbrev pub is_over : SkepticOf → Bool
is_over skeptic = nat_le (hold skeptic) (skeptic.run + 1)

-- the skeptic after one more good sample during hold-down
abbrev pub dwelt : SkepticOf → SkepticOf
dwelt skeptic = record skeptic { run = if is_over skeptic then 0 else skeptic.run + 1 }

-- the skeptic with its count of good samples restarted
abbrev pub cleared : SkepticOf → SkepticOf
cleared skeptic = record skeptic { run = 0 }
