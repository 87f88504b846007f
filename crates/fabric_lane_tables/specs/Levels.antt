-- With which service levels end ports send: all with the same, or each to each LID with those that were told, and if none
-- was told with none, or with one that is given.
use Rattle.std.specs.Prelude.{◌==◌, ◌&&◌, ◌%◌, ◌^◌, ℕ, if◌then◌else◌, nat_lt}
use Rattle.fabric_lane_tables.specs.PathLevels.{LevelsOf, told_levels}
use Rattle.fabric_lane_tables.specs.declared.levels.Levels.{Levels}
use Rattle.fabric_lane_tables.specs.declared.levels.Levels.TheVariants.{Same, Told, Filled}

-- some levels, or this one, of 0 to 15, if there is none of 0 to 15 among them
abbrev pub filled : (levels silent : ℕ) → ℕ
filled levels silent = if levels % 2 ^ 16 == 0 && nat_lt silent 16 then 2 ^ silent else levels

abbrev pub levels_of : Levels → LevelsOf
levels_of (Same levels) source lid = levels
levels_of (Told told) source lid = told_levels told source lid
levels_of (Filled told silent) source lid = filled (told_levels told source lid) silent
