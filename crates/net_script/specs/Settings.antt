use Rattle.std.specs.Prelude.{ℕ, ◌-◌, ◌^◌, Bool, true, false, List, [], ◌∷◌, codes}
use Rattle.net_script.specs.declared.setting.Setting.{Setting}
use Rattle.net_script.specs.declared.setting.Setting.TheVariants.{Ticks, Events, Blocks, Epoch, Pace}
use Rattle.net_script.specs.declared.setting.Came.{Came}

-- The settings of a script that are numbers.

-- the words before the number of a setting
abbrev pub setting_words : Setting → List (List ℕ)
setting_words Ticks = codes "limit" ∷ codes "ticks" ∷ []
setting_words Events = codes "limit" ∷ codes "events" ∷ []
setting_words Blocks = codes "limit" ∷ codes "blocks" ∷ []
setting_words Epoch = codes "epoch" ∷ []
setting_words Pace = codes "pace" ∷ []

-- the lowest number of a setting
abbrev pub least_of : Setting → ℕ
least_of Ticks = 0
least_of Events = 2
least_of Blocks = 1
least_of Epoch = 0
least_of Pace = 1

-- the highest number of a setting
abbrev pub most_of : Setting → ℕ
most_of Ticks = 1000000
most_of Events = 16000000
most_of Blocks = 1048576
most_of Epoch = 2 ^ 64 - 1
most_of Pace = 1000000

-- the record that no setting had its line
abbrev pub none_came : Came
none_came =
    record { ticks = false; events = false; blocks = false; epoch = false; pace = false; routes = false }

-- whether a setting had its line
abbrev pub has_come : Came → Setting → Bool
has_come came Ticks = came.ticks
has_come came Events = came.events
has_come came Blocks = came.blocks
has_come came Epoch = came.epoch
has_come came Pace = came.pace

-- `came` after the line of a setting
abbrev pub with_come : Came → Setting → Came
with_come came Ticks = record came { ticks = true }
with_come came Events = record came { events = true }
with_come came Blocks = record came { blocks = true }
with_come came Epoch = record came { epoch = true }
with_come came Pace = record came { pace = true }
