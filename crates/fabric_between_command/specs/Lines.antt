-- The lines of the answer for two tables.

use Rattle.std.specs.Prelude.{ℕ, List, [], ◌∷◌, ◌++◌, Option, Some, None, length, map, codes}
use Rattle.std.specs.Fmt.{decimal}
use Rattle.common_lines.specs.Lines.{lines_text}
use Rattle.fabric_mixtures.specs.declared.turn.By.{By}
use Rattle.fabric_mixtures.specs.declared.turn.By.TheVariants.{Old, New, Both}
use Rattle.fabric_mixtures.specs.declared.looped.Looped.{Looped}
use Rattle.fabric_mixtures.specs.declared.looped.Looped.TheVariants as looped
use Rattle.fabric_print.specs.Answers.{Row, channels_row, guid_word, name_row, read_row, unset_rows}
use Rattle.fabric_between_command.specs.declared.lines.Between.{Between}
use Rattle.fabric_between_command.specs.declared.lines.NewRows.{NewRows}
use Rattle.fabric_between_command.specs.declared.lines.TurnTold.{TurnTold}

-- what was read of the new tables
abbrev pub between_row : NewRows → Row
between_row new =
    codes "between" ∷ codes "rows" ∷ decimal new.rows ∷ codes "unowned" ∷ decimal new.unowned
    ∷ codes "changed" ∷ decimal new.changed ∷ []

abbrev pub by_word : By → List ℕ
by_word Old = codes "old"
by_word New = codes "new"
by_word Both = codes "both"

-- a channel of the cycle, with the LID for which the next one may follow it, and by which tables each is taken
abbrev pub turn_row : TurnTold → Row
turn_row turn =
    codes "channel" ∷ guid_word turn.guid ∷ decimal turn.port ∷ codes "lid" ∷ decimal turn.lid
    ∷ codes "by" ∷ by_word turn.by ∷ codes "then" ∷ by_word turn.next_by ∷ []

-- the cycle, if there is one: how many channels it has, which of the tables have one by them alone, and its channels
abbrev pub looped_word : Looped → List ℕ
looped_word looped.Old = codes "old"
looped_word looped.New = codes "new"
looped_word looped.Both = codes "both"
looped_word looped.Mixture = codes "mixture"

abbrev pub loop_rows : Option Looped → List TurnTold → List Row
loop_rows None cycle = (codes "cycle" ∷ codes "none" ∷ []) ∷ []
loop_rows (Some which) cycle =
    (codes "cycle" ∷ decimal (length cycle) ∷ []) ∷ (codes "looped" ∷ looped_word which ∷ []) ∷ map turn_row cycle

-- all of it
unfoldable pub between_rows : Between → List Row
between_rows answer =
    (codes "fabric" ∷ codes "1" ∷ []) ∷ read_row answer.read ∷ between_row answer.new
    ∷ channels_row answer.channels answer.dependencies
    ∷ (loop_rows answer.looped answer.cycle.items
    ++ (unset_rows answer.unset ++ map name_row answer.names.items))

abbrev pub between_text : Between → List ℕ
between_text answer = lines_text (between_rows answer)
