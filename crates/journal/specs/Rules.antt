use Rattle.std.specs.Prelude.{◌^◌, ◌-◌, ℕ, List, Option, None, is_some}
use Rattle.std.specs.Option.{option_or}
use Rattle.common_lines.specs.Words.{is_number_in}
use Rattle.net_names.specs.Names.{place_of}
use Rattle.net_script.specs.Commands.{most_count}
use Rattle.net_script.specs.Scripts.{ScriptOf}
use Rattle.journal_cause.specs.declared.cause.JournalCause.{JournalCause}
use Rattle.journal_cause.specs.declared.cause.JournalCause.TheVariants.{BadNumber, NoSuchName}
use Rattle.common_lines.specs.Faults.{unless}
use Rattle.journal.specs.Lines.{Line, Ticks, Moves, OnSwitch, OnPort, OnWire, Sends}

-- The errors of the fields of a line.

-- the error, if any, of a word that must be one of `names`, or a number from `least` to `most`
abbrev pub name_cause : List (List ℕ) → List ℕ → Option JournalCause
name_cause names word = unless (is_some (place_of names word)) NoSuchName

abbrev pub number_cause : (least most : ℕ) → List ℕ → Option JournalCause
number_cause least most word = unless (is_number_in least most word) BadNumber

-- the first error, if any, of the fields of a line, from left to right
abbrev pub line_cause : ScriptOf → Line → Option JournalCause
line_cause script Ticks = None
line_cause script (Moves packet) = number_cause 1 (2 ^ 32 - 1) packet
line_cause script (OnSwitch event name) = name_cause script.switch_names name
line_cause script (OnPort event name port) =
    option_or (name_cause script.switch_names name) (number_cause 1 12 port)
line_cause script (OnWire change name port count) =
    option_or (name_cause script.switch_names name)
    (option_or (number_cause 1 12 port) (number_cause 1 (most_count change) count))
line_cause script (Sends host to) =
    option_or (name_cause script.names_of_hosts host) (name_cause script.names_of_hosts to)
