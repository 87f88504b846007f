use Rattle.std.proofs.Common.{◌≡◌, ◌++◌, map, take}
use Rattle.script_text.specs.Canonical.{forms_text, command_form}
use Rattle.script_text.proofs.printer.push_commands.Given as goal

-- the lines so far were appended
abbrev pub invariant-commands : goal.invariant-commands
invariant-commands l = l.text.items ≡ l.fn.text.items ++ forms_text (map (command_form l.script) (take l.command-index l.commands))
