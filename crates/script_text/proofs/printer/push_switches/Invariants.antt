use Rattle.std.proofs.Common.{◌≡◌, ◌++◌, map, take}
use Rattle.std.specs.List.{zip}
use Rattle.script_text.specs.Canonical.{forms_text, switch_form}
use Rattle.script_text.proofs.printer.push_switches.Given as goal

-- the lines so far were appended
abbrev pub invariant-switches : goal.invariant-switches
invariant-switches l = l.text.items ≡ l.fn.text.items ++ forms_text (map switch_form (zip (take l.s l.names) (take l.s l.switches)))
