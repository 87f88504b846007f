use Rattle.std.proofs.Common.{◌≡◌, ◌++◌, map, take}
use Rattle.std.specs.List.{zip}
use Rattle.script_text.specs.Canonical.{forms_text, host_form}
use Rattle.script_text.proofs.printer.push_hosts.Given as goal

-- the lines so far were appended
abbrev pub invariant-hosts : goal.invariant-hosts
invariant-hosts l = l.text.items ≡ l.fn.text.items ++ forms_text (map (host_form l.names) (zip (take l.h l.names_of_hosts) (take l.h l.hosts)))
