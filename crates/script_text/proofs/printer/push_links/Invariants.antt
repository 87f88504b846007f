use Rattle.std.proofs.Common.{◌≡◌, ◌++◌, map, take}
use Rattle.script_text.specs.Canonical.{forms_text, link_form}
use Rattle.script_text.proofs.printer.push_links.Given as goal

-- the lines so far were appended
abbrev pub invariant-links : goal.invariant-links
invariant-links l = l.text.items ≡ l.fn.text.items ++ forms_text (map (link_form l.names) (take l.link-index l.links))
