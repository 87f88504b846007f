use Rattle.std.proofs.Common.{sym, subst, ℕ, List}
use Rattle.net_script.specs.Texts.{IsText}
use Rattle.script_text.proofs.FormTextLemmas.{canonical_parts}
use Rattle.script_text.proofs.CanonicalLemmas.{canonical_is}
use Rattle.script_text.proofs.printer.print.Goals as goal

pub returns-clause-canonical : goal.returns-clause-canonical
returns-clause-canonical c = canonical_parts c.args.script.now c.new-text.result.items c.push_line.new.text.items c.push_settings.new.text.items c.push_switches.new.text.items c.push_links.new.text.items c.push_hosts.new.text.items c.push_commands.new.text.items c.push_line-2.new.text.items c.new-text.ensures.items c.in_ok-push_line.ensures c.in_ok-push_settings.ensures.lines c.in_ok-push_switches.ensures c.in_ok-push_links.ensures c.in_ok-push_hosts.ensures c.in_ok-push_commands.ensures c.in_ok-push_line-2.ensures

pub returns-clause-text : goal.returns-clause-text
returns-clause-text c = subst (λ (bytes : List ℕ). IsText bytes c.args.script.now) (sym (canonical_parts c.args.script.now c.new-text.result.items c.push_line.new.text.items c.push_settings.new.text.items c.push_switches.new.text.items c.push_links.new.text.items c.push_hosts.new.text.items c.push_commands.new.text.items c.push_line-2.new.text.items c.new-text.ensures.items c.in_ok-push_line.ensures c.in_ok-push_settings.ensures.lines c.in_ok-push_switches.ensures c.in_ok-push_links.ensures c.in_ok-push_hosts.ensures c.in_ok-push_commands.ensures c.in_ok-push_line-2.ensures)) (canonical_is c.args.script.now c.push_settings.ensures.kept)
