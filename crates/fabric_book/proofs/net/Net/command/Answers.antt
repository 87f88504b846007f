-- The next command was done.

use Rattle.std.proofs.Common.{◌≡◌, ◌∙◌, ◌++◌, List, ap, refl, subst, sym, true}
use Rattle.std.specs.Prelude.{option_to_list}
use Rattle.std.proofs.lemmas.Result.{on_ok_weaker}
use Rattle.net_script.specs.Scripts.{IsScript}
use Rattle.net_state.specs.Lawful.{is_command}
use Rattle.net_world.specs.Histories.{HistoryOf, fabric_of, world_of}
use Rattle.net_state.specs.declared.line.Line.{Line}
use Rattle.net_world.specs.Lines.{lines_of}
use Rattle.fabric_book.proofs.NetLemmas.{book_at, command_owner, may_at, net_as, net_driven}
use Rattle.fabric_book.proofs.WorldFacts.{world_script}
use Rattle.fabric_book.proofs.net.Net.command.Goals as goal

pub invariant_of-self : goal.invariant_of-self
invariant_of-self c =
    let n = c.self.inside in
    let command : is_command (fabric_of n.book) c.args.command ≡ true = ap (λ (h : HistoryOf). is_command (fabric_of h) c.args.command) (book_at n.book n.lost c.args.self.now c.self.view_is) ∙ c.requires.command in
    let good = subst IsScript (sym (world_script n.book.script n.book.events)) c.self.invariant.script in
    net_as _ _ _ _ _ _ _ _ _ (net_driven n.book c.args.command n.lost n.powers.items n.switches.items n.bytes.items c.self.invariant (may_at n.book n.lost c.args.self.now c.self.view_is c.args.command c.requires.lawful)
    (command_owner (fabric_of n.book) c.args.command good command c.requires.other))
    c.command.ensures.done refl refl refl

pub returns-clause-told : goal.returns-clause-told
returns-clause-told c =
    let n = c.self.inside in
    let told = c.command.ensures.told ∙ ap (λ (h : HistoryOf). lines_of (world_of h) c.args.command) (book_at n.book n.lost c.args.self.now c.self.view_is) in
    on_ok_weaker c.push_some.result
    (λ (pushed : c.push_some.new.self ≡ c.args.lines.now ++ option_to_list c.command.result). pushed ∙ ap (λ (xs : List Line). c.args.lines.now ++ xs) told)
    c.push_some.ensures
