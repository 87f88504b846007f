use Rattle.std.proofs.Common.{◌≡◌, ◌++◌, List, OnOk, arith, subst}
use Rattle.net_script.specs.Scripts.{ScriptOf}
use Rattle.net_state.specs.declared.line.Line.{Line}
use Rattle.net_state.specs.declared.line.PlacedLine.{PlacedLine}
use Rattle.net_world.specs.Accounts.{placed}
use Rattle.report.specs.Events.{all_told}
use Rattle.report.specs.Retellings.{IsNotNext}
use Rattle.report.proofs.RetellingLemmas.{comes, owner_within, retold_next}
use Rattle.report.proofs.retelling.Retelling.step.Goals as goal

pub index_mut-left-requires : goal.index_mut-left-requires
index_mut-left-requires c =
    let within = owner_within _ _ _ _ _ _ _ c.requires.2 in
    let owner = c.owner_of.ensures in
    omega (arith, within, owner)

pub returns-clause-told : goal.returns-clause-told
returns-clause-told c = λ before events is.
    let self = c.args.self.now in
    let new = c.follow.new.self in
    let told = subst (λ (s : ScriptOf). (lines : List Line) (more : List PlacedLine) → c.rows_after-rows.new.self.lines ≡ placed new.course.events lines ++ more → IsNotNext new.course.events more
    → OnOk c.tell.result (c.tell.new.text.items ≡ self.text.items ++ all_told s new.course c.rows_after-rows.result.now lines)) c.follow.ensures.script c.tell.ensures.told in
    retold_next self.telling.script.now before c.args.event.now events self.telling.course self.left.items self.text.items is c.tell.result c.owner_of.result c.index_mut-left.result.now c.rows_after-rows.new.self c.tell.new.self c.rows_after-rows.result.now new.course c.tell.new.text.items
    c.owner_of.ensures c.index_mut-left.ensures.value c.rows_after-rows.ensures (c.follow.ensures.course self.telling.script.now before (comes _ _ _ _ _ _ _ is)) c.tell.ensures.left told
