-- A table that is due was made.

use Rattle.std.proofs.Common.{◌∙◌, ap, sym, subst}
use Rattle.switch_core.specs.Kept.{KeptOf, Loads, StandsFor}
use Rattle.switch_core.specs.Steps.{loaded}
use Rattle.switch_core.specs.declared.switch.TableFor.{TableFor}
use Rattle.net_world.specs.declared.ask.Sheet.{Sheet}
use Rattle.switch_threads.specs.Workers.{IsUpTo}
use Rattle.net_world.specs.World.{world_after}
use Rattle.switch_threads.proofs.TurnLemmas.{due_fits}
use Rattle.switch_threads.proofs.desk.Desk.due.Goals as goal

pub returns-in_ok-new-in-Work-clause-up : goal.returns-in_ok-new-in-Work-clause-up
returns-in_ok-new-in-Work-clause-up c script history is =
    let desk = c.args.self.now in
    let x = (world_after script history).switches desk.s in
    let now = subst (IsUpTo script history desk c.args.papers.now) c.in-Work.is is in
    let same = c.deref_mut.ensures.value in
    let due = sym (c.load_due.ensures.stands x (subst (λ (k : KeptOf). StandsFor k x) (sym c.deref.ensures) now.keeps_up.fits.1)) ∙ c.if-load_due.true in
    let stood = subst (λ (k : KeptOf). StandsFor k x) (sym same) now.keeps_up.fits.1 in
    let table = c.in_ok-table-in-Work.table in
    let sheet = c.in_ok-new-in-Work.field-0 in
    let holds = ap (λ (s : Sheet). s.table) c.in_ok-new-in-Work.ensures.ok in
    let keeps = due_fits script history desk.s desk.power_on desk.switch.value c.load.new.self sheet now.keeps_up due (ap (λ (t : TableFor). t.epoch) holds ∙ c.in_ok-table-in-Work.ensures.epoch x stood)
    (subst (λ (t : TableFor). Loads x (StandsFor c.load.new.self) t.table) (sym holds) (c.in_ok-table-in-Work.ensures.ok x stood))
    (c.load.ensures.start ∙ ap (λ (k : KeptOf). k.start) same) (c.load.ensures.works ∙ ap (λ (k : KeptOf). k.works) same) in
    let y = loaded sheet.value.table.table.number x in
    record {
      keeps_up = keeps;
      prepared = (c.show.ensures y (subst (λ (k : KeptOf). StandsFor k y) (sym c.deref-in-Work.ensures) keeps.fits.1), c.in_ok-self-in-Work.ensures ∙ c.as_slice.ensures ∙ ap (λ (t : TableFor). t.table.rows) (sym holds));
    }
