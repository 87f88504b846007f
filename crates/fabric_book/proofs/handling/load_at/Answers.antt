-- The table that is due is loaded, and the book takes it.

use Rattle.std.proofs.lemmas.Result.{on_ok_weaker}
use Rattle.std.proofs.Common.{◌≡◌, ◌∙◌, ◌++◌, ◌∷◌, ℕ, List, [], ap, subst, sym}
use Rattle.switch_core.specs.Kept.{StandsFor}
use Rattle.switch_core.specs.Steps.{loaded}
use Rattle.net_world.specs.Histories.{HistoryOf, world_of}
use Rattle.net_state.specs.declared.line.Line.{Line}
use Rattle.fabric_book.specs.Nets.{IsSwitchKept}
use Rattle.fabric_book.proofs.HandLemmas.{due_here, due_within, number_is, to_load}
use Rattle.fabric_book.proofs.OwnLemmas.{load_own}
use Rattle.fabric_book.proofs.handling.load_at.Goals as goal

pub load-requires : goal.load-requires
load-requires c =
    let h = c.args.book.now in
    due_here h.script c.requires.script h.events c.args.s c.requires.lawful c.args.switch.now c.requires.kept.0 c.requires.kept.1

pub load_now-told-requires-clause-load : goal.load_now-told-requires-clause-load
load_now-told-requires-clause-load c =
    let h = c.args.book.now in
    let x = (world_of h).switches c.args.s in
    to_load h.script c.requires.script h.events c.args.s c.requires.lawful (record { epoch = c.in_ok-table.table.epoch; table = c.in_ok-table.table.table }) c.note-note.result c.load.new.self
    (c.in_ok-table.ensures.epoch x c.requires.kept.1.stands) (c.in_ok-table.ensures.ok x c.requires.kept.1.stands) c.note-note.ensures

pub returns-clause-kept : goal.returns-clause-kept
returns-clause-kept c = λ (buffer : List ℕ) (is : IsSwitchKept (world_of c.args.book.now) c.args.s c.args.switch.now buffer).
    let h = c.args.book.now in
    let x = (world_of h).switches c.args.s in
    let loads = c.in_ok-table.ensures.ok x is.stands in
    on_ok_weaker c.push.result (λ _. subst (λ (g : HistoryOf). IsSwitchKept (world_of g) c.args.s c.load.new.self buffer) (sym c.load_now-told.ensures.loaded)
    (load_own h.script c.requires.script h.events c.args.s (due_within h.script c.requires.script h.events c.args.s c.requires.lawful) c.requires.lawful c.args.switch.now c.load.new.self buffer loads.topo is c.load.ensures.start c.load.ensures.works loads.finished
    (subst (λ (n : ℕ). StandsFor c.load.new.self (loaded n x)) (number_is x c.load.new.self c.in_ok-table.table.table loads) loads.stands))) c.push.ensures.ok

pub returns-clause-told : goal.returns-clause-told
returns-clause-told c =
    on_ok_weaker c.push.result (λ (more : c.push.new.self ≡ c.args.lines.now ++ c.load_now-told.result ∷ []). more ∙ ap (λ (xs : List Line). c.args.lines.now ++ xs) c.load_now-told.ensures.told) c.push.ensures.ok
