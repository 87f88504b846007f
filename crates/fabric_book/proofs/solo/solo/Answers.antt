-- The rounds begin with the first worker, and end at an end.

use Rattle.std.proofs.Common.{◌≡◌, ◌∙◌, List, ap, sym}
use Rattle.an_base.specs.declared.event.Event.{Event}
use Rattle.net_script.specs.Scripts.{ScriptOf}
use Rattle.net_world.specs.World.{begun, world_after}
use Rattle.fabric_book.specs.Nets.{NetOf, driver_lines}
use Rattle.fabric_book.specs.Rounds.{told_of}
use Rattle.fabric_book.proofs.RoundLemmas.{first_turn, legal_by, solo_by}
use Rattle.fabric_book.proofs.solo.solo.Goals as goal
use Rattle.fabric_book.proofs.solo.solo.Goals.{In_ok-end}

-- the script stays
same : (c : goal.In_ok-end) → c.go_round.new.net.script ≡ c.args.script.now
same c = c.in_ok-end.ensures.script ∙ ap (λ (n : NetOf). n.script) c.in_ok-net.ensures

pub go_round-requires-clause-turn : goal.go_round-requires-clause-turn
go_round-requires-clause-turn c = (first_turn c.args.script.now c.in_ok-net.net c.in_ok-net.ensures).0

pub go_round-requires-clause-told : goal.go_round-requires-clause-told
go_round-requires-clause-told c = c.new-told.ensures ∙ sym (ap told_of c.in_ok-net.ensures)

pub returns-clause-solo : goal.returns-clause-solo
returns-clause-solo c = solo_by c.args.script.now c.go_round.new.net c.into_journal.result c.in_ok-end.end (same (goal.at.returns-clause-solo c).In_ok-end) c.into_journal.ensures.all c.in_ok-end.ensures.driven

pub returns-clause-legal : goal.returns-clause-legal
returns-clause-legal c =
    legal_by c.args.script.now c.go_round.new.net c.into_journal.result c.in_ok-end.end (same (goal.at.returns-clause-legal c).In_ok-end) c.into_journal.ensures.all c.into_journal.ensures.lawful c.in_ok-end.ensures.driven.1

pub returns-clause-told : goal.returns-clause-told
returns-clause-told c =
    let events = c.go_round.new.net.events in
    c.in_ok-end.ensures.told
    ∙ ap (λ (x : ScriptOf). driver_lines (begun x) events) (same (goal.at.returns-clause-told c).In_ok-end)
    ∙ ap (λ (es : List Event). driver_lines (begun c.args.script.now) es) (sym c.into_journal.ensures.all)

pub returns-clause-tick : goal.returns-clause-tick
returns-clause-tick c =
    let events = c.go_round.new.net.events in
    c.now-tick.ensures
    ∙ ap (λ (x : ScriptOf). (world_after x events).fabric.tick) (same (goal.at.returns-clause-tick c).In_ok-end)
    ∙ ap (λ (es : List Event). (world_after c.args.script.now es).fabric.tick) (sym c.into_journal.ensures.all)
