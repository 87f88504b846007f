-- A worker did its next thing.

use Rattle.std.proofs.Common.{◌≡◌, ◌∙◌, ◌∷◌, ◌<◌, ◌≤◌, [], ap, inr, length, not, refl, subst, sym, true}
use Rattle.std.proofs.lemmas.List.Elements.{All-cons, All-nil}
use Rattle.std.proofs.lemmas.Result.{on_ok_weaker}
use Rattle.an_base.specs.declared.event.Event.{Event}
use Rattle.an_base.specs.declared.event.Event.TheVariants.{Handle, Load}
use Rattle.net_state.specs.Choices.{event_of_work, next_work}
use Rattle.net_state.specs.Fabric.{FabricOf, StationOf, count, is_empty, is_full_at, station}
use Rattle.net_state.specs.Lawful.{is_barred, is_lawful}
use Rattle.net_world.specs.Histories.{HistoryOf, fabric_of, last_taken}
use Rattle.fabric_book.specs.Nets.{NetOf, history_of}
use Rattle.fabric_book.proofs.NetLemmas.{book_at, net_room, within_at, within_count}
use Rattle.fabric_book.proofs.RoundLemmas.{work_one}
use Rattle.fabric_book.proofs.WorkLemmas.{turn_room}
use Rattle.fabric_book.proofs.WorldFacts.{handle_may_come, load_may_come, work_may_come}
use Rattle.fabric_book.proofs.net.Net.turn.Goals as goal
use Rattle.fabric_book.proofs.net.Net.turn.Goals.{After-is_barred, After-is_full}

-- whether the hand is full, and whether loads are barred, as the world has it
full : (c : goal.After-is_full) → c.is_full.result ≡ is_full_at (fabric_of (history_of c.args.self.now)) c.args.s
full c = c.is_full.ensures ∙ ap (λ (x : StationOf). not (is_empty x.hand)) (c.station.ensures ∙ ap (λ (f : FabricOf). station f c.args.s) c.fabric.ensures)
    ∙ ap (λ (g : HistoryOf). is_full_at (fabric_of g) c.args.s) (book_at c.self.inside.book c.self.inside.lost c.args.self.now c.self.view_is)

barred : (c : goal.After-is_barred) → c.is_barred.result ≡ is_barred (fabric_of (history_of c.args.self.now))
barred c = c.is_barred.ensures ∙ ap is_barred c.fabric-2.ensures ∙ ap (λ (g : HistoryOf). is_barred (fabric_of g)) (book_at c.self.inside.book c.self.inside.lost c.args.self.now c.self.view_is)

pub station-requires : goal.station-requires
station-requires c =
    let n = c.self.inside in
    subst (λ (f : FabricOf). c.args.s < count f) (sym c.fabric.ensures) (within_count n.book c.args.s (within_at n.book n.lost c.args.self.now c.self.view_is c.args.s c.requires.within))

pub handle-requires-clause-lawful : goal.handle-requires-clause-lawful
handle-requires-clause-lawful c =
    let n = c.self.inside in
    let h = history_of c.args.self.now in
    let s = c.args.s in
    handle_may_come h.script h.events s c.requires.within (sym (full (goal.at.handle-requires-clause-lawful c).After-is_full) ∙ c.if-is_full.true)

pub returns-then-is_full-clause-room : goal.returns-then-is_full-clause-room
returns-then-is_full-clause-room c =
    let n = c.self.inside in
    let h = history_of c.args.self.now in
    let s = c.args.s in
    let lawful = handle_may_come h.script h.events s c.requires.within (sym (full (goal.at.returns-then-is_full-clause-room c).After-is_full) ∙ c.if-is_full.true) in
    turn_room n.book n.lost n.powers.items n.switches.items n.bytes.items c.self.invariant c.args.self.now c.self.view_is (Handle s ∷ []) (inr (Handle s, refl)) (All-cons (λ (e : Event). is_lawful (fabric_of (history_of c.args.self.now)) e ≡ true) (Handle c.args.s) [] lawful (All-nil (λ (e : Event). is_lawful (fabric_of (history_of c.args.self.now)) e ≡ true))) c.handle.new.self c.in_ok-handle.ensures.stepped

pub returns-then-is_barred-clause-room : goal.returns-then-is_barred-clause-room
returns-then-is_barred-clause-room c =
    let n = c.self.inside in
    subst (λ (m : NetOf). length m.events ≤ m.script.limits.events) c.self.view_is (net_room n.book n.lost n.powers.items n.switches.items n.bytes.items c.self.invariant)

pub load-requires-clause-lawful : goal.load-requires-clause-lawful
load-requires-clause-lawful c =
    let n = c.self.inside in
    let h = history_of c.args.self.now in
    let s = c.args.s in
    load_may_come h.script h.events s c.requires.within (sym (barred (goal.at.load-requires-clause-lawful c).After-is_barred) ∙ c.if-is_barred.false) (sym (full (goal.at.load-requires-clause-lawful c).After-is_full) ∙ c.if-is_full.false) (sym c.load_due.ensures ∙ c.if-load_due.true)

pub returns-then-load_due-clause-room : goal.returns-then-load_due-clause-room
returns-then-load_due-clause-room c =
    let n = c.self.inside in
    let h = history_of c.args.self.now in
    let s = c.args.s in
    let lawful = load_may_come h.script h.events s c.requires.within (sym (barred (goal.at.returns-then-load_due-clause-room c).After-is_barred) ∙ c.if-is_barred.false) (sym (full (goal.at.returns-then-load_due-clause-room c).After-is_full) ∙ c.if-is_full.false) (sym c.load_due.ensures ∙ c.if-load_due.true) in
    turn_room n.book n.lost n.powers.items n.switches.items n.bytes.items c.self.invariant c.args.self.now c.self.view_is (Load s ∷ []) (inr (Load s, refl)) (All-cons (λ (e : Event). is_lawful (fabric_of (history_of c.args.self.now)) e ≡ true) (Load c.args.s) [] lawful (All-nil (λ (e : Event). is_lawful (fabric_of (history_of c.args.self.now)) e ≡ true))) c.load.new.self c.in_ok-load.ensures.stepped

pub returns-clause-room : goal.returns-clause-room
returns-clause-room c =
    let n = c.self.inside in
    let h = history_of c.args.self.now in
    let s = c.args.s in
    let job = next_work (fabric_of h) s (last_taken s h.events) in
    on_ok_weaker c.take_work.result
    (turn_room n.book n.lost n.powers.items n.switches.items n.bytes.items c.self.invariant c.args.self.now c.self.view_is (event_of_work s job) (work_one s job) (work_may_come h.script h.events s (last_taken s h.events) c.requires.within (sym (full (goal.at.returns-clause-room c).After-is_full) ∙ c.if-is_full.false)) c.take_work.new.self)
    c.take_work.ensures.taken
