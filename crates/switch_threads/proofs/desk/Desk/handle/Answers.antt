-- What was in hand was handled.

use Rattle.std.proofs.Common.{◌≡◌, ◌∙◌, ◌+◌, ◌++◌, ◌<◌, ◌^◌, List, ℕ, ap, subst, sym}
use Rattle.switch_core.specs.Kept.{IsWorking, KeptOf, StandsFor}
use Rattle.switch_core.specs.Switch.{note_of}
use Rattle.net_state.specs.Fabric.{is_empty}
use Rattle.net_state.specs.Fits.{IsHandPort}
use Rattle.net_world.proofs.NextLemmas.{handle_is_lawful}
use Rattle.net_world.specs.World.{handles, world_after}
use Rattle.net_state.specs.declared.line.Line.{Line}
use Rattle.fabric_book.specs.Nets.{IsHandled}
use Rattle.fabric_book.specs.Told.{hand_lines}
use Rattle.net_world.specs.declared.ask.Letter.{Letter}
use Rattle.net_world.specs.declared.ask.Parcel.{Parcel}
use Rattle.fabric_book.proofs.HandLemmas.{hand_filled, hand_port, hand_working, hand_works, lines_at}
use Rattle.switch_threads.proofs.TurnLemmas.{handled_done, handled_fits}
use Rattle.switch_threads.proofs.desk.Desk.handle.Goals as goal

pub handle-requires-clause-full : goal.handle-requires-clause-full
handle-requires-clause-full c =
    let s = c.args.self.now.s in
    let script = c.requires.0 in
    let history = c.requires.1 in
    let is = c.requires.2.has in
    ap is_empty is.hand_is ∙ hand_filled script is.powered.kept history s (handle_is_lawful script history s is.powered.within is.full)

pub handle-requires-clause-port : goal.handle-requires-clause-port
handle-requires-clause-port c =
    let s = c.args.self.now.s in
    let script = c.requires.0 in
    let history = c.requires.1 in
    let is = c.requires.2.has in
    subst IsHandPort (sym is.hand_is) (hand_port script is.powered.kept history s (handle_is_lawful script history s is.powered.within is.full))

pub handle-requires-clause-works : goal.handle-requires-clause-works
handle-requires-clause-works c =
    let desk = c.args.self.now in
    let papers = c.args.papers.now in
    let script = c.requires.0 in
    let history = c.requires.1 in
    let is = c.requires.2.has in
    let works = hand_works script is.powered.kept history desk.s (handle_is_lawful script history desk.s is.powered.within is.full) desk.switch.value papers.letter.value.buffer is.kept in
    subst (λ (k : KeptOf). k.works < 2 ^ 28) (sym c.deref_mut.ensures.value) works

pub handle-requires-clause-working : goal.handle-requires-clause-working
handle-requires-clause-working c =
    let desk = c.args.self.now in
    let papers = c.args.papers.now in
    let script = c.requires.0 in
    let history = c.requires.1 in
    let is = c.requires.2.has in
    let working = hand_working script is.powered.kept history desk.s (handle_is_lawful script history desk.s is.powered.within is.full) desk.switch.value papers.letter.value.buffer is.kept in
    subst IsWorking (sym c.deref_mut.ensures.value) working

pub returns-clause-done : goal.returns-clause-done
returns-clause-done c script history is =
    let desk = c.args.self.now in
    let papers = c.args.papers.now in
    let w = world_after script history in
    let x = w.switches desk.s in
    let hand = c.args.hand in
    let same = c.deref_mut.ensures.value in
    let stood = subst (λ (k : KeptOf). StandsFor k x) (sym same) is.has.kept.stands in
    let noted = ap (λ (p : Parcel). p.done.note) c.deref_mut-2.ensures.value ∙ is.note_is in
    let bytes = c.bytes.ensures.all ∙ ap (λ (l : Letter). l.buffer) c.deref.ensures in
    let does = subst (λ (xs : List ℕ). IsHandled x hand xs c.handle.new.switch c.handle.new.out) bytes (c.in_ok-handle.ensures.handled x stood) in
    let shown = subst (λ (xs : List ℕ). c.handle.new.note ≡ note_of (handles hand xs x).switch) bytes (c.in_ok-handle.ensures.note x stood noted) in
    let none = c.clear.ensures in
    let told = subst (λ (xs : List ℕ). c.handle.new.lines ≡ hand_lines desk.s hand xs x (handles hand xs x).switch) bytes
    (c.in_ok-handle.ensures.told x stood noted ∙ ap (λ (ls : List Line). ls ++ hand_lines desk.s hand c.bytes.result.now x (handles hand c.bytes.result.now x).switch) none) in
    let y = (handles hand papers.letter.value.buffer x).switch in
    let laid = c.in_ok-lay.ensures.laid y (subst (λ (k : KeptOf). StandsFor k y) (sym c.deref-2.ensures) does.stands) (ap (λ (p : Parcel). p.done.note) c.deref_mut-4.ensures.value ∙ shown) in
    record {
      keeps_up = handled_fits script history desk.s desk.power_on desk.switch.value c.handle.new.switch papers.letter.value.buffer hand c.handle.new.out is.has does
          (c.handle.ensures.start ∙ ap (λ (k : KeptOf). k.start) same) (c.handle.ensures.works ∙ ap (λ (k : KeptOf). k.works + 1) same);
      prepared = (
        handled_done script history desk.s desk.power_on desk.switch.value c.handle.new.switch papers.letter.value.buffer hand c.handle.new.out is.has does c.lay.new.parcel.done laid,
        told ∙ lines_at w desk.s hand papers.letter.value.buffer is.has.hand_is is.has.kept.frame,
        c.in_ok-lay.ensures.room,
      );
    }
