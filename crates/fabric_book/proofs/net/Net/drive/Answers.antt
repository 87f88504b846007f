-- The driver did its next thing.

use Rattle.std.proofs.Common.{◌≡◌, ◌∙◌, ◌++◌, ◌∷◌, ◌≤◌, [], List, ap, inr, length, refl, subst, sym, true}
use Rattle.std.proofs.lemmas.List.{append-nil}
use Rattle.std.proofs.lemmas.List.Elements.{All-cons, All-nil}
use Rattle.an_base.specs.declared.event.Event.{Event}
use Rattle.net_script.specs.Scripts.{IsScript}
use Rattle.net_state.specs.declared.work.Drive.{Drive}
use Rattle.net_state.specs.declared.work.Drive.TheVariants as drive
use Rattle.net_state.specs.Choices.{event_of_drive, next_drive}
use Rattle.net_state.specs.Lawful.{is_lawful}
use Rattle.net_world.specs.Histories.{HistoryOf, fabric_of, world_of}
use Rattle.net_state.specs.declared.line.Line.{Line}
use Rattle.fabric_book.specs.Nets.{NetOf, history_of, with_events}
use Rattle.fabric_book.specs.Rounds.{drive_lines}
use Rattle.fabric_book.proofs.DriveLemmas.{drive_lawful}
use Rattle.fabric_book.proofs.DriverLemmas.{rest_events, rest_lines}
use Rattle.fabric_book.proofs.NetLemmas.{book_at, good_at, net_room}
use Rattle.fabric_book.proofs.WorkLemmas.{turn_room}
use Rattle.fabric_book.proofs.WorldFacts.{drive_may_come}
use Rattle.fabric_book.proofs.net.Net.drive.Goals as goal
use Rattle.fabric_book.proofs.net.Net.drive.Goals.{After-drive-drive}

-- it is the next thing of the network, whose script can be
chosen : (c : goal.After-drive-drive) → c.drive-drive.result ≡ next_drive (fabric_of (history_of c.args.self.now))
chosen c =
    let n = c.self.inside in
    c.drive-drive.ensures ∙ ap next_drive c.fabric.ensures ∙ ap (λ (h : HistoryOf). next_drive (fabric_of h)) (book_at n.book n.lost c.args.self.now c.self.view_is)

good : (c : goal.After-drive-drive) → IsScript c.args.self.now.script
good c = let n = c.self.inside in good_at n.book n.lost c.args.self.now c.self.view_is c.self.invariant.script

-- so its event may come
may : (net : NetOf) (did : Drive) (e : Event) → IsScript net.script → did ≡ next_drive (fabric_of (history_of net)) → did ≡ drive.Did e → is_lawful (fabric_of (history_of net)) e ≡ true
may net did e kept is made = drive_lawful (fabric_of (history_of net)) e (drive_may_come net.script kept net.events) (sym is ∙ made)

pub make-requires-clause-lawful : goal.make-requires-clause-lawful
make-requires-clause-lawful c =
    let t = (goal.at.make-requires-clause-lawful c).After-drive-drive in
    may c.args.self.now c.drive-drive.result c.in-Did.event (good t) (chosen t) c.in-Did.is

pub returns : goal.returns
returns c =
    let n = c.self.inside in
    let net = c.args.self.now in
    let e = c.in-Did.event in
    let t = (goal.at.returns c).After-drive-drive in
    let stepped = c.in_ok-make.ensures.stepped in
    let lawful = may net c.drive-drive.result e (good t) (chosen t) c.in-Did.is in
    record {
      script = subst (λ (x : NetOf). IsScript x.script) (sym stepped) (good t);
      did = chosen t;
      driven = subst (λ (d : Drive). c.make.new.self ≡ with_events (event_of_drive d) net) (sym c.in-Did.is) stepped;
      room = turn_room n.book n.lost n.powers.items n.switches.items n.bytes.items c.self.invariant net c.self.view_is (e ∷ []) (inr (e, refl)) (All-cons (λ (x : Event). is_lawful (fabric_of (history_of net)) x ≡ true) e [] lawful (All-nil (λ (x : Event). is_lawful (fabric_of (history_of net)) x ≡ true))) c.make.new.self stepped;
      told = subst (λ (d : Drive). c.make.new.lines ≡ c.args.lines.now ++ drive_lines (world_of (history_of net)) d) (sym c.in-Did.is) c.in_ok-make.ensures.told;
    }

pub returns-in_default : goal.returns-in_default
returns-in_default c =
    let n = c.self.inside in
    let net = c.args.self.now in
    let did = c.drive-drive.result in
    let t = (goal.at.returns-in_default c).After-drive-drive in
    record {
      script = good t;
      did = chosen t;
      driven = sym (ap (λ (es : List Event). with_events es net) (rest_events did c.in_default.not-Did) ∙ ap (λ (es : List Event). record net { events = es }) (append-nil net.events));
      room = subst (λ (m : NetOf). length m.events ≤ m.script.limits.events) c.self.view_is (net_room n.book n.lost n.powers.items n.switches.items n.bytes.items c.self.invariant);
      told = sym (ap (λ (xs : List Line). c.args.lines.now ++ xs) (rest_lines (world_of (history_of net)) did c.in_default.not-Did) ∙ append-nil c.args.lines.now);
    }
