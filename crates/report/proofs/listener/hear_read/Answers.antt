use Rattle.std.proofs.Common.{◌≡◌, ◌++◌, ◌∷◌, [], List, refl, subst, sym, Some}
use Rattle.std.proofs.lemmas.Result.{err_from_is_err_and}
use Rattle.an_base.specs.declared.event.Event.{Event}
use Rattle.net_world.specs.Histories.{IsLegal}
use Rattle.net_settling.specs.Claims.{HoldsAndSettles}
use Rattle.replay.specs.Replays.{HasMade}
use Rattle.journal.proofs.ReadingLemmas.{next_none, next_some}
use Rattle.replay.proofs.ReplayLemmas.{events_are, made_these, refused_end, refused_fault, unlawful_there}
use Rattle.report.specs.Moments.{told_so_far}
use Rattle.report.proofs.ListenerLemmas.{at_net, last_told, next_so, next_told, of_net, own_made, told_none}
use Rattle.report.proofs.ReadingLemmas.{HasReadFrom, next_from}
use Rattle.report.proofs.listener.hear_read.Goals as goal

-- at the beginning
pub events-init : goal.events-init
events-init g c =
    let net = c.args.net.now in
    let script = net.script in
    let none = sym (events_are script [] net c.requires.made) in
    record {
      made = made_these script [] net c.requires.made;
      stands = subst (λ (h : List Event). g.L.Listener.stands c.args.listener.now script h) none c.requires.stands;
      says = subst (λ (h : List Event). c.args.text.now.items ≡ told_so_far g.L.Listener.first (g.L.Listener.told script) h) none (told_none g.L.Listener.first (g.L.Listener.told script) c.args.text.now.items c.requires.first);
      read = subst (λ (h : List Event). HasReadFrom script c.args.reader.now h c.args.reader.now) none (λ bytes has. has);
    }

-- a line is at fault
pub returns-in_err-event-clause-refused : goal.returns-in_err-event-clause-refused
returns-in_err-event-clause-refused g c = λ bytes has.
    let script = c.args.net.now.script in
    let p = err_from_is_err_and c.from_residual.result c.from_residual.ensures.1 in
    rw (p.1, p.2) (refused_fault script bytes c.in_err-event.field-0.0 (c.in_err-event.ensures.fault script bytes c.events.net.events (c.events.invariant.read bytes has)))

-- one event more
pub hear_next-requires : goal.hear_next-requires
hear_next-requires g c =
    let script = c.args.net.now.script in
    let net = c.events.net in
    let before = c.events.invariant in
    record {
      made = own_made script net.events net before.made;
      stands = of_net (λ s h. g.L.Listener.stands c.events.listener s h) script net.events net before.made before.stands;
    }

-- which is refused
pub returns-in-Err-clause-refused : goal.returns-in-Err-clause-refused
returns-in-Err-clause-refused g c = λ bytes has.
    let script = c.args.net.now.script in
    let net = c.events.net in
    let before = c.events.invariant in
    let event = c.in-Some.event in
    c.refused.ensures script bytes net.events event
    (next_some script bytes net.events c.next.new.self _ event c.in-Some.is (c.in_ok-event.ensures.next script bytes net.events (before.read bytes has))) before.made.lawful
    (unlawful_there script net event c.in-Err.why before.made c.in-Err.ensures.refused)

pub events-preserved : goal.events-preserved
events-preserved g c =
    let script = c.args.net.now.script in
    let net = c.events.net in
    let new = c.hear_next.new.net in
    let event = c.in-Some.event in
    let before = c.events.invariant in
    let events : new.events ≡ net.events ++ event ∷ [] = events_are net.script (net.events ++ event ∷ []) new c.in_default-hear_next.ensures.made in
    record {
      made = next_so (λ s h. HasMade s h new) script event net new before.made events c.in_default-hear_next.ensures.made;
      stands = next_so (λ s h. g.L.Listener.stands c.hear_next.new.listener s h) script event net new before.made events c.in_default-hear_next.ensures.stands;
      says = next_told g.L.Listener.first g.L.Listener.told script event net new c.events.text.items c.hear_next.new.text.items before.made events before.says c.in_default-hear_next.ensures.text;
      read = subst (λ (h : List Event). HasReadFrom script c.args.reader.now h c.next.new.self) (sym events)
          (next_from script c.args.reader.now c.events.reader c.next.new.self net.events _ event before.read c.in-Some.is c.in_ok-event.ensures.next);
    }

-- at the end
pub returns-in_err-end-clause-refused : goal.returns-in_err-end-clause-refused
returns-in_err-end-clause-refused g c = λ bytes has.
    let script = c.args.net.now.script in
    let net = c.events.net in
    let last = c.events.invariant in
    let p = err_from_is_err_and c.from_residual-in_err-end.result c.from_residual-in_err-end.ensures.1 in
    rw (p.1, p.2) (refused_end script bytes net c.in_err-end.field-0.0 (next_none script bytes net.events c.next.new.self _ c.in_default.is (c.in_ok-event.ensures.next script bytes net.events (last.read bytes has))) last.made c.in_err-end.ensures.unended)

pub returns-in_err-finish-clause-refused : goal.returns-in_err-finish-clause-refused
returns-in_err-finish-clause-refused g c = λ bytes has.
    let p = err_from_is_err_and c.from_residual-in_err-finish.result c.from_residual-in_err-finish.ensures.1 in
    rw (p.1, p.2) tt

pub finish-requires : goal.finish-requires
finish-requires g c =
    let script = c.args.net.now.script in
    let net = c.events.net in
    let last = c.events.invariant in
    record {
      made = own_made script net.events net last.made;
      stands = of_net (λ s h. g.L.Listener.stands c.events.listener s h) script net.events net last.made last.stands;
    }

pub returns-clause-told : goal.returns-clause-told
returns-clause-told g c = λ bytes has.
    let script = c.args.net.now.script in
    let net = c.events.net in
    let last = c.events.invariant in
    record {
      journal = net.events;
      is_journal = next_none script bytes net.events c.next.new.self _ c.in_default.is (c.in_ok-event.ensures.next script bytes net.events (last.read bytes has));
      stands = last.stands;
      is_told = record {
        legal = at_net (λ s h. IsLegal s h c.in_ok-end.end) script net.events net last.made c.in_ok-end.ensures.legal;
        claims = at_net HoldsAndSettles script net.events net last.made c.in_ok-end.ensures.claims;
        says = last_told g.L.Listener.first (g.L.Listener.told script) g.L.Listener.last script net.events net c.in_ok-end.end (Some c.in_ok-end.end) [] c.events.text.items c.finish.new.text.items last.made refl last.says c.in_ok-finish.ensures;
      };
    }
