use Rattle.std.proofs.Common.{◌≡◌, ◌∙◌, [], List, arith, refl, subst, take, take_all, Some}
use Rattle.std.proofs.lemmas.Result.{err_from_is_err_and}
use Rattle.an_base.specs.declared.event.Event.{Event}
use Rattle.net_world.specs.Histories.{IsLegal}
use Rattle.net_settling.specs.Claims.{HoldsAndSettles}
use Rattle.replay.specs.Replays.{HasMade, IsRefusal}
use Rattle.replay.proofs.ReplayLemmas.{made_all, refused_at, refused_behind}
use Rattle.report.specs.Moments.{told_so_far}
use Rattle.report.proofs.ListenerLemmas.{at_net, last_told, next_at, next_says, of_net, own_made, told_none}
use Rattle.report.proofs.listener.hear_all.Goals as goal

-- at the beginning
pub events-init : goal.events-init
events-init g c = record {
  made = c.requires.made;
  stands = c.requires.stands;
  says = told_none g.L.Listener.first (g.L.Listener.told c.args.net.now.script) c.args.text.now.items c.requires.first;
}

-- one event more
pub hear_next-requires : goal.hear_next-requires
hear_next-requires g c =
    let script = c.args.net.now.script in
    let net = c.events.net in
    let before = c.events.invariant in
    let so_far = take c.events.event-index c.as_slice-events.result.now in
    record {
      made = own_made script so_far net before.made;
      stands = of_net (λ s h. g.L.Listener.stands c.events.listener s h) script so_far net before.made before.stands;
    }

-- which is refused
pub returns-in_err-hear_next-clause-refused : goal.returns-in_err-hear_next-clause-refused
returns-in_err-hear_next-clause-refused g c =
    let script = c.args.net.now.script in
    let p = err_from_is_err_and c.from_residual.result c.from_residual.ensures.1 in
    let refused = refused_at script c.as_slice-events.result.now c.events.event-index c.event-item.result c.event-item.result c.events.net c.in_err-hear_next.field-0.0 c.events-test.true c.event-item.is c.events.invariant.made c.in_err-hear_next.ensures.refused in
    rw (p.1, p.2) (subst (λ (events : List Event). IsRefusal script events c.in_err-hear_next.field-0.0) c.as_slice-events.ensures refused)

pub events-preserved : goal.events-preserved
events-preserved g c =
    let script = c.args.net.now.script in
    let journal = c.as_slice-events.result.now in
    let k = c.events.event-index in
    let event = c.event-item.result in
    let net = c.events.net in
    let new = c.hear_next.new in
    let before = c.events.invariant in
    let told = c.in_ok-hear_next.ensures in
    record {
      made = next_at (λ s h. HasMade s h new.net) script journal k event event net c.events-test.true c.event-item.is before.made told.made;
      stands = next_at (g.L.Listener.stands new.listener) script journal k event event net c.events-test.true c.event-item.is before.made told.stands;
      says = next_says g.L.Listener.first g.L.Listener.told script journal k event event net c.events.text.items new.text.items c.events-test.true c.event-item.is before.made before.says told.text;
    }

-- after the last one
pub returns-in_err-end-clause-refused : goal.returns-in_err-end-clause-refused
returns-in_err-end-clause-refused g c =
    let p = err_from_is_err_and c.from_residual-in_err-end.result c.from_residual-in_err-end.ensures.1 in
    let script = c.args.net.now.script in
    let events = c.as_slice-events.result.now in
    let over = c.events-test.false in
    let made = made_all script events c.events.event-index c.events.net (omega (arith, over)) c.events.invariant.made in
    let refused = refused_behind script events c.events.net c.in_err-end.field-0.0 made c.in_err-end.ensures.unended in
    rw (p.1, p.2) (subst (λ (events : List Event). IsRefusal script events c.in_err-end.field-0.0) c.as_slice-events.ensures refused)

pub finish-requires : goal.finish-requires
finish-requires g c =
    let script = c.args.net.now.script in
    let net = c.events.net in
    let last = c.events.invariant in
    let so_far = take c.events.event-index c.as_slice-events.result.now in
    record {
      made = own_made script so_far net last.made;
      stands = of_net (λ s h. g.L.Listener.stands c.events.listener s h) script so_far net last.made last.stands;
    }

pub returns-clause-told : goal.returns-clause-told
returns-clause-told g c =
    let script = c.args.net.now.script in
    let journal = c.args.journal.now in
    let net = c.events.net in
    let last = c.events.invariant in
    let whole : take c.events.event-index c.as_slice-events.result.now ≡ journal = take_all c.events.event-index c.as_slice-events.result.now c.events-test.false ∙ c.as_slice-events.ensures in
    let made = subst (λ (events : List Event). HasMade script events net) whole last.made in
    let says = subst (λ (events : List Event). c.events.text.items ≡ told_so_far g.L.Listener.first (g.L.Listener.told script) events) whole last.says in
    record {
      legal = at_net (λ s h. IsLegal s h c.in_ok-end.end) script journal net made c.in_ok-end.ensures.legal;
      claims = at_net HoldsAndSettles script journal net made c.in_ok-end.ensures.claims;
      says = last_told g.L.Listener.first (g.L.Listener.told script) g.L.Listener.last script journal net c.in_ok-end.end (Some c.in_ok-end.end) [] c.events.text.items c.finish.new.text.items made refl says c.in_ok-finish.ensures;
    }

pub returns-clause-stands : goal.returns-clause-stands
returns-clause-stands g c =
    let script = c.args.net.now.script in
    let whole : take c.events.event-index c.as_slice-events.result.now ≡ c.args.journal.now = take_all c.events.event-index c.as_slice-events.result.now c.events-test.false ∙ c.as_slice-events.ensures in
    subst (g.L.Listener.stands c.events.listener script) whole c.events.invariant.stands
