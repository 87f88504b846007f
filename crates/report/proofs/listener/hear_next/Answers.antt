use Rattle.std.proofs.Common.{◌≡◌, ◌∙◌, ◌∷◌, ◌++◌, [], sym, subst}
use Rattle.net_script.specs.Scripts.{ScriptOf}
use Rattle.replay.proofs.ReplayLemmas.{made_here, made_lawful, made_more}
use Rattle.report.proofs.ListenerLemmas.{heard, script_on}
use Rattle.report.proofs.listener.hear_next.Goals as goal

pub step-requires : goal.step-requires
step-requires g c =
    let net = c.args.net.now in
    record {
      here = made_here net.script net.events net c.requires.made;
      lawful = made_lawful net.script net.events net c.requires.made;
    }

-- it was made after those before it
pub hear-requires : goal.hear-requires
hear-requires g c =
    let net = c.args.net.now in
    let event = c.args.event.now in
    let made = c.in_ok-step.ensures in
    let script = script_on net c.step.new.net event made.stepped in (
      net.events,
      heard net c.step.new.net event c.as_slice.result.now c.requires.made made.stepped made.lawful (c.as_slice.ensures ∙ made.told),
      subst (λ (s : ScriptOf). g.L.Listener.stands c.args.listener.now s net.events) (sym script) c.requires.stands,
    )

pub returns : goal.returns
returns g c =
    let net = c.args.net.now in
    let event = c.args.event.now in
    let made = c.in_ok-step.ensures in
    let script = script_on net c.step.new.net event made.stepped in
    let here = heard net c.step.new.net event c.as_slice.result.now c.requires.made made.stepped made.lawful (c.as_slice.ensures ∙ made.told) in
    let stands = subst (λ (s : ScriptOf). g.L.Listener.stands c.args.listener.now s net.events) (sym script) c.requires.stands in
    record {
      made = made_more net.script net.events event net c.step.new.net c.requires.made made.stepped made.lawful;
      stands = subst (λ (s : ScriptOf). g.L.Listener.stands c.hear.new.self s (net.events ++ event ∷ [])) script (c.in_ok-hear.ensures.stands net.events here stands);
      text = subst (λ (s : ScriptOf). c.hear.new.text.items ≡ c.args.text.now.items ++ g.L.Listener.told s (record { before = net.events; event = event })) script (c.in_ok-hear.ensures.text net.events here stands);
      refused = tt;
    }
