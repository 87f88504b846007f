use Rattle.std.proofs.Common.{[], refl, subst, sym, IfErr, IfOk, OnOk}
use Rattle.fabric_book.specs.Nets.{NetOf}
use Rattle.replay.specs.Replays.{HasMade, IsRefusal}
use Rattle.report.specs.Moments.{IsTold}
use Rattle.report.proofs.listener.tell_journal.Goals as goal

-- the network is that of the script
pub hear_all-requires : goal.hear_all-requires
hear_all-requires g c = record {
  made = subst (λ (n : NetOf). HasMade n.script [] n) (sym c.in-Ok.ensures) (record { net_is = refl; lawful = tt });
  first = c.requires.first;
  stands = subst (λ (n : NetOf). g.L.Listener.stands c.args.listener.now n.script []) (sym c.in-Ok.ensures) c.requires.stands;
}

pub returns-in-Ok-clause-told : goal.returns-in-Ok-clause-told
returns-in-Ok-clause-told g c =
    subst (λ (n : NetOf). IfOk c.hear_all.result (λ end. IsTold n.script c.args.journal.now g.L.Listener.first (g.L.Listener.told n.script) (g.L.Listener.last n.script) end c.hear_all.new.text.items))
    c.in-Ok.ensures c.hear_all.ensures.told

pub returns-in-Ok-clause-stands : goal.returns-in-Ok-clause-stands
returns-in-Ok-clause-stands g c =
    subst (λ (n : NetOf). OnOk c.hear_all.result (g.L.Listener.stands c.hear_all.new.listener n.script c.args.journal.now)) c.in-Ok.ensures c.hear_all.ensures.stands

pub returns-in-Ok-clause-refused : goal.returns-in-Ok-clause-refused
returns-in-Ok-clause-refused g c = subst (λ (n : NetOf). IfErr c.hear_all.result (IsRefusal n.script c.args.journal.now)) c.in-Ok.ensures c.hear_all.ensures.refused
