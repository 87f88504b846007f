use Rattle.std.proofs.Common.{[], refl, subst, sym, IfOk, IfErr}
use Rattle.journal.specs.Reading.{HasRead}
use Rattle.fabric_book.specs.Nets.{NetOf}
use Rattle.replay.specs.Replays.{HasMade, IfIllegal, IsNoReplay}
use Rattle.report.specs.Moments.{IsToldOf}
use Rattle.report.proofs.listener.tell_read.Goals as goal

-- the network is that of the script
pub hear_read-requires : goal.hear_read-requires
hear_read-requires g c = record {
  made = subst (λ (n : NetOf). HasMade n.script [] n) (sym c.in-Ok.ensures) (record { net_is = refl; lawful = tt });
  first = c.requires.first;
  stands = subst (λ (n : NetOf). g.L.Listener.stands c.args.listener.now n.script []) (sym c.in-Ok.ensures) c.requires.stands;
}

pub returns-in-Ok-clause-told : goal.returns-in-Ok-clause-told
returns-in-Ok-clause-told g c = λ bytes.
    subst (λ (n : NetOf). HasRead n.script bytes [] c.args.reader.now
    → IfOk c.hear_read.result (λ end. IsToldOf n.script bytes g.L.Listener.first (g.L.Listener.told n.script) (g.L.Listener.last n.script) (g.L.Listener.stands c.hear_read.new.listener n.script) end c.hear_read.new.text.items))
    c.in-Ok.ensures (c.hear_read.ensures.told bytes)

pub returns-in-Ok-clause-refused : goal.returns-in-Ok-clause-refused
returns-in-Ok-clause-refused g c = λ bytes.
    subst (λ (n : NetOf). HasRead n.script bytes [] c.args.reader.now → IfErr c.hear_read.result (λ why. IfIllegal why (IsNoReplay n.script bytes)))
    c.in-Ok.ensures (c.hear_read.ensures.refused bytes)
