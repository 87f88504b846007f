use Rattle.std.proofs.Common.{[], refl, subst, sym, OnOk, IfOk, IfErr}
use Rattle.net_world.specs.Histories.{IsLegal}
use Rattle.net_settling.specs.Claims.{HoldsAndSettles}
use Rattle.fabric_book.specs.Nets.{NetOf}
use Rattle.replay.specs.Replays.{HasMade, IsRefusal}
use Rattle.replay.proofs.world.replay.Goals as goal

-- the network is that of the script
pub make_all-requires : goal.make_all-requires
make_all-requires c = subst (λ (n : NetOf). HasMade n.script [] n) (sym c.in_ok-net.ensures) (record { net_is = refl; lawful = tt })

pub returns-clause-legal : goal.returns-clause-legal
returns-clause-legal c = subst (λ (n : NetOf). IfOk c.make_all.result (IsLegal n.script c.args.journal.now)) c.in_ok-net.ensures c.make_all.ensures.legal

pub returns-clause-claims : goal.returns-clause-claims
returns-clause-claims c = subst (λ (n : NetOf). OnOk c.make_all.result (HoldsAndSettles n.script c.args.journal.now)) c.in_ok-net.ensures c.make_all.ensures.claims

pub returns-clause-refused : goal.returns-clause-refused
returns-clause-refused c = subst (λ (n : NetOf). IfErr c.make_all.result (IsRefusal n.script c.args.journal.now)) c.in_ok-net.ensures c.make_all.ensures.refused
