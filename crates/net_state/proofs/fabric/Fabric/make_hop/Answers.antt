use Rattle.net_state.proofs.FitsLemmas.{move_fits}
use Rattle.net_state.proofs.LawfulLemmas.{lawful_is}
use Rattle.std.specs.Prelude.{refl}
use Rattle.an_base.specs.declared.event.Event.TheVariants.{Move}
use Rattle.net_state.proofs.LawfulLemmas.{lawful_in}
use Rattle.net_state.proofs.fabric.Fabric.make_hop.Goals as goal

pub hop-hop-requires : goal.hop-hop-requires
hop-hop-requires c = record { under_way = (lawful_is _ (Move c.args.packet) (lawful_in _ c.self.view_is c.requires)).ready }

pub invariant_of-self : goal.invariant_of-self
invariant_of-self c = rw (c.hop-hop.ensures.packets, c.event.ensures) (record { fits = move_fits _ c.args.packet c.self.invariant.fits (lawful_in _ c.self.view_is c.requires); most = c.self.invariant.most })

pub returns-clause-moved : goal.returns-clause-moved
returns-clause-moved c = rw (c.hop-hop.ensures.packets, c.event.ensures, ← c.self.view_is) refl

pub returns-clause-hop : goal.returns-clause-hop
returns-clause-hop c = rw (← c.self.view_is) c.hop-hop.ensures.hop
