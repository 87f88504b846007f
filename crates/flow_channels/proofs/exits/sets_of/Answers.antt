use Rattle.std.proofs.Common.{◌<◌, refl, subst, sym}
use Rattle.table_build.specs.declared.way.Way.{Way}
use Rattle.flow_channels.proofs.ExitTableLemmas.{more_ways, no_ways}
use Rattle.flow_channels.proofs.exits.sets_of.Goals as goal

pub ways-init : goal.ways-init
ways-init c = no_ways c.args.up _ refl

pub ways-preserved : goal.ways-preserved
ways-preserved c =
    let way = c.way-item.result in
    let low = subst (λ (w : Way). w.number < 127) (sym c.way-item.is) (c.requires c.ways.way-index way c.ways-test.true) in
    more_ways c.args.ways.now c.args.up c.ways.way-index way c.ways.sets c.from-number.result _ c.set_of.result c.with.result c.ways-test.true c.way-item.is c.from-number.ensures low refl c.with.ensures c.set_of.ensures c.ways.invariant
