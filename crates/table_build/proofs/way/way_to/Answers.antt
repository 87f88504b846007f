use Rattle.std.proofs.Common.{◌≢◌, sym, refl, true, false}
use Rattle.table_build.proofs.ExitLemmas.{best_exits}
use Rattle.table_build.proofs.way.way_to.Goals as goal

pub returns : goal.returns
returns c =
    let g = c.args.graph.now in
    let x = c.args.x in
    let y = c.in_ok-place.place in
    let is = c.requires.routing.places.each c.args.number y (sym c.in_ok-place.ensures) in
    let apart : x ≢ y = (λ same. c.if-place-x.false (sym same)) in (
      refl,
      record {
        low = is.0;
        other = c.if-place-x.false;
        number = sym is.1;
        up = best_exits g c.args.any true x y c.up.result c.exits-up.result c.count-count.ensures.graph apart (rw c.up.ensures (c.requires.bests.up.each y is.0)) c.exits-up.ensures;
        down = best_exits g c.args.any false x y c.down.result c.exits-down.result c.count-count.ensures.graph apart (rw c.down.ensures (c.requires.bests.down.each y is.0)) c.exits-down.ensures;
      },
    )
