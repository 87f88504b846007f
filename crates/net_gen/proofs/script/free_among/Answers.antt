use Rattle.std.proofs.Common.{◌≡◌, sym, arith, true, false}
use Rattle.net_gen.specs.Generated.{has_free}
use Rattle.net_gen.proofs.LinkLemmas.{find_at_last, find_next}
use Rattle.net_gen.proofs.script.free_among.Goals as goal

pub returns-then-is_some-clause-found : goal.returns-then-is_some-clause-found
returns-then-is_some-clause-found c =
    let links = c.args.script.now.wires.links in
    let found = c.lowest_free.ensures in
    let test = c.is_some.ensures in
    let is = c.if-is_some.true in
    let passes : has_free links c.places.place ≡ true = cc in
    sym (find_at_last (has_free links) c.args.first c.places.place c.args.end (omega (arith, c.places.auto.place)) (omega (arith, c.places-test.true)) c.places.invariant passes)

pub places-preserved : goal.places-preserved
places-preserved c =
    let links = c.args.script.now.wires.links in
    let found = c.lowest_free.ensures in
    let test = c.is_some.ensures in
    let is = c.if-is_some.false in
    let fails : has_free links c.places.place ≡ false = cc in
    find_next (has_free links) c.args.first c.places.place (omega (arith, c.places.auto.place)) c.places.invariant fails
