use Rattle.std.proofs.Common.{◌≡◌, ◌<◌, ◌≤◌, [], sym, subst, arith, List, get_or, length}
use Rattle.std.specs.Prelude.{All}
use Rattle.std.proofs.lemmas.List.{get_or_read}
use Rattle.host_names.specs.Caches.{ArrivalOf}
use Rattle.report.proofs.naming.arrive.Goals as goal

-- all that came to the host came until now
pub arrived-requires : goal.arrived-requires
arrived-requires c =
    let caches = c.args.caches.now.items in
    let place = c.from-place.result in
    let kept = c.index_mut.result.now in
    let low : place < length caches = omega arith in
    let read : kept ≡ get_or caches place [] = get_or_read caches place kept low c.index_mut.ensures.value [] in
    subst (λ (came : List ArrivalOf). All (λ (a : ArrivalOf). a.tick ≤ c.args.now) came) (sym read) (c.requires place)
