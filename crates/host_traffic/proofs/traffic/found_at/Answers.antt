-- What the search finds is filed by the number, and where it finds none there is none.
use Rattle.std.proofs.Common.{rules}
use Rattle.std.proofs.lemmas.Fn.{always_returns_same}
use Rattle.std.specs.Ordering.{nat_cmp}
use Rattle.host_traffic.specs.declared.traffic.Filed.{Filed}
use Rattle.host_traffic.proofs.SearchLemmas.{found_some, found_none}
use Rattle.host_traffic.proofs.traffic.found_at.Goals as goal

pub returns-in-Ok-clause-found : goal.returns-in-Ok-clause-found
returns-in-Ok-clause-found c =
    let found = c.in-Ok.ensures.position (λ (f : Filed). nat_cmp f.packet c.args.packet) (always_returns_same _ _ _ (λ a r g called. (search rules, search rules))) in
    found_some c.args.order.now.items c.args.packet c.in-Ok.place found

pub returns-in-Err-clause-found : goal.returns-in-Err-clause-found
returns-in-Err-clause-found c =
    let found = c.in-Err.ensures.position (λ (f : Filed). nat_cmp f.packet c.args.packet) (always_returns_same _ _ _ (λ a r g called. (search rules, search rules))) in
    found_none c.args.order.now.items c.args.packet c.in-Err.field-0 c.requires found
