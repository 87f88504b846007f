-- The place is that of the first number that is not lower.
use Rattle.std.proofs.Common.{nat_lt, rules}
use Rattle.std.proofs.lemmas.Fn.{always_returns_same}
use Rattle.host_traffic.specs.declared.traffic.Filed.{Filed}
use Rattle.host_traffic.proofs.SearchLemmas.{lower_first, place_is}
use Rattle.host_traffic.proofs.traffic.place_for.Goals as goal

pub returns : goal.returns
returns c =
    let order = c.args.order.now.items in
    let number = c.args.packet in
    let parts = c.partition_point.ensures.partitioned (λ (f : Filed). nat_lt f.packet number) (always_returns_same _ _ _ (λ a r g called. (search rules, search rules))) in
    place_is order number c.partition_point.result (parts (lower_first order number c.requires))
