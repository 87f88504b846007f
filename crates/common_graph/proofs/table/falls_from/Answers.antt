use Rattle.std.proofs.Common.{◌-◌, refl, arith}
use Rattle.common_graph.specs.Search.{FallsTo, HasNoneWithin, HoldsFrom, IsFirstWithin}
use Rattle.common_graph.proofs.OptionLemmas.{told_as}
use Rattle.common_graph.proofs.WithinLemmas.{falls_to, holds_from, holds_low}
use Rattle.common_graph.proofs.table.falls_from.Goals as goal

pub returns-then-own-fall : goal.returns-then-own-fall
returns-then-own-fall c = holds_low c.args.graph.now c.args.table.now c.args.node c.value_of-own.result c.value_of-own.ensures c.args.fall c.if-own-fall.true

pub returns : goal.returns
returns c =
    let graph = c.args.graph.now in
    let table = c.args.table.now in
    let node = c.args.node in
    let fall = c.args.fall in
    let own = c.value_of-own.result in
    let fits = c.value_of-own.type_inv in
    told_as (HasNoneWithin graph table node 0 (own - fall - 1)) (HoldsFrom graph table fall node) (IsFirstWithin graph table node 0 (own - fall - 1)) (FallsTo graph table fall node) c.first_within.result
    (holds_from graph table node own c.value_of-own.ensures fall (own - fall - 1) c.if-own-fall.false refl)
    (falls_to graph table node own c.value_of-own.ensures fall (own - fall - 1) (omega arith) c.if-own-fall.false refl)
    c.first_within.ensures.first
