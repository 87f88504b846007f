-- A book in which nothing has come yet.

use Rattle.std.proofs.Common.{◌∙◌, ap, length, vec_capacity}
use Rattle.net_graph.specs.Wires.{Wires}
use Rattle.net_script.specs.declared.setting.Limits.{Limits}
use Rattle.fabric_book.proofs.BeginLemmas.{begun_as}
use Rattle.fabric_book.proofs.book.Book.begin.Goals as goal

pub invariant_of-result : goal.invariant_of-result
invariant_of-result c =
    begun_as c.args.script.now c.in_ok-begin.field-0 c.in_ok-entries.entries.items c.in_ok-taken.taken.items c.from.result c.limits.result.events (vec_capacity c.in_ok-entries.entries)
    c.limits.ensures.kept c.in_ok-begin.ensures c.in_ok-entries.ensures.items (c.from.ensures ∙ c.count.ensures.count ∙ ap (λ (w : Wires). length w.switches) c.wiring.ensures.wires) (c.in_ok-taken.ensures.items_if_clones_equal (λ y is. is))
    (ap (λ (limits : Limits). limits.events) c.limits.ensures.limits) c.in_ok-entries.ensures.capacity
