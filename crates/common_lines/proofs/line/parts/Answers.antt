use Rattle.std.proofs.Common.{◌∙◌, rules, ap, map, eqb, not, length}
use Rattle.std.proofs.lemmas.Iterator.Consumers.{YieldsList-end, YieldsList-from_filter, YieldsList-at}
use Rattle.std.proofs.lemmas.Iterator.Splits.{YieldsList-from_slice_split}
use Rattle.common_lines.specs.Lines.{is_blank}
use Rattle.common_lines.proofs.line.parts.Goals as goal

pub returns : goal.returns
returns c =
    ap (map (λ w. w.now)) c.parts.invariant
    ∙ (YieldsList-end (YieldsList-at c.into_iter-part-iterator.ensures.into_iter_gives
    (YieldsList-from_filter _ (λ w. not (eqb (length w) 0))
    (YieldsList-at c.filter-part-items.ensures.source (YieldsList-from_slice_split _ is_blank c.args.line.now c.split.ensures.rest c.split.ensures.done c.split.ensures.closure (λ x b q called. search rules)))
    c.filter-part-items.ensures.closure (λ x b q called. search rules)))
    c.parts.yielded _ c.parts.yielded_by _ _ c.in-None.is c.next.ensures.steps).0
