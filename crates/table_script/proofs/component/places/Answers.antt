use Rattle.std.proofs.Common.{sym, ap, ◌∙◌, ℕ, List, [], ◌∷◌, ◌++◌}
use Rattle.common_values.proofs.ListLemmas.{places_more}
use Rattle.table_script.proofs.component.places.Goals as goal

pub places-preserved : goal.places-preserved
places-preserved c = c.in_ok-push.ensures.items ∙ ap (λ (ns : List ℕ). ns ++ c.places.s ∷ []) c.places.invariant ∙ sym (places_more c.places.s)
