use Rattle.std.proofs.Common.{◌∙◌, ap, ℕ, false, length}
use Rattle.std.specs.Prelude.{replicate}
use Rattle.std.proofs.lemmas.List.{length-replicate}
use Rattle.dep_check.proofs.WalkLemmas.{none_at}
use Rattle.dep_check.proofs.walk.none_seen.Goals as goal

pub returns : goal.returns
returns c =
    let is = c.in_ok-vec.ensures.items_if_clones_equal (λ y is. is) ∙ ap (λ (n : ℕ). replicate n false) c.from.ensures in
    record { none = λ s. none_at c.in_ok-vec.field-0.items 1651 s is; count = ap length is ∙ length-replicate 1651 false }
