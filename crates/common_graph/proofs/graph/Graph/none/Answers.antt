use Rattle.std.proofs.Common.{◌≡◌, ◌∙◌, ◌*◌, ap, ℕ, List, length, replicate}
use Rattle.std.proofs.lemmas.List.{length-replicate}
use Rattle.common_graph.specs.Graph.{GraphOf}
use Rattle.common_graph.proofs.EmptyLemmas.{none_lead}
use Rattle.common_graph.proofs.graph.Graph.none.Goals as goal

pub invariant_of-result : goal.invariant_of-result
invariant_of-result c =
    let are : c.in_ok-words.words.items ≡ replicate (c.len.result * c.args.wide) 0 = c.in_ok-words.ensures.items_if_clones_equal (λ y e. e) in (
      ap (λ (words : List ℕ). length words) are ∙ length-replicate {A = ℕ} (c.len.result * c.args.wide) 0 ∙ ap (λ (count : ℕ). count * c.args.wide) (c.len.ensures ∙ c.args.bases.ok.0),
      c.requires.wide,
      c.requires.few,
      λ node next leads. absurd (none_lead (record { wide = c.args.wide; bases = c.args.bases.items; words = c.in_ok-words.words.items }) (c.len.result * c.args.wide) are node next leads),
    )

pub returns : goal.returns
returns c =
    let are : c.in_ok-words.words.items ≡ replicate (c.len.result * c.args.wide) 0 = c.in_ok-words.ensures.items_if_clones_equal (λ y e. e) in
    let graph : List ℕ → GraphOf = (λ words. record { wide = c.args.wide; bases = c.args.bases.items; words = words }) in
    ap graph (are ∙ ap (λ (count : ℕ). replicate (count * c.args.wide) 0) (c.len.ensures ∙ c.args.bases.ok.0))
