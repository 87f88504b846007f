-- Graphs that gain steps.
use Rattle.std.proofs.Common.{◌∙◌, refl, ℕ, inl, inr, ◌⊎◌}
use Rattle.common_graph.specs.Graph.{GraphOf}
use Rattle.fabric_mixtures.specs.Steps.{IsGrown}

-- none
pub grown_none : (More : ℕ → ℕ → Type 0) (graph : GraphOf) → ((one other : ℕ) → More one other → ⊥) → IsGrown More graph graph
grown_none More graph none = record {
  leads = λ one other. (
    λ has. inl has,
    λ either. elim either [
      | inl had ↦ had
      | inr more ↦ absurd (none one other more)
    ],
  );
  wide = refl;
  bases = refl;
}

-- these and those
pub grown_more : (One Other All : ℕ → ℕ → Type 0) (a b c : GraphOf) → ((one other : ℕ) → All one other → One one other ⊎ Other one other) → ((one other : ℕ) → One one other → All one other) → ((one other : ℕ) → Other one other → All one other) → IsGrown One a b → IsGrown Other b c → IsGrown All a c
grown_more One Other All a b c split left right first second = record {
  leads = λ one other. (
    λ has. elim ((second.leads one other).0 has) [
      | inl before ↦ elim ((first.leads one other).0 before) [
        | inl had ↦ inl had
        | inr more ↦ inr (left one other more)
      ]
      | inr more ↦ inr (right one other more)
    ],
    λ either. elim either [
      | inl had ↦ (second.leads one other).1 (inl ((first.leads one other).1 (inl had)))
      | inr more ↦ elim (split one other more) [
        | inl early ↦ (second.leads one other).1 (inl ((first.leads one other).1 (inr early)))
        | inr late ↦ (second.leads one other).1 (inr late)
      ]
    ],
  );
  wide = second.wide ∙ first.wide;
  bases = second.bases ∙ first.bases;
}

-- the same in other words
pub grown_as : (One All : ℕ → ℕ → Type 0) (a b : GraphOf) → ((one other : ℕ) → All one other → One one other) → ((one other : ℕ) → One one other → All one other) → IsGrown One a b → IsGrown All a b
grown_as One All a b back there first = record {
  leads = λ one other. (
    λ has. elim ((first.leads one other).0 has) [
      | inl had ↦ inl had
      | inr more ↦ inr (there one other more)
    ],
    λ either. elim either [
      | inl had ↦ (first.leads one other).1 (inl had)
      | inr more ↦ (first.leads one other).1 (inr (back one other more))
    ],
  );
  wide = first.wide;
  bases = first.bases;
}
