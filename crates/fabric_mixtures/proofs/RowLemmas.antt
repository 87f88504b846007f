-- The rows of the graph of the channels.
use Rattle.std.proofs.Common.{◌≡◌, ◌∙◌, sym, ap, ℕ, ◌+◌, ◌-◌, ◌*◌, List, arith, length, get_or, inl, inr, ◌⊎◌, ◌↔◌}
use Rattle.common_graph.specs.Graph.{GraphOf, LeadsTo}
use Rattle.fabric_model.specs.Fabric.{FabricOf}
use Rattle.fabric_routes.specs.Waves.{IsGraphOf}

pub graph_kept : (fabric : FabricOf) (old new : GraphOf) → new.wide ≡ old.wide → new.bases ≡ old.bases → IsGraphOf fabric old → IsGraphOf fabric new
graph_kept fabric old new wide bases is = record {
  count = ap (λ (xs : List ℕ). length xs) bases ∙ is.count;
  wide = (let most = is.wide in let e = wide in omega arith);
  bases = λ switch port next entry leads. ap (λ (xs : List ℕ). get_or xs (switch * fabric.most + (port - 1)) 0) bases ∙ is.bases switch port next entry leads;
}

pub insert_numbers : (old new : GraphOf) (at most port next next_port wide_most wide_port wide_next : ℕ) → wide_most ≡ most → wide_port ≡ port → wide_next ≡ next_port → get_or old.bases (at * most + (port - 1)) 0 ≡ next * most → ((one other : ℕ) → (LeadsTo new one other ↔ (LeadsTo old one other ⊎ ((one ≡ at * wide_most + (wide_port - 1)) × (other ≡ get_or old.bases (at * wide_most + (wide_port - 1)) 0 + (wide_next - 1)))))) → (one other : ℕ) → (LeadsTo new one other ↔ (LeadsTo old one other ⊎ ((one ≡ at * most + (port - 1)) × (other ≡ next * most + (next_port - 1)))))
insert_numbers old new at most port next next_port wide_most wide_port wide_next m p n base leads one other =
    let channel : at * wide_most + (wide_port - 1) ≡ at * most + (port - 1) = cc in
    let first : get_or old.bases (at * wide_most + (wide_port - 1)) 0 ≡ next * most = ap (λ (k : ℕ). get_or old.bases k 0) channel ∙ base in
    let second : get_or old.bases (at * wide_most + (wide_port - 1)) 0 + (wide_next - 1) ≡ next * most + (next_port - 1) = cc in (
      λ has. elim ((leads one other).0 has) [
        | inl had ↦ inl had
        | inr (a, b) ↦ inr (a ∙ channel, b ∙ second)
      ],
      λ either. elim either [
        | inl had ↦ (leads one other).1 (inl had)
        | inr (a, b) ↦ (leads one other).1 (inr (a ∙ sym channel, b ∙ sym second))
      ],
    )
