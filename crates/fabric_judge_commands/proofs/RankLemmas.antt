-- The ranks of the channels, by their places.
use Rattle.std.proofs.Common.{◌≡◌, ◌∙◌, sym, ap, refl, ℕ, ◌+◌, ◌-◌, ◌*◌, ◌/◌, ◌%◌, ◌^◌, ◌<◌, ◌&&◌, Bool, true, cond, ltb, List, [], ◌∷◌, ◌++◌, Option, Some, None, map, get_or, arith, inl, inr}
use Rattle.std.specs.Prelude.{slice_get}
use Rattle.std.specs.List.{flat_map, range_with_len}
use Rattle.std.specs.Option.{option_to_list}
use Rattle.std.proofs.lemmas.Bool.{cases_lt}
use Rattle.std.proofs.lemmas.Bool.Decides.{nat_tests}
use Rattle.std.proofs.lemmas.List.{flat_map_more}
use Rattle.std.proofs.lemmas.Nat.{mul-le}
use Rattle.common_values.proofs.ListLemmas.{places_more}
use Rattle.fabric_model.specs.declared.node.Side.{Side}
use Rattle.fabric_model.specs.declared.node.Side.TheVariants.{Bare}
use Rattle.fabric_model.specs.declared.node.Spot.{Spot}
use Rattle.fabric_model.specs.Fabric.{FabricOf, IsFabric, side_of, switch_count}
use Rattle.fabric_routes.specs.Found.{channel_of, number}
use Rattle.fabric_verdict.specs.Verdict.{rank_in, rank_over, spot_at}
use Rattle.fabric_judge_commands.specs.Certified.{rank_at, rank_of}

-- what comes of one number more
pub flat_range_more : {X : Type 0} (f : ℕ → List X) (count : ℕ) → flat_map f (range_with_len 0 (count + 1)) ≡ flat_map f (range_with_len 0 count) ++ f count
flat_range_more f count = ap (flat_map f) (places_more count) ∙ sym (flat_map_more f [] (range_with_len 0 count) count)

module _ (fabric : FabricOf) (place : ℕ) where
  pub low_place : IsFabric fabric → place < switch_count fabric * fabric.most → place < 2 ^ 22
  low_place is low =
      let few = is.few in
      let ports = is.low in
      let all = mul-le (switch_count fabric) fabric.most (2 ^ 14) 254 few (omega arith) in
      omega arith

  pub some_ports : place < switch_count fabric * fabric.most → 0 < fabric.most
  some_ports low = elim (cases_lt 0 fabric.most) [
    | inl some ↦ some
    | inr none ↦ absurd (
        let zero_is : fabric.most ≡ 0 = omega arith in
        let all : switch_count fabric * fabric.most ≡ switch_count fabric * 0 = ap (λ (m : ℕ). switch_count fabric * m) zero_is in
        omega arith)
  ]

  pub switch_there : place < switch_count fabric * fabric.most → place / fabric.most < switch_count fabric
  switch_there low = elim (cases_lt (place / fabric.most) (switch_count fabric)) [
    | inl within ↦ within
    | inr past ↦ absurd (let some = some_ports low in let all = mul-le (switch_count fabric) fabric.most (place / fabric.most) fabric.most past (omega arith) in omega arith)
  ]

  chosen : (a b : Bool) (side : Side) → a ≡ true → b ≡ true → cond (a && b) side Bare ≡ side
  chosen a b side one two = rw (one, two) refl

  -- the number of the channel at a place is the place
  pub number_there : place < switch_count fabric * fabric.most → number fabric (channel_of (spot_at fabric.most place)) ≡ place
  number_there low = let some = some_ports low in omega arith

  pub side_there : place < switch_count fabric * fabric.most → side_of fabric (place / fabric.most) (place % fabric.most + 1) ≡ get_or fabric.sides place Bare
  side_there low =
      let some = some_ports low in
      let rest : place % fabric.most < fabric.most = omega arith in
      let a : ltb 0 (place % fabric.most + 1) ≡ true = grind (arith, nat_tests) in
      let b : ltb (place % fabric.most + 1) (fabric.most + 1) ≡ true = grind (arith, nat_tests) in
      chosen (ltb 0 (place % fabric.most + 1)) (ltb (place % fabric.most + 1) (fabric.most + 1)) (get_or fabric.sides (place / fabric.most * fabric.most + (place % fabric.most + 1 - 1)) Bare) a b
      ∙ ap (λ (p : ℕ). get_or fabric.sides p Bare) (number_there low)

  -- so its rank stands there
  pub rank_there : (ranks : List ℕ) → place < switch_count fabric * fabric.most → rank_in fabric ranks (channel_of (spot_at fabric.most place)) ≡ rank_over (get_or fabric.sides place Bare) (slice_get ranks place)
  rank_there ranks low =
      ap (λ (side : Side). rank_over side (slice_get ranks (number fabric (channel_of (spot_at fabric.most place))))) (side_there low)
      ∙ ap (λ (p : ℕ). rank_over (get_or fabric.sides place Bare) (slice_get ranks p)) (number_there low)

  pub rank_over_side : (ranks : List ℕ) (side : Side) → place < switch_count fabric * fabric.most → get_or fabric.sides place Bare ≡ side → rank_over side (slice_get ranks place) ≡ rank_in fabric ranks (channel_of (spot_at fabric.most place))
  rank_over_side ranks side low is = ap (λ (s : Side). rank_over s (slice_get ranks place)) (sym is) ∙ sym (rank_there ranks low)

module _ (fabric : FabricOf) (ranks : List ℕ) (spot : Spot) where
  pub none_at : rank_in fabric ranks (channel_of spot) ≡ None → rank_at fabric ranks spot ≡ []
  none_at none = ap (λ (rank : Option ℕ). map (rank_of fabric spot) (option_to_list rank)) none

  pub some_at : (rank : ℕ) → rank_in fabric ranks (channel_of spot) ≡ Some rank → rank_at fabric ranks spot ≡ rank_of fabric spot rank ∷ []
  some_at rank some = ap (λ (rank : Option ℕ). map (rank_of fabric spot) (option_to_list rank)) some
