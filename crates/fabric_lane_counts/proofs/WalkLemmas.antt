-- Walks of routes with a level: where they come to, hop by hop, and how they end.
use Rattle.std.proofs.Common.{◌≡◌, ◌∙◌, sym, ap, refl, subst, ℕ, zero, suc, ◌<◌, ◌⊎◌, arith, inl, inr}
use Rattle.std.proofs.lemmas.Bool.{cases_lt}
use Rattle.fabric_lane_routes.specs.declared.hop.LaneHop.{LaneHop}
use Rattle.fabric_lane_routes.specs.declared.hop.LaneHop.TheVariants.{On, Discard}
use Rattle.fabric_lane_routes.specs.declared.hop.LaneOutcome.TheVariants.{Discards}
use Rattle.fabric_lane_routes.specs.LaneRoutes.{LaneEndsAs, LaneWalksBy}
use Rattle.fabric_model.specs.declared.node.Spot.{Spot}

module _ (hop_at : Spot → LaneHop) where
  -- two walks by as many hops are one
  pub one_walk : (hops : ℕ) (start one other : Spot) → LaneWalksBy hop_at hops start one → LaneWalksBy hop_at hops start other → one ≡ other
  one_walk zero start one other here there = sym here ∙ there
  one_walk (suc hops) start one other (before, port, lane, walk, on) (also, by, at_lane, walk_also, goes) =
      let same = one_walk hops start before also walk walk_also in
      let e : On port lane one ≡ On by at_lane other = sym on ∙ ap hop_at same ∙ goes in
      cc

  -- a hop, and then the rest of a walk
  pub walk_first : (hops : ℕ) (start at : Spot) → LaneWalksBy hop_at (suc hops) start at → (next : Spot) × ((port lane : ℕ) × (hop_at start ≡ On port lane next)) × LaneWalksBy hop_at hops next at
  walk_first zero start at (before, port, lane, here, on) = (at, (port, lane, ap hop_at here ∙ on), refl)
  walk_first (suc hops) start at (before, port, lane, walk, on) =
      let (next, first, rest) = walk_first hops start before walk in
      (next, first, (before, port, lane, rest, on))

  pub walk_then : (hops : ℕ) (start next at : Spot) (port lane : ℕ) → hop_at start ≡ On port lane next → LaneWalksBy hop_at hops next at → LaneWalksBy hop_at (suc hops) start at
  walk_then zero start next at port lane first here = (start, port, lane, refl, first ∙ ap (On port lane) here)
  walk_then (suc hops) start next at port lane first (before, by, at_lane, walk, on) = (before, by, at_lane, walk_then hops start next before port lane first walk, on)

  -- a walk that goes on from a spot does so by its hop
  pub no_end : (hops most : ℕ) (start at there : Spot) → hops < most → LaneWalksBy hop_at hops start at → LaneWalksBy hop_at most start there → (port lane : ℕ) × (next : Spot) × (hop_at at ≡ On port lane next)
  no_end hops zero start at there less one other = absurd (omega arith)
  no_end zero (suc most) start at there less one other =
      let (next, (port, lane, first), rest) = walk_first most start there other in
      (port, lane, next, ap hop_at (sym one) ∙ first)
  no_end (suc hops) (suc most) start at there less one other =
      let (next, (port, lane, first), rest) = walk_first hops start at one in
      let (also, (by, at_lane, first_also), rest_also) = walk_first most start there other in
      let e : On port lane next ≡ On by at_lane also = sym first ∙ first_also in
      let same : also ≡ next = cc in
      no_end hops most next at there (omega arith) rest (subst (λ (s : Spot). LaneWalksBy hop_at most s there) same rest_also)

  abbrev pub IsEnd : Spot → Type 0
  IsEnd at = (port lane : ℕ) (next : Spot) → hop_at at ≡ On port lane next → ⊥

  -- so a route ends at one spot, after so many hops
  pub one_end : (m n : ℕ) (start one other : Spot) → LaneWalksBy hop_at m start one → LaneWalksBy hop_at n start other → IsEnd one → IsEnd other → (m ≡ n) × (one ≡ other)
  one_end m n start one other walk also last last_also = elim (cases_lt m n) [
    | inl less ↦ absurd (let on = no_end m n start one other less walk also in last on.0 on.1 on.2 on.3)
    | inr no_less ↦ elim (cases_lt n m) [
      | inl more ↦ absurd (let on = no_end n m start other one more also walk in last_also on.0 on.1 on.2 on.3)
      | inr no_more ↦ (
          let e : n ≡ m = omega arith in
          (omega arith, one_walk m start one other walk (subst (λ (k : ℕ). LaneWalksBy hop_at k start other) e also)))
    ]
  ]

  -- what is discarded further on
  pub discards_then : (start next : Spot) (port lane : ℕ) → hop_at start ≡ On port lane next → LaneEndsAs hop_at next Discards → LaneEndsAs hop_at start Discards
  discards_then start next port lane first (hops, at, walk, gone) = (suc hops, at, walk_then hops start next at port lane first walk, gone)

  pub discards_first : (start : Spot) → LaneEndsAs hop_at start Discards → (hop_at start ≡ Discard) ⊎ ((next : Spot) × ((port lane : ℕ) × (hop_at start ≡ On port lane next)) × LaneEndsAs hop_at next Discards)
  discards_first start (zero, at, here, gone) = inl (ap hop_at here ∙ gone)
  discards_first start (suc hops, at, walk, gone) =
      let (next, first, rest) = walk_first hops start at walk in
      inr (next, first, (hops, at, rest, gone))
