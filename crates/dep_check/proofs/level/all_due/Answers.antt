use Rattle.std.proofs.Common.{◌≡◌, ◌<◌, ◌⊎◌, ◌+◌, ◌∙◌, sym, ℕ, [], arith, inl, inr}
use Rattle.std.proofs.lemmas.Bool.{cases_eq}
use Rattle.dep_check.specs.declared.channel.Channel.{Channel}
use Rattle.dep_check.specs.Tables.{IsSpot, place_of}
use Rattle.dep_check.proofs.SpotLemmas.{one_spot, place_low}
use Rattle.dep_check.proofs.RoundLemmas.{adds_none, adds_more, adds_as, due_all}
use Rattle.dep_check.proofs.level.all_due.Goals as goal

-- one spot more
split : (spot s : Channel) (k : ℕ) → IsSpot spot → place_of spot ≡ k → IsSpot s × (place_of s < k + 1) → (IsSpot s × (place_of s < k)) ⊎ (s ≡ spot)
split spot s k is at (s_spot, low) = elim (cases_eq (place_of s) k) [
  | inl last ↦ inr (one_spot s spot s_spot is (last ∙ sym at))
  | inr before ↦ inl (s_spot, omega arith)
]

pub spots-init : goal.spots-init
spots-init c = rw c.new-due.ensures.items (adds_none c.args.rule c.args.steps.now c.args.levels.now (λ s. IsSpot s × (place_of s < 0)) [] (λ s looked spot none. let low = looked.1 in absurd (omega arith)))

pub spots-preserved : goal.spots-preserved
spots-preserved c =
    let k = c.spots.place in
    let spot = c.spot_at.result in
    adds_more c.args.rule c.args.steps.now c.args.levels.now (λ s. IsSpot s × (place_of s < k)) (λ s. s ≡ spot) (λ s. IsSpot s × (place_of s < k + 1)) [] c.spots.due.items c.add_due.new.due.items (λ s looked. split spot s k c.spot_at.ensures.spot c.spot_at.ensures.place looked) c.spots.invariant c.in_ok-add_due.ensures

pub returns : goal.returns
returns c =
    let k = c.spots.place in
    due_all c.args.rule c.args.steps.now c.args.levels.now c.spots.due.items
    (adds_as c.args.rule c.args.steps.now c.args.levels.now (λ s. IsSpot s × (place_of s < k)) (λ s. IsSpot s) [] c.spots.due.items (λ s spot. (spot, (let low = place_low s spot in omega arith))) c.spots.invariant)
