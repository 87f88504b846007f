use Rattle.std.proofs.Common.{◌∙◌, refl, sym, subst, arith, inl, inr}
use Rattle.std.proofs.lemmas.Bool.{cases_eq}
use Rattle.dep_check.specs.declared.channel.Channel.{Channel}
use Rattle.dep_check.specs.Tables.{place_of}
use Rattle.dep_check.specs.Tiers.{RisesFrom}
use Rattle.dep_check.proofs.SpotLemmas.{one_spot, place_low}
use Rattle.dep_check.proofs.CycleLemmas.{from_spot}
use Rattle.dep_check.proofs.tier.are_tiers.Goals as goal

pub spots-preserved : goal.spots-preserved
spots-preserved c = λ s spot low e b step. elim (cases_eq (place_of s) c.spots.place) [
  | inl last ↦ (
      let here = one_spot s c.spot_at.result spot c.spot_at.ensures.spot (last ∙ sym c.spot_at.ensures.place) in
      subst (λ (x : Channel). RisesFrom c.args.steps.now c.args.tiers.now x) (sym here) (c.rises_from.ensures.0 c.if-not-rises_from.false) e b step)
  | inr before ↦ c.spots.invariant s spot (omega arith) e b step
]

pub returns : goal.returns
returns c = (
  λ _ s e b step.
      let spot = from_spot c.args.steps.now s b c.requires (e, step) in
      let low = place_low s spot in
      c.spots.invariant s spot (omega arith) e b step,
  λ _. refl,
)
