use Rattle.std.proofs.Common.{◌≡◌, ◌∙◌, sym, subst, true, arith, inl, inr}
use Rattle.std.proofs.lemmas.Bool.{cases_eq}
use Rattle.dep_check.specs.declared.channel.Channel.{Channel}
use Rattle.dep_check.specs.Tables.{has_at, place_of}
use Rattle.dep_check.specs.Worst.{IsBadExit, up_at}
use Rattle.dep_check.proofs.PortLemmas.{bit_of}
use Rattle.dep_check.proofs.SpotLemmas.{one_spot, place_low}
use Rattle.dep_check.proofs.illegal.are_all_legal.Goals as goal

pub returns-then-not-are_legal_at : goal.returns-then-not-are_legal_at
returns-then-not-are_legal_at c = λ t. absurd (cc)

pub spots-preserved : goal.spots-preserved
spots-preserved c = λ s p spot low p_low has bad.
    let sides = c.args.sides.now in
    elim (cases_eq (place_of s) c.spots.place) [
      | inl last ↦ (
          let here = one_spot s c.spot_at-spot.result spot c.spot_at-spot.ensures.spot (last ∙ sym c.spot_at-spot.ensures.place) in
          let has_here = subst (λ (x : Channel). has_at c.args.exits.now x p ≡ true) here has in
          c.are_legal_at.ensures c.if-not-are_legal_at.false p (bit_of c.exits_at.result p (c.exits_at.ensures.exits p p_low ∙ has_here)) (subst (λ (x : Channel). IsBadExit sides.wires.now sides.up.now x.at (up_at sides.up.now x) p) here bad))
      | inr before ↦ c.spots.invariant s p spot (omega arith) p_low has bad
    ]

pub returns : goal.returns
returns c = λ t s p spot p_low has bad. let low = place_low s spot in c.spots.invariant s p spot (omega arith) p_low has bad
