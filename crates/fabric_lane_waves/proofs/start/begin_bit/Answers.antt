use Rattle.std.proofs.Common.{◌≡◌, ◌<◌, ◌+◌, sym, subst, ℕ, List, arith, inl, inr, ◌⊎◌}
use Rattle.std.proofs.lemmas.Bool.{cases_lt, iff_false}
use Rattle.fabric_model.specs.declared.node.Spot.{Spot}
use Rattle.fabric_routes.specs.Waves.{HasBit}
use Rattle.fabric_lane_waves.specs.LaneBlocks.{IsFirstHop, IsOfGate}
use Rattle.fabric_lane_waves.proofs.BeginLemmas.{begun_as, begun_more, begun_none, begun_same}
use Rattle.fabric_lane_waves.proofs.start.begin_bit.Goals as goal
use Rattle.fabric_lane_waves.proofs.start.begin_bit.Goals.{then-has_bit, else-has_bit}

-- those with the first levels
abbrev First : Spot → List ℕ → ℕ → ℕ → Spot → ℕ → ℕ → Type 0
First spot words bit end at level other = (at ≡ spot) × (level < end) × HasBit words level bit × (other ≡ bit)

split : (spot : Spot) (words : List ℕ) (bit end : ℕ) (at : Spot) (level other : ℕ) → First spot words bit (end + 1) at level other → First spot words bit end at level other ⊎ (HasBit words end bit × IsFirstHop spot end bit at level other)
split spot words bit end at level other (here, less, has, same) = elim (cases_lt level end) [
  | inl before ↦ inl (here, before, has, same)
  | inr last ↦ (
      let with : level ≡ end = omega arith in
      inr (subst (λ (l : ℕ). HasBit words l bit) with has, (here, with, same)))
]

last : (spot : Spot) (words : List ℕ) (bit end : ℕ) (at : Spot) (level other : ℕ) → HasBit words end bit → IsFirstHop spot end bit at level other → First spot words bit (end + 1) at level other
last spot words bit end at level other has (here, with, same) = (here, omega arith, subst (λ (l : ℕ). HasBit words l bit) (sym with) has, same)

pub levels-init : goal.levels-init
levels-init c = begun_none c.args.routes.now (First c.args.spot c.args.words.now c.args.bit 0) c.args.seen.now c.args.stopped
    (λ at level other kind. absurd (let low = kind.1 in omega arith))

pub levels-preserved : goal.levels-preserved
levels-preserved c = elim c.if-has_bit.branch [
  | then-has_bit w ↦ (
      let has = c.has_bit.ensures.0 w.if-has_bit.true in
      begun_same c.args.routes.now (First c.args.spot c.args.words.now c.args.bit (c.levels.level + 1)) c.args.seen.now w.begin_one-stops.new.seen c.if-has_bit.seen c.args.stopped w.begin_one-stops.result c.if-has_bit.stops w.seen-is w.stops-is
      (begun_more c.args.routes.now
      (First c.args.spot c.args.words.now c.args.bit c.levels.level) (IsFirstHop c.args.spot c.levels.level c.args.bit) (First c.args.spot c.args.words.now c.args.bit (c.levels.level + 1))
      c.args.seen.now c.levels.seen w.begin_one-stops.new.seen c.args.stopped c.levels.stops w.begin_one-stops.result
      (λ at level other kind. elim (split c.args.spot c.args.words.now c.args.bit c.levels.level at level other kind) [
        | inl before ↦ inl before
        | inr (there, now) ↦ inr now
      ])
      (λ at level other (here, less, is, same). (here, omega arith, is, same))
      (λ at level other now. last c.args.spot c.args.words.now c.args.bit c.levels.level at level other has now)
      c.levels.invariant w.begin_one-stops.ensures))
  | else-has_bit w ↦ begun_same c.args.routes.now (First c.args.spot c.args.words.now c.args.bit (c.levels.level + 1)) c.args.seen.now c.levels.seen c.if-has_bit.seen c.args.stopped c.levels.stops c.if-has_bit.stops w.seen-is w.stops-is
      (begun_as c.args.routes.now
      (First c.args.spot c.args.words.now c.args.bit c.levels.level) (First c.args.spot c.args.words.now c.args.bit (c.levels.level + 1))
      c.args.seen.now c.levels.seen c.args.stopped c.levels.stops
      (λ at level other (here, less, is, same). (here, omega arith, is, same))
      (λ at level other kind. elim (split c.args.spot c.args.words.now c.args.bit c.levels.level at level other kind) [
        | inl before ↦ before
        | inr (there, now) ↦ absurd (iff_false c.has_bit.ensures w.if-has_bit.false there)
      ])
      c.levels.invariant)
]

pub returns : goal.returns
returns c = begun_as c.args.routes.now
    (First c.args.spot c.args.words.now c.args.bit c.levels.level) (λ at level other. IsOfGate c.args.spot c.args.words.now at level other × (other ≡ c.args.bit))
    c.args.seen.now c.levels.seen c.args.stopped c.levels.stops
    (λ at level other kind. ((kind.0, omega arith, omega arith, subst (λ (b : ℕ). HasBit c.args.words.now level b) (sym kind.3) kind.2), kind.3))
    (λ at level other kind. (kind.0.0, omega arith, subst (λ (b : ℕ). HasBit c.args.words.now level b) kind.1 kind.0.3, kind.1))
    c.levels.invariant
