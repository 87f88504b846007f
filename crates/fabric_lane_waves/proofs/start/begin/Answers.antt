use Rattle.std.proofs.Common.{◌≡◌, ℕ, List, arith, inl, inr}
use Rattle.std.specs.Int.{bit_at}
use Rattle.std.proofs.lemmas.Bool.{cases_eq}
use Rattle.fabric_model.specs.declared.node.Spot.{Spot}
use Rattle.fabric_lane_waves.specs.LaneBlocks.{IsOfGate}
use Rattle.fabric_lane_waves.proofs.BeginLemmas.{begun_as, begun_more, begun_none}
use Rattle.fabric_lane_waves.proofs.LevelLemmas.{no_bit}
use Rattle.fabric_lane_waves.proofs.start.begin.Goals as goal

-- those of a gate to LIDs that are not left
abbrev But : Spot → List ℕ → ℕ → Spot → ℕ → ℕ → Type 0
But spot words left at level bit = IsOfGate spot words at level bit × (bit_at left bit ≡ 1 → ⊥)

pub bits-init : goal.bits-init
bits-init c = begun_none c.args.routes.now (But c.args.spot c.args.words.now c.union-left.result) c.args.seen.now c.args.stopped
    (λ at level bit kind. kind.1 ((c.union-left.ensures bit).1 (level, kind.0.1, kind.0.3)))

pub bits-preserved : goal.bits-preserved
bits-preserved c = begun_more c.args.routes.now
    (But c.args.spot c.args.words.now c.bits.left)
    (λ at level other. IsOfGate c.args.spot c.args.words.now at level other × (other ≡ c.lowest-bit.result))
    (But c.args.spot c.args.words.now c.without-left.result)
    c.args.seen.now c.bits.seen c.begin_bit-stops.new.seen c.args.stopped c.bits.stops c.begin_bit-stops.result
    (λ at level bit kind. elim (cases_eq bit c.lowest-bit.result) [
      | inl same ↦ inr (kind.0, same)
      | inr other ↦ inl (kind.0, (λ has. kind.1 ((c.without-left.ensures.bits bit).1 (has, other))))
    ])
    (λ at level bit kind. (kind.0, (λ has. kind.1 ((c.without-left.ensures.bits bit).0 has).0)))
    (λ at level bit kind. (kind.0, (λ has. ((c.without-left.ensures.bits bit).0 has).1 kind.1)))
    c.bits.invariant c.begin_bit-stops.ensures

pub returns : goal.returns
returns c =
    let none : c.bits.left ≡ 0 = omega arith in
    begun_as c.args.routes.now
    (But c.args.spot c.args.words.now c.bits.left) (IsOfGate c.args.spot c.args.words.now)
    c.args.seen.now c.bits.seen c.args.stopped c.bits.stops
    (λ at level bit kind. kind.0) (λ at level bit kind. (kind, no_bit c.bits.left bit none)) c.bits.invariant
