use Rattle.std.proofs.Common.{◌≡◌, ◌∙◌, ◌<◌, ◌*◌, refl, sym, ap, subst, ℕ, length, arith, inl, inr}
use Rattle.std.specs.Int.{bit_at}
use Rattle.std.proofs.lemmas.Bool.{cases_eq}
use Rattle.std.proofs.lemmas.Nat.Bits.{bit_at-zero}
use Rattle.fabric_model.specs.Fabric.{switch_count}
use Rattle.fabric_lane_waves.specs.LaneSteps.{StepsOf, StopsOf, departure_place, place_on}
use Rattle.fabric_lane_waves.proofs.SpreadLemmas.{taken_as, taken_more, taken_none}
use Rattle.fabric_lane_waves.proofs.StepLemmas.{graph_kept, places_low}
use Rattle.fabric_lane_waves.proofs.wave.visit.Goals as goal

no_bit : (word bit : ℕ) → word ≡ 0 → bit_at word bit ≡ 1 → ⊥
no_bit word bit none is = absurd (let z = bit_at-zero bit in let e : bit_at word bit ≡ bit_at 0 bit = ap (λ (n : ℕ). bit_at n bit) none in omega arith)

abbrev But : ℕ → ℕ → ℕ → ℕ → ℕ → Type 0
But place fresh left at other = (at ≡ place) × (bit_at fresh other ≡ 1) × (bit_at left other ≡ 1 → ⊥)

pub departure_at-from-requires : goal.departure_at-from-requires
departure_at-from-requires c =
    let routing = c.args.routes.now.routing in
    subst (λ (n : ℕ). c.args.place < 16 * n * c.count.result) (sym c.switches.ensures.count) (subst (λ (k : ℕ). c.args.place < 16 * switch_count routing.fabric.now * k) (sym c.count.ensures.count) (places_low (switch_count routing.fabric.now) routing.lanes.now.count c.args.place (length c.args.seen.now) c.requires.places c.requires.place))

pub bits-init : goal.bits-init
bits-init c = record {
  taken = taken_none (StepsOf c.args.routes.now) (StopsOf c.args.routes.now) (But c.args.place c.args.fresh c.args.fresh) (record { seen = c.args.seen.now; graph = c.args.graph.now; stopped = c.args.stopped }) (λ at bit kind. kind.2 kind.1);
  had = λ bit has. has;
  graph = c.requires.graph;
  count = refl;
}

pub bits-preserved : goal.bits-preserved
bits-preserved c =
    let routing = c.args.routes.now.routing in
    let at : c.args.place ≡ place_on routing c.departure_at-from.result =
    c.departure_at-from.ensures.place ∙ ap (λ (n : ℕ). departure_place n c.count.result c.departure_at-from.result.level c.departure_at-from.result.switch c.departure_at-from.result.lane) c.switches.ensures.count ∙ ap (λ (n : ℕ). departure_place (switch_count routing.fabric.now) n c.departure_at-from.result.level c.departure_at-from.result.switch c.departure_at-from.result.lane) c.count.ensures.count in
    record {
      taken = taken_more (StepsOf c.args.routes.now) (StopsOf c.args.routes.now) (But c.args.place c.args.fresh c.bits.left) (λ place other. (place ≡ place_on routing c.departure_at-from.result) × (other ≡ c.lowest-bit.result)) (But c.args.place c.args.fresh c.without-left.result)
          (record { seen = c.args.seen.now; graph = c.args.graph.now; stopped = c.args.stopped }) (record { seen = c.bits.seen; graph = c.bits.graph; stopped = c.bits.stops }) (record { seen = c.take-stops.new.seen; graph = c.take-stops.new.graph; stopped = c.take-stops.result })
          (λ s o r. elim (cases_eq o c.lowest-bit.result) [
            | inl same ↦ inr (r.0 ∙ at, same)
            | inr other ↦ inl (r.0, r.1, (λ has. r.2 ((c.without-left.ensures.bits o).1 (has, other))))
          ])
          (λ s o p. (p.0, p.1, (λ has. p.2 ((c.without-left.ensures.bits o).0 has).0)))
          (λ s o q. (q.0 ∙ sym at, subst (λ (k : ℕ). bit_at c.args.fresh k ≡ 1) (sym q.1) (c.bits.invariant.had c.lowest-bit.result c.lowest-bit.ensures.has), (λ has. ((c.without-left.ensures.bits o).0 has).1 q.1)))
          c.bits.invariant.taken c.take-stops.ensures;
      had = λ o has. c.bits.invariant.had o ((c.without-left.ensures.bits o).0 has).0;
      graph = graph_kept routing.fabric.now routing.lanes.now.count c.bits.graph c.take-stops.new.graph c.take-stops.ensures.wide c.take-stops.ensures.bases c.bits.invariant.graph;
      count = c.take-stops.ensures.count ∙ c.bits.invariant.count;
    }

pub returns : goal.returns
returns c =
    let none : c.bits.left ≡ 0 = omega arith in
    taken_as (StepsOf c.args.routes.now) (StopsOf c.args.routes.now) (But c.args.place c.args.fresh c.bits.left) (λ place other. (place ≡ c.args.place) × (bit_at c.args.fresh other ≡ 1))
    (record { seen = c.args.seen.now; graph = c.args.graph.now; stopped = c.args.stopped }) (record { seen = c.bits.seen; graph = c.bits.graph; stopped = c.bits.stops })
    (λ s o r. (r.0, r.1, no_bit c.bits.left o none))
    (λ s o p. (p.0, p.1))
    c.bits.invariant.taken
