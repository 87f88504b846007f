use Rattle.std.proofs.Common.{◌∙◌, sym, subst, arith, inl, inr, None}
use Rattle.std.proofs.lemmas.Bool.{cases_eq}
use Rattle.dep_check.specs.declared.channel.Channel.{Channel}
use Rattle.common_graph.specs.Cycles.{IsCycle}
use Rattle.dep_check.specs.Tables.{place_of}
use Rattle.dep_check.specs.Search.{Step, LeastAfter}
use Rattle.dep_check.proofs.SpotLemmas.{one_spot, place_low}
use Rattle.dep_check.proofs.CycleLemmas.{cycle_at, none_behind, path_from_spot}
use Rattle.dep_check.proofs.TierLemmas.{cycle_peer}
use Rattle.dep_check.proofs.cycle.least_cycle.Goals as goal
use Rattle.dep_check.proofs.cycle.least_cycle.Goals.{then-has_peer+in_ok-levels+in_default, else-has_peer}

pub cycle_from-requires-clause-nearest : goal.cycle_from-requires-clause-nearest
cycle_from-requires-clause-nearest c = rw c.deref-in-Some.ensures.value c.in_ok-levels.ensures

pub returns-in-Some : goal.returns-in-Some
returns-in-Some c =
    let at = c.spot_at-start.ensures.place in
    cycle_at c.args.steps.now c.spot_at-start.result c.in_ok-cycle_from.field-0 c.requires c.spot_at-start.ensures.spot (λ d ds spot low cycle. c.spots.invariant d ds spot (omega arith) cycle) c.in_ok-cycle_from.ensures

pub spots-preserved : goal.spots-preserved
spots-preserved c = λ d ds spot low cycle.
    let steps = c.args.steps.now in
    let start = c.spot_at-start.result in
    let at = c.spot_at-start.ensures.place in
    elim (cases_eq (place_of d) c.spots.place) [
      | inr before ↦ c.spots.invariant d ds spot (omega arith) cycle
      | inl last ↦ (
          let here = one_spot d start spot c.spot_at-start.ensures.spot (last ∙ sym at) in
          let round : IsCycle (Step steps) start ds = subst (λ (x : Channel). IsCycle (Step steps) x ds) here cycle in
          elim c.if-has_peer.branch [
            | then-has_peer+in_ok-levels+in_default w ↦ (
                let none : LeastAfter steps w.in_ok-levels.levels.items start 13 None = rw (w.deref-then-has_peer.ensures.value, w.in_default.is) at w.least_after.ensures in
                none_behind steps w.in_ok-levels.levels.items start w.in_ok-levels.ensures none ds round)
            | else-has_peer w ↦ absurd (
                let may = c.has_peer.ensures.1 (rw c.deref.ensures.value (cycle_peer steps c.in_ok-tiers.tiers.items c.in_ok-tiers.ensures start ds round)) in
                let never = w.if-has_peer.false in
                cc)
          ])
    ]

pub returns : goal.returns
returns c = λ d ds cycle.
    let spot = path_from_spot c.args.steps.now d ds d c.requires cycle in
    let low = place_low d spot in
    c.spots.invariant d ds spot (omega arith) cycle
