use Rattle.std.proofs.Common.{◌≡◌, ◌∙◌, ◌+◌, sym, subst, refl, ℕ, Some, Bool, true, false, List, drop, drop-cons, add-one, get_or, ◌∷◌, ◌&&◌, ◌⊎◌, inl, inr, arith}
use Rattle.std.proofs.lemmas.Option.{same_Some}
use Rattle.topo_graph.specs.Topology.{place_of}
use Rattle.updown.specs.Routes.{LegalRoute}
use Rattle.updown.proofs.PlaceLemmas.{life_here}
use Rattle.updown.proofs.LegalLemmas.{LeadOn, lead_blocked, lead_next}
use Rattle.updown.proofs.route.is_legal.Goals as goal

-- one of two tests fails
both_fail : (a b : Bool) → ((a ≡ true) × (b ≡ false)) ⊎ (a ≡ false) → (a && b) ≡ false
both_fail a b (inl (up, down)) = rw (up, down) refl
both_fail a b (inr down) = rw down refl

pub unwrap-x-requires : goal.unwrap-x-requires
unwrap-x-requires c = let here = life_here c.args.graph.now c.args.from c.place.ensures.graph c.requires in rw (c.place.ensures.place, here.1) refl

pub returns-then-down : goal.returns-then-down
returns-then-down c = λ x at.
    let g = c.args.graph.now in
    let ports = c.args.ports.now in
    let i = c.ports.port-index in
    let split : drop i ports ≡ get_or ports i 0 ∷ drop (i + 1) ports = rw add-one (drop-cons ports i 0 (omega arith)) in
    let placed : place_of g c.args.from ≡ Some c.unwrap-x.result = sym c.place.ensures.place ∙ c.unwrap-x.ensures in
    let x_is : x ≡ c.unwrap-x.result = same_Some x c.unwrap-x.result (sym at ∙ placed) in (
      λ f. absurd (let g' = f in cc),
      λ (y, r).
          let lead = c.ports.invariant.0.0 (y, subst (λ (n : ℕ). LegalRoute g n ports y) x_is r) in
          let there = subst (λ (ps : List ℕ). LeadOn g c.ports.down c.ports.x ps) split lead in
          let down = subst (λ (d : Bool). LeadOn g d c.ports.x (get_or ports i 0 ∷ drop (i + 1) ports)) c.if-down.true there in
          absurd (lead_blocked g c.ports.x (get_or ports i 0) c.in-Some.y c.in-Some.field-0-1 (drop (i + 1) ports) (sym c.in-Some.ensures.far) (sym c.is_up_end-up.ensures ∙ c.if-up.true) down),
    )

pub ports-preserved : goal.ports-preserved
ports-preserved c =
    let g = c.args.graph.now in
    let ports = c.args.ports.now in
    let i = c.ports.port-index in
    let split : drop i ports ≡ get_or ports i 0 ∷ drop (i + 1) ports = rw add-one (drop-cons ports i 0 (omega arith)) in
    let within = c.in-Some.ensures.graph.within c.ports.x (get_or ports i 0) (c.in-Some.y, c.in-Some.field-0-1) (sym c.in-Some.ensures.far) in
    let next = lead_next g c.ports.down c.is_up_end-up.result c.ports.x (get_or ports i 0) c.in-Some.y c.in-Some.field-0-1 (drop (i + 1) ports) (sym c.in-Some.ensures.far) (sym c.is_up_end-up.ensures) (both_fail c.is_up_end-up.result c.ports.down c.else-up.either) in (
      (
        λ r. next.0 (subst (λ (ps : List ℕ). LeadOn g c.ports.down c.ports.x ps) split (c.ports.invariant.0.0 r)),
        λ r. c.ports.invariant.0.1 (subst (λ (ps : List ℕ). LeadOn g c.ports.down c.ports.x ps) (sym split) (next.1 r)),
      ),
      within.far_place,
    )
