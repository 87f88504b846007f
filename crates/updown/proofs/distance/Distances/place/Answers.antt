use Rattle.std.proofs.Common.{◌≡◌, ◌∙◌, ◌<◌, sym, ap, ℕ, arith, length, ◌==◌, ◌&&◌, true}
use Rattle.std.proofs.lemmas.Bool.{and_parts, eqb-true}
use Rattle.std.proofs.lemmas.List.{get_or_default}
use Rattle.an_base.specs.Values.{LifeId}
use Rattle.updown.proofs.PlaceLemmas.{first_life, no_life}
use Rattle.updown.proofs.distance.Distances.place.Goals as goal

-- lives with the same parts are one
both_same : (a b : LifeId) → ((a.uid == b.uid) && (a.boot == b.boot)) ≡ true → a ≡ b
both_same a b test =
    let parts = and_parts (a.uid == b.uid) (a.boot == b.boot) test in
    let made : ℕ → ℕ → LifeId = λ u n. record { uid = u; boot = n } in
    let uid : a.uid ≡ b.uid = eqb-true a.uid b.uid parts.0 in
    let boot : a.boot ≡ b.boot = eqb-true a.boot b.boot parts.1 in
    ap (λ (u : ℕ). made u a.boot) uid ∙ ap (λ (n : ℕ). made b.uid n) boot

pub returns-then-eq : goal.returns-then-eq
returns-then-eq c =
    let lives = c.self.inside.lives in
    let low : c.lives.i < length lives.items = omega (arith, c.lives-test.true, c.len-i-end.ensures) in
    let at = get_or_default lives.items c.lives.i c.args.life c.index.result.now low ∙ sym c.index.ensures ∙ both_same c.index.result.now c.args.life (sym c.eq.ensures ∙ c.if-eq.true) in
    rw (← c.self.view_is) (first_life lives.items c.args.life c.lives.i c.args.life low c.lives.invariant at)

pub returns : goal.returns
returns c =
    let lives = c.self.inside.lives in
    rw (← c.self.view_is) (no_life lives.items c.args.life c.args.life (λ k low. c.lives.invariant k (omega (arith, c.lives-test.false, c.len-i-end.ensures))))
