use Rattle.std.proofs.Common.{◌≡◌, ◌∙◌, sym, ap, arith, refl, subst, ℕ, ◌+◌, ◌-◌, ◌≤◌}
use Rattle.switch_core.specs.Sound.{counted}
use Rattle.switch_core.specs.Kept.{Counts, KeptOf, bodies, carried, epoch_of}
use Rattle.switch_core.proofs.SoundLemmas.{most_counted}
use Rattle.switch_core.proofs.StateLemmas.{counted_in}
use Rattle.switch_core.proofs.switch.Switch.handle.Goals as goal

pub returns-in-Ok-clause-carried : goal.returns-in-Ok-clause-carried
returns-in-Ok-clause-carried c =
    let v = c.self.inside in
    let bytes = c.args.frame.now in
    let old = v.control.epoch in
    let new = c.handle.new.self.epoch in
    let now = c.counted-self-inside.result in
    let after = v.works + 1 - (v.works + 1 - now) in
    let count : now ≡ counted old new v.carried (bodies c.in-Ok.arrival) = c.counted-self-inside.ensures ∙ ap (λ n. counted old new v.carried n) c.bodies.ensures.bodies in
    let most = most_counted old new v.carried (bodies c.in-Ok.arrival) in
    let few : now ≤ v.works + 1 = omega (arith, count, most, c.bodies.ensures.bodies, c.bodies.ensures.few, c.self.invariant.2) in
    subst (λ (k : KeptOf). Counts bytes (epoch_of k) new (carried k) after) c.self.view_is
    (counted_in bytes v.works v.carried now after old new c.self.invariant.2 few refl
    (subst (λ (n : ℕ). Counts bytes old new v.carried n) (sym count) (c.in-Ok.ensures.counts v.carried)))
