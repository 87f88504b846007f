use Rattle.std.proofs.Common.{◌≡◌, refl, ℕ, ◌<◌}
use Rattle.dep_check.specs.Tables.{has_at, has_port}
use Rattle.dep_check.proofs.StepLemmas.{end_empty, end_loose, loose_end}
use Rattle.dep_check.proofs.steps.Steps.is_end.Goals as goal

pub returns-then-exits-eq0 : goal.returns-then-exits-eq0
returns-then-exits-eq0 c =
    let s = c.args.self.now in
    let set = c.exits_at-exits.result in
    let told : (p : ℕ) → p < 13 → has_port set p ≡ has_at s.exits.items c.args.spot p = rw c.deref.ensures.value at c.exits_at-exits.ensures.exits in
    (λ t. end_empty s.wires.items s.exits.items c.args.to c.args.spot set c.if-spot-to.false c.if-exits-eq0.true told, λ end. refl)

pub returns : goal.returns
returns c =
    let s = c.args.self.now in
    let set = c.exits_at-exits.result in
    let ports = c.exits_at-exits.ensures.ports in
    let told : (p : ℕ) → p < 13 → has_port set p ≡ has_at s.exits.items c.args.spot p = rw c.deref.ensures.value at c.exits_at-exits.ensures.exits in (
      λ t. end_loose s.wires.items s.exits.items c.args.to c.args.spot set c.if-spot-to.false ports told (c.has_loose.ensures.0 t),
      λ end. c.has_loose.ensures.1 (loose_end s.wires.items s.exits.items c.args.to c.args.spot set c.if-exits-eq0.false ports told end),
    )
