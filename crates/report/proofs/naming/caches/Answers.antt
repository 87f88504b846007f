use Rattle.std.proofs.Common.{◌≡◌, ◌∙◌, ap, arith, ℕ, []}
use Rattle.std.specs.Prelude.{replicate}
use Rattle.report.proofs.naming.caches.Goals as goal

pub returns : goal.returns
returns c =
    let end = c.hosts.auto.counter-end in
    let past = c.hosts-test.false in
    let all : c.hosts.counter ≡ c.args.count = omega arith in
    c.hosts.invariant ∙ ap (λ (n : ℕ). replicate n []) all
