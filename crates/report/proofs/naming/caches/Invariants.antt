use Rattle.std.proofs.Common.{◌≡◌, []}
use Rattle.std.specs.Prelude.{replicate}
use Rattle.report.proofs.naming.caches.Given as goal

-- so many caches so far
abbrev pub invariant-hosts : goal.invariant-hosts
invariant-hosts l = l.all.items ≡ replicate l.counter []
