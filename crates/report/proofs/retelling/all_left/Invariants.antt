use Rattle.std.proofs.Common.{◌≡◌, map, take}
use Rattle.report.specs.Retellings.{told_in}
use Rattle.report.proofs.retelling.all_left.Given as goal

-- the accounts so far
abbrev pub invariant-accounts : goal.invariant-accounts
invariant-accounts l = l.left.items ≡ map told_in (take l.account-index l.accounts)
