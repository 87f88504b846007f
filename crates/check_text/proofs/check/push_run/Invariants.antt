use Rattle.std.proofs.Common.{◌≡◌, ◌++◌, take, map}
use Rattle.check_text.specs.Check.{renumbered}
use Rattle.check_text.proofs.check.push_run.Given as goal

-- the rows so far
abbrev pub invariant-run : goal.invariant-run
invariant-run l = l.rows.items ≡ l.fn.rows.items ++ map (renumbered l.tables) (take l.row-index l.run)
