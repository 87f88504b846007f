use Rattle.std.proofs.Common.{◌≡◌, take, map}
use Rattle.std.specs.Prelude.{filter}
use Rattle.check_text.specs.Check.{is_row_of, renumbered}
use Rattle.check_text.specs.Runs.{rows_in}
use Rattle.check_text.proofs.check.rows_of.Given as goal

-- the runs so far
abbrev pub invariant-runs : goal.invariant-runs
invariant-runs l = l.rows.items ≡ map (renumbered l.tables) (filter (is_row_of l.members.items) (rows_in (take l.run-index (map (λ run. run.now) l.runs))))
