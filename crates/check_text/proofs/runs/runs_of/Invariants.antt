use Rattle.std.proofs.Common.{◌≡◌, ◌++◌, All, map, length}
use Rattle.check_text.specs.Runs.{IsRun, rows_in}
use Rattle.check_text.proofs.runs.runs_of.Given as goal

abbrev pub decreases-runs : goal.decreases-runs
decreases-runs l = length l.rest

-- the runs so far, and the rows behind them
abbrev pub invariant-runs : goal.invariant-runs
invariant-runs l = (rows_in (map (λ run. run.now) l.runs.items) ++ l.rest ≡ l.rows) × All IsRun (map (λ run. run.now) l.runs.items)
