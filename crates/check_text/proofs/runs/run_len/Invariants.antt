use Rattle.std.proofs.Common.{◌≡◌, All, take}
use Rattle.check_text.proofs.runs.run_len.Given as goal

-- the rows so far are of the switch
abbrev pub invariant-same : goal.invariant-same
invariant-same l = (l.len ≡ l.row-index) × All (λ row. row.at ≡ l.at) (take l.row-index l.rows)
