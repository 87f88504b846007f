use Rattle.std.proofs.Common.{◌∙◌, sym, ap, ℕ, arith}
use Rattle.fabric_lane_tables.specs.Lanes.{told_row}
use Rattle.fabric_lane_waves.proofs.GateLemmas.{rows_alike, rows_more, same_row}
use Rattle.fabric_lane_waves.proofs.gate.are_alike.Goals as goal

pub ports-preserved : goal.ports-preserved
ports-preserved c = rows_more c.args.lanes.now c.args.one.switch c.args.one.port c.args.other.port c.ports.port c.ports.invariant
    (sym (c.told-here.ensures ∙ ap (λ (e : ℕ). told_row c.args.lanes.now c.args.one.switch e c.ports.port) c.from.ensures)
    ∙ same_row (c.told-here.result) (c.told-there.result) (sym c.ne.ensures ∙ c.if-ne.false)
    ∙ c.told-there.ensures ∙ ap (λ (e : ℕ). told_row c.args.lanes.now c.args.one.switch e c.ports.port) c.from-in-ports.ensures)

pub returns : goal.returns
returns c = λ is. rows_alike c.args.lanes.now c.args.one c.args.other c.requires.same (λ port low. c.ports.invariant port (omega arith))
