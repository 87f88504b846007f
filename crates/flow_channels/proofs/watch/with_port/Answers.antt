use Rattle.std.proofs.Common.{sym, subst, ◌*◌, ◌%◌, ◌^◌, Bool}
use Rattle.std.specs.Prelude.{bit_and}
use Rattle.std.specs.Int.{bit_not, w16}
use Rattle.std.specs.Int.RustNames.{bit_or}
use Rattle.flow_channels.specs.Watch.{HasPortIf}
use Rattle.flow_channels.proofs.WatchLemmas.{with_bit, without_bit}
use Rattle.flow_channels.proofs.watch.with_port.Goals as goal

pub returns-then-is_in : goal.returns-then-is_in
returns-then-is_in c = subst (λ (b : Bool). HasPortIf c.args.set c.args.port b (bit_or c.args.set (1 * 2 ^ c.args.port % 2 ^ 16))) (sym c.if-is_in.true) (with_bit c.args.set c.args.port c.requires)

pub returns : goal.returns
returns c = subst (λ (b : Bool). HasPortIf c.args.set c.args.port b (bit_and c.args.set (bit_not w16 (1 * 2 ^ c.args.port % 2 ^ 16)))) (sym c.if-is_in.false) (without_bit c.args.set c.args.port c.ranges.set.fits c.requires)
