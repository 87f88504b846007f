use Rattle.std.proofs.Common.{take}
use Rattle.std.specs.Prelude.{flat_map}
use Rattle.outside.specs.Told.{Gains, IsNoLess}
use Rattle.common_call.proofs.end.write_parts.Given as goal

-- the parts so far were written
abbrev pub invariant-parts : goal.invariant-parts
invariant-parts g l = record {
  gains : Gains (g.E.Sink.seen l.fn.err) (g.E.Sink.seen l.err) (flat_map (λ part. part.now) (take l.part-index l.parts));
  kept : IsNoLess (g.E.Sink.seen l.fn.err) (g.E.Sink.seen l.err);
}
