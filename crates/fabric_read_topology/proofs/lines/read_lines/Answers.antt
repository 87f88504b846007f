use Rattle.std.proofs.Common.{arith, sym, subst}
use Rattle.common_lines.specs.Stops.{IsRefusalBy}
use Rattle.common_lines.specs.declared.stop.Refusal.{Refusal}
use Rattle.common_lines.proofs.ChainLaws.{read_more}
use Rattle.fabric_topology.specs.declared.fact.Part.TheVariants as part
use Rattle.fabric_read_topology.specs.declared.cause.FabricCause.{FabricCause}
use Rattle.fabric_read_topology.specs.Lines.{AddsLine, IsFaultFrom}
use Rattle.fabric_read_topology.proofs.LineLemmas.{stopped, unended}
use Rattle.fabric_read_topology.proofs.lines.read_lines.Goals as goal

pub lines-preserved : goal.lines-preserved
lines-preserved g c = record {
  read = read_more (AddsLine g.T.Takes.adds) (part.Start, c.args.told.now) c.args.bytes.now c.lines.rest.now c.in-Some.first.now c.in-Some.after.now (c.lines.part, c.lines.told) (c.read_line.new.part, c.read_line.new.told) c.lines.line c.lines.invariant.read c.in-Some.ensures.some c.in_default-read_line.ensures;
  few = omega (arith, c.lines.invariant.few, c.in-Some.ensures.less);
}

pub returns-in-Err-clause-fault : goal.returns-in-Err-clause-fault
returns-in-Err-clause-fault g c =
    let adds = g.T.Takes.adds in
    let faulty = g.T.Takes.is_faulty in
    let fault = stopped adds faulty c.args.told.now c.args.bytes.now c.lines.rest.now (c.lines.part, c.lines.told) c.lines.line c.lines.invariant.read (Unit {0}) (AddsLine adds (c.lines.part, c.lines.told) c.in-Some.first.now (c.read_line.new.part, c.read_line.new.told)) c.in-Some.first.now c.in-Some.after.now c.in-Err.stop c.in-Some.ensures.some c.in-Err.ensures in
    subst (λ (r : Refusal FabricCause). IsRefusalBy (IsFaultFrom adds faulty c.args.told.now c.args.bytes.now) r) (sym c.at.ensures) fault

pub returns-then-not-may_end-clause-fault : goal.returns-then-not-may_end-clause-fault
returns-then-not-may_end-clause-fault g c =
    let ended = c.may_end.ensures in
    let not = c.if-not-may_end.true in
    unended g.T.Takes.adds g.T.Takes.is_faulty c.args.told.now c.args.bytes.now c.lines.rest.now (c.lines.part, c.lines.told) c.lines.line c.lines.invariant.read c.in_default.ensures.none (first_of (cc, grind arith))
