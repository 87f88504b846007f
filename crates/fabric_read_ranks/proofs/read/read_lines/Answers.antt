use Rattle.std.proofs.Common.{arith, sym, subst}
use Rattle.common_lines.specs.Stops.{IsRefusalBy}
use Rattle.common_lines.specs.declared.stop.Refusal.{Refusal}
use Rattle.common_lines.proofs.ChainLaws.{all_read, read_more}
use Rattle.fabric_words.specs.declared.ranks_cause.RanksCause.{RanksCause}
use Rattle.fabric_words.specs.declared.ranks_cause.RanksCause.TheVariants.{NoHead}
use Rattle.fabric_read_ranks.specs.Ranks.{AddsTo, HasBegun, IsFaultyAfter, IsRanksFault, none_told}
use Rattle.fabric_read_ranks.specs.Readings.{told_of}
use Rattle.fabric_read_ranks.proofs.StopLemmas.{stopped, unended}
use Rattle.fabric_read_ranks.proofs.read.read_lines.Goals as goal

pub lines-preserved : goal.lines-preserved
lines-preserved c = record {
  read = read_more (AddsTo c.args.fabric.now) (none_told c.args.fabric.now) c.args.bytes.now c.lines.rest.now c.in-Some.first.now c.in-Some.after.now (told_of c.lines.reading) (told_of c.add_line.new.self) c.lines.line c.lines.invariant.read c.in-Some.ensures.some c.in_default-add_line.ensures.step;
  few = omega (arith, c.lines.invariant.few, c.in-Some.ensures.less);
  places = c.in_default-add_line.ensures.places;
}

pub returns-in-Err-clause-fault : goal.returns-in-Err-clause-fault
returns-in-Err-clause-fault c =
    let fabric = c.args.fabric.now in
    let fault = stopped (none_told fabric) (AddsTo fabric) (IsFaultyAfter fabric) HasBegun NoHead c.args.bytes.now c.lines.rest.now (told_of c.lines.reading) c.lines.line c.lines.invariant.read (Unit {0}) (AddsTo fabric (told_of c.lines.reading) c.in-Some.first.now (told_of c.add_line.new.self)) c.in-Some.first.now c.in-Some.after.now c.in-Err.stop c.in-Some.ensures.some c.in-Err.ensures.step in
    subst (λ (r : Refusal RanksCause). IsRefusalBy (IsRanksFault fabric c.args.bytes.now) r) (sym c.at.ensures) fault

pub returns-then-not-has_begun-clause-fault : goal.returns-then-not-has_begun-clause-fault
returns-then-not-has_begun-clause-fault c =
    let fabric = c.args.fabric.now in
    let not = c.if-not-has_begun.true in
    unended (none_told fabric) (AddsTo fabric) (IsFaultyAfter fabric) HasBegun NoHead c.args.bytes.now c.lines.rest.now (told_of c.lines.reading) c.lines.line c.lines.invariant.read c.in_default.ensures.none (λ begun. let is = c.has_begun.ensures in absurd (cc))

pub returns-clause-good : goal.returns-clause-good
returns-clause-good c = (all_read (AddsTo c.args.fabric.now) (none_told c.args.fabric.now) c.args.bytes.now c.lines.rest.now (told_of c.lines.reading) c.lines.line c.lines.invariant.read c.in_default.ensures.none).0
