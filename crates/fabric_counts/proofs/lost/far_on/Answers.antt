use Rattle.std.proofs.Common.{◌∙◌, sym, arith}
use Rattle.fabric_tables.specs.Cells.{tables_of}
use Rattle.fabric_counts.specs.Counts.{hop_for}
use Rattle.fabric_counts.proofs.LostLemmas.{walk_more}
use Rattle.fabric_counts.proofs.lost.far_on.Goals as goal

pub hops-preserved : goal.hops-preserved
hops-preserved c = record {
  low = c.in-On.ensures.link.within;
  comes = walk_more (hop_for c.args.fabric.now (tables_of c.args.cells.now) c.args.lid) c.args.start c.hops._hops c.hops.at c.in-On.field-0 c.in-On.next c.hops.invariant.comes (sym c.hop_at.ensures.hop ∙ c.in-On.is);
}

pub returns-in-Arrive-clause-far : goal.returns-in-Arrive-clause-far
returns-in-Arrive-clause-far c = record { hops = c.hops._hops; comes = c.hops.invariant.comes; goes_on = λ port next on. absurd (let is = sym c.hop_at.ensures.hop ∙ c.in-Arrive.is in cc) }

pub returns-in-Stop-clause-far : goal.returns-in-Stop-clause-far
returns-in-Stop-clause-far c = record { hops = c.hops._hops; comes = c.hops.invariant.comes; goes_on = λ port next on. absurd (let is = sym c.hop_at.ensures.hop ∙ c.in-Stop.is in cc) }

pub returns-clause-far : goal.returns-clause-far
returns-clause-far c = record { hops = c.hops._hops; comes = c.hops.invariant.comes; goes_on = λ port next on. (omega arith) }
