use Rattle.std.proofs.Common.{◌∙◌, sym, subst, refl, ℕ, arith}
use Rattle.fabric_tables.specs.Cells.{tables_of}
use Rattle.fabric_counts.specs.Counts.{hop_for}
use Rattle.fabric_counts.specs.Lost.{IsLeastOf}
use Rattle.fabric_counts.proofs.LostLemmas.{least_end, least_first, least_step, walk_more}
use Rattle.fabric_counts.proofs.lost.least_on.Goals as goal

pub hops-init : goal.hops-init
hops-init c = record { low = c.requires.start; least_low = c.requires.start; comes = refl; least = least_first (hop_for c.args.fabric.now (tables_of c.args.cells.now) c.args.lid) c.args.start }

pub hops-preserved : goal.hops-preserved
hops-preserved c = record {
  low = c.in-On.ensures.link.within;
  least_low = (let next = c.in-On.ensures.link.within in let least = c.hops.invariant.least_low in let is = c.min-least.ensures in omega arith);
  comes = walk_more (hop_for c.args.fabric.now (tables_of c.args.cells.now) c.args.lid) c.args.start c.hops._hops c.hops.at c.in-On.field-0 c.in-On.next c.hops.invariant.comes (sym c.hop_at.ensures.hop ∙ c.in-On.is);
  least = least_step (hop_for c.args.fabric.now (tables_of c.args.cells.now) c.args.lid) c.args.start c.hops._hops c.hops.at c.in-On.field-0 c.in-On.next c.hops.least c.min-least.result c.min-least.ensures c.hops.invariant.least c.hops.invariant.comes (sym c.hop_at.ensures.hop ∙ c.in-On.is);
}

pub returns-in-Arrive-clause-least : goal.returns-in-Arrive-clause-least
returns-in-Arrive-clause-least c = least_end (hop_for c.args.fabric.now (tables_of c.args.cells.now) c.args.lid) c.args.start c.hops._hops _ c.hops.at c.hops.least (omega arith) c.hops.invariant.least c.hops.invariant.comes (λ port next on. absurd (let is = sym c.hop_at.ensures.hop ∙ c.in-Arrive.is in cc))

pub returns-in-Stop-clause-least : goal.returns-in-Stop-clause-least
returns-in-Stop-clause-least c = least_end (hop_for c.args.fabric.now (tables_of c.args.cells.now) c.args.lid) c.args.start c.hops._hops _ c.hops.at c.hops.least (omega arith) c.hops.invariant.least c.hops.invariant.comes (λ port next on. absurd (let is = sym c.hop_at.ensures.hop ∙ c.in-Stop.is in cc))

pub returns-clause-least : goal.returns-clause-least
returns-clause-least c = subst (λ (n : ℕ). IsLeastOf (hop_for c.args.fabric.now (tables_of c.args.cells.now) c.args.lid) n c.args.start c.hops.least) (omega arith) c.hops.invariant.least
