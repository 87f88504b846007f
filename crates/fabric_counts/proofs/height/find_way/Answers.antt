use Rattle.std.proofs.Common.{◌∙◌, sym, arith, length-set}
use Rattle.fabric_tables.specs.Cells.{tables_of}
use Rattle.fabric_counts.specs.Counts.{hop_for}
use Rattle.fabric_counts.proofs.HeightLemmas.{way_end, way_first, way_known, way_more}
use Rattle.fabric_model.specs.Fabric.{switch_count}
use Rattle.fabric_counts.proofs.height.find_way.Goals as goal

pub hops-init : goal.hops-init
hops-init c = record {
  low = c.requires.start;
  room = omega arith;
  way = way_first (hop_for c.args.fabric.now (tables_of c.args.cells.now) c.args.lid) (switch_count c.args.fabric.now) c.args.start c.args.path.now;
}

pub hops-preserved : goal.hops-preserved
hops-preserved c = record {
  low = c.in-On.ensures.link.within;
  room = (let size = length-set c.hops.path c.hops.count c.hops.at in omega arith);
  way = way_more (hop_for c.args.fabric.now (tables_of c.args.cells.now) c.args.lid) (switch_count c.args.fabric.now) c.args.start c.hops.path c.hops.count c.hops.at c.hops.invariant.way (omega arith) c.hops.invariant.low c.in-On.field-0 c.in-On.next (sym c.hop_at.ensures.hop ∙ c.in-On.is);
}

pub returns-then-beyond-gt0-clause-way : goal.returns-then-beyond-gt0-clause-way
returns-then-beyond-gt0-clause-way c = way_known (hop_for c.args.fabric.now (tables_of c.args.cells.now) c.args.lid) (switch_count c.args.fabric.now) c.args.start c.hops.path c.hops.count c.hops.at c.hops.invariant.way _ (c.requires.heights c.hops.at (omega arith))

pub returns-in-Arrive-clause-way : goal.returns-in-Arrive-clause-way
returns-in-Arrive-clause-way c = way_end (hop_for c.args.fabric.now (tables_of c.args.cells.now) c.args.lid) (switch_count c.args.fabric.now) c.args.start c.hops.path c.hops.count c.hops.at c.hops.invariant.way (omega arith) c.hops.invariant.low (sym c.hop_at.ensures.hop ∙ c.in-Arrive.is)
