use Rattle.std.proofs.Common.{◌%◌, sym, subst, ℕ, List, arith, length}
use Rattle.fabric_tables.specs.Cells.{tables_of}
use Rattle.fabric_counts.specs.Counts.{hop_for}
use Rattle.fabric_counts.specs.Heights.{AreHeights}
use Rattle.fabric_counts.proofs.HeightLemmas.{heights_none}
use Rattle.fabric_counts.proofs.LongestLemmas.{arrive_within, longest_first, longest_more}
use Rattle.fabric_counts.proofs.count.longest_to.Goals as goal

pub switches-init : goal.switches-init
switches-init c = record {
  heights = subst (λ (xs : List ℕ). AreHeights (hop_for c.args.fabric.now (tables_of c.args.cells.now) c.args.lid) xs) (sym c.clear.ensures) (heights_none (hop_for c.args.fabric.now (tables_of c.args.cells.now) c.args.lid) (length c.args.heights.now));
  longest = longest_first (hop_for c.args.fabric.now (tables_of c.args.cells.now) c.args.lid) c.args.starts.now (c.args.lid % 64);
}

pub switches-preserved : goal.switches-preserved
switches-preserved c = record {
  heights = c.in_ok-hops.ensures.heights;
  longest = longest_more (hop_for c.args.fabric.now (tables_of c.args.cells.now) c.args.lid) c.args.starts.now (c.args.lid % 64) c.switches.switch c.switches.hops c.in_ok-hops.hops c.in_ok-hops.ensures.longer c.switches.invariant.longest;
}

pub returns : goal.returns
returns c = λ traffic starts. arrive_within c.args.fabric.now c.switches-switch-end.ensures.fabric (tables_of c.args.cells.now) traffic c.args.lid c.args.starts.now starts c.switches.switch c.switches.hops (omega arith) c.switches.invariant.longest
