use Rattle.std.proofs.Common.{◌∙◌, ◌*◌, ◌+◌, ℕ, List, ◌++◌, ap, arith, length, slice_index_or}
use Rattle.std.proofs.lemmas.List.FromFn.{length-map-range_with_len}
use Rattle.frame_region.specs.Blocks.{after, place}
use Rattle.frame_region.proofs.ChainLemmas.{block_next}
use Rattle.frame_region.proofs.PieceLemmas.{gather_more}
use Rattle.frame_region.proofs.region.gather.Goals as goal

pub add-requires : goal.add-requires
add-requires c =
    omega (arith, c.requires.most, ap length c.blocks-2.invariant.read, length-map-range_with_len (λ i. slice_index_or c.args.bytes.now (place c.args.next.now c.args.first i) 0) 0, c.front_of.ensures.length, c.needed-k-end.ensures)

pub blocks-2-preserved : goal.blocks-2-preserved
blocks-2-preserved c = record {
  here = c.after-block.ensures ∙ ap (after c.args.next.now) c.blocks-2.invariant.here ∙ block_next c.args.next.now c.args.first c.blocks-2.k;
  read = c.add.ensures ∙ ap (λ (l : List ℕ). l ++ c.front_of.result.now) c.blocks-2.invariant.read
      ∙ gather_more c.args.bytes.now c.args.next.now c.front_of.result.now c.args.first c.blocks-2.k c.args.len (omega (arith, c.needed-k-end.ensures)) c.front_of.ensures.length
      (λ m small. c.front_of.ensures.bytes m small ∙ ap (λ b. slice_index_or c.args.bytes.now (64 * b + m) 0) c.blocks-2.invariant.here);
}

pub front_of-requires : goal.front_of-requires
front_of-requires c = omega (arith, c.requires.written c.blocks-2.k (omega (arith, c.needed-k-end.ensures)), ap (λ q. 64 * q) c.blocks-2.invariant.here)
