use Rattle.std.proofs.Common.{◌≡◌, ◌≢◌, ◌∙◌, ◌<◌, ◌≤◌, ◌+◌, ◌*◌, ℕ, sym, ap, subst, length, slice_index_or, arith}
use Rattle.frame_region.specs.Blocks.{after}
use Rattle.frame_region.proofs.ChainLemmas.{block_next, there_more, bytes_more}
use Rattle.frame_region.proofs.region.fill.Goals as goal

pub blocks-2-preserved : goal.blocks-2-preserved
blocks-2-preserved c =
    let next = c.args.next.now in
    let first = c.args.first in
    let k = c.blocks-2.k in
    let old = c.blocks-2.bytes.items in
    let new = c.write.new.bytes.items in
    let piece = c.piece_of.result.now in
    let kept = c.blocks-2.invariant in
    let written = subst (λ (q : ℕ). (m : ℕ) → m < length piece → slice_index_or new (64 * q + m) 0 ≡ slice_index_or piece m 0) kept.here c.write.ensures.piece in
    let others = subst (λ (q : ℕ). (b m : ℕ) → m < 64 → b ≢ q → slice_index_or new (64 * b + m) 0 ≡ slice_index_or old (64 * b + m) 0) kept.here c.write.ensures.others in
    record {
      here = c.after-block.ensures ∙ ap (after next) kept.here ∙ block_next next first k;
      room = omega (arith, c.write.ensures.room, kept.room);
      more = omega (arith, c.write.ensures.more, kept.more);
      there = there_more next first k (length old) (length new) (subst (λ (q : ℕ). 64 * q + 64 ≤ length new) kept.here c.write.ensures.end) c.write.ensures.more kept.there;
      bytes = bytes_more next first k c.args.frame.now old new piece (omega (arith, c.blocks-2-test.true, c.needed-k-end.ensures)) c.piece_of.ensures.length c.requires.apart c.piece_of.ensures.bytes written others kept.bytes;
      others = λ b m small not_here. others b m small (λ e. not_here k (omega arith) (sym e)) ∙ kept.others b m small (λ j below e. not_here j (omega (arith, below)) e);
    }

pub write-requires-clause-room : goal.write-requires-clause-room
write-requires-clause-room c =
    let room = c.requires.room c.blocks-2.k (omega (arith, c.blocks-2-test.true, c.needed-k-end.ensures)) in
    omega (arith, room, ap (λ q. 64 * q) c.blocks-2.invariant.here, c.blocks-2.invariant.room)
