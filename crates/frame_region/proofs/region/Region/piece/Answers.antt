use Rattle.std.proofs.Common.{◌≡◌, ℕ, ◌∙◌, ◌<◌, ◌*◌, ◌+◌, List, length, slice_index_or, sym, ap, subst, arith}
use Rattle.frame_region.specs.Blocks.{block}
use Rattle.frame_region.specs.Sizes.{needed}
use Rattle.frame_region.proofs.ShownLemmas.{under}
use Rattle.frame_region.proofs.PieceLemmas.{piece_made}
use Rattle.frame_region.proofs.region.Region.piece.Goals as goal

pub block_after-block-requires : goal.block_after-block-requires
block_after-block-requires c =
    let u = under _ _ _ _ _ _ _ _ _ c.self.invariant.0 c.self.view_is c.slip.view_is c.requires.has in
    λ k below. subst (λ (l : List ℕ). block l c.slip.inside.first k < 1048576) (sym c.deref.ensures.value) (omega (arith, c.self.invariant.0.within c.slip.inside.first k (omega (arith, below, c.requires.i, ap needed u.len)), c.self.invariant.0.most))

pub front_of-requires : goal.front_of-requires
front_of-requires c =
    let u = under _ _ _ _ _ _ _ _ _ c.self.invariant.0 c.self.view_is c.slip.view_is c.requires.has in
    let here : c.block_after-block.result ≡ block c.self.inside.next.items c.slip.inside.first c.args.i
    = c.block_after-block.ensures ∙ ap (λ (l : List ℕ). block l c.slip.inside.first c.args.i) c.deref.ensures.value in
    omega (arith, here, c.self.invariant.0.written c.slip.inside.first c.args.i (omega (arith, c.requires.i, ap needed u.len)), ap length c.deref-2.ensures.value)

pub returns : goal.returns
returns c =
    let u = under _ _ _ _ _ _ _ _ _ c.self.invariant.0 c.self.view_is c.slip.view_is c.requires.has in
    let here : c.block_after-block.result ≡ block c.self.inside.next.items c.slip.inside.first c.args.i
    = c.block_after-block.ensures ∙ ap (λ (l : List ℕ). block l c.slip.inside.first c.args.i) c.deref.ensures.value in
    piece_made _ _ _ _ _ c.args.i _ _ u.all (omega (arith, c.len.ensures.len, u.len)) c.front_of.ensures.length
    (λ m small. c.front_of.ensures.bytes m small
    ∙ ap (λ (l : List ℕ). slice_index_or l (64 * c.block_after-block.result + m) 0) c.deref-2.ensures.value
    ∙ ap (λ q. slice_index_or c.self.inside.bytes.items (64 * q + m) 0) here)
