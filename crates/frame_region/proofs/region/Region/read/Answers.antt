use Rattle.std.proofs.Common.{ℕ, ◌+◌, ◌*◌, ◌<◌, ◌≤◌, ◌∙◌, List, length, sym, ap, subst, arith}
use Rattle.frame_region.specs.Blocks.{block, chain_bytes}
use Rattle.frame_region.specs.Sizes.{needed}
use Rattle.frame_region.proofs.ShownLemmas.{under}
use Rattle.frame_region.proofs.region.Region.read.Goals as goal

pub gather-requires-clause-within : goal.gather-requires-clause-within
gather-requires-clause-within c =
    let u = under _ _ _ _ _ _ _ _ _ c.self.invariant.0 c.self.view_is c.slip.view_is c.requires in
    λ k below. subst (λ (l : List ℕ). block l c.slip.inside.first k < 1048576) (sym c.deref-2.ensures.value) (omega (arith, c.self.invariant.0.within c.slip.inside.first k (omega (arith, below, ap needed u.len, ap needed c.len.ensures.len)), c.self.invariant.0.most))

pub gather-requires-clause-written : goal.gather-requires-clause-written
gather-requires-clause-written c =
    let u = under _ _ _ _ _ _ _ _ _ c.self.invariant.0 c.self.view_is c.slip.view_is c.requires in
    λ k below. subst (λ (l : List ℕ). 64 * block c.deref-2.result.now c.slip.inside.first k + 64 ≤ length l) (sym c.deref.ensures.value)
    (subst (λ (l : List ℕ). 64 * block l c.slip.inside.first k + 64 ≤ length c.self.inside.bytes.items) (sym c.deref-2.ensures.value) (c.self.invariant.0.written c.slip.inside.first k (omega (arith, below, ap needed u.len, ap needed c.len.ensures.len))))

pub returns : goal.returns
returns c =
    let u = under _ _ _ _ _ _ _ _ _ c.self.invariant.0 c.self.view_is c.slip.view_is c.requires in
    c.gather.ensures
    ∙ ap (λ (l : List ℕ). chain_bytes l c.deref-2.result.now c.slip.inside.first c.len.result) c.deref.ensures.value
    ∙ ap (λ (l : List ℕ). chain_bytes c.self.inside.bytes.items l c.slip.inside.first c.len.result) c.deref-2.ensures.value
    ∙ ap (chain_bytes c.self.inside.bytes.items c.self.inside.next.items c.slip.inside.first) (c.len.ensures.len ∙ u.len)
    ∙ sym u.all
