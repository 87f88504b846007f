use Rattle.std.proofs.Common.{◌≡◌, ℕ, ◌∙◌, ◌-◌, ◌<◌, List, sym, ap, subst, arith}
use Rattle.std.proofs.lemmas.Grind.{get_or_default_zero}
use Rattle.frame_region.specs.Blocks.{block}
use Rattle.frame_region.specs.Sizes.{needed}
use Rattle.frame_region.specs.Regions.{count_at}
use Rattle.frame_region.proofs.ShownLemmas.{under}
use Rattle.frame_region.proofs.FreeLemmas.{free_kept_by, free_shown_by}
use Rattle.frame_region.proofs.region.Region.free.Goals as goal
use Rattle.frame_region.proofs.region.Region.free.Goals.{After-needed-count, After-block_after-last}

-- the blocks of what is freed, and the last of them
count_is : (c : goal.After-needed-count) → c.needed-count.result ≡ count_at c.self.inside.lens.items c.slip.inside.first
count_is c =
    let u = under _ _ _ _ _ _ _ _ _ c.self.invariant.0 c.self.view_is c.slip.view_is c.requires in
    c.needed-count.ensures ∙ ap needed (c.from.ensures ∙ c.index.ensures ∙ get_or_default_zero _ _ _ u.below)

last_is : (c : goal.After-block_after-last) → c.block_after-last.result ≡ block c.self.inside.next.items c.slip.inside.first (c.needed-count.result - 1)
last_is c = c.block_after-last.ensures ∙ ap (λ (l : List ℕ). block l c.slip.inside.first (c.needed-count.result - 1)) c.deref.ensures.value

pub index-requires : goal.index-requires
index-requires c = let u = under _ _ _ _ _ _ _ _ _ c.self.invariant.0 c.self.view_is c.slip.view_is c.requires in omega (arith, u.below)

pub needed-count-requires : goal.needed-count-requires
needed-count-requires c =
    let u = under _ _ _ _ _ _ _ _ _ c.self.invariant.0 c.self.view_is c.slip.view_is c.requires in
    omega (arith, c.self.invariant.0.short c.slip.inside.first, c.from.ensures, c.index.ensures, get_or_default_zero c.self.inside.lens.items c.slip.inside.first c.index.result.now u.below)

pub overflow_sub-count : goal.overflow_sub-count
overflow_sub-count c =
    let u = under _ _ _ _ _ _ _ _ _ c.self.invariant.0 c.self.view_is c.slip.view_is c.requires in
    omega (arith, u.some, c.needed-count.ensures, c.from.ensures, c.index.ensures, get_or_default_zero c.self.inside.lens.items c.slip.inside.first c.index.result.now u.below)

pub block_after-last-requires : goal.block_after-last-requires
block_after-last-requires c =
    let u = under _ _ _ _ _ _ _ _ _ c.self.invariant.0 c.self.view_is c.slip.view_is c.requires in
    let count = count_is (goal.at.block_after-last-requires c).After-needed-count in
    λ k below. subst (λ (l : List ℕ). block l c.slip.inside.first k < 1048576) (sym c.deref.ensures.value) (omega (arith, c.self.invariant.0.within c.slip.inside.first k (omega (arith, below, count)), c.self.invariant.0.most))

-- the last block is one of them
last_below : (c : goal.After-block_after-last) → c.needed-count.result ≡ count_at c.self.inside.lens.items c.slip.inside.first → c.block_after-last.result < c.self.inside.blocks
last_below c count =
    let u = under _ _ _ _ _ _ _ _ _ c.self.invariant.0 c.self.view_is c.slip.view_is c.requires in
    omega (arith, last_is c, c.self.invariant.0.within c.slip.inside.first (c.needed-count.result - 1) (omega (arith, count, u.some)))

pub name_following-requires-clause-room : goal.name_following-requires-clause-room
name_following-requires-clause-room c =
    let count = count_is (goal.at.name_following-requires-clause-room c).After-needed-count in
    omega (arith, last_below (goal.at.name_following-requires-clause-room c).After-block_after-last count, c.self.invariant.2)

pub name_following-requires-clause-most : goal.name_following-requires-clause-most
name_following-requires-clause-most c =
    let count = count_is (goal.at.name_following-requires-clause-most c).After-needed-count in
    omega (arith, last_below (goal.at.name_following-requires-clause-most c).After-block_after-last count, c.self.invariant.0.most)

pub index_mut-requires-2 : goal.index_mut-requires-2
index_mut-requires-2 c = let u = under _ _ _ _ _ _ _ _ _ c.self.invariant.0 c.self.view_is c.slip.view_is c.requires in omega (arith, u.below)

pub invariant_of-self : goal.invariant_of-self
invariant_of-self c =
    let u = under _ _ _ _ _ _ _ _ _ c.self.invariant.0 c.self.view_is c.slip.view_is c.requires in
    let count = count_is (goal.at.invariant_of-self c).After-needed-count in
    let last = last_is (goal.at.invariant_of-self c).After-block_after-last in (
      free_kept_by _ _ _ _ _ _ _ _ _ _ c.self.invariant.0 c.name_following.ensures.same c.name_following.ensures.end u.below u.some count last,
      c.self.invariant.1,
      omega (arith, c.self.invariant.2, c.name_following.ensures.room),
      c.self.invariant.3,
    )

pub returns : goal.returns
returns c =
    let count = count_is (goal.at.returns c).After-needed-count in
    let last = last_is (goal.at.returns c).After-block_after-last in
    free_shown_by _ _ _ _ _ _ _ _ _ _ _ _ c.self.invariant.0 c.name_following.ensures.same c.slip.view_is c.self.view_is c.requires count last
