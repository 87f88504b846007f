use Rattle.std.proofs.Common.{◌≡◌, ℕ, ◌<◌, ◌≤◌, length, get_or}
use Rattle.fcfc_router.specs.Shown.{set_at}
use Rattle.fcfc_router.proofs.router.close_gaps.Given as goal

-- the first places of the tree have their sets, and the others those that they had
abbrev pub invariant-places : goal.invariant-places
invariant-places l = record {
  count : length l.tree ≡ length l.initial.tree;
  sets : (k : ℕ) → k < l.place → get_or l.tree k 0 ≡ set_at l.slots.items k;
  others : (k : ℕ) → l.place ≤ k → get_or l.tree k 0 ≡ get_or l.initial.tree k 0;
}
