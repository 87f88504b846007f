use Rattle.std.proofs.Common.{◌≡◌, ◌+◌, ◌-◌}
use Rattle.std.specs.Prelude.{vec_capacity}
use Rattle.fcfc_router.specs.Tree.{all_sets, IsGrown}
use Rattle.fcfc_router.proofs.tree.PortTree.put.Given as goal

-- more places may be kept, and all sets stay
abbrev pub invariant-places : goal.invariant-places
invariant-places l = record {
  grown : IsGrown l.self-inside.kept l.self-inside.places (vec_capacity l.self-inside.unions) l.self-inside.unions.items;
  same : l.self-inside.places ≡ l.initial.self-inside.places;
  sets : all_sets l.self-inside.kept l.self-inside.places l.self-inside.unions.items ≡ all_sets l.initial.self-inside.kept l.initial.self-inside.places l.initial.self-inside.unions.items;
}

abbrev pub decreases-places : goal.decreases-places
decreases-places l = l.place + 1 - l.self-inside.kept
