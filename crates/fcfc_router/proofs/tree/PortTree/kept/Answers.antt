use Rattle.std.proofs.Common.{◌≡◌, ap, subst, arith, ℕ, List, length, get_or}
use Rattle.std.specs.Prelude.{vec_capacity}
use Rattle.fcfc_router.proofs.TreeLemmas.{all_count, empty_behind}
use Rattle.fcfc_router.proofs.tree.PortTree.kept.Goals as goal

pub returns : goal.returns
returns c =
    let i = c.self.inside in
    let count = all_count i.kept i.places (vec_capacity i.unions) i.unions.items c.self.invariant in
    let seen = ap (λ (xs : List ℕ). length xs) c.self.view_is in
    let below = c.self.invariant.below in
    record {
      within = omega arith;
      behind = λ place past. subst (λ (xs : List ℕ). get_or xs place 0 ≡ 0) c.self.view_is (empty_behind i.kept i.places (vec_capacity i.unions) place i.unions.items c.self.invariant past);
    }
