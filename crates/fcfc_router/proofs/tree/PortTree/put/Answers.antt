use Rattle.std.proofs.Common.{◌≡◌, ◌∙◌, ap, subst, arith, ℕ, ◌*◌, List, drop, length, set}
use Rattle.std.specs.Prelude.{vec_capacity}
use Rattle.fcfc_router.specs.Tree.{all_sets, IsGrown}
use Rattle.fcfc_router.proofs.TreeLemmas.{all_count, doubled_grown, doubled_sets, taken_back, twice_below, written_sets}
use Rattle.fcfc_router.proofs.tree.PortTree.put.Goals as goal

pub double-requires-clause-most : goal.double-requires-clause-most
double-requires-clause-most c =
    let l = c.places.invariant in
    let i = c.self.inside in
    let count = all_count i.kept i.places (vec_capacity i.unions) i.unions.items c.self.invariant in
    let seen = ap (λ (xs : List ℕ). length xs) c.self.view_is in
    let low = c.requires in
    let same = l.same in
    let twice = twice_below c.places.self-inside.kept c.places.self-inside.places c.args.place l.grown.power l.grown.all (omega arith) (omega arith) in
    let most = l.grown.most in
    omega arith

pub double-requires-clause-room : goal.double-requires-clause-room
double-requires-clause-room c =
    let l = c.places.invariant in
    let i = c.self.inside in
    let count = all_count i.kept i.places (vec_capacity i.unions) i.unions.items c.self.invariant in
    let seen = ap (λ (xs : List ℕ). length xs) c.self.view_is in
    let low = c.requires in
    let same = l.same in
    let twice = twice_below c.places.self-inside.kept c.places.self-inside.places c.args.place l.grown.power l.grown.all (omega arith) (omega arith) in
    let room = l.grown.room in
    omega arith

pub places-preserved : goal.places-preserved
places-preserved c =
    let l = c.places.invariant in
    let i = c.self.inside in
    let j = c.places.self-inside in
    let count = all_count i.kept i.places (vec_capacity i.unions) i.unions.items c.self.invariant in
    let seen = ap (λ (xs : List ℕ). length xs) c.self.view_is in
    let low = c.requires in
    let same = l.same in
    let new = c.double.new.unions in
    let grown = doubled_grown j.kept j.places (vec_capacity j.unions) (vec_capacity new) c.args.place j.unions.items new.items l.grown (omega arith) (omega arith) c.double.ensures.capacity c.double.ensures.tree in
    let sets = doubled_sets j.kept j.places j.unions.items new.items grown.below c.double.ensures.sets in
    let twice : 2 * j.kept ≡ j.kept * 2 = omega arith in
    record {
      grown = subst (λ (n : ℕ). IsGrown n j.places (vec_capacity new) new.items) twice grown;
      same = l.same;
      sets = subst (λ (n : ℕ). all_sets n j.places new.items ≡ all_sets j.kept j.places j.unions.items) twice sets ∙ l.sets;
    }

pub returns : goal.returns
returns c =
    let l = c.places.invariant in
    let j = c.places.self-inside in
    let is = c.write.ensures.sets ∙ ap (λ (xs : List ℕ). set (drop j.kept xs) c.args.place c.args.set) c.deref_mut.ensures.value in
    let count = l.grown.tree.count in
    let after = c.write.ensures.tree.count in
    let long = j.unions.ok.0 in
    ap (all_sets j.kept j.places) (taken_back j.unions.len c.write.new.unions j.unions.items (omega arith))
    ∙ written_sets j.kept j.places c.args.place c.args.set j.unions.items c.write.new.unions l.grown.tree (omega (arith, c.places-test.false)) is
    ∙ ap (λ (xs : List ℕ). set xs c.args.place c.args.set) (l.sets ∙ c.self.view_is)
