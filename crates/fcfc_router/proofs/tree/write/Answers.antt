use Rattle.std.proofs.Common.{◌≡◌, ◌∙◌, refl, subst, arith, ℕ, ◌+◌, ◌*◌, get_or}
use Rattle.std.specs.Int.RustNames.{bit_or}
use Rattle.fcfc_router.specs.Tree.{IsTreeBut}
use Rattle.fcfc_router.proofs.TreeLemmas.{all_mended, mended, put_is, same_place, written}
use Rattle.fcfc_router.proofs.tree.write.Goals as goal

pub nodes-init : goal.nodes-init
nodes-init c =
    let low = c.requires.place in
    record {
      below = omega arith;
      tree = written c.args.kept (c.args.kept + c.args.place) c.args.set c.args.unions.now c.requires.tree (omega arith);
      sets = λ k. refl;
    }

pub nodes-preserved : goal.nodes-preserved
nodes-preserved c =
    let l = c.nodes.invariant in
    let b = l.below in
    let union = bit_or (get_or c.nodes.unions (2 * c.nodes.node) 0) (get_or c.nodes.unions (2 * c.nodes.node + 1) 0) in
    record {
      below = omega arith;
      tree = mended c.args.kept c.nodes.node union c.nodes.unions l.tree (omega arith) b refl;
      sets = λ k. same_place c.args.kept c.nodes.node union k c.nodes.unions b ∙ l.sets k;
    }

pub returns-clause-tree : goal.returns-clause-tree
returns-clause-tree c =
    let l = c.nodes.invariant in
    let zero_is : c.nodes.node ≡ 0 = omega arith in
    all_mended c.args.kept c.nodes.unions (subst (λ (n : ℕ). IsTreeBut c.args.kept c.nodes.unions n) zero_is l.tree)

pub returns-clause-sets : goal.returns-clause-sets
returns-clause-sets c =
    let l = c.nodes.invariant in
    let zero_is : c.nodes.node ≡ 0 = omega arith in
    put_is c.args.kept c.args.place c.args.set c.args.unions.now c.nodes.unions c.requires.tree (all_mended c.args.kept c.nodes.unions (subst (λ (n : ℕ). IsTreeBut c.args.kept c.nodes.unions n) zero_is l.tree)) c.requires.place l.sets
