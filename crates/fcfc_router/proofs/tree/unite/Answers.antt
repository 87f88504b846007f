use Rattle.std.proofs.Common.{◌≡◌, ◌∙◌, refl, sym, subst, arith, ℕ, ◌+◌, ◌-◌, ◌*◌}
use Rattle.std.specs.Int.RustNames.{bit_or}
use Rattle.std.proofs.lemmas.List.{get_or_read}
use Rattle.fcfc_router.proofs.TreeLemmas.{all_united, IsTreeFrom, none_united, one_united, same_place, same_sets}
use Rattle.fcfc_router.proofs.tree.unite.Goals as goal

pub nodes-init : goal.nodes-init
nodes-init c = record { below = omega arith; tree = none_united c.args.kept c.args.unions.now.items c.requires.count; sets = λ k. refl; capacity = refl }

pub nodes-preserved : goal.nodes-preserved
nodes-preserved c =
    let l = c.nodes.invariant in
    let b = l.below in
    let n = l.tree.count in
    let at = c.nodes.node - 1 in
    let next : at + 1 ≡ c.nodes.node = omega arith in
    let first = get_or_read c.nodes.unions.items (2 * at) c.index.result.now (omega arith) c.index.ensures 0 in
    let second = get_or_read c.nodes.unions.items (2 * at + 1) c.index-in-nodes.result.now (omega arith) c.index-in-nodes.ensures 0 in
    record {
      below = omega arith;
      tree = one_united c.args.kept at (bit_or c.index.result.now c.index-in-nodes.result.now) c.nodes.unions.items (subst (λ (m : ℕ). IsTreeFrom c.args.kept c.nodes.unions.items m) (sym next) l.tree) (omega arith) (omega arith) cc;
      sets = λ k. same_place c.args.kept at (bit_or c.index.result.now c.index-in-nodes.result.now) k c.nodes.unions.items (omega arith) ∙ l.sets k;
      capacity = l.capacity;
    }

pub returns-clause-tree : goal.returns-clause-tree
returns-clause-tree c = all_united c.args.kept c.nodes.node c.nodes.unions.items c.nodes.invariant.tree (omega arith)

pub returns-clause-sets : goal.returns-clause-sets
returns-clause-sets c =
    let l = c.nodes.invariant in
    same_sets c.args.kept c.args.unions.now.items c.nodes.unions.items (let a = l.tree.count in let b = c.requires.count in omega arith) l.sets
