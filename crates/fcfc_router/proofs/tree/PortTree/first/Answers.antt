use Rattle.std.proofs.Common.{◌≡◌, sym, subst, arith, ℕ, ◌-◌, List, inl, inr}
use Rattle.std.specs.Prelude.{bit_and}
use Rattle.fcfc_router.specs.Tree.{HasNone, IsFirst, IsHalf}
use Rattle.fcfc_router.proofs.TreeLemmas.{ends_at_first, first_of_all, goes_down, none_at_all, none_has, starts_at_top, top_is}
use Rattle.fcfc_router.proofs.tree.PortTree.first.Goals as goal

pub returns-then-index-ports-eq0 : goal.returns-then-index-ports-eq0
returns-then-index-ports-eq0 c =
    let i = c.self.inside in
    let grown = c.self.invariant in
    let power = grown.power in
    let top = top_is i.kept power.0 c.index.result.now i.unions.items grown.tree power.1 c.index.ensures in
    subst (λ (xs : List ℕ). HasNone c.args.ports xs) c.self.view_is (
    none_at_all i.kept i.places c.args.ports i.unions.items (
    none_has i.kept c.args.ports power.0 i.unions.items grown.tree power.1 (subst (λ (n : ℕ). bit_and n c.args.ports ≡ 0) top c.if-index-ports-eq0.true)))

pub levels-init : goal.levels-init
levels-init c =
    let i = c.self.inside in
    let grown = c.self.invariant in
    let power = grown.power in
    let top = top_is i.kept power.0 c.index.result.now i.unions.items grown.tree power.1 c.index.ensures in
    starts_at_top i.kept c.args.ports power.0 i.unions.items power.1 (λ none. c.if-index-ports-eq0.false (subst (λ (n : ℕ). bit_and n c.args.ports ≡ 0) (sym top) none))

pub levels-smaller : goal.levels-smaller
levels-smaller c =
    let low = c.levels.invariant.low in
    let inner = c.levels-test.true in
    elim c.half_with-node.ensures [
      | inl left ↦ (let e = left.0 in omega arith)
      | inr right ↦ (let e = right.0 in omega arith)
    ]

pub levels-preserved : goal.levels-preserved
levels-preserved c =
    let i = c.self.inside in
    goes_down i.kept c.args.ports c.levels.node c.half_with-node.result i.unions.items c.self.invariant.tree c.levels.invariant c.levels-test.true (
    subst (λ (xs : List ℕ). IsHalf xs c.args.ports c.levels.node c.half_with-node.result) c.deref.ensures.value c.half_with-node.ensures)

pub returns : goal.returns
returns c =
    let i = c.self.inside in
    subst (λ (xs : List ℕ). IsFirst c.args.ports xs (c.levels.node - i.kept)) c.self.view_is (
    first_of_all i.kept i.places c.args.ports (c.levels.node - i.kept) i.unions.items (
    ends_at_first i.kept c.args.ports c.levels.node i.unions.items c.self.invariant.tree c.levels.invariant c.levels-test.false))
