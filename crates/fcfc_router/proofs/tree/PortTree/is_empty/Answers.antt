use Rattle.std.proofs.Common.{◌≡◌, ◌∙◌, sym, subst, arith, ℕ, List}
use Rattle.std.specs.Prelude.{All}
use Rattle.std.proofs.lemmas.Bool.Decides.{nat_tests}
use Rattle.fcfc_router.proofs.TreeLemmas.{all_empty, top_is}
use Rattle.fcfc_router.proofs.tree.PortTree.is_empty.Goals as goal

pub returns : goal.returns
returns c = λ empty.
    let i = c.self.inside in
    let grown = c.self.invariant in
    let power = grown.power in
    let top = top_is i.kept power.0 c.index.result.now i.unions.items grown.tree power.1 c.index.ensures in
    let none : c.index.result.now ≡ 0 = grind (arith, nat_tests) in
    subst (λ (xs : List ℕ). All (λ sets. sets ≡ 0) xs) c.self.view_is (all_empty i.kept i.places power.0 i.unions.items grown.tree power.1 (sym top ∙ none))
