use Rattle.std.proofs.Common.{sym, subst, ℕ, Bool, arith, inl, inr}
use Rattle.std.proofs.lemmas.Bool.{cases_eq}
use Rattle.an_base.proofs.PortSetLemmas.{no_bit}
use Rattle.dep_check.specs.Worst.{IsBadExit}
use Rattle.dep_check.proofs.illegal.are_legal_at.Goals as goal

pub exits-init : goal.exits-init
exits-init c = λ p is gone bad. gone is

pub returns-then-is_illegal : goal.returns-then-is_illegal
returns-then-is_illegal c = λ t. absurd (cc)

pub exits-preserved : goal.exits-preserved
exits-preserved c = λ p is gone bad.
    let k = c.lowest-exit.result in
    let sides = c.args.sides.now in
    elim (cases_eq p k) [
      | inl same ↦ absurd (
          let t = c.is_illegal.ensures.1 (subst (λ (n : ℕ). IsBadExit sides.wires.now sides.up.now c.args.spot.at c.is_up-came_down.result n) same bad) in
          let f = c.if-is_illegal.false in
          cc)
      | inr other ↦ c.exits.invariant p is (λ left. gone ((c.without-left.ensures.ports p).1 (left, other))) bad
    ]

pub returns : goal.returns
returns c = λ t p is bad.
    let sides = c.args.sides.now in
    c.exits.invariant p is (no_bit c.exits.left p (omega arith)) (subst (λ (b : Bool). IsBadExit sides.wires.now sides.up.now c.args.spot.at b p) (sym c.is_up-came_down.ensures) bad)
