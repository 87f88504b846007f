use Rattle.std.proofs.Common.{◌≡◌, List, Bool, ℕ, None, length, subst, sym}
use Rattle.dep_check.specs.Tables.{AreExitsBelow}
use Rattle.dep_check.specs.Worst.{AreUpBelow}
use Rattle.dep_check.proofs.IllegalLemmas.{all_sides}
use Rattle.dep_check.proofs.illegal.least_illegal.Goals as goal

pub returns-then-are_legal : goal.returns-then-are_legal
returns-then-are_legal c =
    let es = c.args.graph.now in
    let numbers = c.args.numbers.now in
    let rows = c.args.rows.now in
    let up : AreUpBelow es numbers 1651 c.deref.result.now = subst (λ (bs : List Bool). AreUpBelow es numbers 1651 bs) (sym c.deref.ensures.value) c.in_ok-up.ensures in
    let below : AreExitsBelow rows None (length rows) c.deref-2.result.now = subst (λ (table : List ℕ). AreExitsBelow rows None (length rows) table) (sym c.deref-2.ensures.value) c.requires.exits in
    c.are_legal.ensures es numbers c.if-are_legal.true (all_sides es numbers c.args.wires.now c.deref.result.now c.requires.wires.each up) below

pub returns : goal.returns
returns c =
    let es = c.args.graph.now in
    let numbers = c.args.numbers.now in
    let up : AreUpBelow es numbers 1651 c.deref.result.now = subst (λ (bs : List Bool). AreUpBelow es numbers 1651 bs) (sym c.deref.ensures.value) c.in_ok-up.ensures in
    c.least_between.ensures es numbers (all_sides es numbers c.args.wires.now c.deref.result.now c.requires.wires.each up)
