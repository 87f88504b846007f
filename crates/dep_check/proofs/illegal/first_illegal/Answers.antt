use Rattle.std.proofs.Common.{◌≡◌, ◌∙◌, ap, sym, subst, ℕ, Some, arith, get_or, ◌<◌, inl, inr}
use Rattle.std.proofs.lemmas.Bool.{cases_eq}
use Rattle.an_base.specs.Rows.{ExitsRise, RowOf}
use Rattle.dep_check.specs.Illegal.{IsBad}
use Rattle.dep_check.specs.Worst.{FirstBad, IsBadExit, up_at}
use Rattle.dep_check.proofs.IllegalLemmas.{bad_told, first_bad, no_bad}
use Rattle.dep_check.proofs.illegal.first_illegal.Goals as goal

pub returns-then-is_illegal : goal.returns-then-is_illegal
returns-then-is_illegal c = λ es numbers sides.
    let wires = c.args.sides.now.wires.now in
    let up = c.args.sides.now.up.now in
    let down = c.is_up-came_down.result in
    let came = c.is_up-came_down.ensures in
    let i = c.row.inside in
    let r : RowOf = record { at = i.at; entry = i.entry; to = i.to; exits = i.exits } in
    let exits = c.as_slice-exit-items.result.now in
    let k = c.exits.exit-index in
    let none : (n : ℕ) → n < k → IsBadExit wires up r.at down (get_or exits n 0) → ⊥ = subst (λ (x : RowOf). (n : ℕ) → n < k → IsBadExit wires up x.at down (get_or exits n 0) → ⊥) (sym c.row.view_is) c.exits.invariant in
    let before : (n : ℕ) → n < k → IsBad es numbers r.at r.entry (get_or exits n 0) → ⊥ = (λ (n : ℕ) (low : n < k) (bad : IsBad es numbers r.at r.entry (get_or exits n 0)). none n low ((bad_told es numbers wires up r.at r.entry (get_or exits n 0) down sides came).1 bad)) in
    let bad : IsBad es numbers r.at r.entry (get_or exits k 0) = (bad_told es numbers wires up r.at r.entry (get_or exits k 0) down sides came).0 (c.is_illegal.ensures.0 c.if-is_illegal.true) in
    subst (λ (x : RowOf). FirstBad es numbers x (Some (record { at = i.at; entry = i.entry; to = i.to; exit = get_or exits k 0 }))) c.row.view_is (first_bad es numbers r exits k (c.as_slice-exit-items.ensures.all ∙ c.list-ports.ensures) (subst ExitsRise c.list-ports.ensures c.as_slice-exit-items.ensures.rising) c.exits-test.true before bad)

pub exits-preserved : goal.exits-preserved
exits-preserved c = λ k low bad. elim (cases_eq k c.exits.exit-index) [
  | inl last ↦ (
      let wires = c.args.sides.now.wires.now in
      let up = c.args.sides.now.up.now in
      let down = c.is_up-came_down.result in
      let i = c.row.inside in
      let exits = c.as_slice-exit-items.result.now in
      let here : IsBadExit wires up i.at down (get_or exits c.exits.exit-index 0) = subst (λ (n : ℕ). IsBadExit wires up i.at down (get_or exits n 0)) last (subst (λ (x : RowOf). IsBadExit wires up x.at down (get_or exits k 0)) (sym c.row.view_is) bad) in
      absurd (let t = c.is_illegal.ensures.1 here in let f = c.if-is_illegal.false in cc))
  | inr before ↦ c.exits.invariant k (omega arith) bad
]

pub returns : goal.returns
returns c = λ es numbers sides.
    let wires = c.args.sides.now.wires.now in
    let up = c.args.sides.now.up.now in
    let down = c.is_up-came_down.result in
    let row = c.args.row.now in
    let exits = c.as_slice-exit-items.result.now in
    let came : down ≡ up_at up (record { at = row.at; port = row.entry }) = subst (λ (x : RowOf). down ≡ up_at up (record { at = x.at; port = x.entry })) c.row.view_is c.is_up-came_down.ensures in
    no_bad es numbers row exits (c.as_slice-exit-items.ensures.all ∙ c.list-ports.ensures ∙ ap (λ (x : RowOf). x.exits) c.row.view_is) (λ n low bad. c.exits.invariant n (omega arith) ((bad_told es numbers wires up row.at row.entry (get_or exits n 0) down sides came).1 bad))
