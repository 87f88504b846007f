use Rattle.std.proofs.Common.{◌≡◌, ◌+◌, ◌*◌, ◌↔◌, ℕ, arith, inl, inr}
use Rattle.std.specs.Int.{bit_at}
use Rattle.std.proofs.lemmas.Bool.{cases_lt}
use Rattle.fabric_model.specs.Fabric.{switch_count}
use Rattle.fabric_tables.specs.Cells.{tables_of}
use Rattle.fabric_routes.proofs.SenderLemmas.{BeginsAt}
use Rattle.fabric_routes.proofs.StartLemmas.{sender_is, start_low}
use Rattle.fabric_routes.proofs.WordLemmas.{has_low, put_more}
use Rattle.fabric_routes.proofs.sender.put_starts.Goals as goal

pub returns : goal.returns
returns c = λ switch bit low. elim (cases_lt switch (switch_count c.args.fabric.now)) [
  | inl within ↦ (let here = c.switches.invariant switch bit (omega arith) in (λ has. (here.0 has).1, λ starts. here.1 (low, starts)))
  | inr past ↦ (
    λ has. absurd (let some = has_low c.switches.words switch bit has in let same = c.switches.auto.words in let count = c.requires.count in omega arith),
    λ (source, sends, at). absurd (let some = start_low c.args.fabric.now c.switches-switch-end.ensures.fabric c.args.traffic source switch (sender_is c.args.fabric.now (tables_of c.args.cells.now) c.args.traffic (64 * c.args.block + bit) source sends) at in omega arith),
  )
]

pub switches-preserved : goal.switches-preserved
switches-preserved c = λ switch bit low.
    put_more (λ (at word : ℕ). (one : ℕ) → ((bit_at word one ≡ 1) ↔ BeginsAt c.args.fabric.now (tables_of c.args.cells.now) c.args.traffic c.args.block c.targets_of-targets.result c.targets_of-targets.ensures at one)) c.switches.words c.switches.switch c.starts_at.result
    (let same = c.switches.auto.words in let count = c.requires.count in let is = c.switches-switch-end.ensures.count in let less = c.switches-test.true in omega arith)
    (c.starts_at.ensures (tables_of c.args.cells.now) c.args.traffic c.targets_of-targets.ensures)
    (λ k before one. c.switches.invariant k one before) switch low bit
