use Rattle.std.proofs.Common.{refl, subst, sym, ℕ, arith, inl, inr}
use Rattle.std.proofs.lemmas.Bool.{cases_eq, cases_lt}
use Rattle.fabric_tables.specs.Cells.{tables_of}
use Rattle.fabric_repair.specs.Repaired.{HasKept}
use Rattle.fabric_repair.proofs.CopyLemmas.{filled_on, past_switches}
use Rattle.fabric_repair.proofs.writing.copy_switches.Goals as goal

pub switches-init : goal.switches-init
switches-init c = record {
  switches = refl;
  blocks = refl;
  kept = λ switch lid low. absurd (omega arith);
  filled = λ switch lid. inl refl;
}

pub switches-preserved : goal.switches-preserved
switches-preserved c = record {
  switches = cc;
  blocks = cc;
  kept = λ switch lid low. elim (cases_eq switch c.switches.switch) [
    | inl same ↦ subst (λ (s : ℕ). HasKept (tables_of c.args.given.now) (tables_of c.copy_switch.new.made) s lid) (sym same) (c.copy_switch.ensures.here lid)
    | inr differs ↦ λ none. c.switches.invariant.kept switch lid (omega arith) (c.copy_switch.ensures.kept switch lid none)
  ];
  filled = filled_on (tables_of c.args.given.now) (tables_of c.args.made.now) (tables_of c.switches.made) (tables_of c.copy_switch.new.made) c.switches.invariant.filled c.copy_switch.ensures.filled;
}

pub returns-clause-kept : goal.returns-clause-kept
returns-clause-kept c switch lid none = elim (cases_lt switch c.args.given.now.switches) [
  | inl low ↦ c.switches.invariant.kept switch lid (omega arith) none
  | inr past ↦ past_switches c.args.given.now switch lid (omega arith)
]
