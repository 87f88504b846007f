use Rattle.std.proofs.Common.{refl, subst, sym, ℕ, ◌*◌, arith, inl, inr}
use Rattle.std.proofs.lemmas.Bool.{cases_eq, cases_lt}
use Rattle.fabric_tables.specs.Cells.{tables_of}
use Rattle.fabric_repair.specs.Repaired.{HasKept}
use Rattle.fabric_repair.proofs.CopyLemmas.{filled_on}
use Rattle.fabric_repair.proofs.writing.copy_switch.Goals as goal

pub lids-init : goal.lids-init
lids-init c = record {
  switches = refl;
  blocks = refl;
  kept = λ switch lid none. none;
  here = λ lid low. absurd (omega arith);
  filled = λ switch lid. inl refl;
}

pub lids-preserved : goal.lids-preserved
lids-preserved c = record {
  switches = cc;
  blocks = cc;
  kept = λ switch lid none. c.lids.invariant.kept switch lid (c.copy_cell.ensures.kept switch lid none);
  here = λ lid low. elim (cases_eq lid c.lids.lid) [
    | inl same ↦ subst (λ (l : ℕ). HasKept (tables_of c.args.given.now) (tables_of c.copy_cell.new.made) c.args.switch l) (sym same) c.copy_cell.ensures.here
    | inr differs ↦ λ none. c.lids.invariant.here lid (omega arith) (c.copy_cell.ensures.kept c.args.switch lid none)
  ];
  filled = filled_on (tables_of c.args.given.now) (tables_of c.args.made.now) (tables_of c.lids.made) (tables_of c.copy_cell.new.made) c.lids.invariant.filled c.copy_cell.ensures.filled;
}

pub returns-clause-here : goal.returns-clause-here
returns-clause-here c lid none = elim (cases_lt lid (64 * c.args.given.now.blocks)) [
  | inl low ↦ c.lids.invariant.here lid (omega arith) none
  | inr past ↦ c.blocks-lid-end.ensures.past c.args.switch lid past
]
