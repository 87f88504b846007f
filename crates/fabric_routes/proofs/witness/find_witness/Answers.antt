use Rattle.std.proofs.Common.{sym, subst, ℕ, Option, arith, inl, inr}
use Rattle.std.specs.Prelude.{MatchOption}
use Rattle.std.proofs.lemmas.Bool.{cases_eq}
use Rattle.fabric_model.specs.declared.node.EndPort.{EndPort}
use Rattle.fabric_tables.specs.Cells.{tables_of}
use Rattle.fabric_routes.specs.Found.{channel_of}
use Rattle.fabric_routes.specs.Witness.{IsLeastAt, NoSourceTakes}
use Rattle.fabric_routes.proofs.WitnessLemmas.{least_witness}
use Rattle.fabric_routes.proofs.StartLemmas.{sent_low}
use Rattle.fabric_routes.proofs.witness.find_witness.Goals as goal

pub lids-init : goal.lids-init
lids-init c = λ other low. absurd (omega arith)

pub lids-preserved : goal.lids-preserved
lids-preserved c = λ other low. elim (cases_eq other c.lids.lid) [
  | inr before ↦ c.lids.invariant other (omega arith)
  | inl same ↦ subst (λ (d : ℕ). NoSourceTakes c.args.fabric.now (tables_of c.args.cells.now) c.args.traffic d (channel_of c.args.channel) (channel_of c.args.next)) (sym same) (subst (λ (o : Option EndPort). MatchOption o (NoSourceTakes c.args.fabric.now (tables_of c.args.cells.now) c.args.traffic c.lids.lid (channel_of c.args.channel) (channel_of c.args.next)) (IsLeastAt c.args.fabric.now (tables_of c.args.cells.now) c.args.traffic c.lids.lid (channel_of c.args.channel) (channel_of c.args.next))) c.in_default.is c.in_ok-found.ensures)
]

pub returns-in-Some : goal.returns-in-Some
returns-in-Some c = least_witness c.args.fabric.now (tables_of c.args.cells.now) c.args.traffic c.lids.lid (channel_of c.args.channel) (channel_of c.args.next) c.in-Some.source c.lids.invariant (subst (λ (o : Option EndPort). MatchOption o (NoSourceTakes c.args.fabric.now (tables_of c.args.cells.now) c.args.traffic c.lids.lid (channel_of c.args.channel) (channel_of c.args.next)) (IsLeastAt c.args.fabric.now (tables_of c.args.cells.now) c.args.traffic c.lids.lid (channel_of c.args.channel) (channel_of c.args.next))) c.in-Some.is c.in_ok-found.ensures)

pub returns : goal.returns
returns c = λ lid source takes. c.lids.invariant lid (let low = sent_low c.args.fabric.now (tables_of c.args.cells.now) c.args.traffic c.args.cells.now.blocks c.requires.owners c.blocks-lid-end.ensures.past lid source takes.comes.sends in omega arith) source takes
