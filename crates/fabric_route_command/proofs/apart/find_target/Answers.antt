use Rattle.std.proofs.Common.{subst, None, length, arith, inl, inr}
use Rattle.std.proofs.lemmas.Bool.{cases_eq, cases_lt}
use Rattle.std.proofs.lemmas.List.{get_or_past}
use Rattle.fabric_route_command.specs.Parts.{IsOtherTarget}
use Rattle.fabric_route_command.proofs.apart.find_target.Goals as goal

pub lids-preserved : goal.lids-preserved
lids-preserved c lid low is = elim (cases_eq lid c.lids.lid) [
  | inl same ↦ (let other = subst (IsOtherTarget c.args.fabric.now c.args.traffic c.args.labels.now c.args.label) same is in let told = c.is_other_target.ensures.1 other in let not = c.if-is_other_target.false in cc)
  | inr before ↦ c.lids.invariant lid (omega arith) is
]

pub returns : goal.returns
returns c lid is = elim (cases_lt lid (length c.args.fabric.now.owners)) [
  | inl low ↦ c.lids.invariant lid (omega arith) is
  | inr past ↦ (let none = get_or_past c.args.fabric.now.owners lid None past in let owns = is.1 in cc)
]
