use Rattle.std.proofs.Common.{◌∙◌, sym, arith, length, None, inl, inr}
use Rattle.std.proofs.lemmas.Bool.{cases_lt, iff_false}
use Rattle.std.proofs.lemmas.List.{get_or_past}
use Rattle.std.proofs.lemmas.Option.{none-some}
use Rattle.fabric_lane_tables.proofs.InUseLemmas.{lid_passed, lid_pushed}
use Rattle.fabric_lane_tables.proofs.in_use.lids_of.Goals as goal
use Rattle.fabric_lane_tables.proofs.in_use.lids_of.Goals.{then-is_owner+in_ok-push, else-is_owner}

pub lids-preserved : goal.lids-preserved
lids-preserved c = elim c.if-is_owner.branch [
  | then-is_owner+in_ok-push w ↦
      rw (w.lids-is, w.in_ok-push.ensures.items)
      (lid_pushed c.args.fabric.now c.args.source c.lids.lids.items c.lids.lid (sym c.owner.ensures ∙ c.is_owner.ensures.0 w.if-is_owner.true) c.lids.invariant)
  | else-is_owner w ↦
      rw w.lids-is
      (lid_passed c.args.fabric.now c.args.source c.lids.lids.items c.lids.lid (λ owned. iff_false c.is_owner.ensures w.if-is_owner.false (c.owner.ensures ∙ owned)) c.lids.invariant)
]

pub returns : goal.returns
returns c = record {
  are = c.lids.invariant.are;
  all = λ lid has. elim (cases_lt lid (length c.args.fabric.now.owners)) [
    | inl low ↦ c.lids.invariant.all lid (omega (arith, c.lids-lid-end.ensures.count)) has
    | inr past ↦ absurd (none-some c.args.source (sym (get_or_past c.args.fabric.now.owners lid None past) ∙ has))
  ];
}
