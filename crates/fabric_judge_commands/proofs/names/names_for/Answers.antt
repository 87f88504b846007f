use Rattle.std.specs.Prelude.{Contains}
use Rattle.std.proofs.Common.{◌∙◌, subst, ℕ, List, get_or, arith}
use Rattle.std.proofs.lemmas.List.Elements.{Contains-get_or}
use Rattle.fabric_judge_commands.proofs.NameLemmas.{name_more}
use Rattle.fabric_judge_commands.proofs.names.names_for.Goals as goal

pub guids-preserved : goal.guids-preserved
guids-preserved c =
    let guids = c.as_slice-guid-items.result.now in
    let place = c.guids.guid-index in
    let guid = get_or guids place 0 in
    let has = subst (λ (xs : List ℕ). Contains xs guid) c.as_slice-guid-items.ensures.keys (Contains-get_or guids place 0 (omega arith)) in
    name_more c.args.text.now guids place c.guids.names.items c.push_name.new.names.items _ (omega arith) c.guids.invariant (c.in_ok-push_name.ensures) (c.get.ensures.value ∙ c.in_ok-told.ensures.asked guid has)
