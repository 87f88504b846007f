-- The first packet that is shown has the number that is filed first.
use Rattle.std.proofs.Common.{◌∙◌, ap, sym, Some}
use Rattle.std.specs.Option.{option_map}
use Rattle.std.proofs.lemmas.Option.{slice_get-get_or}
use Rattle.host_traffic.specs.declared.traffic.Filed.{Filed}
use Rattle.host_traffic.proofs.FiledLemmas.{first_is}
use Rattle.host_traffic.proofs.StepLemmas.{shown_rises}
use Rattle.host_traffic.proofs.traffic.Traffic.first.Goals as goal

pub returns-clause-first : goal.returns-clause-first
returns-clause-first c =
    let order = c.self.inside.order.items in
    let filed = c.in_ok-filed.filed.now in
    let item = c.in_ok-filed.ensures.item in
    let there = slice_get-get_or order 0 filed item.3.0 ∙ ap Some (sym c.in_ok-filed.ensures.lookup) in
    rw (← c.self.view_is) (sym (first_is c.self.inside.packets order c.self.invariant.each ∙ ap (option_map (λ (f : Filed). f.packet)) there))

pub returns-clause-rising : goal.returns-clause-rising
returns-clause-rising c = rw (← c.self.view_is) (shown_rises c.self.inside.packets c.self.inside.order.items c.self.invariant.each c.self.invariant.rising)
