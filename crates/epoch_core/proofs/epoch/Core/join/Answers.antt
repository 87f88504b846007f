use Rattle.std.proofs.Common.{◌≡◌, ◌∙◌, sym, ap, subst, refl, List, [], ◌++◌, length, None}
use Rattle.std.specs.Prelude.{◌==◌, replicate}
use Rattle.an_base.specs.Values.{Place}
use Rattle.tree_position.specs.Position.{OffersOf, self_root}
use Rattle.epoch_core.specs.Log.{CardOf, OnPort}
use Rattle.epoch_core.specs.Epoch.{positions_of, adds}
use Rattle.epoch_core.specs.StandsFor.{CoreOf, StandsFor}
use Rattle.epoch_core.proofs.JoinLemmas.{HasJoined, stands_linked, stands_alone, sends_alone, adds_none}
use Rattle.epoch_core.proofs.epoch.Core.join.Goals as goal
use Rattle.epoch_core.proofs.epoch.Core.join.Goals.{then-is_alone+in_ok-finish_as_root, else-is_alone}

-- the core as it is made
abbrev made : goal.Joined-is_alone → CoreOf
made c = record { card = c.new.result; epoch = c.args.epoch; offers = c.new-2.result; ports = c.new-3.result; position = c.new-position.result; version = 1; is_stable = c.is_empty-is_alone.result; finish = None }

joined : (c : goal.Joined-is_alone) → HasJoined (made c)
joined c =
    let offers : CardOf → OffersOf = λ d. record { me = d.me; links = d.links; offered = replicate (length d.links) None } in
    record {
      offers = c.new-2.ensures ∙ ap offers (sym c.new.ensures);
      ports = c.new-3.ensures;
      position = c.new-position.ensures ∙ ap (λ (d : CardOf). self_root d.me) (sym c.new.ensures);
      version = refl;
      stable = c.is_empty-is_alone.ensures ∙ ap (λ (d : CardOf). length d.links == 0) (sym c.new.ensures);
      finish = refl;
    }

-- what is told
tells : (c : goal.Joined-is_alone) → c.tell_position.new.sends ≡ c.args.sends.now ++ adds (record { me = c.args.me; proposed = c.args.proposed; links = c.args.links.now }) []
tells c =
    c.in_ok-tell_position.ensures
    ∙ ap (λ (p : Place). c.args.sends.now ++ positions_of 1 p c.args.links.now) c.new-position.ensures
    ∙ ap (λ (xs : List OnPort). c.args.sends.now ++ xs) (adds_none (record { me = c.args.me; proposed = c.args.proposed; links = c.args.links.now }))

pub returns-clause-stands : goal.returns-clause-stands
returns-clause-stands c =
    elim c.if-is_alone.branch [
      | then-is_alone+in_ok-finish_as_root w ↦
          let none = ap (λ (d : CardOf). length d.links == 0) c.new.ensures ∙ sym c.is_empty-is_alone.ensures ∙ w.if-is_alone.true in
          subst (λ (o : CoreOf). StandsFor o []) (sym w.core-is) (stands_alone (made c) w.finish_as_root.new.self c.tell_position.new.sends w.finish_as_root.new.sends (joined c) none w.in_ok-finish_as_root.ensures)
      | else-is_alone w ↦
          let some = ap (λ (d : CardOf). length d.links == 0) c.new.ensures ∙ sym c.is_empty-is_alone.ensures ∙ w.if-is_alone.false in
          subst (λ (o : CoreOf). StandsFor o []) (sym w.core-is) (stands_linked (made c) (joined c) some)
    ]

pub returns-clause-sends : goal.returns-clause-sends
returns-clause-sends c =
    elim c.if-is_alone.branch [
      | then-is_alone+in_ok-finish_as_root w ↦
          let none = ap (λ (d : CardOf). length d.links == 0) c.new.ensures ∙ sym c.is_empty-is_alone.ensures ∙ w.if-is_alone.true in
          w.sends-is ∙ sends_alone (made c) w.finish_as_root.new.self c.tell_position.new.sends w.finish_as_root.new.sends (joined c) none w.in_ok-finish_as_root.ensures ∙ tells c
      | else-is_alone w ↦ w.sends-is ∙ tells c
    ]
