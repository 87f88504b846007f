use Rattle.std.proofs.Common.{◌≡◌, ◌∙◌, sym, ap, subst, refl, arith, List, [], ◌∷◌, ◌++◌, append_assoc, append-nil, length}
use Rattle.switch_core.specs.Stands.{Done, HasNumbers}
use Rattle.switch_core.specs.Steps.{all_pushed}
use Rattle.switch_core.proofs.PushLemmas.{numbers_first, numbers_left, pushes_more}
use Rattle.switch_core.proofs.StandsLemmas.{does_nothing}
use Rattle.switch_core.proofs.control.Control.push_all.Goals as goal

no_items : {A : Type 0} (xs : List A) → length xs ≡ 0 → xs ≡ []
no_items [] none = refl
no_items (x ∷ xs) none = absurd (omega (arith, none))

pub sends-init : goal.sends-init
sends-init c =
    let items : c.into_iter-outgoing-iterator.result.rest.items ≡ c.args.sends = c.into_iter-outgoing-iterator.ensures.into_iter_gives.0 ∙ c.into_vec-outgoing-items.ensures in
    (sym items, does_nothing c.args.self.now c.args.out.now, subst (HasNumbers c.args.self.now) (sym items) c.requires)

pub push-requires : goal.push-requires
push-requires c = numbers_first c.sends.self c.in-Some.outgoing c.next.new.self.rest.items (subst (HasNumbers c.sends.self) c.in-Some.ensures.steps.0 c.sends.invariant.2)

pub sends-preserved : goal.sends-preserved
sends-preserved c =
    let x = c.in-Some.outgoing in
    let has = subst (HasNumbers c.sends.self) c.in-Some.ensures.steps.0 c.sends.invariant.2 in (
      c.sends.invariant.0 ∙ ap (λ xs. c.sends.yielded ++ xs) c.in-Some.ensures.steps.0 ∙ sym (append_assoc c.sends.yielded (x ∷ []) c.next.new.self.rest.items),
      pushes_more c.sends.yielded x c.args.self.now c.sends.self c.push.new.self c.args.out.now c.sends.out c.push.new.out c.sends.invariant.1 c.in_ok-push.ensures,
      numbers_left c.sends.self c.push.new.self x c.next.new.self.rest.items c.sends.out c.push.new.out has c.in_ok-push.ensures,
    )

pub returns : goal.returns
returns c s stands =
    subst (λ xs. Done c.sends.self c.args.out.now c.sends.out (all_pushed xs s)) (sym (c.sends.invariant.0 ∙ ap (λ xs. c.sends.yielded ++ xs) (no_items c.sends.outgoing-iterator.rest.items (omega (arith, c.in-None.ensures.steps.0, c.sends.outgoing-iterator.rest.ok))) ∙ append-nil c.sends.yielded)) (c.sends.invariant.1 s stands)
