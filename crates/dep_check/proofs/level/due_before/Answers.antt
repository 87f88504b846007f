use Rattle.std.proofs.Common.{◌≡◌, ◌⊎◌, ◌++◌, sym, subst, List, [], ◌∷◌, take, take_all, slice_index_or, inl, inr}
use Rattle.std.proofs.lemmas.List.Elements.{Contains-get_or, Contains-push_cases}
use Rattle.dep_check.specs.declared.channel.Channel.{Channel}
use Rattle.dep_check.specs.declared.steps.Steps.{Steps}
use Rattle.dep_check.specs.Search.{Step}
use Rattle.dep_check.specs.Rounds.{AddsDue, LeadsToOne}
use Rattle.dep_check.proofs.RoundLemmas.{adds_none, adds_more, none_in, taken_more, nowhere}
use Rattle.dep_check.proofs.level.due_before.Goals as goal

-- one more of the last
split : (steps : Steps) (xs : List Channel) (x s : Channel) → LeadsToOne steps (xs ++ x ∷ []) s → LeadsToOne steps xs s ⊎ Step steps s x
split steps xs x s (b, has, step) = elim (Contains-push_cases xs x b has) [
  | inl before ↦ inl (b, before, step)
  | inr same ↦ inr (subst (λ (y : Channel). Step steps s y) (sym same) step)
]

pub last-init : goal.last-init
last-init c = rw c.new-due.ensures.items (adds_none c.args.rule c.args.steps.now c.args.levels.now (LeadsToOne c.args.steps.now []) [] (λ s looked spot none. absurd (none_in looked.0 looked.1)))

pub add_all_before-requires-clause-spot : goal.add_all_before-requires-clause-spot
add_all_before-requires-clause-spot c = c.requires.spots _ (Contains-get_or c.args.last.now c.last.spot-index nowhere c.last-test.true)

pub last-preserved : goal.last-preserved
last-preserved c =
    let steps = c.args.steps.now in
    let xs = take c.last.spot-index c.args.last.now in
    let x = slice_index_or c.args.last.now c.last.spot-index nowhere in
    rw (taken_more c.args.last.now c.last.spot-index nowhere c.last-test.true)
    (adds_more c.args.rule steps c.args.levels.now (LeadsToOne steps xs) (λ s. Step steps s x) (LeadsToOne steps (xs ++ x ∷ [])) [] c.last.due.items c.add_all_before.new.due.items (λ s looked. split steps xs x s looked) c.last.invariant c.in_ok-add_all_before.ensures)

pub returns : goal.returns
returns c =
    let all : take c.last.spot-index c.args.last.now ≡ c.args.last.now = take_all c.last.spot-index c.args.last.now c.last-test.false in
    subst (λ (xs : List Channel). AddsDue c.args.rule c.args.steps.now c.args.levels.now (LeadsToOne c.args.steps.now xs) [] c.last.due.items) all c.last.invariant
