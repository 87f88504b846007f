use Rattle.std.proofs.Common.{◌≡◌, ◌<◌, ◌⊎◌, ◌+◌, ℕ, subst, arith, inl, inr}
use Rattle.std.proofs.lemmas.Bool.{cases_eq}
use Rattle.dep_check.specs.declared.channel.Channel.{Channel}
use Rattle.dep_check.specs.declared.steps.Steps.{Steps}
use Rattle.dep_check.specs.Search.{ComesIn, Step}
use Rattle.dep_check.proofs.StepLemmas.{entry_of}
use Rattle.dep_check.proofs.RoundLemmas.{adds_none, adds_more, adds_as}
use Rattle.dep_check.proofs.level.add_all_before.Goals as goal

-- one entry more
split : (steps : Steps) (spot s : Channel) (k : ℕ) → (e : ℕ) × (e < k + 1) × ComesIn steps s spot e → ((e : ℕ) × (e < k) × ComesIn steps s spot e) ⊎ ComesIn steps s spot k
split steps spot s k (e, low, comes) = elim (cases_eq e k) [
  | inl last ↦ inr (subst (λ (n : ℕ). ComesIn steps s spot n) last comes)
  | inr before ↦ inl (e, omega arith, comes)
]

pub entries-init : goal.entries-init
entries-init c = adds_none c.args.rule c.args.steps.now c.args.levels.now (λ s. (e : ℕ) × (e < 0) × ComesIn c.args.steps.now s c.args.spot e) c.args.due.now.items (λ s looked spot none. let low = looked.1 in absurd (omega arith))

pub entries-preserved : goal.entries-preserved
entries-preserved c =
    let steps = c.args.steps.now in
    let spot = c.args.spot in
    let k = c.entries.entry in
    adds_more c.args.rule steps c.args.levels.now (λ s. (e : ℕ) × (e < k) × ComesIn steps s spot e) (λ s. ComesIn steps s spot k) (λ s. (e : ℕ) × (e < k + 1) × ComesIn steps s spot e) c.args.due.now.items c.entries.due.items c.add_before.new.due.items (λ s looked. split steps spot s k looked) c.entries.invariant c.in_ok-add_before.ensures

pub returns : goal.returns
returns c =
    let steps = c.args.steps.now in
    let spot = c.args.spot in
    let k = c.entries.entry in
    let all : 13 ≡ k = omega arith in
    adds_as c.args.rule steps c.args.levels.now (λ s. (e : ℕ) × (e < k) × ComesIn steps s spot e) (λ s. Step steps s spot) c.args.due.now.items c.entries.due.items
    (λ s step. let e = entry_of steps s spot c.requires.channels step in (e.0, (let low = e.1 in omega arith), e.2)) c.entries.invariant
