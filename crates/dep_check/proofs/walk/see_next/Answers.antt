use Rattle.std.proofs.Common.{◌≡◌, ◌≢◌, ◌∙◌, ◌⊎◌, ◌<◌, ◌^◌, ltb, ℕ, true, Option, Some, refl, sym, subst, arith, inl, inr}
use Rattle.std.specs.Int.{bit_at, trailing_zeros, w16}
use Rattle.std.proofs.lemmas.Bool.{cases_eq, and_parts}
use Rattle.an_base.proofs.PortSetLemmas.{lowest_is, no_bit}
use Rattle.dep_check.specs.declared.channel.Channel.{Channel}
use Rattle.dep_check.specs.declared.steps.Steps.{Steps}
use Rattle.an_base.specs.Rows.{IsWithout}
use Rattle.dep_check.specs.Tables.{has_at}
use Rattle.dep_check.specs.Search.{GoesBy, IsEnd, IsEndOf, IsStep, IsStepOf, IsStuck, Step}
use Rattle.dep_check.proofs.SpotLemmas.{option_cases}
use Rattle.dep_check.proofs.WalkLemmas.{sees_none, sees_as, sees_more}
use Rattle.dep_check.proofs.walk.see_next.Goals as goal

-- one exit more
split : (steps : Steps) (spot b : Channel) (k old new : ℕ) → IsWithout old k new → (e : ℕ) × (bit_at new e ≡ 1 → ⊥) × IsStep steps spot e b → ((e : ℕ) × (bit_at old e ≡ 1 → ⊥) × IsStep steps spot e b) ⊎ IsStep steps spot k b
split steps spot b k old new without (e, gone, step) = elim (cases_eq e k) [
  | inl last ↦ inr (subst (λ (n : ℕ). IsStep steps spot n b) last step)
  | inr other ↦ inl (e, (λ is. gone ((without e).1 (is, other))), step)
]

-- where a step leads on by each exit, and there is some, no packets get stuck
not_stuck : (steps : Steps) (s : Channel) (exits : ℕ) → exits ≢ 0 → exits < 2 ^ 16 → ((to e : ℕ) → steps.to ≡ Some to → s.at ≢ to → e < 13 → has_at steps.exits.items s e ≡ true → bit_at exits e ≡ 1) → ((e : ℕ) → bit_at exits e ≡ 1 → (b : Channel) × IsStep steps s e b) → IsStuck steps s → ⊥
not_stuck steps s exits some small all leads stuck = elim (option_cases steps.to) [
  | inl none ↦ subst (λ (t : Option ℕ). IsEndOf steps.wires.items steps.exits.items t s) none stuck
  | inr there ↦ (
      let end : IsEnd steps.wires.items steps.exits.items there.0 s = subst (λ (t : Option ℕ). IsEndOf steps.wires.items steps.exits.items t s) there.1 stuck in
      let goes : (e : ℕ) → bit_at exits e ≡ 1 → (b : Channel) × GoesBy steps.wires.items steps.exits.items there.0 s e b = (λ (e : ℕ) (has : bit_at exits e ≡ 1). let step = leads e has in (step.0, subst (λ (t : Option ℕ). IsStepOf steps.wires.items steps.exits.items t s e step.0) there.1 step.1)) in
      elim end.gap [
        | inl empty ↦ (let first = lowest_is exits some small in let go = (goes (trailing_zeros w16 exits) first.0).1 in empty (trailing_zeros w16 exits) go.low go.has)
        | inr loose ↦ absurd (
            let go = goes loose.0 (all there.0 loose.0 there.1 end.before loose.1 loose.2) in
            let link = go.1.link in
            let gone = loose.3 in
            cc)
      ])
]

pub exits-init : goal.exits-init
exits-init c = record {
  sees = sees_none (λ b. (e : ℕ) × (bit_at c.exits_from-exits.result e ≡ 1 → ⊥) × IsStep c.args.steps.now c.args.spot e b) c.args.seen.now.items c.args.ahead.now.items (λ s kind. absurd (kind.1 (c.exits_from-exits.ensures.steps kind.0 s kind.2)));
  ports = c.exits_from-exits.ensures.ports;
  within = λ e is. is;
  clear = λ t. ((λ none. absurd (let f : ltb 0 0 ≡ true = subst (λ (n : ℕ). ltb 0 n ≡ true) none t in cc)), λ e is gone. absurd (gone is));
}

pub see_exit-requires-clause-count : goal.see_exit-requires-clause-count
see_exit-requires-clause-count c = c.exits.invariant.sees.count ∙ c.requires.count

pub see_exit-requires-clause-exit : goal.see_exit-requires-clause-exit
see_exit-requires-clause-exit c = c.exits.invariant.ports c.lowest-exit.result c.lowest-exit.ensures.has

pub exits-preserved : goal.exits-preserved
exits-preserved c =
    let steps = c.args.steps.now in
    let spot = c.args.spot in
    let k = c.lowest-exit.result in
    let old = c.exits.left in
    let new = c.without-left.result in
    let is = c.without-left.ensures.ports in
    record {
      sees = sees_more (λ b. (e : ℕ) × (bit_at old e ≡ 1 → ⊥) × IsStep steps spot e b) (IsStep steps spot k) (λ b. (e : ℕ) × (bit_at new e ≡ 1 → ⊥) × IsStep steps spot e b) c.args.seen.now.items c.exits.seen.items c.see_exit.new.seen.items c.args.ahead.now.items c.exits.ahead.items c.see_exit.new.ahead.items (λ s kind. split steps spot s k old new is kind)
          (λ s kind. (kind.0, (λ has. kind.1 ((is kind.0).0 has).0), kind.2))
          (λ s step. (k, (λ has. ((is k).0 has).1 refl), step)) c.exits.invariant.sees c.in_ok-leads.ensures.sees;
      ports = λ p has. c.exits.invariant.ports p ((is p).0 has).0;
      within = λ e has. c.exits.invariant.within e ((is e).0 has).0;
      clear = λ t.
          let both = and_parts c.exits.clear c.in_ok-leads.leads t in
          let was = c.exits.invariant.clear both.0 in (
            was.0,
            λ e has gone. elim (cases_eq e k) [
              | inl last ↦ subst (λ (n : ℕ). (b : Channel) × IsStep steps spot n b) (sym last) (c.in_ok-leads.ensures.leads both.1)
              | inr other ↦ was.1 e has (λ left. gone ((is e).1 (left, other)))
            ],
          );
    }

pub returns-clause-clear : goal.returns-clause-clear
returns-clause-clear c = λ t.
    let was = c.exits.invariant.clear t in
    not_stuck c.args.steps.now c.args.spot c.exits_from-exits.result was.0 (omega arith) c.exits_from-exits.ensures.all (λ e has. was.1 e has (no_bit c.exits.left e (omega arith)))

pub returns-clause-sees : goal.returns-clause-sees
returns-clause-sees c =
    let steps = c.args.steps.now in
    let spot = c.args.spot in
    let left = c.exits.left in
    let none : left ≡ 0 = omega arith in
    sees_as (λ b. (e : ℕ) × (bit_at left e ≡ 1 → ⊥) × IsStep steps spot e b) (Step steps spot) c.args.seen.now.items c.exits.seen.items c.args.ahead.now.items c.exits.ahead.items
    (λ s step. (step.0, no_bit left step.0 none, step.1))
    (λ s kind. (kind.0, kind.2)) c.exits.invariant.sees
