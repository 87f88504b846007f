use Rattle.std.proofs.Common.{◌≡◌, ◌∙◌, sym, ap, subst, refl, ℕ, zero, suc, ◌+◌, ◌<◌, ◌≤◌, List, Option, Some, None, Bool, true, false, arith, length, get_or, inl, inr}
use Rattle.std.proofs.lemmas.List.{get_or_default}
use Rattle.std.specs.Prelude.{is_some}
use Rattle.std.proofs.lemmas.Option.{same_Some}
use Rattle.common_values.proofs.ListLemmas.{some_is}
use Rattle.dep_check.specs.declared.channel.Channel.{Channel}
use Rattle.dep_check.specs.declared.steps.Steps.{Steps}
use Rattle.dep_check.specs.declared.level.Rule.{Rule}
use Rattle.dep_check.specs.declared.level.Rule.TheVariants.{Nearest}
use Rattle.dep_check.specs.Tables.{IsSpot, place_of, level_at, WiresAreWithin}
use Rattle.dep_check.specs.Search.{IsStepOf, Step, IsRaised, AreRaised, Reaches, AreNearest, AreNearestBelow}
use Rattle.dep_check.specs.Rounds.{AreGoals}
use Rattle.common_values.proofs.PigeonLemmas.{pigeons}
use Rattle.dep_check.proofs.SpotLemmas.{option_cases, place_low, one_spot}

-- what a step leads to is a spot
pub step_spot_of : (wires : List (Option Channel)) (exits : List ℕ) (to : Option ℕ) (s : Channel) (e : ℕ) (b : Channel) → WiresAreWithin wires → IsStepOf wires exits to s e b → IsSpot b
step_spot_of wires exits None s e b within is = record { at = (within s (record { at = b.at; port = is.entry }) is.arrives).at; port = (let p = is.port in let l = is.low in omega arith) }
step_spot_of wires exits (Some to) s e b within is = within (record { at = s.at; port = e }) b is.link

pub step_spot : (steps : Steps) (s b : Channel) → Step steps s b → IsSpot b
step_spot steps s b (e, is) = step_spot_of steps.wires.items steps.exits.items steps.to s e b steps.links.within is

pub none_is : (o : Option ℕ) → is_some o ≡ false → o ≡ None
none_is None e = refl
none_is (Some n) e = absurd (cc)

-- what a test of a level says
pub none_told : (o p : Option ℕ) (b : Bool) → o ≡ p → b ≡ is_some o → b ≡ false → p ≡ None
none_told None p b same is e = sym same
none_told (Some n) p b same is e = absurd (cc)

pub some_told : (o p : Option ℕ) (b : Bool) → o ≡ p → b ≡ is_some o → b ≡ true → (n : ℕ) × (p ≡ Some n)
some_told None p b same is e = absurd (cc)
some_told (Some n) p b same is e = (n, sym same)

-- what is read of a table is the level
pub level_read : (levels : List (Option ℕ)) (place : ℕ) (spot : Channel) (o : Option ℕ) → place ≡ place_of spot → place < length levels → o ≡ get_or levels place o → o ≡ level_at levels spot
level_read levels place spot o at low is = is ∙ get_or_default levels place o None low ∙ ap (λ (k : ℕ). get_or levels k None) at

-- the levels of a table go down by one, from each to one of the next
module _ (L : Channel → Option ℕ) (chain : (s : Channel) (n : ℕ) → IsSpot s → L s ≡ Some (suc n) → (b : Channel) × IsSpot b × (L b ≡ Some n)) where
  record Node : Type 0 where
    spot : Channel
    is : IsSpot spot
    level : ℕ
    has : L spot ≡ Some level

  lower_at : (s : Channel) (n : ℕ) → IsSpot s → L s ≡ Some n → Node
  lower_at s zero is has = record { spot = s; is = is; level = zero; has = has }
  lower_at s (suc n) is has = let b = chain s n is has in record { spot = b.0; is = b.1; level = n; has = b.2 }

  lower_level : (s : Channel) (n : ℕ) (is : IsSpot s) (has : L s ≡ Some n) → 1 ≤ n → (lower_at s n is has).level + 1 ≡ n
  unfolding lower_at
  lower_level s zero is has some = absurd (omega arith)
  lower_level s (suc n) is has some = omega arith

  node : Node → ℕ → Node
  node first zero = first
  node first (suc k) = let x = node first k in lower_at x.spot x.level x.is x.has

  node_level : (first : Node) (k : ℕ) → k ≤ first.level → (node first k).level + k ≡ first.level
  unfolding node
  node_level first zero low = omega arith
  node_level first (suc k) low =
      let before = node_level first k (omega arith) in
      let x = node first k in
      let down = lower_level x.spot x.level x.is x.has (omega arith) in
      omega arith

  -- so there are fewer than there are spots
  pub few_levels : (s : Channel) (n : ℕ) → IsSpot s → L s ≡ Some n → 1651 ≤ n → ⊥
  few_levels s n is has many =
      let first : Node = record { spot = s; is = is; level = n; has = has } in
      let p = pigeons 1651 (λ k. place_of (node first k).spot) (λ k low. place_low (node first k).spot (node first k).is) in
      let x = node first p.0 in
      let y = node first p.1 in
      let same : x.spot ≡ y.spot = one_spot x.spot y.spot x.is y.is p.4 in
      let level : x.level ≡ y.level = same_Some x.level y.level (sym x.has ∙ ap L same ∙ y.has) in
      let lt = p.2 in
      let le = p.3 in
      let a = node_level first p.0 (omega arith) in
      let b = node_level first p.1 (omega arith) in
      absurd (omega arith)

-- the levels at first
pub nearest_first : (steps : Steps) (Goal : Channel → Type 0) (goals : List (Option ℕ)) → AreGoals Goal goals → AreNearestBelow steps Goal 1 goals
nearest_first steps Goal goals are = record {
  reached = λ s n spot e. let h = are.some s n spot e in (rw h.0 (s, refl, h.1), omega arith);
  least = λ s n m spot e reach. let h = (are.some s n spot e).0 in omega arith;
  none = λ s m spot e reach. go s m spot e reach;
  last = inl refl;
  positive = omega arith;
}
  where
    go : (s : Channel) (m : ℕ) → IsSpot s → level_at goals s ≡ None → Reaches steps Goal m s → 1 ≤ m
    go s zero spot e (g, same, goal) = absurd (are.none s spot e (subst (λ (x : Channel). Goal x) (sym same) goal))
    go s (suc m) spot e reach = omega arith

-- what has no level after a round had none before it
pub had_none : (rule : Rule) (steps : Steps) (r : ℕ) (old new : List (Option ℕ)) → AreRaised rule steps old r 1651 new → (s : Channel) → IsSpot s → level_at new s ≡ None → level_at old s ≡ None
had_none rule steps r old new raised s spot e = elim (option_cases (level_at old s)) [
  | inl none ↦ none
  | inr some ↦ absurd (let k = (raised.each s spot (place_low s spot)).kept some.0 some.1 in cc)
]

module _ (aim : Channel) (steps : Steps) (Goal : Channel → Type 0) (r : ℕ) (old new : List (Option ℕ)) (so_far : AreNearestBelow steps Goal r old) (raised : AreRaised (Nearest aim) steps old r 1651 new) where
  at : (s : Channel) → IsSpot s → IsRaised (Nearest aim) steps old r s (level_at new s)
  at s spot = raised.each s spot (place_low s spot)

  -- what gets a level reaches a goal by as many steps as the round
  pub more_reached : (s : Channel) (n : ℕ) → IsSpot s → level_at new s ≡ Some n → Reaches steps Goal n s × (n < r + 1)
  more_reached s n spot e = elim (option_cases (level_at old s)) [
    | inl none ↦ (
        let up = (at s spot).raised n none e in
        let b = up.1.1 in
        let b_spot = step_spot steps s b (up.1.0, up.1.2) in
        let some = some_is (level_at old b) up.1.3 in
        let reach = so_far.reached b some.0 b_spot some.1 in
        let far : Reaches steps Goal (suc some.0) s = (reach.0.0, (b, (up.1.0, up.1.2), reach.0.1), reach.0.2) in
        let low = so_far.none s (suc some.0) spot none far in
        let is = up.0 in
        let lt = reach.1 in
        let count : suc some.0 ≡ n = omega arith in
        (subst (λ (m : ℕ). Reaches steps Goal m s) count far, omega arith))
    | inr some ↦ (
        let k = (at s spot).kept some.0 some.1 in
        let same : some.0 ≡ n = same_Some some.0 n (sym k ∙ e) in
        let reach = so_far.reached s some.0 spot some.1 in
        let lt = reach.1 in
        (subst (λ (m : ℕ). Reaches steps Goal m s) same reach.0, omega arith))
  ]

  pub more_least : (s : Channel) (n m : ℕ) → IsSpot s → level_at new s ≡ Some n → Reaches steps Goal m s → n ≤ m
  more_least s n m spot e reach = elim (option_cases (level_at old s)) [
    | inl none ↦ (let is = ((at s spot).raised n none e).0 in let low = so_far.none s m spot none reach in omega arith)
    | inr some ↦ (let same : some.0 ≡ n = same_Some some.0 n (sym ((at s spot).kept some.0 some.1) ∙ e) in let low = so_far.least s some.0 m spot some.1 reach in omega arith)
  ]

  more_none : (s : Channel) (m : ℕ) → IsSpot s → level_at new s ≡ None → Reaches steps Goal m s → r + 1 ≤ m
  more_none s zero spot e reach = absurd (let low = so_far.none s zero spot (had_none (Nearest aim) steps r old new raised s spot e) reach in let some = so_far.positive in omega arith)
  more_none s (suc m) spot e (g, (c, step, walk), goal) =
      let old_none = had_none (Nearest aim) steps r old new raised s spot e in
      let c_spot = step_spot steps s c step in
      elim (option_cases (level_at old c)) [
        | inl none ↦ (let low = so_far.none c m c_spot none (g, walk, goal) in omega arith)
        | inr some ↦ absurd ((at s spot).left old_none e (step.0, c, step.1, ap is_some some.1))
      ]

  -- one round more
  pub nearest_more : (s : Channel) → IsSpot s → level_at new s ≡ Some r → AreNearestBelow steps Goal (r + 1) new
  nearest_more s spot e = record {
    reached = more_reached;
    least = more_least;
    none = more_none;
    last = inr (s, spot, r, e, refl);
    positive = omega arith;
  }

  -- and the last
  done_none : ((s : Channel) → IsSpot s → level_at new s ≡ Some r → ⊥) → (m : ℕ) (s : Channel) → IsSpot s → level_at new s ≡ None → Reaches steps Goal m s → ⊥
  done_none still zero s spot e reach = absurd (let low = so_far.none s zero spot (had_none (Nearest aim) steps r old new raised s spot e) reach in let some = so_far.positive in omega arith)
  done_none still (suc m) s spot e (g, (c, step, walk), goal) =
      let c_spot = step_spot steps s c step in
      elim (option_cases (level_at new c)) [
        | inl none ↦ done_none still m c c_spot none (g, walk, goal)
        | inr some ↦ elim (option_cases (level_at old c)) [
          | inl none ↦ still c c_spot (some.1 ∙ ap (λ (n : ℕ). Some n) ((at c c_spot).raised some.0 none some.1).0)
          | inr before ↦ (at s spot).left (had_none (Nearest aim) steps r old new raised s spot e) e (step.0, c, step.1, ap is_some before.1)
        ]
      ]

  pub nearest_done : ((s : Channel) → IsSpot s → level_at new s ≡ Some r → ⊥) → AreNearest steps Goal new
  nearest_done still = record {
    reached = λ s n spot e. (more_reached s n spot e).0;
    least = more_least;
    none = λ s m spot e reach. done_none still m s spot e reach;
  }

-- no level is as great as the number of spots
pub nearest_few : (steps : Steps) (Goal : Channel → Type 0) (r : ℕ) (levels : List (Option ℕ)) → AreNearestBelow steps Goal r levels → 1652 ≤ r → ⊥
nearest_few steps Goal r levels so_far many = elim so_far.last [
  | inl first ↦ absurd (omega arith)
  | inr last ↦ (let n = last.4 in few_levels (level_at levels) chain last.0 last.2 last.1 last.3 (omega arith))
]
  where
    chain : (s : Channel) (n : ℕ) → IsSpot s → level_at levels s ≡ Some (suc n) → (b : Channel) × IsSpot b × (level_at levels b ≡ Some n)
    chain s n spot e =
        let reach = so_far.reached s (suc n) spot e in
        let lt = reach.1 in
        let c = reach.0.1.0 in
        let step = reach.0.1.1 in
        let near : Reaches steps Goal n c = (reach.0.0, reach.0.1.2, reach.0.2) in
        let c_spot = step_spot steps s c step in
        elim (option_cases (level_at levels c)) [
          | inl none ↦ absurd (let low = so_far.none c n c_spot none near in omega arith)
          | inr some ↦ (
              let back = (so_far.reached c some.0 c_spot some.1).0 in
              let le = so_far.least c some.0 n c_spot some.1 near in
              let ge = so_far.least s (suc n) (suc some.0) spot e (back.0, (c, step, back.1), back.2) in
              let same : some.0 ≡ n = omega arith in
              (c, c_spot, some.1 ∙ ap (λ (m : ℕ). Some m) same))
        ]
