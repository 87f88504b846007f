use Rattle.std.proofs.Common.{◌-◌, ◌≡◌, ◌∙◌, sym, ap, subst, refl, ℕ, zero, suc, ◌+◌, ◌<◌, ◌≤◌, List, [], ◌∷◌, Option, Some, None, arith, inl, inr}
use Rattle.std.specs.Prelude.{is_some}
use Rattle.std.proofs.lemmas.Option.{same_Some}
use Rattle.dep_check.specs.declared.channel.Channel.{Channel}
use Rattle.dep_check.specs.declared.steps.Steps.{Steps}
use Rattle.dep_check.specs.declared.level.Rule.TheVariants.{Rank}
use Rattle.common_graph.specs.Cycles.{Path, IsCycle}
use Rattle.dep_check.specs.Tables.{IsSpot, place_of, level_at}
use Rattle.dep_check.specs.Search.{Step, IsStepOf, IsLinked, IsRaised, AreRaised, IsRanked, AreRanked, AreRankedBelow}
use Rattle.common_values.proofs.PigeonLemmas.{pigeons}
use Rattle.dep_check.proofs.SpotLemmas.{option_cases, place_low, one_spot}
use Rattle.dep_check.proofs.LevelLemmas.{step_spot, none_is, few_levels, had_none}

-- no ranks at first
pub rank_first : (steps : Steps) (levels : List (Option ℕ)) → ((s : Channel) → level_at levels s ≡ None) → AreRankedBelow steps 0 levels
rank_first steps levels none = record {
  ranked = λ s n spot e. absurd (let f = none s in cc);
  late = λ s spot linked e. inl refl;
  last = inl refl;
}

module _ (steps : Steps) (r : ℕ) (old new : List (Option ℕ)) (so_far : AreRankedBelow steps r old) (raised : AreRaised Rank steps old r 1651 new) where
  at : (s : Channel) → IsSpot s → IsRaised Rank steps old r s (level_at new s)
  at s spot = raised.each s spot (place_low s spot)

  -- what has a rank keeps it
  kept : (s : Channel) (n : ℕ) → IsSpot s → IsRanked steps old s n → IsRanked steps new s n
  kept s n spot ranked = record {
    link = ranked.link;
    above = λ b step. let h = ranked.above b step in (h.0, (at b (step_spot steps s b step)).kept h.0 h.1, h.2);
    next = elim ranked.next [
      | inl first ↦ inl first
      | inr (b, m, step, has, is) ↦ inr (b, m, step, (at b (step_spot steps s b step)).kept m has, is)
    ];
  }

  -- what gets one
  raised_rank : (s : Channel) (n : ℕ) → IsSpot s → level_at old s ≡ None → level_at new s ≡ Some n → IsRanked steps new s n × (n < r + 1)
  raised_rank s n spot none e =
      let up = (at s spot).raised n none e in
      let is = up.0 in
      let all : (b : Channel) (step : Step steps s b) → (m : ℕ) × (level_at old b ≡ Some m) = (λ (b : Channel) (step : Step steps s b). elim (option_cases (level_at old b)) [
        | inl bare ↦ absurd (up.1.1 (step.0, b, step.1, ap is_some bare))
        | inr some ↦ some
      ]) in (
        record {
          link = up.1.0;
          above = λ b step.
              let some = all b step in
              let b_spot = step_spot steps s b step in
              let lt = (so_far.ranked b some.0 b_spot some.1).1 in
              (some.0, (at b b_spot).kept some.0 some.1, omega arith);
          next = elim (so_far.late s spot up.1.0 none) [
            | inl first ↦ inl (is ∙ first)
            | inr (b, step, last) ↦ (let some = all b step in inr (b, some.0, step, (at b (step_spot steps s b step)).kept some.0 some.1, is ∙ sym (last some.0 some.1)))
          ];
        },
        omega arith,
      )

  pub more_ranked : (s : Channel) (n : ℕ) → IsSpot s → level_at new s ≡ Some n → IsRanked steps new s n × (n < r + 1)
  more_ranked s n spot e = elim (option_cases (level_at old s)) [
    | inl none ↦ raised_rank s n spot none e
    | inr some ↦ (
        let same : some.0 ≡ n = same_Some some.0 n (sym ((at s spot).kept some.0 some.1) ∙ e) in
        let before = so_far.ranked s some.0 spot some.1 in
        let lt = before.1 in
        (subst (λ (m : ℕ). IsRanked steps new s m) same (kept s some.0 spot before.0), omega arith))
  ]

  -- what gets none leads to what had none
  more_late : (s : Channel) → IsSpot s → IsLinked steps s → level_at new s ≡ None → (b : Channel) × Step steps s b × ((n : ℕ) → level_at new b ≡ Some n → n ≡ r)
  more_late s spot linked e =
      let next = (at s spot).left (had_none Rank steps r old new raised s spot e) e linked in
      let step : Step steps s next.1 = (next.0, next.2) in
      let b_spot = step_spot steps s next.1 step in
      (next.1, step, λ n has. ((at next.1 b_spot).raised n (none_is (level_at old next.1) next.3) has).0)

  -- one round more
  pub rank_more : (s : Channel) → IsSpot s → level_at new s ≡ Some r → AreRankedBelow steps (r + 1) new
  rank_more s spot e = record {
    ranked = more_ranked;
    late = λ s spot linked none. let late = more_late s spot linked none in inr (late.0, late.1, λ n has. let is = late.2 n has in omega arith);
    last = inr (s, spot, r, e, refl);
  }

  -- and the last
  pub rank_done : ((s : Channel) → IsSpot s → level_at new s ≡ Some r → ⊥) → AreRanked steps new
  rank_done still = record {
    ranked = λ s n spot e. (more_ranked s n spot e).0;
    late = λ s spot linked none.
        let late = more_late s spot linked none in (
          late.0,
          late.1,
          elim (option_cases (level_at new late.0)) [
            | inl bare ↦ bare
            | inr some ↦ absurd (still late.0 (step_spot steps s late.0 late.1) (some.1 ∙ ap (λ (n : ℕ). Some n) (late.2 some.0 some.1)))
          ],
        );
  }

-- no rank is as great as the number of spots
pub rank_few : (steps : Steps) (r : ℕ) (levels : List (Option ℕ)) → AreRankedBelow steps r levels → 1652 ≤ r → ⊥
rank_few steps r levels so_far many = elim so_far.last [
  | inl first ↦ absurd (omega arith)
  | inr last ↦ (let n = last.4 in few_levels (level_at levels) chain last.0 last.2 last.1 last.3 (omega arith))
]
  where
    chain : (s : Channel) (n : ℕ) → IsSpot s → level_at levels s ≡ Some (suc n) → (b : Channel) × IsSpot b × (level_at levels b ≡ Some n)
    chain s n spot e = elim (so_far.ranked s (suc n) spot e).0.next [
      | inl first ↦ absurd (omega arith)
      | inr (b, m, step, has, is) ↦ (let same : m ≡ n = omega arith in (b, step_spot steps s b step, has ∙ ap (λ (k : ℕ). Some k) same))
    ]

-- a channel that a channel leads to has a link
pub step_linked : (steps : Steps) (s b : Channel) → steps.to ≡ None → Step steps s b → IsLinked steps b
step_linked steps s b to (e, is) = let d = subst (λ (t : Option ℕ). IsStepOf steps.wires.items steps.exits.items t s e b) to is in (d.far, d.link)

-- where a channel has no rank, some channels lead round
module _ (steps : Steps) (levels : List (Option ℕ)) (channels : steps.to ≡ None) (ranked : AreRanked steps levels) where
  record Late : Type 0 where
    spot : Channel
    is : IsSpot spot
    link : IsLinked steps spot
    none : level_at levels spot ≡ None

  later : (x : Late) → (y : Late) × Step steps x.spot y.spot
  later x =
      let b = ranked.late x.spot x.is x.link x.none in
      (record { spot = b.0; is = step_spot steps x.spot b.0 b.1; link = step_linked steps x.spot b.0 channels b.1; none = b.2 }, b.1)

  late_at : Late → ℕ → Late
  late_at first zero = first
  late_at first (suc k) = (later (late_at first k)).0

  trail : Late → ℕ → ℕ → List Channel
  trail first i zero = []
  trail first i (suc d) = (late_at first (suc i)).spot ∷ trail first (suc i) d

  late_step : (first : Late) (k : ℕ) → Step steps (late_at first k).spot (late_at first (suc k)).spot
  unfolding late_at
  late_step first k = (later (late_at first k)).1

  late_path : (first : Late) (d i k : ℕ) → k ≡ i + suc d → Path (Step steps) (late_at first i).spot (trail first i d) (late_at first k).spot
  unfolding trail
  late_path first zero i k e = let is : suc i ≡ k = omega arith in subst (λ (n : ℕ). Step steps (late_at first i).spot (late_at first n).spot) is (late_step first i)
  late_path first (suc d) i k e = (late_step first i, late_path first d (suc i) k (omega arith))

  pub late_cycle : (s : Channel) → IsSpot s → IsLinked steps s → level_at levels s ≡ None → (c : Channel) × (cs : List Channel) × IsCycle (Step steps) c cs
  late_cycle s is link none =
      let first : Late = record { spot = s; is = is; link = link; none = none } in
      let p = pigeons 1651 (λ k. place_of (late_at first k).spot) (λ k low. place_low (late_at first k).spot (late_at first k).is) in
      let x = late_at first p.0 in
      let y = late_at first p.1 in
      let same : x.spot ≡ y.spot = one_spot x.spot y.spot x.is y.is p.4 in
      let lt = p.2 in
      let gap = distance p.0 p.1 lt in
      let path = late_path first gap.0 p.0 p.1 gap.1 in
      (x.spot, trail first p.0 gap.0, subst (λ (z : Channel). Path (Step steps) x.spot (trail first p.0 gap.0) z) (sym same) path)
    where
      distance : (i j : ℕ) → i < j → (d : ℕ) × (j ≡ i + suc d)
      distance i zero lt = absurd (omega arith)
      distance i (suc j) lt = (j - i, omega arith)
