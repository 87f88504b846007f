use Rattle.std.proofs.Common.{◌≡◌, ◌≢◌, ◌∙◌, sym, ap, subst, refl, ℕ, zero, suc, ◌+◌, ◌<◌, ◌≤◌, List, Option, Some, None, arith, length, set, get_or, add-one, cond, ◌⊎◌, inl, inr}
use Rattle.std.specs.Prelude.{count_by, is_some}
use Rattle.std.proofs.lemmas.List.{get_or-set_same, get_or-set_other, length-set, get_or_past}
use Rattle.std.proofs.lemmas.List.Sums.{sum_by-set}
use Rattle.std.proofs.lemmas.Bool.{cases_eq, cases_lt}
use Rattle.an_base.specs.Tree.{Network, Walk, IsClosed}
use Rattle.net_graph.specs.Levels.{level_at, HasNeighbourAt, IsRound, IsRoundTo, IsReached, AreDistances}

-- an option is none or some
pub some_or_none : (o : Option ℕ) → (o ≡ None) ⊎ ((l : ℕ) × (o ≡ Some l))
some_or_none None = inl refl
some_or_none (Some l) = inr (l, refl)

-- a node that gets its level adds one
pub count_by-set_some : (xs : List (Option ℕ)) (i v : ℕ) → i < length xs → level_at xs i ≡ None → count_by is_some (set xs i (Some v)) ≡ count_by is_some xs + 1
count_by-set_some xs i v below none =
    let one : Option ℕ → ℕ = λ o. cond (is_some o) 1 0 in
    let s = sum_by-set one xs i (Some v) None below in
    let e : one (get_or xs i None) ≡ 0 = ap one none in
    omega (arith, s, e)

-- what has a neighbour at level d now had one before the round
pub back : (g : Network) (old new : List (Option ℕ)) (d end x : ℕ) → IsRoundTo g old new d end → HasNeighbourAt g new d x → HasNeighbourAt g old d x
back g old new d end x round has =
    elim (some_or_none (level_at old has.0)) [
      | inl none ↦ absurd (let a : d ≡ d + 1 = (round.added has.0 d none has.2).0 in omega arith)
      | inr some ↦ (has.0, has.1, some.1 ∙ sym (round.kept has.0 some.0 some.1) ∙ has.2)
    ]

-- and the other way round
pub forth : (g : Network) (old new : List (Option ℕ)) (d end x : ℕ) → IsRoundTo g old new d end → HasNeighbourAt g old d x → HasNeighbourAt g new d x
forth g old new d end x round has = (has.0, has.1, round.kept has.0 d has.2)

-- the next node gets its level
pub done_set : (g : Network) (old new : List (Option ℕ)) (d x : ℕ) → IsRoundTo g old new d x → x < length new → level_at new x ≡ None → HasNeighbourAt g new d x → IsRoundTo g old (set new x (Some (d + 1))) d (x + 1)
done_set g old new d x round below none has = record {
  kept = λ y l e. let n : y ≢ x = (λ same. let f : level_at old x ≡ Some l = subst (λ (z : ℕ). level_at old z ≡ Some l) same e in let h = round.later x (omega arith) in cc) in rw get_or-set_other (round.kept y l e);
  added = λ y l e f. elim (cases_eq y x) [
    | inl same ↦ (let at : level_at (set new x (Some (d + 1))) x ≡ Some (d + 1) = get_or-set_same new x (Some (d + 1)) None below in grind arith, subst (λ z. HasNeighbourAt g old d z) (sym same) (back g old new d x x round has))
    | inr other ↦ round.added y l e (sym (get_or-set_other new x y (Some (d + 1)) None other) ∙ f)
  ];
  later = λ y above. let n : y ≢ x = omega arith in rw get_or-set_other (round.later y (omega arith));
  whole = λ y low e has'. elim (cases_eq y x) [
    | inl same ↦ absurd (let at : level_at (set new x (Some (d + 1))) x ≡ Some (d + 1) = get_or-set_same new x (Some (d + 1)) None below in grind arith)
    | inr other ↦ round.whole y (omega arith) (sym (get_or-set_other new x y (Some (d + 1)) None other) ∙ e) has'
  ];
}

-- the next node stays as it is
pub done_same : (g : Network) (old new : List (Option ℕ)) (d x : ℕ) → IsRoundTo g old new d x → (level_at new x ≡ None → HasNeighbourAt g new d x → ⊥) → IsRoundTo g old new d (x + 1)
done_same g old new d x round not_so = record {
  kept = round.kept;
  added = round.added;
  later = λ y above. round.later y (omega arith);
  whole = λ y low e has. elim (cases_eq y x) [
    | inl same ↦ not_so (subst (λ z. level_at new z ≡ None) same e) (subst (λ z. HasNeighbourAt g new d z) same (forth g old new d x y round has))
    | inr other ↦ round.whole y (omega arith) e has
  ];
}

-- the invariant of a round, after the next node
pub next_set : (g : Network) (old mid new : List (Option ℕ)) (d x added : ℕ) → x < length mid → new ≡ set mid x (Some (d + 1)) → level_at mid x ≡ None → HasNeighbourAt g mid d x → IsRoundTo g old mid d x → count_by is_some mid ≡ count_by is_some old + added → length mid ≡ length old → IsRoundTo g old new d (x + 1) × (count_by is_some new ≡ count_by is_some old + (added + 1)) × (length new ≡ length old)
next_set g old mid new d x added below e none has round count len = rw e (done_set g old mid d x round below none has, omega (arith, count_by-set_some mid x (d + 1) below none), length-set mid x (Some (d + 1)) ∙ len)

-- where a round gives no level, a node without a level has no walk to r
pub none_left : (g : Network) (r d : ℕ) (levels : List (Option ℕ)) → IsClosed g → IsReached g r levels d → IsRound g levels levels d → (m x : ℕ) → x < g.count → level_at levels x ≡ None → Walk g m x r → ⊥
none_left g r d levels closed reached round zero x below none walk = absurd (let h = reached.beyond x 0 below none walk in omega arith)
none_left g r d levels closed reached round (suc m) x below none (z, near, walk) =
    elim (some_or_none (level_at levels z)) [
      | inl none' ↦ none_left g r d levels closed reached round m z (closed x near.0 z near.1 near.2) none' walk
      | inr some ↦ elim (cases_eq some.0 d) [
        | inl same ↦ round.whole x below none (z, near, some.1 ∙ ap (λ (n : ℕ). Some n) same)
        | inr other ↦ absurd (let f = reached.found z some.0 some.1 in let h = reached.beyond x (suc some.0) below none (z, near, f.0.walk) in omega arith)
      ]
    ]

-- a walk from what has no level after a round is longer than d + 1, if it is longer than d
farther : (g : Network) (r d : ℕ) (old new : List (Option ℕ)) → IsClosed g → IsReached g r old d → IsRound g old new d → (x m : ℕ) → x < g.count → level_at new x ≡ None → level_at old x ≡ None → Walk g m x r → d < m → d + 1 < m
farther g r d old new closed reached round x zero within none none' walk low = omega arith
farther g r d old new closed reached round x (suc m) within none none' (z, near, walk) low =
    elim (cases_eq m d) [
      | inl same ↦ absurd (elim (some_or_none (level_at old z)) [
        | inl no_level ↦ (let h = reached.beyond z m (closed x near.0 z near.1 near.2) no_level walk in omega arith)
        | inr some ↦ (let f = reached.found z some.0 some.1 in elim (cases_eq some.0 d) [
          | inl at_d ↦ round.whole x within none (z, near, some.1 ∙ ap (λ (n : ℕ). Some n) at_d)
          | inr other ↦ absurd (let h = reached.beyond x (suc some.0) within none' (z, near, f.0.walk) in omega arith)
        ])
      ])
      | inr other ↦ omega arith
    ]

-- what has no level at first is no root
first_beyond : (g : Network) (r : ℕ) (xs : List (Option ℕ)) → r < length xs → (x m : ℕ) → level_at (set xs r (Some 0)) x ≡ None → Walk g m x r → 0 < m
first_beyond g r xs below x zero none walk = absurd (let at : level_at (set xs r (Some 0)) r ≡ Some 0 = get_or-set_same xs r (Some 0) None below in let there : level_at (set xs r (Some 0)) r ≡ None = subst (λ z. level_at (set xs r (Some 0)) z ≡ None) walk none in cc)
first_beyond g r xs below x (suc m) none walk = omega arith

-- what has no level after a round is farther than d + 1
beyond_next : (g : Network) (r d : ℕ) (old new : List (Option ℕ)) → IsClosed g → IsReached g r old d → IsRound g old new d → (x m : ℕ) → x < g.count → level_at new x ≡ None → Walk g m x r → d + 1 < m
beyond_next g r d old new closed reached round x m within none walk =
    elim (some_or_none (level_at old x)) [
      | inl none' ↦ (let far_off : d < m = reached.beyond x m within none' walk in farther g r d old new closed reached round x m within none none' walk far_off)
      | inr some ↦ absurd (let k = round.kept x some.0 some.1 in cc)
    ]

-- a round reaches one level more
pub next_reached : (g : Network) (r d : ℕ) (old new : List (Option ℕ)) → IsClosed g → ((x l : ℕ) → level_at new x ≡ Some l → x < g.count) → IsReached g r old d → IsRound g old new d → IsReached g r new (d + 1)
next_reached g r d old new closed below reached round = record {
  found = λ x l e. elim (some_or_none (level_at old x)) [
    | inl none ↦ (let a = round.added x l none e in (
      rw a.0 (record {
        walk = rw add-one (a.1.0, a.1.1, (reached.found a.1.0 d a.1.2).0.walk);
        least = λ m walk. let h = reached.beyond x m (below x l e) none walk in omega arith;
      }),
      omega arith,
    ))
    | inr some ↦ (let k = round.kept x some.0 some.1 in let same : l ≡ some.0 = cc in let f = reached.found x some.0 some.1 in (rw same f.0, omega arith))
  ];
  beyond = λ x m within none walk. beyond_next g r d old new closed reached round x m within none walk;
}

-- at first only r has a level
pub first_reached : (g : Network) (r : ℕ) (xs : List (Option ℕ)) → r < length xs → ((x : ℕ) → level_at xs x ≡ None) → IsReached g r (set xs r (Some 0)) 0
first_reached g r xs below no_levels = record {
  found = λ x l e. elim (cases_eq x r) [
    | inl same ↦ (let at : level_at (set xs r (Some 0)) r ≡ Some 0 = get_or-set_same xs r (Some 0) None below in let zero_l : l ≡ 0 = grind arith in (rw (zero_l, same) (record { walk = refl; least = λ m _. omega arith }), omega arith))
    | inr other ↦ absurd (let at : level_at (set xs r (Some 0)) x ≡ level_at xs x = get_or-set_other xs r x (Some 0) None other in let no_level = no_levels x in cc)
  ];
  beyond = λ x m within none walk. first_beyond g r xs below x m none walk;
}

-- the invariant of the levels, after the next level
pub next_level : (g : Network) (r d : ℕ) (old new : List (Option ℕ)) → IsClosed g → length new ≡ g.count → IsReached g r old d → IsRound g old new d → IsReached g r new (d + 1)
next_level g r d old new closed len reached round =
    next_reached g r d old new closed (λ x l e. elim (cases_lt x g.count) [
      | inl low ↦ low
      | inr high ↦ absurd (let past : level_at new x ≡ None = get_or_past new x None (omega arith) in cc)
    ]) reached round

-- once a round gives no level, the levels are the distances
pub all_reached : (g : Network) (r d : ℕ) (old new : List (Option ℕ)) → IsClosed g → d ≤ 125 → IsReached g r old d → IsRound g old new d → new ≡ old → AreDistances g r new
all_reached g r d old new closed low reached round same =
    let still : IsRound g old old d = subst (λ (xs : List (Option ℕ)). IsRound g old xs d) same round in
    rw same (record {
      found = λ x l e. let f = reached.found x l e in (f.0, omega arith);
      none = λ x m below none walk. none_left g r d old closed reached still m x below none walk;
    })
