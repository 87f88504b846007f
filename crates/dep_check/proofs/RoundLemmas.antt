use Rattle.std.proofs.Common.{◌≡◌, ◌∙◌, sym, ap, subst, refl, ℕ, zero, suc, ◌+◌, ◌<◌, ◌≤◌, List, [], ◌∷◌, ◌++◌, Option, Some, None, Bool, true, false, ◌==◌, arith, add-one, take, take-suc, length, length-set, set, get_or, get_or-set_same, get_or-set_other, inl, inr, ◌⊎◌}
use Rattle.std.specs.Prelude.{Contains, is_some}
use Rattle.std.proofs.lemmas.Bool.{cases_eq, eqb-true, eq-eqb}
use Rattle.std.proofs.lemmas.Option.{same_Some}
use Rattle.std.proofs.lemmas.List.Elements.{Contains-append_left, Contains-push, Contains-push_cases}
use Rattle.common_values.proofs.ListLemmas.{some_is}
use Rattle.dep_check.specs.declared.channel.Channel.{Channel}
use Rattle.dep_check.specs.declared.steps.Steps.{Steps}
use Rattle.dep_check.specs.declared.level.Rule.{Rule}
use Rattle.dep_check.specs.declared.level.Rule.TheVariants.{Nearest, Rank}
use Rattle.dep_check.specs.Tables.{IsSpot, place_of, level_at}
use Rattle.dep_check.specs.Search.{Step, IsHeld, AreRaised, Reaches, AreNearestBelow, AreRankedBelow}
use Rattle.dep_check.specs.Rounds.{GetsLevel, AddsDue, LeadsToOne, AreDue, IsRaisedTo}
use Rattle.dep_check.proofs.SpotLemmas.{option_cases, one_spot, place_low}
use Rattle.dep_check.proofs.LevelLemmas.{step_spot}

-- two channels are one, or they are not
channel_cases : (a b : Channel) → (a ≡ b) ⊎ (a ≡ b → ⊥)
channel_cases a b = elim (cases_eq a.at b.at) [
  | inr other ↦ inr (λ same. other (ap (λ (c : Channel). c.at) same))
  | inl at ↦ elim (cases_eq a.port b.port) [
    | inr other ↦ inr (λ same. other (ap (λ (c : Channel). c.port) same))
    | inl port ↦ inl (one a.at b.at a.port b.port at port)
  ]
]
  where
    one : (x y p q : ℕ) → x ≡ y → p ≡ q → ◌≡◌ {A = Channel} (record { at = x; port = p }) (record { at = y; port = q })
    one x y p q e f = rw (e, f) refl

-- a list has a channel or it has not
pub none_in : {A : Type 0} (x : A) → Contains [] x → ⊥
none_in x (k, low, is) = absurd (omega arith)

contains_cases : (xs : List Channel) (s : Channel) → Contains xs s ⊎ (Contains xs s → ⊥)
contains_cases [] s = inr (λ has. none_in s has)
contains_cases (x ∷ xs) s = elim (channel_cases x s) [
  | inl same ↦ inl (0, omega arith, same)
  | inr other ↦ elim (contains_cases xs s) [
    | inl has ↦ inl (suc has.0, (let low = has.1 in omega arith), has.2)
    | inr none ↦ inr (λ has. later x xs s other none has)
  ]
]
  where
    later : (x : Channel) (xs : List Channel) (s : Channel) → (x ≡ s → ⊥) → (Contains xs s → ⊥) → Contains (x ∷ xs) s → ⊥
    later x xs s other none (zero, low, is) = other is
    later x xs s other none (suc k, low, is) = none (k, omega arith, is)

-- the first elements, with one more
abbrev pub nowhere : Channel
nowhere = record { at = 0; port = 0 }

pub taken_more : (xs : List Channel) (k : ℕ) (d : Channel) → k < length xs → take (k + 1) xs ≡ take k xs ++ get_or xs k d ∷ []
taken_more xs k d low = rw add-one (take-suc xs k d low)

-- what the test of an empty list says
pub told_empty : (b : Bool) (n m : ℕ) → b ≡ (n == 0) → b ≡ true → n ≡ m → m ≡ 0
told_empty b n m is e same = let h = eqb-true n 0 (sym is ∙ e) in omega arith

pub told_some : (b : Bool) (n m : ℕ) → b ≡ (n == 0) → b ≡ false → n ≡ m → m ≡ 0 → ⊥
told_some b n m is e same zero_is = let h = eq-eqb n 0 (omega arith) in absurd (cc)

-- what is added to the spots that get a level next
module _ (rule : Rule) (steps : Steps) (levels : List (Option ℕ)) where
  pub adds_none : (Looked : Channel → Type 0) (old : List Channel) → ((s : Channel) → Looked s → IsSpot s → level_at levels s ≡ None → IsHeld rule steps levels s) → AddsDue rule steps levels Looked old old
  adds_none Looked old held = record {
    each = λ s has. inl has;
    kept = λ s has. has;
    whole = λ s looked spot none. inr (held s looked spot none);
  }

  pub adds_one : (b : Channel) (old : List Channel) → GetsLevel rule steps levels b → AddsDue rule steps levels (λ s. s ≡ b) old (old ++ b ∷ [])
  adds_one b old gets = record {
    each = λ s has. elim (Contains-push_cases old b s has) [
      | inl before ↦ inl before
      | inr same ↦ inr (subst (λ (x : Channel). GetsLevel rule steps levels x) same gets)
    ];
    kept = λ s has. Contains-append_left old (b ∷ []) s has;
    whole = λ s same spot none. inl (subst (λ (x : Channel). Contains (old ++ b ∷ []) x) (sym same) (Contains-push old b));
  }

  pub adds_as : (L M : Channel → Type 0) (old new : List Channel) → ((s : Channel) → M s → L s) → AddsDue rule steps levels L old new → AddsDue rule steps levels M old new
  adds_as L M old new narrow adds = record {
    each = adds.each;
    kept = adds.kept;
    whole = λ s looked spot none. adds.whole s (narrow s looked) spot none;
  }

  pub adds_more : (L M N : Channel → Type 0) (old mid new : List Channel) → ((s : Channel) → N s → L s ⊎ M s) → AddsDue rule steps levels L old mid → AddsDue rule steps levels M mid new → AddsDue rule steps levels N old new
  adds_more L M N old mid new split first second = record {
    each = λ s has. elim (second.each s has) [
      | inl before ↦ first.each s before
      | inr gets ↦ inr gets
    ];
    kept = λ s has. second.kept s (first.kept s has);
    whole = λ s looked spot none. elim (split s looked) [
      | inl before ↦ elim (first.whole s before spot none) [
        | inl has ↦ inl (second.kept s has)
        | inr held ↦ inr held
      ]
      | inr now ↦ second.whole s now spot none
    ];
  }

  due_each : (L : Channel → Type 0) (due : List Channel) → AddsDue rule steps levels L [] due → (s : Channel) → Contains due s → GetsLevel rule steps levels s
  due_each L due adds s has = elim (adds.each s has) [
    | inl none ↦ absurd (none_in s none)
    | inr gets ↦ gets
  ]

  -- all spots were looked at
  pub due_all : (due : List Channel) → AddsDue rule steps levels (λ s. IsSpot s) [] due → AreDue rule steps levels due
  due_all due adds = record {
    each = due_each (λ s. IsSpot s) due adds;
    whole = λ s spot none. adds.whole s spot spot none;
  }

-- Where the spots of the last level were looked at, all that get a level next are found: such a spot leads to one of them.
pub due_nearest : (goal : Channel) (steps : Steps) (Goal : Channel → Type 0) (r : ℕ) (levels : List (Option ℕ)) (last due : List Channel) → AreNearestBelow steps Goal r levels → ((s : Channel) (n : ℕ) → IsSpot s → level_at levels s ≡ Some n → n + 1 ≡ r → Contains last s) → AddsDue (Nearest goal) steps levels (LeadsToOne steps last) [] due → AreDue (Nearest goal) steps levels due
due_nearest goal steps Goal r levels last due so_far full adds = record {
  each = due_each (Nearest goal) steps levels (LeadsToOne steps last) due adds;
  whole = λ s spot none. elim (contains_cases due s) [
    | inl has ↦ inl has
    | inr not_in ↦ inr (λ next.
        let e = next.0 in
        let b = next.1 in
        let step : Step steps s b = (e, next.2) in
        let b_spot = step_spot steps s b step in
        let level = some_is (level_at levels b) next.3 in
        let reach = so_far.reached b level.0 b_spot level.1 in
        let far : Reaches steps Goal (suc level.0) s = (reach.0.0, (b, step, reach.0.1), reach.0.2) in
        let low = so_far.none s (suc level.0) spot none far in
        let less = reach.1 in
        elim (adds.whole s (b, full b level.0 b_spot level.1 (omega arith), step) spot none) [
          | inl has ↦ not_in has
          | inr held ↦ held next
        ])
  ];
}

pub due_rank : (steps : Steps) (r : ℕ) (levels : List (Option ℕ)) (last due : List Channel) → 1 ≤ r → AreRankedBelow steps r levels → ((s : Channel) (n : ℕ) → IsSpot s → level_at levels s ≡ Some n → n + 1 ≡ r → Contains last s) → AddsDue Rank steps levels (LeadsToOne steps last) [] due → AreDue Rank steps levels due
due_rank steps r levels last due some so_far full adds = record {
  each = due_each Rank steps levels (LeadsToOne steps last) due adds;
  whole = λ s spot none. elim (contains_cases due s) [
    | inl has ↦ inl has
    | inr not_in ↦ inr (λ linked. elim (so_far.late s spot linked none) [
      | inl first ↦ absurd (omega arith)
      | inr (b, step, before) ↦ elim (option_cases (level_at levels b)) [
        | inl bare ↦ (step.0, b, step.1, ap is_some bare)
        | inr level ↦ elim (adds.whole s (b, full b level.0 (step_spot steps s b step) level.1 (before level.0 level.1), step) spot none) [
          | inl has ↦ absurd (not_in has)
          | inr held ↦ held linked
        ]
      ]
    ])
  ];
}

-- a table with one level set
pub level_set : (levels : List (Option ℕ)) (v : Option ℕ) (s spot : Channel) → length levels ≡ 1651 → IsSpot spot → place_of s ≡ place_of spot → level_at (set levels (place_of spot) v) s ≡ v
level_set levels v s spot count is same = let low = place_low spot is in rw same (get_or-set_same levels (place_of spot) v None (omega arith))

pub level_kept : (levels : List (Option ℕ)) (v : Option ℕ) (s spot : Channel) → (place_of s ≡ place_of spot → ⊥) → level_at (set levels (place_of spot) v) s ≡ level_at levels s
level_kept levels v s spot other = get_or-set_other levels (place_of spot) (place_of s) v None other

-- spots are raised one by one
module _ (level : ℕ) (had : List (Option ℕ)) where
  pub raise_none : length had ≡ 1651 → IsRaisedTo level had [] had []
  raise_none count = record {
    count = count;
    kept = λ s n spot e. e;
    new = λ s n spot none e. absurd (cc);
    all = λ s has. absurd (none_in s has);
    whole = λ s spot none e. absurd (cc);
    each = λ s has. absurd (none_in s has);
  }

  pub raise_same : (due : List Channel) (levels : List (Option ℕ)) (raised : List Channel) (spot : Channel) (n : ℕ) → level_at levels spot ≡ Some n → IsRaisedTo level had due levels raised → IsRaisedTo level had (due ++ spot ∷ []) levels raised
  raise_same due levels raised spot n has so_far = record {
    count = so_far.count;
    kept = so_far.kept;
    new = λ s m is none e. let h = so_far.new s m is none e in (h.0, Contains-append_left due (spot ∷ []) s h.1);
    all = λ s there. elim (Contains-push_cases due spot s there) [
      | inl before ↦ so_far.all s before
      | inr same ↦ (n, ap (level_at levels) (sym same) ∙ has)
    ];
    whole = so_far.whole;
    each = so_far.each;
  }

  pub raise_new : (due : List Channel) (levels : List (Option ℕ)) (raised : List Channel) (spot : Channel) → IsSpot spot → level_at levels spot ≡ None → IsRaisedTo level had due levels raised → IsRaisedTo level had (due ++ spot ∷ []) (set levels (place_of spot) (Some level)) (raised ++ spot ∷ [])
  raise_new due levels raised spot is bare so_far = record {
    count = length-set levels (place_of spot) (Some level) ∙ so_far.count;
    kept = λ s n s_spot e. elim (cases_eq (place_of s) (place_of spot)) [
      | inl same ↦ absurd (let h = so_far.kept s n s_spot e in let one = one_spot s spot s_spot is same in let b : level_at levels s ≡ None = ap (level_at levels) one ∙ bare in cc)
      | inr other ↦ level_kept levels (Some level) s spot other ∙ so_far.kept s n s_spot e
    ];
    new = λ s n s_spot none e. elim (cases_eq (place_of s) (place_of spot)) [
      | inl same ↦ (
          let one = one_spot s spot s_spot is same in
          (sym (same_Some level n (sym (level_set levels (Some level) s spot so_far.count is same) ∙ e)), subst (λ (x : Channel). Contains (due ++ spot ∷ []) x) (sym one) (Contains-push due spot)))
      | inr other ↦ (let h = so_far.new s n s_spot none (sym (level_kept levels (Some level) s spot other) ∙ e) in (h.0, Contains-append_left due (spot ∷ []) s h.1))
    ];
    all = λ s has. elim (cases_eq (place_of s) (place_of spot)) [
      | inl same ↦ (level, level_set levels (Some level) s spot so_far.count is same)
      | inr other ↦ elim (Contains-push_cases due spot s has) [
        | inl before ↦ (let h = so_far.all s before in (h.0, level_kept levels (Some level) s spot other ∙ h.1))
        | inr same ↦ absurd (other (ap place_of (sym same)))
      ]
    ];
    whole = λ s s_spot none e. elim (cases_eq (place_of s) (place_of spot)) [
      | inl same ↦ subst (λ (x : Channel). Contains (raised ++ spot ∷ []) x) (sym (one_spot s spot s_spot is same)) (Contains-push raised spot)
      | inr other ↦ Contains-append_left raised (spot ∷ []) s (so_far.whole s s_spot none (sym (level_kept levels (Some level) s spot other) ∙ e))
    ];
    each = λ s has. elim (cases_eq (place_of s) (place_of spot)) [
      | inl same ↦ (
        elim (Contains-push_cases raised spot s has) [
          | inl before ↦ (so_far.each s before).0
          | inr one ↦ subst (λ (x : Channel). IsSpot x) one is
        ],
        level_set levels (Some level) s spot so_far.count is same,
      )
      | inr other ↦ elim (Contains-push_cases raised spot s has) [
        | inl before ↦ (let h = so_far.each s before in (h.0, level_kept levels (Some level) s spot other ∙ h.1))
        | inr one ↦ absurd (other (ap place_of (sym one)))
      ]
    ];
  }

-- when all that are due are raised, the round is done
pub raised_all : (rule : Rule) (steps : Steps) (r : ℕ) (levels new : List (Option ℕ)) (due raised : List Channel) → AreDue rule steps levels due → IsRaisedTo r levels due new raised → AreRaised rule steps levels r 1651 new
raised_all rule steps r levels new due raised are up = record {
  count = up.count;
  each = λ s spot low. record {
    kept = λ n e. up.kept s n spot e;
    raised = λ n none e. let h = up.new s n spot none e in (h.0, (are.each s h.1).due);
    left = λ none gone. elim (are.whole s spot none) [
      | inl has ↦ absurd (let h = up.all s has in cc)
      | inr held ↦ held
    ];
  };
}

-- and the raised ones are those of the last level
pub raised_full : (r : ℕ) (levels new : List (Option ℕ)) (due raised : List Channel) → ((s : Channel) (n : ℕ) → IsSpot s → level_at levels s ≡ Some n → n < r) → IsRaisedTo r levels due new raised → (s : Channel) (n : ℕ) → IsSpot s → level_at new s ≡ Some n → n + 1 ≡ r + 1 → Contains raised s
raised_full r levels new due raised below up s n spot e last = elim (option_cases (level_at levels s)) [
  | inl none ↦ (let same : n ≡ r = omega arith in up.whole s spot none (e ∙ ap (λ (m : ℕ). Some m) same))
  | inr some ↦ absurd (
      let same : some.0 ≡ n = same_Some some.0 n (sym (up.kept s some.0 spot some.1) ∙ e) in
      let low = below s some.0 spot some.1 in
      omega arith)
]

-- where nothing was raised, nothing is at the level
pub none_raised : (r : ℕ) (levels new : List (Option ℕ)) (due raised : List Channel) → length raised ≡ 0 → ((s : Channel) (n : ℕ) → IsSpot s → level_at levels s ≡ Some n → n < r) → IsRaisedTo r levels due new raised → (s : Channel) → IsSpot s → level_at new s ≡ Some r → ⊥
none_raised r levels new due raised empty below up s spot e =
    let has = raised_full r levels new due raised below up s r spot e refl in
    let low = has.1 in
    absurd (omega arith)

-- else something is
pub some_raised : (r : ℕ) (levels new : List (Option ℕ)) (due raised : List Channel) → (length raised ≡ 0 → ⊥) → IsRaisedTo r levels due new raised → (s : Channel) × IsSpot s × (level_at new s ≡ Some r)
some_raised r levels new due [] some up = absurd (some refl)
some_raised r levels new due (s ∷ rest) some up = let h = up.each s (0, omega arith, refl) in (s, h.0, h.1)
