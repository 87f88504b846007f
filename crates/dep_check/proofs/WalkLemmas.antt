use Rattle.std.proofs.Common.{◌≡◌, ◌∙◌, sym, ap, subst, refl, ℕ, zero, suc, ◌+◌, ◌<◌, List, [], ◌∷◌, ◌++◌, Bool, true, false, arith, length, length-append, length-set, set, get_or, get_or-set_same, get_or-set_other, inl, inr, ◌⊎◌}
use Rattle.std.specs.Prelude.{Contains, replicate}
use Rattle.std.proofs.lemmas.Bool.{cases_eq}
use Rattle.std.proofs.lemmas.List.{get_or_default}
use Rattle.std.proofs.lemmas.List.Elements.{Contains-append_left, Contains-push, Contains-push_cases}
use Rattle.dep_check.specs.declared.channel.Channel.{Channel}
use Rattle.dep_check.specs.declared.steps.Steps.{Steps}
use Rattle.common_graph.specs.Cycles.{Walk}
use Rattle.dep_check.specs.Tables.{IsSpot, place_of}
use Rattle.dep_check.specs.Search.{IsStuck, Step}
use Rattle.dep_check.specs.Walks.{seen_at, unseen, Sees, Leads, IsLookedAt, IsWalking, IsWalked, IsClear}
use Rattle.dep_check.proofs.SpotLemmas.{one_spot, place_low}
use Rattle.dep_check.proofs.LevelLemmas.{step_spot}
use Rattle.dep_check.proofs.RoundLemmas.{none_in}

-- nothing is seen at first
none_of : (n k : ℕ) → get_or (replicate n false) k false ≡ false
none_of zero k = refl
none_of (suc n) zero = refl
none_of (suc n) (suc k) = none_of n k

pub none_at : (seen : List Bool) (n : ℕ) (s : Channel) → seen ≡ replicate n false → seen_at seen s ≡ false
none_at seen n s is = ap (λ (bs : List Bool). seen_at bs s) is ∙ none_of n (place_of s)

-- one spot more is seen
pub unseen_less : (seen : List Bool) (k : ℕ) → k < length seen → get_or seen k false ≡ false → unseen (set seen k true) + 1 ≡ unseen seen
unseen_less [] k low e = absurd (omega arith)
unseen_less (b ∷ seen) zero low e = rw e (omega arith)
unseen_less (b ∷ seen) (suc k) low e = let rest = unseen_less seen k (omega arith) e in omega arith

seen_set : (seen : List Bool) (s spot : Channel) → length seen ≡ 1651 → IsSpot spot → place_of s ≡ place_of spot → seen_at (set seen (place_of spot) true) s ≡ true
seen_set seen s spot count is same = let low = place_low spot is in rw same (get_or-set_same seen (place_of spot) true false (omega arith))

seen_kept : (seen : List Bool) (s spot : Channel) → (place_of s ≡ place_of spot → ⊥) → seen_at (set seen (place_of spot) true) s ≡ seen_at seen s
seen_kept seen s spot other = get_or-set_other seen (place_of spot) (place_of s) true false other

pub seen_read : (seen : List Bool) (place : ℕ) (spot : Channel) (b : Bool) → place ≡ place_of spot → place < length seen → b ≡ get_or seen place b → b ≡ seen_at seen spot
seen_read seen place spot b at low is = is ∙ get_or_default seen place b false low ∙ ap (λ (k : ℕ). get_or seen k false) at

pub push_more : {A : Type 0} (xs : List A) (x : A) → length (xs ++ x ∷ []) ≡ length xs + 1
push_more xs x = omega (arith, length-append xs (x ∷ []))

-- a spot that is seen already, and one that was not
pub sees_none : (Kind : Channel → Type 0) (old : List Bool) (before : List Channel) → ((s : Channel) → Kind s → seen_at old s ≡ true) → Sees Kind old before old before
sees_none Kind old before there = record {
  count = refl;
  kept = λ s e. e;
  all = there;
  new = λ s spot e. inl e;
  held = λ s has. has;
  each = λ s has. inl has;
  size = refl;
}

pub sees_one : (old : List Bool) (before : List Channel) (spot : Channel) → length old ≡ 1651 → IsSpot spot → seen_at old spot ≡ false → Sees (λ s. s ≡ spot) old before (set old (place_of spot) true) (before ++ spot ∷ [])
sees_one old before spot count is bare = record {
  count = length-set old (place_of spot) true;
  kept = λ s e. elim (cases_eq (place_of s) (place_of spot)) [
    | inl same ↦ seen_set old s spot count is same
    | inr other ↦ seen_kept old s spot other ∙ e
  ];
  all = λ s one. seen_set old s spot count is (ap place_of one);
  new = λ s s_spot e. elim (cases_eq (place_of s) (place_of spot)) [
    | inl same ↦ (let one = one_spot s spot s_spot is same in inr (one, subst (λ (x : Channel). Contains (before ++ spot ∷ []) x) (sym one) (Contains-push before spot)))
    | inr other ↦ inl (sym (seen_kept old s spot other) ∙ e)
  ];
  held = λ s has. Contains-append_left before (spot ∷ []) s has;
  each = λ s has. elim (Contains-push_cases before spot s has) [
    | inl in_before ↦ inl in_before
    | inr one ↦ inr (sym one)
  ];
  size = (
      let low = place_low spot is in
      let less = unseen_less old (place_of spot) (omega arith) bare in
      let more = push_more before spot in
      omega arith);
}

-- the same of another kind
pub sees_as : (P R : Channel → Type 0) (old seen : List Bool) (before ahead : List Channel) → ((s : Channel) → R s → P s) → ((s : Channel) → P s → R s) → Sees P old before seen ahead → Sees R old before seen ahead
sees_as P R old seen before ahead back there sees = record {
  count = sees.count;
  kept = sees.kept;
  all = λ s kind. sees.all s (back s kind);
  new = λ s spot e. elim (sees.new s spot e) [
    | inl had ↦ inl had
    | inr (kind, has) ↦ inr (there s kind, has)
  ];
  held = sees.held;
  each = λ s has. elim (sees.each s has) [
    | inl had ↦ inl had
    | inr kind ↦ inr (there s kind)
  ];
  size = sees.size;
}

-- one after the other
pub sees_more : (P Q R : Channel → Type 0) (a b c : List Bool) (x y z : List Channel) → ((s : Channel) → R s → P s ⊎ Q s) → ((s : Channel) → P s → R s) → ((s : Channel) → Q s → R s) → Sees P a x b y → Sees Q b y c z → Sees R a x c z
sees_more P Q R a b c x y z split left right first second = record {
  count = second.count ∙ first.count;
  kept = λ s e. second.kept s (first.kept s e);
  all = λ s kind. elim (split s kind) [
    | inl before ↦ second.kept s (first.all s before)
    | inr now ↦ second.all s now
  ];
  new = λ s spot e. elim (second.new s spot e) [
    | inl before ↦ elim (first.new s spot before) [
      | inl had ↦ inl had
      | inr (kind, has) ↦ inr (left s kind, second.held s has)
    ]
    | inr (kind, has) ↦ inr (right s kind, has)
  ];
  held = λ s has. second.held s (first.held s has);
  each = λ s has. elim (second.each s has) [
    | inl before ↦ elim (first.each s before) [
      | inl had ↦ inl had
      | inr kind ↦ inr (left s kind)
    ]
    | inr kind ↦ inr (right s kind)
  ];
  size = second.size ∙ first.size;
}

-- one step more
pub walk_last : (R : Channel → Channel → Type 0) (n : ℕ) (a b c : Channel) → Walk R n a b → R b c → Walk R (suc n) a c
walk_last R zero a b c same step = (c, subst (λ (x : Channel). R x c) (sym same) step, refl)
walk_last R (suc n) a b c (d, first, rest) step = (d, first, walk_last R n d b c rest step)

-- a walk from a spot
pub walk_first : (steps : Steps) (start : Channel) (had seen : List Bool) (ahead : List Channel) → length had ≡ 1651 → IsSpot start → Sees (λ s. s ≡ start) had [] seen ahead → IsWalking steps start had seen ahead false
walk_first steps start had seen ahead count is sees = record {
  count = sees.count ∙ count;
  begun = sees.all start refl;
  kept = sees.kept;
  reached = λ s spot e. elim (sees.new s spot e) [
    | inl before ↦ inl before
    | inr (same, has) ↦ inr (zero, sym same)
  ];
  waiting = λ s has. elim (sees.each s has) [
    | inl none ↦ absurd (none_in s none)
    | inr same ↦ (subst (λ (x : Channel). IsSpot x) (sym same) is, (zero, sym same))
  ];
  looked = λ s spot e. elim (sees.new s spot e) [
    | inl before ↦ inl before
    | inr (same, has) ↦ inr (inl has)
  ];
  found = λ e. absurd (cc);
}

module _ (steps : Steps) (start : Channel) (had : List Bool) where
  -- one of those ahead is looked at
  pub walk_more : (old seen : List Bool) (before rest ahead : List Channel) (spot : Channel) (stuck now : Bool) → before ≡ rest ++ spot ∷ [] → (IsStuck steps spot → now ≡ true) → (stuck ≡ true → now ≡ true) → (now ≡ true → (stuck ≡ true) ⊎ IsStuck steps spot) → IsWalking steps start had old before stuck → Sees (Step steps spot) old rest seen ahead → IsWalking steps start had seen ahead now
  walk_more old seen before rest ahead spot stuck now popped told kept_told told_by so_far sees =
      let last : Contains before spot = subst (λ (xs : List Channel). Contains xs spot) (sym popped) (Contains-push rest spot) in
      let here = so_far.waiting spot last in
      let on : (s : Channel) → Step steps spot s → Leads steps start s = λ s step. (suc here.1.0, walk_last (Step steps) here.1.0 start spot s here.1.1 step) in
      record {
        count = sees.count ∙ so_far.count;
        begun = sees.kept start so_far.begun;
        kept = λ s e. sees.kept s (so_far.kept s e);
        reached = λ s is e. elim (sees.new s is e) [
          | inl seen_before ↦ so_far.reached s is seen_before
          | inr (step, has) ↦ inr (on s step)
        ];
        waiting = λ s has. elim (sees.each s has) [
          | inl in_rest ↦ so_far.waiting s (subst (λ (xs : List Channel). Contains xs s) (sym popped) (Contains-append_left rest (spot ∷ []) s in_rest))
          | inr step ↦ (step_spot steps spot s step, on s step)
        ];
        looked = λ s is e. elim (sees.new s is e) [
          | inr (step, has) ↦ inr (inl has)
          | inl seen_before ↦ elim (so_far.looked s is seen_before) [
            | inl first ↦ inl first
            | inr (inr looked) ↦ inr (inr (record { next = λ b step. sees.kept b (looked.next b step); told = λ is_stuck. kept_told (looked.told is_stuck) }))
            | inr (inl was_ahead) ↦ inr (elim (Contains-push_cases rest spot s (subst (λ (xs : List Channel). Contains xs s) popped was_ahead)) [
              | inl in_rest ↦ inl (sees.held s in_rest)
              | inr same ↦ inr (subst (λ (x : Channel). IsLookedAt steps seen now x) same (record { next = λ b step. sees.all b step; told = told }))
            ])
          ]
        ];
        found = λ e. elim (told_by e) [
          | inl before_now ↦ so_far.found before_now
          | inr is_stuck ↦ (spot, here.0, here.1, is_stuck)
        ];
      }

  -- nothing is ahead
  pub walk_done : (seen : List Bool) (ahead : List Channel) (stuck : Bool) → length ahead ≡ 0 → IsWalking steps start had seen ahead stuck → IsWalked steps start had seen stuck
  walk_done seen ahead stuck empty so_far = record {
    count = so_far.count;
    begun = so_far.begun;
    kept = so_far.kept;
    reached = so_far.reached;
    looked = λ s is e. elim (so_far.looked s is e) [
      | inl first ↦ inl first
      | inr (inl has) ↦ absurd (let low = has.1 in omega arith)
      | inr (inr looked) ↦ inr looked
    ];
    found = so_far.found;
  }

-- what is seen after a walk that tells nothing is clear
pub clear_walked : (steps : Steps) (start : Channel) (had seen : List Bool) → IsClear steps had → IsWalked steps start had seen false → IsClear steps seen
clear_walked steps start had seen clear walked = λ s spot e. elim (walked.looked s spot e) [
  | inl before ↦ (let looked = clear s spot before in record { next = λ b step. walked.kept b (looked.next b step); told = looked.told })
  | inr looked ↦ looked
]

-- from what is clear packets never get stuck
pub clear_never : (steps : Steps) (seen : List Bool) → IsClear steps seen → (n : ℕ) (s e : Channel) → IsSpot s → seen_at seen s ≡ true → Walk (Step steps) n s e → IsStuck steps e → ⊥
clear_never steps seen clear zero s e spot is same stuck = absurd (let told = (clear s spot is).told (subst (λ (x : Channel). IsStuck steps x) (sym same) stuck) in cc)
clear_never steps seen clear (suc n) s e spot is (b, step, walk) stuck = clear_never steps seen clear n b e (step_spot steps s b step) ((clear s spot is).next b step) walk stuck

-- where nothing was seen before, all that is reached is seen
pub walked_all : (steps : Steps) (start : Channel) (had seen : List Bool) (stuck : Bool) → ((s : Channel) → seen_at had s ≡ false) → IsWalked steps start had seen stuck → (n : ℕ) (s e : Channel) → IsSpot s → seen_at seen s ≡ true → Walk (Step steps) n s e → seen_at seen e ≡ true
walked_all steps start had seen stuck none walked zero s e spot is same = subst (λ (x : Channel). seen_at seen x ≡ true) same is
walked_all steps start had seen stuck none walked (suc n) s e spot is (b, step, walk) = elim (walked.looked s spot is) [
  | inl before ↦ absurd (let gone = none s in cc)
  | inr looked ↦ walked_all steps start had seen stuck none walked n b e (step_spot steps s b step) (looked.next b step) walk
]

-- and what is seen is reached
pub walked_reached : (steps : Steps) (start : Channel) (had seen : List Bool) (stuck : Bool) → ((s : Channel) → seen_at had s ≡ false) → IsWalked steps start had seen stuck → (s : Channel) → IsSpot s → seen_at seen s ≡ true → Leads steps start s
walked_reached steps start had seen stuck none walked s spot is = elim (walked.reached s spot is) [
  | inl before ↦ absurd (let gone = none s in cc)
  | inr leads ↦ leads
]
