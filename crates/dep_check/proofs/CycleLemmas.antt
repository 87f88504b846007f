use Rattle.std.proofs.Common.{◌≡◌, ◌∙◌, sym, ap, subst, refl, ℕ, zero, suc, ◌+◌, ◌-◌, ◌<◌, ◌≤◌, List, [], ◌∷◌, ◌++◌, Option, Some, None, true, arith, length, Less, Equal, Greater, inl, inr, ◌⊎◌}
use Rattle.std.specs.Prelude.{IsTrue, min}
use Rattle.std.specs.declared.cmp.Ordering.{Ordering}
use Rattle.std.specs.Ordering.{nat_cmp, ordering_then, is_le}
use Rattle.std.specs.Cmp.Lexicographic.{slice_cmp}
use Rattle.std.proofs.lemmas.Bool.{cases_eq, cases_lt}
use Rattle.std.proofs.lemmas.Bool.Decides.{nat_tests}
use Rattle.std.proofs.lemmas.Option.{same_Some}
use Rattle.dep_check.specs.declared.channel.Channel.{Channel}
use Rattle.dep_check.specs.declared.steps.Steps.{Steps}
use Rattle.common_graph.specs.Cycles.{Walk, Path, IsCycle, IsLeastFrom, IsLeastCycle}
use Rattle.dep_check.specs.Channels.{channel_cmp}
use Rattle.dep_check.specs.Tables.{IsSpot, place_of, level_at, wire_at}
use Rattle.dep_check.specs.Search.{IsStepOf, IsStep, Step, IsLinked, AreRanked, AreNearest, IsNextAt, HasNextAt, IsLeastAfter, LeastAfter, Descends, IsLeastCycleFrom}
use Rattle.dep_check.proofs.SpotLemmas.{option_cases, spot_cases}
use Rattle.dep_check.proofs.StepLemmas.{step_low}
use Rattle.dep_check.proofs.LevelLemmas.{step_spot}

-- the order of channels
cmp_le : (x y p q : ℕ) → (x < y) ⊎ ((x ≡ y) × (p ≤ q)) → is_le (ordering_then (nat_cmp x y) (nat_cmp p q)) ≡ true
cmp_le x y p q h = grind (arith, nat_tests)

cmp_same : (x y p q : ℕ) → ordering_then (nat_cmp x y) (nat_cmp p q) ≡ Equal → (x ≡ y) × (p ≡ q)
cmp_same x y p q e = (same_at x y p q e, same_port x y p q e)
  where
    same_at : (x y p q : ℕ) → ordering_then (nat_cmp x y) (nat_cmp p q) ≡ Equal → x ≡ y
    same_at x y p q e = grind (arith, nat_tests)

    same_port : (x y p q : ℕ) → ordering_then (nat_cmp x y) (nat_cmp p q) ≡ Equal → p ≡ q
    same_port x y p q e = grind (arith, nat_tests)

pub channel_same : (a b : Channel) → channel_cmp a b ≡ Equal → a ≡ b
channel_same a b e = let s = cmp_same a.at b.at a.port b.port e in build a.at b.at a.port b.port s.0 s.1
  where
    build : (x y p q : ℕ) → x ≡ y → p ≡ q → ◌≡◌ {A = Channel} (record { at = x; port = p }) (record { at = y; port = q })
    build x y p q e f = rw (e, f) refl

pub place_order : (s t : Channel) → IsSpot s → IsSpot t → place_of s ≤ place_of t → IsTrue (is_le (channel_cmp s t))
place_order s t a b low =
    let p = a.port in
    let q = b.port in
    cmp_le s.at t.at s.port t.port (elim (cases_lt s.at t.at) [
      | inl less ↦ inl less
      | inr more ↦ (let same : s.at ≡ t.at = omega arith in inr (same, omega arith))
    ])

le_then : (o rest : Ordering) → IsTrue (is_le o) → (o ≡ Equal → IsTrue (is_le rest)) → IsTrue (is_le (ordering_then o rest))
le_then Less rest le same = refl
le_then Equal rest le same = same refl
le_then Greater rest le same = absurd (cc)

-- the steps of a channel by later exits lead to later channels
order_of : (wires : List (Option Channel)) (exits : List ℕ) (to : Option ℕ) (s b c : Channel) (e f : ℕ) → to ≡ None → IsStepOf wires exits to s e b → IsStepOf wires exits to s f c → e ≤ f → IsTrue (is_le (channel_cmp b c))
order_of wires exits None s b c e f none first second low =
    let same = same_Some (record { at = b.at; port = first.entry }) (record { at = c.at; port = second.entry }) (sym first.arrives ∙ second.arrives) in
    let at : b.at ≡ c.at = ap (λ (x : Channel). x.at) same in
    let p = first.port in
    let q = second.port in
    cmp_le b.at c.at b.port c.port (inr (at, omega arith))
order_of wires exits (Some to) s b c e f none first second low = absurd (cc)

-- a channel that leads somewhere is a spot
from_spot_of : (wires : List (Option Channel)) (exits : List ℕ) (to : Option ℕ) (s : Channel) (e : ℕ) (b : Channel) → to ≡ None → IsStepOf wires exits to s e b → IsSpot s
from_spot_of wires exits None s e b none is = elim (spot_cases s) [
  | inl spot ↦ spot
  | inr other ↦ absurd (let gone : wire_at wires s ≡ None = rw other refl in let there = is.arrives in cc)
]
from_spot_of wires exits (Some to) s e b none is = absurd (cc)

pub from_spot : (steps : Steps) (s b : Channel) → steps.to ≡ None → Step steps s b → IsSpot s
from_spot steps s b none (e, is) = from_spot_of steps.wires.items steps.exits.items steps.to s e b none is

pub path_from_spot : (steps : Steps) (s : Channel) (ds : List Channel) (z : Channel) → steps.to ≡ None → Path (Step steps) s ds z → IsSpot s
path_from_spot steps s [] z none step = from_spot steps s z none step
path_from_spot steps s (d ∷ ds) z none (step, path) = from_spot steps s d none step

-- the first step of this level leads to the least
pub next_found : (steps : Steps) (levels : List (Option ℕ)) (s b : Channel) (e n : ℕ) → steps.to ≡ None → IsStep steps s e b → level_at levels b ≡ Some n → ((f : ℕ) (c : Channel) → f < e → IsStep steps s f c → level_at levels c ≡ Some n → ⊥) → IsNextAt steps levels s n b
next_found steps levels s b e n none is level before = record {
  step = (e, is);
  level = level;
  least = λ c (f, step) there. elim (cases_lt f e) [
    | inl less ↦ absurd (before f c less step there)
    | inr more ↦ order_of steps.wires.items steps.exits.items steps.to s b c e f none is step (omega arith)
  ];
}

-- a channel that leads somewhere has a link
from_linked_of : (wires : List (Option Channel)) (exits : List ℕ) (to : Option ℕ) (s : Channel) (e : ℕ) (b : Channel) → to ≡ None → IsStepOf wires exits to s e b → (far : Channel) × (wire_at wires s ≡ Some far)
from_linked_of wires exits None s e b none is = (record { at = b.at; port = is.entry }, is.arrives)
from_linked_of wires exits (Some to) s e b none is = absurd (cc)

pub from_linked : (steps : Steps) (s b : Channel) → steps.to ≡ None → Step steps s b → IsLinked steps s
from_linked steps s b none (e, is) = from_linked_of steps.wires.items steps.exits.items steps.to s e b none is

-- ranks fall along a path
pub path_down : (steps : Steps) (levels : List (Option ℕ)) → AreRanked steps levels → (a : Channel) (cs : List Channel) (z : Channel) (n : ℕ) → IsSpot a → level_at levels a ≡ Some n → Path (Step steps) a cs z → (m : ℕ) × (level_at levels z ≡ Some m) × (m < n)
path_down steps levels ranked a [] z n spot level step = (ranked.ranked a n spot level).above z step
path_down steps levels ranked a (c ∷ cs) z n spot level (step, path) =
    let down = (ranked.ranked a n spot level).above c step in
    let rest = path_down steps levels ranked c cs z down.0 (step_spot steps a c step) down.1 path in
    let x = down.2 in
    let y = rest.2 in
    (rest.0, rest.1, omega arith)

pub first_step : (steps : Steps) (a : Channel) (cs : List Channel) (z : Channel) → Path (Step steps) a cs z → (b : Channel) × Step steps a b
first_step steps a [] z step = (z, step)
first_step steps a (c ∷ cs) z (step, path) = (c, step)

-- the least level, with one exit more
pub behind_same : (steps : Steps) (levels : List (Option ℕ)) (s : Channel) (e : ℕ) (best : Option ℕ) → ((b : Channel) (m : ℕ) → IsStep steps s e b → level_at levels b ≡ Some m → ⊥) → LeastAfter steps levels s e best → LeastAfter steps levels s (e + 1) best
behind_same steps levels s e None nothing so_far = λ f b m low step level. elim (cases_eq f e) [
  | inl last ↦ nothing b m (subst (λ (g : ℕ). IsStep steps s g b) last step) level
  | inr before ↦ so_far f b m (omega arith) step level
]
behind_same steps levels s e (Some n) nothing so_far = record {
  has = so_far.has;
  least = λ f b m low step level. elim (cases_eq f e) [
    | inl last ↦ absurd (nothing b m (subst (λ (g : ℕ). IsStep steps s g b) last step) level)
    | inr before ↦ so_far.least f b m (omega arith) step level
  ];
}

pub behind_first : (steps : Steps) (levels : List (Option ℕ)) (s next : Channel) (e l : ℕ) → IsStep steps s e next → ((b : Channel) → IsStep steps s e b → next ≡ b) → level_at levels next ≡ Some l → LeastAfter steps levels s e None → IsLeastAfter steps levels s (e + 1) l
behind_first steps levels s next e l is only level so_far = record {
  has = (next, (e, is), level);
  least = λ f b m low step there. elim (cases_eq f e) [
    | inl last ↦ (let same : l ≡ m = same_Some l m (sym level ∙ ap (level_at levels) (only b (subst (λ (g : ℕ). IsStep steps s g b) last step)) ∙ there) in omega arith)
    | inr before ↦ absurd (so_far f b m (omega arith) step there)
  ];
}

pub behind_less : (steps : Steps) (levels : List (Option ℕ)) (s next : Channel) (e n l : ℕ) → IsStep steps s e next → ((b : Channel) → IsStep steps s e b → next ≡ b) → level_at levels next ≡ Some l → IsLeastAfter steps levels s e n → IsLeastAfter steps levels s (e + 1) (min n l)
behind_less steps levels s next e n l is only level so_far = record {
  has = elim (cases_lt l n) [
    | inl less ↦ (let same : l ≡ min n l = omega arith in (next, (e, is), level ∙ ap (λ (k : ℕ). Some k) same))
    | inr more ↦ (let same : n ≡ min n l = omega arith in (so_far.has.0, so_far.has.1, so_far.has.2 ∙ ap (λ (k : ℕ). Some k) same))
  ];
  least = λ f b m low step there. elim (cases_eq f e) [
    | inl last ↦ (let same : l ≡ m = same_Some l m (sym level ∙ ap (level_at levels) (only b (subst (λ (g : ℕ). IsStep steps s g b) last step)) ∙ there) in omega arith)
    | inr before ↦ (let h = so_far.least f b m (omega arith) step there in omega arith)
  ];
}

-- one channel more of a descent
pub descends_more : (steps : Steps) (levels : List (Option ℕ)) (a : Channel) (n : ℕ) (cs : List Channel) (z b : Channel) (l : ℕ) → Descends steps levels a n cs z (suc l) → IsNextAt steps levels z (suc l) b → Descends steps levels a n (cs ++ b ∷ []) b l
descends_more steps levels a n [] z b l (same, is) next =
    let here : IsNextAt steps levels a n b = subst (λ (k : ℕ). IsNextAt steps levels a k b) (sym is) (subst (λ (x : Channel). IsNextAt steps levels x (suc l) b) (sym same) next) in
    (l, is, here, (refl, refl))
descends_more steps levels a n (c ∷ cs) z b l (m, is, here, rest) next = (m, is, here, descends_more steps levels c m cs z b l rest next)

descends_length : (steps : Steps) (levels : List (Option ℕ)) (a : Channel) (n : ℕ) (cs : List Channel) (z : Channel) → Descends steps levels a n cs z 0 → length cs ≡ n
descends_length steps levels a n [] z (same, is) = sym is
descends_length steps levels a n (c ∷ cs) z (m, is, here, rest) = let h = descends_length steps levels c m cs z rest in omega arith

-- a path is a first step and a walk
path_walk : (steps : Steps) (a : Channel) (ds : List Channel) (z : Channel) → Path (Step steps) a ds z → (c : Channel) × Step steps a c × Walk (Step steps) (length ds) c z
path_walk steps a [] z step = (z, step, refl)
path_walk steps a (d ∷ ds) z (step, path) = let w = path_walk steps d ds z path in (d, step, (w.0, w.1, w.2))

module _ (steps : Steps) (levels : List (Option ℕ)) (start : Channel) (nearest : AreNearest steps (λ s. s ≡ start) levels) where
  -- what reaches the start has a level
  level_of : (c : Channel) (m : ℕ) → IsSpot c → Walk (Step steps) m c start → (k : ℕ) × (level_at levels c ≡ Some k) × (k ≤ m)
  level_of c m spot walk = elim (option_cases (level_at levels c)) [
    | inl none ↦ absurd (nearest.none c m spot none (start, walk, refl))
    | inr some ↦ (some.0, some.1, nearest.least c some.0 m spot some.1 (start, walk, refl))
  ]

  -- the next of a channel is at least one level nearer
  pub nearer_next : (b x : Channel) (n k : ℕ) → IsSpot b → level_at levels b ≡ Some n → Step steps b x → level_at levels x ≡ Some k → n ≤ suc k
  nearer_next b x n k spot level step there =
      let r = nearest.reached x k (step_spot steps b x step) there in
      nearest.least b n (suc k) spot level (r.0, (x, step, r.1), r.2)

  -- and some is just that
  pub down_next : (b : Channel) (m : ℕ) → IsSpot b → level_at levels b ≡ Some (suc m) → HasNextAt steps levels b m
  down_next b m spot level =
      let r = nearest.reached b (suc m) spot level in
      let c = r.1.0 in
      let step = r.1.1 in
      let walk : Walk (Step steps) m c start = subst (λ (z : Channel). Walk (Step steps) m c z) r.2 r.1.2 in
      let l = level_of c m (step_spot steps b c step) walk in
      let ge = nearer_next b c (suc m) l.0 spot level step l.1 in
      let le = l.2 in
      let same : l.0 ≡ m = omega arith in
      (c, step, l.1 ∙ ap (λ (k : ℕ). Some k) same)

  pub descent_step : (n l : ℕ) (cs : List Channel) (z next : Channel) → 0 < l → Descends steps levels start n cs z l → IsNextAt steps levels z l next → IsSpot next → Descends steps levels start n (cs ++ next ∷ []) next (l - 1) × HasNextAt steps levels next (l - 1)
  descent_step n zero cs z next some descends at spot = absurd (omega arith)
  descent_step n (suc m) cs z next some descends at spot =
      let is : m ≡ suc m - 1 = omega arith in (
        subst (λ (k : ℕ). Descends steps levels start n (cs ++ next ∷ []) next k) is (descends_more steps levels start n cs z next m descends at),
        subst (λ (k : ℕ). HasNextAt steps levels next k) is (down_next next m spot at.level),
      )

  descends_path : (a : Channel) (n : ℕ) (cs : List Channel) (z : Channel) → Descends steps levels a n cs z 0 → HasNextAt steps levels z 0 → Path (Step steps) a cs start
  descends_path a n [] z (same, is) (c, step, level) =
      let r = nearest.reached c 0 (step_spot steps z c step) level in
      let here : c ≡ start = r.1 ∙ r.2 in
      subst (λ (x : Channel). Step steps x start) (sym same) (subst (λ (x : Channel). Step steps z x) here step)
  descends_path a n (c ∷ cs) z (m, is, here, rest) last = (here.step, descends_path c m cs z rest last)

  descends_least : (a : Channel) (n : ℕ) (cs : List Channel) (z : Channel) → Descends steps levels a n cs z 0 → ((b : Channel) (m : ℕ) → Step steps a b → level_at levels b ≡ Some m → n ≤ m) → (ds : List Channel) → Path (Step steps) a ds start → length ds ≡ length cs → IsTrue (is_le (slice_cmp channel_cmp cs ds))
  descends_least a n [] z descends bound [] path count = refl
  descends_least a n [] z descends bound (d ∷ ds) path count = absurd (omega arith)
  descends_least a n (b ∷ bs) z descends bound [] path count = absurd (omega arith)
  descends_least a n (b ∷ bs) z (m, is, here, rest) bound (d ∷ ds) (step, path) count =
      let w = path_walk steps d ds start path in
      let d_spot = step_spot steps a d step in
      let l = level_of d (suc (length ds)) d_spot (w.0, w.1, w.2) in
      let le = l.2 in
      let ge = bound d l.0 step l.1 in
      let size = descends_length steps levels b m bs z rest in
      let same : l.0 ≡ n = omega arith in
      let level : level_at levels d ≡ Some n = l.1 ∙ ap (λ (k : ℕ). Some k) same in
      le_then (channel_cmp b d) (slice_cmp channel_cmp bs ds) (here.least d step level)
      (λ equal.
      let one : b ≡ d = channel_same b d equal in
      let b_spot = step_spot steps a b here.step in
      descends_least b m bs z rest (λ x k next there. let h = nearer_next b x n k b_spot here.level next there in omega arith) ds (subst (λ (x : Channel). Path (Step steps) x ds start) (sym one) path) (omega arith))

  -- the descent is the least shortest cycle
  pub descent_least : (n : ℕ) (cs : List Channel) (z : Channel) → LeastAfter steps levels start 13 (Some n) → Descends steps levels start n cs z 0 → HasNextAt steps levels z 0 → IsLeastFrom channel_cmp (Step steps) start cs
  descent_least n cs z behind descends last =
      let bound : (b : Channel) (m : ℕ) → Step steps start b → level_at levels b ≡ Some m → n ≤ m = (λ (b : Channel) (m : ℕ) (step : Step steps start b) (level : level_at levels b ≡ Some m). behind.least step.0 b m (step_low steps.wires.items steps.exits.items steps.to start step.0 b step.1) step.1 level) in
      record {
        closed = descends_path start n cs z descends last;
        shortest = λ ds path.
            let w = path_walk steps start ds start path in
            let l = level_of w.0 (length ds) (step_spot steps start w.0 w.1) w.2 in
            let a = l.2 in
            let b = bound w.0 l.0 w.1 l.1 in
            let size = descends_length steps levels start n cs z descends in
            omega arith;
        least = λ ds path count. descends_least start n cs z descends bound ds path count;
      }

  -- where nothing behind the start has a level, no cycle comes back to it
  pub none_behind : LeastAfter steps levels start 13 None → (ds : List Channel) → IsCycle (Step steps) start ds → ⊥
  none_behind behind ds path =
      let w = path_walk steps start ds start path in
      let l = level_of w.0 (length ds) (step_spot steps start w.0 w.1) w.2 in
      behind w.1.0 w.0 l.0 (step_low steps.wires.items steps.exits.items steps.to start w.1.0 w.0 w.1.1) w.1.1 l.1

-- the first channel on a cycle is the least
pub cycle_at : (steps : Steps) (start : Channel) (channels : List Channel) → steps.to ≡ None → IsSpot start → ((d : Channel) (ds : List Channel) → IsSpot d → place_of d < place_of start → IsCycle (Step steps) d ds → ⊥) → IsLeastCycleFrom (Step steps) start channels → IsLeastCycle channel_cmp (Step steps) channels
cycle_at steps start [] none spot before from = absurd from
cycle_at steps start (c ∷ cs) none spot before (same, from) = record {
  from = subst (λ (x : Channel). IsLeastFrom channel_cmp (Step steps) x cs) (sym same) from;
  first = λ d ds cycle.
      let d_spot = path_from_spot steps d ds d none cycle in
      subst (λ (x : Channel). IsTrue (is_le (channel_cmp x d))) (sym same) (elim (cases_lt (place_of d) (place_of start)) [
        | inl less ↦ absurd (before d ds d_spot less cycle)
        | inr more ↦ place_order start d spot d_spot (omega arith)
      ]);
}
