-- The path along which a route is followed, and what is known after it.
use Rattle.std.proofs.Common.{◌≡◌, ◌≢◌, ◌∙◌, sym, ap, subst, refl, ℕ, zero, suc, ◌+◌, ◌-◌, ◌<◌, ◌≤◌, Bool, true, false, cond, List, [], ◌∷◌, ◌++◌, arith, length, get_or, set, replicate, length-append, length-set, inl, inr, ◌⊎◌}
use Rattle.std.specs.List.{count_by}
use Rattle.std.proofs.Math.ListN.{get_or-append}
use Rattle.std.proofs.Math.Seq.{get_or-append_seam}
use Rattle.std.proofs.lemmas.Bool.{cases_eq, cases_lt}
use Rattle.std.proofs.lemmas.List.{get_or-replicate, get_or-set_other, get_or-set_same, get_or_past, length-replicate}
use Rattle.std.proofs.lemmas.List.Sums.{count_by-le-length, sum_by-set}
use Rattle.fabric_routes.specs.declared.hop.Cause.{Cause}
use Rattle.fabric_routes.specs.declared.hop.Hop.{Hop}
use Rattle.fabric_routes.specs.declared.hop.Hop.TheVariants.{On, Arrive, Stop}
use Rattle.fabric_routes.specs.declared.hop.Outcome.{Outcome}
use Rattle.fabric_routes.specs.declared.hop.Outcome.TheVariants.{Arrives, Stops, Loops}
use Rattle.fabric_routes.specs.declared.trace.After.TheVariants.{Goes, Ends}
use Rattle.fabric_routes.specs.declared.trace.Mark.{Mark}
use Rattle.fabric_routes.specs.declared.trace.Mark.TheVariants.{New, Open, Known}
use Rattle.fabric_routes.specs.Routes.{EndsAs, WalksBy}
use Rattle.fabric_routes.specs.Trace.{AreEnds, AreSettled, AreShort, EndsAfter, IsAfter, IsChain, IsFollowed, IsFollowing, IsOpenPath, IsReached, IsReady, IsSettling, IsShort, is_known, is_new, last_of, LandsWithin, longer, mark_at}

-- a count after one element is replaced
count_set : (p : Mark → Bool) (xs : List Mark) (k : ℕ) (y : Mark) → k < length xs → count_by p (set xs k y) + cond (p (get_or xs k New)) 1 0 ≡ count_by p xs + cond (p y) 1 0
count_set p xs k y low = sum_by-set (λ (x : Mark). cond (p x) 1 0) xs k y New low

count_flags : (p : Mark → Bool) (xs : List Mark) (k : ℕ) (x y : Mark) (b c : Bool) → k < length xs → get_or xs k New ≡ x → p x ≡ b → p y ≡ c → count_by p (set xs k y) + cond b 1 0 ≡ count_by p xs + cond c 1 0
count_flags p xs k x y b c low is px py =
    let bx : p (get_or xs k New) ≡ b = ap p is ∙ px in
    subst (λ (f : Bool). count_by p (set xs k y) + cond f 1 0 ≡ count_by p xs + cond c 1 0) bx
    (subst (λ (f : Bool). count_by p (set xs k y) + cond (p (get_or xs k New)) 1 0 ≡ count_by p xs + cond f 1 0) py (count_set p xs k y low))

-- what is marked is a switch that there is
marked_low : (marks : List Mark) (at : ℕ) (mark : Mark) → mark_at marks at ≡ mark → mark ≢ New → at < length marks
marked_low marks at mark is other = elim (cases_lt at (length marks)) [
  | inl low ↦ low
  | inr past ↦ absurd (other (sym is ∙ get_or_past marks at New past))
]

module _ (hop_at : ℕ → Hop) where
  -- a hop before a walk
  walk_front : (hops start port next at : ℕ) → hop_at start ≡ On port next → WalksBy hop_at hops next at → WalksBy hop_at (suc hops) start at
  walk_front zero start port next at on same = (start, port, refl, on ∙ ap (λ (n : ℕ). On port n) same)
  walk_front (suc hops) start port next at on (before, by, walk, last) = (before, by, walk_front hops start port next before on walk, last)

  -- how the route ends from one switch before
  pub ends_longer : (at : ℕ) (does : Hop) (beyond : Outcome) → hop_at at ≡ does → EndsAfter hop_at does beyond → EndsAs hop_at at (longer beyond)
  ends_longer at Arrive (Arrives switches) is ends = (0, at, refl, is, (let e : switches ≡ 0 = cc in omega arith))
  ends_longer at Arrive (Stops cause) is ends = absurd (cc)
  ends_longer at Arrive Loops is ends = absurd (cc)
  ends_longer at (Stop cause) (Arrives switches) is ends = absurd (cc)
  ends_longer at (Stop cause) (Stops other) is ends = (0, at, refl, (let e : cause ≡ other = cc in is ∙ ap (λ (c : Cause). Stop c) e))
  ends_longer at (Stop cause) Loops is ends = absurd (cc)
  ends_longer at (On port next) (Arrives switches) is (hops, there, walk, arrive, count) = (suc hops, there, walk_front hops at port next there is walk, arrive, omega arith)
  ends_longer at (On port next) (Stops cause) is (hops, there, walk, stop) = (suc hops, there, walk_front hops at port next there is walk, stop)
  ends_longer at (On port next) Loops is ends = go
    where
      go : (hops : ℕ) → (there : ℕ) × WalksBy hop_at hops at there
      go zero = (at, refl)
      go (suc hops) = let rest = ends hops in (rest.0, walk_front hops at port next rest.0 is rest.1)

  -- who comes back goes on for ever
  module _ (path : List ℕ) (chain : IsChain hop_at path) (place next port : ℕ) (low : place < length path) (is : get_or path place 0 ≡ next) (on : hop_at (last_of path) ≡ On port next) where
    round : (hops : ℕ) → (at : ℕ) × (at < length path) × WalksBy hop_at hops next (get_or path at 0)
    round zero = (place, low, sym is)
    round (suc hops) =
        let before = round hops in
        let at = before.0 in
        elim (cases_lt (before.0 + 1) (length path)) [
          | inl more ↦ (
              let step = chain before.0 more in
              (before.0 + 1, more, (get_or path before.0 0, step.0, before.2, step.1)))
          | inr end ↦ (
              let last : before.0 ≡ length path - 1 = let l = before.1 in omega arith in
              (place, low, (get_or path before.0 0, port, before.2, ap (λ (k : ℕ). hop_at (get_or path k 0)) last ∙ on ∙ ap (λ (n : ℕ). On port n) (sym is))))
        ]

    pub goes_round : EndsAs hop_at next Loops
    goes_round hops = let walk = round hops in (get_or path walk.0 0, walk.2)

-- one switch more on a path
push_old : (path : List ℕ) (at place : ℕ) → place < length path → get_or (path ++ at ∷ []) place 0 ≡ get_or path place 0
push_old path at place low = get_or-append path (at ∷ []) 0 place low

push_last : (path : List ℕ) (at : ℕ) → get_or (path ++ at ∷ []) (length path) 0 ≡ at
push_last path at = get_or-append_seam path at [] 0

push_count : (path : List ℕ) (at : ℕ) → length (path ++ at ∷ []) ≡ length path + 1
push_count path at = length-append path (at ∷ []) ∙ omega arith

pushed : (path : List ℕ) (at : ℕ) (P : ℕ → Type 0) → ((place : ℕ) → place < length path → P (get_or path place 0)) → P at → (place : ℕ) → place < length (path ++ at ∷ []) → P (get_or (path ++ at ∷ []) place 0)
pushed path at P old new place low =
    let count = push_count path at in
    elim (cases_lt place (length path)) [
      | inl before ↦ subst P (sym (push_old path at place before)) (old place before)
      | inr end ↦ (
          let last : place ≡ length path = omega arith in
          subst P (sym (ap (λ (k : ℕ). get_or (path ++ at ∷ []) k 0) last ∙ push_last path at)) new)
    ]

module _ (marks : List Mark) (at : ℕ) (low : at < length marks) where
  set_here : (mark : Mark) → mark_at (set marks at mark) at ≡ mark
  set_here mark = get_or-set_same marks at mark New low

  set_there : (mark : Mark) (other : ℕ) → other ≢ at → mark_at (set marks at mark) other ≡ mark_at marks other
  set_there mark other differs = get_or-set_other marks at other mark New differs

  -- a switch that is new is opened, at the end of the path
  module _ (path : List ℕ) (opened : IsOpenPath marks path) (new : mark_at marks at ≡ New) where
    off_path : (place : ℕ) → place < length path → get_or path place 0 ≢ at
    off_path place within same = absurd (let open_there = opened.open_at place within in let there : mark_at marks (get_or path place 0) ≡ mark_at marks at = ap (mark_at marks) same in cc)

    one_end : (place : ℕ) → place < length path → get_or (path ++ at ∷ []) place 0 ≡ get_or (path ++ at ∷ []) (length path) 0 → ⊥
    one_end place within same = off_path place within (sym (push_old path at place within) ∙ same ∙ push_last path at)

    pub open_push : IsOpenPath (set marks at Open) (path ++ at ∷ [])
    open_push =
        let count = push_count path at in
        let size = length-set marks at Open in
        record {
          low = pushed path at (λ (s : ℕ). s < length (set marks at Open)) (λ place within. (let l = opened.low place within in omega arith)) (omega arith);
          open_at = pushed path at (λ (s : ℕ). mark_at (set marks at Open) s ≡ Open) (λ place within. set_there Open (get_or path place 0) (off_path place within) ∙ opened.open_at place within) (set_here Open);
          has = λ other is. elim (cases_eq other at) [
            | inl same ↦ (length path, omega arith, push_last path at ∙ sym same)
            | inr differs ↦ (
                let old = opened.has other (sym (set_there Open other differs) ∙ is) in
                (old.0, omega (arith, old.1), push_old path at old.0 old.1 ∙ old.2))
          ];
          apart = λ one other low_one low_other same. elim (cases_lt one (length path)) [
            | inl before ↦ elim (cases_lt other (length path)) [
              | inl other_before ↦ opened.apart one other before other_before (sym (push_old path at one before) ∙ same ∙ push_old path at other other_before)
              | inr other_end ↦ absurd (one_end one before (let last : other ≡ length path = omega arith in same ∙ ap (λ (k : ℕ). get_or (path ++ at ∷ []) k 0) last))
            ]
            | inr end ↦ elim (cases_lt other (length path)) [
              | inl other_before ↦ absurd (one_end other other_before (let last : one ≡ length path = omega arith in sym same ∙ ap (λ (k : ℕ). get_or (path ++ at ∷ []) k 0) last))
              | inr other_end ↦ omega arith
            ]
          ];
        }

    known_opened : count_by is_known (set marks at Open) ≡ count_by is_known marks
    known_opened = let e = count_flags is_known marks at New Open false false low new refl refl in omega arith

    pub fewer_new : count_by is_new (set marks at Open) < count_by is_new marks
    fewer_new = let e = count_flags is_new marks at New Open true false low new refl refl in omega arith

    known_before : (other : ℕ) (outcome : Outcome) → mark_at (set marks at Open) other ≡ Known outcome → mark_at marks other ≡ Known outcome
    known_before other outcome is = elim (cases_eq other at) [
      | inl same ↦ absurd (let here = set_here Open in let e : mark_at (set marks at Open) other ≡ mark_at (set marks at Open) at = ap (mark_at (set marks at Open)) same in cc)
      | inr differs ↦ sym (set_there Open other differs) ∙ is
    ]

    pub ends_push : (hop_at : ℕ → Hop) → AreEnds hop_at marks → AreEnds hop_at (set marks at Open)
    ends_push hop_at ends other outcome is = ends other outcome (known_before other outcome is)

    pub short_push : AreShort marks → AreShort (set marks at Open)
    short_push short other outcome is = subst (λ (n : ℕ). IsShort n outcome) (sym known_opened) (short other outcome (known_before other outcome is))

    pub chain_push : (hop_at : ℕ → Hop) → IsChain hop_at path → (0 < length path → (port : ℕ) × (hop_at (last_of path) ≡ On port at)) → IsChain hop_at (path ++ at ∷ [])
    chain_push hop_at chain leads place within =
        let count = push_count path at in
        elim (cases_lt (place + 1) (length path)) [
          | inl before ↦ (
              let step = chain place before in
              (step.0, ap hop_at (push_old path at place (omega arith)) ∙ step.1 ∙ ap (λ (n : ℕ). On step.0 n) (sym (push_old path at (place + 1) before))))
          | inr end ↦ (
              let last : place ≡ length path - 1 = omega arith in
              let next : place + 1 ≡ length path = omega arith in
              let step = leads (omega arith) in (
                step.0,
                ap hop_at (push_old path at place (omega arith)) ∙ ap (λ (k : ℕ). hop_at (get_or path k 0)) last ∙ step.1
                    ∙ ap (λ (n : ℕ). On step.0 n) (sym (ap (λ (k : ℕ). get_or (path ++ at ∷ []) k 0) next ∙ push_last path at)),
              ))
        ]

-- the route is followed by one switch more
pub reach : (hop_at : ℕ → Hop) (start : ℕ) (marks : List Mark) (path : List ℕ) (at : ℕ) → IsFollowing hop_at start marks path at → IsReached hop_at start (set marks at Open) (path ++ at ∷ [])
reach hop_at start marks path at is =
    let count = push_count path at in
    record {
      opened = open_push marks at is.low path is.opened is.new;
      chain = chain_push marks at is.low path is.opened is.new hop_at is.chain is.leads;
      ends = ends_push marks at is.low path is.opened is.new hop_at is.ends;
      short = short_push marks at is.low path is.opened is.new is.short;
      some = omega arith;
      first = elim (cases_eq (length path) 0) [
        | inl none ↦ ap (λ (k : ℕ). get_or (path ++ at ∷ []) k 0) (sym none) ∙ push_last path at ∙ is.begins none
        | inr some ↦ push_old path at 0 (omega arith) ∙ is.first (omega arith)
      ];
    }

pub last_reached : (path : List ℕ) (at : ℕ) → last_of (path ++ at ∷ []) ≡ at
last_reached path at =
    let count = push_count path at in
    let last : length (path ++ at ∷ []) - 1 ≡ length path = omega arith in
    ap (λ (k : ℕ). get_or (path ++ at ∷ []) k 0) last ∙ push_last path at

-- the same of what was pushed
pub reach_as : (hop_at : ℕ → Hop) (start : ℕ) (marks : List Mark) (path new_path : List ℕ) (at : ℕ) → IsFollowing hop_at start marks path at → new_path ≡ path ++ at ∷ [] → IsReached hop_at start (set marks at Open) new_path × (last_of new_path ≡ at)
reach_as hop_at start marks path new_path at is same = (
  subst (λ (p : List ℕ). IsReached hop_at start (set marks at Open) p) (sym same) (reach hop_at start marks path at is),
  ap last_of same ∙ last_reached path at,
)

-- how it ends there
pub followed : (hop_at : ℕ → Hop) (start : ℕ) (marks : List Mark) (path : List ℕ) (at : ℕ) (does : Hop) (beyond : Outcome) → IsReached hop_at start marks path → last_of path ≡ at → hop_at at ≡ does → EndsAfter hop_at does beyond → IsShort (count_by is_known marks) beyond → IsFollowed hop_at start marks path beyond
followed hop_at start marks path at does beyond reached last is after few = record {
  reached = reached;
  after = subst (λ (h : Hop). EndsAfter hop_at h beyond) (sym (ap hop_at last ∙ is)) after;
  few = few;
}

-- at first
pub follow_first : (hop_at : ℕ → Hop) (start : ℕ) (marks : List Mark) (path : List ℕ) → path ≡ [] → mark_at marks start ≡ New → start < length marks → AreSettled marks → AreEnds hop_at marks → AreShort marks → IsFollowing hop_at start marks path start
follow_first hop_at start marks path none new low settled ends short =
    let size : length path ≡ 0 = ap (λ (p : List ℕ). length p) none in
    record {
      opened = record {
        low = λ place within. absurd (omega arith);
        open_at = λ place within. absurd (omega arith);
        has = λ at is. absurd (settled at is);
        apart = λ one other low_one low_other same. absurd (omega arith);
      };
      chain = λ place within. absurd (omega arith);
      ends = ends;
      short = short;
      new = new;
      low = low;
      begins = λ _. refl;
      first = λ some. absurd (omega arith);
      leads = λ some. absurd (omega arith);
    }

-- to another switch that is new
pub follow_more : (hop_at : ℕ → Hop) (start : ℕ) (marks : List Mark) (path : List ℕ) (port next : ℕ) → IsReached hop_at start marks path → hop_at (last_of path) ≡ On port next → mark_at marks next ≡ New → next < length marks → IsFollowing hop_at start marks path next
follow_more hop_at start marks path port next is on new low = record {
  opened = is.opened;
  chain = is.chain;
  ends = is.ends;
  short = is.short;
  new = new;
  low = low;
  begins = λ none. absurd (let some = is.some in omega arith);
  first = λ _. is.first;
  leads = λ _. (port, on);
}

-- to one that is open
pub follow_round : (hop_at : ℕ → Hop) (start : ℕ) (marks : List Mark) (path : List ℕ) (port next : ℕ) → IsReached hop_at start marks path → hop_at (last_of path) ≡ On port next → mark_at marks next ≡ Open → EndsAs hop_at next Loops
follow_round hop_at start marks path port next is on open_there =
    let place = is.opened.has next open_there in
    goes_round hop_at path is.chain place.0 next port place.1 place.2 on

-- the same by what is known of the switch to which the last hop leads
pub followed_after : (hop_at : ℕ → Hop) (start : ℕ) (marks : List Mark) (path : List ℕ) (at : ℕ) (does : Hop) (beyond : Outcome) → IsReached hop_at start marks path → last_of path ≡ at → hop_at at ≡ does → IsAfter marks does (Ends beyond) → IsFollowed hop_at start marks path beyond
followed_after hop_at start marks path at Arrive beyond reached last is after = followed hop_at start marks path at Arrive beyond reached last is after (subst (λ (o : Outcome). IsShort (count_by is_known marks) o) (sym after) (omega arith))
followed_after hop_at start marks path at (Stop cause) beyond reached last is after = followed hop_at start marks path at (Stop cause) beyond reached last is after (subst (λ (o : Outcome). IsShort (count_by is_known marks) o) (sym after) tt)
followed_after hop_at start marks path at (On port next) beyond reached last is (inl known) = followed hop_at start marks path at (On port next) beyond reached last is (reached.ends next beyond known) (reached.short next beyond known)
followed_after hop_at start marks path at (On port next) beyond reached last is (inr (opened, loops)) =
    subst (λ (o : Outcome). IsFollowed hop_at start marks path o) (sym loops) (followed hop_at start marks path at (On port next) Loops reached last is (follow_round hop_at start marks path port next reached (ap hop_at last ∙ is) opened) tt)

-- where it goes on
pub goes_after : (marks : List Mark) (count : ℕ) (does : Hop) (next : ℕ) → IsAfter marks does (Goes next) → LandsWithin count does → (port : ℕ) × (does ≡ On port next) × (mark_at marks next ≡ New) × (next < count)
goes_after marks count (On port at) next (same, new) within = (port, ap (On port) (sym same), ap (mark_at marks) same ∙ new, omega arith)
goes_after marks count Arrive next after within = absurd after
goes_after marks count (Stop cause) next after within = absurd after

-- The last switch of a path is settled.
pub few_known : (marks : List Mark) (at : ℕ) (outcome : Outcome) → at < length marks → mark_at marks at ≡ Open → count_by is_known (set marks at (Known outcome)) ≡ count_by is_known marks + 1
few_known marks at outcome low is = let e = count_flags is_known marks at Open (Known outcome) false true low is refl refl in omega arith

pub known_fits : (marks : List Mark) (at : ℕ) → at < length marks → mark_at marks at ≡ Open → count_by is_known marks < length marks
known_fits marks at low is =
    let more = few_known marks at Loops low is in
    let most = count_by-le-length is_known (set marks at (Known Loops)) in
    let size = length-set marks at (Known Loops) in
    omega arith

pub short_longer : (most : ℕ) (outcome : Outcome) → IsShort most outcome → IsShort (most + 1) (longer outcome)
short_longer most (Arrives switches) is = omega arith
short_longer most (Stops cause) is = tt
short_longer most Loops is = tt

short_more : (most : ℕ) (outcome : Outcome) → IsShort most outcome → IsShort (most + 1) outcome
short_more most (Arrives switches) is = omega arith
short_more most (Stops cause) is = tt
short_more most Loops is = tt

module _ (marks : List Mark) (whole rest : List ℕ) (at : ℕ) (is_whole : whole ≡ rest ++ at ∷ []) (opened : IsOpenPath marks whole) where
  pub path_count : length whole ≡ length rest + 1
  path_count = ap (λ (p : List ℕ). length p) is_whole ∙ push_count rest at

  pub path_old : (place : ℕ) → place < length rest → get_or whole place 0 ≡ get_or rest place 0
  path_old place low = ap (λ (p : List ℕ). get_or p place 0) is_whole ∙ push_old rest at place low

  path_last : get_or whole (length rest) 0 ≡ at
  path_last = ap (λ (p : List ℕ). get_or p (length rest) 0) is_whole ∙ push_last rest at

  pub last_low : at < length marks
  last_low = let c = path_count in subst (λ (s : ℕ). s < length marks) path_last (opened.low (length rest) (omega arith))

  pub last_open : mark_at marks at ≡ Open
  last_open = let c = path_count in subst (λ (s : ℕ). mark_at marks s ≡ Open) path_last (opened.open_at (length rest) (omega arith))

  rest_other : (place : ℕ) → place < length rest → get_or rest place 0 ≢ at
  rest_other place low same =
      let c = path_count in
      let e = opened.apart place (length rest) (omega arith) (omega arith) (path_old place low ∙ same ∙ sym path_last) in
      absurd (omega arith)

  module _ (outcome : Outcome) where
    pub open_pop : IsOpenPath (set marks at (Known outcome)) rest
    open_pop =
        let c = path_count in
        let size = length-set marks at (Known outcome) in
        record {
          low = λ place within. (let l = opened.low place (omega arith) in let e = path_old place within in omega arith);
          open_at = λ place within. set_there marks at last_low (Known outcome) (get_or rest place 0) (rest_other place within) ∙ ap (mark_at marks) (sym (path_old place within)) ∙ opened.open_at place (omega arith);
          has = λ other is. elim (cases_eq other at) [
            | inl same ↦ absurd (let here = set_here marks at last_low (Known outcome) in let e : mark_at (set marks at (Known outcome)) other ≡ mark_at (set marks at (Known outcome)) at = ap (mark_at (set marks at (Known outcome))) same in cc)
            | inr differs ↦ (
                let old = opened.has other (sym (set_there marks at last_low (Known outcome) other differs) ∙ is) in
                elim (cases_lt old.0 (length rest)) [
                  | inl before ↦ (old.0, before, sym (path_old old.0 before) ∙ old.2)
                  | inr end ↦ absurd (differs (let last : old.0 ≡ length rest = let l = old.1 in omega arith in sym old.2 ∙ ap (λ (k : ℕ). get_or whole k 0) last ∙ path_last))
                ])
          ];
          apart = λ one other low_one low_other same. opened.apart one other (omega arith) (omega arith) (path_old one low_one ∙ same ∙ sym (path_old other low_other));
        }

    -- what is known after it
    known_after : (other : ℕ) (told : Outcome) → mark_at (set marks at (Known outcome)) other ≡ Known told → ((other ≡ at) × (outcome ≡ told)) ⊎ (mark_at marks other ≡ Known told)
    known_after other told is = elim (cases_eq other at) [
      | inl same ↦ inl (same, (let here = set_here marks at last_low (Known outcome) in let e : mark_at (set marks at (Known outcome)) other ≡ mark_at (set marks at (Known outcome)) at = ap (mark_at (set marks at (Known outcome))) same in cc))
      | inr differs ↦ inr (sym (set_there marks at last_low (Known outcome) other differs) ∙ is)
    ]

    pub short_pop : AreShort marks → IsShort (count_by is_known marks + 1) outcome → AreShort (set marks at (Known outcome))
    short_pop short new other told is =
        let count = few_known marks at outcome last_low last_open in
        subst (λ (n : ℕ). IsShort n told) (sym count) (elim (known_after other told is) [
          | inl (_, same) ↦ subst (λ (o : Outcome). IsShort (count_by is_known marks + 1) o) same new
          | inr old ↦ short_more (count_by is_known marks) told (short other told old)
        ])

    pub ends_pop : (hop_at : ℕ → Hop) → AreEnds hop_at marks → EndsAs hop_at at outcome → AreEnds hop_at (set marks at (Known outcome))
    ends_pop hop_at ends new other told is = elim (known_after other told is) [
      | inl (same, as_told) ↦ subst (λ (s : ℕ). EndsAs hop_at s told) (sym same) (subst (λ (o : Outcome). EndsAs hop_at at o) as_told new)
      | inr old ↦ ends other told old
    ]

  pub last_whole : last_of whole ≡ at
  last_whole = let c = path_count in let last : length whole - 1 ≡ length rest = omega arith in ap (λ (k : ℕ). get_or whole k 0) last ∙ path_last

  -- one switch before
  pub settle_more : (hop_at : ℕ → Hop) (all : List ℕ) (outcome : Outcome) → ((place : ℕ) → place < length whole → get_or whole place 0 ≡ get_or all place 0) → IsSettling hop_at marks whole all outcome → IsSettling hop_at (set marks at (Known (longer outcome))) rest all (longer outcome)
  settle_more hop_at all outcome same_as is =
      let c = path_count in
      let ends : EndsAs hop_at at (longer outcome) = ends_longer hop_at at (hop_at at) outcome refl (subst (λ (s : ℕ). EndsAfter hop_at (hop_at s) outcome) last_whole (is.after (omega arith))) in
      record {
        ends = ends_pop (longer outcome) hop_at is.ends ends;
        chain = λ place within. (
            let step = is.chain place (omega arith) in
            (step.0, ap hop_at (sym (path_old place (omega arith))) ∙ step.1 ∙ ap (λ (n : ℕ). On step.0 n) (path_old (place + 1) within)));
        after = λ some. (
            let step = is.chain (length rest - 1) (omega arith) in
            let next : length rest - 1 + 1 ≡ length rest = omega arith in
            let on : hop_at (last_of rest) ≡ On step.0 at = ap hop_at (sym (path_old (length rest - 1) (omega arith))) ∙ step.1 ∙ ap (λ (k : ℕ). On step.0 (get_or whole k 0)) next ∙ ap (λ (n : ℕ). On step.0 n) path_last in
            subst (λ (h : Hop). EndsAfter hop_at h (longer outcome)) (sym on) ends);
        done = λ less. subst (λ (s : ℕ). EndsAs hop_at s (longer outcome)) (sym path_last ∙ same_as (length rest) (omega arith)) ends;
      }

  -- what is kept while a path is settled
  pub settle_step : (all : List ℕ) (outcome next : Outcome) → next ≡ longer outcome → AreShort marks → IsShort (count_by is_known marks) outcome → IsOpenPath (set marks at (Known next)) rest × AreShort (set marks at (Known next)) × IsShort (count_by is_known (set marks at (Known next))) next
  settle_step all outcome next same short few =
      let new = subst (λ (o : Outcome). IsShort (count_by is_known marks + 1) o) (sym same) (short_longer (count_by is_known marks) outcome few) in (
        open_pop next,
        short_pop next short new,
        subst (λ (n : ℕ). IsShort n next) (sym (few_known marks at next last_low last_open)) new,
      )

  pub settle_next : (hop_at : ℕ → Hop) (all : List ℕ) (outcome next : Outcome) → next ≡ longer outcome → ((place : ℕ) → place < length whole → get_or whole place 0 ≡ get_or all place 0) → IsSettling hop_at marks whole all outcome → IsSettling hop_at (set marks at (Known next)) rest all next
  settle_next hop_at all outcome next same same_as is = subst (λ (o : Outcome). IsSettling hop_at (set marks at (Known o)) rest all o) (sym same) (settle_more hop_at all outcome same_as is)

-- at last
pub settled : (hop_at : ℕ → Hop) (start : ℕ) (marks : List Mark) (path whole : List ℕ) (old : List Mark) (beyond outcome : Outcome) → length path ≡ 0 → length marks ≡ length old → IsOpenPath marks path → AreShort marks → IsFollowed hop_at start old whole beyond → IsSettling hop_at marks path whole outcome → AreEnds hop_at marks × AreSettled marks × EndsAs hop_at start outcome
settled hop_at start marks path whole old beyond outcome none size opened short followed is = (
  is.ends,
  λ at is_open. (let place = opened.has at is_open in let low = place.1 in absurd (omega arith)),
  (
      let some = followed.reached.some in
      let done = is.done (omega arith) in
      subst (λ (s : ℕ). EndsAs hop_at s outcome) (ap (λ (k : ℕ). get_or whole k 0) none ∙ followed.reached.first) done),
)

pub short_within : (few most : ℕ) (outcome : Outcome) → few ≤ most → IsShort few outcome → IsShort most outcome
short_within few most (Arrives switches) le is = omega arith
short_within few most (Stops cause) le is = tt
short_within few most Loops le is = tt

-- new switches are no more than all
pub few_new : (marks : List Mark) → 0 + count_by is_new marks ≤ length marks
few_new marks = let most = count_by-le-length is_new marks in omega arith

-- rooms for so many switches, of which nothing is known
new_at : (n at : ℕ) → mark_at (replicate n New) at ≡ New
new_at n at = elim (cases_lt at n) [
  | inl low ↦ get_or-replicate n at New New low
  | inr past ↦ get_or_past (replicate n New) at New (let size = length-replicate n New in omega arith)
]

pub ready_new : (hop_at : ℕ → Hop) (count n : ℕ) (marks : List Mark) → n ≡ count → marks ≡ replicate n New → IsReady hop_at count marks
ready_new hop_at count n marks same is = record {
  size = ap (λ (xs : List Mark). length xs) is ∙ length-replicate n New ∙ same;
  ends = λ at outcome known. absurd (let new = at_new at in cc);
  short = λ at outcome known. absurd (let new = at_new at in cc);
  settled = λ at opened. absurd (let new = at_new at in cc);
}
  where
    at_new : (at : ℕ) → mark_at marks at ≡ New
    at_new at = ap (λ (xs : List Mark). mark_at xs at) is ∙ new_at n at

pub room_for : (count n : ℕ) (path : List ℕ) → n ≡ count → path ≡ replicate n 0 → count ≤ length path
room_for count n path same is = let size : length path ≡ n = ap (λ (xs : List ℕ). length xs) is ∙ length-replicate {A = ℕ} n 0 in omega arith
