-- Where no channels lead round, each has a rank: how many steps the longest walk from it has.
use Rattle.std.proofs.Common.{◌≡◌, ◌∙◌, sym, ap, subst, refl, ℕ, zero, suc, ◌+◌, ◌/◌, ◌%◌, ◌<◌, ◌≤◌, List, [], ◌∷◌, Option, Some, None, Bool, true, false, arith, inl, inr, ◌⊎◌, ◌==◌, ◌&&◌, if◌then◌else◌, map}
use Rattle.std.proofs.Math.Bool.{and-false}
use Rattle.std.specs.Prelude.{is_some, max}
use Rattle.std.specs.Option.{option_map_or}
use Rattle.std.specs.List.{list_any, range_with_len}
use Rattle.std.proofs.lemmas.Bool.{cases_lt, eq-eqb, eqb-true, and_parts}
use Rattle.std.proofs.lemmas.List.Folds.{Any-from_list_any, list_any-from_Any}
use Rattle.std.proofs.lemmas.List.FromFn.{get_or-map-range_with_len}
use Rattle.common_values.proofs.PigeonLemmas.{pigeons}
use Rattle.dep_check.specs.declared.channel.Channel.{Channel}
use Rattle.dep_check.specs.Channels.{IsChannel, LeadsTo}
use Rattle.common_graph.specs.Cycles.{HasNoCycle, Path, Walk}
use Rattle.dep_check.specs.Tables.{IsSpot, place_of, rank_at}
use Rattle.dep_check.proofs.SpotLemmas.{one_spot, option_cases, place_low, spot_cases, spot_true}
use Rattle.flow_channels.specs.Layout.{HasRanks, IsWired, LayoutOf, has_exit, spot}
use Rattle.flow_channels.proofs.ExitLemmas.{row_has, row_test}

-- WALKS ARE SHORT

-- where a walk is after so many of its steps
abbrev visit : (Step : Channel → Channel → Type 0) (n : ℕ) (a z : Channel) → Walk Step n a z → ℕ → Channel
visit Step zero a z walk k = a
visit Step (suc n) a z walk zero = a
visit Step (suc n) a z (b, step, walk) (suc k) = visit Step n b z walk k

module _ (Step : Channel → Channel → Type 0) where
  visit_start : (n : ℕ) (a z : Channel) (walk : Walk Step n a z) → visit Step n a z walk 0 ≡ a
  visit_start zero a z walk = refl
  visit_start (suc n) a z walk = refl

  -- a walk leads from where it is earlier to where it is later
  span : (n : ℕ) (a z : Channel) (walk : Walk Step n a z) (i j : ℕ) → i < j → j ≤ n → (cs : List Channel) × Path Step (visit Step n a z walk i) cs (visit Step n a z walk j)
  span zero a z walk i j lt le = absurd (omega arith)
  span (suc n) a z (b, step, walk) i zero lt le = absurd (omega arith)
  span (suc n) a z (b, step, walk) zero (suc zero) lt le = ([], subst (λ (c : Channel). Step a c) (sym (visit_start n b z walk)) step)
  span (suc n) a z (b, step, walk) zero (suc (suc j)) lt le =
      let (cs, path) = span n b z walk 0 (suc j) (omega arith) (omega arith) in
      (b ∷ cs, (step, subst (λ (c : Channel). Path Step c cs (visit Step n b z walk (suc j))) (visit_start n b z walk) path))
  span (suc n) a z (b, step, walk) (suc i) (suc j) lt le = span n b z walk i j (omega arith) (omega arith)

  module _ (ends : (a b : Channel) → Step a b → IsSpot a × IsSpot b) where
    visits_spots : (n : ℕ) (a z : Channel) (walk : Walk Step n a z) → IsSpot a → (k : ℕ) → IsSpot (visit Step n a z walk k)
    visits_spots zero a z walk spot k = spot
    visits_spots (suc n) a z walk spot zero = spot
    visits_spots (suc n) a z (b, step, walk) spot (suc k) = visits_spots n b z walk (ends a b step).1 k

    -- so one of as many steps as there are spots comes to some channel twice
    no_long_walk : HasNoCycle Step → (n : ℕ) → n ≡ 1651 → (a z : Channel) → Walk Step n a z → ⊥
    no_long_walk none zero all a z walk = absurd (omega arith)
    no_long_walk none (suc n) all a z walk =
        let spots = visits_spots (suc n) a z walk (ends a walk.0 walk.1).0 in
        let p = pigeons 1651 (λ k. place_of (visit Step (suc n) a z walk k)) (λ k low. place_low (visit Step (suc n) a z walk k) (spots k)) in
        let first = visit Step (suc n) a z walk p.0 in
        let again = visit Step (suc n) a z walk p.1 in
        let same : first ≡ again = one_spot first again (spots p.0) (spots p.1) p.4 in
        let (cs, path) = span (suc n) a z walk p.0 p.1 p.2 (let le = p.3 in omega arith) in
        none first cs (subst (λ (c : Channel). Path Step first cs c) (sym same) path)

-- THE GREATEST OF THE FIRST

-- one more than the greatest value of the numbers below an end that pass, 0 where none does
greatest_behind : (ℕ → Bool) → (ℕ → ℕ) → ℕ → ℕ
greatest_behind test value zero = 0
greatest_behind test value (suc k) = max (if test k then suc (value k) else 0) (greatest_behind test value k)

-- so much is one more than the value of one of them, or 0
abbrev IsBehind : (ℕ → Bool) → (ℕ → ℕ) → ℕ → ℕ → Type 0
IsBehind test value n m = (m ≡ 0) ⊎ ((k : ℕ) × (k < n) × (test k ≡ true) × (m ≡ suc (value k)))

module _ (test : ℕ → Bool) (value : ℕ → ℕ) where
  behind_same : (other : ℕ → ℕ) (n : ℕ) → ((k : ℕ) → k < n → test k ≡ true → value k ≡ other k) → greatest_behind test value n ≡ greatest_behind test other n
  unfolding greatest_behind
  behind_same other zero same = refl
  behind_same other (suc k) same =
      ap (λ (m : ℕ). max m (greatest_behind test value k)) (one (test k) refl)
      ∙ ap (max (if test k then suc (other k) else 0)) (behind_same other k (λ i low. same i (omega arith)))
    where
      one : (b : Bool) → test k ≡ b → (if b then suc (value k) else 0) ≡ (if b then suc (other k) else 0)
      one true e = ap suc (same k (omega arith) e)
      one false e = refl

  behind_none : (n : ℕ) → ((k : ℕ) → k < n → test k ≡ true → ⊥) → greatest_behind test value n ≡ 0
  unfolding greatest_behind
  behind_none zero none = refl
  behind_none (suc k) none =
      let rest = behind_none k (λ i low. none i (omega arith)) in
      let here = one (test k) refl in
      omega arith
    where
      one : (b : Bool) → test k ≡ b → (if b then suc (value k) else 0) ≡ 0
      one true e = absurd (none k (omega arith) e)
      one false e = refl

  behind_above : (n k : ℕ) → k < n → test k ≡ true → value k < greatest_behind test value n
  unfolding greatest_behind
  behind_above zero k low passes = absurd (omega arith)
  behind_above (suc n) k low passes = elim (last_or k n low) [
    | inl last ↦ (
        let here : (if test n then suc (value n) else 0) ≡ suc (value k) = subst (λ (i : ℕ). (if test i then suc (value i) else 0) ≡ suc (value k)) last (ap (λ (b : Bool). if b then suc (value k) else 0) passes) in
        omega arith)
    | inr before ↦ (let rest = behind_above n k before passes in omega arith)
  ]
    where
      last_or : (i m : ℕ) → i < suc m → (i ≡ m) ⊎ (i < m)
      last_or i m below = grind arith

  -- it is one more than one of them, or 0
  behind_some : (n : ℕ) → IsBehind test value n (greatest_behind test value n)
  unfolding greatest_behind
  behind_some zero = inl refl
  behind_some (suc n) = more (test n) refl (greatest_behind test value n) (behind_some n)
    where
      more : (b : Bool) → test n ≡ b → (m : ℕ) → IsBehind test value n m → IsBehind test value (suc n) (max (if b then suc (value n) else 0) m)
      more false e m (inl bare) = inl (omega arith)
      more false e m (inr (k, low, passes, is)) = inr (k, omega arith, passes, omega arith)
      more true e m (inl bare) = inr (n, omega arith, e, omega arith)
      more true e m (inr (k, low, passes, is)) = elim (cases_lt (value n) m) [
        | inl less ↦ inr (k, omega arith, passes, omega arith)
        | inr others ↦ inr (n, omega arith, e, omega arith)
      ]

-- THE RANKS

-- whether a channel leads to another one
leads : LayoutOf → Channel → Channel → Bool
leads layout channel next =
    is_some (layout.far next)
    && option_map_or (λ end. (end.at == next.at) && list_any (λ row. has_exit end row.to next.port row) layout.rows) (layout.far channel) false

leads_true : (layout : LayoutOf) (a b : Channel) → LeadsTo layout.far layout.rows a b → leads layout a b ≡ true
unfolding leads
leads_true layout a b l =
    let (far, link) = l.link in
    let (k, row, low, is, has) = l.exit in
    let end : Channel = record { at = b.at; port = l.entry } in
    let row_passes = row_test end row.to b.port row has.0 has.1 refl has.3 in
    let some = list_any-from_Any (λ r. has_exit end r.to b.port r) layout.rows (k, row, low, is, row_passes) in
    let same = eq-eqb b.at b.at refl in
    rw (link, l.arrives, same, some) refl

leads_from : (layout : LayoutOf) (a b : Channel) → leads layout a b ≡ true → LeadsTo layout.far layout.rows a b
unfolding leads
leads_from layout a b passes = elim (option_cases (layout.far a)) [
  | inl none ↦ absurd (let gone : leads layout a b ≡ false = rw none (and-false (is_some (layout.far b))) in cc)
  | inr (end, arrives) ↦ (
      let tests = and_parts (is_some (layout.far b)) ((end.at == b.at) && list_any (λ row. has_exit end row.to b.port row) layout.rows) (rw arrives at passes) in
      let inner = and_parts (end.at == b.at) (list_any (λ row. has_exit end row.to b.port row) layout.rows) tests.1 in
      let at : end.at ≡ b.at = eqb-true end.at b.at inner.0 in
      let (k, row, low, is, test) = Any-from_list_any (λ r. has_exit end r.to b.port r) layout.rows inner.1 in
      let has = row_has end row.to b.port row test in
      record {
        entry = end.port;
        arrives = arrives ∙ ap (λ (n : ℕ). Some (spot n end.port)) at;
        to = row.to;
        exit = (k, row, low, is, (has.0 ∙ at, has.1, refl, has.3));
        link = linked (layout.far b) tests.0;
      })
]
  where
    linked : (o : Option Channel) → is_some o ≡ true → (end : Channel) × (o ≡ Some end)
    linked None e = absurd (cc)
    linked (Some end) e = (end, refl)

-- the channel at a place
abbrev channel_at : ℕ → Channel
channel_at place = spot (place / 13) (place % 13)

at_place : (place : ℕ) → place < 1651 → IsSpot (channel_at place)
at_place place low = record { at = omega arith; port = omega arith }

placed : (c : Channel) → IsSpot c → channel_at (place_of c) ≡ c
placed c spot = one_spot (channel_at (place_of c)) c (at_place (place_of c) (place_low c spot)) spot (omega arith)

-- how many steps the longest walk from a place has, of those with at most so many
depth : LayoutOf → ℕ → ℕ → ℕ
depth layout zero place = 0
depth layout (suc most) place = greatest_behind (λ next. leads layout (channel_at place) (channel_at next)) (depth layout most) 1651

-- the same as a rank, for what is a channel
rank_from : LayoutOf → ℕ → ℕ → Option ℕ
rank_from layout most place = if is_some (layout.far (channel_at place)) then Some (depth layout most place) else None

ranks_from : LayoutOf → ℕ → List (Option ℕ)
ranks_from layout most = map (rank_from layout most) (range_with_len 0 1651)

-- the rank of each channel: how many steps the longest walk from it has
pub ranks_in : LayoutOf → List (Option ℕ)
ranks_in layout = ranks_from layout 1651

module _ (layout : LayoutOf) (wired : IsWired layout) (none : HasNoCycle (LeadsTo layout.far layout.rows)) where
  abbrev Step : Channel → Channel → Type 0
  Step a b = LeadsTo layout.far layout.rows a b

  ends : (a b : Channel) → Step a b → IsSpot a × IsSpot b
  ends a b step = (wired.near a (spot b.at step.entry) step.arrives, wired.near b step.link.0 step.link.1)

  depth_is : (most place : ℕ) → depth layout (suc most) place ≡ greatest_behind (λ next. leads layout (channel_at place) (channel_at next)) (depth layout most) 1651
  unfolding depth
  depth_is most place = refl

  first_depth : (place : ℕ) → depth layout 0 place ≡ 0
  unfolding depth
  first_depth place = refl

  -- walks that may be longer are none where those of one step more are none
  settled : (n : ℕ) (c : Channel) → IsSpot c → ((z : Channel) → Walk Step (suc n) c z → ⊥) → (most : ℕ) → n ≤ most → depth layout (suc most) (place_of c) ≡ depth layout most (place_of c)
  settled n c spot short zero le =
      depth_is 0 (place_of c)
      ∙ behind_none (λ next. leads layout (channel_at (place_of c)) (channel_at next)) (depth layout 0) 1651
      (λ next low passes.
      let step : Step c (channel_at next) = subst (λ (a : Channel). Step a (channel_at next)) (placed c spot) (leads_from layout (channel_at (place_of c)) (channel_at next) passes) in
      short_start n (channel_at next) step short le)
      ∙ sym (first_depth (place_of c))
    where
      short_start : (k : ℕ) (b : Channel) → Step c b → ((z : Channel) → Walk Step (suc k) c z → ⊥) → k ≤ 0 → ⊥
      short_start zero b step never le = never b (b, step, refl)
      short_start (suc k) b step never le = absurd (omega arith)
  settled n c spot short (suc most) le =
      depth_is (suc most) (place_of c)
      ∙ behind_same (λ next. leads layout (channel_at (place_of c)) (channel_at next)) (depth layout (suc most)) (depth layout most) 1651
      (λ next low passes.
      let b = channel_at next in
      let step : Step c b = subst (λ (a : Channel). Step a b) (placed c spot) (leads_from layout (channel_at (place_of c)) b passes) in
      behind n next low step (λ k never below. settled k b (at_place next low) never most below) short le)
      ∙ sym (depth_is most (place_of c))
    where
      place_is : (place : ℕ) → place_of (channel_at place) ≡ place
      place_is place = omega arith

      behind :
          (k next : ℕ) → next < 1651 → Step c (channel_at next)
          → ((i : ℕ) → ((z : Channel) → Walk Step (suc i) (channel_at next) z → ⊥) → i ≤ most → depth layout (suc most) (place_of (channel_at next)) ≡ depth layout most (place_of (channel_at next)))
          → ((z : Channel) → Walk Step (suc k) c z → ⊥) → k ≤ suc most → depth layout (suc most) next ≡ depth layout most next
      behind zero next low step ahead never le = absurd (never (channel_at next) (channel_at next, step, refl))
      behind (suc k) next low step ahead never le =
          subst (λ (place : ℕ). depth layout (suc most) place ≡ depth layout most place) (place_is next)
          (ahead k (λ z walk. never z (channel_at next, step, walk)) (omega arith))

  module _ (n : ℕ) (all : suc n ≡ 1651) where
    same_depth : (c : Channel) → IsSpot c → depth layout (suc n) (place_of c) ≡ depth layout n (place_of c)
    same_depth c spot = settled n c spot (λ z walk. no_long_walk Step ends none (suc n) all c z walk) n (omega arith)

    rank_read : (c : Channel) → IsSpot c → rank_at (ranks_from layout (suc n)) c ≡ rank_from layout (suc n) (place_of c)
    unfolding ranks_from
    rank_read c spot = rw (spot_true c spot) (get_or-map-range_with_len (rank_from layout (suc n)) 0 1651 (place_of c) (place_of c) None (place_low c spot) (omega arith))

    channel_rank : (c : Channel) → IsChannel layout.far c → rank_at (ranks_from layout (suc n)) c ≡ Some (depth layout (suc n) (place_of c))
    unfolding rank_from
    channel_rank c (end, far) =
        let spot = wired.near c end far in
        rank_read c spot ∙ ap (λ (a : Channel). if is_some (layout.far a) then Some (depth layout (suc n) (place_of c)) else None) (placed c spot) ∙ ap (λ (o : Option Channel). if is_some o then Some (depth layout (suc n) (place_of c)) else None) far

    no_rank : (c : Channel) → IsSpot c → layout.far c ≡ None → rank_at (ranks_from layout (suc n)) c ≡ None
    unfolding rank_from
    no_rank c spot bare =
        rank_read c spot ∙ ap (λ (a : Channel). if is_some (layout.far a) then Some (depth layout (suc n) (place_of c)) else None) (placed c spot) ∙ ap (λ (o : Option Channel). if is_some o then Some (depth layout (suc n) (place_of c)) else None) bare

    -- a channel is deeper than what it leads to, and one deeper than some, if it is not at the end
    rank_falls : (c b : Channel) → Step c b → depth layout (suc n) (place_of b) < depth layout (suc n) (place_of c)
    rank_falls c b step =
        let (spot, there) = ends c b step in
        let passes : leads layout (channel_at (place_of c)) (channel_at (place_of b)) ≡ true = rw (placed c spot, placed b there) (leads_true layout c b step) in
        let above = behind_above (λ next. leads layout (channel_at (place_of c)) (channel_at next)) (depth layout n) 1651 (place_of b) (place_low b there) passes in
        let own = depth_is n (place_of c) in
        let same = same_depth b there in
        omega arith

    rank_next : (c : Channel) → IsSpot c → (depth layout (suc n) (place_of c) ≡ 0) ⊎ ((b : Channel) × Step c b × (depth layout (suc n) (place_of c) ≡ depth layout (suc n) (place_of b) + 1))
    rank_next c spot =
        let own = depth_is n (place_of c) in
        elim (behind_some (λ next. leads layout (channel_at (place_of c)) (channel_at next)) (depth layout n) 1651) [
          | inl bare ↦ inl (own ∙ bare)
          | inr (k, low, passes, is) ↦ (
              let b = channel_at k in
              let there = at_place k low in
              let step : Step c b = subst (λ (a : Channel). Step a b) (placed c spot) (leads_from layout (channel_at (place_of c)) b passes) in
              let same = same_depth b there in
              let place : place_of b ≡ k = omega arith in
              let value : depth layout n (place_of b) ≡ depth layout n k = ap (depth layout n) place in
              inr (b, step, omega arith))
        ]

    are_ranks : HasRanks layout (ranks_from layout (suc n))
    are_ranks = record {
      nodes = λ c channel. (
        depth layout (suc n) (place_of c),
        channel_rank c channel,
        record {
          above = λ b step. (depth layout (suc n) (place_of b), channel_rank b step.link, rank_falls c b step);
          next = elim (rank_next c (wired.near c channel.0 channel.1)) [
            | inl bare ↦ inl bare
            | inr (b, step, is) ↦ inr (b, depth layout (suc n) (place_of b), step, channel_rank b step.link, is)
          ];
        },
      );
      others = λ c bare. elim (spot_cases c) [
        | inr other ↦ rw other refl
        | inl spot ↦ elim (option_cases (layout.far c)) [
          | inl gone ↦ no_rank c spot gone
          | inr some ↦ absurd (bare some)
        ]
      ];
    }

  -- so each channel has its rank
  pub has_ranks : HasRanks layout (ranks_in layout)
  unfolding ranks_in
  has_ranks = are_ranks 1650 refl
