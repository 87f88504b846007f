-- A route is followed from place to place: it goes by a channel at one of them, or at none.
use Rattle.std.proofs.Common.{◌≡◌, ◌∙◌, sym, ap, subst, refl, ℕ, zero, suc, ◌+◌, ◌<◌, ◌≤◌, Bool, true, false, cond, List, arith, length, get_or, set, replicate, inl, inr}
use Rattle.std.specs.List.{count_by}
use Rattle.std.proofs.lemmas.Bool.{cases_eq, cases_lt, false≢true}
use Rattle.std.proofs.lemmas.List.{get_or-replicate, get_or-set_other, get_or_past, length-replicate}
use Rattle.std.proofs.lemmas.List.Sums.{sum_by-set}
use Rattle.fabric_model.specs.declared.node.Spot.{Spot}
use Rattle.fabric_lane_routes.specs.declared.hop.LaneHop.{LaneHop}
use Rattle.fabric_lane_routes.specs.declared.hop.LaneHop.TheVariants.{On}
use Rattle.fabric_lane_routes.specs.LaneRoutes.{LaneChannel, LaneWalksBy}
use Rattle.fabric_lane_witness.specs.Search.{GoesBy}

-- a switch at which no route was yet
abbrev pub is_new : Bool → Bool
is_new marked = cond marked false true

-- one more is marked
pub fewer_new : (marks : List Bool) (at : ℕ) → at < length marks → get_or marks at false ≡ false → count_by is_new (set marks at true) < count_by is_new marks
fewer_new marks at low new =
    let e : count_by is_new (set marks at true) + cond {A = ℕ} (is_new (get_or marks at false)) 1 0 ≡ count_by is_new marks + 0 = sum_by-set (λ (b : Bool). cond (is_new b) 1 0) marks at true false low in
    let f : cond {A = ℕ} (is_new (get_or marks at false)) 1 0 ≡ 1 = ap (λ (b : Bool). cond (is_new b) 1 0) new in
    omega arith

module _ (hop_at : Spot → LaneHop) where
  -- a hop leads to one place
  one_next : (at next other : Spot) (port lane out way : ℕ) → hop_at at ≡ On port lane next → hop_at at ≡ On out way other → next ≡ other
  one_next at next other port lane out way one two = cc

  -- a walk of so many hops ends at one place
  one_end : (hops : ℕ) (start at there : Spot) → LaneWalksBy hop_at hops start at → LaneWalksBy hop_at hops start there → at ≡ there
  one_end zero start at there one other = sym one ∙ other
  one_end (suc hops) start at there (before, port, lane, walk, on) (other_before, out, way, other_walk, other_on) =
      let same = one_end hops start before other_before walk other_walk in
      one_next other_before at there port lane out way (ap hop_at (sym same) ∙ on) other_on

  -- a place from which one walks on
  pub record Passes (hops : ℕ) (start : Spot) : Type 0 where
    pub at : Spot
    pub walk : LaneWalksBy hop_at hops start at
    pub port : ℕ
    pub lane : ℕ
    pub next : Spot
    pub on : hop_at at ≡ On port lane next

  passes : (hops more : ℕ) (start end : Spot) → hops < more → LaneWalksBy hop_at more start end → Passes hops start
  passes hops zero start end less walk = absurd (omega arith)
  passes hops (suc more) start end less (before, port, lane, walk, on) = elim (cases_lt hops more) [
    | inl fewer ↦ passes hops more start before fewer walk
    | inr last ↦ (
        let same : more ≡ hops = omega arith in
        record { at = before; walk = subst (λ (k : ℕ). LaneWalksBy hop_at k start before) same walk; port = port; lane = lane; next = end; on = on })
  ]

  module _ (channel : LaneChannel) where
    -- at a place it goes by the channel
    abbrev pub LeavesBy : Spot → Type 0
    LeavesBy at = (at.switch ≡ channel.switch) × ((next : Spot) × (hop_at at ≡ On channel.port channel.lane next))

    abbrev IsOut : Spot → ℕ → ℕ → Type 0
    IsOut at port lane = (at.switch ≡ channel.switch) × (port ≡ channel.port) × (lane ≡ channel.lane)

    pub leaves : (at next : Spot) (port lane : ℕ) → hop_at at ≡ On port lane next → IsOut at port lane → LeavesBy at
    leaves at next port lane on (switch, out, way) = (switch, (next, on ∙ ap (λ (p : ℕ). On p lane next) out ∙ ap (λ (l : ℕ). On channel.port l next) way))

    pub leaves_not : (at next : Spot) (port lane : ℕ) → hop_at at ≡ On port lane next → (IsOut at port lane → ⊥) → LeavesBy at → ⊥
    leaves_not at next port lane on other (switch, (to, goes)) =
        let out : port ≡ channel.port = cc in
        let way : lane ≡ channel.lane = cc in
        other (switch, out, way)

    -- The route was followed to a place, and has not gone by the channel; the switches that it came to are marked.
    pub record IsFollowed (start at : Spot) (marks : List Bool) : Type 0 where
      pub hops : ℕ
      pub comes : LaneWalksBy hop_at hops start at
      pub none : (before : ℕ) (there : Spot) → before < hops → LaneWalksBy hop_at before start there → LeavesBy there → ⊥
      pub seen :
          (switch : ℕ) → get_or marks switch false ≡ true
          → (before : ℕ) × (before < hops) × ((there : Spot) × LaneWalksBy hop_at before start there × (there.switch ≡ switch))

    pub begun : (start : Spot) (count : ℕ) (marks : List Bool) → marks ≡ replicate count false → IsFollowed start start marks
    begun start count marks is = record {
      hops = 0;
      comes = refl;
      none = λ before there less walk leaves. absurd (omega arith);
      seen = λ switch marked. absurd (let new = unmarked switch in false≢true (sym new ∙ marked));
    }
      where
        unmarked : (switch : ℕ) → get_or marks switch false ≡ false
        unmarked switch = ap (λ (xs : List Bool). get_or xs switch false) is ∙ elim (cases_lt switch count) [
          | inl low ↦ get_or-replicate count switch false false low
          | inr past ↦ get_or_past (replicate count false) switch false (let size = length-replicate {A = Bool} count false in omega arith)
        ]

    module _ (start at : Spot) (marks : List Bool) (followed : IsFollowed start at marks) where
      -- it goes by the channel there
      pub found : LeavesBy at → GoesBy hop_at start channel
      found (same, (next, goes)) = record {
        hops = followed.hops;
        entry = at.port;
        comes = subst (λ (spot : Spot). LaneWalksBy hop_at followed.hops start spot) here followed.comes;
        next = next;
        goes = ap hop_at (sym here) ∙ goes;
      }
        where
          here : at ≡ record { switch = channel.switch; port = at.port }
          here = ap (λ (switch : ℕ). let spot : Spot = record { switch = switch; port = at.port } in spot) same

      leaves_at : (by : GoesBy hop_at start channel) → LeavesBy (record { switch = channel.switch; port = by.entry })
      leaves_at by = (refl, (by.next, by.goes))

      abbrev there : GoesBy hop_at start channel → Spot
      there by = record { switch = channel.switch; port = by.entry }

      -- it ends there
      pub ended : ((port lane : ℕ) (next : Spot) → hop_at at ≡ On port lane next → ⊥) → GoesBy hop_at start channel → ⊥
      ended last by = elim (cases_lt followed.hops by.hops) [
        | inl further ↦ (
            let on = passes followed.hops by.hops start (there by) further by.comes in
            let same = one_end followed.hops start on.at at on.walk followed.comes in
            last on.port on.lane on.next (ap hop_at (sym same) ∙ on.on))
        | inr within ↦ elim (cases_eq by.hops followed.hops) [
          | inl same ↦ (
              let here = one_end followed.hops start (there by) at (subst (λ (k : ℕ). LaneWalksBy hop_at k start (there by)) same by.comes) followed.comes in
              last channel.port channel.lane by.next (ap hop_at (sym here) ∙ by.goes))
          | inr other ↦ followed.none by.hops (there by) (omega arith) by.comes (leaves_at by)
        ]
      ]

      module _ (port lane : ℕ) (next : Spot) (on : hop_at at ≡ On port lane next) (else : LeavesBy at → ⊥) where
        -- one hop more
        pub further : IsFollowed start next (set marks at.switch true)
        further = record {
          hops = suc followed.hops;
          comes = (at, port, lane, followed.comes, on);
          none = λ before spot less walk leaves. elim (cases_eq before followed.hops) [
            | inl same ↦ (
                let here = one_end followed.hops start spot at (subst (λ (k : ℕ). LaneWalksBy hop_at k start spot) same walk) followed.comes in
                else (subst LeavesBy here leaves))
            | inr other ↦ followed.none before spot (omega arith) walk leaves
          ];
          seen = λ switch marked. elim (cases_eq switch at.switch) [
            | inl same ↦ (followed.hops, (omega arith), (at, followed.comes, sym same))
            | inr other ↦ (
                let old = followed.seen switch (sym (get_or-set_other marks at.switch switch true false other) ∙ marked) in
                (old.0, (let less = old.1 in omega arith), old.2))
          ];
        }

        -- it has been at the switch before, from which it goes to the same place
        module _ (same_next : (one other to beyond : Spot) (out way exit by : ℕ) → one.switch ≡ other.switch → hop_at one ≡ On out way to → hop_at other ≡ On exit by beyond → to ≡ beyond) (marked : get_or marks at.switch false ≡ true) where
          -- so each place of it is one of those that were passed
          passed : (hops : ℕ) (spot : Spot) → LaneWalksBy hop_at hops start spot → (before : ℕ) × (before ≤ followed.hops) × LaneWalksBy hop_at before start spot
          passed zero spot walk = (0, (omega arith), walk)
          passed (suc hops) spot (before, out, way, walk, goes) = step (passed hops before walk)
            where
              step : (k : ℕ) × (k ≤ followed.hops) × LaneWalksBy hop_at k start before → (k : ℕ) × (k ≤ followed.hops) × LaneWalksBy hop_at k start spot
              step (k, low, there) = elim (cases_eq k followed.hops) [
                | inr other ↦ (suc k, (omega arith), (before, out, way, there, goes))
                | inl last ↦ (
                    let here = one_end followed.hops start before at (subst (λ (n : ℕ). LaneWalksBy hop_at n start before) last there) followed.comes in
                    let old = followed.seen at.switch marked in
                    let first = passes old.0 followed.hops start at old.1 followed.comes in
                    let one = one_end old.0 start first.at old.2.0 first.walk old.2.1 in
                    let same : first.at.switch ≡ at.switch = ap (λ (s : Spot). s.switch) one ∙ old.2.2 in
                    let to : first.next ≡ spot = same_next first.at at first.next spot first.port first.lane out way same first.on (ap hop_at (sym here) ∙ goes) in
                    let less = old.1 in
                    (suc old.0, (omega arith), (first.at, first.port, first.lane, first.walk, subst (λ (s : Spot). hop_at first.at ≡ On first.port first.lane s) to first.on)))
              ]

          pub again : GoesBy hop_at start channel → ⊥
          again by =
              let (before, low, walk) = passed by.hops (there by) by.comes in
              elim (cases_eq before followed.hops) [
                | inl last ↦ (
                    let here = one_end followed.hops start (there by) at (subst (λ (n : ℕ). LaneWalksBy hop_at n start (there by)) last walk) followed.comes in
                    else (subst LeavesBy here (leaves_at by)))
                | inr other ↦ followed.none before (there by) (omega arith) walk (leaves_at by)
              ]
