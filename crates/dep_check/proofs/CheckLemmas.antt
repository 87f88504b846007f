use Rattle.std.proofs.Common.{◌≡◌, ◌∙◌, sym, ap, subst, refl, ℕ, List, [], ◌∷◌, Option, Some, None, arith, inl, inr}
use Rattle.std.specs.Prelude.{IsSome, MatchOption}
use Rattle.std.proofs.Math.Path.{fun_ext}
use Rattle.std.proofs.lemmas.Option.{same_Some}
use Rattle.an_base.specs.Rows.{RowOf}
use Rattle.dep_check.specs.declared.channel.Channel.{Channel}
use Rattle.dep_check.specs.declared.steps.Steps.{Steps}
use Rattle.dep_check.specs.Channels.{IsChannel, LeadsTo, channel_cmp}
use Rattle.common_graph.specs.Cycles.{Path, HasNoCycle, IsLeastCycle, AreRanks}
use Rattle.dep_check.specs.Tables.{IsSpot, wire_at, WiresAreWithin, AreWires, level_at, rank_at}
use Rattle.dep_check.specs.Search.{Step, AreSteps, IsLinked, AreRanked}
use Rattle.dep_check.proofs.SpotLemmas.{option_cases, spot_true, spot_cases}
use Rattle.dep_check.proofs.LevelLemmas.{step_spot}
use Rattle.dep_check.proofs.RankLemmas.{late_cycle}
use Rattle.dep_check.proofs.CycleLemmas.{from_spot, from_linked, path_down, first_step}
use Rattle.dep_check.proofs.BridgeLemmas.{wire_spot, step_leads, leads_step}

-- the same walks by another relation
module _ (R S : Channel → Channel → Type 0) (there : (a b : Channel) → R a b → S a b) where
  pub path_map : (a : Channel) (cs : List Channel) (z : Channel) → Path R a cs z → Path S a cs z
  path_map a [] z step = there a z step
  path_map a (c ∷ cs) z (step, path) = (there a c step, path_map c cs z path)

  pub no_cycle_map : HasNoCycle S → HasNoCycle R
  no_cycle_map none = λ c cs cycle. none c cs (path_map c cs c cycle)

pub least_map : (R S : Channel → Channel → Type 0) → ((a b : Channel) → R a b → S a b) → ((a b : Channel) → S a b → R a b) → (cs : List Channel) → IsLeastCycle channel_cmp R cs → IsLeastCycle channel_cmp S cs
least_map R S there back [] least = absurd least
least_map R S there back (c ∷ cs) least = record {
  from = record {
    closed = path_map R S there c cs c least.from.closed;
    shortest = λ ds cycle. least.from.shortest ds (path_map S R back c ds c cycle);
    least = λ ds cycle count. least.from.least ds (path_map S R back c ds c cycle) count;
  };
  first = λ d ds cycle. least.first d ds (path_map S R back d ds d cycle);
}

module _ (wires : List (Option Channel)) (rows : List RowOf) (steps : Steps) (levels : List (Option ℕ)) (within : WiresAreWithin wires) (are : AreSteps wires rows None steps) (ranked : AreRanked steps levels) where
  -- where some channel has no rank there is a cycle
  pub some_cycle : (s : Channel) → IsSpot s → IsLinked steps s → level_at levels s ≡ None → (found : Option (List Channel)) → MatchOption found (HasNoCycle (Step steps)) (IsLeastCycle channel_cmp (Step steps)) → IsSome found
  some_cycle s spot linked bare None none = absurd (let c = late_cycle steps levels are.to ranked s spot linked bare in none c.0 c.1 c.2)
  some_cycle s spot linked bare (Some cs) least = refl

  pub least_leads : (cs : List Channel) → IsLeastCycle channel_cmp (Step steps) cs → IsLeastCycle channel_cmp (LeadsTo (wire_at wires) rows) cs
  least_leads cs least = least_map (Step steps) (LeadsTo (wire_at wires) rows) (step_leads wires rows steps within are) (leads_step wires rows steps within are) cs least

  module _ (all : (s : Channel) → IsSpot s → IsLinked steps s → level_at levels s ≡ None → ⊥) where
    rank_of : (s : Channel) → IsSpot s → IsLinked steps s → (n : ℕ) × (level_at levels s ≡ Some n)
    rank_of s spot linked = elim (option_cases (level_at levels s)) [
      | inl none ↦ absurd (all s spot linked none)
      | inr some ↦ some
    ]

    -- so where all channels have ranks there is no cycle
    pub no_cycle : HasNoCycle (LeadsTo (wire_at wires) rows)
    no_cycle = no_cycle_map (LeadsTo (wire_at wires) rows) (Step steps) (leads_step wires rows steps within are) (λ c cs cycle.
        let first = first_step steps c cs c cycle in
        let spot = from_spot steps c first.0 are.to first.1 in
        let rank = rank_of c spot (from_linked steps c first.0 are.to first.1) in
        let down = path_down steps levels ranked c cs c rank.0 spot rank.1 cycle in
        let same : rank.0 ≡ down.0 = same_Some rank.0 down.0 (sym rank.1 ∙ down.1) in
        let less = down.2 in
        absurd (omega arith))

    rank_is : (s : Channel) (n : ℕ) → IsSpot s → level_at levels s ≡ Some n → rank_at levels s ≡ Some n
    rank_is s n spot level = rw (spot_true s spot) level

    linked_is : (s : Channel) → IsChannel (wire_at wires) s → IsLinked steps s
    linked_is s (far, e) = (far, ap (λ (ws : List (Option Channel)). wire_at ws s) are.wires_are ∙ e)

    pub are_ranks : AreRanks (IsChannel (wire_at wires)) (LeadsTo (wire_at wires) rows) (rank_at levels)
    are_ranks = record {
      nodes = λ c channel.
          let spot = wire_spot wires c channel.0 channel.1 in
          let rank = rank_of c spot (linked_is c channel) in
          let is = ranked.ranked c rank.0 spot rank.1 in (
            rank.0,
            rank_is c rank.0 spot rank.1,
            record {
              above = λ b leads.
                  let step = leads_step wires rows steps within are c b leads in
                  let below = is.above b step in
                  (below.0, rank_is b below.0 (step_spot steps c b step) below.1, below.2);
              next = elim is.next [
                | inl first ↦ inl first
                | inr (b, m, step, level, one) ↦ inr (b, m, step_leads wires rows steps within are c b step, rank_is b m (step_spot steps c b step) level, one)
              ];
            },
          );
      others = λ c none. elim (spot_cases c) [
        | inr other ↦ rw other refl
        | inl spot ↦ rw (spot_true c spot) (elim (option_cases (level_at levels c)) [
          | inl bare ↦ bare
          | inr some ↦ absurd (let link = (ranked.ranked c some.0 spot some.1).link in none (link.0, ap (λ (ws : List (Option Channel)). wire_at ws c) (sym are.wires_are) ∙ link.1))
        ])
      ];
    }

-- the same of the far sides that the wires are
module _ (far : Channel → Option Channel) (wires : List (Option Channel)) (rows : List RowOf) (steps : Steps) (levels : List (Option ℕ)) (wired : AreWires far wires) (are : AreSteps wires rows None steps) (ranked : AreRanked steps levels) where
  pub least_at : (cs : List Channel) → IsLeastCycle channel_cmp (Step steps) cs → IsLeastCycle channel_cmp (LeadsTo far rows) cs
  least_at cs least = subst (λ (f : Channel → Option Channel). IsLeastCycle channel_cmp (LeadsTo f rows) cs) (fun_ext wired.each) (least_leads wires rows steps levels wired.links.within are ranked cs least)

  pub no_cycle_at : ((s : Channel) → IsSpot s → IsLinked steps s → level_at levels s ≡ None → ⊥) → HasNoCycle (LeadsTo far rows)
  no_cycle_at all = subst (λ (f : Channel → Option Channel). HasNoCycle (LeadsTo f rows)) (fun_ext wired.each) (no_cycle wires rows steps levels wired.links.within are ranked all)

  pub ranks_at : ((s : Channel) → IsSpot s → IsLinked steps s → level_at levels s ≡ None → ⊥) → AreRanks (IsChannel far) (LeadsTo far rows) (rank_at levels)
  ranks_at all = subst (λ (f : Channel → Option Channel). AreRanks (IsChannel f) (LeadsTo f rows) (rank_at levels)) (fun_ext wired.each) (are_ranks wires rows steps levels wired.links.within are ranked all)
