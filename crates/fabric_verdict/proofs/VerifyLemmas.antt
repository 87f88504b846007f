-- Ranks from anywhere, by the numbers of channels.
use Rattle.std.proofs.Common.{◌≡◌, ◌∙◌, sym, ap, subst, ℕ, ◌*◌, ◌^◌, ◌<◌, ◌≤◌, ◌↔◌, List, Option, None, Bool, true, arith, inl, inr}
use Rattle.std.specs.Prelude.{IsTrue, MatchOption}
use Rattle.std.proofs.lemmas.Option.{MatchOption-at_none}
use Rattle.std.specs.Ordering.{is_le, nat_cmp}
use Rattle.std.proofs.lemmas.Bool.{cases_lt}
use Rattle.std.proofs.lemmas.Bool.Decides.{nat_tests}
use Rattle.std.proofs.lemmas.Nat.{mul-le}
use Rattle.common_graph.specs.Graph.{GraphOf, LeadsTo, value_at}
use Rattle.common_graph.specs.Graph as graph
use Rattle.fabric_tables.specs.Cells.{TablesOf}
use Rattle.fabric_model.specs.declared.node.Spot.{Spot}
use Rattle.fabric_model.specs.Fabric.{FabricOf, IsFabric, switch_count}
use Rattle.fabric_model.specs.declared.traffic.Traffic.{Traffic}
use Rattle.fabric_routes.specs.declared.witness.Witness.{Witness}
use Rattle.fabric_routes.specs.Found.{IsChannel, IsLeastWitness, SomeIsStopped, channel_of, number}
use Rattle.fabric_routes.specs.Finding.{AreDependencies}
use Rattle.fabric_routes.specs.Routes.{Channel, DependsOn}
use Rattle.fabric_routes.proofs.ChannelLemmas.{channel_place}
use Rattle.fabric_verdict.specs.Verdict.{spot_at}
use Rattle.fabric_verdict.specs.Verified.{Fall, IsFirstRise, IsUpTo, IsVerified, Rises, told_rank}
use Rattle.fabric_verdict.specs.declared.verify.Rise.{Rise}
use Rattle.common_graph.proofs.RankLemmas.{fall_no_cycle}
use Rattle.fabric_verdict.proofs.ArriveLemmas.{arrive}
use Rattle.fabric_verdict.proofs.PassLemmas.{none_stops}
use Rattle.fabric_verdict.proofs.NumberLemmas.{both, channel_at, channel_back, in_order}

order_le : (x y : ℕ) → x ≤ y → is_le (nat_cmp x y) ≡ true
order_le x y le = grind (arith, nat_tests)

few_places : (fabric : FabricOf) → IsFabric fabric → switch_count fabric * fabric.most < 2 ^ 22
few_places fabric is =
    let few = is.few in
    let low = is.low in
    let most = mul-le (switch_count fabric) fabric.most (2 ^ 14) 254 few (omega arith) in
    omega arith

module _ (fabric : FabricOf) (tables : TablesOf) (traffic : Traffic) (g : GraphOf)
    (are : AreDependencies fabric tables traffic g) (ranks : List ℕ) where
  step_of : (one other : Channel) → DependsOn fabric tables traffic one other → LeadsTo g (number fabric one) (number fabric other)
  step_of one other depends =
      let is = both fabric tables traffic g are one other depends in
      (are.exact one other is.0 is.1).1 depends

  -- where they fall along each step
  pub all_fall : graph.Fall g ranks → Fall fabric tables traffic ranks
  all_fall fall channel next depends = fall (number fabric channel) (number fabric next) (step_of channel next depends)

  up_to : (one other : Channel) → IsChannel fabric one → IsChannel fabric other → number fabric one ≤ number fabric other → IsUpTo one other
  up_to one other is too low = ap is_le (in_order fabric one other is too) ∙ order_le (number fabric one) (number fabric other) low

  module _ (node next : ℕ) (first : graph.IsFirstRise g ranks node next) where
    -- the channels of the step
    pub record AreEnds : Type 0 where
      pub is : IsChannel fabric (channel_at fabric.most node)
      pub is_next : IsChannel fabric (channel_at fabric.most next)
      pub number_is : number fabric (channel_at fabric.most node) ≡ node
      pub next_is : number fabric (channel_at fabric.most next) ≡ next

    pub ends : AreEnds
    ends =
        let found = are.only node next first.step in
        let one : channel_at fabric.most node ≡ found.0 = ap (channel_at fabric.most) found.4 ∙ channel_back fabric found.0 found.2 in
        let other : channel_at fabric.most next ≡ found.1 = ap (channel_at fabric.most) found.5 ∙ channel_back fabric found.1 found.3 in
        record {
          is = subst (IsChannel fabric) (sym one) found.2;
          is_next = subst (IsChannel fabric) (sym other) found.3;
          number_is = ap (number fabric) one ∙ sym found.4;
          next_is = ap (number fabric) other ∙ sym found.5;
        }

    pub depends : DependsOn fabric tables traffic (channel_at fabric.most node) (channel_at fabric.most next)
    depends =
        let at = ends in
        (are.exact (channel_at fabric.most node) (channel_at fabric.most next) at.is at.is_next).0
        (subst (λ (n : ℕ). LeadsTo g n (number fabric (channel_at fabric.most next))) (sym at.number_is)
        (subst (λ (n : ℕ). LeadsTo g node n) (sym at.next_is) first.step))

    rises : Rises fabric tables traffic ranks (channel_at fabric.most node) (channel_at fabric.most next)
    rises =
        let at = ends in
        record {
          depends = depends;
          rises = subst (λ (n : ℕ). value_at ranks n ≤ value_at ranks (number fabric (channel_at fabric.most next))) (sym at.number_is)
              (subst (λ (n : ℕ). value_at ranks node ≤ value_at ranks n) (sym at.next_is) first.rises);
        }

    -- no dependency along which they do not fall stands before it
    least : (one other : Channel) → Rises fabric tables traffic ranks one other → IsUpTo (channel_at fabric.most node) one
    least one other too =
        let at = ends in
        let is = both fabric tables traffic g are one other too.depends in
        up_to (channel_at fabric.most node) one at.is is.0 (elim (cases_lt (number fabric one) node) [
          | inl before ↦ absurd (let falls = first.before (number fabric one) before (number fabric other) (step_of one other too.depends) in let up = too.rises in omega arith)
          | inr late ↦ let same = at.number_is in omega arith
        ])

    least_next : (other : Channel) → Rises fabric tables traffic ranks (channel_at fabric.most node) other → IsUpTo (channel_at fabric.most next) other
    least_next other too =
        let at = ends in
        let is = both fabric tables traffic g are (channel_at fabric.most node) other too.depends in
        up_to (channel_at fabric.most next) other at.is_next is.1 (elim (cases_lt (number fabric other) next) [
          | inl before ↦ absurd (
              let leads = subst (λ (n : ℕ). LeadsTo g n (number fabric other)) at.number_is (step_of (channel_at fabric.most node) other too.depends) in
              let falls = first.lower (number fabric other) before leads in
              let up : value_at ranks node ≤ value_at ranks (number fabric other) = subst (λ (n : ℕ). value_at ranks n ≤ value_at ranks (number fabric other)) at.number_is too.rises in
              omega arith)
          | inr late ↦ let same = at.next_is in omega arith
        ])

    -- with its ranks and the least route that makes it, it is the first
    pub first_rise : (rank next_rank : ℕ) (witness : Witness) → rank ≡ value_at ranks node → next_rank ≡ value_at ranks next → IsLeastWitness fabric tables traffic (channel_at fabric.most node) (channel_at fabric.most next) witness.lid witness.source → IsFirstRise fabric tables traffic ranks (record { channel = spot_at fabric.most node; rank = rank; next = spot_at fabric.most next; next_rank = next_rank; witness = witness })
    first_rise rank next_rank witness own other is =
        let at = ends in
        record {
          rises = rises;
          first = least;
          first_next = least_next;
          rank_is = own ∙ ap (value_at ranks) (sym at.number_is);
          next_rank_is = other ∙ ap (value_at ranks) (sym at.next_is);
          witness = is;
        }

    -- of ports that are those of its places
    module _ (channel other : Spot) (one : channel ≡ spot_at fabric.most node) (two : other ≡ spot_at fabric.most next) where
      pub depends_at : DependsOn fabric tables traffic (channel_of channel) (channel_of other)
      depends_at = subst (λ (c : Spot). DependsOn fabric tables traffic (channel_of c) (channel_of other)) (sym one) (subst (λ (o : Spot). DependsOn fabric tables traffic (channel_at fabric.most node) (channel_of o)) (sym two) depends)

      pub first_at : (rank next_rank : ℕ) (witness : Witness) → rank ≡ value_at ranks node → next_rank ≡ value_at ranks next → IsLeastWitness fabric tables traffic (channel_of channel) (channel_of other) witness.lid witness.source → IsFirstRise fabric tables traffic ranks (record { channel = channel; rank = rank; next = other; next_rank = next_rank; witness = witness })
      first_at rank next_rank witness own rank_of_next is =
          let least_route = subst (λ (o : Spot). IsLeastWitness fabric tables traffic (channel_at fabric.most node) (channel_of o) witness.lid witness.source) two (subst (λ (c : Spot). IsLeastWitness fabric tables traffic (channel_of c) (channel_of other) witness.lid witness.source) one is) in
          subst (λ (c : Spot). IsFirstRise fabric tables traffic ranks (record { channel = c; rank = rank; next = other; next_rank = next_rank; witness = witness })) (sym one) (subst (λ (o : Spot). IsFirstRise fabric tables traffic ranks (record { channel = spot_at fabric.most node; rank = rank; next = o; next_rank = next_rank; witness = witness })) (sym two) (first_rise rank next_rank witness own rank_of_next least_route))

  -- the places of a step are those of ports
  pub node_low : IsFabric fabric → (node next : ℕ) → LeadsTo g node next → (node < 2 ^ 22) × (next < 2 ^ 22)
  node_low is node next leads =
      let found = are.only node next leads in
      let a = channel_place fabric is found.0 found.2 in
      let b = channel_place fabric is found.1 found.3 in
      let few = few_places fabric is in
      let c = found.4 in
      let d = found.5 in
      (omega arith, omega arith)

-- What the first rise of ranks, if there is one, and whether a route stops say of the tables.
module _ (fabric : FabricOf) (tables : TablesOf) (traffic : Traffic) (ranks : List ℕ) (rise : Option Rise) (stops : Bool) where
  pub verified : MatchOption rise (Fall fabric tables traffic ranks) (IsFirstRise fabric tables traffic ranks) → (IsTrue stops ↔ SomeIsStopped fabric tables traffic) → IsVerified fabric tables traffic ranks (record { rise = rise; stops = stops })
  verified is tells = record {
    rise = is;
    no_cycle = λ none. fall_no_cycle (DependsOn fabric tables traffic) (told_rank fabric ranks) (falls none);
    stops = tells;
    passes = λ none goes. arrive fabric tables traffic (told_rank fabric ranks) (falls none) (λ lid source stopped. none_stops stops (SomeIsStopped fabric tables traffic) tells goes (lid, (source, stopped)));
  }
    where
      falls : rise ≡ None → Fall fabric tables traffic ranks
      falls none = MatchOption-at_none (Fall fabric tables traffic ranks) (IsFirstRise fabric tables traffic ranks) none is
