-- How many routes arrive, and over how many links the longest goes.
use Rattle.std.proofs.Common.{◌≡◌, ◌∙◌, sym, subst, ℕ, ◌+◌, ◌-◌, ◌<◌, arith, inl, inr, List, [], ◌∷◌, length, max, Contains}
use Rattle.std.proofs.lemmas.Bool.{cases_lt}
use Rattle.common_values.proofs.MemberLemmas.{Contains-here}
use Rattle.fabric_tables.specs.Cells.{TablesOf}
use Rattle.fabric_counts.specs.Counts.{IsOf, Route, hop_for}
use Rattle.fabric_counts.proofs.EndLemmas.{one_ending}
use Rattle.fabric_model.specs.declared.node.EndPort.{EndPort}
use Rattle.fabric_model.specs.Fabric.{FabricOf, IsFabric, switch_count}
use Rattle.fabric_routes.specs.Counting.{IsCountOf}
use Rattle.fabric_routes.specs.declared.hop.Outcome.TheVariants.{Arrives}
use Rattle.fabric_model.specs.declared.traffic.Traffic.TheVariants.{Hosts}
use Rattle.fabric_routes.specs.Routes.{EndsAs, Sends}
use Rattle.fabric_routes.proofs.CountLemmas.{count_none, count_same, count_sum}
use Rattle.fabric_route_command.specs.declared.loads.Loads.{Loads}
use Rattle.fabric_route_command.specs.Loads.{AreArrived, IsFrom, IsUntil}
use Rattle.fabric_route_command.specs.Measured.{ArrivesOver, IsOneArriving}
use Rattle.fabric_route_command.proofs.UntilLemmas.{all_back, from_arrives, from_until, lid_back, lid_to, none_until, unsent_back, until_more, until_not_from, until_or_from}
use Rattle.fabric_route_command.proofs.WayLemmas.{same_arrival}

-- one of some things
one_of : (A : Type 0) (Is : A → Type 0) (things : List A) → 0 < length things → ((x : A) → Contains things x → Is x) → (x : A) × Is x
one_of A Is [] some only = absurd (omega arith)
one_of A Is (x ∷ xs) some only = (x, only x (Contains-here x xs))

module _ (fabric : FabricOf) (tables : TablesOf) where
  abbrev Those : (Route → Type 0) → Route → Type 0
  Those Is route = IsOneArriving fabric tables route × Is route

  -- those of another kind that is the same
  pub arrived_same : (Is As : Route → Type 0) (loads : Loads) → ((route : Route) → IsOf fabric tables Hosts route → Is route → As route) → ((route : Route) → IsOf fabric tables Hosts route → As route → Is route) → AreArrived fabric tables Is loads → AreArrived fabric tables As loads
  arrived_same Is As loads to back are = record {
    routes = count_same Route (Those Is) (Those As) loads.routes
        (λ route one. (one.0, to route one.0.1.0 one.1)) (λ route one. (one.0, back route one.0.1.0 one.1)) are.routes;
    most = λ route links over other. are.most route links over (back route over.0 other);
    some = are.some;
  }

  -- the same two numbers
  pub arrived_alike : (Is : Route → Type 0) (old new : Loads) → new.routes ≡ old.routes → new.longest ≡ old.longest → AreArrived fabric tables Is old → AreArrived fabric tables Is new
  arrived_alike Is old new routes longest are = record {
    routes = subst (λ (n : ℕ). IsCountOf (Those Is) n) (sym routes) are.routes;
    most = λ route links over is. (let low = are.most route links over is in omega arith);
    some = λ other. (let one = are.some (λ none. other (longest ∙ none)) in (one.0, subst (λ (n : ℕ). ArrivesOver fabric tables n one.0) (sym longest) one.1));
  }

  pub none_arrived : (loads : Loads) → loads.routes ≡ 0 → loads.longest ≡ 0 → AreArrived fabric tables (IsUntil fabric 0 0) loads
  none_arrived loads routes longest = record {
    routes = subst (λ (n : ℕ). IsCountOf (Those (IsUntil fabric 0 0)) n) (sym routes) (count_none Route (Those (IsUntil fabric 0 0)) (λ route one. none_until fabric tables route one.1));
    most = λ route links over until. absurd (none_until fabric tables route until);
    some = λ other. absurd (other longest);
  }

  pub arrived_skipped : (lid start : ℕ) (loads : Loads) → ((route : Route) → IsOneArriving fabric tables route → IsFrom fabric tables lid start route → ⊥) → AreArrived fabric tables (IsUntil fabric lid start) loads → AreArrived fabric tables (IsUntil fabric lid (start + 1)) loads
  arrived_skipped lid start loads none are = record {
    routes = count_same Route (Those (IsUntil fabric lid start)) (Those (IsUntil fabric lid (start + 1))) loads.routes
        (λ route one. (one.0, until_more fabric tables lid start route one.1))
        (λ route one. (one.0, before route one.0 one.1)) are.routes;
    most = λ route links over until. are.most route links over (before route (links + 1, over) until);
    some = are.some;
  }
    where
      before : (route : Route) → IsOneArriving fabric tables route → IsUntil fabric lid (start + 1) route → IsUntil fabric lid start route
      before route arrives until = elim (until_or_from fabric tables lid start route arrives.1.0 until) [
        | inl had ↦ had
        | inr from ↦ absurd (none route arrives from)
      ]

  -- the routes to a LID from a switch, which arrive
  module _ (lid start switches routes : ℕ) (arrives : EndsAs (hop_for fabric tables lid) start (Arrives switches)) (some : 0 < routes) (count : IsCountOf (IsFrom fabric tables lid start) routes) where
    from_over : (route : Route) (links : ℕ) → switches ≡ links + 1 → IsFrom fabric tables lid start route → ArrivesOver fabric tables links route
    from_over route links over (is, here, begins) = (
      is,
      record {
        start = start;
        begins = begins;
        ends = subst (λ (n : ℕ). EndsAs (hop_for fabric tables route.lid) start (Arrives n)) over (subst (λ (l : ℕ). EndsAs (hop_for fabric tables l) start (Arrives switches)) (sym here) arrives);
      },
    )

    -- it goes through a switch
    through_some : 0 < switches
    through_some = (let whole = arrives.4 in omega arith)

    from_length : (route : Route) (links : ℕ) → ArrivesOver fabric tables links route → IsFrom fabric tables lid start route → links + 1 ≡ switches
    from_length route links over from = same_arrival (links + 1) switches (one_ending (hop_for fabric tables lid) start (Arrives (links + 1)) (Arrives switches) (from_arrives fabric tables lid start route (links + 1, over) from) arrives)

    pub arrived_more : (old new : Loads) → new.routes ≡ old.routes + routes → new.longest ≡ max old.longest (switches - 1) → AreArrived fabric tables (IsUntil fabric lid start) old → AreArrived fabric tables (IsUntil fabric lid (start + 1)) new
    arrived_more old new routes_are longest_is are = record {
      routes = subst (λ (n : ℕ). IsCountOf (Those (IsUntil fabric lid (start + 1))) n) (sym routes_are)
          (count_sum Route (Those (IsUntil fabric lid start)) (IsFrom fabric tables lid start) (Those (IsUntil fabric lid (start + 1))) old.routes routes
          (λ route one. (one.0, until_more fabric tables lid start route one.1))
          (λ route from. ((switches - 1 + 1, from_over route (switches - 1) (let has = through_some in omega arith) from), from_until fabric tables lid start route from))
          (λ route one. elim (until_or_from fabric tables lid start route one.0.1.0 one.1) [ inl had ↦ inl (one.0, had) | inr from ↦ inr from ])
          (λ route one from. until_not_from fabric tables lid start route one.1 from)
          are.routes count);
      most = λ route links over until. elim (until_or_from fabric tables lid start route over.0 until) [
        | inl had ↦ (let low = are.most route links over had in omega arith)
        | inr from ↦ (let length = from_length route links over from in omega arith)
      ];
      some = λ other. elim (cases_lt old.longest (switches - 1)) [
        | inl more ↦ (
            let one = one_of Route (IsFrom fabric tables lid start) count.things (let size = count.size in omega arith) count.only in
            (one.0, from_over one.0 new.longest (omega arith) one.1))
        | inr not_more ↦ (
            let same : new.longest ≡ old.longest = omega arith in
            let one = are.some (λ none. other (same ∙ none)) in
            (one.0, subst (λ (n : ℕ). ArrivesOver fabric tables n one.0) (sym same) one.1))
      ];
    }

  -- the next LID, and all
  pub arrived_lid : IsFabric fabric → (lid count : ℕ) (loads : Loads) → count ≡ switch_count fabric → AreArrived fabric tables (IsUntil fabric lid count) loads → AreArrived fabric tables (IsUntil fabric (lid + 1) 0) loads
  arrived_lid fits lid count loads all = arrived_same (IsUntil fabric lid count) (IsUntil fabric (lid + 1) 0) loads
      (λ route is until. lid_to fabric tables lid count route until) (λ route is until. lid_back fabric tables fits lid count all route is until)

  pub arrived_unsent : (lid : ℕ) (loads : Loads) → ((source : EndPort) → Sends fabric tables Hosts lid source → ⊥) → AreArrived fabric tables (IsUntil fabric lid 0) loads → AreArrived fabric tables (IsUntil fabric (lid + 1) 0) loads
  arrived_unsent lid loads none = arrived_same (IsUntil fabric lid 0) (IsUntil fabric (lid + 1) 0) loads
      (λ route is until. lid_to fabric tables lid 0 route until) (λ route is until. unsent_back fabric tables lid none route is until)

  pub arrived_all : (lids : ℕ) (loads : Loads) → lids ≡ length fabric.owners → AreArrived fabric tables (IsUntil fabric lids 0) loads → AreArrived fabric tables (λ route. Unit {0}) loads
  arrived_all lids loads all = arrived_same (IsUntil fabric lids 0) (λ route. Unit {0}) loads
      (λ route is until. tt) (λ route is any. all_back fabric tables lids all route is)
