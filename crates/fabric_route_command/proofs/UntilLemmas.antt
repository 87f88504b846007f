-- The routes LID by LID, and of each from switch to switch.
use Rattle.std.proofs.Common.{◌≡◌, ◌≢◌, ◌∙◌, ap, subst, ℕ, ◌+◌, ◌<◌, ◌⊎◌, arith, inl, inr, length, Option, Some, None}
use Rattle.std.proofs.lemmas.Bool.{cases_lt}
use Rattle.std.proofs.lemmas.List.{get_or_past}
use Rattle.fabric_tables.specs.Cells.{TablesOf}
use Rattle.fabric_counts.specs.Counts.{IsOf, Route, hop_for}
use Rattle.fabric_counts.proofs.EndLemmas.{one_ending}
use Rattle.fabric_model.specs.declared.node.EndPort.{EndPort}
use Rattle.fabric_model.specs.Fabric.{FabricOf, IsFabric, start_of, switch_count}
use Rattle.fabric_routes.specs.declared.hop.Outcome.{Outcome}
use Rattle.fabric_routes.specs.declared.hop.Outcome.TheVariants.{Arrives}
use Rattle.fabric_model.specs.declared.traffic.Traffic.TheVariants.{Hosts}
use Rattle.fabric_routes.specs.Routes.{EndsAs, Sends}
use Rattle.fabric_routes.proofs.StartLemmas.{sender_is, source_starts, start_low}
use Rattle.fabric_route_command.specs.Loads.{IsFrom, IsUntil}
use Rattle.fabric_route_command.specs.Measured.{IsOneArriving}

pub some_same : (a b : ℕ) (o : Option ℕ) → o ≡ Some a → o ≡ Some b → a ≡ b
some_same a b o first second = cc

module _ (fabric : FabricOf) (tables : TablesOf) where
  pub none_until : (route : Route) → IsUntil fabric 0 0 route → ⊥
  none_until route (inl less) = absurd (omega arith)
  none_until route (inr (here, (switch, low, begins))) = absurd (omega arith)

  -- from one switch more
  module _ (lid start : ℕ) where
    pub until_more : (route : Route) → IsUntil fabric lid start route → IsUntil fabric lid (start + 1) route
    until_more route (inl less) = inl less
    until_more route (inr (here, (switch, low, begins))) = inr (here, (switch, omega arith, begins))

    pub from_until : (route : Route) → IsFrom fabric tables lid start route → IsUntil fabric lid (start + 1) route
    from_until route (is, here, begins) = inr (here, (start, omega arith, begins))

    pub until_or_from : (route : Route) → IsOf fabric tables Hosts route → IsUntil fabric lid (start + 1) route → IsUntil fabric lid start route ⊎ IsFrom fabric tables lid start route
    until_or_from route is (inl less) = inl (inl less)
    until_or_from route is (inr (here, (switch, low, begins))) = elim (cases_lt switch start) [
      | inl before ↦ inl (inr (here, (switch, before, begins)))
      | inr not_before ↦ (let e : switch ≡ start = omega arith in inr (is, here, begins ∙ ap (λ (s : ℕ). Some s) e))
    ]

    pub until_not_from : (route : Route) → IsUntil fabric lid start route → IsFrom fabric tables lid start route → ⊥
    until_not_from route (inl less) (is, here, begins) = absurd (omega arith)
    until_not_from route (inr (here, (switch, low, at))) (is, same, begins) = absurd (let e = some_same switch start (start_of fabric route.source) at begins in omega arith)

    -- how such a route ends
    pub from_arrives : (route : Route) → (arrives : IsOneArriving fabric tables route) → IsFrom fabric tables lid start route → EndsAs (hop_for fabric tables lid) start (Arrives arrives.0)
    from_arrives route (switches, (is, ends)) from =
        subst (λ (s : ℕ). EndsAs (hop_for fabric tables lid) s (Arrives switches)) (some_same ends.start start (start_of fabric route.source) ends.begins from.2)
        (subst (λ (l : ℕ). EndsAs (hop_for fabric tables l) ends.start (Arrives switches)) from.1 ends.ends)

    pub not_lost : (outcome : Outcome) → EndsAs (hop_for fabric tables lid) start outcome → ((switches : ℕ) → outcome ≢ Arrives switches) → (route : Route) → IsOneArriving fabric tables route → IsFrom fabric tables lid start route → ⊥
    not_lost outcome ends lost route arrives from = lost arrives.0 (one_ending (hop_for fabric tables lid) start outcome (Arrives arrives.0) ends (from_arrives route arrives from))

  -- to one LID more
  pub lid_to : (lid count : ℕ) (route : Route) → IsUntil fabric lid count route → IsUntil fabric (lid + 1) 0 route
  lid_to lid count route (inl less) = inl (omega arith)
  lid_to lid count route (inr (here, at)) = inl (omega arith)

  pub lid_back : IsFabric fabric → (lid count : ℕ) → count ≡ switch_count fabric → (route : Route) → IsOf fabric tables Hosts route → IsUntil fabric (lid + 1) 0 route → IsUntil fabric lid count route
  lid_back fits lid count all route is (inr (here, (switch, low, begins))) = absurd (omega arith)
  lid_back fits lid count all route is (inl less) = elim (cases_lt route.lid lid) [
    | inl before ↦ inl before
    | inr not_before ↦ (
        let source = sender_is fabric tables Hosts route.lid route.source is in
        let starts = source_starts fabric Hosts route.source source in
        let low = start_low fabric fits Hosts route.source starts.0 source starts.1 in
        inr (omega arith, (starts.0, omega arith, starts.1)))
  ]

  pub unsent_back : (lid : ℕ) → ((source : EndPort) → Sends fabric tables Hosts lid source → ⊥) → (route : Route) → IsOf fabric tables Hosts route → IsUntil fabric (lid + 1) 0 route → IsUntil fabric lid 0 route
  unsent_back lid none route is (inr (here, (switch, low, begins))) = absurd (omega arith)
  unsent_back lid none route is (inl less) = elim (cases_lt route.lid lid) [
    | inl before ↦ inl before
    | inr not_before ↦ (let e : route.lid ≡ lid = omega arith in absurd (none route.source (subst (λ (l : ℕ). Sends fabric tables Hosts l route.source) e is)))
  ]

  -- to all
  sent_owned : (lid : ℕ) (source : EndPort) → Sends fabric tables Hosts lid source → lid < length fabric.owners
  sent_owned lid source (inl sends) = elim (cases_lt lid (length fabric.owners)) [
    | inl low ↦ low
    | inr past ↦ absurd (let none = get_or_past fabric.owners lid None past in let owns = sends.owns in cc)
  ]
  sent_owned lid source (inr sends) = absurd (let by = sends.by_rows in cc)

  pub all_back : (lids : ℕ) → lids ≡ length fabric.owners → (route : Route) → IsOf fabric tables Hosts route → IsUntil fabric lids 0 route
  all_back lids all route is = inl (let low = sent_owned route.lid route.source is in omega arith)
