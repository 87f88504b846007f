-- Routes LID by LID, and of each end port by end port.
use Rattle.std.proofs.Common.{◌≡◌, ◌∙◌, sym, ap, subst, refl, ℕ, ◌+◌, ◌*◌, ◌<◌, ◌≤◌, ◌⊎◌, ◌↔◌, Bool, true, false, None, arith, length, inl, inr}
use Rattle.std.specs.Int.{from_bool}
use Rattle.std.specs.Prelude.{IsTrue}
use Rattle.std.proofs.lemmas.Bool.{cases_eq, cases_lt}
use Rattle.fabric_tables.specs.Cells.{TablesOf}
use Rattle.fabric_counts.specs.Counts.{IsOf, Route}
use Rattle.fabric_routes.specs.Counting.{IsCountOf}
use Rattle.fabric_counts.specs.Steps.{IsEndPort, IsSourceUntil, IsUntil, place_of}
use Rattle.fabric_routes.proofs.CountLemmas.{count_none, count_image, count_more, count_same}
use Rattle.fabric_model.specs.declared.node.EndPort.{EndPort}
use Rattle.fabric_model.specs.declared.node.EndPort.TheVariants.{Host, Switch}
use Rattle.fabric_model.specs.Fabric.{FabricOf, switch_count}
use Rattle.fabric_model.specs.declared.traffic.Traffic.{Traffic}
use Rattle.fabric_routes.specs.Routes.{IsSource, Sends}
use Rattle.fabric_routes.proofs.StartLemmas.{cabled_low, sender_is, sent_low, source_low}

module _ (fabric : FabricOf) where
  -- one end port stands at a place
  pub one_place : (a b : EndPort) → IsEndPort fabric a → IsEndPort fabric b → place_of fabric a ≡ place_of fabric b → a ≡ b
  one_place (Host a) (Host b) is other same = ap Host same
  one_place (Host a) (Switch b) is other same = absurd (omega arith)
  one_place (Switch a) (Host b) is other same = absurd (omega arith)
  one_place (Switch a) (Switch b) is other same = ap Switch (omega arith)

  pub place_low : (a : EndPort) → IsEndPort fabric a → place_of fabric a < length fabric.cables + switch_count fabric
  place_low (Host a) is = omega arith
  place_low (Switch a) is = omega arith

  pub end_port : (traffic : Traffic) (source : EndPort) → IsSource fabric traffic source → IsEndPort fabric source
  end_port traffic (Host end) is = cabled_low fabric end is.0 is.1
  end_port traffic (Switch switch) is = source_low fabric traffic switch is

-- the sources, one after the other
module _ (fabric : FabricOf) (traffic : Traffic) where
  source_old : (place : ℕ) (at : EndPort) → IsEndPort fabric at → place_of fabric at ≡ place → (source : EndPort) → IsSourceUntil fabric traffic (place + 1) source → IsSourceUntil fabric traffic place source ⊎ (source ≡ at)
  source_old place at is same source (sends, low) = elim (cases_eq (place_of fabric source) place) [
    | inl here ↦ inr (one_place fabric source at (end_port fabric traffic source sends) is (here ∙ sym same))
    | inr before ↦ inl (sends, omega arith)
  ]

  pub source_more : (place count : ℕ) (at : EndPort) → IsEndPort fabric at → place_of fabric at ≡ place → IsSource fabric traffic at → IsCountOf (IsSourceUntil fabric traffic place) count → IsCountOf (IsSourceUntil fabric traffic (place + 1)) (count + 1)
  source_more place count at is same sends = count_more EndPort (IsSourceUntil fabric traffic place) (IsSourceUntil fabric traffic (place + 1)) at count
      (λ source one. (one.0, (let low = one.1 in omega arith))) (source_old place at is same) (sends, omega arith) (λ one. absurd (let low = one.1 in omega arith))

  pub source_less : (place count : ℕ) (at : EndPort) → IsEndPort fabric at → place_of fabric at ≡ place → (IsSource fabric traffic at → ⊥) → IsCountOf (IsSourceUntil fabric traffic place) count → IsCountOf (IsSourceUntil fabric traffic (place + 1)) count
  source_less place count at is same silent = count_same EndPort (IsSourceUntil fabric traffic place) (IsSourceUntil fabric traffic (place + 1)) count
      (λ source one. (one.0, (let low = one.1 in omega arith)))
      (λ source one. elim (source_old place at is same source one) [ inl old ↦ old | inr here ↦ absurd (silent (subst (IsSource fabric traffic) here one.0)) ])

  pub no_source : IsCountOf (IsSourceUntil fabric traffic 0) 0
  no_source = count_none EndPort (IsSourceUntil fabric traffic 0) (λ source one. absurd (let low = one.1 in omega arith))

  pub source_step : (place count : ℕ) (at : EndPort) (sends : Bool) (more : ℕ) → IsEndPort fabric at → place_of fabric at ≡ place → (IsTrue sends ↔ IsSource fabric traffic at) → more ≡ from_bool sends → IsCountOf (IsSourceUntil fabric traffic place) count → IsCountOf (IsSourceUntil fabric traffic (place + 1)) (count + more)
  source_step place count at true more is same told one so_far = subst (λ (n : ℕ). IsCountOf (IsSourceUntil fabric traffic (place + 1)) (count + n)) (sym one) (source_more place count at is same (told.0 refl) so_far)
  source_step place count at false more is same told none so_far = subst (λ (n : ℕ). IsCountOf (IsSourceUntil fabric traffic (place + 1)) n) (let e : count ≡ count + more = omega arith in e) (source_less place count at is same (λ sends. (let t = told.1 sends in cc)) so_far)

  pub sources_all : (place count : ℕ) → place ≡ length fabric.cables + switch_count fabric → IsCountOf (IsSourceUntil fabric traffic place) count → IsCountOf (IsSource fabric traffic) count
  sources_all place count last = count_same EndPort (IsSourceUntil fabric traffic place) (IsSource fabric traffic) count
      (λ source one. one.0) (λ source is. (is, (let low = place_low fabric source (end_port fabric traffic source is) in omega arith)))

-- the routes, LID by LID
module _ (fabric : FabricOf) (tables : TablesOf) (traffic : Traffic) (lid : ℕ) where
  pub until_to : (place : ℕ) (route : Route) → IsUntil fabric tables traffic lid place route → IsUntil fabric tables traffic lid (place + 1) route
  until_to place route (is, before) = (is, elim before [ inl less ↦ inl less | inr here ↦ inr (here.0, (let low = here.1 in omega arith)) ])

  pub until_from : (place : ℕ) (at : EndPort) → IsEndPort fabric at → place_of fabric at ≡ place → (route : Route) → IsUntil fabric tables traffic lid (place + 1) route → IsUntil fabric tables traffic lid place route ⊎ (route ≡ record { lid = lid; source = at })
  until_from place at is same route (sends, inl less) = inl (sends, inl less)
  until_from place at is same route (sends, inr (here, low)) = elim (cases_eq (place_of fabric route.source) place) [
    | inr before ↦ inl (sends, inr (here, omega arith))
    | inl last ↦ (
        let e = one_place fabric route.source at (end_port fabric traffic route.source (sender_is fabric tables traffic route.lid route.source sends)) is (last ∙ sym same) in
        let by_lid : ℕ → Route = λ l. record { lid = l; source = route.source } in
        let by_source : EndPort → Route = λ s. record { lid = lid; source = s } in
        inr (ap by_lid here ∙ ap by_source e))
  ]

  pub until_late : (place : ℕ) (route : Route) → IsUntil fabric tables traffic lid place route → route.lid ≤ lid
  until_late place route (is, inl less) = omega arith
  until_late place route (is, inr (here, low)) = omega arith

  pub until_fresh : (place : ℕ) (at : EndPort) → place_of fabric at ≡ place → IsUntil fabric tables traffic lid place (record { lid = lid; source = at }) → ⊥
  until_fresh place at same (is, inl less) = absurd (omega arith)
  until_fresh place at same (is, inr (here, low)) = absurd (omega arith)

  -- an end port that does not send to it
  pub until_silent : (place : ℕ) (at : EndPort) → IsEndPort fabric at → place_of fabric at ≡ place → (Sends fabric tables traffic lid at → ⊥) → (route : Route) → IsUntil fabric tables traffic lid (place + 1) route → IsUntil fabric tables traffic lid place route
  until_silent place at is same silent route until = elim (until_from place at is same route until) [
    | inl old ↦ old
    | inr here ↦ absurd (silent (subst (IsOf fabric tables traffic) here until.0))
  ]

  -- all end ports
  pub until_next : (place : ℕ) (route : Route) → IsUntil fabric tables traffic lid place route → IsUntil fabric tables traffic (lid + 1) 0 route
  until_next place route (is, inl less) = (is, inl (omega arith))
  until_next place route (is, inr (here, low)) = (is, inl (omega arith))

  pub until_all : (place : ℕ) → place ≡ length fabric.cables + switch_count fabric → (route : Route) → IsUntil fabric tables traffic (lid + 1) 0 route → IsUntil fabric tables traffic lid place route
  until_all place last route (is, inl less) = elim (cases_lt route.lid lid) [
    | inl before ↦ (is, inl before)
    | inr here ↦ (is, inr (omega arith, (let low = place_low fabric route.source (end_port fabric traffic route.source (sender_is fabric tables traffic route.lid route.source is)) in omega arith)))
  ]
  until_all place last route (is, inr (here, low)) = absurd (omega arith)

  -- a LID to which no one sends
  pub until_unsent : ((source : EndPort) → Sends fabric tables traffic lid source → ⊥) → (route : Route) → IsUntil fabric tables traffic (lid + 1) 0 route → IsUntil fabric tables traffic lid 0 route
  until_unsent none route (is, inl less) = elim (cases_eq route.lid lid) [
    | inl here ↦ absurd (none route.source (subst (λ (l : ℕ). Sends fabric tables traffic l route.source) here is))
    | inr before ↦ (is, inl (omega arith))
  ]
  until_unsent none route (is, inr (here, low)) = absurd (omega arith)

  -- its routes
  abbrev pub IsTo : Route → Type 0
  IsTo route = IsOf fabric tables traffic route × (route.lid ≡ lid)

  pub until_to_lid : (route : Route) → IsTo route → IsUntil fabric tables traffic (lid + 1) 0 route
  until_to_lid route (is, here) = (is, inl (omega arith))

  pub until_or_to : (route : Route) → IsUntil fabric tables traffic (lid + 1) 0 route → IsUntil fabric tables traffic lid 0 route ⊎ IsTo route
  until_or_to route (is, inl less) = elim (cases_eq route.lid lid) [
    | inl here ↦ inr (is, here)
    | inr before ↦ inl (is, inl (omega arith))
  ]
  until_or_to route (is, inr (here, low)) = absurd (omega arith)

  pub until_not_to : (route : Route) → IsUntil fabric tables traffic lid 0 route → IsTo route → ⊥
  until_not_to route (is, inl less) (is_to, here) = absurd (omega arith)
  until_not_to route (is, inr (here, low)) to = absurd (omega arith)

  pub count_to : (count : ℕ) → IsCountOf (Sends fabric tables traffic lid) count → IsCountOf IsTo count
  count_to count = count_image EndPort Route (λ source. record { lid = lid; source = source }) (Sends fabric tables traffic lid) IsTo count
      (λ source sends. (sends, refl))
      (λ route to. (route.source, subst (λ (l : ℕ). Sends fabric tables traffic l route.source) to.1 to.0, (let by_lid : ℕ → Route = λ l. record { lid = l; source = route.source } in ap by_lid (sym to.1))))
      (λ one other same. ap (λ (r : Route). r.source) same)

-- all LIDs of owners and of the tables
pub until_lids : (fabric : FabricOf) (tables : TablesOf) (traffic : Traffic) (blocks : ℕ) → length fabric.owners ≤ 64 * blocks → ((switch lid : ℕ) → 64 * blocks ≤ lid → tables switch lid ≡ None) → (route : Route) → IsOf fabric tables traffic route → IsUntil fabric tables traffic (64 * blocks) 0 route
until_lids fabric tables traffic blocks owners past route is = (is, inl (sent_low fabric tables traffic blocks owners past route.lid route.source is))

pub until_none : (fabric : FabricOf) (tables : TablesOf) (traffic : Traffic) (route : Route) → IsUntil fabric tables traffic 0 0 route → ⊥
until_none fabric tables traffic route (is, inl less) = absurd (omega arith)
until_none fabric tables traffic route (is, inr (here, low)) = absurd (omega arith)
