-- The text of a fabric is of a fabric: so it is of one with no links, and stays so as links are added.
use Rattle.std.proofs.Common.{◌≡◌, ◌∙◌, sym, ap, subst, refl, ℕ, ◌+◌, ◌-◌, ◌*◌, ◌/◌, ◌%◌, ◌<◌, inl, inr, Bool, true, false, List, Option, Some, None, length, arith, get_or, cond, ltb, ◌&&◌}
use Rattle.std.proofs.lemmas.Bool.{cases_eq, cases_lt}
use Rattle.std.proofs.lemmas.Bool.Decides.{nat_tests}
use Rattle.std.proofs.lemmas.List.{get_or_past}
use Rattle.std.proofs.Math.Nat.{mod-lt}
use Rattle.std.proofs.lemmas.Nat.{div-add-mod'}
use Rattle.std.proofs.lemmas.Option.{slice_get_past}
use Rattle.fabric_model.specs.declared.node.Side.{Side}
use Rattle.fabric_model.specs.declared.node.Side.TheVariants.{Bare}
use Rattle.fabric_model.specs.declared.node.Spot.{Spot}
use Rattle.fabric_model.specs.Fabric.{AllCabled, AllLeadWithin, FabricOf, IsCabledTo, IsFabric, IsLinked, IsPort, LeadsWithin, MayCable, MayLink, cable_of, end_with, ports_in, side_of, switch_count, switch_with}
use Rattle.fabric_topology.specs.declared.fact.Fact.{Fact}
use Rattle.fabric_topology.specs.declared.fact.Fact.TheVariants as fact
use Rattle.fabric_topology.specs.declared.fact.PortTold.{PortTold}
use Rattle.fabric_topology.specs.declared.fact.PortTold.TheVariants.{OfSwitch, OfHost}
use Rattle.fabric_read_topology.specs.Facts.{AddsLink, CablesPort, Joins, LinksPorts, spot_of}
use Rattle.fabric_read_topology.specs.Fabrics.{IsFabricText}
use Rattle.fabric_read_topology.proofs.TwoEndLemmas.{at_or, at_spot, same_spot, text_keeps}

-- where a port of a switch leads, by these sides
abbrev chosen : (most : ℕ) → List Side → ℕ → ℕ → Side
chosen most sides switch port = cond (ltb 0 port && ltb port (most + 1)) (get_or sides (switch * most + (port - 1)) Bare) Bare

module _ (count most : ℕ) (sides : List Side) where
  -- if each side leads to a switch that there is, then each port does
  side_leads : AllLeadWithin count sides → (place : ℕ) → LeadsWithin count (get_or sides place Bare)
  side_leads all place = elim (cases_lt place (length sides)) [
    | inl low ↦ all place low
    | inr past ↦ subst (LeadsWithin count) (sym (get_or_past sides place Bare past)) tt
  ]

  port_leads : AllLeadWithin count sides → (switch port : ℕ) → LeadsWithin count (chosen most sides switch port)
  port_leads all switch port = by (ltb 0 port && ltb port (most + 1))
    where
      by : (b : Bool) → LeadsWithin count (cond b (get_or sides (switch * most + (port - 1)) Bare) Bare)
      by false = tt
      by true = side_leads all (switch * most + (port - 1))

  -- and if each port does, then each side
  all_lead : length sides ≡ count * most → ((switch port : ℕ) → LeadsWithin count (chosen most sides switch port)) → AllLeadWithin count sides
  all_lead size leads place low = elim (cases_lt 0 most) [
    | inr none ↦ (let e : most ≡ 0 = omega arith in let z = ap (λ (m : ℕ). count * m) e in absurd (omega arith))
    | inl some ↦ (
        let parts = div-add-mod' place most in
        let rest : place % most < most = mod-lt place some in
        let is : (ltb 0 (place % most + 1) && ltb (place % most + 1) (most + 1)) ≡ true = grind (arith, nat_tests) in
        let at : place / most * most + (place % most + 1 - 1) ≡ place = omega arith in
        let chose = leads (place / most) (place % most + 1) in
        subst (λ (k : ℕ). LeadsWithin count (get_or sides k Bare)) at (subst (λ (b : Bool). LeadsWithin count (cond b (get_or sides (place / most * most + (place % most + 1 - 1)) Bare) Bare)) is chose))
  ]

-- a port that its switch has is one of a switch that there is
has_switch : (fabric : FabricOf) (spot : Spot) → IsPort fabric spot → spot.switch < switch_count fabric
has_switch fabric spot is = elim (cases_lt spot.switch (switch_count fabric)) [
  | inl low ↦ low
  | inr past ↦ (
      let none = ap ports_in (slice_get_past fabric.nodes.switches spot.switch past) in
      let used = is.used in
      let low = is.low in
      absurd (omega arith))
]

-- ports lead to switches that there are, after two were linked, and after an end port was cabled
module _ (old : FabricOf) (fits : IsFabric old) where
  abbrev Leads : (ℕ → ℕ → Side) → Type 0
  Leads side = (switch port : ℕ) → LeadsWithin (switch_count old) (side switch port)

  old_leads : Leads (side_of old)
  old_leads = port_leads (switch_count old) old.most old.sides fits.within

  link_leads : (new : FabricOf) (one other : Spot) → MayLink old one other → IsLinked old new one other → Leads (side_of new)
  link_leads new one other may is switch port = elim (at_or one switch port) [
    | inl (same, too) ↦ subst (LeadsWithin (switch_count old)) (sym (at_spot (side_of new) one switch port same too ∙ is.there)) (has_switch old other may.1)
    | inr away ↦ elim (at_or other switch port) [
      | inl (same, too) ↦ subst (LeadsWithin (switch_count old)) (sym (at_spot (side_of new) other switch port same too ∙ is.back)) (has_switch old one may.0)
      | inr far ↦ subst (LeadsWithin (switch_count old)) (sym (is.others switch port away far)) (old_leads switch port)
    ]
  ]

  cable_leads : (new : FabricOf) (end : ℕ) (spot : Spot) → IsCabledTo old new end spot → Leads (side_of new)
  cable_leads new end spot is switch port = elim (at_or spot switch port) [
    | inl (same, too) ↦ subst (LeadsWithin (switch_count old)) (sym (at_spot (side_of new) spot switch port same too ∙ is.there)) tt
    | inr away ↦ subst (LeadsWithin (switch_count old)) (sym (is.others switch port away)) (old_leads switch port)
  ]

  cable_cabled : (new : FabricOf) (end : ℕ) (spot : Spot) → MayCable old end spot → IsCabledTo old new end spot → AllCabled (switch_count old) new.cables
  cable_cabled new end spot may is other found at = elim (cases_eq other end) [
    | inl same ↦ subst (λ (s : Spot). s.switch < switch_count old) (same_spot spot found (sym is.back ∙ sym (ap (cable_of new) same) ∙ at)) (has_switch old spot may.0)
    | inr differs ↦ fits.cabled other found (sym (is.other_ends other differs) ∙ at)
  ]

  -- the same nodes with other sides and cables
  abbrev with : (sides : List Side) (cables : List (Option Spot)) → FabricOf
  with sides cables = record old { sides = sides; cables = cables }

  with_fits : (sides : List Side) (cables : List (Option Spot)) → length sides ≡ length old.sides → length cables ≡ length old.cables → Leads (chosen old.most sides) → AllCabled (switch_count old) cables → IsFabric (with sides cables)
  with_fits sides cables count ends leads cabled = record {
    count = count ∙ fits.count;
    few = fits.few;
    low = fits.low;
    within = all_lead (switch_count old) old.most sides (count ∙ fits.count) leads;
    few_ends = fits.few_ends;
    cables = ends ∙ fits.cables;
    cabled = cabled;
    lids = fits.lids;
    last = fits.last;
    most = fits.most;
    rising = fits.rising;
    rising_ends = fits.rising_ends;
    owners = fits.owners;
  }

  link_fits : (new : FabricOf) (one other : Spot) → MayLink old one other → IsLinked old new one other → IsFabric new
  link_fits new one other may is =
      let leads : Leads (chosen old.most new.sides) = λ switch port. subst (LeadsWithin (switch_count old)) (ap (λ (f : FabricOf). side_of f switch port) is.rest) (link_leads new one other may is switch port) in
      subst IsFabric (sym is.rest) (with_fits new.sides old.cables is.count refl leads fits.cabled)

  cable_fits : (new : FabricOf) (end : ℕ) (spot : Spot) → MayCable old end spot → IsCabledTo old new end spot → IsFabric new
  cable_fits new end spot may is =
      let leads : Leads (chosen old.most new.sides) = λ switch port. subst (LeadsWithin (switch_count old)) (ap (λ (f : FabricOf). side_of f switch port) is.rest) (cable_leads new end spot is switch port) in
      subst IsFabric (sym is.rest) (with_fits new.sides new.cables is.count is.ends leads (cable_cabled new end spot may is))

module _ (old new : FabricOf) (fits : IsFabric old) where
  same_fits : new ≡ old → IsFabric new
  same_fits is = subst IsFabric (sym is) fits

  ports_fit : (port far : ℕ) (switch other : Option ℕ) → LinksPorts old switch port other far new → IsFabric new
  ports_fit port far None other is = same_fits is
  ports_fit port far (Some switch) None is = same_fits is
  ports_fit port far (Some switch) (Some other) is = link_fits old fits new (spot_of switch port) (spot_of other far) is.0 is.1

  port_fits : (port : ℕ) (switch end : Option ℕ) → CablesPort old switch port end new → IsFabric new
  port_fits port None end is = same_fits is
  port_fits port (Some switch) None is = same_fits is
  port_fits port (Some switch) (Some end) is = cable_fits old fits new end (spot_of switch port) is.0 is.1

  joins_fit : (one other : PortTold) → Joins old one other new → IsFabric new
  joins_fit (OfSwitch guid port) (OfSwitch other far) is = ports_fit port far (switch_with old guid) (switch_with old other) is
  joins_fit (OfSwitch guid port) (OfHost end) is = port_fits port (switch_with old guid) (end_with old end) is
  joins_fit (OfHost end) (OfSwitch guid port) is = port_fits port (switch_with old guid) (end_with old end) is
  joins_fit (OfHost end) (OfHost other) is = same_fits is

  fact_fits : (said : Fact) → AddsLink old said new → IsFabric new
  fact_fits (fact.Switch guid ports base lmc) is = same_fits is
  fact_fits (fact.Host guid base lmc) is = same_fits is
  fact_fits (fact.Link one other) is = joins_fit one other is
  fact_fits (fact.Neighbour guid base) is = same_fits is.1
  fact_fits (fact.HasSwitch guid) is = same_fits is.1

pub text_fits : (bytes : List ℕ) (fabric : FabricOf) → IsFabricText bytes fabric → IsFabric fabric
text_fits bytes fabric is = text_keeps AddsLink IsFabric (λ old new fits said adds. fact_fits old new fits said adds) is.bare bytes fabric is.links is.nodes.bare.fits
