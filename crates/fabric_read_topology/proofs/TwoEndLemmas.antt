-- Each link has two ends: so it is of a fabric with no links, and stays so as links are added.
use Rattle.std.proofs.Common.{◌≡◌, ◌≢◌, ◌∙◌, sym, ap, subst, ℕ, inl, inr, ◌⊎◌, List, [], ◌∷◌, Option, Some, None}
use Rattle.std.proofs.lemmas.Bool.{cases_eq}
use Rattle.common_lines.specs.Chains.{LeadsBy}
use Rattle.common_lines.specs.Lines.{lines_of}
use Rattle.fabric_model.specs.declared.node.Side.{Side}
use Rattle.fabric_model.specs.declared.node.Side.TheVariants.{Bare, To, End}
use Rattle.fabric_model.specs.declared.node.Spot.{Spot}
use Rattle.fabric_model.specs.Nodes.{NodesOf}
use Rattle.fabric_model.specs.Fabric.{FabricOf, IsBareOf, IsCabledTo, IsLinked, IsOther, MayCable, MayLink, cable_of, end_with, side_of, switch_with}
use Rattle.fabric_topology.specs.declared.fact.Fact.{Fact}
use Rattle.fabric_topology.specs.declared.fact.Fact.TheVariants as fact
use Rattle.fabric_topology.specs.declared.fact.Line.{Line}
use Rattle.fabric_topology.specs.declared.fact.Part.{Part}
use Rattle.fabric_topology.specs.declared.fact.Part.TheVariants as part
use Rattle.fabric_topology.specs.declared.fact.PortTold.{PortTold}
use Rattle.fabric_topology.specs.declared.fact.PortTold.TheVariants.{OfSwitch, OfHost}
use Rattle.fabric_read_topology.specs.Facts.{AddsLink, CablesPort, Joins, LinksPorts, spot_of}
use Rattle.fabric_read_topology.specs.Lines.{AddsFacts, AddsLine, AddsSome, IsTextFrom}
use Rattle.fabric_read_topology.specs.Fabrics.{IsFabricText}

record TwoEnds (side : ℕ → ℕ → Side) (cable : ℕ → Option Spot) : Type 0 where
  links : (switch port other far : ℕ) → side switch port ≡ To other far → side other far ≡ To switch port
  there : (spot : Spot) (end : ℕ) → side spot.switch spot.port ≡ End end → cable end ≡ Some spot
  back : (spot : Spot) (end : ℕ) → cable end ≡ Some spot → side spot.switch spot.port ≡ End end

-- what a side is not
to_end : {A : Type 0} (to entry end : ℕ) → To to entry ≡ End end → A
to_end to entry end is = absurd (cc)

bare_end : {A : Type 0} (end : ℕ) → Bare ≡ End end → A
bare_end end is = absurd (cc)

bare_to : {A : Type 0} (to entry : ℕ) → Bare ≡ To to entry → A
bare_to to entry is = absurd (cc)

none_some : {A : Type 0} (spot : Spot) → None ≡ Some spot → A
none_some spot is = absurd (cc)

same_to : (to entry other far : ℕ) → To to entry ≡ To other far → (to ≡ other) × (entry ≡ far)
same_to to entry other far is = (cc, cc)

same_end : (end other : ℕ) → End end ≡ End other → end ≡ other
same_end end other is = cc

pub same_spot : (spot other : Spot) → Some spot ≡ Some other → spot ≡ other
same_spot spot other is = cc

-- a port is this one, or another
pub at_or : (spot : Spot) (switch port : ℕ) → ((switch ≡ spot.switch) × (port ≡ spot.port)) ⊎ IsOther spot switch port
at_or spot switch port = elim (cases_eq switch spot.switch) [
  | inr away ↦ inr (inl away)
  | inl same ↦ elim (cases_eq port spot.port) [
    | inr away ↦ inr (inr away)
    | inl too ↦ inl (same, too)
  ]
]

not_both : {A : Type 0} (spot : Spot) (switch port : ℕ) → switch ≡ spot.switch → port ≡ spot.port → IsOther spot switch port → A
not_both spot switch port same too (inl away) = absurd (away same)
not_both spot switch port same too (inr away) = absurd (away too)

the_spot : (spot other : Spot) → other.switch ≡ spot.switch → other.port ≡ spot.port → other ≡ spot
the_spot spot other switch port = ap (λ (s : ℕ). let c : Spot = record { switch = s; port = other.port } in c) switch ∙ ap (λ (p : ℕ). let c : Spot = record { switch = spot.switch; port = p } in c) port

pub at_spot : (side : ℕ → ℕ → Side) (spot : Spot) (switch port : ℕ) → switch ≡ spot.switch → port ≡ spot.port → side switch port ≡ side spot.switch spot.port
at_spot side spot switch port same too = ap (λ (s : ℕ). side s port) same ∙ ap (λ (p : ℕ). side spot.switch p) too

-- two ports are linked
module _ (side new : ℕ → ℕ → Side) (cable new_cable : ℕ → Option Spot) (one other : Spot) (old : TwoEnds side cable)
    (there : new one.switch one.port ≡ To other.switch other.port)
    (back : new other.switch other.port ≡ To one.switch one.port)
    (others : (switch port : ℕ) → IsOther one switch port → IsOther other switch port → new switch port ≡ side switch port)
    (cables : (end : ℕ) → new_cable end ≡ cable end)
    (before : ((side one.switch one.port ≡ To other.switch other.port) × (side other.switch other.port ≡ To one.switch one.port)) ⊎ ((side one.switch one.port ≡ Bare) × (side other.switch other.port ≡ Bare))) where
  turn : (a b : Spot) → new a.switch a.port ≡ To b.switch b.port → new b.switch b.port ≡ To a.switch a.port → (s p t q : ℕ) → s ≡ a.switch → p ≡ a.port → new s p ≡ To t q → new t q ≡ To s p
  turn a b to from s p t q same too leads =
      let parts = same_to b.switch b.port t q (sym to ∙ sym (at_spot new a s p same too) ∙ leads) in
      at_spot new b t q (sym parts.0) (sym parts.1) ∙ from ∙ ap (λ (x : ℕ). To x a.port) (sym same) ∙ ap (λ (y : ℕ). To s y) (sym too)

  -- no third port led to one of them
  from_one : {A : Type 0} (s p : ℕ) → IsOther other s p → side one.switch one.port ≡ To s p → A
  from_one s p away leads = elim before [
    | inl linked ↦ (let parts = same_to other.switch other.port s p (sym linked.0 ∙ leads) in not_both other s p (sym parts.0) (sym parts.1) away)
    | inr bare ↦ bare_to s p (sym bare.0 ∙ leads)
  ]

  from_other : {A : Type 0} (s p : ℕ) → IsOther one s p → side other.switch other.port ≡ To s p → A
  from_other s p away leads = elim before [
    | inl linked ↦ (let parts = same_to one.switch one.port s p (sym linked.1 ∙ leads) in not_both one s p (sym parts.0) (sym parts.1) away)
    | inr bare ↦ bare_to s p (sym bare.1 ∙ leads)
  ]

  third : (s p t q : ℕ) → IsOther one s p → IsOther other s p → side s p ≡ To t q → new t q ≡ To s p
  third s p t q away away' leads =
      let from = old.links s p t q leads in
      elim (at_or one t q) [
        | inl (same, too) ↦ from_one s p away' (sym (at_spot side one t q same too) ∙ from)
        | inr far ↦ elim (at_or other t q) [
          | inl (same, too) ↦ from_other s p away (sym (at_spot side other t q same too) ∙ from)
          | inr far' ↦ others t q far far' ∙ from
        ]
      ]

  both_links : (s p t q : ℕ) → new s p ≡ To t q → new t q ≡ To s p
  both_links s p t q leads = elim (at_or one s p) [
    | inl (same, too) ↦ turn one other there back s p t q same too leads
    | inr away ↦ elim (at_or other s p) [
      | inl (same, too) ↦ turn other one back there s p t q same too leads
      | inr away' ↦ third s p t q away away' (sym (others s p away away') ∙ leads)
    ]
  ]

  link_there : (spot : Spot) (end : ℕ) → new spot.switch spot.port ≡ End end → new_cable end ≡ Some spot
  link_there spot end leads = elim (at_or one spot.switch spot.port) [
    | inl (same, too) ↦ to_end other.switch other.port end (sym there ∙ sym (at_spot new one spot.switch spot.port same too) ∙ leads)
    | inr away ↦ elim (at_or other spot.switch spot.port) [
      | inl (same, too) ↦ to_end one.switch one.port end (sym back ∙ sym (at_spot new other spot.switch spot.port same too) ∙ leads)
      | inr away' ↦ cables end ∙ old.there spot end (sym (others spot.switch spot.port away away') ∙ leads)
    ]
  ]

  one_no_end : {A : Type 0} (end : ℕ) → side one.switch one.port ≡ End end → A
  one_no_end end leads = elim before [
    | inl linked ↦ to_end other.switch other.port end (sym linked.0 ∙ leads)
    | inr bare ↦ bare_end end (sym bare.0 ∙ leads)
  ]

  other_no_end : {A : Type 0} (end : ℕ) → side other.switch other.port ≡ End end → A
  other_no_end end leads = elim before [
    | inl linked ↦ to_end one.switch one.port end (sym linked.1 ∙ leads)
    | inr bare ↦ bare_end end (sym bare.1 ∙ leads)
  ]

  link_back : (spot : Spot) (end : ℕ) → new_cable end ≡ Some spot → new spot.switch spot.port ≡ End end
  link_back spot end is =
      let leads = old.back spot end (sym (cables end) ∙ is) in
      elim (at_or one spot.switch spot.port) [
        | inl (same, too) ↦ one_no_end end (sym (at_spot side one spot.switch spot.port same too) ∙ leads)
        | inr away ↦ elim (at_or other spot.switch spot.port) [
          | inl (same, too) ↦ other_no_end end (sym (at_spot side other spot.switch spot.port same too) ∙ leads)
          | inr away' ↦ others spot.switch spot.port away away' ∙ leads
        ]
      ]

  linked : TwoEnds new new_cable
  linked = record { links = both_links; there = link_there; back = link_back }

-- an end port is cabled
module _ (side new : ℕ → ℕ → Side) (cable new_cable : ℕ → Option Spot) (end : ℕ) (spot : Spot) (old : TwoEnds side cable)
    (there : new spot.switch spot.port ≡ End end) (back : new_cable end ≡ Some spot)
    (others : (switch port : ℕ) → IsOther spot switch port → new switch port ≡ side switch port)
    (other_ends : (e : ℕ) → e ≢ end → new_cable e ≡ cable e)
    (before : ((side spot.switch spot.port ≡ End end) × (cable end ≡ Some spot)) ⊎ ((side spot.switch spot.port ≡ Bare) × (cable end ≡ None))) where
  no_to : {A : Type 0} (s p : ℕ) → side spot.switch spot.port ≡ To s p → A
  no_to s p leads = elim before [
    | inl cabled ↦ to_end s p end (sym leads ∙ cabled.0)
    | inr bare ↦ bare_to s p (sym bare.0 ∙ leads)
  ]

  cable_links : (s p t q : ℕ) → new s p ≡ To t q → new t q ≡ To s p
  cable_links s p t q leads = elim (at_or spot s p) [
    | inl (same, too) ↦ to_end t q end (sym leads ∙ at_spot new spot s p same too ∙ there)
    | inr away ↦ (let from = old.links s p t q (sym (others s p away) ∙ leads) in elim (at_or spot t q) [
      | inl (same, too) ↦ no_to s p (sym (at_spot side spot t q same too) ∙ from)
      | inr far ↦ others t q far ∙ from
    ])
  ]

  not_again : {A : Type 0} (at : Spot) → IsOther spot at.switch at.port → cable end ≡ Some at → A
  not_again at away is = elim before [
    | inl cabled ↦ (let same = same_spot spot at (sym cabled.1 ∙ is) in not_both spot at.switch at.port (ap (λ (x : Spot). x.switch) (sym same)) (ap (λ (x : Spot). x.port) (sym same)) away)
    | inr free ↦ none_some at (sym free.1 ∙ is)
  ]

  cable_there : (at : Spot) (e : ℕ) → new at.switch at.port ≡ End e → new_cable e ≡ Some at
  cable_there at e leads = elim (at_or spot at.switch at.port) [
    | inl (same, too) ↦ (
        let which = same_end end e (sym there ∙ sym (at_spot new spot at.switch at.port same too) ∙ leads) in
        ap new_cable (sym which) ∙ back ∙ ap (λ (x : Spot). Some x) (sym (the_spot spot at same too)))
    | inr away ↦ (let is = old.there at e (sym (others at.switch at.port away) ∙ leads) in elim (cases_eq e end) [
      | inl same ↦ not_again at away (ap cable (sym same) ∙ is)
      | inr differs ↦ other_ends e differs ∙ is
    ])
  ]

  other_end : {A : Type 0} (e : ℕ) → e ≢ end → side spot.switch spot.port ≡ End e → A
  other_end e differs leads = elim before [
    | inl cabled ↦ absurd (differs (same_end e end (sym leads ∙ cabled.0)))
    | inr bare ↦ bare_end e (sym bare.0 ∙ leads)
  ]

  cable_back : (at : Spot) (e : ℕ) → new_cable e ≡ Some at → new at.switch at.port ≡ End e
  cable_back at e is = elim (cases_eq e end) [
    | inl same ↦ (
        let here = same_spot at spot (sym is ∙ ap new_cable same ∙ back) in
        ap (λ (x : Spot). new x.switch x.port) here ∙ there ∙ ap (λ (n : ℕ). End n) (sym same))
    | inr differs ↦ (let leads = old.back at e (sym (other_ends e differs) ∙ is) in elim (at_or spot at.switch at.port) [
      | inl (same, too) ↦ other_end e differs (sym (at_spot side spot at.switch at.port same too) ∙ leads)
      | inr away ↦ others at.switch at.port away ∙ leads
    ])
  ]

  cabled : TwoEnds new new_cable
  cabled = record { links = cable_links; there = cable_there; back = cable_back }

abbrev HasTwoEnds : FabricOf → Type 0
HasTwoEnds fabric = TwoEnds (side_of fabric) (cable_of fabric)

bare_two : (nodes : NodesOf) (fabric : FabricOf) → IsBareOf nodes fabric → HasTwoEnds fabric
bare_two nodes fabric is = record {
  links = λ switch port other far leads. bare_to other far (sym (is.bare switch port) ∙ leads);
  there = λ spot end leads. bare_end end (sym (is.bare spot.switch spot.port) ∙ leads);
  back = λ spot end leads. none_some spot (sym (is.uncabled end) ∙ leads);
}

link_two : (old new : FabricOf) (one other : Spot) → MayLink old one other → IsLinked old new one other → HasTwoEnds old → HasTwoEnds new
link_two old new one other may is two =
    linked (side_of old) (side_of new) (cable_of old) (cable_of new) one other two is.there is.back is.others (λ end. ap (λ (f : FabricOf). cable_of f end) is.rest) (elim may.2 [
      | inl linked ↦ inl (linked.there, linked.back)
      | inr bare ↦ inr (bare.there, bare.back)
    ])

cable_two : (old new : FabricOf) (end : ℕ) (spot : Spot) → MayCable old end spot → IsCabledTo old new end spot → HasTwoEnds old → HasTwoEnds new
cable_two old new end spot may is two =
    cabled (side_of old) (side_of new) (cable_of old) (cable_of new) end spot two is.there is.back is.others is.other_ends (elim may.1 [
      | inl cabled ↦ inl (cabled.there, cabled.back)
      | inr free ↦ inr (free.there, free.back)
    ])

module _ (old new : FabricOf) (two : HasTwoEnds old) where
  same_two : new ≡ old → HasTwoEnds new
  same_two is = subst HasTwoEnds (sym is) two

  ports_two : (port far : ℕ) (switch other : Option ℕ) → LinksPorts old switch port other far new → HasTwoEnds new
  ports_two port far None other is = same_two is
  ports_two port far (Some switch) None is = same_two is
  ports_two port far (Some switch) (Some other) is = link_two old new (spot_of switch port) (spot_of other far) is.0 is.1 two

  port_two : (port : ℕ) (switch end : Option ℕ) → CablesPort old switch port end new → HasTwoEnds new
  port_two port None end is = same_two is
  port_two port (Some switch) None is = same_two is
  port_two port (Some switch) (Some end) is = cable_two old new end (spot_of switch port) is.0 is.1 two

  joins_two : (one other : PortTold) → Joins old one other new → HasTwoEnds new
  joins_two (OfSwitch guid port) (OfSwitch other far) is = ports_two port far (switch_with old guid) (switch_with old other) is
  joins_two (OfSwitch guid port) (OfHost end) is = port_two port (switch_with old guid) (end_with old end) is
  joins_two (OfHost end) (OfSwitch guid port) is = port_two port (switch_with old guid) (end_with old end) is
  joins_two (OfHost end) (OfHost other) is = same_two is

  fact_two : (said : Fact) → AddsLink old said new → HasTwoEnds new
  fact_two (fact.Switch guid ports base lmc) is = same_two is
  fact_two (fact.Host guid base lmc) is = same_two is
  fact_two (fact.Link one other) is = joins_two one other is
  fact_two (fact.Neighbour guid base) is = same_two is.1
  fact_two (fact.HasSwitch guid) is = same_two is.1

-- what each fact keeps, a text keeps
module _ {Told : Type 0} (adds : Told → Fact → Told → Type 0) (Holds : Told → Type 0) (keeps : (old new : Told) → Holds old → (said : Fact) → adds old said new → Holds new) where
  some_keeps : (old new : Told) (said : Option Fact) → AddsSome adds old said new → Holds old → Holds new
  some_keeps old new None is holds = subst Holds (sym is) holds
  some_keeps old new (Some said) is holds = keeps old new holds said is

  facts_keep : (old new : Told) (said : Line) → AddsFacts adds old said new → Holds old → Holds new
  facts_keep old new said is holds =
      let one = some_keeps old is.one said.first is.first holds in
      let two = some_keeps is.one is.two said.second is.second one in
      some_keeps is.two new said.third is.third two

  lines_keep : (old : Part × Told) (lines : List (List ℕ)) (new : Part × Told) → LeadsBy (AddsLine adds) old lines new → Holds old.1 → Holds new.1
  lines_keep old [] new same holds = subst (λ (s : Part × Told). Holds s.1) same holds
  lines_keep old (line ∷ lines) new (between, is, rest) holds = lines_keep between lines new rest (facts_keep old.1 between.1 is.said is.facts holds)

  pub text_keeps : (old : Told) (bytes : List ℕ) (new : Told) → IsTextFrom adds old bytes new → Holds old → Holds new
  text_keeps old bytes new is holds = lines_keep (part.Start, old) (lines_of bytes) (is.last, new) is.good holds

module _ (bytes : List ℕ) (fabric : FabricOf) (is : IsFabricText bytes fabric) where
  two_ends : HasTwoEnds fabric
  two_ends = text_keeps AddsLink HasTwoEnds (λ old new two said adds. fact_two old new two said adds) is.bare bytes fabric is.links (bare_two is.nodes.nodes is.bare is.nodes.bare)

  pub both_ways : (switch port other far : ℕ) → side_of fabric switch port ≡ To other far → side_of fabric other far ≡ To switch port
  both_ways = two_ends.links

  pub cabled_there : (spot : Spot) (end : ℕ) → side_of fabric spot.switch spot.port ≡ End end → cable_of fabric end ≡ Some spot
  cabled_there = two_ends.there

  pub cabled_back : (spot : Spot) (end : ℕ) → cable_of fabric end ≡ Some spot → side_of fabric spot.switch spot.port ≡ End end
  cabled_back = two_ends.back
