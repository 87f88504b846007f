-- What stands at a place.
use Rattle.std.proofs.Common.{◌≡◌, ◌∙◌, sym, ap, subst, refl, ℕ, ◌+◌, ◌-◌, ◌*◌, ◌^◌, ◌<◌, ◌≤◌, List, Option, Some, None, arith, length, get_or, set, slice_get, inl, inr}
use Rattle.std.specs.Prelude.{All, IfSome}
use Rattle.std.specs.List.Sorted.{IsStrictlyIncreasing}
use Rattle.std.specs.Map.{keys_of, values_of}
use Rattle.std.proofs.lemmas.Bool.{cases_eq, cases_lt}
use Rattle.std.proofs.lemmas.List.Kept.{AllPairs-from_increasing}
use Rattle.std.proofs.lemmas.List.{get_or-map, get_or-set_other, get_or-set_same, length-map, length-set, map-set}
use Rattle.std.specs.Option.{option_map}
use Rattle.std.proofs.lemmas.Option.{same_Some, slice_get-get_or, slice_get-map, slice_get_past}
use Rattle.fabric_model.specs.declared.node.EndPort.{EndPort}
use Rattle.fabric_model.specs.declared.node.EndPort.TheVariants as kind
use Rattle.fabric_model.specs.declared.node.Side.{Side}
use Rattle.fabric_model.specs.declared.node.Side.TheVariants.{Bare, To, End}
use Rattle.fabric_model.specs.declared.node.Spot.{Spot}
use Rattle.fabric_model.specs.declared.node.Switch.{Switch}
use Rattle.fabric_model.specs.Fabric.{AllCabled, AllLeadWithin, FabricOf, IsFabric, IsLinked, IsPort, IsCabledTo, LeadsWithin, cable_of, guid_in, guid_of, ports_in, side_of, switch_count}
use Rattle.fabric_model.specs.Nodes.{NodesOf}
use Rattle.fabric_model.specs.Sides.{IsSideSet, IsSmall, IsSmallEnd, side_in, sides_in}
use Rattle.fabric_model.proofs.SideLemmas.{place_low, put_others, put_there}

-- a switch has no more ports than the one with most
pub ports_low : (nodes : List (ℕ × Switch)) (most switch : ℕ) → All (λ n. n.1.ports ≤ most) nodes → ports_in (slice_get nodes switch) ≤ most
ports_low nodes most switch all = elim (cases_lt switch (length nodes)) [
  | inl low ↦ (
      let default : ℕ × Switch = (0, record { ports = 0; lids = record { base = 0; lmc = 0 } }) in
      subst (λ (o : Option (ℕ × Switch)). ports_in o ≤ most) (sym (slice_get-get_or nodes switch default low)) (all switch default low))
  | inr past ↦ subst (λ (o : Option (ℕ × Switch)). ports_in o ≤ most) (sym (slice_get_past nodes switch past)) (omega arith)
]

guid_at : {A : Type 0} (nodes : List (ℕ × A)) (default : ℕ × A) (place : ℕ) → place < length nodes → guid_in (slice_get nodes place) ≡ get_or (keys_of nodes) place default.0
guid_at {A} nodes default place low = ap guid_in (slice_get-get_or nodes place default low) ∙ sym (get_or-map (λ (n : ℕ × A). n.0) nodes place default default.0 low)

-- GUIDs rise with the places
pub guids_rise : {A : Type 0} (nodes : List (ℕ × A)) (default : ℕ × A) → IsStrictlyIncreasing (keys_of nodes) → (one other : ℕ) → one ≤ other → other < length nodes → guid_in (slice_get nodes one) ≤ guid_in (slice_get nodes other)
guids_rise {A} nodes default rising one other no_more low =
    let size = length-map nodes (λ (n : ℕ × A). n.0) in
    let a = guid_at nodes default one (omega arith) in
    let b = guid_at nodes default other low in
    elim (cases_eq one other) [
      | inl same ↦ (let e = ap (λ (k : ℕ). guid_in (slice_get nodes k)) same in omega arith)
      | inr differs ↦ (let lt = AllPairs-from_increasing (keys_of nodes) rising one other default.0 (omega arith) (omega arith) in omega arith)
    ]

pub host_guids : (fabric : FabricOf) → IsFabric fabric → (one other : ℕ) → one ≤ other → other < length fabric.nodes.ends → guid_of fabric (kind.Host one) ≤ guid_of fabric (kind.Host other)
host_guids fabric is = guids_rise fabric.nodes.ends (0, record { base = 0; lmc = 0 }) is.rising_ends

pub switch_guids : (fabric : FabricOf) → IsFabric fabric → (one other : ℕ) → one ≤ other → other < switch_count fabric → guid_of fabric (kind.Switch one) ≤ guid_of fabric (kind.Switch other)
switch_guids fabric is = guids_rise fabric.nodes.switches (0, record { ports = 0; lids = record { base = 0; lmc = 0 } }) is.rising

-- a side more leads to a switch that there is, as each does
pub within_set : (count place : ℕ) (sides : List Side) (side : Side) → LeadsWithin count side → AllLeadWithin count sides → AllLeadWithin count (set sides place side)
within_set count place sides side leads all other low =
    let size = length-set sides place side in
    elim (cases_eq other place) [
      | inl same ↦ subst (LeadsWithin count) (sym (ap (λ (k : ℕ). get_or (set sides place side) k Bare) same ∙ get_or-set_same sides place side Bare (omega arith))) leads
      | inr differs ↦ subst (LeadsWithin count) (sym (get_or-set_other sides place other side Bare differs)) (all other (omega arith))
    ]

-- two sides that are set are a link
pub linked : (old now new : FabricOf) (one other : Spot) → IsSideSet old now one (To other.switch other.port) → IsSideSet now new other (To one.switch one.port) → IsLinked old new one other
linked old now new one other first second = record {
  count = second.count ∙ first.count;
  there = elim (cases_eq one.switch other.switch) [
    | inr differs ↦ second.others one.switch one.port (inl differs) ∙ first.there
    | inl same_switch ↦ elim (cases_eq one.port other.port) [
      | inr differs ↦ second.others one.switch one.port (inr differs) ∙ first.there
      | inl same_port ↦ ap (λ (s : ℕ). side_of new s one.port) same_switch ∙ ap (λ (p : ℕ). side_of new other.switch p) same_port ∙ second.there ∙ ap (λ (s : ℕ). To s one.port) same_switch ∙ ap (λ (p : ℕ). To other.switch p) same_port
    ]
  ];
  back = second.there;
  others = λ switch port not_one not_other. second.others switch port not_other ∙ first.others switch port not_one;
  rest = second.rest ∙ ap (λ (f : FabricOf). let r : FabricOf = record f { sides = new.sides } in r) first.rest;
}

-- a switch has the same ports after a side is set
pub same_ports : (old new : FabricOf) (sides : List Side) (spot : Spot) → new ≡ record old { sides = sides } → IsPort old spot → IsPort new spot
same_ports old new sides spot same is = subst (λ (f : FabricOf). IsPort f spot) (sym same) (record { used = is.used; low = is.low })

-- the value at a place
pub value_at : {A : Type 0} (nodes : List (ℕ × A)) (place : ℕ) (value : A) (default : ℕ × A) → place < length nodes → slice_get (values_of nodes) place ≡ Some value → (get_or nodes place default).1 ≡ value
value_at {A} nodes place value default low is =
    let e = slice_get-map (λ (n : ℕ × A). n.1) nodes place in
    same_Some (get_or nodes place default).1 value (sym (ap (option_map (λ (n : ℕ × A). n.1)) (slice_get-get_or nodes place default low)) ∙ sym e ∙ is)

-- an end port is cabled
pub cabled_to : (old now new : FabricOf) (end : ℕ) (spot : Spot) → IsSideSet old now spot (End end) → end < length now.cables → new ≡ record now { cables = set now.cables end (Some spot) } → IsCabledTo old new end spot
cabled_to old now new end spot side low same =
    let set_now : FabricOf = record now { cables = set now.cables end (Some spot) } in
    subst (λ (f : FabricOf). IsCabledTo old f end spot) (sym same) (record {
      count = side.count;
      ends = length-set now.cables end (Some spot) ∙ ap (λ (f : FabricOf). length f.cables) side.rest;
      there = side.there;
      back = get_or-set_same now.cables end (Some spot) None low;
      others = side.others;
      other_ends = λ other differs. get_or-set_other now.cables end other (Some spot) None differs ∙ ap (λ (f : FabricOf). cable_of f other) side.rest;
      rest = ap (λ (f : FabricOf). let r : FabricOf = record f { cables = set now.cables end (Some spot) } in r) side.rest;
    })

-- who is cabled is so to a switch that there is
pub cable_within : (count : ℕ) (cables : List (Option Spot)) (end : ℕ) (found : Option Spot) → AllCabled count cables → found ≡ get_or cables end None → IfSome found (λ spot. spot.switch < count)
cable_within count cables end None all is = tt
cable_within count cables end (Some spot) all is = all end spot (sym is)

-- sides fit into four bytes
pub small_of : (count : ℕ) (side : Side) → count ≤ 2 ^ 14 → LeadsWithin count side → IsSmallEnd side → IsSmall side
small_of count (To next entry) few within small = omega arith
small_of count (End end) few within small = omega arith
small_of count Bare few within small = tt

module _ (nodes : NodesOf) (most : ℕ) (owners : List (Option EndPort)) where
  abbrev pub fabric_of : List ℕ → List (Option Spot) → FabricOf
  fabric_of words cables = record { nodes = nodes; most = most; sides = sides_in words; cables = cables; owners = owners }

  -- the side of a port is put
  module _ (words : List ℕ) (cables : List (Option Spot)) (spot : Spot) (word place : ℕ) (fits : IsFabric (fabric_of words cables)) (low : spot.switch < length nodes.switches) (port : IsPort (fabric_of words cables) spot) (is_place : place ≡ spot.switch * most + (spot.port - 1)) where
    word_count : length words ≡ length nodes.switches * most
    word_count = sym (length-map words side_in) ∙ fits.count

    port_fits : spot.port ≤ most
    port_fits = let most_ports = ports_low nodes.switches most spot.switch fits.most.all in let l = port.low in omega arith

    pub side_low : place < length words
    side_low = let l = place_low (length nodes.switches) most spot.switch spot.port (length words) low port.used port_fits word_count in omega arith

    pub side_put : (side : Side) → side_in word ≡ side → IsSideSet (fabric_of words cables) (fabric_of (set words place word) cables) spot side
    side_put side is = subst (λ (k : ℕ). IsSideSet (fabric_of words cables) (fabric_of (set words k word) cables) spot side) (sym is_place) (record {
      count = ap (λ (l : List Side). length l) (map-set side_in words (spot.switch * most + (spot.port - 1)) word) ∙ length-set (sides_in words) (spot.switch * most + (spot.port - 1)) (side_in word);
      there = put_there (length nodes.switches) most spot.switch spot.port word words low port.used port_fits word_count ∙ is;
      others = put_others (length nodes.switches) most spot.switch spot.port word words low port.used port_fits word_count;
      rest = refl;
    })

    pub side_fits : LeadsWithin (length nodes.switches) (side_in word) → IsFabric (fabric_of (set words place word) cables)
    side_fits leads =
        let as_set = map-set side_in words place word in
        record {
          count = ap (λ (l : List Side). length l) as_set ∙ length-set (sides_in words) place (side_in word) ∙ fits.count;
          few = fits.few;
          low = fits.low;
          within = subst (AllLeadWithin (length nodes.switches)) (sym as_set) (within_set (length nodes.switches) place (sides_in words) (side_in word) leads fits.within);
          few_ends = fits.few_ends;
          cables = fits.cables;
          cabled = fits.cabled;
          lids = fits.lids;
          last = fits.last;
          most = fits.most;
          rising = fits.rising;
          rising_ends = fits.rising_ends;
          owners = fits.owners;
        }

  -- a cable is put
  cabled_set : (count end : ℕ) (cables : List (Option Spot)) (spot : Spot) → end < length cables → spot.switch < count → AllCabled count cables → AllCabled count (set cables end (Some spot))
  cabled_set count end cables spot low within all other found is = elim (cases_eq other end) [
    | inl same ↦ (
        let here : Some spot ≡ Some found = sym (ap (λ (k : ℕ). get_or (set cables end (Some spot)) k None) same ∙ get_or-set_same cables end (Some spot) None low) ∙ is in
        let e : spot ≡ found = cc in
        subst (λ (s : Spot). s.switch < count) e within)
    | inr differs ↦ all other found (sym (get_or-set_other cables end other (Some spot) None differs) ∙ is)
  ]

  pub cable_fits : (words : List ℕ) (cables : List (Option Spot)) (end : ℕ) (spot : Spot) → IsFabric (fabric_of words cables) → end < length cables → spot.switch < length nodes.switches → IsFabric (fabric_of words (set cables end (Some spot)))
  cable_fits words cables end spot fits low within = record {
    count = fits.count;
    few = fits.few;
    low = fits.low;
    within = fits.within;
    few_ends = fits.few_ends;
    cables = length-set cables end (Some spot) ∙ fits.cables;
    cabled = cabled_set (length nodes.switches) end cables spot low within fits.cabled;
    lids = fits.lids;
    last = fits.last;
    most = fits.most;
    rising = fits.rising;
    rising_ends = fits.rising_ends;
    owners = fits.owners;
  }
