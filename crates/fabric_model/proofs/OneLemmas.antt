-- What is told leaves no choice: of nodes, of the fabric of nodes, of links and of cables.
use Rattle.std.proofs.Common.{◌≡◌, ◌≢◌, ◌∙◌, sym, ap, subst, refl, ℕ, ◌+◌, ◌-◌, ◌*◌, ◌/◌, ◌%◌, ◌<◌, ◌≤◌, Bool, true, false, cond, List, Option, Some, None, arith, length, get_or, inl, inr, ◌⊎◌, ◌↔◌, AllPairs}
use Rattle.std.specs.Prelude.{IsPermutation}
use Rattle.std.specs.List.Sorted.{IsStrictlyIncreasing}
use Rattle.std.specs.Map.{keys_of}
use Rattle.std.proofs.lemmas.Bool.{cases_eq, cases_lt}
use Rattle.std.proofs.lemmas.List.{ext_get_or, get_or-map, get_or_past, length-map}
use Rattle.std.proofs.lemmas.List.Elements.{All-contains}
use Rattle.std.proofs.lemmas.List.Kept.{AllPairs-from_increasing}
use Rattle.std.proofs.lemmas.List.Sorted.{Contains-permutation, IsPermutation-sym}
use Rattle.std.proofs.lemmas.Nat.{div-add-mod'}
use Rattle.std.proofs.lemmas.Option.{same_Some}
use Rattle.std.proofs.Math.Nat.{mod-lt}
use Rattle.common_values.proofs.MemberLemmas.{one_rising}
use Rattle.fabric_model.specs.declared.node.EndPort.{EndPort}
use Rattle.fabric_model.specs.declared.node.LidRange.{LidRange}
use Rattle.fabric_model.specs.declared.node.NodeFault.{NodeFault}
use Rattle.fabric_model.specs.declared.node.NodeFault.TheVariants.{Differs, LidsTooHigh, LidTaken, TooManyPorts, TooMany}
use Rattle.fabric_model.specs.declared.node.LinkFault.{LinkFault}
use Rattle.fabric_model.specs.declared.node.LinkFault.TheVariants.{NoPort, Differs as LinkDiffers}
use Rattle.fabric_model.specs.declared.node.Side.{Side}
use Rattle.fabric_model.specs.declared.node.Side.TheVariants.{Bare, To, End}
use Rattle.fabric_model.specs.declared.node.Spot.{Spot}
use Rattle.fabric_model.specs.declared.node.Switch.{Switch}
use Rattle.fabric_model.specs.Nodes.{AddsEnd, AddsSwitch, EndsOwned, IsOtherNode, IsRefusedEnd, IsRefusedSwitch, NodesOf, Owns, node_of}
use Rattle.fabric_model.specs.Fabric.{FabricOf, IsBareOf, IsCabledTo, IsLinked, IsMost, IsOther, IsRefusedCable, IsRefusedLink, MayCable, MayLink, side_of}
use Rattle.fabric_model.proofs.SideLemmas.{chosen, is_used, used, used_low}

-- nodes of which the GUIDs rise stand in one order
key_pairs : {A : Type 0} (xs : List (ℕ × A)) → IsStrictlyIncreasing (keys_of xs) → AllPairs (λ (a b : ℕ × A). a.0 < b.0) xs
key_pairs {A} xs rising i j d lt low =
    let size = length-map xs (λ (n : ℕ × A). n.0) in
    let a = get_or-map (λ (n : ℕ × A). n.0) xs i d d.0 (omega arith) in
    let b = get_or-map (λ (n : ℕ × A). n.0) xs j d d.0 low in
    let less = AllPairs-from_increasing (keys_of xs) rising i j d.0 lt (omega arith) in
    omega arith

one_order : {A : Type 0} (nodes xs ys : List (ℕ × A)) → IsPermutation nodes xs → IsPermutation nodes ys → IsStrictlyIncreasing (keys_of xs) → IsStrictlyIncreasing (keys_of ys) → xs ≡ ys
one_order {A} nodes xs ys to_xs to_ys xs_rise ys_rise =
    one_rising (λ (a b : ℕ × A). a.0 < b.0) xs ys (λ a b has has' lt gt. absurd (omega arith)) (key_pairs xs xs_rise) (key_pairs ys ys_rise)
    (λ z has. Contains-permutation nodes ys z to_ys (Contains-permutation xs nodes z (IsPermutation-sym nodes xs to_xs) has))
    (λ z has. Contains-permutation nodes xs z to_xs (Contains-permutation ys nodes z (IsPermutation-sym nodes ys to_ys) has))

-- no other number of ports is the greatest
no_more : (switches : List (ℕ × Switch)) (most other : ℕ) → IsMost switches most → IsMost switches other → most ≤ other
no_more switches most other is is' = elim is.some [
  | inl none ↦ omega arith
  | inr (node, has, same) ↦ (let low = All-contains (λ (n : ℕ × Switch). n.1.ports ≤ other) switches node is'.all has in omega arith)
]

one_most : (switches : List (ℕ × Switch)) (most other : ℕ) → IsMost switches most → IsMost switches other → most ≡ other
one_most switches most other is is' = let a = no_more switches most other is is' in let b = no_more switches other most is' is in omega arith

-- lists of sides are the same if each port leads to the same
place_side : (most : ℕ) (sides : List Side) (place : ℕ) → 0 < most → chosen most sides (place / most) (place % most + 1) ≡ get_or sides place Bare
place_side most sides place some =
    let low = mod-lt place some in
    let whole = div-add-mod' place most in
    ap (λ (b : Bool). cond b (get_or sides (place / most * most + (place % most + 1 - 1)) Bare) Bare) (used most (place % most + 1) (omega arith) (omega arith))
    ∙ ap (λ (k : ℕ). get_or sides k Bare) (omega arith)

bare_of_none : (most : ℕ) (sides : List Side) (switch port : ℕ) → ¬ (0 < most) → chosen most sides switch port ≡ Bare
bare_of_none most sides switch port none = by (is_used most port) (used_low most port)
  where
    by : (b : Bool) → (b ≡ true → (0 < port) × (port ≤ most)) → cond b (get_or sides (switch * most + (port - 1)) Bare) Bare ≡ Bare
    by false is = refl
    by true is = absurd (let fit = is refl in none (omega arith))

same_sides : (most : ℕ) (xs ys : List Side) → length xs ≡ length ys → (length xs ≡ 0) ⊎ (0 < most) → ((switch port : ℕ) → chosen most xs switch port ≡ chosen most ys switch port) → xs ≡ ys
same_sides most xs ys size some same = ext_get_or Bare xs ys size (λ place low. elim some [
  | inl none ↦ absurd (omega arith)
  | inr more ↦ sym (place_side most xs place more) ∙ same (place / most) (place % most + 1) ∙ place_side most ys place more
])

-- lists of owners are the same if each LID has the same
no_longer : (xs ys : List (Option EndPort)) → EndsOwned ys → ((lid : ℕ) → get_or xs lid None ≡ get_or ys lid None) → length ys ≤ length xs
no_longer xs ys last same = elim (cases_lt (length xs) (length ys)) [
  | inl longer ↦ absurd (last (omega arith) (sym (same (length ys - 1)) ∙ get_or_past xs (length ys - 1) None (omega arith)))
  | inr low ↦ low
]

same_owners : (xs ys : List (Option EndPort)) → EndsOwned xs → EndsOwned ys → ((lid : ℕ) → get_or xs lid None ≡ get_or ys lid None) → xs ≡ ys
same_owners xs ys xs_last ys_last same =
    let a = no_longer xs ys ys_last same in
    let b = no_longer ys xs xs_last (λ lid. sym (same lid)) in
    ext_get_or None xs ys (omega arith) (λ lid low. same lid)

one_owner : (nodes : NodesOf) (xs ys : List (Option EndPort)) (lid : ℕ)
    → ((owner : EndPort) → ((get_or xs lid None ≡ Some owner) ↔ Owns nodes owner lid)) → ((owner : EndPort) → ((get_or ys lid None ≡ Some owner) ↔ Owns nodes owner lid)) → get_or xs lid None ≡ get_or ys lid None
one_owner nodes xs ys lid of_xs of_ys = go (get_or xs lid None) (get_or ys lid None) refl refl
  where
    go : (x y : Option EndPort) → get_or xs lid None ≡ x → get_or ys lid None ≡ y → get_or xs lid None ≡ get_or ys lid None
    go (Some owner) y is is' = is ∙ sym ((of_ys owner).1 ((of_xs owner).0 is))
    go None (Some owner) is is' = (of_xs owner).1 ((of_ys owner).0 is') ∙ sym is'
    go None None is is' = is ∙ sym is'

-- nodes have one fabric that is not cabled
pub one_bare : (nodes : NodesOf) (one other : FabricOf) → IsBareOf nodes one → IsBareOf nodes other → one ≡ other
one_bare nodes one other is is' =
    let switches = one_order nodes.switches one.nodes.switches other.nodes.switches is.switches is'.switches is.fits.rising is'.fits.rising in
    let ends = one_order nodes.ends one.nodes.ends other.nodes.ends is.ends is'.ends is.fits.rising_ends is'.fits.rising_ends in
    let all : one.nodes ≡ other.nodes = λ j. record { switches = switches j; ends = ends j } in
    let most = one_most other.nodes.switches one.most other.most (subst (λ (s : List (ℕ × Switch)). IsMost s one.most) switches is.fits.most) is'.fits.most in
    let sides = bare_sides one other is is' (ap (λ (n : NodesOf). length n.switches) all) most in
    let cables = ext_get_or None one.cables other.cables (is.fits.cables ∙ ap (λ (n : NodesOf). length n.ends) all ∙ sym is'.fits.cables) (λ end low. is.uncabled end ∙ sym (is'.uncabled end)) in
    let owners = same_owners one.owners other.owners is.fits.last is'.fits.last (λ lid. one_owner other.nodes one.owners other.owners lid (subst (λ (n : NodesOf). (owner : EndPort) → ((get_or one.owners lid None ≡ Some owner) ↔ Owns n owner lid)) all (is.fits.owners lid)) (is'.fits.owners lid)) in
    λ j. record { nodes = all j; most = most j; sides = sides j; cables = cables j; owners = owners j }
  where
    bare_sides : (a b : FabricOf) → IsBareOf nodes a → IsBareOf nodes b → length a.nodes.switches ≡ length b.nodes.switches → a.most ≡ b.most → a.sides ≡ b.sides
    bare_sides a b of_a of_b count most =
        let size : length a.sides ≡ length b.sides = of_a.fits.count ∙ ap (λ (n : ℕ). n * a.most) count ∙ ap (λ (m : ℕ). length b.nodes.switches * m) most ∙ sym of_b.fits.count in
        let some : (length a.sides ≡ 0) ⊎ (0 < a.most) = elim (cases_lt 0 a.most) [
          | inl more ↦ inr more
          | inr none ↦ (let zero : a.most ≡ 0 = omega arith in inl (of_a.fits.count ∙ ap (λ (m : ℕ). length a.nodes.switches * m) zero ∙ omega arith))
        ] in
        same_sides a.most a.sides b.sides size some (λ switch port. of_a.bare switch port ∙ sym (ap (λ (m : ℕ). chosen m b.sides switch port) most ∙ of_b.bare switch port))

-- a port is this one, or another
spot_or : (spot : Spot) (switch port : ℕ) → ((switch ≡ spot.switch) × (port ≡ spot.port)) ⊎ IsOther spot switch port
spot_or spot switch port = elim (cases_eq switch spot.switch) [
  | inl same ↦ elim (cases_eq port spot.port) [
    | inl same_port ↦ inl (same, same_port)
    | inr differs ↦ inr (inr differs)
  ]
  | inr differs ↦ inr (inl differs)
]

-- where one port of a fabric is not bare, switches have ports
some_ports : (most : ℕ) (sides : List Side) (switch port : ℕ) (side : Side) → chosen most sides switch port ≡ side → side ≢ Bare → 0 < most
some_ports most sides switch port side is differs = elim (cases_lt 0 most) [
  | inl some ↦ some
  | inr none ↦ absurd (differs (sym is ∙ bare_of_none most sides switch port (λ some. absurd (omega arith))))
]

-- a link leads to one fabric
pub one_link : (old new other : FabricOf) (here there : Spot) → IsLinked old new here there → IsLinked old other here there → new ≡ other
one_link old new other here there is is' = is.rest ∙ ap (λ (sides : List Side). let f : FabricOf = record old { sides = sides } in f) sides ∙ sym is'.rest
  where
    as_old : (f : FabricOf) (switch port : ℕ) → f ≡ record old { sides = f.sides } → chosen old.most f.sides switch port ≡ side_of f switch port
    as_old f switch port rest = sym (ap (λ (g : FabricOf). side_of g switch port) rest)

    alike : (switch port : ℕ) → side_of new switch port ≡ side_of other switch port
    alike switch port = elim (spot_or here switch port) [
      | inl (same, same_port) ↦ ap (λ (s : ℕ). side_of new s port) same ∙ ap (λ (p : ℕ). side_of new here.switch p) same_port ∙ is.there
          ∙ sym (ap (λ (s : ℕ). side_of other s port) same ∙ ap (λ (p : ℕ). side_of other here.switch p) same_port ∙ is'.there)
      | inr not_here ↦ elim (spot_or there switch port) [
        | inl (same, same_port) ↦ ap (λ (s : ℕ). side_of new s port) same ∙ ap (λ (p : ℕ). side_of new there.switch p) same_port ∙ is.back
            ∙ sym (ap (λ (s : ℕ). side_of other s port) same ∙ ap (λ (p : ℕ). side_of other there.switch p) same_port ∙ is'.back)
        | inr not_there ↦ is.others switch port not_here not_there ∙ sym (is'.others switch port not_here not_there)
      ]
    ]

    some : 0 < old.most
    some = some_ports old.most new.sides here.switch here.port (To there.switch there.port) (as_old new here.switch here.port is.rest ∙ is.there) (λ same. cc)

    sides : new.sides ≡ other.sides
    sides = same_sides old.most new.sides other.sides (is.count ∙ sym is'.count) (inr some) (λ switch port. as_old new switch port is.rest ∙ alike switch port ∙ sym (as_old other switch port is'.rest))

-- so does a cable
pub one_cable : (old new other : FabricOf) (end : ℕ) (spot : Spot) → IsCabledTo old new end spot → IsCabledTo old other end spot → new ≡ other
one_cable old new other end spot is is' = is.rest ∙ (λ j. record old { sides = sides j; cables = cables j }) ∙ sym is'.rest
  where
    as_old : (f : FabricOf) (switch port : ℕ) → f ≡ record old { sides = f.sides; cables = f.cables } → chosen old.most f.sides switch port ≡ side_of f switch port
    as_old f switch port rest = sym (ap (λ (g : FabricOf). side_of g switch port) rest)

    alike : (switch port : ℕ) → side_of new switch port ≡ side_of other switch port
    alike switch port = elim (spot_or spot switch port) [
      | inl (same, same_port) ↦ ap (λ (s : ℕ). side_of new s port) same ∙ ap (λ (p : ℕ). side_of new spot.switch p) same_port ∙ is.there
          ∙ sym (ap (λ (s : ℕ). side_of other s port) same ∙ ap (λ (p : ℕ). side_of other spot.switch p) same_port ∙ is'.there)
      | inr not_here ↦ is.others switch port not_here ∙ sym (is'.others switch port not_here)
    ]

    some : 0 < old.most
    some = some_ports old.most new.sides spot.switch spot.port (End end) (as_old new spot.switch spot.port is.rest ∙ is.there) (λ same. cc)

    sides : new.sides ≡ other.sides
    sides = same_sides old.most new.sides other.sides (is.count ∙ sym is'.count) (inr some) (λ switch port. as_old new switch port is.rest ∙ alike switch port ∙ sym (as_old other switch port is'.rest))

    cables : new.cables ≡ other.cables
    cables = ext_get_or None new.cables other.cables (is.ends ∙ sym is'.ends) (λ place low. elim (cases_eq place end) [
      | inl same ↦ ap (λ (k : ℕ). get_or new.cables k None) same ∙ is.back ∙ sym (ap (λ (k : ℕ). get_or other.cables k None) same ∙ is'.back)
      | inr differs ↦ is.other_ends place differs ∙ sym (is'.other_ends place differs)
    ])

-- a link that may be is not refused, and is refused by one cause
pub link_or : (fabric : FabricOf) (one other : Spot) (fault : LinkFault) → MayLink fabric one other → IsRefusedLink fabric one other fault → ⊥
link_or fabric one other NoPort may (inl none) = none may.0
link_or fabric one other NoPort may (inr none) = none may.1
link_or fabric one other LinkDiffers may refused = elim may.2 [ inl linked ↦ refused.2 linked | inr bare ↦ refused.3 bare ]

pub one_link_fault : (fabric : FabricOf) (one other : Spot) (b c : LinkFault) → IsRefusedLink fabric one other b → IsRefusedLink fabric one other c → b ≡ c
one_link_fault fabric one other NoPort NoPort x y = refl
one_link_fault fabric one other LinkDiffers LinkDiffers x y = refl
one_link_fault fabric one other NoPort LinkDiffers x y = elim x [ inl none ↦ absurd (none y.0) | inr none ↦ absurd (none y.1) ]
one_link_fault fabric one other LinkDiffers NoPort x y = elim y [ inl none ↦ absurd (none x.0) | inr none ↦ absurd (none x.1) ]

pub cable_or : (fabric : FabricOf) (end : ℕ) (spot : Spot) (fault : LinkFault) → MayCable fabric end spot → IsRefusedCable fabric end spot fault → ⊥
cable_or fabric end spot NoPort may none = none may.0
cable_or fabric end spot LinkDiffers may refused = elim may.1 [ inl cabled ↦ refused.1 cabled | inr free ↦ refused.2 free ]

pub one_cable_fault : (fabric : FabricOf) (end : ℕ) (spot : Spot) (b c : LinkFault) → IsRefusedCable fabric end spot b → IsRefusedCable fabric end spot c → b ≡ c
one_cable_fault fabric end spot NoPort NoPort x y = refl
one_cable_fault fabric end spot LinkDiffers LinkDiffers x y = refl
one_cable_fault fabric end spot NoPort LinkDiffers x y = absurd (x y.0)
one_cable_fault fabric end spot LinkDiffers NoPort x y = absurd (y x.0)

-- a node of this GUID that was told is not new
not_new : {A B : Type 0} (nodes : List (ℕ × A)) (others : List (ℕ × B)) (guid : ℕ) (node : A) → IsOtherNode nodes others guid node → node_of nodes guid ≡ None → node_of others guid ≡ None → ⊥
not_new nodes others guid node is none none_other = elim is [
  | inl (told, there, differs) ↦ absurd (let e : Some told ≡ None = sym there ∙ none in cc)
  | inr (absent, there) ↦ there none_other
]

told_not_new : {A : Type 0} (nodes : List (ℕ × A)) (guid : ℕ) (node : A) → node_of nodes guid ≡ Some node → node_of nodes guid ≡ None → ⊥
told_not_new nodes guid node there none = let e : Some node ≡ None = sym there ∙ none in cc

told_alike : {A B : Type 0} (nodes : List (ℕ × A)) (others : List (ℕ × B)) (guid : ℕ) (node : A) → IsOtherNode nodes others guid node → node_of nodes guid ≡ Some node → ⊥
told_alike nodes others guid node is there = elim is [
  | inl (told, other, differs) ↦ differs (same_Some told node (sym other ∙ there))
  | inr (absent, other) ↦ told_not_new nodes guid node there absent
]

-- a switch that is added leads to one list of nodes, is not refused, and is refused by one cause
pub one_switch_added : (old new other : NodesOf) (guid : ℕ) (switch : Switch) → AddsSwitch old new guid switch → AddsSwitch old other guid switch → new ≡ other
one_switch_added old new other guid switch (inl a) (inl b) = a.1 ∙ sym b.1
one_switch_added old new other guid switch (inl a) (inr b) = absurd (told_not_new old.switches guid switch a.0 b.0.switch)
one_switch_added old new other guid switch (inr a) (inl b) = absurd (told_not_new old.switches guid switch b.0 a.0.switch)
one_switch_added old new other guid switch (inr a) (inr b) = a.4 ∙ sym b.4

pub switch_or : (old new : NodesOf) (guid : ℕ) (switch : Switch) (fault : NodeFault) → AddsSwitch old new guid switch → IsRefusedSwitch old guid switch fault → ⊥
switch_or old new guid switch Differs (inl a) x = told_alike old.switches old.ends guid switch x a.0
switch_or old new guid switch TooManyPorts (inl a) x = told_not_new old.switches guid switch a.0 x.0.switch
switch_or old new guid switch TooMany (inl a) x = told_not_new old.switches guid switch a.0 x.0.switch
switch_or old new guid switch LidsTooHigh (inl a) x = told_not_new old.switches guid switch a.0 x.0.switch
switch_or old new guid switch LidTaken (inl a) x = told_not_new old.switches guid switch a.0 x.0.switch
switch_or old new guid switch Differs (inr a) x = not_new old.switches old.ends guid switch x a.0.switch a.0.end
switch_or old new guid switch TooManyPorts (inr a) x = a.2 x.1
switch_or old new guid switch TooMany (inr a) x = let few = a.3 in let many = x.2 in absurd (omega arith)
switch_or old new guid switch LidsTooHigh (inr a) x = x.3 a.1.low
switch_or old new guid switch LidTaken (inr a) x = a.1.free x.4

-- the causes in their order
abbrev pub order : NodeFault → ℕ
order Differs = 0
order TooManyPorts = 1
order TooMany = 2
order LidsTooHigh = 3
order LidTaken = 4

last_order : (c : NodeFault) → order c ≤ 4
last_order Differs = omega arith
last_order TooManyPorts = omega arith
last_order TooMany = omega arith
last_order LidsTooHigh = omega arith
last_order LidTaken = omega arith

same_order : (b c : NodeFault) → order b ≡ order c → b ≡ c
same_order Differs Differs e = refl
same_order TooManyPorts TooManyPorts e = refl
same_order TooMany TooMany e = refl
same_order LidsTooHigh LidsTooHigh e = refl
same_order LidTaken LidTaken e = refl
same_order b c e = absurd (omega (arith, e))

by_order : (P : NodeFault → Type 0) → ((b c : NodeFault) → order b < order c → P b → P c → ⊥) → (b c : NodeFault) → P b → P c → b ≡ c
by_order P earlier b c x y = elim (cases_lt (order b) (order c)) [
  | inl before ↦ absurd (earlier b c before x y)
  | inr not ↦ elim (cases_lt (order c) (order b)) [
    | inl after ↦ absurd (earlier c b after y x)
    | inr neither ↦ same_order b c (omega arith)
  ]
]

module _ (nodes : NodesOf) (guid : ℕ) (switch : Switch) where
  earlier : (b c : NodeFault) → order b < order c → IsRefusedSwitch nodes guid switch b → IsRefusedSwitch nodes guid switch c → ⊥
  earlier Differs TooManyPorts lt x y = not_new nodes.switches nodes.ends guid switch x y.0.switch y.0.end
  earlier Differs TooMany lt x y = not_new nodes.switches nodes.ends guid switch x y.0.switch y.0.end
  earlier Differs LidsTooHigh lt x y = not_new nodes.switches nodes.ends guid switch x y.0.switch y.0.end
  earlier Differs LidTaken lt x y = not_new nodes.switches nodes.ends guid switch x y.0.switch y.0.end
  earlier TooManyPorts TooMany lt x y = y.1 x.1
  earlier TooManyPorts LidsTooHigh lt x y = y.1 x.1
  earlier TooManyPorts LidTaken lt x y = y.1 x.1
  earlier TooMany LidsTooHigh lt x y = let many = x.2 in let few = y.2 in omega arith
  earlier TooMany LidTaken lt x y = let many = x.2 in let few = y.2 in omega arith
  earlier LidsTooHigh LidTaken lt x y = x.3 y.3
  earlier b c lt x y = absurd (let last = last_order c in omega (arith, lt))

  pub one_switch_fault : (b c : NodeFault) → IsRefusedSwitch nodes guid switch b → IsRefusedSwitch nodes guid switch c → b ≡ c
  one_switch_fault = by_order (IsRefusedSwitch nodes guid switch) earlier

-- the same of an end port
pub one_end_added : (old new other : NodesOf) (guid : ℕ) (lids : LidRange) → AddsEnd old new guid lids → AddsEnd old other guid lids → new ≡ other
one_end_added old new other guid lids (inl a) (inl b) = a.1 ∙ sym b.1
one_end_added old new other guid lids (inl a) (inr b) = absurd (told_not_new old.ends guid lids a.0 b.0.end)
one_end_added old new other guid lids (inr a) (inl b) = absurd (told_not_new old.ends guid lids b.0 a.0.end)
one_end_added old new other guid lids (inr a) (inr b) = a.3 ∙ sym b.3

pub end_or : (old new : NodesOf) (guid : ℕ) (lids : LidRange) (fault : NodeFault) → AddsEnd old new guid lids → IsRefusedEnd old guid lids fault → ⊥
end_or old new guid lids Differs (inl a) x = told_alike old.ends old.switches guid lids x a.0
end_or old new guid lids TooManyPorts a x = x
end_or old new guid lids TooMany (inl a) x = told_not_new old.ends guid lids a.0 x.0.end
end_or old new guid lids LidsTooHigh (inl a) x = told_not_new old.ends guid lids a.0 x.0.end
end_or old new guid lids LidTaken (inl a) x = told_not_new old.ends guid lids a.0 x.0.end
end_or old new guid lids Differs (inr a) x = not_new old.ends old.switches guid lids x a.0.end a.0.switch
end_or old new guid lids TooMany (inr a) x = let few = a.2 in let many = x.1 in absurd (omega arith)
end_or old new guid lids LidsTooHigh (inr a) x = x.2 a.1.low
end_or old new guid lids LidTaken (inr a) x = a.1.free x.3

module _ (nodes : NodesOf) (guid : ℕ) (lids : LidRange) where
  earlier_end : (b c : NodeFault) → order b < order c → IsRefusedEnd nodes guid lids b → IsRefusedEnd nodes guid lids c → ⊥
  earlier_end Differs TooManyPorts lt x y = y
  earlier_end Differs TooMany lt x y = not_new nodes.ends nodes.switches guid lids x y.0.end y.0.switch
  earlier_end Differs LidsTooHigh lt x y = not_new nodes.ends nodes.switches guid lids x y.0.end y.0.switch
  earlier_end Differs LidTaken lt x y = not_new nodes.ends nodes.switches guid lids x y.0.end y.0.switch
  earlier_end TooManyPorts c lt x y = x
  earlier_end TooMany LidsTooHigh lt x y = let many = x.1 in let few = y.1 in omega arith
  earlier_end TooMany LidTaken lt x y = let many = x.1 in let few = y.1 in omega arith
  earlier_end LidsTooHigh LidTaken lt x y = x.2 y.2
  earlier_end b c lt x y = absurd (let last = last_order c in omega (arith, lt))

  pub one_end_fault : (b c : NodeFault) → IsRefusedEnd nodes guid lids b → IsRefusedEnd nodes guid lids c → b ≡ c
  one_end_fault = by_order (IsRefusedEnd nodes guid lids) earlier_end
