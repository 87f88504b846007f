-- A text has one fabric or one first fault, and not both.
use Rattle.std.proofs.Common.{◌≡◌, ◌∙◌, sym, ap, subst, refl, ℕ, inl, inr, List, Option, Some, None, arith}
use Rattle.std.proofs.lemmas.Option.{same_Some}
use Rattle.common_lines.specs.Lines.{lines_of}
use Rattle.common_lines.proofs.ChainLaws.{LeadsBy-once, no_fault_of, one_fault_of}
use Rattle.fabric_model.specs.declared.node.LinkFault.{LinkFault}
use Rattle.fabric_model.specs.declared.node.NodeFault.{NodeFault}
use Rattle.fabric_model.specs.Nodes.{NodesOf}
use Rattle.fabric_model.specs.Fabric.{FabricOf, IsBareOf, switch_with, end_with}
use Rattle.fabric_model.proofs.OneLemmas.{cable_or, end_or, link_or, one_bare, one_cable, one_cable_fault, one_end_added, one_end_fault, one_link, one_link_fault, one_switch_added, one_switch_fault, switch_or}
use Rattle.fabric_topology.specs.declared.cause.TopologyCause.TheVariants.{NoEnd}
use Rattle.fabric_topology.specs.declared.fact.Fact.{Fact}
use Rattle.fabric_topology.specs.declared.fact.Fact.TheVariants as fact
use Rattle.fabric_topology.specs.declared.fact.Line.{Line}
use Rattle.fabric_topology.specs.declared.fact.Part.{Part}
use Rattle.fabric_topology.specs.declared.fact.Part.TheVariants as part
use Rattle.fabric_topology.specs.declared.fact.PortTold.{PortTold}
use Rattle.fabric_topology.specs.declared.fact.PortTold.TheVariants.{OfSwitch, OfHost}
use Rattle.fabric_topology.specs.Texts.{says}
use Rattle.fabric_read_topology.specs.declared.cause.FabricCause.{FabricCause}
use Rattle.fabric_read_topology.specs.declared.cause.FabricCause.TheVariants.{Text, Range, Node, Link, LidDiffers, UnknownSwitch}
use Rattle.fabric_read_topology.specs.Facts.{AddsLink, AddsNode, CablesPort, CannotJoin, IsFaultyLink, IsFaultyNode, IsLinkCause, IsNoCable, IsNoLink, IsNodeCause, Joins, LinksPorts, range_of, spot_of, switch_of}
use Rattle.fabric_read_topology.specs.Lines.{AddsFacts, AddsLine, AddsSome, HasFaultyFact, IsEnded, IsFaultFrom, IsFaultyLine, IsFaultySome, IsTextFrom}
use Rattle.fabric_read_topology.specs.Fabrics.{HasNodes, IsFabricText, IsFault, no_nodes}

-- a line says one thing
same_said : (here : Part) (line : List ℕ) (a b : Line) → says here line ≡ Some a → says here line ≡ Some b → a ≡ b
same_said here line a b is is' = same_Some a b (sym is ∙ is')

some_not_none : (here : Part) (line : List ℕ) (a : Line) → says here line ≡ Some a → says here line ≡ None → ⊥
some_not_none here line a is none = let e : Some a ≡ None = sym is ∙ none in cc

-- The same of lines and texts, if it holds of facts.
module _ {Told : Type 0} (adds : Told → Fact → Told → Type 0) (faulty : Told → Fact → FabricCause → Type 0)
    (once : (old : Told) (fact : Fact) (a b : Told) → adds old fact a → adds old fact b → a ≡ b)
    (not_both : (old : Told) (fact : Fact) (new : Told) (cause : FabricCause) → adds old fact new → faulty old fact cause → ⊥)
    (one_cause : (old : Told) (fact : Fact) (b c : FabricCause) → faulty old fact b → faulty old fact c → b ≡ c) where
  some_once : (old : Told) (fact : Option Fact) (a b : Told) → AddsSome adds old fact a → AddsSome adds old fact b → a ≡ b
  some_once old None a b x y = x ∙ sym y
  some_once old (Some fact) a b x y = once old fact a b x y

  some_not : (old : Told) (fact : Option Fact) (new : Told) (cause : FabricCause) → AddsSome adds old fact new → IsFaultySome adds faulty old fact cause → ⊥
  some_not old None new cause x y = y
  some_not old (Some fact) new cause x y = not_both old fact new cause x y

  some_cause : (old : Told) (fact : Option Fact) (b c : FabricCause) → IsFaultySome adds faulty old fact b → IsFaultySome adds faulty old fact c → b ≡ c
  some_cause old None b c x y = absurd x
  some_cause old (Some fact) b c x y = one_cause old fact b c x y

  facts_once : (old : Told) (said : Line) (a b : Told) → AddsFacts adds old said a → AddsFacts adds old said b → a ≡ b
  facts_once old said a b x y =
      let one = some_once old said.first x.one y.one x.first y.first in
      let two = some_once x.one said.second x.two y.two x.second (subst (λ (t : Told). AddsSome adds t said.second y.two) (sym one) y.second) in
      some_once x.two said.third a b x.third (subst (λ (t : Told). AddsSome adds t said.third b) (sym two) y.third)

  -- the second fact, and the third, after those before it
  module _ (old : Told) (said : Line) (one other : Told) (x : AddsSome adds old said.first one) (y : AddsSome adds old said.first other) where
    second_not : (new : Told) (cause : FabricCause) → AddsSome adds one said.second new → IsFaultySome adds faulty other said.second cause → ⊥
    second_not new cause good bad = some_not one said.second new cause good (subst (λ (t : Told). IsFaultySome adds faulty t said.second cause) (sym (some_once old said.first one other x y)) bad)

    second_cause : (b c : FabricCause) → IsFaultySome adds faulty one said.second b → IsFaultySome adds faulty other said.second c → b ≡ c
    second_cause b c bad bad' = some_cause one said.second b c bad (subst (λ (t : Told). IsFaultySome adds faulty t said.second c) (sym (some_once old said.first one other x y)) bad')

    second_once : (two two' : Told) → AddsSome adds one said.second two → AddsSome adds other said.second two' → two ≡ two'
    second_once two two' good good' = some_once one said.second two two' good (subst (λ (t : Told). AddsSome adds t said.second two') (sym (some_once old said.first one other x y)) good')

    third_not : (two two' new : Told) (cause : FabricCause) → AddsSome adds one said.second two → AddsSome adds other said.second two' → AddsSome adds two said.third new → IsFaultySome adds faulty two' said.third cause → ⊥
    third_not two two' new cause good good' third bad = some_not two said.third new cause third (subst (λ (t : Told). IsFaultySome adds faulty t said.third cause) (sym (second_once two two' good good')) bad)

    third_cause : (two two' : Told) (b c : FabricCause) → AddsSome adds one said.second two → AddsSome adds other said.second two' → IsFaultySome adds faulty two said.third b → IsFaultySome adds faulty two' said.third c → b ≡ c
    third_cause two two' b c good good' bad bad' = some_cause two said.third b c bad (subst (λ (t : Told). IsFaultySome adds faulty t said.third c) (sym (second_once two two' good good')) bad')

  facts_not : (old : Told) (said : Line) (new : Told) (cause : FabricCause) → AddsFacts adds old said new → HasFaultyFact adds faulty old said cause → ⊥
  facts_not old said new cause x (inl first) = some_not old said.first x.one cause x.first first
  facts_not old said new cause x (inr (inl (one, good, second))) = second_not old said x.one one x.first good x.two cause x.second second
  facts_not old said new cause x (inr (inr (one, two, good, more, third))) = third_not old said x.one one x.first good x.two two new cause x.second more x.third third

  facts_cause : (old : Told) (said : Line) (b c : FabricCause) → HasFaultyFact adds faulty old said b → HasFaultyFact adds faulty old said c → b ≡ c
  facts_cause old said b c (inl x) (inl y) = some_cause old said.first b c x y
  facts_cause old said b c (inl x) (inr (inl (one, good, second))) = absurd (some_not old said.first one b good x)
  facts_cause old said b c (inl x) (inr (inr (one, two, good, more, third))) = absurd (some_not old said.first one b good x)
  facts_cause old said b c (inr (inl (one, good, second))) (inl y) = absurd (some_not old said.first one c good y)
  facts_cause old said b c (inr (inr (one, two, good, more, third))) (inl y) = absurd (some_not old said.first one c good y)
  facts_cause old said b c (inr (inl (one, good, second))) (inr (inl (one', good', second'))) = second_cause old said one one' good good' b c second second'
  facts_cause old said b c (inr (inl (one, good, second))) (inr (inr (one', two', good', more', third'))) = absurd (second_not old said one' one good' good two' b more' second)
  facts_cause old said b c (inr (inr (one, two, good, more, third))) (inr (inl (one', good', second'))) = absurd (second_not old said one one' good good' two c more second')
  facts_cause old said b c (inr (inr (one, two, good, more, third))) (inr (inr (one', two', good', more', third'))) = third_cause old said one one' good good' two two' b c more more' third third'

  line_once : (old : Part × Told) (line : List ℕ) (a b : Part × Told) → AddsLine adds old line a → AddsLine adds old line b → a ≡ b
  line_once old line a b x y =
      let same = same_said old.0 line x.said y.said x.says_so y.says_so in
      let told = facts_once old.1 x.said a.1 b.1 x.facts (subst (λ (s : Line). AddsFacts adds old.1 s b.1) (sym same) y.facts) in
      let here : a.0 ≡ b.0 = x.part ∙ ap (λ (s : Line). s.part) same ∙ sym y.part in
      λ j. (here j, told j)

  line_not : (old : Part × Told) (line : List ℕ) (new : Part × Told) (cause : FabricCause) → AddsLine adds old line new → IsFaultyLine adds faulty old line cause → ⊥
  line_not old line new cause x (inl (is, long)) = let short = x.short in omega arith
  line_not old line new cause x (inr (inl (is, short, none))) = some_not_none old.0 line x.said x.says_so none
  line_not old line new cause x (inr (inr t)) =
      let same = same_said old.0 line x.said t.said x.says_so t.says_so in
      facts_not old.1 x.said new.1 cause x.facts (subst (λ (s : Line). HasFaultyFact adds faulty old.1 s cause) (sym same) t.fault)

  line_cause : (old : Part × Told) (line : List ℕ) (b c : FabricCause) → IsFaultyLine adds faulty old line b → IsFaultyLine adds faulty old line c → b ≡ c
  line_cause old line b c (inl (is, long)) (inl (is', long')) = is ∙ sym is'
  line_cause old line b c (inl (is, long)) (inr (inl (is', short, none))) = absurd (omega arith)
  line_cause old line b c (inl (is, long)) (inr (inr t)) = let short = t.short in absurd (omega arith)
  line_cause old line b c (inr (inl (is, short, none))) (inl (is', long)) = absurd (omega arith)
  line_cause old line b c (inr (inl (is, short, none))) (inr (inl (is', short', none'))) = is ∙ sym is'
  line_cause old line b c (inr (inl (is, short, none))) (inr (inr t)) = absurd (some_not_none old.0 line t.said t.says_so none)
  line_cause old line b c (inr (inr t)) (inl (is, long)) = let short = t.short in absurd (omega arith)
  line_cause old line b c (inr (inr t)) (inr (inl (is, short, none))) = absurd (some_not_none old.0 line t.said t.says_so none)
  line_cause old line b c (inr (inr t)) (inr (inr u)) =
      let same = same_said old.0 line t.said u.said t.says_so u.says_so in
      facts_cause old.1 t.said b c t.fault (subst (λ (s : Line). HasFaultyFact adds faulty old.1 s c) (sym same) u.fault)

  text_once : (old : Told) (bytes : List ℕ) (a b : Told) → IsTextFrom adds old bytes a → IsTextFrom adds old bytes b → a ≡ b
  text_once old bytes a b x y =
      ap (λ (s : Part × Told). s.1) (LeadsBy-once (part.Start, old) (AddsLine adds) (IsFaultyLine adds faulty) (IsEnded adds faulty) (Text NoEnd) line_once line_not line_cause (part.Start, old) (lines_of bytes) (x.last, a) (y.last, b) x.good y.good)

  text_not : (old : Told) (bytes : List ℕ) (new : Told) (line : ℕ) (cause : FabricCause) → IsTextFrom adds old bytes new → IsFaultFrom adds faulty old bytes line cause → ⊥
  text_not old bytes new line cause x fault =
      no_fault_of (part.Start, old) (AddsLine adds) (IsFaultyLine adds faulty) (IsEnded adds faulty) (Text NoEnd) line_once line_not line_cause bytes (x.last, new) line cause x.good x.ended fault

  text_cause : (old : Told) (bytes : List ℕ) (line other : ℕ) (b c : FabricCause) → IsFaultFrom adds faulty old bytes line b → IsFaultFrom adds faulty old bytes other c → (line ≡ other) × (b ≡ c)
  text_cause old = one_fault_of (part.Start, old) (AddsLine adds) (IsFaultyLine adds faulty) (IsEnded adds faulty) (Text NoEnd) line_once line_not line_cause

-- nodes
node_once : (old : NodesOf) (fact : Fact) (a b : NodesOf) → AddsNode old fact a → AddsNode old fact b → a ≡ b
node_once old (fact.Switch guid ports base lmc) a b x y = one_switch_added old a b guid (switch_of ports base lmc) x.2 y.2
node_once old (fact.Host guid base lmc) a b x y = one_end_added old a b guid (range_of base lmc) x.1 y.1
node_once old (fact.Link one other) a b x y = x ∙ sym y
node_once old (fact.Neighbour guid base) a b x y = x ∙ sym y
node_once old (fact.HasSwitch guid) a b x y = x ∙ sym y

module _ (range : Type 0) (refused : NodeFault → Type 0) where
  cause_not : (cause : FabricCause) → range → ((fault : NodeFault) → refused fault → ⊥) → IsNodeCause range refused cause → ⊥
  cause_not (Text fault) within none y = y
  cause_not Range within none y = y within
  cause_not (Node fault) within none y = none fault y.1
  cause_not (Link fault) within none y = y
  cause_not LidDiffers within none y = y
  cause_not UnknownSwitch within none y = y

  cause_one : ((f g : NodeFault) → refused f → refused g → f ≡ g) → (b c : FabricCause) → IsNodeCause range refused b → IsNodeCause range refused c → b ≡ c
  cause_one one Range Range x y = refl
  cause_one one (Node f) (Node g) x y = ap (λ (n : NodeFault). Node n) (one f g x.1 y.1)
  cause_one one Range (Node g) x y = absurd (x y.0)
  cause_one one (Node f) Range x y = absurd (y x.0)
  cause_one one (Text f) c x y = absurd x
  cause_one one (Link f) c x y = absurd x
  cause_one one LidDiffers c x y = absurd x
  cause_one one UnknownSwitch c x y = absurd x
  cause_one one Range (Text g) x y = absurd y
  cause_one one Range (Link g) x y = absurd y
  cause_one one Range LidDiffers x y = absurd y
  cause_one one Range UnknownSwitch x y = absurd y
  cause_one one (Node f) (Text g) x y = absurd y
  cause_one one (Node f) (Link g) x y = absurd y
  cause_one one (Node f) LidDiffers x y = absurd y
  cause_one one (Node f) UnknownSwitch x y = absurd y

node_not : (old : NodesOf) (fact : Fact) (new : NodesOf) (cause : FabricCause) → AddsNode old fact new → IsFaultyNode old fact cause → ⊥
node_not old (fact.Switch guid ports base lmc) new cause x y = cause_not _ _ cause (x.0, x.1) (λ fault. switch_or old new guid (switch_of ports base lmc) fault x.2) y
node_not old (fact.Host guid base lmc) new cause x y = cause_not _ _ cause x.0 (λ fault. end_or old new guid (range_of base lmc) fault x.1) y
node_not old (fact.Link one other) new cause x y = y
node_not old (fact.Neighbour guid base) new cause x y = y
node_not old (fact.HasSwitch guid) new cause x y = y

node_cause : (old : NodesOf) (fact : Fact) (b c : FabricCause) → IsFaultyNode old fact b → IsFaultyNode old fact c → b ≡ c
node_cause old (fact.Switch guid ports base lmc) b c x y = cause_one _ _ (one_switch_fault old guid (switch_of ports base lmc)) b c x y
node_cause old (fact.Host guid base lmc) b c x y = cause_one _ _ (one_end_fault old guid (range_of base lmc)) b c x y
node_cause old (fact.Link one other) b c x y = absurd x
node_cause old (fact.Neighbour guid base) b c x y = absurd x
node_cause old (fact.HasSwitch guid) b c x y = absurd x

-- links
module _ (old : FabricOf) (port far : ℕ) where
  links_once : (switch other : Option ℕ) (a b : FabricOf) → LinksPorts old switch port other far a → LinksPorts old switch port other far b → a ≡ b
  links_once None other a b x y = x ∙ sym y
  links_once (Some switch) None a b x y = x ∙ sym y
  links_once (Some switch) (Some other) a b x y = one_link old a b (spot_of switch port) (spot_of other far) x.1 y.1

  links_not : (switch other : Option ℕ) (new : FabricOf) (fault : LinkFault) → LinksPorts old switch port other far new → IsNoLink old switch port other far fault → ⊥
  links_not None other new fault x y = y
  links_not (Some switch) None new fault x y = y
  links_not (Some switch) (Some other) new fault x y = link_or old (spot_of switch port) (spot_of other far) fault x.0 y

  links_fault : (switch other : Option ℕ) (f g : LinkFault) → IsNoLink old switch port other far f → IsNoLink old switch port other far g → f ≡ g
  links_fault None other f g x y = absurd x
  links_fault (Some switch) None f g x y = absurd x
  links_fault (Some switch) (Some other) f g x y = one_link_fault old (spot_of switch port) (spot_of other far) f g x y

module _ (old : FabricOf) (port : ℕ) where
  cables_once : (switch end : Option ℕ) (a b : FabricOf) → CablesPort old switch port end a → CablesPort old switch port end b → a ≡ b
  cables_once None end a b x y = x ∙ sym y
  cables_once (Some switch) None a b x y = x ∙ sym y
  cables_once (Some switch) (Some end) a b x y = one_cable old a b end (spot_of switch port) x.1 y.1

  cables_not : (switch end : Option ℕ) (new : FabricOf) (fault : LinkFault) → CablesPort old switch port end new → IsNoCable old switch port end fault → ⊥
  cables_not None end new fault x y = y
  cables_not (Some switch) None new fault x y = y
  cables_not (Some switch) (Some end) new fault x y = cable_or old end (spot_of switch port) fault x.0 y

  cables_fault : (switch end : Option ℕ) (f g : LinkFault) → IsNoCable old switch port end f → IsNoCable old switch port end g → f ≡ g
  cables_fault None end f g x y = absurd x
  cables_fault (Some switch) None f g x y = absurd x
  cables_fault (Some switch) (Some end) f g x y = one_cable_fault old end (spot_of switch port) f g x y

joins_once : (old : FabricOf) (one other : PortTold) (a b : FabricOf) → Joins old one other a → Joins old one other b → a ≡ b
joins_once old (OfSwitch guid port) (OfSwitch other far) a b x y = links_once old port far (switch_with old guid) (switch_with old other) a b x y
joins_once old (OfSwitch guid port) (OfHost end) a b x y = cables_once old port (switch_with old guid) (end_with old end) a b x y
joins_once old (OfHost end) (OfSwitch guid port) a b x y = cables_once old port (switch_with old guid) (end_with old end) a b x y
joins_once old (OfHost end) (OfHost other) a b x y = x ∙ sym y

joins_not : (old : FabricOf) (one other : PortTold) (new : FabricOf) (fault : LinkFault) → Joins old one other new → CannotJoin old one other fault → ⊥
joins_not old (OfSwitch guid port) (OfSwitch other far) new fault x y = links_not old port far (switch_with old guid) (switch_with old other) new fault x y
joins_not old (OfSwitch guid port) (OfHost end) new fault x y = cables_not old port (switch_with old guid) (end_with old end) new fault x y
joins_not old (OfHost end) (OfSwitch guid port) new fault x y = cables_not old port (switch_with old guid) (end_with old end) new fault x y
joins_not old (OfHost end) (OfHost other) new fault x y = y

joins_fault : (old : FabricOf) (one other : PortTold) (f g : LinkFault) → CannotJoin old one other f → CannotJoin old one other g → f ≡ g
joins_fault old (OfSwitch guid port) (OfSwitch other far) f g x y = links_fault old port far (switch_with old guid) (switch_with old other) f g x y
joins_fault old (OfSwitch guid port) (OfHost end) f g x y = cables_fault old port (switch_with old guid) (end_with old end) f g x y
joins_fault old (OfHost end) (OfSwitch guid port) f g x y = cables_fault old port (switch_with old guid) (end_with old end) f g x y
joins_fault old (OfHost end) (OfHost other) f g x y = absurd x

link_cause_not : (refused : LinkFault → Type 0) (cause : FabricCause) → ((fault : LinkFault) → refused fault → ⊥) → IsLinkCause refused cause → ⊥
link_cause_not refused (Link fault) none y = none fault y
link_cause_not refused (Text fault) none y = y
link_cause_not refused Range none y = y
link_cause_not refused (Node fault) none y = y
link_cause_not refused LidDiffers none y = y
link_cause_not refused UnknownSwitch none y = y

link_cause_one : (refused : LinkFault → Type 0) → ((f g : LinkFault) → refused f → refused g → f ≡ g) → (b c : FabricCause) → IsLinkCause refused b → IsLinkCause refused c → b ≡ c
link_cause_one refused one (Link f) (Link g) x y = ap (λ (n : LinkFault). Link n) (one f g x y)
link_cause_one refused one (Text f) c x y = absurd x
link_cause_one refused one Range c x y = absurd x
link_cause_one refused one (Node f) c x y = absurd x
link_cause_one refused one LidDiffers c x y = absurd x
link_cause_one refused one UnknownSwitch c x y = absurd x
link_cause_one refused one (Link f) (Text g) x y = absurd y
link_cause_one refused one (Link f) Range x y = absurd y
link_cause_one refused one (Link f) (Node g) x y = absurd y
link_cause_one refused one (Link f) LidDiffers x y = absurd y
link_cause_one refused one (Link f) UnknownSwitch x y = absurd y

link_once : (old : FabricOf) (fact : Fact) (a b : FabricOf) → AddsLink old fact a → AddsLink old fact b → a ≡ b
link_once old (fact.Switch guid ports base lmc) a b x y = x ∙ sym y
link_once old (fact.Host guid base lmc) a b x y = x ∙ sym y
link_once old (fact.Link one other) a b x y = joins_once old one other a b x y
link_once old (fact.Neighbour guid base) a b x y = x.1 ∙ sym y.1
link_once old (fact.HasSwitch guid) a b x y = x.1 ∙ sym y.1

link_not : (old : FabricOf) (fact : Fact) (new : FabricOf) (cause : FabricCause) → AddsLink old fact new → IsFaultyLink old fact cause → ⊥
link_not old (fact.Switch guid ports base lmc) new cause x y = y
link_not old (fact.Host guid base lmc) new cause x y = y
link_not old (fact.Link one other) new cause x y = link_cause_not (CannotJoin old one other) cause (λ fault. joins_not old one other new fault x) y
link_not old (fact.Neighbour guid base) new cause x y = y.1 x.0
link_not old (fact.HasSwitch guid) new cause x y = x.0 y.1

link_cause : (old : FabricOf) (fact : Fact) (b c : FabricCause) → IsFaultyLink old fact b → IsFaultyLink old fact c → b ≡ c
link_cause old (fact.Switch guid ports base lmc) b c x y = absurd x
link_cause old (fact.Host guid base lmc) b c x y = absurd x
link_cause old (fact.Link one other) b c x y = link_cause_one (CannotJoin old one other) (joins_fault old one other) b c x y
link_cause old (fact.Neighbour guid base) b c x y = x.0 ∙ sym y.0
link_cause old (fact.HasSwitch guid) b c x y = x.0 ∙ sym y.0

-- the laws
same_bare : (bytes : List ℕ) (one other : FabricOf) → HasNodes bytes one → HasNodes bytes other → one ≡ other
same_bare bytes one other x y =
    let nodes = text_once AddsNode IsFaultyNode node_once node_not node_cause no_nodes bytes x.nodes y.nodes x.told y.told in
    one_bare y.nodes one other (subst (λ (n : NodesOf). IsBareOf n one) nodes x.bare) y.bare

pub one_text : (bytes : List ℕ) (fabric other : FabricOf) → IsFabricText bytes fabric → IsFabricText bytes other → fabric ≡ other
one_text bytes fabric other x y =
    let bare = same_bare bytes x.bare y.bare x.nodes y.nodes in
    text_once AddsLink IsFaultyLink link_once link_not link_cause y.bare bytes fabric other (subst (λ (b : FabricOf). IsTextFrom AddsLink b bytes fabric) bare x.links) y.links

pub no_fault : (bytes : List ℕ) (fabric : FabricOf) (line : ℕ) (cause : FabricCause) → IsFabricText bytes fabric → IsFault bytes line cause → ⊥
no_fault bytes fabric line cause x (inl fault) = text_not AddsNode IsFaultyNode node_once node_not node_cause no_nodes bytes x.nodes.nodes line cause x.nodes.told fault
no_fault bytes fabric line cause x (inr at) =
    let bare = same_bare bytes x.bare at.bare x.nodes at.nodes in
    text_not AddsLink IsFaultyLink link_once link_not link_cause at.bare bytes fabric line cause (subst (λ (b : FabricOf). IsTextFrom AddsLink b bytes fabric) bare x.links) at.fault

pub one_first_fault : (bytes : List ℕ) (line other : ℕ) (b c : FabricCause) → IsFault bytes line b → IsFault bytes other c → (line ≡ other) × (b ≡ c)
one_first_fault bytes line other b c (inl x) (inl y) = text_cause AddsNode IsFaultyNode node_once node_not node_cause no_nodes bytes line other b c x y
one_first_fault bytes line other b c (inl x) (inr at) = absurd (text_not AddsNode IsFaultyNode node_once node_not node_cause no_nodes bytes at.nodes.nodes line b at.nodes.told x)
one_first_fault bytes line other b c (inr at) (inl y) = absurd (text_not AddsNode IsFaultyNode node_once node_not node_cause no_nodes bytes at.nodes.nodes other c at.nodes.told y)
one_first_fault bytes line other b c (inr at) (inr there) =
    let bare = same_bare bytes at.bare there.bare at.nodes there.nodes in
    text_cause AddsLink IsFaultyLink link_once link_not link_cause there.bare bytes line other b c (subst (λ (f : FabricOf). IsFaultFrom AddsLink IsFaultyLink f bytes line b) bare at.fault) there.fault
