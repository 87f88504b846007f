-- A fabric that is not cabled.
use Rattle.std.proofs.Common.{◌≡◌, ◌∙◌, sym, ap, subst, refl, ℕ, ◌+◌, ◌*◌, ◌^◌, ◌<◌, ◌≤◌, ◌⊎◌, List, Option, Some, None, arith, length, get_or, replicate, inl, inr, ◌↔◌}
use Rattle.std.specs.Prelude.{max, Contains, IsPermutation}
use Rattle.std.specs.List.Sorted.{IsStrictlyIncreasing}
use Rattle.std.specs.Map.{keys_of}
use Rattle.std.proofs.lemmas.Bool.{cases_eq, cases_lt}
use Rattle.std.proofs.lemmas.List.{get_or-replicate, get_or_past, length-map, length-replicate}
use Rattle.std.proofs.lemmas.List.Elements.{Contains-get_or}
use Rattle.fabric_model.specs.declared.node.EndPort.{EndPort}
use Rattle.fabric_model.specs.declared.node.LidRange.{LidRange}
use Rattle.fabric_model.specs.declared.node.Side.TheVariants.{Bare}
use Rattle.fabric_model.specs.declared.node.Spot.{Spot}
use Rattle.fabric_model.specs.declared.node.Switch.{Switch}
use Rattle.fabric_model.specs.Fabric.{AreUncabled, FabricOf, IsBareOf, IsFabric, IsMost, LeadsWithin, owner_of, side_of}
use Rattle.fabric_model.specs.Nodes.{EndsOwned, NodesOf, Owns}
use Rattle.fabric_model.specs.Sides.{side_in, sides_in}
use Rattle.fabric_model.proofs.SideLemmas.{all_bare, bare_at}

-- a list of the same element alone
pub same_at : {A : Type 0} (x : A) (count place : ℕ) → get_or (replicate count x) place x ≡ x
same_at x count place = elim (cases_lt place count) [
  | inl low ↦ get_or-replicate count place x x low
  | inr past ↦ get_or_past (replicate count x) place x (let size = length-replicate count x in omega arith)
]

pub none_at : {A : Type 0} (count : ℕ) (xs : List (Option A)) → xs ≡ replicate count None → (place : ℕ) → get_or xs place None ≡ None
none_at {A} count xs are place = ap (λ (ys : List (Option A)). get_or ys place None) are ∙ same_at None count place

-- what is like none alone is none
pub none_alone : {A : Type 0} (IsLike : Option A → Type 0) → ((x : A) → IsLike (Some x) → ⊥) → (y : Option A) → IsLike y → y ≡ None
none_alone IsLike other None like = refl
none_alone IsLike other (Some x) like = absurd (other x like)

-- the greatest number of ports, with a switch more
abbrev pub SomeHas : List (ℕ × Switch) → ℕ → Type 0
SomeHas switches most = (most ≡ 0) ⊎ ((node : ℕ × Switch) × Contains switches node × (node.1.ports ≡ most))

pub most_more : (switches : List (ℕ × Switch)) (place most ports next : ℕ) → place < length switches → ((d : ℕ × Switch) → (get_or switches place d).1.ports ≡ ports) → next ≡ max ports most → SomeHas switches most → SomeHas switches next
most_more switches place most ports next low at is some = elim (cases_lt most ports) [
  | inl less ↦ (
      let here : next ≡ ports = grind (arith, is) in
      let d : ℕ × Switch = (0, record { ports = 0; lids = record { base = 0; lmc = 0 } }) in
      inr (get_or switches place d, Contains-get_or switches place d low, at d ∙ sym here))
  | inr no_less ↦ (
      let before : next ≡ most = grind (arith, is) in
      elim some [
        | inl none ↦ inl (before ∙ none)
        | inr (node, has, same) ↦ inr (node, has, same ∙ sym before)
      ])
]

pub most_all : (switches : List (ℕ × Switch)) (place most ports next : ℕ) → ((d : ℕ × Switch) → (get_or switches place d).1.ports ≡ ports) → ports ≤ next → most ≤ next → ((k : ℕ) (d : ℕ × Switch) → k < place → (get_or switches k d).1.ports ≤ most) → (k : ℕ) (d : ℕ × Switch) → k < place + 1 → (get_or switches k d).1.ports ≤ next
most_all switches place most ports next at here before all k d low = elim (cases_eq k place) [
  | inl same ↦ (let e = ap (λ (i : ℕ). (get_or switches i d).1.ports) same in let a = at d in omega arith)
  | inr differs ↦ (let b = all k d (omega arith) in omega arith)
]

module _ (switches : List (ℕ × Switch)) (ends : List (ℕ × LidRange)) (most : ℕ) (words : List ℕ) (cables : List (Option Spot)) (owners : List (Option EndPort)) (bare : words ≡ replicate (length switches * most) 4294967295) (uncabled : AreUncabled cables) where
  abbrev pub new_fabric : FabricOf
  new_fabric = record {
    nodes = record { switches = switches; ends = ends };
    most = most;
    sides = sides_in words;
    cables = cables;
    owners = owners;
  }

  pub is_fabric : length cables ≡ length ends → length switches ≤ 2 ^ 14 → length ends < 2 ^ 16 → most < 255 → length owners ≤ 0xC000 → EndsOwned owners → IsMost switches most → IsStrictlyIncreasing (keys_of switches) → IsStrictlyIncreasing (keys_of ends) → ((lid : ℕ) (owner : EndPort) → ((owner_of new_fabric lid ≡ Some owner) ↔ Owns new_fabric.nodes owner lid)) → IsFabric new_fabric
  is_fabric count few few_ends low lids last greatest rising rising_ends exact = record {
    count = length-map words side_in ∙ ap (λ (l : List ℕ). length l) bare ∙ length-replicate {A = ℕ} (length switches * most) 4294967295;
    few = few;
    low = low;
    within = λ place within. subst (LeadsWithin (length switches)) (sym (ap (λ (l : List ℕ). get_or (sides_in l) place Bare) bare ∙ bare_at (length switches * most) place)) tt;
    few_ends = few_ends;
    cables = count;
    cabled = λ end spot is. absurd (let none = uncabled end in cc);
    lids = lids;
    last = last;
    most = greatest;
    rising = rising;
    rising_ends = rising_ends;
    owners = exact;
  }

  pub is_bare : (nodes : NodesOf) → IsPermutation nodes.switches switches → IsPermutation nodes.ends ends → IsFabric new_fabric → IsBareOf nodes new_fabric
  is_bare nodes of_switches of_ends fits = record {
    fits = fits;
    switches = of_switches;
    ends = of_ends;
    bare = λ switch port. ap (λ (l : List ℕ). side_of (record new_fabric { sides = sides_in l }) switch port) bare ∙ all_bare (length switches * most) most switch port;
    uncabled = uncabled;
  }
