use Rattle.std.proofs.Common.{◌∙◌, ◌<◌, ◌*◌, sym, ap, subst, refl, ℕ, replicate, arith}
use Rattle.std.specs.Map.{keys_of}
use Rattle.std.proofs.lemmas.List.Sorted.{All-permutation, IsNonDecreasingBy-from_sort, length_permutation}
use Rattle.std.proofs.lemmas.Map.Keys.{IsStrictlyIncreasing-from_distinct}
use Rattle.fabric_model.specs.declared.node.LidRange.{LidRange}
use Rattle.fabric_model.specs.declared.node.Switch.{Switch}
use Rattle.fabric_model.specs.Fabric.{IsMost}
use Rattle.fabric_model.specs.Nodes.{IsLow, NodesOf}
use Rattle.fabric_model.proofs.NewLemmas.{is_bare, is_fabric}
use Rattle.fabric_model.proofs.OwnerLemmas.{all_owners, one_end_port, one_sorted}
use Rattle.fabric_model.proofs.fabric.bare_parts.Goals as goal

pub most_ports-requires : goal.most_ports-requires
most_ports-requires c = All-permutation (λ (n : ℕ × Switch). n.1.ports < 255) c.args.switches.now.entries c.sort_keys.new.self.entries c.sort_keys.ensures.reordered.0 c.requires.ports

pub find_owners-requires-clause-low : goal.find_owners-requires-clause-low
find_owners-requires-clause-low c = All-permutation (λ (n : ℕ × Switch). IsLow n.1.lids) c.args.switches.now.entries c.sort_keys.new.self.entries c.sort_keys.ensures.reordered.0 c.requires.low

pub find_owners-requires-clause-low_ends : goal.find_owners-requires-clause-low_ends
find_owners-requires-clause-low_ends c = All-permutation (λ (n : ℕ × LidRange). IsLow n.1) c.args.ends.now.entries c.sort_keys-2.new.self.entries c.sort_keys-2.ensures.reordered.0 c.requires.low_ends

pub returns : goal.returns
returns c =
    let before : NodesOf = record { switches = c.args.switches.now.entries; ends = c.args.ends.now.entries } in
    let nodes : NodesOf = record { switches = c.sort_keys.new.self.entries; ends = c.sort_keys-2.new.self.entries } in
    let size = length_permutation c.args.switches.now.entries c.sort_keys.new.self.entries c.sort_keys.ensures.reordered.0 in
    let size_ends = length_permutation c.args.ends.now.entries c.sort_keys-2.new.self.entries c.sort_keys-2.ensures.reordered.0 in
    let few = c.requires.few in
    let few_ends = c.requires.few_ends in
    let low = c.most_ports.ensures.low in
    let as_most = c.from-most.ensures in
    let bare = c.in_ok-sides.ensures ∙ ap (λ (n : ℕ). replicate (n * c.from-most.result) 4294967295) c.len.ensures.len in
    let fits = is_fabric c.sort_keys.new.self.entries c.sort_keys-2.new.self.entries c.from-most.result c.in_ok-sides.sides.items c.in_ok-cables.cables.items c.in_ok-owners.owners.items bare c.in_ok-cables.ensures.none
    (c.in_ok-cables.ensures.count ∙ c.len-2.ensures.len)
    (omega arith) (omega arith) (omega arith) c.in_ok-owners.ensures.count c.in_ok-owners.ensures.last
    (subst (IsMost c.sort_keys.new.self.entries) (sym as_most) c.most_ports.ensures.most)
    (IsStrictlyIncreasing-from_distinct (keys_of c.sort_keys.new.self.entries) (IsNonDecreasingBy-from_sort (λ (x : ℕ). x) (keys_of c.sort_keys.new.self.entries) c.in_ok-sort_keys.ensures.sorted) c.sort_keys.ensures.unique)
    (IsStrictlyIncreasing-from_distinct (keys_of c.sort_keys-2.new.self.entries) (IsNonDecreasingBy-from_sort (λ (x : ℕ). x) (keys_of c.sort_keys-2.new.self.entries) c.in_ok-sort_keys-2.ensures.sorted) c.sort_keys-2.ensures.unique)
    (all_owners nodes c.in_ok-owners.owners.items (c.in_ok-owners.ensures.owners nodes refl refl
    (one_end_port nodes (one_sorted before nodes c.sort_keys.ensures.reordered.0 c.sort_keys-2.ensures.reordered.0 c.requires.one) c.sort_keys.ensures.unique c.sort_keys-2.ensures.unique))) in
    is_bare c.sort_keys.new.self.entries c.sort_keys-2.new.self.entries c.from-most.result c.in_ok-sides.sides.items c.in_ok-cables.cables.items c.in_ok-owners.owners.items bare c.in_ok-cables.ensures.none
    before c.sort_keys.ensures.reordered.0 c.sort_keys-2.ensures.reordered.0 fits
