-- A switch is found by its GUID, and none past the last has a port.
use Rattle.std.proofs.Common.{◌≡◌, ◌∙◌, sym, ap, ℕ, ◌<◌, ◌≤◌, List, arith, length, get_or, slice_get, Some, None, true, false, ltb, refl}
use Rattle.std.specs.Prelude.{nat_eq}
use Rattle.std.specs.List.{position_or_len}
use Rattle.std.specs.Map.{keys_of}
use Rattle.std.proofs.lemmas.Bool.Decides.{nat_tests}
use Rattle.std.proofs.lemmas.List.{get_or-map, length-map}
use Rattle.std.proofs.lemmas.List.Kept.{AllPairs-from_increasing}
use Rattle.std.proofs.lemmas.List.Sums.{position_or_len_is}
use Rattle.std.proofs.lemmas.Option.{slice_get-get_or}
use Rattle.fabric_model.specs.declared.node.EndPort.TheVariants as kind
use Rattle.fabric_model.specs.declared.node.Switch.{Switch}
use Rattle.fabric_model.specs.Fabric.{FabricOf, IsFabric, guid_in, guid_of, switch_count, switch_with}
use Rattle.fabric_tables.specs.Cells.{CellsOf, tables_of}

guid_at : (nodes : List (ℕ × Switch)) (place : ℕ) → place < length nodes → guid_in (slice_get nodes place) ≡ get_or (keys_of nodes) place 0
guid_at nodes place low =
    let default : ℕ × Switch = (0, record { ports = 0; lids = record { base = 0; lmc = 0 } }) in
    ap guid_in (slice_get-get_or nodes place default low) ∙ sym (get_or-map (λ (n : ℕ × Switch). n.0) nodes place default 0 low)

key_before : (guid key own : ℕ) → guid ≡ own → key < own → nat_eq guid key ≡ false
key_before guid key own is less = grind (arith, nat_tests)

key_own : (guid own : ℕ) → guid ≡ own → nat_eq guid own ≡ true
key_own guid own is = grind (arith, nat_tests)

pub switch_known : (fabric : FabricOf) (switch : ℕ) → IsFabric fabric → switch < switch_count fabric → switch_with fabric (guid_of fabric (kind.Switch switch)) ≡ Some switch
switch_known fabric switch is low =
    let nodes = fabric.nodes.switches in
    let keys = keys_of nodes in
    let guid = guid_of fabric (kind.Switch switch) in
    let size = length-map nodes (λ (n : ℕ × Switch). n.0) in
    let own = guid_at nodes switch low in
    let first : position_or_len (nat_eq guid) keys ≡ switch = position_or_len_is (nat_eq guid) keys switch 0 (omega (arith, size))
    (λ k less. key_before guid (get_or keys k 0) (get_or keys switch 0) own (AllPairs-from_increasing keys is.rising k switch 0 less (omega (arith, size))))
    (λ _. key_own guid (get_or keys switch 0) own) in
    let within : ltb switch (length keys) ≡ true = (let s = size in grind (arith, nat_tests)) in
    rw (first, within) refl

-- the tables of cells
pub no_switch : (cells : CellsOf) (s l : ℕ) → cells.switches ≤ s → tables_of cells s l ≡ None
no_switch cells s l past = let t : ltb s cells.switches ≡ false = grind (arith, nat_tests) in rw t refl
