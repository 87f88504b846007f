-- A node more.
use Rattle.std.proofs.Common.{◌≡◌, ◌∙◌, ℕ, zero, suc, ◌-◌, ◌^◌, ◌<◌, Bool, List, [], ◌∷◌, ◌++◌, arith, drop, length, length-append, length-drop, take}
use Rattle.std.specs.Prelude.{All}
use Rattle.std.proofs.lemmas.List.{length-take-le}
use Rattle.std.proofs.lemmas.List.Elements.{All-append}
use Rattle.fabric_model.specs.declared.node.LidRange.{LidRange}
use Rattle.fabric_model.specs.declared.node.Switch.{Switch}
use Rattle.fabric_model.specs.Nodes.{AreNodes, IsLow, NodesOf}
use Rattle.fabric_model.proofs.OwnerLemmas.{IsFree, one_end, one_switch}

all_one : {A : Type 0} (P : A → Type 0) (x : A) → P x → All P (x ∷ [])
all_one P x is zero d low = is
all_one P x is (suc k) d low = absurd (omega arith)

pub all_more : {A : Type 0} (P : A → Type 0) (xs : List A) (x : A) → All P xs → P x → All P (xs ++ x ∷ [])
all_more P xs x all is = All-append P xs (x ∷ []) all (all_one P x is)

pub switch_more : (nodes : NodesOf) (guid : ℕ) (switch : Switch) → AreNodes nodes → length nodes.switches < 2 ^ 14 → switch.ports < 255 → IsLow switch.lids → IsFree nodes switch.lids → AreNodes (record { switches = nodes.switches ++ (guid, switch) ∷ []; ends = nodes.ends })
switch_more nodes guid switch are few ports low free =
    let size = length-append nodes.switches ((guid, switch) ∷ []) in
    record {
      few = omega arith;
      few_ends = are.few_ends;
      ports = all_more (λ n. n.1.ports < 255) nodes.switches (guid, switch) are.ports ports;
      low = all_more (λ n. IsLow n.1.lids) nodes.switches (guid, switch) are.low low;
      low_ends = are.low_ends;
      one = one_switch nodes (guid, switch) free are.one;
    }

pub end_more : (nodes : NodesOf) (guid : ℕ) (lids : LidRange) → AreNodes nodes → length nodes.ends < 2 ^ 16 - 1 → IsLow lids → IsFree nodes lids → AreNodes (record { switches = nodes.switches; ends = nodes.ends ++ (guid, lids) ∷ [] })
end_more nodes guid lids are few low free =
    let size = length-append nodes.ends ((guid, lids) ∷ []) in
    record {
      few = are.few;
      few_ends = omega arith;
      ports = are.ports;
      low = are.low;
      low_ends = all_more (λ n. IsLow n.1) nodes.ends (guid, lids) are.low_ends low;
      one = one_end nodes (guid, lids) free are.one;
    }

-- a list that is written through a slice keeps its length
pub kept_length : (len : ℕ) (new items : List Bool) → len ≡ length items → length new ≡ length items → length (take len (new ++ drop (length new) items)) ≡ length items
kept_length len new items is same =
    let whole = length-append new (drop (length new) items) in
    let rest = length-drop (length new) items in
    length-take-le len (new ++ drop (length new) items) (omega arith) ∙ is
