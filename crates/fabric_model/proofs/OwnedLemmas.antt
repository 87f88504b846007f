-- Which LIDs have an owner, after a node more.
use Rattle.std.proofs.Common.{◌≡◌, ◌∙◌, sym, ap, subst, ℕ, Bool, true, false, ◌+◌, ◌^◌, List, [], ◌∷◌, ◌++◌, Some, arith, length, length-append, get_or, slice_get, inl, inr, ◌⊎◌, replicate, take, drop}
use Rattle.std.proofs.lemmas.Bool.{cases_lt}
use Rattle.std.proofs.lemmas.List.{get_or_append_left, get_or_past, get_or-replicate, length-replicate, take-append-le}
use Rattle.std.proofs.Math.Seq.{get_or-append_seam, take-length}
use Rattle.std.proofs.lemmas.Option.{same_Some, slice_get-get_or, slice_get_within}
use Rattle.std.specs.Prelude.{Result, Ok, Err}
use Rattle.common_lines.specs.declared.stop.Stop.{Stop}
use Rattle.common_lines.specs.declared.stop.Stop.TheVariants.{Fault, OutOfMemory}
use Rattle.common_lines.specs.Stops.{IsStep}
use Rattle.fabric_model.specs.declared.node.EndPort.TheVariants as port
use Rattle.fabric_model.specs.declared.node.LidRange.{LidRange}
use Rattle.fabric_model.specs.declared.node.Switch.{Switch}
use Rattle.fabric_model.specs.Nodes.{AreNodes, AreOwned, HasNode, IsAmong, IsOwned, Node, NodesOf, OfEnd, OfSwitch, Owns}

-- a LID is among those of a range, or not
pub among_or : (range : LidRange) (lid : ℕ) → IsAmong range lid ⊎ (¬ IsAmong range lid)
among_or range lid = elim (cases_lt 0 range.base) [
  | inl some ↦ elim (cases_lt lid range.base) [
    | inl before ↦ inr (λ is. let f = is.first in absurd (omega arith))
    | inr first ↦ elim (cases_lt lid (range.base + 2 ^ range.lmc)) [
      | inl last ↦ inl (record { some = some; first = first; last = last })
      | inr past ↦ inr (λ is. let l = is.last in absurd (omega arith))
    ]
  ]
  | inr none ↦ inr (λ is. let s = is.some in absurd (omega arith))
]

-- what stands at a place stands there with one more at the end
kept_at : {A : Type 0} (xs : List A) (more node : A) (place : ℕ) → slice_get xs place ≡ Some node → slice_get (xs ++ more ∷ []) place ≡ Some node
kept_at {A} xs more node place is =
    let low = slice_get_within xs place node is in
    let size = length-append xs (more ∷ []) in
    slice_get-get_or (xs ++ more ∷ []) place node (omega arith) ∙ ap Some (get_or_append_left xs (more ∷ []) node place low) ∙ sym (slice_get-get_or xs place node low) ∙ is

last_at : {A : Type 0} (xs : List A) (more : A) → slice_get (xs ++ more ∷ []) (length xs) ≡ Some more
last_at {A} xs more =
    let size = length-append xs (more ∷ []) in
    slice_get-get_or (xs ++ more ∷ []) (length xs) more (omega arith) ∙ ap Some (get_or-append_seam xs more [] more)

-- what stands at a place stood there, or is the one more
was_at : {A : Type 0} (xs : List A) (more node : A) (place : ℕ) → slice_get (xs ++ more ∷ []) place ≡ Some node → (slice_get xs place ≡ Some node) ⊎ (node ≡ more)
was_at {A} xs more node place is =
    let low = slice_get_within (xs ++ more ∷ []) place node is in
    let size = length-append xs (more ∷ []) in
    elim (cases_lt place (length xs)) [
      | inl before ↦ inl (slice_get-get_or xs place node before ∙ sym (ap Some (get_or_append_left xs (more ∷ []) node place before)) ∙ sym (slice_get-get_or (xs ++ more ∷ []) place node low) ∙ is)
      | inr past ↦ (
          let here : place ≡ length xs = omega arith in
          inr (same_Some node more (sym is ∙ ap (λ (k : ℕ). slice_get (xs ++ more ∷ []) k) here ∙ last_at xs more)))
    ]

module _ (old new : List Bool) (nodes : NodesOf) (range : LidRange) (was : AreOwned nodes old)
    (inside : (lid : ℕ) → IsAmong range lid → get_or new lid false ≡ true)
    (outside : (lid : ℕ) → ¬ IsAmong range lid → get_or new lid false ≡ get_or old lid false) where
  -- a switch more
  pub owned_switch : (node : ℕ × Switch) → node.1.lids ≡ range → AreOwned (record { switches = nodes.switches ++ node ∷ []; ends = nodes.ends }) new
  owned_switch node is = record { owned = to; free = from }
    where
      more : NodesOf
      more = record { switches = nodes.switches ++ node ∷ []; ends = nodes.ends }

      keep : (lid : ℕ) → IsOwned nodes lid → IsOwned more lid
      keep lid owned = elim owned.0 as (λ owner. Owns nodes owner lid → IsOwned more lid) [
        | port.Host end ↦ λ own. (port.Host end, own)
        | port.Switch place ↦ λ own. (port.Switch place, (own.0, kept_at nodes.switches node own.0 place own.1, own.2))
      ] owned.1

      to : (lid : ℕ) → get_or new lid false ≡ true → IsOwned more lid
      to lid has = elim (among_or range lid) [
        | inl among ↦ (port.Switch (length nodes.switches), (node, last_at nodes.switches node, subst (λ (r : LidRange). IsAmong r lid) (sym is) among))
        | inr not ↦ keep lid (was.owned lid (sym (outside lid not) ∙ has))
      ]

      old_in_new : (lid : ℕ) → get_or old lid false ≡ true → get_or new lid false ≡ true
      old_in_new lid has = elim (among_or range lid) [
        | inl among ↦ inside lid among
        | inr not ↦ outside lid not ∙ has
      ]

      from : (lid : ℕ) → IsOwned more lid → get_or new lid false ≡ true
      from lid owned = elim owned.0 as (λ owner. Owns more owner lid → get_or new lid false ≡ true) [
        | port.Host end ↦ λ own. old_in_new lid (was.free lid (port.Host end, own))
        | port.Switch place ↦ λ own. elim (was_at nodes.switches node own.0 place own.1) [
          | inl there ↦ old_in_new lid (was.free lid (port.Switch place, (own.0, there, own.2)))
          | inr same ↦ inside lid (subst (λ (r : LidRange). IsAmong r lid) (ap (λ (n : ℕ × Switch). n.1.lids) same ∙ is) own.2)
        ]
      ] owned.1

  -- an end port more
  pub owned_end : (node : ℕ × LidRange) → node.1 ≡ range → AreOwned (record { switches = nodes.switches; ends = nodes.ends ++ node ∷ [] }) new
  owned_end node is = record { owned = to; free = from }
    where
      more : NodesOf
      more = record { switches = nodes.switches; ends = nodes.ends ++ node ∷ [] }

      keep : (lid : ℕ) → IsOwned nodes lid → IsOwned more lid
      keep lid owned = elim owned.0 as (λ owner. Owns nodes owner lid → IsOwned more lid) [
        | port.Host end ↦ λ own. (port.Host end, (own.0, kept_at nodes.ends node own.0 end own.1, own.2))
        | port.Switch place ↦ λ own. (port.Switch place, own)
      ] owned.1

      to : (lid : ℕ) → get_or new lid false ≡ true → IsOwned more lid
      to lid has = elim (among_or range lid) [
        | inl among ↦ (port.Host (length nodes.ends), (node, last_at nodes.ends node, subst (λ (r : LidRange). IsAmong r lid) (sym is) among))
        | inr not ↦ keep lid (was.owned lid (sym (outside lid not) ∙ has))
      ]

      old_in_new : (lid : ℕ) → get_or old lid false ≡ true → get_or new lid false ≡ true
      old_in_new lid has = elim (among_or range lid) [
        | inl among ↦ inside lid among
        | inr not ↦ outside lid not ∙ has
      ]

      from : (lid : ℕ) → IsOwned more lid → get_or new lid false ≡ true
      from lid owned = elim owned.0 as (λ owner. Owns more owner lid → get_or new lid false ≡ true) [
        | port.Host end ↦ λ own. elim (was_at nodes.ends node own.0 end own.1) [
          | inl there ↦ old_in_new lid (was.free lid (port.Host end, (own.0, there, own.2)))
          | inr same ↦ inside lid (subst (λ (r : LidRange). IsAmong r lid) (ap (λ (n : ℕ × LidRange). n.1) same ∙ is) own.2)
        ]
        | port.Switch place ↦ λ own. old_in_new lid (was.free lid (port.Switch place, own))
      ] owned.1

-- no LID has an owner where there are no nodes
none_flagged : (count : ℕ) (flags : List Bool) → flags ≡ replicate count false → (lid : ℕ) → get_or flags lid false ≡ false
none_flagged count flags is lid = elim (cases_lt lid count) [
  | inl low ↦ ap (λ (f : List Bool). get_or f lid false) is ∙ get_or-replicate count lid false false low
  | inr past ↦ ap (λ (f : List Bool). get_or f lid false) is ∙ get_or_past (replicate count false) lid false (let size = length-replicate {A = Bool} count false in omega arith)
]

no_node : (switches : List (ℕ × Switch)) (ends : List (ℕ × LidRange)) → switches ≡ [] → ends ≡ [] → (node : Node) → HasNode (record { switches = switches; ends = ends }) node → ⊥
no_node switches ends no_switches no_ends (OfSwitch node) (place, low, is) = let e = ap (λ (s : List (ℕ × Switch)). length s) no_switches in absurd (omega arith)
no_node switches ends no_switches no_ends (OfEnd node) (place, low, is) = let e = ap (λ (s : List (ℕ × LidRange)). length s) no_ends in absurd (omega arith)

pub owned_none : (count : ℕ) (switches : List (ℕ × Switch)) (ends : List (ℕ × LidRange)) (flags : List Bool) → switches ≡ [] → ends ≡ [] → flags ≡ replicate count false → AreNodes (record { switches = switches; ends = ends }) × (length flags ≡ count) × AreOwned (record { switches = switches; ends = ends }) flags
owned_none count switches ends flags no_switches no_ends is = (
  (record {
    few = let e = ap (λ (s : List (ℕ × Switch)). length s) no_switches in omega arith;
    few_ends = let e = ap (λ (s : List (ℕ × LidRange)). length s) no_ends in omega arith;
    ports = λ k d low. let e = ap (λ (s : List (ℕ × Switch)). length s) no_switches in absurd (omega arith);
    low = λ k d low. let e = ap (λ (s : List (ℕ × Switch)). length s) no_switches in absurd (omega arith);
    low_ends = λ k d low. let e = ap (λ (s : List (ℕ × LidRange)). length s) no_ends in absurd (omega arith);
    one = λ lid one other has. absurd (no_node switches ends no_switches no_ends one has.0);
  }),
  ap (λ (f : List Bool). length f) is ∙ length-replicate {A = Bool} count false,
  (record {
    owned = λ lid has. let e : false ≡ true = sym (none_flagged count flags is lid) ∙ has in absurd (cc);
    free = λ lid owned. elim owned.0 as (λ owner. Owns (record { switches = switches; ends = ends }) owner lid → get_or flags lid false ≡ true) [
      | port.Host end ↦ λ own. let low = slice_get_within ends end own.0 own.1 in let e = ap (λ (s : List (ℕ × LidRange)). length s) no_ends in absurd (omega arith)
      | port.Switch place ↦ λ own. let low = slice_get_within switches place own.0 own.1 in let e = ap (λ (s : List (ℕ × Switch)). length s) no_switches in absurd (omega arith)
    ] owned.1;
  }),
)

-- a list that is written through a slice of all of it is what was written
pub all_written : (len : ℕ) (new items : List Bool) → len ≡ length items → length new ≡ length items → take len (new ++ drop (length new) items) ≡ new
all_written len new items is same =
    take-append-le len new (drop (length new) items) (omega arith) ∙ ap (λ (k : ℕ). take k new) (is ∙ sym same) ∙ take-length new

-- a step that nothing refuses says what follows from it
pub step_more : {Done Cause A B : Type 0} (result : Result Done (Stop Cause)) (refused : Cause → Type 0) → (A → B) → IsStep result A (λ _. ⊥) → IsStep result B refused
step_more (Ok done) refused more is = more is
step_more (Err (Fault cause)) refused more is = absurd is
step_more (Err OutOfMemory) refused more is = tt
