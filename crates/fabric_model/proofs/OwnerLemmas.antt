-- Who owns which LID.
use Rattle.std.proofs.Common.{◌≡◌, ◌≢◌, ◌∙◌, sym, ap, subst, refl, ℕ, ◌+◌, ◌-◌, ◌^◌, ◌<◌, ◌≤◌, eqb, List, [], ◌∷◌, ◌++◌, Option, Some, None, arith, length, length-append, get_or, set, take, slice_get, inl, inr, ◌⊎◌, ◌↔◌}
use Rattle.std.specs.Prelude.{Contains, IsPermutation}
use Rattle.std.specs.List.{IsDistinct}
use Rattle.std.specs.Map.{keys_of}
use Rattle.std.proofs.Math.Seq.{get_or-append_seam}
use Rattle.std.proofs.lemmas.Bool.{cases_eq, cases_lt}
use Rattle.std.proofs.lemmas.Bool.Decides.{nat_tests}
use Rattle.std.proofs.lemmas.List.{get_or-map, get_or-set_other, get_or-set_same, get_or-take, get_or_past, length-map, length-take-le}
use Rattle.std.proofs.lemmas.List.Elements.{Contains-append_left, Contains-push_cases}
use Rattle.std.proofs.lemmas.List.Sorted.{Contains-permutation, IsPermutation-sym}
use Rattle.std.proofs.lemmas.Map.Keys.{apart_from_distinct}
use Rattle.std.proofs.lemmas.Option.{get_or_from_slice_get, slice_get-get_or, slice_get_within}
use Rattle.fabric_model.specs.declared.node.EndPort.{EndPort}
use Rattle.fabric_model.specs.declared.node.EndPort.TheVariants as kind
use Rattle.fabric_model.specs.declared.node.LidRange.{LidRange}
use Rattle.fabric_model.specs.declared.node.Switch.{Switch}
use Rattle.fabric_model.specs.Nodes.{AreOwners, EndsOwned, HasNode, HasOneEndPort, HasOneOwner, IsAmong, IsTaken, Node, NodesOf, OfEnd, OfSwitch, Owns, OwnsFirst, OwnsLid, PutsOwner, lids_of}
use Rattle.fabric_model.proofs.OwnedLemmas.{among_or}

-- no node owns a LID of a range
abbrev pub IsFree : NodesOf → LidRange → Type 0
IsFree nodes range = (lid : ℕ) (node : Node) → IsAmong range lid → OwnsLid nodes node lid → ⊥

-- a node that is there has a place
place_of : {A : Type 0} (es : List A) (x : A) → Contains es x → (place : ℕ) × (slice_get es place ≡ Some x)
place_of es x (place, low, is) = (place, slice_get-get_or es place x low ∙ ap Some is)

pub free_of : (nodes : NodesOf) (range : LidRange) → ¬ IsTaken nodes range → IsFree nodes range
free_of nodes range free lid (OfSwitch node) among (has, owns) = let at = place_of nodes.switches node has in free (lid, among, (kind.Switch at.0, (node, at.1, owns)))
free_of nodes range free lid (OfEnd node) among (has, owns) = let at = place_of nodes.ends node has in free (lid, among, (kind.Host at.0, (node, at.1, owns)))

contains_at : {A : Type 0} (es : List A) (place : ℕ) (x : A) → slice_get es place ≡ Some x → Contains es x
contains_at es place x is = (place, slice_get_within es place x is, get_or_from_slice_get es place x x is)

key_at : {A : Type 0} (es : List (ℕ × A)) (place : ℕ) (x : ℕ × A) → slice_get es place ≡ Some x → get_or (keys_of es) place x.0 ≡ x.0
key_at {A} es place x is = get_or-map (λ (n : ℕ × A). n.0) es place x x.0 (slice_get_within es place x is) ∙ ap (λ (n : ℕ × A). n.0) (get_or_from_slice_get es place x x is)

-- where keys are distinct a node stands at one place
same_place : {A : Type 0} (es : List (ℕ × A)) (one other : ℕ) (x : ℕ × A) → IsDistinct eqb (keys_of es) → slice_get es one ≡ Some x → slice_get es other ≡ Some x → one ≡ other
same_place {A} es one other x distinct is_one is_other =
    let size = length-map es (λ (n : ℕ × A). n.0) in
    let low_one = slice_get_within es one x is_one in
    let low_other = slice_get_within es other x is_other in
    let key_one = key_at es one x is_one in
    let key_other = key_at es other x is_other in
    elim (cases_lt one other) [
      | inl less ↦ absurd (let apart = apart_from_distinct eqb (keys_of es) one other x.0 distinct less (omega arith) in grind (arith, nat_tests))
      | inr no_less ↦ elim (cases_lt other one) [
        | inl less ↦ absurd (let apart = apart_from_distinct eqb (keys_of es) other one x.0 distinct less (omega arith) in grind (arith, nat_tests))
        | inr no_more ↦ omega arith
      ]
    ]

-- so no LID has two end ports
pub one_end_port : (nodes : NodesOf) → HasOneOwner nodes → IsDistinct eqb (keys_of nodes.switches) → IsDistinct eqb (keys_of nodes.ends) → HasOneEndPort nodes
one_end_port nodes one of_switches of_ends lid (kind.Switch a) (kind.Switch b) (n, at, among) (m, other_at, other_among) =
    let same = one lid (OfSwitch n) (OfSwitch m) (contains_at nodes.switches a n at, among) (contains_at nodes.switches b m other_at, other_among) in
    let e : n ≡ m = cc in
    ap kind.Switch (same_place nodes.switches a b m of_switches (at ∙ ap (λ (x : ℕ × Switch). Some x) e) other_at)
one_end_port nodes one of_switches of_ends lid (kind.Switch a) (kind.Host b) (n, at, among) (m, other_at, other_among) = absurd (let same = one lid (OfSwitch n) (OfEnd m) (contains_at nodes.switches a n at, among) (contains_at nodes.ends b m other_at, other_among) in cc)
one_end_port nodes one of_switches of_ends lid (kind.Host a) (kind.Switch b) (n, at, among) (m, other_at, other_among) = absurd (let same = one lid (OfEnd n) (OfSwitch m) (contains_at nodes.ends a n at, among) (contains_at nodes.switches b m other_at, other_among) in cc)
one_end_port nodes one of_switches of_ends lid (kind.Host a) (kind.Host b) (n, at, among) (m, other_at, other_among) =
    let same = one lid (OfEnd n) (OfEnd m) (contains_at nodes.ends a n at, among) (contains_at nodes.ends b m other_at, other_among) in
    let e : n ≡ m = cc in
    ap kind.Host (same_place nodes.ends a b m of_ends (at ∙ ap (λ (x : ℕ × LidRange). Some x) e) other_at)

-- the same nodes in another order
has_back : (old new : NodesOf) → IsPermutation old.switches new.switches → IsPermutation old.ends new.ends → (node : Node) → HasNode new node → HasNode old node
has_back old new of_switches of_ends (OfSwitch node) has = Contains-permutation new.switches old.switches node (IsPermutation-sym old.switches new.switches of_switches) has
has_back old new of_switches of_ends (OfEnd node) has = Contains-permutation new.ends old.ends node (IsPermutation-sym old.ends new.ends of_ends) has

pub one_sorted : (old new : NodesOf) → IsPermutation old.switches new.switches → IsPermutation old.ends new.ends → HasOneOwner old → HasOneOwner new
one_sorted old new of_switches of_ends one lid a b has other = one lid a b (has_back old new of_switches of_ends a has.0, has.1) (has_back old new of_switches of_ends b other.0, other.1)

-- a switch more
module _ (nodes : NodesOf) (x : ℕ × Switch) where
  abbrev with_switch : NodesOf
  with_switch = record { switches = nodes.switches ++ x ∷ []; ends = nodes.ends }

  switch_or : (node : Node) → HasNode with_switch node → HasNode nodes node ⊎ (node ≡ OfSwitch x)
  switch_or (OfSwitch node) has = elim (Contains-push_cases nodes.switches x node has) [
    | inl old ↦ inl old
    | inr same ↦ inr (ap OfSwitch (sym same))
  ]
  switch_or (OfEnd node) has = inl has

  switch_in : (node : Node) → HasNode nodes node → HasNode with_switch node
  switch_in (OfSwitch node) has = Contains-append_left nodes.switches (x ∷ []) node has
  switch_in (OfEnd node) has = has

  switch_is : HasNode with_switch (OfSwitch x)
  switch_is = (length nodes.switches, (let l = length-append nodes.switches (x ∷ []) in omega arith), get_or-append_seam nodes.switches x [] x)

-- an end port more
module _ (nodes : NodesOf) (x : ℕ × LidRange) where
  abbrev with_end : NodesOf
  with_end = record { switches = nodes.switches; ends = nodes.ends ++ x ∷ [] }

  end_or : (node : Node) → HasNode with_end node → HasNode nodes node ⊎ (node ≡ OfEnd x)
  end_or (OfSwitch node) has = inl has
  end_or (OfEnd node) has = elim (Contains-push_cases nodes.ends x node has) [
    | inl old ↦ inl old
    | inr same ↦ inr (ap OfEnd (sym same))
  ]

  end_in : (node : Node) → HasNode nodes node → HasNode with_end node
  end_in (OfSwitch node) has = has
  end_in (OfEnd node) has = Contains-append_left nodes.ends (x ∷ []) node has

  end_is : HasNode with_end (OfEnd x)
  end_is = (length nodes.ends, (let l = length-append nodes.ends (x ∷ []) in omega arith), get_or-append_seam nodes.ends x [] x)

-- a node more, of which no LID has an owner
module _ (nodes new : NodesOf) (x : Node) (either : (node : Node) → HasNode new node → HasNode nodes node ⊎ (node ≡ x)) (still : (node : Node) → HasNode nodes node → HasNode new node) (is : HasNode new x) where
  one_of_new : IsFree nodes (lids_of x) → HasOneOwner nodes → HasOneOwner new
  one_of_new free one lid a b has other = elim (either a has.0) [
    | inl old ↦ elim (either b other.0) [
      | inl other_old ↦ one lid a b (old, has.1) (other_old, other.1)
      | inr other_new ↦ absurd (free lid a (subst (λ (n : Node). IsAmong (lids_of n) lid) other_new other.1) (old, has.1))
    ]
    | inr new_node ↦ elim (either b other.0) [
      | inl other_old ↦ absurd (free lid b (subst (λ (n : Node). IsAmong (lids_of n) lid) new_node has.1) (other_old, other.1))
      | inr other_new ↦ new_node ∙ sym other_new
    ]
  ]

pub one_switch : (nodes : NodesOf) (x : ℕ × Switch) → IsFree nodes x.1.lids → HasOneOwner nodes → HasOneOwner (record { switches = nodes.switches ++ x ∷ []; ends = nodes.ends })
one_switch nodes x = one_of_new nodes (with_switch nodes x) (OfSwitch x) (switch_or nodes x) (switch_in nodes x) (switch_is nodes x)

pub one_end : (nodes : NodesOf) (x : ℕ × LidRange) → IsFree nodes x.1 → HasOneOwner nodes → HasOneOwner (record { switches = nodes.switches; ends = nodes.ends ++ x ∷ [] })
one_end nodes x = one_of_new nodes (with_end nodes x) (OfEnd x) (end_or nodes x) (end_in nodes x) (end_is nodes x)

-- The owners of the first switches, and then of the first ends.
some_is : (a b : EndPort) → Some a ≡ Some b → a ≡ b
some_is a b e = cc

module _ (nodes : NodesOf) (one : HasOneEndPort nodes) (old new : List (Option EndPort)) (range : LidRange) where
  switch_owns : (default : ℕ × Switch) (place lid : ℕ) → place < length nodes.switches → (get_or nodes.switches place default).1.lids ≡ range → IsAmong range lid → Owns nodes (kind.Switch place) lid
  switch_owns default place lid low is among = (get_or nodes.switches place default, slice_get-get_or nodes.switches place default low, subst (λ (r : LidRange). IsAmong r lid) (sym is) among)

  end_owns : (default : ℕ × LidRange) (place lid : ℕ) → place < length nodes.ends → (get_or nodes.ends place default).1 ≡ range → IsAmong range lid → Owns nodes (kind.Host place) lid
  end_owns default place lid low is among = (get_or nodes.ends place default, slice_get-get_or nodes.ends place default low, subst (λ (r : LidRange). IsAmong r lid) (sym is) among)

  owns_all : (switches ends : ℕ) (owner : EndPort) (lid : ℕ) → OwnsFirst nodes switches ends owner lid → Owns nodes owner lid
  owns_all switches ends (kind.Host end) lid owns = owns.1
  owns_all switches ends (kind.Switch switch) lid owns = owns.1

  -- who owns a LID that is not of the range is one of those before
  among_of : (default : ℕ × Switch) (place lid : ℕ) → (get_or nodes.switches place default).1.lids ≡ range → Owns nodes (kind.Switch place) lid → IsAmong range lid
  among_of default place lid is (node, at, among) = subst (λ (r : LidRange). IsAmong r lid) (sym (ap (λ (n : ℕ × Switch). n.1.lids) (get_or_from_slice_get nodes.switches place node default at)) ∙ is) among

  among_of_end : (default : ℕ × LidRange) (place lid : ℕ) → (get_or nodes.ends place default).1 ≡ range → Owns nodes (kind.Host place) lid → IsAmong range lid
  among_of_end default place lid is (node, at, among) = subst (λ (r : LidRange). IsAmong r lid) (sym (ap (λ (n : ℕ × LidRange). n.1) (get_or_from_slice_get nodes.ends place node default at)) ∙ is) among

  wider : (switches ends more_switches more_ends : ℕ) → switches ≤ more_switches → ends ≤ more_ends → (owner : EndPort) (lid : ℕ) → OwnsFirst nodes switches ends owner lid → OwnsFirst nodes more_switches more_ends owner lid
  wider switches ends more_switches more_ends a b (kind.Host end) lid owns = (let low = owns.0 in omega arith, owns.1)
  wider switches ends more_switches more_ends a b (kind.Switch switch) lid owns = (let low = owns.0 in omega arith, owns.1)

  module _ (default : ℕ × Switch) (place : ℕ) (low : place < length nodes.switches) (is : (get_or nodes.switches place default).1.lids ≡ range) (puts : PutsOwner old new range (kind.Switch place)) (are : AreOwners nodes place 0 old) where
    fewer : (owner : EndPort) (lid : ℕ) → (IsAmong range lid → ⊥) → OwnsFirst nodes (place + 1) 0 owner lid → OwnsFirst nodes place 0 owner lid
    fewer (kind.Host end) lid not owns = owns
    fewer (kind.Switch switch) lid not owns = elim (cases_eq switch place) [
      | inl same ↦ absurd (not (among_of default place lid is (subst (λ (s : ℕ). Owns nodes (kind.Switch s) lid) same owns.1)))
      | inr other ↦ (let l = owns.0 in omega arith, owns.1)
    ]

    pub switch_owners : AreOwners nodes (place + 1) 0 new
    switch_owners lid owner = elim (among_or range lid) [
      | inl among ↦ (
          let here = switch_owns default place lid low is among in (
            λ told. subst (λ (o : EndPort). OwnsFirst nodes (place + 1) 0 o lid) (some_is (kind.Switch place) owner (sym (puts.among lid among) ∙ told)) (omega arith, here),
            λ owns. puts.among lid among ∙ ap (λ (o : EndPort). Some o) (one lid (kind.Switch place) owner here (owns_all (place + 1) 0 owner lid owns)),
          ))
      | inr not ↦ (
        λ told. wider place 0 (place + 1) 0 (omega arith) (omega arith) owner lid ((are lid owner).0 (sym (puts.others lid not) ∙ told)),
        λ owns. puts.others lid not ∙ (are lid owner).1 (fewer owner lid not owns),
      )
    ]

  module _ (default : ℕ × LidRange) (place : ℕ) (low : place < length nodes.ends) (is : (get_or nodes.ends place default).1 ≡ range) (puts : PutsOwner old new range (kind.Host place)) (are : AreOwners nodes (length nodes.switches) place old) where
    fewer_ends : (owner : EndPort) (lid : ℕ) → (IsAmong range lid → ⊥) → OwnsFirst nodes (length nodes.switches) (place + 1) owner lid → OwnsFirst nodes (length nodes.switches) place owner lid
    fewer_ends (kind.Switch switch) lid not owns = owns
    fewer_ends (kind.Host end) lid not owns = elim (cases_eq end place) [
      | inl same ↦ absurd (not (among_of_end default place lid is (subst (λ (s : ℕ). Owns nodes (kind.Host s) lid) same owns.1)))
      | inr other ↦ (let l = owns.0 in omega arith, owns.1)
    ]

    pub end_owners : AreOwners nodes (length nodes.switches) (place + 1) new
    end_owners lid owner = elim (among_or range lid) [
      | inl among ↦ (
          let here = end_owns default place lid low is among in (
            λ told. subst (λ (o : EndPort). OwnsFirst nodes (length nodes.switches) (place + 1) o lid) (some_is (kind.Host place) owner (sym (puts.among lid among) ∙ told)) (omega arith, here),
            λ owns. puts.among lid among ∙ ap (λ (o : EndPort). Some o) (one lid (kind.Host place) owner here (owns_all (length nodes.switches) (place + 1) owner lid owns)),
          ))
      | inr not ↦ (
        λ told. wider (length nodes.switches) place (length nodes.switches) (place + 1) (omega arith) (omega arith) owner lid ((are lid owner).0 (sym (puts.others lid not) ∙ told)),
        λ owns. puts.others lid not ∙ (are lid owner).1 (fewer_ends owner lid not owns),
      )
    ]

-- no one owns at first
pub no_owners : (nodes : NodesOf) (owners : List (Option EndPort)) → ((lid : ℕ) → get_or owners lid None ≡ None) → AreOwners nodes 0 0 owners
no_owners nodes owners none lid owner = (λ told. absurd (let e = none lid in cc), go owner)
  where
    go : (owner : EndPort) → OwnsFirst nodes 0 0 owner lid → get_or owners lid None ≡ Some owner
    go (kind.Host end) owns = absurd (let low = owns.0 in omega arith)
    go (kind.Switch switch) owns = absurd (let low = owns.0 in omega arith)

-- all own at last
pub all_owners : (nodes : NodesOf) (owners : List (Option EndPort)) → AreOwners nodes (length nodes.switches) (length nodes.ends) owners → (lid : ℕ) (owner : EndPort) → ((get_or owners lid None ≡ Some owner) ↔ Owns nodes owner lid)
all_owners nodes owners are lid owner = (λ told. down owner ((are lid owner).0 told), λ owns. (are lid owner).1 (up owner owns))
  where
    down : (owner : EndPort) → OwnsFirst nodes (length nodes.switches) (length nodes.ends) owner lid → Owns nodes owner lid
    down (kind.Host end) owns = owns.1
    down (kind.Switch switch) owns = owns.1

    up : (owner : EndPort) → Owns nodes owner lid → OwnsFirst nodes (length nodes.switches) (length nodes.ends) owner lid
    up (kind.Host end) owns = (slice_get_within nodes.ends end owns.0 owns.1, owns)
    up (kind.Switch switch) owns = (slice_get_within nodes.switches switch owns.0 owns.1, owns)

-- the same owners in a list that is as long as it has to be
pub same_owners : (nodes : NodesOf) (switches ends : ℕ) (old new : List (Option EndPort)) → ((lid : ℕ) → get_or new lid None ≡ get_or old lid None) → AreOwners nodes switches ends old → AreOwners nodes switches ends new
same_owners nodes switches ends old new same are lid owner = (λ told. (are lid owner).0 (sym (same lid) ∙ told), λ owns. same lid ∙ (are lid owner).1 owns)

pub cut_same : (end : ℕ) (owners : List (Option EndPort)) → end ≤ length owners → ((lid : ℕ) → end ≤ lid → get_or owners lid None ≡ None) → (lid : ℕ) → get_or (take end owners) lid None ≡ get_or owners lid None
cut_same end owners low none lid = elim (cases_lt lid end) [
  | inl within ↦ get_or-take end owners lid None within
  | inr past ↦ (let size = length-take-le end owners low in get_or_past (take end owners) lid None (omega arith)) ∙ sym (none lid past)
]

-- what is cut ends with a LID that has an owner
pub cut_last : (end : ℕ) (owners : List (Option EndPort)) → end ≤ length owners → (0 < end → get_or owners (end - 1) None ≢ None) → EndsOwned (take end owners)
cut_last end owners low last some none =
    let size = length-take-le end owners low in
    last (omega arith) (sym (get_or-take end owners (end - 1) None (omega arith)) ∙ ap (λ (k : ℕ). get_or (take end owners) (k - 1) None) (sym size) ∙ none)

-- LIDs of a range, one after another
among_is : (range : LidRange) (lid : ℕ) → 0 < range.base → range.base ≤ lid → lid < range.base + 2 ^ range.lmc → IsAmong range lid
among_is range lid some first last = record { some = some; first = first; last = last }

-- the owners of those so far
pub record PutsBelow (old new : List (Option EndPort)) (first end : ℕ) (owner : EndPort) : Type 0 where
  pub among : (other : ℕ) → first ≤ other → other < end → get_or new other None ≡ Some owner
  pub others : (other : ℕ) → (first ≤ other → other < end → ⊥) → get_or new other None ≡ get_or old other None

pub puts_none : (old : List (Option EndPort)) (first : ℕ) (owner : EndPort) → PutsBelow old old first first owner
puts_none old first owner = record { among = λ other above below. absurd (omega arith); others = λ other not. refl }

pub puts_more : (old now : List (Option EndPort)) (first lid : ℕ) (owner : EndPort) → first ≤ lid → lid < length now → PutsBelow old now first lid owner → PutsBelow old (set now lid (Some owner)) first (lid + 1) owner
puts_more old now first lid owner above low are = record {
  among = λ other start end. elim (cases_eq other lid) [
    | inl same ↦ ap (λ (k : ℕ). get_or (set now lid (Some owner)) k None) same ∙ get_or-set_same now lid (Some owner) None low
    | inr differs ↦ get_or-set_other now lid other (Some owner) None differs ∙ are.among other start (omega arith)
  ];
  others = λ other not. get_or-set_other now lid other (Some owner) None (λ same. not (omega arith) (omega arith)) ∙ are.others other (λ start end. not start (omega arith));
}

pub puts_all : (range : LidRange) (old new : List (Option EndPort)) (end : ℕ) (owner : EndPort) → 0 < range.base → end ≡ range.base + 2 ^ range.lmc → PutsBelow old new range.base end owner → PutsOwner old new range owner
puts_all range old new end owner some is are = record {
  among = λ lid among. are.among lid among.first (let last = among.last in omega arith);
  others = λ lid not. are.others lid (λ first last. not (among_is range lid some first (omega arith)));
}
