-- The ports of the tree links to children.
use Rattle.std.proofs.Common.{◌≡◌, ◌∙◌, sym, ap, subst, ℕ, ◌+◌, ◌<◌, ◌≤◌, List, [], ◌∷◌, ◌++◌, Some, None, arith, length, length-append, All, Contains, inl, inr}
use Rattle.std.proofs.lemmas.Bool.{cases_eq}
use Rattle.std.proofs.lemmas.Option.{same_Some}
use Rattle.std.proofs.lemmas.List.{get_or_append_left, get_or_push}
use Rattle.std.proofs.lemmas.List.Elements.{All-nil, All-push, All-weaker, Contains-append_left, Contains-push}
use Rattle.std.proofs.lemmas.List.Quantifiers.{all_pairs_push}
use Rattle.an_base.specs.Values.{EntryOf}
use Rattle.an_base.specs.Rows.{ExitsRise}
use Rattle.topo_graph.specs.Topology.{far_of, IsGraph}
use Rattle.topo_graph.proofs.FarLemmas.{far_back}
use Rattle.broadcast_flood.specs.Tree.{parent_port, IsDown, AreChildPorts}
use Rattle.broadcast_flood.specs.Kept.{AreChildren}
use Rattle.broadcast_flood.proofs.TreeLemmas.{down_far}

-- a port leads to a child where its far side is the child's parent link
pub is_child : (es : List EntryOf) (x p z q : ℕ) → IsGraph es → far_of es x p ≡ Some (z, q) → parent_port es z ≡ q → IsDown es x p
is_child es x p z q graph e at = (z, subst (λ (r : ℕ). far_of es z r ≡ Some (x, p)) (sym at) (far_back es x p z q graph e))

pub child_is : (es : List EntryOf) (x p z q : ℕ) → IsGraph es → far_of es x p ≡ Some (z, q) → IsDown es x p → parent_port es z ≡ q
child_is es x p z q graph e (child, down) =
    let both = same_Some (child, parent_port es child) (z, q) (sym (down_far es x p child graph down) ∙ e) in
    let is : child ≡ z = ap (λ (f : ℕ × ℕ). f.0) both in
    sym (ap (parent_port es) is) ∙ ap (λ (f : ℕ × ℕ). f.1) both

-- where a port leads nowhere there is none
pub no_child : (es : List EntryOf) (x p : ℕ) → IsGraph es → far_of es x p ≡ None → IsDown es x p → ⊥
no_child es x p graph none (child, down) = absurd (let far = down_far es x p child graph down in cc)

-- and it is a port
pub child_port : (es : List EntryOf) (x p : ℕ) → IsGraph es → IsDown es x p → (1 ≤ p) × (p ≤ 12)
child_port es x p graph (child, down) =
    let within = graph.within x p (child, parent_port es child) (down_far es x p child graph down) in
    (within.port_least, within.port_most)

-- those below end, rising
pub record ArePortsBelow (es : List EntryOf) (x end : ℕ) (ports : List ℕ) : Type 0 where
  pub rising : ExitsRise ports
  pub each : All (IsDown es x) ports
  pub below : All (λ p. p < end) ports
  pub whole : (p : ℕ) → p < end → IsDown es x p → Contains ports p
  pub few : length ports < end

pub no_ports : (es : List EntryOf) (x : ℕ) → IsGraph es → ArePortsBelow es x 1 []
no_ports es x graph = record {
  rising = λ i j d lt low. absurd (omega arith);
  each = All-nil (IsDown es x);
  below = All-nil (λ p. p < 1);
  whole = λ p low down. absurd (let l = (child_port es x p graph down).0 in omega arith);
  few = omega arith;
}

-- a port more that leads to a child
pub one_port : (es : List EntryOf) (x port : ℕ) (ports : List ℕ) → ArePortsBelow es x port ports → IsDown es x port → ArePortsBelow es x (port + 1) (ports ++ port ∷ [])
one_port es x port ports so_far down = record {
  rising = all_pairs_push (λ p q. p < q) ports port so_far.rising so_far.below;
  each = All-push (IsDown es x) ports port so_far.each down;
  below = All-push (λ p. p < port + 1) ports port (All-weaker (λ p. p < port) (λ p. p < port + 1) (λ p low. omega arith) ports so_far.below) (omega arith);
  whole = λ p low is. elim (cases_eq p port) [
    | inl same ↦ subst (λ (n : ℕ). Contains (ports ++ port ∷ []) n) (sym same) (Contains-push ports port)
    | inr other ↦ Contains-append_left ports (port ∷ []) p (so_far.whole p (omega arith) is)
  ];
  few = let h = so_far.few in omega (arith, length-append ports (port ∷ []));
}

-- and one that does not
pub other_port : (es : List EntryOf) (x port : ℕ) (ports : List ℕ) → ArePortsBelow es x port ports → (IsDown es x port → ⊥) → ArePortsBelow es x (port + 1) ports
other_port es x port ports so_far none = record {
  rising = so_far.rising;
  each = so_far.each;
  below = All-weaker (λ p. p < port) (λ p. p < port + 1) (λ p low. omega arith) ports so_far.below;
  whole = λ p low is. elim (cases_eq p port) [
    | inl same ↦ absurd (none (subst (λ (n : ℕ). IsDown es x n) same is))
    | inr other ↦ so_far.whole p (omega arith) is
  ];
  few = let h = so_far.few in omega arith;
}

-- after the last port all are there
pub all_ports : (es : List EntryOf) (x : ℕ) (ports : List ℕ) → IsGraph es → ArePortsBelow es x 13 ports → AreChildPorts es x ports
all_ports es x ports graph so_far = record {
  rising = so_far.rising;
  each = so_far.each;
  whole = λ p down. so_far.whole p (let l = (child_port es x p graph down).1 in omega arith) down;
}

-- one member more
pub children_more : (es : List EntryOf) (x : ℕ) (children : List (List ℕ)) (ports : List ℕ) → AreChildren es x children → AreChildPorts es x ports → AreChildren es (x + 1) (children ++ ports ∷ [])
children_more es x children ports so_far are = record {
  count = omega (arith, so_far.count, length-append children (ports ∷ []));
  each = λ y low. elim (cases_eq y x) [
    | inl same ↦ (
        let last = get_or_push children ports [] y (so_far.count ∙ sym same) in
        subst (λ (ps : List ℕ). AreChildPorts es y ps) (sym last) (subst (λ (z : ℕ). AreChildPorts es z ports) (sym same) are))
    | inr other ↦ (
        let before = get_or_append_left children (ports ∷ []) [] y (omega (arith, so_far.count)) in
        subst (λ (ps : List ℕ). AreChildPorts es y ps) (sym before) (so_far.each y (omega arith)))
  ];
}
