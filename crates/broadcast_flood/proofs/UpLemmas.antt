-- The way up to the root.
use Rattle.std.proofs.Common.{◌≡◌, ◌∙◌, sym, ap, subst, refl, ℕ, ◌<◌, List, [], ◌∷◌, ◌++◌, Some, None, true, length, map, append_assoc, append-nil}
use Rattle.std.proofs.lemmas.List.{map-append}
use Rattle.an_base.specs.Values.{EntryOf}
use Rattle.topo_graph.specs.Topology.{IsGraph}
use Rattle.broadcast_flood.specs.Tree.{parent_port, parent_of}
use Rattle.broadcast_flood.specs.Floods.{HopOf, GoesUp, hop_at, AreHopsUp}
use Rattle.broadcast_flood.specs.declared.hop.FloodHop.{FloodHop}

-- the hops so far lead from x to a member, and are the first of a way up where others lead up from there
pub record LeadsUpTo (es : List EntryOf) (x at : ℕ) (hops : List FloodHop) : Type 0 where
  pub low : at < length es
  pub ups : List HopOf
  pub hops_are : hops ≡ map (hop_at es true) ups
  pub more : (rest : List HopOf) (top : ℕ) → GoesUp es at rest top → GoesUp es x (ups ++ rest) top

pub none_up : (es : List EntryOf) (x : ℕ) → x < length es → LeadsUpTo es x x []
none_up es x within = record { low = within; ups = []; hops_are = refl; more = λ rest top up. up }

pub one_up : (es : List EntryOf) (x at y q : ℕ) (hops : List FloodHop) → IsGraph es → LeadsUpTo es x at hops → parent_of es at ≡ Some (y, q) → LeadsUpTo es x y (hops ++ hop_at es true (record { place = at; port = parent_port es at }) ∷ [])
one_up es x at y q hops graph so_far e =
    let hop : HopOf = record { place = at; port = parent_port es at } in
    record {
      low = (graph.within at (parent_port es at) (y, q) e).far_place;
      ups = so_far.ups ++ hop ∷ [];
      hops_are = ap (λ (hs : List FloodHop). hs ++ hop_at es true hop ∷ []) so_far.hops_are ∙ sym (map-append (hop_at es true) so_far.ups (hop ∷ []));
      more = λ rest top up. subst (λ (hs : List HopOf). GoesUp es x hs top) (sym (append_assoc so_far.ups (hop ∷ []) rest)) (so_far.more (hop ∷ rest) top (y, q, refl, e, up));
    }

pub all_up : (es : List EntryOf) (x at : ℕ) (hops : List FloodHop) → LeadsUpTo es x at hops → parent_of es at ≡ None → AreHopsUp es x hops
all_up es x at hops so_far none = (so_far.ups, at, subst (λ (hs : List HopOf). GoesUp es x hs at) (append-nil so_far.ups) (so_far.more [] at (refl, none)), so_far.hops_are)
