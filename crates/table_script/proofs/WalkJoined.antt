use Rattle.std.proofs.Common.{◌≡◌, refl, ℕ, suc, inl, inr, List, [], ◌∷◌, get_or, Bool, true, false, ◌&&◌, ◌||◌, All, ◌↔◌}
use Rattle.std.proofs.lemmas.Bool.{and_parts}
use Rattle.std.proofs.lemmas.Bool.Decides.{Decides-eqb}
use Rattle.std.proofs.lemmas.List.Elements.{All-head, All-tail}
use Rattle.std.proofs.lemmas.List.{get_or_default}
use Rattle.an_base.specs.Tree.{Network, Walk, Neighbours}
use Rattle.an_base.proofs.WalkLemmas.{walk_then}
use Rattle.net_graph.specs.declared.wiring.LinkAt.{LinkAt}
use Rattle.net_graph.specs.Wires.{Wires, IsWired, network}
use Rattle.net_graph.proofs.FarLemmas.{far_joins}
use Rattle.table_script.specs.Tables.{are_joined}
use Rattle.table_script.proofs.JoinedLemmas.{walk_joined}

-- there is a walk
abbrev pub Reaches : Network → ℕ → ℕ → Type 0
Reaches g x y = (m : ℕ) × Walk g m x y

-- the ends of a link are neighbours
abbrev pub AreNeighbours : Network → LinkAt → Type 0
AreNeighbours g l = Neighbours g l.a l.b × Neighbours g l.b l.a

-- over a link
over : (g : Network) (x a b y : ℕ) → Neighbours g a b → Reaches g x a → Reaches g b y → Reaches g x y
over g x a b y near one two = walk_then g one.0 (suc two.0) x a y one.1 (b, near, two.1)

-- what links join a walk leads to
joined_reach : (g : Network) (ls : List LinkAt) (x y : ℕ) → All (AreNeighbours g) ls → are_joined ls x y ≡ true → Reaches g x y
unfolding are_joined
joined_reach g [] x y all t = (0, (Decides-eqb x y).0 t)
joined_reach g (l ∷ ls) x y all t =
    let here = All-head (AreNeighbours g) l ls all in
    let later = All-tail (AreNeighbours g) l ls all in
    go (are_joined ls x y) (are_joined ls x l.a && are_joined ls l.b y) (are_joined ls x l.b && are_joined ls l.a y)
    (λ e. joined_reach g ls x y later e)
    (λ e. let p = and_parts (are_joined ls x l.a) (are_joined ls l.b y) e in over g x l.a l.b y here.0 (joined_reach g ls x l.a later p.0) (joined_reach g ls l.b y later p.1))
    (λ e. let p = and_parts (are_joined ls x l.b) (are_joined ls l.a y) e in over g x l.b l.a y here.1 (joined_reach g ls x l.b later p.0) (joined_reach g ls l.a y later p.1))
    t
  where
    go : (a b c : Bool) → (a ≡ true → Reaches g x y) → (b ≡ true → Reaches g x y) → (c ≡ true → Reaches g x y) → (a || (b || c)) ≡ true → Reaches g x y
    go true b c f h k e = f refl
    go false true c f h k e = h refl
    go false false c f h k e = k e

-- the ends of each link of a wiring are neighbours
ends_near : (w : Wires) → IsWired w → All (AreNeighbours (network w)) w.links
ends_near w wired k d within =
    let l = get_or w.links k d in
    let at : get_or w.links k l ≡ l = get_or_default w.links k l d within in (
      (l.a_port, l.b_port, (far_joins w l.a l.a_port l.b l.b_port wired).1 (k, l, within, at, inl refl)),
      (l.b_port, l.a_port, (far_joins w l.b l.b_port l.a l.a_port wired).1 (k, l, within, at, inr refl)),
    )

-- links join two switches exactly where a walk leads from one to the other
pub joined_by_walks : (w : Wires) (x y : ℕ) → IsWired w → (are_joined w.links x y ≡ true) ↔ ((m : ℕ) × Walk (network w) m x y)
joined_by_walks w x y wired = ((λ t. joined_reach (network w) w.links x y (ends_near w wired) t), (λ walk. walk_joined w walk.0 x y walk.1))
