-- Paths from a member, and the best of them: the lowest cost, and the first ports of the paths of that cost.
use Rattle.std.specs.Prelude.{◌≡◌, ◌↔◌, ◌⊎◌, ◌<◌, ◌≤◌, ◌+◌, ◌++◌, ℕ, min, List, [], ◌∷◌, Option, Some, None}
use Rattle.std.specs.Prelude.{Bool, true, false, length, slice_index_or, if◌then◌else◌}
use Rattle.std.specs.Int.{bit_at}
use Rattle.an_base.specs.Values.{EntryOf}
use Rattle.topo_graph.specs.Topology.{far_of}
use Rattle.updown.specs.Routes.{is_up_end}
use Rattle.table_build.specs.declared.best.Best.{Best}
use Rattle.table_build.specs.declared.best.Search.{Search}
use Rattle.table_build.specs.declared.link.Link.{Link}
use Rattle.table_build.specs.Links.{link_at}

-- A list of ports leads from `place` over links to the target, upward only if `up` and downward only if `down`; after a
-- downward link none leads upward.
abbrev pub Goes : List EntryOf → Bool → Bool → ℕ → List ℕ → ℕ → Type 0
Goes entries up down place [] target = place ≡ target
Goes entries up down place (port ∷ ports) target =
    (next came : ℕ) × (far_of entries place port ≡ Some (next, came))
    × (((is_up_end entries next place ≡ true) × (up ≡ true) × Goes entries up down next ports target)
    ⊎ ((is_up_end entries next place ≡ false) × (down ≡ true) × Goes entries false down next ports target))

-- the cost of a link (`link_cost`), and of a path (`cost_of`)
abbrev pub link_cost : Bool → ℕ
link_cost any = if any then 0 else 1

abbrev pub cost_of : Bool → List ℕ → ℕ
cost_of any ports = if any then 0 else length ports

-- `port` is in the set `ports`
abbrev pub HasPort : ℕ → ℕ → Type 0
HasPort ports port = bit_at ports port ≡ 1

-- `best` has the lowest cost of the paths `Ways`, and the first ports of the paths of that cost
pub record AreBest (any : Bool) (Ways : List ℕ → Type 0) (best : Best) : Type 0 where
  pub way : (ports : List ℕ) × Ways ports × (cost_of any ports ≡ best.cost)
  pub least : (ports : List ℕ) → Ways ports → best.cost ≤ cost_of any ports
  pub each :
      (port : ℕ) → HasPort best.ports port
      → (rest : List ℕ) × Ways (port ∷ rest) × (cost_of any (port ∷ rest) ≡ best.cost)
  pub whole :
      (port : ℕ) (rest : List ℕ) → Ways (port ∷ rest) → cost_of any (port ∷ rest) ≡ best.cost
      → HasPort best.ports port

-- the best of the paths `Ways`, or None if there is none
abbrev pub IsBest : Bool → (List ℕ → Type 0) → Option Best → Type 0
IsBest any Ways None = (ports : List ℕ) → Ways ports → ⊥
IsBest any Ways (Some best) = AreBest any Ways best

-- `better` is the better of `one` and `other`; if they cost the same, it has the ports of both
pub record IsBetter (one other better : Best) : Type 0 where
  pub cost : better.cost ≡ min one.cost other.cost
  pub ports :
      (port : ℕ)
      → HasPort better.ports port
      ↔ (((one.cost ≤ other.cost) × HasPort one.ports port)
      ⊎ ((other.cost ≤ one.cost) × HasPort other.ports port))

-- `result` is the better of two best paths, each of which can be missing
abbrev pub IsBetterOf : Option Best → Option Best → Option Best → Type 0
IsBetterOf None other result = result ≡ other
IsBetterOf (Some one) None result = result ≡ Some one
IsBetterOf (Some one) (Some other) result =
    (better : Best) × (result ≡ Some better) × IsBetter one other better

-- `longer` is `best` with one more link, at `port` of `place`; paths that begin at `place` begin with that port
pub record IsLonger (any : Bool) (from place port : ℕ) (best longer : Best) : Type 0 where
  pub cost : longer.cost ≡ best.cost + link_cost any
  pub ports :
      (other : ℕ)
      → HasPort longer.ports other ↔ (HasPort best.ports other ⊎ ((place ≡ from) × (other ≡ port)))

-- the best paths that a table has to `place`
abbrev pub best_at : List (Option Best) → ℕ → Option Best
best_at bests place = slice_index_or bests place None

-- the last link of the path `route` is `link`, from its far member
pub record Over (entries : List EntryOf) (search : Search) (link : Link) (route : List ℕ) : Type 0 where
  pub before : List ℕ
  pub ports : route ≡ before ++ link.by ∷ []
  pub way : Goes entries search.up search.down search.from before link.place

-- the last link of the path `route` is one of `links` before the index `end`
abbrev pub OverBelow : List EntryOf → Search → List Link → ℕ → List ℕ → Type 0
OverBelow entries search links end route =
    (index : ℕ) × (index < end) × Over entries search (link_at links index) route

-- the table `bests` has the best paths to the far member of `link`
pub record IsKnown (entries : List EntryOf) (search : Search) (bests : List (Option Best)) (link : Link)
    : Type 0 where
  pub by : link.by ≤ 12
  pub best :
      IsBest search.any (λ ports. Goes entries search.up search.down search.from ports link.place)
      (best_at bests link.place)

-- the table `bests` has the best paths to the neighbours of `place` that are lower, or to those that are higher
pub record KnowsFar (entries : List EntryOf) (search : Search) (lower : Bool) (bests : List (Option Best))
    (place : ℕ) : Type 0 where
  pub each :
      (port next came : ℕ) → far_of entries place port ≡ Some (next, came)
      → is_up_end entries place next ≡ lower
      → IsBest search.any (λ ports. Goes entries search.up search.down search.from ports next)
      (best_at bests next)

-- the search for paths with only upward links
abbrev pub climbing : ℕ → Bool → Search
climbing from any = record { from = from; any = any; up = true; down = false }

-- `bests` are the best paths from `place` to every member
pub record AreBestTo (entries : List EntryOf) (any up down : Bool) (place : ℕ) (bests : List (Option Best))
    : Type 0 where
  pub each :
      (target : ℕ) → target < length entries
      → IsBest any (λ ports. Goes entries up down place ports target) (best_at bests target)

-- the best legal paths from a member to every member, and the best with only downward links
pub record BestsOf : Type 0 where
  pub up : List (Option Best)
  pub down : List (Option Best)

-- `bests` are the best paths, legal and downward, from the member at index `place`
pub record AreBestFrom (entries : List EntryOf) (any : Bool) (place : ℕ) (bests : BestsOf) : Type 0 where
  pub up : AreBestTo entries any true true place bests.up
  pub down : AreBestTo entries any false true place bests.down
