-- The table of a topology, computed.
use Rattle.std.specs.Prelude.{◌==◌, ◌&&◌, ℕ, zero, suc, ◌*◌, List, [], ◌∷◌, length, Bool, true, false, not}
use Rattle.std.specs.Prelude.{Option, None, filter, position, slice_index, if◌then◌else◌}
use Rattle.std.specs.List.{list_any, flat_map, range_with_len, find}
use Rattle.std.specs.Option.{option_map_or}
use Rattle.an_base.specs.Values.{LifeId, EntryOf, TopoOf}
use Rattle.an_base.specs.Rows.{RowOf}
use Rattle.topo_graph.specs.Topology.{place_of, far_of}
use Rattle.updown.specs.Routes.{is_up_end}
use Rattle.table_build.specs.Exits.{is_entry, may_go_up, passes}
use Rattle.table_build.specs.Tables.{TableOf}

-- the ports by which a packet may leave
abbrev pub exit_ports : List ℕ
exit_ports = range_with_len 1 12

-- Whether a path of n links leads from `place` to `target`: a legal route if `up`, otherwise with only downward links.
-- The path takes an upward link only if `up`.
abbrev pub leads_in : List EntryOf → ℕ → ℕ → Bool → ℕ → Bool
leads_in entries target zero up place = place == target
leads_in entries target (suc links) up place =
    list_any
    (λ port. option_map_or
    (λ far.
    if is_up_end entries far.0 place
    then (up && leads_in entries target links true far.0)
    else leads_in entries target links false far.0)
    (far_of entries place port) false)
    exit_ports

-- the length of a shortest path from `place` to `target`; none has more links than twice the number of members
abbrev pub shortest : List EntryOf → ℕ → Bool → ℕ → Option ℕ
shortest entries target up place =
    find (λ links. leads_in entries target links up place) (range_with_len 0 (2 * length entries))

-- the length of a shortest path after a port with the far side `far`: of a legal route after an upward link, of a path
-- with only downward links after a downward one
abbrev pub left_after : List EntryOf → ℕ → Bool → ℕ → ℕ × ℕ → Option ℕ
left_after entries target up place far =
    if is_up_end entries far.0 place
    then (if up then shortest entries target true far.0 else None)
    else shortest entries target false far.0

-- whether `port` begins a path to another member; unless `any`, a shortest one
abbrev pub is_exit : List EntryOf → Bool → Bool → ℕ → ℕ → ℕ → Bool
is_exit entries any up place target port =
    not (place == target)
    && passes any (option_map_or (left_after entries target up place) (far_of entries place port) None)
    (shortest entries target up place)

abbrev pub exits_to : List EntryOf → Bool → Bool → ℕ → ℕ → List ℕ
exits_to entries any up place target = filter (is_exit entries any up place target) exit_ports

-- the row of the member at index `place` for the port `entry` and a number, if another member has that number
abbrev pub row_to : TopoOf → Bool → ℕ → ℕ → ℕ → ℕ → List RowOf
row_to topo any place entry number target =
    if place == target then [] else record {
      at = slice_index topo.numbers place;
      entry = entry;
      to = number;
      exits = exits_to topo.entries any (may_go_up topo.entries place entry) place target;
    } ∷ []

abbrev pub rows_for : TopoOf → Bool → ℕ → ℕ → ℕ → List RowOf
rows_for topo any place entry number =
    option_map_or (row_to topo any place entry number) (position (λ other. other == number) topo.numbers) []

-- the rows of the member at index `place`, in ascending order of ingress port, then of number
abbrev pub rows_of : TopoOf → Bool → ℕ → List RowOf
rows_of topo any place =
    flat_map
    (λ entry. flat_map (rows_for topo any place entry) (range_with_len 1 126))
    (filter (is_entry topo.entries place) (range_with_len 0 13))

-- the number (`number_in`) and the table (`table_of`) of the member `me` of a topology
abbrev pub number_in : TopoOf → LifeId → ℕ
number_in topo me = option_map_or (slice_index topo.numbers) (place_of topo.entries me) 0

unfoldable pub table_of : TopoOf → Bool → LifeId → TableOf
table_of topo any me =
    record {
      number = number_in topo me;
      rows = option_map_or (rows_of topo any) (place_of topo.entries me) [];
    }
