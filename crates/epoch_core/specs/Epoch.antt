-- What follows from what a life accepted in an epoch: its position and version, whether it is stable, its
-- report, the topology that it finishes with, and what it sends.

use Rattle.std.specs.Prelude.{◌==◌, ◌&&◌, ◌||◌, ℕ, suc, List, [], ◌∷◌, ◌++◌, map, filter, reverse, Option}
use Rattle.std.specs.Prelude.{Some, None, is_some, Bool, false, not, if◌then◌else◌}
use Rattle.std.specs.List.{list_all, list_any, flat_map}
use Rattle.std.specs.Option.{option_or}
use Rattle.std.specs.Ordering.{is_eq}
use Rattle.an_base.specs.Values.{LifeId, Place, PeerAt, EntryOf, PosOf, TopoOf}
use Rattle.an_base.specs.Order.{life_cmp, position_cmp}
use Rattle.an_base.specs.declared.body.Body.{Body}
use Rattle.an_base.specs.declared.body.Body.TheVariants.{Pos, Answer, Stable, Topo}
use Rattle.tree_position.specs.declared.offers.Offer.{Offer}
use Rattle.tree_position.specs.Position.{position_of, self_root}
use Rattle.topo_report.specs.Report.{report_of}
use Rattle.switch_numbering.specs.Numbering.{numbering}
use Rattle.epoch_core.specs.Log.{CardOf, OnPort, Log, on_port, last_pos, is_claimed, answered, last_report}
use Rattle.epoch_core.specs.Log.{fresh_report}

-- the offer of a position: its root and its level
abbrev pub offer_of : Option PosOf → Option Offer
offer_of None = None
offer_of (Some pos) = Some (record { root = pos.root; level = pos.level })

-- the last offer on a link
abbrev pub offer_on : Log → PeerAt → Option Offer
offer_on log link = offer_of (last_pos (on_port link.port log))

-- the least of the life's own position as a root and of those that the offers give
abbrev pub position : CardOf → Log → Place
position card log = position_of card.me card.links (map (offer_on log) card.links)

-- whether two positions are equal
abbrev pub is_same : Place → Place → Bool
is_same one other = is_eq (position_cmp one other)

-- whether the newest item changed the position
abbrev pub has_moved : CardOf → OnPort → Log → Bool
has_moved card item log = not (is_same (position card (item ∷ log)) (position card log))

-- the version: 1, plus the number of items that changed the position
abbrev pub version : CardOf → Log → ℕ
version card [] = 1
version card (item ∷ log) = if has_moved card item log then suc (version card log) else version card log

-- whether this version is the one that is named, if one is
abbrev pub names : Option ℕ → ℕ → Bool
names None version = false
names (Some told) version = (told == version)

-- whether the last answer on a link names `version` and, if the link claims, a report came since the last position
abbrev pub is_settled : ℕ → Log → PeerAt → Bool
is_settled version log link =
    names (answered (on_port link.port log)) version
    && (not (is_claimed (on_port link.port log)) || is_some (fresh_report (on_port link.port log)))

-- whether the life is stable: each link is settled in the current version
abbrev pub is_stable : CardOf → Log → Bool
is_stable card log = list_all (is_settled (version card log) log) card.links

-- whether the life has the position of a root
abbrev pub is_root : CardOf → Log → Bool
is_root card log = is_same (position card log) (self_root card.me)

-- the links in `links` that claim
abbrev pub claiming_among : List PeerAt → Log → List PeerAt
claiming_among links log = filter (λ link. is_claimed (on_port link.port log)) links

-- the links of the life that claim
abbrev pub claiming : CardOf → Log → List PeerAt
claiming card log = claiming_among card.links log

-- the life's own entry
abbrev pub own_entry : CardOf → Log → EntryOf
own_entry card log =
    record { life = card.me; position = position card log; proposed = card.proposed; links = card.links }

-- the entries of a report, none if there is no report
abbrev pub entries_in : Option (List EntryOf) → List EntryOf
entries_in None = []
entries_in (Some entries) = entries

-- the entries of the last report on a link
abbrev pub reported_on : Log → PeerAt → List EntryOf
reported_on log link = entries_in (last_report (on_port link.port log))

-- the entries of the last reports on the links that claim
abbrev pub reported : CardOf → Log → List EntryOf
reported card log = flat_map (reported_on log) (claiming card log)

-- the report of the life: the least entry of each life among its own entry and the reports on the links that claim
abbrev pub report : CardOf → Log → List EntryOf
report card log = report_of card.me (own_entry card log ∷ reported card log)

-- whether `topo` names life `me`
abbrev pub is_named : LifeId → TopoOf → Bool
is_named me topo = list_any (λ entry. is_eq (life_cmp entry.life me)) topo.entries

-- the topology that a body gives to life `me`: one that names it
abbrev pub given_by : LifeId → Body → Option TopoOf
given_by me (Pos pos) = None
given_by me (Answer answer) = None
given_by me (Stable entries) = None
given_by me (Topo topo) = if is_named me topo then Some topo else None

-- the topology that a stable root finishes with: its report, and the numbering of it
abbrev pub topology_of : List EntryOf → TopoOf
topology_of entries = record { entries = entries; numbers = numbering entries }

-- the topology that the life finishes with if it is a stable root
abbrev pub finished_as_root : CardOf → Log → Option TopoOf
finished_as_root card log =
    if is_stable card log && is_root card log then Some (topology_of (report card log)) else None

-- the topology that the life has finished with, at the first point where it was a stable root or received a topology
-- that names it
abbrev pub finish : CardOf → Log → Option TopoOf
finish card [] = finished_as_root card []
finish card (item ∷ log) =
    option_or (finish card log) (option_or (finished_as_root card (item ∷ log)) (given_by card.me item.body))

-- the position that is sent on a link; it says whether the link leads to the parent
abbrev pub pos_at : ℕ → Place → PeerAt → OnPort
pos_at version place link = record {
  port = link.port;
  body = Pos (record {
    version = version;
    root = place.root;
    level = place.level;
    to_parent = (link.port == place.port);
  });
}

-- the position on each of the links, in their order
abbrev pub positions_of : ℕ → Place → List PeerAt → List OnPort
positions_of version place links = map (pos_at version place) links

-- the position on each link of the life
abbrev pub positions : CardOf → Log → List OnPort
positions card log = positions_of (version card log) (position card log) card.links

-- the positions that the life sends after the item, if its position changed
abbrev pub told : CardOf → OnPort → Log → List OnPort
told card item log = if has_moved card item log then positions card (item ∷ log) else []

-- the answer to a position, on its port; no other body is answered
abbrev pub answer_to : ℕ → Place → Body → List OnPort
answer_to port place (Pos pos) =
    record {
      port = port;
      body = Answer (record { version = pos.version; to_parent = (port == place.port) });
    } ∷ []
answer_to port place (Answer answer) = []
answer_to port place (Stable entries) = []
answer_to port place (Topo topo) = []

-- the answer that the life sends after the item, by its new position
abbrev pub answers : CardOf → OnPort → Log → List OnPort
answers card item log = answer_to item.port (position card (item ∷ log)) item.body

-- the report to the parent
abbrev pub stable_to_parent : CardOf → Log → List OnPort
stable_to_parent card log = record { port = (position card log).port; body = Stable (report card log) } ∷ []

-- the report that the life sends to its parent after the item, if it has become stable by it and is no root
abbrev pub sent_up : CardOf → OnPort → Log → List OnPort
sent_up card item log =
    if is_stable card (item ∷ log) && not (is_stable card log) && not (is_root card (item ∷ log))
    then stable_to_parent card (item ∷ log)
    else []

-- a topology on a link
abbrev pub passed_on : TopoOf → PeerAt → OnPort
passed_on topo link = record { port = link.port; body = Topo topo }

-- a topology, if there is one, on each link that claims, in ascending order of port
abbrev pub topo_down : CardOf → Log → Option TopoOf → List OnPort
topo_down card log None = []
topo_down card log (Some topo) = map (passed_on topo) (claiming card log)

-- the topology that the life sends after the item, if it finishes by it
abbrev pub sent_down : CardOf → OnPort → Log → List OnPort
sent_down card item log =
    if is_some (finish card log) then [] else topo_down card (item ∷ log) (finish card (item ∷ log))

-- all bodies sent because of the newest item, or of joining, in the order in which they go out
abbrev pub adds : CardOf → Log → List OnPort
adds card [] = positions card []
adds card (item ∷ log) =
    told card item log ++ (answers card item log ++ (sent_up card item log ++ sent_down card item log))

-- all bodies sent, in the order in which they went out
abbrev pub went_out : CardOf → Log → List OnPort
went_out card [] = adds card []
went_out card (item ∷ log) = went_out card log ++ adds card (item ∷ log)

-- all bodies sent on `port`, the newest first
abbrev pub sent : CardOf → ℕ → Log → List Body
sent card port [] = reverse (on_port port (adds card []))
sent card port (item ∷ log) = reverse (on_port port (adds card (item ∷ log))) ++ sent card port log
