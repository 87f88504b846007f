-- At a switch where nobody can go, its router lets nobody go.
use Rattle.std.proofs.Common.{◌≡◌, ◌≢◌, ◌∙◌, sym, ap, subst, refl, ℕ, zero, suc, ◌+◌, ◌*◌, ◌%◌, ◌^◌, ◌<◌, ◌≤◌, List, [], ◌∷◌, Option, Some, None, Vec, Global, arith, length, get_or, set, inl, inr}
use Rattle.std.specs.Prelude.{All, bit_and, map, sum, ◌⊎◌, ◌↔◌}
use Rattle.std.specs.Int.{bit_at}
use Rattle.std.specs.Int.RustNames.{bit_or}
use Rattle.std.proofs.lemmas.Bool.{cases_eq, cases_lt}
use Rattle.std.specs.Vec.{with_item}
use Rattle.std.proofs.lemmas.List.{get_or-map, get_or-set_other, get_or_default, get_or_read, length-map, length-set, map-set}
use Rattle.std.proofs.lemmas.List.Elements.{All-map}
use Rattle.std.proofs.lemmas.List.Sums.{sum_by-cons}
use Rattle.dep_check.specs.declared.channel.Channel.{Channel}
use Rattle.dep_check.specs.Tables.{wire_at}
use Rattle.fcfc_router.specs.Router.{NoneCanGo, RequestOf}
use Rattle.fcfc_router.specs.Shown.{ports_of, RouterOf}
use Rattle.flow_channels.specs.declared.board.Board.{Board}
use Rattle.flow_channels.specs.declared.board.Packet.{Packet}
use Rattle.flow_channels.specs.declared.tables.Tables.{Tables}
use Rattle.flow_channels.specs.declared.watch.Watch.{Watch}
use Rattle.flow_channels.specs.Board.{exit_set, flow_of, IsKept, wait_at, waits_at, ways}
use Rattle.flow_channels.specs.Flows.{FlowOf, WaitOf, queue_at, waiting_at}
use Rattle.flow_channels.specs.Layout.{spot}
use Rattle.flow_channels.specs.Moves.{HasRoom}
use Rattle.flow_channels.specs.Queue.{QueueOf}
use Rattle.flow_channels.specs.Turns.{AreFree, IsSame, NoneGoes, NoneGoesAt, router_at}
use Rattle.flow_channels.specs.Watch.{AreAwake, AreFreePorts, IsIdle, HasPlace, IsWatched}
use Rattle.flow_channels.proofs.BoardLemmas.{made, waiting_is}
use Rattle.flow_channels.proofs.DepartLemmas.{same_flow}
use Rattle.flow_channels.proofs.TurnLemmas.{all_free, AreFreeBelow, free_at, none_free, one_free, one_full}
use Rattle.flow_channels.proofs.WatchLemmas.{idle_as, in_there, still_low}

-- whether a channel has room is decided, and so there is a set of those that have
has_or_not : (tables : Tables) (board : Board) (channel : Channel) → HasRoom (ways tables) (flow_of board) channel ⊎ (HasRoom (ways tables) (flow_of board) channel → ⊥)
has_or_not tables board channel = go (wire_at tables.wires.items channel) refl
  where
    go : (o : Option Channel) → wire_at tables.wires.items channel ≡ o → HasRoom (ways tables) (flow_of board) channel ⊎ (HasRoom (ways tables) (flow_of board) channel → ⊥)
    go None is = inr (λ room. absurd (let e = sym is ∙ room.1 in cc))
    go (Some end) is = elim (cases_lt (length (queue_at (flow_of board) channel)) tables.room) [
      | inl low ↦ inl (end, is, low)
      | inr high ↦ inr (λ room. absurd (let low = room.2 in omega arith))
    ]

free_below : (tables : Tables) (board : Board) (at end : ℕ) → end ≤ 13 → (free : ℕ) × AreFreeBelow tables board at end free
free_below tables board at zero low = (0, none_free tables board at)
free_below tables board at (suc end) low =
    let before = free_below tables board at end (omega arith) in
    let next : end + 1 ≡ suc end = omega arith in
    elim (has_or_not tables board (spot at end)) [
      | inl room ↦ (bit_or before.0 (1 * 2 ^ end % 2 ^ 16), subst (λ (n : ℕ). AreFreeBelow tables board at n (bit_or before.0 (1 * 2 ^ end % 2 ^ 16))) next (one_free tables board at end before.0 (omega arith) before.1 room))
      | inr full ↦ (before.0, subst (λ (n : ℕ). AreFreeBelow tables board at n before.0) next (one_full tables board at end before.0 before.1 full))
    ]

some_free : (tables : Tables) (board : Board) (at : ℕ) → (free : ℕ) × AreFree tables board at free
some_free tables board at =
    let below = free_below tables board at 13 (omega arith) in
    (below.0, all_free tables board at 13 below.0 (omega arith) below.1)

abbrev nobody : RouterOf
nobody = record { most = 0; waiting = [] }

abbrev nothing_asked : RequestOf
nothing_asked = record { packet = 0; ports = [] }

-- whether a request names a port with room
abbrev Stays : Tables → Board → ℕ → WaitOf → Type 0
Stays tables board at wait = All (λ port. HasRoom (ways tables) (flow_of board) (spot at port) → ⊥) (ports_of (exit_set tables.exits (spot at wait.entry) wait.packet.to))

module _ (tables : Tables) (board : Board) (kept : IsKept tables board) (at : ℕ) (low : at < 127) where
  waits_are : waiting_at (flow_of board) at ≡ waits_at board.packets.items board.entries.items (router_at board at)
  waits_are = waiting_is board.packets board.entries board.queues board.routers at nobody kept.routers low

  abbrev asks_of : List RequestOf
  asks_of = (router_at board at).waiting

  -- nobody is let go, so nobody can go
  pub idle_refused : NoneGoesAt tables board at → IsIdle tables (flow_of board) at
  idle_refused none = subst (λ (ws : List WaitOf). All (Stays tables board at) ws) (sym waits_are) (
      All-map (Stays tables board at) (λ (request : RequestOf). wait_at board.packets.items board.entries.items request.packet) asks_of each)
    where
      each : All (λ request. Stays tables board at (wait_at board.packets.items board.entries.items request.packet)) asks_of
      each k d inside =
          let request = get_or asks_of k d in
          subst (λ (ports : List ℕ). All (λ port. HasRoom (ways tables) (flow_of board) (spot at port) → ⊥) ports) (kept.asked at nobody low k d inside).ports (λ i p below room.
          let port = get_or request.ports i p in
          none.2 k d inside (i, port, below, get_or_default request.ports i port p below, (none.1 port).1 room))

  -- nobody can go, so nobody is let go
  pub refused_idle : IsIdle tables (flow_of board) at → NoneGoesAt tables board at
  refused_idle idle = ((some_free tables board at).0, (some_free tables board at).1, none)
    where
      free : ℕ
      free = (some_free tables board at).0

      none : NoneCanGo free asks_of
      none k d inside can =
          let f = λ (request : RequestOf). wait_at board.packets.items board.entries.items request.packet in
          let request = get_or asks_of k d in
          let here = subst (λ (ws : List WaitOf). All (Stays tables board at) ws) waits_are idle in
          let n = length-map asks_of f in
          let stays : Stays tables board at (f request) = subst (λ (wait : WaitOf). Stays tables board at wait) (get_or-map f asks_of k d (f d) inside) (here k (f d) (omega arith)) in
          let ports = subst (λ (ports : List ℕ). All (λ port. HasRoom (ways tables) (flow_of board) (spot at port) → ⊥) ports) (sym (kept.asked at nobody low k d inside).ports) stays in
          subst (λ (port : ℕ). HasRoom (ways tables) (flow_of board) (spot at port) → ⊥) can.3 (ports can.0 can.1 can.2) (((some_free tables board at).1 can.1).0 can.4)

-- the ports with room, as they are read
pub free_here : (tables : Tables) (board : Board) (sets : List ℕ) (at free : ℕ) → AreFreePorts tables (flow_of board) 127 sets → at < 127 → free ≡ get_or sets at free → AreFree tables board at free
free_here tables board sets at free are low is port =
    let n = are.count in
    subst (λ (set : ℕ). (bit_at set port ≡ 1) ↔ HasRoom (ways tables) (flow_of board) (spot at port)) (sym (get_or_read sets at free (omega arith) is 0)) (are.each at port low)

-- where the first switch that is awake is found, or none
pub none_before : (tables : Tables) (board : Board) (sets : List ℕ) (end : ℕ) → IsKept tables board → AreAwake tables (flow_of board) sets → end ≤ 127 → ((other : ℕ) → other < end → HasPlace sets other → ⊥) → NoneGoes tables board end
none_before tables board sets end kept are low out at below = refused_idle tables board kept at (omega arith) (are.others at (omega arith) (out at below))

-- as seen from the start
pub same_none : (tables : Tables) (start board : Board) (end : ℕ) → IsSame start board → NoneGoes tables board end → NoneGoes tables start end
same_none tables start board end same none at low =
    let here = none at low in
    (here.0, subst (λ (f : FlowOf). free_at tables f at here.0) (same_flow start board same) here.1, subst (λ (rs : List RouterOf). NoneCanGo here.0 (get_or rs at nobody).waiting) same.routers here.2)

-- a switch at which nobody is let go falls asleep
pub fallen_asleep : (tables : Tables) (board : Board) (sets : List ℕ) (at : ℕ) → IsKept tables board → at < 127 → AreAwake tables (flow_of board) sets → NoneGoesAt tables board at → AreAwake tables (flow_of board) (set sets at 0)
fallen_asleep tables board sets at kept at_low are none = record {
  count = length-set sets at 0 ∙ are.count;
  low = λ b has. still_low sets at 0 b at_low are.low has;
  others = λ b low out. elim (cases_eq b at) [
    | inl same ↦ subst (λ (n : ℕ). IsIdle tables (flow_of board) n) (sym same) (idle_refused tables board kept at at_low none)
    | inr other ↦ are.others b low (λ has. out (in_there sets at b 0 other has))
  ];
}

-- one that is let go leaves the others where they are, and its switch awake
module _ (tables : Tables) (p : Vec Packet Global) (e : Vec ℕ Global) (q : Vec QueueOf Global) (r : Vec RouterOf Global) (at place : ℕ) (new : RouterOf) (place_is : place ≡ at) (watch : Watch) where
  others_wait : (b : ℕ) → b ≢ place → waiting_at (flow_of (made p e q (with_item r place new))) b ≡ waiting_at (flow_of (made p e q r)) b
  others_wait b other = ap (λ (wss : List (List WaitOf)). get_or wss b []) (map-set (waits_at p.items e.items) r.items place new) ∙ get_or-set_other (map (waits_at p.items e.items) r.items) place b (waits_at p.items e.items new) [] other

  pub let_go : IsWatched tables (flow_of (made p e q r)) watch → HasPlace watch.awake at → IsWatched tables (flow_of (made p e q (with_item r place new))) watch
  let_go watched has =
      let a = watched.arriving in
      let w = watched.awake in
      record {
        arriving = record { count = a.count; all = λ channel is can. a.all channel is can; only = λ k inside. a.only k inside };
        free = record { count = watched.free.count; each = λ other port low. watched.free.each other port low };
        awake = record {
          count = w.count;
          low = w.low;
          others = λ b low out. idle_as tables (flow_of (made p e q r)) (flow_of (made p e q (with_item r place new))) b (others_wait b (λ same. out (subst (λ (n : ℕ). HasPlace watch.awake n) (sym (same ∙ place_is)) has))) (λ port is. refl) (w.others b low out);
        };
      }

-- a place that is taken out makes the sum less
pub taken_out : (sets : List ℕ) (k : ℕ) → k < length sets → HasPlace sets k → sum (set sets k 0) < sum sets
taken_out [] k low has = absurd (omega arith)
taken_out (x ∷ sets) zero low has =
    let some : x ≢ 0 = (λ none. has (ap (λ (n : ℕ). bit_and n 1) none)) in
    let a = sum_by-cons (λ (n : ℕ). n) x sets in
    let b = sum_by-cons (λ (n : ℕ). n) 0 sets in
    omega arith
taken_out (x ∷ sets) (suc k) low has =
    let a = sum_by-cons (λ (n : ℕ). n) x sets in
    let b = sum_by-cons (λ (n : ℕ). n) x (set sets k 0) in
    let c = taken_out sets k (omega arith) has in
    omega arith
