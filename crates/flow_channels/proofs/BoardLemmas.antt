-- Reads and writes of a board, and what is kept by them.
use Rattle.std.proofs.Common.{◌≡◌, ◌≢◌, ◌∙◌, sym, ap, subst, refl, ℕ, zero, suc, ◌+◌, ◌<◌, ◌≤◌, List, [], ◌∷◌, ◌++◌, Option, Some, None, Vec, Global, arith, length, get_or, set, inl, inr, true, false, ◌==◌}
use Rattle.std.specs.Prelude.{All, map, min, slice_get, slice_index, vec_capacity, drop, replicate}
use Rattle.std.specs.Option.{option_map}
use Rattle.std.specs.Vec.{with_item}
use Rattle.std.proofs.lemmas.Bool.{cases_eq}
use Rattle.std.proofs.lemmas.Bool.Decides.{nat_tests}
use Rattle.std.proofs.lemmas.List.{get_or-map, get_or-set_other, get_or-set_same, get_or_default, length-map, length-set, map-append, map-set, drop-map, same_lists, get_or_append_left, get_or_push, length_push}
use Rattle.std.proofs.lemmas.List.Elements.{All-push, All-set}
use Rattle.dep_check.specs.declared.channel.Channel.{Channel}
use Rattle.dep_check.specs.Tables.{IsSpot, place_of, wire_at, WiresAreWithin}
use Rattle.dep_check.proofs.SpotLemmas.{one_spot, place_low}
use Rattle.fcfc_router.specs.Router.{RequestOf}
use Rattle.fcfc_router.specs.Shown.{ports_of, RouterOf}
use Rattle.an_base.specs.Rows.{ArePorts, ExitsRise}
use Rattle.common_values.proofs.RangeLemmas.{range_rises}
use Rattle.fcfc_router.specs.Calls.{MayAsk}
use Rattle.flow_channels.specs.declared.board.Board.{Board}
use Rattle.flow_channels.specs.declared.board.Packet.{Packet}
use Rattle.flow_channels.specs.declared.tables.Tables.{Tables}
use Rattle.flow_channels.specs.Board.{AreEmptyQueues, AreIdleRouters, exit_set, flow_of, HasLink, HaveMost, IsAsked, IsKept, IsSoundOver, packet_at, packet_of, packets_in, wait_at, waits_at}
use Rattle.flow_channels.specs.Flows.{FlowOf, PacketOf, WaitOf, asks, asks_at, empty_flow, first_asks, first_of, queue_at, waiting_at, with_queue}
use Rattle.std.specs.List.{list_any}
use Rattle.flow_channels.specs.Layout.{LayoutOf, exits_of, has_exit, spot}
use Rattle.flow_channels.specs.Queue.{QueueOf}
use Rattle.flow_channels.proofs.AskLaws.{exits_are_ports, has_exits, room_left, waits_nowhere, way_on}

abbrev pub made : Vec Packet Global → Vec ℕ Global → Vec QueueOf Global → Vec RouterOf Global → Board
made p e q r = record { packets = p; entries = e; queues = q; routers = r }

module _ (p : Vec Packet Global) (e : Vec ℕ Global) (q : Vec QueueOf Global) (r : Vec RouterOf Global) where
  pub queue_is : (channel : Channel) (none : QueueOf) → length q.items ≡ 1651 → IsSpot channel → queue_at (flow_of (made p e q r)) channel ≡ packets_in p.items (get_or q.items (place_of channel) none)
  queue_is channel none size is = get_or-map (packets_in p.items) q.items (place_of channel) none [] (let low = place_low channel is in omega arith)

  pub waiting_is : (at : ℕ) (none : RouterOf) → length r.items ≡ 127 → at < 127 → waiting_at (flow_of (made p e q r)) at ≡ waits_at p.items e.items (get_or r.items at none)
  waiting_is at none size low = get_or-map (waits_at p.items e.items) r.items at none [] (omega arith)

  first_slot : (slots : List ℕ) → slice_get (map (packet_at p.items) slots) 0 ≡ option_map (packet_at p.items) (slice_get slots 0)
  first_slot [] = refl
  first_slot (slot ∷ slots) = refl

  -- the first packet of a channel by its place
  pub first_is : (channel : Channel) (first : Option ℕ) → length q.items ≡ 1651 → IsSpot channel → ((none : QueueOf) → first ≡ slice_get (get_or q.items (place_of channel) none).slots 0) → first_of (flow_of (made p e q r)) channel ≡ option_map (packet_at p.items) first
  first_is channel first size is reads =
      let none : QueueOf = record { places = 0; slots = [] } in
      ap (λ (ps : List PacketOf). slice_get ps 0) (queue_is channel none size is)
      ∙ first_slot (get_or q.items (place_of channel) none).slots
      ∙ ap (option_map (packet_at p.items)) (sym (reads none))

  -- a queue is written
  pub queue_written : (channel : Channel) (queue : QueueOf) → flow_of (made p e (with_item q (place_of channel) queue) r) ≡ with_queue channel (packets_in p.items queue) (flow_of (made p e q r))
  queue_written channel queue = ap (λ (qs : List (List PacketOf)). let f : FlowOf = record { queues = qs; waiting = map (waits_at p.items e.items) r.items } in f) (map-set (packets_in p.items) q.items (place_of channel) queue)

got_first : (slots : List ℕ) (slot d : ℕ) → slice_get slots 0 ≡ Some slot → (0 < length slots) × (get_or slots 0 d ≡ slot)
got_first [] slot d e = absurd (cc)
got_first (x ∷ slots) slot d e = (omega arith, same x slot e)
  where
    same : (x y : ℕ) → Some x ≡ Some y → x ≡ y
    same x y e = cc

-- what is first entered
pub first_low : (tables : Tables) (board : Board) (channel : Channel) (first : Option ℕ) (slot : ℕ) → IsKept tables board → IsSpot channel → ((none : QueueOf) → first ≡ slice_get (get_or board.queues.items (place_of channel) none).slots 0) → first ≡ Some slot → slot < length board.packets.items
first_low tables board channel first slot kept is reads some =
    let none : QueueOf = record { places = 0; slots = [] } in
    let low = place_low channel is in
    let size = kept.queues in
    let slots = (get_or board.queues.items (place_of channel) none).slots in
    let got = got_first slots slot 0 (sym (reads none) ∙ some) in
    subst (λ (n : ℕ). n < length board.packets.items) got.1 (kept.queued (place_of channel) none (omega arith) 0 0 got.0)

-- the first packet of a channel asks, or does not
pub asks_nothing : (layout : LayoutOf) (channel : Channel) (flow : FlowOf) → first_of flow channel ≡ None → first_asks layout channel flow ≡ flow
asks_nothing layout channel flow none = go (layout.far channel) (first_of flow channel) none
  where
    go : (o : Option Channel) (first : Option PacketOf) → first ≡ None → asks_at o first flow ≡ flow
    go None first none = refl
    go (Some end) None none = refl
    go (Some end) (Some packet) none = absurd (cc)

pub asks_there : (layout : LayoutOf) (channel end : Channel) (packet : PacketOf) (flow : FlowOf) → layout.far channel ≡ Some end → first_of flow channel ≡ Some packet → end.at ≢ packet.to → first_asks layout channel flow ≡ asks end.at (record { packet = packet; entry = end.port }) flow
asks_there layout channel end packet flow far first before =
    let test : (end.at == packet.to) ≡ false = (grind (arith, nat_tests)) in
    ap (λ (o : Option Channel). asks_at o (first_of flow channel) flow) far ∙ ap (λ (o : Option PacketOf). asks_at (Some end) o flow) first ∙ rw test refl

pub asks_not : (layout : LayoutOf) (channel end : Channel) (packet : PacketOf) (flow : FlowOf) → layout.far channel ≡ Some end → first_of flow channel ≡ Some packet → end.at ≡ packet.to → first_asks layout channel flow ≡ flow
asks_not layout channel end packet flow far first here =
    let test : (end.at == packet.to) ≡ true = (grind (arith, nat_tests)) in
    ap (λ (o : Option Channel). asks_at o (first_of flow channel) flow) far ∙ ap (λ (o : Option PacketOf). asks_at (Some end) o flow) first ∙ rw test refl

-- a queue that is written keeps all
pub kept_queue : (tables : Tables) (p : Vec Packet Global) (e : Vec ℕ Global) (q : Vec QueueOf Global) (r : Vec RouterOf Global) (place : ℕ) (queue : QueueOf) → IsKept tables (made p e q r) → All (λ slot. slot < length p.items) queue.slots → ((none : QueueOf) → queue.places ≡ (get_or q.items place none).places) → IsKept tables (made p e (with_item q place queue) r)
kept_queue tables p e q r place queue kept slots same = record {
  within = kept.within;
  queues = length-set q.items place queue ∙ kept.queues;
  routers = kept.routers;
  count = kept.count;
  capacity = kept.capacity;
  few = kept.few;
  targets = kept.targets;
  queued = All-set (λ (x : QueueOf). All (λ slot. slot < length p.items) x.slots) q.items place queue slots kept.queued;
  places = λ channel far none is low link. elim (cases_eq (place_of channel) place) [
    | inl here ↦ (
        let size = kept.queues in
        let written = get_or-set_same q.items place queue none (omega arith) in
        ap (λ (k : ℕ). (get_or (set q.items place queue) k none).places) here
        ∙ ap (λ (x : QueueOf). x.places) written
        ∙ same none
        ∙ ap (λ (k : ℕ). (get_or q.items k none).places) (sym here)
        ∙ kept.places channel far none is low link)
    | inr other ↦ (ap (λ (x : QueueOf). x.places) (get_or-set_other q.items place (place_of channel) queue none other) ∙ kept.places channel far none is low link)
  ];
  asked = λ at none low k d below. let here = kept.asked at none low k d below in record { slot = here.slot; ports = here.ports };
  most = kept.most;
}

-- what the queue of a channel is
pub queue_facts : (tables : Tables) (board : Board) (place : ℕ) (queue : QueueOf) → IsKept tables board → place < 1651 → queue ≡ get_or board.queues.items place queue → All (λ slot. slot < length board.packets.items) queue.slots
queue_facts tables board place queue kept low is =
    let size = kept.queues in
    subst (λ (x : QueueOf). All (λ slot. slot < length board.packets.items) x.slots) (sym is) (kept.queued place queue (omega arith))

-- it is the same read with another default
pub same_places : (queues : List QueueOf) (place : ℕ) (queue none : QueueOf) → place < length queues → queue ≡ get_or queues place queue → queue.places ≡ (get_or queues place none).places
same_places queues place queue none low is = ap (λ (x : QueueOf). x.places) (is ∙ get_or_default queues place queue none low)

-- a router that is written holds as many as the one before it
pub most_kept : (wires : List (Option Channel)) (most place : ℕ) (routers : List RouterOf) (old new : RouterOf) → length routers ≡ 127 → HaveMost wires most 127 routers → place < 127 → old ≡ get_or routers place old → new.most ≡ old.most → HaveMost wires most 127 (set routers place new)
most_kept wires most place routers old new size have low old_is same at none below link = elim (cases_eq at place) [
  | inl here ↦ (
      ap (λ (k : ℕ). (get_or (set routers place new) k none).most) here
      ∙ ap (λ (x : RouterOf). x.most) (get_or-set_same routers place new none (omega arith))
      ∙ same
      ∙ ap (λ (x : RouterOf). x.most) (old_is ∙ get_or_default routers place old none (omega arith))
      ∙ ap (λ (k : ℕ). (get_or routers k none).most) (sym here)
      ∙ have at none below link)
  | inr other ↦ (ap (λ (x : RouterOf). x.most) (get_or-set_other routers place at new none other) ∙ have at none below link)
]

-- what a read gives
pub read_packet : (packets : List Packet) (slot : ℕ) (packet : Packet) → slot < length packets → packet ≡ get_or packets slot packet → packet ≡ get_or packets slot (record { packet = 0; to = 0 })
read_packet packets slot packet low is = is ∙ get_or_default packets slot packet (record { packet = 0; to = 0 }) low

-- the first packet of a channel leaves it
pub popped : (p : Vec Packet Global) (e : Vec ℕ Global) (q : Vec QueueOf Global) (r : Vec RouterOf Global) (channel : Channel) (place : ℕ) (old new : QueueOf) → length q.items ≡ 1651 → IsSpot channel → place ≡ place_of channel → old ≡ get_or q.items place old → new ≡ record old { slots = drop 1 old.slots } → flow_of (made p e (with_item q place new) r) ≡ with_queue channel (drop 1 (queue_at (flow_of (made p e q r)) channel)) (flow_of (made p e q r))
popped p e q r channel place old new size is place_is read new_is =
    ap (λ (k : ℕ). flow_of (made p e (with_item q k new) r)) place_is
    ∙ queue_written p e q r channel new
    ∙ ap (λ (ps : List PacketOf). with_queue channel ps (flow_of (made p e q r))) (
    ap (λ (x : QueueOf). packets_in p.items x) new_is
    ∙ sym (drop-map (packet_at p.items) 1 old.slots)
    ∙ ap (λ (x : QueueOf). drop 1 (packets_in p.items x)) (read ∙ ap (λ (k : ℕ). get_or q.items k old) place_is)
    ∙ ap (λ (ps : List PacketOf). drop 1 ps) (sym (queue_is p e q r channel old size is)))

abbrev state : List (List PacketOf) → List (List WaitOf) → FlowOf
state queues waiting = record { queues = queues; waiting = waiting }

abbrev waits : PacketOf → ℕ → WaitOf
waits packet n = record { packet = packet; entry = n }

-- what waits elsewhere does not see an entry that is written
waits_same : (p : List Packet) (e : List ℕ) (slot entry : ℕ) (ws : List RequestOf) → All (λ request. request.packet ≢ slot) ws → map (λ request. wait_at p (set e slot entry) request.packet) ws ≡ map (λ request. wait_at p e request.packet) ws
waits_same p e slot entry [] none = refl
waits_same p e slot entry (x ∷ ws) none =
    let rest = waits_same p e slot entry ws (λ k d low. none (suc k) d (omega arith)) in
    let here : get_or (set e slot entry) x.packet 0 ≡ get_or e x.packet 0 = get_or-set_other e slot x.packet entry 0 (none 0 x (omega arith)) in
    let first : wait_at p (set e slot entry) x.packet ≡ wait_at p e x.packet = ap (λ (n : ℕ). waits (packet_at p x.packet) n) here in
    ap (λ (w : WaitOf). w ∷ map (λ request. wait_at p (set e slot entry) request.packet) ws) first ∙ ap (λ (vs : List WaitOf). wait_at p e x.packet ∷ vs) rest

module _ (tables : Tables) (p : Vec Packet Global) (e : Vec ℕ Global) (q : Vec QueueOf Global) (r : Vec RouterOf Global) (kept : IsKept tables (made p e q r)) (at slot entry : ℕ) (at_low : at < 127) (entry_low : entry < 13) (slot_low : slot < length p.items) where
  abbrev pub wait : WaitOf
  wait = record { packet = packet_at p.items slot; entry = entry }

  module _ (sound : IsSoundOver tables (asks at (record { packet = packet_at p.items slot; entry = entry }) (flow_of (made p e q r)))) where
    -- the packet waits nowhere
    pub nowhere : (b : ℕ) (none : RouterOf) → b < 127 → All (λ request. request.packet ≢ slot) (get_or r.items b none).waiting
    nowhere b none low k d below same =
        let ws = (get_or r.items b none).waiting in
        let all = waits_nowhere sound.layout sound.wired sound.joined sound.known (flow_of (made p e q r)) at wait at_low sound.sound b in
        let here : All (λ v. v.packet.packet ≢ wait.packet.packet) (waits_at p.items e.items (get_or r.items b none)) = subst (λ (vs : List WaitOf). All (λ v. v.packet.packet ≢ wait.packet.packet) vs) (waiting_is p e q r b none kept.routers low) all in
        let n = length-map ws (λ (request : RequestOf). wait_at p.items e.items request.packet) in
        here k (wait_at p.items e.items d.packet) (omega arith) (
        ap (λ (v : WaitOf). v.packet.packet) (get_or-map (λ (request : RequestOf). wait_at p.items e.items request.packet) ws k d (wait_at p.items e.items d.packet) below)
        ∙ ap (λ (s : ℕ). (packet_at p.items s).packet) same)

    module _ (place exits : ℕ) (old : RouterOf) (packet : Packet) (place_is : place ≡ at) (old_is : old ≡ get_or r.items place old) (packet_is : packet ≡ get_or p.items slot packet) (exits_is : exits ≡ exit_set tables.exits (spot at entry) packet.to) where
      router_here : old ≡ get_or r.items at old
      router_here = old_is ∙ ap (λ (k : ℕ). get_or r.items k old) place_is

      packet_here : packet_of packet ≡ packet_at p.items slot
      packet_here = ap packet_of (read_packet p.items slot packet slot_low packet_is)

      old_waits : waiting_at (flow_of (made p e q r)) at ≡ waits_at p.items e.items old
      old_waits = waiting_is p e q r at old kept.routers at_low ∙ ap (waits_at p.items e.items) (sym router_here)

      pub exits_are : ports_of exits ≡ exits_of sound.layout (spot at entry) (packet_at p.items slot).to
      exits_are =
          let low : packet.to < 127 = subst (λ (x : Packet). x.to < 127) (sym packet_is) (kept.targets slot packet slot_low) in
          ap ports_of exits_is
          ∙ sound.tables_are.exits (spot at entry) packet.to (record { at = at_low; port = entry_low }) low
          ∙ ap (λ (x : PacketOf). exits_of sound.layout (spot at entry) x.to) packet_here

      -- it has an exit, and so there is a link
      link : HasLink tables.wires.items at
      link =
          let way = way_on sound.layout sound.wired sound.joined sound.known (flow_of (made p e q r)) at wait at_low sound.sound in
          (way.exit, way.far, sound.tables_are.far (spot at way.exit) ∙ way.link)

      pub may_ask : MayAsk old.most old.waiting (record { packet = slot; ports = ports_of exits })
      may_ask =
          let f = flow_of (made p e q r) in
          let room = room_left sound.layout sound.wired sound.joined sound.known f at wait at_low sound.sound in
          let few = sound.few in
          let n = ap (λ (ws : List WaitOf). length ws) old_waits ∙ length-map old.waiting (λ (request : RequestOf). wait_at p.items e.items request.packet) in
          let size = kept.routers in
          let most : old.most ≡ tables.limit = ap (λ (x : RouterOf). x.most) router_here ∙ kept.most at old at_low link in
          record {
            room = omega arith;
            new = subst (λ (x : RouterOf). All (λ request. request.packet ≢ slot) x.waiting) (sym router_here) (nowhere at old at_low);
            some = subst (λ (xs : List ℕ). 1 ≤ length xs) (sym exits_are) (has_exits sound.layout sound.wired sound.joined sound.known f at wait at_low sound.sound);
            ports = subst (λ (xs : List ℕ). ArePorts xs) (sym exits_are) (exits_are_ports sound.layout sound.wired sound.joined sound.known f at wait at_low sound.sound);
            rising = subst (λ (xs : List ℕ). ExitsRise xs) (sym exits_are) (range_rises (λ exit. list_any (has_exit (spot at entry) (packet_at p.items slot).to exit) sound.layout.rows) 13 0);
          }

      module _ (new : RouterOf) (new_is : new ≡ record old { waiting = old.waiting ++ (record { packet = slot; ports = ports_of exits } ∷ []) }) where
        pub flow_asked : flow_of (made p (with_item e slot entry) q (with_item r place new)) ≡ asks at wait (flow_of (made p e q r))
        flow_asked =
            let after = waits_at p.items (set e.items slot entry) in
            ap (λ (k : ℕ). flow_of (made p (with_item e slot entry) q (with_item r k new))) place_is
            ∙ ap (λ (wss : List (List WaitOf)). state (map (packets_in p.items) q.items) wss) (map-set after r.items at new)
            ∙ ap (λ (wss : List (List WaitOf)). state (map (packets_in p.items) q.items) (set wss at (after new))) others
            ∙ ap (λ (ws : List WaitOf). state (map (packets_in p.items) q.items) (set (map (waits_at p.items e.items) r.items) at ws)) last
          where
            others : map (waits_at p.items (set e.items slot entry)) r.items ≡ map (waits_at p.items e.items) r.items
            others = same_lists (map (waits_at p.items (set e.items slot entry)) r.items) (map (waits_at p.items e.items) r.items) (length-map r.items (waits_at p.items (set e.items slot entry)) ∙ sym (length-map r.items (waits_at p.items e.items))) (λ k d low.
                let none : RouterOf = record { most = 0; waiting = [] } in
                let n = length-map r.items (waits_at p.items (set e.items slot entry)) in
                let size = kept.routers in
                get_or-map (waits_at p.items (set e.items slot entry)) r.items k none d (omega arith)
                ∙ waits_same p.items e.items slot entry (get_or r.items k none).waiting (nowhere k none (omega arith))
                ∙ sym (get_or-map (waits_at p.items e.items) r.items k none d (omega arith)))

            last : waits_at p.items (set e.items slot entry) new ≡ waiting_at (flow_of (made p e q r)) at ++ (wait ∷ [])
            last =
                let c = kept.count in
                ap (waits_at p.items (set e.items slot entry)) new_is
                ∙ map-append (λ (request : RequestOf). wait_at p.items (set e.items slot entry) request.packet) old.waiting (record { packet = slot; ports = ports_of exits } ∷ [])
                ∙ ap (λ (ws : List WaitOf). ws ++ (wait_at p.items (set e.items slot entry) slot ∷ [])) (
                waits_same p.items e.items slot entry old.waiting (subst (λ (x : RouterOf). All (λ request. request.packet ≢ slot) x.waiting) (sym router_here) (nowhere at old at_low))
                ∙ sym old_waits)
                ∙ ap (λ (n : ℕ). waiting_at (flow_of (made p e q r)) at ++ (waits (packet_at p.items slot) n ∷ [])) (get_or-set_same e.items slot entry 0 (omega arith))

        pub kept_asked : IsKept tables (made p (with_item e slot entry) q (with_item r place new))
        kept_asked = record {
          within = kept.within;
          queues = kept.queues;
          routers = length-set r.items place new ∙ kept.routers;
          count = length-set e.items slot entry ∙ kept.count;
          capacity = kept.capacity;
          few = kept.few;
          targets = kept.targets;
          queued = kept.queued;
          places = kept.places;
          asked = λ b none low. subst (λ (k : ℕ). All (IsAsked tables.exits (made p (with_item e slot entry) q (with_item r place new)) b) (get_or (set r.items k new) b none).waiting) (sym place_is) (elim (cases_eq b at) [
            | inl here ↦ subst (λ (x : ℕ). All (IsAsked tables.exits (made p (with_item e slot entry) q (with_item r place new)) x) (get_or (set r.items at new) x none).waiting) (sym here) (
                let size = kept.routers in
                subst (λ (x : RouterOf). All (IsAsked tables.exits (made p (with_item e slot entry) q (with_item r place new)) at) x.waiting) (sym (get_or-set_same r.items at new none (omega arith))) own)
            | inr other ↦ subst (λ (x : RouterOf). All (IsAsked tables.exits (made p (with_item e slot entry) q (with_item r place new)) b) x.waiting) (sym (get_or-set_other r.items at b new none other)) (before b none low)
          ]);
          most = most_kept tables.wires.items tables.limit place r.items old new kept.routers kept.most (let low = at_low in omega arith) old_is (ap (λ (x : RouterOf). x.most) new_is);
        }
          where
            one : (b : ℕ) (request : RequestOf) → IsAsked tables.exits (made p e q r) b request → request.packet ≢ slot → IsAsked tables.exits (made p (with_item e slot entry) q (with_item r place new)) b request
            one b request asked other = record {
              slot = asked.slot;
              ports = asked.ports ∙ ap (λ (n : ℕ). ports_of (exit_set tables.exits (spot b n) (packet_at p.items request.packet).to)) (sym (get_or-set_other e.items slot request.packet entry 0 other));
            }

            before : (b : ℕ) (none : RouterOf) → b < 127 → All (IsAsked tables.exits (made p (with_item e slot entry) q (with_item r place new)) b) (get_or r.items b none).waiting
            before b none low k d below = one b (get_or (get_or r.items b none).waiting k d) (kept.asked b none low k d below) (nowhere b none low k d below)

            mine : IsAsked tables.exits (made p (with_item e slot entry) q (with_item r place new)) at (record { packet = slot; ports = ports_of exits })
            mine =
                let c = kept.count in
                record {
                  slot = slot_low;
                  ports = ap ports_of exits_is
                      ∙ ap (λ (x : PacketOf). ports_of (exit_set tables.exits (spot at entry) x.to)) packet_here
                      ∙ ap (λ (n : ℕ). ports_of (exit_set tables.exits (spot at n) (packet_at p.items slot).to)) (sym (get_or-set_same e.items slot entry 0 (omega arith)));
                }

            own : All (IsAsked tables.exits (made p (with_item e slot entry) q (with_item r place new)) at) new.waiting
            own = subst (λ (x : RouterOf). All (IsAsked tables.exits (made p (with_item e slot entry) q (with_item r place new)) at) x.waiting) (sym new_is) (
                All-push (IsAsked tables.exits (made p (with_item e slot entry) q (with_item r place new)) at) old.waiting (record { packet = slot; ports = ports_of exits }) (subst (λ (x : RouterOf). All (IsAsked tables.exits (made p (with_item e slot entry) q (with_item r place new)) at) x.waiting) (sym router_here) (before at old at_low)) mine)

-- two reads of one place
pub one_read : (queues : List QueueOf) (i j : ℕ) (a b : QueueOf) → i ≡ j → length queues ≡ 1651 → i < 1651 → a ≡ get_or queues i a → b ≡ get_or queues j b → a ≡ b
one_read queues i j a b same size low first second = first ∙ get_or_default queues i a b (omega arith) ∙ ap (λ (k : ℕ). get_or queues k b) same ∙ sym second

-- nothing is on the way
no_packets : (p : List Packet) (n : ℕ) (queues : List QueueOf) → length queues ≡ n → All (λ queue. queue.slots ≡ []) queues → map (packets_in p) queues ≡ replicate n []
no_packets p zero [] count empty = refl
no_packets p (suc n) [] count empty = absurd (omega arith)
no_packets p zero (queue ∷ queues) count empty = absurd (omega arith)
no_packets p (suc n) (queue ∷ queues) count empty =
    let rest = no_packets p n queues (omega arith) (λ k d low. empty (suc k) d (omega arith)) in
    let first : packets_in p queue ≡ [] = ap (map (packet_at p)) (empty 0 queue (omega arith)) in
    ap (λ (ps : List PacketOf). ps ∷ map (packets_in p) queues) first ∙ ap (λ (qs : List (List PacketOf)). [] ∷ qs) rest

nobody_waits : (p : List Packet) (e : List ℕ) (n : ℕ) (routers : List RouterOf) → length routers ≡ n → All (λ router. router.waiting ≡ []) routers → map (waits_at p e) routers ≡ replicate n []
nobody_waits p e zero [] count idle = refl
nobody_waits p e (suc n) [] count idle = absurd (omega arith)
nobody_waits p e zero (router ∷ routers) count idle = absurd (omega arith)
nobody_waits p e (suc n) (router ∷ routers) count idle =
    let rest = nobody_waits p e n routers (omega arith) (λ k d low. idle (suc k) d (omega arith)) in
    let first : waits_at p e router ≡ [] = ap (map (λ request. wait_at p e request.packet)) (idle 0 router (omega arith)) in
    ap (λ (ws : List WaitOf). ws ∷ map (waits_at p e) routers) first ∙ ap (λ (wss : List (List WaitOf)). [] ∷ wss) rest

pub empty_is : (p : Vec Packet Global) (e : Vec ℕ Global) (q : Vec QueueOf Global) (r : Vec RouterOf Global) → length q.items ≡ 1651 → All (λ queue. queue.slots ≡ []) q.items → length r.items ≡ 127 → All (λ router. router.waiting ≡ []) r.items → flow_of (made p e q r) ≡ empty_flow
empty_is p e q r spots queues numbers routers =
    ap (λ (qs : List (List PacketOf)). state qs (map (waits_at p.items e.items) r.items)) (no_packets p.items 1651 q.items spots queues)
    ∙ ap (λ (ws : List (List WaitOf)). state (replicate 1651 []) ws) (nobody_waits p.items e.items 127 r.items numbers routers)

pub kept_empty : (tables : Tables) (p : Vec Packet Global) (e : Vec ℕ Global) (q : Vec QueueOf Global) (r : Vec RouterOf Global) → WiresAreWithin tables.wires.items → p.items ≡ [] → e.items ≡ [] → tables.limit ≤ vec_capacity p → tables.limit ≤ vec_capacity e → AreEmptyQueues tables.wires.items (min tables.room tables.limit) 1651 q.items → AreIdleRouters tables.wires.items tables.limit 127 r.items → IsKept tables (made p e q r)
kept_empty tables p e q r within packets entries pc ec queues routers = record {
  within = within;
  queues = queues.count;
  routers = routers.count;
  count = ap (λ (xs : List ℕ). length xs) entries ∙ ap (λ (xs : List Packet). length xs) (sym packets);
  capacity = (pc, ec);
  few = let n = ap (λ (xs : List Packet). length xs) packets in omega arith;
  targets = subst (λ (xs : List Packet). All (λ packet. packet.to < 127) xs) (sym packets) (λ k d low. absurd (omega arith));
  queued = λ k d low. subst (λ (xs : List ℕ). All (λ slot. slot < length p.items) xs) (sym (queues.empty k d low)) (λ j f below. absurd (omega arith));
  places = queues.places_are;
  asked = λ at none low. let size = routers.count in subst (λ (ws : List RequestOf). All (IsAsked tables.exits (made p e q r) at) ws) (sym (routers.idle at none (omega arith))) (λ k d inside. absurd (omega arith));
  most = routers.most_is;
}

-- one more router
pub one_more_router : (wires : List (Option Channel)) (most at : ℕ) (routers : List RouterOf) (router : RouterOf) → AreIdleRouters wires most at routers → router.waiting ≡ [] → (HasLink wires at → router.most ≡ most) → AreIdleRouters wires most (at + 1) (routers ++ (router ∷ []))
one_more_router wires most at routers router old idle room = record {
  count = let n = length_push routers router in let m = old.count in omega arith;
  idle = All-push (λ (x : RouterOf). x.waiting ≡ []) routers router old.idle idle;
  most_is = λ other none low link. let m = old.count in elim (cases_eq other at) [
    | inl here ↦ (
        ap (λ (x : RouterOf). x.most) (get_or_push routers router none other (m ∙ sym here))
        ∙ room (subst (λ (k : ℕ). HasLink wires k) here link))
    | inr before ↦ (ap (λ (x : RouterOf). x.most) (get_or_append_left routers (router ∷ []) none other (omega arith)) ∙ old.most_is other none (omega arith) link)
  ];
}

-- one more queue
pub one_more_queue : (wires : List (Option Channel)) (places place : ℕ) (spot : Channel) (queues : List QueueOf) (queue : QueueOf) → AreEmptyQueues wires places place queues → IsSpot spot → place_of spot ≡ place → queue.slots ≡ [] → ((far : Channel) → wire_at wires spot ≡ Some far → queue.places ≡ places) → AreEmptyQueues wires places (place + 1) (queues ++ (queue ∷ []))
one_more_queue wires places place spot queues queue old is at empty room = record {
  count = let n = length_push queues queue in let m = old.count in omega arith;
  empty = All-push (λ (x : QueueOf). x.slots ≡ []) queues queue old.empty empty;
  places_are = λ channel far none other low link. let m = old.count in elim (cases_eq (place_of channel) place) [
    | inl here ↦ (
        ap (λ (x : QueueOf). x.places) (get_or_push queues queue none (place_of channel) (m ∙ sym here))
        ∙ room far (ap (λ (s : Channel). wire_at wires s) (one_spot spot channel is other (at ∙ sym here)) ∙ link))
    | inr before ↦ (ap (λ (x : QueueOf). x.places) (get_or_append_left queues (queue ∷ []) none (place_of channel) (omega arith)) ∙ old.places_are channel far none other (omega arith) link)
  ];
}

-- two functions that agree on a list
same_map : {A B : Type 0} (f g : A → B) (xs : List A) → ((k : ℕ) (d : A) → k < length xs → f (get_or xs k d) ≡ g (get_or xs k d)) → map f xs ≡ map g xs
same_map f g [] agree = refl
same_map {B = B} f g (x ∷ xs) agree =
    let rest = same_map f g xs (λ k d low. agree (suc k) d (omega arith)) in
    ap (λ (y : B). y ∷ map f xs) (agree 0 x (omega arith)) ∙ ap (λ (ys : List B). g x ∷ ys) rest

-- one more packet
pub flow_more : (p p' : Vec Packet Global) (e e' : Vec ℕ Global) (q : Vec QueueOf Global) (r : Vec RouterOf Global) (tables : Tables) (packet : Packet) → IsKept tables (made p e q r) → p'.items ≡ p.items ++ (packet ∷ []) → e'.items ≡ e.items ++ (0 ∷ []) → flow_of (made p' e' q r) ≡ flow_of (made p e q r)
flow_more p p' e e' q r tables packet kept more entry =
    ap (λ (ps : List Packet). state (map (packets_in ps) q.items) (map (waits_at ps e'.items) r.items)) more
    ∙ ap (λ (es : List ℕ). state (map (packets_in (p.items ++ (packet ∷ []))) q.items) (map (waits_at (p.items ++ (packet ∷ [])) es) r.items)) entry
    ∙ ap (λ (qs : List (List PacketOf)). state qs (map (waits_at (p.items ++ (packet ∷ [])) (e.items ++ (0 ∷ []))) r.items)) queues
    ∙ ap (λ (ws : List (List WaitOf)). state (map (packets_in p.items) q.items) ws) all_waits
  where
    packet_same : (slot : ℕ) → slot < length p.items → packet_at (p.items ++ (packet ∷ [])) slot ≡ packet_at p.items slot
    packet_same slot low = ap packet_of (get_or_append_left p.items (packet ∷ []) (record { packet = 0; to = 0 }) slot low)

    packets_same : (slots : List ℕ) → All (λ slot. slot < length p.items) slots → map (packet_at (p.items ++ (packet ∷ []))) slots ≡ map (packet_at p.items) slots
    packets_same slots all = same_map (packet_at (p.items ++ (packet ∷ []))) (packet_at p.items) slots (λ k d low. packet_same (get_or slots k d) (all k d low))

    queues : map (packets_in (p.items ++ (packet ∷ []))) q.items ≡ map (packets_in p.items) q.items
    queues = same_map (packets_in (p.items ++ (packet ∷ []))) (packets_in p.items) q.items (λ k d low. packets_same (get_or q.items k d).slots (kept.queued k d low))

    wait_same : (slot : ℕ) → slot < length p.items → wait_at (p.items ++ (packet ∷ [])) (e.items ++ (0 ∷ [])) slot ≡ wait_at p.items e.items slot
    wait_same slot low =
        let count = kept.count in
        ap (λ (x : PacketOf). waits x (slice_index (e.items ++ (0 ∷ [])) slot)) (packet_same slot low)
        ∙ ap (λ (n : ℕ). waits (packet_at p.items slot) n) (get_or_append_left e.items (0 ∷ []) 0 slot (omega arith))

    all_waits : map (waits_at (p.items ++ (packet ∷ [])) (e.items ++ (0 ∷ []))) r.items ≡ map (waits_at p.items e.items) r.items
    all_waits = same_map (waits_at (p.items ++ (packet ∷ [])) (e.items ++ (0 ∷ []))) (waits_at p.items e.items) r.items (λ at none low.
        same_map (λ (request : RequestOf). wait_at (p.items ++ (packet ∷ [])) (e.items ++ (0 ∷ [])) request.packet) (λ (request : RequestOf). wait_at p.items e.items request.packet) (get_or r.items at none).waiting (λ k d inside.
        wait_same (get_or (get_or r.items at none).waiting k d).packet (let size = kept.routers in (kept.asked at none (omega arith) k d inside).slot)))

pub kept_more : (p p' : Vec Packet Global) (e e' : Vec ℕ Global) (q : Vec QueueOf Global) (r : Vec RouterOf Global) (tables : Tables) (packet : Packet) → IsKept tables (made p e q r) → p'.items ≡ p.items ++ (packet ∷ []) → e'.items ≡ e.items ++ (0 ∷ []) → vec_capacity p ≤ vec_capacity p' → vec_capacity e ≤ vec_capacity e' → packet.to < 127 → length p.items < tables.limit → IsKept tables (made p' e' q r)
kept_more p p' e e' q r tables packet kept more entry pc ec to low =
    let n = ap (λ (xs : List Packet). length xs) more ∙ length_push p.items packet in
    let m = ap (λ (xs : List ℕ). length xs) entry ∙ length_push e.items 0 in
    let count = kept.count in
    let c0 = kept.capacity.0 in
    let c1 = kept.capacity.1 in
    record {
      within = kept.within;
      queues = kept.queues;
      routers = kept.routers;
      count = omega arith;
      capacity = (omega arith, omega arith);
      few = omega arith;
      targets = subst (λ (xs : List Packet). All (λ x. x.to < 127) xs) (sym more) (All-push (λ (x : Packet). x.to < 127) p.items packet kept.targets to);
      queued = λ k d inside j f below. let h = kept.queued k d inside j f below in omega arith;
      places = kept.places;
      asked = λ at none at_low k d inside. (
          let here = kept.asked at none at_low k d inside in
          let request = get_or (get_or r.items at none).waiting k d in
          let slot = here.slot in
          record {
            slot = omega arith;
            ports = here.ports
                ∙ ap (λ (x : PacketOf). ports_of (exit_set tables.exits (spot at (slice_index e.items request.packet)) x.to)) (ap packet_of (sym (get_or_append_left p.items (packet ∷ []) (record { packet = 0; to = 0 }) request.packet slot)) ∙ ap (λ (xs : List Packet). packet_at xs request.packet) (sym more))
                ∙ ap (λ (i : ℕ). ports_of (exit_set tables.exits (spot at i) (packet_at p'.items request.packet).to)) (sym (get_or_append_left e.items (0 ∷ []) 0 request.packet (omega arith)) ∙ ap (λ (xs : List ℕ). slice_index xs request.packet) (sym entry));
          });
      most = kept.most;
    }

-- a packet starts at a switch
abbrev pub starts : ℕ → PacketOf → FlowOf → FlowOf
starts from packet flow = asks from (record { packet = packet; entry = 0 }) flow
