-- Who is let go by its router makes the next move.
use Rattle.std.proofs.Common.{◌≡◌, ◌∙◌, sym, ap, subst, refl, ℕ, ◌<◌, ◌≤◌, List, [], ◌∷◌, ◌++◌, Option, Some, None, true, arith, length, get_or, set, inl, inr, ◌==◌}
use Rattle.std.specs.Prelude.{Contains, IsTrue, if◌then◌else◌, slice_index, map, remove, slice_get}
use Rattle.std.specs.Int.{bit_at}
use Rattle.std.specs.Ordering.{is_le, nat_cmp, ordering_then}
use Rattle.std.proofs.lemmas.Bool.{cases_order}
use Rattle.std.proofs.lemmas.List.{get_or_at, get_or_append_left, get_or_default, get_or-map, length-append, length-map, map-append, map-set}
use Rattle.dep_check.specs.declared.channel.Channel.{Channel}
use Rattle.dep_check.proofs.BridgeLemmas.{wire_spot}
use Rattle.dep_check.proofs.SpotLemmas.{option_cases}
use Rattle.fcfc_router.specs.Router.{NoneCanGo, RequestOf}
use Rattle.fcfc_router.specs.Shown.{RouterOf}
use Rattle.flow_channels.specs.declared.board.Board.{Board}
use Rattle.flow_channels.specs.declared.board.Departure.{Departure}
use Rattle.flow_channels.specs.declared.board.Packet.{Packet}
use Rattle.flow_channels.specs.declared.tables.Tables.{Tables}
use Rattle.flow_channels.specs.declared.went.Went.TheVariants.{Out}
use Rattle.flow_channels.specs.Board.{flow_of, gone_by, IsAsked, IsKept, left_by as left_of_board, packet_at, packets_in, wait_at, waits_at, ways}
use Rattle.flow_channels.specs.Flows.{FlowOf, PacketOf, WaitOf, asks_at, comes_into, first_of, goes, leaves_by, left_of, queue_at, waiting_at, with_queue, with_waiting}
use Rattle.flow_channels.specs.Layout.{LayoutOf, exits_of, spot}
use Rattle.flow_channels.specs.Moves.{CanArrive, CanGo, HasRoom, IsPossible, IsTurn, Move, move_cmp, went_out}
use Rattle.flow_channels.specs.Moves.Move.{Arrives, Goes}
use Rattle.flow_channels.specs.Queue.{QueueOf}
use Rattle.flow_channels.specs.Sound.{IsSound, WaitsThere}
use Rattle.flow_channels.specs.Turns.{AreFree, HasDeparted, NoneArrives, NoneGoes, router_at}
use Rattle.flow_channels.specs.View.{IsOver, view_of}
use Rattle.flow_channels.proofs.BoardLemmas.{waiting_is}
use Rattle.flow_channels.proofs.CountLemmas.{found}
use Rattle.flow_channels.proofs.LeftLaws.{go_left}
use Rattle.flow_channels.proofs.SoundLaws.{got, left_by, starts_there, within}
use Rattle.flow_channels.proofs.TurnLaws.{can_arrive, leaves_same, less_first, same_first, le_last}

-- one is taken out of the middle
remove_here : {X : Type 0} (xs : List X) (x : X) (ys : List X) → remove (xs ++ (x ∷ ys)) (length xs) ≡ xs ++ ys
remove_here [] x ys = refl
remove_here {X = X} (z ∷ xs) x ys = ap (λ (zs : List X). z ∷ zs) (remove_here xs x ys)

abbrev state : List (List PacketOf) → List (List WaitOf) → FlowOf
state queues waiting = record { queues = queues; waiting = waiting }

abbrev four : List Packet → List ℕ → List QueueOf → List RouterOf → FlowOf
four p e q r = state (map (packets_in p) q) (map (waits_at p e) r)

-- the steps look at the far side alone
comes_same : (one two : LayoutOf) (channel : Channel) (packet : PacketOf) (flow : FlowOf) → one.far channel ≡ two.far channel → comes_into one channel packet flow ≡ comes_into two channel packet flow
comes_same one two channel packet flow same =
    let after = with_queue channel (packet ∷ []) flow in
    ap (λ (o : Option Channel). if length (queue_at flow channel) == 0 then asks_at o (first_of after channel) after else with_queue channel (queue_at flow channel ++ (packet ∷ [])) flow) same

by_same : (one two : LayoutOf) (came : Channel) (flow : FlowOf) → ((c : Channel) → one.far c ≡ two.far c) → leaves_by one (one.far came) flow ≡ leaves_by two (two.far came) flow
by_same one two came flow same = ap (λ (o : Option Channel). leaves_by one o flow) (same came) ∙ go (two.far came)
  where
    go : (o : Option Channel) → leaves_by one o flow ≡ leaves_by two o flow
    go None = refl
    go (Some channel) = leaves_same one two channel flow (same channel)

module _ (tables : Tables) (board : Board) (kept : IsKept tables board) (layout : LayoutOf) (over : IsOver layout (view_of tables board)) where
  abbrev known : List ℕ
  known = map (λ (packet : Packet). packet.packet) board.packets.items

  idle : RouterOf
  idle = record { most = 0; waiting = [] }

  waits_are : (at : ℕ) → at < 127 → waiting_at (flow_of board) at ≡ waits_at board.packets.items board.entries.items (router_at board at)
  waits_are at low = waiting_is board.packets board.entries board.queues board.routers at (record { most = 0; waiting = [] }) kept.routers low

  abbrev waits_for : RequestOf → WaitOf
  waits_for request = wait_at board.packets.items board.entries.items request.packet

  -- the entry of one that waits is one of a spot
  entry_low : (at : ℕ) (k : ℕ) (w : WaitOf) → k < length (waiting_at (flow_of board) at) → get_or (waiting_at (flow_of board) at) k w ≡ w → w.entry < 13
  entry_low at k w low is =
      let there = subst (λ (v : WaitOf). WaitsThere layout (flow_of board) at v) is (over.sound.waits at k w low) in
      elim (option_cases (layout.far (spot at w.entry))) [
        | inl none ↦ (let first = starts_there layout over.wired known (flow_of board) at w none there in omega arith)
        | inr (c, by) ↦ (over.wired.near (spot at w.entry) c by).port
      ]

  -- the exits of a request are those of the layout
  module _ (at k : ℕ) (request : RequestOf) (at_low : at < 127) (low : k < length (router_at board at).waiting) (request_is : get_or (router_at board at).waiting k request ≡ request) where
    pub place_low : k < length (waiting_at (flow_of board) at)
    place_low =
        let n = ap (λ (ws : List WaitOf). length ws) (waits_are at at_low) ∙ length-map (router_at board at).waiting (λ (r : RequestOf). wait_at board.packets.items board.entries.items r.packet) in
        omega arith

    pub wait_is : get_or (waiting_at (flow_of board) at) k (waits_for request) ≡ waits_for request
    wait_is =
        ap (λ (ws : List WaitOf). get_or ws k (waits_for request)) (waits_are at at_low)
        ∙ get_or-map (λ (r : RequestOf). wait_at board.packets.items board.entries.items r.packet) (router_at board at).waiting k request (waits_for request) low
        ∙ ap waits_for request_is

    asked : IsAsked tables.exits board at request
    asked = subst (λ (r : RequestOf). IsAsked tables.exits board at r) request_is (kept.asked at (record { most = 0; waiting = [] }) at_low k request low)

    pub slot_low : request.packet < length board.packets.items
    slot_low = asked.slot

    pub slot_entry : (waits_for request).entry < 13
    slot_entry = entry_low at k (waits_for request) place_low wait_is

    pub exits_are : request.ports ≡ exits_of layout (spot at (waits_for request).entry) (waits_for request).packet.to
    exits_are =
        let to : (packet_at board.packets.items request.packet).to < 127 = kept.targets request.packet (record { packet = 0; to = 0 }) slot_low in
        asked.ports ∙ over.tables_are.exits (spot at (waits_for request).entry) (waits_for request).packet.to (record { at = at_low; port = slot_entry }) to

  -- room by the tables is room by the layout
  room_here : (channel : Channel) → HasRoom (ways tables) (flow_of board) channel → HasRoom layout (flow_of board) channel
  room_here channel (end, far, less) = (end, sym (over.tables_are.far channel) ∙ far, let e = over.tables_are.room_is in omega arith)

  room_there : (channel : Channel) → HasRoom layout (flow_of board) channel → HasRoom (ways tables) (flow_of board) channel
  room_there channel (end, far, less) = (end, over.tables_are.far channel ∙ far, let e = over.tables_are.room_is in omega arith)

  -- who can go names a free port
  record Uses (at place port free : ℕ) : Type 0 where
    low : place < length (router_at board at).waiting
    named : Contains (get_or (router_at board at).waiting place (record { packet = 0; ports = [] })).ports port
    is_free : bit_at free port ≡ 1

  uses : (at place port free : ℕ) → AreFree tables board at free → CanGo layout (flow_of board) at place port → Uses at place port free
  uses at place port free are can =
      let w = can.wait in
      let g = got layout over.wired known (waiting_at (flow_of board) at) place w can.there in
      let inside = within layout over.wired known (flow_of board).waiting at place g.0 in
      let n = length-map board.routers.items (waits_at board.packets.items board.entries.items) in
      let size = kept.routers in
      let at_low : at < 127 = omega arith in
      let m = ap (λ (ws : List WaitOf). length ws) (waits_are at at_low) ∙ length-map (router_at board at).waiting (λ (r : RequestOf). wait_at board.packets.items board.entries.items r.packet) in
      let nobody : RequestOf = record { packet = 0; ports = [] } in
      let low : place < length (router_at board at).waiting = (let h = g.0 in omega arith) in
      let request = get_or (router_at board at).waiting place nobody in
      let same : get_or (router_at board at).waiting place request ≡ request = get_or_default (router_at board at).waiting place request nobody low in
      let is : waits_for request ≡ w = sym (wait_is at place request at_low low same) ∙ get_or_default (waiting_at (flow_of board) at) place (waits_for request) w g.0 ∙ g.1 in
      let named : Contains request.ports port = subst (λ (xs : List ℕ). Contains xs port) (sym (exits_are at place request at_low low same)) (subst (λ (v : WaitOf). Contains (exits_of layout (spot at v.entry) v.packet.to) port) (sym is) can.named) in
      record { low = low; named = named; is_free = (are port).1 (room_there (spot at port) can.room) }

  can_use : (at place port free : ℕ) → AreFree tables board at free → CanGo layout (flow_of board) at place port → NoneCanGo free (router_at board at).waiting → ⊥
  can_use at place port free are can none =
      let u = uses at place port free are can in
      none place (record { packet = 0; ports = [] }) u.low (u.named.0, port, u.named.1, u.named.2, u.is_free)

  nobody_arrives : NoneArrives tables board 1651 → (channel : Channel) → CanArrive layout (flow_of board) channel → ⊥
  nobody_arrives none channel can =
      let is = over.wired.near channel (spot can.0.to can.1) can.3 in
      let a = is.at in
      let p = is.port in
      none channel is (omega arith) (can_arrive tables board layout over channel can)

  -- where nobody arrives and nobody can go, no move is possible
  pub still : NoneArrives tables board 1651 → NoneGoes tables board 127 → (move : Move) → IsPossible layout (flow_of board) move → ⊥
  still none goes_none (Arrives channel) can = nobody_arrives none channel can
  still none goes_none (Goes at place port) can =
      let g = got layout over.wired known (waiting_at (flow_of board) at) place can.wait can.there in
      let inside = within layout over.wired known (flow_of board).waiting at place g.0 in
      let n = length-map board.routers.items (waits_at board.packets.items board.entries.items) in
      let size = kept.routers in
      let here = goes_none at (omega arith) in
      can_use at place port here.0 here.1 can here.2

  -- the one that is let go
  module _ (middle : Board) (departure : Departure) (gone : HasDeparted tables board middle departure) (none : NoneArrives tables board 1651) where
    request_low : length gone.grant.older < length (router_at board departure.at).waiting
    request_low = let n = ap (λ (ws : List RequestOf). length ws) gone.grant.old_is ∙ length-append gone.grant.older (gone.grant.request ∷ gone.grant.younger) in omega arith

    request_there : get_or (router_at board departure.at).waiting (length gone.grant.older) gone.grant.request ≡ gone.grant.request
    request_there = ap (λ (ws : List RequestOf). get_or ws (length gone.grant.older) gone.grant.request) gone.grant.old_is ∙ get_or_at gone.grant.older gone.grant.request gone.grant.younger gone.grant.request (length gone.grant.older) refl

    pub departs_low : departure.slot < length board.packets.items
    departs_low = subst (λ (n : ℕ). n < length board.packets.items) (sym gone.grant.gets.packet) (slot_low departure.at (length gone.grant.older) gone.grant.request gone.at request_low request_there)

    pub departs_entry : slice_index board.entries.items departure.slot < 13
    departs_entry = subst (λ (n : ℕ). slice_index board.entries.items n < 13) (sym gone.grant.gets.packet) (slot_entry departure.at (length gone.grant.older) gone.grant.request gone.at request_low request_there)

    pub departs_exit : departure.exit < 13
    departs_exit =
        let room = (gone.are_free departure.exit).0 gone.grant.gets.is_free in
        (wire_spot tables.wires.items (spot departure.at departure.exit) room.0 room.1).port

    there : slice_get (waiting_at (flow_of board) departure.at) (length gone.grant.older) ≡ Some (waits_for gone.grant.request)
    there = found (waiting_at (flow_of board) departure.at) (length gone.grant.older) (waits_for gone.grant.request) (place_low departure.at (length gone.grant.older) gone.grant.request gone.at request_low request_there) (wait_is departure.at (length gone.grant.older) gone.grant.request gone.at request_low request_there)

    pub can_go : CanGo layout (flow_of board) departure.at (length gone.grant.older) departure.exit
    can_go = record {
      wait = waits_for gone.grant.request;
      there = there;
      named = subst (λ (xs : List ℕ). Contains xs departure.exit) (exits_are departure.at (length gone.grant.older) gone.grant.request gone.at request_low request_there) gone.grant.gets.named;
      room = room_here (spot departure.at departure.exit) ((gone.are_free departure.exit).0 gone.grant.gets.is_free);
    }

    -- nobody older can go, and by no lower port
    not_older : (j p : ℕ) → j < length gone.grant.older → CanGo layout (flow_of board) departure.at j p → ⊥
    not_older j p less can =
        let u = uses departure.at j p gone.free gone.are_free can in
        let nobody : RequestOf = record { packet = 0; ports = [] } in
        let same : get_or (router_at board departure.at).waiting j nobody ≡ get_or gone.grant.older j nobody = ap (λ (ws : List RequestOf). get_or ws j nobody) gone.grant.old_is ∙ get_or_append_left gone.grant.older (gone.grant.request ∷ gone.grant.younger) nobody j less in
        let named : Contains (get_or gone.grant.older j nobody).ports p = subst (λ (r : RequestOf). Contains r.ports p) same u.named in
        gone.grant.passed j nobody less (named.0, p, named.1, named.2, u.is_free)

    not_lower : (p : ℕ) → CanGo layout (flow_of board) departure.at (length gone.grant.older) p → departure.exit ≤ p
    not_lower p can =
        let u = uses departure.at (length gone.grant.older) p gone.free gone.are_free can in
        let nobody : RequestOf = record { packet = 0; ports = [] } in
        let same : get_or (router_at board departure.at).waiting (length gone.grant.older) nobody ≡ gone.grant.request = get_or_default (router_at board departure.at).waiting (length gone.grant.older) nobody gone.grant.request request_low ∙ request_there in
        gone.grant.gets.lowest p (subst (λ (r : RequestOf). Contains r.ports p) same u.named) u.is_free

    least_go : (other : Move) → IsPossible layout (flow_of board) other → IsTrue (is_le (move_cmp (Goes departure.at (length gone.grant.older) departure.exit) other))
    least_go (Arrives channel) can = absurd (nobody_arrives none channel can)
    least_go (Goes b j p) can = elim (cases_order departure.at b) [
      | inl same ↦ (same_first departure.at b (ordering_then (nat_cmp (length gone.grant.older) j) (nat_cmp departure.exit p)) same ∙ inner (subst (λ (n : ℕ). CanGo layout (flow_of board) n j p) (sym same) can))
      | inr other ↦ elim other [
        | inl less ↦ less_first departure.at b (ordering_then (nat_cmp (length gone.grant.older) j) (nat_cmp departure.exit p)) less
        | inr more ↦ absurd (let before = gone.before b more in can_use b j p before.0 before.1 can before.2)
      ]
    ]
      where
        inner : CanGo layout (flow_of board) departure.at j p → is_le (ordering_then (nat_cmp (length gone.grant.older) j) (nat_cmp departure.exit p)) ≡ true
        inner can' = elim (cases_order (length gone.grant.older) j) [
          | inl same ↦ (same_first (length gone.grant.older) j (nat_cmp departure.exit p) same ∙ le_last departure.exit p (not_lower p (subst (λ (n : ℕ). CanGo layout (flow_of board) departure.at n p) (sym same) can')))
          | inr other ↦ elim other [
            | inl less ↦ less_first (length gone.grant.older) j (nat_cmp departure.exit p) less
            | inr more ↦ absurd (not_older j p more can')
          ]
        ]

    -- the flow in between
    router_list : waits_at board.packets.items board.entries.items gone.router ≡ remove (waiting_at (flow_of board) departure.at) (length gone.grant.older)
    router_list =
        let g = λ (r : RequestOf). wait_at board.packets.items board.entries.items r.packet in
        ap (map g) gone.grant.new_is
        ∙ map-append g gone.grant.older gone.grant.younger
        ∙ sym (remove_here (map g gone.grant.older) (waits_for gone.grant.request) (map g gone.grant.younger))
        ∙ ap (λ (n : ℕ). remove (map g gone.grant.older ++ (waits_for gone.grant.request ∷ map g gone.grant.younger)) n) (length-map gone.grant.older g)
        ∙ ap (λ (ws : List WaitOf). remove ws (length gone.grant.older)) (sym (map-append g gone.grant.older (gone.grant.request ∷ gone.grant.younger)) ∙ ap (map g) (sym gone.grant.old_is) ∙ sym (waits_are departure.at gone.at))

    middle_flow : flow_of middle ≡ with_waiting departure.at (remove (waiting_at (flow_of board) departure.at) (length gone.grant.older)) (flow_of board)
    middle_flow =
        ap (λ (ps : List Packet). four ps middle.entries.items middle.queues.items middle.routers.items) gone.packets
        ∙ ap (λ (es : List ℕ). four board.packets.items es middle.queues.items middle.routers.items) gone.entries
        ∙ ap (λ (qs : List QueueOf). four board.packets.items board.entries.items qs middle.routers.items) gone.queues
        ∙ ap (λ (rs : List RouterOf). four board.packets.items board.entries.items board.queues.items rs) gone.routers
        ∙ ap (λ (wss : List (List WaitOf)). state (map (packets_in board.packets.items) board.queues.items) wss) (map-set (waits_at board.packets.items board.entries.items) board.routers.items departure.at gone.router)
        ∙ ap (λ (ws : List WaitOf). state (map (packets_in board.packets.items) board.queues.items) (set (map (waits_at board.packets.items board.entries.items) board.routers.items) departure.at ws)) router_list

    came_is : slice_index middle.entries.items departure.slot ≡ (waits_for gone.grant.request).entry
    came_is = ap (λ (es : List ℕ). slice_index es departure.slot) gone.entries ∙ ap (λ (n : ℕ). slice_index board.entries.items n) gone.grant.gets.packet

    packet_is : packet_at middle.packets.items departure.slot ≡ (waits_for gone.grant.request).packet
    packet_is = ap (λ (ps : List Packet). packet_at ps departure.slot) gone.packets ∙ ap (λ (n : ℕ). packet_at board.packets.items n) gone.grant.gets.packet

    left_is : left_of_board tables middle departure ≡ leaves_by layout (layout.far (spot departure.at (waits_for gone.grant.request).entry)) (with_waiting departure.at (remove (waiting_at (flow_of board) departure.at) (length gone.grant.older)) (flow_of board))
    left_is =
        ap (λ (n : ℕ). leaves_by (ways tables) ((ways tables).far (spot departure.at n)) (flow_of middle)) came_is
        ∙ ap (λ (f : FlowOf). leaves_by (ways tables) ((ways tables).far (spot departure.at (waits_for gone.grant.request).entry)) f) middle_flow
        ∙ by_same (ways tables) layout (spot departure.at (waits_for gone.grant.request).entry) (with_waiting departure.at (remove (waiting_at (flow_of board) departure.at) (length gone.grant.older)) (flow_of board)) over.tables_are.far

    pub gone_is : gone_by tables middle departure ≡ goes layout departure.at (length gone.grant.older) departure.exit (slice_get (waiting_at (flow_of board) departure.at) (length gone.grant.older)) (flow_of board)
    gone_is =
        ap (λ (p : PacketOf). comes_into (ways tables) (spot departure.at departure.exit) p (left_of_board tables middle departure)) packet_is
        ∙ ap (λ (f : FlowOf). comes_into (ways tables) (spot departure.at departure.exit) (waits_for gone.grant.request).packet f) left_is
        ∙ comes_same (ways tables) layout (spot departure.at departure.exit) (waits_for gone.grant.request).packet (leaves_by layout (layout.far (spot departure.at (waits_for gone.grant.request).entry)) (with_waiting departure.at (remove (waiting_at (flow_of board) departure.at) (length gone.grant.older)) (flow_of board))) (over.tables_are.far (spot departure.at departure.exit))
        ∙ ap (λ (o : Option WaitOf). goes layout departure.at (length gone.grant.older) departure.exit o (flow_of board)) (sym there)

    pub sound_left : IsSound layout (map (λ (packet : Packet). packet.packet) board.packets.items) (left_of_board tables middle departure)
    sound_left = subst (λ (f : FlowOf). IsSound layout (map (λ (packet : Packet). packet.packet) board.packets.items) f) (sym left_is) (
        left_by layout over.wired known (flow_of board) departure.at (length gone.grant.older) (waits_for gone.grant.request) over.sound (place_low departure.at (length gone.grant.older) gone.grant.request gone.at request_low request_there) (wait_is departure.at (length gone.grant.older) gone.grant.request gone.at request_low request_there)).sound

    pub departure_turn : (packet : ℕ) (new : FlowOf) → packet ≡ (packet_at middle.packets.items departure.slot).packet → new ≡ gone_by tables middle departure → IsTurn layout (flow_of board) (Out packet departure.at departure.exit) new
    departure_turn packet new is new_is = record {
      move = Goes departure.at (length gone.grant.older) departure.exit;
      next = record { possible = can_go; least = least_go };
      went_is = ap (went_out departure.at departure.exit) there ∙ ap (λ (n : ℕ). Some (Out n departure.at departure.exit)) (sym (is ∙ ap (λ (p : PacketOf). p.packet) packet_is));
      after_is = new_is ∙ gone_is;
    }

    pub departure_left : (new : FlowOf) → new ≡ gone_by tables middle departure → left_of new ≡ left_of (flow_of board)
    departure_left new new_is =
        ap left_of (new_is ∙ gone_is)
        ∙ go_left layout over.wired known (flow_of board) departure.at (length gone.grant.older) departure.exit over.sound can_go
