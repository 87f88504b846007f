-- Where something may happen next, after something came or went.
use Rattle.std.proofs.Common.{◌≡◌, ◌≢◌, ◌∙◌, sym, ap, subst, refl, ℕ, zero, suc, ◌+◌, ◌*◌, ◌%◌, ◌^◌, ◌<◌, List, [], ◌∷◌, ◌++◌, Option, Some, None, arith, length, get_or, set, inl, inr, Bool, true, false, ◌==◌}
use Rattle.std.specs.Prelude.{All, bit_and, IsTrue, ◌↔◌, replicate, slice_get}
use Rattle.std.specs.Int.{bit_at, bit_not, w16}
use Rattle.std.specs.Int.RustNames.{bit_or}
use Rattle.std.proofs.lemmas.Bool.Decides.{nat_tests}
use Rattle.std.proofs.lemmas.Bool.{cases_Bool, cases_eq, cases_lt}
use Rattle.std.proofs.lemmas.List.{get_or-append-add, get_or-replicate, get_or-set_other, get_or-set_same, get_or_append_left, length-append, length-replicate, length-set}
use Rattle.std.proofs.lemmas.Nat.Bits.{bit_at_above, bit_at_and, bit_at_clear_other, bit_at_clear_same, bit_at_set_other, bit_at_set_same}
use Rattle.dep_check.specs.declared.channel.Channel.{Channel}
use Rattle.dep_check.specs.Tables.{IsSpot, place_of}
use Rattle.dep_check.proofs.BridgeLemmas.{wire_spot}
use Rattle.dep_check.proofs.SpotLemmas.{one_spot, place_low}
use Rattle.fcfc_router.specs.Shown.{ports_of}
use Rattle.fcfc_router.specs.Tree.{HasNone, IsFirst}
use Rattle.flow_channels.specs.declared.board.Board.{Board}
use Rattle.flow_channels.specs.declared.tables.Tables.{Tables}
use Rattle.flow_channels.specs.Board.{exit_set, flow_of, ways}
use Rattle.flow_channels.specs.Flows.{FlowOf, PacketOf, WaitOf, asks, asks_at, comes_into, empty_flow, first_asks, first_of, queue_at, waiting_at, with_queue}
use Rattle.flow_channels.specs.Layout.{LayoutOf, spot}
use Rattle.flow_channels.specs.Moves.{CanArrive, HasRoom}
use Rattle.flow_channels.specs.Turns.{NoneArrives}
use Rattle.flow_channels.specs.Watch.{AreArriving, AreAwake, AreFreePorts, HasPortIf, IsIdle, HasPlace, IsTouched, NoneAsks}
use Rattle.flow_channels.proofs.ComeLemmas.{asked_queues, came_behind, came_first}
use Rattle.flow_channels.proofs.StateLemmas.{waiting_there}

-- places that are put in, or taken out
pub in_here : (sets : List ℕ) (k v : ℕ) → k < length sets → bit_and v 1 ≢ 0 → HasPlace (set sets k v) k
in_here sets k v low has = subst (λ (n : ℕ). bit_and n 1 ≢ 0) (sym (get_or-set_same sets k v 0 low)) has

pub of_in_here : (sets : List ℕ) (k v : ℕ) → k < length sets → HasPlace (set sets k v) k → bit_and v 1 ≢ 0
of_in_here sets k v low has = subst (λ (n : ℕ). bit_and n 1 ≢ 0) (get_or-set_same sets k v 0 low) has

pub in_there : (sets : List ℕ) (k b v : ℕ) → b ≢ k → HasPlace sets b → HasPlace (set sets k v) b
in_there sets k b v other has = subst (λ (n : ℕ). bit_and n 1 ≢ 0) (sym (get_or-set_other sets k b v 0 other)) has

pub of_in_there : (sets : List ℕ) (k b v : ℕ) → b ≢ k → HasPlace (set sets k v) b → HasPlace sets b
of_in_there sets k b v other has = subst (λ (n : ℕ). bit_and n 1 ≢ 0) (get_or-set_other sets k b v 0 other) has

pub one_in : bit_and 1 1 ≢ 0
one_in is = absurd (let e : bit_and 1 1 ≡ 1 = refl in omega arith)

pub out_of : (sets : List ℕ) (k b : ℕ) → k < length sets → (HasPlace (set sets k 1) b → ⊥) → (b ≢ k) × (HasPlace sets b → ⊥)
out_of sets k b low out = (other, λ has. out (in_there sets k b 1 other has))
  where
    other : b ≢ k
    other same = out (subst (λ (n : ℕ). HasPlace (set sets k 1) n) (sym same) (in_here sets k 1 low one_in))

pub still_low : (sets : List ℕ) (k v b : ℕ) → k < 127 → ((at : ℕ) → HasPlace sets at → at < 127) → HasPlace (set sets k v) b → b < 127
still_low sets k v b low lows has = elim (cases_eq b k) [
  | inl same ↦ omega arith
  | inr other ↦ lows b (of_in_there sets k b v other has)
]

-- none is in
pub nothing_in : (n b : ℕ) → HasPlace (replicate n 0) b → ⊥
nothing_in zero b has = has refl
nothing_in (suc n) zero has = has refl
nothing_in (suc n) (suc b) has = nothing_in n b has

-- what arrives, and who may go, where the packets are the same
pub arrives_as : (layout : LayoutOf) (from to : FlowOf) (channel : Channel) → queue_at to channel ≡ queue_at from channel → CanArrive layout from channel → CanArrive layout to channel
arrives_as layout from to channel same (packet, entry, first, far) = (packet, entry, ap (λ (ps : List PacketOf). slice_get ps 0) same ∙ first, far)

pub room_as : (layout : LayoutOf) (from to : FlowOf) (channel : Channel) → queue_at to channel ≡ queue_at from channel → HasRoom layout to channel → HasRoom layout from channel
room_as layout from to channel same (end, far, room) = (end, far, subst (λ (ps : List PacketOf). length ps < layout.most) same room)

pub idle_as : (tables : Tables) (from to : FlowOf) (at : ℕ) → waiting_at to at ≡ waiting_at from at → ((port : ℕ) → IsSpot (spot at port) → queue_at to (spot at port) ≡ queue_at from (spot at port)) → IsIdle tables from at → IsIdle tables to at
idle_as tables from to at waits queues idle = subst (λ (ws : List WaitOf). All (λ wait. All (λ port. HasRoom (ways tables) to (spot at port) → ⊥) (ports_of (exit_set tables.exits (spot at wait.entry) wait.packet.to))) ws) (sym waits) (λ k d low i p inside room.
    let wait = get_or (waiting_at from at) k d in
    let port = get_or (ports_of (exit_set tables.exits (spot at wait.entry) wait.packet.to)) i p in
    idle k d low i p inside (room_as (ways tables) from to (spot at port) (queues port (wire_spot tables.wires.items (spot at port) room.0 room.1)) room))

-- what comes or goes in a channel
waits_elsewhere : (o : Option Channel) (first : Option PacketOf) (flow : FlowOf) (at : ℕ) → ((end : Channel) → o ≡ Some end → at ≢ end.at) → waiting_at (asks_at o first flow) at ≡ waiting_at flow at
waits_elsewhere None first flow at other = refl
waits_elsewhere (Some end) None flow at other = refl
waits_elsewhere (Some end) (Some packet) flow at other = elim (cases_Bool (end.at == packet.to)) [
  | inl here ↦ rw here refl
  | inr before ↦ rw before (waiting_there flow end.at at (waiting_at flow end.at ++ (record { packet = packet; entry = end.port } ∷ [])) (other end refl))
]

-- where nobody asks nothing changes
nobody_asks : (o : Option Channel) (first : Option PacketOf) (flow : FlowOf) → ((end : Channel) (packet : PacketOf) → o ≡ Some end → first ≡ Some packet → end.at ≡ packet.to) → asks_at o first flow ≡ flow
nobody_asks None first flow none = refl
nobody_asks (Some end) None flow none = refl
nobody_asks (Some end) (Some packet) flow none =
    let here : end.at ≡ packet.to = none end packet refl refl in
    let test : (end.at == packet.to) ≡ true = (grind (arith, nat_tests)) in
    rw test refl

written : (layout : LayoutOf) (channel : Channel) (packets : List PacketOf) (flow : FlowOf) → IsTouched layout channel flow (with_queue channel packets flow)
written layout channel packets flow = record {
  queues = λ other differs. get_or-set_other flow.queues (place_of channel) (place_of other) packets [] differs;
  waiting = λ at elsewhere. refl;
  still = λ none at. refl;
}

pub asked_touched : (layout : LayoutOf) (channel : Channel) (packets : List PacketOf) (flow : FlowOf) → IsTouched layout channel flow (first_asks layout channel (with_queue channel packets flow))
asked_touched layout channel packets flow =
    let queued = with_queue channel packets flow in
    record {
      queues = λ other differs. ap (λ (qs : List (List PacketOf)). get_or qs (place_of other) []) (asked_queues (layout.far channel) (first_of queued channel) queued) ∙ get_or-set_other flow.queues (place_of channel) (place_of other) packets [] differs;
      waiting = λ at elsewhere. waits_elsewhere (layout.far channel) (first_of queued channel) queued at elsewhere;
      still = λ none at.
          let first : first_of (first_asks layout channel queued) channel ≡ first_of queued channel = ap (λ (qs : List (List PacketOf)). slice_get (get_or qs (place_of channel) []) 0) (asked_queues (layout.far channel) (first_of queued channel) queued) in
          ap (λ (f : FlowOf). waiting_at f at) (nobody_asks (layout.far channel) (first_of queued channel) queued (λ end packet far is. none end packet far (first ∙ is)));
    }

pub come_touched : (layout : LayoutOf) (channel : Channel) (packet : PacketOf) (flow : FlowOf) → IsTouched layout channel flow (comes_into layout channel packet flow)
come_touched layout channel packet flow = elim (cases_eq (length (queue_at flow channel)) 0) [
  | inl empty ↦ subst (λ (f : FlowOf). IsTouched layout channel flow f) (sym (came_first layout channel packet flow empty)) (asked_touched layout channel (queue_at flow channel ++ (packet ∷ [])) flow)
  | inr some ↦ subst (λ (f : FlowOf). IsTouched layout channel flow f) (sym (came_behind layout channel packet flow some)) (written layout channel (queue_at flow channel ++ (packet ∷ [])) flow)
]

-- the sets after that
pub arriving_seen : (tables : Tables) (channel : Channel) (old new : FlowOf) (sets : List ℕ) (v : ℕ) → AreArriving tables old sets → IsSpot channel → IsTouched (ways tables) channel old new → (bit_and v 1 ≢ 0 → CanArrive (ways tables) new channel) → (CanArrive (ways tables) new channel → bit_and v 1 ≢ 0) → AreArriving tables new (set sets (place_of channel) v)
arriving_seen tables channel old new sets v are is touched only all = record {
  count = length-set sets (place_of channel) v ∙ are.count;
  all = λ other spot can. elim (cases_eq (place_of other) (place_of channel)) [
    | inl same ↦ (
        let one = one_spot other channel spot is same in
        subst (λ (n : ℕ). HasPlace (set sets (place_of channel) v) n) (sym same) (in_here sets (place_of channel) v low (all (subst (λ (x : Channel). CanArrive (ways tables) new x) one can))))
    | inr differs ↦ in_there sets (place_of channel) (place_of other) v differs (are.all other spot (arrives_as (ways tables) new old other (sym (touched.queues other differs)) can))
  ];
  only = λ place has. elim (cases_eq place (place_of channel)) [
    | inl same ↦ (channel, is, sym same, only (of_in_here sets (place_of channel) v low (subst (λ (n : ℕ). HasPlace (set sets (place_of channel) v) n) same has)))
    | inr differs ↦ (
        let before = are.only place (of_in_there sets (place_of channel) place v differs has) in
        (before.0, before.1, before.2, arrives_as (ways tables) old new before.0 (touched.queues before.0 (λ at. differs (sym before.2 ∙ at))) before.3))
  ];
}
  where
    low : place_of channel < length sets
    low = let p = place_low channel is in let n = are.count in omega arith

module _ (tables : Tables) (channel : Channel) (old new : FlowOf) (sets : List ℕ) (are : AreAwake tables old sets) (is : IsSpot channel) (touched : IsTouched (ways tables) channel old new) where
  others_idle : (at : ℕ) → at < 127 → at ≢ channel.at → waiting_at new at ≡ waiting_at old at → (HasPlace sets at → ⊥) → IsIdle tables new at
  others_idle at low here waits out = idle_as tables old new at waits (λ port spot_is. touched.queues (spot at port) (λ same. here (ap (λ (x : Channel). x.at) (one_spot (spot at port) channel spot_is is same)))) (are.others at low out)

  pub awake_here : NoneAsks (ways tables) new channel → AreAwake tables new (set sets channel.at 1)
  awake_here none =
      let n = are.count in
      let low_at = is.at in
      record {
        count = length-set sets channel.at 1 ∙ are.count;
        low = λ at has. still_low sets channel.at 1 at is.at are.low has;
        others = λ at low out.
            let parts = out_of sets channel.at at (omega arith) out in
            others_idle at low parts.0 (touched.still none at) parts.1;
      }

  pub awake_there : (end : Channel) → (ways tables).far channel ≡ Some end → IsSpot end → AreAwake tables new (set (set sets channel.at 1) end.at 1)
  awake_there end far end_is =
      let n = are.count in
      let m = length-set sets channel.at 1 in
      let low_at = is.at in
      let low_end = end_is.at in
      record {
        count = length-set (set sets channel.at 1) end.at 1 ∙ length-set sets channel.at 1 ∙ are.count;
        low = λ at has. still_low (set sets channel.at 1) end.at 1 at end_is.at (λ b inside. still_low sets channel.at 1 b is.at are.low inside) has;
        others = λ at low out.
            let second = out_of (set sets channel.at 1) end.at at (omega arith) out in
            let first = out_of sets channel.at at (omega arith) second.1 in
            others_idle at low first.0 (touched.waiting at (λ other is_far same. second.0 (same ∙ ap (λ (x : Channel). x.at) (one_end end other far is_far)))) first.1;
      }
    where
      one_end : (a b : Channel) → (ways tables).far channel ≡ Some a → (ways tables).far channel ≡ Some b → b ≡ a
      one_end a b first second = let e = sym second ∙ first in cc

-- the ports whose channels have room, after that
room_there : (tables : Tables) (channel other : Channel) (old new : FlowOf) → IsSpot channel → IsTouched (ways tables) channel old new → other ≢ channel → HasRoom (ways tables) old other ↔ HasRoom (ways tables) new other
room_there tables channel other old new is touched differs = (
  (λ room. room_as (ways tables) new old other (sym (same (wire_spot tables.wires.items other room.0 room.1))) room),
  (λ room. room_as (ways tables) old new other (same (wire_spot tables.wires.items other room.0 room.1)) room),
)
  where
    same : IsSpot other → queue_at new other ≡ queue_at old other
    same there = touched.queues other (λ place. differs (one_spot other channel there is place))

pub free_seen : (tables : Tables) (channel : Channel) (has : Bool) (old new : FlowOf) (sets : List ℕ) (v : ℕ) → AreFreePorts tables old 127 sets → IsSpot channel → IsTouched (ways tables) channel old new → (IsTrue has ↔ HasRoom (ways tables) new channel) → HasPortIf (get_or sets channel.at 0) channel.port has v → AreFreePorts tables new 127 (set sets channel.at v)
free_seen tables channel has old new sets v are is touched room set_is = record {
  count = length-set sets channel.at v ∙ are.count;
  each = λ at port low. elim (cases_eq at channel.at) [
    | inl same ↦ subst (λ (n : ℕ). (bit_at n port ≡ 1) ↔ HasRoom (ways tables) new (spot at port)) (sym (value at same)) (
        subst (λ (k : ℕ). (bit_at v port ≡ 1) ↔ HasRoom (ways tables) new (spot k port)) (sym same) (here port))
    | inr other ↦ subst (λ (n : ℕ). (bit_at n port ≡ 1) ↔ HasRoom (ways tables) new (spot at port)) (sym (get_or-set_other sets channel.at at v 0 other)) (
        both (are.each at port low) (room_there tables channel (spot at port) old new is touched (λ e. other (ap (λ (x : Channel). x.at) e))))
  ];
}
  where
    both : {A B C : Type 0} → A ↔ B → B ↔ C → A ↔ C
    both f g = ((λ a. g.0 (f.0 a)), (λ c. f.1 (g.1 c)))

    value : (at : ℕ) → at ≡ channel.at → get_or (set sets channel.at v) at 0 ≡ v
    value at same = ap (λ (k : ℕ). get_or (set sets channel.at v) k 0) same ∙ get_or-set_same sets channel.at v 0 (let n = are.count in let a = is.at in omega arith)

    here : (port : ℕ) → (bit_at v port ≡ 1) ↔ HasRoom (ways tables) new (spot channel.at port)
    here port = elim (cases_eq port channel.port) [
      | inl same ↦ subst (λ (p : ℕ). (bit_at v p ≡ 1) ↔ HasRoom (ways tables) new (spot channel.at p)) (sym same) (both set_is.here room)
      | inr other ↦ both (
          subst (λ (n : ℕ). (n ≡ 1) ↔ HasRoom (ways tables) old (spot channel.at port)) (sym (set_is.others port other)) (are.each channel.at port is.at))
          (room_there tables channel (spot channel.at port) old new is touched (λ e. other (ap (λ (x : Channel). x.port) e)))
    ]

pub free_pushed : (tables : Tables) (flow : FlowOf) (end : ℕ) (sets : List ℕ) (v : ℕ) → AreFreePorts tables flow end sets → ((port : ℕ) → ((bit_at v port ≡ 1) ↔ HasRoom (ways tables) flow (spot end port))) → AreFreePorts tables flow (end + 1) (sets ++ v ∷ [])
free_pushed tables flow end sets v are last =
    let count = are.count in
    record {
      count = let n = length-append sets (v ∷ []) in omega arith;
      each = λ at port low. elim (cases_eq at end) [
        | inl same ↦ subst (λ (n : ℕ). (bit_at n port ≡ 1) ↔ HasRoom (ways tables) flow (spot at port)) (sym (at_end at same)) (
            subst (λ (k : ℕ). (bit_at v port ≡ 1) ↔ HasRoom (ways tables) flow (spot k port)) (sym same) (last port))
        | inr other ↦ subst (λ (n : ℕ). (bit_at n port ≡ 1) ↔ HasRoom (ways tables) flow (spot at port)) (sym (get_or_append_left sets (v ∷ []) 0 at (omega arith))) (are.each at port (omega arith))
      ];
    }
  where
    at_end : (at : ℕ) → at ≡ end → get_or (sets ++ v ∷ []) at 0 ≡ v
    at_end at same =
        let n = are.count in
        let place : at ≡ length sets + 0 = omega arith in
        ap (λ (k : ℕ). get_or (sets ++ v ∷ []) k 0) place ∙ get_or-append-add sets (v ∷ []) 0 0

-- a set with a port, and one without it
pub with_bit : (old port : ℕ) → port < 16 → HasPortIf old port true (bit_or old (1 * 2 ^ port % 2 ^ 16))
with_bit old port low = record {
  here = ((λ _. refl), (λ _. bit_at_set_same w16 old port low));
  others = λ other differs. bit_at_set_other w16 old port low other differs;
}

pub without_bit : (old port : ℕ) → old < 2 ^ 16 → port < 16 → HasPortIf old port false (bit_and old (bit_not w16 (1 * 2 ^ port % 2 ^ 16)))
without_bit old port small low = record {
  here = ((λ has. absurd (let none = bit_at_clear_same w16 old port low in omega arith)), (λ is. absurd (cc)));
  others = λ other differs. elim (cases_lt other 16) [
    | inl inside ↦ bit_at_clear_other w16 old port low other inside differs
    | inr above ↦ (
        let none = bit_at_above old 16 other small above in
        let both = bit_at_and old (bit_not w16 (1 * 2 ^ port % 2 ^ 16)) other in
        omega arith)
  ];
}

-- who enters at a switch
pub awake_entered : (tables : Tables) (at : ℕ) (wait : WaitOf) (flow : FlowOf) (sets : List ℕ) → at < 127 → AreAwake tables flow sets → AreAwake tables (asks at wait flow) (set sets at 1)
awake_entered tables at wait flow sets at_low are =
    let n = are.count in
    record {
      count = length-set sets at 1 ∙ are.count;
      low = λ b has. still_low sets at 1 b at_low are.low has;
      others = λ b low out.
          let parts = out_of sets at b (omega arith) out in
          idle_as tables flow (asks at wait flow) b (waiting_there flow at b (waiting_at flow at ++ (wait ∷ [])) parts.0) (λ port is. refl) (are.others b low parts.1);
    }

pub arriving_entered : (tables : Tables) (at : ℕ) (wait : WaitOf) (flow : FlowOf) (sets : List ℕ) → AreArriving tables flow sets → AreArriving tables (asks at wait flow) sets
arriving_entered tables at wait flow sets are = record { count = are.count; all = λ other spot can. are.all other spot can; only = λ place has. are.only place has }

pub free_entered : (tables : Tables) (at : ℕ) (wait : WaitOf) (flow : FlowOf) (sets : List ℕ) → AreFreePorts tables flow 127 sets → AreFreePorts tables (asks at wait flow) 127 sets
free_entered tables at wait flow sets are = record { count = are.count; each = λ other port low. are.each other port low }

-- nobody is on the way
pub nothing_arrives : (tables : Tables) → AreArriving tables empty_flow (replicate 2048 0)
nothing_arrives tables = record {
  count = length-replicate {A = ℕ} 2048 0;
  all = λ channel is can. absurd (
      let none : first_of empty_flow channel ≡ None = ap (λ (ps : List PacketOf). slice_get ps 0) (get_or-replicate 1651 (place_of channel) [] [] (place_low channel is)) in
      let e = can.2 in
      cc);
  only = λ place has. absurd (nothing_in 2048 place has);
}

pub nobody_awake : (tables : Tables) → AreAwake tables empty_flow (replicate 2048 0)
nobody_awake tables = record {
  count = length-replicate {A = ℕ} 2048 0;
  low = λ at has. absurd (nothing_in 2048 at has);
  others = λ at low out. subst (λ (ws : List WaitOf). All (λ wait. All (λ port. HasRoom (ways tables) empty_flow (spot at port) → ⊥) (ports_of (exit_set tables.exits (spot at wait.entry) wait.packet.to))) ws) (sym (get_or-replicate 127 at [] [] low)) (λ k d inside. absurd (omega arith));
}

-- what is found in the set of what arrives
module _ (tables : Tables) (board : Board) (sets : List ℕ) (are : AreArriving tables (flow_of board) sets) where
  pub none_found : HasNone 1 sets → NoneArrives tables board 1651
  none_found none channel is low can = are.all channel is can (none (place_of channel) 0 (let n = are.count in omega arith))

  pub found_low : (place : ℕ) → IsFirst 1 sets place → place < 1651
  found_low place first =
      let found = are.only place first.has in
      let low = place_low found.0 found.1 in
      let same = found.2 in
      omega arith

  pub found_arrives : (place : ℕ) (channel : Channel) → IsFirst 1 sets place → IsSpot channel → place_of channel ≡ place → CanArrive (ways tables) (flow_of board) channel
  found_arrives place channel first is at =
      let found = are.only place first.has in
      subst (λ (x : Channel). CanArrive (ways tables) (flow_of board) x) (one_spot found.0 channel found.1 is (found.2 ∙ sym at)) found.3

  pub none_before_found : (place end : ℕ) → IsFirst 1 sets place → end ≡ place → NoneArrives tables board end
  none_before_found place end first at channel is low can = are.all channel is can (first.before (place_of channel) (omega arith))
