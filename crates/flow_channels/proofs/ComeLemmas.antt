-- A packet comes last in a channel.
use Rattle.std.proofs.Common.{◌≡◌, ◌≢◌, ◌∙◌, sym, ap, subst, refl, ℕ, ◌<◌, List, [], ◌∷◌, ◌++◌, Option, Some, None, true, false, Vec, Global, arith, length, get_or, inl, inr, ◌==◌}
use Rattle.std.specs.Prelude.{All}
use Rattle.std.specs.Vec.{with_item}
use Rattle.std.proofs.lemmas.Bool.{cases_Bool, cases_eq}
use Rattle.std.proofs.lemmas.Bool.Decides.{nat_tests}
use Rattle.std.proofs.lemmas.List.{length-map, length_push, map-append, nil_from_length}
use Rattle.std.proofs.lemmas.List.Elements.{All-push}
use Rattle.dep_check.specs.declared.channel.Channel.{Channel}
use Rattle.dep_check.specs.Tables.{IsSpot, place_of}
use Rattle.dep_check.proofs.SpotLemmas.{place_low}
use Rattle.fcfc_router.specs.Shown.{RouterOf}
use Rattle.flow_channels.specs.declared.board.Packet.{Packet}
use Rattle.flow_channels.specs.declared.tables.Tables.{Tables}
use Rattle.flow_channels.specs.Board.{flow_of, IsKept, IsSoundOver, packet_at, packets_in, ways}
use Rattle.flow_channels.specs.Flows.{FlowOf, PacketOf, asks_at, comes_into, first_asks, first_of, queue_at, with_queue}
use Rattle.flow_channels.specs.Layout.{LayoutOf}
use Rattle.flow_channels.specs.Queue.{QueueOf}
use Rattle.flow_channels.proofs.BoardLemmas.{kept_queue, made, queue_facts, queue_is, queue_written, same_places}
use Rattle.flow_channels.proofs.FewLaws.{few_queued}
use Rattle.flow_channels.proofs.StateLemmas.{queue_here}

-- asking changes no queue
pub asked_queues : (o : Option Channel) (first : Option PacketOf) (flow : FlowOf) → (asks_at o first flow).queues ≡ flow.queues
asked_queues None first flow = refl
asked_queues (Some end) None flow = refl
asked_queues (Some end) (Some packet) flow = elim (cases_Bool (end.at == packet.to)) [
  | inl here ↦ rw here refl
  | inr before ↦ rw before refl
]

pub came_first : (layout : LayoutOf) (channel : Channel) (packet : PacketOf) (flow : FlowOf) → length (queue_at flow channel) ≡ 0 → comes_into layout channel packet flow ≡ first_asks layout channel (with_queue channel (queue_at flow channel ++ (packet ∷ [])) flow)
came_first layout channel packet flow empty =
    let test : (length (queue_at flow channel) == 0) ≡ true = (grind (arith, nat_tests)) in
    let nil = nil_from_length (queue_at flow channel) empty in
    rw test (ap (λ (ps : List PacketOf). first_asks layout channel (with_queue channel (ps ++ (packet ∷ [])) flow)) (sym nil))

pub came_behind : (layout : LayoutOf) (channel : Channel) (packet : PacketOf) (flow : FlowOf) → length (queue_at flow channel) ≢ 0 → comes_into layout channel packet flow ≡ with_queue channel (queue_at flow channel ++ (packet ∷ [])) flow
came_behind layout channel packet flow some =
    let test : (length (queue_at flow channel) == 0) ≡ false = (grind (arith, nat_tests)) in
    rw test refl

-- the queue is longer by one
came_queue : (layout : LayoutOf) (channel : Channel) (packet : PacketOf) (flow : FlowOf) → length flow.queues ≡ 1651 → IsSpot channel → queue_at (comes_into layout channel packet flow) channel ≡ queue_at flow channel ++ (packet ∷ [])
came_queue layout channel packet flow size is = elim (cases_eq (length (queue_at flow channel)) 0) [
  | inl empty ↦ (
      ap (λ (f : FlowOf). queue_at f channel) (came_first layout channel packet flow empty)
      ∙ ap (λ (qs : List (List PacketOf)). get_or qs (place_of channel) []) (asked_queues (layout.far channel) (first_of (with_queue channel (queue_at flow channel ++ (packet ∷ [])) flow) channel) (with_queue channel (queue_at flow channel ++ (packet ∷ [])) flow))
      ∙ queue_here flow channel (queue_at flow channel ++ (packet ∷ [])) size is)
  | inr some ↦ (
      ap (λ (f : FlowOf). queue_at f channel) (came_behind layout channel packet flow some)
      ∙ queue_here flow channel (queue_at flow channel ++ (packet ∷ [])) size is)
]

module _ (tables : Tables) (p : Vec Packet Global) (e : Vec ℕ Global) (q : Vec QueueOf Global) (r : Vec RouterOf Global) (kept : IsKept tables (made p e q r)) (channel : Channel) (slot : ℕ) (is : IsSpot channel) (slot_low : slot < length p.items) (sound : IsSoundOver tables (comes_into (ways tables) channel (packet_at p.items slot) (flow_of (made p e q r)))) (place : ℕ) (old : QueueOf) (place_is : place ≡ place_of channel) (old_is : old ≡ get_or q.items place old) where
  here : old ≡ get_or q.items (place_of channel) old
  here = old_is ∙ ap (λ (k : ℕ). get_or q.items k old) place_is

  queue_of : queue_at (flow_of (made p e q r)) channel ≡ packets_in p.items old
  queue_of = queue_is p e q r channel old kept.queues is ∙ ap (packets_in p.items) (sym here)

  pub count_is : length (queue_at (flow_of (made p e q r)) channel) ≡ length old.slots
  count_is = ap (λ (ps : List PacketOf). length ps) queue_of ∙ length-map old.slots (packet_at p.items)

  size : length (flow_of (made p e q r)).queues ≡ 1651
  size = length-map q.items (packets_in p.items) ∙ kept.queues

  -- the channel has a far side
  has_far : (far : Channel) × ((ways tables).far channel ≡ Some far)
  has_far =
      let after = came_queue (ways tables) channel (packet_at p.items slot) (flow_of (made p e q r)) size is in
      let n = ap (λ (ps : List PacketOf). length ps) after ∙ length_push (queue_at (flow_of (made p e q r)) channel) (packet_at p.items slot) in
      let comes = sound.sound.moving channel is 0 (packet_at p.items slot) (omega arith) in
      (comes.0, sound.tables_are.far channel ∙ comes.1)

  pub has_place : length old.slots < old.places
  has_place =
      let after = came_queue (ways tables) channel (packet_at p.items slot) (flow_of (made p e q r)) size is in
      let n = ap (λ (ps : List PacketOf). length ps) after ∙ length_push (queue_at (flow_of (made p e q r)) channel) (packet_at p.items slot) in
      let room = sound.sound.room channel is in
      let known = few_queued sound.layout sound.known (comes_into (ways tables) channel (packet_at p.items slot) (flow_of (made p e q r))) channel sound.sound is in
      let few = sound.few in
      let room_is = sound.tables_are.room_is in
      let count = count_is in
      let low = place_low channel is in
      let link = has_far in
      let size = kept.queues in
      let same = same_places q.items (place_of channel) old old (omega arith) here in
      let places = kept.places channel link.0 old is low link.1 in
      omega arith

  module _ (new : QueueOf) (new_is : new ≡ record old { slots = old.slots ++ (slot ∷ []) }) where
    pub pushed : flow_of (made p e (with_item q place new) r) ≡ with_queue channel (queue_at (flow_of (made p e q r)) channel ++ (packet_at p.items slot ∷ [])) (flow_of (made p e q r))
    pushed =
        ap (λ (k : ℕ). flow_of (made p e (with_item q k new) r)) place_is
        ∙ queue_written p e q r channel new
        ∙ ap (λ (ps : List PacketOf). with_queue channel ps (flow_of (made p e q r))) (
        ap (packets_in p.items) new_is
        ∙ map-append (packet_at p.items) old.slots (slot ∷ [])
        ∙ ap (λ (ps : List PacketOf). ps ++ (packet_at p.items slot ∷ [])) (sym queue_of))

    pub kept_pushed : IsKept tables (made p e (with_item q place new) r)
    kept_pushed =
        let low = place_low channel is in
        let facts = queue_facts tables (made p e q r) (place_of channel) old kept low here in
        let size = kept.queues in
        kept_queue tables p e q r place new kept
        (subst (λ (x : QueueOf). All (λ s. s < length p.items) x.slots) (sym new_is) (All-push (λ (s : ℕ). s < length p.items) old.slots slot facts slot_low))
        (λ none. ap (λ (x : QueueOf). x.places) new_is ∙ same_places q.items place old none (omega arith) old_is)

    pub first_of_all : length old.slots ≡ 0 → comes_into (ways tables) channel (packet_at p.items slot) (flow_of (made p e q r)) ≡ first_asks (ways tables) channel (flow_of (made p e (with_item q place new) r))
    first_of_all empty = came_first (ways tables) channel (packet_at p.items slot) (flow_of (made p e q r)) (count_is ∙ empty) ∙ ap (λ (f : FlowOf). first_asks (ways tables) channel f) (sym pushed)

    pub behind_some : length old.slots ≢ 0 → comes_into (ways tables) channel (packet_at p.items slot) (flow_of (made p e q r)) ≡ flow_of (made p e (with_item q place new) r)
    behind_some some = came_behind (ways tables) channel (packet_at p.items slot) (flow_of (made p e q r)) (λ empty. some (sym count_is ∙ empty)) ∙ sym pushed
