-- Over rows that pass, some packet can move.
use Rattle.std.proofs.Common.{◌≡◌, ◌≢◌, ◌∙◌, sym, subst, refl, ℕ, zero, suc, ◌<◌, ◌≤◌, List, [], ◌∷◌, Option, Some, None, arith, length, get_or, inl, inr}
use Rattle.std.specs.Prelude.{Contains, All, ◌⊎◌, ◌/◌, ◌%◌}
use Rattle.std.proofs.lemmas.Bool.{cases_eq}
use Rattle.std.proofs.lemmas.Option.{same_Some}
use Rattle.dep_check.specs.declared.channel.Channel.{Channel}
use Rattle.dep_check.specs.Channels.{IsChannel, LeadsTo}
use Rattle.common_graph.specs.Cycles.{AreRanks}
use Rattle.dep_check.specs.Packets.{AllAreJoined}
use Rattle.dep_check.specs.Tables.{IsSpot, place_of, rank_at}
use Rattle.dep_check.proofs.SpotLemmas.{option_cases}
use Rattle.flow_channels.specs.Layout.{LayoutOf, spot, IsWired}
use Rattle.flow_channels.specs.Flows.{FlowOf, PacketOf, WaitOf, first_of, queue_at, waiting_at, left_of, in_queues, all_starting}
use Rattle.flow_channels.specs.Moves.{Move, FirstCanMove, IsPossible}
use Rattle.flow_channels.specs.Moves.Move.{Arrives, Goes}
use Rattle.flow_channels.specs.Sound.{IsSound, ComesBy, FirstWaits, WaitsThere}
use Rattle.flow_channels.proofs.ExitLemmas.{list_cases, exit_has, has_way_on}
use Rattle.flow_channels.proofs.CountLemmas.{some_queue, no_queue, some_start, some_switch, found}

-- the spot at a place
at_place : ℕ → Channel
at_place k = record { at = k / 13; port = k % 13 }

at_place_spot : (k : ℕ) → k < 1651 → IsSpot (at_place k)
unfolding at_place
at_place_spot k low = record { at = omega arith; port = omega arith }

at_place_is : (k : ℕ) → place_of (at_place k) ≡ k
unfolding at_place
at_place_is k = omega arith

module _ (layout : LayoutOf) (ranks : List (Option ℕ)) (known : List ℕ) (flow : FlowOf) (wired : IsWired layout) (joined : AllAreJoined layout.far layout.numbers layout.rows) (ranked : AreRanks (IsChannel layout.far) (LeadsTo layout.far layout.rows) (rank_at ranks)) (sound : IsSound layout known flow) where
  -- a channel with a rank is one
  is_channel : (channel : Channel) (rank : ℕ) → rank_at ranks channel ≡ Some rank → IsChannel layout.far channel
  is_channel channel rank has = elim (option_cases (layout.far channel)) [
    | inl none ↦ absurd (let gone : rank_at ranks channel ≡ None = ranked.others channel (λ (is : IsChannel layout.far channel). clash is none) in cc)
    | inr some ↦ some
  ]
    where
      clash : IsChannel layout.far channel → layout.far channel ≡ None → ⊥
      clash (end, e) none = absurd (cc)

  -- a first packet, and where its channel brings it
  comes : (channel : Channel) (packet : PacketOf) (rest : List PacketOf) → IsSpot channel → queue_at flow channel ≡ packet ∷ rest → ComesBy layout channel packet
  comes channel packet rest is queue =
      let all : All (ComesBy layout channel) (packet ∷ rest) = subst (λ (packets : List PacketOf). All (ComesBy layout channel) packets) queue (sound.moving channel is) in
      all zero packet (omega arith)

  no_packets : (channel : Channel) → queue_at flow channel ≡ [] → length (queue_at flow channel) < layout.most
  no_packets channel none = let room = wired.room in rw none (omega arith)

  -- The channel into which a first packet could go, but for those that are in it.
  record IsNextFull (rank : ℕ) : Type 0 where
    next : Channel
    full : queue_at flow next ≢ []
    rank_of : ℕ
    has : rank_at ranks next ≡ Some rank_of
    less : rank_of < rank

  -- so the first packet can move, or the next channel has a lesser rank and is not empty
  first_or_next : (channel : Channel) (rank : ℕ) → queue_at flow channel ≢ [] → rank_at ranks channel ≡ Some rank → FirstCanMove layout flow channel ⊎ IsNextFull rank
  first_or_next channel rank some has = elim (list_cases (queue_at flow channel)) [
    | inl none ↦ absurd (some none)
    | inr (packet, rest, queue) ↦ (
        let is = is_channel channel rank has in
        let by = comes channel packet rest (wired.near channel is.0 is.1) queue in
        let first : first_of flow channel ≡ Some packet = rw queue refl in
        elim (cases_eq by.0.at packet.to) [
          | inl same ↦ inl (record { packet = packet; first = first; end = by.0; arrives = by.1; way = inl same })
          | inr before ↦ (
              let exit = has_way_on layout wired joined packet.to by.0 by.2 before in
              let next = spot by.0.at exit.exit in
              elim (list_cases (queue_at flow next)) [
                | inl none ↦ inl (record {
                  packet = packet;
                  first = first;
                  end = by.0;
                  arrives = by.1;
                  way = inr (record { exit = exit.exit; named = exit.named; room = (exit.far, exit.link, no_packets next none) });
                })
                | inr (other, others, full) ↦ (
                    let own = ranked.nodes channel (by.0, by.1) in
                    let same : own.0 ≡ rank = same_Some own.0 rank (sym own.1 ∙ has) in
                    let leads : LeadsTo layout.far layout.rows channel next = record {
                      entry = by.0.port;
                      arrives = by.1;
                      to = packet.to;
                      exit = exit_has layout by.0 packet.to exit.exit exit.named;
                      link = (exit.far, exit.link);
                    } in
                    let above = own.2.above next leads in
                    inr (record {
                      next = next;
                      full = λ (none : queue_at flow next ≡ []). absurd (cc);
                      rank_of = above.0;
                      has = above.1;
                      less = subst (λ (n : ℕ). above.0 < n) same above.2;
                    }))
              ])
        ])
  ]

  pub least_moves : (channel : Channel) (rank : ℕ) → queue_at flow channel ≢ [] → rank_at ranks channel ≡ Some rank → ((other : Channel) (above : ℕ) → queue_at flow other ≢ [] → rank_at ranks other ≡ Some above → rank ≤ above) → FirstCanMove layout flow channel
  least_moves channel rank some has least = elim (first_or_next channel rank some has) [
    | inl moves ↦ moves
    | inr next ↦ absurd (let at_least = least next.next next.rank_of next.full next.has in let less = next.less in omega arith)
  ]

  -- down the ranks, some first packet can move
  descend : (bound : ℕ) (channel : Channel) (rank : ℕ) → rank < bound → queue_at flow channel ≢ [] → rank_at ranks channel ≡ Some rank → (c : Channel) × FirstCanMove layout flow c
  descend zero channel rank low some has = absurd (omega arith)
  descend (suc bound) channel rank low some has = elim (first_or_next channel rank some has) [
    | inl moves ↦ (channel, moves)
    | inr next ↦ descend bound next.next next.rank_of (let less = next.less in omega arith) next.full next.has
  ]

  -- and it has a move
  arrival : (channel : Channel) (packet : PacketOf) (end : Channel) → first_of flow channel ≡ Some packet → layout.far channel ≡ Some end → end.at ≡ packet.to → (move : Move) × IsPossible layout flow move
  arrival channel packet end first far same =
      (Arrives channel, (packet, end.port, first, subst (λ (at : ℕ). layout.far channel ≡ Some (spot at end.port)) same far))

  waits_first : (channel end : Channel) (packet : PacketOf) → layout.far channel ≡ Some end → first_of flow channel ≡ Some packet → (end.at ≡ packet.to) ⊎ Contains (waiting_at flow end.at) (record { packet = packet; entry = end.port })
  waits_first channel end packet far first = elim (list_cases (queue_at flow channel)) [
    | inl none ↦ absurd (let empty : first_of flow channel ≡ None = rw none refl in cc)
    | inr (one, rest, queue) ↦ (
        let is : first_of flow channel ≡ Some one = rw queue refl in
        let same : one ≡ packet = same_Some one packet (sym is ∙ first) in
        let waits : FirstWaits flow end (one ∷ rest) = subst (λ (packets : List PacketOf). FirstWaits flow end packets) queue (sound.firsts channel end far) in
        subst (λ (p : PacketOf). (end.at ≡ p.to) ⊎ Contains (waiting_at flow end.at) (record { packet = p; entry = end.port })) same waits)
  ]

  first_move : (channel : Channel) → FirstCanMove layout flow channel → (move : Move) × IsPossible layout flow move
  first_move channel can = elim can.way [
    | inl same ↦ arrival channel can.packet can.end can.first can.arrives same
    | inr way ↦ elim (waits_first channel can.end can.packet can.arrives can.first) [
      | inl same ↦ arrival channel can.packet can.end can.first can.arrives same
      | inr (place, low, is) ↦ (
          let wait : WaitOf = record { packet = can.packet; entry = can.end.port } in
          (Goes can.end.at place way.exit, record { wait = wait; there = found (waiting_at flow can.end.at) place wait low is; named = way.named; room = way.room }))
    ]
  ]

  -- one in a channel
  by_channel : in_queues flow.queues ≢ 0 → (move : Move) × IsPossible layout flow move
  by_channel some =
      let queue = some_queue flow.queues some in
      let channel = at_place queue.0 in
      let low : queue.0 < 1651 = (let size = sound.queues in let below = queue.1 in omega arith) in
      let full : queue_at flow channel ≢ [] = subst (λ (k : ℕ). get_or flow.queues k [] ≢ []) (sym (at_place_is queue.0)) queue.2 in
      elim (list_cases (queue_at flow channel)) [
        | inl none ↦ absurd (full none)
        | inr (packet, rest, is) ↦ (
            let by = comes channel packet rest (at_place_spot queue.0 low) is in
            let own = ranked.nodes channel (by.0, by.1) in
            let first = descend (suc own.0) channel own.0 (omega arith) full own.1 in
            first_move first.0 first.1)
      ]

  -- one that starts, where all channels are empty
  by_start : in_queues flow.queues ≡ 0 → all_starting flow.waiting ≢ 0 → (move : Move) × IsPossible layout flow move
  by_start none some =
      let switch = some_switch flow.waiting some in
      let start = some_start (waiting_at flow switch.0) switch.1 in
      let there = sound.waits switch.0 start.0 start.1 start.2 in
      let here = subst (λ (w : WaitOf). WaitsThere layout flow switch.0 w) start.4 there in
      let exit = has_way_on layout wired joined start.1.packet.to (spot switch.0 start.1.entry) here.1 here.0 in
      let empty : queue_at flow (spot switch.0 exit.exit) ≡ [] = no_queue flow.queues none (place_of (spot switch.0 exit.exit)) in (
        Goes switch.0 start.0 exit.exit,
        record { wait = start.1; there = start.3; named = exit.named; room = (exit.far, exit.link, no_packets (spot switch.0 exit.exit) empty) },
      )

  pub some_move : left_of flow ≢ 0 → (move : Move) × IsPossible layout flow move
  some_move left = elim (cases_eq (in_queues flow.queues) 0) [
    | inl none ↦ by_start none (λ (gone : all_starting flow.waiting ≡ 0). left (omega arith))
    | inr some ↦ by_channel some
  ]
