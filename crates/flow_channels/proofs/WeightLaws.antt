-- What moves make of the packets in channels, each counted by a weight of its channel, and of those that wait where they
-- start.
use Rattle.std.proofs.Common.{◌≡◌, ◌≢◌, ◌∙◌, sym, ap, subst, refl, ℕ, zero, suc, ◌+◌, ◌*◌, ◌<◌, List, [], ◌∷◌, ◌++◌, Option, Some, None, true, false, arith, length, get_or, set, inl, inr, ◌⊎◌, ◌==◌}
use Rattle.std.specs.Prelude.{remove, drop, unwrap_or, slice_get, if◌then◌else◌}
use Rattle.std.proofs.Math.ListN.{length-append, length-set}
use Rattle.std.proofs.lemmas.Bool.Decides.{nat_tests}
use Rattle.dep_check.specs.declared.channel.Channel.{Channel}
use Rattle.dep_check.specs.Channels.{LeadsTo}
use Rattle.dep_check.specs.Tables.{place_of}
use Rattle.dep_check.proofs.SpotLemmas.{option_cases, place_low}
use Rattle.flow_channels.specs.Layout.{LayoutOf, spot, IsWired}
use Rattle.flow_channels.specs.Flows.{FlowOf, PacketOf, WaitOf, queue_at, waiting_at, with_queue, with_waiting, first_asks, leaves, leaves_by, comes_into, goes, starting, all_starting}
use Rattle.flow_channels.specs.Moves.{CanArrive, CanGo}
use Rattle.flow_channels.specs.Runs.{moves_in}
use Rattle.flow_channels.specs.Sound.{IsSound, IsFirst, WaitsThere}
use Rattle.flow_channels.proofs.ExitLemmas.{list_cases, first_in, exit_has}
use Rattle.flow_channels.proofs.SoundLaws.{near, there, not_start, first_asks_is, got, brought, starts_there, left_by, within}

-- one more than the rank at a place
abbrev pub weight : List (Option ℕ) → ℕ → ℕ
weight ranks k = suc (unwrap_or (get_or ranks k None) 0)

-- 1 for what starts
abbrev pub counted : ℕ → ℕ
counted entry = if entry == 0 then 1 else 0

pub one_more : (n r : ℕ) → suc n * r ≡ n * r + r
one_more n r = grind arith

moves_set : (ranks : List (Option ℕ)) (queues : List (List PacketOf)) (k : ℕ) (ps : List PacketOf) → k < length ranks → k < length queues → moves_in ranks (set queues k ps) + length (get_or queues k []) * weight ranks k ≡ moves_in ranks queues + length ps * weight ranks k
moves_set [] queues k ps low inside = absurd (omega arith)
moves_set (rank ∷ ranks) [] k ps low inside = absurd (omega arith)
moves_set (rank ∷ ranks) (q ∷ queues) zero ps low inside = omega arith
moves_set (rank ∷ ranks) (q ∷ queues) (suc k) ps low inside = let rest = moves_set ranks queues k ps (omega arith) (omega arith) in omega arith

pub starting_set : (waiting : List (List WaitOf)) (at : ℕ) (ws : List WaitOf) → at < length waiting → all_starting (set waiting at ws) + starting (get_or waiting at []) ≡ all_starting waiting + starting ws
starting_set [] at ws low = absurd (omega arith)
starting_set (vs ∷ waiting) zero ws low = omega arith
starting_set (vs ∷ waiting) (suc at) ws low = let rest = starting_set waiting at ws (omega arith) in omega arith

pub starting_push : (ws : List WaitOf) (w : WaitOf) → starting (ws ++ (w ∷ [])) ≡ starting ws + counted w.entry
starting_push [] w = omega arith
starting_push (v ∷ ws) w = let rest = starting_push ws w in omega arith

pub starting_remove : (ws : List WaitOf) (i : ℕ) (w : WaitOf) → i < length ws → get_or ws i w ≡ w → starting (remove ws i) + counted w.entry ≡ starting ws
starting_remove [] i w low is = absurd (omega arith)
starting_remove (v ∷ ws) zero w low is = let same = ap (λ (u : WaitOf). counted u.entry) is in omega arith
starting_remove (v ∷ ws) (suc i) w low is = let rest = starting_remove ws i w (omega arith) is in omega arith

pub counts_one : (n : ℕ) → n ≡ 0 → counted n ≡ 1
counts_one n first = let test : (n == 0) ≡ true = (grind (arith, nat_tests)) in rw test refl

pub counts_none : (n : ℕ) → n ≢ 0 → counted n ≡ 0
counts_none n other = let test : (n == 0) ≡ false = (grind (arith, nat_tests)) in rw test refl

-- the weight of each channel stands in the list
module _ (layout : LayoutOf) (ranks : List (Option ℕ)) (wired : IsWired layout) (known : List ℕ) (has : (c end : Channel) → layout.far c ≡ Some end → place_of c < length ranks) where
  -- asking changes neither
  pub asks_starting : (c end : Channel) (flow : FlowOf) → layout.far c ≡ Some end → length flow.waiting ≡ 127 → (all_starting (first_asks layout c flow).waiting ≡ all_starting flow.waiting) × ((first_asks layout c flow).queues ≡ flow.queues)
  asks_starting c end flow far size = elim (first_asks_is layout wired known c end flow far) [
    | inl same ↦ (ap (λ (f : FlowOf). all_starting f.waiting) same, ap (λ (f : FlowOf). f.queues) same)
    | inr (w, entry, is) ↦ (
        let low = (there layout wired known c end far).at in
        let sum = starting_set flow.waiting end.at (waiting_at flow end.at ++ (w ∷ [])) (omega arith) in
        let push = starting_push (waiting_at flow end.at) w in
        let none = counts_none w.entry (λ (first : w.entry ≡ 0). not_start layout wired known end c end.at (wired.back c end far) (ap (λ (q : ℕ). spot end.at q) (sym entry ∙ first))) in
        (ap (λ (f : FlowOf). all_starting f.waiting) is ∙ (omega arith), ap (λ (f : FlowOf). f.queues) is))
  ]

  -- the first packet of a channel is gone from it
  leaves_weight : (c end : Channel) (flow : FlowOf) (p : PacketOf) → layout.far c ≡ Some end → length flow.queues ≡ 1651 → length flow.waiting ≡ 127 → IsFirst flow c p → (moves_in ranks (leaves layout c flow).queues + weight ranks (place_of c) ≡ moves_in ranks flow.queues) × (all_starting (leaves layout c flow).waiting ≡ all_starting flow.waiting)
  leaves_weight c end flow p far size size' (others, queue) =
      let is = near layout wired known c end far in
      let inside = place_low c is in
      let low = has c end far in
      let asked = asks_starting c end (with_queue c (drop 1 (queue_at flow c)) flow) far size' in
      let sum = moves_set ranks flow.queues (place_of c) (drop 1 (queue_at flow c)) low (omega arith) in
      let old : length (queue_at flow c) * weight ranks (place_of c) ≡ length others * weight ranks (place_of c) + weight ranks (place_of c) = ap (λ (ps : List PacketOf). length ps * weight ranks (place_of c)) queue ∙ one_more (length others) (weight ranks (place_of c)) in
      let new : length (drop 1 (queue_at flow c)) * weight ranks (place_of c) ≡ length others * weight ranks (place_of c) = ap (λ (ps : List PacketOf). length (drop 1 ps) * weight ranks (place_of c)) queue in
      (ap (λ (qs : List (List PacketOf)). moves_in ranks qs + weight ranks (place_of c)) asked.1 ∙ (omega arith), asked.0)

  -- a packet comes into a channel
  comes_weight : (d e : Channel) (p : PacketOf) (flow : FlowOf) → layout.far d ≡ Some e → length flow.queues ≡ 1651 → length flow.waiting ≡ 127 → (moves_in ranks (comes_into layout d p flow).queues ≡ moves_in ranks flow.queues + weight ranks (place_of d)) × (all_starting (comes_into layout d p flow).waiting ≡ all_starting flow.waiting)
  comes_weight d e p flow far size size' =
      let is = near layout wired known d e far in
      let inside = place_low d is in
      let low = has d e far in
      elim (list_cases (queue_at flow d)) [
        | inl none ↦ (
            let is : comes_into layout d p flow ≡ first_asks layout d (with_queue d (p ∷ []) flow) = rw none refl in
            let asked = asks_starting d e (with_queue d (p ∷ []) flow) far size' in
            let sum = moves_set ranks flow.queues (place_of d) (p ∷ []) low (omega arith) in
            let old : length (queue_at flow d) * weight ranks (place_of d) ≡ 0 * weight ranks (place_of d) = ap (λ (ps : List PacketOf). length ps * weight ranks (place_of d)) none in
            (ap (λ (f : FlowOf). moves_in ranks f.queues) is ∙ ap (moves_in ranks) asked.1 ∙ (omega arith), ap (λ (f : FlowOf). all_starting f.waiting) is ∙ asked.0))
        | inr (x, xs, some) ↦ (
            let count : length (queue_at flow d) ≡ suc (length xs) = ap length some in
            let test : (length (queue_at flow d) == 0) ≡ false = (grind (arith, nat_tests)) in
            let is : comes_into layout d p flow ≡ with_queue d (queue_at flow d ++ (p ∷ [])) flow = rw test refl in
            let sum = moves_set ranks flow.queues (place_of d) (queue_at flow d ++ (p ∷ [])) low (omega arith) in
            let longer : length (queue_at flow d ++ (p ∷ [])) ≡ suc (length (queue_at flow d)) = omega (arith, length-append (queue_at flow d) (p ∷ [])) in
            let new = ap (λ (n : ℕ). n * weight ranks (place_of d)) longer ∙ one_more (length (queue_at flow d)) (weight ranks (place_of d)) in
            (ap (λ (f : FlowOf). moves_in ranks f.queues) is ∙ (omega arith), ap (λ (f : FlowOf). all_starting f.waiting) is))
      ]

  -- the first packet of a channel arrives
  pub arrive_weight : (flow : FlowOf) (c : Channel) → IsSound layout known flow → CanArrive layout flow c → (moves_in ranks (leaves layout c flow).queues + weight ranks (place_of c) ≡ moves_in ranks flow.queues) × (all_starting (leaves layout c flow).waiting ≡ all_starting flow.waiting)
  arrive_weight flow c sound (packet, entry, first, far) = leaves_weight c (spot packet.to entry) flow packet far sound.queues sound.waiting (first_in (queue_at flow c) packet first)

  -- one that waits goes into a channel: it starts there, or leaves the one that brought it
  abbrev pub GoesFrom : FlowOf → Channel → FlowOf → Type 0
  GoesFrom flow d new =
      ((moves_in ranks new.queues ≡ moves_in ranks flow.queues + weight ranks (place_of d)) × (all_starting new.waiting + 1 ≡ all_starting flow.waiting))
      ⊎ ((c end far : Channel) × (layout.far c ≡ Some end) × LeadsTo layout.far layout.rows c d × (layout.far d ≡ Some far) × (moves_in ranks new.queues + weight ranks (place_of c) ≡ moves_in ranks flow.queues + weight ranks (place_of d)) × (all_starting new.waiting ≡ all_starting flow.waiting))

  pub go_weight : (flow : FlowOf) (at i port : ℕ) → IsSound layout known flow → CanGo layout flow at i port → GoesFrom flow (spot at port) (goes layout at i port (slice_get (waiting_at flow at) i) flow)
  go_weight flow at i port sound can =
      let w = can.wait in
      let g = got layout wired known (waiting_at flow at) i w can.there in
      let waits : WaitsThere layout flow at w = subst (λ (v : WaitOf). WaitsThere layout flow at v) g.1 (sound.waits at i w g.0) in
      let inside = within layout wired known flow.waiting at i g.0 in
      let one = with_waiting at (remove (waiting_at flow at) i) flow in
      let two = leaves_by layout (layout.far (spot at w.entry)) one in
      let left = left_by layout wired known flow at i w sound g.0 g.1 in
      let d = spot at port in
      let more = comes_weight d can.room.0 w.packet two can.room.1 left.sound.queues left.sound.waiting in
      let sum = starting_set flow.waiting at (remove (waiting_at flow at) i) inside in
      let removed = starting_remove (waiting_at flow at) i w g.0 g.1 in
      let q = more.0 in
      let s = more.1 in
      let total : GoesFrom flow d (comes_into layout d w.packet two) = elim (option_cases (layout.far (spot at w.entry))) [
        | inl none ↦ inl (
            let same : two ≡ one = ap (λ (o : Option Channel). leaves_by layout o one) none in
            let a = ap (λ (f : FlowOf). moves_in ranks f.queues) same in
            let b = ap (λ (f : FlowOf). all_starting f.waiting) same in
            let c = counts_one w.entry (starts_there layout wired known flow at w none waits) in
            (omega arith, omega arith))
        | inr (c, by) ↦ inr (
            let back = wired.back (spot at w.entry) c by in
            let same : two ≡ leaves layout c one = ap (λ (o : Option Channel). leaves_by layout o one) by in
            let first = brought layout wired known flow at w c by waits in
            let size : length one.waiting ≡ 127 = omega (arith, length-set flow.waiting at (remove (waiting_at flow at) i), sound.waiting) in
            let less = leaves_weight c (spot at w.entry) one w.packet back sound.queues size first in
            let leads : LeadsTo layout.far layout.rows c d = record { entry = w.entry; arrives = back; to = w.packet.to; exit = exit_has layout (spot at w.entry) w.packet.to port can.named; link = (can.room.0, can.room.1) } in
            let x = less.0 in
            let y = less.1 in
            let a = ap (λ (f : FlowOf). moves_in ranks f.queues) same in
            let b = ap (λ (f : FlowOf). all_starting f.waiting) same in
            let none = counts_none w.entry (λ (start : w.entry ≡ 0). not_start layout wired known (spot at w.entry) c at by (ap (λ (p : ℕ). spot at p) start)) in
            (c, spot at w.entry, can.room.0, back, leads, can.room.1, omega arith, omega arith))
      ] in
      subst (λ (o : Option WaitOf). GoesFrom flow d (goes layout at i port o flow)) (sym can.there) total
