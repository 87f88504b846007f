-- How many packets are left after a move.
use Rattle.std.proofs.Common.{◌≡◌, ap, refl, ℕ, zero, suc, ◌+◌, ◌<◌, ◌≤◌, List, [], ◌∷◌, Option, Some, None, arith, length, inl, inr}
use Rattle.std.specs.Prelude.{replicate, slice_get, unwrap_or}
use Rattle.std.proofs.lemmas.List.{get_or-replicate, length-replicate}
use Rattle.dep_check.specs.declared.channel.Channel.{Channel}
use Rattle.dep_check.specs.Tables.{place_of}
use Rattle.dep_check.proofs.SpotLemmas.{place_low}
use Rattle.flow_channels.specs.Layout.{IsWired, LayoutOf, spot}
use Rattle.flow_channels.specs.Flows.{FlowOf, PacketOf, goes, in_queues, leaves, left_of, waiting_at}
use Rattle.flow_channels.specs.Moves.{CanArrive, CanGo}
use Rattle.flow_channels.specs.Runs.{moves_in}
use Rattle.flow_channels.specs.Sound.{IsSound}
use Rattle.flow_channels.proofs.SoundLaws.{near, arrive_sound, go_sound}
use Rattle.flow_channels.proofs.WeightLaws.{weight, arrive_weight, go_weight}

-- each channel has the weight 1
even : List (Option ℕ)
even = replicate 1651 None

count_even : (n : ℕ) (queues : List (List PacketOf)) → length queues ≤ n → moves_in (replicate n None) queues ≡ in_queues queues
count_even zero [] few = refl
count_even zero (packets ∷ queues) few = absurd (omega arith)
count_even (suc n) [] few = refl
count_even (suc n) (packets ∷ queues) few = let rest = count_even n queues (omega arith) in omega arith

counts_even : (queues : List (List PacketOf)) → length queues ≡ 1651 → moves_in even queues ≡ in_queues queues
unfolding even
counts_even queues count = count_even 1651 queues (omega arith)

module _ (layout : LayoutOf) (wired : IsWired layout) (known : List ℕ) where
  has : (c end : Channel) → layout.far c ≡ Some end → place_of c < length even
  unfolding even
  has c end far =
      let low = place_low c (near layout wired known c end far) in
      let count = length-replicate {A = Option ℕ} 1651 None in
      omega arith

  one : (c end : Channel) → layout.far c ≡ Some end → weight even (place_of c) ≡ 1
  unfolding even
  one c end far = ap (λ (o : Option ℕ). suc (unwrap_or o 0)) (get_or-replicate 1651 (place_of c) None None (place_low c (near layout wired known c end far)))

  pub arrive_left : (flow : FlowOf) (c : Channel) → IsSound layout known flow → CanArrive layout flow c → left_of (leaves layout c flow) + 1 ≡ left_of flow
  arrive_left flow c sound can =
      let less = arrive_weight layout even wired known has flow c sound can in
      let moved = less.0 in
      let same = less.1 in
      let before = counts_even flow.queues sound.queues in
      let after = counts_even (leaves layout c flow).queues (arrive_sound layout wired known flow c sound can).queues in
      let weight_is = one c (spot can.0.to can.1) can.3 in
      omega arith

  pub go_left : (flow : FlowOf) (at i port : ℕ) → IsSound layout known flow → CanGo layout flow at i port → left_of (goes layout at i port (slice_get (waiting_at flow at) i) flow) ≡ left_of flow
  go_left flow at i port sound can =
      let new = goes layout at i port (slice_get (waiting_at flow at) i) flow in
      let before = counts_even flow.queues sound.queues in
      let after = counts_even new.queues (go_sound layout wired known flow at i port sound can).queues in
      let there = one (spot at port) can.room.0 can.room.1 in
      elim (go_weight layout even wired known has flow at i port sound can) [
        | inl (more, fewer) ↦ omega arith
        | inr (c, end, far, from, leads, to, moved, same) ↦ (let here = one c end from in omega arith)
      ]
