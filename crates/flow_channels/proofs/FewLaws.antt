-- No list of different packets is longer than that of those that entered.
use Rattle.std.proofs.Common.{◌≡◌, ◌≢◌, ◌∙◌, sym, ap, ℕ, ◌<◌, ◌≤◌, List, [], ◌∷◌, arith, length, get_or, inl, inr}
use Rattle.std.specs.Prelude.{All, AllPairs, Contains, ◌⊎◌}
use Rattle.std.proofs.lemmas.Bool.{cases_lt}
use Rattle.std.proofs.lemmas.List.{get_or_default}
use Rattle.dep_check.specs.declared.channel.Channel.{Channel}
use Rattle.dep_check.specs.Tables.{IsSpot}
use Rattle.common_values.proofs.PigeonLemmas.{pigeons}
use Rattle.flow_channels.specs.Layout.{LayoutOf, IsWired}
use Rattle.flow_channels.specs.Flows.{FlowOf, PacketOf, WaitOf, queue_at, waiting_at}
use Rattle.flow_channels.specs.Sound.{IsSound}
use Rattle.flow_channels.proofs.SoundLaws.{wait_known}

module _ {A : Type 0} (key : A → ℕ) (known : List ℕ) (xs : List A) (d : A) (has : All (λ x. Contains known (key x)) xs) (apart : AllPairs (λ a b. key a ≢ key b) xs) where
  -- where one stands among those that entered
  at_place : (k : ℕ) → (k < length xs) ⊎ (length xs ≤ k) → ℕ
  at_place k (inl low) = (has k d low).0
  at_place k (inr past) = 0

  at_low : (k : ℕ) (c : (k < length xs) ⊎ (length xs ≤ k)) → k < length xs → at_place k c < length known
  unfolding at_place
  at_low k (inl low) inside = (has k d low).1
  at_low k (inr past) inside = absurd (omega arith)

  at_is : (k : ℕ) (c : (k < length xs) ⊎ (length xs ≤ k)) → k < length xs → get_or known (at_place k c) 0 ≡ key (get_or xs k d)
  unfolding at_place
  at_is k (inl low) inside = get_or_default known (has k d low).0 0 (key (get_or xs k d)) (has k d low).1 ∙ (has k d low).2
  at_is k (inr past) inside = absurd (omega arith)

  few : length xs ≤ length known
  few = elim (cases_lt (length known) (length xs)) [
    | inr most ↦ most
    | inl more ↦ absurd (
        let two = pigeons (length known) (λ k. at_place k (cases_lt k (length xs))) (λ k low. at_low k (cases_lt k (length xs)) (omega arith)) in
        let less = two.2 in
        let most = two.3 in
        apart two.0 two.1 d less (omega arith)
        (sym (at_is two.0 (cases_lt two.0 (length xs)) (omega arith)) ∙ ap (λ (k : ℕ). get_or known k 0) two.4 ∙ at_is two.1 (cases_lt two.1 (length xs)) (omega arith)))
  ]

few_of : {A : Type 0} (key : A → ℕ) (known : List ℕ) (xs : List A) → All (λ x. Contains known (key x)) xs → AllPairs (λ a b. key a ≢ key b) xs → length xs ≤ length known
few_of key known [] has apart = omega arith
few_of key known (x ∷ xs) has apart = few key known (x ∷ xs) x has apart

pub few_queued : (layout : LayoutOf) (known : List ℕ) (flow : FlowOf) (channel : Channel) → IsSound layout known flow → IsSpot channel → length (queue_at flow channel) ≤ length known
few_queued layout known flow channel sound is = few_of (λ (p : PacketOf). p.packet) known (queue_at flow channel) (λ k d low. (sound.in_queue channel is k d low).0) (sound.once channel is)

pub few_waiting : (layout : LayoutOf) (known : List ℕ) (flow : FlowOf) (at : ℕ) → IsWired layout → IsSound layout known flow → length (waiting_at flow at) ≤ length known
few_waiting layout known flow at wired sound =
    few_of (λ (w : WaitOf). w.packet.packet) known (waiting_at flow at)
    (λ k d low. wait_known layout wired known flow at (get_or (waiting_at flow at) k d) sound (sound.waits at k d low) (sound.starts at k d low))
    (sound.apart at)
