-- The channels of a cycle, and one next channel on it for each.
use Rattle.std.proofs.Common.{◌≡◌, ◌∙◌, sym, ap, subst, refl, List, [], ◌∷◌, Bool, true, false, cond, ◌&&◌, ◌==◌, inl, inr, arith}
use Rattle.std.specs.Prelude.{Contains}
use Rattle.std.proofs.lemmas.Bool.Decides.{nat_tests}
use Rattle.common_values.proofs.MemberLemmas.{Contains-cons_cases}
use Rattle.common_graph.specs.Cycles.{IsCycle, Path}
use Rattle.fabric_routes.specs.Routes.{Channel}
use Rattle.fabric_verdict.proofs.RingLemmas.{same_channel}

abbrev is_same : Channel → Channel → Bool
is_same one other = one.switch == other.switch && one.port == other.port

same_is : (one other : Channel) → is_same one other ≡ true → one ≡ other
same_is one other is = same_channel one other (grind (arith, nat_tests)) (grind (arith, nat_tests))

same_self : (one : Channel) → is_same one one ≡ true
same_self one = grind (arith, nat_tests)

-- a channel is one of a path
abbrev pub is_on : Channel → List Channel → Channel → Bool
is_on node [] channel = is_same node channel
is_on node (next ∷ rest) channel = cond (is_same node channel) true (is_on next rest channel)

-- the channel after its first place there
abbrev pub next_on : Channel → List Channel → Channel → Channel → Channel
next_on node [] end channel = end
next_on node (next ∷ rest) end channel = cond (is_same node channel) next (next_on next rest end channel)

is_head : (node : Channel) (rest : List Channel) → is_on node rest node ≡ true
is_head node [] = same_self node
is_head node (next ∷ rest) = ap (λ (b : Bool). cond b true (is_on next rest node)) (same_self node)

is_later : (node next : Channel) (rest : List Channel) (channel : Channel) → is_on next rest channel ≡ true → is_on node (next ∷ rest) channel ≡ true
is_later node next rest channel is = by (is_same node channel)
  where
    by : (b : Bool) → cond b true (is_on next rest channel) ≡ true
    by true = refl
    by false = is

pub contained : (node : Channel) (rest : List Channel) (channel : Channel) → Contains (node ∷ rest) channel → is_on node rest channel ≡ true
contained node [] channel has = elim (Contains-cons_cases node channel [] has) [
  | inl same ↦ subst (λ (c : Channel). is_same node c ≡ true) same (same_self node)
  | inr (k, low, is) ↦ absurd (omega arith)
]
contained node (next ∷ rest) channel has = elim (Contains-cons_cases node channel (next ∷ rest) has) [
  | inl same ↦ subst (λ (c : Channel). is_on node (next ∷ rest) c ≡ true) same (is_head node (next ∷ rest))
  | inr later ↦ is_later node next rest channel (contained next rest channel later)
]

module _ (Step : Channel → Channel → Type 0) (end channel : Channel) where
  pub leads : (node : Channel) (rest : List Channel) → Path Step node rest end → is_on node rest channel ≡ true → Step channel (next_on node rest end channel)
  leads node [] step is = subst (λ (c : Channel). Step c end) (same_is node channel is) step
  leads node (next ∷ rest) (step, path) is = by (is_same node channel) refl (leads next rest path)
    where
      by : (b : Bool) → is_same node channel ≡ b → (is_on next rest channel ≡ true → Step channel (next_on next rest end channel)) → Step channel (cond b next (next_on next rest end channel))
      by true e later = subst (λ (c : Channel). Step c next) (same_is node channel e) step
      by false e later = later (sym (ap (λ (b : Bool). cond b true (is_on next rest channel)) e) ∙ is)

module _ (All : Channel → Bool) (end channel : Channel) (last : All end ≡ true) where
  pub stays : (node : Channel) (rest : List Channel) → ((each : Channel) → is_on node rest each ≡ true → All each ≡ true) → is_on node rest channel ≡ true → All (next_on node rest end channel) ≡ true
  stays node [] within is = last
  stays node (next ∷ rest) within is = by (is_same node channel) refl (stays next rest (λ each on. within each (is_later node next rest each on)))
    where
      by : (b : Bool) → is_same node channel ≡ b → (is_on next rest channel ≡ true → All (next_on next rest end channel) ≡ true) → All (cond b next (next_on next rest end channel)) ≡ true
      by true e later = within next (is_later node next rest next (is_head next rest))
      by false e later = later (sym (ap (λ (b : Bool). cond b true (is_on next rest channel)) e) ∙ is)

module _ (Step : Channel → Channel → Type 0) (start : Channel) (rest : List Channel) (cycle : IsCycle Step start rest) where
  abbrev pub is_in : Channel → Bool
  is_in = is_on start rest

  abbrev pub next_of : Channel → Channel
  next_of = next_on start rest start

  pub steps : (channel : Channel) → is_in channel ≡ true → Step channel (next_of channel)
  steps channel is = leads Step start channel start rest cycle is

  pub stays_in : (channel : Channel) → is_in channel ≡ true → is_in (next_of channel) ≡ true
  stays_in channel is = stays is_in start channel (is_head start rest) start rest (λ each on. on) is
