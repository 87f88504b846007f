-- Where packets are counted, there are some.
use Rattle.std.proofs.Common.{◌≡◌, ◌≢◌, ap, refl, ℕ, zero, suc, ◌<◌, List, [], ◌∷◌, Some, false, arith, length, get_or, inl, inr, ◌==◌}
use Rattle.std.specs.Prelude.{slice_get}
use Rattle.std.proofs.lemmas.Bool.{cases_eq}
use Rattle.std.proofs.lemmas.Bool.Decides.{nat_tests}
use Rattle.flow_channels.specs.Flows.{PacketOf, WaitOf, in_queues, starting, all_starting}

-- a queue that is not empty
pub some_queue : (queues : List (List PacketOf)) → in_queues queues ≢ 0 → (k : ℕ) × (k < length queues) × (get_or queues k [] ≢ [])
some_queue [] some = absurd (some refl)
some_queue ([] ∷ queues) some =
    let rest = some_queue queues (λ (none : in_queues queues ≡ 0). some (omega arith)) in
    (suc rest.0, omega (arith, rest.1), rest.2)
some_queue ((packet ∷ packets) ∷ queues) some = (zero, omega arith, λ (e : packet ∷ packets ≡ []). absurd (cc))

pub no_queue : (queues : List (List PacketOf)) → in_queues queues ≡ 0 → (k : ℕ) → get_or queues k [] ≡ []
no_queue [] none k = refl
no_queue ([] ∷ queues) none zero = refl
no_queue ([] ∷ queues) none (suc k) = no_queue queues (omega arith) k
no_queue ((packet ∷ packets) ∷ queues) none k = absurd (omega arith)

-- a packet that waits where it starts
pub some_start : (waits : List WaitOf) → starting waits ≢ 0 → (i : ℕ) × (wait : WaitOf) × (i < length waits) × (slice_get waits i ≡ Some wait) × (get_or waits i wait ≡ wait) × (wait.entry ≡ 0)
some_start [] some = absurd (some refl)
some_start (wait ∷ waits) some = elim (cases_eq wait.entry 0) [
  | inl starts ↦ (zero, wait, omega arith, refl, refl, starts)
  | inr other ↦ (
      let no : (wait.entry == 0) ≡ false = (grind (arith, nat_tests)) in
      let rest = some_start waits (λ (none : starting waits ≡ 0). some (rw no (omega arith))) in
      (suc rest.0, rest.1, omega (arith, rest.2), rest.3, rest.4, rest.5))
]

pub some_switch : (waiting : List (List WaitOf)) → all_starting waiting ≢ 0 → (at : ℕ) × (starting (get_or waiting at []) ≢ 0)
some_switch [] some = absurd (some refl)
some_switch (waits ∷ waiting) some = elim (cases_eq (starting waits) 0) [
  | inl none ↦ (let rest = some_switch waiting (λ (gone : all_starting waiting ≡ 0). some (omega arith)) in (suc rest.0, rest.1))
  | inr here ↦ (zero, here)
]

-- what a list contains is found there
pub found : (waits : List WaitOf) (i : ℕ) (wait : WaitOf) → i < length waits → get_or waits i wait ≡ wait → slice_get waits i ≡ Some wait
found [] i wait low is = absurd (omega arith)
found (x ∷ waits) zero wait low is = ap (λ (w : WaitOf). Some w) is
found (x ∷ waits) (suc i) wait low is = found waits i wait (omega arith) is
