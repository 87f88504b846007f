-- The two ends of a link over ticks in which no frame is lost.

use Rattle.std.specs.Prelude.{◌≡◌, ◌⊎◌, ◌<◌, ℕ, suc, List, [], ◌∷◌}
use Rattle.an_base.specs.Values.{EndId}
use Rattle.an_base.specs.declared.port.Sample.TheVariants as sample
use Rattle.port_monitor.specs.declared.port.Phase.TheVariants.{Switch}
use Rattle.link_settling.specs.Measures.{HasNo}
use Rattle.port_monitor.specs.Histories.{History, Sampled, Replied, port_after}

-- replies by one end, with these numbers, the newest first
abbrev pub with_replies : EndId → List ℕ → History → History
with_replies from [] history = history
with_replies from (nonce ∷ nonces) history = Replied from nonce ∷ with_replies from nonces history

-- the number is among these numbers
abbrev pub IsAmong : ℕ → List ℕ → Type 0
IsAmong nonce [] = ⊥
IsAmong nonce (one ∷ more) = (one ≡ nonce) ⊎ IsAmong nonce more

-- a port asks, and is asked, after this history
abbrev pub Speaks : EndId → History → Type 0
Speaks me history = (port_after me history).phase ≡ Switch

-- the number of the last probe of a port
abbrev pub nonce_after : EndId → History → ℕ
nonce_after me history = (port_after me history).far.nonce

-- One tick at one end of a link that is up, without a loss: a clock, and then only replies of the far end. If both
-- ends ask after their clocks of this tick, the probe of this end is answered.
pub record IsTick (me far : EndId) (before after far_after : History) : Type 0 where
  pub nonces : List ℕ
  pub happened : after ≡ with_replies far nonces (Sampled sample.Switch ∷ before)
  pub answered : Speaks me after → Speaks far far_after → IsAmong (nonce_after me after) nonces

-- n ticks, one after another, after what had happened at both ends of a link of two switch ports when the
-- disturbance was over.
pub data Ticks (end far : EndId) : ℕ → History → History → Type 0 where
  begins : (here there : History) → HasNo sample.Host here → HasNo sample.Host there
      → Ticks end far 0 here there
  one_more : (ticks : ℕ) (here there then_here then_there : History) → Ticks end far ticks here there
      → IsTick end far here then_here then_there → IsTick far end there then_there then_here
      → Ticks end far (suc ticks) then_here then_there

-- n ticks at a link to a host that is up: no frame comes
abbrev pub AreHostTicks : ℕ → (ℕ → History) → Type 0
AreHostTicks ticks at = (tick : ℕ) → tick < ticks → at (suc tick) ≡ Sampled sample.Host ∷ at tick
