use Rattle.std.proofs.Common.{◌≡◌, refl, ℕ, ◌+◌, ◌≤◌, ◌==◌, arith, ◌∷◌, Option, Some, None, Bool, true, false}
use Rattle.std.proofs.lemmas.Bool.{cond_both}
use Rattle.an_base.specs.Values.{EndId}
use Rattle.an_base.specs.declared.port.Sample.{Sample}
use Rattle.an_base.specs.declared.port.Sample.TheVariants as sample
use Rattle.skeptic.specs.Skeptics.{hold, praised, cleared}
use Rattle.connectivity.specs.declared.conn.Conn.{Conn}
use Rattle.connectivity.specs.declared.conn.Conn.TheVariants.{Who, Loop, Good}
use Rattle.connectivity.specs.Connections.{ConnectivityOf, asked, counts, doubted, held_by, is_same_end, judged_as, met, replied, streak_of}
use Rattle.port_monitor.specs.declared.port.Phase.{Phase}
use Rattle.port_monitor.specs.declared.port.Phase.TheVariants.{Dead, Checking, Host, Switch}
use Rattle.port_monitor.specs.declared.port.Port.{Port}
use Rattle.port_monitor.specs.Ports.{good_peer_by, kept_up, replied_to, sampled, speaks}
use Rattle.port_monitor.specs.Histories.{Replied, port_after, with_happening}
use Rattle.switch_core.specs.Switch.{SwitchOf, end_at, good_peer, port_of}

-- a probe that is judged leaves the number of the probe
asked_nonce : (answer : Option EndId) (c : ConnectivityOf) → (asked answer c).nonce ≡ c.nonce
asked_nonce None c = refl
asked_nonce (Some q) c =
    let streak = streak_of q c in
    cond_both (streak == hold c.skeptic) (record c { conn = met c.me q; skeptic = cleared c.skeptic; candidate = Some q; streak = streak; missed = false }) (record c { candidate = Some q; streak = streak })
    (λ (d : ConnectivityOf). d.nonce ≡ c.nonce) (λ _. refl) (λ _. refl)

held_nonce : (peer : EndId) (answer : Option EndId) (c : ConnectivityOf) → (held_by peer answer c).nonce ≡ c.nonce
held_nonce peer None c = cond_both c.missed (doubted c) (record c { skeptic = cleared c.skeptic; missed = true }) (λ (d : ConnectivityOf). d.nonce ≡ c.nonce) (λ _. refl) (λ _. refl)
held_nonce peer (Some q) c = cond_both (is_same_end q peer) (record c { skeptic = praised c.skeptic; missed = false }) (doubted c) (λ (d : ConnectivityOf). d.nonce ≡ c.nonce) (λ _. refl) (λ _. refl)

judged_nonce : (conn : Conn) (c : ConnectivityOf) → (judged_as conn c).nonce ≡ c.nonce
judged_nonce Who c = asked_nonce c.answer c
judged_nonce (Loop peer) c = held_nonce peer c.answer c
judged_nonce (Good peer) c = held_nonce peer c.answer c

-- a sample of a port sends at most one probe more
up_nonce : (phase : Phase) (is_host : Bool) (p : Port) → (kept_up phase is_host p).far.nonce ≤ p.far.nonce + 1
up_nonce Dead is_host p = omega arith
up_nonce Checking true p = omega arith
up_nonce Checking false p = omega arith
up_nonce Host is_host p = omega arith
up_nonce Switch is_host p = let e = judged_nonce p.far.conn p.far in omega (arith, e)

pub sampled_nonce : (x : Sample) (p : Port) → (sampled x p).far.nonce ≤ p.far.nonce + 1
sampled_nonce sample.Down p = omega arith
sampled_nonce sample.Host p = up_nonce p.phase true p
sampled_nonce sample.Switch p = up_nonce p.phase false p

-- a reply changes neither the number of the last probe nor the peer
record IsLike (p q : Port) : Type 0 where
  nonce : q.far.nonce ≡ p.far.nonce
  peer : good_peer_by q.phase q.far.conn ≡ good_peer_by p.phase p.far.conn

heard_like : (from : EndId) (nonce : ℕ) (p : Port) → IsLike p (record p { far = replied from nonce p.far })
heard_like from nonce p =
    cond_both (counts nonce p.far) (record p.far { answer = Some from }) p.far (λ (far : ConnectivityOf). IsLike p (record p { far = far }))
    (λ _. record { nonce = refl; peer = refl }) (λ _. record { nonce = refl; peer = refl })

replied_like : (from : EndId) (nonce : ℕ) (p : Port) → IsLike p (replied_to from nonce p)
replied_like from nonce p = cond_both (speaks p.phase) (record p { far = replied from nonce p.far }) p (IsLike p) (λ _. heard_like from nonce p) (λ _. record { nonce = refl; peer = refl })

-- so too where a reply comes in by a port
abbrev pub hears : ℕ → EndId → ℕ → SwitchOf → SwitchOf
hears port from nonce s = record s { ports = with_happening port (Replied from nonce) s.ports }

hears_like : (port nonce q : ℕ) (from : EndId) (s : SwitchOf) → IsLike (port_of s q) (port_of (hears port from nonce s) q)
hears_like port nonce q from s =
    cond_both (q == port) (Replied from nonce ∷ s.ports q) (s.ports q) (λ h. IsLike (port_of s q) (port_after (end_at s q) h))
    (λ _. replied_like from nonce (port_of s q)) (λ _. record { nonce = refl; peer = refl })

pub hears_nonce : (port nonce q : ℕ) (from : EndId) (s : SwitchOf) → (port_of (hears port from nonce s) q).far.nonce ≡ (port_of s q).far.nonce
hears_nonce port nonce q from s = (hears_like port nonce q from s).nonce

pub hears_peer : (port nonce q : ℕ) (from : EndId) (s : SwitchOf) → good_peer (hears port from nonce s) q ≡ good_peer s q
hears_peer port nonce q from s = (hears_like port nonce q from s).peer
