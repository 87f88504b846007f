use Rattle.std.proofs.Common.{◌≡◌, ◌∙◌, ◌⊎◌, inl, inr, ⊎_elim, sym, ap, subst, refl, ℕ, zero, suc, ◌-◌, ◌≤◌, ◌==◌, arith, List, [], ◌∷◌, Option, Some, None, Bool, true, false, cond}
use Rattle.an_base.specs.Values.{EndId}
use Rattle.an_base.specs.declared.port.PortState.TheVariants as state
use Rattle.an_base.specs.declared.port.Sample.TheVariants as sample
use Rattle.connectivity.specs.declared.conn.Conn.{Conn}
use Rattle.connectivity.specs.declared.conn.Conn.TheVariants.{Who, Loop, Good}
use Rattle.connectivity.specs.Connections.{ConnectivityOf, probed, judged, met}
use Rattle.port_monitor.specs.declared.port.Phase.{Phase}
use Rattle.port_monitor.specs.declared.port.Phase.TheVariants.{Dead, Checking, Host, Switch}
use Rattle.port_monitor.specs.declared.port.Port.{Port}
use Rattle.port_monitor.specs.Ports.{sampled, kept_up, state_by, state_of, peer_by}
use Rattle.port_monitor.specs.Histories.{History, Sampled, port_after}
use Rattle.link_settling.specs.Measures.{HasNo, Knows, clocks_left, answers_by, answers_left}
use Rattle.link_settling.specs.Links.{with_replies, IsAmong, Speaks, nonce_after, IsTick, AreHostTicks}
use Rattle.link_settling.proofs.Clocks.{sampled_falls, clocks_most, known_far, no_host, no_switch, stays_switch}
use Rattle.link_settling.proofs.Answers.{judged_falls, done_stays}
use Rattle.link_settling.proofs.Ports.{with_answer, replied_as, heard_first, heard_by, port_sound, is_no_switch, asks}

-- replies change at most the answer
pub replies_as : (own far : EndId) (nonces : List ℕ) (history : History) → (x : Option EndId) × (port_after own (with_replies far nonces history) ≡ with_answer x (port_after own history))
replies_as own far [] history = ((port_after own history).far.answer, refl)
replies_as own far (n ∷ ns) history =
    let r = replies_as own far ns history in
    let s = replied_as far n (port_after own (with_replies far ns history)) in
    (s.0, s.1 ∙ ap (with_answer s.0) r.1)

-- the answer to the last probe is by the far end alone
abbrev IsBy : EndId → Option EndId → Type 0
IsBy far x = (x ≡ None) ⊎ (x ≡ Some far)

answer_by : (own far : EndId) (nonces : List ℕ) (history : History) → (port_after own history).far.answer ≡ None → IsBy far (port_after own (with_replies far nonces history)).far.answer
answer_by own far [] history none = inl none
answer_by own far (n ∷ ns) history none = heard_by far n (port_after own (with_replies far ns history)) (IsBy far) (inr refl) (answer_by own far ns history none)

-- and it is there where the number of the last probe is among those of the replies
pub answered_by_far : (own far : EndId) (nonces : List ℕ) (history : History) → Speaks own history → (port_after own history).far.answer ≡ None → 1 ≤ nonce_after own history → IsAmong (nonce_after own history) nonces
    → (port_after own (with_replies far nonces history)).far.answer ≡ Some far
answered_by_far own far [] history switch none least among = absurd among
answered_by_far own far (n ∷ ns) history switch none least among =
    let p = port_after own (with_replies far ns history) in
    let r = replies_as own far ns history in
    elim among [
      | inl same ↦ ⊎_elim
          (λ unanswered. heard_first far n p (ap (λ (q : Port). q.phase) r.1 ∙ switch) (same ∙ sym (ap (λ (q : Port). q.far.nonce) r.1)) (let e = same in omega (arith, e, least)) unanswered)
          (λ answered. heard_by far n p (λ x. x ≡ Some far) refl answered)
          (answer_by own far ns history none)
      | inr later ↦ heard_by far n p (λ x. x ≡ Some far) refl (answered_by_far own far ns history switch none least later)
    ]

-- one tick at one end
abbrev after_clock : EndId → History → Port
after_clock own before = sampled sample.Switch (port_after own before)

tick_as : (own far : EndId) (before after far_after : History) → IsTick own far before after far_after → (x : Option EndId) × (port_after own after ≡ with_answer x (after_clock own before))
tick_as own far before after far_after tick =
    let r = replies_as own far tick.nonces (Sampled sample.Switch ∷ before) in
    (r.0, ap (port_after own) tick.happened ∙ r.1)

pub tick_falls : (own far : EndId) (before after far_after : History) → IsTick own far before after far_after → clocks_left (port_after own after) ≡ clocks_left (port_after own before) - 1
tick_falls own far before after far_after tick =
    let r = tick_as own far before after far_after tick in
    ap clocks_left r.1 ∙ sampled_falls sample.Switch (port_after own before) (λ e. cc) (port_sound own before).holding

pub tick_no_host : (own far : EndId) (before after far_after : History) → IsTick own far before after far_after → ((port_after own before).phase ≡ Host → ⊥) → (port_after own after).phase ≡ Host → ⊥
tick_no_host own far before after far_after tick never host =
    let r = tick_as own far before after far_after tick in
    no_host sample.Switch (port_after own before) (λ e. cc) never (sym (ap (λ (q : Port). q.phase) r.1) ∙ host)

pub tick_answered : (own far : EndId) (before after far_after : History) → IsTick own far before after far_after → Speaks own after → Speaks far far_after → (port_after own after).far.answer ≡ Some far
tick_answered own far before after far_after tick here there =
    let r = tick_as own far before after far_after tick in
    let switch : Speaks own (Sampled sample.Switch ∷ before) = sym (ap (λ (q : Port). q.phase) r.1) ∙ here in
    let asked = asks (port_after own before) switch in
    ap (λ h. (port_after own h).far.answer) tick.happened
    ∙ answered_by_far own far tick.nonces (Sampled sample.Switch ∷ before) switch asked.0 asked.1 (subst (λ n. IsAmong n tick.nonces) (ap (λ (q : Port). q.far.nonce) r.1) (tick.answered here there))

-- one clock at a port that asks judges the last probe
pub judges : (phase : Phase) (p : Port) → p.phase ≡ phase → phase ≡ Switch → (kept_up phase false p).far ≡ probed (judged p.far)
judges Dead p is switch = absurd cc
judges Checking p is switch = absurd cc
judges Host p is switch = absurd cc
judges Switch p is switch = refl

-- the answer itself does not count
left_as : (e : EndId) (conn : Conn) (far : ConnectivityOf) (x : Option EndId) → answers_by e conn (record far { answer = x }) ≡ answers_by e conn far
left_as e Who far x = refl
left_as e (Loop peer) far x = refl
left_as e (Good peer) far x = refl

pub tick_nearer : (own far : EndId) (before after far_after : History) → IsTick own far before after far_after → Speaks own before → (port_after own before).far.answer ≡ Some far
    → answers_left far (port_after own after).far ≡ answers_left far (port_after own before).far - 1
tick_nearer own far before after far_after tick switch answered =
    let p = port_after own before in
    let r = tick_as own far before after far_after tick in
    let q = after_clock own before in
    let g : answers_left far q.far ≡ answers_left far (probed (judged p.far)) = ap (answers_left far) (judges p.phase p refl switch) in
    ap (λ (q : Port). answers_left far q.far) r.1
    ∙ left_as far q.far.conn q.far r.0
    ∙ g
    ∙ judged_falls far p.far (port_sound own before).far.few answered

-- a port is done with this end
pub record IsDone (own peer : EndId) (p : Port) : Type 0 where
  pub phase : p.phase ≡ Switch
  pub conn : p.far.conn ≡ met own peer

-- and stays so at a clock, whatever of the replies of its tick has come
pub done_stays_here : (own far : EndId) (nonces : List ℕ) (history : History) → IsDone own far (port_after own history) → (port_after own history).far.answer ≡ Some far → IsDone own far (port_after own (with_replies far nonces (Sampled sample.Switch ∷ history)))
done_stays_here own far nonces history d answered =
    let p = port_after own history in
    let s = replies_as own far nonces (Sampled sample.Switch ∷ history) in
    let j : (sampled sample.Switch p).far.conn ≡ (judged p.far).conn = ap (λ (c : ConnectivityOf). c.conn) (judges p.phase p refl d.phase) in
    record {
      phase = ap (λ (q : Port). q.phase) s.1 ∙ stays_switch p d.phase;
      conn = ap (λ (q : Port). q.far.conn) s.1 ∙ j ∙ done_stays own far p.far d.conn answered;
    }

met_state : (b : Bool) (q : EndId) → state_by Switch (cond b (Loop q) (Good q)) ≡ cond b state.Loop state.Good
met_state true q = refl
met_state false q = refl

met_peer : (b : Bool) (q : EndId) → peer_by Switch (cond b (Loop q) (Good q)) ≡ Some q
met_peer true q = refl
met_peer false q = refl

pub knows : (own peer : EndId) (p : Port) → IsDone own peer p → Knows own peer p
knows own peer p d =
    let b = peer.life.uid == own.life.uid in
    record {
      state = ap (λ phase. state_by phase p.far.conn) d.phase ∙ ap (state_by Switch) d.conn ∙ met_state b peer;
      peer_is = ap (λ phase. peer_by phase p.far.conn) d.phase ∙ ap (peer_by Switch) d.conn ∙ met_peer b peer;
    }

-- a port whose link is down is dead
pub down_is_dead : (own from : EndId) (nonces : List ℕ) (history : History) → state_of (port_after own (with_replies from nonces (Sampled sample.Down ∷ history))) ≡ state.Dead
down_is_dead own from nonces history = let r = replies_as own from nonces (Sampled sample.Down ∷ history) in ap state_of r.1

-- the port of a host
host_clocks : (ticks : ℕ) (own : EndId) (at : ℕ → History) → AreHostTicks ticks at → (n : ℕ) → n ≤ ticks → clocks_left (port_after own (at n)) ≤ 129 - n
host_clocks ticks own at all zero few = let p = port_after own (at 0) in clocks_most p.phase p.status (port_sound own (at 0)).status
host_clocks ticks own at all (suc n) few =
    let p = port_after own (at n) in
    let e = ap (λ h. clocks_left (port_after own h)) (all n few) ∙ sampled_falls sample.Host p (λ e. cc) (port_sound own (at n)).holding in
    let i = host_clocks ticks own at all n (omega (arith, few)) in
    omega (arith, e, i)

never_switch : (ticks : ℕ) (own : EndId) (at : ℕ → History) → AreHostTicks ticks at → HasNo sample.Switch (at 0) → (n : ℕ) → n ≤ ticks → (port_after own (at n)).phase ≡ Switch → ⊥
never_switch ticks own at all never zero few = is_no_switch own (at 0) never
never_switch ticks own at all never (suc n) few = λ switch.
    no_switch sample.Host (port_after own (at n)) (λ e. cc) (never_switch ticks own at all never n (omega (arith, few))) (sym (ap (λ h. (port_after own h).phase) (all n few)) ∙ switch)

pub host_from : (ticks : ℕ) (own : EndId) (at : ℕ → History) → AreHostTicks ticks at → HasNo sample.Switch (at 0) → (n : ℕ) → 129 ≤ n → n ≤ ticks → state_of (port_after own (at n)) ≡ state.Host
host_from ticks own at all never n late few =
    let p = port_after own (at n) in
    let c = host_clocks ticks own at all n few in
    ⊎_elim (λ host. ap (λ phase. state_by phase p.far.conn) host) (λ switch. absurd (never_switch ticks own at all never n few switch))
    (known_far p.phase p.status (port_sound own (at n)).holding (omega (arith, c, late)))
