-- The switch at this end handles what it has in hand: what that is for the direction in which it sends.

use Rattle.std.specs.Prelude.{◌≡◌, ◌+◌, ◌==◌, ◌&&◌, ◌<◌, ◌≤◌, ℕ, List, [], ◌∷◌, ◌++◌, All, Option, Some, None, Bool, true, false, refl}
use Rattle.std.proofs.Common.{sym, ◌∙◌, ap, subst, arith, eq-eqb}
use Rattle.std.proofs.lemmas.Bool.{false≢true, and_parts, and_from, eqb-true}
use Rattle.std.proofs.lemmas.List.Elements.{All-contains}
use Rattle.an_base.specs.Values.{EndId}
use Rattle.an_base.specs.Frames.{CarryOf}
use Rattle.an_base.specs.declared.event.Event.{Event}
use Rattle.an_base.specs.declared.event.Event.TheVariants.{Handle}
use Rattle.an_base.specs.declared.frame.Frame.{Frame}
use Rattle.an_base.specs.declared.frame.Frame.TheVariants.{Carry, Ack, Probe, Reply}
use Rattle.connectivity.specs.Connections.{is_end, is_same_end}
use Rattle.connectivity.proofs.EndLemmas.{is_end_is, same_end_is}
use Rattle.net_script.specs.Scripts.{ScriptOf, IsScript}
use Rattle.frame_codec.specs.Reading.{frame_of}
use Rattle.link_settling.proofs.Basics.{same_end}
use Rattle.link_settling.specs.Directions.{IsOneOf}
use Rattle.link_settling.specs.Moves.{carried_by}
use Rattle.switch_core.specs.Going.{IsCarriedBy, IsFrameOf, IsSentBy}
use Rattle.switch_core.specs.Switch.{SwitchOf}
use Rattle.switch_core.specs.Steps.{Sent, peer_among}
use Rattle.switch_core.proofs.GoingLemmas.{clock_goes_out, frame_goes_out}
use Rattle.topo_report.proofs.Members.{In, contains_from}
use Rattle.wire_set.specs.WireState.{place}
use Rattle.net_state.specs.declared.hand.Hand.{Hand}
use Rattle.net_state.specs.declared.hand.Hand.TheVariants as hand
use Rattle.net_state.specs.Fabric.{station, held_bytes, is_up}
use Rattle.net_state.specs.Lawful.{is_lawful}
use Rattle.net_state.proofs.LawfulLemmas.{lawful_is}
use Rattle.net_state.proofs.ReadyLemmas.{handle_ready}
use Rattle.net_world.specs.World.{WorldOf, effect, handled, handles, handles_bytes, world_after}
use Rattle.net_world.proofs.SoundLemmas.{world_sound}
use Rattle.net_world.proofs.WorldLemmas.{world_after-event, step-lawful}
use Rattle.net_game.proofs.Firm.{places}
use Rattle.net_game.proofs.PortFacts.{external}
use Rattle.net_settling.specs.Disturbances.{is_either, disturbs}
use Rattle.net_settling.specs.Views.{LinkOf, here, there, end_there, is_session, is_carry, is_ack}
use Rattle.net_settling.proofs.Bodies.{links_good, peer_link}
use Rattle.net_settling.proofs.Calm.{IsCalm, disturbed_now, last}
use Rattle.net_settling.proofs.Finals.{IsLate, late_is}
use Rattle.net_settling.proofs.Linked.{IsLinkOf}
use Rattle.net_settling.proofs.Samples.{calm_links}
use Rattle.net_settling.proofs.SenderSteps.{one_of_in}
use Rattle.net_settling.proofs.Sents.{works_full}
use Rattle.net_settling.proofs.Since.{disturbance_grows}
use Rattle.net_settling.proofs.Viewed.{handled_switch, other_switch}
use Rattle.net_settling.proofs.WayParts.{IsEvent, SentSuch, base_after}

-- what goes out is of the switch as it is then
pub handled_sent : (script : ScriptOf) → IsScript script → (h : List Event) (s : ℕ) → s < places script → is_lawful (world_after script h).fabric (Handle s) ≡ true → All (IsSentBy (handled s (world_after script h)).switch) (handled s (world_after script h)).frames
unfolding handles
handled_sent script kept h s low lawful = by (station w.fabric s).hand refl
  where
    w : WorldOf
    w = world_after script h

    u : SwitchOf
    u = w.switches s

    works : u.spent ≡ false
    works = works_full script kept h s low (handle_ready w.fabric s (lawful_is w.fabric (Handle s) lawful).ready).1

    none : (v : SwitchOf) → All (IsSentBy v) []
    none v k d below = absurd (omega (arith, below))

    by_frame : (port : ℕ) → (station w.fabric s).hand ≡ hand.Frame port → (o : Option Frame) → All (IsSentBy (handles_bytes port o u).switch) (handles_bytes port o u).frames
    by_frame port is None = none u
    by_frame port is (Some f) = let ports = external script kept h s port low is in frame_goes_out w.fabric.events port f u ports.0 ports.1 works (world_sound script kept h s low)

    by : (x : Hand) → (station w.fabric s).hand ≡ x → All (IsSentBy (handles x (held_bytes w.fabric s) u).switch) (handles x (held_bytes w.fabric s) u).frames
    by hand.Empty is = none u
    by (hand.Clock now samples) is = clock_goes_out w.fabric.events now samples u works (world_sound script kept h s low)
    by (hand.Frame port) is = by_frame port is (frame_of (held_bytes w.fabric s))

pub carried_out : (script : ScriptOf) → IsScript script → (h : List Event) (s : ℕ) (x : Sent) (f : CarryOf) → s < places script → is_lawful (world_after script h).fabric (Handle s) ≡ true → In x (handled s (world_after script h)).frames → x.frame ≡ Carry f → IsCarriedBy (handled s (world_after script h)).switch x.port f
carried_out script kept h s x f low lawful i is =
    let st = handled s (world_after script h) in
    subst (IsFrameOf st.switch x.port) is (All-contains (IsSentBy st.switch) st.frames x (handled_sent script kept h s low lawful) (contains_from x st.frames i)).frame

-- a body that passes the test for it
pub record IsCarryTo (epoch : ℕ) (from to : EndId) (n : ℕ) (f : Frame) : Type 0 where
  pub carry : CarryOf
  pub frame_is : f ≡ Carry carry
  pub epoch_is : carry.epoch ≡ epoch
  pub from_is : carry.from ≡ from
  pub to_is : carry.to ≡ to
  pub number : carry.number ≡ n

pub carry_to : (epoch : ℕ) (from to : EndId) (n : ℕ) (f : Frame) → is_carry epoch from to n f ≡ true → IsCarryTo epoch from to n f
carry_to epoch from to n (Carry c) found =
    let a = and_parts ((c.epoch == epoch) && is_same_end c.from from && is_same_end c.to to) (c.number == n) found in
    let b = and_parts ((c.epoch == epoch) && is_same_end c.from from) (is_same_end c.to to) a.0 in
    let d = and_parts (c.epoch == epoch) (is_same_end c.from from) b.0 in
    record { carry = c; frame_is = refl; epoch_is = eqb-true c.epoch epoch d.0; from_is = same_end_is c.from from d.1; to_is = same_end_is c.to to b.1; number = eqb-true c.number n a.1 }
carry_to epoch from to n (Ack e a b k) found = absurd (false≢true found)
carry_to epoch from to n (Probe a k) found = absurd (false≢true found)
carry_to epoch from to n (Reply a b k) found = absurd (false≢true found)

pub carry_test : (epoch : ℕ) (from to : EndId) (n : ℕ) (c : CarryOf) → c.epoch ≡ epoch → c.from ≡ from → c.to ≡ to → c.number ≡ n → is_carry epoch from to n (Carry c) ≡ true
carry_test epoch from to n c a b d e =
    and_from ((c.epoch == epoch) && is_same_end c.from from && is_same_end c.to to) (c.number == n)
    (and_from ((c.epoch == epoch) && is_same_end c.from from) (is_same_end c.to to)
    (and_from (c.epoch == epoch) (is_same_end c.from from) (eq-eqb c.epoch epoch a) (ap (λ z. is_same_end z from) b ∙ same_end from)) (ap (λ z. is_same_end z to) d ∙ same_end to)) (eq-eqb c.number n e)

pub record IsAckTo (epoch : ℕ) (from to : EndId) (n : ℕ) (f : Frame) : Type 0 where
  pub frame_is : f ≡ Ack epoch from to n

pub ack_to : (epoch : ℕ) (from to : EndId) (n : ℕ) (f : Frame) → is_ack epoch from to n f ≡ true → f ≡ Ack epoch from to n
ack_to epoch from to n (Carry c) found = absurd (false≢true found)
ack_to epoch from to n (Ack e a b k) found =
    let x = and_parts ((e == epoch) && is_same_end a from && is_same_end b to) (k == n) found in
    let y = and_parts ((e == epoch) && is_same_end a from) (is_same_end b to) x.0 in
    let z = and_parts (e == epoch) (is_same_end a from) y.0 in
    (λ i. Ack (eqb-true e epoch z.0 i) (same_end_is a from z.1 i) (same_end_is b to y.1 i) (eqb-true k n x.1 i))
ack_to epoch from to n (Probe a k) found = absurd (false≢true found)
ack_to epoch from to n (Reply a b k) found = absurd (false≢true found)

-- The ends after the handling of this end
pub here_is : (w : WorldOf) (l : LinkOf) → here (effect (Handle l.place) w) l ≡ (handled l.place w).switch
here_is w l = handled_switch l.place w

pub there_is : (w : WorldOf) (l : LinkOf) → (l.place ≡ l.far_place → ⊥) → there (effect (Handle l.place) w) l ≡ there w l
there_is w l apart = other_switch l.place l.far_place w (λ e. apart (sym e))

-- bodies that went out on the link, and their numbers
pub number_out : (w : WorldOf) (e : Event) (l : LinkOf) (epoch n : ℕ) (from to : EndId) → SentSuch (is_carry epoch from to n) w e l → IsOneOf n (carried_by l.port (handled l.place w).frames)
number_out w e l epoch n from to k =
    let c = carry_to epoch from to n k.sent.frame k.found in
    subst (λ m. IsOneOf m (carried_by l.port (handled l.place w).frames)) c.number (one_of_in l.port (handled l.place w).frames k.sent c.carry k.among k.port c.frame_is)

-- one goes out to the far end only in a session with it
pub session_out : (script : ScriptOf) → IsScript script → (h : List Event) (l : LinkOf) (epoch n : ℕ) (from : EndId) → IsLinkOf script l → is_lawful (world_after script h).fabric (Handle l.place) ≡ true
    → SentSuch (is_carry epoch from (end_there (effect (Handle l.place) (world_after script h)) l) n) (world_after script h) (Handle l.place) l → is_session (effect (Handle l.place) (world_after script h)) l ≡ true
session_out script kept h l epoch n from is lawful k =
    let w = world_after script h in
    let v = effect (Handle l.place) w in
    let c = carry_to epoch from (end_there v l) n k.sent.frame k.found in
    let out = carried_out script kept h l.place k.sent c.carry is.here.node_below lawful k.among c.frame_is in
    ap (λ (u : SwitchOf). is_end (peer_among u.card.links l.port) (end_there v l)) (here_is w l)
    ∙ ap (λ n. is_end (peer_among (handled l.place w).switch.card.links n) (end_there v l)) (sym k.port)
    ∙ ap (λ o. is_end o (end_there v l)) out.to
    ∙ ap (λ z. is_same_end z (end_there v l)) c.to_is ∙ same_end (end_there v l)

-- So late nothing that is sent in a session is lost.
pub record IsLateNow (script : ScriptOf) (h : List Event) (e : Event) : Type 0 where
  pub before : IsLate script h
  pub after : IsLate script (h ++ e ∷ [])
  pub calm : IsCalm script h e

pub late_now : (script : ScriptOf) (h : List Event) (e : Event) (l : LinkOf) → IsEvent script h e l → (effect e (world_after script h)).fabric.tick ≡ (world_after script h).fabric.tick → base_after script h e ≤ (world_after script h).fabric.tick → IsLateNow script h e
late_now script h e l k tick late = by (disturbs is_either w e) refl
  where
    w : WorldOf
    w = world_after script h

    soon : last script h + 259 ≤ w.fabric.tick
    soon = let g = disturbance_grows is_either script h (e ∷ []) in omega (arith, late, g)

    next : (world_after script (h ++ e ∷ [])).fabric.tick ≡ w.fabric.tick
    next = ap (λ (x : WorldOf). x.fabric.tick) (world_after-event script h e ∙ step-lawful w e k.lawful) ∙ tick

    by : (b : Bool) → disturbs is_either w e ≡ b → IsLateNow script h e
    by true is = let now = disturbed_now script h e is in absurd (omega (arith, now, late))
    by false is = record {
      before = late_is script k.kept k.unpaced h soon;
      after = late_is script k.kept k.unpaced (h ++ e ∷ []) (omega (arith, next, late));
      calm = record { lawful = k.lawful; quiet = is; works = k.works; works_on = k.works_on; later = omega (arith, soon) };
    }

pub after_is : (script : ScriptOf) (h : List Event) (e : Event) → is_lawful (world_after script h).fabric e ≡ true → world_after script (h ++ e ∷ []) ≡ effect e (world_after script h)
after_is script h e lawful = world_after-event script h e ∙ step-lawful (world_after script h) e lawful

-- a session so late is over a link that is up
pub session_up : (script : ScriptOf) (h : List Event) (e : Event) (l : LinkOf) → IsEvent script h e l → IsLateNow script h e → is_session (effect e (world_after script h)) l ≡ true → is_up (world_after script h).fabric l.place l.port ≡ true
session_up script h e l k late session =
    let w = world_after script h in
    let v = effect e w in
    let g = h ++ e ∷ [] in
    let same = after_is script h e k.lawful in
    let is = k.link.here in
    let linked : peer_among ((world_after script g).switches l.place).card.links l.port ≡ Some (end_there v l) = ap (λ (x : WorldOf). peer_among (x.switches l.place).card.links l.port) same ∙ is_end_is (peer_among (here v l).card.links l.port) (end_there v l) session in
    let good = sym (links_good script g l.place l.port late.after is.node_below is.own_port_least is.own_port_most) ∙ linked in
    let found = peer_link script g l.place l.port (end_there v l) late.after is.node_below is.own_port_least is.own_port_most good in
    let up : is_up (world_after script g).fabric l.place l.port ≡ true = sym (λ i. is_up (world_after script g).fabric (found.s_is i) (found.p_is i)) ∙ found.up in
    sym ((calm_links script h e late.calm).up (place l.place l.port)) ∙ sym (ap (λ (x : WorldOf). is_up x.fabric l.place l.port) same) ∙ up
