-- So late a frame of a session is only under way on a link that is up, and there it counts.

use Rattle.std.specs.Prelude.{◌≡◌, ◌⊎◌, ◌+◌, ◌==◌, ◌&&◌, ◌||◌, ◌<◌, ◌≤◌, ℕ, List, [], ◌∷◌, ◌++◌, cond, Option, Some, None, Bool, true, false, refl}
use Rattle.std.proofs.Common.{true≢false, sym, ◌∙◌, ap, subst, inl, inr, arith, ne_eqb}
use Rattle.std.proofs.lemmas.Bool.{and_from}
use Rattle.an_base.specs.Values.{EndId}
use Rattle.an_base.specs.Frames.{CarryOf}
use Rattle.an_base.specs.declared.event.Event.{Event}
use Rattle.an_base.specs.declared.event.Event.TheVariants.{Tick, Handle}
use Rattle.an_base.specs.declared.frame.Frame.{Frame}
use Rattle.an_base.specs.declared.frame.Frame.TheVariants.{Carry, Ack, Probe, Reply}
use Rattle.connectivity.specs.Connections.{is_end, is_same_end}
use Rattle.net_graph.proofs.CollectLemmas.{uid_one}
use Rattle.net_graph.specs.Wires.{far_at}
use Rattle.net_script.specs.Scripts.{ScriptOf, IsScript}
use Rattle.frame_codec.specs.Reading.{frame_of}
use Rattle.link_settling.proofs.Basics.{same_end}
use Rattle.wire_set.specs.WireState.{place}
use Rattle.epoch_game.proofs.Basics.{none_some}
use Rattle.switch_core.specs.Switch.{SwitchOf, counts, good_peer, port_of}
use Rattle.switch_core.specs.Steps.{Sent, clocked, framed, peer_among}
use Rattle.switch_core.proofs.LinkLemmas.{counted, good_link}
use Rattle.topo_report.proofs.Members.{In}
use Rattle.net_state.specs.declared.hand.Hand.{Hand}
use Rattle.net_state.specs.declared.hand.Hand.TheVariants as hand
use Rattle.net_state.specs.Fabric.{station, held_bytes, is_some_spent, is_up}
use Rattle.net_state.specs.Lawful.{is_lawful}
use Rattle.net_world.specs.World.{WorldOf, effect, handled, handles, handles_bytes, world_after}
use Rattle.net_world.proofs.SoundLemmas.{world_sound}
use Rattle.net_world.proofs.WorldLemmas.{world_after-event, step-unlawful}
use Rattle.net_game.proofs.EachLemmas.{each_in}
use Rattle.net_game.proofs.Firm.{places}
use Rattle.net_game.proofs.HistoryLemmas.{by_events}
use Rattle.net_settling.specs.Disturbances.{is_either, is_of_script, loses, disturbs}
use Rattle.net_settling.specs.Views.{LinkOf, turned, here, there, end_here, end_there, is_some_under_way, is_carry, is_ack}
use Rattle.net_settling.proofs.AckFrames.{IsAckFor, NoAck, carry_acks, clocked_none, is_an_ack, other_none}
use Rattle.net_settling.proofs.Bodies.{back_peer, links_good}
use Rattle.net_settling.proofs.Calm.{disturbed_now, last, undisturbed_now, unspent_before}
use Rattle.net_settling.proofs.CutLinks.{none_under}
use Rattle.net_settling.proofs.Finals.{IsLate, behind_view, dead_view, final_view, good_of, good_shown, port_shows, uid_here}
use Rattle.net_settling.proofs.Linked.{IsLinkOf, link_turned, up_turned}
use Rattle.net_settling.proofs.Samples.{calm_links}
use Rattle.net_settling.proofs.Senders.{at_tick, lives_of}
use Rattle.net_settling.proofs.SenderWays.{IsLateNow, ack_to, after_is, carry_to, carried_out}
use Rattle.net_settling.proofs.Since.{disturbance_grows}
use Rattle.net_settling.proofs.Times.{IsStepOf, step_of}
use Rattle.net_settling.proofs.Viewed.{handled_switch}
use Rattle.net_settling.proofs.WayParts.{SentSuch, such_from, ticked_under}

-- two switches have two names
pub differ_of : (script : ScriptOf) → IsScript script → (h : List Event) (l : LinkOf) → IsLinkOf script l → (l.place ≡ l.far_place → ⊥) → ((end_there (world_after script h) l).life.uid == (end_here (world_after script h) l).life.uid) ≡ false
differ_of script kept h l is apart =
    ne_eqb _ _ (λ e. apart (uid_one script.wires l.place l.far_place kept.wired is.here.node_below is.there.node_below (sym (uid_here script kept h l.place is.here.node_below) ∙ sym e ∙ uid_here script kept h l.far_place is.there.node_below)))

-- an event after which it is so late disturbs nothing
pub late_step : (script : ScriptOf) (h : List Event) (e : Event) → is_lawful (world_after script h).fabric e ≡ true → (effect e (world_after script h)).fabric.tick ≡ (world_after script h).fabric.tick → IsLate script (h ++ e ∷ []) → IsLateNow script h e
late_step script h e lawful ticks k = by (disturbs is_either w e) refl
  where
    w : WorldOf
    w = world_after script h

    same : world_after script (h ++ e ∷ []) ≡ effect e w
    same = after_is script h e lawful

    tick : (world_after script (h ++ e ∷ [])).fabric.tick ≡ w.fabric.tick
    tick = ap (λ (x : WorldOf). x.fabric.tick) same ∙ ticks

    works_on : is_some_spent (effect e w).fabric ≡ false
    works_on = subst (λ (x : WorldOf). is_some_spent x.fabric ≡ false) same k.works

    works : is_some_spent w.fabric ≡ false
    works = unspent_before script h e lawful works_on

    soon : last script h + 259 ≤ w.fabric.tick
    soon = let g = disturbance_grows is_either script h (e ∷ []) in let l = k.late in omega (arith, l, g, tick)

    by : (b : Bool) → disturbs is_either w e ≡ b → IsLateNow script h e
    by true is = let now = disturbed_now script h e is in let l = k.late in absurd (omega (arith, now, l, tick))
    by false is = record {
      before = record { kept = k.kept; unpaced = k.unpaced; works = works; late = soon };
      after = k;
      calm = record { lawful = lawful; quiet = is; works = works; works_on = works_on; later = omega (arith, soon) };
    }

-- Nothing is sent on a link that is down, and nothing is under way on it.
abbrev NoneAt : (Frame → Bool) → ScriptOf → LinkOf → List Event → Type 0
NoneAt test script l h = IsLate script h → is_up (world_after script h).fabric l.place l.port ≡ false → is_some_under_way test (world_after script h) l ≡ false

abbrev NoneSent : (Frame → Bool) → ScriptOf → LinkOf → Type 0
NoneSent test script l = (h : List Event) (e : Event) → IsLateNow script h e → is_up (world_after script h).fabric l.place l.port ≡ false → SentSuch test (world_after script h) e l → ⊥

first_none : (test : Frame → Bool) (script : ScriptOf) (l : LinkOf) → NoneAt test script l []
unfolding world_after
first_none test script l k = absurd (let low : 0 + 259 ≤ 0 = k.late in omega (arith, low))

next_none : (test : Frame → Bool) (script : ScriptOf) (l : LinkOf) → IsLinkOf script l → NoneSent test script l → (h : List Event) (e : Event) → NoneAt test script l h → NoneAt test script l (h ++ e ∷ [])
next_none test script l is none_sent h e old k down = by_law (is_lawful w.fabric e) refl
  where
    w : WorldOf
    w = world_after script h

    none_in : (step : (effect e w).fabric.tick ≡ w.fabric.tick) → is_lawful w.fabric e ≡ true → (b : Bool) → is_some_under_way test (effect e w) l ≡ b → is_some_under_way test (effect e w) l ≡ false
    none_in tick lawful false found = found
    none_in tick lawful true found =
        let now = late_step script h e lawful tick k in
        let still_down : is_up w.fabric l.place l.port ≡ false = sym ((calm_links script h e now.calm).up (place l.place l.port)) ∙ sym (ap (λ (x : WorldOf). is_up x.fabric l.place l.port) (after_is script h e lawful)) ∙ down in
        elim (such_from test script h e l k.kept is lawful found) [ inl was ↦ absurd (true≢false (sym was ∙ old now.before still_down)) | inr new ↦ absurd (none_sent h e now still_down new) ]

    by_kind : is_lawful w.fabric e ≡ true → (e ≡ Tick) ⊎ IsStepOf e w (effect e w) → is_some_under_way test (effect e w) l ≡ false
    by_kind lawful (inl tick) =
        ap (λ x. is_some_under_way test (effect x w) l) tick ∙ ticked_under test w l
        ∙ none_under test script h l (at_tick script k.kept k.unpaced h (subst (λ x. is_lawful w.fabric x ≡ true) tick lawful)) is
    by_kind lawful (inr step) = none_in step.tick lawful (is_some_under_way test (effect e w) l) refl

    by_law : (b : Bool) → is_lawful w.fabric e ≡ b → is_some_under_way test (world_after script (h ++ e ∷ [])) l ≡ false
    by_law true lawful = ap (λ x. is_some_under_way test x l) (after_is script h e lawful) ∙ by_kind lawful (step_of e w)
    by_law false unlawful =
        let same : world_after script (h ++ e ∷ []) ≡ w = world_after-event script h e ∙ step-unlawful w e unlawful in
        let quiet : disturbs is_either w e ≡ false = ap (λ b. b && (is_of_script e || loses is_either w e)) unlawful in
        let late = k.late in
        let tick = ap (λ (x : WorldOf). x.fabric.tick) same in
        let when = undisturbed_now script h e quiet in
        let before : IsLate script h = record { kept = k.kept; unpaced = k.unpaced; works = subst (λ (x : WorldOf). is_some_spent x.fabric ≡ false) same k.works; late = omega (arith, late, tick, when) } in
        ap (λ x. is_some_under_way test x l) same ∙ old before (sym (ap (λ (x : WorldOf). is_up x.fabric l.place l.port) same) ∙ down)

late_none : (test : Frame → Bool) (script : ScriptOf) (l : LinkOf) → IsLinkOf script l → NoneSent test script l → (h : List Event) → NoneAt test script l h
late_none test script l is none_sent = by_events (NoneAt test script l) (first_none test script l) (next_none test script l is none_sent)

-- the port of such a link has no good peer
down_peer : (script : ScriptOf) (h : List Event) (l : LinkOf) → IsLate script h → IsLinkOf script l → is_up (world_after script h).fabric l.place l.port ≡ false → good_peer ((world_after script h).switches l.place) l.port ≡ None
unfolding final_view dead_view good_of
down_peer script h l k is down =
    let w = world_after script h in
    let port = port_of (w.switches l.place) l.port in
    good_shown port.phase port.far.conn
    ∙ ap good_of (port_shows script h l.place l.port k is.here.node_below is.here.own_port_least is.here.own_port_most)
    ∙ (λ i. good_of (cond (down i) (behind_view (lives_of w) (end_here w l) (far_at script.wires l.place l.port)) dead_view))

carry_down : (script : ScriptOf) → IsScript script → (l : LinkOf) → IsLinkOf script l → (epoch n : ℕ) (from to : EndId) → NoneSent (is_carry epoch from to n) script l
carry_down script kept l is epoch n from to h e late down k =
    let w = world_after script h in
    let g = h ++ e ∷ [] in
    let c = carry_to epoch from to n k.sent.frame k.found in
    let lawful : is_lawful w.fabric (Handle l.place) ≡ true = subst (λ x. is_lawful w.fabric x ≡ true) k.event late.calm.lawful in
    let out = carried_out script kept h l.place k.sent c.carry is.here.node_below lawful k.among c.frame_is in
    let same : world_after script g ≡ effect e w = after_is script h e late.calm.lawful in
    let switch : (world_after script g).switches l.place ≡ (handled l.place w).switch = ap (λ (x : WorldOf). x.switches l.place) same ∙ ap (λ x. (effect x w).switches l.place) k.event ∙ handled_switch l.place w in
    let down_now : is_up (world_after script g).fabric l.place l.port ≡ false = ap (λ (x : WorldOf). is_up x.fabric l.place l.port) same ∙ (calm_links script h e late.calm).up (place l.place l.port) ∙ down in
    let none = links_good script g l.place l.port late.after is.here.node_below is.here.own_port_least is.here.own_port_most ∙ down_peer script g l late.after is down_now in
    none_some (sym none ∙ ap (λ (u : SwitchOf). peer_among u.card.links l.port) switch ∙ ap (λ p. peer_among (handled l.place w).switch.card.links p) (sym k.port) ∙ out.to)

-- An acknowledgement that goes out is for a body that was in hand.
pub record IsAnswer (w : WorldOf) (s : ℕ) (x : Sent) : Type 0 where
  pub port : ℕ
  pub hand_is : (station w.fabric s).hand ≡ hand.Frame port
  pub body : CarryOf
  pub read : frame_of (held_bytes w.fabric s) ≡ Some (Carry body)
  pub ack : IsAckFor port body (w.switches s) x

pub answer_of : (s : ℕ) (w : WorldOf) (x : Sent) → In x (handled s w).frames → is_an_ack x.frame ≡ true → IsAnswer w s x
unfolding handles
answer_of s w x i ack = by (station w.fabric s).hand refl i
  where
    u : SwitchOf
    u = w.switches s

    by_frame : (port : ℕ) → (station w.fabric s).hand ≡ hand.Frame port → (f : Frame) → frame_of (held_bytes w.fabric s) ≡ Some f → In x (framed port f u).frames → IsAnswer w s x
    by_frame port is (Carry f) read j = record { port = port; hand_is = is; body = f; read = read; ack = carry_acks port f u x j ack }
    by_frame port is (Ack e a b n) read j = absurd (true≢false (sym ack ∙ each_in NoAck (framed port (Ack e a b n) u).frames x (other_none port (Ack e a b n) u (λ f e. cc)) j))
    by_frame port is (Probe a n) read j = absurd (true≢false (sym ack ∙ each_in NoAck (framed port (Probe a n) u).frames x (other_none port (Probe a n) u (λ f e. cc)) j))
    by_frame port is (Reply a b n) read j = absurd (true≢false (sym ack ∙ each_in NoAck (framed port (Reply a b n) u).frames x (other_none port (Reply a b n) u (λ f e. cc)) j))

    by_bytes : (port : ℕ) → (station w.fabric s).hand ≡ hand.Frame port → (o : Option Frame) → frame_of (held_bytes w.fabric s) ≡ o → In x (handles_bytes port o u).frames → IsAnswer w s x
    by_bytes port is None read j = absurd j
    by_bytes port is (Some f) read j = by_frame port is f read j

    by : (k : Hand) → (station w.fabric s).hand ≡ k → In x (handles k (held_bytes w.fabric s) u).frames → IsAnswer w s x
    by hand.Empty is j = absurd j
    by (hand.Clock now samples) is j = absurd (true≢false (sym ack ∙ each_in NoAck (clocked now samples u).frames x (clocked_none now samples u) j))
    by (hand.Frame port) is j = by_bytes port is (frame_of (held_bytes w.fabric s)) refl j

ack_down : (script : ScriptOf) → IsScript script → (l : LinkOf) → IsLinkOf script l → (epoch n : ℕ) (from to : EndId) → NoneSent (is_ack epoch from to n) script l
ack_down script kept l is epoch n from to h e late down k =
    let w = world_after script h in
    let a = answer_of l.place w k.sent k.among (ap is_an_ack (ack_to epoch from to n k.sent.frame k.found)) in
    let port : a.port ≡ l.port = sym (ap (λ (x : Sent). x.port) a.ack.is) ∙ k.port in
    none_some (sym (down_peer script h l late.before is down) ∙ ap (good_peer (w.switches l.place)) (sym port) ∙ (counted (w.switches l.place) a.port a.body.from a.body.to a.ack.counted).0)

-- So on a link that is down no frame of a session is under way
up_by : (test : Frame → Bool) (script : ScriptOf) (h : List Event) (l : LinkOf) → IsLinkOf script l → NoneSent test script l → IsLate script h → is_some_under_way test (world_after script h) l ≡ true → is_up (world_after script h).fabric l.place l.port ≡ true
up_by test script h l is none_sent k found = by (is_up (world_after script h).fabric l.place l.port) refl
  where
    by : (b : Bool) → is_up (world_after script h).fabric l.place l.port ≡ b → is_up (world_after script h).fabric l.place l.port ≡ true
    by true up = up
    by false down = absurd (true≢false (sym found ∙ late_none test script l is none_sent h k down))

-- and a frame between the present ends counts
counts_up : (script : ScriptOf) (h : List Event) (l : LinkOf) → IsLate script h → IsLinkOf script l → (l.place ≡ l.far_place → ⊥) → is_up (world_after script h).fabric l.place l.port ≡ true → counts (here (world_after script h) l) l.port (end_there (world_after script h) l) (end_here (world_after script h) l) ≡ true
counts_up script h l k is apart up =
    let w = world_after script h in
    and_from (is_end (good_peer (here w l) l.port) (end_there w l)) (is_same_end (end_here w l) (end_here w l))
    (ap (λ o. is_end o (end_there w l)) (back_peer script h l k is up (differ_of script k.kept h l is apart)) ∙ same_end (end_there w l)) (same_end (end_here w l))

pub carry_up : (script : ScriptOf) (h : List Event) (l : LinkOf) (epoch n : ℕ) (from to : EndId) → IsLate script h → IsLinkOf script l → is_some_under_way (is_carry epoch from to n) (world_after script h) l ≡ true → is_up (world_after script h).fabric l.place l.port ≡ true
carry_up script h l epoch n from to k is found = up_by (is_carry epoch from to n) script h l is (carry_down script k.kept l is epoch n from to) k found

pub carry_counts : (script : ScriptOf) (h : List Event) (l : LinkOf) (epoch n : ℕ) (from to : EndId) → IsLate script h → IsLinkOf script l → (l.place ≡ l.far_place → ⊥) → is_some_under_way (is_carry epoch from to n) (world_after script h) l ≡ true → counts (there (world_after script h) l) l.far_port (end_here (world_after script h) l) (end_there (world_after script h) l) ≡ true
carry_counts script h l epoch n from to k is apart found =
    counts_up script h (turned l) k (link_turned script l is) (λ e. apart (sym e)) (up_turned script k.kept h l is (carry_up script h l epoch n from to k is found))

pub ack_counts : (script : ScriptOf) (h : List Event) (l : LinkOf) (epoch n : ℕ) (from to : EndId) → IsLate script h → IsLinkOf script l → (l.place ≡ l.far_place → ⊥) → is_some_under_way (is_ack epoch from to n) (world_after script h) (turned l) ≡ true → counts (here (world_after script h) l) l.port (end_there (world_after script h) l) (end_here (world_after script h) l) ≡ true
ack_counts script h l epoch n from to k is apart found =
    let back = link_turned script l is in
    counts_up script h l k is apart (up_turned script k.kept h (turned l) back (up_by (is_ack epoch from to n) script h (turned l) back (ack_down script k.kept (turned l) back epoch n from to) k found))

-- what counts at a port comes by the link of its epoch
pub counted_link : (script : ScriptOf) → IsScript script → (h : List Event) (s p : ℕ) (from to : EndId) → s < places script → 1 ≤ p → p ≤ 12 → ((world_after script h).switches s).spent ≡ false → counts ((world_after script h).switches s) p from to ≡ true → peer_among ((world_after script h).switches s).card.links p ≡ Some from
counted_link script kept h s p from to low least most works is =
    let u = (world_after script h).switches s in
    ap (λ ls. peer_among ls p) ((world_sound script kept h s low).links works) ∙ good_link u p least most ∙ (counted u p from to is).0
