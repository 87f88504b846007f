-- What a switch sends is within the ranges of frames.

use Rattle.std.specs.Prelude.{◌≡◌, ◌<◌, ◌≤◌, ◌-◌, ◌^◌, ◌==◌, ◌&&◌, nat_lt, ℕ, zero, suc, length, map, List, [], ◌∷◌, ◌++◌, Option, Some, None, is_some, Bool, true, false, cond, refl}
use Rattle.std.specs.List.{flat_map}
use Rattle.std.proofs.Common.{sym, ◌∙◌, ap, subst, arith}
use Rattle.std.proofs.lemmas.Bool.{cond_both, eqb-true}
use Rattle.std.proofs.lemmas.List.{length-reverse}
use Rattle.std.proofs.lemmas.Option.{slice_get_within}
use Rattle.an_base.specs.Values.{LifeId, EndId, PeerAt}
use Rattle.an_base.specs.Frames.{CarryOf}
use Rattle.an_base.specs.declared.body.Body.{Body}
use Rattle.an_base.specs.declared.frame.Frame.{Frame}
use Rattle.an_base.specs.declared.frame.Frame.TheVariants.{Carry, Ack, Probe, Reply}
use Rattle.an_base.specs.declared.port.Sample.{Sample}
use Rattle.frame_codec.specs.Frames.{IsWithin, IsLife, IsEnd, IsLink, IsBody, IsCarry, IsFrame}
use Rattle.connectivity.specs.Connections.{is_same_end}
use Rattle.port_monitor.specs.declared.port.Port.{Port}
use Rattle.port_monitor.specs.Ports.{speaks, probe_of, reply_to}
use Rattle.port_monitor.specs.Histories.{Replied, with_happening, externals}
use Rattle.ordered_link.specs.Sending.{acknowledge, is_outstanding, next_to_send, push, send_next, sent_by_ack, sent_by_push, due}
use Rattle.ordered_link.specs.Receiving.{last, verdict, accepted_by, is_acknowledged, received}
use Rattle.ordered_link.specs.Session.{Numbered, put_out}
use Rattle.epoch_core.specs.Log.{CardOf, OnPort, on_port}
use Rattle.epoch_core.specs.Epoch.{adds}
use Rattle.epoch_game.proofs.Basics.{some_same, none_some}
use Rattle.switch_core.specs.Switch.{SwitchOf, end_at, good_peer, counts, port_of}
use Rattle.switch_core.specs.Steps.{Sent, Step, after, ack_to, acks, acknowledges, all_added, all_again, all_pushed, all_resent, answer_out, answers_body, begun, carried_to, clocked, fills, framed, goes_on, is_change_due, is_spent_by, joins, on_ack, on_carry, peer_among, probe_out, probes, probes_at, pushed, pushed_to, receives, resends_on, sampled_by, sends_again, sends_next, still}
use Rattle.switch_core.specs.Sound.{IsSound}
use Rattle.switch_core.proofs.WindowLemmas.{all_pushed_few, all_resent_few}
use Rattle.switch_core.proofs.LawLemmas.{joins_card}
use Rattle.switch_game.proofs.Links.{link_here}
use Rattle.switch_game.proofs.Own.{IsOwn}
use Rattle.switch_game.proofs.Received.{received_more}
use Rattle.switch_game.proofs.Steps.{linked_of}
use Rattle.net_game.proofs.RangedBodies.{stream_ranged, on_port_few}
use Rattle.net_game.proofs.RangedSwitch.{IsRanged}
use Rattle.switch_core.proofs.LinkLemmas.{counted, good_link}
use Rattle.switch_core.specs.Going.{IsFrameOf, IsCarriedBy, IsAckedBy}
use Rattle.switch_core.proofs.SendsLemmas.{AreSentBy, all_append, all_grown, all_resent_sends, body_sends, joins_sends, on_ack_sends}
use Rattle.net_game.proofs.EachLemmas.{Each, each_append, each_get, each_from}

-- the frames of sessions, by the port of their sender
abbrev pub IsSession : ℕ → Frame → Type 0
IsSession port (Carry f) = port ≡ f.from.port
IsSession port (Ack epoch from to n) = port ≡ from.port
IsSession port (Probe from nonce) = ⊥
IsSession port (Reply from to nonce) = ⊥

abbrev pub AreSession : List Sent → Type 0
AreSession xs = Each (λ x. IsSession x.port x.frame) xs

pub session_append : (xs ys : List Sent) → AreSession xs → AreSession ys → AreSession (xs ++ ys)
session_append xs ys a b = each_append (λ x. IsSession x.port x.frame) xs ys a b

carried_session : (s : SwitchOf) (port : ℕ) (peer : EndId) (xs : List Numbered) → AreSession (map (carried_to s port peer) xs)
carried_session s port peer [] = tt
carried_session s port peer (x ∷ xs) = (refl, carried_session s port peer xs)

pushed_session : (o : Option EndId) (x : OnPort) (s : SwitchOf) → AreSession (pushed_to o x s).frames
pushed_session None x s = tt
pushed_session (Some peer) x s = carried_session s x.port peer (put_out (push x.body s.tick (s.sendings x.port)) (sent_by_push x.body (s.sendings x.port)))

pub all_pushed_session : (xs : List OnPort) (s : SwitchOf) → AreSession (all_pushed xs s).frames
all_pushed_session [] s = tt
all_pushed_session (x ∷ xs) s =
    session_append (pushed x s).frames (all_pushed xs (pushed x s).switch).frames (pushed_session (peer_among s.card.links x.port) x s) (all_pushed_session xs (pushed x s).switch)

fills_session : (n port : ℕ) (peer : EndId) (s : SwitchOf) → AreSession (fills n port peer s).frames
fills_session zero port peer s = tt
fills_session (suc n) port peer s =
    session_append (sends_next port peer s).frames (fills n port peer (sends_next port peer s).switch).frames
    (carried_session s port peer (put_out (send_next s.tick (s.sendings port)) (next_to_send (s.sendings port)))) (fills_session n port peer (sends_next port peer s).switch)

pub on_ack_session : (port epoch n : ℕ) (peer : EndId) (s : SwitchOf) → AreSession (on_ack port peer epoch n s).frames
on_ack_session port epoch n peer s =
    let first = acknowledges port peer n s in
    cond_both (epoch == s.epoch && is_outstanding n (s.sendings port)) (after first (fills 7 port peer first.switch)) (still s) (λ (st : Step). AreSession st.frames)
    (λ _. session_append first.frames (fills 7 port peer first.switch).frames (carried_session s port peer (put_out (acknowledge n s.tick (s.sendings port)) (sent_by_ack n (s.sendings port)))) (fills_session 7 port peer first.switch))
    (λ _. tt)

again_session : (l : PeerAt) (ks : List ℕ) (s : SwitchOf) → AreSession (all_again l ks s).frames
again_session l [] s = tt
again_session l (k ∷ ks) s =
    session_append (sends_again l k s).frames (all_again l ks (sends_again l k s).switch).frames (carried_session s l.port l.peer (put_out (s.sendings l.port) (Some k))) (again_session l ks (sends_again l k s).switch)

pub resent_session : (ls : List PeerAt) (s : SwitchOf) → AreSession (all_resent ls s).frames
resent_session [] s = tt
resent_session (l ∷ ls) s =
    session_append (resends_on l s).frames (all_resent ls (resends_on l s).switch).frames (again_session l (due s.tick (s.sendings l.port)) s) (resent_session ls (resends_on l s).switch)

pub body_session : (port k : ℕ) (peer : EndId) (body : Body) (s : SwitchOf) → AreSession (answers_body port peer k body s).frames
body_session port k peer body s =
    let xs = all_added s.card port (accepted_by k body (s.receivings port)) s.log in
    session_append (acks port peer k body s) (all_pushed xs (receives port k body s)).frames
    (cond_both (is_acknowledged (verdict k body (s.receivings port))) (ack_to s port peer (last (received k body (s.receivings port))) ∷ []) [] AreSession (λ _. (refl, tt)) (λ _. tt))
    (all_pushed_session xs (receives port k body s))

-- What is known of a switch that sent frames
pub record IsSender (works : ℕ) (x : LifeId) (s : SwitchOf) : Type 0 where
  pub few : works < 2 ^ 28
  pub own : IsOwn x s
  pub sound : IsSound works s
  pub ranged : IsRanged s

record IsPeerAt (port : ℕ) (e : EndId) : Type 0 where
  port_is : IsWithin 1 12 port
  end_is : IsEnd e

peer_found : (ls : List PeerAt) (port : ℕ) (e : EndId) → Each IsLink ls → peer_among ls port ≡ Some e → IsPeerAt port e
peer_found [] port e all is = absurd (none_some is)
peer_found (l ∷ ls) port e all is = by (l.port == port) refl is (λ rest. peer_found ls port e all.1 rest)
  where
    by : (b : Bool) → (l.port == port) ≡ b → cond b (Some l.peer) (peer_among ls port) ≡ Some e → (peer_among ls port ≡ Some e → IsPeerAt port e) → IsPeerAt port e
    by true at found rest = record { port_is = subst (IsWithin 1 12) (eqb-true l.port port at) all.0.port; end_is = subst IsEnd (some_same l.peer e found) all.0.peer }
    by false at found rest = rest found

linked_at : (works : ℕ) (x : LifeId) (s : SwitchOf) (port : ℕ) (e : EndId) → IsSender works x s → peer_among s.card.links port ≡ Some e → IsPeerAt port e
linked_at works x s port e k is = peer_found s.card.links port e (each_from IsLink s.card.links k.ranged.card_is.links.each) is

linked_joined : (works : ℕ) (x : LifeId) (s : SwitchOf) (port : ℕ) (e : EndId) → IsSender works x s → peer_among s.card.links port ≡ Some e → s.joined ≡ true
linked_joined works x s port e k is = by s.joined refl
  where
    by : (b : Bool) → s.joined ≡ b → s.joined ≡ true
    by true j = j
    by false j = absurd (none_some (sym (ap (λ (ls : List PeerAt). peer_among ls port) (k.own.no_links j)) ∙ is))

log_few : (works : ℕ) (x : LifeId) (s : SwitchOf) → IsSender works x s → s.joined ≡ true → length s.log < 2 ^ 28
log_few works x s k joined = let a = k.sound.came joined in let b = k.few in omega (arith, a, b)

own_end : (works : ℕ) (x : LifeId) (s : SwitchOf) (port : ℕ) → IsSender works x s → IsWithin 1 12 port → IsEnd (end_at s port)
own_end works x s port k within = record { life = k.ranged.life_is; port = within }

-- a frame of a session is within its ranges
carry_frame : (works : ℕ) (x : LifeId) (s : SwitchOf) (port : ℕ) (f : CarryOf) → IsSender works x s → IsCarriedBy s port f → IsCarry f
carry_frame works x s port f k c =
    let at = linked_at works x s port f.to k c.to in
    let joined = linked_joined works x s port f.to k c.to in
    let few = log_few works x s k joined in
    let pushed = k.sound.pushed port in
    let low = slice_get_within (s.sendings port).pushed (f.number - 1) f.body c.body in
    let least = c.least in
    let bodies : Each IsBody (s.sendings port).pushed =
    subst (Each IsBody) (sym (k.own.pushed joined port (ap is_some c.to))) (stream_ranged s.card port s.log k.ranged.card_is k.ranged.log_is few)
    in
    record {
      epoch = let e = c.epoch in let low = k.ranged.epoch_is in omega (arith, e, low);
      from = subst IsEnd (sym c.from) (own_end works x s port k at.port_is);
      to = at.end_is;
      number = (least, omega (arith, low, pushed, few, least));
      body = each_get IsBody (s.sendings port).pushed (f.number - 1) f.body bodies c.body;
    }

ack_frame : (works : ℕ) (x : LifeId) (s : SwitchOf) (port epoch n : ℕ) (from to : EndId) → IsSender works x s → IsAckedBy s port epoch from to n → IsFrame (Ack epoch from to n)
ack_frame works x s port epoch n from to k c =
    let at = linked_at works x s port to k c.to_is in
    let joined = linked_joined works x s port to k c.to_is in
    let few = log_few works x s k joined in
    let turned = length-reverse (on_port port s.log) in
    let accepted = ap length (k.own.accepted port) in
    let some = on_port_few port s.log in
    let most = c.few in
    (let e = c.epoch_is in let low = k.ranged.epoch_is in omega (arith, e, low), subst IsEnd (sym c.from_is) (own_end works x s port k at.port_is), at.end_is, omega (arith, most, accepted, turned, some, few))

-- a frame within its ranges, which goes out by an external port
pub record IsOut (x : Sent) : Type 0 where
  pub frame_is : IsFrame x.frame
  pub port_is : IsWithin 1 12 x.port

session_frame : (works : ℕ) (x : LifeId) (s : SwitchOf) (port : ℕ) (f : Frame) → IsSender works x s → IsFrameOf s port f → IsSession port f → IsOut (record { port = port; frame = f })
session_frame works x s port (Carry f) k c is = let e = carry_frame works x s port f k c in record { frame_is = e; port_is = subst (IsWithin 1 12) (sym is) e.from.port }
session_frame works x s port (Ack epoch from to n) k c is = let e = ack_frame works x s port epoch n from to k c in record { frame_is = e; port_is = subst (IsWithin 1 12) (sym is) e.1.port }
session_frame works x s port (Probe from nonce) k c is = absurd is
session_frame works x s port (Reply from to nonce) k c is = absurd is

abbrev pub AreFrames : List Sent → Type 0
AreFrames xs = Each IsOut xs

session_frames : (works : ℕ) (x : LifeId) (s : SwitchOf) (xs : List Sent) → IsSender works x s → AreSentBy s xs → AreSession xs → AreFrames xs
session_frames works x s [] k sent is = tt
session_frames works x s (y ∷ xs) k sent is = (session_frame works x s y.port y.frame k sent.0 is.0, session_frames works x s xs k sent.1 is.1)

-- by a body
carry_sent : (x : LifeId) (port : ℕ) (f : CarryOf) (s : SwitchOf) → IsOwn x s → s.spent ≡ false → 1 ≤ port → port ≤ 12 → good_peer s port ≡ Some f.from → AreSentBy (on_carry port f s).switch (on_carry port f s).frames × AreSession (on_carry port f s).frames
carry_sent x port f s own working least most peer =
    let j = joins f.epoch s in
    let b = answers_body port f.from f.number f.body j.switch in
    let linked : peer_among j.switch.card.links port ≡ Some f.from = ap (λ (c : CardOf). peer_among c.links port) (joins_card f.epoch s) ∙ good_link s port least most ∙ peer in
    let first = (joins_sends f.epoch s).frames in
    let next = body_sends port f.number f.from f.body j.switch linked (received_more f.number f.body (j.switch.receivings port)) in
    let here = answers_body port f.from f.number f.body s in
    let P : Step → Type 0 = λ st. AreSentBy st.switch st.frames × AreSession st.frames in
    cond_both (nat_lt s.epoch f.epoch) (after j b) (cond (f.epoch == s.epoch) here (still s)) P
    (λ _. (
      all_append b.switch j.frames b.frames (all_grown j.switch b.switch j.frames next.grown first) next.frames,
      session_append j.frames b.frames (all_pushed_session (adds (begun f.epoch s).card []) (begun f.epoch s)) (body_session port f.number f.from f.body j.switch),
    ))
    (λ _. cond_both (f.epoch == s.epoch) here (still s) P
    (λ _. ((body_sends port f.number f.from f.body s (linked_of x s port f.from own working least most peer).linked (received_more f.number f.body (s.receivings port))).frames, body_session port f.number f.from f.body s))
    (λ _. (tt, tt)))

-- What a frame makes go out
reply_frame : (port nonce : ℕ) (me from : EndId) (p : Port) → IsEnd me → IsEnd from → nonce < 2 ^ 64 → IsWithin 1 12 port → AreFrames (answer_out port (reply_to me from nonce p))
reply_frame port nonce me from p own is low within = cond_both (speaks p.phase) (Some (Reply me from nonce)) None (λ (o : Option Frame). AreFrames (answer_out port o)) (λ _. (record { frame_is = (own, is, low); port_is = within }, tt)) (λ _. tt)

pub framed_frames : (works : ℕ) (x : LifeId) (port : ℕ) (f : Frame) (s : SwitchOf) → IsOwn x s → s.spent ≡ false → 1 ≤ port → port ≤ 12 → IsFrame f → IsRanged s → IsSender works x (framed port f s).switch → AreFrames (framed port f s).frames
framed_frames works x port (Carry f) s own working least most is ok k = by (counts s port f.from f.to) refl k
  where
    by : (b : Bool) → counts s port f.from f.to ≡ b → IsSender works x (cond b (on_carry port f s) (still s)).switch → AreFrames (cond b (on_carry port f s) (still s)).frames
    by true test k' = let c = carry_sent x port f s own working least most (counted s port f.from f.to test).0 in session_frames works x (on_carry port f s).switch (on_carry port f s).frames k' c.0 c.1
    by false test k' = tt
framed_frames works x port (Ack epoch from to n) s own working least most is ok k = by (counts s port from to) refl k
  where
    by : (b : Bool) → counts s port from to ≡ b → IsSender works x (cond b (on_ack port from epoch n s) (still s)).switch → AreFrames (cond b (on_ack port from epoch n s) (still s)).frames
    by true test k' =
        let linked = (linked_of x s port from own working least most (counted s port from to test).0).linked in
        session_frames works x (on_ack port from epoch n s).switch (on_ack port from epoch n s).frames k' (on_ack_sends port epoch n from s linked).frames (on_ack_session port epoch n from s)
    by false test k' = tt
framed_frames works x port (Probe from nonce) s own working least most is ok k = reply_frame port nonce (end_at s port) from (port_of s port) (record { life = ok.life_is; port = (least, most) }) is.0 is.1 (least, most)
framed_frames works x port (Reply from to nonce) s own working least most is ok k =
    cond_both (is_same_end to (end_at s port)) (still (record s { ports = with_happening port (Replied from nonce) s.ports })) (still s) (λ (st : Step). AreFrames st.frames) (λ _. tt) (λ _. tt)

-- and a clock
probe_frame : (works port : ℕ) (s : SwitchOf) (p : Port) → IsLife s.life → IsWithin 1 12 port → works < 2 ^ 28 → p.far.nonce ≤ works → AreFrames (probe_out s port (probe_of p))
probe_frame works port s p life within few low = cond_both (speaks p.phase) (Some p.far.nonce) None (λ (o : Option ℕ). AreFrames (probe_out s port o)) (λ _. (record { frame_is = (record { life = life; port = within }, omega (arith, low, few)); port_is = within }, tt)) (λ _. tt)

probes_frames : (works : ℕ) (s : SwitchOf) (ports : List ℕ) → IsLife s.life → works < 2 ^ 28 → ((p : ℕ) → (port_of s p).far.nonce ≤ works) → Each (IsWithin 1 12) ports → AreFrames (flat_map (probes_at s) ports)
probes_frames works s [] life few low within = tt
probes_frames works s (p ∷ ports) life few low within =
    each_append IsOut (probes_at s p) (flat_map (probes_at s) ports) (probe_frame works p s (port_of s p) life within.0 few (low p)) (probes_frames works s ports life few low within.1)

externals_within : Each (IsWithin 1 12) externals
externals_within = ((omega arith, omega arith), ((omega arith, omega arith), ((omega arith, omega arith), ((omega arith, omega arith), ((omega arith, omega arith), ((omega arith, omega arith), ((omega arith, omega arith), ((omega arith, omega arith), ((omega arith, omega arith), ((omega arith, omega arith), ((omega arith, omega arith), ((omega arith, omega arith), tt))))))))))))

goes_ports : (before s : SwitchOf) (p : ℕ) → port_of (goes_on before s).switch p ≡ port_of s p
goes_ports before s p =
    cond_both (is_change_due before s) (joins (suc s.epoch) s) (all_resent s.card.links s) (λ (st : Step). port_of st.switch p ≡ port_of s p)
    (λ _. ap (λ (u : SwitchOf). port_of u p) (all_pushed_few (adds (begun (suc s.epoch) s).card []) (begun (suc s.epoch) s)).only)
    (λ _. ap (λ (u : SwitchOf). port_of u p) (all_resent_few s.card.links s).only)

goes_sent : (before s : SwitchOf) → IsRanged s → AreSentBy (goes_on before s).switch (goes_on before s).frames × AreSession (goes_on before s).frames
goes_sent before s ok =
    cond_both (is_change_due before s) (joins (suc s.epoch) s) (all_resent s.card.links s) (λ (st : Step). AreSentBy st.switch st.frames × AreSession st.frames)
    (λ _. ((joins_sends (suc s.epoch) s).frames, all_pushed_session (adds (begun (suc s.epoch) s).card []) (begun (suc s.epoch) s)))
    (λ _. ((all_resent_sends s.card.links s (λ l i. link_here s.card.links l ok.card_is.links.rising i)).frames, resent_session s.card.links s))

pub clocked_frames : (works : ℕ) (x : LifeId) (now : ℕ) (samples : List Sample) (s : SwitchOf) → IsRanged (sampled_by now samples s) → IsSender works x (clocked now samples s).switch → AreFrames (clocked now samples s).frames
clocked_frames works x now samples s ok k = by (is_spent_by s t) k
  where
    t : SwitchOf
    t = sampled_by now samples s

    by : (b : Bool) → IsSender works x (cond b (still (record t { spent = true })) (after (record { switch = t; frames = probes t }) (goes_on s t))).switch → AreFrames (cond b (still (record t { spent = true })) (after (record { switch = t; frames = probes t }) (goes_on s t))).frames
    by true k' = tt
    by false k' =
        let c = goes_sent s t ok in
        each_append IsOut (probes t) (goes_on s t).frames
        (probes_frames works t externals ok.life_is k'.few (λ p. let e = ap (λ (q : Port). q.far.nonce) (goes_ports s t p) in let low = k'.sound.probes p in omega (arith, e, low)) externals_within)
        (session_frames works x (goes_on s t).switch (goes_on s t).frames k' c.0 c.1)
