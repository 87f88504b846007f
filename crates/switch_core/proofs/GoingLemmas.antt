use Rattle.std.proofs.Common.{◌≡◌, ◌∙◌, sym, ap, refl, subst, ℕ, suc, ◌≤◌, ◌==◌, arith, List, [], ◌∷◌, length, All, Some, Bool, true, false, cond, nat_lt, ◌⊎◌, inl, inr}
use Rattle.std.proofs.lemmas.Bool.{cond_both, eq-eqb, true≢false}
use Rattle.std.proofs.lemmas.List.Elements.{All-cons, All-nil}
use Rattle.an_base.specs.Values.{EndId, PeerAt}
use Rattle.an_base.specs.Frames.{CarryOf}
use Rattle.an_base.specs.declared.body.Body.{Body}
use Rattle.an_base.specs.declared.frame.Frame.{Frame}
use Rattle.an_base.specs.declared.frame.Frame.TheVariants.{Carry, Ack, Probe, Reply}
use Rattle.an_base.specs.declared.port.Sample.{Sample}
use Rattle.connectivity.specs.Connections.{is_same_end}
use Rattle.ordered_link.specs.Receiving.{last, received}
use Rattle.port_monitor.specs.Ports.{speaks}
use Rattle.epoch_core.specs.Log.{CardOf}
use Rattle.topo_report.proofs.Members.{In}
use Rattle.switch_core.specs.Switch.{SwitchOf, counts, end_at, good_links, good_peer, port_of}
use Rattle.switch_core.specs.Steps.{Sent, Step, after, all_resent, answers_body, begun, clocked, framed, goes_on, is_change_due, is_spent_by, joins, on_ack, on_carry, peer_among, probes, sampled_by, still}
use Rattle.switch_core.specs.Sound.{IsSound, links_at}
use Rattle.switch_core.specs.Going.{IsFrameOf, IsSentBy}
use Rattle.switch_core.proofs.FarLemmas.{hears}
use Rattle.switch_core.proofs.HeldLemmas.{IsNear, received_grows}
use Rattle.switch_core.proofs.LawLemmas.{joins_card, joins_receivings}
use Rattle.switch_core.proofs.LinkLemmas.{counted, good_link, good_speaks, link_good}
use Rattle.switch_core.proofs.SendsLemmas.{AreSentBy, IsGrown, all_append, all_grown, all_resent_sends, body_sends, joins_sends, on_ack_sends, probes_sent, reply_sent, sends_then}
use Rattle.switch_core.proofs.SoundLemmas.{sound_clocked, sound_framed, sound_sampled}
use Rattle.switch_core.proofs.SpentLemmas.{frame_spends_not, goes_spends_not}

-- a link is among those at its port
found_by : (b : Bool) (k l : PeerAt) (ls : List PeerAt) → b ≡ (k.port == l.port) → (l ≡ k) ⊎ (1 ≤ length (links_at l.port ls)) → 1 ≤ length (cond b (k ∷ links_at l.port ls) (links_at l.port ls))
found_by true k l ls test i = omega arith
found_by false k l ls test (inl is) = absurd (true≢false (sym (eq-eqb k.port l.port (ap (λ (m : PeerAt). m.port) (sym is))) ∙ sym test))
found_by false k l ls test (inr there) = there

found_at : (ls : List PeerAt) (l : PeerAt) → In l ls → 1 ≤ length (links_at l.port ls)
found_at [] l i = absurd i
found_at (k ∷ ls) l (inl is) = found_by (k.port == l.port) k l ls refl (inl is)
found_at (k ∷ ls) l (inr i) = found_by (k.port == l.port) k l ls refl (inr (found_at ls l i))

-- where there is at most one at each port it is the one that is found
here_by : (b : Bool) (k l : PeerAt) (ls : List PeerAt) → 1 ≤ length (links_at l.port ls) → length (cond b (k ∷ links_at l.port ls) (links_at l.port ls)) ≤ 1
    → (length (links_at l.port ls) ≤ 1 → peer_among ls l.port ≡ Some l.peer) → cond b (Some k.peer) (peer_among ls l.port) ≡ Some l.peer
here_by true k l ls some few rest = absurd (omega (arith, some, few))
here_by false k l ls some few rest = rest few

link_here : (ls : List PeerAt) (l : PeerAt) → length (links_at l.port ls) ≤ 1 → In l ls → peer_among ls l.port ≡ Some l.peer
link_here [] l one i = absurd i
link_here (k ∷ ls) l one (inl is) =
    ap (λ (b : Bool). cond b (Some k.peer) (peer_among ls l.port)) (eq-eqb k.port l.port (ap (λ (m : PeerAt). m.port) (sym is))) ∙ ap (λ (m : PeerAt). Some m.peer) (sym is)
link_here (k ∷ ls) l one (inr i) = here_by (k.port == l.port) k l ls (found_at ls l i) one (λ few. link_here ls l few i)

-- the other end of a good port is that of the link with which the epoch was joined
linked : (works port : ℕ) (peer : EndId) (s : SwitchOf) → IsSound works s → s.spent ≡ false → 1 ≤ port → port ≤ 12 → good_peer s port ≡ Some peer → peer_among s.card.links port ≡ Some peer
linked works port peer s h working least most good = ap (λ (ls : List PeerAt). peer_among ls port) (h.links working) ∙ good_link s port least most ∙ good

-- after a join nothing is held
joined_more : (epoch port k : ℕ) (body : Body) (s : SwitchOf) → last ((joins epoch s).switch.receivings port) ≤ last (received k body ((joins epoch s).switch.receivings port))
joined_more epoch port k body s =
    let r = (joins epoch s).switch.receivings port in
    (received_grows k body r (subst IsNear (sym (joins_receivings epoch port s)) (λ n _. refl))).more

-- a body comes
carry_sent : (works port : ℕ) (f : CarryOf) (s : SwitchOf) → IsSound works s → s.spent ≡ false → 1 ≤ port → port ≤ 12 → good_peer s port ≡ Some f.from → AreSentBy (on_carry port f s).switch (on_carry port f s).frames
carry_sent works port f s h working least most good =
    let one = joins f.epoch s in
    let P : Step → Type 0 = λ step. AreSentBy step.switch step.frames in
    cond_both (nat_lt s.epoch f.epoch) (after one (answers_body port f.from f.number f.body one.switch)) (cond (f.epoch == s.epoch) (answers_body port f.from f.number f.body s) (still s)) P
    (λ _. (sends_then (begun f.epoch s) one (answers_body port f.from f.number f.body one.switch) (joins_sends f.epoch s)
    (body_sends port f.number f.from f.body one.switch (ap (λ (c : CardOf). peer_among c.links port) (joins_card f.epoch s) ∙ good_link s port least most ∙ good)
    (joined_more f.epoch port f.number f.body s))).frames)
    (λ _. cond_both (f.epoch == s.epoch) (answers_body port f.from f.number f.body s) (still s) P
    (λ _. (body_sends port f.number f.from f.body s (linked works port f.from s h working least most good) (received_grows f.number f.body (s.receivings port) (h.near port)).more).frames)
    (λ _. tt))

-- any frame comes
framed_sent : (works port : ℕ) (frame : Frame) (s : SwitchOf) → 1 ≤ port → port ≤ 12 → s.spent ≡ false → IsSound works s → AreSentBy (framed port frame s).switch (framed port frame s).frames
framed_sent works port (Carry f) s least most working h =
    cond_both (counts s port f.from f.to) (on_carry port f s) (still s) (λ (step : Step). AreSentBy step.switch step.frames)
    (λ test. carry_sent works port f s h working least most (counted s port f.from f.to test).0) (λ _. tt)
framed_sent works port (Ack epoch from to n) s least most working h =
    cond_both (counts s port from to) (on_ack port from epoch n s) (still s) (λ (step : Step). AreSentBy step.switch step.frames)
    (λ test. (on_ack_sends port epoch n from s (linked works port from s h working least most (counted s port from to test).0)).frames) (λ _. tt)
framed_sent works port (Probe from nonce) s least most working h = reply_sent s port nonce from
framed_sent works port (Reply from to nonce) s least most working h =
    cond_both (is_same_end to (end_at s port)) (still (hears port from nonce s)) (still s) (λ (step : Step). AreSentBy step.switch step.frames) (λ _. tt) (λ _. tt)

-- A clock comes: behind the probes go the bodies
behind_probes : (u v : SwitchOf) (step : Step) → AreSentBy v (probes u) → IsGrown v step.switch → AreSentBy step.switch step.frames → AreSentBy step.switch (after (record { switch = u; frames = probes u }) step).frames
behind_probes u v step probed grown sent = all_append step.switch (probes u) step.frames (all_grown v step.switch (probes u) grown probed) sent

goes_sent : (works : ℕ) (s u : SwitchOf) → IsSound works (record u { spent = true }) → AreSentBy (goes_on s u).switch (after (record { switch = u; frames = probes u }) (goes_on s u)).frames
goes_sent works s u h =
    let one = joins (suc u.epoch) u in
    let again = all_resent u.card.links u in
    let joining = joins_sends (suc u.epoch) u in
    let resending = all_resent_sends u.card.links u (λ l i. link_here u.card.links l (h.one_link l.port) i) in
    cond_both (is_change_due s u) one again (λ (step : Step). AreSentBy step.switch (after (record { switch = u; frames = probes u }) step).frames)
    (λ _. behind_probes u (begun (suc u.epoch) u) one (probes_sent (begun (suc u.epoch) u)) joining.grown joining.frames)
    (λ _. behind_probes u u again (probes_sent u) resending.grown resending.frames)

-- each frame goes out by a port that speaks, where the links are the good ones
out_speaks : (s : SwitchOf) (port : ℕ) (frame : Frame) → s.card.links ≡ good_links s → IsFrameOf s port frame → speaks (port_of s port).phase ≡ true
out_speaks s port (Carry f) same h = good_speaks s port f.to (link_good s port f.to (ap (λ (ls : List PeerAt). peer_among ls port) (sym same) ∙ h.to))
out_speaks s port (Ack epoch from to n) same h = good_speaks s port to (link_good s port to (ap (λ (ls : List PeerAt). peer_among ls port) (sym same) ∙ h.to_is))
out_speaks s port (Probe from nonce) same h = h.asks
out_speaks s port (Reply from to nonce) same h = h.answers

all_out : (s : SwitchOf) (xs : List Sent) → s.card.links ≡ good_links s → AreSentBy s xs → All (IsSentBy s) xs
all_out s [] same h = All-nil (IsSentBy s)
all_out s (x ∷ xs) same h = All-cons (IsSentBy s) x xs (record { port_speaks = out_speaks s x.port x.frame same h.0; frame = h.0 }) (all_out s xs same h.1)

pub frame_goes_out : (works port : ℕ) (frame : Frame) (s : SwitchOf) → 1 ≤ port → port ≤ 12 → s.spent ≡ false → IsSound works s → All (IsSentBy (framed port frame s).switch) (framed port frame s).frames
frame_goes_out works port frame s least most working h =
    let step = framed port frame s in
    all_out step.switch step.frames ((sound_framed works port frame s least most working h).links (frame_spends_not port frame s ∙ working)) (framed_sent works port frame s least most working h)

pub clock_goes_out : (works now : ℕ) (samples : List Sample) (s : SwitchOf) → s.spent ≡ false → IsSound works s → All (IsSentBy (clocked now samples s).switch) (clocked now samples s).frames
clock_goes_out works now samples s working h =
    by (is_spent_by s u) (sound_clocked works now samples s h).links
  where
    u : SwitchOf
    u = sampled_by now samples s

    goes : Step
    goes = after (record { switch = u; frames = probes u }) (goes_on s u)

    by : (b : Bool) → ((cond b (still (record u { spent = true })) goes).switch.spent ≡ false → (cond b (still (record u { spent = true })) goes).switch.card.links ≡ good_links (cond b (still (record u { spent = true })) goes).switch)
        → All (IsSentBy (cond b (still (record u { spent = true })) goes).switch) (cond b (still (record u { spent = true })) goes).frames
    by true links = All-nil (IsSentBy (record u { spent = true }))
    by false links = all_out goes.switch goes.frames (links (goes_spends_not s u ∙ working)) (goes_sent (suc works) s u (sound_sampled works now samples s h))
