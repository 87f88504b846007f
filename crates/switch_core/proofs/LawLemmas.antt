use Rattle.std.proofs.Common.{◌≡◌, ◌≢◌, ◌∙◌, sym, ap, refl, ℕ, zero, suc, ◌+◌, ◌<◌, ◌≤◌, ◌==◌, arith, List, [], ◌∷◌, ◌++◌, append_assoc, append-nil, map, length, Option, Some, None, is_some, Bool, true, false, cond, ◌&&◌, nat_lt, ◌⊎◌, inl, inr}
use Rattle.std.proofs.lemmas.Bool.{and_left, and_right, cond_both, cond-false, eq-eqb, eqb-true, false≢true, true≢false, false_from_ne_true, le-ltb, ltb-true, ne_eqb}
use Rattle.an_base.specs.Values.{EndId, PeerAt, Place}
use Rattle.an_base.specs.Frames.{CarryOf}
use Rattle.an_base.specs.declared.body.Body.{Body}
use Rattle.an_base.specs.declared.body.Body.TheVariants.{Pos}
use Rattle.an_base.specs.declared.frame.Frame.{Frame}
use Rattle.an_base.specs.declared.frame.Frame.TheVariants.{Carry, Ack, Probe, Reply}
use Rattle.an_base.specs.declared.port.Sample.{Sample}
use Rattle.connectivity.proofs.EndLemmas.{same_end_is}
use Rattle.connectivity.specs.Connections.{is_end, is_same_end}
use Rattle.port_monitor.specs.declared.port.Port.{Port}
use Rattle.port_monitor.specs.Ports.{good_peer_by, link_to, links_from}
use Rattle.port_monitor.specs.Histories.{Replied, with_happening}
use Rattle.ordered_link.specs.Sending.{Sending, acknowledge, is_outstanding, is_waiting, may_send, push, send_next, with_pushed}
use Rattle.ordered_link.specs.Receiving.{untouched, accepted_by}
use Rattle.epoch_core.specs.Log.{CardOf, OnPort, on_port}
use Rattle.epoch_core.specs.Epoch.{adds, pos_at, position}
use Rattle.epoch_core.proofs.JoinLemmas.{position_none}
use Rattle.epoch_core.proofs.LawLemmas.{on_port-append}
use Rattle.switch_core.specs.Switch.{CameBy, SwitchOf, card_of, counts, end_at, good_links, good_peer, ports_of}
use Rattle.switch_core.specs.Steps.{Step, acknowledges, after, all_added, all_pushed, all_resent, answers_body, begun, clocked, fills, framed, goes_on, is_change_due, is_spent_by, joins, on_ack, on_carry, peer_among, probes, pushed, pushed_to, receives, sampled_by, sends_next, still}
use Rattle.switch_core.proofs.CountLemmas.{joining_few, one_from}
use Rattle.switch_core.proofs.SessionLemmas.{at_other_port}
use Rattle.switch_core.proofs.WindowLemmas.{OnlySends, all_pushed_few, all_resent_few, on_ack_few}
use Rattle.switch_core.proofs.SendsLemmas.{pushed_at as adds_at}

-- joining changes only what is sent of the epoch that begins
joins_only : (epoch : ℕ) (s : SwitchOf) → OnlySends (begun epoch s) (joins epoch s).switch
joins_only epoch s = (all_pushed_few (adds (begun epoch s).card []) (begun epoch s)).only

-- so the epoch is this one
pub joins_epoch : (epoch : ℕ) (s : SwitchOf) → (joins epoch s).switch.epoch ≡ epoch
joins_epoch epoch s = ap (λ (u : SwitchOf). u.epoch) (joins_only epoch s)

-- the links are the present good ones
pub joins_card : (epoch : ℕ) (s : SwitchOf) → (joins epoch s).switch.card ≡ card_of s.life s.number (good_links s)
joins_card epoch s = ap (λ (u : SwitchOf). u.card) (joins_only epoch s)

-- nothing was accepted
pub joins_log : (epoch : ℕ) (s : SwitchOf) → (joins epoch s).switch.log ≡ []
joins_log epoch s = ap (λ (u : SwitchOf). u.log) (joins_only epoch s)

-- and nothing came
pub joins_receivings : (epoch port : ℕ) (s : SwitchOf) → (joins epoch s).switch.receivings port ≡ untouched
joins_receivings epoch port s = ap (λ (u : SwitchOf). u.receivings port) (joins_only epoch s)

-- a body of the present epoch leaves the epoch
body_epoch : (port k : ℕ) (peer : EndId) (body : Body) (s : SwitchOf) → (answers_body port peer k body s).switch.epoch ≡ s.epoch
body_epoch port k peer body s = ap (λ (u : SwitchOf). u.epoch) (all_pushed_few (all_added s.card port (accepted_by k body (s.receivings port)) s.log) (receives port k body s)).only

-- a body of any epoch does not lower it
carry_raises : (port : ℕ) (f : CarryOf) (s : SwitchOf) → s.epoch ≤ (on_carry port f s).switch.epoch
carry_raises port f s =
    let one = joins f.epoch s in
    let here = answers_body port f.from f.number f.body s in
    let later = answers_body port f.from f.number f.body one.switch in
    cond_both (nat_lt s.epoch f.epoch) (after one later) (cond (f.epoch == s.epoch) here (still s)) (λ step. s.epoch ≤ step.switch.epoch)
    (λ above. let low = ltb-true s.epoch f.epoch above in let e = joins_epoch f.epoch s in let same = body_epoch port f.number f.from f.body one.switch in omega (arith, low, e, same))
    (λ _. cond_both (f.epoch == s.epoch) here (still s) (λ step. s.epoch ≤ step.switch.epoch) (λ _. let same = body_epoch port f.number f.from f.body s in omega (arith, same)) (λ _. omega arith))

-- an acknowledgement changes only what is sent
pub ack_only : (port epoch n : ℕ) (from to : EndId) (s : SwitchOf) → OnlySends s (framed port (Ack epoch from to n) s).switch
ack_only port epoch n from to s = cond_both (counts s port from to) (on_ack port from epoch n s) (still s) (λ step. OnlySends s step.switch) (λ _. (on_ack_few port epoch n from s).only) (λ _. refl)

-- a frame does not lower the epoch
pub frame_raises : (port : ℕ) (frame : Frame) (s : SwitchOf) → s.epoch ≤ (framed port frame s).switch.epoch
frame_raises port (Carry f) s = cond_both (counts s port f.from f.to) (on_carry port f s) (still s) (λ step. s.epoch ≤ step.switch.epoch) (λ _. carry_raises port f s) (λ _. omega arith)
frame_raises port (Ack epoch from to n) s = let same = ap (λ (u : SwitchOf). u.epoch) (ack_only port epoch n from to s) in omega (arith, same)
frame_raises port (Probe from nonce) s = omega arith
frame_raises port (Reply from to nonce) s =
    cond_both (is_same_end to (end_at s port)) (still (record s { ports = with_happening port (Replied from nonce) s.ports })) (still s) (λ step. s.epoch ≤ step.switch.epoch) (λ _. omega arith) (λ _. omega arith)

-- nothing came
nothing_came : (port : ℕ) (s : SwitchOf) → CameBy port s s
nothing_came port s = record { life = refl; others = λ q other. refl }

-- what changes only what is sent came by any port
sends_came : (port : ℕ) (before s t : SwitchOf) → OnlySends s t → CameBy port before s → CameBy port before t
sends_came port before s t only came = record {
  life = ap (λ (u : SwitchOf). u.life) only ∙ came.life;
  others = λ q other. ap (λ (u : SwitchOf). u.ports q) only ∙ came.others q other;
}

-- so does a join
joins_came : (port epoch : ℕ) (s : SwitchOf) → CameBy port s (joins epoch s).switch
joins_came port epoch s = sends_came port s (begun epoch s) (joins epoch s).switch (joins_only epoch s) (record { life = refl; others = λ q other. refl })

-- a body of the present epoch
body_came : (at port k : ℕ) (peer : EndId) (body : Body) (before s : SwitchOf) → CameBy at before s → CameBy at before (answers_body port peer k body s).switch
body_came at port k peer body before s came =
    sends_came at before (receives port k body s) (answers_body port peer k body s).switch (all_pushed_few (all_added s.card port (accepted_by k body (s.receivings port)) s.log) (receives port k body s)).only
    (record { life = came.life; others = came.others })

-- and one of any epoch
carry_came : (port : ℕ) (f : CarryOf) (s : SwitchOf) → CameBy port s (on_carry port f s).switch
carry_came port f s =
    let one = joins f.epoch s in
    let here = answers_body port f.from f.number f.body s in
    let later = answers_body port f.from f.number f.body one.switch in
    cond_both (nat_lt s.epoch f.epoch) (after one later) (cond (f.epoch == s.epoch) here (still s)) (λ step. CameBy port s step.switch)
    (λ above. body_came port port f.number f.from f.body s one.switch (joins_came port f.epoch s))
    (λ _. cond_both (f.epoch == s.epoch) here (still s) (λ step. CameBy port s step.switch) (λ _. body_came port port f.number f.from f.body s s (nothing_came port s)) (λ _. nothing_came port s))

-- a reply happens at its port
reply_came : (port nonce : ℕ) (from : EndId) (s : SwitchOf) → CameBy port s (record s { ports = with_happening port (Replied from nonce) s.ports })
reply_came port nonce from s = record { life = refl; others = λ q other. ap (λ b. cond b (Replied from nonce ∷ s.ports q) (s.ports q)) (ne_eqb q port other) }

-- a frame comes by its port
pub frame_came : (port : ℕ) (frame : Frame) (s : SwitchOf) → CameBy port s (framed port frame s).switch
frame_came port (Carry f) s = cond_both (counts s port f.from f.to) (on_carry port f s) (still s) (λ step. CameBy port s step.switch) (λ _. carry_came port f s) (λ _. nothing_came port s)
frame_came port (Ack epoch from to n) s = sends_came port s s (framed port (Ack epoch from to n) s).switch (ack_only port epoch n from to s) (nothing_came port s)
frame_came port (Probe from nonce) s = nothing_came port s
frame_came port (Reply from to nonce) s =
    cond_both (is_same_end to (end_at s port)) (still (record s { ports = with_happening port (Replied from nonce) s.ports })) (still s) (λ step. CameBy port s step.switch) (λ _. reply_came port nonce from s) (λ _. nothing_came port s)

-- the epoch stays, or rises by one
abbrev pub RisesByOne : ℕ → Step → Type 0
RisesByOne epoch step = (epoch ≤ step.switch.epoch) × (step.switch.epoch ≤ epoch + 1)

-- behind the probes
goes_on_rises : (before s : SwitchOf) → RisesByOne s.epoch (goes_on before s)
goes_on_rises before s =
    cond_both (is_change_due before s) (joins (suc s.epoch) s) (all_resent s.card.links s) (RisesByOne s.epoch)
    (λ _. let e = joins_epoch (suc s.epoch) s in (omega (arith, e), omega (arith, e)))
    (λ _. let e = ap (λ (u : SwitchOf). u.epoch) (all_resent_few s.card.links s).only in (omega (arith, e), omega (arith, e)))

-- and so at a clock
pub clock_rises : (now : ℕ) (samples : List Sample) (s : SwitchOf) → RisesByOne s.epoch (clocked now samples s)
clock_rises now samples s =
    let u = sampled_by now samples s in
    cond_both (is_spent_by s u) (still (record u { spent = true })) (after (record { switch = u; frames = probes u }) (goes_on s u)) (RisesByOne s.epoch)
    (λ _. (omega arith, omega arith)) (λ _. goes_on_rises s u)

-- what is sent at one port leaves the others
fills_elsewhere : (n port q : ℕ) (peer : EndId) (s : SwitchOf) → q ≢ port → (fills n port peer s).switch.sendings q ≡ s.sendings q
fills_elsewhere zero port q peer s other = refl
fills_elsewhere (suc n) port q peer s other = fills_elsewhere n port q peer (sends_next port peer s).switch other ∙ at_other_port port q (send_next s.tick (s.sendings port)) s.sendings other

-- so does an acknowledgement that counts
on_ack_elsewhere : (port epoch n q : ℕ) (peer : EndId) (s : SwitchOf) → q ≢ port → (on_ack port peer epoch n s).switch.sendings q ≡ s.sendings q
on_ack_elsewhere port epoch n q peer s other =
    let first = acknowledges port peer n s in
    cond_both (epoch == s.epoch && is_outstanding n (s.sendings port)) (after first (fills 7 port peer first.switch)) (still s) (λ step. step.switch.sendings q ≡ s.sendings q)
    (λ _. fills_elsewhere 7 port q peer first.switch other ∙ at_other_port port q (acknowledge n s.tick (s.sendings port)) s.sendings other) (λ _. refl)

-- and each one that comes in
pub ack_elsewhere : (port epoch n q : ℕ) (from to : EndId) (s : SwitchOf) → q ≢ port → (framed port (Ack epoch from to n) s).switch.sendings q ≡ s.sendings q
ack_elsewhere port epoch n q from to s other =
    cond_both (counts s port from to) (on_ack port from epoch n s) (still s) (λ step. step.switch.sendings q ≡ s.sendings q) (λ _. on_ack_elsewhere port epoch n q from s other) (λ _. refl)

-- an acknowledgement of another epoch is nothing
pub ack_other : (port epoch n : ℕ) (from to : EndId) (s : SwitchOf) → epoch ≢ s.epoch → framed port (Ack epoch from to n) s ≡ still s
ack_other port epoch n from to s other =
    let first = acknowledges port from n s in
    let nothing : on_ack port from epoch n s ≡ still s = ap (λ b. cond (b && is_outstanding n (s.sendings port)) (after first (fills 7 port from first.switch)) (still s)) (ne_eqb epoch s.epoch other) in
    cond_both (counts s port from to) (on_ack port from epoch n s) (still s) (λ step. step ≡ still s) (λ _. nothing) (λ _. refl)

-- so one of a lower epoch is
pub ack_lower : (port epoch n : ℕ) (from to : EndId) (s : SwitchOf) → epoch < s.epoch → framed port (Ack epoch from to n) s ≡ still s
ack_lower port epoch n from to s low = ack_other port epoch n from to s (omega (arith, low))

-- and a body of a lower epoch is
pub carry_lower : (port : ℕ) (f : CarryOf) (s : SwitchOf) → f.epoch < s.epoch → framed port (Carry f) s ≡ still s
carry_lower port f s low =
    let one = joins f.epoch s in
    let here = answers_body port f.from f.number f.body s in
    let nothing : on_carry port f s ≡ still s =
    ap (λ b. cond b (after one (answers_body port f.from f.number f.body one.switch)) (cond (f.epoch == s.epoch) here (still s))) (le-ltb s.epoch f.epoch (omega (arith, low)))
    ∙ ap (λ b. cond b here (still s)) (ne_eqb f.epoch s.epoch (omega (arith, low))) in
    cond_both (counts s port f.from f.to) (on_carry port f s) (still s) (λ step. step ≡ still s) (λ _. nothing) (λ _. refl)

-- of an older session nothing counts in the epoch that was joined
pub old_carry : (epoch port : ℕ) (f : CarryOf) (s : SwitchOf) → f.epoch < epoch → framed port (Carry f) (joins epoch s).switch ≡ still (joins epoch s).switch
old_carry epoch port f s low = let e = joins_epoch epoch s in carry_lower port f (joins epoch s).switch (omega (arith, low, e))

-- be it a body or an acknowledgement
pub old_ack : (epoch port older n : ℕ) (from to : EndId) (s : SwitchOf) → older < epoch → framed port (Ack older from to n) (joins epoch s).switch ≡ still (joins epoch s).switch
old_ack epoch port older n from to s low = let e = joins_epoch epoch s in ack_lower port older n from to (joins epoch s).switch (omega (arith, low, e))

-- another end is told apart
not_end : (o : Option EndId) (q : EndId) → o ≢ Some q → is_end o q ≡ false
not_end None q other = refl
not_end (Some p) q other = false_from_ne_true (is_same_end p q) (λ is. other (ap (λ (e : EndId). Some e) (same_end_is p q is)))

-- and a frame from another end or to another one does not count
uncounted : (port : ℕ) (from to : EndId) (s : SwitchOf) → (good_peer s port ≢ Some from) ⊎ (to ≢ end_at s port) → counts s port from to ≡ false
uncounted port from to s other =
    let sender = is_end (good_peer s port) from in
    let receiver = is_same_end to (end_at s port) in
    elim other [
      | inl not_peer ↦ and_left sender receiver (not_end (good_peer s port) from not_peer)
      | inr not_here ↦ and_right sender receiver (false_from_ne_true receiver (λ is. not_here (same_end_is to (end_at s port) is)))
    ]

-- a body that does not count is nothing
pub carry_uncounted : (port : ℕ) (f : CarryOf) (s : SwitchOf) → (good_peer s port ≢ Some f.from) ⊎ (f.to ≢ end_at s port) → framed port (Carry f) s ≡ still s
carry_uncounted port f s other = cond-false (counts s port f.from f.to) (on_carry port f s) (still s) (uncounted port f.from f.to s other)

-- and so is an acknowledgement
pub ack_uncounted : (port epoch n : ℕ) (from to : EndId) (s : SwitchOf) → (good_peer s port ≢ Some from) ⊎ (to ≢ end_at s port) → framed port (Ack epoch from to n) s ≡ still s
ack_uncounted port epoch n from to s other = cond-false (counts s port from to) (on_ack port from epoch n s) (still s) (uncounted port from to s other)

-- what is sent leaves what is acknowledged
pub sent_acked : (b : Bool) (now : ℕ) (t : Sending) → (cond b (record t { sent = t.sent ++ now ∷ [] }) t).acked ≡ t.acked
sent_acked true now t = refl
sent_acked false now t = refl

-- so does a push
pub push_acked : (body : Body) (now : ℕ) (t : Sending) → (push body now t).acked ≡ t.acked
push_acked body now t = cond_both (is_waiting t) (with_pushed body t) (send_next now (with_pushed body t)) (λ u. u.acked ≡ t.acked) (λ _. refl) (λ _. sent_acked (may_send (with_pushed body t)) now (with_pushed body t))

-- at whichever port
pushed_acked : (peer : Option EndId) (x : OnPort) (s : SwitchOf) (q : ℕ) → ((pushed_to peer x s).switch.sendings q).acked ≡ (s.sendings q).acked
pushed_acked None x s q = refl
pushed_acked (Some peer) x s q =
    cond_both (q == x.port) (push x.body s.tick (s.sendings x.port)) (s.sendings q) (λ u. u.acked ≡ (s.sendings q).acked)
    (λ test. push_acked x.body s.tick (s.sendings x.port) ∙ ap (λ p. (s.sendings p).acked) (sym (eqb-true q x.port test))) (λ _. refl)

-- and so do all that are pushed
pub all_acked : (xs : List OnPort) (s : SwitchOf) (q : ℕ) → ((all_pushed xs s).switch.sendings q).acked ≡ (s.sendings q).acked
all_acked [] s q = refl
all_acked (x ∷ xs) s q = all_acked xs (pushed x s).switch q ∙ pushed_acked (peer_among s.card.links x.port) x s q

-- so by joining nothing is acknowledged
pub joins_acked : (epoch port : ℕ) (s : SwitchOf) → ((joins epoch s).switch.sendings port).acked ≡ 0
joins_acked epoch port s = all_acked (adds (begun epoch s).card []) (begun epoch s) port

-- so it is where its port has a link
pushed_adds : (peer : Option EndId) (x : OnPort) (s : SwitchOf) (q : ℕ) → is_some peer ≡ true → ((pushed_to peer x s).switch.sendings q).pushed ≡ (s.sendings q).pushed ++ on_port q (x ∷ [])
pushed_adds None x s q linked = absurd (false≢true linked)
pushed_adds (Some peer) x s q linked = adds_at (x.port == q) x s.tick q s.sendings refl

-- and the links stay
pushed_card : (peer : Option EndId) (x : OnPort) (s : SwitchOf) → (pushed_to peer x s).switch.card ≡ s.card
pushed_card None x s = refl
pushed_card (Some peer) x s = refl

-- the port of a link has one
first_linked : (l : PeerAt) (ls : List PeerAt) → is_some (peer_among (l ∷ ls) l.port) ≡ true
first_linked l ls = ap (λ b. is_some (cond b (Some l.peer) (peer_among ls l.port))) (eq-eqb l.port l.port refl)

-- and so have those after it
rest_linked : (l : PeerAt) (ls : List PeerAt) (port : ℕ) → is_some (peer_among ls port) ≡ true → is_some (peer_among (l ∷ ls) port) ≡ true
rest_linked l ls port some = cond_both (l.port == port) (Some l.peer) (peer_among ls port) (λ o. is_some o ≡ true) (λ _. refl) (λ _. some)

-- so a position on each link is pushed
positions_pushed : (version : ℕ) (place : Place) (ls : List PeerAt) (s : SwitchOf) → ((port : ℕ) → is_some (peer_among ls port) ≡ true → is_some (peer_among s.card.links port) ≡ true)
    → (q : ℕ) → ((all_pushed (map (pos_at version place) ls) s).switch.sendings q).pushed ≡ (s.sendings q).pushed ++ on_port q (map (pos_at version place) ls)
positions_pushed version place [] s linked q = sym (append-nil (s.sendings q).pushed)
positions_pushed version place (l ∷ ls) s linked q =
    let x = pos_at version place l in
    let xs = map (pos_at version place) ls in
    let peer = peer_among s.card.links l.port in
    positions_pushed version place ls (pushed x s).switch
    (λ port some. ap (λ (c : CardOf). is_some (peer_among c.links port)) (pushed_card peer x s) ∙ linked port (rest_linked l ls port some)) q
    ∙ ap (λ bodies. bodies ++ on_port q xs) (pushed_adds peer x s q (linked l.port (first_linked l ls)))
    ∙ append_assoc (s.sendings q).pushed (on_port q (x ∷ [])) (on_port q xs)
    ∙ ap (λ bodies. (s.sendings q).pushed ++ bodies) (sym (on_port-append q (x ∷ []) xs))

-- so it is by joining
begun_pushed : (epoch port : ℕ) (s : SwitchOf) → ((joins epoch s).switch.sendings port).pushed ≡ on_port port (adds (begun epoch s).card [])
begun_pushed epoch port s = let c = (begun epoch s).card in positions_pushed 1 (position c []) c.links (begun epoch s) (λ _ some. some) port

-- which is told of the switch that has joined
pub joins_pushed : (epoch port : ℕ) (s : SwitchOf) → ((joins epoch s).switch.sendings port).pushed ≡ on_port port (adds (joins epoch s).switch.card [])
joins_pushed epoch port s = begun_pushed epoch port s ∙ ap (λ (c : CardOf). on_port port (adds c [])) (sym (joins_card epoch s))

-- the position that goes out on a port
abbrev pub position_at : ℕ → Place → ℕ → Body
position_at version place port = Pos (record { version = version; root = place.root; level = place.level; to_parent = (port == place.port) })

-- it is that of the first link with this port, or of a later one
first_or_later : (b : Bool) (version : ℕ) (place : Place) (l : PeerAt) (peer : Option EndId) (port : ℕ) (later : List Body) → b ≡ (l.port == port)
    → (is_some peer ≡ true → (rest : List Body) × (later ≡ position_at version place port ∷ rest))
    → is_some (cond b (Some l.peer) peer) ≡ true → (rest : List Body) × (cond b (position_at version place l.port ∷ later) later ≡ position_at version place port ∷ rest)
first_or_later true version place l peer port later test next some = (later, ap (λ p. position_at version place p ∷ later) (eqb-true l.port port (sym test)))
first_or_later false version place l peer port later test next some = next some

-- so on the port of a link it is the first
position_first : (version : ℕ) (place : Place) (ls : List PeerAt) (port : ℕ) → is_some (peer_among ls port) ≡ true → (rest : List Body) × (on_port port (map (pos_at version place) ls) ≡ position_at version place port ∷ rest)
position_first version place [] port some = absurd (false≢true some)
position_first version place (l ∷ ls) port some =
    first_or_later (l.port == port) version place l (peer_among ls port) port (on_port port (map (pos_at version place) ls)) refl (position_first version place ls port) some

-- and the only one
alone : (bodies : List Body) (body : Body) (rest : List Body) → bodies ≡ body ∷ rest → length bodies ≤ 1 → bodies ≡ body ∷ []
alone bodies body [] is few = is
alone bodies body (other ∷ rest) is few = let e = ap length is in absurd (omega (arith, e, few))

-- a link at this port, and later ones at ports above it
link_at_least : (o : Option EndId) (n port : ℕ) (ls : List PeerAt) → (is_some (peer_among ls port) ≡ true → suc n ≤ port) → is_some (peer_among (link_to n o ++ ls) port) ≡ true → n ≤ port
link_at_least None n port ls later some = let above = later some in omega (arith, above)
link_at_least (Some peer) n port ls later some =
    cond_both (n == port) (Some peer) (peer_among ls port) (λ o. is_some o ≡ true → n ≤ port) (λ test _. let same = eqb-true n port test in omega (arith, same)) (λ _ there. let above = later there in omega (arith, above)) some

-- so none is below it
links_at_least : (n : ℕ) (ps : List Port) (port : ℕ) → is_some (peer_among (links_from n ps) port) ≡ true → n ≤ port
links_at_least n [] port some = absurd (false≢true some)
links_at_least n (p ∷ ps) port some = link_at_least (good_peer_by p.phase p.far.conn) n port (links_from (suc n) ps) (links_at_least (suc n) ps port) some

-- on a good link joining pushes the position of a root
pub joins_position : (epoch port : ℕ) (s : SwitchOf) (peer : EndId) → peer_among (good_links s) port ≡ Some peer
    → ((joins epoch s).switch.sendings port).pushed ≡ Pos (record { version = 1; root = s.life; level = 0; to_parent = false }) ∷ []
joins_position epoch port s peer is =
    let c = (begun epoch s).card in
    let some : is_some (peer_among (good_links s) port) ≡ true = ap is_some is in
    let first = position_first 1 (position c []) c.links port some in
    let low = links_at_least 1 (ports_of s) port some in
    begun_pushed epoch port s
    ∙ alone (on_port port (adds c [])) (position_at 1 (position c []) port) first.0 first.1 (joining_few c port (one_from 1 port (ports_of s)))
    ∙ ap (λ place. position_at 1 place port ∷ []) (position_none c)
    ∙ ap (λ b. Pos (record { version = 1; root = s.life; level = 0; to_parent = b }) ∷ []) (ne_eqb port 0 (omega (arith, low)))

-- where neither the first link nor a later one has the port, nothing is on it
none_or_later : (b : Bool) (l : PeerAt) (peer : Option EndId) (body : Body) (later : List Body) → (is_some peer ≡ false → later ≡ []) → is_some (cond b (Some l.peer) peer) ≡ false → cond b (body ∷ later) later ≡ []
none_or_later true l peer body later next none = absurd (true≢false none)
none_or_later false l peer body later next none = next none

-- so none goes out where no link has the port
position_none_on : (version : ℕ) (place : Place) (ls : List PeerAt) (port : ℕ) → is_some (peer_among ls port) ≡ false → on_port port (map (pos_at version place) ls) ≡ []
position_none_on version place [] port none = refl
position_none_on version place (l ∷ ls) port none =
    none_or_later (l.port == port) l (peer_among ls port) (position_at version place l.port) (on_port port (map (pos_at version place) ls)) (position_none_on version place ls port) none

-- elsewhere joining pushes nothing
pub joins_nothing : (epoch port : ℕ) (s : SwitchOf) → peer_among (good_links s) port ≡ None → ((joins epoch s).switch.sendings port).pushed ≡ []
joins_nothing epoch port s none = let c = (begun epoch s).card in begun_pushed epoch port s ∙ position_none_on 1 (position c []) c.links port (ap is_some none)
