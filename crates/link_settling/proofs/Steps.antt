use Rattle.std.specs.List.{flat_map}
use Rattle.std.proofs.Common.{◌≡◌, ◌≢◌, ◌∙◌, sym, ap, subst, refl, ℕ, suc, ◌<◌, ◌==◌, ◌&&◌, arith, List, [], ◌∷◌, ◌++◌, Option, Some, None, Bool, true, false, cond}
use Rattle.std.proofs.lemmas.Bool.{lt-ltb, le-ltb, eq-eqb, ne_eqb}
use Rattle.an_base.specs.Values.{EndId}
use Rattle.an_base.specs.Frames.{CarryOf}
use Rattle.an_base.specs.declared.body.Body.{Body}
use Rattle.an_base.specs.declared.frame.Frame.TheVariants.{Carry, Ack, Reply}
use Rattle.an_base.specs.declared.port.Sample.{Sample}
use Rattle.common_values.proofs.TestLemmas.{by_test}
use Rattle.ordered_link.specs.Sending.{Sending, unused, is_outstanding, send_next, next_to_send, forget, acknowledge, sent_by_ack}
use Rattle.ordered_link.specs.Receiving.{Receiving, untouched, last, verdict, received, accepted_by, is_acknowledged}
use Rattle.ordered_link.specs.Session.{put_out}
use Rattle.epoch_core.specs.Epoch.{adds}
use Rattle.port_monitor.specs.Ports.{probe_of}
use Rattle.port_monitor.specs.Histories.{externals}
use Rattle.switch_core.specs.Switch.{SwitchOf, at_port, counts, port_of}
use Rattle.switch_core.specs.Steps.{Step, Sent, still, after, peer_among, sends_on, all_pushed, begun, joins, all_added, acks, ack_to, receives, answers_body, on_carry, acknowledges, fills, on_ack, answer_out, framed, sampled_by, probe_out, probes_at, probes, all_resent, is_change_due, last_epoch, clocked}
use Rattle.link_settling.specs.Moves.{carried_by, Moves, resting, IsFilled, WorksFrom, Works, IsFresh}
use Rattle.link_settling.proofs.Moves.{works_still, works_then, works_on, sends_here, sends_elsewhere, fills_here, fills_elsewhere, all_pushed_works, next_moves, next_pushed, filled_next, carried_both}
use Rattle.link_settling.proofs.Resends.{resent_works, resent_fresh}

-- frames by which no body goes out
silent : (p now : ℕ) (t : Sending) (r : Receiving) (s : SwitchOf) (frames : List Sent) → s.tick ≡ now → s.sendings p ≡ t → s.receivings p ≡ r → carried_by p frames ≡ [] → WorksFrom 0 0 p now t r (record { switch = s; frames = frames })
silent p now t r s frames tick sent came none = record {
  tick = tick;
  receivings = came;
  moves = λ _. subst (λ ks. Moves now t ks (s.sendings p)) (sym none) (subst (λ u. Moves now t [] u) (sym sent) (resting t));
  filled = λ f. subst IsFilled (sym sent) f;
}

abbrev no_numbers : List ℕ
no_numbers = []

none_in : (b : Bool) → cond b no_numbers no_numbers ++ no_numbers ≡ no_numbers
none_in true = refl
none_in false = refl

no_ack : (p port : ℕ) (peer : EndId) (k : ℕ) (body : Body) (s : SwitchOf) → carried_by p (acks port peer k body s) ≡ []
no_ack p port peer k body s =
    by_test (λ b. carried_by p (cond b (ack_to s port peer (last (received k body (s.receivings port))) ∷ []) []) ≡ []) (is_acknowledged (verdict k body (s.receivings port)))
    (λ _. none_in (port == p)) (λ _. refl)

probe_none : (p : ℕ) (s : SwitchOf) (port : ℕ) (o : Option ℕ) → carried_by p (probe_out s port o) ≡ []
probe_none p s port None = refl
probe_none p s port (Some nonce) = none_in (port == p)

probes_none : (p : ℕ) (s : SwitchOf) (ports : List ℕ) → carried_by p (flat_map (probes_at s) ports) ≡ []
probes_none p s [] = refl
probes_none p s (port ∷ ports) = carried_both p (probes_at s port) (flat_map (probes_at s) ports) ∙ ap (λ l. l ++ carried_by p (flat_map (probes_at s) ports)) (probe_none p s port (probe_of (port_of s port))) ∙ probes_none p s ports

answer_none : (p port : ℕ) (me from : EndId) (nonce : ℕ) (b : Bool) → carried_by p (answer_out port (cond b (Some (Reply me from nonce)) None)) ≡ []
answer_none p port me from nonce true = none_in (port == p)
answer_none p port me from nonce false = refl

-- an epoch is joined
pub joins_works : (p epoch : ℕ) (s : SwitchOf) → WorksFrom 0 0 p s.tick unused untouched (joins epoch s)
joins_works p epoch s = all_pushed_works p (adds (begun epoch s).card []) (begun epoch s)

-- a body of the present epoch comes
pub answers_works : (p port k : ℕ) (peer : EndId) (body : Body) (s : SwitchOf) → WorksFrom 0 0 p s.tick (s.sendings p) (at_port port (received k body (s.receivings port)) s.receivings p) (answers_body port peer k body s)
answers_works p port k peer body s =
    works_then 0 0 0 p s.tick (s.sendings p) (s.receivings p) (at_port port (received k body (s.receivings port)) s.receivings p)
    (record { switch = s; frames = acks port peer k body s })
    (all_pushed (all_added s.card port (accepted_by k body (s.receivings port)) s.log) (receives port k body s))
    (silent p s.tick (s.sendings p) (s.receivings p) s (acks port peer k body s) refl refl refl (no_ack p port peer k body s))
    (all_pushed_works p (all_added s.card port (accepted_by k body (s.receivings port)) s.log) (receives port k body s))

pub carry_same : (p port : ℕ) (f : CarryOf) (s : SwitchOf) → counts s port f.from f.to ≡ true → f.epoch ≡ s.epoch → WorksFrom 0 0 p s.tick (s.sendings p) (at_port port (received f.number f.body (s.receivings port)) s.receivings p) (framed port (Carry f) s)
carry_same p port f s count same =
    subst (λ b. WorksFrom 0 0 p s.tick (s.sendings p) (at_port port (received f.number f.body (s.receivings port)) s.receivings p) (cond b (on_carry port f s) (still s))) (sym count)
    (subst (λ b. WorksFrom 0 0 p s.tick (s.sendings p) (at_port port (received f.number f.body (s.receivings port)) s.receivings p) (cond b (after (joins f.epoch s) (answers_body port f.from f.number f.body (joins f.epoch s).switch)) (cond (f.epoch == s.epoch) (answers_body port f.from f.number f.body s) (still s)))) (sym (le-ltb s.epoch f.epoch (omega (arith, same))))
    (subst (λ b. WorksFrom 0 0 p s.tick (s.sendings p) (at_port port (received f.number f.body (s.receivings port)) s.receivings p) (cond b (answers_body port f.from f.number f.body s) (still s))) (sym (eq-eqb f.epoch s.epoch same))
    (answers_works p port f.number f.from f.body s)))

-- a body of a greater epoch comes
came_anew : (p port k : ℕ) (body : Body) (r : ℕ → Receiving) → ((q : ℕ) → r q ≡ untouched) → at_port port (received k body (r port)) r p ≡ at_port port (received k body untouched) (λ q. untouched) p
came_anew p port k body r new =
    by_test (λ b. cond b (received k body (r port)) (r p) ≡ cond b (received k body untouched) untouched) (p == port) (λ _. ap (received k body) (new port)) (λ _. new p)

pub greater_works : (p port : ℕ) (f : CarryOf) (s : SwitchOf) → WorksFrom 0 0 p s.tick unused (at_port port (received f.number f.body untouched) (λ q. untouched) p) (after (joins f.epoch s) (answers_body port f.from f.number f.body (joins f.epoch s).switch))
greater_works p port f s =
    let j = joins f.epoch s in
    subst (λ r. WorksFrom 0 0 p s.tick unused r (after j (answers_body port f.from f.number f.body j.switch))) (came_anew p port f.number f.body j.switch.receivings (λ q. (joins_works q f.epoch s).receivings))
    (works_then 0 0 0 p s.tick unused untouched (at_port port (received f.number f.body (j.switch.receivings port)) j.switch.receivings p) j (answers_body port f.from f.number f.body j.switch) (joins_works p f.epoch s) (answers_works p port f.number f.from f.body j.switch))

pub carry_greater : (p port : ℕ) (f : CarryOf) (s : SwitchOf) → counts s port f.from f.to ≡ true → s.epoch < f.epoch → WorksFrom 0 0 p s.tick unused (at_port port (received f.number f.body untouched) (λ q. untouched) p) (framed port (Carry f) s)
carry_greater p port f s count greater =
    subst (λ b. WorksFrom 0 0 p s.tick unused (at_port port (received f.number f.body untouched) (λ q. untouched) p) (cond b (on_carry port f s) (still s))) (sym count)
    (subst (λ b. WorksFrom 0 0 p s.tick unused (at_port port (received f.number f.body untouched) (λ q. untouched) p) (cond b (after (joins f.epoch s) (answers_body port f.from f.number f.body (joins f.epoch s).switch)) (cond (f.epoch == s.epoch) (answers_body port f.from f.number f.body s) (still s)))) (sym (lt-ltb s.epoch f.epoch greater))
    (greater_works p port f s))

-- an acknowledgement comes
acknowledges_here : (port n : ℕ) (peer : EndId) (s : SwitchOf) → is_outstanding n (s.sendings port) ≡ true → WorksFrom 8 7 port s.tick (forget n (s.sendings port)) (s.receivings port) (acknowledges port peer n s)
acknowledges_here port n peer s out =
    let t = s.sendings port in
    let g = forget n t in
    subst (λ b. WorksFrom 8 7 port s.tick g (s.receivings port) (sends_on port peer (cond b (send_next s.tick g) t) (put_out (cond b (send_next s.tick g) t) (cond b (next_to_send g) None)) s)) (sym out)
    (sends_here 8 7 port peer g (send_next s.tick g) (send_next s.tick g) (next_to_send g) s (λ _. next_pushed s.tick g) (λ _. next_moves s.tick g) (filled_next s.tick 7 g))

abbrev pub acked_step : ℕ → ℕ → EndId → SwitchOf → Step
acked_step port n peer s = after (acknowledges port peer n s) (fills 7 port peer (acknowledges port peer n s).switch)

pub ack_works : (port n : ℕ) (peer : EndId) (s : SwitchOf) → is_outstanding n (s.sendings port) ≡ true → WorksFrom 8 0 port s.tick (forget n (s.sendings port)) (s.receivings port) (acked_step port n peer s)
ack_works port n peer s out =
    works_on 8 7 0 port s.tick (forget n (s.sendings port)) (s.receivings port) (acknowledges port peer n s) (fills 7 port peer (acknowledges port peer n s).switch)
    (acknowledges_here port n peer s out) (fills_here 7 port peer (acknowledges port peer n s).switch)

ack_elsewhere : (p port n : ℕ) (peer : EndId) (s : SwitchOf) → p ≢ port → Works 0 0 p s (acked_step port n peer s)
ack_elsewhere p port n peer s other =
    let t = acknowledge n s.tick (s.sendings port) in
    works_on 0 0 0 p s.tick (s.sendings p) (s.receivings p) (acknowledges port peer n s) (fills 7 port peer (acknowledges port peer n s).switch)
    (sends_elsewhere 0 p port peer t (put_out t (sent_by_ack n (s.sendings port))) s other) (fills_elsewhere 7 0 p port peer (acknowledges port peer n s).switch other)

acked_is : (port epoch n : ℕ) (from to : EndId) (s : SwitchOf) → counts s port from to ≡ true → epoch ≡ s.epoch → is_outstanding n (s.sendings port) ≡ true → framed port (Ack epoch from to n) s ≡ acked_step port n from s
acked_is port epoch n from to s count same out =
    ap (λ b. cond b (on_ack port from epoch n s) (still s)) count
    ∙ ap (λ b. cond (b && is_outstanding n (s.sendings port)) (acked_step port n from s) (still s)) (eq-eqb epoch s.epoch same)
    ∙ ap (λ b. cond b (acked_step port n from s) (still s)) out

pub ack_counts : (port epoch n : ℕ) (from to : EndId) (s : SwitchOf) → counts s port from to ≡ true → epoch ≡ s.epoch → is_outstanding n (s.sendings port) ≡ true → WorksFrom 8 0 port s.tick (forget n (s.sendings port)) (s.receivings port) (framed port (Ack epoch from to n) s)
ack_counts port epoch n from to s count same out = subst (WorksFrom 8 0 port s.tick (forget n (s.sendings port)) (s.receivings port)) (sym (acked_is port epoch n from to s count same out)) (ack_works port n from s out)

-- one that does not count is nothing, and at other ports nothing is sent by any
pub ack_nothing : (port epoch n : ℕ) (from to : EndId) (s : SwitchOf) → is_outstanding n (s.sendings port) ≡ false → framed port (Ack epoch from to n) s ≡ still s
ack_nothing port epoch n from to s out =
    by_test (λ b. cond b (on_ack port from epoch n s) (still s) ≡ still s) (counts s port from to)
    (λ _. by_test (λ b. cond (b && is_outstanding n (s.sendings port)) (acked_step port n from s) (still s) ≡ still s) (epoch == s.epoch)
    (λ _. ap (λ b. cond b (acked_step port n from s) (still s)) out) (λ _. refl))
    (λ _. refl)

pub ack_others : (p port epoch n : ℕ) (from to : EndId) (s : SwitchOf) → p ≢ port → Works 0 0 p s (framed port (Ack epoch from to n) s)
ack_others p port epoch n from to s other =
    by_test (λ b. Works 0 0 p s (cond b (on_ack port from epoch n s) (still s))) (counts s port from to)
    (λ _. by_test (λ b. Works 0 0 p s (cond b (acked_step port n from s) (still s))) (epoch == s.epoch && is_outstanding n (s.sendings port))
    (λ _. ack_elsewhere p port n from s other) (λ _. works_still 0 p s))
    (λ _. works_still 0 p s)

-- a clock
abbrev pub sampled_first : SwitchOf → Step
sampled_first s = record { switch = s; frames = probes s }

clock_first : (p : ℕ) (s : SwitchOf) → Works 0 0 p s (sampled_first s)
clock_first p s = silent p s.tick (s.sendings p) (s.receivings p) s (probes s) refl refl refl (probes_none p s externals)

abbrev pub spent_step : SwitchOf → Step
spent_step s = still (record s { spent = true })

pub same_clock : (now : ℕ) (samples : List Sample) (s : SwitchOf) → is_change_due s (sampled_by now samples s) ≡ false
    → clocked now samples s ≡ after (sampled_first (sampled_by now samples s)) (all_resent s.card.links (sampled_by now samples s))
same_clock now samples s none =
    let x = sampled_by now samples s in
    ap (λ b. cond (b && (x.epoch == last_epoch)) (spent_step x) (after (sampled_first x) (cond b (joins (suc x.epoch) x) (all_resent x.card.links x)))) none

pub joined_clock : (now : ℕ) (samples : List Sample) (s : SwitchOf) → is_change_due s (sampled_by now samples s) ≡ true → s.epoch ≢ last_epoch
    → clocked now samples s ≡ after (sampled_first (sampled_by now samples s)) (joins (suc s.epoch) (sampled_by now samples s))
joined_clock now samples s due left =
    let x = sampled_by now samples s in
    ap (λ b. cond (b && (x.epoch == last_epoch)) (spent_step x) (after (sampled_first x) (cond b (joins (suc x.epoch) x) (all_resent x.card.links x)))) due
    ∙ ap (λ b. cond b (spent_step x) (after (sampled_first x) (joins (suc x.epoch) x))) (ne_eqb s.epoch last_epoch left)

pub spent_clock : (now : ℕ) (samples : List Sample) (s : SwitchOf) → is_change_due s (sampled_by now samples s) ≡ true → s.epoch ≡ last_epoch
    → clocked now samples s ≡ spent_step (sampled_by now samples s)
spent_clock now samples s due last =
    let x = sampled_by now samples s in
    ap (λ b. cond (b && (x.epoch == last_epoch)) (spent_step x) (after (sampled_first x) (cond b (joins (suc x.epoch) x) (all_resent x.card.links x)))) due
    ∙ ap (λ b. cond b (spent_step x) (after (sampled_first x) (joins (suc x.epoch) x))) (eq-eqb s.epoch last_epoch last)

pub clock_same : (p now : ℕ) (samples : List Sample) (s : SwitchOf) → is_change_due s (sampled_by now samples s) ≡ false → WorksFrom 0 0 p now (s.sendings p) (s.receivings p) (clocked now samples s)
clock_same p now samples s none =
    let x = sampled_by now samples s in
    subst (WorksFrom 0 0 p now (s.sendings p) (s.receivings p)) (sym (same_clock now samples s none))
    (works_on 0 0 0 p now (s.sendings p) (s.receivings p) (sampled_first x) (all_resent s.card.links x) (clock_first p x) (resent_works p s.card.links x))

pub clock_fresh : (p now : ℕ) (samples : List Sample) (s : SwitchOf) (peer : EndId) → is_change_due s (sampled_by now samples s) ≡ false → peer_among s.card.links p ≡ Some peer → IsFresh now ((clocked now samples s).switch.sendings p)
clock_fresh p now samples s peer none linked =
    subst (λ (step : Step). IsFresh now (step.switch.sendings p)) (sym (same_clock now samples s none)) (resent_fresh p s.card.links (sampled_by now samples s) peer linked)

-- probes go out first, and then what begins anew
behind_probes : (p now : ℕ) (t : Sending) (r : Receiving) (x : SwitchOf) (next : Step) → WorksFrom 0 0 p now t r next → WorksFrom 0 0 p now t r (after (sampled_first x) next)
behind_probes p now t r x next works = record {
  tick = works.tick;
  receivings = works.receivings;
  moves = λ f. subst (λ ks. Moves now t ks (next.switch.sendings p)) (sym (carried_both p (probes x) next.frames ∙ ap (λ l. l ++ carried_by p next.frames) (probes_none p x externals))) (works.moves f);
  filled = works.filled;
}

pub clock_joins : (p now : ℕ) (samples : List Sample) (s : SwitchOf) → is_change_due s (sampled_by now samples s) ≡ true → s.epoch ≢ last_epoch → WorksFrom 0 0 p now unused untouched (clocked now samples s)
clock_joins p now samples s due left =
    let x = sampled_by now samples s in
    subst (WorksFrom 0 0 p now unused untouched) (sym (joined_clock now samples s due left))
    (behind_probes p now unused untouched x (joins (suc s.epoch) x) (joins_works p (suc s.epoch) x))
