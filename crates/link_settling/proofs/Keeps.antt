-- What a port was told stays with each step of the switch, and its window stays filled.
use Rattle.std.specs.Prelude.{nat_lt, map}
use Rattle.std.specs.List.{flat_map}
use Rattle.std.proofs.Common.{◌≡◌, ◌∙◌, ⊎_elim, sym, subst, refl, ℕ, zero, suc, ◌==◌, ◌&&◌, arith, List, [], ◌∷◌, length, All, Option, Some, None, true, false, cond}
use Rattle.std.proofs.lemmas.Bool.{le-ltb, cases_eq, cases_Bool, and_parts}
use Rattle.std.proofs.lemmas.List.Elements.{All-append, All-nil, All-cons}
use Rattle.an_base.specs.Values.{LifeId, EndId, PeerAt}
use Rattle.an_base.specs.Frames.{CarryOf}
use Rattle.an_base.specs.declared.body.Body.{Body}
use Rattle.an_base.specs.declared.frame.Frame.{Frame}
use Rattle.an_base.specs.declared.frame.Frame.TheVariants.{Carry, Ack, Probe, Reply}
use Rattle.an_base.specs.declared.port.Sample.{Sample}
use Rattle.common_values.proofs.TestLemmas.{by_test}
use Rattle.connectivity.specs.Connections.{is_same_end}
use Rattle.port_monitor.specs.Ports.{probe_of, speaks}
use Rattle.port_monitor.specs.Histories.{History, externals, Replied, with_happening}
use Rattle.ordered_link.specs.Sending.{Sending, unused, highest, is_outstanding, due}
use Rattle.ordered_link.specs.Receiving.{last, verdict, received, accepted_by, is_acknowledged}
use Rattle.ordered_link.specs.Session.{Numbered}
use Rattle.epoch_core.specs.Log.{OnPort}
use Rattle.epoch_core.specs.Epoch.{adds}
use Rattle.switch_core.specs.Switch.{SwitchOf, StartOf, started_as, counts, end_at, port_of, is_unacked}
use Rattle.switch_core.specs.Steps.{Step, Sent, still, after, peer_among, carried_to, sends_on, pushed_to, pushed, all_pushed, begun, joins, all_added, acks, ack_to, receives, answers_body, on_carry, sends_next, acknowledges, fills, on_ack, answer_out, framed, sampled_by, probe_out, probes_at, sends_again, all_again, resends_on, all_resent, is_change_due, last_epoch, clocked, loaded}
use Rattle.link_settling.specs.Moves.{IsFrom, Keeps, IsFilled, AreFilled}
use Rattle.link_settling.proofs.Moves.{filled_forgotten}
use Rattle.link_settling.proofs.Steps.{acked_step, ack_works, ack_others, answers_works, greater_works, clock_same, clock_joins, same_clock, joined_clock, spent_clock, sampled_first}

abbrev Stays : SwitchOf → Step → Type 0
Stays s step = Keeps s.life s.ports step

keeps_still : (s : SwitchOf) → Stays s (still s)
keeps_still s = record { life_is = refl; ports_are = refl; out = All-nil (IsFrom s.life) }

keeps_then : (life : LifeId) (ports : ℕ → History) (first next : Step) → Keeps life ports first → Stays first.switch next → Keeps life ports (after first next)
keeps_then life ports first next one two = record {
  life_is = two.life_is ∙ one.life_is;
  ports_are = two.ports_are ∙ one.ports_are;
  out = All-append (IsFrom life) first.frames next.frames one.out (subst (λ l. All (IsFrom l) next.frames) one.life_is two.out);
}

carried_from : (s : SwitchOf) (port : ℕ) (peer : EndId) (xs : List Numbered) → All (IsFrom s.life) (map (carried_to s port peer) xs)
carried_from s port peer [] = All-nil (IsFrom s.life)
carried_from s port peer (x ∷ xs) = All-cons (IsFrom s.life) (carried_to s port peer x) (map (carried_to s port peer) xs) refl (carried_from s port peer xs)

keeps_on : (port : ℕ) (peer : EndId) (t : Sending) (xs : List Numbered) (s : SwitchOf) → Stays s (sends_on port peer t xs s)
keeps_on port peer t xs s = record { life_is = refl; ports_are = refl; out = carried_from s port peer xs }

keeps_pushed : (o : Option EndId) (x : OnPort) (s : SwitchOf) → Stays s (pushed_to o x s)
keeps_pushed None x s = keeps_still s
keeps_pushed (Some peer) x s = keeps_on x.port peer _ _ s

keeps_all_pushed : (xs : List OnPort) (s : SwitchOf) → Stays s (all_pushed xs s)
keeps_all_pushed [] s = keeps_still s
keeps_all_pushed (x ∷ xs) s = keeps_then s.life s.ports (pushed x s) (all_pushed xs (pushed x s).switch) (keeps_pushed (peer_among s.card.links x.port) x s) (keeps_all_pushed xs (pushed x s).switch)

keeps_joins : (epoch : ℕ) (s : SwitchOf) → Stays s (joins epoch s)
keeps_joins epoch s = keeps_all_pushed (adds (begun epoch s).card []) (begun epoch s)

keeps_fills : (n port : ℕ) (peer : EndId) (s : SwitchOf) → Stays s (fills n port peer s)
keeps_fills zero port peer s = keeps_still s
keeps_fills (suc n) port peer s = keeps_then s.life s.ports (sends_next port peer s) (fills n port peer (sends_next port peer s).switch) (keeps_on port peer _ _ s) (keeps_fills n port peer (sends_next port peer s).switch)

keeps_again : (l : PeerAt) (ks : List ℕ) (s : SwitchOf) → Stays s (all_again l ks s)
keeps_again l [] s = keeps_still s
keeps_again l (k ∷ ks) s = keeps_then s.life s.ports (sends_again l k s) (all_again l ks (sends_again l k s).switch) (keeps_on l.port l.peer _ _ s) (keeps_again l ks (sends_again l k s).switch)

keeps_resent : (ls : List PeerAt) (s : SwitchOf) → Stays s (all_resent ls s)
keeps_resent [] s = keeps_still s
keeps_resent (l ∷ ls) s = keeps_then s.life s.ports (resends_on l s) (all_resent ls (resends_on l s).switch) (keeps_again l (due s.tick (s.sendings l.port)) s) (keeps_resent ls (resends_on l s).switch)

one_from : (life : LifeId) (x : Sent) → IsFrom life x → All (IsFrom life) (x ∷ [])
one_from life x is = All-cons (IsFrom life) x [] is (All-nil (IsFrom life))

keeps_answers : (port k : ℕ) (peer : EndId) (body : Body) (s : SwitchOf) → Stays s (answers_body port peer k body s)
keeps_answers port k peer body s =
    keeps_then s.life s.ports (record { switch = s; frames = acks port peer k body s }) (all_pushed (all_added s.card port (accepted_by k body (s.receivings port)) s.log) (receives port k body s))
    (record {
      life_is = refl;
      ports_are = refl;
      out = by_test (λ b. All (IsFrom s.life) (cond b (ack_to s port peer (last (received k body (s.receivings port))) ∷ []) [])) (is_acknowledged (verdict k body (s.receivings port)))
          (λ _. one_from s.life (ack_to s port peer (last (received k body (s.receivings port)))) refl) (λ _. All-nil (IsFrom s.life));
    })
    (keeps_all_pushed (all_added s.card port (accepted_by k body (s.receivings port)) s.log) (receives port k body s))

keeps_greater : (port : ℕ) (f : CarryOf) (s : SwitchOf) → Stays s (after (joins f.epoch s) (answers_body port f.from f.number f.body (joins f.epoch s).switch))
keeps_greater port f s = keeps_then s.life s.ports (joins f.epoch s) (answers_body port f.from f.number f.body (joins f.epoch s).switch) (keeps_joins f.epoch s) (keeps_answers port f.number f.from f.body (joins f.epoch s).switch)

-- a frame: what happened at the ports is that of before, but for a reply
pub keeps_carry : (port : ℕ) (f : CarryOf) (s : SwitchOf) → Stays s (framed port (Carry f) s)
keeps_carry port f s =
    by_test (λ b. Stays s (cond b (on_carry port f s) (still s))) (counts s port f.from f.to)
    (λ _. by_test (λ b. Stays s (cond b (after (joins f.epoch s) (answers_body port f.from f.number f.body (joins f.epoch s).switch)) (cond (f.epoch == s.epoch) (answers_body port f.from f.number f.body s) (still s)))) (nat_lt s.epoch f.epoch)
    (λ _. keeps_greater port f s)
    (λ _. by_test (λ b. Stays s (cond b (answers_body port f.from f.number f.body s) (still s))) (f.epoch == s.epoch) (λ _. keeps_answers port f.number f.from f.body s) (λ _. keeps_still s)))
    (λ _. keeps_still s)

keeps_acked : (port n : ℕ) (peer : EndId) (s : SwitchOf) → Stays s (acked_step port n peer s)
keeps_acked port n peer s = keeps_then s.life s.ports (acknowledges port peer n s) (fills 7 port peer (acknowledges port peer n s).switch) (keeps_on port peer _ _ s) (keeps_fills 7 port peer (acknowledges port peer n s).switch)

pub keeps_ack : (port epoch n : ℕ) (from to : EndId) (s : SwitchOf) → Stays s (framed port (Ack epoch from to n) s)
keeps_ack port epoch n from to s =
    by_test (λ b. Stays s (cond b (on_ack port from epoch n s) (still s))) (counts s port from to)
    (λ _. by_test (λ b. Stays s (cond b (acked_step port n from s) (still s))) (epoch == s.epoch && is_outstanding n (s.sendings port)) (λ _. keeps_acked port n from s) (λ _. keeps_still s))
    (λ _. keeps_still s)

pub keeps_probe : (port nonce : ℕ) (from : EndId) (s : SwitchOf) → Stays s (framed port (Probe from nonce) s)
keeps_probe port nonce from s = record {
  life_is = refl;
  ports_are = refl;
  out = by_test (λ b. All (IsFrom s.life) (answer_out port (cond b (Some (Reply (end_at s port) from nonce)) None))) (speaks (port_of s port).phase)
      (λ _. one_from s.life (record { port = port; frame = Reply (end_at s port) from nonce }) refl) (λ _. All-nil (IsFrom s.life));
}

pub keeps_reply : (port nonce : ℕ) (from to : EndId) (s : SwitchOf) → is_same_end to (end_at s port) ≡ true → Keeps s.life (with_happening port (Replied from nonce) s.ports) (framed port (Reply from to nonce) s)
keeps_reply port nonce from to s here =
    subst (λ b. Keeps s.life (with_happening port (Replied from nonce) s.ports) (cond b (still (record s { ports = with_happening port (Replied from nonce) s.ports })) (still s))) (sym here)
    (record { life_is = refl; ports_are = refl; out = All-nil (IsFrom s.life) })

pub keeps_other_reply : (port nonce : ℕ) (from to : EndId) (s : SwitchOf) → is_same_end to (end_at s port) ≡ false → Stays s (framed port (Reply from to nonce) s)
keeps_other_reply port nonce from to s other =
    subst (λ b. Stays s (cond b (still (record s { ports = with_happening port (Replied from nonce) s.ports })) (still s))) (sym other) (keeps_still s)

-- a clock: each port is sampled
probe_from : (s : SwitchOf) (port : ℕ) (o : Option ℕ) → All (IsFrom s.life) (probe_out s port o)
probe_from s port None = All-nil (IsFrom s.life)
probe_from s port (Some nonce) = one_from s.life (record { port = port; frame = Probe (end_at s port) nonce }) refl

probes_from : (s : SwitchOf) (ports : List ℕ) → All (IsFrom s.life) (flat_map (probes_at s) ports)
probes_from s [] = All-nil (IsFrom s.life)
probes_from s (port ∷ ports) = All-append (IsFrom s.life) (probes_at s port) (flat_map (probes_at s) ports) (probe_from s port (probe_of (port_of s port))) (probes_from s ports)

keeps_first : (s : SwitchOf) → Stays s (sampled_first s)
keeps_first s = record { life_is = refl; ports_are = refl; out = probes_from s externals }

pub keeps_clock : (now : ℕ) (samples : List Sample) (s : SwitchOf) → Keeps s.life (sampled_by now samples s).ports (clocked now samples s)
keeps_clock now samples s =
    let x = sampled_by now samples s in
    ⊎_elim
    (λ (due : is_change_due s x ≡ true). ⊎_elim
    (λ (last : s.epoch ≡ last_epoch). subst (Keeps s.life x.ports) (sym (spent_clock now samples s due last)) (record { life_is = refl; ports_are = refl; out = All-nil (IsFrom s.life) }))
    (λ left. subst (Keeps s.life x.ports) (sym (joined_clock now samples s due left)) (keeps_then s.life x.ports (sampled_first x) (joins (suc s.epoch) x) (keeps_first x) (keeps_joins (suc s.epoch) x)))
    (cases_eq s.epoch last_epoch))
    (λ (none : is_change_due s x ≡ false). subst (Keeps s.life x.ports) (sym (same_clock now samples s none)) (keeps_then s.life x.ports (sampled_first x) (all_resent s.card.links x) (keeps_first x) (keeps_resent s.card.links x)))
    (cases_Bool (is_change_due s x))

-- the windows
unused_filled : IsFilled unused
unused_filled = record { within = omega arith; window = omega arith; full = λ _. omega arith }

pub filled_start : (x : StartOf) → AreFilled (started_as x)
filled_start x port = unused_filled

pub filled_clock : (now : ℕ) (samples : List Sample) (s : SwitchOf) → AreFilled s → AreFilled (clocked now samples s).switch
filled_clock now samples s filled p =
    let x = sampled_by now samples s in
    ⊎_elim
    (λ (due : is_change_due s x ≡ true). ⊎_elim
    (λ (last : s.epoch ≡ last_epoch). subst (λ (step : Step). IsFilled (step.switch.sendings p)) (sym (spent_clock now samples s due last)) (filled p))
    (λ left. (clock_joins p now samples s due left).filled unused_filled)
    (cases_eq s.epoch last_epoch))
    (λ (none : is_change_due s x ≡ false). (clock_same p now samples s none).filled (filled p))
    (cases_Bool (is_change_due s x))

filled_carry : (p port : ℕ) (f : CarryOf) (s : SwitchOf) → AreFilled s → IsFilled ((framed port (Carry f) s).switch.sendings p)
filled_carry p port f s filled =
    by_test (λ b. IsFilled ((cond b (on_carry port f s) (still s)).switch.sendings p)) (counts s port f.from f.to)
    (λ _. by_test (λ b. IsFilled ((cond b (after (joins f.epoch s) (answers_body port f.from f.number f.body (joins f.epoch s).switch)) (cond (f.epoch == s.epoch) (answers_body port f.from f.number f.body s) (still s))).switch.sendings p)) (nat_lt s.epoch f.epoch)
    (λ _. (greater_works p port f s).filled unused_filled)
    (λ _. by_test (λ b. IsFilled ((cond b (answers_body port f.from f.number f.body s) (still s)).switch.sendings p)) (f.epoch == s.epoch) (λ _. (answers_works p port f.number f.from f.body s).filled (filled p)) (λ _. filled p)))
    (λ _. filled p)

filled_ack : (port epoch n : ℕ) (from to : EndId) (s : SwitchOf) → AreFilled s → IsFilled ((framed port (Ack epoch from to n) s).switch.sendings port)
filled_ack port epoch n from to s filled =
    by_test (λ b. IsFilled ((cond b (on_ack port from epoch n s) (still s)).switch.sendings port)) (counts s port from to)
    (λ _. by_test (λ b. (epoch == s.epoch && is_outstanding n (s.sendings port)) ≡ b → IsFilled ((cond b (acked_step port n from s) (still s)).switch.sendings port)) (epoch == s.epoch && is_outstanding n (s.sendings port))
    (λ _ both. let out = (and_parts (epoch == s.epoch) (is_outstanding n (s.sendings port)) both).1 in (ack_works port n from s out).filled (filled_forgotten n (s.sendings port) out (filled port)))
    (λ _ _. filled port) refl)
    (λ _. filled port)

pub filled_frame : (port : ℕ) (frame : Frame) (s : SwitchOf) → AreFilled s → AreFilled (framed port frame s).switch
filled_frame port (Carry f) s filled p = filled_carry p port f s filled
filled_frame port (Ack epoch from to n) s filled p = ⊎_elim
    (λ (same : p ≡ port). subst (λ q. IsFilled ((framed port (Ack epoch from to n) s).switch.sendings q)) (sym same) (filled_ack port epoch n from to s filled))
    (λ other. (ack_others p port epoch n from to s other).filled (filled p))
    (cases_eq p port)
filled_frame port (Probe from nonce) s filled p = filled p
filled_frame port (Reply from to nonce) s filled p =
    by_test (λ b. IsFilled ((cond b (still (record s { ports = with_happening port (Replied from nonce) s.ports })) (still s)).switch.sendings p)) (is_same_end to (end_at s port)) (λ _. filled p) (λ _. filled p)

pub filled_load : (number : ℕ) (s : SwitchOf) → AreFilled s → AreFilled (loaded number s)
filled_load number s filled p = filled p

-- with nothing outstanding nothing waits
pub none_unacked : (t : Sending) → IsFilled t → t.acked ≡ highest t → is_unacked t ≡ false
none_unacked t filled all = le-ltb t.acked (length t.pushed) (let f = filled.full (omega (arith, all)) in omega (arith, f, all))
