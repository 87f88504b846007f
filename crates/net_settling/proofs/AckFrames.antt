-- Which acknowledgements go out: none but for a body that counts, by its port to who sent it.

use Rattle.std.specs.Prelude.{◌≡◌, ◌⊎◌, ◌==◌, ◌&&◌, ◌<◌, ◌≤◌, ℕ, zero, suc, nat_lt, List, [], ◌∷◌, ◌++◌, map, cond, Option, Some, None, Bool, true, false, refl}
use Rattle.std.specs.List.{flat_map}
use Rattle.std.proofs.Common.{true≢false, sym, ◌∙◌, ap, inl, inr, arith}
use Rattle.std.proofs.lemmas.Bool.{cond_both, eqb-true, ltb-true}
use Rattle.an_base.specs.Values.{EndId, PeerAt}
use Rattle.an_base.specs.Frames.{CarryOf}
use Rattle.an_base.specs.declared.body.Body.{Body}
use Rattle.an_base.specs.declared.frame.Frame.{Frame}
use Rattle.an_base.specs.declared.frame.Frame.TheVariants.{Carry, Ack, Probe, Reply}
use Rattle.an_base.specs.declared.port.Sample.{Sample}
use Rattle.connectivity.specs.Connections.{is_same_end}
use Rattle.ordered_link.specs.Receiving.{Receiving, untouched, last, verdict, received, accepted_by, is_acknowledged}
use Rattle.ordered_link.specs.Sending.{is_outstanding, send_next, next_to_send, sent_by_ack, acknowledge, push, sent_by_push, due}
use Rattle.ordered_link.specs.Session.{Numbered, put_out}
use Rattle.port_monitor.specs.Ports.{probe_of, reply_to}
use Rattle.port_monitor.specs.Histories.{Replied, externals, with_happening}
use Rattle.epoch_core.specs.Log.{OnPort}
use Rattle.epoch_core.specs.Epoch.{adds}
use Rattle.link_settling.proofs.Steps.{joins_works}
use Rattle.switch_core.specs.Switch.{SwitchOf, counts, end_at, port_of}
use Rattle.switch_core.specs.Steps.{Sent, Step, ack_to, acknowledges, acks, after, all_added, all_again, all_pushed, all_resent, answer_out, answers_body, begun, carried_to, clocked, fills, framed, goes_on, is_change_due, is_spent_by, joins, on_ack, on_carry, peer_among, probe_out, probes, probes_at, pushed, pushed_to, receives, resends_on, sampled_by, sends_again, sends_next, still}
use Rattle.topo_report.proofs.Members.{In, in_append}
use Rattle.net_game.proofs.EachLemmas.{Each, each_append, each_in}

-- an acknowledgement
abbrev pub is_an_ack : Frame → Bool
is_an_ack (Carry f) = false
is_an_ack (Ack epoch from to n) = true
is_an_ack (Probe from nonce) = false
is_an_ack (Reply from to nonce) = false

abbrev pub NoAck : Sent → Type 0
NoAck x = is_an_ack x.frame ≡ false

abbrev pub NoAcks : List Sent → Type 0
NoAcks xs = Each NoAck xs

both_none : (xs ys : List Sent) → NoAcks xs → NoAcks ys → NoAcks (xs ++ ys)
both_none xs ys a b = each_append NoAck xs ys a b

carried_none : (s : SwitchOf) (port : ℕ) (peer : EndId) (xs : List Numbered) → NoAcks (map (carried_to s port peer) xs)
carried_none s port peer [] = tt
carried_none s port peer (x ∷ xs) = (refl, carried_none s port peer xs)

pushed_none : (o : Option EndId) (x : OnPort) (s : SwitchOf) → NoAcks (pushed_to o x s).frames
pushed_none None x s = tt
pushed_none (Some peer) x s = carried_none s x.port peer (put_out (push x.body s.tick (s.sendings x.port)) (sent_by_push x.body (s.sendings x.port)))

all_pushed_none : (xs : List OnPort) (s : SwitchOf) → NoAcks (all_pushed xs s).frames
all_pushed_none [] s = tt
all_pushed_none (x ∷ xs) s = both_none (pushed x s).frames (all_pushed xs (pushed x s).switch).frames (pushed_none (peer_among s.card.links x.port) x s) (all_pushed_none xs (pushed x s).switch)

joins_none : (epoch : ℕ) (s : SwitchOf) → NoAcks (joins epoch s).frames
joins_none epoch s = all_pushed_none (adds (begun epoch s).card []) (begun epoch s)

fills_none : (n port : ℕ) (peer : EndId) (s : SwitchOf) → NoAcks (fills n port peer s).frames
fills_none zero port peer s = tt
fills_none (suc n) port peer s = both_none (sends_next port peer s).frames (fills n port peer (sends_next port peer s).switch).frames (carried_none s port peer (put_out (send_next s.tick (s.sendings port)) (next_to_send (s.sendings port)))) (fills_none n port peer (sends_next port peer s).switch)

on_ack_none : (port epoch n : ℕ) (peer : EndId) (s : SwitchOf) → NoAcks (on_ack port peer epoch n s).frames
on_ack_none port epoch n peer s =
    let first = acknowledges port peer n s in
    cond_both (epoch == s.epoch && is_outstanding n (s.sendings port)) (after first (fills 7 port peer first.switch)) (still s) (λ (st : Step). NoAcks st.frames)
    (λ _. both_none first.frames (fills 7 port peer first.switch).frames (carried_none s port peer (put_out (acknowledge n s.tick (s.sendings port)) (sent_by_ack n (s.sendings port)))) (fills_none 7 port peer first.switch))
    (λ _. tt)

again_none : (l : PeerAt) (ks : List ℕ) (s : SwitchOf) → NoAcks (all_again l ks s).frames
again_none l [] s = tt
again_none l (k ∷ ks) s = both_none (sends_again l k s).frames (all_again l ks (sends_again l k s).switch).frames (carried_none s l.port l.peer (put_out (s.sendings l.port) (Some k))) (again_none l ks (sends_again l k s).switch)

resent_none : (ls : List PeerAt) (s : SwitchOf) → NoAcks (all_resent ls s).frames
resent_none [] s = tt
resent_none (l ∷ ls) s = both_none (resends_on l s).frames (all_resent ls (resends_on l s).switch).frames (again_none l (due s.tick (s.sendings l.port)) s) (resent_none ls (resends_on l s).switch)

probe_none : (s : SwitchOf) (port : ℕ) (o : Option ℕ) → NoAcks (probe_out s port o)
probe_none s port None = tt
probe_none s port (Some nonce) = (refl, tt)

probes_none : (s : SwitchOf) (ports : List ℕ) → NoAcks (flat_map (probes_at s) ports)
probes_none s [] = tt
probes_none s (p ∷ ports) = both_none (probes_at s p) (flat_map (probes_at s) ports) (probe_none s p (probe_of (port_of s p))) (probes_none s ports)

goes_none : (before s : SwitchOf) → NoAcks (goes_on before s).frames
goes_none before s = cond_both (is_change_due before s) (joins (suc s.epoch) s) (all_resent s.card.links s) (λ (st : Step). NoAcks st.frames) (λ _. joins_none (suc s.epoch) s) (λ _. resent_none s.card.links s)

-- none at a clock, and none for another frame than a body
pub clocked_none : (now : ℕ) (samples : List Sample) (s : SwitchOf) → NoAcks (clocked now samples s).frames
clocked_none now samples s =
    let x = sampled_by now samples s in
    cond_both (is_spent_by s x) (still (record x { spent = true })) (after (record { switch = x; frames = probes x }) (goes_on s x)) (λ (st : Step). NoAcks st.frames)
    (λ _. tt) (λ _. both_none (probes x) (goes_on s x).frames (probes_none x externals) (goes_none s x))

pub other_none : (port : ℕ) (f : Frame) (s : SwitchOf) → ((g : CarryOf) → f ≡ Carry g → ⊥) → NoAcks (framed port f s).frames
other_none port (Carry f) s other = absurd (other f refl)
other_none port (Ack epoch from to n) s other = cond_both (counts s port from to) (on_ack port from epoch n s) (still s) (λ (st : Step). NoAcks st.frames) (λ _. on_ack_none port epoch n from s) (λ _. tt)
other_none port (Probe from nonce) s other = by (reply_to (end_at s port) from nonce (port_of s port)) reply_none
  where
    by : (o : Option Frame) → ((f : Frame) → o ≡ Some f → is_an_ack f ≡ false) → NoAcks (answer_out port o)
    by None all = tt
    by (Some f) all = (all f refl, tt)

    reply_none : (f : Frame) → reply_to (end_at s port) from nonce (port_of s port) ≡ Some f → is_an_ack f ≡ false
    reply_none f is = by_speaks (Rattle.port_monitor.specs.Ports.speaks (port_of s port).phase) is
      where
        by_speaks : (b : Bool) → cond b (Some (Reply (end_at s port) from nonce)) None ≡ Some f → is_an_ack f ≡ false
        by_speaks true e = sym (ap is_an_ack (Rattle.epoch_game.proofs.Basics.some_same (Reply (end_at s port) from nonce) f e))
        by_speaks false e = absurd (Rattle.epoch_game.proofs.Basics.none_some e)
other_none port (Reply from to nonce) s other = cond_both (is_same_end to (end_at s port)) (still (record s { ports = with_happening port (Replied from nonce) s.ports })) (still s) (λ (st : Step). NoAcks st.frames) (λ _. tt) (λ _. tt)

-- For a body that counts: that of what was received then
abbrev pub ack_for : ℕ → CarryOf → SwitchOf → Receiving → Sent
ack_for port f s r = record { port = port; frame = Ack f.epoch (end_at s port) f.from (last (received f.number f.body r)) }

pub record IsAckFor (port : ℕ) (f : CarryOf) (s : SwitchOf) (x : Sent) : Type 0 where
  pub counted : counts s port f.from f.to ≡ true
  pub not_behind : s.epoch ≤ f.epoch
  pub came : Receiving
  pub same : f.epoch ≡ s.epoch → came ≡ s.receivings port
  pub greater : s.epoch < f.epoch → came ≡ untouched
  pub is : x ≡ ack_for port f s came

acks_in : (port : ℕ) (peer : EndId) (k : ℕ) (body : Body) (s : SwitchOf) (x : Sent) → In x (acks port peer k body s) → x ≡ ack_to s port peer (last (received k body (s.receivings port)))
acks_in port peer k body s x = by (is_acknowledged (verdict k body (s.receivings port)))
  where
    by : (b : Bool) → In x (cond b (ack_to s port peer (last (received k body (s.receivings port))) ∷ []) []) → x ≡ ack_to s port peer (last (received k body (s.receivings port)))
    by true (inl is) = is
    by true (inr i) = absurd i
    by false i = absurd i

answers_in : (port : ℕ) (peer : EndId) (k : ℕ) (body : Body) (s : SwitchOf) (x : Sent) → In x (answers_body port peer k body s).frames → is_an_ack x.frame ≡ true → x ≡ ack_to s port peer (last (received k body (s.receivings port)))
answers_in port peer k body s x i ack = by (in_append x (acks port peer k body s) more.frames i)
  where
    more : Step
    more = all_pushed (all_added s.card port (accepted_by k body (s.receivings port)) s.log) (receives port k body s)

    by : In x (acks port peer k body s) ⊎ In x more.frames → x ≡ ack_to s port peer (last (received k body (s.receivings port)))
    by (inl j) = acks_in port peer k body s x j
    by (inr j) = absurd (true≢false (sym ack ∙ each_in NoAck more.frames x (all_pushed_none (all_added s.card port (accepted_by k body (s.receivings port)) s.log) (receives port k body s)) j))

-- the end of a switch that joins, and its epoch
pub joined_end : (epoch port : ℕ) (s : SwitchOf) → end_at (joins epoch s).switch port ≡ end_at s port
joined_end epoch port s = ap (λ (u : SwitchOf). end_at u port) (Rattle.switch_core.proofs.WindowLemmas.all_pushed_few (adds (begun epoch s).card []) (begun epoch s)).only

pub joined_epoch : (epoch : ℕ) (s : SwitchOf) → (joins epoch s).switch.epoch ≡ epoch
joined_epoch epoch s = ap (λ (u : SwitchOf). u.epoch) (Rattle.switch_core.proofs.WindowLemmas.all_pushed_few (adds (begun epoch s).card []) (begun epoch s)).only

greater_in : (port : ℕ) (f : CarryOf) (s : SwitchOf) (x : Sent) → counts s port f.from f.to ≡ true → s.epoch < f.epoch → In x (after (joins f.epoch s) (answers_body port f.from f.number f.body (joins f.epoch s).switch)).frames → is_an_ack x.frame ≡ true → IsAckFor port f s x
greater_in port f s x counted above i ack = by (in_append x j.frames (answers_body port f.from f.number f.body j.switch).frames i)
  where
    j : Step
    j = joins f.epoch s

    by : In x j.frames ⊎ In x (answers_body port f.from f.number f.body j.switch).frames → IsAckFor port f s x
    by (inl first) = absurd (true≢false (sym ack ∙ each_in NoAck j.frames x (joins_none f.epoch s) first))
    by (inr next) = record {
      counted = counted;
      not_behind = omega (arith, above);
      came = j.switch.receivings port;
      same = λ e. absurd (omega (arith, e, above));
      greater = λ _. (joins_works port f.epoch s).receivings;
      is = answers_in port f.from f.number f.body j.switch x next ack
          ∙ (λ n. record { port = port; frame = Ack (joined_epoch f.epoch s n) (joined_end f.epoch port s n) f.from (last (received f.number f.body (j.switch.receivings port))) });
    }

same_in : (port : ℕ) (f : CarryOf) (s : SwitchOf) (x : Sent) → counts s port f.from f.to ≡ true → f.epoch ≡ s.epoch → In x (answers_body port f.from f.number f.body s).frames → is_an_ack x.frame ≡ true → IsAckFor port f s x
same_in port f s x counted same i ack = record {
  counted = counted;
  not_behind = omega (arith, same);
  came = s.receivings port;
  same = λ _. refl;
  greater = λ above. absurd (omega (arith, same, above));
  is = answers_in port f.from f.number f.body s x i ack ∙ ap (λ e. record { port = port; frame = Ack e (end_at s port) f.from (last (received f.number f.body (s.receivings port))) }) (sym same);
}

pub carry_acks : (port : ℕ) (f : CarryOf) (s : SwitchOf) (x : Sent) → In x (framed port (Carry f) s).frames → is_an_ack x.frame ≡ true → IsAckFor port f s x
carry_acks port f s x i ack = by_count (counts s port f.from f.to) refl i
  where
    by_same : (b : Bool) → (f.epoch == s.epoch) ≡ b → counts s port f.from f.to ≡ true → In x (cond b (answers_body port f.from f.number f.body s) (still s)).frames → IsAckFor port f s x
    by_same true e counted j = same_in port f s x counted (eqb-true f.epoch s.epoch e) j ack
    by_same false e counted j = absurd j

    by_greater : (b : Bool) → nat_lt s.epoch f.epoch ≡ b → counts s port f.from f.to ≡ true → In x (cond b (after (joins f.epoch s) (answers_body port f.from f.number f.body (joins f.epoch s).switch)) (cond (f.epoch == s.epoch) (answers_body port f.from f.number f.body s) (still s))).frames → IsAckFor port f s x
    by_greater true e counted j = greater_in port f s x counted (ltb-true s.epoch f.epoch e) j ack
    by_greater false e counted j = by_same (f.epoch == s.epoch) refl counted j

    by_count : (b : Bool) → counts s port f.from f.to ≡ b → In x (cond b (on_carry port f s) (still s)).frames → IsAckFor port f s x
    by_count true e j = by_greater (nat_lt s.epoch f.epoch) refl e j
    by_count false e j = absurd j
