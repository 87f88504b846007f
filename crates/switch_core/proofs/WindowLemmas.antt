use Rattle.std.proofs.Common.{◌≡◌, ◌∙◌, ap, refl, ℕ, zero, suc, ◌+◌, ◌-◌, ◌≤◌, ◌==◌, arith, List, [], ◌∷◌, ◌++◌, length, length-append, length-drop, length-set, Option, Some, None, ◌&&◌, nat_lt}
use Rattle.std.proofs.lemmas.Bool.{and_parts, cond_both, eqb-true, ltb-true}
use Rattle.an_base.specs.Values.{EndId, PeerAt}
use Rattle.an_base.specs.declared.body.Body.{Body}
use Rattle.epoch_core.specs.Log.{OnPort, on_port}
use Rattle.epoch_core.proofs.LawLemmas.{on_port-append}
use Rattle.ordered_link.specs.Sending.{Sending, acknowledge, forget, is_outstanding, is_waiting, may_send, next_to_send, push, send_again, send_next, sent_by_ack, with_pushed, due}
use Rattle.ordered_link.specs.Session.{Numbered, put_out}
use Rattle.switch_core.specs.Switch.{SwitchOf}
use Rattle.switch_core.specs.Steps.{after, still, acknowledges, all_again, all_pushed, all_resent, fills, on_ack, peer_among, pushed, pushed_to, resends_on, sends_again, sends_next, sends_on}
use Rattle.switch_core.proofs.PushLemmas.{pushed_count, sent_pushed}

-- all but what is sent is as it was
abbrev pub OnlySends : SwitchOf → SwitchOf → Type 0
OnlySends old new = new ≡ record old { sendings = new.sendings }

-- at most eight bodies are outstanding
abbrev pub IsFew : Sending → Type 0
IsFew t = length t.sent ≤ 8

-- only what is sent changes, at most so many bodies more are pushed at each port, and the windows stay
pub record SendsUpTo (more : ℕ → ℕ) (old new : SwitchOf) : Type 0 where
  pub only : OnlySends old new
  pub windows : ((port : ℕ) → IsFew (old.sendings port)) → (port : ℕ) → IsFew (new.sendings port)
  pub pushed : (port : ℕ) → length (new.sendings port).pushed ≤ length (old.sendings port).pushed + more port

-- none more
abbrev pub none_more : ℕ → ℕ
none_more port = 0

sends_nothing : (s : SwitchOf) → SendsUpTo none_more s s
sends_nothing s = record { only = refl; windows = λ few. few; pushed = λ port. omega arith }

-- one after the other
sends_then : (f g h : ℕ → ℕ) (a b c : SwitchOf) → ((port : ℕ) → f port + g port ≤ h port) → SendsUpTo f a b → SendsUpTo g b c → SendsUpTo h a c
sends_then f g h a b c sum first next = record {
  only = next.only ∙ ap (λ (s : SwitchOf). record s { sendings = c.sendings }) first.only;
  windows = λ few. next.windows (first.windows few);
  pushed = λ port. omega (arith, sum port, first.pushed port, next.pushed port);
}

-- one session changes
sends_on_few : (port : ℕ) (peer : EndId) (t : Sending) (xs : List Numbered) (s : SwitchOf) → (IsFew (s.sendings port) → IsFew t) → length t.pushed ≤ length (s.sendings port).pushed → SendsUpTo none_more s (sends_on port peer t xs s).switch
sends_on_few port peer t xs s few no_more = record {
  only = refl;
  windows = λ all q. cond_both (q == port) t (s.sendings q) IsFew (λ _. few (all port)) (λ _. all q);
  pushed = λ q. cond_both (q == port) t (s.sendings q) (λ u. length u.pushed ≤ length (s.sendings q).pushed + 0)
      (λ test. let same = ap (λ p. length (s.sendings p).pushed) (eqb-true q port test) in omega (arith, same, no_more)) (λ _. omega arith);
}

-- a body is sent where the window lets it
next_few : (now : ℕ) (t : Sending) → IsFew t → IsFew (send_next now t)
next_few now t few =
    cond_both (may_send t) (record t { sent = t.sent ++ now ∷ [] }) t IsFew
    (λ may. let low = ltb-true (length t.sent) 8 (and_parts (nat_lt (length t.sent) 8) (is_waiting t) may).0 in let e = length-append t.sent (now ∷ []) in omega (arith, low, e))
    (λ _. few)

push_few : (body : Body) (now : ℕ) (t : Sending) → IsFew t → IsFew (push body now t)
push_few body now t few = cond_both (is_waiting t) (with_pushed body t) (send_next now (with_pushed body t)) IsFew (λ _. few) (λ _. next_few now (with_pushed body t) few)

pushed_few : (peer : Option EndId) (x : OnPort) (s : SwitchOf) → SendsUpTo (λ port. length (on_port port (x ∷ []))) s (pushed_to peer x s).switch
pushed_few None x s = record { only = refl; windows = λ few. few; pushed = pushed_count None x s }
pushed_few (Some peer) x s = record {
  only = refl;
  windows = λ all q. cond_both (q == x.port) (push x.body s.tick (s.sendings x.port)) (s.sendings q) IsFew (λ _. push_few x.body s.tick (s.sendings x.port) (all x.port)) (λ _. all q);
  pushed = pushed_count (Some peer) x s;
}

-- bodies are pushed
pub all_pushed_few : (xs : List OnPort) (s : SwitchOf) → SendsUpTo (λ port. length (on_port port xs)) s (all_pushed xs s).switch
all_pushed_few [] s = sends_nothing s
all_pushed_few (x ∷ xs) s =
    let next = (pushed x s).switch in
    sends_then (λ port. length (on_port port (x ∷ []))) (λ port. length (on_port port xs)) (λ port. length (on_port port (x ∷ xs))) s next (all_pushed xs next).switch
    (λ port. let e = ap length (on_port-append port (x ∷ []) xs) in let f = length-append (on_port port (x ∷ [])) (on_port port xs) in omega (arith, e, f))
    (pushed_few (peer_among s.card.links x.port) x s) (all_pushed_few xs next)

then_none : (a b c : SwitchOf) → SendsUpTo none_more a b → SendsUpTo none_more b c → SendsUpTo none_more a c
then_none a b c first next = sends_then none_more none_more none_more a b c (λ port. omega arith) first next

-- a waiting body goes out, and the next ones
next_sends : (port : ℕ) (peer : EndId) (s : SwitchOf) → SendsUpTo none_more s (sends_next port peer s).switch
next_sends port peer s =
    let t = s.sendings port in
    let same = ap length (sent_pushed (may_send t) s.tick t) in
    sends_on_few port peer (send_next s.tick t) (put_out (send_next s.tick t) (next_to_send t)) s (next_few s.tick t) (omega (arith, same))

pub fills_few : (n port : ℕ) (peer : EndId) (s : SwitchOf) → SendsUpTo none_more s (fills n port peer s).switch
fills_few zero port peer s = sends_nothing s
fills_few (suc n) port peer s = let next = (sends_next port peer s).switch in then_none s next (fills n port peer next).switch (next_sends port peer s) (fills_few n port peer next)

-- what is acknowledged is outstanding no more
forget_few : (n : ℕ) (t : Sending) → IsFew t → IsFew (forget n t)
forget_few n t few = let e = length-drop (n - t.acked) t.sent in omega (arith, e, few)

acknowledge_few : (n now : ℕ) (t : Sending) → IsFew t → IsFew (acknowledge n now t)
acknowledge_few n now t few = cond_both (is_outstanding n t) (send_next now (forget n t)) t IsFew (λ _. next_few now (forget n t) (forget_few n t few)) (λ _. few)

acknowledge_pushed : (n now : ℕ) (t : Sending) → (acknowledge n now t).pushed ≡ t.pushed
acknowledge_pushed n now t = cond_both (is_outstanding n t) (send_next now (forget n t)) t (λ u. u.pushed ≡ t.pushed) (λ _. sent_pushed (may_send (forget n t)) now (forget n t)) (λ _. refl)

acknowledges_few : (n port : ℕ) (peer : EndId) (s : SwitchOf) → SendsUpTo none_more s (acknowledges port peer n s).switch
acknowledges_few n port peer s =
    let t = s.sendings port in
    let same = ap length (acknowledge_pushed n s.tick t) in
    sends_on_few port peer (acknowledge n s.tick t) (put_out (acknowledge n s.tick t) (sent_by_ack n t)) s (acknowledge_few n s.tick t) (omega (arith, same))

pub on_ack_few : (port epoch n : ℕ) (peer : EndId) (s : SwitchOf) → SendsUpTo none_more s (on_ack port peer epoch n s).switch
on_ack_few port epoch n peer s =
    let first = acknowledges port peer n s in
    cond_both (epoch == s.epoch && is_outstanding n (s.sendings port)) (after first (fills 7 port peer first.switch)) (still s) (λ step. SendsUpTo none_more s step.switch)
    (λ _. then_none s first.switch (fills 7 port peer first.switch).switch (acknowledges_few n port peer s) (fills_few 7 port peer first.switch))
    (λ _. sends_nothing s)

-- bodies that are due are sent again
again_few : (l : PeerAt) (k : ℕ) (s : SwitchOf) → SendsUpTo none_more s (sends_again l k s).switch
again_few l k s =
    let t = s.sendings l.port in
    let same = length-set t.sent (k - t.acked - 1) s.tick in
    sends_on_few l.port l.peer (send_again k s.tick t) (put_out t (Some k)) s (λ few. omega (arith, few, same)) (omega arith)

all_again_few : (l : PeerAt) (ks : List ℕ) (s : SwitchOf) → SendsUpTo none_more s (all_again l ks s).switch
all_again_few l [] s = sends_nothing s
all_again_few l (k ∷ ks) s = let next = (sends_again l k s).switch in then_none s next (all_again l ks next).switch (again_few l k s) (all_again_few l ks next)

pub all_resent_few : (ls : List PeerAt) (s : SwitchOf) → SendsUpTo none_more s (all_resent ls s).switch
all_resent_few [] s = sends_nothing s
all_resent_few (l ∷ ls) s = let next = (resends_on l s).switch in then_none s next (all_resent ls next).switch (all_again_few l (due s.tick (s.sendings l.port)) s) (all_resent_few ls next)
