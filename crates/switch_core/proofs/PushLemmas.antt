use Rattle.std.proofs.Common.{◌≡◌, ◌≢◌, ◌∙◌, sym, ap, refl, subst, ℕ, ◌+◌, ◌≤◌, ◌==◌, arith, List, [], ◌∷◌, ◌++◌, append_assoc, append-nil, length, length-append, length-drop, Option, Some, None, Bool, true, false, cond}
use Rattle.std.proofs.lemmas.Bool.{eq-eqb, ne_eqb, eqb-true, eqb-false}
use Rattle.an_base.specs.Values.{EndId}
use Rattle.an_base.specs.declared.body.Body.{Body}
use Rattle.epoch_core.specs.Log.{OnPort, on_port}
use Rattle.ordered_link.specs.Sending.{Sending, SenderOf, IsKeptOf, push, send_next, with_pushed, may_send, is_waiting}
use Rattle.switch_core.specs.declared.control.Control.{Control}
use Rattle.switch_core.specs.Switch.{SwitchOf, at_port}
use Rattle.switch_core.specs.Steps.{Sent, after, all_pushed, peer_among, pushed, pushed_to}
use Rattle.switch_core.specs.Bytes.{BytesOut}
use Rattle.switch_core.specs.Stands.{Does, Done, HasNumbers}
use Rattle.switch_core.proofs.StandsLemmas.{does_then}

-- a sender tells how many bodies were pushed
pub kept_pushed : (v : SenderOf) (t : Sending) → IsKeptOf v t → v.acked + length v.bodies ≡ length t.pushed
kept_pushed v t kept =
    let e = length-drop t.acked t.pushed in
    let f = ap length kept.bodies in
    omega (arith, e, f, kept.acked, kept.within)

-- a body more is pushed
pub sent_pushed : (b : Bool) (now : ℕ) (t : Sending) → (cond b (record t { sent = t.sent ++ now ∷ [] }) t).pushed ≡ t.pushed
sent_pushed true now t = refl
sent_pushed false now t = refl

pub push_pushed : (b : Bool) (body : Body) (now : ℕ) (t : Sending) → (cond b (with_pushed body t) (send_next now (with_pushed body t))).pushed ≡ t.pushed ++ body ∷ []
push_pushed true body now t = refl
push_pushed false body now t = sent_pushed (may_send (with_pushed body t)) now (with_pushed body t)

one_more : (body : Body) (now : ℕ) (t : Sending) → length (push body now t).pushed ≡ length t.pushed + 1
one_more body now t = ap length (push_pushed (is_waiting t) body now t) ∙ length-append t.pushed (body ∷ [])

-- which is counted at its port alone
count_at : (b : Bool) (x : OnPort) (now port : ℕ) (s : SwitchOf) → b ≡ (x.port == port) → length (at_port x.port (push x.body now (s.sendings x.port)) s.sendings port).pushed ≤ length (s.sendings port).pushed + length (cond b (x.body ∷ []) [])
count_at true x now port s test =
    let same : x.port ≡ port = eqb-true x.port port (sym test) in
    let there = ap (λ c. length (cond c (push x.body now (s.sendings x.port)) (s.sendings port)).pushed) (eq-eqb port x.port (sym same)) in
    let more = one_more x.body now (s.sendings x.port) in
    let at = ap (λ p. length (s.sendings p).pushed) same in
    omega (arith, there, more, at)
count_at false x now port s test =
    let other : x.port ≢ port = eqb-false x.port port (sym test) in
    let there = ap (λ c. length (cond c (push x.body now (s.sendings x.port)) (s.sendings port)).pushed) (ne_eqb port x.port (λ same. other (sym same))) in
    omega (arith, there)

pub pushed_count : (peer : Option EndId) (x : OnPort) (s : SwitchOf) (port : ℕ) → length ((pushed_to peer x s).switch.sendings port).pushed ≤ length (s.sendings port).pushed + length (on_port port (x ∷ []))
pushed_count None x s port = omega arith
pushed_count (Some peer) x s port = count_at (x.port == port) x s.tick port s refl

count_more : (b : Bool) (body : Body) (bodies : List Body) → length (cond b (body ∷ bodies) bodies) ≡ length (cond b (body ∷ []) []) + length bodies
count_more true body bodies = omega arith
count_more false body bodies = omega arith

-- the numbers that are left for the others
pub numbers_left : (old new : Control) (x : OnPort) (xs : List OnPort) (before after : List BytesOut) → HasNumbers old (x ∷ xs) → Does (pushed x) old new before after → HasNumbers new xs
numbers_left old new x xs before after has does = record {
  switch = (pushed x has.switch).switch;
  stands = (does has.switch has.stands).0;
  numbers = λ port.
      let a = pushed_count (peer_among has.switch.card.links x.port) x has.switch port in
      let b = count_more (x.port == port) x.body (on_port port xs) in
      omega (arith, a, b, has.numbers port);
}

pub numbers_first : (c : Control) (x : OnPort) (xs : List OnPort) → HasNumbers c (x ∷ xs) → HasNumbers c (x ∷ [])
numbers_first c x xs has = record {
  switch = has.switch;
  stands = has.stands;
  numbers = λ port. let b = count_more (x.port == port) x.body (on_port port xs) in omega (arith, b, has.numbers port);
}

-- one body after others
one_by_one : (xs : List OnPort) (x : OnPort) (s : SwitchOf) → all_pushed (xs ++ x ∷ []) s ≡ after (all_pushed xs s) (pushed x (all_pushed xs s).switch)
one_by_one [] x s = ap (λ (frames : List Sent). record { switch = (pushed x s).switch; frames = frames }) (append-nil (pushed x s).frames)
one_by_one (y ∷ ys) x s =
    ap (after (pushed y s)) (one_by_one ys x (pushed y s).switch)
    ∙ ap (λ (frames : List Sent). record { switch = (pushed x (all_pushed ys (pushed y s).switch).switch).switch; frames = frames })
    (sym (append_assoc (pushed y s).frames (all_pushed ys (pushed y s).switch).frames (pushed x (all_pushed ys (pushed y s).switch).switch).frames))

pub pushes_more : (xs : List OnPort) (x : OnPort) (a b c : Control) (u v w : List BytesOut) → Does (all_pushed xs) a b u v → Does (pushed x) b c v w → Does (all_pushed (xs ++ x ∷ [])) a c u w
pushes_more xs x a b c u v w first next s stands = subst (λ step. Done c u w step) (sym (one_by_one xs x s)) (does_then (all_pushed xs) (pushed x) a b c u v w first next s stands)
