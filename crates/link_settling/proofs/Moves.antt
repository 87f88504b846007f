use Rattle.std.specs.Prelude.{nat_lt, nat_le, map}
use Rattle.std.proofs.Common.{◌≡◌, ◌≢◌, ◌∙◌, inl, inr, ⊎_elim, sym, ap, subst, refl, ℕ, zero, suc, ◌+◌, ◌-◌, ◌≤◌, ◌==◌, arith, List, [], ◌∷◌, ◌++◌, length, slice_get, Option, Some, None, true, cond, length-append, append-nil, append_assoc}
use Rattle.std.proofs.lemmas.Bool.{leb-true, ltb-true, ltb-false, and_parts, and_cases, cases_eq, eq-eqb, ne_eqb}
use Rattle.std.proofs.lemmas.Option.{slice_get_cases, same_Some, none-some}
use Rattle.std.proofs.lemmas.List.{length-set, length-drop}
use Rattle.an_base.specs.Values.{EndId}
use Rattle.an_base.specs.declared.body.Body.{Body}
use Rattle.common_values.proofs.TestLemmas.{by_test}
use Rattle.ordered_link.specs.Sending.{Sending, highest, is_outstanding, is_waiting, may_send, next_to_send, send_next, with_pushed, push, sent_by_push, forget, send_again}
use Rattle.ordered_link.specs.Receiving.{Receiving}
use Rattle.ordered_link.specs.Session.{Numbered, put_out, numbered}
use Rattle.epoch_core.specs.Log.{OnPort}
use Rattle.switch_core.specs.Switch.{SwitchOf}
use Rattle.switch_core.specs.Steps.{Step, Sent, still, after, peer_among, carried_to, sends_on, pushed_to, pushed, all_pushed, sends_next, fills}
use Rattle.link_settling.specs.Moves.{number_of, carried_by, shown, Moves, resting, pushing, going_on, repeating, IsFilledBut, IsFilled, WorksFrom, Works}
use Rattle.switch_core.proofs.SessionLemmas.{at_the_port, at_other_port}

-- one after the other
pub moves_then : (now : ℕ) (t u v : Sending) (ks ls : List ℕ) → Moves now t ks u → Moves now u ls v → Moves now t (ks ++ ls) v
moves_then now t u v ks ls (resting x) more = more
moves_then now t u v ks ls (pushing body x y js moves) more = subst (λ ns. Moves now x ns v) (sym (append_assoc (shown (sent_by_push body x)) js ls)) (pushing body x v (js ++ ls) (moves_then now (push body now x) y v js ls moves more))
moves_then now t u v ks ls (going_on x y js moves) more = subst (λ ns. Moves now x ns v) (sym (append_assoc (shown (next_to_send x)) js ls)) (going_on x v (js ++ ls) (moves_then now (send_next now x) y v js ls moves more))
moves_then now t u v ks ls (repeating k x y js out moves) more = repeating k x v (js ++ ls) out (moves_then now (send_again k now x) y v js ls moves more)

-- the window
pub filled_next : (now n : ℕ) (t : Sending) → IsFilledBut (suc n) t → IsFilledBut n (send_next now t)
filled_next now n t filled =
    by_test (λ b. may_send t ≡ b → IsFilledBut n (cond b (record t { sent = t.sent ++ now ∷ [] }) t)) (may_send t)
    (λ _ may.
    let few = ltb-true (length t.sent) 8 (and_parts (nat_lt (length t.sent) 8) (is_waiting t) may).0 in
    let waits = ltb-true (highest t) (length t.pushed) (and_parts (nat_lt (length t.sent) 8) (is_waiting t) may).1 in
    let l = length-append t.sent (now ∷ []) in
    record {
      within = omega (arith, l, waits);
      window = omega (arith, l, few);
      full = λ short. let f = filled.full (omega (arith, short, l)) in omega (arith, f, waits, l);
    })
    (λ _ may. record {
      within = filled.within;
      window = filled.window;
      full = λ short. ⊎_elim (λ many. absurd (let m = ltb-false (length t.sent) 8 many in omega (arith, m, short))) (λ none. ltb-false (highest t) (length t.pushed) none) (and_cases (nat_lt (length t.sent) 8) (is_waiting t) may);
    })
    refl

pub filled_push : (now : ℕ) (body : Body) (t : Sending) → IsFilled t → IsFilled (push body now t)
filled_push now body t filled =
    by_test (λ b. is_waiting t ≡ b → IsFilled (cond b (with_pushed body t) (send_next now (with_pushed body t)))) (is_waiting t)
    (λ _ waits.
    let w = ltb-true (highest t) (length t.pushed) waits in
    record {
      within = omega (arith, w, l);
      window = filled.window;
      full = λ short. let f = filled.full short in omega (arith, f, w);
    })
    (λ _ none.
    let w = ltb-false (highest t) (length t.pushed) none in
    let i = filled.within in
    let win = filled.window in
    by_test (λ c. may_send (with_pushed body t) ≡ c → IsFilled (cond c (record t { pushed = t.pushed ++ body ∷ []; sent = t.sent ++ now ∷ [] }) (with_pushed body t))) (may_send (with_pushed body t))
    (λ _ may.
    let few = ltb-true (length t.sent) 8 (and_parts (nat_lt (length t.sent) 8) (is_waiting (with_pushed body t)) may).0 in
    let m = length-append t.sent (now ∷ []) in
    record {
      within = omega (arith, l, m, i);
      window = omega (arith, m, few);
      full = λ _. omega (arith, l, m, w);
    })
    (λ _ may. record {
      within = omega (arith, l, i);
      window = win;
      full = λ short. ⊎_elim (λ many. absurd (let m = ltb-false (length t.sent) 8 many in omega (arith, m, short))) (λ no_one. absurd (let m = ltb-false (highest t) (length (t.pushed ++ body ∷ [])) no_one in omega (arith, m, l, i))) (and_cases (nat_lt (length t.sent) 8) (is_waiting (with_pushed body t)) may);
    })
    refl)
    refl
  where
    l : length (t.pushed ++ body ∷ []) ≡ length t.pushed + 1
    l = length-append t.pushed (body ∷ [])

pub filled_again : (now k n : ℕ) (t : Sending) → IsFilledBut n t → IsFilledBut n (send_again k now t)
filled_again now k n t filled =
    let l = length-set t.sent (k - t.acked - 1) now in
    let w = filled.within in
    let i = filled.window in
    record {
      within = omega (arith, l, w);
      window = omega (arith, l, i);
      full = λ short. let f = filled.full (omega (arith, l, short)) in omega (arith, f, l);
    }

pub filled_forgotten : (n : ℕ) (t : Sending) → is_outstanding n t ≡ true → IsFilled t → IsFilledBut 8 (forget n t)
filled_forgotten n t out filled =
    let a = ltb-true t.acked n (and_parts (nat_lt t.acked n) (nat_le n (highest t)) out).0 in
    let b = leb-true n (highest t) (and_parts (nat_lt t.acked n) (nat_le n (highest t)) out).1 in
    let l = length-drop (n - t.acked) t.sent in
    let w = filled.within in
    let i = filled.window in
    record {
      within = omega (arith, l, a, b, w);
      window = omega (arith, l, i);
      full = λ short. absurd (omega (arith, short));
    }

-- a body that goes out was pushed
abbrev pub IsPushed : Option ℕ → Sending → Type 0
IsPushed out t = (k : ℕ) → out ≡ Some k → (1 ≤ k) × (k ≤ length t.pushed)

pub next_pushed : (now : ℕ) (t : Sending) → IsPushed (next_to_send t) (send_next now t)
next_pushed now t =
    by_test (λ b. may_send t ≡ b → IsPushed (cond b (Some (highest t + 1)) None) (cond b (record t { sent = t.sent ++ now ∷ [] }) t)) (may_send t)
    (λ _ may k is.
    let waits = ltb-true (highest t) (length t.pushed) (and_parts (nat_lt (length t.sent) 8) (is_waiting t) may).1 in
    let e = same_Some (highest t + 1) k is in
    (omega (arith, e), omega (arith, e, waits)))
    (λ _ _ k is. absurd (none-some k is))
    refl

push_pushed : (now : ℕ) (body : Body) (t : Sending) → IsPushed (sent_by_push body t) (push body now t)
push_pushed now body t =
    by_test (λ b. IsPushed (cond b None (next_to_send (with_pushed body t))) (cond b (with_pushed body t) (send_next now (with_pushed body t)))) (is_waiting t)
    (λ _ k is. absurd (none-some k is))
    (λ _. next_pushed now (with_pushed body t))

-- the frames by a port
pub carried_both : (p : ℕ) (xs ys : List Sent) → carried_by p (xs ++ ys) ≡ carried_by p xs ++ carried_by p ys
carried_both p [] ys = refl
carried_both p (x ∷ xs) ys =
    ap (λ l. cond (x.port == p) (number_of x.frame) [] ++ l) (carried_both p xs ys)
    ∙ sym (append_assoc (cond (x.port == p) (number_of x.frame) []) (carried_by p xs) (carried_by p ys))

none_elsewhere : (p port : ℕ) (s : SwitchOf) (peer : EndId) (xs : List Numbered) → p ≢ port → carried_by p (map (carried_to s port peer) xs) ≡ []
none_elsewhere p port s peer [] other = refl
none_elsewhere p port s peer (x ∷ xs) other =
    ap (λ b. cond b (x.number ∷ []) [] ++ carried_by p (map (carried_to s port peer) xs)) (ne_eqb port p (λ e. other (sym e))) ∙ none_elsewhere p port s peer xs other

one_here : (port k : ℕ) (s : SwitchOf) (peer : EndId) (bodies : List Body) → 1 ≤ k → k ≤ length bodies → carried_by port (map (carried_to s port peer) (numbered k (slice_get bodies (k - 1)))) ≡ k ∷ []
one_here port k s peer bodies least most =
    elim (slice_get_cases bodies (k - 1)).1 [
      | inl there ↦ ap (λ o. carried_by port (map (carried_to s port peer) (numbered k o))) there.2
          ∙ ap (λ b. cond b (k ∷ []) [] ++ []) (eq-eqb port port refl)
      | inr past ↦ absurd (let e = past.0 in omega (arith, e, least, most))
    ]

out_here : (port : ℕ) (s : SwitchOf) (peer : EndId) (t : Sending) (out : Option ℕ) → IsPushed out t → carried_by port (map (carried_to s port peer) (put_out t out)) ≡ shown out
out_here port s peer t None pushed = refl
out_here port s peer t (Some k) pushed = let p = pushed k refl in one_here port k s peer t.pushed p.0 p.1

pub works_still : (m p : ℕ) (s : SwitchOf) → Works m m p s (still s)
works_still m p s = record { tick = refl; receivings = refl; moves = λ _. resting (s.sendings p); filled = λ f. f }

pub works_then : (l m n p now : ℕ) (t : Sending) (r q : Receiving) (first next : Step) → WorksFrom l m p now t r first → WorksFrom m n p first.switch.tick (first.switch.sendings p) q next → WorksFrom l n p now t q (after first next)
works_then l m n p now t r q first next one two = record {
  tick = two.tick ∙ one.tick;
  receivings = two.receivings;
  moves = λ f.
      subst (λ ks. Moves now t ks (next.switch.sendings p)) (sym (carried_both p first.frames next.frames))
      (moves_then now t (first.switch.sendings p) (next.switch.sendings p) (carried_by p first.frames) (carried_by p next.frames) (one.moves f)
      (subst (λ n. Moves n (first.switch.sendings p) (carried_by p next.frames) (next.switch.sendings p)) one.tick (two.moves (one.filled f))));
  filled = λ f. two.filled (one.filled f);
}

-- where what was received stays
pub works_on : (l m n p now : ℕ) (t : Sending) (r : Receiving) (first next : Step) → WorksFrom l m p now t r first → Works m n p first.switch next → WorksFrom l n p now t r (after first next)
works_on l m n p now t r first next one two =
    let w = works_then l m n p now t r (first.switch.receivings p) first next one two in
    record { tick = w.tick; receivings = w.receivings ∙ one.receivings; moves = w.moves; filled = w.filled }

-- the session of a port sends on
pub sends_here : (m n port : ℕ) (peer : EndId) (from t u : Sending) (out : Option ℕ) (s : SwitchOf)
    → (IsFilledBut m from → IsPushed out u) → (IsFilledBut m from → Moves s.tick from (shown out) t) → (IsFilledBut m from → IsFilledBut n t)
    → WorksFrom m n port s.tick from (s.receivings port) (sends_on port peer t (put_out u out) s)
sends_here m n port peer from t u out s goes moves filled = record {
  tick = refl;
  receivings = refl;
  moves = λ f.
      subst (λ x. Moves s.tick from (carried_by port (map (carried_to s port peer) (put_out u out))) x) (sym (at_the_port port t s.sendings))
      (subst (λ ks. Moves s.tick from ks t) (sym (out_here port s peer u out (goes f))) (moves f));
  filled = λ f. subst (IsFilledBut n) (sym (at_the_port port t s.sendings)) (filled f);
}

pub sends_elsewhere : (m p port : ℕ) (peer : EndId) (t : Sending) (xs : List Numbered) (s : SwitchOf) → p ≢ port → Works m m p s (sends_on port peer t xs s)
sends_elsewhere m p port peer t xs s other = record {
  tick = refl;
  receivings = refl;
  moves = λ f.
      subst (λ x. Moves s.tick (s.sendings p) (carried_by p (map (carried_to s port peer) xs)) x) (sym (at_other_port port p t s.sendings other))
      (subst (λ ks. Moves s.tick (s.sendings p) ks (s.sendings p)) (sym (none_elsewhere p port s peer xs other)) (resting (s.sendings p)));
  filled = λ f. subst (IsFilledBut m) (sym (at_other_port port p t s.sendings other)) f;
}

-- a body is pushed
push_moves : (now : ℕ) (body : Body) (t : Sending) → Moves now t (shown (sent_by_push body t)) (push body now t)
push_moves now body t = subst (λ ks. Moves now t ks (push body now t)) (append-nil (shown (sent_by_push body t))) (pushing body t (push body now t) [] (resting (push body now t)))

pub next_moves : (now : ℕ) (t : Sending) → Moves now t (shown (next_to_send t)) (send_next now t)
next_moves now t = subst (λ ks. Moves now t ks (send_next now t)) (append-nil (shown (next_to_send t))) (going_on t (send_next now t) [] (resting (send_next now t)))

pushed_to_works : (p : ℕ) (o : Option EndId) (x : OnPort) (s : SwitchOf) → Works 0 0 p s (pushed_to o x s)
pushed_to_works p None x s = works_still 0 p s
pushed_to_works p (Some peer) x s =
    let t = push x.body s.tick (s.sendings x.port) in
    let out = sent_by_push x.body (s.sendings x.port) in
    ⊎_elim
    (λ (same : p ≡ x.port). subst (λ q. Works 0 0 q s (sends_on x.port peer t (put_out t out) s)) (sym same)
    (sends_here 0 0 x.port peer (s.sendings x.port) t t out s (λ _. push_pushed s.tick x.body (s.sendings x.port)) (λ _. push_moves s.tick x.body (s.sendings x.port)) (filled_push s.tick x.body (s.sendings x.port))))
    (λ other. sends_elsewhere 0 p x.port peer t (put_out t out) s other)
    (cases_eq p x.port)

pub all_pushed_works : (p : ℕ) (xs : List OnPort) (s : SwitchOf) → Works 0 0 p s (all_pushed xs s)
all_pushed_works p [] s = works_still 0 p s
all_pushed_works p (x ∷ xs) s = works_on 0 0 0 p s.tick (s.sendings p) (s.receivings p) (pushed x s) (all_pushed xs (pushed x s).switch) (pushed_to_works p (peer_among s.card.links x.port) x s) (all_pushed_works p xs (pushed x s).switch)

-- waiting bodies go out
pub fills_here : (n port : ℕ) (peer : EndId) (s : SwitchOf) → Works n 0 port s (fills n port peer s)
fills_here zero port peer s = works_still 0 port s
fills_here (suc n) port peer s =
    let t = s.sendings port in
    works_on (suc n) n 0 port s.tick t (s.receivings port) (sends_next port peer s) (fills n port peer (sends_next port peer s).switch)
    (sends_here (suc n) n port peer t (send_next s.tick t) (send_next s.tick t) (next_to_send t) s (λ _. next_pushed s.tick t) (λ _. next_moves s.tick t) (filled_next s.tick n t))
    (fills_here n port peer (sends_next port peer s).switch)

pub fills_elsewhere : (n m p port : ℕ) (peer : EndId) (s : SwitchOf) → p ≢ port → Works m m p s (fills n port peer s)
fills_elsewhere zero m p port peer s other = works_still m p s
fills_elsewhere (suc n) m p port peer s other =
    let t = s.sendings port in
    works_on m m m p s.tick (s.sendings p) (s.receivings p) (sends_next port peer s) (fills n port peer (sends_next port peer s).switch)
    (sends_elsewhere m p port peer (send_next s.tick t) (put_out (send_next s.tick t) (next_to_send t)) s other)
    (fills_elsewhere n m p port peer (sends_next port peer s).switch other)
