use Rattle.std.proofs.Common.{◌≡◌, ◌≢◌, ◌∙◌, sym, ap, refl, subst, ℕ, ◌≤◌, arith, List, [], ◌∷◌, ◌++◌, append_assoc, append-nil, length, reverse, Bool, cond, inl, inr}
use Rattle.std.proofs.lemmas.Bool.{eq-eqb, ne_eqb}
use Rattle.std.proofs.lemmas.List.{reverse-append, reverse-reverse}
use Rattle.an_base.specs.declared.body.Body.{Body}
use Rattle.ordered_link.specs.Session.{IsFrontOf}
use Rattle.epoch_core.specs.Log.{CardOf, OnPort, Log, on_port}
use Rattle.epoch_core.specs.Epoch.{adds, sent}
use Rattle.epoch_core.proofs.LawLemmas.{on_port-append}
use Rattle.epoch_game.specs.Slice.{Earlier}
use Rattle.epoch_game.proofs.Lists.{earlier_itself, earlier_append}
use Rattle.epoch_game.proofs.StreamLemmas.{sent_stays}
use Rattle.epoch_game.proofs.Moments.{on_port_grows}
use Rattle.switch_core.specs.Steps.{all_added, log_with}

-- all that was sent on a port, the oldest first
abbrev pub stream : CardOf → ℕ → Log → List Body
stream c q log = reverse (sent c q log)

pub reverse-cons : {A : Type 0} (x : A) (xs : List A) → reverse (x ∷ xs) ≡ reverse xs ++ x ∷ []
reverse-cons x xs = reverse-append (x ∷ []) xs

-- an earlier list, read from its beginning, is a front of the later one
pub earlier_front : (h l : List Body) → Earlier h l → IsFrontOf (reverse h) (reverse l)
earlier_front h [] e = ([], append-nil (reverse h) ∙ ap reverse e)
earlier_front h (x ∷ l) (inl e) = ([], append-nil (reverse h) ∙ ap reverse e)
earlier_front h (x ∷ l) (inr e) =
    let f = earlier_front h l e in
    (f.0 ++ x ∷ [], sym (append_assoc (reverse h) f.0 (x ∷ [])) ∙ ap (λ (r : List Body). r ++ x ∷ []) f.1 ∙ sym (reverse-cons x l))

-- and the other way
pub front_earlier : (h l : List Body) → IsFrontOf (reverse h) (reverse l) → Earlier h l
front_earlier h l f =
    let is : reverse f.0 ++ h ≡ l = sym (ap (λ (r : List Body). reverse f.0 ++ r) (reverse-reverse h)) ∙ sym (reverse-append (reverse h) f.0) ∙ ap reverse f.1 ∙ reverse-reverse l in
    subst (Earlier h) is (earlier_append (reverse f.0) h h (earlier_itself h))

pub earlier_length : {A : Type 0} (h l : List A) → Earlier h l → length h ≤ length l
earlier_length h [] e = let f = ap length e in omega (arith, f)
earlier_length h (x ∷ l) (inl e) = let f = ap length e in omega (arith, f)
earlier_length h (x ∷ l) (inr e) = let f = earlier_length h l e in omega (arith, f)

-- an earlier one of the same length is the same
pub earlier_same : {A : Type 0} (h l : List A) → Earlier h l → length l ≤ length h → h ≡ l
earlier_same h [] e low = e
earlier_same h (x ∷ l) (inl e) low = e
earlier_same h (x ∷ l) (inr e) low = let f = earlier_length h l e in absurd (omega (arith, f, low))

-- what was sent on a port only grows
pub sent_grows : (c : CardOf) (q : ℕ) (h l : Log) → Earlier h l → Earlier (sent c q h) (sent c q l)
sent_grows c q h [] e = subst (λ (k : Log). Earlier (sent c q k) (sent c q [])) (sym e) (earlier_itself (sent c q []))
sent_grows c q h (x ∷ l) (inl e) = subst (λ (k : Log). Earlier (sent c q k) (sent c q (x ∷ l))) (sym e) (earlier_itself (sent c q (x ∷ l)))
sent_grows c q h (x ∷ l) (inr e) = sent_stays c q x l (sent c q h) (sent_grows c q h l e)

pub stream_grows : (c : CardOf) (q : ℕ) (h l : Log) → Earlier h l → IsFrontOf (stream c q h) (stream c q l)
stream_grows c q h l e = earlier_front (sent c q h) (sent c q l) (sent_grows c q h l e)

pub count_grows : (p : ℕ) (h l : Log) → Earlier h l → length (on_port p h) ≤ length (on_port p l)
count_grows p h l e = earlier_length (on_port p h) (on_port p l) (on_port_grows p h l e)

-- what joining sends
pub stream_first : (c : CardOf) (q : ℕ) → stream c q [] ≡ on_port q (adds c [])
stream_first c q = reverse-reverse (on_port q (adds c []))

-- and what one more item sends
pub stream_more : (c : CardOf) (q : ℕ) (x : OnPort) (log : Log) → stream c q (x ∷ log) ≡ stream c q log ++ on_port q (adds c (x ∷ log))
stream_more c q x log =
    reverse-append (reverse (on_port q (adds c (x ∷ log)))) (sent c q log) ∙ ap (λ (r : List Body). stream c q log ++ r) (reverse-reverse (on_port q (adds c (x ∷ log))))

-- what bodies send that are accepted in turn
pub stream_added : (c : CardOf) (q port : ℕ) (bodies : List Body) (log : Log) → stream c q (log_with port bodies log) ≡ stream c q log ++ on_port q (all_added c port bodies log)
stream_added c q port [] log = sym (append-nil (stream c q log))
stream_added c q port (body ∷ bodies) log =
    let x : OnPort = record { port = port; body = body } in
    stream_added c q port bodies (x ∷ log)
    ∙ ap (λ (r : List Body). r ++ on_port q (all_added c port bodies (x ∷ log))) (stream_more c q x log)
    ∙ append_assoc (stream c q log) (on_port q (adds c (x ∷ log))) (on_port q (all_added c port bodies (x ∷ log)))
    ∙ ap (λ (r : List Body). stream c q log ++ r) (sym (on_port-append q (adds c (x ∷ log)) (all_added c port bodies (x ∷ log))))

-- the log of a port, with what is accepted there
pub log_here : (port : ℕ) (body : Body) (log : Log) → on_port port (record { port = port; body = body } ∷ log) ≡ body ∷ on_port port log
log_here port body log = ap (λ (b : Bool). cond b (body ∷ on_port port log) (on_port port log)) (eq-eqb port port refl)

pub log_else : (port p : ℕ) (body : Body) (log : Log) → port ≢ p → on_port p (record { port = port; body = body } ∷ log) ≡ on_port p log
log_else port p body log other = ap (λ (b : Bool). cond b (body ∷ on_port p log) (on_port p log)) (ne_eqb port p other)

pub accepted_here : (port : ℕ) (bodies : List Body) (log : Log) → reverse (on_port port (log_with port bodies log)) ≡ reverse (on_port port log) ++ bodies
accepted_here port [] log = sym (append-nil (reverse (on_port port log)))
accepted_here port (body ∷ bodies) log =
    accepted_here port bodies (record { port = port; body = body } ∷ log)
    ∙ ap (λ (r : List Body). reverse r ++ bodies) (log_here port body log)
    ∙ ap (λ (r : List Body). r ++ bodies) (reverse-cons body (on_port port log))
    ∙ append_assoc (reverse (on_port port log)) (body ∷ []) bodies

pub accepted_else : (port p : ℕ) (bodies : List Body) (log : Log) → port ≢ p → on_port p (log_with port bodies log) ≡ on_port p log
accepted_else port p [] log other = refl
accepted_else port p (body ∷ bodies) log other = accepted_else port p bodies (record { port = port; body = body } ∷ log) other ∙ log_else port p body log other
