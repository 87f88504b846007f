use Rattle.std.proofs.Common.{◌≡◌, ◌≢◌, ◌∙◌, sym, ap, refl, subst, ℕ, List, append-nil, Option, Some, None, Bool, true, false, cond, ◌&&◌}
use Rattle.std.proofs.lemmas.Bool.{eq-eqb, ne_eqb}
use Rattle.std.proofs.lemmas.Option.{none-some}
use Rattle.an_base.specs.Values.{EndId}
use Rattle.ordered_link.specs.Sending.{acknowledge, forget, is_outstanding, next_to_send, send_next, sent_by_ack}
use Rattle.switch_core.specs.declared.control.Control.{Control}
use Rattle.switch_core.specs.declared.session.Sessions.{Sessions}
use Rattle.switch_core.specs.Switch.{SwitchOf, at_port}
use Rattle.switch_core.specs.Sessions.{AreSessions}
use Rattle.switch_core.specs.Steps.{after, acknowledges, fills, on_ack, sends_on, still}
use Rattle.ordered_link.specs.Session.{put_out}
use Rattle.switch_core.specs.Bytes.{BytesOut}
use Rattle.switch_core.specs.Stands.{Done, Stands}
use Rattle.switch_core.proofs.SessionLemmas.{at_the_port}
use Rattle.switch_core.proofs.StandsLemmas.{sends_none}
use Rattle.switch_core.proofs.FillLemmas.{fills_none, no_next, stands_same_at, none_out}

-- an acknowledgement of another epoch is nothing
pub other_epoch : (port n epoch : ℕ) (peer : EndId) (s : SwitchOf) → epoch ≢ s.epoch → on_ack port peer epoch n s ≡ still s
other_epoch port n epoch peer s other =
    ap (λ b. cond (b && is_outstanding n (s.sendings port)) (after (acknowledges port peer n s) (fills 7 port peer (acknowledges port peer n s).switch)) (still s)) (ne_eqb epoch s.epoch other)

-- one of this epoch goes by whether its number is outstanding
this_epoch : (port n epoch : ℕ) (peer : EndId) (s : SwitchOf) (b : Bool) → epoch ≡ s.epoch → is_outstanding n (s.sendings port) ≡ b → on_ack port peer epoch n s ≡ cond b (after (acknowledges port peer n s) (fills 7 port peer (acknowledges port peer n s).switch)) (still s)
this_epoch port n epoch peer s b same out =
    ap (λ c. cond (c && is_outstanding n (s.sendings port)) (after (acknowledges port peer n s) (fills 7 port peer (acknowledges port peer n s).switch)) (still s)) (eq-eqb epoch s.epoch same)
    ∙ ap (λ c. cond c (after (acknowledges port peer n s) (fills 7 port peer (acknowledges port peer n s).switch)) (still s)) out

-- a body goes out only where the number is outstanding
some_out : (b : Bool) (next : Option ℕ) (k : ℕ) → cond b next None ≡ Some k → b ≡ true
some_out true next k is = refl
some_out false next k is = absurd (none-some k is)

pub acked_some : (port n epoch k : ℕ) (peer : EndId) (s : SwitchOf) → epoch ≡ s.epoch → sent_by_ack n (s.sendings port) ≡ Some k → on_ack port peer epoch n s ≡ after (acknowledges port peer n s) (fills 7 port peer (acknowledges port peer n s).switch)
acked_some port n epoch k peer s same sent =
    this_epoch port n epoch peer s true same (some_out (is_outstanding n (s.sendings port)) (next_to_send (forget n (s.sendings port))) k sent)

-- where none does, the window is not filled either
none_acked : (b : Bool) (c : Control) (sessions : Sessions) (port n epoch : ℕ) (peer : EndId) (s : SwitchOf) (out : List BytesOut) → is_outstanding n (s.sendings port) ≡ b → epoch ≡ s.epoch → sent_by_ack n (s.sendings port) ≡ None → Stands c s
    → AreSessions sessions (at_port port (acknowledge n s.tick (s.sendings port)) s.sendings) s.receivings → Done (record c { sessions = sessions }) out out (on_ack port peer epoch n s)
none_acked false c sessions port n epoch peer s out test same sent stands are =
    let t = s.sendings port in
    let kept : acknowledge n s.tick t ≡ t = ap (λ b. cond b (send_next s.tick (forget n t)) t) test in
    subst (λ step. Done (record c { sessions = sessions }) out out step) (sym (this_epoch port n epoch peer s false same test))
    (stands_same_at c sessions port (acknowledge n s.tick t) s kept stands are, sym (append-nil out))
none_acked true c sessions port n epoch peer s out test same sent stands are =
    let t = s.sendings port in
    let u = acknowledge n s.tick t in
    let next : next_to_send (forget n t) ≡ None = ap (λ b. cond b (next_to_send (forget n t)) None) (sym test) ∙ sent in
    let is : u ≡ forget n t = ap (λ b. cond b (send_next s.tick (forget n t)) t) test ∙ no_next s.tick (forget n t) next in
    let first : Done (record c { sessions = sessions }) out out (acknowledges port peer n s) =
    subst (λ (o : Option ℕ). Done (record c { sessions = sessions }) out out (sends_on port peer u (put_out u o) s)) (sym sent) (sends_none c s port peer u sessions out stands are) in
    let rest = fills_none 7 port peer (record c { sessions = sessions }) out (acknowledges port peer n s).switch (ap next_to_send (at_the_port port u s.sendings ∙ is) ∙ next) first.0 in
    subst (λ step. Done (record c { sessions = sessions }) out out step) (sym (this_epoch port n epoch peer s true same test))
    (rest.0, none_out out (acknowledges port peer n s).frames (fills 7 port peer (acknowledges port peer n s).switch).frames first.1 rest.1)

pub acked_none : (c : Control) (sessions : Sessions) (port n epoch now : ℕ) (peer : EndId) (s : SwitchOf) (out : List BytesOut) → now ≡ s.tick → epoch ≡ s.epoch → sent_by_ack n (s.sendings port) ≡ None → Stands c s
    → AreSessions sessions (at_port port (acknowledge n now (s.sendings port)) s.sendings) s.receivings → Done (record c { sessions = sessions }) out out (on_ack port peer epoch n s)
acked_none c sessions port n epoch now peer s out tick same sent stands are =
    none_acked (is_outstanding n (s.sendings port)) c sessions port n epoch peer s out refl same sent stands
    (subst (λ m. AreSessions sessions (at_port port (acknowledge n m (s.sendings port)) s.sendings) s.receivings) tick are)
