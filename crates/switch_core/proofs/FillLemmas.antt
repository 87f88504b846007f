use Rattle.std.proofs.Common.{◌≡◌, ◌∙◌, sym, ap, refl, subst, ℕ, zero, suc, ◌+◌, ◌==◌, arith, List, [], ◌++◌, append_assoc, append-nil, Option, Some, None, Bool, true, false, cond, ◌∷◌, map}
use Rattle.std.proofs.lemmas.Bool.{eqb-true}
use Rattle.std.proofs.lemmas.Option.{none-some}
use Rattle.an_base.specs.Values.{EndId}
use Rattle.ordered_link.specs.Sending.{Sending, may_send, next_to_send, send_next, highest}
use Rattle.ordered_link.specs.Receiving.{Receiving}
use Rattle.ordered_link.specs.Session.{put_out}
use Rattle.switch_core.specs.declared.control.Control.{Control}
use Rattle.switch_core.specs.declared.session.Sessions.{Sessions}
use Rattle.switch_core.specs.Switch.{SwitchOf, at_port}
use Rattle.switch_core.specs.Sessions.{AreSessions}
use Rattle.switch_core.specs.Steps.{Sent, after, carried_to, still, fills, sends_next}
use Rattle.switch_core.specs.Bytes.{BytesOut, all_spelled}
use Rattle.switch_core.specs.Stands.{Does, Done, Stands}
use Rattle.switch_core.proofs.SessionLemmas.{are_of_same, at_the_port}
use Rattle.switch_core.proofs.StandsLemmas.{does_nothing, does_then, spelled_append, stands_sends}

-- more times after some
fills_split : (n m port : ℕ) (peer : EndId) (s : SwitchOf) → fills (n + m) port peer s ≡ after (fills n port peer s) (fills m port peer (fills n port peer s).switch)
fills_split zero m port peer s = let e : zero + m ≡ m = omega arith in ap (λ k. fills k port peer s) e
fills_split (suc n) m port peer s =
    let e : suc n + m ≡ suc (n + m) = omega arith in
    ap (λ k. fills k port peer s) e
    ∙ ap (after (sends_next port peer s)) (fills_split n m port peer (sends_next port peer s).switch)
    ∙ ap (λ (frames : List Sent). record { switch = (fills m port peer (fills n port peer (sends_next port peer s).switch).switch).switch; frames = frames })
    (sym (append_assoc (sends_next port peer s).frames (fills n port peer (sends_next port peer s).switch).frames (fills m port peer (fills n port peer (sends_next port peer s).switch).switch).frames))

pub fills_then : (n m port : ℕ) (peer : EndId) (a b c : Control) (u v w : List BytesOut) → Does (fills n port peer) a b u v → Does (fills m port peer) b c v w → Does (fills (n + m) port peer) a c u w
fills_then n m port peer a b c u v w first next s stands =
    subst (λ step. Done c u w step) (sym (fills_split n m port peer s)) (does_then (fills n port peer) (fills m port peer) a b c u v w first next s stands)

pub fills_one : (port : ℕ) (peer : EndId) (a b : Control) (u v : List BytesOut) → Does (sends_next port peer) a b u v → Does (fills 1 port peer) a b u v
fills_one port peer a b u v next = does_then (sends_next port peer) (λ s. still s) a b b u v v next (does_nothing b v)

-- where nothing waits that may be sent, nothing changes
none_stays : (b : Bool) (k now : ℕ) (t : Sending) → cond b (Some k) None ≡ None → cond b (record t { sent = t.sent ++ now ∷ [] }) t ≡ t
none_stays true k now t none = absurd (none-some k (sym none))
none_stays false k now t none = refl

pub no_next : (now : ℕ) (t : Sending) → next_to_send t ≡ None → send_next now t ≡ t
no_next now t none = none_stays (may_send t) (highest t + 1) now t none

-- the value that is there already
same_case : (b : Bool) (port i : ℕ) (u : Sending) (t : ℕ → Sending) → b ≡ (i == port) → u ≡ t port → cond b u (t i) ≡ t i
same_case true port i u t test same = same ∙ ap t (sym (eqb-true i port (sym test)))
same_case false port i u t test same = refl

are_same : (sessions : Sessions) (port : ℕ) (u : Sending) (t : ℕ → Sending) (r : ℕ → Receiving) → u ≡ t port → AreSessions sessions t r → AreSessions sessions (at_port port u t) r
are_same sessions port u t r same = are_of_same sessions t (at_port port u t) r r (λ q. sym (same_case (q == port) port q u t refl same)) (λ q. refl)

are_as_before : (sessions : Sessions) (port : ℕ) (u : Sending) (t : ℕ → Sending) (r : ℕ → Receiving) → u ≡ t port → AreSessions sessions (at_port port u t) r → AreSessions sessions t r
are_as_before sessions port u t r same = are_of_same sessions (at_port port u t) t r r (λ q. same_case (q == port) port q u t refl same) (λ q. refl)

-- the sessions after nothing was sent
pub stands_same_at : (c : Control) (sessions : Sessions) (port : ℕ) (t : Sending) (s : SwitchOf) → t ≡ s.sendings port → Stands c s → AreSessions sessions (at_port port t s.sendings) s.receivings → Stands (record c { sessions = sessions }) s
stands_same_at c sessions port t s same stands are = assumption (are_as_before sessions port t s.sendings s.receivings same are, stands)

pub stands_unsent : (c : Control) (sessions : Sessions) (port now : ℕ) (s : SwitchOf) → next_to_send (s.sendings port) ≡ None → Stands c s → AreSessions sessions (at_port port (send_next now (s.sendings port)) s.sendings) s.receivings → Stands (record c { sessions = sessions }) s
stands_unsent c sessions port now s none stands are = stands_same_at c sessions port (send_next now (s.sendings port)) s (no_next now (s.sendings port) none) stands are

sends_nothing : (c : Control) (port : ℕ) (peer : EndId) (out : List BytesOut) (s : SwitchOf) → next_to_send (s.sendings port) ≡ None → Stands c s → Done c out out (sends_next port peer s)
sends_nothing c port peer out s none stands =
    let t = send_next s.tick (s.sendings port) in (
      stands_sends c s port t c.sessions stands (are_same c.sessions port t s.sendings s.receivings (no_next s.tick (s.sendings port) none) stands.sessions),
      sym (ap (λ (o : Option ℕ). out ++ all_spelled (map (carried_to s port peer) (put_out t o))) none ∙ append-nil out),
    )

pub none_out : (out : List BytesOut) (xs ys : List Sent) → out ≡ out ++ all_spelled xs → out ≡ out ++ all_spelled ys → out ≡ out ++ all_spelled (xs ++ ys)
none_out out xs ys first next = next ∙ ap (λ l. l ++ all_spelled ys) first ∙ append_assoc out (all_spelled xs) (all_spelled ys) ∙ ap (λ l. out ++ l) (sym (spelled_append xs ys))

pub fills_none : (n port : ℕ) (peer : EndId) (c : Control) (out : List BytesOut) (s : SwitchOf) → next_to_send (s.sendings port) ≡ None → Stands c s → Done c out out (fills n port peer s)
fills_none zero port peer c out s none stands = (stands, sym (append-nil out))
fills_none (suc n) port peer c out s none stands =
    let one = sends_nothing c port peer out s none stands in
    let t = send_next s.tick (s.sendings port) in
    let again = ap next_to_send (at_the_port port t s.sendings ∙ no_next s.tick (s.sendings port) none) ∙ none in
    let rest = fills_none n port peer c out (sends_next port peer s).switch again one.0 in
    (rest.0, none_out out (sends_next port peer s).frames (fills n port peer (sends_next port peer s).switch).frames one.1 rest.1)
