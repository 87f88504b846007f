use Rattle.std.proofs.Common.{◌≡◌, ◌∙◌, sym, ap, refl, subst, ℕ, List, [], ◌∷◌, ◌++◌, map, append_assoc, append-nil, Option, Some, length, cond}
use Rattle.ordered_link.specs.Receiving.{last}
use Rattle.switch_core.specs.declared.control.Control.{Control}
use Rattle.switch_core.specs.Switch.{SwitchOf, at_port}
use Rattle.an_base.specs.Values.{LifeId, EndId}
use Rattle.an_base.specs.declared.body.Body.{Body}
use Rattle.an_base.specs.declared.frame.Frame.TheVariants.{Carry, Ack}
use Rattle.frame_codec.specs.Spelling.{spelling}
use Rattle.switch_core.specs.Steps.{Step, Sent, still, after, carried_to, ack_to, sends_on, peer_among, pushed, pushed_to}
use Rattle.epoch_core.specs.Log.{OnPort, on_port}
use Rattle.std.proofs.lemmas.Bool.{eq-eqb}
use Rattle.switch_core.specs.Bytes.{BytesOut, all_spelled, spelled_out}
use Rattle.switch_core.specs.Stands.{Does, Done, Stands, IsSame, Carries}
use Rattle.switch_core.specs.Sessions.{AreSessions}
use Rattle.switch_core.specs.declared.session.Sessions.{Sessions}
use Rattle.ordered_link.specs.Sending.{Sending, push, sent_by_push}
use Rattle.ordered_link.specs.Session.{put_out}
use Rattle.switch_core.proofs.SessionLemmas.{at_the_port}

-- what goes out by two steps
pub spelled_append : (xs ys : List Sent) → all_spelled (xs ++ ys) ≡ all_spelled xs ++ all_spelled ys
spelled_append [] ys = refl
spelled_append (x ∷ xs) ys = ap (λ (l : List BytesOut). spelled_out x ∷ l) (spelled_append xs ys)

-- nothing is done by the step that does nothing
pub does_nothing : (c : Control) (out : List BytesOut) → Does (λ s. still s) c c out out
does_nothing c out s stands = (stands, sym (append-nil out))

-- two steps after one another
pub does_then : (f g : SwitchOf → Step) (a b c : Control) (x y z : List BytesOut) → Does f a b x y → Does g b c y z → Does (λ s. after (f s) (g (f s).switch)) a c x z
does_then f g a b c x y z first next s stands =
    let one = first s stands in
    let two = next (f s).switch one.0 in (
      two.0,
      two.1 ∙ ap (λ l. l ++ all_spelled (g (f s).switch).frames) one.1 ∙ append_assoc x (all_spelled (f s).frames) (all_spelled (g (f s).switch).frames)
          ∙ ap (λ l. x ++ l) (sym (spelled_append (f s).frames (g (f s).switch).frames)),
    )

-- another buffer changes nothing
pub stands_same : (old new : Control) (s : SwitchOf) → IsSame old new → Stands old s → Stands new s
stands_same old new s same stands = subst (λ c. Stands c s) (sym same) (assumption stands)

-- the spelling of a body that goes out
pub carried_spelled : (c : Control) (s : SwitchOf) (port k : ℕ) (peer end : EndId) (body : Body) → Stands c s → end ≡ record { life = c.life; port = port }
    → spelling (Carry (record { epoch = c.epoch; from = end; to = peer; number = k; body = body })) ≡ (spelled_out (carried_to s port peer (record { number = k; body = body }))).bytes
carried_spelled c s port k peer end body stands end_is =
    let from : end ≡ record { life = s.life; port = port } = end_is ∙ ap (λ (l : LifeId). record { life = l; port = port }) stands.life in
    ap (λ (e : EndId). spelling (Carry (record { epoch = c.epoch; from = e; to = peer; number = k; body = body }))) from
    ∙ ap (λ (n : ℕ). spelling (Carry (record { epoch = n; from = record { life = s.life; port = port }; to = peer; number = k; body = body }))) stands.epoch

-- and of an acknowledgement
pub ack_spelled : (c : Control) (s : SwitchOf) (port n : ℕ) (peer end : EndId) → Stands c s → end ≡ record { life = c.life; port = port } → n ≡ last (s.receivings port)
    → spelling (Ack c.epoch end peer n) ≡ (spelled_out (ack_to s port peer (last (s.receivings port)))).bytes
ack_spelled c s port n peer end stands end_is n_is =
    let from : end ≡ record { life = s.life; port = port } = end_is ∙ ap (λ (l : LifeId). record { life = l; port = port }) stands.life in
    ap (λ (e : EndId). spelling (Ack c.epoch e peer n)) from ∙ ap (λ (m : ℕ). spelling (Ack m (record { life = s.life; port = port }) peer n)) stands.epoch
    ∙ ap (λ (m : ℕ). spelling (Ack s.epoch (record { life = s.life; port = port }) peer m)) n_is

-- the session at a port sends
pub stands_sends : (c : Control) (s : SwitchOf) (port : ℕ) (t : Sending) (sessions : Sessions) → Stands c s → AreSessions sessions (at_port port t s.sendings) s.receivings → Stands (record c { sessions = sessions }) (record s { sendings = at_port port t s.sendings })
stands_sends c s port t sessions stands are = assumption (are, stands)

-- and one body goes out
pub sends_one : (old new : Control) (s : SwitchOf) (port k : ℕ) (peer : EndId) (t : Sending) (sessions : Sessions) (before after : List BytesOut) → Stands old s → AreSessions sessions (at_port port t s.sendings) s.receivings
    → IsSame (record old { sessions = sessions }) new → Carries (record old { sessions = sessions }) port peer k before after → Done new before after (sends_on port peer t (put_out t (Some k)) s)
sends_one old new s port k peer t sessions before after stands are same carries =
    let next = record s { sendings = at_port port t s.sendings } in
    let sent = stands_sends old s port t sessions stands are in (
      stands_same (record old { sessions = sessions }) new next same sent,
      carries next sent ∙ ap (λ (x : Sending). before ++ all_spelled (map (carried_to s port peer) (put_out x (Some k)))) (at_the_port port t s.sendings),
    )

-- a body for the port of a link is pushed in its session
pub pushed_some : (x : OnPort) (s : SwitchOf) (peer : EndId) → peer_among s.card.links x.port ≡ Some peer → pushed x s ≡ pushed_to (Some peer) x s
pushed_some x s peer is = ap (λ o. pushed_to o x s) is

-- the number that is left for one more
pub one_on_port : (x : OnPort) → length (on_port x.port (x ∷ [])) ≡ 1
one_on_port x = ap (λ b. length (cond b (x.body ∷ []) [])) (eq-eqb x.port x.port refl)

-- a body was pushed, and the body with the number that was answered went out
pub push_done : (old new : Control) (s : SwitchOf) (x : OnPort) (peer : EndId) (now : ℕ) (number : Option ℕ) (before after : List BytesOut) → now ≡ s.tick → peer_among s.card.links x.port ≡ Some peer → number ≡ sent_by_push x.body (s.sendings x.port)
    → Done new before after (sends_on x.port peer (push x.body now (s.sendings x.port)) (put_out (push x.body now (s.sendings x.port)) number) s)
    → Done new before after (pushed x s)
push_done old new s x peer now number before after tick there sent done =
    subst (λ step. Done new before after step)
    (ap (λ n. sends_on x.port peer (push x.body n (s.sendings x.port)) (put_out (push x.body n (s.sendings x.port)) number) s) tick
    ∙ ap (λ o. sends_on x.port peer (push x.body s.tick (s.sendings x.port)) (put_out (push x.body s.tick (s.sendings x.port)) o) s) sent
    ∙ sym (pushed_some x s peer there)) done

-- no body goes out
pub sends_none : (old : Control) (s : SwitchOf) (port : ℕ) (peer : EndId) (t : Sending) (sessions : Sessions) (out : List BytesOut) → Stands old s → AreSessions sessions (at_port port t s.sendings) s.receivings
    → Done (record old { sessions = sessions }) out out (sends_on port peer t [] s)
sends_none old s port peer t sessions out stands are = (stands_sends old s port t sessions stands are, sym (append-nil out))

-- what was sent at this tick is what is sent at the tick of the switch, by the number that the direction answers
pub sent_done : (new : Control) (s : SwitchOf) (port : ℕ) (peer : EndId) (now : ℕ) (number : Option ℕ) (change : ℕ → Sending → Sending) (answer : Sending → Option ℕ) (before after : List BytesOut) → now ≡ s.tick → number ≡ answer (s.sendings port)
    → Done new before after (sends_on port peer (change now (s.sendings port)) (put_out (change now (s.sendings port)) number) s)
    → Done new before after (sends_on port peer (change s.tick (s.sendings port)) (put_out (change s.tick (s.sendings port)) (answer (s.sendings port))) s)
sent_done new s port peer now number change answer before after tick sent done =
    subst (λ step. Done new before after step)
    (ap (λ n. sends_on port peer (change n (s.sendings port)) (put_out (change n (s.sendings port)) number) s) tick
    ∙ ap (λ o. sends_on port peer (change s.tick (s.sendings port)) (put_out (change s.tick (s.sendings port)) o) s) sent) done
