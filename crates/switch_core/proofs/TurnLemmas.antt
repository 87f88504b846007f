use Rattle.std.proofs.Common.{◌≡◌, ◌∙◌, sym, ap, refl, subst, arith, ℕ, zero, suc, ◌+◌, ◌-◌, ◌<◌, ◌≤◌, ◌==◌, List, [], ◌∷◌, ◌++◌, append_assoc, append-nil, length-append, drop, Option, Some, None, Bool, true, false, cond}
use Rattle.std.proofs.Math.Seq.{drop-length}
use Rattle.std.proofs.lemmas.Bool.{eqb-true}
use Rattle.std.proofs.lemmas.List.{drop-append-le}
use Rattle.an_base.specs.declared.body.Body.{Body}
use Rattle.ordered_link.specs.Sending.{Sending}
use Rattle.ordered_link.specs.Receiving.{Receiving, follow, follow_with, last, follow_all}
use Rattle.epoch_core.specs.Log.{CardOf, OnPort, Log}
use Rattle.epoch_core.specs.Epoch.{adds}
use Rattle.epoch_core.specs.StandsFor.{CoreOf, StandsFor, Accepts}
use Rattle.switch_core.specs.declared.session.Sessions.{Sessions}
use Rattle.switch_core.specs.Switch.{at_port}
use Rattle.switch_core.specs.Sessions.{AreSessions, Receives, wanted}
use Rattle.switch_core.specs.Steps.{accepts, after, all_added, log_with, receives}
use Rattle.switch_core.specs.Stands.{AcceptsInTurn}
use Rattle.switch_core.proofs.SessionLemmas.{are_of_same, at_the_port}

-- one more turn, at the end
follow_more : (n : ℕ) (r : Receiving) → follow_all (suc n) r ≡ follow (follow_all n r)
follow_more zero r = refl
follow_more (suc n) r = follow_more n (follow r)

-- some turns, and then others
follow_split : (n m : ℕ) (r : Receiving) → follow_all (n + m) r ≡ follow_all m (follow_all n r)
follow_split zero m r = let e : zero + m ≡ m = omega arith in ap (λ k. follow_all k r) e
follow_split (suc n) m r = let e : suc n + m ≡ suc (n + m) = omega arith in ap (λ k. follow_all k r) e ∙ follow_split n m (follow r)

-- where the next body is not held, no turn changes anything
follow_none : (r : Receiving) → wanted r ≡ None → follow r ≡ r
follow_none r none = ap (λ (o : Option Body). follow_with o r) none

-- and so none of any number of turns does
all_none : (n : ℕ) (r : Receiving) → wanted r ≡ None → follow_all n r ≡ r
all_none zero r none = refl
all_none (suc n) r none = ap (follow_all n) (follow_none r none) ∙ all_none n r none

-- so that the turns before are all
no_more : (n : ℕ) (r : Receiving) → n ≤ 7 → wanted (follow_all n r) ≡ None → follow_all 7 r ≡ follow_all n r
no_more n r few none = let e : 7 ≡ n + (7 - n) = omega (arith, few) in ap (λ k. follow_all k r) e ∙ follow_split n (7 - n) r ∙ all_none (7 - n) (follow_all n r) none

-- a turn never makes the accepted bodies fewer
longer_with : (o : Option Body) (r : Receiving) → last r ≤ last (follow_with o r)
longer_with None r = omega arith
longer_with (Some body) r = let e = length-append r.accepted (body ∷ []) in omega (arith, e)

-- nor do any number of turns
longer : (n : ℕ) (r : Receiving) → last r ≤ last (follow_all n r)
longer zero r = omega arith
longer (suc n) r = let a = longer_with (wanted r) r in let b = longer n (follow r) in omega (arith, a, b)

-- the bodies of so many turns, and of one more
abbrev pub taken : ℕ → Receiving → List Body
taken n r = drop (last r) (follow_all n r).accepted

-- one turn more takes the body that is held
taken_more : (n : ℕ) (r : Receiving) (body : Body) → wanted (follow_all n r) ≡ Some body → taken (suc n) r ≡ taken n r ++ body ∷ []
taken_more n r body held =
    ap (λ (x : Receiving). drop (last r) x.accepted) (follow_more n r)
    ∙ ap (λ (o : Option Body). drop (last r) (follow_with o (follow_all n r)).accepted) held
    ∙ drop-append-le (last r) (follow_all n r).accepted (body ∷ []) (longer n r)

-- one body more is accepted
log_more : (port : ℕ) (bodies : List Body) (body : Body) (log : Log) → log_with port (bodies ++ body ∷ []) log ≡ record { port = port; body = body } ∷ log_with port bodies log
log_more port [] body log = refl
log_more port (b ∷ bodies) body log = log_more port bodies body (record { port = port; body = b } ∷ log)

-- and what it adds comes last
added_more : (c : CardOf) (port : ℕ) (bodies : List Body) (body : Body) (log : Log) → all_added c port (bodies ++ body ∷ []) log ≡ all_added c port bodies log ++ adds c (record { port = port; body = body } ∷ log_with port bodies log)
added_more c port [] body log = append-nil (adds c (record { port = port; body = body } ∷ log))
added_more c port (b ∷ bodies) body log =
    let next : Log = record { port = port; body = b } ∷ log in
    ap (λ (xs : List OnPort). adds c next ++ xs) (added_more c port bodies body next)
    ∙ sym (append_assoc (adds c next) (all_added c port bodies next) (adds c (record { port = port; body = body } ∷ log_with port bodies next)))

-- a session that was changed twice
twice : (b : Bool) (x y z : Receiving) → cond b y (cond b x z) ≡ cond b y z
twice true x y z = refl
twice false x y z = refl

-- is as it was changed the second time
pub changed_twice : (sessions : Sessions) (port : ℕ) (x y : Receiving) (t : ℕ → Sending) (r : ℕ → Receiving) → AreSessions sessions t (at_port port y (at_port port x r)) → AreSessions sessions t (at_port port y r)
changed_twice sessions port x y t r = are_of_same sessions t t (at_port port y (at_port port x r)) (at_port port y r) (λ q. refl) (λ q. twice (q == port) x y (r q))

-- a wanted body was accepted, and what so many turns took
pub record Turned (n port : ℕ) (body : Body) (old new : CoreOf) (old_sessions new_sessions : Sessions) (before after : List OnPort) : Type 0 where
  pub few : n ≤ 7
  pub core : (log : Log) (t : ℕ → Sending) (r : ℕ → Receiving) → StandsFor old log → AreSessions old_sessions t r → StandsFor new (log_with port (body ∷ taken n (r port)) log)
  pub sessions : (t : ℕ → Sending) (r : ℕ → Receiving) → AreSessions old_sessions t r → AreSessions new_sessions t (at_port port (follow_all n (r port)) r)
  pub card : new.card ≡ old.card
  pub version : new.version ≤ old.version + 1 + n
  pub sends : (log : Log) (t : ℕ → Sending) (r : ℕ → Receiving) → StandsFor old log → AreSessions old_sessions t r → after ≡ before ++ all_added old.card port (body ∷ taken n (r port)) log

-- a receiver that stays as it is
same_there : (b : Bool) (i port : ℕ) (r : ℕ → Receiving) → b ≡ (i == port) → cond b (r port) (r i) ≡ r i
same_there true i port r test = ap r (sym (eqb-true i port (sym test)))
same_there false i port r test = refl

-- what goes out by one body more
added_after : (c d : CardOf) (port : ℕ) (body : Body) (bodies more : List Body) (next : Body) (log : Log) (before between : List OnPort) → d ≡ c → more ≡ bodies ++ next ∷ [] → between ≡ before ++ all_added c port (body ∷ bodies) log
    → between ++ adds d (record { port = port; body = next } ∷ log_with port (body ∷ bodies) log) ≡ before ++ all_added c port (body ∷ more) log
added_after c d port body bodies more next log before between same is sends =
    let last_one : CardOf → List OnPort = λ e. adds e (record { port = port; body = next } ∷ log_with port (body ∷ bodies) log) in
    ap (λ (e : CardOf). between ++ last_one e) same ∙ ap (λ (xs : List OnPort). xs ++ last_one c) sends
    ∙ append_assoc before (all_added c port (body ∷ bodies) log) (last_one c)
    ∙ ap (λ (xs : List OnPort). before ++ xs) (sym (ap (λ (xs : List Body). all_added c port (body ∷ xs) log) is ∙ added_more c port (body ∷ bodies) next log))

-- at first none was taken
pub turned_first : (port : ℕ) (body : Body) (old new : CoreOf) (sessions : Sessions) (before after : List OnPort) → Accepts old new (record { port = port; body = body }) before after → Turned 0 port body old new sessions sessions before after
turned_first port body old new sessions before after accepts =
    let x : OnPort = record { port = port; body = body } in
    record {
      few = omega arith;
      core = λ log t r stands are. subst (λ (xs : List Body). StandsFor new (log_with port (body ∷ xs) log)) (sym (drop-length (r port).accepted)) (accepts.stands log stands);
      sessions = λ t r. are_of_same sessions t t r (at_port port (follow_all 0 (r port)) r) (λ q. refl) (λ q. sym (same_there (q == port) q port r refl));
      card = accepts.card;
      version = omega (arith, accepts.version);
      sends = λ log t r stands are. accepts.sends log stands ∙ ap (λ (xs : List OnPort). before ++ xs) (sym (ap (λ (xs : List Body). all_added old.card port (body ∷ xs) log) (drop-length (r port).accepted) ∙ append-nil (adds old.card (x ∷ log))));
    }

-- what the sessions are by a turn
turned_to : (n port : ℕ) (sessions next : Sessions) (number : Option Body) (t : ℕ → Sending) (r : ℕ → Receiving) → AreSessions sessions t (at_port port (follow_all n (r port)) r) → Receives port follow wanted sessions next number
    → AreSessions next t (at_port port (follow (follow_all n (r port))) r) × (number ≡ wanted (follow_all n (r port)))
turned_to n port sessions next number t r are receives =
    let x = follow_all n (r port) in
    let is = at_the_port port x r in
    let done = receives t (at_port port x r) are in (
      changed_twice next port x (follow x) t r (subst (λ (z : Receiving). AreSessions next t (at_port port (follow z) (at_port port x r))) is done.0),
      done.1 ∙ ap wanted is,
    )

-- one turn more
pub turned_more : (n port : ℕ) (body taken_now : Body) (old mid new : CoreOf) (old_sessions mid_sessions new_sessions : Sessions) (before between after : List OnPort) → n < 7 → Turned n port body old mid old_sessions mid_sessions before between
    → Receives port follow wanted mid_sessions new_sessions (Some taken_now) → Accepts mid new (record { port = port; body = taken_now }) between after → Turned (n + 1) port body old new old_sessions new_sessions before after
turned_more n port body next old mid new old_sessions mid_sessions new_sessions before between after low turned receives accepts =
    let x : OnPort = record { port = port; body = next } in
    let e : n + 1 ≡ suc n = omega arith in
    let by : (t : ℕ → Sending) (r : ℕ → Receiving) → AreSessions old_sessions t r → taken (n + 1) (r port) ≡ taken n (r port) ++ next ∷ [] = λ t r are.
    ap (λ m. taken m (r port)) e ∙ taken_more n (r port) next (sym (turned_to n port mid_sessions new_sessions (Some next) t r (turned.sessions t r are) receives).1) in
    record {
      few = omega (arith, low);
      core = λ log t r stands are. subst (λ l. StandsFor new l) (sym (ap (λ (xs : List Body). log_with port (body ∷ xs) log) (by t r are) ∙ log_more port (body ∷ taken n (r port)) next log)) (accepts.stands (log_with port (body ∷ taken n (r port)) log) (turned.core log t r stands are));
      sessions = λ t r are. subst (λ (z : Receiving). AreSessions new_sessions t (at_port port z r)) (sym (ap (λ m. follow_all m (r port)) e ∙ follow_more n (r port))) (turned_to n port mid_sessions new_sessions (Some next) t r (turned.sessions t r are) receives).0;
      card = accepts.card ∙ turned.card;
      version = omega (arith, accepts.version, turned.version);
      sends = λ log t r stands are. accepts.sends (log_with port (body ∷ taken n (r port)) log) (turned.core log t r stands are)
          ∙ added_after old.card mid.card port body (taken n (r port)) (taken (n + 1) (r port)) next log before between turned.card (by t r are) (turned.sends log t r stands are);
    }

-- no body was left, and so all were taken
pub turned_none : (n port : ℕ) (body : Body) (old new : CoreOf) (old_sessions mid_sessions new_sessions : Sessions) (before after : List OnPort) → Turned n port body old new old_sessions mid_sessions before after → Receives port follow wanted mid_sessions new_sessions None
    → AcceptsInTurn port body old new old_sessions new_sessions before after
turned_none n port body old new old_sessions mid_sessions new_sessions before after turned receives =
    let is : (t : ℕ → Sending) (r : ℕ → Receiving) → AreSessions old_sessions t r → follow_all 7 (r port) ≡ follow_all n (r port) = λ t r are.
    no_more n (r port) turned.few (sym (turned_to n port mid_sessions new_sessions None t r (turned.sessions t r are) receives).1) in
    record {
      core = λ log t r stands are. subst (λ (z : Receiving). StandsFor new (log_with port (body ∷ drop (last (r port)) z.accepted) log)) (sym (is t r are)) (turned.core log t r stands are);
      sessions = λ t r are.
          let to = turned_to n port mid_sessions new_sessions None t r (turned.sessions t r are) receives in
          subst (λ (z : Receiving). AreSessions new_sessions t (at_port port z r)) (follow_none (follow_all n (r port)) (sym to.1) ∙ sym (is t r are)) to.0;
      card = turned.card;
      sends = λ log t r stands are. subst (λ (z : Receiving). after ≡ before ++ all_added old.card port (body ∷ drop (last (r port)) z.accepted) log) (sym (is t r are)) (turned.sends log t r stands are);
    }

-- or seven were taken, which are all
pub turned_all : (n port : ℕ) (body : Body) (old new : CoreOf) (old_sessions new_sessions : Sessions) (before after : List OnPort) → n ≡ 7 → Turned n port body old new old_sessions new_sessions before after → AcceptsInTurn port body old new old_sessions new_sessions before after
turned_all n port body old new old_sessions new_sessions before after seven turned =
    let all = subst (λ m. Turned m port body old new old_sessions new_sessions before after) seven turned in
    record { core = all.core; sessions = all.sessions; card = all.card; sends = all.sends }
