use Rattle.std.proofs.Common.{◌≡◌, ◌∙◌, sym, ap, refl, subst, ℕ, zero, suc, ◌+◌, ◌==◌, List, [], ◌∷◌, ◌++◌, append_assoc, append-nil, drop, drop_at, Option, Some, None, Bool, true, false, cond, true≢false}
use Rattle.std.proofs.Math.Seq.{drop-length}
use Rattle.std.specs.Prelude.{◌&&◌, ◌||◌, nat_le, not, is_some, option_copied}
use Rattle.std.specs.Borrow.{Bor}
use Rattle.an_base.specs.Values.{TopoOf}
use Rattle.an_base.specs.declared.body.Body.{Body}
use Rattle.ordered_link.specs.Receiving.{Receiving, accept, come, follow, follow_with, has_come, hold, last, verdict, accepted_by, after_verdict, follow_all, is_acknowledged, received}
use Rattle.ordered_link.specs.declared.receiver.Verdict.{Verdict}
use Rattle.ordered_link.specs.declared.receiver.Verdict.TheVariants as verdict
use Rattle.epoch_core.specs.Log.{CardOf, OnPort, Log}
use Rattle.epoch_core.specs.Epoch.{finish}
use Rattle.epoch_core.specs.StandsFor.{CoreOf, StandsFor}
use Rattle.switch_core.specs.declared.session.Sessions.{Sessions}
use Rattle.switch_core.specs.Switch.{SwitchOf, at_port}
use Rattle.switch_core.specs.declared.control.Control.{Control}
use Rattle.switch_core.specs.Sessions.{AreSessions, Receives, wanted}
use Rattle.switch_core.specs.Steps.{accepts, after, all_added, log_with, receives}
use Rattle.switch_core.specs.Stands.{Accepts as AcceptsBody, AcceptsInTurn, HasAccepting, HasCore, HasJoined, ReceivesBody, Stands, accepting, in_turn}
use Rattle.switch_core.proofs.SessionLemmas.{at_the_port}
use Rattle.switch_core.proofs.TurnLemmas.{changed_twice}

-- what is kept where the epoch was joined
joined_core : (o : Option CoreOf) (core : CoreOf) (joined : Bool) (card : CardOf) (log : Log) → o ≡ Some core → HasJoined o joined card log → (joined ≡ true) × HasCore core card log
joined_core o core joined card log is has = subst (λ (x : Option CoreOf). HasJoined x joined card log) is has

-- whether a load is due once a finish is looked for again
abbrev pub due_by : Bool → Bool → Bool → Bool
due_by due had has = due || (not had && has)

-- where there was none and there is one, a load is due
pub newly_due : (due had has : Bool) → had ≡ false → has ≡ true → true ≡ due_by due had has
newly_due true had has none some = refl
newly_due false had has none some = sym (ap (λ b. not b && has) none ∙ some)

-- where there is none, nothing new is due
pub still_due : (due had has : Bool) → has ≡ false → due ≡ due_by due had has
still_due true had has none = refl
still_due false true has none = refl
still_due false false has none = sym none

-- nor where there was one before
pub due_before : (due had has : Bool) → had ≡ true → due ≡ due_by due had has
due_before true had has some = refl
due_before false had has some = sym (ap (λ b. not b && has) some)

-- there is a finish where a copy of it is
pub copied_some : (o : Option (Bor TopoOf)) (finish : Option TopoOf) → option_copied o ≡ finish → is_some o ≡ is_some finish
copied_some None finish is = ap is_some is
copied_some (Some x) finish is = ap is_some is

-- the switch accepts what its core and its sessions accept in turn
accepted_stands : (port : ℕ) (body : Body) (old : Control) (core new_core : CoreOf) (sessions : Sessions) (due : Bool) (before after : List OnPort) → old.core ≡ Some core → AcceptsInTurn port body core new_core old.sessions sessions before after
    → ((log next : Log) → StandsFor core log → StandsFor new_core next → due ≡ due_by old.load_due (is_some (finish core.card log)) (is_some (finish new_core.card next)))
    → (s : SwitchOf) → Stands old s → Stands (record old { core = Some new_core; sessions = sessions; load_due = due }) (accepting port body s)
accepted_stands port body old core new_core sessions due before after there turned dues s stands =
    let has = joined_core old.core core s.joined s.card s.log there stands.joined in
    let next = log_with port (in_turn body (s.receivings port)) s.log in
    let new_stands : StandsFor new_core next = turned.core s.log s.sendings s.receivings has.1.stands stands.sessions in
    let card = turned.card ∙ has.1.joined_with in
    let joined : HasJoined (Some new_core) s.joined s.card next = (has.0, record { stands = new_stands; joined_with = card }) in
    let load_due = dues s.log next has.1.stands new_stands
    ∙ ap (λ b. due_by b (is_some (finish core.card s.log)) (is_some (finish new_core.card next))) stands.load_due
    ∙ ap (λ (c : CardOf). due_by s.load_due (is_some (finish c s.log)) (is_some (finish new_core.card next))) has.1.joined_with
    ∙ ap (λ (c : CardOf). due_by s.load_due (is_some (finish s.card s.log)) (is_some (finish c next))) card in
    assumption (joined, turned.sessions s.sendings s.receivings stands.sessions, load_due, stands)

-- and what these add goes out
pub accepts_then : (port : ℕ) (body : Body) (old : Control) (core new_core : CoreOf) (sessions : Sessions) (due : Bool) (before after : List OnPort) → old.core ≡ Some core → AcceptsInTurn port body core new_core old.sessions sessions before after
    → ((log next : Log) → StandsFor core log → StandsFor new_core next → due ≡ due_by old.load_due (is_some (finish core.card log)) (is_some (finish new_core.card next)))
    → AcceptsBody port body old (record old { core = Some new_core; sessions = sessions; load_due = due }) before after
accepts_then port body old core new_core sessions due before after there turned dues = record {
  stands = accepted_stands port body old core new_core sessions due before after there turned dues;
  sends = λ s stands.
      let has = joined_core old.core core s.joined s.card s.log there stands.joined in
      turned.sends s.log s.sendings s.receivings has.1.stands stands.sessions
      ∙ ap (λ (c : CardOf). before ++ all_added c port (in_turn body (s.receivings port)) s.log) has.1.joined_with;
  joined = refl;
}

-- whether a body is the wanted one
abbrev pub is_wanted : Verdict → Bool
is_wanted (verdict.Accepted body) = true
is_wanted (verdict.Held wanted got) = false
is_wanted (verdict.Repeat last) = false
is_wanted (verdict.Ahead wanted got) = false

-- by another one nothing is accepted
came_by : (has next near : Bool) (k : ℕ) (body : Body) (r : Receiving) → is_wanted (cond has (verdict.Repeat (last r)) (cond next (verdict.Accepted body) (cond near (verdict.Held (last r + 1) k) (verdict.Ahead (last r + 1) k)))) ≡ false
    → (cond has r (cond next (accept body r) (cond near (hold k (Some body) r) r))).accepted ≡ r.accepted
came_by true next near k body r other = refl
came_by false true near k body r other = absurd (true≢false other)
came_by false false true k body r other = refl
came_by false false false k body r other = refl

-- and nothing follows
after_other : (v : Verdict) (r : Receiving) → is_wanted v ≡ false → after_verdict v r ≡ r
after_other (verdict.Accepted body) r other = absurd (true≢false other)
after_other (verdict.Held wanted got) r other = refl
after_other (verdict.Repeat last) r other = refl
after_other (verdict.Ahead wanted got) r other = refl

-- so that no body is accepted by it
accepted_none : (k : ℕ) (body : Body) (r : Receiving) → is_wanted (verdict k body r) ≡ false → accepted_by k body r ≡ []
accepted_none k body r other =
    ap (λ (x : Receiving). drop (last r) x.accepted) (after_other (verdict k body r) (come k body r) other)
    ∙ ap (drop (last r)) (came_by (has_come k r) (k == last r + 1) (nat_le k (last r + 8)) k body r other)
    ∙ drop-length r.accepted

-- the body that a verdict hands on
abbrev body_or : Body → Verdict → Body
body_or other (verdict.Accepted body) = body
body_or other (verdict.Held wanted got) = other
body_or other (verdict.Repeat last) = other
body_or other (verdict.Ahead wanted got) = other

-- the wanted one is accepted at once
wanted_by : (has next near : Bool) (k : ℕ) (body first : Body) (r : Receiving) → cond has (verdict.Repeat (last r)) (cond next (verdict.Accepted body) (cond near (verdict.Held (last r + 1) k) (verdict.Ahead (last r + 1) k))) ≡ verdict.Accepted first
    → (body ≡ first) × (cond has r (cond next (accept body r) (cond near (hold k (Some body) r) r)) ≡ accept body r)
wanted_by true next near k body first r is = absurd (true≢false (sym (ap is_wanted is)))
wanted_by false true near k body first r is = (ap (body_or body) is, refl)
wanted_by false false true k body first r is = absurd (true≢false (sym (ap is_wanted is)))
wanted_by false false false k body first r is = absurd (true≢false (sym (ap is_wanted is)))

-- the bodies that were accepted before stay in front
front_with : (o : Option Body) (r : Receiving) → (rest : List Body) × ((follow_with o r).accepted ≡ r.accepted ++ rest)
front_with None r = ([], sym (append-nil r.accepted))
front_with (Some body) r = (body ∷ [], refl)

-- in any number of turns
front_all : (n : ℕ) (r : Receiving) → (rest : List Body) × ((follow_all n r).accepted ≡ r.accepted ++ rest)
front_all zero r = ([], sym (append-nil r.accepted))
front_all (suc n) r =
    let one = front_with (wanted r) r in
    let more = front_all n (follow r) in
    (one.0 ++ more.0, more.1 ∙ ap (λ (xs : List Body). xs ++ more.0) one.1 ∙ append_assoc r.accepted one.0 more.0)

-- so that the wanted body is the first of those that are accepted by it
first_taken : (body : Body) (r : Receiving) → drop (last r) (follow_all 7 (accept body r)).accepted ≡ in_turn body (accept body r)
first_taken body r =
    let x = accept body r in
    let front = front_all 7 x in
    ap (drop (last r)) (front.1 ∙ append_assoc r.accepted (body ∷ []) front.0) ∙ drop_at r.accepted (body ∷ front.0) (last r) refl
    ∙ ap (λ (xs : List Body). body ∷ xs) (sym (ap (drop (last x)) front.1 ∙ drop_at x.accepted front.0 (last x) refl))

-- and those that follow it come behind
accepted_first : (k : ℕ) (body first : Body) (r : Receiving) → verdict k body r ≡ verdict.Accepted first → accepted_by k body r ≡ in_turn first (come k body r)
accepted_first k body first r is =
    let by = wanted_by (has_come k r) (k == last r + 1) (nat_le k (last r + 8)) k body first r is in
    ap (λ v. drop (last r) (after_verdict v (come k body r)).accepted) is ∙ ap (λ (x : Receiving). drop (last r) (follow_all 7 x).accepted) by.1
    ∙ first_taken body r ∙ ap (in_turn body) (sym by.1) ∙ ap (λ b. in_turn b (come k body r)) by.0

-- the sessions changed by what was received
stands_received : (c : Control) (sessions : Sessions) (s : SwitchOf) (receivings : ℕ → Receiving) → Stands c s → AreSessions sessions s.sendings receivings → Stands (record c { sessions = sessions }) (record s { receivings = receivings })
stands_received c sessions s receivings stands are = assumption (are, stands)

-- by no body a finish comes
no_finish : (b : Bool) (due kept : Bool) → due ≡ kept → due ≡ (kept || (not b && b))
no_finish true true kept same = ap (λ x. x || false) same
no_finish true false kept same = ap (λ x. x || false) same
no_finish false true kept same = ap (λ x. x || false) same
no_finish false false kept same = ap (λ x. x || false) same

-- the switch after a body that is not the wanted one
stands_other : (port k : ℕ) (body : Body) (old : Control) (sessions : Sessions) (v : Verdict) (s : SwitchOf) → is_wanted v ≡ false → Receives port (come k body) (verdict k body) old.sessions sessions v → Stands old s → Stands (record old { sessions = sessions }) (receives port k body s)
stands_other port k body old sessions v s other receives_it stands =
    let r = s.receivings port in
    let done = receives_it s.sendings s.receivings stands.sessions in
    let not_wanted = ap is_wanted (sym done.1) ∙ other in
    let are = subst (λ (x : Receiving). AreSessions sessions s.sendings (at_port port x s.receivings)) (sym (after_other (verdict k body r) (come k body r) not_wanted)) done.0 in
    let st = stands_received old sessions s (at_port port (received k body r) s.receivings) stands are in
    subst (λ (bodies : List Body). Stands (record old { sessions = sessions }) (accepts port bodies (record s { receivings = at_port port (received k body r) s.receivings }))) (sym (accepted_none k body r not_wanted))
    (record { life = st.life; any = st.any; monitor = st.monitor; ports = st.ports; epoch = st.epoch; joined = st.joined; links = st.links; sessions = st.sessions; number = st.number; load_due = no_finish (is_some (finish s.card s.log)) old.load_due s.load_due stands.load_due; tick = st.tick; spent = st.spent })

-- which adds nothing
pub receives_other : (port k : ℕ) (body : Body) (old : Control) (sessions : Sessions) (v : Verdict) (sends : List OnPort) (answer : Bool) → is_wanted v ≡ false → answer ≡ is_acknowledged v → HasAccepting old.core → Receives port (come k body) (verdict k body) old.sessions sessions v
    → ReceivesBody port k body old (record old { sessions = sessions }) sends sends answer
receives_other port k body old sessions v sends answer other acked core receives_it = record {
  stands = λ s stands. stands_other port k body old sessions v s other receives_it stands;
  sends = λ s stands.
      let done = receives_it s.sendings s.receivings stands.sessions in
      sym (ap (λ (bodies : List Body). sends ++ all_added s.card port bodies s.log) (accepted_none k body (s.receivings port) (ap is_wanted (sym done.1) ∙ other)) ∙ append-nil sends);
  acknowledged = λ s stands. acked ∙ ap is_acknowledged (receives_it s.sendings s.receivings stands.sessions).1;
  joined = ap is_some core.1;
}

-- the wanted one comes
stands_wanted : (port k : ℕ) (body first : Body) (old new : Control) (sessions : Sessions) (before after : List OnPort) (s : SwitchOf) → Receives port (come k body) (verdict k body) old.sessions sessions (verdict.Accepted first) → AcceptsBody port first (record old { sessions = sessions }) new before after
    → Stands old s → Stands new (receives port k body s)
stands_wanted port k body first old new sessions before after s receives_it accepts_it stands =
    let r = s.receivings port in
    let done = receives_it s.sendings s.receivings stands.sessions in
    let x = come k body r in
    let there = at_the_port port x s.receivings in
    let mid : SwitchOf = record s { receivings = at_port port x s.receivings } in
    let st = accepts_it.stands mid (stands_received old sessions s mid.receivings stands done.0) in
    let bodies = ap (in_turn first) there ∙ sym (accepted_first k body first r (sym done.1)) in
    let accepted = subst (λ (xs : List Body). Stands new (accepts port xs (record mid { receivings = at_port port (follow_all 7 (mid.receivings port)) mid.receivings }))) bodies st in
    let last_one = ap (follow_all 7) there ∙ sym (ap (λ v. after_verdict v x) (sym done.1)) in
    let are = changed_twice new.sessions port x (received k body r) s.sendings s.receivings (subst (λ (y : Receiving). AreSessions new.sessions s.sendings (at_port port y mid.receivings)) last_one st.sessions) in
    stands_received new new.sessions (accepts port (accepted_by k body r) (record mid { receivings = at_port port (follow_all 7 (mid.receivings port)) mid.receivings })) (at_port port (received k body r) s.receivings) accepted are

-- and what is accepted by it adds what it adds
pub receives_wanted : (port k : ℕ) (body first : Body) (old new : Control) (sessions : Sessions) (before after : List OnPort) → Receives port (come k body) (verdict k body) old.sessions sessions (verdict.Accepted first) → AcceptsBody port first (record old { sessions = sessions }) new before after
    → ReceivesBody port k body old new before after true
receives_wanted port k body first old new sessions before after receives_it accepts_it = record {
  stands = λ s stands. stands_wanted port k body first old new sessions before after s receives_it accepts_it stands;
  sends = λ s stands.
      let r = s.receivings port in
      let done = receives_it s.sendings s.receivings stands.sessions in
      let mid : SwitchOf = record s { receivings = at_port port (come k body r) s.receivings } in
      accepts_it.sends mid (stands_received old sessions s mid.receivings stands done.0)
      ∙ ap (λ (bodies : List Body). before ++ all_added s.card port bodies s.log) (ap (in_turn first) (at_the_port port (come k body r) s.receivings) ∙ sym (accepted_first k body first r (sym done.1)));
  acknowledged = λ s stands. ap is_acknowledged (receives_it s.sendings s.receivings stands.sessions).1;
  joined = accepts_it.joined;
}
