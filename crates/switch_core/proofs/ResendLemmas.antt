-- Bodies that are due: the least of them heads the list, and leaves it once it was sent again.
use Rattle.std.proofs.Common.{◌≡◌, ◌∙◌, sym, ap, refl, subst, ℕ, zero, suc, ◌+◌, ◌-◌, ◌<◌, ◌≤◌, ◌==◌, arith, List, [], ◌∷◌, ◌++◌, append_assoc, add-one, drop, length, length-set, get_or, set, slice_get, Option, Some, None, IfSome, Bool, true, false, cond, ◌&&◌, nat_le}
use Rattle.std.specs.Prelude.{IfNone}
use Rattle.std.proofs.Math.Seq.{drop-cons}
use Rattle.std.proofs.lemmas.Bool.{eqb-true, le-leb, lt-leb, lt-ltb}
use Rattle.std.proofs.lemmas.List.{drop_all, nil_from_length}
use Rattle.std.proofs.lemmas.Option.{none-some, same_Some, slice_get-get_or}
use Rattle.an_base.specs.Values.{EndId, PeerAt}
use Rattle.ordered_link.specs.Sending.{Sending, SenderOf, IsKeptOf, IsOut, IsDue, highest, send_again, is_due, due, due_from, first_due, first_of}
use Rattle.ordered_link.specs.Session.{put_out}
use Rattle.switch_core.specs.declared.control.Control.{Control}
use Rattle.switch_core.specs.declared.session.Sessions.{Sessions}
use Rattle.switch_core.specs.Bytes.{BytesOut, all_spelled}
use Rattle.switch_core.specs.Sessions.{AreSessions}
use Rattle.switch_core.specs.Switch.{SwitchOf, at_port}
use Rattle.switch_core.specs.Stands.{Carries, Does, Done, HasWindows, IsSame, Stands}
use Rattle.switch_core.specs.Steps.{Sent, after, all_again, all_resent, resends_on, sends_again, sends_on, still}
use Rattle.switch_core.proofs.SessionLemmas.{each_of, at_the_port, session_at}
use Rattle.switch_core.proofs.StandsLemmas.{does_nothing, does_then, spelled_append, stands_same, stands_sends}

due_test : (now tick : ℕ) → tick + 4 ≤ now → is_due now tick ≡ true
due_test now tick late = le-leb (tick + 4) now late

-- what was sent just now is not due
just_sent : (now : ℕ) → is_due now now ≡ false
just_sent now = lt-leb (now + 4) now (omega arith)

not_due : (now tick : ℕ) → (tick + 4 ≤ now → ⊥) → is_due now tick ≡ false
not_due now tick early = lt-leb (tick + 4) now (omega (arith, early))

-- the first that is due is the head of the list, and once it was sent the others are due
pub least_first : (i now k : ℕ) (ticks : List ℕ) → i < length ticks → get_or ticks i 0 + 4 ≤ now → ((j : ℕ) → j < i → get_or ticks j 0 + 4 ≤ now → ⊥) → due_from now k ticks ≡ (k + i) ∷ due_from now k (set ticks i now)
least_first i now k [] within late least = absurd (omega (arith, within))
least_first zero now k (tick ∷ ticks) within late least =
    ap (λ b. cond b (k ∷ due_from now (suc k) ticks) (due_from now (suc k) ticks)) (due_test now tick late)
    ∙ ap (λ b. k ∷ cond b (k ∷ due_from now (suc k) ticks) (due_from now (suc k) ticks)) (sym (just_sent now))
    ∙ ap (λ n. n ∷ due_from now k (now ∷ ticks)) (omega arith)
least_first (suc i) now k (tick ∷ ticks) within late least =
    let early = not_due now tick (least 0 (omega arith)) in
    ap (λ b. cond b (k ∷ due_from now (suc k) ticks) (due_from now (suc k) ticks)) early
    ∙ least_first i now (suc k) ticks (omega (arith, within)) late (λ j low. least (suc j) (omega (arith, low)))
    ∙ ap (λ n. n ∷ due_from now (suc k) (set ticks i now)) (omega arith)
    ∙ ap (λ b. (k + suc i) ∷ cond b (k ∷ due_from now (suc k) (set ticks i now)) (due_from now (suc k) (set ticks i now))) (sym early)

-- where none is due the list is empty
pub none_first : (now k : ℕ) (ticks : List ℕ) → ((j : ℕ) → j < length ticks → get_or ticks j 0 + 4 ≤ now → ⊥) → due_from now k ticks ≡ []
none_first now k [] none = refl
none_first now k (tick ∷ ticks) none =
    ap (λ b. cond b (k ∷ due_from now (suc k) ticks) (due_from now (suc k) ticks)) (not_due now tick (none 0 (omega arith)))
    ∙ none_first now (suc k) ticks (λ j low. none (suc j) (omega (arith, low)))

-- a body in the list of the outstanding is outstanding
due_at : (t : Sending) (now j : ℕ) → j < length t.sent → get_or t.sent j 0 + 4 ≤ now → IsDue t now (suc t.acked + j)
due_at t now j within late =
    record {
      outstanding = ap (λ b. b && nat_le (suc t.acked + j) (highest t)) (lt-ltb t.acked (suc t.acked + j) (omega arith)) ∙ le-leb (suc t.acked + j) (highest t) (omega (arith, within));
      ticks = subst (λ i. get_or t.sent i 0 + 4 ≤ now) (omega arith) late;
    }

-- the least body that is due heads the list of those that are
pub is_first : (number : Option ℕ) (t : Sending) (now : ℕ) → IfSome number (λ k. IsDue t now k × (t.acked < k) × (k ≤ highest t) × ((j : ℕ) → IsDue t now j → k ≤ j)) → IfNone number ((j : ℕ) → IsDue t now j → ⊥) → number ≡ first_due now t
is_first None t now some none = ap first_of (sym (none_first now (suc t.acked) t.sent (λ j low late. none (suc t.acked + j) (due_at t now j low late))))
is_first (Some k) t now some none =
    let i = k - t.acked - 1 in
    let above = some.1 in
    let below = some.2 in
    let place : suc t.acked + i ≡ k = omega (arith, above) in
    let earlier : (j : ℕ) → j < i → get_or t.sent j 0 + 4 ≤ now → ⊥ = λ j low late. omega (arith, low, above, some.3 (suc t.acked + j) (due_at t now j (omega (arith, low, above, below)) late)) in
    ap Some (sym place) ∙ ap first_of (sym (least_first i now (suc t.acked) t.sent (omega (arith, above, below)) some.0.ticks earlier))

pub due_is_first : (number : Option ℕ) (v : SenderOf) (t : Sending) (now : ℕ) → IfSome number (IsOut v) → IfSome number (λ k. (s : Sending) → IsKeptOf v s → IsDue s now k) → IfSome number (λ k. (s : Sending) (j : ℕ) → IsKeptOf v s → IsDue s now j → k ≤ j)
    → IfNone number ((s : Sending) (j : ℕ) → IsKeptOf v s → IsDue s now j → ⊥) → IsKeptOf v t → number ≡ first_due now t
due_is_first None v t now out is least none kept = is_first None t now out (λ j is_due. none t j kept is_due)
due_is_first (Some k) v t now out is least none kept =
    let sent = ap length kept.sent in
    is_first (Some k) t now (is t kept, omega (arith, out.0, kept.acked), omega (arith, out.1, kept.acked, sent), λ j is_due. least t j kept is_due) none

-- the first that is due, once it was sent again, leaves the others
again_case : (b : Bool) (now k j tick : ℕ) (ticks : List ℕ) → is_due now tick ≡ b → (first_of (due_from now (suc k) ticks) ≡ Some j → (suc k ≤ j) × (due_from now (suc k) ticks ≡ j ∷ due_from now (suc k) (set ticks (j - suc k) now)))
    → first_of (cond b (k ∷ due_from now (suc k) ticks) (due_from now (suc k) ticks)) ≡ Some j → (k ≤ j) × (cond b (k ∷ due_from now (suc k) ticks) (due_from now (suc k) ticks) ≡ j ∷ due_from now k (set (tick ∷ ticks) (j - k) now))
again_case true now k j tick ticks test rest first =
    let same : k ≡ j = same_Some k j first in
    let place : 0 ≡ j - k = omega (arith, same) in (
      omega (arith, same),
      ap (λ n. n ∷ due_from now (suc k) ticks) same
          ∙ ap (λ b. j ∷ cond b (k ∷ due_from now (suc k) ticks) (due_from now (suc k) ticks)) (sym (just_sent now))
          ∙ ap (λ i. j ∷ due_from now k (set (tick ∷ ticks) i now)) place,
    )
again_case false now k j tick ticks test rest first =
    let others = rest first in
    let above = others.0 in
    let place : suc (j - suc k) ≡ j - k = omega (arith, above) in
    let after = set ticks (j - suc k) now in (
      omega (arith, above),
      others.1 ∙ ap (λ b. j ∷ cond b (k ∷ due_from now (suc k) after) (due_from now (suc k) after)) (sym test)
          ∙ ap (λ i. j ∷ due_from now k (set (tick ∷ ticks) i now)) place,
    )

-- and so from any number
again_from : (now k j : ℕ) (ticks : List ℕ) → first_of (due_from now k ticks) ≡ Some j → (k ≤ j) × (due_from now k ticks ≡ j ∷ due_from now k (set ticks (j - k) now))
again_from now k j [] first = absurd (none-some j first)
again_from now k j (tick ∷ ticks) first = again_case (is_due now tick) now k j tick ticks refl (again_from now (suc k) j ticks) first

-- and so in a session
due_again : (now k : ℕ) (t : Sending) → first_due now t ≡ Some k → due now t ≡ k ∷ due now (send_again k now t)
due_again now k t first =
    let again = again_from now (suc t.acked) k t.sent first in
    let above = again.0 in
    let place : k - suc t.acked ≡ k - t.acked - 1 = omega (arith, above) in
    again.1 ∙ ap (λ i. k ∷ due_from now (suc t.acked) (set t.sent i now)) place

-- where there is no first, none is due
no_first : (ks : List ℕ) → first_of ks ≡ None → ks ≡ []
no_first [] none = refl
no_first (k ∷ ks) none = absurd (none-some k (sym none))

-- no more are due than are outstanding
due_case : (b : Bool) (k n : ℕ) (ks : List ℕ) → length ks ≤ n → length (cond b (k ∷ ks) ks) ≤ suc n
due_case true k n ks few = omega (arith, few)
due_case false k n ks few = omega (arith, few)

-- and so of all of them
few_due : (now k : ℕ) (ticks : List ℕ) → length (due_from now k ticks) ≤ length ticks
few_due now k [] = omega arith
few_due now k (tick ∷ ticks) = due_case (is_due now tick) k (length ticks) (due_from now (suc k) ticks) (few_due now (suc k) ticks)

-- what is kept tells what is due
same_due : (v : SenderOf) (t u : Sending) (now : ℕ) → IsKeptOf v t → IsKeptOf v u → due now t ≡ due now u
same_due v t u now one other =
    ap (λ n. due_from now (suc n) t.sent) (sym one.acked ∙ other.acked) ∙ ap (due_from now (suc u.acked)) (sym one.sent ∙ other.sent)

-- there is one at each place
one_there : {A : Type 0} (xs : List A) (i : ℕ) → i < length xs → (x : A) × (slice_get xs i ≡ Some x)
one_there [] i low = absurd (omega (arith, low))
one_there (x ∷ xs) i low = (get_or (x ∷ xs) i x, slice_get-get_or (x ∷ xs) i x low)

-- the same is due in all that a switch may stand for
due_alike : (c : Control) (s r : SwitchOf) (port : ℕ) → 1 ≤ port → port ≤ 12 → length c.sessions.items ≡ 12 → Stands c s → Stands c r → due s.tick (s.sendings port) ≡ due r.tick (r.sendings port)
due_alike c s r port least most count one other =
    let there = one_there c.sessions.items (port - 1) (omega arith) in
    let of_one = session_at c.sessions.items s.sendings s.receivings port there.0 least there.1 (each_of c.sessions s.sendings s.receivings one.sessions) in
    let of_other = session_at c.sessions.items r.sendings r.receivings port there.0 least there.1 (each_of c.sessions r.sendings r.receivings other.sessions) in
    ap (λ now. due now (s.sendings port)) (sym one.tick ∙ other.tick) ∙ same_due there.0.sender (s.sendings port) (r.sendings port) r.tick of_one.0 of_other.0

-- the number that is answered at the tick that is kept
pub first_due_of : (number : Option ℕ) (c : Control) (s : SwitchOf) (l : PeerAt) (port : ℕ) → port ≡ l.port → Stands c s → number ≡ first_due c.tick (s.sendings port) → first_due s.tick (s.sendings l.port) ≡ number
first_due_of number c s l port at stands first = sym (first ∙ ap (λ now. first_due now (s.sendings port)) stands.tick ∙ ap (λ p. first_due s.tick (s.sendings p)) at)

-- the first that is due is sent again, and then the others
resends_first : (l : PeerAt) (k : ℕ) (s : SwitchOf) → first_due s.tick (s.sendings l.port) ≡ Some k → resends_on l s ≡ after (sends_again l k s) (resends_on l (sends_again l k s).switch)
resends_first l k s first =
    let t = send_again k s.tick (s.sendings l.port) in
    ap (λ ks. all_again l ks s) (due_again s.tick k (s.sendings l.port) first)
    ∙ ap (λ (u : Sending). after (sends_again l k s) (all_again l (due s.tick u) (sends_again l k s).switch)) (sym (at_the_port l.port t s.sendings))

-- where none is due nothing is done
resends_none : (l : PeerAt) (s : SwitchOf) → due s.tick (s.sendings l.port) ≡ [] → resends_on l s ≡ still s
resends_none l s none = ap (λ ks. all_again l ks s) none

-- So far some were sent again since what was sent stood for this switch: at most so many are due now, and by what does the rest all is done
pub record IsOnTheWay (l : PeerAt) (n : ℕ) (s : SwitchOf) (before : List BytesOut) (c : Control) (out : List BytesOut) : Type 0 where
  pub switch : SwitchOf
  pub stands : Stands c switch
  pub few : length (due switch.tick (switch.sendings l.port)) ≤ n
  pub rest : (d : Control) (v : List BytesOut) → Done d out v (resends_on l switch) → Done d before v (resends_on l s)

-- at the start
pub sets_out : (l : PeerAt) (c : Control) (s : SwitchOf) (out : List BytesOut) → 1 ≤ l.port → l.port ≤ 12 → length c.sessions.items ≡ 12 → HasWindows c → Stands c s → IsOnTheWay l 8 s out c out
sets_out l c s out least most count has stands = record {
  switch = s;
  stands = stands;
  few =
      let alike = ap length (due_alike c s has.switch l.port least most count stands has.stands) in
      let few = few_due has.switch.tick (suc (has.switch.sendings l.port).acked) (has.switch.sendings l.port).sent in
      omega (arith, alike, few, has.windows l.port);
  rest = λ d v done. done;
}

-- what went out by two steps
pub spelled_then : (u v w : List BytesOut) (xs ys : List Sent) → v ≡ u ++ all_spelled xs → w ≡ v ++ all_spelled ys → w ≡ u ++ all_spelled (xs ++ ys)
spelled_then u v w xs ys first next = next ∙ ap (λ l. l ++ all_spelled ys) first ∙ append_assoc u (all_spelled xs) (all_spelled ys) ∙ ap (λ l. u ++ l) (sym (spelled_append xs ys))

-- one more
pub one_more_again : (l : PeerAt) (k m n : ℕ) (s : SwitchOf) (before : List BytesOut) (c d : Control) (out more : List BytesOut) (way : IsOnTheWay l m s before c out) → m ≡ suc n → first_due way.switch.tick (way.switch.sendings l.port) ≡ Some k → Done d out more (sends_again l k way.switch) → IsOnTheWay l n s before d more
one_more_again l k m n s before c d out more way count first done =
    let old = way.switch in
    let new = (sends_again l k old).switch in
    let split = resends_first l k old first in
    let fewer : length (due old.tick (old.sendings l.port)) ≡ suc (length (due old.tick (new.sendings l.port))) =
    ap length (due_again old.tick k (old.sendings l.port) first)
    ∙ ap (λ (u : Sending). suc (length (due old.tick u))) (sym (at_the_port l.port (send_again k old.tick (old.sendings l.port)) old.sendings)) in
    record {
      switch = new;
      stands = done.0;
      few = omega (arith, fewer, way.few, count);
      rest = λ e v next. way.rest e v (subst (λ step. Done e out v step) (sym split) (next.0, spelled_then out more v (sends_again l k old).frames (resends_on l new).frames done.1 next.1));
    }

-- where none is due any more all is done
arrives : (l : PeerAt) (n : ℕ) (s : SwitchOf) (before : List BytesOut) (c : Control) (out : List BytesOut) (way : IsOnTheWay l n s before c out) → due way.switch.tick (way.switch.sendings l.port) ≡ [] → Done c before out (resends_on l s)
arrives l n s before c out way none =
    way.rest c out (subst (λ step. Done c out out step) (sym (resends_none l way.switch none)) (does_nothing c out way.switch way.stands))

-- so it is after as many turns as there may be
pub arrives_last : (l : PeerAt) (n : ℕ) (s : SwitchOf) (before : List BytesOut) (c : Control) (out : List BytesOut) → IsOnTheWay l n s before c out → n ≡ 0 → Done c before out (resends_on l s)
arrives_last l n s before c out way last =
    let few = way.few in
    arrives l n s before c out way (nil_from_length (due way.switch.tick (way.switch.sendings l.port)) (omega (arith, few, last)))

-- and where no number is answered
pub arrives_early : (l : PeerAt) (n : ℕ) (s : SwitchOf) (before : List BytesOut) (c : Control) (out : List BytesOut) (way : IsOnTheWay l n s before c out) → first_due way.switch.tick (way.switch.sendings l.port) ≡ None → Done c before out (resends_on l s)
arrives_early l n s before c out way none = arrives l n s before c out way (no_first (due way.switch.tick (way.switch.sendings l.port)) none)

-- a body went out and was marked as sent at this tick
pub again_done : (old carried : Control) (s : SwitchOf) (l : PeerAt) (port k : ℕ) (peer : EndId) (sessions : Sessions) (before after : List BytesOut) → port ≡ l.port → peer ≡ l.peer → Stands old s → IsSame old carried → Carries old port peer k before after
    → AreSessions sessions (at_port port (send_again k carried.tick (s.sendings port)) s.sendings) s.receivings → Done (record carried { sessions = sessions }) before after (sends_again l k s)
again_done old carried s l port k peer sessions before after at to stands same carries are =
    let stands_too = stands_same old carried s same stands in
    let sent = stands_sends carried s port (send_again k carried.tick (s.sendings port)) sessions stands_too are in
    let step = λ (p : ℕ) (q : EndId) (now : ℕ). sends_on p q (send_again k now (s.sendings p)) (put_out (s.sendings p) (Some k)) s in
    let is : step port peer carried.tick ≡ sends_again l k s = ap (step port peer) stands_too.tick ∙ ap (λ p. step p peer s.tick) at ∙ ap (λ q. step l.port q s.tick) to in
    subst (λ x. Done (record carried { sessions = sessions }) before after x) is (sent, carries s stands)

-- what is outstanding stays so
again_count : (b : Bool) (k now port q : ℕ) (s : SwitchOf) → b ≡ (q == port) → length (cond b (send_again k now (s.sendings port)) (s.sendings q)).sent ≡ length (s.sendings q).sent
again_count true k now port q s test =
    length-set (s.sendings port).sent (k - (s.sendings port).acked - 1) now ∙ ap (λ p. length (s.sendings p).sent) (sym (eqb-true q port (sym test)))
again_count false k now port q s test = refl

-- and so by all that is sent again
all_again_count : (l : PeerAt) (ks : List ℕ) (s : SwitchOf) (q : ℕ) → length ((all_again l ks s).switch.sendings q).sent ≡ length (s.sendings q).sent
all_again_count l [] s q = refl
all_again_count l (k ∷ ks) s q = all_again_count l ks (sends_again l k s).switch q ∙ again_count (q == l.port) k s.tick l.port q s refl

-- and so the windows are kept
pub windows_kept : (l : PeerAt) (old new : Control) (before after : List BytesOut) → HasWindows old → Does (resends_on l) old new before after → HasWindows new
windows_kept l old new before after has does = record {
  switch = (resends_on l has.switch).switch;
  stands = (does has.switch has.stands).0;
  windows = λ port. let same = all_again_count l (due has.switch.tick (has.switch.sendings l.port)) has.switch port in omega (arith, same, has.windows port);
}

-- So far the links before were served: by what does the others all is done
abbrev pub DoesTheOthers : List PeerAt → List PeerAt → Control → Control → List BytesOut → List BytesOut → Type 0
DoesTheOthers all others old c before out = (s : SwitchOf) (d : Control) (v : List BytesOut) → Stands old s → ((r : SwitchOf) → Stands c r → Done d out v (all_resent others r)) → Done d before v (all_resent all s)

-- one link more
pub one_link_more : (all : List PeerAt) (i : ℕ) (l : PeerAt) (old a b : Control) (u v w : List BytesOut) → i < length all → l ≡ get_or all i l → DoesTheOthers all (drop i all) old a u v → Does (resends_on l) a b v w → DoesTheOthers all (drop (i + 1) all) old b u w
one_link_more all i l old a b u v w low is others does s d x stands rest =
    let split : drop i all ≡ l ∷ drop (i + 1) all = drop-cons all i l low ∙ ap (λ (k : PeerAt). k ∷ drop (suc i) all) (sym is) ∙ ap (λ n. l ∷ drop n all) (sym (add-one i)) in
    others s d x stands (λ r stands_too.
    subst (λ ls. Done d v x (all_resent ls r)) (sym split)
    (does_then (resends_on l) (all_resent (drop (i + 1) all)) a b d v w x does rest r stands_too))

-- and all of them
pub all_links : (all : List PeerAt) (i : ℕ) (old c : Control) (before out : List BytesOut) (s : SwitchOf) → length all ≤ i → DoesTheOthers all (drop i all) old c before out → Stands old s → Done c before out (all_resent all s)
all_links all i old c before out s last others stands =
    others s c out stands (λ r stands_too. subst (λ ls. Done c out out (all_resent ls r)) (sym (drop_all i all last)) (does_nothing c out r stands_too))
