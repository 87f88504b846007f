use Rattle.std.proofs.Common.{◌≡◌, ◌∙◌, sym, ap, subst, refl, ℕ, suc, ◌+◌, List, [], ◌∷◌, arith, Option, Some, None, Bool, true, false, cond, take, replicate, ◌==◌, eqb-true}
use Rattle.std.proofs.lemmas.Option.{none-some, same_Some}
use Rattle.an_base.specs.Values.{EndId}
use Rattle.an_base.specs.declared.port.Sample.{Sample}
use Rattle.an_base.specs.declared.port.Sample.TheVariants as sample
use Rattle.skeptic.specs.Skeptics.{hold, is_over}
use Rattle.connectivity.specs.declared.conn.Conn.{Conn}
use Rattle.connectivity.specs.declared.conn.Conn.TheVariants.{Who, Loop, Good}
use Rattle.connectivity.specs.Connections.{ConnectivityOf, is_end, is_same_end, streak_of, asked, held_by, judged, judged_as, met, counts}
use Rattle.connectivity.proofs.EndLemmas.{same_end_is}
use Rattle.port_monitor.specs.declared.port.Phase.{Phase}
use Rattle.port_monitor.specs.declared.port.Phase.TheVariants.{Dead, Checking, Host, Switch}
use Rattle.port_monitor.specs.declared.port.Port.{Port}
use Rattle.port_monitor.specs.Ports.{sampled, kept_up, replied_to, speaks, peer_of, peer_by, entered}
use Rattle.port_monitor.specs.Histories.{History, Sampled, Replied, port_after, answers, answered_by}
use Rattle.common_values.proofs.TestLemmas.{by_choice}

-- the end that may become the peer answered so many probes in a row, the last one among them
abbrev IsRow : Option EndId → ℕ → List (Option EndId) → Type 0
IsRow None streak answers = Unit {0}
IsRow (Some q) streak answers = take streak answers ≡ replicate streak (Some q)

-- nobody may become the peer of a port that asks nobody
abbrev IsSilent : Phase → Option EndId → Type 0
IsSilent Dead candidate = candidate ≡ None
IsSilent Checking candidate = candidate ≡ None
IsSilent Host candidate = candidate ≡ None
IsSilent Switch candidate = Unit {0}

-- while the peer is not known the row is as long as the streak
abbrev IsRowWhile : Conn → Option EndId → ℕ → List (Option EndId) → Type 0
IsRowWhile Who candidate streak answers = IsRow candidate streak answers
IsRowWhile (Loop peer) candidate streak answers = Unit {0}
IsRowWhile (Good peer) candidate streak answers = Unit {0}

record IsKept (p : Port) (answers : List (Option EndId)) : Type 0 where
  pub silent : IsSilent p.phase p.far.candidate
  pub row : IsRowWhile p.far.conn p.far.candidate p.far.streak answers

-- one more answer of the candidate makes the row longer, and one of another end begins it anew
longer : (q c : EndId) (streak : ℕ) (answers : List (Option EndId)) → c ≡ q → take streak answers ≡ replicate streak (Some c) → take (streak + 1) (Some q ∷ answers) ≡ replicate (streak + 1) (Some q)
longer q c streak answers same row =
    ap (λ n. take n (Some q ∷ answers)) {x = streak + 1} {y = suc streak} (omega arith)
    ∙ ap (λ l. Some q ∷ l) (row ∙ ap (λ e. replicate streak (Some e)) same)
    ∙ ap (λ n. replicate n (Some q)) {x = suc streak} {y = streak + 1} (omega arith)

streak_row : (q : EndId) (far : ConnectivityOf) (candidate : Option EndId) (answers : List (Option EndId)) → IsRow candidate far.streak answers → take (cond (is_end candidate q) (far.streak + 1) 1) (Some q ∷ answers) ≡ replicate (cond (is_end candidate q) (far.streak + 1) 1) (Some q)
streak_row q far None answers row = refl
streak_row q far (Some c) answers row =
    by_choice (λ n. take n (Some q ∷ answers) ≡ replicate n (Some q)) (is_same_end c q) (far.streak + 1) 1
    (λ same. longer q c far.streak answers (same_end_is c q same) row) (λ _. refl)

asked_row : (q : EndId) (far : ConnectivityOf) (answers : List (Option EndId)) → IsRow far.candidate far.streak answers → take (streak_of q far) (Some q ∷ answers) ≡ replicate (streak_of q far) (Some q)
asked_row q far answers row = streak_row q far far.candidate answers row

-- what is kept at a switch is kept when the last probe is judged
abbrev IsFar : List (Option EndId) → ConnectivityOf → Type 0
IsFar answers far = IsRowWhile far.conn far.candidate far.streak answers

met_row : (conn : Conn) (me q : EndId) (candidate : Option EndId) (streak : ℕ) (answers : List (Option EndId)) → conn ≡ met me q → IsRowWhile conn candidate streak answers
met_row Who me q candidate streak answers is = absurd (who_not_met (q.life.uid == me.life.uid) is)
  where
    who_not_met : (b : Bool) → Who ≡ cond b (Loop q) (Good q) → ⊥
    who_not_met true h = cc
    who_not_met false h = cc
met_row (Loop peer) me q candidate streak answers is = tt
met_row (Good peer) me q candidate streak answers is = tt

asked_kept : (far : ConnectivityOf) (answer : Option EndId) (answers : List (Option EndId)) → far.conn ≡ Who → IsRow far.candidate far.streak answers → IsFar (answer ∷ answers) (asked answer far)
asked_kept far None answers who row = none_row far.conn
  where
    none_row : (conn : Conn) → IsRowWhile conn None 0 (None ∷ answers)
    none_row Who = tt
    none_row (Loop peer) = tt
    none_row (Good peer) = tt
asked_kept far (Some q) answers who row =
    by_choice (IsFar (Some q ∷ answers)) (streak_of q far == hold far.skeptic) _ _
    (λ _. met_row (met far.me q) far.me q (Some q) (streak_of q far) (Some q ∷ answers) refl)
    (λ _. row_while far.conn)
  where
    row_while : (conn : Conn) → IsRowWhile conn (Some q) (streak_of q far) (Some q ∷ answers)
    row_while Who = asked_row q far answers row
    row_while (Loop peer) = tt
    row_while (Good peer) = tt

-- where the peer is known, or nobody may become it, nothing is asked of the row
known_row : (conn : Conn) (candidate : Option EndId) (streak : ℕ) (answers : List (Option EndId)) → (conn ≡ Who → ⊥) → IsRowWhile conn candidate streak answers
known_row Who candidate streak answers known = absurd (known refl)
known_row (Loop peer) candidate streak answers known = tt
known_row (Good peer) candidate streak answers known = tt

none_row : (conn : Conn) (candidate : Option EndId) (streak : ℕ) (answers : List (Option EndId)) → candidate ≡ None → IsRowWhile conn candidate streak answers
none_row Who candidate streak answers none = subst (λ c. IsRow c streak answers) (sym none) tt
none_row (Loop peer) candidate streak answers none = tt
none_row (Good peer) candidate streak answers none = tt

held_kept : (peer : EndId) (far : ConnectivityOf) (answer : Option EndId) (answers : List (Option EndId)) → (far.conn ≡ Who → ⊥) → IsFar answers (held_by peer answer far)
held_kept peer far None answers known = by_choice (IsFar answers) far.missed _ _ (λ _. tt) (λ _. known_row far.conn far.candidate far.streak answers known)
held_kept peer far (Some q) answers known = by_choice (IsFar answers) (is_same_end q peer) _ _ (λ _. known_row far.conn far.candidate far.streak answers known) (λ _. tt)

judged_kept : (far : ConnectivityOf) (answers : List (Option EndId)) → IsFar answers far → IsFar (far.answer ∷ answers) (judged far)
judged_kept far answers kept = by_conn far.conn refl
  where
    by_conn : (conn : Conn) → far.conn ≡ conn → IsFar (far.answer ∷ answers) (judged_as conn far)
    by_conn Who is = asked_kept far far.answer answers is (subst (λ c. IsRowWhile c far.candidate far.streak answers) is kept)
    by_conn (Loop peer) is = held_kept peer far far.answer (far.answer ∷ answers) (λ who. let e = sym is ∙ who in cc)
    by_conn (Good peer) is = held_kept peer far far.answer (far.answer ∷ answers) (λ who. let e = sym is ∙ who in cc)

-- a dead port stays dead or is checked next
dead_kept : (p : Port) (answers : List (Option EndId)) (is_host : Bool) → IsSilent Dead p.far.candidate → IsKept (kept_up Dead is_host p) answers
dead_kept p answers is_host none =
    record {
      silent = by_choice (λ phase. IsSilent phase p.far.candidate) (is_over p.status) Checking Dead (λ _. none) (λ _. none);
      row = none_row p.far.conn p.far.candidate p.far.streak answers none;
    }

entered_kept : (p : Port) (answers : List (Option EndId)) (is_host : Bool) → IsKept (entered is_host p) answers
entered_kept p answers true = record { silent = refl; row = tt }
entered_kept p answers false = record { silent = tt; row = tt }

host_kept : (p : Port) (answers : List (Option EndId)) (is_host : Bool) → p.phase ≡ Host → IsSilent Host p.far.candidate → IsKept (kept_up Host is_host p) answers
host_kept p answers is_host is none =
    record {
      silent = subst (λ phase. IsSilent phase p.far.candidate) (sym is) none;
      row = none_row p.far.conn p.far.candidate p.far.streak answers none;
    }

switch_kept : (p : Port) (answers : List (Option EndId)) (is_host : Bool) → p.phase ≡ Switch → IsKept p answers → IsKept (kept_up Switch is_host p) (p.far.answer ∷ answers)
switch_kept p answers is_host is kept = record { silent = subst (λ phase. IsSilent phase (judged p.far).candidate) (sym is) tt; row = judged_kept p.far answers kept.row }

-- one clock with a host, or a switch, at the other end
up_host : (phase : Phase) (p : Port) (answers : List (Option EndId)) → p.phase ≡ phase → IsKept p answers → IsKept (kept_up phase true p) (answered_by sample.Host phase p.far.answer answers)
up_host Dead p answers is kept = dead_kept p [] true (subst (λ phase. IsSilent phase p.far.candidate) is kept.silent)
up_host Checking p answers is kept = entered_kept p [] true
up_host Host p answers is kept = host_kept p [] true is (subst (λ phase. IsSilent phase p.far.candidate) is kept.silent)
up_host Switch p answers is kept = switch_kept p answers true is kept

up_switch : (phase : Phase) (p : Port) (answers : List (Option EndId)) → p.phase ≡ phase → IsKept p answers → IsKept (kept_up phase false p) (answered_by sample.Switch phase p.far.answer answers)
up_switch Dead p answers is kept = dead_kept p [] false (subst (λ phase. IsSilent phase p.far.candidate) is kept.silent)
up_switch Checking p answers is kept = entered_kept p [] false
up_switch Host p answers is kept = host_kept p [] false is (subst (λ phase. IsSilent phase p.far.candidate) is kept.silent)
up_switch Switch p answers is kept = switch_kept p answers false is kept

sampled_kept : (s : Sample) (p : Port) (answers : List (Option EndId)) → IsKept p answers → IsKept (sampled s p) (answered_by s p.phase p.far.answer answers)
sampled_kept sample.Down p answers kept = record { silent = refl; row = tt }
sampled_kept sample.Host p answers kept = up_host p.phase p answers refl kept
sampled_kept sample.Switch p answers kept = up_switch p.phase p answers refl kept

replied_kept : (from : EndId) (nonce : ℕ) (p : Port) (answers : List (Option EndId)) → IsKept p answers → IsKept (replied_to from nonce p) answers
replied_kept from nonce p answers kept =
    by_choice (λ (z : Port). IsKept z answers) (speaks p.phase) _ p
    (λ _. by_choice (λ (far : ConnectivityOf). IsKept (record p { far = far }) answers) (counts nonce p.far) _ p.far
    (λ _. record { silent = kept.silent; row = kept.row }) (λ _. record { silent = kept.silent; row = kept.row }))
    (λ _. kept)

history_kept : (me : EndId) (history : History) → IsKept (port_after me history) (answers me history)
history_kept me [] = record { silent = refl; row = tt }
history_kept me (Sampled s ∷ history) = sampled_kept s (port_after me history) (answers me history) (history_kept me history)
history_kept me (Replied from nonce ∷ history) = replied_kept from nonce (port_after me history) (answers me history) (history_kept me history)

-- who becomes the peer answered so many probes in a row
abbrev HasAnswered : EndId → ConnectivityOf → List (Option EndId) → Type 0
HasAnswered q far answers = take (hold far.skeptic) answers ≡ replicate (hold far.skeptic) (Some q)

met_peer : (b : Bool) (a q : EndId) → peer_by Switch (cond b (Loop a) (Good a)) ≡ Some q → a ≡ q
met_peer true a q h = same_Some a q h
met_peer false a q h = same_Some a q h

asked_peer : (far : ConnectivityOf) (answer : Option EndId) (answers : List (Option EndId)) (q : EndId) → far.conn ≡ Who → IsRow far.candidate far.streak answers → peer_by Switch (asked answer far).conn ≡ Some q → HasAnswered q far (answer ∷ answers)
asked_peer far None answers q who row = λ peer. absurd (none-some q (ap (peer_by Switch) (sym who) ∙ peer))
asked_peer far (Some a) answers q who row =
    by_choice (λ (z : ConnectivityOf). peer_by Switch z.conn ≡ Some q → HasAnswered q far (Some a ∷ answers)) (streak_of a far == hold far.skeptic) _ _
    (λ enough peer.
    let same = eqb-true (streak_of a far) (hold far.skeptic) enough in
    subst (λ e. HasAnswered e far (Some a ∷ answers)) (met_peer (a.life.uid == far.me.life.uid) a q peer)
    (subst (λ n. take n (Some a ∷ answers) ≡ replicate n (Some a)) same (asked_row a far answers row)))
    (λ _ peer. absurd (none-some q (ap (peer_by Switch) (sym who) ∙ peer)))

judged_peer : (far : ConnectivityOf) (answers : List (Option EndId)) (q : EndId) → peer_by Switch far.conn ≡ None → IsFar answers far → peer_by Switch (judged far).conn ≡ Some q → HasAnswered q far (far.answer ∷ answers)
judged_peer far answers q none kept = by_conn far.conn refl
  where
    by_conn : (conn : Conn) → far.conn ≡ conn → peer_by Switch (judged_as conn far).conn ≡ Some q → HasAnswered q far (far.answer ∷ answers)
    by_conn Who is = asked_peer far far.answer answers q is (subst (λ c. IsRowWhile c far.candidate far.streak answers) is kept)
    by_conn (Loop peer) is = λ _. absurd (none-some peer (sym none ∙ ap (peer_by Switch) is))
    by_conn (Good peer) is = λ _. absurd (none-some peer (sym none ∙ ap (peer_by Switch) is))

up_peer : (phase : Phase) (is_host : Bool) (s : Sample) (p : Port) (answers : List (Option EndId)) (q : EndId) → p.phase ≡ phase → answered_by s Switch p.far.answer answers ≡ p.far.answer ∷ answers → peer_by phase p.far.conn ≡ None → IsKept p answers → peer_of (kept_up phase is_host p) ≡ Some q → HasAnswered q p.far (answered_by s phase p.far.answer answers)
up_peer Dead is_host s p answers q is up none kept peer = absurd (by_choice (λ phase. peer_by phase p.far.conn ≡ Some q → ⊥) (is_over p.status) Checking Dead (λ _ h. none-some q h) (λ _ h. none-some q h) peer)
up_peer Checking true s p answers q is up none kept peer = absurd (none-some q peer)
up_peer Checking false s p answers q is up none kept peer = absurd (none-some q peer)
up_peer Host is_host s p answers q is up none kept peer = absurd (none-some q (ap (λ phase. peer_by phase p.far.conn) (sym is) ∙ peer))
up_peer Switch is_host s p answers q is up none kept peer =
    subst (HasAnswered q p.far) (sym up) (judged_peer p.far answers q none kept.row (ap (λ phase. peer_by phase (judged p.far).conn) (sym is) ∙ peer))

peer_answered : (me q : EndId) (history : History) (s : Sample) → peer_of (port_after me history) ≡ None → peer_of (port_after me (Sampled s ∷ history)) ≡ Some q → HasAnswered q (port_after me history).far (answers me (Sampled s ∷ history))
peer_answered me q history sample.Down none peer = absurd (none-some q peer)
peer_answered me q history sample.Host none peer = up_peer (port_after me history).phase true sample.Host (port_after me history) (answers me history) q refl refl none (history_kept me history) peer
peer_answered me q history sample.Switch none peer = up_peer (port_after me history).phase false sample.Switch (port_after me history) (answers me history) q refl refl none (history_kept me history) peer

-- a known peer is kept or lost
held_peer : (peer : EndId) (far : ConnectivityOf) (answer : Option EndId) (q : EndId) → peer_by Switch (held_by peer answer far).conn ≡ Some q → peer_by Switch far.conn ≡ Some q
held_peer peer far None q = by_choice (λ (z : ConnectivityOf). peer_by Switch z.conn ≡ Some q → peer_by Switch far.conn ≡ Some q) far.missed _ _ (λ _ h. absurd (none-some q h)) (λ _ h. h)
held_peer peer far (Some from) q = by_choice (λ (z : ConnectivityOf). peer_by Switch z.conn ≡ Some q → peer_by Switch far.conn ≡ Some q) (is_same_end from peer) _ _ (λ _ h. h) (λ _ h. absurd (none-some q h))

judged_stays : (far : ConnectivityOf) (conn : Conn) (peer q : EndId) → peer_by Switch conn ≡ Some peer → peer_by Switch (judged_as conn far).conn ≡ Some q → peer_by Switch far.conn ≡ Some q
judged_stays far Who peer q known = absurd (none-some peer known)
judged_stays far (Loop end) peer q known = held_peer end far far.answer q
judged_stays far (Good end) peer q known = held_peer end far far.answer q

up_stays : (phase : Phase) (is_host : Bool) (p : Port) (peer q : EndId) → p.phase ≡ phase → peer_by phase p.far.conn ≡ Some peer → peer_of (kept_up phase is_host p) ≡ Some q → peer_by phase p.far.conn ≡ Some q
up_stays Dead is_host p peer q is known = absurd (none-some peer known)
up_stays Checking is_host p peer q is known = absurd (none-some peer known)
up_stays Host is_host p peer q is known = absurd (none-some peer known)
up_stays Switch is_host p peer q is known = λ after. judged_stays p.far p.far.conn peer q known (ap (λ phase. peer_by phase (judged p.far).conn) (sym is) ∙ after)

sampled_stays : (s : Sample) (p : Port) (peer q : EndId) → peer_of p ≡ Some peer → peer_of (sampled s p) ≡ Some q → peer_of p ≡ Some q
sampled_stays sample.Down p peer q known after = absurd (none-some q after)
sampled_stays sample.Host p peer q known after = up_stays p.phase true p peer q refl known after
sampled_stays sample.Switch p peer q known after = up_stays p.phase false p peer q refl known after

pub peer_stays : (me peer q : EndId) (history : History) (s : Sample) → peer_of (port_after me history) ≡ Some peer → peer_of (port_after me (Sampled s ∷ history)) ≡ Some q → q ≡ peer
peer_stays me peer q history s known after = same_Some q peer (sym (sampled_stays s (port_after me history) peer q known after) ∙ known)

-- who was not the peer before answered in a row
pub new_peer_answered : (me q : EndId) (history : History) (s : Sample) → (peer_of (port_after me history) ≡ Some q → ⊥) → peer_of (port_after me (Sampled s ∷ history)) ≡ Some q → HasAnswered q (port_after me history).far (answers me (Sampled s ∷ history))
new_peer_answered me q history s other after = by_peer (peer_of (port_after me history)) refl
  where
    by_peer : (o : Option EndId) → peer_of (port_after me history) ≡ o → HasAnswered q (port_after me history).far (answers me (Sampled s ∷ history))
    by_peer None is = peer_answered me q history s is after
    by_peer (Some peer) is = absurd (other (sampled_stays s (port_after me history) peer q is after))
