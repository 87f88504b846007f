use Rattle.std.proofs.Common.{◌≡◌, ◌∙◌, inl, inr, sym, ap, refl, ℕ, suc, ◌+◌, ◌-◌, ◌≤◌, ◌<◌, ◌==◌, arith, Option, Some, None, Bool, true, false, cond}
use Rattle.std.proofs.lemmas.Bool.{cond_both, eqb-true, eqb-false}
use Rattle.an_base.specs.Values.{EndId}
use Rattle.skeptic.specs.Skeptics.{hold, failed, praised, cleared}
use Rattle.connectivity.specs.declared.conn.Conn.{Conn}
use Rattle.connectivity.specs.declared.conn.Conn.TheVariants.{Who, Loop, Good}
use Rattle.connectivity.specs.Connections.{ConnectivityOf, is_end, is_same_end, probed, forgotten, asked, asked_by, streak_of, held_by, doubted, judged, judged_as, met}
use Rattle.link_settling.specs.Measures.{answers_by, answers_left}
use Rattle.link_settling.proofs.PortSound.{IsFarKnown}
use Rattle.common_values.proofs.TestLemmas.{by_test}
use Rattle.connectivity.proofs.EndLemmas.{same_end_is}
use Rattle.link_settling.proofs.Basics.{hold_least, hold_most, failed_level, praised_level, same_end}

-- no end that is met is unknown
who_not_met : (b : Bool) (q : EndId) → cond b (Loop q) (Good q) ≡ Who → ⊥
who_not_met true q h = cc
who_not_met false q h = cc

met_known : (own q : EndId) → met own q ≡ Who → ⊥
met_known own q = who_not_met (q.life.uid == own.life.uid) q

-- who is met is the one that is asked for
met_by : (b : Bool) (e q : EndId) (far : ConnectivityOf) → answers_by e (cond b (Loop q) (Good q)) far ≡ cond (is_same_end e q) 0 (suc (hold (failed far.skeptic)))
met_by true e q far = refl
met_by false e q far = refl

-- one answer more while the peer is not known
asked_falls : (e : EndId) (n : ℕ) (far : ConnectivityOf) → far.conn ≡ Who → n ≤ hold far.skeptic → answers_left e (probed (asked_by e n far)) ≡ hold far.skeptic - n
asked_falls e n far who few =
    by_test (λ b. answers_left e (probed (cond b (record far { conn = met far.me e; skeptic = cleared far.skeptic; candidate = Some e; streak = n; missed = false }) (record far { candidate = Some e; streak = n }))) ≡ hold far.skeptic - n) (n == hold far.skeptic)
    (λ is. let f = eqb-true n (hold far.skeptic) is in
    let g : cond (is_same_end e e) 0 (suc (hold (failed (cleared far.skeptic)))) ≡ 0 = ap (λ b. cond b 0 (suc (hold (failed (cleared far.skeptic))))) (same_end e) in
    met_by (e.life.uid == far.me.life.uid) e e (probed (record far { conn = met far.me e; skeptic = cleared far.skeptic; candidate = Some e; streak = n; missed = false }))
    ∙ g ∙ omega (arith, f))
    (λ _. ap (λ c. answers_by e c (probed (record far { candidate = Some e; streak = n }))) who
    ∙ ap (λ b. cond b (hold far.skeptic - n) (hold far.skeptic)) (same_end e))

who_falls : (e : EndId) (far : ConnectivityOf) → far.conn ≡ Who → far.streak < hold far.skeptic → answers_left e (probed (asked (Some e) far)) ≡ answers_by e Who far - 1
who_falls e far who few =
    by_test (λ b. answers_left e (probed (asked_by e (cond b (far.streak + 1) 1) far)) ≡ cond b (hold far.skeptic - far.streak) (hold far.skeptic) - 1) (is_end far.candidate e)
    (λ _. asked_falls e (far.streak + 1) far who (omega (arith, few)) ∙ omega arith)
    (λ _. asked_falls e 1 far who (hold_least far.skeptic))

-- one answer more at a known peer: by it, nothing changes, and by another it is doubted
held_falls : (e peer : EndId) (far : ConnectivityOf) → ((c : ConnectivityOf) → answers_by e far.conn c ≡ cond (is_same_end e peer) 0 (suc (hold (failed c.skeptic)))) → answers_left e (probed (held_by peer (Some e) far)) ≡ cond (is_same_end e peer) 0 (suc (hold (failed far.skeptic))) - 1
held_falls e peer far is =
    by_test (λ b. (is_same_end e peer ≡ b) → answers_left e (probed (cond b (record far { skeptic = praised far.skeptic; missed = false }) (doubted far))) ≡ cond b 0 (suc (hold (failed far.skeptic))) - 1) (is_same_end e peer)
    (λ _ same. is (probed (record far { skeptic = praised far.skeptic; missed = false })) ∙ ap (λ b. cond b 0 (suc (hold (failed (praised far.skeptic))))) same)
    (λ _ other. omega arith) refl

pub judged_falls : (e : EndId) (far : ConnectivityOf) → (far.conn ≡ Who → far.streak < hold far.skeptic) → far.answer ≡ Some e → answers_left e (probed (judged far)) ≡ answers_left e far - 1
judged_falls e far few is = by_conn far.conn refl
  where
    by_conn : (conn : Conn) → far.conn ≡ conn → answers_left e (probed (judged_as conn far)) ≡ answers_by e conn far - 1
    by_conn Who who = ap (λ a. answers_left e (probed (asked a far))) is ∙ who_falls e far who (few who)
    by_conn (Loop peer) loop = ap (λ a. answers_left e (probed (held_by peer a far))) is ∙ held_falls e peer far (λ c. ap (λ k. answers_by e k c) loop)
    by_conn (Good peer) good = ap (λ a. answers_left e (probed (held_by peer a far))) is ∙ held_falls e peer far (λ c. ap (λ k. answers_by e k c) good)

-- at most 129
pub answers_most : (e : EndId) (conn : Conn) (far : ConnectivityOf) → far.skeptic.level ≤ 7 → answers_by e conn far ≤ 129
answers_most e Who far most = let h = hold_most far.skeptic most in cond_both (is_end far.candidate e) (hold far.skeptic - far.streak) (hold far.skeptic) (λ n. n ≤ 129) (λ _. omega (arith, h)) (λ _. omega (arith, h))
answers_most e (Loop peer) far most = let h = hold_most (failed far.skeptic) (failed_level far.skeptic) in cond_both (is_same_end e peer) 0 (suc (hold (failed far.skeptic))) (λ n. n ≤ 129) (λ _. omega arith) (λ _. omega (arith, h))
answers_most e (Good peer) far most = let h = hold_most (failed far.skeptic) (failed_level far.skeptic) in cond_both (is_same_end e peer) 0 (suc (hold (failed far.skeptic))) (λ n. n ≤ 129) (λ _. omega arith) (λ _. omega (arith, h))

-- with none left the far end is known as this one
none_is : (e q : EndId) (n : ℕ) → cond (is_same_end e q) 0 (suc n) ≡ 0 → q ≡ e
none_is e q n = by_test (λ b. is_same_end e q ≡ b → cond b 0 (suc n) ≡ 0 → q ≡ e) (is_same_end e q) (λ _ is _. sym (same_end_is e q is)) (λ _ _ none. absurd (omega (arith, none))) refl

pub none_left : (own e : EndId) (far : ConnectivityOf) → IsFarKnown own far → answers_left e far ≡ 0 → far.conn ≡ met own e
none_left own e far known none = elim known.met [
  | inl who ↦ absurd (unknown_left who (known.few who))
  | inr q ↦ q.1 ∙ ap (met own) (none_is e q.0 (hold (failed far.skeptic)) (sym (ap (λ c. answers_by e c far) q.1 ∙ met_by (q.0.life.uid == own.life.uid) e q.0 far) ∙ none))
]
  where
    unknown_left : far.conn ≡ Who → far.streak < hold far.skeptic → ⊥
    unknown_left who few =
        let h = hold_least far.skeptic in
        let e0 : answers_by e Who far ≡ 0 = sym (ap (λ c. answers_by e c far) who) ∙ none in
        cond_both (is_end far.candidate e) (hold far.skeptic - far.streak) (hold far.skeptic) (λ n. n ≡ 0 → ⊥) (λ _ z. omega (arith, few, z)) (λ _ z. omega (arith, h, z)) e0

-- and it stays known while it answers
held_stays : (e : EndId) (far : ConnectivityOf) → (held_by e (Some e) far).conn ≡ far.conn
held_stays e far = ap (λ b. (cond b (record far { skeptic = praised far.skeptic; missed = false }) (doubted far)).conn) (same_end e)

pub done_stays : (own e : EndId) (far : ConnectivityOf) → far.conn ≡ met own e → far.answer ≡ Some e → (judged far).conn ≡ met own e
done_stays own e far is answered = by_uid (e.life.uid == own.life.uid) is
  where
    by_uid : (b : Bool) → far.conn ≡ cond b (Loop e) (Good e) → (judged far).conn ≡ cond b (Loop e) (Good e)
    by_uid true loop = ap (λ k. (judged_as k far).conn) loop ∙ ap (λ a. (held_by e a far).conn) answered ∙ held_stays e far ∙ loop
    by_uid false good = ap (λ k. (judged_as k far).conn) good ∙ ap (λ a. (held_by e a far).conn) answered ∙ held_stays e far ∙ good

-- what is known stays sound
pub known_probed : (own : EndId) (far : ConnectivityOf) → IsFarKnown own far → IsFarKnown own (probed far)
known_probed own far known = record { me = known.me; skeptic = known.skeptic; few = known.few; met = known.met }

pub known_forgotten : (own : EndId) (far : ConnectivityOf) → IsFarKnown own far → IsFarKnown own (forgotten far)
known_forgotten own far known = record { me = known.me; skeptic = known.skeptic; few = λ _. hold_least far.skeptic; met = inl refl }

known_doubted : (own : EndId) (far : ConnectivityOf) → IsFarKnown own far → IsFarKnown own (doubted far)
known_doubted own far known = record { me = known.me; skeptic = failed_level far.skeptic; few = λ _. hold_least (failed far.skeptic); met = inl refl }

-- the end that answered so many probes in a row is met, or is asked on
known_asked_by : (own q : EndId) (n : ℕ) (far : ConnectivityOf) → IsFarKnown own far → n ≤ hold far.skeptic → IsFarKnown own (asked_by q n far)
known_asked_by own q n far known few =
    by_test (λ b. n == hold far.skeptic ≡ b → IsFarKnown own (cond b (record far { conn = met far.me q; skeptic = cleared far.skeptic; candidate = Some q; streak = n; missed = false }) (record far { candidate = Some q; streak = n }))) (n == hold far.skeptic)
    (λ _ is. record { me = known.me; skeptic = known.skeptic; few = λ who. absurd (met_known far.me q who); met = inr (q, ap (λ m. met m q) known.me) })
    (λ _ is. record { me = known.me; skeptic = known.skeptic; few = λ _. let d = eqb-false n (hold far.skeptic) is in less n (hold far.skeptic) few d; met = known.met })
    refl
  where
    less : (a b : ℕ) → a ≤ b → (a ≡ b → ⊥) → a < b
    less a b le ne = grind (arith, le, ne)

known_asked : (own : EndId) (answer : Option EndId) (far : ConnectivityOf) → far.conn ≡ Who → IsFarKnown own far → IsFarKnown own (asked answer far)
known_asked own None far who known = record { me = known.me; skeptic = known.skeptic; few = λ _. hold_least far.skeptic; met = known.met }
known_asked own (Some q) far who known =
    let few = known.few who in
    known_asked_by own q (streak_of q far) far known
    (cond_both (is_end far.candidate q) (far.streak + 1) 1 (λ n. n ≤ hold far.skeptic) (λ _. omega (arith, few)) (λ _. hold_least far.skeptic))

known_held : (own peer : EndId) (answer : Option EndId) (far : ConnectivityOf) → (far.conn ≡ Who → ⊥) → IsFarKnown own far → IsFarKnown own (held_by peer answer far)
known_held own peer None far not_who known =
    cond_both far.missed (doubted far) (record far { skeptic = cleared far.skeptic; missed = true }) (IsFarKnown own) (λ _. known_doubted own far known)
    (λ _. record { me = known.me; skeptic = known.skeptic; few = λ who. absurd (not_who who); met = known.met })
known_held own peer (Some q) far not_who known =
    cond_both (is_same_end q peer) (record far { skeptic = praised far.skeptic; missed = false }) (doubted far) (IsFarKnown own)
    (λ _. record { me = known.me; skeptic = praised_level far.skeptic known.skeptic; few = λ who. absurd (not_who who); met = known.met })
    (λ _. known_doubted own far known)

pub known_judged : (own : EndId) (far : ConnectivityOf) → IsFarKnown own far → IsFarKnown own (judged far)
known_judged own far known = by_conn far.conn refl
  where
    by_conn : (conn : Conn) → far.conn ≡ conn → IsFarKnown own (judged_as conn far)
    by_conn Who who = known_asked own far.answer far who known
    by_conn (Loop peer) loop = known_held own peer far.answer far (λ who. let e = sym loop ∙ who in cc) known
    by_conn (Good peer) good = known_held own peer far.answer far (λ who. let e = sym good ∙ who in cc) known
