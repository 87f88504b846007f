use Rattle.std.proofs.Common.{◌≡◌, ◌≢◌, ◌∙◌, inl, sym, ap, subst, refl, ℕ, ◌+◌, ◌-◌, ◌≤◌, ◌==◌, ◌&&◌, arith, [], ◌∷◌, Option, Some, None, Bool, true, false, cond}
use Rattle.std.specs.Prelude.{nat_lt, not, is_some}
use Rattle.std.proofs.lemmas.Bool.{leb-false, eq-eqb, lt-ltb, and_from}
use Rattle.an_base.specs.Values.{EndId}
use Rattle.an_base.specs.declared.port.Sample.{Sample}
use Rattle.an_base.specs.declared.port.Sample.TheVariants as sample
use Rattle.skeptic.specs.Skeptics.{hold, failed, dwelt, is_over}
use Rattle.connectivity.specs.Connections.{counts, replied, judged, probed}
use Rattle.port_monitor.specs.declared.port.Phase.{Phase}
use Rattle.port_monitor.specs.declared.port.Phase.TheVariants.{Dead, Checking, Host, Switch}
use Rattle.port_monitor.specs.declared.port.Port.{Port}
use Rattle.port_monitor.specs.Ports.{sampled, kept_up, entered, fallen, status_down, replied_to, speaks}
use Rattle.port_monitor.specs.Histories.{History, Sampled, Replied, port_after}
use Rattle.link_settling.specs.Measures.{HasNo, clocks_left, answers_left}
use Rattle.link_settling.proofs.PortSound.{IsPort}
use Rattle.common_values.proofs.TestLemmas.{by_test}
use Rattle.link_settling.proofs.Basics.{hold_least, failed_level, praised_level}
use Rattle.link_settling.proofs.Clocks.{no_host, no_switch, sampled_falls, clocks_most}
use Rattle.link_settling.proofs.Answers.{known_probed, known_forgotten, known_judged, judged_falls, answers_most}

-- the same port with another answer
abbrev pub with_answer : Option EndId → Port → Port
with_answer x p = record p { far = record p.far { answer = x } }

-- a reply changes at most the answer
pub replied_as : (from : EndId) (nonce : ℕ) (p : Port) → (x : Option EndId) × (replied_to from nonce p ≡ with_answer x p)
replied_as from nonce p =
    by_test (λ b. (x : Option EndId) × (cond b (record p { far = replied from nonce p.far }) p ≡ with_answer x p)) (speaks p.phase)
    (λ _. by_test (λ b. (x : Option EndId) × (record p { far = cond b (record p.far { answer = Some from }) p.far } ≡ with_answer x p)) (counts nonce p.far) (λ _. (Some from, refl)) (λ _. (p.far.answer, refl)))
    (λ _. (p.far.answer, refl))

-- the first reply to the last probe counts, and no further one does
pub heard_first : (from : EndId) (nonce : ℕ) (p : Port) → p.phase ≡ Switch → nonce ≡ p.far.nonce → 1 ≤ nonce → p.far.answer ≡ None → (replied_to from nonce p).far.answer ≡ Some from
heard_first from nonce p switch same least none =
    ap (λ ph. (cond (speaks ph) (record p { far = replied from nonce p.far }) p).far.answer) switch
    ∙ ap (λ b. (cond b (record p.far { answer = Some from }) p.far).answer)
    (and_from (nonce == p.far.nonce) (nat_lt 0 nonce && not (is_some p.far.answer)) (eq-eqb nonce p.far.nonce same)
    (and_from (nat_lt 0 nonce) (not (is_some p.far.answer)) (lt-ltb 0 nonce least) (ap (λ (a : Option EndId). not (is_some a)) none)))

pub heard_by : (from : EndId) (nonce : ℕ) (p : Port) (P : Option EndId → Type 0) → P (Some from) → P p.far.answer → P (replied_to from nonce p).far.answer
heard_by from nonce p P heard before =
    by_test (λ b. P (cond b (record p { far = replied from nonce p.far }) p).far.answer) (speaks p.phase)
    (λ _. by_test (λ b. P (cond b (record p.far { answer = Some from }) p.far).answer) (counts nonce p.far) (λ _. heard) (λ _. before))
    (λ _. before)

-- what is always so of a port
port_with_answer : (own : EndId) (x : Option EndId) (p : Port) → IsPort own p → IsPort own (with_answer x p)
port_with_answer own x p sound = record { status = sound.status; holding = sound.holding; far = record { me = sound.far.me; skeptic = sound.far.skeptic; few = sound.far.few; met = sound.far.met } }

port_replied : (own from : EndId) (nonce : ℕ) (p : Port) → IsPort own p → IsPort own (replied_to from nonce p)
port_replied own from nonce p sound = let r = replied_as from nonce p in subst (IsPort own) (sym r.1) (port_with_answer own r.0 p sound)

port_down : (own : EndId) (phase : Phase) (p : Port) → p.phase ≡ phase → IsPort own p → IsPort own (record { phase = Dead; status = status_down phase p.status; far = (fallen p).far })
port_down own Dead p is sound = record { status = sound.status; holding = λ _. hold_least p.status; far = known_forgotten own p.far sound.far }
port_down own Checking p is sound = record { status = failed_level p.status; holding = λ _. hold_least (failed p.status); far = known_forgotten own p.far sound.far }
port_down own Host p is sound = record { status = failed_level p.status; holding = λ _. hold_least (failed p.status); far = known_forgotten own p.far sound.far }
port_down own Switch p is sound = record { status = failed_level p.status; holding = λ _. hold_least (failed p.status); far = known_forgotten own p.far sound.far }

port_dwelt : (own : EndId) (p : Port) → p.phase ≡ Dead → IsPort own p → IsPort own (record p { phase = cond (is_over p.status) Checking Dead; status = dwelt p.status })
port_dwelt own p dead sound =
    by_test (λ b. is_over p.status ≡ b → IsPort own (record p { phase = cond b Checking Dead; status = record p.status { run = cond b 0 (p.status.run + 1) } })) (is_over p.status)
    (λ _ _. record { status = sound.status; holding = λ _. hold_least p.status; far = sound.far })
    (λ _ is. record { status = sound.status; holding = λ _. let e = leb-false (hold p.status) (p.status.run + 1) is in omega (arith, e); far = sound.far })
    refl

port_entered : (own : EndId) (is_host : Bool) (p : Port) → IsPort own p → IsPort own (entered is_host p)
port_entered own true p sound = record { status = sound.status; holding = λ _. hold_least p.status; far = known_forgotten own p.far sound.far }
port_entered own false p sound = record { status = sound.status; holding = λ _. hold_least p.status; far = known_probed own _ (known_forgotten own p.far sound.far) }

port_up : (own : EndId) (phase : Phase) (is_host : Bool) (p : Port) → p.phase ≡ phase → IsPort own p → IsPort own (kept_up phase is_host p)
port_up own Dead is_host p is sound = port_dwelt own p is sound
port_up own Checking is_host p is sound = port_entered own is_host p sound
port_up own Host is_host p is sound = record { status = praised_level p.status sound.status; holding = λ dead. let e = sym dead ∙ is in absurd cc; far = sound.far }
port_up own Switch is_host p is sound = record { status = praised_level p.status sound.status; holding = λ dead. let e = sym dead ∙ is in absurd cc; far = known_probed own _ (known_judged own p.far sound.far) }

port_sampled : (own : EndId) (s : Sample) (p : Port) → IsPort own p → IsPort own (sampled s p)
port_sampled own sample.Down p sound = port_down own p.phase p refl sound
port_sampled own sample.Host p sound = port_up own p.phase true p refl sound
port_sampled own sample.Switch p sound = port_up own p.phase false p refl sound

pub port_sound : (own : EndId) (history : History) → IsPort own (port_after own history)
port_sound own [] = record { status = omega arith; holding = λ _. omega arith; far = record { me = refl; skeptic = omega arith; few = λ _. omega arith; met = inl refl } }
port_sound own (Sampled s ∷ history) = port_sampled own s (port_after own history) (port_sound own history)
port_sound own (Replied from nonce ∷ history) = port_replied own from nonce (port_after own history) (port_sound own history)

-- a port that was never sampled as a host's is none, and so of a switch's
pub replied_phase : (from : EndId) (nonce : ℕ) (p : Port) → (replied_to from nonce p).phase ≡ p.phase
replied_phase from nonce p = let r = replied_as from nonce p in ap (λ (q : Port). q.phase) r.1

pub is_no_host : (own : EndId) (history : History) → HasNo sample.Host history → (port_after own history).phase ≡ Host → ⊥
is_no_host own [] never = λ e. cc
is_no_host own (Sampled s ∷ history) never = no_host s (port_after own history) never.0 (is_no_host own history never.1)
is_no_host own (Replied from nonce ∷ history) never = λ e. is_no_host own history never (sym (replied_phase from nonce (port_after own history)) ∙ e)

pub is_no_switch : (own : EndId) (history : History) → HasNo sample.Switch history → (port_after own history).phase ≡ Switch → ⊥
is_no_switch own [] never = λ e. cc
is_no_switch own (Sampled s ∷ history) never = no_switch s (port_after own history) never.0 (is_no_switch own history never.1)
is_no_switch own (Replied from nonce ∷ history) never = λ e. is_no_switch own history never (sym (replied_phase from nonce (port_after own history)) ∙ e)

-- a port that asks after a clock asked at this clock
up_asks : (phase : Phase) (p : Port) → p.phase ≡ phase → (kept_up phase false p).phase ≡ Switch → ((kept_up phase false p).far.answer ≡ None) × (1 ≤ (kept_up phase false p).far.nonce)
up_asks Dead p is = by_test (λ b. cond b Checking Dead ≡ Switch → (p.far.answer ≡ None) × (1 ≤ p.far.nonce)) (is_over p.status) (λ _ e. absurd cc) (λ _ e. absurd cc)
up_asks Checking p is = λ _. (refl, omega arith)
up_asks Host p is = λ e. let f = sym is ∙ e in absurd cc
up_asks Switch p is = λ _. (refl, omega arith)

pub asks : (p : Port) → (sampled sample.Switch p).phase ≡ Switch → ((sampled sample.Switch p).far.answer ≡ None) × (1 ≤ (sampled sample.Switch p).far.nonce)
asks p = up_asks p.phase p refl

-- the measures of a port after a history
pub clock_most : (own : EndId) (history : History) → clocks_left (port_after own history) ≤ 129
clock_most own history = let p = port_after own history in clocks_most p.phase p.status (port_sound own history).status

pub clock_nearer : (own : EndId) (history : History) (s : Sample) → s ≢ sample.Down → clocks_left (port_after own (Sampled s ∷ history)) ≡ clocks_left (port_after own history) - 1
clock_nearer own history s up = sampled_falls s (port_after own history) up (port_sound own history).holding

pub answer_most : (own peer : EndId) (history : History) → answers_left peer (port_after own history).far ≤ 129
answer_most own peer history = let far = (port_after own history).far in answers_most peer far.conn far (port_sound own history).far.skeptic

pub answer_nearer : (own peer : EndId) (history : History) → (port_after own history).far.answer ≡ Some peer → answers_left peer (probed (judged (port_after own history).far)) ≡ answers_left peer (port_after own history).far - 1
answer_nearer own peer history answered = judged_falls peer (port_after own history).far (port_sound own history).far.few answered
