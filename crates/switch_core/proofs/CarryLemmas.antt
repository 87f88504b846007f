use Rattle.std.proofs.Common.{◌≡◌, ◌≢◌, ◌∙◌, sym, ap, refl, subst, arith, ℕ, suc, ◌+◌, ◌^◌, ◌<◌, ◌≤◌, ◌==◌, List, [], ◌∷◌, ◌++◌, append-nil, length, Option, Some, None, Bool, true, false, cond, true≢false}
use Rattle.std.proofs.lemmas.Bool.{eq-eqb, le-ltb, lt-ltb, ne_eqb}
use Rattle.std.specs.Prelude.{is_some}
use Rattle.an_base.specs.Values.{EndId}
use Rattle.an_base.specs.Frames.{CarryOf}
use Rattle.an_base.specs.declared.body.Body.{Body}
use Rattle.ordered_link.specs.Receiving.{Receiving, last, received}
use Rattle.epoch_core.specs.Log.{CardOf, OnPort, Log, on_port}
use Rattle.epoch_core.specs.Epoch.{has_moved, version}
use Rattle.epoch_core.specs.StandsFor.{CoreOf}
use Rattle.switch_core.specs.Switch.{SwitchOf, counts}
use Rattle.switch_core.specs.declared.control.Control.{Control}
use Rattle.switch_core.specs.Steps.{Sent, Step, ack_to, acks, after, all_pushed, answers_body, joins, on_carry, receives, still}
use Rattle.switch_core.specs.Sound.{all_held}
use Rattle.switch_core.specs.Bytes.{BytesOut, all_spelled}
use Rattle.switch_core.specs.Stands.{Does, Done, HasAccepting, HasJoined, HasNumbers, HasRoom, ReceivesBody, Stands, answered}
use Rattle.switch_core.proofs.SessionLemmas.{at_the_port}
use Rattle.switch_core.proofs.SoundLemmas.{counted_joined, joins_joined, joins_spent, numbers_of_body, sound_joins}
use Rattle.switch_core.proofs.StandsLemmas.{does_nothing, does_then}

-- one body more raises a version by one at most
few_versions : (moved : Bool) (v n : ℕ) → v ≤ n → cond moved (suc v) v ≤ suc n
few_versions true v n few = omega (arith, few)
few_versions false v n few = omega (arith, few)

-- so that a version is at most one more than the accepted bodies
version_few : (card : CardOf) (log : Log) → version card log ≤ suc (length log)
version_few card [] = omega arith
version_few card (x ∷ log) = few_versions (has_moved card x log) (version card log) (suc (length log)) (version_few card log)

-- a core is kept exactly where an epoch was joined
joined_some : (o : Option CoreOf) (joined : Bool) (card : CardOf) (log : Log) → is_some o ≡ true → HasJoined o joined card log → joined ≡ true
joined_some None joined card log some has = absurd (true≢false (sym some))
joined_some (Some core) joined card log some has = has.0

-- and the other way round
some_joined : (o : Option CoreOf) (joined : Bool) (card : CardOf) (log : Log) → joined ≡ true → HasJoined o joined card log → is_some o ≡ true
some_joined None joined card log is has = absurd (true≢false (sym is ∙ has))
some_joined (Some core) joined card log is has = refl

-- a core of few bodies has versions left for a window
accepting_with : (o : Option CoreOf) (joined : Bool) (card : CardOf) (log : Log) (carried held : ℕ) → is_some o ≡ true → HasJoined o joined card log → length log + held ≤ carried → carried < 2 ^ 28 → HasAccepting o
accepting_with None joined card log carried held some has came few = absurd (true≢false (sym some))
accepting_with (Some core) joined card log carried held some has came few =
    let same : core.version ≡ version card log = has.1.stands.version ∙ ap (λ (c : CardOf). version c log) has.1.joined_with in
    let most = version_few card log in
    (core, refl, omega (arith, same, most, came, few))

-- and so has that of a switch that works
pub room_accepts : (c : Control) → HasRoom c → is_some c.core ≡ true → HasAccepting c.core
room_accepts c room some =
    let s = room.switch in
    let joined = joined_some c.core s.joined s.card s.log some room.stands.joined in
    accepting_with c.core s.joined s.card s.log room.carried (all_held s.receivings) some room.stands.joined (room.sound.came joined) room.few_carried

-- a body was received, and it is acknowledged
abbrev pub acknowledged : ℕ → EndId → ℕ → Body → SwitchOf → Step
acknowledged port peer k body s = record { switch = receives port k body s; frames = acks port peer k body s }

pub acked_some : (port k : ℕ) (peer : EndId) (body : Body) (old mid new acked : Control) (before after : List OnPort) (answer : Bool) (x y out : List BytesOut) → answer ≡ true → ReceivesBody port k body old mid before after answer → Does (answered port peer) mid new x y → acked ≡ new → out ≡ y
    → Does (acknowledged port peer k body) old acked x out
acked_some port k peer body old mid new acked before after answer x y out is_one receives_it does same out_is s stands =
    let r = received k body (s.receivings port) in
    let done = does (receives port k body s) (receives_it.stands s stands) in
    let ack : ℕ → List Sent = λ n. ack_to s port peer n ∷ [] in (
      subst (λ (c : Control). Stands c (receives port k body s)) (sym same) done.0,
      out_is ∙ done.1 ∙ ap (λ (z : Receiving). x ++ all_spelled (ack (last z))) (at_the_port port r s.receivings)
          ∙ ap (λ b. x ++ all_spelled (cond b (ack (last r)) [])) (sym is_one ∙ receives_it.acknowledged s stands),
    )

-- or it is not
pub acked_not : (port k : ℕ) (peer : EndId) (body : Body) (old mid acked : Control) (before after : List OnPort) (answer : Bool) (x out : List BytesOut) → answer ≡ false → ReceivesBody port k body old mid before after answer → acked ≡ mid → out ≡ x
    → Does (acknowledged port peer k body) old acked x out
acked_not port k peer body old mid acked before after answer x out is_none receives_it same out_is s stands =
    let ack : List Sent = ack_to s port peer (last (received k body (s.receivings port))) ∷ [] in (
      subst (λ (c : Control). Stands c (receives port k body s)) (sym same) (receives_it.stands s stands),
      out_is ∙ sym (append-nil x) ∙ ap (λ b. x ++ all_spelled (cond b ack [])) (sym is_none ∙ receives_it.acknowledged s stands),
    )

-- and then what the accepted bodies add is pushed
pub answers_then : (port k : ℕ) (peer : EndId) (body : Body) (old mid acked new : Control) (sends : List OnPort) (answer : Bool) (x y z : List BytesOut) → ReceivesBody port k body old mid [] sends answer → Does (acknowledged port peer k body) old acked x y → Does (all_pushed sends) acked new y z
    → Does (answers_body port peer k body) old new x z
answers_then port k peer body old mid acked new sends answer x y z receives_it acks_it pushes s stands =
    subst (λ xs. Done new x z (after (acknowledged port peer k body s) (all_pushed xs (receives port k body s)))) (receives_it.sends s stands)
    (does_then (acknowledged port peer k body) (all_pushed sends) old acked new x y z acks_it pushes s stands)

-- for which there are numbers left
pub numbers_then : (port k : ℕ) (peer : EndId) (body : Body) (old mid acked : Control) (sends : List OnPort) (answer : Bool) (x y : List BytesOut) → 1 ≤ port → port ≤ 12 → HasRoom old → is_some old.core ≡ true → ReceivesBody port k body old mid [] sends answer → Does (acknowledged port peer k body) old acked x y
    → HasNumbers acked sends
numbers_then port k peer body old mid acked sends answer x y least most room some receives_it acks_it =
    let s = room.switch in
    let joined = joined_some old.core s.joined s.card s.log some room.stands.joined in
    record {
      switch = receives port k body s;
      stands = (acks_it s room.stands).0;
      numbers = λ q.
          subst (λ xs. length (s.sendings q).pushed + length (on_port q xs) ≤ 2 ^ 31) (sym (receives_it.sends s room.stands))
          (numbers_of_body room.works room.carried port k body s room.sound joined room.few_carried least most q);
    }

-- a switch that works has room once more when it has joined another epoch
pub room_joined : (epoch : ℕ) (old new : Control) (x y : List BytesOut) → HasRoom old → Does (joins epoch) old new x y → HasRoom new
room_joined epoch old new x y room does =
    let s = room.switch in
    record {
      works = room.works;
      carried = room.carried;
      switch = (joins epoch s).switch;
      few = room.few;
      few_carried = room.few_carried;
      working = joins_spent epoch s ∙ room.working;
      stands = (does s room.stands).0;
      sound = sound_joins room.works room.carried epoch s room.sound;
    }

-- and it keeps a core then
pub core_joined : (epoch : ℕ) (old new : Control) (x y : List BytesOut) → HasRoom old → Does (joins epoch) old new x y → is_some new.core ≡ true
core_joined epoch old new x y room does =
    let t = (joins epoch room.switch).switch in
    some_joined new.core t.joined t.card t.log (joins_joined epoch room.switch) (does room.switch room.stands).0.joined

-- a body of a lower epoch is nothing
carry_lower : (port : ℕ) (f : CarryOf) (s : SwitchOf) → f.epoch < s.epoch → on_carry port f s ≡ still s
carry_lower port f s lower =
    let other : f.epoch ≢ s.epoch = omega (arith, lower) in
    let present = cond (f.epoch == s.epoch) (answers_body port f.from f.number f.body s) (still s) in
    ap (λ b. cond b (after (joins f.epoch s) (answers_body port f.from f.number f.body (joins f.epoch s).switch)) present) (le-ltb s.epoch f.epoch (omega (arith, lower)))
    ∙ ap (λ b. cond b (answers_body port f.from f.number f.body s) (still s)) (ne_eqb f.epoch s.epoch other)

-- one of the present epoch is answered
carry_same : (port : ℕ) (f : CarryOf) (s : SwitchOf) → f.epoch ≡ s.epoch → on_carry port f s ≡ answers_body port f.from f.number f.body s
carry_same port f s same =
    let present = cond (f.epoch == s.epoch) (answers_body port f.from f.number f.body s) (still s) in
    ap (λ b. cond b (after (joins f.epoch s) (answers_body port f.from f.number f.body (joins f.epoch s).switch)) present) (le-ltb s.epoch f.epoch (omega (arith, same)))
    ∙ ap (λ b. cond b (answers_body port f.from f.number f.body s) (still s)) (eq-eqb f.epoch s.epoch same)

-- a greater one is joined first
carry_greater : (port : ℕ) (f : CarryOf) (s : SwitchOf) → s.epoch < f.epoch → on_carry port f s ≡ after (joins f.epoch s) (answers_body port f.from f.number f.body (joins f.epoch s).switch)
carry_greater port f s greater =
    let present = cond (f.epoch == s.epoch) (answers_body port f.from f.number f.body s) (still s) in
    ap (λ b. cond b (after (joins f.epoch s) (answers_body port f.from f.number f.body (joins f.epoch s).switch)) present) (lt-ltb s.epoch f.epoch greater)

-- the body that comes is that of the frame
pub answers_of : (port k : ℕ) (peer : EndId) (body : Body) (f : CarryOf) (old new : Control) (x y : List BytesOut) → peer ≡ f.from → k ≡ f.number → body ≡ f.body → Does (answers_body port peer k body) old new x y → Does (answers_body port f.from f.number f.body) old new x y
answers_of port k peer body f old new x y from number same does s stands =
    subst (λ step. Done new x y step)
    (ap (λ (p : EndId). answers_body port p k body s) from ∙ ap (λ n. answers_body port f.from n body s) number ∙ ap (λ (b : Body). answers_body port f.from f.number b s) same)
    (does s stands)

-- one of a lower epoch changes nothing that is kept
pub carries_lower : (port : ℕ) (f : CarryOf) (c : Control) (x : List BytesOut) → f.epoch < c.epoch → Does (on_carry port f) c c x x
carries_lower port f c x lower s stands =
    let less : f.epoch < s.epoch = omega (arith, lower, stands.epoch) in
    subst (λ step. Done c x x step) (sym (carry_lower port f s less)) (does_nothing c x s stands)

-- one of the present epoch is answered by what is kept
pub carries_same : (port : ℕ) (f : CarryOf) (old mid new : Control) (x y z : List BytesOut) → f.epoch ≡ old.epoch → mid ≡ old → y ≡ x → Does (answers_body port f.from f.number f.body) mid new y z → Does (on_carry port f) old new x z
carries_same port f old mid new x y z same is out_is does s stands =
    subst (λ step. Done new x z step) (sym (carry_same port f s (same ∙ stands.epoch)))
    (subst (λ out. Done new out z (answers_body port f.from f.number f.body s)) out_is (does s (subst (λ (c : Control). Stands c s) (sym is) stands)))

-- a greater one is joined by it first
pub carries_greater : (port : ℕ) (f : CarryOf) (old joined mid new : Control) (x y_joined y z : List BytesOut) → old.epoch < f.epoch → mid ≡ joined → y ≡ y_joined → Does (joins f.epoch) old joined x y_joined → Does (answers_body port f.from f.number f.body) mid new y z → Does (on_carry port f) old new x z
carries_greater port f old joined mid new x y_joined y z greater is out_is joins_it does s stands =
    let more : s.epoch < f.epoch = omega (arith, greater, stands.epoch) in
    let first = subst (λ (c : Control). Does (joins f.epoch) old c x y) (sym is) (subst (λ out. Does (joins f.epoch) old joined x out) (sym out_is) joins_it) in
    subst (λ step. Done new x z step) (sym (carry_greater port f s more)) (does_then (joins f.epoch) (answers_body port f.from f.number f.body) old mid new x y z first does s stands)

-- one step is done where a test holds
pub does_where : (test : SwitchOf → Bool) (f g : SwitchOf → Step) (old new : Control) (x y : List BytesOut) → ((s : SwitchOf) → Stands old s → true ≡ test s) → Does f old new x y → Does (λ s. cond (test s) (f s) (g s)) old new x y
does_where test f g old new x y holds does s stands = subst (λ b. Done new x y (cond b (f s) (g s))) (holds s stands) (does s stands)

-- and the other where it does not
pub does_else : (test : SwitchOf → Bool) (f g : SwitchOf → Step) (old new : Control) (x y : List BytesOut) → ((s : SwitchOf) → Stands old s → false ≡ test s) → Does g old new x y → Does (λ s. cond (test s) (f s) (g s)) old new x y
does_else test f g old new x y fails does s stands = subst (λ b. Done new x y (cond b (f s) (g s))) (fails s stands) (does s stands)

-- a switch that works has joined an epoch when a frame counts
pub counts_joined : (port : ℕ) (from to : EndId) (c : Control) → HasRoom c → ((s : SwitchOf) → Stands c s → true ≡ counts s port from to) → is_some c.core ≡ true
counts_joined port from to c room counts_it =
    let s = room.switch in
    some_joined c.core s.joined s.card s.log (counted_joined room.works room.carried port from to s room.sound room.working (sym (counts_it s room.stands))) room.stands.joined
