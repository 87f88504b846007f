use Rattle.std.proofs.Common.{◌≡◌, ◌∙◌, sym, ap, refl, ℕ, suc, ◌==◌, nat_lt, Bool, true, false, cond, List}
use Rattle.an_base.specs.Values.{EndId}
use Rattle.an_base.specs.Frames.{CarryOf}
use Rattle.an_base.specs.declared.body.Body.{Body}
use Rattle.an_base.specs.declared.frame.Frame.{Frame}
use Rattle.an_base.specs.declared.frame.Frame.TheVariants.{Carry, Ack, Probe, Reply}
use Rattle.an_base.specs.declared.port.Sample.{Sample}
use Rattle.connectivity.specs.Connections.{is_same_end}
use Rattle.port_monitor.specs.Histories.{Replied, with_happening}
use Rattle.switch_core.specs.declared.control.Control.{Control}
use Rattle.switch_core.specs.Bytes.{BytesOut}
use Rattle.switch_core.specs.Switch.{SwitchOf, counts, end_at}
use Rattle.ordered_link.specs.Receiving.{accepted_by}
use Rattle.switch_core.specs.Steps.{Step, after, all_added, all_resent, answers_body, framed, goes_on, is_change_due, is_spent_by, joins, on_ack, on_carry, probes, receives, sampled_by, still}
use Rattle.switch_core.specs.Stands.{Clocks, Does, HasRoom}
use Rattle.switch_core.proofs.SoundLemmas.{joins_spent}
use Rattle.switch_core.proofs.WindowLemmas.{all_pushed_few, all_resent_few, on_ack_few}

-- the step leaves it as it was whether the epochs of the switch are spent
abbrev pub SpendsNot : SwitchOf → Step → Type 0
SpendsNot s step = step.switch.spent ≡ s.spent

one_of : (b : Bool) (x y : Step) (s : SwitchOf) → SpendsNot s x → SpendsNot s y → SpendsNot s (cond b x y)
one_of true x y s first second = first
one_of false x y s first second = second

body_spends_not : (port k : ℕ) (peer : EndId) (body : Body) (s : SwitchOf) → SpendsNot s (answers_body port peer k body s)
body_spends_not port k peer body s = ap (λ (u : SwitchOf). u.spent) (all_pushed_few (all_added s.card port (accepted_by k body (s.receivings port)) s.log) (receives port k body s)).only

carry_spends_not : (port : ℕ) (f : CarryOf) (s : SwitchOf) → SpendsNot s (on_carry port f s)
carry_spends_not port f s =
    one_of (nat_lt s.epoch f.epoch) (after (joins f.epoch s) (answers_body port f.from f.number f.body (joins f.epoch s).switch)) (cond (f.epoch == s.epoch) (answers_body port f.from f.number f.body s) (still s)) s
    (body_spends_not port f.number f.from f.body (joins f.epoch s).switch ∙ joins_spent f.epoch s)
    (one_of (f.epoch == s.epoch) (answers_body port f.from f.number f.body s) (still s) s (body_spends_not port f.number f.from f.body s) refl)

-- a frame spends none
pub frame_spends_not : (port : ℕ) (frame : Frame) (s : SwitchOf) → SpendsNot s (framed port frame s)
frame_spends_not port (Carry f) s = one_of (counts s port f.from f.to) (on_carry port f s) (still s) s (carry_spends_not port f s) refl
frame_spends_not port (Ack epoch from to n) s = one_of (counts s port from to) (on_ack port from epoch n s) (still s) s (ap (λ (u : SwitchOf). u.spent) (on_ack_few port epoch n from s).only) refl
frame_spends_not port (Probe from nonce) s = refl
frame_spends_not port (Reply from to nonce) s = one_of (is_same_end to (end_at s port)) (still (record s { ports = with_happening port (Replied from nonce) s.ports })) (still s) s refl refl

-- so a switch that works goes on working after a frame
pub works_on : (port : ℕ) (frame : Frame) (old new : Control) (before after : List BytesOut) → HasRoom old → Does (framed port frame) old new before after → new.spent ≡ false
works_on port frame old new before after room does = (does room.switch room.stands).0.spent ∙ frame_spends_not port frame room.switch ∙ room.working

-- a clock spends the epochs exactly where a change is due that none is left for
pub goes_spends_not : (before s : SwitchOf) → SpendsNot s (goes_on before s)
goes_spends_not before s = one_of (is_change_due before s) (joins (suc s.epoch) s) (all_resent s.card.links s) s (joins_spent (suc s.epoch) s) (ap (λ (u : SwitchOf). u.spent) (all_resent_few s.card.links s).only)

clock_by : (b : Bool) (before s : SwitchOf) → s.spent ≡ false → (cond b (still (record s { spent = true })) (after (record { switch = s; frames = probes s }) (goes_on before s))).switch.spent ≡ b
clock_by true before s working = refl
clock_by false before s working = goes_spends_not before s ∙ working

pub clock_spends : (now : ℕ) (samples : List Sample) (old new : Control) (before after : List BytesOut) (spent : Bool) → HasRoom old → Clocks now samples old new before after spent → new.spent ≡ spent
clock_spends now samples old new before after spent room clocks =
    let is = clocks room.switch room.stands in
    is.stands.spent ∙ clock_by (is_spent_by room.switch (sampled_by now samples room.switch)) room.switch (sampled_by now samples room.switch) room.working ∙ sym is.spends
