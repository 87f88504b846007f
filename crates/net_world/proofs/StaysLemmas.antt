-- What a switch keeps of itself when it handles what it has in hand.

use Rattle.std.specs.Prelude.{◌≡◌, ◌==◌, ℕ, suc, nat_lt, List, [], Option, Some, None, true, refl, if◌then◌else◌}
use Rattle.std.proofs.Common.{◌∙◌, ap}
use Rattle.std.proofs.lemmas.Bool.{cond_both}
use Rattle.an_base.specs.Values.{EndId}
use Rattle.an_base.specs.Frames.{CarryOf}
use Rattle.an_base.specs.declared.body.Body.{Body}
use Rattle.an_base.specs.declared.frame.Frame.{Frame}
use Rattle.an_base.specs.declared.frame.Frame.TheVariants.{Carry, Ack, Probe, Reply}
use Rattle.an_base.specs.declared.port.Sample.{Sample}
use Rattle.connectivity.specs.Connections.{is_same_end}
use Rattle.port_monitor.specs.Histories.{Replied, with_happening}
use Rattle.epoch_core.specs.Epoch.{adds}
use Rattle.switch_core.specs.Switch.{SwitchOf, counts, end_at}
use Rattle.switch_core.specs.Steps.{Step, after, all_added, all_resent, answers_body, begun, clocked, framed, goes_on, is_change_due, is_spent_by, joins, on_ack, on_carry, probes, receives, sampled_by, still}
use Rattle.switch_core.proofs.WindowLemmas.{OnlySends, all_pushed_few, all_resent_few, on_ack_few}
use Rattle.net_state.specs.declared.hand.Hand.{Hand}
use Rattle.net_state.specs.declared.hand.Hand.TheVariants as hand
use Rattle.frame_codec.specs.Reading.{frame_of}
use Rattle.net_world.specs.World.{handles, handles_bytes}
use Rattle.ordered_link.specs.Receiving.{accepted_by}

-- a step leaves who the switch is, which tables it has, its number and its tick
pub record Stays (old new : SwitchOf) : Type 0 where
  pub life : new.life ≡ old.life
  pub any : new.any ≡ old.any
  pub number : new.number ≡ old.number
  pub tick : new.tick ≡ old.tick

pub stays : (s : SwitchOf) → Stays s s
stays s = record { life = refl; any = refl; number = refl; tick = refl }

stays_then : (s u v : SwitchOf) → Stays s u → Stays u v → Stays s v
stays_then s u v a b = record { life = b.life ∙ a.life; any = b.any ∙ a.any; number = b.number ∙ a.number; tick = b.tick ∙ a.tick }

only_stays : (s u : SwitchOf) → OnlySends s u → Stays s u
only_stays s u only = record { life = ap (λ (x : SwitchOf). x.life) only; any = ap (λ (x : SwitchOf). x.any) only; number = ap (λ (x : SwitchOf). x.number) only; tick = ap (λ (x : SwitchOf). x.tick) only }

begun_stays : (epoch : ℕ) (s : SwitchOf) → Stays s (begun epoch s)
begun_stays epoch s = record { life = refl; any = refl; number = refl; tick = refl }

joins_stays : (epoch : ℕ) (s : SwitchOf) → Stays s (joins epoch s).switch
joins_stays epoch s = stays_then s (begun epoch s) (joins epoch s).switch (begun_stays epoch s) (only_stays (begun epoch s) (joins epoch s).switch (all_pushed_few (adds (begun epoch s).card []) (begun epoch s)).only)

receives_stays : (port k : ℕ) (body : Body) (s : SwitchOf) → Stays s (receives port k body s)
receives_stays port k body s = record { life = refl; any = refl; number = refl; tick = refl }

body_stays : (port k : ℕ) (peer : EndId) (body : Body) (s : SwitchOf) → Stays s (answers_body port peer k body s).switch
body_stays port k peer body s =
    stays_then s (receives port k body s) (answers_body port peer k body s).switch (receives_stays port k body s)
    (only_stays (receives port k body s) (answers_body port peer k body s).switch (all_pushed_few (all_added s.card port (accepted_by k body (s.receivings port)) s.log) (receives port k body s)).only)

carry_stays : (port : ℕ) (f : CarryOf) (s : SwitchOf) → Stays s (on_carry port f s).switch
carry_stays port f s =
    cond_both (nat_lt s.epoch f.epoch) (after (joins f.epoch s) (answers_body port f.from f.number f.body (joins f.epoch s).switch)) rest (λ (step : Step). Stays s step.switch)
    (λ _. stays_then s (joins f.epoch s).switch (answers_body port f.from f.number f.body (joins f.epoch s).switch).switch (joins_stays f.epoch s) (body_stays port f.number f.from f.body (joins f.epoch s).switch))
    (λ _. cond_both (f.epoch == s.epoch) (answers_body port f.from f.number f.body s) (still s) (λ (step : Step). Stays s step.switch) (λ _. body_stays port f.number f.from f.body s) (λ _. stays s))
  where
    rest : Step
    rest = if f.epoch == s.epoch then answers_body port f.from f.number f.body s else still s

pub framed_stays : (port : ℕ) (frame : Frame) (s : SwitchOf) → Stays s (framed port frame s).switch
framed_stays port (Carry f) s =
    cond_both (counts s port f.from f.to) (on_carry port f s) (still s) (λ (step : Step). Stays s step.switch) (λ _. carry_stays port f s) (λ _. stays s)
framed_stays port (Ack epoch from to n) s =
    cond_both (counts s port from to) (on_ack port from epoch n s) (still s) (λ (step : Step). Stays s step.switch)
    (λ _. only_stays s (on_ack port from epoch n s).switch (on_ack_few port epoch n from s).only) (λ _. stays s)
framed_stays port (Probe from nonce) s = stays s
framed_stays port (Reply from to nonce) s =
    cond_both (is_same_end to (end_at s port)) (still (record s { ports = with_happening port (Replied from nonce) s.ports })) (still s) (λ (step : Step). Stays s step.switch)
    (λ _. record { life = refl; any = refl; number = refl; tick = refl }) (λ _. stays s)

goes_stays : (before s : SwitchOf) → Stays s (goes_on before s).switch
goes_stays before s =
    cond_both (is_change_due before s) (joins (suc s.epoch) s) (all_resent s.card.links s) (λ (step : Step). Stays s step.switch)
    (λ _. joins_stays (suc s.epoch) s) (λ _. only_stays s (all_resent s.card.links s).switch (all_resent_few s.card.links s).only)

-- a clock sets the tick
pub clocked_stays : (now : ℕ) (samples : List Sample) (s : SwitchOf) → Stays (sampled_by now samples s) (clocked now samples s).switch
clocked_stays now samples s =
    let u = sampled_by now samples s in
    cond_both (is_spent_by s u) (still (record u { spent = true })) (after (record { switch = u; frames = probes u }) (goes_on s u)) (λ (step : Step). Stays u step.switch)
    (λ _. record { life = refl; any = refl; number = refl; tick = refl }) (λ _. goes_stays s u)

bytes_stay : (port : ℕ) (f : Option Frame) (s : SwitchOf) → Stays s (handles_bytes port f s).switch
bytes_stay port None s = stays s
bytes_stay port (Some f) s = framed_stays port f s

-- with what is in hand the tick is that of a clock, else what it was
abbrev pub tick_after : Hand → ℕ → ℕ
tick_after hand.Empty tick = tick
tick_after (hand.Clock now samples) tick = now
tick_after (hand.Frame port) tick = tick

pub record Handled (h : Hand) (old new : SwitchOf) : Type 0 where
  pub life : new.life ≡ old.life
  pub any : new.any ≡ old.any
  pub number : new.number ≡ old.number
  pub tick : new.tick ≡ tick_after h old.tick

pub handles_stay : (h : Hand) (bytes : List ℕ) (s : SwitchOf) → Handled h s (handles h bytes s).switch
unfolding handles
handles_stay hand.Empty bytes s = record { life = refl; any = refl; number = refl; tick = refl }
handles_stay (hand.Clock now samples) bytes s = let c = clocked_stays now samples s in record { life = c.life; any = c.any; number = c.number; tick = c.tick }
handles_stay (hand.Frame port) bytes s = let c = bytes_stay port (frame_of bytes) s in record { life = c.life; any = c.any; number = c.number; tick = c.tick }
