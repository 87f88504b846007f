use Rattle.std.proofs.Common.{◌≡◌, subst, sym, ap, refl, [], ◌++◌, true, ℕ, ◌+◌, ◌-◌, ◌≤◌, ◌<◌, ◌^◌, arith, List, Bool, false, ◌∙◌}
use Rattle.an_base.specs.declared.port.Sample.{Sample}
use Rattle.an_base.specs.declared.frame.Frame.{Frame}
use Rattle.frame_codec.specs.Frames.{IsFrame, IsNoFrame}
use Rattle.frame_codec.specs.Spelling.{spelling}
use Rattle.frame_codec.proofs.Decoding.{one_frame}
use Rattle.table_build.specs.Tables.{TableOf}
use Rattle.switch_core.specs.declared.control.Control.{Control}
use Rattle.switch_core.specs.Bytes.{BytesOut, all_spelled}
use Rattle.switch_core.specs.Switch.{SwitchOf}
use Rattle.switch_core.specs.Sound.{IsSoundBy, carries, counted}
use Rattle.switch_core.specs.Steps.{clocked, framed, loaded}
use Rattle.switch_core.specs.Stands.{Clocks, Does, Done, HasRoom, HasState, Stands}
use Rattle.switch_core.specs.Kept.{Counts, Handles, Loads}
use Rattle.switch_core.proofs.SoundLemmas.{clocked_by, framed_by, in_same, loaded_by, more_by, most_counted}

-- a switch that works has room below the most clocks and frames
pub room : (works carried : ℕ) (c : Control) → works < 2 ^ 60 → carried < 2 ^ 28 → c.spent ≡ false → HasState works carried c → HasRoom c
room works carried c few few_carried working has = record { works = works; carried = carried; switch = has.switch; few = few; few_carried = few_carried; working = sym has.stands.spent ∙ working; stands = has.stands; sound = has.sound }

-- what is kept has the epochs of the switches
sound_in : (works carried more : ℕ) (old new : Control) (s t : SwitchOf) → Stands old s → Stands new t → IsSoundBy works (counted s.epoch t.epoch carried more) t → IsSoundBy works (counted old.epoch new.epoch carried more) t
sound_in works carried more old new s t before now h =
    subst (λ (n : ℕ). IsSoundBy works (counted n new.epoch carried more) t) (sym before.epoch)
    (subst (λ (n : ℕ). IsSoundBy works (counted s.epoch n carried more) t) (sym now.epoch) h)

-- a clock more
pub clock_more : (works carried now : ℕ) (samples : List Sample) (old new : Control) (before after : List BytesOut) (spent : Bool) → HasState works carried old → Clocks now samples old new before after spent → HasState (works + 1) (counted old.epoch new.epoch carried 0) new
clock_more works carried now samples old new before after spent has clocks =
    let t = (clocked now samples has.switch).switch in
    let stands = (clocks has.switch has.stands).stands in
    record { switch = t; stands = stands; sound = sound_in (works + 1) carried 0 old new has.switch t has.stands stands (clocked_by works carried now samples has.switch has.sound) }

-- which brings no body
pub clock_spent : (works carried now : ℕ) (samples : List Sample) (old new : Control) (before after : List BytesOut) (spent : Bool) → HasState works carried old → Clocks now samples old new before after spent → HasState (works + 1) carried new
clock_spent works carried now samples old new before after spent has clocks =
    let then = clock_more works carried now samples old new before after spent has clocks in
    let few = most_counted old.epoch new.epoch carried 0 in
    record { switch = then.switch; stands = then.stands; sound = more_by (works + 1) (counted old.epoch new.epoch carried 0) (works + 1) carried then.switch (omega arith) (omega (arith, few)) then.sound }

-- a load
pub load_more : (works carried : ℕ) (old new : Control) (t : TableOf) → HasState works carried old → ((s : SwitchOf) → Stands old s → Loads s (Stands new) t) → HasState works carried new
load_more works carried old new t has loads =
    let is = loads has.switch has.stands in
    record {
      switch = loaded t.number has.switch;
      stands = is.stands;
      sound = loaded_by works carried t.number has.switch is.least is.most has.sound;
    }

-- a frame more
pub frame_more : (works carried port : ℕ) (frame : Frame) (old new : Control) (before after : List BytesOut) → 1 ≤ port → port ≤ 12 → HasRoom old → HasState works carried old → Does (framed port frame) old new before after → HasState (works + 1) (counted old.epoch new.epoch carried (carries frame)) new
frame_more works carried port frame old new before after least most room has does =
    let working : has.switch.spent ≡ false = sym has.stands.spent ∙ room.stands.spent ∙ room.working in
    let t = (framed port frame has.switch).switch in
    let stands = (does has.switch has.stands).0 in
    record { switch = t; stands = stands; sound = sound_in (works + 1) carried (carries frame) old new has.switch t has.stands stands (framed_by works carried port frame has.switch least most working has.sound) }

-- and what is no frame
pub nothing_more : (works carried : ℕ) (c : Control) → HasState works carried c → HasState (works + 1) (counted c.epoch c.epoch carried 0) c
nothing_more works carried c has =
    let all = in_same c.epoch c.epoch carried 0 refl in
    record { switch = has.switch; stands = has.stands; sound = more_by works carried (works + 1) (counted c.epoch c.epoch carried 0) has.switch (omega arith) (omega (arith, all)) has.sound }

-- bytes of a frame are of no other, and are some
pub frame_handled : (port : ℕ) (bytes : List ℕ) (frame : Frame) (s : SwitchOf) (new : Control) (before after : List BytesOut) → IsFrame frame → bytes ≡ spelling frame → before ≡ [] → Done new before after (framed port frame s)
    → Handles port bytes s (Stands new) (record { frames = after; noframe = false })
frame_handled port bytes frame s new before after is spelled none done = record {
  frame = λ f is_f spelled_f.
      let same : frame ≡ f = one_frame frame f is is_f (sym spelled ∙ spelled_f) in
      let here : Done new before after (framed port f s) = subst (λ g. Done new before after (framed port g s)) same done in
      (here.0, ap (λ (xs : List BytesOut). record { frames = xs; noframe = false }) (here.1 ∙ ap (λ xs. xs ++ all_spelled (framed port f s).frames) none));
  no_frame = λ refused. absurd (refused frame is (sym spelled));
}

-- so the bodies of the frame are counted
pub frame_counted : (bytes : List ℕ) (frame : Frame) (old new before more : ℕ) → IsFrame frame → bytes ≡ spelling frame → more ≡ carries frame → Counts bytes old new before (counted old new before more)
frame_counted bytes frame old new before more is spelled same = record {
  frame = λ f is_f spelled_f. ap (λ n. counted old new before n) (same ∙ ap carries (one_frame frame f is is_f (sym spelled ∙ spelled_f)));
  no_frame = λ refused. absurd (refused frame is (sym spelled));
}

-- bytes of no frame
pub nothing_handled : (port : ℕ) (bytes : List ℕ) (s : SwitchOf) (c : Control) (out : List BytesOut) → IsNoFrame bytes → out ≡ [] → Stands c s → Handles port bytes s (Stands c) (record { frames = out; noframe = true })
nothing_handled port bytes s c out refused none stands = record {
  frame = λ f is_f spelled. absurd (refused f is_f (sym spelled));
  no_frame = λ given. (stands, ap (λ (xs : List BytesOut). record { frames = xs; noframe = true }) none);
}

pub nothing_counted : (bytes : List ℕ) (epoch before : ℕ) → IsNoFrame bytes → Counts bytes epoch epoch before (counted epoch epoch before 0)
nothing_counted bytes epoch before refused =
    let all = in_same epoch epoch before 0 refl in
    record {
      frame = λ f is_f spelled. absurd (refused f is_f (sym spelled));
      no_frame = λ _. omega (arith, all);
    }

-- what a switch has counted, by how many of its works were others
pub counted_in : (bytes : List ℕ) (works carried now after old new : ℕ) → carried ≤ works → now ≤ works + 1 → works + 1 - (works + 1 - now) ≡ after → Counts bytes old new carried now → Counts bytes old new (works - (works - carried)) after
counted_in bytes works carried now after old new few few_now is counts =
    let at_first : carried ≡ works - (works - carried) = omega (arith, few) in
    let at_last : now ≡ after = omega (arith, few_now, is) in
    subst (λ (n : ℕ). Counts bytes old new (works - (works - carried)) n) at_last (subst (λ (n : ℕ). Counts bytes old new n now) at_first counts)
