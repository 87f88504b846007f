-- What happens at the two ends of a link within a tick, event by event.

use Rattle.std.specs.Prelude.{◌≡◌, ◌⊎◌, ℕ, ◌∷◌, Bool, true, false, IsTrue}
use Rattle.an_base.specs.Values.{EndId}
use Rattle.an_base.specs.declared.port.Sample.TheVariants as sample
use Rattle.port_monitor.specs.Histories.{History, Sampled, Replied}
use Rattle.link_settling.specs.Links.{Speaks, nonce_after}

-- What one end of a link sees of a tick: what happened at its port and at that of the far end; whether each switch
-- has handled its clock of this tick; and whether the last probe of this end, or the far end's reply to it, is
-- under way, on the wire or in hand.
pub record EndView : Type 0 where
  pub here : History
  pub there : History
  pub has_clocked : Bool
  pub far_has_clocked : Bool
  pub probe : Bool
  pub reply : Bool

-- each switch is to handle its clock, and nothing is under way
abbrev pub tick_begins : History → History → EndView
tick_begins here there =
    record {
      here = here;
      there = there;
      has_clocked = false;
      far_has_clocked = false;
      probe = false;
      reply = false;
    }

-- only what is under way changes: it stays, or more comes
pub record Stays (old new : EndView) : Type 0 where
  pub probe_stays : IsTrue old.probe → IsTrue new.probe
  pub reply_stays : IsTrue old.reply → IsTrue new.reply

-- this end handles its clock, and its probe goes out and is not lost
pub record Clocks (own : EndId) (old new : EndView) : Type 0 where
  pub before : old.has_clocked ≡ false
  pub is : new
      ≡ record old {
        here = Sampled sample.Switch ∷ old.here;
        has_clocked = true;
        probe = new.probe;
        reply = new.reply;
      }
  pub probes : Speaks own new.here → IsTrue new.probe

-- the far end handles its clock
pub record FarClocks (old new : EndView) : Type 0 where
  pub before : old.far_has_clocked ≡ false
  pub is : new ≡ record old {
    there = Sampled sample.Switch ∷ old.there;
    far_has_clocked = true;
    probe = new.probe;
    reply = new.reply;
  }
  pub stays : Stays old new

-- this end handles a reply of the far end; if it replies to the last probe, it is possibly no longer under way
pub record Hears (own far : EndId) (old new : EndView) : Type 0 where
  pub fresh : old.has_clocked ≡ true
  pub nonce : ℕ
  pub is : new ≡ record old { here = Replied far nonce ∷ old.here; probe = new.probe; reply = new.reply }
  pub probe_stays : IsTrue old.probe → IsTrue new.probe
  pub reply_stays : IsTrue old.reply → (nonce ≡ nonce_after own old.here) ⊎ IsTrue new.reply

-- the far end handles a reply of this one
pub record FarHears (own : EndId) (old new : EndView) : Type 0 where
  pub fresh : old.far_has_clocked ≡ true
  pub nonce : ℕ
  pub is : new ≡ record old { there = Replied own nonce ∷ old.there; probe = new.probe; reply = new.reply }
  pub stays : Stays old new

-- the far end handles the last probe of this one, which is possibly no longer under way; if it speaks it replies
pub record Answers (far : EndId) (old new : EndView) : Type 0 where
  pub fresh : old.far_has_clocked ≡ true
  pub is : new ≡ record old { probe = new.probe; reply = new.reply }
  pub replies : Speaks far old.there → IsTrue new.reply
  pub reply_stays : IsTrue old.reply → IsTrue new.reply

-- whatever else happens on the link
pub record Passes (old new : EndView) : Type 0 where
  pub is : new ≡ record old { probe = new.probe; reply = new.reply }
  pub stays : Stays old new

-- what can happen at one end; a frame is handled only after the clock of its tick
pub data EndStep (own far : EndId) (old new : EndView) : Type 0 where
  clocks : Clocks own old new → EndStep own far old new
  far_clocks : FarClocks old new → EndStep own far old new
  hears : Hears own far old new → EndStep own far old new
  far_hears : FarHears own old new → EndStep own far old new
  answers : Answers far old new → EndStep own far old new
  passes : Passes old new → EndStep own far old new

-- one thing after another
pub data EndRun (own far : EndId) : EndView → EndView → Type 0 where
  rest : (old : EndView) → EndRun own far old old
  then_step :
      (first old new : EndView) → EndRun own far first old → EndStep own far old new
      → EndRun own far first new

-- both ends have handled their clocks, and nothing is under way
pub record TickEnds (old : EndView) : Type 0 where
  pub here : old.has_clocked ≡ true
  pub there : old.far_has_clocked ≡ true
  pub no_probe : old.probe ≡ false
  pub no_reply : old.reply ≡ false
