-- The results of the calls on a switch that C holds: those of `switch_core`, and when they are rejected.

use Rattle.std.specs.Prelude.{◌≡◌, ◌⊎◌, ◌==◌, ◌&&◌, ◌||◌, ℕ, ◌+◌, ◌<◌, ◌≤◌, nat_lt, not, List, [], ◌++◌, length, drop, map, slice_get, Option, None, Some, Bool, true, false, if◌then◌else◌}
use Rattle.std.specs.Int.{bit_at}
use Rattle.an_base.specs.Values.{LifeId}
use Rattle.an_base.specs.declared.port.Sample.{Sample}
use Rattle.an_base.specs.declared.port.Sample.TheVariants as sample
use Rattle.port_monitor.specs.Histories.{externals}
use Rattle.switch_core.specs.Bytes.{BytesOut, OutOf}
use Rattle.switch_core.specs.Switch.{SwitchOf, started, started_as}
use Rattle.switch_core.specs.Kept.{Counts, Handles, KeptOf, Loads as LoadsTable, StandsFor, Ticks, carried, epoch_of, is_spent, load_due}
use Rattle.switch_core.specs.Sound.{counted}
use Rattle.switch_core.specs.declared.switch.TableFor.{TableFor}
use Rattle.switch_c.specs.declared.shown.FrameShown.{FrameShown}
use Rattle.switch_c.specs.declared.status.Status.{Status}
use Rattle.switch_c.specs.declared.status.Status.TheVariants.{Done, Argument, OutOfMemory, Spent, Over, NotDue, NoMore, Room}
use Rattle.switch_c.specs.declared.instance.Instance.{Instance}

-- a call was rejected for the reason `why`, and nothing changed
pub record Refuses (why : Status) (old new : Instance) (status : Status) : Type 0 where
  pub is : status ≡ why
  pub same : new ≡ old

-- an identifier is below 2^48, a boot is at least 1, and a short address is 1 to 126
abbrev pub is_in_range : ℕ → ℕ → ℕ → Bool
is_in_range uid boot had =
    nat_lt uid 281474976710656 && (nat_lt 0 boot && (nat_lt 0 had && nat_lt had 127))

-- `instance` is a switch at power-on, without outgoing frames and without a table
pub record IsStarted (life : LifeId) (epoch had : ℕ) (any : Bool) (instance : Instance) : Type 0 where
  pub start : instance.switch.start ≡ record { life = life; epoch = epoch; had = had; any = any }
  pub stands : StandsFor instance.switch (started life epoch had any)
  pub works : instance.switch.works ≡ 0
  pub out : instance.out ≡ record { frames = []; noframe = false }
  pub given : instance.given ≡ 0
  pub loaded : instance.loaded ≡ None
  pub lost : instance.lost ≡ false

-- the switch took 2^60 clocks and frames, or 2^28 frames with a body in its epoch
abbrev pub is_full : KeptOf → Bool
is_full switch = not (nat_lt switch.works 1152921504606846976) || not (nat_lt (carried switch) 268435456)

-- The life of the switch is over, so that it takes no clock and no frame: memory ran out for one, it took as many
-- as it can, or no epoch is left for it.
abbrev pub is_over : Instance → Bool
is_over instance = instance.lost || (is_full instance.switch || is_spent instance.switch)

-- a clock or a frame was taken, with the result `Comes` and the count `Counts`; none of the outgoing frames was
-- delivered
pub record IsTaken (Comes : SwitchOf → (SwitchOf → Type 0) → OutOf → Type 0) (Counts : KeptOf → KeptOf → Type 0)
    (old new : Instance) : Type 0 where
  pub comes : (switch : SwitchOf) → StandsFor old.switch switch
      → Comes switch (StandsFor new.switch) new.out
  pub given : new.given ≡ 0
  pub start : new.switch.start ≡ old.switch.start
  pub works : new.switch.works ≡ old.switch.works + 1
  pub counts : Counts old.switch new.switch
  pub loaded : new.loaded ≡ old.loaded
  pub lost : new.lost ≡ false

-- memory ran out for a clock or a frame, which counts: the switch is as it was started, no frame goes out, and its
-- life is over
pub record IsLost (old new : Instance) : Type 0 where
  pub stands : StandsFor new.switch (started_as old.switch.start)
  pub start : new.switch.start ≡ old.switch.start
  pub works : new.switch.works ≡ old.switch.works + 1
  pub carried_is : carried new.switch ≡ 0
  pub out : new.out ≡ record { frames = []; noframe = false }
  pub given : new.given ≡ 0
  pub loaded : new.loaded ≡ old.loaded
  pub lost : new.lost ≡ true

-- a set has a port: bit p of a set says that it has port p
abbrev pub has_port : ℕ → ℕ → Bool
has_port set port = bit_at set port == 1

-- what the hardware says of a port, given the set of ports with a link and the set of ports to hosts
abbrev pub sample_of : ℕ → ℕ → ℕ → Sample
sample_of up hosts port =
    if has_port up port then (if has_port hosts port then sample.Host else sample.Switch) else sample.Down

abbrev pub samples_of : ℕ → ℕ → List Sample
samples_of up hosts = map (sample_of up hosts) externals

-- a clock brings no body, and can begin an epoch
abbrev pub BringsNone : KeptOf → KeptOf → Type 0
BringsNone old new = carried new ≡ counted (epoch_of old) (epoch_of new) (carried old) 0

-- a clock finds no epoch left, and begins none
abbrev pub KeepsCount : KeptOf → KeptOf → Type 0
KeepsCount old new = carried new ≡ carried old

-- a clock came at the tick `now`; `up` is the set of ports with a link, `hosts` the set of ports to hosts
pub record Clocks (now up hosts : ℕ) (old new : Instance) (status : Status) : Type 0 where
  pub over : is_over old ≡ true → Refuses Over old new status
  pub taken : is_over old ≡ false → (status ≡ Done) ⊎ ((status ≡ Spent) ⊎ (status ≡ OutOfMemory))
  pub done : status ≡ Done
      → IsTaken (λ switch Is out. Ticks now (samples_of up hosts) switch Is out false) BringsNone old new
  pub spent : status ≡ Spent
      → IsTaken (λ switch Is out. Ticks now (samples_of up hosts) switch Is out true) KeepsCount old new
  pub lost : status ≡ OutOfMemory → IsLost old new

abbrev pub is_port : ℕ → Bool
is_port port = nat_lt 0 port && nat_lt port 13

-- the count of frames with a body changes as these bytes require
abbrev pub ComesWith : List ℕ → KeptOf → KeptOf → Type 0
ComesWith bytes old new = Counts bytes (epoch_of old) (epoch_of new) (carried old) (carried new)

-- `bytes` came by `port`; they are rejected if it is no external port, or if the life is over
pub record TakesFrame (port : ℕ) (bytes : List ℕ) (old new : Instance) (status : Status) : Type 0 where
  pub argument : is_port port ≡ false → Refuses Argument old new status
  pub over : is_port port ≡ true → is_over old ≡ true → Refuses Over old new status
  pub taken : is_port port ≡ true → is_over old ≡ false → (status ≡ Done) ⊎ (status ≡ OutOfMemory)
  pub done : status ≡ Done → IsTaken (λ switch Is out. Handles port bytes switch Is out) (ComesWith bytes) old new
  pub lost : status ≡ OutOfMemory → IsLost old new

-- C gets a frame: its port, its length, and its bytes at the front of those that C passed
pub record IsTold (frame : BytesOut) (told : FrameShown) (before after : List ℕ) : Type 0 where
  pub length_is : told.length ≡ length frame.bytes
  pub port_is : told.port ≡ frame.port
  pub bytes : after ≡ frame.bytes ++ drop (length frame.bytes) before

-- the frame is longer than the space for it, and only its length is set
pub record HasNoRoom (frame : BytesOut) (shown told : FrameShown) (before after : List ℕ) : Type 0 where
  pub told_is : told ≡ record shown { length = length frame.bytes }
  pub bytes : after ≡ before

-- The next outgoing frame of the last clock or frame is asked for. C passed a struct for its port and length, and
-- space for its bytes.
pub record HandsOut (passed told : FrameShown × List ℕ) (old new : Instance) (status : Status) : Type 0 where
  -- no frame is left
  pub none : slice_get old.out.frames old.given ≡ None → (told ≡ passed) × Refuses NoMore old new status
  -- a frame for which there is too little space stays the next one
  pub room : (frame : BytesOut) → slice_get old.out.frames old.given ≡ Some frame
      → length passed.1 < length frame.bytes
      → HasNoRoom frame passed.0 told.0 passed.1 told.1 × Refuses Room old new status
  -- otherwise the next frame is the one after it
  pub done : (frame : BytesOut) → slice_get old.out.frames old.given ≡ Some frame
      → length frame.bytes ≤ length passed.1
      → IsTold frame told.0 passed.1 told.1 × ((status ≡ Done) × (new ≡ record old { given = old.given + 1 }))

-- the table that was due was loaded
pub record IsLoaded (old new : Instance) : Type 0 where
  pub table : TableFor
  pub loaded : new.loaded ≡ Some table
  pub epoch : (switch : SwitchOf) → StandsFor old.switch switch → table.epoch ≡ switch.epoch
  pub loads : (switch : SwitchOf) → StandsFor old.switch switch
      → LoadsTable switch (StandsFor new.switch) table.table
  pub start : new.switch.start ≡ old.switch.start
  pub works : new.switch.works ≡ old.switch.works
  pub carried_is : carried new.switch ≡ carried old.switch
  pub out : new.out ≡ old.out
  pub given : new.given ≡ old.given
  pub lost : new.lost ≡ old.lost

-- a table is to be loaded
pub record Loads (old new : Instance) (status : Status) : Type 0 where
  pub not_due : load_due old.switch ≡ false → Refuses NotDue old new status
  pub due : load_due old.switch ≡ true → (status ≡ Done) ⊎ (status ≡ OutOfMemory)
  pub done : status ≡ Done → IsLoaded old new
  pub memory : status ≡ OutOfMemory → new ≡ old
