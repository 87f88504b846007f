-- What C has of a handle after a call, and what the call returns.

use Rattle.std.specs.Prelude.{◌≡◌, ◌⊎◌, ◌==◌, ℕ, not, Option, None, Some, is_some, Bool, true, false}
use Rattle.switch_c.specs.declared.status.Status.{Status}
use Rattle.switch_c.specs.declared.status.Status.TheVariants.{Done, Argument, OutOfMemory, NotStarted, Started}
use Rattle.switch_c.specs.declared.instance.Instance.{Instance}
use Rattle.switch_c.specs.Codes.{code_of}
use Rattle.switch_c.specs.Calls.{IsStarted, is_in_range}

-- a handle is marked by a number that is not 0 if and only if it holds a switch
abbrev pub IsHandle : ℕ → Option Instance → Type 0
IsHandle held instance = is_some instance ≡ not (held == 0)

-- the handle holds a switch, and the call returned the number of a status for which `Does` holds
pub record Becomes (Does : Instance → Status → Type 0) (new : Option Instance) (number : ℕ) : Type 0 where
  pub instance : Instance
  pub holds : new ≡ Some instance
  pub status : Status
  pub told : number ≡ code_of status
  pub does : Does instance status

-- A call on the switch that a handle holds. If the handle holds none, the call says so, and the
-- handle still holds none.
pub record Calls (Does : Instance → Instance → Status → Type 0) (old new : Option Instance) (number : ℕ)
    : Type 0 where
  pub none : old ≡ None → (new ≡ None) × (number ≡ code_of NotStarted)
  pub some : (before : Instance) → old ≡ Some before → Becomes (Does before) new number

-- A call that can write into what C passed. If the handle holds no switch, what C passed is
-- unchanged.
pub record Writes {T : Type 0} (Does : T → T → Instance → Instance → Status → Type 0) (passed told : T)
    (old new : Option Instance) (number : ℕ) : Type 0 where
  pub untouched : old ≡ None → told ≡ passed
  pub calls : Calls (Does passed told) old new number

-- a call that only asks: the switch is unchanged
abbrev pub Asks : {T : Type 0} → (T → T → Instance → Status → Type 0) → T → T
    → Option Instance → Option Instance → ℕ → Type 0
Asks Tells = Writes (λ passed told before after status. (after ≡ before) × Tells passed told before status)

-- a switch is to be started
pub record Starts (uid boot epoch had : ℕ) (any : Bool) (old new : Option Instance) (number : ℕ)
    : Type 0 where
  pub held : is_some old ≡ true → (new ≡ old) × (number ≡ code_of Started)
  pub argument : old ≡ None → is_in_range uid boot had ≡ false → (new ≡ None) × (number ≡ code_of Argument)
  pub taken : old ≡ None → is_in_range uid boot had ≡ true
      → ((number ≡ code_of Done)
      × ((instance : Instance) × (new ≡ Some instance)
      × IsStarted (record { uid = uid; boot = boot }) epoch had any instance))
      ⊎ ((number ≡ code_of OutOfMemory) × (new ≡ None))

-- a switch is freed
pub record Ends (old new : Option Instance) (number : ℕ) : Type 0 where
  pub none : new ≡ None
  pub held : is_some old ≡ true → number ≡ code_of Done
  pub not_held : old ≡ None → number ≡ code_of NotStarted
