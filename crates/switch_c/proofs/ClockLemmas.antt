-- A clock that was taken.
use Rattle.std.proofs.Common.{◌≡◌, ℕ, ◌+◌, Bool, false, List, subst}
use Rattle.an_base.specs.declared.port.Sample.{Sample}
use Rattle.switch_core.specs.Kept.{KeptOf, StandsFor, Ticks}
use Rattle.switch_core.specs.Switch.{SwitchOf}
use Rattle.switch_c.specs.declared.instance.Instance.{Instance}
use Rattle.switch_c.specs.Calls.{IsTaken}

-- the samples are those that were said
pub clock_taken : (Counts : KeptOf → KeptOf → Type 0) (now : ℕ) (given said : List Sample) (spent : Bool) (old new : Instance) → given ≡ said
    → ((switch : SwitchOf) → StandsFor old.switch switch
    → Ticks now given switch (StandsFor new.switch) new.out spent)
    → new.given ≡ 0 → new.switch.start ≡ old.switch.start → new.switch.works ≡ old.switch.works + 1
    → Counts old.switch new.switch → new.loaded ≡ old.loaded → new.lost ≡ false
    → IsTaken (λ switch Is out. Ticks now said switch Is out spent) Counts old new
clock_taken Counts now given said spent old new same ticks none start works counts loaded lost = record {
  comes = λ switch stands.
      subst (λ them. Ticks now them switch (StandsFor new.switch) new.out spent) same (ticks switch stands);
  given = none;
  start = start;
  works = works;
  counts = counts;
  loaded = loaded;
  lost = lost;
}
