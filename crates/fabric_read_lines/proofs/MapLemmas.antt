-- What is told by what takes lines, seen as another state.
use Rattle.std.proofs.Common.{◌≡◌, ap, refl, ℕ, inl, inr, List, [], ◌∷◌, ◌++◌}
use Rattle.outside.specs.Told.{Seen}
use Rattle.common_lines.specs.Chains.{LeadsBy, IsFaultOf}
use Rattle.common_lines.specs.Lines.{lines_of}
use Rattle.fabric_read_lines.specs.declared.reader.TextRefusal.{TextRefusal}
use Rattle.fabric_read_lines.specs.declared.reader.TextRefusal.TheVariants as refusal
use Rattle.fabric_read_lines.specs.Texts.{IsTextOf, IsRefusedBy}

module _ {State Told : Type 0} (told_of : State → Told) (adds : Told → List ℕ → Told → Type 0) (IsEnded : Told → Type 0) where
  abbrev adds_state : State → List ℕ → State → Type 0
  adds_state old line new = adds (told_of old) line (told_of new)

  abbrev ended_state : State → Type 0
  ended_state state = IsEnded (told_of state)

  leads : (first last : State) (lines : List (List ℕ)) → LeadsBy adds_state first lines last → LeadsBy adds (told_of first) lines (told_of last)
  leads first last [] good = ap told_of good
  leads first last (line ∷ lines) good = (told_of good.0, good.1, leads good.0 last lines good.2)

  pub text_told : (first last : State) (bytes : List ℕ) → IsTextOf adds_state ended_state first bytes last → IsTextOf adds IsEnded (told_of first) bytes (told_of last)
  text_told first last bytes text = record { good = leads first last (lines_of bytes) text.good; ended = text.ended }

  module _ {Cause : Type 0} (faulty : Told → List ℕ → Cause → Type 0) (no_end too_many : Cause) where
    abbrev faulty_state : State → List ℕ → Cause → Type 0
    faulty_state old line cause = faulty (told_of old) line cause

    fault_told : (first : State) (bytes : List ℕ) (line : ℕ) (cause : Cause) → IsFaultOf first adds_state faulty_state ended_state no_end bytes line cause → IsFaultOf (told_of first) adds faulty IsEnded no_end bytes line cause
    fault_told first bytes line cause (inl wrong) = inl (record {
      before = wrong.before;
      here = wrong.here;
      after = wrong.after;
      parts = wrong.parts;
      said = told_of wrong.said;
      good = leads first wrong.said wrong.before wrong.good;
      number = wrong.number;
      faulty_here = wrong.faulty_here;
    })
    fault_told first bytes line cause (inr none) = inr (record {
      said = told_of none.said;
      good = leads first none.said (lines_of bytes) none.good;
      unended = none.unended;
      number = none.number;
      cause_is = none.cause_is;
    })

    pub refused_told : (old new : Seen) (first : State) (refused : TextRefusal Cause) → IsRefusedBy adds_state faulty_state ended_state no_end too_many old new first refused → IsRefusedBy adds faulty IsEnded no_end too_many old new (told_of first) refused
    refused_told old new first (refusal.Fault line cause) fault = record {
      bytes = fault.bytes;
      gave = fault.gave;
      fault = elim fault.fault [
        | inl all ↦ inl (λ more. fault_told first (fault.bytes ++ more) line cause (all more))
        | inr (inl here) ↦ inr (inl (here.0, fault_told first fault.bytes line cause here.1))
        | inr (inr many) ↦ inr (inr many)
      ];
    }
    refused_told old new first refusal.ReadFault failed = failed
    refused_told old new first refusal.OutOfMemory none = tt
