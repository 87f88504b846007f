-- A journal is read event by event.
use Rattle.std.proofs.Common.{◌≡◌, ◌≢◌, sym, subst, ℕ, List, [], ◌∷◌, ◌++◌, append_assoc, append-nil, Err, Option, Some, None, codes}
use Rattle.an_base.specs.declared.event.Event.{Event}
use Rattle.net_script.specs.Scripts.{ScriptOf}
use Rattle.common_lines.specs.Stops.{refusal_at}
use Rattle.journal.specs.Texts.{IsFirstLine, IsJournal}
use Rattle.journal.specs.Steps.{JournalStop, ReadsLine, IsRefusal}
use Rattle.journal.specs.Reading.{BeginsJournal, HasRead, IsNext, ReaderOf}
use Rattle.journal.proofs.ReadLemmas.{read_end, refused}

-- THE NEXT LINE

-- it is the last
pub has_end : (script : ScriptOf) (bytes : List ℕ) (events : List Event) (old : ReaderOf) (first after : List ℕ) → IsFirstLine old.rest first after → first ≡ codes "end" → HasRead script bytes events old → IsJournal script bytes events
has_end script bytes events old first after next is has = read_end script bytes old.rest first after events old.line has.read next is

-- it is refused
pub has_refused : (script : ScriptOf) (bytes : List ℕ) (events : List Event) (old : ReaderOf) (first after : List ℕ) (stop : JournalStop) → IsFirstLine old.rest first after → first ≢ codes "end" → ReadsLine old.script first (Err stop) → HasRead script bytes events old → IsRefusal script bytes (refusal_at old.line stop)
has_refused script bytes events old first after stop next not_last reads has =
    refused script bytes old.rest first after events old.line stop has.read next not_last
    (subst (λ (s : ScriptOf). ReadsLine s first (Err stop)) has.script_is reads)

-- what is so of the event that was read, and where there is none
pub next_some : (script : ScriptOf) (bytes : List ℕ) (events : List Event) (new : ReaderOf) (next : Option Event) (event : Event) → next ≡ Some event → IsNext script bytes events new next → HasRead script bytes (events ++ event ∷ []) new
next_some script bytes events new next event is read = subst (IsNext script bytes events new) is read

pub next_none : (script : ScriptOf) (bytes : List ℕ) (events : List Event) (new : ReaderOf) (next : Option Event) → next ≡ None → IsNext script bytes events new next → IsJournal script bytes events
next_none script bytes events new next is read = subst (IsNext script bytes events new) is read

-- ALL LINES THAT ARE LEFT

-- behind some events so many more were read
pub record HasReadOn (script : ScriptOf) (bytes : List ℕ) (events : List Event) (reader : ReaderOf) : Type 0 where
  pub more : List Event
  pub has : HasRead script bytes (events ++ more) reader

-- whatever was read before
abbrev pub ReadsOn : ReaderOf → ReaderOf → Type 0
ReadsOn old new = (script : ScriptOf) (bytes : List ℕ) (events : List Event) → HasRead script bytes events old → HasReadOn script bytes events new

pub on_none : (reader : ReaderOf) → ReadsOn reader reader
on_none reader script bytes events has = record { more = []; has = subst (λ (es : List Event). HasRead script bytes es reader) (sym (append-nil events)) has }

pub on_more : (old mid new : ReaderOf) (next : Option Event) (event : Event) → ReadsOn old mid → next ≡ Some event → ((script : ScriptOf) (bytes : List ℕ) (events : List Event) → HasRead script bytes events mid → IsNext script bytes events new next) → ReadsOn old new
on_more old mid new next event on is reads script bytes events has =
    let so_far = on script bytes events has in
    record {
      more = so_far.more ++ event ∷ [];
      has = subst (λ (es : List Event). HasRead script bytes es new) (append_assoc events so_far.more (event ∷ []))
          (next_some script bytes (events ++ so_far.more) new next event is (reads script bytes (events ++ so_far.more) so_far.has));
    }

pub on_end : (old mid new : ReaderOf) (next : Option Event) → ReadsOn old mid → next ≡ None → ((script : ScriptOf) (bytes : List ℕ) (events : List Event) → HasRead script bytes events mid → IsNext script bytes events new next) → (script : ScriptOf) (bytes : List ℕ) (events : List Event) → HasRead script bytes events old → BeginsJournal script bytes events
on_end old mid new next on is reads script bytes events has =
    let so_far = on script bytes events has in
    record { more = so_far.more; is_journal = next_none script bytes (events ++ so_far.more) new next is (reads script bytes (events ++ so_far.more) so_far.has) }
