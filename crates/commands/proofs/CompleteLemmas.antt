-- What commands answer to a source that tells a script and a legal journal.
use Rattle.std.proofs.Common.{◌≡◌, subst, ℕ, ◌≤◌, List, length, Some, inl, inr}
use Rattle.an_base.specs.declared.event.Event.{Event}
use Rattle.net_script.specs.Scripts.{ScriptOf}
use Rattle.net_script.specs.Texts.{IsFault, IsText}
use Rattle.net_script.proofs.ScriptKept.{text_kept}
use Rattle.net_script.proofs.TextLemmas.{no_fault, one_text}
use Rattle.journal_cause.specs.declared.cause.JournalCause.{JournalCause}
use Rattle.journal.specs.Texts.{IsJournal}
use Rattle.journal.proofs.FaultLemmas.{no_fault as no_journal_fault}
use Rattle.journal.proofs.JournalLemmas.{one_journal}
use Rattle.net_state.specs.declared.ending.Ending.{Ending}
use Rattle.net_world.specs.Histories.{IsLegal}
use Rattle.replay.specs.Replays.{IsIllegal, IsNoReplay, no_journal, not_legal}
use Rattle.replay.proofs.OneDivision.{one_division}
use Rattle.report.specs.Beliefs.{AreNames}
use Rattle.autonet_call.specs.declared.status.Status.{Status}
use Rattle.autonet_call.specs.declared.status.Status.TheVariants.{Ok, Usage, ScriptRefused, ReadFault, WriteFault, TablesRefused, Unsettled, EpochsSpent, JournalRefused, JournalFull, OutOfMemory}
use Rattle.autonet_call.specs.Answer.{Streams, IsAnswer, input_limit, refuses_nothing}
use Rattle.commands.specs.Complete.{gives_names_of, gives_report_of}
use Rattle.commands.specs.Names.{gives_names}
use Rattle.commands.specs.Replay.{IfJournalRefused, IsJournaled, IsNoScript, IsScriptWith, IsUnreplayed, gives_replayed, refuses_journal}
use Rattle.commands.specs.Reported.{IsReported}
use Rattle.commands.specs.Words.{IsNamesAnswer, IsReplayAnswer}
use Rattle.autonet_call.proofs.AllToldLemmas.{answered_as, not_refused}
use Rattle.commands.proofs.RunLemmas.{never_illegal}

-- A SCRIPT AND A LEGAL JOURNAL

journal_not_refused : (status : Status) (Holds : ℕ → JournalCause → Type 0) → ((line : ℕ) (why : JournalCause) → Holds line why → ⊥) → IfJournalRefused status Holds → ⊥
journal_not_refused (JournalRefused line why) Holds none refused = none line why refused
journal_not_refused Ok Holds none refused = refused
journal_not_refused Usage Holds none refused = refused
journal_not_refused (ScriptRefused line cause) Holds none refused = refused
journal_not_refused ReadFault Holds none refused = refused
journal_not_refused WriteFault Holds none refused = refused
journal_not_refused TablesRefused Holds none refused = refused
journal_not_refused (Unsettled tick) Holds none refused = refused
journal_not_refused (EpochsSpent name) Holds none refused = refused
journal_not_refused JournalFull Holds none refused = refused
journal_not_refused OutOfMemory Holds none refused = refused

-- the bytes have one division, and the script and the journal in it are the only ones
module _ (bytes after : List ℕ) (script : ScriptOf) (journal : List Event) (end : Ending)
    (input : IsScriptWith bytes script after) (is_journal : IsJournal script after journal) (legal : IsLegal script journal end) where
  same_script : (other : ScriptOf) (rest : List ℕ) → IsScriptWith bytes other rest → (other ≡ script) × (rest ≡ after)
  same_script other rest is =
      let parts = one_division bytes is.first rest input.first after is.division input.division in
      (one_text input.first other script (subst (λ (b : List ℕ). IsText b other) parts.0 is.is_text) input.is_text, parts.1)

  same_journal : (other : List Event) → IsJournal script after other → other ≡ journal
  same_journal other is = one_journal script after other journal (text_kept input.first script input.is_text) is is_journal

  same_read : (other : ScriptOf) (events : List Event) → IsJournaled bytes other events → (other ≡ script) × (events ≡ journal)
  same_read other events read =
      let same = same_script other read.after read.input in
      (same.0, same_journal events (subst (λ (b : List ℕ). IsJournal script b events) same.1 (subst (λ (s : ScriptOf). IsJournal s read.after events) same.0 read.is_journal)))

  -- so what is said of the ones that were read is said of them
  said_same : (says : ScriptOf → List Event → Type 0) (other : ScriptOf) (events : List Event) → IsJournaled bytes other events → says other events → says script journal
  said_same says other events read said =
      let same = same_read other events read in
      subst (λ (j : List Event). says script j) same.1 (subst (λ (s : ScriptOf). says s events) same.0 said)

  has_script : (status : Status) → IsNoScript bytes status → ⊥
  has_script status none =
      let parts = one_division bytes none.first none.after input.first after none.division input.division in
      not_refused status (IsFault none.first) (λ line cause fault. no_fault input.first script line cause input.is_text (subst (λ (b : List ℕ). IsFault b line cause) parts.0 fault)) none.fault

  is_replayed : (line : ℕ) (why : JournalCause) → IsNoReplay script after line why → ⊥
  is_replayed line why (no_journal fault) = no_journal_fault script after journal line why (text_kept input.first script input.is_text) is_journal fault
  is_replayed line why (not_legal other is illegal) =
      never_illegal script journal end line why legal (subst (λ (j : List Event). IsIllegal script j line why) (same_journal other is) illegal)

  not_refused_here : (status : Status) → refuses_journal bytes status → ⊥
  not_refused_here status refused = elim refused [
    | inl none ↦ has_script status none
    | inr illegal ↦ journal_not_refused status (IsUnreplayed bytes) (λ line why un.
        let same = same_script un.script un.after un.input in
        is_replayed line why (subst (λ (b : List ℕ). IsNoReplay script b line why) same.1 (subst (λ (s : ScriptOf). IsNoReplay s un.after line why) same.0 un.refused))) illegal
  ]

  pub legal_is_replayed : (answer : ℕ) (old new : Streams) → old.source.told ≡ Some bytes → length bytes ≤ input_limit → IsReplayAnswer old new answer → IsAnswer input_limit (gives_report_of script journal) refuses_nothing old new answer
  legal_is_replayed answer old new told few is =
      answered_as gives_replayed (gives_report_of script journal) refuses_journal bytes old new told
      (λ status text of. said_same (λ s j. IsReported s j status text) of.script of.journal of.read of.reported)
      not_refused_here answer is

  pub legal_is_named : (answer : ℕ) (old new : Streams) → old.source.told ≡ Some bytes → length bytes ≤ input_limit → IsNamesAnswer old new answer → IsAnswer input_limit (gives_names_of script journal) refuses_nothing old new answer
  legal_is_named answer old new told few is =
      answered_as gives_names (gives_names_of script journal) refuses_journal bytes old new told
      (λ status text (ok, of). (ok, said_same (λ s j. AreNames s j text) of.script of.journal of.read of.names))
      not_refused_here answer is
