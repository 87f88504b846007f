-- An answer of 1 is that of a journal that had no time to settle.
use Rattle.std.proofs.Common.{◌≡◌, ◌∙◌, ap, subst, ℕ, List, Some, refl, arith, inl, inr}
use Rattle.an_base.specs.declared.event.Event.{Event}
use Rattle.outside.specs.Told.{Gains}
use Rattle.net_script.specs.Scripts.{ScriptOf, IsScript}
use Rattle.net_script.proofs.ScriptKept.{text_kept}
use Rattle.net_state.specs.declared.ending.Ending.{Ending}
use Rattle.net_state.specs.declared.ending.Ending.TheVariants as ending
use Rattle.net_world.specs.World.{world_after}
use Rattle.net_settling.specs.Settling.{HasTime}
use Rattle.net_settling.proofs.Whole.{ends_in_time}
use Rattle.common_call.specs.declared.input.Unread.{Unread}
use Rattle.common_call.specs.declared.input.Unread.TheVariants as no_input
use Rattle.autonet_call.specs.declared.status.Status.{Status}
use Rattle.autonet_call.specs.declared.status.Status.TheVariants.{Ok, Usage, ScriptRefused, ReadFault, WriteFault, TablesRefused, Unsettled, EpochsSpent, JournalRefused, JournalFull, OutOfMemory}
use Rattle.autonet_call.specs.Status.{code_of, line_of}
use Rattle.autonet_call.specs.Answer.{Gives, Refuses, Streams, IsAnswer, IsCause, IsGiven, IsStop, input_limit, given, cut, stopped, unread, refused, unread_as, want}
use Rattle.autonet_call.specs.Scripted.{refuses_script}
use Rattle.commands.specs.InTime.{IsUnsettledAnswer, gives_late_replay, gives_late_run}
use Rattle.commands.specs.Replay.{gives_replayed, refuses_journal}
use Rattle.commands.specs.Reported.{IsReported, status_of_end}
use Rattle.commands.specs.Run.{gives_run}
use Rattle.commands.specs.Words.{IsReplayAnswer, IsRunAnswer}

-- THE STATUS OF AN ANSWER OF 1

-- no other status has the number 1
unsettled_is : (status : Status) → 1 ≡ code_of status → (tick : ℕ) × (status ≡ Unsettled tick)
unsettled_is (Unsettled tick) one = (tick, refl)
unsettled_is Ok one = absurd (omega (arith, one))
unsettled_is Usage one = absurd (omega (arith, one))
unsettled_is (ScriptRefused line cause) one = absurd (omega (arith, one))
unsettled_is ReadFault one = absurd (omega (arith, one))
unsettled_is WriteFault one = absurd (omega (arith, one))
unsettled_is TablesRefused one = absurd (omega (arith, one))
unsettled_is (EpochsSpent name) one = absurd (omega (arith, one))
unsettled_is (JournalRefused line cause) one = absurd (omega (arith, one))
unsettled_is JournalFull one = absurd (omega (arith, one))
unsettled_is OutOfMemory one = absurd (omega (arith, one))

-- where input is not refused as unsettled, an answer of 1 has its text
module _ (gives wanted : Gives) (refuses : Refuses) (old new : Streams)
    (gives_it : (bytes : List ℕ) (tick : ℕ) (text : List ℕ) → gives bytes (Unsettled tick) text → wanted bytes (Unsettled tick) text)
    (never : (bytes : List ℕ) (tick : ℕ) → refuses bytes (Unsettled tick) → ⊥) where
  not_unread : (why : Unread) (tick : ℕ) → Unsettled tick ≡ unread_as why → ⊥
  not_unread no_input.Fault tick is = absurd (cc)
  not_unread (no_input.TooLong line) tick is = absurd (cc)
  not_unread no_input.OutOfMemory tick is = absurd (cc)

  not_stopped : (tick : ℕ) → IsStop input_limit refuses old.source new.source (Unsettled tick) → ⊥
  not_stopped tick (unread why is u) = not_unread why tick is
  not_stopped tick (refused input) = never input.bytes tick input.holds
  not_stopped tick (want is taken) = absurd (cc)

  given_wanted : (tick : ℕ) → IsGiven input_limit gives old.source new.source old.out new.out (Unsettled tick) → IsGiven input_limit wanted old.source new.source old.out new.out (Unsettled tick)
  given_wanted tick g = record {
    text = g.text;
    input = record {
      bytes = g.input.bytes;
      gave = g.input.gave;
      end = g.input.end;
      within = g.input.within;
      holds = gives_it g.input.bytes tick g.text g.input.holds;
    };
    gains = g.gains;
    ends = g.ends;
  }

  cause_given : (tick : ℕ) → IsCause input_limit gives refuses old.source new.source old.out new.out (Unsettled tick) → IsGiven input_limit wanted old.source new.source old.out new.out (Unsettled tick)
  cause_given tick (given g) = given_wanted tick g
  cause_given tick (cut is c) = absurd (cc)
  cause_given tick (stopped stop kept) = absurd (not_stopped tick stop)

  pub answered_1 : IsAnswer input_limit gives refuses old new 1 → IsUnsettledAnswer wanted old new
  answered_1 answer = elim answer.told [
    | inl (one, gains) ↦
        let (tick, is) = unsettled_is answer.status one in
        record {
          tick = tick;
          given = cause_given tick (subst (IsCause input_limit gives refuses old.source new.source old.out new.out) is answer.cause);
          told = subst (λ (s : Status). Gains old.err new.err (line_of s)) is gains;
        }
    | inr (some, one, failed, front) ↦ absurd (omega (arith, one))
  ]

-- THE END OF A JOURNAL WITH THAT STATUS

end_is : (script : ScriptOf) (tick at : ℕ) (end : Ending) → Unsettled tick ≡ status_of_end script at end → end ≡ ending.Unsettled
end_is script tick at ending.Unsettled is = refl
end_is script tick at ending.Settled is = absurd (cc)
end_is script tick at ending.Full is = absurd (cc)
end_is script tick at (ending.Spent life) is = absurd (cc)

-- a script that can be has no journal with that status that had the time
reported_late : (script : ScriptOf) → IsScript script → (journal : List Event) (tick : ℕ) (report : List ℕ) → IsReported script journal (Unsettled tick) report → ¬ HasTime script journal
reported_late script kept journal tick report reported time =
    let legal = reported.is_report.legal in
    let end = end_is script tick (world_after script journal).fabric.tick reported.end reported.status_is in
    ends_in_time script kept journal legal.lawful time (legal.ends ∙ ap (λ (e : Ending). Some e) end)

-- THE ANSWERS

pub run_is_late : (old new : Streams) → IsRunAnswer old new 1 → IsUnsettledAnswer gives_late_run old new
run_is_late old new =
    answered_1 gives_run gives_late_run refuses_script old new
    (λ bytes tick text run. record { is_run = run; late = reported_late run.script (text_kept bytes run.script run.is_text) run.run.journal tick run.run.report run.run.reported })
    (λ bytes tick refused. refused)

pub replay_is_late : (old new : Streams) → IsReplayAnswer old new 1 → IsUnsettledAnswer gives_late_replay old new
replay_is_late old new =
    answered_1 gives_replayed gives_late_replay refuses_journal old new
    (λ bytes tick text is. record { is_replay = is; late = reported_late is.script (text_kept is.read.input.first is.script is.read.input.is_text) is.journal tick text is.reported })
    (λ bytes tick refused. elim refused [
      | inl none ↦ none.fault
      | inr illegal ↦ illegal
    ])
