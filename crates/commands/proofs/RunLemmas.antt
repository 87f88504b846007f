-- What `run` needs of a legal journal: that it can be spelled, and is not refused; and what it answers to the text
-- of a script.
use Rattle.std.proofs.Common.{◌≡◌, ◌∙◌, ap, sym, subst, ℕ, ◌≤◌, ◌==◌, List, [], ◌∷◌, ◌++◌, refl, length, Some, is_some, Bool, true, false, cond, eqb-true, true≢false, All, arith}
use Rattle.std.proofs.lemmas.List.Elements.{All-cons, All-head, All-nil, All-tail}
use Rattle.an_base.specs.declared.event.Event.{Event}
use Rattle.an_base.specs.declared.event.Event.TheVariants.{Tick, Clock, Take, Handle, Load, Fail, Repair, Lose, Again, Swap, Noise, Send, Move, Restart}
use Rattle.net_script.specs.Scripts.{ScriptOf, IsScript}
use Rattle.net_script.specs.Texts.{IsFault, IsText}
use Rattle.net_script.proofs.TextLemmas.{no_fault, one_text}
use Rattle.journal.specs.Events.{CanSpell, journal_text}
use Rattle.journal_cause.specs.declared.cause.JournalCause.{JournalCause}
use Rattle.host_traffic.specs.Packets.{PacketOf, packet_of}
use Rattle.net_state.specs.declared.ending.Ending.{Ending}
use Rattle.net_state.specs.Fits.{IsPacketSound}
use Rattle.net_state.specs.Lawful.{is_lawful}
use Rattle.net_state.proofs.LawfulLemmas.{command_is, lawful_is, ready_command}
use Rattle.net_state.proofs.ReadyLemmas.{clock_ready, handle_ready, load_ready, restart_ready, take_ready}
use Rattle.net_world.specs.World.{WorldOf, world_after}
use Rattle.net_world.specs.Histories.{AreLawful, IsLegal}
use Rattle.net_world.proofs.CommandLemmas.{command_fits}
use Rattle.net_world.proofs.FabricLemmas.{world_fits}
use Rattle.net_world.proofs.PlaceLemmas.{switch_below}
use Rattle.net_world.proofs.WorldLemmas.{world_after-event}
use Rattle.replay.specs.Replays.{IsIllegal}
use Rattle.replay.specs.declared.refusal.ReplayRefusal.TheVariants.{Illegal, OutOfMemory}
use Rattle.replay.proofs.ReplayLemmas.{legal_is_not_refused}
use Rattle.autonet_call.specs.Answer.{Streams, IsAnswer, input_limit, refuses_nothing}
use Rattle.autonet_call.specs.Scripted.{refuses_script}
use Rattle.switch_threads.specs.declared.running.Told.{Told}
use Rattle.autonet_call.specs.declared.status.Status.{Status}
use Rattle.commands.specs.Reported.{IsReported}
use Rattle.commands.specs.Run.{IsRun, IsToldRun, gives_run, gives_run_of}
use Rattle.commands.specs.Words.{IsRunAnswer}
use Rattle.autonet_call.proofs.AllToldLemmas.{answered_as, not_refused}

-- LAWFUL EVENTS CAN BE SPELLED

-- a packet under way is one of those that were sent
under_way : (script : ScriptOf) (sent n : ℕ) (packets : List PacketOf) → All (IsPacketSound script sent) packets → is_some (packet_of n packets) ≡ true → (1 ≤ n) × (n ≤ sent)
under_way script sent n [] all some = absurd (true≢false (sym some))
under_way script sent n (x ∷ xs) all some = by (x.packet == n) refl some (under_way script sent n xs (All-tail (IsPacketSound script sent) x xs all)) where
  by : (b : Bool) → (x.packet == n) ≡ b → is_some (cond b (Some x) (packet_of n xs)) ≡ true → (is_some (packet_of n xs) ≡ true → (1 ≤ n) × (n ≤ sent)) → (1 ≤ n) × (n ≤ sent)
  by true same found later =
      let sound = All-head (IsPacketSound script sent) x xs all in
      let number : x.packet ≡ n = eqb-true x.packet n same in
      (omega (arith, sound.least, number), omega (arith, sound.most, number))
  by false differs found later = later found

module _ (script : ScriptOf) (kept : IsScript script) where
  spells : (h : List Event) (e : Event) → is_lawful (world_after script h).fabric e ≡ true → CanSpell script e
  spells h Tick lawful = tt
  spells h (Clock s) lawful = let f = (world_after script h).fabric in switch_below script h s (clock_ready f s (lawful_is f (Clock s) lawful).ready).0
  spells h (Take s p) lawful =
      let f = (world_after script h).fabric in
      let ready = take_ready f s p (lawful_is f (Take s p) lawful).ready in
      record { switch = switch_below script h s ready.switch; port_least = ready.least; port_most = ready.most }
  spells h (Handle s) lawful = let f = (world_after script h).fabric in switch_below script h s (handle_ready f s (lawful_is f (Handle s) lawful).ready).0
  spells h (Load s) lawful = let f = (world_after script h).fabric in switch_below script h s (load_ready f s (lawful_is f (Load s) lawful).ready).0
  spells h (Fail s p) lawful = (command_fits script h (Fail s p) kept (ready_command (world_after script h).fabric (Fail s p) lawful refl)).port
  spells h (Repair s p) lawful = (command_fits script h (Repair s p) kept (ready_command (world_after script h).fabric (Repair s p) lawful refl)).port
  spells h (Lose s p n) lawful =
      let fits = command_fits script h (Lose s p n) kept (ready_command (world_after script h).fabric (Lose s p n) lawful refl) in
      record { port = fits.port; count_least = fits.count_least; count_most = fits.count_most }
  spells h (Again s p n) lawful =
      let fits = command_fits script h (Again s p n) kept (ready_command (world_after script h).fabric (Again s p n) lawful refl) in
      record { port = fits.port; count_least = fits.count_least; count_most = fits.count_most }
  spells h (Swap s p n) lawful =
      let fits = command_fits script h (Swap s p n) kept (ready_command (world_after script h).fabric (Swap s p n) lawful refl) in
      record { port = fits.port; count_least = fits.count_least; count_most = fits.count_most }
  spells h (Noise s p n) lawful =
      let fits = command_fits script h (Noise s p n) kept (ready_command (world_after script h).fabric (Noise s p n) lawful refl) in
      record { port = fits.port; count_least = fits.count_least; count_most = fits.count_most }
  spells h (Send a b) lawful = command_fits script h (Send a b) kept (ready_command (world_after script h).fabric (Send a b) lawful refl)
  spells h (Move n) lawful =
      let f = (world_after script h).fabric in
      let fits = world_fits script kept h in
      let under = under_way f.script f.sent n f.packets fits.packets.each (lawful_is f (Move n) lawful).ready in
      (under.0, omega (arith, under.1, fits.packets.sent, fits.time.commands, fits.script.command_count))
  spells h (Restart s) lawful =
      let f = (world_after script h).fabric in
      command_fits script h (Restart s) kept (command_is f (Restart s) (restart_ready f s (lawful_is f (Restart s) lawful).ready).0)

  more_spelled : (h more : List Event) → AreLawful (world_after script h) more → All (CanSpell script) more
  more_spelled h [] lawful = All-nil (CanSpell script)
  more_spelled h (e ∷ more) lawful =
      All-cons (CanSpell script) e more (spells h e lawful.0)
      (more_spelled (h ++ e ∷ []) more (subst (λ (w : WorldOf). AreLawful w more) (sym (world_after-event script h e)) lawful.1))

  pub all_spelled : (h : List Event) (end : Ending) → IsLegal script h end → All (CanSpell script) h
  unfolding world_after
  all_spelled h end legal = more_spelled [] h legal.lawful

-- A RUN IS PRINTED

pub run_printed : (script : ScriptOf) (told : Told) (status : Status) (text report both : List ℕ) → IsScript script → IsToldRun script told → text ≡ journal_text script told.run.journal → IsReported script told.run.journal status report → both ≡ text ++ report → IsRun script status both
run_printed script told status text report both kept is text_is reported parts = record {
  journal = told.run.journal;
  report = report;
  spelled = all_spelled script kept told.run.journal told.run.end is.legal;
  parts = parts ∙ ap (λ (t : List ℕ). t ++ report) text_is;
  reported = reported;
}

-- A LEGAL JOURNAL IS NOT REFUSED

pub never_illegal : (script : ScriptOf) (h : List Event) (end : Ending) (line : ℕ) (why : JournalCause) → IsLegal script h end → IsIllegal script h line why → ⊥
never_illegal script h end line why legal illegal =
    let wanting : Illegal line why ≡ OutOfMemory = legal_is_not_refused script h end (Illegal line why) legal illegal in
    absurd (cc)

-- THE TEXT OF A SCRIPT IS RUN

pub script_is_run : (answer : ℕ) (bytes : List ℕ) (script : ScriptOf) (old new : Streams) → IsText bytes script → old.source.told ≡ Some bytes → length bytes ≤ input_limit → IsRunAnswer old new answer → IsAnswer input_limit (gives_run_of script) refuses_nothing old new answer
script_is_run answer bytes script old new is_text told few is =
    answered_as gives_run (gives_run_of script) refuses_script bytes old new told
    (λ status text run. subst (λ (s : ScriptOf). IsRun s status text) (one_text bytes run.script script run.is_text is_text) run.run)
    (λ status. not_refused status (IsFault bytes) (λ line cause fault. no_fault bytes script line cause is_text fault))
    answer is
