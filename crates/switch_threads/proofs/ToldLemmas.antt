-- What callers have told, as events of their own and of others come.

use Rattle.std.specs.Prelude.{◌≡◌, ◌+◌, ◌<◌, ℕ, List, [], ◌∷◌, ◌++◌, length, option_to_list, Option, Some, true, refl}
use Rattle.std.specs.List.{flat_map}
use Rattle.std.specs.Option.{option_map_or}
use Rattle.std.proofs.Common.{sym, ◌∙◌, ap, subst, arith}
use Rattle.std.proofs.lemmas.List.{append-nil}
use Rattle.an_base.specs.Ports.{NoteOf}
use Rattle.an_base.specs.Rows.{RowOf}
use Rattle.an_base.specs.declared.event.Event.{Event}
use Rattle.an_base.specs.declared.event.Event.TheVariants.{Clock, Handle, Load, Restart, Take}
use Rattle.net_script.specs.Scripts.{IsScript, ScriptOf}
use Rattle.table_build.specs.Tables.{TableOf}
use Rattle.switch_core.specs.Bytes.{BytesOut, all_spelled}
use Rattle.switch_core.specs.declared.switch.TableFor.{TableFor}
use Rattle.net_state.specs.declared.hand.Hand.{Hand}
use Rattle.net_state.specs.declared.hand.Hand.TheVariants as hand
use Rattle.net_state.specs.declared.work.Drive.{Drive}
use Rattle.net_state.specs.declared.work.Drive.TheVariants as drive
use Rattle.net_state.specs.declared.work.Work.{Work}
use Rattle.net_state.specs.declared.work.Work.TheVariants as work
use Rattle.net_state.specs.Choices.{event_of_drive, event_of_work}
use Rattle.net_state.specs.Fabric.{held_bytes, station, table_at}
use Rattle.net_state.specs.Lawful.{is_lawful}
use Rattle.fabric_turn.specs.Calls.{Called}
use Rattle.fabric_turn.specs.History.{own_entries}
use Rattle.fabric_turn.specs.declared.view.View.{View}
use Rattle.net_world.specs.declared.ask.Ask.{Ask}
use Rattle.net_world.specs.declared.ask.Reply.{Reply}
use Rattle.net_state.specs.declared.line.Line.{Line}
use Rattle.net_state.specs.declared.line.PlacedLine.{PlacedLine}
use Rattle.net_world.specs.Accounts.{AccountOf, account_of, loaded_rows, placed, placed_lines}
use Rattle.net_world.specs.Histories.{owner_of}
use Rattle.net_world.specs.Lines.{lines_of}
use Rattle.net_world.specs.Turns.{AnswersAsk, AreTold, IsToLoad, IsTold}
use Rattle.net_world.specs.World.{WorldOf, handled, step, world_after}
use Rattle.net_world.proofs.AccountLemmas.{account_next, account_stays}
use Rattle.net_world.proofs.WorldLemmas.{world_after-event}
use Rattle.fabric_book.specs.Accounts.{IsAccount, with_lines, with_load}
use Rattle.fabric_book.specs.Nets.{HasFrame}
use Rattle.fabric_book.specs.declared.account.Account.{Account}
use Rattle.fabric_book.proofs.BookLemmas.{world_more}
use Rattle.fabric_book.proofs.HandLemmas.{handled_told}
use Rattle.switch_threads.specs.Workers.{HasTold, lines_at_hand}
use Rattle.switch_threads.proofs.OwnLemmas.{used_here}

-- One event of a caller that loads no table
one_told : (script : ScriptOf) (caller : ℕ) (h : List Event) (e : Event) → owner_of e ≡ caller → loaded_rows (world_after script h) e ≡ []
    → account_of script caller (h ++ e ∷ []) ≡ with_lines (placed_lines (world_after script h) e) (account_of script caller h)
one_told script caller h e own none =
    let old = account_of script caller h in
    account_next script caller h e own
    ∙ ap (λ (rows : List (List RowOf)). record { lines = old.lines ++ placed_lines (world_after script h) e; rows = rows })
    (ap (λ (rows : List (List RowOf)). old.rows ++ rows) none ∙ append-nil old.rows)

-- or none
none_told : (script : ScriptOf) (caller : ℕ) (h : List Event) → account_of script caller (h ++ []) ≡ with_lines [] (account_of script caller h)
none_told script caller h =
    let old = account_of script caller h in
    ap (account_of script caller) (append-nil h) ∙ ap (λ (lines : List PlacedLine). record { lines = lines; rows = old.rows }) (sym (append-nil old.lines))

-- as a caller tells it, whose lines are those of all events that came
abbrev pub lines_of_all : ScriptOf → List Event → List Event → List PlacedLine
lines_of_all script h events = flat_map (placed_lines (world_after script h)) events

alone : (script : ScriptOf) (h : List Event) (e : Event) → placed_lines (world_after script h) e ≡ lines_of_all script h (e ∷ [])
alone script h e = sym (append-nil (placed_lines (world_after script h) e))

event_told : (script : ScriptOf) (caller : ℕ) (h : List Event) (e : Event) → owner_of e ≡ caller → loaded_rows (world_after script h) e ≡ []
    → account_of script caller (h ++ e ∷ []) ≡ with_lines (lines_of_all script h (e ∷ [])) (account_of script caller h)
event_told script caller h e own none =
    one_told script caller h e own none ∙ ap (λ (lines : List PlacedLine). with_lines lines (account_of script caller h)) (alone script h e)

-- of the work that a worker took
pub work_told : (script : ScriptOf) (h : List Event) (s : ℕ) (job : Work) → account_of script (s + 1) (h ++ event_of_work s job) ≡ with_lines (lines_of_all script h (event_of_work s job)) (account_of script (s + 1) h)
work_told script h s (work.Restart life) = event_told script (s + 1) h (Restart s) refl refl
work_told script h s (work.Clock now samples) = event_told script (s + 1) h (Clock s) refl refl
work_told script h s (work.Frame port) = event_told script (s + 1) h (Take s port) refl refl
work_told script h s (work.Nothing reason) = none_told script (s + 1) h

-- and of what the driver did
drivers_none : (w : WorldOf) (e : Event) → owner_of e ≡ 0 → loaded_rows w e ≡ []
drivers_none w (Load s) own = absurd (omega (arith, own))
drivers_none w e own = refl

pub drive_told : (script : ScriptOf) (h : List Event) (did : Drive) → ((e : Event) → did ≡ drive.Did e → owner_of e ≡ 0)
    → account_of script 0 (h ++ event_of_drive did) ≡ with_lines (lines_of_all script h (event_of_drive did)) (account_of script 0 h)
drive_told script h (drive.Did e) own = event_told script 0 h e (own e refl) (drivers_none (world_after script h) e (own e refl))
drive_told script h drive.Waits own = none_told script 0 h
drive_told script h (drive.Ended end) own = none_told script 0 h

-- The place of an event is how many there were then
place_is : (script : ScriptOf) (h after : List Event) (e : Event) (event : ℕ) → after ≡ h ++ e ∷ [] → event ≡ (world_after script after).fabric.events → event ≡ (step (world_after script h) e).fabric.events
place_is script h after e event came is =
    is ∙ ap (λ (xs : List Event). (world_after script xs).fabric.events) came ∙ ap (λ (v : WorldOf). v.fabric.events) (world_after-event script h e)

-- What a switch handled
has_frame : (h : Hand) (bytes : List ℕ) → HasFrame h bytes bytes
has_frame hand.Empty bytes = tt
has_frame (hand.Clock now samples) bytes = tt
has_frame (hand.Frame port) bytes = refl

pub put_told : (script : ScriptOf) (h after : List Event) (s : ℕ) (frames : List BytesOut) (puts : List (Option Line)) (lines : List Line) (event : ℕ) → frames ≡ all_spelled (handled s (world_after script h)).frames
    → AreTold (world_after script h).fabric s frames puts → lines ≡ lines_at_hand (world_after script h) s → after ≡ h ++ Handle s ∷ [] → event ≡ (world_after script after).fabric.events
    → account_of script (s + 1) after ≡ with_lines (placed event (lines ++ flat_map option_to_list puts)) (account_of script (s + 1) h)
put_told script h after s frames puts lines event frames_are puts_are lines_are came place =
    let w = world_after script h in
    let old = account_of script (s + 1) h in
    let all : lines ++ flat_map option_to_list puts ≡ lines_of w (Handle s) =
    handled_told w s (station w.fabric s).hand (held_bytes w.fabric s) refl (has_frame (station w.fabric s).hand (held_bytes w.fabric s)) frames puts [] lines (lines ++ flat_map option_to_list puts) frames_are puts_are lines_are refl in
    ap (account_of script (s + 1)) came ∙ one_told script (s + 1) h (Handle s) refl refl
    ∙ ap (λ (n : ℕ). with_lines (placed n (lines_of w (Handle s))) old) (sym (place_is script h after (Handle s) event came place))
    ∙ ap (λ (xs : List Line). with_lines (placed event xs) old) (sym all)

-- A table that is in use
rows_made : (script : ScriptOf) → IsScript script → (h : List Event) (s : ℕ) → s < length script.wires.switches → (table : TableFor) (note : NoteOf) → is_lawful (world_after script h).fabric (Load s) ≡ true
    → IsToLoad (world_after script h) s table note → loaded_rows (world_after script h) (Load s) ≡ table.table.rows ∷ []
rows_made script kept h s below table note lawful to =
    let w = world_after script h in
    ap (λ (v : WorldOf). option_map_or (λ (t : TableOf). t.rows) (table_at v.fabric s) [] ∷ []) (sym (world_after-event script h (Load s)) ∙ world_more script h (Load s) lawful)
    ∙ ap (λ (o : Option TableOf). option_map_or (λ (t : TableOf). t.rows) o [] ∷ []) (used_here script kept h s below table note lawful to)

pub load_told : (script : ScriptOf) → IsScript script → (h after : List Event) (s : ℕ) → s < length script.wires.switches → (table : TableFor) (note : NoteOf) (told : PlacedLine) → is_lawful (world_after script h).fabric (Load s) ≡ true
    → IsToLoad (world_after script h) s table note → after ≡ h ++ Load s ∷ [] → IsTold script h (Load s ∷ []) (Some told) → account_of script (s + 1) after ≡ with_load told table.table.rows (account_of script (s + 1) h)
load_told script kept h after s below table note told lawful to came told_is =
    let w = world_after script h in
    let old = account_of script (s + 1) h in
    ap (account_of script (s + 1)) came ∙ account_next script (s + 1) h (Load s) refl
    ∙ ap (λ (rows : List (List RowOf)). record { lines = old.lines ++ placed_lines w (Load s); rows = old.rows ++ rows }) (rows_made script kept h s below table note lawful to)
    ∙ ap (λ (lines : List PlacedLine). record { lines = old.lines ++ lines; rows = old.rows ++ table.table.rows ∷ [] }) (alone script h (Load s) ∙ sym told_is)

-- Of a seat that made a call
module _ (view after : View Event ScriptOf) (asked : Ask) (answer : Reply) (called : Called owner_of (λ script history caller. AnswersAsk script history) view asked answer after) where
  -- its caller has told of its events before, and tells of what came
  pub tells_on : (script : ScriptOf) (old new : Account) (more : AccountOf → AccountOf) → ((told : AccountOf) → IsAccount told old → IsAccount (more told) new)
      → account_of script view.number after.seen ≡ more (account_of script view.number (view.seen ++ called.between)) → HasTold script view old → HasTold script after new
  tells_on script old new more adds next told =
      let number = ap (λ (v : View Event ScriptOf). v.number) called.same in
      let h = view.seen ++ called.between in
      let was = subst (λ (a : AccountOf). IsAccount a old) (sym (account_stays script view.number view.seen called.between called.others)) told.account_is in
      record {
        own = ap (own_entries owner_of after.seen) number ∙ called.mine ∙ sym (ap (λ (v : View Event ScriptOf). v.mine) called.same);
        account_is = subst (λ (a : AccountOf). IsAccount a new) (sym (ap (λ (n : ℕ). account_of script n after.seen) number ∙ next)) (adds (account_of script view.number h) was);
      }
