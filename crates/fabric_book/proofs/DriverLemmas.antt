-- What is told of the driver's events.

use Rattle.std.specs.Prelude.{◌≡◌, ◌+◌, ◌==◌, ◌++◌, ◌∷◌, ℕ, List, [], cond, Bool, true, false, refl}
use Rattle.std.proofs.Common.{sym, ◌∙◌, ap, subst, arith, append_assoc}
use Rattle.std.proofs.lemmas.Bool.Decides.{nat_tests}
use Rattle.std.proofs.lemmas.List.{append-nil}
use Rattle.an_base.specs.declared.event.Event.{Event}
use Rattle.an_base.specs.declared.event.Event.TheVariants.{Clock, Take, Handle, Load, Restart}
use Rattle.net_script.specs.Scripts.{IsScript}
use Rattle.net_state.specs.declared.work.Work.{Work}
use Rattle.net_state.specs.declared.work.Work.TheVariants as work
use Rattle.net_state.specs.declared.work.Drive.{Drive}
use Rattle.net_state.specs.declared.work.Drive.TheVariants as drive
use Rattle.net_state.specs.Choices.{event_of_drive, event_of_work, next_drive, next_work}
use Rattle.net_state.specs.Fabric.{is_full_at, load_due_at}
use Rattle.net_state.specs.Lawful.{is_barred}
use Rattle.net_state.specs.declared.line.Line.{Line}
use Rattle.net_world.specs.Histories.{fabric_of, last_taken, owner_of, world_of}
use Rattle.net_world.specs.Lines.{lines_of}
use Rattle.net_world.specs.Solo.{worker_event}
use Rattle.net_world.specs.World.{WorldOf, after_all, begun, step, world_after}
use Rattle.net_world.proofs.AccountLemmas.{gathered-append}
use Rattle.fabric_book.specs.Nets.{NetOf, driver_line, driver_lines, history_of, with_events, with_step}
use Rattle.fabric_book.specs.Rounds.{drive_lines, told_of}
use Rattle.fabric_book.proofs.DriveLemmas.{driven, driver_owns}
use Rattle.fabric_book.proofs.WorldFacts.{world_script}

-- what is told of the next event comes behind what was told before
told_append : (h : List Event) (e : Event) (w : WorldOf) → driver_lines w (h ++ e ∷ []) ≡ driver_lines w h ++ driver_line (after_all h w) e
told_append h e w = gathered-append lines_of 0 w h (e ∷ []) ∙ ap (λ (xs : List Line). driver_lines w h ++ xs) (append-nil (driver_line (after_all h w) e))

told_next : (net : NetOf) (e : Event) → told_of (with_step e net) ≡ told_of net ++ driver_line (world_of (history_of net)) e
unfolding world_after
told_next net e = told_append net.events e (begun net.script)

-- of a worker's events nothing is told
pub not_first : (n : ℕ) → (n + 1 == 0) ≡ false
not_first n = grind (arith, nat_tests)

none_more : (net : NetOf) → told_of (with_events [] net) ≡ told_of net
none_more net = ap (λ (es : List Event). driver_lines (begun net.script) es) (append-nil net.events)

one_more : (net : NetOf) (e : Event) (n : ℕ) → owner_of e ≡ n + 1 → told_of (with_events (e ∷ []) net) ≡ told_of net
one_more net e n owner =
    told_next net e
    ∙ ap (λ (k : ℕ). told_of net ++ cond (k == 0) (lines_of (world_of (history_of net)) e) []) owner
    ∙ ap (λ (b : Bool). told_of net ++ cond b (lines_of (world_of (history_of net)) e) []) (not_first n)
    ∙ append-nil (told_of net)

work_more : (net : NetOf) (s : ℕ) (job : Work) → told_of (with_events (event_of_work s job) net) ≡ told_of net
work_more net s (work.Restart life) = one_more net (Restart s) s refl
work_more net s (work.Clock now samples) = one_more net (Clock s) s refl
work_more net s (work.Frame port) = one_more net (Take s port) s refl
work_more net s (work.Nothing reason) = none_more net

worker_more : (net : NetOf) (w : WorldOf) (s last : ℕ) → told_of (with_events (worker_event w s last) net) ≡ told_of net
worker_more net w s last = by (is_full_at w.fabric s) (is_barred w.fabric) (load_due_at w.fabric s) where
  by : (full barred due : Bool) → told_of (with_events (cond full (Handle s ∷ []) (cond barred [] (cond due (Load s ∷ []) (event_of_work s (next_work w.fabric s last))))) net) ≡ told_of net
  by true barred due = one_more net (Handle s) s refl
  by false true due = none_more net
  by false false true = one_more net (Load s) s refl
  by false false false = work_more net s (next_work w.fabric s last)

pub turn_tells : (old new : NetOf) (s : ℕ) → new ≡ with_events (worker_event (world_of (history_of old)) s (last_taken s old.events)) old → told_of new ≡ told_of old
turn_tells old new s is = ap told_of is ∙ worker_more old (world_of (history_of old)) s (last_taken s old.events)

-- where the driver does nothing, nothing comes, and nothing is told
pub rest_events : (did : Drive) → ((e : Event) → did ≡ drive.Did e → ⊥) → event_of_drive did ≡ []
rest_events (drive.Did e) rests = absurd (rests e refl)
rest_events drive.Waits rests = refl
rest_events (drive.Ended end) rests = refl

pub rest_lines : (w : WorldOf) (did : Drive) → ((e : Event) → did ≡ drive.Did e → ⊥) → drive_lines w did ≡ []
rest_lines w (drive.Did e) rests = absurd (rests e refl)
rest_lines w drive.Waits rests = refl
rest_lines w (drive.Ended end) rests = refl

-- of its events all is told
own_more : (net : NetOf) (e : Event) → owner_of e ≡ 0 → told_of (with_events (e ∷ []) net) ≡ told_of net ++ lines_of (world_of (history_of net)) e
own_more net e owner =
    told_next net e ∙ ap (λ (k : ℕ). told_of net ++ cond (k == 0) (lines_of (world_of (history_of net)) e) []) owner

pub drive_tells : (old new : NetOf) (did : Drive) (before after : List Line) → IsScript new.script → did ≡ next_drive (fabric_of (history_of old)) → new ≡ with_events (event_of_drive did) old → before ≡ told_of old
    → after ≡ before ++ drive_lines (world_of (history_of old)) did → after ≡ told_of new
drive_tells old new (drive.Did e) before after good chosen is told adds =
    let f = fabric_of (history_of old) in
    let kept : IsScript old.script = subst IsScript (ap (λ (n : NetOf). n.script) is) good in
    let owner = driver_owns f e (subst IsScript (sym (world_script old.script old.events)) kept) (driven f e (sym chosen)) in
    adds ∙ ap (λ (xs : List Line). xs ++ lines_of (world_of (history_of old)) e) told ∙ sym (ap told_of is ∙ own_more old e owner)
drive_tells old new drive.Waits before after good chosen is told adds =
    adds ∙ append-nil before ∙ told ∙ sym (ap told_of is ∙ none_more old)
drive_tells old new (drive.Ended end) before after good chosen is told adds =
    adds ∙ append-nil before ∙ told ∙ sym (ap told_of is ∙ none_more old)
