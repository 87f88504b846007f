-- A report is made event by event.
use Rattle.std.proofs.Common.{◌≡◌, ◌∙◌, sym, ap, refl, ℕ, List, [], ◌∷◌, ◌++◌, arith, length, length-append, append_assoc, append-nil, take, codes}
use Rattle.std.specs.List.{flat_map}
use Rattle.std.proofs.Math.Seq.{take-append_seam}
use Rattle.an_base.specs.declared.event.Event.{Event}
use Rattle.an_base.specs.Rows.{RowOf}
use Rattle.net_script.specs.Scripts.{ScriptOf}
use Rattle.outside.specs.Told.{Gains, GainsFront, Seen, with_back}
use Rattle.outside.proofs.ToldLemmas.{with_back_none}
use Rattle.net_state.specs.declared.ending.Ending.{Ending}
use Rattle.net_state.specs.Fabric.{FabricOf}
use Rattle.net_world.specs.Lines.{rows_after}
use Rattle.net_world.specs.Histories.{IsLegal, fabric_of}
use Rattle.net_world.specs.World.{WorldOf, after_all, begun, step, world_after}
use Rattle.net_state.specs.declared.line.Line.{Line}
use Rattle.net_world.proofs.WorldLemmas.{world_after-event}
use Rattle.net_world.proofs.InductionLemmas.{world_first}
use Rattle.fabric_book.specs.Nets.{NetOf, history_of}
use Rattle.report.specs.Events.{CourseOf, IsReport, all_told, course_after, course_of, event_text, events_text, last_line, line_of_end, report_text}
use Rattle.report.specs.Moments.{IsHeard, IsTold, Moment, moments_after, told_so_far, told_whole}
use Rattle.report.specs.Retellings.{Comes, HasCome}
use Rattle.report.proofs.BeliefLemmas.{lawful_last}

-- four texts in a row
four_joined : (a b c d : List ℕ) → (a ++ (b ++ c)) ++ d ≡ (a ++ b) ++ (c ++ d)
four_joined a b c d = simp append_assoc

-- THE TEXT OF EVENTS

pub events_on : (script : ScriptOf) (world : WorldOf) (events more : List Event) → events_text script world (events ++ more) ≡ events_text script world events ++ events_text script (after_all events world) more
events_on script world [] more = refl
events_on script world (event ∷ events) more =
    ap (λ (t : List ℕ). event_text script world event ++ t) (events_on script (step world event) events more)
    ∙ sym (append_assoc (event_text script world event) (events_text script (step world event) events) (events_text script (after_all events (step world event)) more))

-- the report of the first events, without its last line
abbrev pub so_far : ScriptOf → List Event → List ℕ
so_far script history = codes "report 1\n" ++ events_text script (begun script) history

pub so_far_more : (script : ScriptOf) (history : List Event) (event : Event) (text new : List ℕ) → text ≡ so_far script history → new ≡ text ++ event_text script (world_after script history) event → new ≡ so_far script (history ++ event ∷ [])
unfolding world_after
so_far_more script history event text new so_far_is one =
    let told = event_text script (after_all history (begun script)) event in
    let before = events_text script (begun script) history in
    one ∙ ap (λ (t : List ℕ). t ++ told) so_far_is ∙ append_assoc (codes "report 1\n") before told
    ∙ ap (λ (t : List ℕ). codes "report 1\n" ++ t) (ap (λ (t : List ℕ). before ++ t) (sym (append-nil told)) ∙ sym (events_on script (begun script) history (event ∷ [])))

-- with the last line it is the report
pub whole : (script : ScriptOf) (history : List Event) (end : Ending) (text new : List ℕ) → IsLegal script history end → text ≡ so_far script history → new ≡ text ++ line_of_end script (course_after script history) end → new ≡ report_text script history
unfolding report_text
whole script history end text new legal so_far_is last =
    let course = course_after script history in
    last ∙ ap (λ (t : List ℕ). t ++ line_of_end script course end) so_far_is
    ∙ ap (λ (t : List ℕ). so_far script history ++ t) (sym (ap (last_line script course) legal.ends))

-- a front of a text
pub front_of : (old new : Seen) (written rest all : List ℕ) → Gains old new written → all ≡ written ++ rest → GainsFront old new all
front_of old new written rest all gains is =
    let front : take (length written) all ≡ written = ap (take (length written)) is ∙ take-append_seam written rest in
    (length written, omega (arith, ap length is, length-append written rest), gains ∙ ap (with_back old.told) (sym front))

pub front_none : (seen : Seen) (all : List ℕ) → GainsFront seen seen all
front_none seen all = front_of seen seen [] all all (sym (with_back_none seen.told)) refl

-- WHAT A TELLER TELLS

-- an event comes to it
pub comes_there : (before : List Event) (event : Event) (net : NetOf) (lines : List Line) (own : ScriptOf) (course : CourseOf) → IsHeard before event net lines → HasCome own course net.script before → Comes net.script before event course
comes_there before event net lines own course heard come = record {
  kept = come.kept;
  lawful = lawful_last net.script before event heard.made.lawful;
  course_is = come.course_is;
}

-- which it tells
pub event_told : (own : ScriptOf) (before : List Event) (event : Event) (net : NetOf) (course : CourseOf) (rows : List RowOf) (lines : List Line) (text more : List ℕ) → IsHeard before event net lines → HasCome own course net.script (before ++ event ∷ []) → rows ≡ rows_after (fabric_of (history_of net)) event
    → more ≡ text ++ all_told own course rows lines → more ≡ text ++ event_text net.script (world_after net.script before) event
unfolding event_text
event_told own before event net course rows lines text more heard come rows_are is =
    let script = net.script in
    let next = world_after-event script before event in
    let after = step (world_after script before) event in
    let behind = ap (λ (n : NetOf). fabric_of (history_of n)) heard.made.net_is ∙ ap (λ (w : WorldOf). w.fabric) next in
    is ∙ ap (λ (s : ScriptOf). text ++ all_told s course rows lines) come.own_is
    ∙ ap (λ (c : CourseOf). text ++ all_told script c rows lines) (come.course_is ∙ ap (λ (w : WorldOf). course_of w.fabric) next)
    ∙ ap (λ (r : List RowOf). text ++ all_told script (course_of after.fabric) r lines) (rows_are ∙ ap (λ (f : FabricOf). rows_after f event) behind)
    ∙ ap (λ (ls : List Line). text ++ all_told script (course_of after.fabric) (rows_after after.fabric event) ls) heard.lines_are

-- the moments of a history have the texts of its events
abbrev pub told_at : ScriptOf → Moment → List ℕ
told_at script moment = event_text script (world_after script moment.before) moment.event

moments_text : (script : ScriptOf) (before events : List Event) → flat_map (told_at script) (moments_after before events) ≡ events_text script (world_after script before) events
moments_text script before [] = refl
moments_text script before (event ∷ events) =
    ap (λ (t : List ℕ). event_text script (world_after script before) event ++ t)
    (moments_text script (before ++ event ∷ []) events ∙ ap (λ (w : WorldOf). events_text script w events) (world_after-event script before event))

so_far_told : (script : ScriptOf) (history : List Event) → told_so_far (codes "report 1\n") (told_at script) history ≡ so_far script history
unfolding told_so_far
so_far_told script history =
    ap (λ (t : List ℕ). codes "report 1\n" ++ t) (moments_text script [] history ∙ ap (λ (w : WorldOf). events_text script w history) (world_first script))

-- so the whole of what it tells is the report
abbrev pub last_at : ScriptOf → List Event → Ending → List ℕ
last_at script history end = line_of_end script (course_after script history) end

pub report_told : (script : ScriptOf) (journal : List Event) (end : Ending) (text : List ℕ) → IsTold script journal (codes "report 1\n") (told_at script) (last_at script) end text → IsReport script journal end text
unfolding told_whole
report_told script journal end text is = record {
  legal = is.legal;
  says = whole script journal end (told_so_far (codes "report 1\n") (told_at script) journal) text is.legal (so_far_told script journal) is.says;
  claims = is.claims;
}
