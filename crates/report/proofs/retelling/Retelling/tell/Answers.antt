use Rattle.std.proofs.Common.{◌≡◌, ◌∙◌, ◌++◌, ◌+◌, ap, drop, take, take_all}
use Rattle.std.proofs.lemmas.Result.{IfOk-weaker, on_ok_weaker}
use Rattle.net_script.specs.Scripts.{ScriptOf}
use Rattle.report.specs.Events.{CourseOf, course_after, line_of_end}
use Rattle.report.proofs.ReporterLemmas.{so_far, whole}
use Rattle.report.proofs.RetellingLemmas.{at_event, past_event}
use Rattle.report.proofs.retelling.Retelling.tell.Goals as goal

-- one event more
pub step-requires : goal.step-requires
step-requires c =
    let journal = c.as_slice-events.result.now in
    let k = c.events.event-index in
    let old = c.events.self in
    let is = c.events.invariant in
    (take k journal, drop (k + 1) journal, at_event c.args.self.now.telling.script.now old.telling.script.now journal k c.event-item.result old.telling.course old.left.items old.text.items is.same c.events-test.true c.event-item.is is.so_far)

pub events-preserved : goal.events-preserved
events-preserved c =
    let script = c.args.self.now.telling.script.now in
    let journal = c.as_slice-events.result.now in
    let k = c.events.event-index in
    let old = c.events.self in
    let new = c.step.new.self in
    let is = c.events.invariant in
    record {
      same = c.in_ok-step.ensures.script ∙ is.same;
      so_far = past_event script old.telling.script.now journal k c.event-item.result new.telling.course new.left.items new.text.items is.same c.events-test.true c.event-item.is
          (c.in_ok-step.ensures.told (take k journal) (drop (k + 1) journal) (at_event script old.telling.script.now journal k c.event-item.result old.telling.course old.left.items old.text.items is.same c.events-test.true c.event-item.is is.so_far));
    }

-- behind the last one
pub returns-clause-text : goal.returns-clause-text
returns-clause-text c =
    let script = c.args.self.now.telling.script.now in
    let journal = c.args.journal.now in
    let last = c.events.self in
    let is = c.events.invariant in
    let all : take c.events.event-index c.as_slice-events.result.now ≡ journal = take_all c.events.event-index c.as_slice-events.result.now c.events-test.false ∙ c.as_slice-events.ensures in
    let course = is.so_far.course_is ∙ ap (course_after script) all in
    IfOk-weaker c.push_end_line.result _ _ (λ done line. whole script journal c.args.end.now last.text.items c.push_end_line.new.text.items c.requires.legal (is.so_far.says ∙ ap (so_far script) all)
    (line ∙ ap (λ (s : ScriptOf). last.text.items ++ line_of_end s last.telling.course c.args.end.now) is.same ∙ ap (λ (x : CourseOf). last.text.items ++ line_of_end script x c.args.end.now) course))
    c.push_end_line.ensures

pub returns-clause-course : goal.returns-clause-course
returns-clause-course c =
    let is = c.events.invariant in
    let all : take c.events.event-index c.as_slice-events.result.now ≡ c.args.journal.now = take_all c.events.event-index c.as_slice-events.result.now c.events-test.false ∙ c.as_slice-events.ensures in
    on_ok_weaker c.push_end_line.result (λ _. is.so_far.course_is ∙ ap (course_after c.args.self.now.telling.script.now) all) c.push_end_line.ensures
