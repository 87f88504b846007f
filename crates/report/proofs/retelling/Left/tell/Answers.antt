use Rattle.std.proofs.Common.{◌∙◌, ◌∷◌, ap, refl, subst, ℕ}
use Rattle.report.specs.Events.{CourseOf, told_text}
use Rattle.report.specs.Retellings.{IsNotNext}
use Rattle.report.proofs.RetellingLemmas.{told_all, told_left, told_one}
use Rattle.report.proofs.retelling.Left.tell.Goals as goal

-- one line more
pub lines-preserved : goal.lines-preserved
lines-preserved c =
    let telling = c.args.telling.now in
    let new = c.next_line.new.self in
    let line = c.in-Some.line.now in
    told_one telling.course.events (told_text telling.script.now telling.course c.args.rows.now) c.args.self.now c.lines.self new c.args.text.now.items c.lines.text.items c.push_line.new.text.items line c.lines.invariant
    (c.in-Some.ensures.line ∙ ap (λ (n : ℕ). record { lines = record { event = n; line = line } ∷ new.lines; rows = new.rows }) (c.events.ensures ∙ ap (λ (x : CourseOf). x.events) c.course.ensures)) c.in-Some.ensures.rows c.in_ok-push_line.ensures

-- all of the event
pub returns-clause-left : goal.returns-clause-left
returns-clause-left c = λ lines more split other.
    let telling = c.args.telling.now in
    let none = c.in_default.ensures.none refl in
    let last = subst (λ (n : ℕ). IsNotNext n c.lines.self.lines) (c.events.ensures ∙ ap (λ (x : CourseOf). x.events) c.course.ensures) none.1 in
    none.0 ∙ told_left telling.course.events (told_text telling.script.now telling.course c.args.rows.now) c.args.self.now c.lines.self c.args.text.now.items c.lines.text.items lines more c.lines.invariant last split other

pub returns-clause-told : goal.returns-clause-told
returns-clause-told c = λ lines more split other.
    let telling = c.args.telling.now in
    let last = subst (λ (n : ℕ). IsNotNext n c.lines.self.lines) (c.events.ensures ∙ ap (λ (x : CourseOf). x.events) c.course.ensures) (c.in_default.ensures.none refl).1 in
    told_all telling.course.events (told_text telling.script.now telling.course c.args.rows.now) c.args.self.now c.lines.self c.args.text.now.items c.lines.text.items lines more c.lines.invariant last split other
