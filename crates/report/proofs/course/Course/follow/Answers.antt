use Rattle.std.proofs.Common.{◌∙◌, ◌+◌, sym, ap, subst, arith, length, ℕ, slice_index_or}
use Rattle.std.proofs.lemmas.List.{get_or_default}
use Rattle.an_base.specs.Values.{LifeId}
use Rattle.an_base.specs.declared.event.Event.{Event}
use Rattle.an_base.specs.declared.event.Event.TheVariants.{Tick, Restart}
use Rattle.net_state.specs.Fabric.{no_life}
use Rattle.report.specs.Events.{CourseOf}
use Rattle.report.specs.Retellings.{Comes}
use Rattle.report.proofs.CourseLemmas.{boot_fits, course_behind, course_next, events_fit, only_counts, place_fits, restarted, ticks_fit}
use Rattle.report.proofs.course.Course.follow.Goals as goal

pub overflow_add-self : goal.overflow_add-self
overflow_add-self c =
    let most = events_fit _ _ _ _ c.requires.2 in
    let same = ap (λ (x : CourseOf). x.events) c.self.view_is in
    omega (arith, most, same)

pub overflow_add-self-in-Tick : goal.overflow_add-self-in-Tick
overflow_add-self-in-Tick c =
    let most = ticks_fit _ _ _ _ c.requires.2 in
    let same = ap (λ (x : CourseOf). x.tick) c.self.view_is in
    omega (arith, most, same)

pub index-life-requires : goal.index-life-requires
index-life-requires c =
    let comes = subst (λ (e : Event). Comes c.requires.0 c.requires.1 e c.args.self.now) c.in-Restart.is c.requires.2 in
    let below = place_fits _ _ c.in-Restart.s _ comes in
    let same = ap (λ (x : CourseOf). length x.lives) c.self.view_is in
    let from = c.from.ensures in
    omega (arith, below, same, from)

pub overflow_add-boot : goal.overflow_add-boot
overflow_add-boot c =
    let comes = subst (λ (e : Event). Comes c.requires.0 c.requires.1 e c.args.self.now) c.in-Restart.is c.requires.2 in
    let s = c.in-Restart.s in
    let fits = boot_fits _ _ s _ comes in
    let same = ap (λ (x : CourseOf). (slice_index_or x.lives s no_life).boot) c.self.view_is in
    let below = place_fits _ _ s _ comes in
    let long = ap (λ (x : CourseOf). length x.lives) c.self.view_is in
    let life = ap (λ (l : LifeId). l.boot) (c.index-life.ensures ∙ ap (λ (n : ℕ). slice_index_or c.self.inside.lives.items n c.index-life.result.now) c.from.ensures ∙ get_or_default c.self.inside.lives.items s c.index-life.result.now no_life (omega (arith, below, long))) in
    let boot = c.boot.ensures.boot in
    omega (arith, fits, same, life, boot)

pub index_mut-requires : goal.index_mut-requires
index_mut-requires c =
    let comes = subst (λ (e : Event). Comes c.requires.0 c.requires.1 e c.args.self.now) c.in-Restart.is c.requires.2 in
    let below = place_fits _ _ c.in-Restart.s _ comes in
    let same = ap (λ (x : CourseOf). length x.lives) c.self.view_is in
    let from = c.from-in-Restart.ensures in
    omega (arith, below, same, from)

-- the event that came
pub returns-in-Tick : goal.returns-in-Tick
returns-in-Tick c = λ script history comes.
    let now = c.args.self.now in
    let event = c.args.event.now in
    ap (course_behind Tick) c.self.view_is ∙ ap (λ (e : Event). course_behind e now) (sym c.in-Tick.is) ∙ sym (course_next script history event now comes)

pub returns-in-Restart : goal.returns-in-Restart
returns-in-Restart c = λ script history comes.
    let now = c.args.self.now in
    let event = c.args.event.now in
    let inside = c.self.inside in
    let s = c.in-Restart.s in
    let below = place_fits _ _ s _ (subst (λ (e : Event). Comes script history e now) c.in-Restart.is comes) in
    let long = ap (λ (x : CourseOf). length x.lives) c.self.view_is in
    let read = c.index-life.ensures ∙ ap (λ (n : ℕ). slice_index_or inside.lives.items n c.index-life.result.now) (c.from.ensures ∙ sym c.from-in-Restart.ensures) in
    sym (restarted inside.lives.items s c.from-in-Restart.result inside.events inside.tick c.index-life.result.now c.new.result c.uid.result c.boot.result (omega (arith, below, long)) c.from-in-Restart.ensures read c.uid.ensures.uid c.boot.ensures.boot c.new.ensures)
    ∙ ap (course_behind (Restart s)) c.self.view_is ∙ ap (λ (e : Event). course_behind e now) (sym c.in-Restart.is) ∙ sym (course_next script history event now comes)

pub returns-in_default : goal.returns-in_default
returns-in_default c = λ script history comes.
    let now = c.args.self.now in
    let event = c.args.event.now in
    ap (λ (x : CourseOf). record x { events = x.events + 1 }) c.self.view_is ∙ sym (only_counts event now c.in_default.not-Tick c.in_default.not-Restart) ∙ sym (course_next script history event now comes)
