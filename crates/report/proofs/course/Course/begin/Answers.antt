use Rattle.std.proofs.Common.{◌≡◌, ◌∙◌, ap, arith, map, length}
use Rattle.std.specs.List.{range_with_len}
use Rattle.net_graph.specs.Wires.{Wires, network}
use Rattle.report.proofs.CourseLemmas.{course_first, lives_more}
use Rattle.report.proofs.course.Course.begin.Goals as goal

pub switches-preserved : goal.switches-preserved
switches-preserved c = lives_more (network c.wiring-wiring.result.now).life c.switches.s c.life.result c.switches.lives.items c.push.new.self.items c.switches.invariant c.life.ensures c.in_ok-push.ensures.items

pub returns-clause-course : goal.returns-clause-course
returns-clause-course c =
    let wires = c.wiring-wiring.ensures.wires in
    let s = c.switches.s in
    let count = c.count-count.ensures.count ∙ ap (λ (w : Wires). length w.switches) wires in
    let past = c.switches-test.false in
    let end = c.switches.auto.s-end in
    let size : s ≡ length c.args.script.now.wires.switches = omega (arith, count, past, end) in
    course_first c.args.script.now s c.switches.lives.items size (c.switches.invariant ∙ ap (λ (w : Wires). map (network w).life (range_with_len 0 s)) wires)
