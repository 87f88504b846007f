use Rattle.std.proofs.Common.{◌∙◌, ap, List}
use Rattle.net_graph.specs.Wires.{Wires}
use Rattle.net_graph.specs.declared.wiring.SwitchAt.{SwitchAt}
use Rattle.flow_text.specs.Sends.{numbers_in}
use Rattle.flow_text.proofs.FlowFates.{those_of}
use Rattle.flow_text.proofs.flow.push_part.Goals as goal

pub push_entering-requires-clause-home : goal.push_entering-requires-clause-home
push_entering-requires-clause-home c =
    let switches = c.switches-switches.ensures.all ∙ ap (λ (w : Wires). w.switches) c.wiring.ensures.wires in
    c.in_ok-home.ensures ∙ ap (λ (ss : List SwitchAt). numbers_in ss c.args.component.now) switches

pub push_entering-requires-clause-those : goal.push_entering-requires-clause-those
push_entering-requires-clause-those c =
    let switches = c.switches-switches.ensures.all ∙ ap (λ (w : Wires). w.switches) c.wiring.ensures.wires in
    let (homes, has, sends_are) = c.requires.sends in
    those_of c.args.script.now c.args.component.now c.switches-switches.result.now c.in_ok-home.home homes c.deref.result.now c.args.sends.now switches c.in_ok-home.ensures (c.deref.ensures.value ∙ c.in_ok-those.ensures) has sends_are
