use Rattle.std.proofs.Common.{◌∙◌, ap, refl}
use Rattle.connectivity.specs.Connections.{ConnectivityOf}
use Rattle.port_monitor.specs.Histories.{port_after}
use Rattle.link_settling.specs.Measures.{answers_left}
use Rattle.link_settling.proofs.Answers.{none_left}
use Rattle.link_settling.proofs.Links.{judges, knows}
use Rattle.link_settling.proofs.Ports.{answer_most, answer_nearer, port_sound}
use Rattle.link_settling.proofs.port_laws.an_answer_brings_an_end_nearer.Goals as goal

pub returns-clause-most : goal.returns-clause-most
returns-clause-most c = answer_most

pub returns-clause-nearer : goal.returns-clause-nearer
returns-clause-nearer c own peer history asks answered =
    let p = port_after own history in
    ap (λ (far : ConnectivityOf). answers_left peer far) (judges p.phase p refl asks) ∙ answer_nearer own peer history answered

pub returns-clause-known : goal.returns-clause-known
returns-clause-known c own peer history asks none =
    let p = port_after own history in
    knows own peer p (record { phase = asks; conn = none_left own peer p.far (port_sound own history).far none })
