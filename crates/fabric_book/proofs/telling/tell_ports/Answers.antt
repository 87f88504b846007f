-- The line of each port comes after those before it.

use Rattle.std.specs.Prelude.{◌==◌}
use Rattle.std.proofs.Common.{◌≡◌, ◌∙◌, ◌++◌, ◌-◌, ℕ, ap, arith, refl, slice_get}
use Rattle.std.specs.List.{flat_map, range_with_len}
use Rattle.an_base.specs.Ports.{NoteOf}
use Rattle.net_state.specs.PortStates.{state_code}
use Rattle.net_world.specs.Lines.{port_line}
use Rattle.fabric_book.proofs.TellLemmas.{ports_more}
use Rattle.fabric_book.proofs.telling.tell_ports.Goals as goal

pub ports-preserved : goal.ports-preserved
ports-preserved c =
    let port = c.ports.port in
    ports_more c.args.s port c.args.before.now c.args.after.now c.get-old.result c.get-new.result (state_code c.get-old.result.state == state_code c.get-new.result.state)
    c.args.lines.now c.ports.lines c.tell_port.new.lines (omega arith)
    (c.get-old.ensures ∙ ap (λ (n : NoteOf). slice_get n.ports (port - 1)) c.before-2.view_is)
    (c.get-new.ensures ∙ ap (λ (n : NoteOf). slice_get n.ports (port - 1)) c.after.view_is)
    refl c.ports.invariant c.in_ok-tell_port.ensures

pub returns : goal.returns
returns c =
    let all : c.ports.port ≡ 13 = omega arith in
    c.ports.invariant ∙ ap (λ (n : ℕ). c.args.lines.now ++ flat_map (port_line c.args.s c.args.before.now c.args.after.now) (range_with_len 1 (n - 1))) all
