use Rattle.std.proofs.Common.{◌∙◌, sym, ap, refl, true, ◌≡◌}
use Rattle.std.specs.List.{list_all}
use Rattle.net_graph.specs.Wires.{Wires}
use Rattle.check_text.specs.Check.{is_row_of, members_of}
use Rattle.check_text.proofs.CheckLemmas.{all_rows}
use Rattle.check_text.proofs.check.taken_rows.Goals as goal

pub returns-then-all : goal.returns-then-all
returns-then-all c =
    let w = c.args.script.now.wires in
    let switches = c.switches-switches.ensures.all ∙ ap (λ (v : Wires). v.switches) c.wiring.ensures.wires in
    let members = members_of c.switches-switches.result.now c.as_slice-entries.result.now in
    let all : list_all (is_row_of members) c.args.tables.rows ≡ true = sym c.in_ok-all.ensures ∙ c.if-all.true in
    all_rows c.switches-switches.result.now w.switches c.args.tables c.as_slice-entries.result.now c.args.component.now members c.into_numbered.result.items switches c.as_slice-entries.ensures.all refl all c.into_numbered.ensures
