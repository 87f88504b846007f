use Rattle.std.proofs.Common.{◌∙◌, ap, append-nil, arith, sym, refl, subst, [], Bool}
use Rattle.std.proofs.lemmas.Result.{on_ok_weaker}
use Rattle.switch_numbering.specs.Numbering.{numbering}
use Rattle.dep_check.specs.Laws.{AreTables}
use Rattle.flow_text.specs.Sends.{sends_of}
use Rattle.flow_text.proofs.FlowTexts.{part_done}
use Rattle.flow_text.proofs.FlowTurns.{are_member_tables, member_rows, member_tables, none_ran, numbered_component, own_rows, ran, those_may_enter}
use Rattle.flow_text.proofs.flow.push_entering.Goals as goal

pub returns-then-is_empty-clause-told : goal.returns-then-is_empty-clause-told
returns-then-is_empty-clause-told c =
    let script = c.args.script.now in
    let any = script.any_routes in
    let es = c.args.component.now in
    let home = c.args.home.now in
    let those = c.args.those.now in
    let text = c.args.text.now.items in
    let out = c.args.out.now in
    let (root, component) = c.requires.component in
    let tables = are_member_tables es any (numbered_component script root es es (numbering es) c.requires.kept component refl refl) in
    let run = none_ran any c.args.b es home those (member_tables es any) [] tables (sym c.is_empty.ensures ∙ c.if-is_empty.true) refl in
    part_done script c.args.b any es es es script.wires.switches home those (sends_of script) [] out out text text
    refl refl refl refl c.requires.home c.requires.those refl run (sym (append-nil text)) (omega arith)

pub push_run-requires : goal.push_run-requires
push_run-requires c =
    let (root, component) = c.requires.component in
    let script = c.args.script.now in
    let any = script.any_routes in
    let tabled = c.in_ok-tabled.tabled in
    let are = c.in_ok-tabled.ensures in
    let named = are.numbers_are ∙ ap numbering are.graph_is in
    let own = own_rows any tabled.graph tabled.numbers are.numbers_are
    (numbered_component script root c.args.component.now tabled.graph tabled.numbers c.requires.kept component are.graph_is named) in
    let rows = member_rows tabled.graph any in
    let exits = are.exits rows (subst (λ (a : Bool). AreTables tabled.graph tabled.numbers a rows) (sym c.any_routes.ensures) own.tables) in
    let those = those_may_enter script root c.args.component.now script.wires.switches tabled.numbers c.args.home.now c.args.those.now (sends_of script) c.requires.kept component named refl c.requires.home c.requires.those refl in
    (are.numbers_are, (record { any = any; own = own; exits = exits; is = refl }, (those, (c.requires.room, c.requires.few))))

pub returns-clause-told : goal.returns-clause-told
returns-clause-told c =
    let (root, component) = c.requires.component in
    let script = c.args.script.now in
    let any = script.any_routes in
    let es = c.args.component.now in
    let home = c.args.home.now in
    let those = c.args.those.now in
    let tabled = c.in_ok-tabled.tabled in
    let are = c.in_ok-tabled.ensures in
    let numbered = numbered_component script root es tabled.graph tabled.numbers c.requires.kept component are.graph_is (are.numbers_are ∙ ap numbering are.graph_is) in
    on_ok_weaker c.push_run.result
    (λ told.
    let went = ran any c.args.b tabled.graph tabled.numbers home those told.moves are.numbers_are numbered told.run in
    part_done script c.args.b any es tabled.graph tabled.graph script.wires.switches home those (sends_of script) told.moves c.args.out.now c.push_run.new.out c.args.text.now.items c.push_run.new.text.items
    refl are.graph_is are.graph_is refl c.requires.home c.requires.those refl went told.text_is told.out_is)
    c.push_run.ensures.told
