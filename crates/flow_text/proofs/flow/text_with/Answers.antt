use Rattle.std.proofs.Common.{◌≡◌, ◌-◌, ◌∙◌, ap, Contains, length, sym, subst, refl, arith, ℕ, List}
use Rattle.std.proofs.lemmas.List.{take_all}
use Rattle.an_base.specs.Values.{EntryOf}
use Rattle.net_graph.specs.Forest.{IsComponent}
use Rattle.std.specs.Prelude.{count_by, filter}
use Rattle.std.proofs.lemmas.List.Sums.{length-filter}
use Rattle.std.specs.List.{flat_map}
use Rattle.common_values.proofs.MemberLemmas.{Contains-image}
use Rattle.flow_text.specs.Sends.{is_entering, is_local, is_unjoined, numbers_in}
use Rattle.flow_text.specs.declared.sent.Sent.{Sent}
use Rattle.flow_text.proofs.FlowFates.{three_parts}
use Rattle.flow_text.specs.Flows.{fate_lines, flow_told, is_out}
use Rattle.flow_text.proofs.FlowTexts.{AreToldParts, end_told, flow_ended, parts_told}
use Rattle.flow_text.proofs.flow.text_with.Goals as goal

pub push_part-requires-clause-component : goal.push_part-requires-clause-component
push_part-requires-clause-component c =
    let es = c.component-item.result in
    subst (λ (e : List EntryOf). (root : ℕ) × IsComponent c.args.script.now.wires root e) (sym c.component-item.is) (c.requires.trees.components c.components.component-index es (omega arith))

pub push_part-requires-clause-sends : goal.push_part-requires-clause-sends
push_part-requires-clause-sends c =
    let es = c.component-item.result in
    let homes = c.args.homes.now in
    let switches = c.args.script.now.wires.switches in
    let has = Contains-image (numbers_in switches) c.args.forest.now es (c.components.component-index, omega arith, sym c.component-item.is) in
    (homes, subst (λ (hs : List (List ℕ)). Contains hs (numbers_in switches es)) (sym c.requires.homes) has, c.deref.ensures.value ∙ c.in_ok-those.ensures.those ∙ ap (filter (is_entering homes)) c.requires.sends)

pub components-preserved : goal.components-preserved
components-preserved c = (
  parts_told c.args.script.now c.args.b c.args.forest.now c.components.component-index c.component-item.result _ c.components.text.items c.push_part.new.text.items c.components.out c.push_part.new.out (omega arith) c.component-item.is c.in_ok-push_part.ensures.told c.components.invariant.0,
  c.in_ok-push_part.ensures.few,
)

-- how many enter
entered : (homes : List (List ℕ)) (those sends : List Sent) (n : ℕ) → n ≡ length those → those ≡ filter (is_entering homes) sends → n ≡ count_by (is_entering homes) sends
entered homes those sends n count are = count ∙ ap (λ (ss : List Sent). length ss) are ∙ length-filter (is_entering homes) sends

pub push_end-requires : goal.push_end-requires
push_end-requires c =
    let homes = c.args.homes.now in
    let sends = c.args.sends.now in
    let all = three_parts homes sends in
    let those = entered homes c.in_ok-those.those.items sends c.len.result (omega (arith, c.len.ensures, c.in_ok-those.those.ok)) c.in_ok-those.ensures.those in
    omega arith

pub returns : goal.returns
returns c =
    let script = c.args.script.now in
    let homes = c.args.homes.now in
    let sends = c.args.sends.now in
    let text = c.components.text.items in
    let out = c.components.out in
    let base = flow_told (flat_map (fate_lines script homes) sends) in
    let all = take_all c.components.component-index c.args.forest.now (omega (arith, c.components-test.false)) in
    let told = subst (λ (f : List (List EntryOf)). AreToldParts script c.args.b f base text out) all c.components.invariant.0 in
    let those = entered homes c.in_ok-those.those.items sends c.len.result (omega (arith, c.len.ensures, c.in_ok-those.those.ok)) c.in_ok-those.ensures.those in
    let parts = three_parts homes sends in
    flow_ended script c.args.b c.args.forest.now homes sends out base text c.push_end.new.text.items c.requires.kept c.requires.room c.requires.trees c.requires.homes c.requires.sends refl told
    (λ moves is. end_told out c.len.result (count_by is_local sends) (length sends - count_by is_local sends - c.len.result) (count_by is_out moves) (count_by (is_entering homes) sends) (count_by is_local sends) (count_by (is_unjoined homes) sends) text c.push_end.new.text.items c.in_ok-push_end.ensures is those refl (omega arith))
