use Rattle.std.proofs.Common.{◌∙◌, ◌<◌, ap, arith, length, ℕ, List, [], slice_index_or}
use Rattle.net_graph.specs.Wires.{Wires, network}
use Rattle.report.proofs.FirstWordLemmas.{first_word_at}
use Rattle.report.proofs.telling.Telling.first_word.Goals as goal

pub returns : goal.returns
returns c =
    let script = c.args.self.now.script.now in
    let s = c.args.s in
    let wires = c.wiring-wiring.ensures.wires in
    let count = c.count.ensures.count ∙ ap (λ (w : Wires). length w.switches) wires in
    let past = c.if-as_u8-count.false in
    let below : s < length script.wires.switches = omega (arith, count, past, c.as_u8.ensures) in
    c.get.ensures
    ∙ ap (λ (names : List (List ℕ)). slice_index_or names c.from.result []) c.switch_names.ensures.names
    ∙ ap (λ (place : ℕ). slice_index_or script.switch_names place []) c.from.ensures
    ∙ first_word_at script c.wiring-wiring.ensures.kept s below c.args.life c.life.result c.ne.result (c.life.ensures ∙ ap (λ (w : Wires). (network w).life s) wires) c.ne.ensures c.if-ne.false
