-- The next line comes after them.

use Rattle.std.proofs.Common.{◌≡◌, ◌∙◌, ◌++◌, List, ap, append_assoc, sym, take}
use Rattle.std.specs.List.{flat_map}
use Rattle.std.specs.Prelude.{Option, option_to_list}
use Rattle.common_values.proofs.FlatMapLemmas.{flat_map-more}
use Rattle.net_state.specs.declared.line.Line.{Line}
use Rattle.fabric_book.proofs.lines.Lines.push_all.Goals as goal

pub lines-preserved : goal.lines-preserved
lines-preserved c =
    let told = c.args.told.now in
    let i = c.lines.line-index in
    let line = c.line-item.result in
    let so_far = flat_map option_to_list (take i told) in
    c.in_ok-push_some.ensures ∙ ap (λ (lines : List Line). lines ++ option_to_list line) c.lines.invariant ∙ append_assoc c.args.self.now so_far (option_to_list line)
    ∙ ap (λ (lines : List Line). c.args.self.now ++ lines) (ap (λ (o : Option Line). so_far ++ option_to_list o) c.line-item.is ∙ sym (flat_map-more option_to_list told i line c.lines-test.true))
