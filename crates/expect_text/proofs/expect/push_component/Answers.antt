use Rattle.std.proofs.Common.{◌∙◌, ◌++◌, ap, map, List, ℕ}
use Rattle.switch_numbering.proofs.Differing.{length-numbering}
use Rattle.std.specs.List.{zip}
use Rattle.std.proofs.lemmas.Result.{on_ok_weaker}
use Rattle.an_base.specs.Values.{EntryOf}
use Rattle.common_lines.specs.Lines.{line_text}
use Rattle.row_text.specs.TableForms.{table_words}
use Rattle.expect_text.specs.Expect.{component_form, member_form, number_form}
use Rattle.row_text.specs.TableForms.{table_text}
use Rattle.expect_text.proofs.TextLemmas.{component_text}
use Rattle.expect_text.proofs.expect.push_component.Goals as goal

pub push_numbers-requires : goal.push_numbers-requires
push_numbers-requires c = rw (c.as_slice.ensures.all, c.in_ok-numbers.ensures, c.as_slice-entries.ensures.all) (length-numbering c.args.component.now)

pub returns : goal.returns
returns c =
    let s = c.args.lives.now.script.now in
    let es = c.args.component.now in
    let t0 = c.args.text.now.items in
    let t1 = c.push_head.new.text.items in
    let t2 = c.push_members.new.text.items in
    let t3 = c.push_numbers.new.text.items in
    let t4 = c.push_tables.new.text.items in
    let one = c.in_ok-push_head.ensures ∙ ap (λ (e : List EntryOf). t0 ++ line_text (table_words (component_form s e))) c.as_slice-entries.ensures.all in
    let two = c.in_ok-push_members.ensures ∙ ap (λ (e : List EntryOf). t1 ++ table_text (map (member_form s) e)) c.as_slice-entries.ensures.all in
    let three =
    c.in_ok-push_numbers.ensures
    ∙ ap (λ (e : List EntryOf). t2 ++ table_text (map (number_form s) (zip e c.as_slice.result.now))) c.as_slice-entries.ensures.all
    ∙ ap (λ (ns : List ℕ). t2 ++ table_text (map (number_form s) (zip es ns))) (c.as_slice.ensures.all ∙ c.in_ok-numbers.ensures) in
    on_ok_weaker c.push_tables.result (λ h. (h.0, h.1, component_text s es h.0 t0 t1 t2 t3 t4 one two three h.2)) c.push_tables.ensures
