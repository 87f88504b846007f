-- The rows of an answer for two tables, one after another.
use Rattle.std.proofs.Common.{◌≡◌, ◌∙◌, sym, ap, ℕ, List, [], ◌∷◌, ◌++◌, map}
use Rattle.std.specs.Prelude.{codes}
use Rattle.std.proofs.lemmas.Grind.{flat_map-append}
use Rattle.common_lines.specs.Lines.{line_text, lines_text}
use Rattle.fabric_print.specs.Answers.{channels_row, name_row, read_row, unset_rows}
use Rattle.fabric_print.proofs.RowLemmas.{onward}
use Rattle.fabric_between_command.specs.declared.lines.Between.{Between}
use Rattle.fabric_between_command.specs.Lines.{between_row, between_rows, between_text, loop_rows}

pub between_is : (a : Between) (t0 t1 t2 t3 t4 t5 t6 t7 : List ℕ) → t1 ≡ t0 ++ line_text (codes "fabric" ∷ codes "1" ∷ []) → t2 ≡ t1 ++ line_text (read_row a.read) → t3 ≡ t2 ++ line_text (between_row a.new) → t4 ≡ t3 ++ line_text (channels_row a.channels a.dependencies) → t5 ≡ t4 ++ lines_text (loop_rows a.looped a.cycle.items) → t6 ≡ t5 ++ lines_text (unset_rows a.unset) → t7 ≡ t6 ++ lines_text (map name_row a.names.items) → t7 ≡ t0 ++ between_text a
unfolding between_rows
between_is a t0 t1 t2 t3 t4 t5 t6 t7 h1 h2 h3 h4 h5 h6 h7 =
    let p1 = line_text (codes "fabric" ∷ codes "1" ∷ []) in
    let p2 = line_text (read_row a.read) in
    let p3 = line_text (between_row a.new) in
    let p4 = line_text (channels_row a.channels a.dependencies) in
    let p5 = lines_text (loop_rows a.looped a.cycle.items) in
    let p6 = lines_text (unset_rows a.unset) in
    let p7 = lines_text (map name_row a.names.items) in
    let e57 = onward t5 p6 p7 t6 t7 h6 h7 in
    let e47 = onward t4 p5 (p6 ++ p7) t5 t7 h5 e57 in
    let e37 = onward t3 p4 (p5 ++ (p6 ++ p7)) t4 t7 h4 e47 in
    let e27 = onward t2 p3 (p4 ++ (p5 ++ (p6 ++ p7))) t3 t7 h3 e37 in
    let e17 = onward t1 p2 (p3 ++ (p4 ++ (p5 ++ (p6 ++ p7)))) t2 t7 h2 e27 in
    let e07 = onward t0 p1 (p2 ++ (p3 ++ (p4 ++ (p5 ++ (p6 ++ p7))))) t1 t7 h1 e17 in
    e07 ∙ ap (λ (t : List ℕ). t0 ++ (p1 ++ (p2 ++ (p3 ++ (p4 ++ t)))))
    (ap (λ (t : List ℕ). p5 ++ t) (sym (flat_map-append line_text (unset_rows a.unset) (map name_row a.names.items)))
    ∙ sym (flat_map-append line_text (loop_rows a.looped a.cycle.items) (unset_rows a.unset ++ map name_row a.names.items)))
