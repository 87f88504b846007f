-- The lines of a report, one after another.
use Rattle.std.proofs.Common.{◌≡◌, ◌∙◌, sym, ap, ℕ, List, [], ◌∷◌, ◌++◌, map}
use Rattle.std.specs.Prelude.{codes}
use Rattle.std.proofs.lemmas.Grind.{flat_map-append}
use Rattle.common_lines.specs.Lines.{line_text, lines_text}
use Rattle.fabric_print.proofs.RowLemmas.{onward}
use Rattle.fabric_repair_commands.specs.declared.report.Report.{Report}
use Rattle.fabric_repair_commands.specs.Reports.{better_rows, counts_row, measures_row, repaired_row, report_rows, report_text, set_row}

pub report_is : (r : Report) (t0 t1 t2 t3 t4 t5 t6 t7 traffic : List ℕ) → t0 ≡ [] → traffic ≡ r.traffic → t1 ≡ t0 ++ line_text (codes "fabric" ∷ codes "1" ∷ []) → t2 ≡ t1 ++ line_text (repaired_row traffic) → t3 ≡ t2 ++ line_text (counts_row r) → t4 ≡ t3 ++ line_text (measures_row (codes "before") r.before) → t5 ≡ t4 ++ line_text (measures_row (codes "after") r.after) → t6 ≡ t5 ++ lines_text (better_rows r) → t7 ≡ t6 ++ lines_text (map set_row r.rows.items) → t7 ≡ report_text r
unfolding report_rows
report_is r t0 t1 t2 t3 t4 t5 t6 t7 traffic none word h1 h2 h3 h4 h5 h6 h7 =
    let p1 = line_text (codes "fabric" ∷ codes "1" ∷ []) in
    let p2 = line_text (repaired_row r.traffic) in
    let p3 = line_text (counts_row r) in
    let p4 = line_text (measures_row (codes "before") r.before) in
    let p5 = line_text (measures_row (codes "after") r.after) in
    let p6 = lines_text (better_rows r) in
    let p7 = lines_text (map set_row r.rows.items) in
    let repaired : t2 ≡ t1 ++ p2 = h2 ∙ ap (λ (w : List ℕ). t1 ++ line_text (repaired_row w)) word in
    let e67 = onward t5 p6 p7 t6 t7 h6 h7 in
    let e57 = onward t4 p5 (p6 ++ p7) t5 t7 h5 e67 in
    let e47 = onward t3 p4 (p5 ++ (p6 ++ p7)) t4 t7 h4 e57 in
    let e37 = onward t2 p3 (p4 ++ (p5 ++ (p6 ++ p7))) t3 t7 h3 e47 in
    let e27 = onward t1 p2 (p3 ++ (p4 ++ (p5 ++ (p6 ++ p7)))) t2 t7 repaired e37 in
    let e17 = onward t0 p1 (p2 ++ (p3 ++ (p4 ++ (p5 ++ (p6 ++ p7))))) t1 t7 h1 e27 in
    let all = p1 ++ (p2 ++ (p3 ++ (p4 ++ (p5 ++ (p6 ++ p7))))) in
    e17 ∙ ap (λ (t : List ℕ). t ++ all) none
    ∙ ap (λ (t : List ℕ). p1 ++ (p2 ++ (p3 ++ (p4 ++ (p5 ++ t))))) (sym (flat_map-append line_text (better_rows r) (map set_row r.rows.items)))
