-- The rows of an answer for tables with lanes, one after another.
use Rattle.std.proofs.Common.{◌≡◌, ◌∙◌, sym, ap, ℕ, List, [], ◌∷◌, ◌++◌, append_assoc, append-nil, map}
use Rattle.std.specs.Prelude.{codes}
use Rattle.std.proofs.lemmas.Grind.{flat_map-append}
use Rattle.common_lines.specs.Lines.{line_text, lines_text}
use Rattle.fabric_print.specs.Answers.{Row, channels_row, cycle_rows_by, name_row, read_row, routes_row, unset_rows}
use Rattle.fabric_print.proofs.RowLemmas.{onward}
use Rattle.fabric_print_lanes.specs.declared.answer.LaneAnswer.{LaneAnswer}
use Rattle.fabric_print_lanes.specs.LaneAnswers.{lane_answer_rows, lane_answer_text, lane_channel_row, lane_judged_row, lane_lost_rows, mute_rows, note_rows, silent_rows}

-- two parts of a text that goes on
two : (xs ys : List Row) (rest : List ℕ) → lines_text (xs ++ ys) ++ rest ≡ lines_text xs ++ (lines_text ys ++ rest)
two xs ys rest = ap (λ (t : List ℕ). t ++ rest) (flat_map-append line_text xs ys) ∙ append_assoc (lines_text xs) (lines_text ys) rest

-- the rows after the first four
last_rows : (silent mute channels cycle note lost unset names : List Row) → lines_text (silent ++ mute ++ channels ++ cycle ++ note ++ lost ++ unset ++ names) ≡ lines_text silent ++ (lines_text mute ++ (lines_text channels ++ (lines_text cycle ++ (lines_text note ++ (lines_text lost ++ (lines_text unset ++ lines_text names))))))
last_rows silent mute channels cycle note lost unset names =
    flat_map-append line_text ((((((silent ++ mute) ++ channels) ++ cycle) ++ note) ++ lost) ++ unset) names
    ∙ two (((((silent ++ mute) ++ channels) ++ cycle) ++ note) ++ lost) unset (lines_text names)
    ∙ two ((((silent ++ mute) ++ channels) ++ cycle) ++ note) lost (lines_text unset ++ lines_text names)
    ∙ two (((silent ++ mute) ++ channels) ++ cycle) note (lines_text lost ++ (lines_text unset ++ lines_text names))
    ∙ two ((silent ++ mute) ++ channels) cycle (lines_text note ++ (lines_text lost ++ (lines_text unset ++ lines_text names)))
    ∙ two (silent ++ mute) channels (lines_text cycle ++ (lines_text note ++ (lines_text lost ++ (lines_text unset ++ lines_text names))))
    ∙ two silent mute (lines_text channels ++ (lines_text cycle ++ (lines_text note ++ (lines_text lost ++ (lines_text unset ++ lines_text names)))))

pub answer_is : (a : LaneAnswer) (t0 t1 t2 t3 t4 t5 t6 t7 t8 t9 t10 t11 t12 traffic : List ℕ) → traffic ≡ a.traffic.now → t1 ≡ t0 ++ line_text (codes "fabric" ∷ codes "1" ∷ []) → t2 ≡ t1 ++ line_text (read_row a.read) → t3 ≡ t2 ++ line_text (lane_judged_row traffic a.lanes a.asked) → t4 ≡ t3 ++ line_text (routes_row a.routes) → t5 ≡ t4 ++ lines_text (silent_rows a.silent) → t6 ≡ t5 ++ lines_text (mute_rows a.mute) → t7 ≡ t6 ++ line_text (channels_row a.channels a.dependencies) → t8 ≡ t7 ++ lines_text (cycle_rows_by lane_channel_row a.cycle.items) → t9 ≡ t8 ++ lines_text (note_rows a.asked.levels a.cycle.items) → t10 ≡ t9 ++ lines_text (lane_lost_rows a.losses a.lost.items) → t11 ≡ t10 ++ lines_text (unset_rows a.unset) → t12 ≡ t11 ++ lines_text (map name_row a.names.items) → t12 ≡ t0 ++ lane_answer_text a
unfolding lane_answer_rows
answer_is a t0 t1 t2 t3 t4 t5 t6 t7 t8 t9 t10 t11 t12 traffic word h1 h2 h3 h4 h5 h6 h7 h8 h9 h10 h11 h12 =
    let p1 = line_text (codes "fabric" ∷ codes "1" ∷ []) in
    let p2 = line_text (read_row a.read) in
    let p3 = line_text (lane_judged_row a.traffic.now a.lanes a.asked) in
    let p4 = line_text (routes_row a.routes) in
    let p5 = lines_text (silent_rows a.silent) in
    let p6 = lines_text (mute_rows a.mute) in
    let channels : List Row = channels_row a.channels a.dependencies ∷ [] in
    let p7 = lines_text channels in
    let p8 = lines_text (cycle_rows_by lane_channel_row a.cycle.items) in
    let p9 = lines_text (note_rows a.asked.levels a.cycle.items) in
    let p10 = lines_text (lane_lost_rows a.losses a.lost.items) in
    let p11 = lines_text (unset_rows a.unset) in
    let p12 = lines_text (map name_row a.names.items) in
    let judged : t3 ≡ t2 ++ p3 = h3 ∙ ap (λ (w : List ℕ). t2 ++ line_text (lane_judged_row w a.lanes a.asked)) word in
    let counted : t7 ≡ t6 ++ p7 = h7 ∙ ap (λ (t : List ℕ). t6 ++ t) (sym (append-nil (line_text (channels_row a.channels a.dependencies)))) in
    let e11 = onward t10 p11 p12 t11 t12 h11 h12 in
    let e10 = onward t9 p10 (p11 ++ p12) t10 t12 h10 e11 in
    let e9 = onward t8 p9 (p10 ++ (p11 ++ p12)) t9 t12 h9 e10 in
    let e8 = onward t7 p8 (p9 ++ (p10 ++ (p11 ++ p12))) t8 t12 h8 e9 in
    let e7 = onward t6 p7 (p8 ++ (p9 ++ (p10 ++ (p11 ++ p12)))) t7 t12 counted e8 in
    let e6 = onward t5 p6 (p7 ++ (p8 ++ (p9 ++ (p10 ++ (p11 ++ p12))))) t6 t12 h6 e7 in
    let e5 = onward t4 p5 (p6 ++ (p7 ++ (p8 ++ (p9 ++ (p10 ++ (p11 ++ p12)))))) t5 t12 h5 e6 in
    let e4 = onward t3 p4 (p5 ++ (p6 ++ (p7 ++ (p8 ++ (p9 ++ (p10 ++ (p11 ++ p12))))))) t4 t12 h4 e5 in
    let e3 = onward t2 p3 (p4 ++ (p5 ++ (p6 ++ (p7 ++ (p8 ++ (p9 ++ (p10 ++ (p11 ++ p12)))))))) t3 t12 judged e4 in
    let e2 = onward t1 p2 (p3 ++ (p4 ++ (p5 ++ (p6 ++ (p7 ++ (p8 ++ (p9 ++ (p10 ++ (p11 ++ p12))))))))) t2 t12 h2 e3 in
    let e1 = onward t0 p1 (p2 ++ (p3 ++ (p4 ++ (p5 ++ (p6 ++ (p7 ++ (p8 ++ (p9 ++ (p10 ++ (p11 ++ p12)))))))))) t1 t12 h1 e2 in
    e1 ∙ ap (λ (t : List ℕ). t0 ++ (p1 ++ (p2 ++ (p3 ++ (p4 ++ t))))) (sym (last_rows (silent_rows a.silent) (mute_rows a.mute) channels (cycle_rows_by lane_channel_row a.cycle.items) (note_rows a.asked.levels a.cycle.items) (lane_lost_rows a.losses a.lost.items) (unset_rows a.unset) (map name_row a.names.items)))
