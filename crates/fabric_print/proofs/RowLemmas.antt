-- The rows of an answer, one after another.
use Rattle.std.proofs.Common.{◌≡◌, ◌∙◌, sym, ap, ℕ, List, [], ◌∷◌, ◌++◌, append_assoc, append-nil, map, Option, Some, None}
use Rattle.std.specs.Prelude.{codes}
use Rattle.std.proofs.lemmas.Grind.{flat_map-append}
use Rattle.common_lines.specs.Lines.{line_text, lines_text}
use Rattle.fabric_print.specs.declared.answer.Answer.{Answer}
use Rattle.fabric_print.specs.declared.ranks.Rank.{Rank}
use Rattle.fabric_print.specs.declared.ranks.Risen.{Risen}
use Rattle.fabric_print.specs.Ranks.{rank_row, ranks_text, risen_rows, verified_rows, verified_text}
use Rattle.fabric_print.specs.Answers.{Row, answer_rows, answer_text, read_row, judged_row, routes_row, channel_row, channels_row, cycle_rows, lost_rows, name_row, unset_rows}

-- a text with the lines of a list that is another
pub same_lines : {Form : Type 0} (rows_of : Form → List Row) (xs ys : Form) (old all : List ℕ) → xs ≡ ys → all ≡ old ++ lines_text (rows_of xs) → all ≡ old ++ lines_text (rows_of ys)
same_lines {Form} rows_of xs ys old all same is = is ∙ ap (λ (zs : Form). old ++ lines_text (rows_of zs)) same

-- a text that goes on by two parts
pub onward : (old one more text all : List ℕ) → text ≡ old ++ one → all ≡ text ++ more → all ≡ old ++ (one ++ more)
onward old one more text all first next = next ∙ ap (λ (t : List ℕ). t ++ more) first ∙ append_assoc old one more

-- the rows after the first five
last_rows : (a : Answer) → lines_text (cycle_rows a.cycle.items ++ lost_rows a.losses a.lost.items ++ unset_rows a.unset ++ map name_row a.names.items) ≡ lines_text (cycle_rows a.cycle.items) ++ (lines_text (lost_rows a.losses a.lost.items) ++ (lines_text (unset_rows a.unset) ++ lines_text (map name_row a.names.items)))
last_rows a =
    let cycle = cycle_rows a.cycle.items in
    let lost = lost_rows a.losses a.lost.items in
    let unset = unset_rows a.unset in
    let names = map name_row a.names.items in
    flat_map-append line_text ((cycle ++ lost) ++ unset) names
    ∙ ap (λ (t : List ℕ). t ++ lines_text names) (flat_map-append line_text (cycle ++ lost) unset ∙ ap (λ (t : List ℕ). t ++ lines_text unset) (flat_map-append line_text cycle lost))
    ∙ append_assoc (lines_text cycle ++ lines_text lost) (lines_text unset) (lines_text names)
    ∙ append_assoc (lines_text cycle) (lines_text lost) (lines_text unset ++ lines_text names)

pub answer_is : (a : Answer) (t0 t1 t2 t3 t4 t5 t6 t7 t8 t9 traffic : List ℕ) → traffic ≡ a.traffic.now → t1 ≡ t0 ++ line_text (codes "fabric" ∷ codes "1" ∷ []) → t2 ≡ t1 ++ line_text (read_row a.read) → t3 ≡ t2 ++ line_text (judged_row traffic) → t4 ≡ t3 ++ line_text (routes_row a.routes) → t5 ≡ t4 ++ line_text (channels_row a.channels a.dependencies) → t6 ≡ t5 ++ lines_text (cycle_rows a.cycle.items) → t7 ≡ t6 ++ lines_text (lost_rows a.losses a.lost.items) → t8 ≡ t7 ++ lines_text (unset_rows a.unset) → t9 ≡ t8 ++ lines_text (map name_row a.names.items) → t9 ≡ t0 ++ answer_text a
unfolding answer_rows
answer_is a t0 t1 t2 t3 t4 t5 t6 t7 t8 t9 traffic word h1 h2 h3 h4 h5 h6 h7 h8 h9 =
    let p1 = line_text (codes "fabric" ∷ codes "1" ∷ []) in
    let p2 = line_text (read_row a.read) in
    let p3 = line_text (judged_row a.traffic.now) in
    let p4 = line_text (routes_row a.routes) in
    let p5 = line_text (channels_row a.channels a.dependencies) in
    let p6 = lines_text (cycle_rows a.cycle.items) in
    let p7 = lines_text (lost_rows a.losses a.lost.items) in
    let p8 = lines_text (unset_rows a.unset) in
    let p9 = lines_text (map name_row a.names.items) in
    let judged : t3 ≡ t2 ++ p3 = h3 ∙ ap (λ (w : List ℕ). t2 ++ line_text (judged_row w)) word in
    let e79 = onward t7 p8 p9 t8 t9 h8 h9 in
    let e69 = onward t6 p7 (p8 ++ p9) t7 t9 h7 e79 in
    let e59 = onward t5 p6 (p7 ++ (p8 ++ p9)) t6 t9 h6 e69 in
    let e49 = onward t4 p5 (p6 ++ (p7 ++ (p8 ++ p9))) t5 t9 h5 e59 in
    let e39 = onward t3 p4 (p5 ++ (p6 ++ (p7 ++ (p8 ++ p9)))) t4 t9 h4 e49 in
    let e29 = onward t2 p3 (p4 ++ (p5 ++ (p6 ++ (p7 ++ (p8 ++ p9))))) t3 t9 judged e39 in
    let e19 = onward t1 p2 (p3 ++ (p4 ++ (p5 ++ (p6 ++ (p7 ++ (p8 ++ p9)))))) t2 t9 h2 e29 in
    let e09 = onward t0 p1 (p2 ++ (p3 ++ (p4 ++ (p5 ++ (p6 ++ (p7 ++ (p8 ++ p9))))))) t1 t9 h1 e19 in
    e09 ∙ ap (λ (t : List ℕ). t0 ++ (p1 ++ (p2 ++ (p3 ++ (p4 ++ (p5 ++ t)))))) (sym (last_rows a))

-- the lines of a dependency along which ranks do not fall
pub risen_is : (rise : Risen) (t0 t1 t2 t3 t4 : List ℕ) → t1 ≡ t0 ++ line_text (codes "ranks" ∷ codes "rise" ∷ []) → t2 ≡ t1 ++ line_text (channel_row rise.step) → t3 ≡ t2 ++ line_text (rank_row rise.own) → t4 ≡ t3 ++ line_text (rank_row rise.next) → t4 ≡ t0 ++ lines_text (risen_rows (Some rise))
risen_is rise t0 t1 t2 t3 t4 h1 h2 h3 h4 =
    let p1 = line_text (codes "ranks" ∷ codes "rise" ∷ []) in
    let p2 = line_text (channel_row rise.step) in
    let p3 = line_text (rank_row rise.own) in
    let p4 = line_text (rank_row rise.next) in
    let last = h4 ∙ ap (λ (t : List ℕ). t3 ++ t) (sym (append-nil p4)) in
    let e24 = onward t2 p3 (p4 ++ []) t3 t4 h3 last in
    let e14 = onward t1 p2 (p3 ++ (p4 ++ [])) t2 t4 h2 e24 in
    onward t0 p1 (p2 ++ (p3 ++ (p4 ++ []))) t1 t4 h1 e14

pub fall_is : (t0 t1 : List ℕ) → t1 ≡ t0 ++ line_text (codes "ranks" ∷ codes "fall" ∷ []) → t1 ≡ t0 ++ lines_text (risen_rows None)
fall_is t0 t1 h1 = h1 ∙ ap (λ (t : List ℕ). t0 ++ t) (sym (append-nil (line_text (codes "ranks" ∷ codes "fall" ∷ []))))

pub verified_is : (word traffic : List ℕ) (rise : Option Risen) (t0 t1 t2 t3 : List ℕ) → word ≡ traffic → t1 ≡ t0 ++ line_text (codes "fabric" ∷ codes "1" ∷ []) → t2 ≡ t1 ++ line_text (judged_row word) → t3 ≡ t2 ++ lines_text (risen_rows rise) → t3 ≡ t0 ++ verified_text traffic rise
unfolding verified_rows
verified_is word traffic rise t0 t1 t2 t3 same h1 h2 h3 =
    let p1 = line_text (codes "fabric" ∷ codes "1" ∷ []) in
    let p2 = line_text (judged_row traffic) in
    let p3 = lines_text (risen_rows rise) in
    let judged : t2 ≡ t1 ++ p2 = h2 ∙ ap (λ (w : List ℕ). t1 ++ line_text (judged_row w)) same in
    let e13 = onward t1 p2 p3 t2 t3 judged h3 in
    onward t0 p1 (p2 ++ p3) t1 t3 h1 e13

-- the ranks after the head
pub ranks_are : (ranks : List Rank) (old text all : List ℕ) → text ≡ old ++ line_text (codes "ranks" ∷ codes "1" ∷ []) → all ≡ text ++ lines_text (map rank_row ranks) → all ≡ old ++ ranks_text ranks
ranks_are ranks old text all first next = onward old (line_text (codes "ranks" ∷ codes "1" ∷ [])) (lines_text (map rank_row ranks)) text all first next
