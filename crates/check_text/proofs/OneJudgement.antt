use Rattle.std.proofs.Common.{◌≡◌, ◌≢◌, ◌∙◌, inl, inr, sym, ap, subst, refl, ℕ, List, [], ◌∷◌, ◌++◌, map, All, Option, Bool, true, false, codes}
use Rattle.std.specs.List.{flat_map, range_with_len}
use Rattle.std.proofs.lemmas.List.Elements.{All-head, All-tail}
use Rattle.an_base.specs.Values.{EntryOf}
use Rattle.net_graph.specs.declared.wiring.SwitchAt.{SwitchAt}
use Rattle.net_graph.proofs.OneForest.{one_forest_of}
use Rattle.net_script.specs.Scripts.{ScriptOf, IsScript}
use Rattle.table_script.specs.Tables.{TablesOf}
use Rattle.dep_check.specs.declared.channel.Channel.{Channel}
use Rattle.dep_check.specs.declared.refusal.CheckRefusal.{CheckRefusal}
use Rattle.dep_check.specs.declared.refusal.CheckRefusal.TheVariants.{Cycle, NotJoined, IllegalExit, OutOfMemory}
use Rattle.dep_check.specs.Answer.{IsRefusal}
use Rattle.dep_check.specs.Tables.{rank_at}
use Rattle.dep_check.proofs.OneAnswer.{one_ranks, not_refused, one_refusal}
use Rattle.check_text.specs.Check.{numbers_of, rows_of, rank_lines, port_ranks, number_ranks, ranks_text, refusal_line, Ranked, ArePassing, IsRanked, ranked_text, IsRefusedFor, IsJudged}

-- ONE JUDGEMENT

-- lists made of the same pieces
flat_map_same : {X A : Type 0} (f g : X → List A) → ((x : X) → f x ≡ g x) → (xs : List X) → flat_map f xs ≡ flat_map g xs
flat_map_same f g same [] = refl
flat_map_same f g same (x ∷ xs) = rw (same x, flat_map_same f g same xs) refl

-- tables that pass have one text of ranks
one_ranks_text : (s : ScriptOf) (t : TablesOf) (es : List EntryOf) (ranks others : List (Option ℕ)) → ArePassing s.wires.switches t es ranks → ArePassing s.wires.switches t es others → ranks_text s es (numbers_of s.wires.switches t es) ranks ≡ ranks_text s es (numbers_of s.wires.switches t es) others
unfolding ranks_text
one_ranks_text s t es ranks others one two =
    let ns = numbers_of s.wires.switches t es in
    let at : (c : Channel) → rank_at ranks c ≡ rank_at others c = λ c. one_ranks es ns (rows_of s.wires.switches t es) ranks others c one two in
    let port : (n p : ℕ) → port_ranks s es ns ranks n p ≡ port_ranks s es ns others n p = λ n p. ap (rank_lines s es ns (record { at = n; port = p })) (at (record { at = n; port = p })) in
    flat_map_same (number_ranks s es ns ranks) (number_ranks s es ns others) (λ n. flat_map_same (port_ranks s es ns ranks n) (port_ranks s es ns others n) (port n) (range_with_len 0 13)) (range_with_len 0 127)

one_ranked : (s : ScriptOf) (t : TablesOf) (p q : Ranked) → IsRanked s.wires.switches t p → IsRanked s.wires.switches t q → p.entries ≡ q.entries → ranked_text s t p ≡ ranked_text s t q
one_ranked s t p q is_p is_q same =
    ap (λ (es : List EntryOf). ranks_text s es (numbers_of s.wires.switches t es) p.ranks) same
    ∙ one_ranks_text s t q.entries p.ranks q.ranks (subst (λ (es : List EntryOf). ArePassing s.wires.switches t es p.ranks) same is_p) is_q

one_ranked_text : (s : ScriptOf) (t : TablesOf) (ps qs : List Ranked) → All (IsRanked s.wires.switches t) ps → All (IsRanked s.wires.switches t) qs → map (λ p. p.entries) ps ≡ map (λ p. p.entries) qs → flat_map (ranked_text s t) ps ≡ flat_map (ranked_text s t) qs
one_ranked_text s t [] [] is_p is_q same = refl
one_ranked_text s t [] (q ∷ qs) is_p is_q same = absurd (cc)
one_ranked_text s t (p ∷ ps) [] is_p is_q same = absurd (cc)
one_ranked_text s t (p ∷ ps) (q ∷ qs) is_p is_q same =
    let head : p.entries ≡ q.entries = cc in
    let tail : map (λ r. r.entries) ps ≡ map (λ r. r.entries) qs = cc in
    let P = IsRanked s.wires.switches t in
    ap (λ (text : List ℕ). text ++ flat_map (ranked_text s t) ps) (one_ranked s t p q (All-head P p ps is_p) (All-head P q qs is_q) head)
    ∙ ap (λ (text : List ℕ). ranked_text s t q ++ text) (one_ranked_text s t ps qs (All-tail P p ps is_p) (All-tail P q qs is_q) tail)

-- a refusal is one by its rows, and not want of memory
refused_is : (switches : List SwitchAt) (t : TablesOf) (es : List EntryOf) (c : CheckRefusal) → IsRefusedFor switches t es c → IsRefusal es (numbers_of switches t es) (rows_of switches t es) c × (c ≢ OutOfMemory)
refused_is switches t es (Cycle channels) is = (is, (λ same. absurd (cc)))
refused_is switches t es (NotJoined from to at entry) is = (is, (λ same. absurd (cc)))
refused_is switches t es (IllegalExit at entry to exit) is = (is, (λ same. absurd (cc)))
refused_is switches t es OutOfMemory is = absurd is

-- what passes is not refused
not_both : (switches : List SwitchAt) (t : TablesOf) (p : Ranked) (es : List EntryOf) (c : CheckRefusal) → IsRanked switches t p → IsRefusedFor switches t es c → p.entries ≡ es → ⊥
not_both switches t p es c passes refused same =
    let is = refused_is switches t es c refused in
    is.1 (not_refused es (numbers_of switches t es) (rows_of switches t es) p.ranks c (subst (λ (fs : List EntryOf). ArePassing switches t fs p.ranks) same passes) is.0)

-- nor is one of what passes
none_refused : (switches : List SwitchAt) (t : TablesOf) (ps qs : List Ranked) (es : List EntryOf) (behind : List (List EntryOf)) (c : CheckRefusal) → All (IsRanked switches t) ps → IsRefusedFor switches t es c → map (λ p. p.entries) ps ≡ map (λ p. p.entries) qs ++ (es ∷ behind) → ⊥
none_refused switches t [] [] es behind c passes refused same = absurd (cc)
none_refused switches t [] (q ∷ qs) es behind c passes refused same = absurd (cc)
none_refused switches t (p ∷ ps) [] es behind c passes refused same =
    let head : p.entries ≡ es = cc in
    not_both switches t p es c (All-head (IsRanked switches t) p ps passes) refused head
none_refused switches t (p ∷ ps) (q ∷ qs) es behind c passes refused same =
    let tail : map (λ r. r.entries) ps ≡ map (λ r. r.entries) qs ++ (es ∷ behind) = cc in
    none_refused switches t ps qs es behind c (All-tail (IsRanked switches t) p ps passes) refused tail

-- the first that are refused are one
first_refused : (switches : List SwitchAt) (t : TablesOf) (ps qs : List Ranked) (es fs : List EntryOf) (behind more : List (List EntryOf)) (c d : CheckRefusal) → All (IsRanked switches t) ps → All (IsRanked switches t) qs → IsRefusedFor switches t es c → IsRefusedFor switches t fs d → map (λ p. p.entries) ps ++ (es ∷ behind) ≡ map (λ p. p.entries) qs ++ (fs ∷ more) → es ≡ fs
first_refused switches t [] [] es fs behind more c d ps_pass qs_pass one two same = cc
first_refused switches t [] (q ∷ qs) es fs behind more c d ps_pass qs_pass one two same =
    let head : es ≡ q.entries = cc in
    absurd (not_both switches t q es c (All-head (IsRanked switches t) q qs qs_pass) one (sym head))
first_refused switches t (p ∷ ps) [] es fs behind more c d ps_pass qs_pass one two same =
    let head : p.entries ≡ fs = cc in
    absurd (not_both switches t p fs d (All-head (IsRanked switches t) p ps ps_pass) two head)
first_refused switches t (p ∷ ps) (q ∷ qs) es fs behind more c d ps_pass qs_pass one two same =
    let tail : map (λ r. r.entries) ps ++ (es ∷ behind) ≡ map (λ r. r.entries) qs ++ (fs ∷ more) = cc in
    first_refused switches t ps qs es fs behind more c d (All-tail (IsRanked switches t) p ps ps_pass) (All-tail (IsRanked switches t) q qs qs_pass) one two tail

-- and so is their refusal
same_refusal : (switches : List SwitchAt) (t : TablesOf) (es : List EntryOf) (c d : CheckRefusal) → IsRefusedFor switches t es c → IsRefusedFor switches t es d → c ≡ d
same_refusal switches t es c d one two =
    let a = refused_is switches t es c one in
    let b = refused_is switches t es d two in
    elim (one_refusal es (numbers_of switches t es) (rows_of switches t es) c d a.0 b.0) [
      | inl same ↦ same
      | inr none ↦ elim none [ inl first ↦ absurd (a.1 first) | inr second ↦ absurd (b.1 second) ]
    ]

-- tables have one judgement
pub one_judgement : (s : ScriptOf) (t : TablesOf) (passed other : Bool) (text out : List ℕ) → IsScript s → IsJudged s t passed text → IsJudged s t other out → (passed ≡ other) × (text ≡ out)
one_judgement s t true true text out kept one two =
    let forests = one_forest_of s.wires (map (λ p. p.entries) one.parts) (map (λ p. p.entries) two.parts) kept.wired one.trees two.trees in
    (refl, one.text_is ∙ ap (λ (ranks : List ℕ). ranks ++ codes "ok\n") (one_ranked_text s t one.parts two.parts one.pass two.pass forests) ∙ sym two.text_is)
one_judgement s t true false text out kept one two =
    let forests = one_forest_of s.wires (map (λ p. p.entries) one.parts) (map (λ p. p.entries) two.before ++ (two.refused ∷ two.behind)) kept.wired one.trees two.trees in
    absurd (none_refused s.wires.switches t one.parts two.before two.refused two.behind two.refusal one.pass two.cause forests)
one_judgement s t false true text out kept one two =
    let forests = one_forest_of s.wires (map (λ p. p.entries) two.parts) (map (λ p. p.entries) one.before ++ (one.refused ∷ one.behind)) kept.wired two.trees one.trees in
    absurd (none_refused s.wires.switches t two.parts one.before one.refused one.behind one.refusal two.pass one.cause forests)
one_judgement s t false false text out kept one two =
    let forests = one_forest_of s.wires (map (λ p. p.entries) one.before ++ (one.refused ∷ one.behind)) (map (λ p. p.entries) two.before ++ (two.refused ∷ two.behind)) kept.wired one.trees two.trees in
    let es = first_refused s.wires.switches t one.before two.before one.refused two.refused one.behind two.behind one.refusal two.refusal one.pass two.pass one.cause two.cause forests in
    let cause : IsRefusedFor s.wires.switches t two.refused one.refusal = subst (λ (fs : List EntryOf). IsRefusedFor s.wires.switches t fs one.refusal) es one.cause in
    let refusal = same_refusal s.wires.switches t two.refused one.refusal two.refusal cause two.cause in
    (refl, one.text_is ∙ ap (λ (fs : List EntryOf). refusal_line s fs (numbers_of s.wires.switches t fs) one.refusal) es ∙ ap (refusal_line s two.refused (numbers_of s.wires.switches t two.refused)) refusal ∙ sym two.text_is)
