use Rattle.std.proofs.Common.{◌≡◌, ◌∙◌, sym, ap, subst, refl, ℕ, ◌<◌, ◌+◌, List, [], ◌∷◌, ◌++◌, Option, Some, Bool, true, false, All, take, drop, suc, map, get_or, length, arith, codes, append-nil}
use Rattle.std.specs.List.{flat_map, list_all}
use Rattle.std.proofs.lemmas.List.Sums.{AllPass-from_list_all}
use Rattle.std.specs.Prelude.{filter, if◌then◌else◌, slice_index_or}
use Rattle.std.proofs.lemmas.List.{get_or_default, flat_map_more, take_all, take_more, take-append-drop, map-append}
use Rattle.std.proofs.lemmas.List.Elements.{All-push}
use Rattle.std.proofs.Math.Seq.{drop-cons}
use Rattle.net_graph.specs.Forest.{IsForest}
use Rattle.an_base.specs.Values.{EntryOf}
use Rattle.net_script.specs.Scripts.{ScriptOf}
use Rattle.an_base.specs.Rows.{RowOf}
use Rattle.net_graph.specs.declared.wiring.SwitchAt.{SwitchAt}
use Rattle.table_script.specs.Tables.{TablesOf}
use Rattle.dep_check.specs.declared.refusal.CheckRefusal.{CheckRefusal}
use Rattle.dep_check.specs.declared.refusal.CheckRefusal.TheVariants.{Cycle, NotJoined, IllegalExit, OutOfMemory}
use Rattle.dep_check.specs.Answer.{Passes, IsRefusal}
use Rattle.check_text.proofs.RunLemmas.{filter_alike}
use Rattle.check_text.specs.Runs.{AreRuns, IsRun, rows_in}
use Rattle.check_text.specs.Check.{numbers_of, members_of, is_row_of, renumbered, rows_of, ranks_text, refusal_line, Judges, IsRefusedFor, ArePassing, AllPass, IsRanked, Ranked, ranked_text, OneIsRefused}

-- a component that passes
pub judged_ok : (s : ScriptOf) (t : TablesOf) (es graph named : List EntryOf) (numbers numbered : List ℕ) (rows : List RowOf) (ranks : List (Option ℕ)) (old new : List ℕ) → graph ≡ es → named ≡ es → numbers ≡ numbers_of s.wires.switches t es → numbered ≡ numbers → rows ≡ rows_of s.wires.switches t es
    → Passes graph numbers rows ranks → new ≡ old ++ ranks_text s named numbered ranks → Judges s t es true old new
judged_ok s t es graph named numbers numbered rows ranks old new graph_is named_is numbers_is numbered_is rows_is passes text = (
  ranks,
  subst (λ (r : List RowOf). Passes es (numbers_of s.wires.switches t es) r ranks) rows_is (subst (λ (n : List ℕ). Passes es n rows ranks) numbers_is (subst (λ (g : List EntryOf). Passes g numbers rows ranks) graph_is passes)),
  text ∙ ap (λ (e : List EntryOf). old ++ ranks_text s e numbered ranks) named_is ∙ ap (λ (n : List ℕ). old ++ ranks_text s es n ranks) (numbered_is ∙ numbers_is),
)

-- one that is refused
refused_for : (s : ScriptOf) (t : TablesOf) (es : List EntryOf) (refusal : CheckRefusal) → (refusal ≡ OutOfMemory → ⊥) → IsRefusal es (numbers_of s.wires.switches t es) (rows_of s.wires.switches t es) refusal → IsRefusedFor s.wires.switches t es refusal
refused_for s t es (Cycle channels) told is = is
refused_for s t es (NotJoined from to at entry) told is = is
refused_for s t es (IllegalExit at entry to exit) told is = is
refused_for s t es OutOfMemory told is = told refl

pub judged_no : (s : ScriptOf) (t : TablesOf) (es graph named : List EntryOf) (numbers numbered : List ℕ) (rows : List RowOf) (refusal : CheckRefusal) (old new : List ℕ) → graph ≡ es → named ≡ es → numbers ≡ numbers_of s.wires.switches t es → numbered ≡ numbers → rows ≡ rows_of s.wires.switches t es
    → (refusal ≡ OutOfMemory → ⊥) → IsRefusal graph numbers rows refusal → new ≡ refusal_line s named numbered refusal → Judges s t es false old new
judged_no s t es graph named numbers numbered rows refusal old new graph_is named_is numbers_is numbered_is rows_is told is text = (
  refusal,
  refused_for s t es refusal told (subst (λ (r : List RowOf). IsRefusal es (numbers_of s.wires.switches t es) r refusal) rows_is (subst (λ (n : List ℕ). IsRefusal es n rows refusal) numbers_is (subst (λ (g : List EntryOf). IsRefusal g numbers rows refusal) graph_is is))),
  text ∙ ap (λ (e : List EntryOf). refusal_line s e numbered refusal) named_is ∙ ap (λ (n : List ℕ). refusal_line s es n refusal) (numbered_is ∙ numbers_is),
)

-- the numbers and the rows of the same members
pub numbers_same : (switches all : List SwitchAt) (t : TablesOf) (named es : List EntryOf) (numbers : List ℕ) → switches ≡ all → named ≡ es → numbers ≡ numbers_of switches t named → numbers ≡ numbers_of all t es
numbers_same switches all t named es numbers one two is = is ∙ ap (λ (w : List SwitchAt). numbers_of w t named) one ∙ ap (numbers_of all t) two

pub rows_same : (switches all : List SwitchAt) (t : TablesOf) (named es : List EntryOf) (rows : List RowOf) → switches ≡ all → named ≡ es → rows ≡ rows_of switches t named → rows ≡ rows_of all t es
rows_same switches all t named es rows one two is = is ∙ ap (λ (w : List SwitchAt). rows_of w t named) one ∙ ap (rows_of all t) two

-- the rows of members, if all are
pub all_rows : (switches all : List SwitchAt) (t : TablesOf) (named es : List EntryOf) (members : List Bool) (rows : List RowOf) → switches ≡ all → named ≡ es → members ≡ members_of switches named → list_all (is_row_of members) t.rows ≡ true → rows ≡ map (renumbered t) t.rows → rows ≡ rows_of all t es
all_rows switches all t named es members rows one two members_is each is =
    rows_same switches all t named es rows one two (is
    ∙ ap (map (renumbered t)) (filter_alike (is_row_of members) t.rows true (AllPass-from_list_all (is_row_of members) t.rows each))
    ∙ ap (λ (m : List Bool). map (renumbered t) (filter (is_row_of m) t.rows)) members_is)

-- the only component, if it passes
pub only_passes : (s : ScriptOf) (t : TablesOf) (es : List EntryOf) (old text new : List ℕ) → IsForest s.wires (es ∷ []) → old ≡ [] → Judges s t es true old text → new ≡ text ++ codes "ok\n" → AllPass s t new
only_passes s t es old text new forest none judged is =
    let part : Ranked = record { entries = es; ranks = judged.0 } in
    record {
      parts = part ∷ [];
      trees = forest;
      pass = All-push (IsRanked s.wires.switches t) [] part (λ k d low. absurd (omega arith)) judged.1;
      text_is = is ∙ ap (λ (u : List ℕ). u ++ codes "ok\n") (judged.2 ∙ ap (λ (u : List ℕ). u ++ ranked_text s t part) none ∙ sym (append-nil (ranked_text s t part)));
    }

-- one component more that passes
pub passing_more : (s : ScriptOf) (t : TablesOf) (forest : List (List EntryOf)) (i : ℕ) (es : List EntryOf) (ranks : List (Option ℕ)) (parts : List Ranked) (text new : List ℕ) → i < length forest → es ≡ get_or forest i es → ArePassing s.wires.switches t es ranks → map (λ p. p.entries) parts ≡ take i forest → All (IsRanked s.wires.switches t) parts → text ≡ flat_map (ranked_text s t) parts → new ≡ text ++ ranked_text s t (record { entries = es; ranks = ranks })
    → (all : List Ranked) × (map (λ p. p.entries) all ≡ take (i + 1) forest) × All (IsRanked s.wires.switches t) all × (new ≡ flat_map (ranked_text s t) all)
passing_more s t forest i es ranks parts text new low at passes so_far each text_is one =
    let part : Ranked = record { entries = es; ranks = ranks } in
    let entries : Ranked → List EntryOf = λ p. p.entries in (
      parts ++ part ∷ [],
      map-append entries parts (part ∷ []) ∙ ap (λ (f : List (List EntryOf)). f ++ es ∷ []) so_far ∙ ap (λ (e : List EntryOf). take i forest ++ e ∷ []) at ∙ sym (take_more forest i es low),
      All-push (IsRanked s.wires.switches t) parts part each passes,
      one ∙ ap (λ (u : List ℕ). u ++ ranked_text s t part) text_is ∙ flat_map_more (ranked_text s t) [] parts part,
    )

-- a component that is refused behind those that pass
pub refused_at : (s : ScriptOf) (t : TablesOf) (forest : List (List EntryOf)) (i : ℕ) (es : List EntryOf) (parts : List Ranked) (old new : List ℕ) → IsForest s.wires forest → i < length forest → es ≡ get_or forest i es → map (λ p. p.entries) parts ≡ take i forest → All (IsRanked s.wires.switches t) parts → Judges s t es false old new → OneIsRefused s t new
refused_at s t forest i es parts old new trees low at so_far each judged =
    let split : forest ≡ take i forest ++ (es ∷ drop (suc i) forest) = sym (take-append-drop i forest) ∙ ap (λ (l : List (List EntryOf)). take i forest ++ l) (drop-cons forest i es low ∙ ap (λ (e : List EntryOf). e ∷ drop (suc i) forest) (sym at)) in
    record {
      before = parts;
      refused = es;
      behind = drop (suc i) forest;
      trees = subst (IsForest s.wires) (split ∙ ap (λ (l : List (List EntryOf)). l ++ (es ∷ drop (suc i) forest)) (sym so_far)) trees;
      pass = each;
      refusal = judged.0;
      cause = judged.1;
      text_is = judged.2;
    }

-- whether the rows of a run are a member's
pub run_of : (members : List Bool) (run : List RowOf) (row : RowOf) (b : Bool) → IsRun run → 0 < length run → row ≡ get_or run 0 row → is_row_of members row ≡ b → (if b then run else []) ≡ filter (is_row_of members) run
run_of members run row b is some first told =
    filter_alike (is_row_of members) run b (λ k d low. ap (λ (at : ℕ). slice_index_or members at false) (is.1 k d low ∙ sym (is.1 0 row some) ∙ ap (λ (r : RowOf). r.at) (sym first)) ∙ told)

-- the rows of all runs
pub rows_of_runs : (switches : List SwitchAt) (t : TablesOf) (es : List EntryOf) (runs : List (List RowOf)) (members : List Bool) (i : ℕ) (rows : List RowOf) → AreRuns t.rows runs → members ≡ members_of switches es → i ≡ length runs → rows ≡ map (renumbered t) (filter (is_row_of members) (rows_in (take i runs))) → rows ≡ rows_of switches t es
rows_of_runs switches t es runs members i rows are members_is past is =
    is ∙ ap (λ (l : List (List RowOf)). map (renumbered t) (filter (is_row_of members) (rows_in l))) (take_all i runs (omega (arith, past))) ∙ ap (λ (l : List RowOf). map (renumbered t) (filter (is_row_of members) l)) are.all
    ∙ ap (λ (m : List Bool). map (renumbered t) (filter (is_row_of m) t.rows)) members_is
