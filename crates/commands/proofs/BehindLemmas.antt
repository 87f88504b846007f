-- The output of a run behind the network file that was run.
use Rattle.std.proofs.Common.{◌≡◌, ◌≢◌, ◌∙◌, sym, ap, refl, ℕ, ◌≤◌, ◌==◌, ◌&&◌, List, [], ◌∷◌, ◌++◌, append_assoc, length, map, not, Some, Bool, true, false, codes, eqb-true, All, arith}
use Rattle.std.specs.List.{filter, join_with_byte}
use Rattle.std.specs.Prelude.{nat_lt, slice_index_or}
use Rattle.std.specs.Str.{bytes_eq}
use Rattle.std.proofs.lemmas.Bool.{and_parts}
use Rattle.std.proofs.lemmas.Bool.Decides.{nat_tests}
use Rattle.std.proofs.lemmas.List.Elements.{All-cons, All-head, All-map, All-tail, All-weaker}
use Rattle.an_base.specs.declared.event.Event.{Event}
use Rattle.common_lines.specs.Lines.{lines_of, line_text, with_words, words_of}
use Rattle.common_lines.proofs.ChoiceLemmas.{word_is}
use Rattle.common_lines.proofs.SpellLemmas.{IsWord, fixed_word, line_bytes, line_words, lines_of-line, words_cons, words_nil}
use Rattle.net_script.specs.Forms.{Form, End, form_words, header_words}
use Rattle.net_script.specs.Scripts.{ScriptOf}
use Rattle.net_script.specs.Texts.{IsText}
use Rattle.net_script.proofs.FormOf.{one_form}
use Rattle.net_script.proofs.TextFormLemmas.{text_is_forms}
use Rattle.journal.specs.Events.{events_text, first_words, journal_text, last_words}
use Rattle.journal.specs.Texts.{IsJournal}
use Rattle.net_world.specs.World.{world_after}
use Rattle.replay.specs.Division.{after_end, from_words, has_words, is_end_line}
use Rattle.check_text.proofs.OwnTold.{lines_on}
use Rattle.autonet_call.specs.declared.status.Status.{Status}
use Rattle.autonet_call.specs.Answer.{Streams, IsAnswer, input_limit, refuses_nothing}
use Rattle.commands.specs.Complete.{gives_report_of, gives_text}
use Rattle.commands.specs.Replay.{IsScriptWith}
use Rattle.commands.specs.Reported.{IsReported, status_of_end}
use Rattle.commands.specs.Run.{IsRun}
use Rattle.commands.specs.Words.{IsReplayAnswer}
use Rattle.autonet_call.proofs.AllToldLemmas.{answered_as}
use Rattle.commands.proofs.CompleteLemmas.{legal_is_replayed}

-- THE LINES OF A SCRIPT

-- the one word is `end`
abbrev is_end : List (List ℕ) → Bool
is_end words = (length words == 1) && bytes_eq (slice_index_or words 0 []) (codes "end")

end_is : (words : List (List ℕ)) → is_end words ≡ true → words ≡ codes "end" ∷ []
end_is [] end = absurd (cc)
end_is (w ∷ []) end = ap (λ (v : List ℕ). v ∷ []) (word_is w (codes "end") end)
end_is (w ∷ v ∷ ws) end =
    let one = eqb-true (length (w ∷ v ∷ ws)) 1 (and_parts (length (w ∷ v ∷ ws) == 1) (bytes_eq w (codes "end")) end).0 in
    absurd (omega (arith, one))

-- of the words of a script's lines only those of the last are this
no_end : (form : Form) → form ≢ End → is_end (form_words form) ≡ false
no_end form other = go (is_end (form_words form)) refl where
  go : (b : Bool) → is_end (form_words form) ≡ b → b ≡ false
  go false is = refl
  go true is = absurd (other (one_form form End (end_is (form_words form) is)))

-- LINES BEHIND THE LAST OF A SCRIPT

-- lines before which no words stand: the first has words, if there is one
abbrev BeginWithWords : List (List ℕ) → Type 0
BeginWithWords more = from_words more ≡ more

kept : (w : List ℕ) (ws : List (List ℕ)) → not (length (w ∷ ws) == 0) ≡ true
kept w ws = grind (arith, nat_tests)

blank_line : (line : List ℕ) (lines : List (List ℕ)) → words_of line ≡ [] → with_words (line ∷ lines) ≡ with_words lines
blank_line line lines none = ap (λ (ws : List (List ℕ)). filter (λ words. not (length words == 0)) (ws ∷ map words_of lines)) none

word_line : (line : List ℕ) (lines : List (List ℕ)) (w : List ℕ) (ws : List (List ℕ)) → words_of line ≡ w ∷ ws → with_words (line ∷ lines) ≡ (w ∷ ws) ∷ with_words lines
word_line line lines w ws is = ap (λ (vs : List (List ℕ)). filter (λ words. not (length words == 0)) (vs ∷ map words_of lines)) is ∙ rw (kept w ws) refl

-- lines without words are passed over
past_blanks : (lines more : List (List ℕ)) → with_words lines ≡ [] → BeginWithWords more → from_words (lines ++ more) ≡ more
past_blanks [] more none begin = begin
past_blanks (line ∷ lines) more none begin = go (words_of line) refl (λ later. past_blanks lines more later begin) where
  go : (ws : List (List ℕ)) → words_of line ≡ ws → (with_words lines ≡ [] → from_words (lines ++ more) ≡ more) → from_words (line ∷ lines ++ more) ≡ more
  go [] is later = rw is (later (sym (blank_line line lines is) ∙ none))
  go (w ∷ ws) is later = let some : (w ∷ ws) ∷ with_words lines ≡ [] = sym (word_line line lines w ws is) ∙ none in absurd (cc)

-- behind the last line of a script stand the lines that follow
past_end : (lines more : List (List ℕ)) (rows : List (List (List ℕ))) → with_words lines ≡ rows ++ form_words End ∷ [] → All (λ words. is_end words ≡ false) rows → BeginWithWords more → after_end (lines ++ more) ≡ more
past_end [] more [] same others begin = absurd (cc)
past_end [] more (row ∷ rows) same others begin = absurd (cc)
past_end (line ∷ lines) more rows same others begin = go (words_of line) refl rows same others (λ rest is plain. past_end lines more rest is plain begin) where
  go : (ws : List (List ℕ)) → words_of line ≡ ws → (rows : List (List (List ℕ))) → with_words (line ∷ lines) ≡ rows ++ form_words End ∷ [] → All (λ words. is_end words ≡ false) rows
      → ((rest : List (List (List ℕ))) → with_words lines ≡ rest ++ form_words End ∷ [] → All (λ words. is_end words ≡ false) rest → after_end (lines ++ more) ≡ more) → after_end (line ∷ lines ++ more) ≡ more
  go [] is rows same others later =
      let plain : is_end_line line ≡ false = ap is_end is in
      rw plain (later rows (sym (blank_line line lines is) ∙ same) others)
  go (w ∷ ws) is [] same others later =
      let here : (w ∷ ws) ∷ with_words lines ≡ form_words End ∷ [] = sym (word_line line lines w ws is) ∙ same in
      let head : w ∷ ws ≡ form_words End = cc in
      let none : with_words lines ≡ [] = cc in
      let last : is_end_line line ≡ true = ap is_end (is ∙ head) in
      rw last (past_blanks lines more none begin)
  go (w ∷ ws) is (row ∷ rows) same others later =
      let here : (w ∷ ws) ∷ with_words lines ≡ row ∷ (rows ++ form_words End ∷ []) = sym (word_line line lines w ws is) ∙ same in
      let head : w ∷ ws ≡ row = cc in
      let rest : with_words lines ≡ rows ++ form_words End ∷ [] = cc in
      let plain : is_end_line line ≡ false = ap is_end (is ∙ head) ∙ All-head (λ words. is_end words ≡ false) row rows others in
      rw plain (later rows rest (All-tail (λ words. is_end words ≡ false) row rows others))

-- so the lines of a script are divided from those that follow
divided : (bytes text : List ℕ) (script : ScriptOf) → IsText bytes script → BeginWithWords (lines_of text) → after_end (lines_of bytes ++ lines_of text) ≡ lines_of text
divided bytes text script is begin =
    let (forms, of) = (text_is_forms bytes script).0 is in
    past_end (lines_of bytes) (lines_of text) (header_words ∷ map form_words forms) of.rows
    (All-cons (λ words. is_end words ≡ false) header_words (map form_words forms) refl
    (All-map (λ words. is_end words ≡ false) form_words forms (All-weaker (λ form. form ≢ End) (λ form. is_end (form_words form) ≡ false) no_end forms of.inner)))
    begin

-- A JOURNAL BEHIND A SCRIPT

first_are : All IsWord first_words
first_are = words_cons (codes "journal") (codes "1" ∷ []) (fixed_word (codes "journal") refl (omega arith) (omega arith)) (words_cons (codes "1") [] (fixed_word (codes "1") refl (omega arith) (omega arith)) words_nil)

first_has : has_words (join_with_byte 32 first_words) ≡ true
first_has = ap (λ (ws : List (List ℕ)). nat_lt 0 (length ws)) (line_words first_words (omega arith) first_are)

-- the first line of a journal has words
journal_begins : (script : ScriptOf) (bytes : List ℕ) (journal : List Event) → IsJournal script bytes journal → BeginWithWords (lines_of bytes)
unfolding journal_text
journal_begins script bytes journal is =
    let rest = (events_text script journal ++ line_text last_words) ++ is.after in
    let lines : lines_of bytes ≡ join_with_byte 32 first_words ∷ lines_of rest =
    ap lines_of (is.text ∙ append_assoc (line_text first_words) (events_text script journal ++ line_text last_words) is.after ∙ append_assoc (join_with_byte 32 first_words) (10 ∷ []) rest)
    ∙ lines_of-line (join_with_byte 32 first_words) rest (line_bytes first_words first_are) in
    rw lines (rw first_has refl)

-- the text of a script that ends in a line feed, and behind it a text that begins with a journal
pub script_with : (bytes text : List ℕ) (script : ScriptOf) (journal : List Event) → IsText (bytes ++ 10 ∷ []) script → IsJournal script text journal → IsScriptWith (bytes ++ 10 ∷ text) script text
script_with bytes text script journal is_text is_journal = record {
  first = bytes ++ 10 ∷ [];
  division = record {
    parts = sym (append_assoc bytes (10 ∷ []) text);
    after = sym (ap after_end (lines_on bytes text) ∙ divided (bytes ++ 10 ∷ []) text script is_text (journal_begins script text journal is_journal));
  };
  is_text = is_text;
}

-- A RUN IS REPLAYED

-- a journal has one report, and its end one status
one_report : (script : ScriptOf) (journal : List Event) (status other : Status) (text out : List ℕ) → IsReported script journal status text → IsReported script journal other out → (other ≡ status) × (out ≡ text)
one_report script journal status other text out one two =
    let ends : Some two.end ≡ Some one.end = sym two.is_report.legal.ends ∙ one.is_report.legal.ends in
    let same : two.end ≡ one.end = cc in (
      two.status_is ∙ ap (status_of_end script (world_after script journal).fabric.tick) same ∙ sym one.status_is,
      two.is_report.says ∙ sym one.is_report.says,
    )

-- so `replay` of a script with the output of its run behind it gives the report in that output
pub run_is_replayed : (answer : ℕ) (bytes text : List ℕ) (script : ScriptOf) (status : Status) (old new : Streams) (run : IsRun script status text) → IsText (bytes ++ 10 ∷ []) script → old.source.told ≡ Some (bytes ++ 10 ∷ text) → length (bytes ++ 10 ∷ text) ≤ input_limit → IsReplayAnswer old new answer → IsAnswer input_limit (gives_text status run.report) refuses_nothing old new answer
run_is_replayed answer bytes text script status old new run is_text told few is =
    let journal = run.journal in
    let is_journal : IsJournal script text journal = record { spelled = run.spelled; after = run.report; text = run.parts } in
    answered_as (gives_report_of script journal) (gives_text status run.report) refuses_nothing (bytes ++ 10 ∷ text) old new told
    (λ other out reported. one_report script journal status other run.report out run.reported reported)
    (λ other refused. refused)
    answer (legal_is_replayed (bytes ++ 10 ∷ text) text script journal run.reported.end (script_with bytes text script journal is_text is_journal) is_journal run.reported.is_report.legal answer old new told few is)
