-- A line of a comment behind the text of a script.
use Rattle.std.proofs.Common.{◌≡◌, ◌∙◌, sym, ap, refl, subst, ℕ, ◌-◌, ◌≤◌, ◌==◌, List, [], ◌∷◌, ◌++◌, append_assoc, append-nil, length, get_or, map, true, false, leb, All, arith}
use Rattle.std.specs.List.{join_with_byte, slice_split}
use Rattle.std.specs.Str.Lines.{lines_of_parts, strip_carriage_return}
use Rattle.std.proofs.lemmas.Bool.Decides.{nat_tests}
use Rattle.std.proofs.lemmas.List.Elements.{All-cons, All-weaker}
use Rattle.std.proofs.lemmas.List.Splits.{slice_split_at}
use Rattle.common_lines.specs.Grammar.{AddsRowBy}
use Rattle.common_lines.specs.Lines.{is_line_byte, lines_of, lines_text, words_of}
use Rattle.common_lines.proofs.LineLemmas.{is_feed, first_of_parts, parts_some}
use Rattle.common_lines.proofs.SpellLemmas.{test_from_all}
use Rattle.net_script.specs.declared.draft.Draft.{Draft}
use Rattle.net_script.specs.Drafts.{start}
use Rattle.net_script.specs.Forms.{form_words, header_words}
use Rattle.net_script.specs.Scripts.{ScriptOf}
use Rattle.net_script.specs.Texts.{Adds, AddsWords, IsText, Leads}
use Rattle.script_text.specs.Canonical.{canonical_text, forms_of}
use Rattle.net_gen.specs.Summary.{IsComment}
use Rattle.check_text.proofs.OwnTold.{LeadsBy-append, lines_on}

-- THE LINE

-- a byte of a comment
abbrev IsShown : ℕ → Type 0
IsShown byte = (32 ≤ byte) × (byte ≤ 126)

line_byte : (c : ℕ) → IsShown c → is_line_byte c ≡ true
line_byte c is = let h = is.0 in let k = is.1 in grind (arith, nat_tests)

not_feed : (c : ℕ) → IsShown c → is_feed c ≡ false
not_feed c is = let h = is.0 in grind (arith, nat_tests)

not_return : (c : ℕ) → IsShown c → (c == 13) ≡ false
not_return c is = let h = is.0 in grind (arith, nat_tests)

-- a number sign before shown bytes
all_shown : (words : List ℕ) → All IsShown words → All IsShown (35 ∷ words)
all_shown words are = All-cons IsShown 35 words (omega arith, omega arith) are

shown_stays : (words : List ℕ) → All IsShown words → strip_carriage_return (35 ∷ words) ≡ 35 ∷ words
shown_stays words are = rw (not_return (get_or (35 ∷ words) (length (35 ∷ words) - 1) 0) (all_shown words are (length (35 ∷ words) - 1) 0 (omega arith))) refl

-- they are one line
one_line : (words : List ℕ) → All IsShown words → lines_of (35 ∷ words ++ 10 ∷ []) ≡ (35 ∷ words) ∷ []
unfolding lines_of
one_line words are =
    ap lines_of_parts (slice_split_at is_feed (35 ∷ words) 10 [] (All-weaker IsShown (λ c. is_feed c ≡ false) not_feed (35 ∷ words) (all_shown words are)) refl)
    ∙ first_of_parts (35 ∷ words) (slice_split is_feed []) (parts_some [])
    ∙ ap (λ (l : List ℕ). l ∷ []) (shown_stays words are)

-- without words, in which nothing is wrong
no_words : (words : List ℕ) → words_of (35 ∷ words) ≡ []
unfolding words_of
no_words words = refl

adds_nothing : (draft : Draft) (words : List ℕ) → All IsShown words → length words ≤ 199 → Adds draft (35 ∷ words) draft
adds_nothing draft words are few =
    let short : leb (length (35 ∷ words)) 200 ≡ true = grind (arith, nat_tests) in
    record {
      bytes = rw (short, test_from_all is_line_byte IsShown line_byte (35 ∷ words) (all_shown words are)) refl;
      row = subst (λ (ws : List (List ℕ)). AddsRowBy (λ d. AddsWords d.part d) draft ws draft) (sym (no_words words)) refl;
    }

-- BEHIND A TEXT

-- bytes that end in a line feed
abbrev EndsInFeed : List ℕ → Type 0
EndsInFeed text = (bytes : List ℕ) × (text ≡ bytes ++ 10 ∷ [])

lines_end : (row : List (List ℕ)) (rows : List (List (List ℕ))) → EndsInFeed (lines_text (row ∷ rows))
lines_end row [] = (join_with_byte 32 row, append-nil (join_with_byte 32 row ++ 10 ∷ []))
lines_end row (next ∷ rows) =
    let (bytes, is) = lines_end next rows in
    let front = join_with_byte 32 row ++ 10 ∷ [] in
    (front ++ bytes, ap (λ (more : List ℕ). front ++ more) is ∙ sym (append_assoc front bytes (10 ∷ [])))

canonical_ends : (script : ScriptOf) → EndsInFeed (canonical_text script)
unfolding canonical_text
canonical_ends script = lines_end header_words (map form_words (forms_of script))

-- a text with a comment behind it is one of the same script
behind : (bytes comment : List ℕ) (script : ScriptOf) → IsText (bytes ++ 10 ∷ []) script → IsComment comment → IsText ((bytes ++ 10 ∷ []) ++ comment) script
behind bytes comment script text is =
    let line = 35 ∷ is.words in
    let lines : lines_of ((bytes ++ 10 ∷ []) ++ comment) ≡ lines_of (bytes ++ 10 ∷ []) ++ line ∷ [] =
    ap lines_of (append_assoc bytes (10 ∷ []) comment) ∙ lines_on bytes comment
    ∙ ap (λ (ls : List (List ℕ)). lines_of (bytes ++ 10 ∷ []) ++ ls) (ap lines_of is.parts ∙ one_line is.words is.printed) in
    record {
      last = text.last;
      good = subst (λ (ls : List (List ℕ)). Leads start ls text.last) (sym lines)
          (LeadsBy-append Adds start (lines_of (bytes ++ 10 ∷ [])) (line ∷ []) text.last text.last text.good
          (text.last, adds_nothing text.last is.words is.printed is.few, refl));
      ended = text.ended;
      says = text.says;
    }

pub comment_behind : (script : ScriptOf) (text comment all : List ℕ) → text ≡ canonical_text script → IsText text script → IsComment comment → all ≡ text ++ comment → IsText all script
comment_behind script text comment all canonical is_text is more =
    let (bytes, ends) = canonical_ends script in
    let same : text ≡ bytes ++ 10 ∷ [] = canonical ∙ ends in
    subst (λ (t : List ℕ). IsText t script) (sym (more ∙ ap (λ (t : List ℕ). t ++ comment) same))
    (behind bytes comment script (subst (λ (t : List ℕ). IsText t script) same is_text) is)
