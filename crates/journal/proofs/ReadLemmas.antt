use Rattle.std.proofs.Common.{◌≡◌, ◌≢◌, ◌∙◌, sym, ap, subst, refl, ℕ, ◌+◌, List, [], ◌∷◌, ◌++◌, append_assoc, append-nil, map, arith, codes, Result, Ok, Err, inl, inr, Bool, true, false, if◌then◌else◌}
use Rattle.std.specs.List.{flat_map, join_with_byte}
use Rattle.std.specs.Str.{bytes_eq}
use Rattle.std.proofs.lemmas.Slice.Eq.{bytes_eq-Decides}
use Rattle.std.proofs.lemmas.List.Splits.{join_with_byte-slice_split}
use Rattle.std.proofs.lemmas.Grind.{flat_map-append}
use Rattle.std.proofs.lemmas.List.{map_push, length_push}
use Rattle.std.proofs.lemmas.List.Elements.{All-push}
use Rattle.an_base.specs.declared.event.Event.{Event}
use Rattle.common_lines.specs.Lines.{line_text}
use Rattle.net_script.specs.Scripts.{ScriptOf}
use Rattle.journal.specs.Events.{CanSpell, event_words, first_words, last_words, events_text, journal_text}
use Rattle.journal_cause.specs.declared.cause.JournalCause.{JournalCause}
use Rattle.journal.specs.Lines.{Line, line_words}
use Rattle.journal.specs.Steps.{JournalStop, ReadsForm, ReadsWords, ReadsLine, IsRefusal}
use Rattle.common_lines.specs.Stops.{refusal_at}
use Rattle.common_lines.specs.declared.stop.Stop.TheVariants.{Fault, OutOfMemory}
use Rattle.journal_cause.specs.declared.cause.JournalCause.TheVariants.{UnknownWord}
use Rattle.journal.specs.Words.{words_of, is_shaped}
use Rattle.journal.specs.Texts.{IsFirstLine, IsJournal, AreWrong, IsWrongLine}
use Rattle.journal.specs.Reading.{IsRead}

-- the text of events with one more
pub events_push : (s : ScriptOf) (events : List Event) (e : Event) → events_text s (events ++ e ∷ []) ≡ events_text s events ++ line_text (event_words s e)
events_push s events e =
    ap (flat_map line_text) (map_push (event_words s) events e)
    ∙ flat_map-append line_text (map (event_words s) events) (event_words s e ∷ [])
    ∙ ap (λ (b : List ℕ). events_text s events ++ b) (append-nil (line_text (event_words s e)))

-- one more line was read
pub read_more : (s : ScriptOf) (bytes rest first after : List ℕ) (events : List Event) (e : Event) (line : ℕ) → IsRead s bytes rest events line → IsFirstLine rest first after → CanSpell s e → first ≡ join_with_byte 32 (event_words s e) → IsRead s bytes after (events ++ e ∷ []) (line + 1)
read_more s bytes rest first after events e line read next can is =
    let here : rest ≡ line_text (event_words s e) ++ after = next.parts ∙ ap (λ (l : List ℕ). l ++ 10 ∷ after) is ∙ sym (append_assoc (join_with_byte 32 (event_words s e)) (10 ∷ []) after) in
    record {
      spelled = All-push (CanSpell s) events e read.spelled can;
      text = read.text ∙ ap (λ (b : List ℕ). line_text first_words ++ b) (ap (λ (b : List ℕ). events_text s events ++ b) here ∙ sym (append_assoc (events_text s events) (line_text (event_words s e)) after) ∙ ap (λ (b : List ℕ). b ++ after) (sym (events_push s events e)));
      number = omega (arith, read.number, length_push events e);
    }

-- the last line was read
pub read_end : (s : ScriptOf) (bytes rest line after : List ℕ) (events : List Event) (number : ℕ) → IsRead s bytes rest events number → IsFirstLine rest line after → line ≡ codes "end" → IsJournal s bytes events
unfolding journal_text
read_end s bytes rest line after events number read next is = record {
  spelled = read.spelled;
  after = after;
  text =
      read.text
      ∙ ap (λ (b : List ℕ). line_text first_words ++ (events_text s events ++ b)) (next.parts ∙ ap (λ (l : List ℕ). l ++ 10 ∷ after) is)
      ∙ ap (λ (b : List ℕ). line_text first_words ++ b) (sym (append_assoc (events_text s events) (line_text last_words) after))
      ∙ sym (append_assoc (line_text first_words) (events_text s events ++ line_text last_words) after);
}

-- the words of a form that was read
pub form_step : (r : Result Event JournalCause) (s : ScriptOf) (form : Line) (words : List (List ℕ)) → words ≡ line_words form → ReadsForm s form r → ReadsWords s words r
form_step (Ok e) s form words is read = (read.0, is ∙ read.1)
form_step (Err c) s form words is read = inr (record { form = form; line = is; wrong = read })

-- the parts of a text
pub text_parts : (s : ScriptOf) (events shown : List Event) (none first more all : List ℕ) → none ≡ [] → first ≡ none ++ line_text first_words → shown ≡ events → more ≡ first ++ events_text s shown → all ≡ more ++ line_text last_words → all ≡ journal_text s events
unfolding journal_text
text_parts s events shown none first more all nothing e0 same e1 e2 =
    e2
    ∙ ap (λ (b : List ℕ). b ++ line_text last_words) (e1 ∙ ap (λ (es : List Event). first ++ events_text s es) same ∙ ap (λ (b : List ℕ). b ++ events_text s events) (e0 ∙ ap (λ (b : List ℕ). b ++ line_text first_words) nothing))
    ∙ append_assoc (line_text first_words) (events_text s events) (line_text last_words)

-- a line is its words, joined
pub line_joined : (line : List ℕ) (ws row : List (List ℕ)) → ws ≡ words_of line → ws ≡ row → line ≡ join_with_byte 32 row
unfolding words_of
line_joined line ws row cut same = sym (join_with_byte-slice_split 32 line) ∙ ap (join_with_byte 32) (sym cut ∙ same)

-- slices that do not compare alike are two
pub differing : (xs ys zs : List ℕ) (b : Bool) → b ≡ bytes_eq xs ys → b ≡ false → ys ≡ zs → xs ≢ zs
differing xs ys zs b test other same alike = let yes : bytes_eq xs ys ≡ true = (bytes_eq-Decides xs ys).1 (alike ∙ sym same) in absurd (cc)

-- a line that was refused
pub refused : (s : ScriptOf) (bytes rest first after : List ℕ) (events : List Event) (line : ℕ) (stop : JournalStop) → IsRead s bytes rest events line → IsFirstLine rest first after → first ≢ codes "end" → ReadsLine s first (Err stop) → IsRefusal s bytes (refusal_at line stop)
refused s bytes rest first after events line (Fault c) read next not_last wrong = inr (inr (record {
  events = events;
  spelled = read.spelled;
  rest = rest;
  parts = read.text;
  number = read.number;
  wrong = inr (inr (record { line = first; after = after; first = next; not_last = not_last; wrong = wrong }));
}))
refused s bytes rest first after events line OutOfMemory read next not_last wrong = tt

-- a line is wrong by what is wrong with its words, where it has the shape of a line
pub wrong_by : (s : ScriptOf) (line : List ℕ) (ws : List (List ℕ)) (cause found : JournalCause) → AreWrong s ws cause → ws ≡ words_of line → found ≡ (if is_shaped line then cause else UnknownWord) → IsWrongLine s line found
wrong_by s line ws cause found wrong cut is = by (is_shaped line) refl
  where
    by : (shaped : Bool) → is_shaped line ≡ shaped → IsWrongLine s line found
    by true fits =
        inr (fits, subst (λ (c : JournalCause). AreWrong s (words_of line) c) (sym (is ∙ ap (λ (b : Bool). if b then cause else UnknownWord) fits)) (subst (λ (words : List (List ℕ)). AreWrong s words cause) cut wrong))
    by false fails = inl (fails, is ∙ ap (λ (b : Bool). if b then cause else UnknownWord) fails)
