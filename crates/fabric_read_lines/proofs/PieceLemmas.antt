-- Bytes that come in pieces: their lines, and what was read of them.
use Rattle.std.proofs.Common.{◌≡◌, ◌∙◌, sym, ap, subst, refl, ℕ, ◌+◌, ◌-◌, ◌<◌, ◌≤◌, inl, inr, List, [], ◌∷◌, ◌++◌, append_assoc, append-nil, arith, length, length-append, length-take, length-drop, get_or, take, drop, drop-cons, add-one, Some, None, true, false, eqb, All, Option, cond, zero-add}
use Rattle.std.specs.List.{slice_split, position, copy_within}
use Rattle.std.specs.Str.Lines.{lines_of_parts, strip_carriage_return}
use Rattle.std.proofs.lemmas.Bool.Decides.{Decides-eqb}
use Rattle.std.proofs.lemmas.Bool.{cases_lt}
use Rattle.std.proofs.lemmas.List.{take-append-drop, get_or_append_left, get_or-take, nil_from_length, drop-take}
use Rattle.std.proofs.lemmas.List.Edits.{take-paste}
use Rattle.std.proofs.lemmas.List.Elements.{All-from_get_or}
use Rattle.std.proofs.lemmas.List.Quantifiers.{position-Some}
use Rattle.std.proofs.lemmas.List.Splits.{slice_split_at}
use Rattle.common_lines.specs.Lines.{lines_of}
use Rattle.common_lines.specs.Chains.{LeadsBy, IsFaultOf}
use Rattle.common_lines.proofs.LineLemmas.{parts_some, first_of_parts, position_none, line_at_feed, line_without_feed, no_lines}
use Rattle.common_lines.proofs.ChainLaws.{LeadsBy-push}
use Rattle.fabric_read_lines.specs.Texts.{IsFaultOfAll}
use Rattle.fabric_read_lines.specs.Pieces.{AreLinesOf, IsReadTo, AreAllRead, is_feed}

-- bytes up to a line feed are a line, whatever follows
line_then : (l rest : List ℕ) → All (λ c. is_feed c ≡ false) l → lines_of (l ++ 10 ∷ rest) ≡ strip_carriage_return l ∷ lines_of rest
unfolding lines_of
line_then l rest free =
    ap lines_of_parts (slice_split_at is_feed l 10 rest free refl) ∙ first_of_parts l (slice_split is_feed rest) (parts_some rest)

-- a cut at the first line feed
parts_at : (bytes : List ℕ) (i : ℕ) → position is_feed bytes ≡ Some i → bytes ≡ take i bytes ++ 10 ∷ drop (i + 1) bytes
parts_at bytes i at =
    let here = position-Some is_feed bytes i 0 at in
    let within : i < length bytes = here.0 in
    let feed : get_or bytes i 0 ≡ 10 = (Decides-eqb (get_or bytes i 0) 10).0 here.1 in
    let rest : drop i bytes ≡ 10 ∷ drop (i + 1) bytes = rw (add-one, drop-cons bytes i 0 within, feed) refl in
    sym (take-append-drop i bytes) ∙ ap (λ (xs : List ℕ). take i bytes ++ xs) rest

free_before : (bytes : List ℕ) (i : ℕ) → position is_feed bytes ≡ Some i → All (λ c. is_feed c ≡ false) (take i bytes)
free_before bytes i at =
    let here = position-Some is_feed bytes i 0 at in
    All-from_get_or (λ c. is_feed c ≡ false) (take i bytes) 0 (λ k low. let below : k < i = omega (arith, length-take i bytes) in ap is_feed (get_or-take i bytes k 0 below) ∙ here.2 k below)

-- a front with one more line
front_more : (front l : List ℕ) (lines : List (List ℕ)) → AreLinesOf lines front → All (λ c. is_feed c ≡ false) l → AreLinesOf (lines ++ strip_carriage_return l ∷ []) (front ++ (l ++ 10 ∷ []))
front_more front l lines whole free more =
    ap lines_of (append_assoc front (l ++ 10 ∷ []) more ∙ ap (λ (xs : List ℕ). front ++ xs) (append_assoc l (10 ∷ []) more))
    ∙ whole (l ++ 10 ∷ more)
    ∙ ap (λ (ls : List (List ℕ)). lines ++ ls) (line_then l more free)
    ∙ sym (append_assoc lines (strip_carriage_return l ∷ []) (lines_of more))

-- a long line
strip_long : (xs : List ℕ) (n : ℕ) → n + 1 < length xs → n < length (strip_carriage_return xs)
strip_long xs n long = elim (eqb (get_or xs (length xs - 1) 0) 13) as (λ b. n < length (cond b (take (length xs - 1) xs) xs)) [
  | true ↦ omega (arith, length-take (length xs - 1) xs)
  | false ↦ omega arith
]

meets : {a b : ℕ} → a ≡ b → is_feed a ≡ true → is_feed b ≡ false → ⊥
meets same feed other = cc

past_rest : (rest more : List ℕ) (j : ℕ) → position is_feed rest ≡ None → position is_feed (rest ++ more) ≡ Some j → length rest ≤ j
past_rest rest more j none is = elim (cases_lt j (length rest)) [
  | inl low ↦ absurd (meets (get_or_append_left rest more 0 j low) ((position-Some is_feed (rest ++ more) j 0 is).1) (position_none is_feed rest 0 none j low))
  | inr high ↦ high
]

long_by : (rest more : List ℕ) (n : ℕ) (p : Option ℕ) → position is_feed rest ≡ None → n + 1 < length rest → position is_feed (rest ++ more) ≡ p → (here : List ℕ) × (after : List (List ℕ)) × (lines_of (rest ++ more) ≡ here ∷ after) × (n < length here)
long_by rest more n None none long is =
    let whole = length-append rest more in
    (rest ++ more, lines_of [], line_without_feed (rest ++ more) [] is (omega (arith, whole)) refl, omega (arith, whole))
long_by rest more n (Some j) none long is =
    let whole = length-append rest more in (
      strip_carriage_return (take j (rest ++ more)),
      lines_of (drop (j + 1) (rest ++ more)),
      line_at_feed (rest ++ more) j is,
      strip_long (take j (rest ++ more)) n (omega (arith, length-take j (rest ++ more), whole, past_rest rest more j none is)),
    )

first_long : (rest more : List ℕ) (n : ℕ) → position is_feed rest ≡ None → n + 1 < length rest → (here : List ℕ) × (after : List (List ℕ)) × (lines_of (rest ++ more) ≡ here ∷ after) × (n < length here)
first_long rest more n none long = long_by rest more n (position is_feed (rest ++ more)) none long refl

-- what is left is moved to the front
pub moved : (held : List ℕ) (from count : ℕ) → from ≤ count → count ≤ length held → take (count - from) (copy_within held from count 0) ≡ drop from (take count held)
moved held from count low within =
    let left : count - from ≤ length (drop from held) = omega (arith, length-drop from held) in
    let same : from + (count - from) ≡ count = omega arith in
    ap (λ (n : ℕ). take n (copy_within held from count 0)) (sym (zero-add (count - from)))
    ∙ take-paste held 0 (drop from held) (count - from) (omega arith) left
    ∙ sym (drop-take from (count - from) held)
    ∙ ap (λ (n : ℕ). drop from (take n held)) same

module _ {State : Type 0} (adds : State → List ℕ → State → Type 0) where
  -- nothing was read
  pub read_none : (start : State) → IsReadTo adds start [] [] start 1
  read_none start = record { front = []; lines = []; parts = refl; whole = λ more. refl; good = refl; number = refl }

  -- more bytes came
  pub read_more : (start : State) (bytes rest piece : List ℕ) (told : State) (line : ℕ) → IsReadTo adds start bytes rest told line → IsReadTo adds start (bytes ++ piece) (rest ++ piece) told line
  read_more start bytes rest piece told line read = record {
    front = read.front;
    lines = read.lines;
    parts = ap (λ (xs : List ℕ). xs ++ piece) read.parts ∙ append_assoc read.front rest piece;
    whole = read.whole;
    good = read.good;
    number = read.number;
  }

  -- one line more was read
  pub read_next : (start : State) (bytes rest : List ℕ) (told after : State) (line i : ℕ) → IsReadTo adds start bytes rest told line → position is_feed rest ≡ Some i → adds told (strip_carriage_return (take i rest)) after → IsReadTo adds start bytes (drop (i + 1) rest) after (line + 1)
  read_next start bytes rest told after line i read at step =
      let l = take i rest in
      let here = strip_carriage_return l in
      let d = drop (i + 1) rest in
      record {
        front = read.front ++ (l ++ 10 ∷ []);
        lines = read.lines ++ here ∷ [];
        parts = read.parts ∙ ap (λ (xs : List ℕ). read.front ++ xs) (parts_at rest i at ∙ sym (append_assoc l (10 ∷ []) d)) ∙ sym (append_assoc read.front (l ++ 10 ∷ []) d);
        whole = front_more read.front l read.lines read.whole (free_before rest i at);
        good = LeadsBy-push adds start read.lines told here after read.good step;
        number = omega (arith, read.number, length-append read.lines (here ∷ []));
      }

  -- nothing is left
  pub all_read : (start : State) (bytes rest : List ℕ) (told : State) (line : ℕ) → IsReadTo adds start bytes rest told line → length rest ≡ 0 → AreAllRead adds start bytes told line
  all_read start bytes rest told line read none =
      let parts : bytes ≡ read.front ++ [] = read.parts ∙ ap (λ (xs : List ℕ). read.front ++ xs) (nil_from_length rest none) in
      let all : lines_of bytes ≡ read.lines = ap lines_of parts ∙ read.whole [] ∙ ap (λ (ls : List (List ℕ)). read.lines ++ ls) (no_lines [] refl) ∙ append-nil read.lines in
      record {
        good = subst (λ (ls : List (List ℕ)). LeadsBy adds start ls told) (sym all) read.good;
        number = omega (arith, read.number, ap length all);
      }

  -- the last line has no line feed
  pub last_lines : (start : State) (bytes rest : List ℕ) (told : State) (line : ℕ) → (read : IsReadTo adds start bytes rest told line) → position is_feed rest ≡ None → 0 < length rest → lines_of bytes ≡ read.lines ++ rest ∷ []
  last_lines start bytes rest told line read none some =
      ap lines_of read.parts ∙ read.whole rest
      ∙ ap (λ (ls : List (List ℕ)). read.lines ++ ls) (line_without_feed rest [] none some refl ∙ ap (λ (ls : List (List ℕ)). rest ∷ ls) (no_lines [] refl))

  pub last_read : (start : State) (bytes rest : List ℕ) (told after : State) (line : ℕ) → IsReadTo adds start bytes rest told line → position is_feed rest ≡ None → 0 < length rest → adds told rest after → AreAllRead adds start bytes after (line + 1)
  last_read start bytes rest told after line read none some step =
      let all = last_lines start bytes rest told line read none some in
      record {
        good = subst (λ (ls : List (List ℕ)). LeadsBy adds start ls after) (sym all) (LeadsBy-push adds start read.lines told rest after read.good step);
        number = omega (arith, read.number, ap length all, length-append read.lines (rest ∷ []));
      }

module _ {State Cause : Type 0} (adds : State → List ℕ → State → Type 0) (faulty : State → List ℕ → Cause → Type 0) (IsEnded : State → Type 0) (no_end : Cause) where
  -- the line that begins the rest is faulty
  fault_here : (start : State) (bytes rest : List ℕ) (told : State) (line : ℕ) (cause : Cause) → IsReadTo adds start bytes rest told line → (more here : List ℕ) (after : List (List ℕ)) → lines_of (rest ++ more) ≡ here ∷ after → faulty told here cause → IsFaultOf start adds faulty IsEnded no_end (bytes ++ more) line cause
  fault_here start bytes rest told line cause read more here after parts wrong = inl (record {
    before = read.lines;
    here = here;
    after = after;
    parts = ap lines_of (ap (λ (xs : List ℕ). xs ++ more) read.parts ∙ append_assoc read.front rest more) ∙ read.whole (rest ++ more) ∙ ap (λ (ls : List (List ℕ)). read.lines ++ ls) parts;
    said = told;
    good = read.good;
    number = read.number;
    faulty_here = wrong;
  })

  pub fault_next : (start : State) (bytes rest : List ℕ) (told : State) (line i : ℕ) (cause : Cause) → IsReadTo adds start bytes rest told line → position is_feed rest ≡ Some i → faulty told (strip_carriage_return (take i rest)) cause → IsFaultOfAll adds faulty IsEnded no_end start bytes line cause
  fault_next start bytes rest told line i cause read at wrong more =
      let l = take i rest in
      let d = drop (i + 1) rest in
      fault_here start bytes rest told line cause read more (strip_carriage_return l) (lines_of (d ++ more))
      (ap lines_of (ap (λ (xs : List ℕ). xs ++ more) (parts_at rest i at) ∙ append_assoc l (10 ∷ d) more) ∙ line_then l (d ++ more) (free_before rest i at)) wrong

  pub too_long : (start : State) (bytes rest : List ℕ) (told : State) (line : ℕ) (long : Cause) → ((here : List ℕ) → 4096 < length here → faulty told here long) → IsReadTo adds start bytes rest told line → position is_feed rest ≡ None → 4097 < length rest → IsFaultOfAll adds faulty IsEnded no_end start bytes line long
  too_long start bytes rest told line long wrong read none many more =
      let first = first_long rest more 4096 none (omega arith) in
      fault_here start bytes rest told line long read more first.0 first.1 first.2 (wrong first.0 first.3)

  -- the last line is faulty
  pub last_faulty : (start : State) (bytes rest : List ℕ) (told : State) (line : ℕ) (cause : Cause) → IsReadTo adds start bytes rest told line → position is_feed rest ≡ None → 0 < length rest → faulty told rest cause → IsFaultOf start adds faulty IsEnded no_end bytes line cause
  last_faulty start bytes rest told line cause read none some wrong =
      inl (record { before = read.lines; here = rest; after = []; parts = last_lines adds start bytes rest told line read none some; said = told; good = read.good; number = read.number; faulty_here = wrong })

  -- all lines are good, and the text may not end there
  pub unended : (start : State) (bytes : List ℕ) (told : State) (line : ℕ) → AreAllRead adds start bytes told line → ¬ IsEnded told → IsFaultOf start adds faulty IsEnded no_end bytes line no_end
  unended start bytes told line read not =
      inr (record { said = told; good = read.good; unended = not; number = read.number; cause_is = refl })
