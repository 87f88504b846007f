use Rattle.std.proofs.Common.{◌≡◌, ◌≢◌, ◌∙◌, sym, ap, refl, subst, ℕ, ◌-◌, ◌<◌, ◌≤◌, ◌^◌, inl, inr, List, [], ◌∷◌, ◌++◌, append_assoc, length, length-append, get_or, Option, Some, None, Bool, true, false, ◌&&◌, leb, is_some, All, arith, codes}
use Rattle.std.specs.Option.{option_or}
use Rattle.std.specs.Fmt.{decimal}
use Rattle.std.specs.List.{join_with_byte, list_all}
use Rattle.std.proofs.lemmas.Bool.Decides.{nat_tests}
use Rattle.std.proofs.lemmas.List.{get_or_at}
use Rattle.std.proofs.lemmas.List.Elements.{All-head, All-tail}
use Rattle.an_base.specs.declared.event.Event.{Event}
use Rattle.an_base.specs.declared.event.Event.TheVariants.{Tick, Clock, Take, Handle, Load, Fail, Repair, Lose, Again, Swap, Noise, Send, Move, Restart}
use Rattle.common_lines.specs.Lines.{line_text}
use Rattle.net_names.specs.Names.{place_of}
use Rattle.net_script.specs.Commands.{IsPort}
use Rattle.net_script.specs.Scripts.{ScriptOf, IsScript}
use Rattle.common_lines.proofs.SpellLemmas.{IsLineByte, IsWord, decimal_good, line_bytes, line_short, nonempty, test_from_all}
use Rattle.journal_cause.specs.declared.cause.JournalCause.{JournalCause}
use Rattle.journal_cause.specs.declared.cause.JournalCause.TheVariants.{UnknownWord, BadNumber, NoSuchName}
use Rattle.journal.specs.Words.{words_of, is_shaped, is_line_byte, has_words}
use Rattle.common_lines.specs.Faults.{unless}
use Rattle.common_lines.proofs.FaultLemmas.{first_good}
use Rattle.common_lines.proofs.GrammarLaws.{form_one_cause}
use Rattle.journal.specs.Lines.{Line, line_words}
use Rattle.journal.specs.Events.{CanSpell, IsCount, event_line, event_words, switch_name, host_name, first_words, last_words, events_text, journal_text}
use Rattle.journal.specs.Rules.{name_cause, number_cause, line_cause}
use Rattle.journal.specs.Texts.{IsJournal, IsFault, IsFaultyRest, IsWrongLine, AreWrong}
use Rattle.journal.proofs.JournalLemmas.{form_words, switch_found, host_found, one_line, not_last, words_are, cut_row, feed_free, cut_once, cut_front, rows_once, last_are, some_words}

-- the bytes of a line of words may stand in a line
line_byte : (c : ℕ) → IsLineByte c → is_line_byte c ≡ true
line_byte c is = elim is [ inl space ↦ rw space refl | inr printed ↦ (let h = printed.0 in let k = printed.1 in grind (arith, nat_tests)) ]

-- none of its words is empty
words_some : (row : List (List ℕ)) → All IsWord row → has_words row ≡ true
words_some [] are = refl
words_some (w ∷ ws) are = rw (nonempty w (All-head IsWord w ws are), words_some ws (All-tail IsWord w ws are)) refl

row_words : (row : List (List ℕ)) → 0 < length row → All IsWord row → words_of (join_with_byte 32 row) ≡ row
unfolding words_of
row_words row some are = cut_row row some are

three : (a b c : Bool) → a ≡ true → b ≡ true → c ≡ true → (a && (b && c)) ≡ true
three a b c p q r = rw (p, q, r) refl

short_test : (n : ℕ) → n ≤ 200 → leb n 200 ≡ true
short_test n le = grind (arith, nat_tests)

row_shaped : (row : List (List ℕ)) → 0 < length row → length row ≤ 4 → All IsWord row → is_shaped (join_with_byte 32 row) ≡ true
row_shaped row some few are =
    three (leb (length (join_with_byte 32 row)) 200) (list_all is_line_byte (join_with_byte 32 row)) (has_words (words_of (join_with_byte 32 row)))
    (short_test (length (join_with_byte 32 row)) (let h = line_short row are in omega arith)) (test_from_all is_line_byte IsLineByte line_byte (join_with_byte 32 row) (line_bytes row are)) (ap has_words (row_words row some are) ∙ words_some row are)

few_words : (form : Line) → length (line_words form) ≤ 4
few_words form = (form_words form).1

-- nothing is wrong with the fields of an event
name_good : (names : List (List ℕ)) (name : List ℕ) (x : ℕ) → place_of names name ≡ Some x → name_cause names name ≡ None
name_good names name x at = ap (λ (o : Option ℕ). unless (is_some o) NoSuchName) at

switch_good : (s : ScriptOf) → IsScript s → (x : ℕ) → x < length s.wires.switches → name_cause s.switch_names (switch_name s x) ≡ None
switch_good s kept x low = name_good s.switch_names (switch_name s x) x (switch_found s kept x low)

host_good : (s : ScriptOf) → IsScript s → (h : ℕ) → h < length s.wires.hosts → name_cause s.names_of_hosts (host_name s h) ≡ None
host_good s kept h low = name_good s.names_of_hosts (host_name s h) h (host_found s kept h low)

port_good : (s : ScriptOf) → IsScript s → (x p : ℕ) → IsPort s.wires x p → option_or (name_cause s.switch_names (switch_name s x)) (number_cause 1 12 (decimal p)) ≡ None
port_good s kept x p is = first_good (name_cause s.switch_names (switch_name s x)) (number_cause 1 12 (decimal p)) (switch_good s kept x is.switch) (decimal_good BadNumber 1 12 p (let h = is.port_most in omega arith) is.port_least is.port_most)

count_good : (s : ScriptOf) → IsScript s → (x p n most : ℕ) → most ≤ 1000000 → IsCount s x p n most → option_or (name_cause s.switch_names (switch_name s x)) (option_or (number_cause 1 12 (decimal p)) (number_cause 1 most (decimal n))) ≡ None
count_good s kept x p n most fits is =
    first_good (name_cause s.switch_names (switch_name s x)) _ (switch_good s kept x is.port.switch)
    (first_good (number_cause 1 12 (decimal p)) (number_cause 1 most (decimal n)) (decimal_good BadNumber 1 12 p (let h = is.port.port_most in omega arith) is.port.port_least is.port.port_most) (decimal_good BadNumber 1 most n (let h = is.count_most in omega arith) is.count_least is.count_most))

event_good : (s : ScriptOf) → IsScript s → (e : Event) → CanSpell s e → line_cause s (event_line s e) ≡ None
event_good s kept Tick can = refl
event_good s kept (Clock x) can = switch_good s kept x can
event_good s kept (Take x p) can = port_good s kept x p can
event_good s kept (Handle x) can = switch_good s kept x can
event_good s kept (Load x) can = switch_good s kept x can
event_good s kept (Fail x p) can = port_good s kept x p can
event_good s kept (Repair x p) can = port_good s kept x p can
event_good s kept (Lose x p n) can = count_good s kept x p n 1000000 (omega arith) can
event_good s kept (Again x p n) can = count_good s kept x p n 1000000 (omega arith) can
event_good s kept (Swap x p n) can = count_good s kept x p n 1000000 (omega arith) can
event_good s kept (Noise x p n) can = count_good s kept x p n 64 (omega arith) can
event_good s kept (Send h g) can = first_good (name_cause s.names_of_hosts (host_name s h)) (name_cause s.names_of_hosts (host_name s g)) (host_good s kept h can.0) (host_good s kept g can.1)
event_good s kept (Move k) can = decimal_good BadNumber 1 (2 ^ 32 - 1) k (let h = can.1 in omega arith) can.0 (let h = can.1 in omega arith)
event_good s kept (Restart x) can = switch_good s kept x can

-- the words of an event are not wrong
words_not_wrong : (s : ScriptOf) → IsScript s → (e : Event) → CanSpell s e → (c : JournalCause) → AreWrong s (event_words s e) c → ⊥
words_not_wrong s kept e can c wrong = elim wrong [
  | inl none ↦ none.0 (event_line s e) refl
  | inr bad ↦ (let same = one_line (event_line s e) bad.form bad.line in
      let both : ◌≡◌ {A = Option JournalCause} None (Some c) = sym (event_good s kept e can) ∙ ap (line_cause s) same ∙ bad.wrong in absurd (cc))
]

-- nor is its line
line_not_wrong : (s : ScriptOf) → IsScript s → (e : Event) → CanSpell s e → (c : JournalCause) → IsWrongLine s (join_with_byte 32 (event_words s e)) c → ⊥
line_not_wrong s kept e can c wrong =
    let are = words_are s kept e can in
    let some = some_words (event_line s e) in
    elim wrong [
      | inl odd ↦ (let both : true ≡ false = sym (row_shaped (event_words s e) some (few_words (event_line s e)) are) ∙ odd.0 in absurd (cc))
      | inr bad ↦ words_not_wrong s kept e can c (subst (λ (ws : List (List ℕ)). AreWrong s ws c) (row_words (event_words s e) some are) bad.1)
    ]

-- what begins with a line of words is faulty only in that line
front_faulty : (s : ScriptOf) (row : List (List ℕ)) (rest zs : List ℕ) (c : JournalCause) → All IsWord row → rest ≡ line_text row ++ zs → IsFaultyRest s rest c → (join_with_byte 32 row ≢ codes "end") × IsWrongLine s (join_with_byte 32 row) c
front_faulty s row rest zs c are begins faulty =
    let l = join_with_byte 32 row in
    let parts : rest ≡ l ++ 10 ∷ zs = begins ∙ append_assoc l (10 ∷ []) zs in
    elim faulty [
      | inl none ↦ absurd (omega (arith, ap length (sym none.0 ∙ parts), length-append l (10 ∷ zs)))
      | inr more ↦ elim more [
        | inl unended ↦ absurd (unended.no_feed (length l) 0 (omega (arith, ap length parts, length-append l (10 ∷ zs))) (ap (λ (xs : List ℕ). get_or xs (length l) 0) parts ∙ get_or_at l 10 zs 0 (length l) refl))
        | inr bad ↦ (let cut = cut_once bad.line bad.after l zs bad.first.no_feed (feed_free row are) (sym bad.first.parts ∙ parts) in
            (subst (λ (x : List ℕ). x ≢ codes "end") cut.0 bad.not_last, subst (λ (x : List ℕ). IsWrongLine s x c) cut.0 bad.wrong))
      ]
    ]

-- what begins with an event's line, or with the last, is not faulty
event_not_faulty : (s : ScriptOf) → IsScript s → (e : Event) (rest zs : List ℕ) (c : JournalCause) → CanSpell s e → rest ≡ line_text (event_words s e) ++ zs → IsFaultyRest s rest c → ⊥
event_not_faulty s kept e rest zs c can begins faulty = line_not_wrong s kept e can c (front_faulty s (event_words s e) rest zs c (words_are s kept e can) begins faulty).1

last_not_faulty : (s : ScriptOf) (rest zs : List ℕ) (c : JournalCause) → rest ≡ line_text last_words ++ zs → IsFaultyRest s rest c → ⊥
last_not_faulty s rest zs c begins faulty = (front_faulty s last_words rest zs c last_are begins faulty).0 refl

-- the bytes after the first line
front_line : (s : ScriptOf) (e : Event) (es : List Event) (zs : List ℕ) → (events_text s (e ∷ es) ++ line_text last_words) ++ zs ≡ line_text (event_words s e) ++ ((events_text s es ++ line_text last_words) ++ zs)
front_line s e es zs = ap (λ (b : List ℕ). b ++ zs) (append_assoc (line_text (event_words s e)) (events_text s es) (line_text last_words)) ∙ append_assoc (line_text (event_words s e)) (events_text s es ++ line_text last_words) zs

no_fault_after : (s : ScriptOf) → IsScript s → (es fs : List Event) (rest after : List ℕ) (c : JournalCause) → All (CanSpell s) es → All (CanSpell s) fs → events_text s es ++ rest ≡ (events_text s fs ++ line_text last_words) ++ after → IsFaultyRest s rest c → ⊥
no_fault_after s kept [] [] rest after c can can' same faulty = last_not_faulty s rest after c same faulty
no_fault_after s kept [] (f ∷ fs) rest after c can can' same faulty = event_not_faulty s kept f rest ((events_text s fs ++ line_text last_words) ++ after) c (All-head (CanSpell s) f fs can') (same ∙ front_line s f fs after) faulty
no_fault_after s kept (e ∷ es) [] rest after c can can' same faulty =
    let h = rows_once (event_words s e) last_words (events_text s es ++ rest) after (some_words (event_line s e)) (omega arith) (words_are s kept e (All-head (CanSpell s) e es can)) last_are (sym (append_assoc (line_text (event_words s e)) (events_text s es) rest) ∙ same) in
    not_last (event_line s e) h.0
no_fault_after s kept (e ∷ es) (f ∷ fs) rest after c can can' same faulty =
    let h = rows_once (event_words s e) (event_words s f) (events_text s es ++ rest) ((events_text s fs ++ line_text last_words) ++ after) (some_words (event_line s e)) (some_words (event_line s f)) (words_are s kept e (All-head (CanSpell s) e es can)) (words_are s kept f (All-head (CanSpell s) f fs can')) (sym (append_assoc (line_text (event_words s e)) (events_text s es) rest) ∙ same ∙ front_line s f fs after) in
    no_fault_after s kept es fs rest after c (All-tail (CanSpell s) e es can) (All-tail (CanSpell s) f fs can') h.1 faulty

-- bytes that begin with the text of a journal have no fault
pub no_fault : (s : ScriptOf) (bytes : List ℕ) (events : List Event) (line : ℕ) (c : JournalCause) → IsScript s → IsJournal s bytes events → IsFault s bytes line c → ⊥
unfolding journal_text
no_fault s bytes events line c kept is fault =
    let text : bytes ≡ line_text first_words ++ ((events_text s events ++ line_text last_words) ++ is.after) = is.text ∙ append_assoc (line_text first_words) (events_text s events ++ line_text last_words) is.after in
    elim fault [
      | inl none ↦ (let h : [] ≡ line_text first_words ++ ((events_text s events ++ line_text last_words) ++ is.after) = sym none.0 ∙ text in absurd (cc))
      | inr more ↦ elim more [
        | inl header ↦ header.none ((events_text s events ++ line_text last_words) ++ is.after) text
        | inr later ↦ no_fault_after s kept later.events events later.rest is.after c later.spelled is.spelled (cut_front (line_text first_words) (events_text s later.events ++ later.rest) ((events_text s events ++ line_text last_words) ++ is.after) (sym later.parts ∙ text)) later.wrong
      ]
    ]

-- a line has one cause
words_one_cause : (s : ScriptOf) (words : List (List ℕ)) (c d : JournalCause) → AreWrong s words c → AreWrong s words d → c ≡ d
words_one_cause = form_one_cause line_words line_cause one_line UnknownWord

line_one_cause : (s : ScriptOf) (line : List ℕ) (c d : JournalCause) → IsWrongLine s line c → IsWrongLine s line d → c ≡ d
line_one_cause s line c d one other = elim one [
  | inl odd ↦ elim other [
    | inl odd' ↦ odd.1 ∙ sym odd'.1
    | inr bad ↦ (let both : false ≡ true = sym odd.0 ∙ bad.0 in absurd (cc))
  ]
  | inr bad ↦ elim other [
    | inl odd ↦ (let both : false ≡ true = sym odd.0 ∙ bad.0 in absurd (cc))
    | inr bad' ↦ words_one_cause s (words_of line) c d bad.1 bad'.1
  ]
]

-- bytes with a line feed are some, and have it
has_feed : (rest line after : List ℕ) → rest ≡ line ++ 10 ∷ after → All (λ b. b ≢ 10) rest → ⊥
has_feed rest line after parts free = free (length line) 0 (omega (arith, ap length parts, length-append line (10 ∷ after))) (ap (λ (xs : List ℕ). get_or xs (length line) 0) parts ∙ get_or_at line 10 after 0 (length line) refl)

some_bytes : (rest line after : List ℕ) → rest ≡ line ++ 10 ∷ after → rest ≡ [] → ⊥
some_bytes rest line after parts none = omega (arith, ap length (sym none ∙ parts), length-append line (10 ∷ after))

-- what stands after the events has one cause
rest_one_cause : (s : ScriptOf) (rest : List ℕ) (c d : JournalCause) → IsFaultyRest s rest c → IsFaultyRest s rest d → c ≡ d
rest_one_cause s rest c d one other = elim one [
  | inl none ↦ elim other [
    | inl none' ↦ none.1 ∙ sym none'.1
    | inr more ↦ elim more [
      | inl unended ↦ absurd (unended.some none.0)
      | inr bad ↦ absurd (some_bytes rest bad.line bad.after bad.first.parts none.0)
    ]
  ]
  | inr more ↦ elim more [
    | inl unended ↦ elim other [
      | inl none ↦ absurd (unended.some none.0)
      | inr more' ↦ elim more' [
        | inl unended' ↦ unended.cause_is ∙ sym unended'.cause_is
        | inr bad ↦ absurd (has_feed rest bad.line bad.after bad.first.parts unended.no_feed)
      ]
    ]
    | inr bad ↦ elim other [
      | inl none ↦ absurd (some_bytes rest bad.line bad.after bad.first.parts none.0)
      | inr more' ↦ elim more' [
        | inl unended ↦ absurd (has_feed rest bad.line bad.after bad.first.parts unended.no_feed)
        | inr bad' ↦ (let cut = cut_once bad.line bad.after bad'.line bad'.after bad.first.no_feed bad'.first.no_feed (sym bad.first.parts ∙ bad'.first.parts) in
            line_one_cause s bad.line c d bad.wrong (subst (λ (x : List ℕ). IsWrongLine s x d) (sym cut.0) bad'.wrong))
      ]
    ]
  ]
]

faults_after : (s : ScriptOf) → IsScript s → (es fs : List Event) (rest more : List ℕ) (c d : JournalCause) → All (CanSpell s) es → All (CanSpell s) fs → events_text s es ++ rest ≡ events_text s fs ++ more → IsFaultyRest s rest c → IsFaultyRest s more d → (length es ≡ length fs) × (c ≡ d)
faults_after s kept [] [] rest more c d can can' same faulty faulty' = (refl, rest_one_cause s rest c d faulty (subst (λ (b : List ℕ). IsFaultyRest s b d) (sym same) faulty'))
faults_after s kept [] (f ∷ fs) rest more c d can can' same faulty faulty' = absurd (event_not_faulty s kept f rest (events_text s fs ++ more) c (All-head (CanSpell s) f fs can') (same ∙ append_assoc (line_text (event_words s f)) (events_text s fs) more) faulty)
faults_after s kept (e ∷ es) [] rest more c d can can' same faulty faulty' = absurd (event_not_faulty s kept e more (events_text s es ++ rest) d (All-head (CanSpell s) e es can) (sym same ∙ append_assoc (line_text (event_words s e)) (events_text s es) rest) faulty')
faults_after s kept (e ∷ es) (f ∷ fs) rest more c d can can' same faulty faulty' =
    let h = rows_once (event_words s e) (event_words s f) (events_text s es ++ rest) (events_text s fs ++ more) (some_words (event_line s e)) (some_words (event_line s f)) (words_are s kept e (All-head (CanSpell s) e es can)) (words_are s kept f (All-head (CanSpell s) f fs can')) (sym (append_assoc (line_text (event_words s e)) (events_text s es) rest) ∙ same ∙ append_assoc (line_text (event_words s f)) (events_text s fs) more) in
    let later = faults_after s kept es fs rest more c d (All-tail (CanSpell s) e es can) (All-tail (CanSpell s) f fs can') h.1 faulty faulty' in
    (let lengths = later.0 in omega arith, later.1)

no_bytes_begin : (rest : List ℕ) → [] ≢ line_text first_words ++ rest
no_bytes_begin rest same = cc

-- no bytes have two first faults
pub one_fault : (s : ScriptOf) (bytes : List ℕ) (line other : ℕ) (c d : JournalCause) → IsScript s → IsFault s bytes line c → IsFault s bytes other d → (line ≡ other) × (c ≡ d)
one_fault s bytes line other c d kept one two = elim one [
  | inl none ↦ elim two [
    | inl none' ↦ (none.1 ∙ sym none'.1, none.2 ∙ sym none'.2)
    | inr more ↦ elim more [
      | inl header ↦ absurd (header.some none.0)
      | inr later ↦ absurd (no_bytes_begin (events_text s later.events ++ later.rest) (sym none.0 ∙ later.parts))
    ]
  ]
  | inr more ↦ elim more [
    | inl header ↦ elim two [
      | inl none ↦ absurd (header.some none.0)
      | inr more' ↦ elim more' [
        | inl header' ↦ (header.number ∙ sym header'.number, header.cause_is ∙ sym header'.cause_is)
        | inr later ↦ absurd (header.none (events_text s later.events ++ later.rest) later.parts)
      ]
    ]
    | inr later ↦ elim two [
      | inl none ↦ absurd (no_bytes_begin (events_text s later.events ++ later.rest) (sym none.0 ∙ later.parts))
      | inr more' ↦ elim more' [
        | inl header ↦ absurd (header.none (events_text s later.events ++ later.rest) later.parts)
        | inr later' ↦ (let h = faults_after s kept later.events later'.events later.rest later'.rest c d later.spelled later'.spelled (cut_front (line_text first_words) (events_text s later.events ++ later.rest) (events_text s later'.events ++ later'.rest) (sym later.parts ∙ later'.parts)) later.wrong later'.wrong in
            (let lengths = h.0 in omega (arith, later.number, later'.number), h.1))
      ]
    ]
  ]
]
