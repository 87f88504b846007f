use Rattle.std.proofs.Common.{◌≡◌, ◌≢◌, ◌∙◌, sym, ap, refl, subst, ℕ, zero, suc, ◌+◌, ◌-◌, ◌<◌, ◌≤◌, ◌^◌, ◌⊎◌, inl, inr, List, [], ◌∷◌, ◌++◌, length, length-take, length-drop, get_or, take, drop, Option, Some, None, Bool, true, false, ◌&&◌, eqb, leb, is_some, All, arith, codes}
use Rattle.std.specs.Option.{option_or}
use Rattle.std.specs.Fmt.{decimal}
use Rattle.std.specs.List.{join_with_byte, position}
use Rattle.std.specs.Str.{bytes_eq}
use Rattle.std.proofs.lemmas.Bool.{and_parts}
use Rattle.std.proofs.lemmas.Bool.Decides.{nat_tests}
use Rattle.std.proofs.lemmas.Slice.Eq.{bytes_eq-Decides}
use Rattle.std.proofs.lemmas.List.{take-append-drop, get_or_default}
use Rattle.std.proofs.lemmas.List.Elements.{All-nil}
use Rattle.std.proofs.lemmas.List.Quantifiers.{position-Some}
use Rattle.std.proofs.Math.Seq.{take-append_seam}
use Rattle.an_base.specs.declared.event.Event.{Event}
use Rattle.an_base.specs.declared.event.Event.TheVariants.{Tick, Send, Move}
use Rattle.net_script.specs.declared.command.WireChange.{WireChange}
use Rattle.net_script.specs.declared.command.WireChange.TheVariants as wire
use Rattle.net_script.specs.Commands.{IsPort, wire_event, most_count, wire_word}
use Rattle.common_lines.specs.Lines.{line_text}
use Rattle.net_names.specs.Names.{place_of}
use Rattle.net_script.specs.Scripts.{ScriptOf, IsScript}
use Rattle.common_lines.specs.Words.{is_number, is_number_in, number_value}
use Rattle.common_lines.proofs.ChoiceLemmas.{branch, mapped, word_is}
use Rattle.net_script.proofs.FormOf.{wire_of, wire_is}
use Rattle.common_values.proofs.ListLemmas.{some_is}
use Rattle.net_names.proofs.NameLemmas.{place_found}
use Rattle.journal_cause.specs.declared.cause.JournalCause.{JournalCause}
use Rattle.journal_cause.specs.declared.cause.JournalCause.TheVariants.{BadHeader, UnknownWord, BadNumber, NoSuchName, NoEnd}
use Rattle.journal.specs.declared.kind.SwitchEvent.{SwitchEvent}
use Rattle.journal.specs.declared.kind.SwitchEvent.TheVariants as switch
use Rattle.journal.specs.declared.kind.PortEvent.{PortEvent}
use Rattle.journal.specs.declared.kind.PortEvent.TheVariants as port
use Rattle.journal.specs.Kinds.{switch_event, port_event}
use Rattle.journal.specs.Words.{words_of, is_shaped}
use Rattle.common_lines.specs.Grammar.{HasNoFormBy}
use Rattle.common_lines.proofs.FaultLemmas.{holds, no_first}
use Rattle.journal.specs.Lines.{Line, Ticks, Moves, OnSwitch, OnPort, OnWire, Sends, line_words, switch_word, port_word}
use Rattle.journal.specs.Events.{CanSpell, IsCount, event_words, switch_name, host_name, first_words}
use Rattle.journal.specs.Rules.{name_cause, number_cause, line_cause}
use Rattle.journal.specs.Texts.{IsJournal, IsFirstLine, IsWrongLine, IsFaultyRest, IsFault}
use Rattle.journal.proofs.JournalLemmas.{switch_of, port_of, line_of, line_back}
use Rattle.journal.proofs.FieldLemmas.{spelled}
use Rattle.journal.proofs.LineLemmas.{feedless, first_is}
use Rattle.journal.specs.Reading.{IsRead}
use Rattle.journal.proofs.ReadLemmas.{read_more, read_end, line_joined}

-- the words of the form that is found
switch_is : (w : List ℕ) (k : SwitchEvent) → switch_of w ≡ Some k → w ≡ switch_word k
switch_is w k found =
    branch (bytes_eq w (codes "clock")) _ _ k _ (λ t e. let h : switch.Clock ≡ k = cc in rw (word_is w (codes "clock") t, ← h) refl)
    (λ n. branch (bytes_eq w (codes "handle")) _ _ k _ (λ t e. let h : switch.Handle ≡ k = cc in rw (word_is w (codes "handle") t, ← h) refl)
    (λ n. branch (bytes_eq w (codes "load")) _ _ k _ (λ t e. let h : switch.Load ≡ k = cc in rw (word_is w (codes "load") t, ← h) refl)
    (λ n. branch (bytes_eq w (codes "restart")) _ _ k _ (λ t e. let h : switch.Restart ≡ k = cc in rw (word_is w (codes "restart") t, ← h) refl)
    (λ n e. absurd (cc))))) found

port_is : (w : List ℕ) (k : PortEvent) → port_of w ≡ Some k → w ≡ port_word k
port_is w k found =
    branch (bytes_eq w (codes "take")) _ _ k _ (λ t e. let h : port.Take ≡ k = cc in rw (word_is w (codes "take") t, ← h) refl)
    (λ n. branch (bytes_eq w (codes "fail")) _ _ k _ (λ t e. let h : port.Fail ≡ k = cc in rw (word_is w (codes "fail") t, ← h) refl)
    (λ n. branch (bytes_eq w (codes "repair")) _ _ k _ (λ t e. let h : port.Repair ≡ k = cc in rw (word_is w (codes "repair") t, ← h) refl)
    (λ n e. absurd (cc)))) found

line_is : (words : List (List ℕ)) (f : Line) → line_of words ≡ Some f → words ≡ line_words f
line_is [] f found = absurd (cc)
line_is (a ∷ []) f found =
    branch (bytes_eq a (codes "tick")) _ _ f _ (λ t e. let h : Ticks ≡ f = cc in rw (word_is a (codes "tick") t, ← h) refl)
    (λ n e. absurd (cc)) found
line_is (a ∷ b ∷ []) f found =
    branch (bytes_eq a (codes "move")) _ _ f _ (λ t e. let h : Moves b ≡ f = cc in rw (word_is a (codes "move") t, ← h) refl)
    (λ n e. mapped (switch_of a) (λ k. OnSwitch k b) f _ (λ k l h. rw (← h, switch_is a k l) refl) e) found
line_is (a ∷ b ∷ c ∷ []) f found =
    branch (bytes_eq a (codes "send")) _ _ f _ (λ t e. let h : Sends b c ≡ f = cc in rw (word_is a (codes "send") t, ← h) refl)
    (λ n e. mapped (port_of a) (λ k. OnPort k b c) f _ (λ k l h. rw (← h, port_is a k l) refl) e) found
line_is (a ∷ b ∷ c ∷ d ∷ []) f found = mapped (wire_of a) (λ k. OnWire k b c d) f _ (λ k l h. rw (← h, wire_is a k l) refl) found
line_is (a ∷ b ∷ c ∷ d ∷ e ∷ more) f found = absurd (cc)

-- words for which no form is found have none
no_line : (words : List (List ℕ)) → line_of words ≡ None → HasNoFormBy line_words words
no_line words none form same = let h : ◌≡◌ {A = Option Line} None (Some form) = sym none ∙ ap line_of same ∙ line_back form in absurd (cc)

-- a name that is known
known : (names : List (List ℕ)) (word : List ℕ) → name_cause names word ≡ None → (x : ℕ) × (x < length names) × (word ≡ get_or names x [])
known names word good =
    let place = some_is (place_of names word) (holds (is_some (place_of names word)) NoSuchName good) in
    let at = place_found names word place.0 place.1 in
    (place.0, at.0, sym at.1 ∙ get_or_default names place.0 word [] at.0)

-- a number of a range
number : (least most : ℕ) (word : List ℕ) → most < 2 ^ 64 → number_cause least most word ≡ None → (n : ℕ) × (word ≡ decimal n) × (least ≤ n) × (n ≤ most)
unfolding number_value
number least most word fits good =
    let parts = and_parts (is_number word) (leb least (number_value word) && leb (number_value word) most) (holds (is_number_in least most word) BadNumber good) in
    let ranges = and_parts (leb least (number_value word)) (leb (number_value word) most) parts.1 in
    let low : least ≤ number_value word = grind (arith, nat_tests) in
    let high : number_value word ≤ most = grind (arith, nat_tests) in
    (number_value word, spelled word parts.0 (omega arith), low, high)

-- the event of words with which nothing is wrong
record Says (s : ScriptOf) (words : List (List ℕ)) : Type 0 where
  pub event : Event
  pub can : CanSpell s event
  pub spells : words ≡ event_words s event

switch_says : (s : ScriptOf) (k : SwitchEvent) (x : ℕ) → x < length s.wires.switches → Says s (switch_word k ∷ switch_name s x ∷ [])
switch_says s switch.Clock x low = record { event = switch_event switch.Clock x; can = low; spells = refl }
switch_says s switch.Handle x low = record { event = switch_event switch.Handle x; can = low; spells = refl }
switch_says s switch.Load x low = record { event = switch_event switch.Load x; can = low; spells = refl }
switch_says s switch.Restart x low = record { event = switch_event switch.Restart x; can = low; spells = refl }

port_says : (s : ScriptOf) (k : PortEvent) (x p : ℕ) → IsPort s.wires x p → Says s (port_word k ∷ switch_name s x ∷ decimal p ∷ [])
port_says s port.Take x p at = record { event = port_event port.Take x p; can = at; spells = refl }
port_says s port.Fail x p at = record { event = port_event port.Fail x p; can = at; spells = refl }
port_says s port.Repair x p at = record { event = port_event port.Repair x p; can = at; spells = refl }

wire_says : (s : ScriptOf) (k : WireChange) (x p n : ℕ) → IsCount s x p n (most_count k) → Says s (wire_word k ∷ switch_name s x ∷ decimal p ∷ decimal n ∷ [])
wire_says s wire.Lose x p n is = record { event = wire_event wire.Lose x p n; can = is; spells = refl }
wire_says s wire.Again x p n is = record { event = wire_event wire.Again x p n; can = is; spells = refl }
wire_says s wire.Swap x p n is = record { event = wire_event wire.Swap x p n; can = is; spells = refl }
wire_says s wire.Noise x p n is = record { event = wire_event wire.Noise x p n; can = is; spells = refl }

most_fits : (k : WireChange) → most_count k < 2 ^ 64
most_fits wire.Lose = omega arith
most_fits wire.Again = omega arith
most_fits wire.Swap = omega arith
most_fits wire.Noise = omega arith

says_move : (s : ScriptOf) (n : ℕ) → 1 ≤ n → n ≤ 2 ^ 32 - 1 → Says s (codes "move" ∷ decimal n ∷ [])
says_move s n least most = record { event = Move n; can = (least, omega arith); spells = refl }

says_send : (s : ScriptOf) (x y : ℕ) → x < length s.wires.hosts → y < length s.wires.hosts → Says s (codes "send" ∷ host_name s x ∷ host_name s y ∷ [])
says_send s x y x_low y_low = record { event = Send x y; can = (x_low, y_low); spells = refl }

-- one, two and three words that are what they are
one_as : (P : List (List ℕ) → Type 0) (w a b : List ℕ) → a ≡ b → P (w ∷ b ∷ []) → P (w ∷ a ∷ [])
one_as P w a b same is = subst (λ (v : List ℕ). P (w ∷ v ∷ [])) (sym same) is

two_as : (P : List (List ℕ) → Type 0) (w a b c d : List ℕ) → a ≡ b → c ≡ d → P (w ∷ b ∷ d ∷ []) → P (w ∷ a ∷ c ∷ [])
two_as P w a b c d same more is = subst (λ (v : List ℕ). P (w ∷ v ∷ c ∷ [])) (sym same) (subst (λ (v : List ℕ). P (w ∷ b ∷ v ∷ [])) (sym more) is)

three_as : (P : List (List ℕ) → Type 0) (w a b c d e f : List ℕ) → a ≡ b → c ≡ d → e ≡ f → P (w ∷ b ∷ d ∷ f ∷ []) → P (w ∷ a ∷ c ∷ e ∷ [])
three_as P w a b c d e f same more last is =
    subst (λ (v : List ℕ). P (w ∷ v ∷ c ∷ e ∷ [])) (sym same)
    (subst (λ (v : List ℕ). P (w ∷ b ∷ v ∷ e ∷ [])) (sym more)
    (subst (λ (v : List ℕ). P (w ∷ b ∷ d ∷ v ∷ [])) (sym last) is))

form_says : (s : ScriptOf) → IsScript s → (f : Line) → line_cause s f ≡ None → Says s (line_words f)
form_says s kept Ticks good = record { event = Tick; can = tt; spells = refl }
form_says s kept (Moves packet) good =
    let n = number 1 (2 ^ 32 - 1) packet (omega arith) good in
    one_as (Says s) (codes "move") packet (decimal n.0) n.1 (says_move s n.0 n.2 n.3)
form_says s kept (OnSwitch event name) good =
    let x = known s.switch_names name good in
    one_as (Says s) (switch_word event) name (switch_name s x.0) x.2 (switch_says s event x.0 (let h = x.1 in omega (arith, kept.switch_count)))
form_says s kept (OnPort event name p) good =
    let parts = no_first (name_cause s.switch_names name) (number_cause 1 12 p) good in
    let x = known s.switch_names name parts.0 in
    let n = number 1 12 p (omega arith) parts.1 in
    two_as (Says s) (port_word event) name (switch_name s x.0) p (decimal n.0) x.2 n.1 (port_says s event x.0 n.0 (record { switch = (let h = x.1 in omega (arith, kept.switch_count)); port_least = n.2; port_most = n.3 }))
form_says s kept (OnWire change name p m) good =
    let parts = no_first (name_cause s.switch_names name) (option_or (number_cause 1 12 p) (number_cause 1 (most_count change) m)) good in
    let more = no_first (number_cause 1 12 p) (number_cause 1 (most_count change) m) parts.1 in
    let x = known s.switch_names name parts.0 in
    let n = number 1 12 p (omega arith) more.0 in
    let k = number 1 (most_count change) m (most_fits change) more.1 in
    three_as (Says s) (wire_word change) name (switch_name s x.0) p (decimal n.0) m (decimal k.0) x.2 n.1 k.1 (wire_says s change x.0 n.0 k.0 (record { port = record { switch = (let h = x.1 in omega (arith, kept.switch_count)); port_least = n.2; port_most = n.3 }; count_least = k.2; count_most = k.3 }))
form_says s kept (Sends host to) good =
    let parts = no_first (name_cause s.names_of_hosts host) (name_cause s.names_of_hosts to) good in
    let x = known s.names_of_hosts host parts.0 in
    let y = known s.names_of_hosts to parts.1 in
    two_as (Says s) (codes "send") host (host_name s x.0) to (host_name s y.0) x.2 y.2 (says_send s x.0 y.0 (let h = x.1 in omega (arith, kept.host_count)) (let h = y.1 in omega (arith, kept.host_count)))

-- a line says an event, or something is wrong with it
record IsEventLine (s : ScriptOf) (line : List ℕ) : Type 0 where
  pub event : Event
  pub can : CanSpell s event
  pub spells : line ≡ join_with_byte 32 (event_words s event)

either_line : (s : ScriptOf) → IsScript s → (line : List ℕ) → IsEventLine s line ⊎ ((c : JournalCause) × IsWrongLine s line c)
either_line s kept line = shaped (is_shaped line) refl
  where
    good : is_shaped line ≡ true → (f : Line) → words_of line ≡ line_words f → (o : Option JournalCause) → line_cause s f ≡ o → IsEventLine s line ⊎ ((c : JournalCause) × IsWrongLine s line c)
    good t f is None fine =
        let says = form_says s kept f fine in
        inl (record { event = says.event; can = says.can; spells = line_joined line (words_of line) (event_words s says.event) refl (is ∙ says.spells) })
    good t f is (Some c) bad = inr (c, inr (t, inr (record { form = f; line = is; wrong = bad })))

    formed : is_shaped line ≡ true → (o : Option Line) → line_of (words_of line) ≡ o → IsEventLine s line ⊎ ((c : JournalCause) × IsWrongLine s line c)
    formed t None none = inr (UnknownWord, inr (t, inl (no_line (words_of line) none, refl)))
    formed t (Some f) found = good t f (line_is (words_of line) f found) (line_cause s f) refl

    shaped : (b : Bool) → is_shaped line ≡ b → IsEventLine s line ⊎ ((c : JournalCause) × IsWrongLine s line c)
    shaped false t = inr (UnknownWord, inl (t, refl))
    shaped true t = formed t (line_of (words_of line)) refl

-- the bytes begin with a journal, or have a fault
abbrev pub Either : ScriptOf → List ℕ → Type 0
Either s bytes = ((events : List Event) × IsJournal s bytes events) ⊎ ((line : ℕ) × (c : JournalCause) × IsFault s bytes line c)

-- something is wrong with what is left
wrong_rest : (s : ScriptOf) (bytes rest : List ℕ) (events : List Event) (line : ℕ) (c : JournalCause) → IsRead s bytes rest events line → IsFaultyRest s rest c → Either s bytes
wrong_rest s bytes rest events line c read wrong = inr (line, c, inr (inr (record { events = events; spelled = read.spelled; rest = rest; parts = read.text; number = read.number; wrong = wrong })))

unended : (s : ScriptOf) (bytes rest : List ℕ) (events : List Event) (line : ℕ) → IsRead s bytes rest events line → All (λ c. c ≢ 10) rest → Either s bytes
unended s bytes [] events line read free = wrong_rest s bytes [] events line NoEnd read (inl (refl, refl))
unended s bytes (b ∷ bs) events line read free = wrong_rest s bytes (b ∷ bs) events line UnknownWord read (inr (inl (record { some = λ same. absurd (cc); no_feed = free; cause_is = refl })))

-- what stands after a line is shorter
after_short : (rest : List ℕ) (i n : ℕ) → i < length rest → length rest < suc n → length (take (length rest - (i + 1)) (drop (i + 1) rest)) < n
after_short rest i n within low = omega (arith, length-take (length rest - (i + 1)) (drop (i + 1) rest), length-drop (i + 1) rest)

-- what is left of less than so many bytes is read
abbrev Later : ScriptOf → List ℕ → ℕ → Type 0
Later s bytes n = (after : List ℕ) (es : List Event) (k : ℕ) → length after < n → IsRead s bytes after es k → Either s bytes

walk : (s : ScriptOf) → IsScript s → (bytes : List ℕ) (n : ℕ) (rest : List ℕ) (events : List Event) (line : ℕ) → length rest < n → IsRead s bytes rest events line → Either s bytes
walk s kept bytes zero rest events line low read = absurd (omega arith)
walk s kept bytes (suc n) rest events line low read = at (position (λ c. eqb c 10) rest) refl (λ after es k short more. walk s kept bytes n after es k short more)
  where
    says : (i : ℕ) → i < length rest → Later s bytes n → (first : IsFirstLine rest (take i rest) (take (length rest - (i + 1)) (drop (i + 1) rest))) → (b : Bool) → bytes_eq (take i rest) (codes "end") ≡ b → Either s bytes
    says i within later first true t = inl (events, read_end s bytes rest (take i rest) (take (length rest - (i + 1)) (drop (i + 1) rest)) events line read first (word_is (take i rest) (codes "end") t))
    says i within later first false t = elim (either_line s kept (take i rest)) [
      | inl is ↦ later (take (length rest - (i + 1)) (drop (i + 1) rest)) (events ++ is.event ∷ []) (line + 1) (after_short rest i n within low) (read_more s bytes rest (take i rest) (take (length rest - (i + 1)) (drop (i + 1) rest)) events is.event line read first is.can is.spells)
      | inr bad ↦ wrong_rest s bytes rest events line bad.0 read (inr (inr (record { line = take i rest; after = take (length rest - (i + 1)) (drop (i + 1) rest); first = first; not_last = (λ same. let yes : bytes_eq (take i rest) (codes "end") ≡ true = (bytes_eq-Decides (take i rest) (codes "end")).1 same in absurd (cc)); wrong = bad.1 })))
    ]

    at : (o : Option ℕ) → position (λ c. eqb c 10) rest ≡ o → Later s bytes n → Either s bytes
    at None none later = unended s bytes rest events line read (feedless rest none)
    at (Some i) here later = says i (position-Some (λ (c : ℕ). eqb c 10) rest i 0 here).0 later (first_is rest i here) (bytes_eq (take i rest) (codes "end")) refl

-- bytes that begin with no journal have a fault
pub journal_or_fault : (s : ScriptOf) (bytes : List ℕ) → IsScript s → Either s bytes
journal_or_fault s [] kept = inr (1, NoEnd, inl (refl, refl, refl))
journal_or_fault s (b ∷ bs) kept = header (bytes_eq (take 10 bytes) (line_text first_words)) refl
  where
    bytes : List ℕ
    bytes = b ∷ bs

    header : (t : Bool) → bytes_eq (take 10 bytes) (line_text first_words) ≡ t → Either s bytes
    header true t = walk s kept bytes (suc (length (drop 10 bytes))) (drop 10 bytes) [] 2 (omega arith) (record { spelled = All-nil (CanSpell s); text = sym (take-append-drop 10 bytes) ∙ ap (λ (xs : List ℕ). xs ++ drop 10 bytes) (word_is (take 10 bytes) (line_text first_words) t); number = refl })
    header false t = inr (
      1,
      BadHeader,
      inr (inl (record {
        some = (λ same. absurd (cc));
        none = (λ rest same. let front : take 10 bytes ≡ line_text first_words = ap (take 10) same ∙ take-append_seam (line_text first_words) rest in
            let yes : bytes_eq (take 10 bytes) (line_text first_words) ≡ true = (bytes_eq-Decides (take 10 bytes) (line_text first_words)).1 front in absurd (cc));
        number = refl;
        cause_is = refl;
      })),
    )
