use Rattle.std.proofs.Common.{◌≡◌, ◌≢◌, ◌∙◌, sym, ap, refl, ℕ, ◌<◌, ◌≤◌, List, [], ◌∷◌, ◌++◌, append_assoc, append-nil, length, Option, Some, None, false, cond, All, arith, codes, eqb, inl, inr}
use Rattle.std.specs.Prelude.{unwrap_or}
use Rattle.std.specs.Option.{option_map}
use Rattle.std.specs.Fmt.{decimal}
use Rattle.std.specs.List.{join_with_byte, slice_split}
use Rattle.std.specs.Str.{bytes_eq}
use Rattle.std.proofs.lemmas.Bool.Decides.{nat_tests}
use Rattle.std.proofs.lemmas.List.Elements.{All-head, All-tail, All-get_or, All-weaker}
use Rattle.an_base.specs.declared.event.Event.{Event}
use Rattle.an_base.specs.declared.event.Event.TheVariants.{Tick, Clock, Take, Handle, Load, Fail, Repair, Lose, Again, Swap, Noise, Send, Move, Restart}
use Rattle.common_values.proofs.PairLemmas.{AllPairs-front}
use Rattle.net_script.specs.declared.command.WireChange.TheVariants as wire
use Rattle.net_script.specs.Commands.{IsPort, wire_event}
use Rattle.common_lines.specs.Lines.{line_text}
use Rattle.net_names.specs.Names.{place_of}
use Rattle.net_script.specs.Rules.{place}
use Rattle.net_script.specs.Scripts.{ScriptOf, IsScript}
use Rattle.common_lines.specs.Words.{number_value}
use Rattle.net_names.specs.Words.{IsName}
use Rattle.net_script.proofs.FormOf.{wire_of}
use Rattle.net_names.proofs.NameLemmas.{place_at}
use Rattle.script_text.proofs.ChainLemmas.{apart_back}
use Rattle.common_lines.proofs.SpellLemmas.{IsPrinted, IsLineByte, IsWord, decimal_value, decimal_word, line_bytes, split_words}
use Rattle.net_names.proofs.WordLemmas.{name_word}
use Rattle.common_lines.proofs.SpellLemmas.{fixed_word, words_cons, words_nil}
use Rattle.journal.specs.declared.kind.SwitchEvent.{SwitchEvent}
use Rattle.journal.specs.declared.kind.SwitchEvent.TheVariants as switch
use Rattle.journal.specs.declared.kind.PortEvent.{PortEvent}
use Rattle.journal.specs.declared.kind.PortEvent.TheVariants as port
use Rattle.journal.specs.Kinds.{switch_event, port_event}
use Rattle.journal.specs.Lines.{Line, Ticks, Moves, OnSwitch, OnPort, OnWire, Sends, line_words}
use Rattle.journal.specs.Events.{CanSpell, IsCount, event_line, event_words, switch_name, host_name, first_words, last_words, events_text, journal_text}
use Rattle.journal.specs.Texts.{IsJournal}

-- the event of a line
abbrev event_of : ScriptOf → Line → Event
event_of s Ticks = Tick
event_of s (Moves k) = Move (number_value k)
event_of s (OnSwitch event name) = switch_event event (place s.switch_names name)
event_of s (OnPort event name p) = port_event event (place s.switch_names name) (number_value p)
event_of s (OnWire change name p n) = wire_event change (place s.switch_names name) (number_value p) (number_value n)
event_of s (Sends host to) = Send (place s.names_of_hosts host) (place s.names_of_hosts to)

pub switch_found : (s : ScriptOf) → IsScript s → (x : ℕ) → x < length s.wires.switches → place_of s.switch_names (switch_name s x) ≡ Some x
switch_found s kept x low = place_at s.switch_names x (AllPairs-front (λ a b. a ≢ b) s.switch_names s.names_of_hosts kept.names_apart) (omega (arith, kept.switch_count))

pub host_found : (s : ScriptOf) → IsScript s → (h : ℕ) → h < length s.wires.hosts → place_of s.names_of_hosts (host_name s h) ≡ Some h
host_found s kept h low = place_at s.names_of_hosts h (apart_back s.switch_names s.names_of_hosts kept.names_apart) (omega (arith, kept.host_count))

switch_is : (s : ScriptOf) → IsScript s → (x : ℕ) → x < length s.wires.switches → place s.switch_names (switch_name s x) ≡ x
switch_is s kept x low = ap (λ (o : Option ℕ). unwrap_or o 0) (switch_found s kept x low)

host_is : (s : ScriptOf) → IsScript s → (h : ℕ) → h < length s.wires.hosts → place s.names_of_hosts (host_name s h) ≡ h
host_is s kept h low = ap (λ (o : Option ℕ). unwrap_or o 0) (host_found s kept h low)

port_back : (s : ScriptOf) → IsScript s → (x p : ℕ) → IsPort s.wires x p → (f : ℕ → ℕ → Event) → f (place s.switch_names (switch_name s x)) (number_value (decimal p)) ≡ f x p
port_back s kept x p is f =
    ap (λ (y : ℕ). f y (number_value (decimal p))) (switch_is s kept x is.switch)
    ∙ ap (λ (q : ℕ). f x q) (decimal_value p (let h = is.port_most in omega arith))

count_back : (s : ScriptOf) → IsScript s → (x p n most : ℕ) → IsCount s x p n most → most ≤ 1000000 → (f : ℕ → ℕ → ℕ → Event) → f (place s.switch_names (switch_name s x)) (number_value (decimal p)) (number_value (decimal n)) ≡ f x p n
count_back s kept x p n most is fits f =
    port_back s kept x p is.port (λ y q. f y q (number_value (decimal n)))
    ∙ ap (λ (m : ℕ). f x p m) (decimal_value n (let h = is.count_most in omega arith))

-- the line of an event says it
event_back : (s : ScriptOf) → IsScript s → (e : Event) → CanSpell s e → event_of s (event_line s e) ≡ e
event_back s kept Tick can = refl
event_back s kept (Clock x) can = ap (λ (y : ℕ). Clock y) (switch_is s kept x can)
event_back s kept (Take x p) can = port_back s kept x p can (λ y q. Take y q)
event_back s kept (Handle x) can = ap (λ (y : ℕ). Handle y) (switch_is s kept x can)
event_back s kept (Load x) can = ap (λ (y : ℕ). Load y) (switch_is s kept x can)
event_back s kept (Fail x p) can = port_back s kept x p can (λ y q. Fail y q)
event_back s kept (Repair x p) can = port_back s kept x p can (λ y q. Repair y q)
event_back s kept (Lose x p n) can = count_back s kept x p n 1000000 can (omega arith) (λ y q m. Lose y q m)
event_back s kept (Again x p n) can = count_back s kept x p n 1000000 can (omega arith) (λ y q m. Again y q m)
event_back s kept (Swap x p n) can = count_back s kept x p n 1000000 can (omega arith) (λ y q m. Swap y q m)
event_back s kept (Noise x p n) can = count_back s kept x p n 64 can (omega arith) (λ y q m. Noise y q m)
event_back s kept (Send h g) can = ap (λ (y : ℕ). Send y (place s.names_of_hosts (host_name s g))) (host_is s kept h can.0) ∙ ap (λ (y : ℕ). Send h y) (host_is s kept g can.1)
event_back s kept (Move k) can = ap (λ (m : ℕ). Move m) (decimal_value k (let h = can.1 in omega arith))
event_back s kept (Restart x) can = ap (λ (y : ℕ). Restart y) (switch_is s kept x can)

-- the form of words
abbrev pub switch_of : List ℕ → Option SwitchEvent
switch_of w = cond (bytes_eq w (codes "clock")) (Some switch.Clock) (cond (bytes_eq w (codes "handle")) (Some switch.Handle) (cond (bytes_eq w (codes "load")) (Some switch.Load) (cond (bytes_eq w (codes "restart")) (Some switch.Restart) None)))

abbrev pub port_of : List ℕ → Option PortEvent
port_of w = cond (bytes_eq w (codes "take")) (Some port.Take) (cond (bytes_eq w (codes "fail")) (Some port.Fail) (cond (bytes_eq w (codes "repair")) (Some port.Repair) None))

abbrev pub line_of : List (List ℕ) → Option Line
line_of [] = None
line_of (a ∷ []) = cond (bytes_eq a (codes "tick")) (Some Ticks) None
line_of (a ∷ b ∷ []) = cond (bytes_eq a (codes "move")) (Some (Moves b)) (option_map (λ k. OnSwitch k b) (switch_of a))
line_of (a ∷ b ∷ c ∷ []) = cond (bytes_eq a (codes "send")) (Some (Sends b c)) (option_map (λ k. OnPort k b c) (port_of a))
line_of (a ∷ b ∷ c ∷ d ∷ []) = option_map (λ k. OnWire k b c d) (wire_of a)
line_of (a ∷ b ∷ c ∷ d ∷ e ∷ more) = None

pub line_back : (form : Line) → line_of (line_words form) ≡ Some form
line_back Ticks = refl
line_back (Moves k) = refl
line_back (OnSwitch switch.Clock n) = refl
line_back (OnSwitch switch.Handle n) = refl
line_back (OnSwitch switch.Load n) = refl
line_back (OnSwitch switch.Restart n) = refl
line_back (OnPort port.Take n p) = refl
line_back (OnPort port.Fail n p) = refl
line_back (OnPort port.Repair n p) = refl
line_back (OnWire wire.Lose n p m) = refl
line_back (OnWire wire.Again n p m) = refl
line_back (OnWire wire.Swap n p m) = refl
line_back (OnWire wire.Noise n p m) = refl
line_back (Sends h g) = refl

pub one_line : (f g : Line) → line_words f ≡ line_words g → f ≡ g
one_line f g same = let h : Some f ≡ Some g = sym (line_back f) ∙ ap line_of same ∙ line_back g in cc

-- events of the same words are one
one_event : (s : ScriptOf) → IsScript s → (e f : Event) → CanSpell s e → CanSpell s f → event_words s e ≡ event_words s f → e ≡ f
one_event s kept e f can can' same =
    sym (event_back s kept e can) ∙ ap (event_of s) (one_line (event_line s e) (event_line s f) same) ∙ event_back s kept f can'

-- no line of words with the form of an event is the last
last_has_none : line_of last_words ≡ None
last_has_none = refl

pub not_last : (form : Line) → line_words form ≢ last_words
not_last form same = let h : Some form ≡ None = sym (line_back form) ∙ ap line_of same ∙ last_has_none in absurd (cc)

-- the words of events are printed words

switch_name_word : (s : ScriptOf) → IsScript s → (x : ℕ) → x < length s.wires.switches → IsWord (switch_name s x)
switch_name_word s kept x low = name_word (switch_name s x) (All-get_or IsName s.switch_names x [] (omega (arith, kept.switch_count)) kept.switch_names)

host_name_word : (s : ScriptOf) → IsScript s → (h : ℕ) → h < length s.wires.hosts → IsWord (host_name s h)
host_name_word s kept h low = name_word (host_name s h) (All-get_or IsName s.names_of_hosts h [] (omega (arith, kept.host_count)) kept.names_of_hosts)

one_word : (s : ScriptOf) → IsScript s → (w : List ℕ) → IsWord w → (x : ℕ) → x < length s.wires.switches → All IsWord (w ∷ switch_name s x ∷ [])
one_word s kept w is x low = words_cons w (switch_name s x ∷ []) is (words_cons (switch_name s x) [] (switch_name_word s kept x low) words_nil)

port_words : (s : ScriptOf) → IsScript s → (w : List ℕ) → IsWord w → (x p : ℕ) → IsPort s.wires x p → All IsWord (w ∷ switch_name s x ∷ decimal p ∷ [])
port_words s kept w is x p at = words_cons w (switch_name s x ∷ decimal p ∷ []) is (words_cons (switch_name s x) (decimal p ∷ []) (switch_name_word s kept x at.switch) (words_cons (decimal p) [] (decimal_word p (let h = at.port_most in omega arith)) words_nil))

count_words : (s : ScriptOf) → IsScript s → (w : List ℕ) → IsWord w → (x p n most : ℕ) → most ≤ 1000000 → IsCount s x p n most → All IsWord (w ∷ switch_name s x ∷ decimal p ∷ decimal n ∷ [])
count_words s kept w is x p n most fits at = words_cons w (switch_name s x ∷ decimal p ∷ decimal n ∷ []) is (words_cons (switch_name s x) (decimal p ∷ decimal n ∷ []) (switch_name_word s kept x at.port.switch) (words_cons (decimal p) (decimal n ∷ []) (decimal_word p (let h = at.port.port_most in omega arith)) (words_cons (decimal n) [] (decimal_word n (let h = at.count_most in omega arith)) words_nil)))

pub words_are : (s : ScriptOf) → IsScript s → (e : Event) → CanSpell s e → All IsWord (event_words s e)
words_are s kept Tick can = words_cons (codes "tick") [] (fixed_word (codes "tick") refl (omega arith) (omega arith)) words_nil
words_are s kept (Clock x) can = one_word s kept (codes "clock") (fixed_word (codes "clock") refl (omega arith) (omega arith)) x can
words_are s kept (Take x p) can = port_words s kept (codes "take") (fixed_word (codes "take") refl (omega arith) (omega arith)) x p can
words_are s kept (Handle x) can = one_word s kept (codes "handle") (fixed_word (codes "handle") refl (omega arith) (omega arith)) x can
words_are s kept (Load x) can = one_word s kept (codes "load") (fixed_word (codes "load") refl (omega arith) (omega arith)) x can
words_are s kept (Fail x p) can = port_words s kept (codes "fail") (fixed_word (codes "fail") refl (omega arith) (omega arith)) x p can
words_are s kept (Repair x p) can = port_words s kept (codes "repair") (fixed_word (codes "repair") refl (omega arith) (omega arith)) x p can
words_are s kept (Lose x p n) can = count_words s kept (codes "lose") (fixed_word (codes "lose") refl (omega arith) (omega arith)) x p n 1000000 (omega arith) can
words_are s kept (Again x p n) can = count_words s kept (codes "again") (fixed_word (codes "again") refl (omega arith) (omega arith)) x p n 1000000 (omega arith) can
words_are s kept (Swap x p n) can = count_words s kept (codes "swap") (fixed_word (codes "swap") refl (omega arith) (omega arith)) x p n 1000000 (omega arith) can
words_are s kept (Noise x p n) can = count_words s kept (codes "noise") (fixed_word (codes "noise") refl (omega arith) (omega arith)) x p n 64 (omega arith) can
words_are s kept (Send h g) can = words_cons (codes "send") (host_name s h ∷ host_name s g ∷ []) (fixed_word (codes "send") refl (omega arith) (omega arith)) (words_cons (host_name s h) (host_name s g ∷ []) (host_name_word s kept h can.0) (words_cons (host_name s g) [] (host_name_word s kept g can.1) words_nil))
words_are s kept (Move k) can = words_cons (codes "move") (decimal k ∷ []) (fixed_word (codes "move") refl (omega arith) (omega arith)) (words_cons (decimal k) [] (decimal_word k (let h = can.1 in omega arith)) words_nil)
words_are s kept (Restart x) can = one_word s kept (codes "restart") (fixed_word (codes "restart") refl (omega arith) (omega arith)) x can

-- cut at spaces, a line of words gives them again
not_space : (c : ℕ) → IsPrinted c → eqb c 32 ≡ false
not_space c is = let h = is.0 in grind (arith, nat_tests)

pub cut_row : (row : List (List ℕ)) → 0 < length row → All IsWord row → slice_split (λ c. eqb c 32) (join_with_byte 32 row) ≡ row
cut_row [] some are = absurd (omega arith)
cut_row (w ∷ more) some are = split_words (λ c. eqb c 32) not_space refl w more are

-- lines of the same text have the same words
same_row : (row other : List (List ℕ)) → 0 < length row → 0 < length other → All IsWord row → All IsWord other → join_with_byte 32 row ≡ join_with_byte 32 other → row ≡ other
same_row row other some some' are are' same = sym (cut_row row some are) ∙ ap (slice_split (λ c. eqb c 32)) same ∙ cut_row other some' are'

-- a line of words has no line feed
not_feed : (c : ℕ) → IsLineByte c → c ≢ 10
not_feed c is same = elim is [ inl space ↦ omega arith | inr printed ↦ (let h = printed.0 in omega arith) ]

pub feed_free : (row : List (List ℕ)) → All IsWord row → All (λ c. c ≢ 10) (join_with_byte 32 row)
feed_free row are = All-weaker IsLineByte (λ c. c ≢ 10) not_feed (join_with_byte 32 row) (line_bytes row are)

-- bytes are cut at the first line feed in one way
pub cut_once : (xs ys us vs : List ℕ) → All (λ c. c ≢ 10) xs → All (λ c. c ≢ 10) us → xs ++ 10 ∷ ys ≡ us ++ 10 ∷ vs → (xs ≡ us) × (ys ≡ vs)
cut_once [] ys [] vs free other same = (refl, cc)
cut_once [] ys (u ∷ us) vs free other same = absurd (All-head (λ c. c ≢ 10) u us other (cc))
cut_once (x ∷ xs) ys [] vs free other same = absurd (All-head (λ c. c ≢ 10) x xs free (cc))
cut_once (x ∷ xs) ys (u ∷ us) vs free other same =
    let heads : x ≡ u = cc in
    let tails : xs ++ 10 ∷ ys ≡ us ++ 10 ∷ vs = cc in
    let cut = cut_once xs ys us vs (All-tail (λ c. c ≢ 10) x xs free) (All-tail (λ c. c ≢ 10) u us other) tails in
    (let front = cut.0 in (cc), cut.1)

-- what is cut off the front in one way
pub cut_front : (xs ys zs : List ℕ) → xs ++ ys ≡ xs ++ zs → ys ≡ zs
cut_front [] ys zs same = same
cut_front (x ∷ xs) ys zs same = cut_front xs ys zs (cc)

pub last_are : All IsWord last_words
last_are = words_cons (codes "end") [] (fixed_word (codes "end") refl (omega arith) (omega arith)) words_nil

pub form_words : (form : Line) → (0 < length (line_words form)) × (length (line_words form) ≤ 4)
form_words Ticks = (omega arith, omega arith)
form_words (Moves k) = (omega arith, omega arith)
form_words (OnSwitch e n) = (omega arith, omega arith)
form_words (OnPort e n p) = (omega arith, omega arith)
form_words (OnWire c n p m) = (omega arith, omega arith)
form_words (Sends h g) = (omega arith, omega arith)

pub some_words : (form : Line) → 0 < length (line_words form)
some_words form = (form_words form).0

-- two rows in front of bytes are one, and so is what follows
pub rows_once : (row other : List (List ℕ)) (xs ys : List ℕ) → 0 < length row → 0 < length other → All IsWord row → All IsWord other → line_text row ++ xs ≡ line_text other ++ ys → (row ≡ other) × (xs ≡ ys)
rows_once row other xs ys some some' are are' same =
    let h = cut_once (join_with_byte 32 row) xs (join_with_byte 32 other) ys (feed_free row are) (feed_free other are') (sym (append_assoc (join_with_byte 32 row) (10 ∷ []) xs) ∙ same ∙ append_assoc (join_with_byte 32 other) (10 ∷ []) ys) in
    (same_row row other some some' are are' h.0, h.1)

-- the events before the last line are one list
one_list : (s : ScriptOf) → IsScript s → (es fs : List Event) (xs ys : List ℕ) → All (CanSpell s) es → All (CanSpell s) fs → (events_text s es ++ line_text last_words) ++ xs ≡ (events_text s fs ++ line_text last_words) ++ ys → es ≡ fs
one_list s kept [] [] xs ys can can' same = refl
one_list s kept [] (f ∷ fs) xs ys can can' same =
    let is = All-head (CanSpell s) f fs can' in
    let h = rows_once last_words (event_words s f) xs ((events_text s fs ++ line_text last_words) ++ ys) (omega arith) (some_words (event_line s f)) last_are (words_are s kept f is)
    (same ∙ ap (λ (b : List ℕ). b ++ ys) (append_assoc (line_text (event_words s f)) (events_text s fs) (line_text last_words)) ∙ append_assoc (line_text (event_words s f)) (events_text s fs ++ line_text last_words) ys) in
    absurd (not_last (event_line s f) (sym h.0))
one_list s kept (e ∷ es) [] xs ys can can' same =
    let is = All-head (CanSpell s) e es can in
    let h = rows_once last_words (event_words s e) ys ((events_text s es ++ line_text last_words) ++ xs) (omega arith) (some_words (event_line s e)) last_are (words_are s kept e is)
    (sym same ∙ ap (λ (b : List ℕ). b ++ xs) (append_assoc (line_text (event_words s e)) (events_text s es) (line_text last_words)) ∙ append_assoc (line_text (event_words s e)) (events_text s es ++ line_text last_words) xs) in
    absurd (not_last (event_line s e) (sym h.0))
one_list s kept (e ∷ es) (f ∷ fs) xs ys can can' same =
    let is = All-head (CanSpell s) e es can in
    let is' = All-head (CanSpell s) f fs can' in
    let front = λ (g : Event) (gs : List Event) (zs : List ℕ). ap (λ (b : List ℕ). b ++ zs) (append_assoc (line_text (event_words s g)) (events_text s gs) (line_text last_words)) ∙ append_assoc (line_text (event_words s g)) (events_text s gs ++ line_text last_words) zs in
    let h = rows_once (event_words s e) (event_words s f) ((events_text s es ++ line_text last_words) ++ xs) ((events_text s fs ++ line_text last_words) ++ ys) (some_words (event_line s e)) (some_words (event_line s f)) (words_are s kept e is) (words_are s kept f is') (sym (front e es xs) ∙ same ∙ front f fs ys) in
    let head = one_event s kept e f is is' h.0 in
    let tail = one_list s kept es fs xs ys (All-tail (CanSpell s) e es can) (All-tail (CanSpell s) f fs can') h.1 in
    cc

-- no bytes begin with the text of two journals
pub one_journal : (s : ScriptOf) (bytes : List ℕ) (es fs : List Event) → IsScript s → IsJournal s bytes es → IsJournal s bytes fs → es ≡ fs
unfolding journal_text
one_journal s bytes es fs kept one other =
    one_list s kept es fs one.after other.after one.spelled other.spelled
    (cut_front (line_text first_words) ((events_text s es ++ line_text last_words) ++ one.after) ((events_text s fs ++ line_text last_words) ++ other.after)
    (sym (append_assoc (line_text first_words) (events_text s es ++ line_text last_words) one.after) ∙ sym one.text ∙ other.text ∙ append_assoc (line_text first_words) (events_text s fs ++ line_text last_words) other.after))

-- the text of a journal is its
pub text_is : (s : ScriptOf) (es : List Event) → All (CanSpell s) es → IsJournal s (journal_text s es) es
text_is s es spelled = record { spelled = spelled; after = []; text = sym (append-nil (journal_text s es)) }
