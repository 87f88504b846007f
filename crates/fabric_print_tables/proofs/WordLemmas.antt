-- What the printed lines say.
use Rattle.std.proofs.Common.{◌≡◌, ◌∙◌, sym, refl, ℕ, ◌+◌, ◌-◌, ◌*◌, ◌/◌, ◌%◌, ◌^◌, ◌<◌, ◌≤◌, List, [], ◌∷◌, ◌++◌, arith, length, length-append, All, Some, None, Ok, Bool, true, false, ◌&&◌, eqb, ltb}
use Rattle.std.proofs.Math.Bool.{and-false}
use Rattle.std.specs.Prelude.{codes, if◌then◌else◌, is_some}
use Rattle.std.specs.Fmt.{decimal}
use Rattle.std.specs.List.{list_all, join_with_byte}
use Rattle.std.specs.Char.{is_ascii_digit, digit_value}
use Rattle.std.specs.Str.{bytes_eq}
use Rattle.std.proofs.lemmas.Bool.{and_parts}
use Rattle.std.proofs.lemmas.Bool.Decides.{nat_tests}
use Rattle.std.proofs.lemmas.Fmt.{digits_decimal, decimal_nonempty}
use Rattle.std.proofs.lemmas.List.Elements.{All-nil, All-cons, All-append}
use Rattle.common_lines.specs.Lines.{line_text}
use Rattle.common_lines.specs.Words.{hex_glyph, hex_text}
use Rattle.common_lines.proofs.SpellLemmas.{IsPrinted, IsWord, decimal_word, fixed_word, glyph_digit, glyph_value, hex_digits, hex_printed, hex_says, length-hex_text, line_short, line_words, words_cons, words_nil}
use Rattle.common_lines.proofs.WordLemmas.{own}
use Rattle.fabric_words.specs.Cuts.{after, begins, cut_first}
use Rattle.fabric_words.specs.Digits.{guid, hex}
use Rattle.fabric_words.specs.Rows.{row}
use Rattle.fabric_words.proofs.RowLemmas.{four, row_is, three}
use Rattle.fabric_read_tables.specs.declared.line.TableLine.TheVariants.{Head, Row, End, PlainHead, PlainEnd}
use Rattle.fabric_read_tables.specs.TableLines.{table_guid, said_by, said_in}
use Rattle.fabric_read_tables.proofs.SaidLemmas.{said_by_words}
use Rattle.fabric_print_tables.specs.Printed.{end_words, head_words, lid_word, port_word, row_words}
use Rattle.fabric_print_tables.specs.Texts.{guid_word}

-- the words of each line
zero_x : IsWord (codes "0x")
zero_x = fixed_word (codes "0x") refl (omega arith) (omega arith)

hex_word : (k n : ℕ) → k ≤ 16 → IsWord (codes "0x" ++ hex_text k n)
hex_word k n few = record {
  bytes = All-append IsPrinted (codes "0x") (hex_text k n) zero_x.bytes (hex_printed k n);
  some = omega (arith, length-append (codes "0x") (hex_text k n));
  most = omega (arith, length-append (codes "0x") (hex_text k n), length-hex_text k n);
}

port_is_word : (port : ℕ) → port < 256 → IsWord (port_word port)
port_is_word port low =
    let a : IsPrinted (48 + port / 100) = (omega arith, omega arith) in
    let b : IsPrinted (48 + port / 10 % 10) = (omega arith, omega arith) in
    let c : IsPrinted (48 + port % 10) = (omega arith, omega arith) in
    record {
      bytes = All-cons IsPrinted (48 + port / 100) ((48 + port / 10 % 10) ∷ (48 + port % 10) ∷ []) a (All-cons IsPrinted (48 + port / 10 % 10) ((48 + port % 10) ∷ []) b (All-cons IsPrinted (48 + port % 10) [] c (All-nil IsPrinted)));
      some = omega arith;
      most = omega arith;
    }

pub row_are : (lid port : ℕ) → port < 256 → All IsWord (row_words lid port)
row_are lid port low = words_cons (lid_word lid) (port_word port ∷ []) (hex_word 4 lid (omega arith)) (words_cons (port_word port) [] (port_is_word port low) words_nil)

pub head_are : (g : ℕ) → All IsWord (head_words g)
head_are g =
    words_cons (codes "Unicast") (codes "lids" ∷ codes "of" ∷ codes "switch" ∷ codes "guid" ∷ guid_word g ∷ []) (fixed_word (codes "Unicast") refl (omega arith) (omega arith))
    (words_cons (codes "lids") (codes "of" ∷ codes "switch" ∷ codes "guid" ∷ guid_word g ∷ []) (fixed_word (codes "lids") refl (omega arith) (omega arith))
    (words_cons (codes "of") (codes "switch" ∷ codes "guid" ∷ guid_word g ∷ []) (fixed_word (codes "of") refl (omega arith) (omega arith))
    (words_cons (codes "switch") (codes "guid" ∷ guid_word g ∷ []) (fixed_word (codes "switch") refl (omega arith) (omega arith))
    (words_cons (codes "guid") (guid_word g ∷ []) (fixed_word (codes "guid") refl (omega arith) (omega arith))
    (words_cons (guid_word g) [] (hex_word 16 g (omega arith)) words_nil)))))

pub end_are : (n : ℕ) → n < 2 ^ 64 → All IsWord (end_words n)
end_are n low =
    words_cons (decimal n) (codes "lids" ∷ codes "dumped" ∷ []) (decimal_word n low)
    (words_cons (codes "lids") (codes "dumped" ∷ []) (fixed_word (codes "lids") refl (omega arith) (omega arith))
    (words_cons (codes "dumped") [] (fixed_word (codes "dumped") refl (omega arith) (omega arith)) words_nil))

-- the bytes of a row
pub row_bytes : (lid port a b c d : ℕ) → a ≡ hex_glyph (lid / 16 / 16 / 16 % 16) → b ≡ hex_glyph (lid / 16 / 16 % 16) → c ≡ hex_glyph (lid / 16 % 16) → d ≡ hex_glyph (lid % 16) → (48 ∷ 120 ∷ a ∷ b ∷ c ∷ d ∷ 32 ∷ (48 + port / 100) ∷ (48 + port / 10 % 10) ∷ (48 + port % 10) ∷ 10 ∷ []) ≡ line_text (row_words lid port)
unfolding hex_text
row_bytes lid port a b c d first second third fourth = rw (first, second, third, fourth) refl

-- what a row says
decimal_digit : (d : ℕ) → d < 10 → is_ascii_digit (48 + d) ≡ true
decimal_digit d low = grind (arith, nat_tests)

port_digits : (port : ℕ) → port < 256 → (is_ascii_digit (48 + port / 100) && (is_ascii_digit (48 + port / 10 % 10) && is_ascii_digit (48 + port % 10))) ≡ true
port_digits port low = rw (decimal_digit (port / 100) (omega arith), decimal_digit (port / 10 % 10) (omega arith), decimal_digit (port % 10) (omega arith)) refl

lid_said : (lid : ℕ) → lid < 0xC000 → lid ≡ digit_value (hex_glyph (lid / 16 / 16 / 16 % 16)) * 4096 + digit_value (hex_glyph (lid / 16 / 16 % 16)) * 256 + digit_value (hex_glyph (lid / 16 % 16)) * 16 + digit_value (hex_glyph (lid % 16))
lid_said lid low = rw (glyph_value (lid / 16 / 16 / 16 % 16) (omega arith), glyph_value (lid / 16 / 16 % 16) (omega arith), glyph_value (lid / 16 % 16) (omega arith), glyph_value (lid % 16) (omega arith)) (omega arith)

port_said : (port : ℕ) → port < 256 → port ≡ (48 + port / 100 - 48) * 100 + (48 + port / 10 % 10 - 48) * 10 + (48 + port % 10 - 48)
port_said port low = omega arith

row_of : (lid port : ℕ) → lid < 0xC000 → port < 256 → Some (lid, port) ≡ row (join_with_byte 32 (row_words lid port))
unfolding hex_text
row_of lid port low small =
    row_is (join_with_byte 32 (row_words lid port)) lid port refl
    (four _ _ _ _ lid (glyph_digit (lid / 16 / 16 / 16 % 16) (omega arith)) (glyph_digit (lid / 16 / 16 % 16) (omega arith)) (glyph_digit (lid / 16 % 16) (omega arith)) (glyph_digit (lid % 16) (omega arith)) (lid_said lid low))
    (three _ _ _ port (port_digits port small) (port_said port small) (omega arith))

pub row_said : (lid port : ℕ) → lid < 0xC000 → port < 256 → said_in (join_with_byte 32 (row_words lid port)) ≡ Ok (Row lid port)
unfolding hex_text said_in after
row_said lid port low small =
    let t : ltb 49151 lid ≡ false = grind (arith, nat_tests) in
    rw (← row_of lid port low small, t) refl

-- what a head says
guid_said : (g : ℕ) → g < 2 ^ 64 → guid (hex_text 16 g) ≡ Some g
unfolding guid hex
guid_said g low = rw (length-hex_text 16 g, hex_digits 16 g, hex_says 16 g (omega arith)) refl

table_guid_is : (g : ℕ) → table_guid (join_with_byte 32 (head_words g)) ≡ guid (hex_text 16 g)
unfolding hex_text cut_first
table_guid_is g = refl

pub head_said : (g : ℕ) → g < 2 ^ 64 → said_in (join_with_byte 32 (head_words g)) ≡ Ok (Head g)
unfolding hex_text said_in after
head_said g low = rw (table_guid_is g ∙ guid_said g low) refl

-- what the last line of a table says
digit_range : (c : ℕ) → is_ascii_digit c ≡ true → (48 ≤ c) × (c ≤ 57)
digit_range c t = (grind (arith, nat_tests), grind (arith, nat_tests))

none_of : (passes : Bool) (rest : List ℕ) → passes ≡ false → is_some (if passes then Some rest else None) ≡ false
none_of true rest e = e
none_of false rest e = refl

-- no line that begins with a byte from 48 to 57, and then with one below 58, is of another form
no_front : (c d : ℕ) (rest : List ℕ) → 48 ≤ c → c ≤ 57 → d ≤ 57 → (begins (codes "0x") (c ∷ d ∷ rest) ≡ false) × (begins (codes "Unicast lids ") (c ∷ d ∷ rest) ≡ false) × (begins (codes "*** WARNING ***") (c ∷ d ∷ rest) ≡ false)
unfolding after
no_front c d rest low high below =
    let x : eqb d 120 ≡ false = grind (arith, nat_tests) in
    let u : eqb c 85 ≡ false = grind (arith, nat_tests) in
    let s : eqb c 42 ≡ false = grind (arith, nat_tests) in
    (none_of (bytes_eq (c ∷ d ∷ []) (codes "0x")) rest (rw x (and-false (eqb c 48))), rw u refl, rw s refl)

no_form : (w rest : List ℕ) → list_all is_ascii_digit w ≡ true → 0 < length w → (begins (codes "0x") (w ++ 32 ∷ rest) ≡ false) × (begins (codes "Unicast lids ") (w ++ 32 ∷ rest) ≡ false) × (begins (codes "*** WARNING ***") (w ++ 32 ∷ rest) ≡ false)
no_form [] rest all some = absurd (omega arith)
no_form (c ∷ []) rest all some =
    let first = digit_range c (and_parts (is_ascii_digit c) true all).0 in
    no_front c 32 rest first.0 first.1 (omega arith)
no_form (c ∷ d ∷ w) rest all some =
    let parts = and_parts (is_ascii_digit c) (list_all is_ascii_digit (d ∷ w)) all in
    let first = digit_range c parts.0 in
    let second = digit_range d (and_parts (is_ascii_digit d) (list_all is_ascii_digit w) parts.1).0 in
    no_front c d (w ++ 32 ∷ rest) first.0 first.1 second.1

end_by : (w : List ℕ) → list_all is_ascii_digit w ≡ true → said_by (w ∷ codes "lids" ∷ codes "dumped" ∷ []) ≡ Ok End
end_by w all = rw (and-false (bytes_eq w (codes "Lid")), all) refl

pub end_said : (n : ℕ) → n < 2 ^ 64 → said_in (join_with_byte 32 (end_words n)) ≡ Ok End
end_said n low =
    let all = digits_decimal own n low in
    let no = no_form (decimal n) (join_with_byte 32 (codes "lids" ∷ codes "dumped" ∷ [])) all (decimal_nonempty n low) in
    said_by_words (join_with_byte 32 (end_words n)) (end_words n) (omega (arith, line_short (end_words n) (end_are n low))) no.0 no.1 no.2 (sym (line_words (end_words n) (omega arith) (end_are n low)))
    ∙ end_by (decimal n) all

-- what the two lines say of the text of tables of no switches
pub plain_are : All IsWord (codes "tables" ∷ codes "1" ∷ [])
plain_are =
    words_cons (codes "tables") (codes "1" ∷ []) (fixed_word (codes "tables") refl (omega arith) (omega arith))
    (words_cons (codes "1") [] (fixed_word (codes "1") refl (omega arith) (omega arith)) words_nil)

pub plain_end_are : All IsWord (codes "end" ∷ [])
plain_end_are = words_cons (codes "end") [] (fixed_word (codes "end") refl (omega arith) (omega arith)) words_nil

pub plain_said : said_in (join_with_byte 32 (codes "tables" ∷ codes "1" ∷ [])) ≡ Ok PlainHead
unfolding after
plain_said =
    let words = codes "tables" ∷ codes "1" ∷ [] in
    said_by_words (join_with_byte 32 words) words (omega arith) refl refl refl (sym (line_words words (omega arith) plain_are))

pub plain_end_said : said_in (join_with_byte 32 (codes "end" ∷ [])) ≡ Ok PlainEnd
unfolding after
plain_end_said =
    let words = codes "end" ∷ [] in
    said_by_words (join_with_byte 32 words) words (omega arith) refl refl refl (sym (line_words words (omega arith) plain_end_are))
