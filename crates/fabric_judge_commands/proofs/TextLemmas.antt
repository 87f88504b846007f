-- The row of a rank, read again.
use Rattle.std.proofs.Common.{◌≡◌, ◌∙◌, sym, ap, refl, ℕ, ◌+◌, ◌-◌, ◌^◌, ◌<◌, ◌≤◌, ◌&&◌, Bool, true, cond, leb, List, [], ◌∷◌, ◌++◌, length, length-append, take, drop, All, Option, Some, None, Ok, arith}
use Rattle.std.specs.Prelude.{codes, option_and_then}
use Rattle.std.specs.Fmt.{decimal}
use Rattle.std.specs.List.{join_with_byte}
use Rattle.std.specs.Str.{bytes_eq}
use Rattle.std.specs.Str.Parse.{digits_value}
use Rattle.std.proofs.lemmas.List.{drop_at, take_at}
use Rattle.std.proofs.lemmas.List.Elements.{All-append}
use Rattle.common_lines.specs.Words.{hex_text, is_number, is_number_in, number_value}
use Rattle.common_lines.proofs.SpellLemmas.{IsPrinted, IsWord, decimal_number, decimal_value, decimal_word, fixed_word, ge_test, hex_digits, hex_printed, hex_says, le_test, length-hex_text, line_short, line_words, words_cons, words_nil}
use Rattle.fabric_words.specs.Cuts.{after}
use Rattle.fabric_words.specs.Digits.{hex, hex_after, is_hex, number_to}
use Rattle.fabric_words.specs.Says.{or_cause}
use Rattle.fabric_words.proofs.DigitLemmas.{hex_of_digits}
use Rattle.fabric_words.specs.declared.ranks_cause.RanksCause.TheVariants.{BadGuid, BadPort, BadRank}
use Rattle.fabric_read_ranks.specs.declared.line.RankLine.TheVariants.{Head, Rank as RankSaid}
use Rattle.fabric_read_ranks.specs.RankLines.{said_in}
use Rattle.fabric_read_ranks.proofs.RankLemmas.{said_words}
use Rattle.fabric_print.specs.declared.ranks.Rank.{Rank}
use Rattle.fabric_print.specs.Answers.{Row, guid_word}
use Rattle.fabric_print.specs.Ranks.{rank_row}

pick : {X : Type 0} (b : Bool) (o : Option X) → b ≡ true → cond b o None ≡ o
pick b o is = rw is refl

all_three : (a b c : Bool) → a ≡ true → b ≡ true → c ≡ true → (a && (b && c)) ≡ true
all_three a b c one two three = rw (one, two, three) refl

-- a GUID, and numbers in decimal
guid_is_word : (guid : ℕ) → IsWord (guid_word guid)
guid_is_word guid = record {
  bytes = All-append IsPrinted (codes "0x") (hex_text 16 guid) (fixed_word (codes "0x") refl (omega arith) (omega arith)).bytes (hex_printed 16 guid);
  some = omega (arith, length-append (codes "0x") (hex_text 16 guid));
  most = omega (arith, length-append (codes "0x") (hex_text 16 guid), length-hex_text 16 guid);
}

after_back : (front rest : List ℕ) → bytes_eq front front ≡ true → after front (front ++ rest) ≡ Some rest
unfolding after
after_back front rest same =
    pick (bytes_eq (take (length front) (front ++ rest)) front) (Some (drop (length front) (front ++ rest))) (ap (λ (w : List ℕ). bytes_eq w front) (take_at front rest (length front) refl) ∙ same)
    ∙ ap (λ (w : List ℕ). Some w) (drop_at front rest (length front) refl)

hex_back : (guid : ℕ) → guid < 2 ^ 64 → hex (hex_text 16 guid) ≡ Some guid
unfolding hex
hex_back guid low =
    let size = length-hex_text 16 guid in
    pick (is_hex (hex_text 16 guid)) (Some (digits_value 16 (hex_text 16 guid))) (hex_of_digits (hex_text 16 guid) (omega arith) (omega arith) (hex_digits 16 guid))
    ∙ ap (λ (n : ℕ). Some n) (hex_says 16 guid (omega arith))

guid_back : (guid : ℕ) → guid < 2 ^ 64 → hex_after (guid_word guid) ≡ Some guid
guid_back guid low = ap (option_and_then hex) (after_back (codes "0x") (hex_text 16 guid) refl) ∙ hex_back guid low

number_back : (most n : ℕ) → n < 2 ^ 64 → n ≤ most → number_to most (decimal n) ≡ Some n
number_back most n low le =
    let says = decimal_value n low in
    pick (is_number_in 0 most (decimal n)) (Some (number_value (decimal n))) (all_three (is_number (decimal n)) (leb 0 (number_value (decimal n))) (leb (number_value (decimal n)) most) (decimal_number n low) (le_test 0 (number_value (decimal n)) n says (omega arith)) (ge_test (number_value (decimal n)) most n says le))
    ∙ ap (λ (x : ℕ). Some x) says

said_with : (switch out own : Option ℕ) (guid port rank : ℕ) → switch ≡ Some guid → out ≡ Some port → own ≡ Some rank → or_cause switch BadGuid (λ s. or_cause out BadPort (λ p. or_cause own BadRank (λ r. Ok (RankSaid s p r)))) ≡ Ok (RankSaid guid port rank)
said_with switch out own guid port rank one two three = rw (one, two, three) refl

-- the head
abbrev pub head_row : Row
head_row = codes "ranks" ∷ codes "1" ∷ []

pub head_words : All IsWord head_row
head_words = words_cons (codes "ranks") (codes "1" ∷ []) (fixed_word (codes "ranks") refl (omega arith) (omega arith)) (words_cons (codes "1") [] (fixed_word (codes "1") refl (omega arith) (omega arith)) words_nil)

pub head_said : said_in (join_with_byte 32 head_row) ≡ Ok Head
head_said =
    let short = line_short head_row head_words in
    said_words (join_with_byte 32 head_row) head_row (omega arith) (sym (line_words head_row (omega arith) head_words))

-- the row of a rank whose numbers are those of its type
module _ (of : Rank) (guid : of.guid < 2 ^ 64) (port : of.port ≤ 255) (own : of.rank < 2 ^ 32) where
  pub row_words : All IsWord (rank_row of)
  row_words =
      words_cons (codes "rank") (guid_word of.guid ∷ decimal of.port ∷ decimal of.rank ∷ []) (fixed_word (codes "rank") refl (omega arith) (omega arith))
      (words_cons (guid_word of.guid) (decimal of.port ∷ decimal of.rank ∷ []) (guid_is_word of.guid)
      (words_cons (decimal of.port) (decimal of.rank ∷ []) (decimal_word of.port (omega arith))
      (words_cons (decimal of.rank) [] (decimal_word of.rank (omega arith)) words_nil)))

  pub row_said : said_in (join_with_byte 32 (rank_row of)) ≡ Ok (RankSaid of.guid of.port of.rank)
  row_said =
      let short = line_short (rank_row of) row_words in
      said_words (join_with_byte 32 (rank_row of)) (rank_row of) (omega arith) (sym (line_words (rank_row of) (omega arith) row_words))
      ∙ said_with (hex_after (guid_word of.guid)) (number_to 255 (decimal of.port)) (number_to (2 ^ 32 - 1) (decimal of.rank)) of.guid of.port of.rank (guid_back of.guid guid) (number_back 255 of.port (omega arith) port) (number_back (2 ^ 32 - 1) of.rank (omega arith) (omega arith))
