-- The first line of bytes: where it ends, and the row that it may be.
use Rattle.std.proofs.Common.{◌≡◌, ◌∙◌, sym, ap, refl, ℕ, ◌-◌, ◌<◌, ◌≤◌, inl, inr, List, [], ◌∷◌, arith, length, length-take, get_or, take, Option, Some, None, Ok, Bool, true, false, eqb, ltb, cond, ◌&&◌}
use Rattle.std.specs.Prelude.{codes, is_some, IsSome, if◌then◌else◌}
use borrow.Author.Count.{below_more}
use Rattle.std.specs.List.{position}
use Rattle.std.specs.Str.Lines.{strip_carriage_return}
use Rattle.std.proofs.lemmas.Bool.{false≢true, cases_lt, eqb-true, eq-eqb, leb-true}
use Rattle.std.proofs.lemmas.Bool.Decides.{nat_tests}
use Rattle.std.proofs.lemmas.List.{get_or-take}
use Rattle.std.proofs.lemmas.List.Quantifiers.{position-Some}
use Rattle.memchr.specs.Find.{IsFirstByte, TakesFirst, is_byte, places, first_of}
use Rattle.memchr.proofs.lemmas.ValueLemmas.{IsFirstByte-value}
use Rattle.common_lines.proofs.LineLemmas.{first_position, position_none}
use Rattle.fabric_words.specs.Cuts.{after, begins}
use Rattle.fabric_words.specs.Rows.{row}
use Rattle.fabric_words.proofs.RowLemmas.{row_parts, row_front, row_free, row_space, row_by_front}
use Rattle.fabric_read_tables.specs.declared.line.TableLine.TheVariants.{Row}
use Rattle.fabric_read_lines.specs.Pieces.{is_feed}
use Rattle.fabric_read_tables.specs.TableLines.{said_in}

-- the first of the places at which a byte stands
is_first : (byte : ℕ) (xs : List ℕ) (r : Option ℕ) → position (λ c. eqb c byte) xs ≡ r → IsFirstByte (is_byte byte) xs r
is_first byte xs None at = λ k low high hit. false≢true (sym (position_none (λ c. eqb c byte) xs 0 at k high) ∙ hit)
is_first byte xs (Some i) at =
    let here = position-Some (λ c. eqb c byte) xs i 0 at in
    (record { low = omega arith; high = here.0; before = λ k low high hit. false≢true (sym (here.2 k high) ∙ hit) }, here.1)

first_of_none : None ≡ first_of []
unfolding first_of
first_of_none = refl

first_of_more : (i : ℕ) (rest : List ℕ) → Some i ≡ first_of (i ∷ rest)
unfolding first_of
first_of_more i rest = refl

taken : (old new : List ℕ) (r : Option ℕ) → TakesFirst old r new → r ≡ first_of old
taken old new None takes = first_of_none ∙ sym (ap first_of takes.0)
taken old new (Some i) takes = first_of_more i new ∙ sym (ap first_of takes)

pub first_place : (byte : ℕ) (xs old new : List ℕ) (r : Option ℕ) → old ≡ places (is_byte byte) xs → TakesFirst old r new → r ≡ position (λ c. eqb c byte) xs
first_place byte xs old new r are takes =
    let at = position (λ c. eqb c byte) xs in
    taken old new r takes ∙ ap first_of are ∙ sym (IsFirstByte-value (is_byte byte) xs at (is_first byte xs at refl))

-- a place before which no line feed stands
feed_at : (bytes : List ℕ) (end : ℕ) → end < length bytes → get_or bytes end 0 ≡ 10 → ((k : ℕ) → k < end → eqb (get_or bytes k 0) 10 ≡ false) → position is_feed bytes ≡ Some end
feed_at bytes end within feed free =
    sym (first_position 10 bytes (Some end) (record { low = omega arith; high = within; before = λ k low high hit. false≢true (sym (free k high) ∙ hit) }, eq-eqb (get_or bytes end 0) 10 feed))

-- some row
found_of : (r : Option (ℕ × ℕ)) → IsSome r → (found : ℕ × ℕ) × (r ≡ Some found)
found_of (Some found) some = (found, refl)
found_of None some = absurd (false≢true some)

free_space : (bytes : List ℕ) → IsSome (row bytes) → 10 < length bytes → (k : ℕ) → k < 11 → eqb (get_or bytes k 0) 10 ≡ false
free_space bytes some long =
    let it = found_of (row bytes) some in
    let space : eqb (get_or bytes 10 0) 10 ≡ false = rw (row_space bytes it.0 it.1 long) refl in
    below_more (λ k. eqb (get_or bytes k 0) 10 ≡ false) 10 (row_free bytes it.0 it.1) space

-- the line feed of a bare row
pub second_byte : (bytes : List ℕ) → IsSome (row bytes) → 13 ≤ length bytes → get_or bytes 11 0 ≡ 10 → position is_feed bytes ≡ Some 11
second_byte bytes some long feed = feed_at bytes 11 (omega arith) feed (free_space bytes some (omega arith))

pub third_byte : (bytes : List ℕ) → IsSome (row bytes) → 13 ≤ length bytes → eqb (get_or bytes 11 0) 10 ≡ false → get_or bytes 12 0 ≡ 10 → position is_feed bytes ≡ Some 12
third_byte bytes some long other feed =
    feed_at bytes 12 (omega arith) feed (below_more (λ k. eqb (get_or bytes k 0) 10 ≡ false) 11 (free_space bytes some (omega arith)) other)

-- the front of a line is that of its bytes, unless the carriage return that ends it stands there
record IsFront (bytes : List ℕ) (end : ℕ) (line : List ℕ) : Type 0 where
  long : 10 < length line
  short : length line ≤ end
  same : (k : ℕ) → k < 11 → get_or line k 0 ≡ get_or bytes k 0

front_by : (bytes : List ℕ) (end : ℕ) (b : Bool) → eqb (get_or (take end bytes) (length (take end bytes) - 1) 0) 13 ≡ b → 10 < end → end ≤ length bytes → get_or bytes 10 0 ≡ 32 → IsFront bytes end (cond b (take (length (take end bytes) - 1) (take end bytes)) (take end bytes))
front_by bytes end true returns low high space =
    let line = take end bytes in
    let size : length line ≡ end = omega (arith, length-take end bytes) in
    let place : get_or line (length line - 1) 0 ≡ get_or bytes (end - 1) 0 = get_or-take end bytes (length line - 1) 0 (omega (arith, size)) ∙ ap (λ (n : ℕ). get_or bytes (n - 1) 0) size in
    let last : get_or bytes (end - 1) 0 ≡ 13 = sym place ∙ eqb-true (get_or line (length line - 1) 0) 13 returns in
    let more : 11 < end = elim (cases_lt 11 end) [
      | inl more ↦ more
      | inr few ↦ (let same : end - 1 ≡ 10 = omega arith in let other : get_or bytes 10 0 ≡ 13 = sym (ap (λ (n : ℕ). get_or bytes n 0) same) ∙ last in absurd (omega arith))
    ] in
    record {
      long = omega (arith, size, length-take (length line - 1) line);
      short = omega (arith, size, length-take (length line - 1) line);
      same = λ k below. get_or-take (length line - 1) line k 0 (omega (arith, size)) ∙ get_or-take end bytes k 0 (omega arith);
    }
front_by bytes end false other low high space = record {
  long = omega (arith, length-take end bytes);
  short = omega (arith, length-take end bytes);
  same = λ k below. get_or-take end bytes k 0 (omega arith);
}

-- a line that begins with the two bytes of a row
if_some : (passes : Bool) (rest : List ℕ) → passes ≡ true → is_some (if passes then Some rest else None) ≡ true
if_some true rest holds = refl
if_some false rest holds = absurd (false≢true holds)

begins_row : (line : List ℕ) → 2 ≤ length line → eqb (get_or line 0 0) 48 ≡ true → eqb (get_or line 1 0) 120 ≡ true → begins (codes "0x") line ≡ true
unfolding after
begins_row [] long zero x = absurd (omega arith)
begins_row (a ∷ []) long zero x = absurd (omega arith)
begins_row (a ∷ b ∷ rest) long zero x = if_some (eqb a 48 && (eqb b 120 && true)) rest (rw (zero, x) refl)

-- a line that is a row
said_row : (line : List ℕ) (lid port : ℕ) → row line ≡ Some (lid, port) → length line ≤ 4096 → lid ≤ 0xbfff → said_in line ≡ Ok (Row lid port)
unfolding said_in
said_row line lid port says short unicast =
    let front = row_front line ((row_parts line (lid, port) says).0) in
    let long : 2 ≤ length line = omega (arith, leb-true 10 (length line) front.0) in
    let first : begins (codes "0x") line ≡ true = begins_row line long front.1 front.2 in
    let t : ltb 4096 (length line) ≡ false = grind (arith, nat_tests) in
    let u : ltb 0xbfff lid ≡ false = grind (arith, nat_tests) in
    rw (t, first, says, u) refl

-- .. and begins bytes
end_past : (bytes : List ℕ) (end : ℕ) (found : ℕ × ℕ) → row bytes ≡ Some found → position is_feed bytes ≡ Some end → 10 ≤ end
end_past bytes end found says at = elim (cases_lt end 10) [
  | inl low ↦ absurd (false≢true (sym (row_free bytes found says end low) ∙ (position-Some is_feed bytes end 0 at).1))
  | inr past ↦ past
]

pub row_begins : (bytes : List ℕ) (end lid port : ℕ) → row bytes ≡ Some (lid, port) → position is_feed bytes ≡ Some end → lid ≤ 0xbfff → end ≤ 4096 → said_in (strip_carriage_return (take end bytes)) ≡ Ok (Row lid port)
row_begins bytes end lid port says at unicast short =
    let here = position-Some is_feed bytes end 0 at in
    let past = end_past bytes end (lid, port) says at in
    let within : end < length bytes = here.0 in
    let space = row_space bytes (lid, port) says (omega arith) in
    let feed : get_or bytes end 0 ≡ 10 = eqb-true (get_or bytes end 0) 10 here.1 in
    let more : 10 < end = elim (cases_lt 10 end) [
      | inl more ↦ more
      | inr few ↦ (let same : end ≡ 10 = omega arith in let other : get_or bytes 10 0 ≡ 10 = sym (ap (λ (n : ℕ). get_or bytes n 0) same) ∙ feed in absurd (omega arith))
    ] in
    let line = strip_carriage_return (take end bytes) in
    let front : IsFront bytes end line = front_by bytes end (eqb (get_or (take end bytes) (length (take end bytes) - 1) 0) 13) refl more (omega arith) space in
    said_row line lid port (row_by_front line bytes front.long (omega arith) front.same ∙ says) (omega (arith, front.short)) unicast
