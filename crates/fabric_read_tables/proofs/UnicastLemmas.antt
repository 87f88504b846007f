-- Rows that are told are for unicast LIDs.
use Rattle.std.proofs.Common.{◌≡◌, subst, refl, ℕ, ◌≤◌, List, [], ◌∷◌, length, arith, Bool, true, false, cond, ltb, ◌&&◌, Option, Some, None, Ok, Err}
use Rattle.std.specs.Prelude.{IfOk, codes}
use Rattle.std.specs.Str.{bytes_eq}
use Rattle.std.proofs.lemmas.Bool.Decides.{nat_tests}
use Rattle.common_lines.specs.Lines.{words_of}
use Rattle.fabric_words.specs.Cuts.{begins}
use Rattle.fabric_words.specs.Digits.{decimal, hex_after}
use Rattle.fabric_words.specs.Rows.{row}
use Rattle.fabric_words.specs.Says.{or_cause}
use Rattle.fabric_read_tables.specs.declared.cause.TablesCause.{TablesCause}
use Rattle.fabric_read_tables.specs.declared.line.TableLine.{TableLine}
use Rattle.fabric_read_tables.specs.declared.line.TableLine.TheVariants.{ListedRow, PlainRow, Row}
use Rattle.fabric_read_tables.specs.TableLines.{Said, table_guid, is_count, is_lister, listed, listed_head, plain_port, plain_row, plain_table, printed_by, said_by, said_by_two, said_in, unicast}
use Rattle.fabric_read_tables.specs.Readings.{IsUnicast}

abbrev Fine : Said → Type 0
Fine said = IfOk said IsUnicast

either : (b : Bool) (one other : Said) → Fine one → Fine other → Fine (cond b one other)
either true one other is also = is
either false one other is also = also

or_none : {A : Type 0} (found : Option A) (cause : TablesCause) (next : A → Said) → ((value : A) → Fine (next value)) → Fine (or_cause found cause next)
or_none (Some value) cause next is = is value
or_none None cause next is = tt

unless : (lid : ℕ) (line : TableLine) (b : Bool) (cause : TablesCause) → ltb 0xbfff lid ≡ b → (lid ≤ 0xbfff → IsUnicast line) → Fine (cond b (Err cause) (Ok line))
unless lid line true cause over is = tt
unless lid line false cause within is = is (grind (arith, nat_tests))

-- a row
printed : (line : List ℕ) (found : Option (ℕ × ℕ)) → Fine (printed_by line found)
printed line (Some found) = unless found.0 (Row found.0 found.1) (ltb 0xbfff found.0) _ refl (λ low. low)
printed line None = or_none (listed line) _ (λ found. unicast found.0 (ListedRow found.0 found.1)) (λ found. unless found.0 (ListedRow found.0 found.1) (ltb 0xbfff found.0) _ refl (λ low. low))

plain : (lid port : List ℕ) → Fine (plain_row lid port)
plain lid port = or_none (decimal lid) _ _ (λ to. or_none (decimal port) _ (λ by. plain_port to by) (λ by. either (ltb 255 by) _ (unicast to (PlainRow to by)) tt (unless to (PlainRow to by) (ltb 0xbfff to) _ refl (λ low. low))))

-- words
by_two : (first second : List ℕ) → Fine (said_by_two first second)
by_two first second =
    either (bytes_eq first (codes "switch")) (plain_table second) _ (or_none (hex_after second) _ _ (λ found. tt))
    (either (bytes_eq first (codes "Port") && bytes_eq second (codes "Info")) _ _ tt
    (either (bytes_eq first (codes "tables") && bytes_eq second (codes "1")) _ (plain_row first second) tt (plain first second)))

by_words : (words : List (List ℕ)) → Fine (said_by words)
by_words [] = tt
by_words (first ∷ []) = either (bytes_eq first (codes "end")) _ _ tt tt
by_words (first ∷ second ∷ []) = by_two first second
by_words (first ∷ second ∷ third ∷ []) =
    either (bytes_eq first (codes "Lid") && (bytes_eq second (codes "Out") && bytes_eq third (codes "Destination"))) _ _ tt
    (either (is_count first && (bytes_eq second (codes "lids") && bytes_eq third (codes "dumped"))) _ _ tt
    (either (is_lister first && bytes_eq second (codes "Switch")) (listed_head third) _ (or_none (hex_after third) _ _ (λ found. tt)) tt))
by_words (first ∷ second ∷ third ∷ fourth ∷ []) = either (is_count first && (bytes_eq second (codes "valid") && (bytes_eq third (codes "lids") && bytes_eq fourth (codes "dumped")))) _ _ tt tt
by_words (first ∷ second ∷ third ∷ fourth ∷ fifth ∷ []) = tt
by_words (first ∷ second ∷ third ∷ fourth ∷ fifth ∷ sixth ∷ []) = tt
by_words (first ∷ second ∷ third ∷ fourth ∷ fifth ∷ sixth ∷ seventh ∷ []) =
    either (bytes_eq first (codes "LID") && (bytes_eq second (codes ":") && (bytes_eq third (codes "Port") && (bytes_eq fourth (codes ":") && (bytes_eq fifth (codes "Hops") && (bytes_eq sixth (codes ":") && bytes_eq seventh (codes "Optimal"))))))) _ _ tt tt
by_words (first ∷ second ∷ third ∷ fourth ∷ fifth ∷ sixth ∷ seventh ∷ eighth ∷ more) = tt

by_line : (line : List ℕ) → Fine (said_in line)
unfolding said_in
by_line line =
    either (ltb 4096 (length line)) _ _ tt
    (either (begins (codes "0x") line) (printed_by line (row line)) _ (printed line (row line))
    (either (begins (codes "Unicast lids ") line) _ _ (or_none (table_guid line) _ _ (λ found. tt))
    (either (begins (codes "*** WARNING ***") line) _ (said_by (words_of line)) tt (by_words (words_of line)))))

pub unicast_said : (line : List ℕ) (said : TableLine) → said_in line ≡ Ok said → IsUnicast said
unicast_said line said says = subst Fine says (by_line line)
