use Rattle.std.proofs.Common.{◌≡◌, ◌∙◌, sym, ap, subst, refl, ℕ, zero, suc, ◌+◌, ◌*◌, ◌-◌, ◌<◌, ◌≤◌, ◌^◌, ◌==◌, ◌&&◌, List, [], ◌∷◌, ◌++◌, append-nil, None, true, false, Bool, cond, arith, length, length-append, get_or, map, take, drop, eqb, ltb, leb, codes, inl, inr, All, AllPairs}
use Rattle.std.specs.List.{flat_map, list_all, list_any, filter, slice_split, before_first, after_first, position_or_len, range_with_len, zip}
use Rattle.std.specs.Str.{bytes_eq}
use Rattle.std.specs.Char.{is_ascii_digit}
use Rattle.std.specs.Fmt.{decimal}
use Rattle.std.proofs.lemmas.Bool.{cases_lt, and_parts, eqb-true, cases_eq}
use Rattle.std.proofs.lemmas.Bool.Decides.{nat_tests}
use Rattle.std.proofs.lemmas.Fmt.{digits_decimal, decimal_nonempty, length-decimal-le}
use Rattle.std.proofs.lemmas.List.{get_or_append_left, get_or_at, length-map, get_or-map}
use Rattle.std.proofs.lemmas.List.Elements.{All-head, All-tail, All-nil, All-cons, All-append, All-weaker, All-map, All-filter, filter_passes}
use Rattle.std.proofs.lemmas.List.Folds.{list_any_at}
use Rattle.std.proofs.lemmas.List.Splits.{slice_split_none, slice_split_at}
use Rattle.std.proofs.lemmas.List.Sums.{position_or_len_is}
use Rattle.std.proofs.lemmas.Slice.Eq.{bytes_eq-Decides}
use Rattle.std.proofs.Math.Seq.{take-append_seam, drop-append-add}
use Rattle.std.proofs.lemmas.List.Kept.{AllPairs-filter}
use Rattle.std.proofs.lemmas.List.FromFn.{length-range_with_len, get_or-range_with_len}
use Rattle.an_base.specs.Rows.{RowOf, ExitsRise}
use Rattle.an_base.specs.Values.{EntryOf, LifeId}
use Rattle.an_base.specs.Numbers.{AreNumbers}
use Rattle.an_base.specs.Tree.{Network, IsDistance, IsClosed}
use Rattle.an_base.proofs.PlaceLaws.{one_level}
use Rattle.common_values.proofs.ListLemmas.{AllPairs-head, AllPairs-tail}
use Rattle.net_graph.specs.Wires.{network}
use Rattle.net_graph.specs.Forest.{IsComponent, IsMember}
use Rattle.net_graph.proofs.FarLemmas.{far_is, network_closed}
use Rattle.common_lines.specs.Words.{is_number, is_number_in, number_value}
use Rattle.table_script.specs.TableRules.{is_colon, port_words, are_ports, rise_above, is_pair, are_pairs, pair_number, pair_exits, row_of, entry_cause}
use Rattle.common_lines.specs.Faults.{unless}
use Rattle.net_script.specs.Scripts.{ScriptOf, IsScript}
use Rattle.row_text.specs.TableForms.{TableForm}
use Rattle.net_script.specs.declared.cause.ScriptCause.TheVariants.{BadNumber, PortRange}
use Rattle.common_lines.proofs.SpellLemmas.{IsPrinted, IsWord, decimal_word, decimal_value, decimal_number}
use Rattle.net_names.proofs.WordLemmas.{name_word}
use Rattle.common_lines.proofs.WordLemmas.{own}
use Rattle.common_lines.proofs.SpellLemmas.{fixed_word, words_cons, words_nil}
use Rattle.common_lines.proofs.FaultLemmas.{unless_good, first_good}
use Rattle.switch_numbering.specs.Numbering.{numbering}
use Rattle.topo_graph.specs.Topology.{IsGraph, nothing, entry_at, life_at}
use Rattle.table_build.specs.Exits.{LeadsTo, Begins, may_go_up, is_entry}
use Rattle.table_build.specs.Tables.{TableOf, IsTable, IsRow, IsBefore}
use Rattle.common_values.proofs.PairLemmas.{AllPairs-map}
use Rattle.common_values.proofs.PigeonLemmas.{pigeons}
use Rattle.row_text.specs.Rows.{exits_text, slashed, rows_at}
use Rattle.check_text.proofs.OwnForms.{IsPlain, IsPrintedForm, AreParts, IsNamed}
use Rattle.expect_text.specs.Expect.{parent_words, component_form, member_form, number_form, part_forms, expect_forms}
use Rattle.row_text.specs.Rows.{pair_word, row_form, member_rows, table_forms}
use Rattle.row_text.specs.Names.{life_text}
use Rattle.expect_text.specs.Expect.{Part, AreTables, table_at}
use Rattle.switch_numbering.proofs.Differing.{length-numbering}
use Rattle.check_text.proofs.OwnNames.{life_named}
use Rattle.row_text.proofs.ComponentTree.{component_tree}
use Rattle.expect_text.proofs.PartLemmas.{component_numbering}
use Rattle.common_values.proofs.FlatMapLemmas.{All-flat_map}

-- THE TEXT OF A PAIR

-- a digit
abbrev IsDigit : ℕ → Type 0
IsDigit c = (48 ≤ c) × (c ≤ 57)

digit_is : (c : ℕ) → is_ascii_digit c ≡ true → IsDigit c
digit_is c t = (grind (arith, nat_tests), grind (arith, nat_tests))

-- what passes the test of digits along a list
all_digits : (xs : List ℕ) → list_all is_ascii_digit xs ≡ true → All IsDigit xs
all_digits [] t = All-nil IsDigit
all_digits (x ∷ xs) t = let parts = and_parts (is_ascii_digit x) (list_all is_ascii_digit xs) t in All-cons IsDigit x xs (digit_is x parts.0) (all_digits xs parts.1)

-- a number in decimal is digits
decimal_digits : (n : ℕ) → n < 2 ^ 64 → All IsDigit (decimal n)
decimal_digits n low = all_digits (decimal n) (digits_decimal own n low)

-- a digit is no colon and no slash
abbrev is_slash : ℕ → Bool
is_slash c = c == 47

no_colon : (c : ℕ) → IsDigit c → is_colon c ≡ false
no_colon c is = let h = is.0 in let k = is.1 in grind (arith, nat_tests)

no_slash : (c : ℕ) → IsDigit c → is_slash c ≡ false
no_slash c is = let h = is.0 in let k = is.1 in grind (arith, nat_tests)

-- a port of a switch
abbrev IsPort : ℕ → Type 0
IsPort p = (1 ≤ p) × (p ≤ 12)

-- ports joined by slashes are cut at them again
split_ports : (p : ℕ) (ps : List ℕ) → All IsPort (p ∷ ps) → slice_split is_slash (exits_text (p ∷ ps)) ≡ map decimal (p ∷ ps)
unfolding exits_text
split_ports p [] are =
    let most = (All-head IsPort p [] are).1 in
    ap (slice_split is_slash) (append-nil (decimal p)) ∙ slice_split_none is_slash (decimal p) (All-weaker IsDigit (λ c. is_slash c ≡ false) no_slash (decimal p) (decimal_digits p (omega arith)))
split_ports p (q ∷ qs) are =
    let most = (All-head IsPort p (q ∷ qs) are).1 in
    slice_split_at is_slash (decimal p) 47 (exits_text (q ∷ qs)) (All-weaker IsDigit (λ c. is_slash c ≡ false) no_slash (decimal p) (decimal_digits p (omega arith))) refl
    ∙ ap (λ (ws : List (List ℕ)). decimal p ∷ ws) (split_ports q qs (All-tail IsPort p (q ∷ qs) are))

-- they are not `-`
not_dash : (p : ℕ) (ps : List ℕ) → p < 2 ^ 64 → bytes_eq (exits_text (p ∷ ps)) (codes "-") ≡ false
unfolding exits_text
not_dash p ps low = go (bytes_eq (decimal p ++ flat_map slashed ps) (codes "-")) refl
  where
    go : (b : Bool) → bytes_eq (decimal p ++ flat_map slashed ps) (codes "-") ≡ b → b ≡ false
    go false t = refl
    go true t =
        let same = (bytes_eq-Decides (decimal p ++ flat_map slashed ps) (codes "-")).0 t in
        let first : get_or (decimal p ++ flat_map slashed ps) 0 0 ≡ 45 = ap (λ (xs : List ℕ). get_or xs 0 0) same in
        let here = get_or_append_left (decimal p) (flat_map slashed ps) 0 0 (decimal_nonempty p low) in
        let digit = (decimal_digits p low 0 0 (decimal_nonempty p low)).0 in
        absurd (omega arith)

-- the words of exits are the ports
no_words : port_words (exits_text []) ≡ []
unfolding exits_text
no_words = refl

exits_words : (ps : List ℕ) → All IsPort ps → port_words (exits_text ps) ≡ map decimal ps
exits_words [] are = no_words
exits_words (p ∷ ps) are =
    let most = (All-head IsPort p ps are).1 in
    rw (not_dash p ps (omega arith)) (split_ports p ps are)

-- a number in a range, in decimal
number_in : (least most n : ℕ) → n < 2 ^ 64 → least ≤ n → n ≤ most → is_number_in least most (decimal n) ≡ true
number_in least most n low least_ok most_ok =
    let v = decimal_value n low in
    let one : leb least (number_value (decimal n)) ≡ true = grind (arith, nat_tests) in
    let two : leb (number_value (decimal n)) most ≡ true = grind (arith, nat_tests) in
    rw (decimal_number n low, one, two) refl

-- ports in decimal are ports, and say what they were
values : (ps : List ℕ) → All IsPort ps → map number_value (map decimal ps) ≡ ps
values [] are = refl
values (p ∷ ps) are =
    let most = (All-head IsPort p ps are).1 in
    ap (λ (n : ℕ). n ∷ map number_value (map decimal ps)) (decimal_value p (omega arith)) ∙ ap (λ (ns : List ℕ). p ∷ ns) (values ps (All-tail IsPort p ps are))

ports_in : (ps : List ℕ) → All IsPort ps → list_all (is_number_in 1 12) (map decimal ps) ≡ true
ports_in [] are = refl
ports_in (p ∷ ps) are =
    let here = All-head IsPort p ps are in
    let least = here.0 in
    let most = here.1 in
    rw (number_in 1 12 p (omega arith) least most, ports_in ps (All-tail IsPort p ps are)) refl

-- numbers that rise above a number
rises : (low : ℕ) (ns : List ℕ) → AllPairs (λ a b. a < b) ns → All (λ n. low < n) ns → rise_above low ns ≡ true
rises low [] pairs above = refl
rises low (n ∷ ns) pairs above =
    let first = All-head (λ m. low < m) n ns above in
    let one : ltb low n ≡ true = grind (arith, nat_tests) in
    rw (one, rises n ns (AllPairs-tail (λ a b. a < b) n ns pairs) (AllPairs-head (λ a b. a < b) n ns pairs)) refl

-- the exits of a row: ports that rise
record AreRising (ps : List ℕ) : Type 0 where
  ports : All IsPort ps
  rise : ExitsRise ps

exits_are_ports : (ps : List ℕ) → AreRising ps → are_ports 0 (port_words (exits_text ps)) ≡ true
exits_are_ports ps are =
    ap (are_ports 0) (exits_words ps are.ports)
    ∙ rw (ports_in ps are.ports, values ps are.ports, rises 0 ps are.rise (All-weaker IsPort (λ n. 0 < n) (λ n is. let h = is.0 in omega arith) ps are.ports)) refl

-- the first colon of a pair stands behind the number
colon_at : (n : ℕ) (more : List ℕ) → n < 2 ^ 64 → position_or_len is_colon (decimal n ++ 58 ∷ more) ≡ length (decimal n)
colon_at n more low =
    let long = length-append (decimal n) (58 ∷ more) in
    position_or_len_is is_colon (decimal n ++ 58 ∷ more) (length (decimal n)) 0 (omega arith)
    (λ k below. ap is_colon (get_or_append_left (decimal n) (58 ∷ more) 0 k below) ∙ no_colon (get_or (decimal n) k 0) (decimal_digits n low k 0 below))
    (λ _. ap is_colon (get_or_at (decimal n) 58 more 0 (length (decimal n)) refl))

before_colon : (n : ℕ) (more : List ℕ) → n < 2 ^ 64 → before_first is_colon (decimal n ++ 58 ∷ more) ≡ decimal n
before_colon n more low = ap (λ (k : ℕ). take k (decimal n ++ 58 ∷ more)) (colon_at n more low) ∙ take-append_seam (decimal n) (58 ∷ more)

after_colon : (n : ℕ) (more : List ℕ) → n < 2 ^ 64 → after_first is_colon (decimal n ++ 58 ∷ more) ≡ more
after_colon n more low = ap (λ (k : ℕ). drop (k + 1) (decimal n ++ 58 ∷ more)) (colon_at n more low) ∙ drop-append-add (decimal n) (58 ∷ more) 1

has_colon : (n : ℕ) (more : List ℕ) → list_any is_colon (decimal n ++ 58 ∷ more) ≡ true
has_colon n more =
    let long = length-append (decimal n) (58 ∷ more) in
    list_any_at is_colon (decimal n ++ 58 ∷ more) (length (decimal n)) 0 (omega arith) (ap is_colon (get_or_at (decimal n) 58 more 0 (length (decimal n)) refl))

-- a row that can be written as a pair: its number is 1 to 126, its exits are ports that rise
record IsSpelled (r : RowOf) : Type 0 where
  least : 1 ≤ r.to
  most : r.to ≤ 126
  exits : AreRising r.exits

-- its pair says them again
number_is : (r : RowOf) → IsSpelled r → pair_number (pair_word r) ≡ r.to
number_is r is =
    let most = is.most in
    ap number_value (before_colon r.to (exits_text r.exits) (omega arith)) ∙ decimal_value r.to (omega arith)

exits_are : (r : RowOf) → IsSpelled r → pair_exits (pair_word r) ≡ r.exits
exits_are r is =
    let most = is.most in
    ap (λ (t : List ℕ). map number_value (port_words t)) (after_colon r.to (exits_text r.exits) (omega arith))
    ∙ ap (λ (ws : List (List ℕ)). map number_value ws) (exits_words r.exits is.exits.ports)
    ∙ values r.exits is.exits.ports

says : (s entry : ℕ) (r : RowOf) → IsSpelled r → row_of s entry (pair_word r) ≡ record { at = s; entry = entry; to = r.to; exits = r.exits }
says s entry r is =
    ap (λ (n : ℕ). record { at = s; entry = entry; to = n; exits = pair_exits (pair_word r) }) (number_is r is)
    ∙ ap (λ (ps : List ℕ). record { at = s; entry = entry; to = r.to; exits = ps }) (exits_are r is)

-- and is a pair
pair_is : (r : RowOf) → IsSpelled r → is_pair (pair_word r) ≡ true
unfolding is_pair
pair_is r is =
    let least = is.least in
    let most = is.most in
    let number : is_number_in 1 126 (before_first is_colon (pair_word r)) ≡ true = ap (is_number_in 1 126) (before_colon r.to (exits_text r.exits) (omega arith)) ∙ number_in 1 126 r.to (omega arith) least most in
    let ports : are_ports 0 (port_words (after_first is_colon (pair_word r))) ≡ true = ap (λ (t : List ℕ). are_ports 0 (port_words t)) (after_colon r.to (exits_text r.exits) (omega arith)) ∙ exits_are_ports r.exits is.exits in
    three _ _ _ (has_colon r.to (exits_text r.exits)) number ports
  where
    three : (a b c : Bool) → a ≡ true → b ≡ true → c ≡ true → (a && (b && c)) ≡ true
    three a b c one two more = rw (one, two, more) refl

-- its bytes are printed
slashes_printed : (ps : List ℕ) → All IsPort ps → All IsPrinted (flat_map slashed ps)
slashes_printed [] are = All-nil IsPrinted
slashes_printed (p ∷ ps) are =
    let most = (All-head IsPort p ps are).1 in
    All-append IsPrinted (slashed p) (flat_map slashed ps) (All-cons IsPrinted 47 (decimal p) (omega arith, omega arith) (decimal_word p (omega arith)).bytes) (slashes_printed ps (All-tail IsPort p ps are))

exits_printed : (ps : List ℕ) → All IsPort ps → All IsPrinted (exits_text ps)
unfolding exits_text
exits_printed [] are = All-cons IsPrinted 45 [] (omega arith, omega arith) (All-nil IsPrinted)
exits_printed (p ∷ ps) are =
    let most = (All-head IsPort p ps are).1 in
    All-append IsPrinted (decimal p) (flat_map slashed ps) (decimal_word p (omega arith)).bytes (slashes_printed ps (All-tail IsPort p ps are))

-- and few: how many bytes ports above a number take, each behind a slash: two for one digit, three for two
one_digit : (p : ℕ) → p < 10 → length (decimal p) ≤ 1
one_digit p low = length-decimal-le 1 p (omega arith) (omega arith) (omega arith)

two_digits : (p : ℕ) → p ≤ 12 → length (decimal p) ≤ 2
two_digits p low = length-decimal-le 2 p (omega arith) (omega arith) (omega arith)

record IsShort (low len : ℕ) : Type 0 where
  ones : low ≤ 9 → len + 2 * low ≤ 27
  twos : 9 ≤ low → len + 3 * low ≤ 36

slashes_short : (low : ℕ) (ps : List ℕ) → low ≤ 12 → All IsPort ps → All (λ p. low < p) ps → ExitsRise ps → IsShort low (length (flat_map slashed ps))
slashes_short low [] most are above rise = record { ones = λ l. omega arith; twos = λ l. omega arith }
slashes_short low (p ∷ ps) most are above rise =
    let within = (All-head IsPort p ps are).1 in
    let first = All-head (λ n. low < n) p ps above in
    let rest = slashes_short p ps within (All-tail IsPort p ps are) (AllPairs-head (λ a b. a < b) p ps rise) (AllPairs-tail (λ a b. a < b) p ps rise) in
    let long : length (flat_map slashed (p ∷ ps)) ≡ (1 + length (decimal p)) + length (flat_map slashed ps) = omega (arith, length-append (slashed p) (flat_map slashed ps)) in
    elim (cases_lt p 10) [
      | inl one ↦ (let d = one_digit p one in let r = rest.ones (omega arith) in record { ones = λ l. omega arith; twos = λ l. omega arith })
      | inr two ↦ (let d = two_digits p within in let r = rest.twos (omega arith) in record { ones = λ l. omega arith; twos = λ l. omega arith })
    ]

exits_short : (ps : List ℕ) → AreRising ps → length (exits_text ps) ≤ 26
unfolding exits_text
exits_short [] are = omega arith
exits_short (p ∷ ps) are =
    let all = (slashes_short 0 (p ∷ ps) (omega arith) are.ports (All-weaker IsPort (λ n. 0 < n) (λ n is. let h = is.0 in omega arith) (p ∷ ps) are.ports) are.rise).ones (omega arith) in
    omega (arith, length-append (slashed p) (flat_map slashed ps), length-append (decimal p) (flat_map slashed ps))

-- a pair is a printed word
pair_printed : (r : RowOf) → IsSpelled r → IsWord (pair_word r)
pair_printed r is =
    let most = is.most in
    let front = decimal_word r.to (omega arith) in
    let three : length (decimal r.to) ≤ 3 = length-decimal-le 3 r.to (omega arith) (omega arith) (omega arith) in
    let long = length-append (decimal r.to) (58 ∷ exits_text r.exits) in
    let short = exits_short r.exits is.exits in
    record {
      bytes = All-append IsPrinted (decimal r.to) (58 ∷ exits_text r.exits) front.bytes (All-cons IsPrinted 58 (exits_text r.exits) (omega arith, omega arith) (exits_printed r.exits is.exits.ports));
      some = omega arith;
      most = omega arith;
    }

-- THE PAIRS OF AN ENTRY

abbrev LessTo : RowOf → RowOf → Type 0
LessTo a b = a.to < b.to

-- rows that can be written as pairs, by rising number
record AreSpelled (rows : List RowOf) : Type 0 where
  each : All IsSpelled rows
  rise : AllPairs LessTo rows

all_pairs : (rows : List RowOf) → All IsSpelled rows → list_all is_pair (map pair_word rows) ≡ true
all_pairs [] are = refl
all_pairs (r ∷ rows) are = rw (pair_is r (All-head IsSpelled r rows are), all_pairs rows (All-tail IsSpelled r rows are)) refl

all_numbers : (rows : List RowOf) → All IsSpelled rows → map pair_number (map pair_word rows) ≡ map (λ r. r.to) rows
all_numbers [] are = refl
all_numbers (r ∷ rows) are =
    ap (λ (n : ℕ). n ∷ map pair_number (map pair_word rows)) (number_is r (All-head IsSpelled r rows are))
    ∙ ap (λ (ns : List ℕ). r.to ∷ ns) (all_numbers rows (All-tail IsSpelled r rows are))

pairs_are : (rows : List RowOf) → AreSpelled rows → are_pairs 0 (map pair_word rows) ≡ true
pairs_are rows are =
    let rising = rises 0 (map (λ r. r.to) rows) (AllPairs-map (λ a b. a < b) (λ r. r.to) rows are.rise) (All-map (λ n. 0 < n) (λ r. r.to) rows (All-weaker IsSpelled (λ r. 0 < r.to) (λ r is. let h = is.least in omega arith) rows are.each)) in
    rw (all_pairs rows are.each, all_numbers rows are.each, rising) refl

-- numbers up to 126 that rise are few
rising_few : (low : ℕ) (ns : List ℕ) → low ≤ 126 → AllPairs (λ a b. a < b) ns → All (λ n. low < n) ns → All (λ n. n ≤ 126) ns → length ns + low ≤ 126
rising_few low [] most rise above below = omega arith
rising_few low (n ∷ ns) most rise above below =
    let first = All-head (λ m. low < m) n ns above in
    let within = All-head (λ m. m ≤ 126) n ns below in
    let rest = rising_few n ns within (AllPairs-tail (λ a b. a < b) n ns rise) (AllPairs-head (λ a b. a < b) n ns rise) (All-tail (λ m. m ≤ 126) n ns below) in
    omega arith

pairs_few : (rows : List RowOf) → AreSpelled rows → length (map pair_word rows) ≤ 126
pairs_few rows are =
    let to : RowOf → ℕ = λ r. r.to in
    let few = rising_few 0 (map to rows) (omega arith) (AllPairs-map (λ a b. a < b) to rows are.rise)
    (All-map (λ n. 0 < n) to rows (All-weaker IsSpelled (λ r. 0 < r.to) (λ r is. let h = is.least in omega arith) rows are.each))
    (All-map (λ n. n ≤ 126) to rows (All-weaker IsSpelled (λ r. r.to ≤ 126) (λ r is. is.most) rows are.each)) in
    omega (arith, length-map rows to, length-map rows pair_word)

-- a port that begins a way is 1 to 12
exit_port : (es : List EntryOf) (any up : Bool) (x to p : ℕ) → IsGraph es → Begins es any up x to p → IsPort p
exit_port es any up x to p graph begins = go up begins.way
  where
    go : (u : Bool) → LeadsTo es u x (p ∷ begins.rest) to → IsPort p
    go true way = let f = way.route in let within = graph.within x p (f.0, f.1) f.2 in (within.port_least, within.port_most)
    go false way = let f = way.route in let within = graph.within x p (f.0, f.1) f.2 in (within.port_least, within.port_most)

-- the rows of a table can be written as pairs
spelled : (es : List EntryOf) (numbers : List ℕ) (any : Bool) (x : ℕ) (r : RowOf) → IsGraph es → AreNumbers numbers → length numbers ≡ length es → IsRow es numbers any x r → IsSpelled r
spelled es numbers any x r graph are count row =
    let within = are.within row.to 0 (let l = row.to_low in omega arith) in
    let is = row.number in
    record {
      least = let h = within.0 in omega arith;
      most = let h = within.1 in omega arith;
      exits = record {
        ports = All-weaker (Begins es any (may_go_up es x r.entry) x row.to) IsPort (λ p begins. exit_port es any (may_go_up es x r.entry) x row.to p graph begins) r.exits row.exits.each;
        rise = row.exits.rising;
      };
    }

-- and so are those of an entry, by rising number
spelled_at : (es : List EntryOf) (numbers : List ℕ) (any : Bool) (x : ℕ) (t : TableOf) (entry : ℕ) → IsGraph es → AreNumbers numbers → length numbers ≡ length es → IsTable es numbers any x t → AreSpelled (rows_at t.rows entry)
spelled_at es numbers any x t entry graph are count table =
    let here : RowOf → Bool = λ r. r.entry == entry in
    let each = All-weaker (IsRow es numbers any x) IsSpelled (λ r row. spelled es numbers any x r graph are count row) t.rows table.each in
    let pairs = AllPairs-filter IsBefore here t.rows table.rising in
    let pass = filter_passes here t.rows in
    record {
      each = All-filter here IsSpelled t.rows each;
      rise = λ i j d before low. elim (pairs i j d before low) [
        | inl less ↦ (
            let a = eqb-true (get_or (rows_at t.rows entry) i d).entry entry (pass i d (omega arith)) in
            let b = eqb-true (get_or (rows_at t.rows entry) j d).entry entry (pass j d low) in
            absurd (omega arith))
        | inr same ↦ same.1
      ];
    }

-- the pair of a row of a table says it again
pub pair_says : (s entry : ℕ) (es : List EntryOf) (numbers : List ℕ) (any : Bool) (x : ℕ) (r : RowOf) → IsGraph es → AreNumbers numbers → length numbers ≡ length es → IsRow es numbers any x r → row_of s entry (pair_word r) ≡ record { at = s; entry = entry; to = r.to; exits = r.exits }
pair_says s entry es numbers any x r graph are count row = says s entry r (spelled es numbers any x r graph are count row)

-- THE ENTRIES OF A COMPONENT

-- a shortest walk goes on along shortest walks
next_distance : (g : Network) (r x m : ℕ) (d : IsDistance g x r (suc m)) → IsDistance g d.walk.0 r m
next_distance g r x m d = record { walk = d.walk.2; least = λ k walk. let h = d.least (suc k) (d.walk.0, d.walk.1, walk) in omega arith }

-- the node that it comes to by so many links
abbrev come_to : (g : Network) (r n x : ℕ) → IsDistance g x r n → ℕ → ℕ
come_to g r zero x d k = x
come_to g r (suc m) x d zero = x
come_to g r (suc m) x d (suc k) = come_to g r m d.walk.0 (next_distance g r x m d) k

come_distance : (g : Network) (r n x : ℕ) (d : IsDistance g x r n) (k : ℕ) → k ≤ n → IsDistance g (come_to g r n x d k) r (n - k)
come_distance g r zero x d k low = let e : 0 - k ≡ 0 = omega arith in subst (λ (j : ℕ). IsDistance g x r j) (sym e) d
come_distance g r (suc m) x d zero low = let e : suc m - 0 ≡ suc m = omega arith in subst (λ (j : ℕ). IsDistance g x r j) (sym e) d
come_distance g r (suc m) x d (suc k) low =
    let e : suc m - suc k ≡ m - k = omega arith in
    subst (λ (j : ℕ). IsDistance g (come_to g r m d.walk.0 (next_distance g r x m d) k) r j) (sym e) (come_distance g r m d.walk.0 (next_distance g r x m d) k (omega arith))

come_low : (g : Network) (r n x : ℕ) (d : IsDistance g x r n) (k : ℕ) → IsClosed g → x < g.count → come_to g r n x d k < g.count
come_low g r zero x d k closed low = low
come_low g r (suc m) x d zero closed low = low
come_low g r (suc m) x d (suc k) closed low = come_low g r m d.walk.0 (next_distance g r x m d) k closed (let n = d.walk.1 in closed x n.0 d.walk.0 n.1 n.2)

-- a distance in a network of at most 126 nodes is at most 125
distance_most : (g : Network) (r n x : ℕ) → IsClosed g → g.count ≤ 126 → x < g.count → IsDistance g x r n → n ≤ 125
distance_most g r n x closed few low d = elim (cases_lt n 126) [
  | inl below ↦ omega arith
  | inr more ↦ (
      let twice = pigeons 126 (come_to g r n x d) (λ k most. let l = come_low g r n x d k closed low in omega arith) in
      let i = twice.0 in
      let j = twice.1 in
      let before : i < j = twice.2 in
      let last : j ≤ 126 = twice.3 in
      let one = come_distance g r n x d i (omega arith) in
      let other = come_distance g r n x d j (omega arith) in
      let same : n - i ≡ n - j = one_level g (come_to g r n x d i) r (n - i) (n - j) one (subst (λ (v : ℕ). IsDistance g v r (n - j)) (sym twice.4) other) in
      absurd (omega arith))
]

-- what an entry's line shows is in range, and its lives are named
record IsShown (s : ScriptOf) (e : EntryOf) : Type 0 where
  life : (x : ℕ) × IsNamed s e.life x
  root : (x : ℕ) × IsNamed s e.position.root x
  level : e.position.level ≤ 125
  parent : (x : ℕ) × IsNamed s e.position.parent x
  port : e.position.port ≤ 12

-- so it is of a member
member_shown : (s : ScriptOf) (r : ℕ) (e : EntryOf) → IsScript s → r < length s.wires.switches → IsMember s.wires r e → IsShown s e
member_shown s r e kept low (x, below, is) =
    let up : ((y : ℕ) × IsNamed s e.position.parent y) × (e.position.port ≤ 12) = elim (cases_eq x r) [
      | inl same ↦ (let h = is.place.at_root same in ((r, life_named s r e.position.parent kept low h.0), let zero_port = h.1 in omega arith))
      | inr other ↦ (
          let b = is.place.below other in
          let far = far_is s.wires x e.position.port (b.0, b.1.port.0) kept.wired b.1.port.1 in
          ((b.0, life_named s b.0 e.position.parent kept far.below b.1.parent), far.own_port_most))
    ] in
    record {
      life = (x, life_named s x e.life kept below is.life);
      root = (r, life_named s r e.position.root kept low is.place.root);
      level = distance_most (network s.wires) r e.position.level x (network_closed s.wires kept.wired) kept.wired.count below is.place.level;
      parent = up.0;
      port = up.1;
    }

-- a component's entries, with their numbers
record IsTold (s : ScriptOf) (es : List EntryOf) : Type 0 where
  graph : IsGraph es
  shown : All (IsShown s) es
  numbers : AreNumbers (numbering es)

component_told : (s : ScriptOf) (r : ℕ) (es : List EntryOf) → IsScript s → IsComponent s.wires r es → IsTold s es
component_told s r es kept component =
    let graph = (component_tree s.wires r es kept.wired component).0 in
    let shown = All-weaker (IsMember s.wires r) (IsShown s) (λ e is. member_shown s r e kept component.root is) es component.only in
    record {
      graph = graph;
      shown = shown;
      numbers = component_numbering s.wires r es kept.wired component graph;
    }

-- THE FORMS OF LINES

-- a form is good by itself
abbrev IsGood : ScriptOf → TableForm → Type 0
IsGood s f = IsPrintedForm f × IsPlain s f

-- what holds of the two of each pair
all_zip : {X Y : Type 0} (P : X → Type 0) (Q : Y → Type 0) (xs : List X) (ys : List Y) → All P xs → All Q ys → All (λ m. P m.0 × Q m.1) (zip xs ys)
all_zip P Q [] ys are also = All-nil (λ m. P m.0 × Q m.1)
all_zip P Q (x ∷ xs) [] are also = All-nil (λ m. P m.0 × Q m.1)
all_zip P Q (x ∷ xs) (y ∷ ys) are also = All-cons (λ m. P m.0 × Q m.1) (x, y) (zip xs ys) (All-head P x xs are, All-head Q y ys also) (all_zip P Q xs ys (All-tail P x xs are) (All-tail Q y ys also))

-- a named life is printed as a word
named_word : (s : ScriptOf) (life : LifeId) (x : ℕ) → IsNamed s life x → IsWord (life_text s life)
named_word s life x is = name_word (life_text s life) is.name

-- the line of a component
component_good : (s : ScriptOf) (es : List EntryOf) → IsTold s es → IsGood s (component_form s es)
component_good s es told =
    let root = (told.shown 0 nothing (let h = told.graph.some in omega arith)).root in
    let most = told.graph.most in
    let name = life_text s (entry_at es 0).position.root in (
      record {
        words = words_cons (codes "component") (name ∷ codes "members" ∷ decimal (length es) ∷ []) (fixed_word (codes "component") refl (omega arith) (omega arith))
            (words_cons name (codes "members" ∷ decimal (length es) ∷ []) (named_word s (entry_at es 0).position.root root.0 root.1)
            (words_cons (codes "members") (decimal (length es) ∷ []) (fixed_word (codes "members") refl (omega arith) (omega arith))
            (words_cons (decimal (length es)) [] (decimal_word (length es) (omega arith)) words_nil)));
        few = omega arith;
      },
      tt,
    )

-- the line of a member
parent_good : (s : ScriptOf) (e : EntryOf) → IsShown s e → All IsWord (parent_words s e.position) × (length (parent_words s e.position) ≤ 4)
parent_good s e is = go (eqb e.position.level 0)
  where
    go : (b : Bool) → All IsWord (cond b [] (codes "parent" ∷ life_text s e.position.parent ∷ codes "port" ∷ decimal e.position.port ∷ [])) × (length (cond b [] (codes "parent" ∷ life_text s e.position.parent ∷ codes "port" ∷ decimal e.position.port ∷ [])) ≤ 4)
    go true = (words_nil, omega arith)
    go false =
        let most = is.port in (
          words_cons (codes "parent") (life_text s e.position.parent ∷ codes "port" ∷ decimal e.position.port ∷ []) (fixed_word (codes "parent") refl (omega arith) (omega arith))
              (words_cons (life_text s e.position.parent) (codes "port" ∷ decimal e.position.port ∷ []) (named_word s e.position.parent is.parent.0 is.parent.1)
              (words_cons (codes "port") (decimal e.position.port ∷ []) (fixed_word (codes "port") refl (omega arith) (omega arith))
              (words_cons (decimal e.position.port) [] (decimal_word e.position.port (omega arith)) words_nil))),
          omega arith,
        )

member_good : (s : ScriptOf) (e : EntryOf) → IsShown s e → IsGood s (member_form s e)
member_good s e is =
    let parent = parent_good s e is in
    let few = parent.1 in
    let most = is.level in
    let level = decimal e.position.level in (
      record {
        words = words_cons (codes "member") (life_text s e.life ∷ codes "level" ∷ level ∷ parent_words s e.position) (fixed_word (codes "member") refl (omega arith) (omega arith))
            (words_cons (life_text s e.life) (codes "level" ∷ level ∷ parent_words s e.position) (named_word s e.life is.life.0 is.life.1)
            (words_cons (codes "level") (level ∷ parent_words s e.position) (fixed_word (codes "level") refl (omega arith) (omega arith))
            (words_cons level (parent_words s e.position) (decimal_word e.position.level (omega arith)) parent.0)));
        few = omega arith;
      },
      tt,
    )

-- the line of a number
number_good : (s : ScriptOf) (m : EntryOf × ℕ) → IsShown s m.0 → (1 ≤ m.1) × (m.1 ≤ 126) → IsGood s (number_form s m)
number_good s m is within =
    let least = within.0 in
    let most = within.1 in
    let name = life_text s m.0.life in (
      record {
        words = words_cons (codes "number") (name ∷ decimal m.1 ∷ []) (fixed_word (codes "number") refl (omega arith) (omega arith))
            (words_cons name (decimal m.1 ∷ []) (named_word s m.0.life is.life.0 is.life.1)
            (words_cons (decimal m.1) [] (decimal_word m.1 (omega arith)) words_nil));
        few = omega arith;
      },
      (is.life.1.known, number_in 1 126 m.1 (omega arith) least most),
    )

-- the line of an entry
entry_good : (entry : ℕ) → entry ≤ 12 → entry_cause (decimal entry) ≡ None
entry_good entry most =
    let low : entry < 2 ^ 64 = omega arith in
    let v = decimal_value entry low in
    let within : leb (number_value (decimal entry)) 12 ≡ true = grind (arith, nat_tests) in
    first_good (unless (is_number (decimal entry)) BadNumber) _ (unless_good (is_number (decimal entry)) BadNumber (decimal_number entry low))
    (first_good (unless (leb (number_value (decimal entry)) 12) PortRange) None (unless_good (leb (number_value (decimal entry)) 12) PortRange within) refl)

row_good : (s : ScriptOf) (life : LifeId) (x : ℕ) (rows : List RowOf) (entry : ℕ) → IsNamed s life x → entry ≤ 12 → AreSpelled (rows_at rows entry) → IsGood s (row_form s life rows entry)
row_good s life x rows entry is most are =
    let pairs = map pair_word (rows_at rows entry) in
    let few = pairs_few (rows_at rows entry) are in (
      record {
        words = words_cons (codes "row") (life_text s life ∷ decimal entry ∷ pairs) (fixed_word (codes "row") refl (omega arith) (omega arith))
            (words_cons (life_text s life) (decimal entry ∷ pairs) (named_word s life x is)
            (words_cons (decimal entry) pairs (decimal_word entry (omega arith))
            (All-map IsWord pair_word (rows_at rows entry) (All-weaker IsSpelled (λ r. IsWord (pair_word r)) pair_printed (rows_at rows entry) are.each))));
        few = omega arith;
      },
      (is.known, entry_good entry most, pairs_are (rows_at rows entry) are),
    )

-- those of a table
entries_low : All (λ e. e ≤ 12) (range_with_len 0 13)
entries_low = λ i d low.
    let long = length-range_with_len 0 13 in
    let at = get_or-range_with_len 0 13 i d (omega arith) in
    omega arith

rows_good : (s : ScriptOf) (es : List EntryOf) (any : Bool) (x : ℕ) (t : TableOf) → IsTold s es → x < length es → IsTable es (numbering es) any x t → All (IsGood s) (member_rows s es x t.rows)
rows_good s es any x t told low table =
    let name = (told.shown x nothing low).life in
    All-map (IsGood s) (row_form s (life_at es x) t.rows) (filter (is_entry es x) (range_with_len 0 13))
    (All-filter (is_entry es x) (λ e. IsGood s (row_form s (life_at es x) t.rows e)) (range_with_len 0 13)
    (All-weaker (λ e. e ≤ 12) (λ e. IsGood s (row_form s (life_at es x) t.rows e))
    (λ e most. row_good s (life_at es x) name.0 t.rows e name.1 most (spelled_at es (numbering es) any x t e told.graph told.numbers (length-numbering es) table))
    (range_with_len 0 13) entries_low))

-- and those of the tables from one on
tables_good : (s : ScriptOf) (es : List EntryOf) (any : Bool) (x : ℕ) (ts : List TableOf) → IsTold s es → x + length ts ≤ length es → ((i : ℕ) → i < length ts → IsTable es (numbering es) any (x + i) (table_at ts i)) → All (IsGood s) (table_forms s es x ts)
tables_good s es any x [] told few each = All-nil (IsGood s)
tables_good s es any x (t ∷ ts) told few each =
    let here : x + 0 ≡ x = omega arith in
    All-append (IsGood s) (member_rows s es x t.rows) (table_forms s es (x + 1) ts)
    (rows_good s es any x t told (omega arith) (subst (λ (y : ℕ). IsTable es (numbering es) any y t) here (each 0 (omega arith))))
    (tables_good s es any (x + 1) ts told (omega arith) (λ i low.
    let next : x + suc i ≡ (x + 1) + i = omega arith in
    subst (λ (y : ℕ). IsTable es (numbering es) any y (table_at ts i)) next (each (suc i) (omega arith))))

-- those of a component
part_good : (s : ScriptOf) (p : Part) → IsTold s p.entries → AreTables p.entries s.any_routes (length p.entries) p.tables → All (IsGood s) (part_forms s p)
part_good s p told tables =
    let es = p.entries in
    let count = tables.count in
    All-cons (IsGood s) (component_form s es) (map (member_form s) es ++ (map (number_form s) (zip es (numbering es)) ++ table_forms s es 0 p.tables)) (component_good s es told)
    (All-append (IsGood s) (map (member_form s) es) (map (number_form s) (zip es (numbering es)) ++ table_forms s es 0 p.tables)
    (All-map (IsGood s) (member_form s) es (All-weaker (IsShown s) (λ e. IsGood s (member_form s e)) (member_good s) es told.shown))
    (All-append (IsGood s) (map (number_form s) (zip es (numbering es))) (table_forms s es 0 p.tables)
    (All-map (IsGood s) (number_form s) (zip es (numbering es))
    (All-weaker (λ m. IsShown s m.0 × ((1 ≤ m.1) × (m.1 ≤ 126))) (λ m. IsGood s (number_form s m)) (λ m is. number_good s m is.0 is.1) (zip es (numbering es))
    (all_zip (IsShown s) (λ n. (1 ≤ n) × (n ≤ 126)) es (numbering es) told.shown told.numbers.within)))
    (tables_good s es s.any_routes 0 p.tables told (omega arith) (λ i low.
    let from : i ≡ 0 + i = omega arith in
    subst (λ (y : ℕ). IsTable es (numbering es) s.any_routes y (table_at p.tables i)) from (tables.each i (omega arith))))))

own_good : (s : ScriptOf) (parts : List Part) → AreParts s parts → All (IsGood s) (expect_forms s parts)
own_good s parts are =
    let entries : Part → List EntryOf = λ p. p.entries in
    All-flat_map (IsGood s) (part_forms s) parts (λ i d low.
    let component = are.trees.components i d.entries (omega (arith, length-map parts entries)) in
    let at : get_or (map entries parts) i d.entries ≡ (get_or parts i d).entries = get_or-map entries parts i d d.entries low in
    part_good s (get_or parts i d) (component_told s component.0 (get_or parts i d).entries are.kept (subst (IsComponent s.wires component.0) at component.1)) (are.tables i d low))

-- each line of the text is printed words, and nothing is wrong with it by itself
pub own_printed : (s : ScriptOf) (parts : List Part) → AreParts s parts → All IsPrintedForm (expect_forms s parts)
own_printed s parts are = All-weaker (IsGood s) IsPrintedForm (λ f is. is.0) (expect_forms s parts) (own_good s parts are)

pub own_plain : (s : ScriptOf) (parts : List Part) → AreParts s parts → All (IsPlain s) (expect_forms s parts)
own_plain s parts are = All-weaker (IsGood s) (IsPlain s) (λ f is. is.1) (expect_forms s parts) (own_good s parts are)
