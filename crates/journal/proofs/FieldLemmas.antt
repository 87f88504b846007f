use Rattle.std.proofs.Common.{◌≡◌, ◌∙◌, sym, ap, ℕ, ◌^◌, ◌<◌, ◌≤◌, List, [], length, get_or, Option, Some, None, Bool, true, false, is_some, IfSome, MatchOption, not, ◌||◌, eqb, ltb, arith}
use Rattle.std.specs.Fmt.{decimal}
use Rattle.std.specs.Option.{ok_or}
use Rattle.std.specs.List.{list_all}
use Rattle.std.specs.Char.{is_ascii_digit}
use Rattle.std.specs.Str.{bytes_eq}
use Rattle.std.specs.Str.Parse.{digits_value}
use Rattle.std.proofs.lemmas.Bool.{and_parts}
use Rattle.std.proofs.lemmas.Bool.Decides.{nat_tests}
use Rattle.std.proofs.lemmas.Fmt.{decimal-digits_value}
use Rattle.std.proofs.lemmas.List.{get_or_default}
use Rattle.std.proofs.lemmas.List.Quantifiers.{position-Some}
use Rattle.std.proofs.lemmas.Slice.Eq.{bytes_eq-Decides}
use Rattle.common_lines.specs.Words.{is_number, is_number_in, number_value}
use Rattle.net_names.specs.Names.{place_of}
use Rattle.common_lines.proofs.WordLemmas.{own}
use Rattle.journal_cause.specs.declared.cause.JournalCause.TheVariants.{BadNumber, NoSuchName}
use Rattle.common_lines.specs.Faults.{unless}
use Rattle.journal.specs.Rules.{name_cause, number_cause}
use Rattle.common_lines.specs.Faults.{IsGoodField}

-- the name at a place that was found
place_found : (names : List (List ℕ)) (name : List ℕ) (x : ℕ) → place_of names name ≡ Some x → name ≡ get_or names x []
unfolding place_of
place_found names name x at =
    let h = position-Some (λ (n : List ℕ). bytes_eq n name) names x name at in
    sym ((bytes_eq-Decides (get_or names x name) name).0 h.1) ∙ get_or_default names x name [] h.0

-- what was found as the place of a name is the field's value
pub name_field : (P : ℕ → Type 0) (names : List (List ℕ)) (name : List ℕ) (o : Option ℕ) → o ≡ place_of names name → IfSome o P → IsGoodField (ok_or o NoSuchName) (name_cause names name) (λ x. P x × (name ≡ get_or names x []))
name_field P names name None at range = ap (λ (o : Option ℕ). unless (is_some o) NoSuchName) (sym at)
name_field P names name (Some x) at range = (ap (λ (o : Option ℕ). unless (is_some o) NoSuchName) (sym at), (range, place_found names name x (sym at)))

-- a number is spelled in one way
zero_alone : (w : List ℕ) → (not (eqb (get_or w 0 0) 48) || eqb (length w) 1) ≡ true → get_or w 0 0 ≡ 48 → length w ≡ 1
zero_alone w t zero = grind (arith, nat_tests)

pub spelled : (w : List ℕ) → is_number w ≡ true → digits_value 10 w < 2 ^ 64 → w ≡ decimal (digits_value 10 w)
spelled w is low =
    let one = and_parts (list_all is_ascii_digit w) _ is in
    let two = and_parts (ltb 0 (length w)) _ one.1 in
    let some : 0 < length w = (let t = two.0 in grind (arith, nat_tests)) in
    sym (decimal-digits_value own w one.0 some (zero_alone w two.1) low)

-- what was found as a number of a range is the field's value
pub number_field : (w : List ℕ) (least most : ℕ) (o : Option ℕ) → most < 2 ^ 64 → MatchOption o (is_number_in least most w ≡ false) (λ n. (is_number_in least most w ≡ true) × (n ≡ number_value w)) → IfSome o (λ n. (least ≤ n) × (n ≤ most)) → IsGoodField (ok_or o BadNumber) (number_cause least most w) (λ n. (w ≡ decimal n) × (least ≤ n) × (n ≤ most))
unfolding number_value
number_field w least most None low none range = ap (λ (b : Bool). unless b BadNumber) none
number_field w least most (Some n) low some range = (
  ap (λ (b : Bool). unless b BadNumber) some.0,
  (spelled w (and_parts (is_number w) _ some.0).0 (let r = range.1 in omega (arith, some.1)) ∙ ap decimal (sym some.1), range.0, range.1),
)
