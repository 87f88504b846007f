-- Where the rules find no cause, places and numbers are in their ranges.
use Rattle.std.proofs.Common.{◌≡◌, ap, refl, ℕ, ◌<◌, ◌≤◌, List, arith, length, Option, None, Bool, true, false, leb, ◌&&◌, is_some}
use Rattle.std.specs.Prelude.{unwrap_or}
use Rattle.std.specs.Str.{bytes_eq}
use Rattle.std.proofs.lemmas.Bool.{and_parts}
use Rattle.std.proofs.lemmas.Bool.Decides.{nat_tests}
use Rattle.std.proofs.lemmas.List.Quantifiers.{position-Some}
use Rattle.common_values.proofs.ListLemmas.{some_is}
use Rattle.common_lines.specs.Words.{is_number, is_number_in, number_value}
use Rattle.net_names.specs.Words.{is_name}
use Rattle.common_lines.specs.Faults.{unless}
use Rattle.net_names.specs.Names.{place_of}
use Rattle.common_lines.proofs.FaultLemmas.{no_first, holds}
use Rattle.net_script.specs.declared.cause.ScriptCause.TheVariants.{BadNumber, BadName, NoSuchName}
use Rattle.net_script.specs.Rules.{place, known_cause, number_cause}

pub known_low : (names : List (List ℕ)) (word : List ℕ) → known_cause names word ≡ None → place names word < length names
unfolding place_of
known_low names word known =
    let parts = no_first (unless (is_name word) BadName) _ known in
    let found = some_is (place_of names word) (holds (is_some (place_of names word)) NoSuchName (no_first (unless (is_some (place_of names word)) NoSuchName) None parts.1).0) in
    let at : place names word ≡ found.0 = ap (λ (o : Option ℕ). unwrap_or o 0) found.1 in
    let h = position-Some (λ (n : List ℕ). bytes_eq n word) names found.0 word found.1 in
    rw at h.0

-- a number in its range
pub in_range : (least most : ℕ) (word : List ℕ) → number_cause least most word ≡ None → (least ≤ number_value word) × (number_value word ≤ most)
in_range least most word good = range (is_number_in least most word) refl good
  where
    range : (b : Bool) → is_number_in least most word ≡ b → unless b BadNumber ≡ None → (least ≤ number_value word) × (number_value word ≤ most)
    range true t g =
        let parts = and_parts (is_number word) (leb least (number_value word) && leb (number_value word) most) t in
        let ranges = and_parts (leb least (number_value word)) (leb (number_value word) most) parts.1 in
        (grind (arith, nat_tests), grind (arith, nat_tests))
    range false t g = absurd (cc)
