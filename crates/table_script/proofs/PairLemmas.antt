use Rattle.std.proofs.Common.{◌≡◌, ◌∙◌, sym, ap, refl, subst, ℕ, ◌+◌, ◌-◌, List, [], ◌∷◌, length, take, drop, map, Option, Some, None, Bool, true, false, eqb, ◌&&◌, Bor}
use Rattle.std.specs.Prelude.{MatchOption}
use Rattle.std.specs.List.{position, position_or_len, slice_split, list_any, before_first, after_first}
use Rattle.std.proofs.lemmas.List.{take_rest}
use Rattle.std.proofs.lemmas.List.Folds.{list_any_at}
use Rattle.std.proofs.lemmas.List.Quantifiers.{position-Some}
use Rattle.net_script.specs.declared.cause.ScriptCause.{ScriptCause}
use Rattle.net_script.specs.declared.cause.ScriptCause.TheVariants.{BadNumber}
use Rattle.common_lines.specs.Words.{is_number_in, number_value}
use Rattle.common_lines.specs.Faults.{unless}
use Rattle.net_script.specs.Rules.{number_cause}
use Rattle.table_script.specs.TableRules.{is_colon, port_words, are_ports, is_pair, row_of}
use Rattle.common_lines.proofs.FaultLemmas.{fails, holds}
use Rattle.table_script.proofs.PartLemmas.{first_place}
use Rattle.common_lines.proofs.LineLemmas.{before_some}

-- ports of which the first is none
first_bad : (above : ℕ) (word : List ℕ) (more : List (List ℕ)) → is_number_in 1 12 word ≡ false → are_ports above (word ∷ more) ≡ false
first_bad above word more bad = rw bad refl

abbrev pub is_slash : ℕ → Bool
is_slash c = eqb c 47

pub ports_bad : (text word : List ℕ) (rest : Option (Bor (List ℕ))) (above : ℕ) (c : ScriptCause) → MatchOption rest (slice_split is_slash text ≡ word ∷ []) (λ r. slice_split is_slash text ≡ word ∷ slice_split is_slash r.now) → number_cause 1 12 word ≡ Some c → (are_ports above (slice_split is_slash text) ≡ false) × (c ≡ BadNumber)
ports_bad text word None above c parts bad = let f = fails (is_number_in 1 12 word) BadNumber c bad in (ap (are_ports above) parts ∙ first_bad above word [] f.0, f.1)
ports_bad text word (Some r) above c parts bad = let f = fails (is_number_in 1 12 word) BadNumber c bad in (ap (are_ports above) parts ∙ first_bad above word (slice_split is_slash r.now) f.0, f.1)

-- what stands before and after a colon
pub after_some : (p : ℕ → Bool) (xs : List ℕ) (i : ℕ) → position p xs ≡ Some i → take (length xs - (i + 1)) (drop (i + 1) xs) ≡ after_first p xs
after_some p xs i at = let h = first_place (position_or_len p xs) (length xs) i at in take_rest xs (i + 1) ∙ ap (λ (n : ℕ). drop (n + 1) xs) (sym h.0)

has_colon : (word : List ℕ) (i : ℕ) → position is_colon word ≡ Some i → list_any is_colon word ≡ true
has_colon word i at = let h = position-Some is_colon word i 0 at in list_any_at is_colon word i 0 h.0 h.1

and_middle : (a b : Bool) → (a && (false && b)) ≡ false
and_middle true b = refl
and_middle false b = refl

and_last : (a b : Bool) → (a && (b && false)) ≡ false
and_last true true = refl
and_last true false = refl
and_last false b = refl

-- a pair whose number, or whose exits, are none, and a good one
pub pair_number_bad : (word : List ℕ) (i : ℕ) (c : ScriptCause) → position is_colon word ≡ Some i → number_cause 1 126 (take i word) ≡ Some c → unless (is_pair word) BadNumber ≡ Some c
unfolding is_pair
pair_number_bad word i c at bad =
    let f = fails (is_number_in 1 126 (take i word)) BadNumber c bad in
    let no : is_number_in 1 126 (before_first is_colon word) ≡ false = ap (is_number_in 1 126) (sym (before_some is_colon word i at)) ∙ f.0 in
    let none : is_pair word ≡ false = rw no (and_middle (list_any is_colon word) (are_ports 0 (port_words (after_first is_colon word)))) in
    rw none (ap (λ (e : ScriptCause). Some e) (sym f.1))

pub pair_exits_bad : (word : List ℕ) (i : ℕ) (c : ScriptCause) → position is_colon word ≡ Some i → unless (are_ports 0 (port_words (take (length word - (i + 1)) (drop (i + 1) word)))) BadNumber ≡ Some c → unless (is_pair word) BadNumber ≡ Some c
unfolding is_pair
pair_exits_bad word i c at bad =
    let f = fails (are_ports 0 (port_words (take (length word - (i + 1)) (drop (i + 1) word)))) BadNumber c bad in
    let no : are_ports 0 (port_words (after_first is_colon word)) ≡ false = ap (λ (t : List ℕ). are_ports 0 (port_words t)) (sym (after_some is_colon word i at)) ∙ f.0 in
    let none : is_pair word ≡ false = subst (λ (b : Bool). (list_any is_colon word && (is_number_in 1 126 (before_first is_colon word) && b)) ≡ false) (sym no) (and_last (list_any is_colon word) (is_number_in 1 126 (before_first is_colon word))) in
    rw none (ap (λ (e : ScriptCause). Some e) (sym f.1))

pub pair_good : (word : List ℕ) (i s entry to : ℕ) (exits : List ℕ) → position is_colon word ≡ Some i → number_cause 1 126 (take i word) ≡ None → to ≡ number_value (take i word) → unless (are_ports 0 (port_words (take (length word - (i + 1)) (drop (i + 1) word)))) BadNumber ≡ None → exits ≡ map number_value (port_words (take (length word - (i + 1)) (drop (i + 1) word))) → (unless (is_pair word) BadNumber ≡ None) × (record { at = s; entry = entry; to = to; exits = exits } ≡ row_of s entry word)
unfolding is_pair
pair_good word i s entry to exits at good to_is fine exits_is =
    let number : is_number_in 1 126 (before_first is_colon word) ≡ true = ap (is_number_in 1 126) (sym (before_some is_colon word i at)) ∙ holds (is_number_in 1 126 (take i word)) BadNumber good in
    let ports : are_ports 0 (port_words (after_first is_colon word)) ≡ true = ap (λ (t : List ℕ). are_ports 0 (port_words t)) (sym (after_some is_colon word i at)) ∙ holds _ BadNumber fine in
    let yes : is_pair word ≡ true = subst (λ (b : Bool). (list_any is_colon word && (is_number_in 1 126 (before_first is_colon word) && b)) ≡ true) (sym ports) (rw (has_colon word i at, number) refl) in (
      rw yes refl,
      ap (λ (n : ℕ). record { at = s; entry = entry; to = n; exits = exits }) (to_is ∙ ap number_value (before_some is_colon word i at))
          ∙ ap (λ (es : List ℕ). record { at = s; entry = entry; to = number_value (before_first is_colon word); exits = es }) (exits_is ∙ ap (λ (t : List ℕ). map number_value (port_words t)) (after_some is_colon word i at)),
    )
