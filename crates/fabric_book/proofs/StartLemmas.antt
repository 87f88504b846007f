-- The switches of a network are started one by one.

use Rattle.std.specs.Prelude.{◌≡◌, ◌⊎◌, ◌+◌, ◌++◌, ◌∷◌, ◌<◌, ℕ, List, [], length, map, slice_index_or}
use Rattle.std.specs.List.{range_with_len}
use Rattle.std.proofs.Common.{sym, ◌∙◌, ap, subst, arith, inl, inr}
use Rattle.std.proofs.lemmas.Bool.{cases_eq}
use Rattle.std.proofs.lemmas.List.{get_or_append_left, get_or_default, get_or_push, map-append}
use Rattle.common_values.proofs.ListLemmas.{places_more}
use Rattle.net_graph.specs.Wires.{Wires, network}
use Rattle.net_script.specs.Scripts.{ScriptOf}
use Rattle.switch_core.specs.Kept.{KeptOf}
use Rattle.fabric_book.specs.Nets.{IsStarted, PowerOf, power_of, start_with}

-- with what one more is started
pub powers_more : (script : ScriptOf) (n : ℕ) (old new : List PowerOf) (one : PowerOf) → old ≡ map (power_of script) (range_with_len 0 n) → one ≡ power_of script n → new ≡ old ++ one ∷ []
    → new ≡ map (power_of script) (range_with_len 0 (n + 1))
powers_more script n old new one so_far is next =
    next ∙ ap (λ (xs : List PowerOf). xs ++ one ∷ []) so_far ∙ ap (λ (p : PowerOf). map (power_of script) (range_with_len 0 n) ++ p ∷ []) is
    ∙ sym (ap (map (power_of script)) (places_more n) ∙ map-append (power_of script) (range_with_len 0 n) (n ∷ []))

-- those before are started
abbrev pub AreStartedBefore : ℕ → List PowerOf → Wires → List KeptOf → Type 0
AreStartedBefore n powers wires switches =
    (place : ℕ) → place < n → (power : PowerOf) (switch : KeptOf) → IsStarted (start_with (slice_index_or powers place power) ((network wires).life place)) (slice_index_or switches place switch)

-- and one more
pub started_more : (powers : List PowerOf) (wires : Wires) (n : ℕ) (old new : List KeptOf) (from : PowerOf) (one : KeptOf) → n < length powers → length old ≡ n → from ≡ slice_index_or powers n from
    → IsStarted (start_with from ((network wires).life n)) one → new ≡ old ++ one ∷ [] → AreStartedBefore n powers wires old → AreStartedBefore (n + 1) powers wires new
started_more powers wires n old new from one below long from_is started next before place low power switch =
    subst (λ (xs : List KeptOf). IsStarted (start_with (slice_index_or powers place power) ((network wires).life place)) (slice_index_or xs place switch)) (sym next) (by (cases_eq place n))
  where
    by : (place ≡ n) ⊎ (place ≡ n → ⊥) → IsStarted (start_with (slice_index_or powers place power) ((network wires).life place)) (slice_index_or (old ++ one ∷ []) place switch)
    by (inl same) =
        subst (λ (k : ℕ). IsStarted (start_with (slice_index_or powers k power) ((network wires).life k)) (slice_index_or (old ++ one ∷ []) k switch)) (sym same)
        (subst (λ (x : KeptOf). IsStarted (start_with (slice_index_or powers n power) ((network wires).life n)) x) (sym (get_or_push old one switch n long))
        (subst (λ (p : PowerOf). IsStarted (start_with p ((network wires).life n)) one) (from_is ∙ get_or_default powers n from power below) started))
    by (inr other) =
        let here : place < length old = omega (arith, low, other, long) in
        subst (λ (x : KeptOf). IsStarted (start_with (slice_index_or powers place power) ((network wires).life place)) x) (sym (get_or_append_left old (one ∷ []) switch place here))
        (before place (omega (arith, low, other)) power switch)
