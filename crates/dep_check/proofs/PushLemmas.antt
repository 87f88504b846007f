use Rattle.std.proofs.Common.{◌≡◌, ◌∙◌, sym, ap, ℕ, ◌+◌, ◌<◌, List, [], ◌∷◌, ◌++◌, Option, Some, None, arith, length, length-append, get_or, inl, inr, ◌⊎◌}
use Rattle.std.proofs.lemmas.Bool.{cases_eq}
use Rattle.std.proofs.lemmas.List.{get_or_append_left, get_or_push}
use Rattle.dep_check.specs.declared.channel.Channel.{Channel}
use Rattle.dep_check.specs.Tables.{IsSpot, place_of, AreWiresBelow}
use Rattle.dep_check.proofs.SpotLemmas.{one_spot}

-- what a longer table has: at the last place the new value, and else what it had
pub pushed : {A : Type 0} (xs : List A) (v d : A) (s spot : Channel) (end : ℕ) → length xs ≡ end → IsSpot s → IsSpot spot → place_of spot ≡ end → place_of s < end + 1 → ((place_of s < end) × (get_or (xs ++ v ∷ []) (place_of s) d ≡ get_or xs (place_of s) d)) ⊎ ((s ≡ spot) × (get_or (xs ++ v ∷ []) (place_of s) d ≡ v))
pushed xs v d s spot end count s_spot spot_spot at low = elim (cases_eq (place_of s) end) [
  | inl last ↦ inr (one_spot s spot s_spot spot_spot (last ∙ sym at), get_or_push xs v d (place_of s) (count ∙ sym last))
  | inr before ↦ inl (omega arith, get_or_append_left xs (v ∷ []) d (place_of s) (omega arith))
]

pub push_count : {A : Type 0} (xs : List A) (v : A) (end : ℕ) → length xs ≡ end → length (xs ++ v ∷ []) ≡ end + 1
push_count xs v end count = omega (arith, length-append xs (v ∷ []))

-- the wires, with one spot more
pub wires_more : (far : Channel → Option Channel) (end : ℕ) (wires : List (Option Channel)) (spot : Channel) (v : Option Channel) → AreWiresBelow far end wires → IsSpot spot → place_of spot ≡ end → v ≡ far spot → ((b : Channel) → v ≡ Some b → IsSpot b) → AreWiresBelow far (end + 1) (wires ++ v ∷ [])
wires_more far end wires spot v so_far is at same within = record {
  count = push_count wires v end so_far.count;
  each = λ s s_spot low. elim (pushed wires v None s spot end so_far.count s_spot is at low) [
    | inl before ↦ before.1 ∙ so_far.each s s_spot before.0
    | inr last ↦ last.1 ∙ same ∙ sym (ap far last.0)
  ];
  within = λ s b s_spot low e. elim (pushed wires v None s spot end so_far.count s_spot is at low) [
    | inl before ↦ so_far.within s b s_spot before.0 (sym before.1 ∙ e)
    | inr last ↦ within b (sym last.1 ∙ e)
  ];
}
