-- The words `flow B`.
use Rattle.std.proofs.Common.{◌≡◌, ◌∙◌, sym, ap, ℕ, List, [], ◌∷◌, true, false}
use Rattle.std.specs.Prelude.{codes}
use Rattle.common_lines.specs.Words.{is_number_in, number_value}
use Rattle.autonet_file_commands.specs.Flow.{AreFlowWords}

second_of_two : (a x y : List ℕ) → a ∷ x ∷ [] ≡ a ∷ y ∷ [] → x ≡ y
second_of_two a x y e = cc

-- the word behind `flow` is the one that there is
same_word : (words : List (List ℕ)) (word : List ℕ) (room : ℕ) → words ≡ codes "flow" ∷ word ∷ [] → (are : AreFlowWords words room) → are.word ≡ word
same_word words word room is are = second_of_two (codes "flow") are.word word (sym are.words_are ∙ is)

-- it is out of the range
pub no_room : (words : List (List ℕ)) (word : List ℕ) → words ≡ codes "flow" ∷ word ∷ [] → is_number_in 1 16 word ≡ false → (room : ℕ) → AreFlowWords words room → ⊥
no_room words word is out room are =
    let yes : is_number_in 1 16 word ≡ true = ap (λ (w : List ℕ). is_number_in 1 16 w) (sym (same_word words word room is are)) ∙ are.in_range in
    absurd (cc)

-- and says one number
pub one_room : (words : List (List ℕ)) (a b : ℕ) → AreFlowWords words a → AreFlowWords words b → a ≡ b
one_room words a b one two = one.room_is ∙ ap number_value (same_word words two.word a two.words_are one) ∙ sym two.room_is
