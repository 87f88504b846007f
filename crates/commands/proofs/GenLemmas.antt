-- The words `gen SEED N`.
use Rattle.std.proofs.Common.{◌≡◌, ◌≢◌, ◌∙◌, sym, ap, ℕ, ◌-◌, ◌^◌, List, [], ◌∷◌, true, false}
use Rattle.std.specs.Prelude.{codes}
use Rattle.common_lines.specs.Words.{is_number_in, number_value}
use Rattle.commands.specs.Gen.{AreGenWords}

second_of_three : (a x y u v : List ℕ) → a ∷ x ∷ u ∷ [] ≡ a ∷ y ∷ v ∷ [] → x ≡ y
second_of_three a x y u v e = cc

third_of_three : (a x y u v : List ℕ) → a ∷ x ∷ u ∷ [] ≡ a ∷ y ∷ v ∷ [] → u ≡ v
third_of_three a x y u v e = cc

-- these words are not there
pub no_words : (words : List (List ℕ)) → ((seed count : List ℕ) → words ≢ codes "gen" ∷ seed ∷ count ∷ []) → (seed count : ℕ) → AreGenWords words seed count → ⊥
no_words words none seed count are = none are.seed_word are.count_word are.words_are

-- the words behind `gen` are those that there are
module _ (words : List (List ℕ)) (seed_word count_word : List ℕ) (is : words ≡ codes "gen" ∷ seed_word ∷ count_word ∷ []) where
  same_seed : (seed count : ℕ) (are : AreGenWords words seed count) → are.seed_word ≡ seed_word
  same_seed seed count are = second_of_three (codes "gen") are.seed_word seed_word are.count_word count_word (sym are.words_are ∙ is)

  same_count : (seed count : ℕ) (are : AreGenWords words seed count) → are.count_word ≡ count_word
  same_count seed count are = third_of_three (codes "gen") are.seed_word seed_word are.count_word count_word (sym are.words_are ∙ is)

  -- the first is no seed
  pub no_seed : is_number_in 0 (2 ^ 64 - 1) seed_word ≡ false → (seed count : ℕ) → AreGenWords words seed count → ⊥
  no_seed out seed count are =
      let yes : is_number_in 0 (2 ^ 64 - 1) seed_word ≡ true = ap (λ (w : List ℕ). is_number_in 0 (2 ^ 64 - 1) w) (sym (same_seed seed count are)) ∙ are.seed_range in
      absurd (cc)

  -- the second is no number of switches
  pub no_count : is_number_in 1 100 count_word ≡ false → (seed count : ℕ) → AreGenWords words seed count → ⊥
  no_count out seed count are =
      let yes : is_number_in 1 100 count_word ≡ true = ap (λ (w : List ℕ). is_number_in 1 100 w) (sym (same_count seed count are)) ∙ are.count_range in
      absurd (cc)

-- they say one seed and one number of switches
pub one_seed : (words : List (List ℕ)) (a b n m : ℕ) → AreGenWords words a n → AreGenWords words b m → a ≡ b
one_seed words a b n m one two = one.seed_is ∙ ap number_value (same_seed words two.seed_word two.count_word two.words_are a n one) ∙ sym two.seed_is

pub one_count : (words : List (List ℕ)) (a b n m : ℕ) → AreGenWords words a n → AreGenWords words b m → n ≡ m
one_count words a b n m one two = one.count_is ∙ ap number_value (same_count words two.seed_word two.count_word two.words_are a n one) ∙ sym two.count_is
