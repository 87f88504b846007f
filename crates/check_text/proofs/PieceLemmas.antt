use Rattle.std.proofs.Common.{◌≡◌, ◌∙◌, sym, ap, ℕ, ◌+◌, List, ◌++◌, append_assoc}
use Rattle.std.specs.List.{flat_map, range_with_len}
use Rattle.std.proofs.lemmas.List.{flat_map_more}
use Rattle.common_values.proofs.ListLemmas.{places_more}

-- the text of one number more
pub numbers_next : (f : ℕ → List ℕ) (base text new : List ℕ) (n : ℕ) → text ≡ base ++ flat_map f (range_with_len 0 n) → new ≡ text ++ f n → new ≡ base ++ flat_map f (range_with_len 0 (n + 1))
numbers_next f base text new n so_far one =
    one ∙ ap (λ (t : List ℕ). t ++ f n) so_far ∙ flat_map_more f base (range_with_len 0 n) n ∙ ap (λ (ns : List ℕ). base ++ flat_map f ns) (sym (places_more n))

-- a text of seven pieces
pub seven_pieces : (t0 t1 t2 t3 t4 t5 t6 t7 a b c d e f g : List ℕ) → t1 ≡ t0 ++ a → t2 ≡ t1 ++ b → t3 ≡ t2 ++ c → t4 ≡ t3 ++ d → t5 ≡ t4 ++ e → t6 ≡ t5 ++ f → t7 ≡ t6 ++ g → t7 ≡ t0 ++ ((((((a ++ b) ++ c) ++ d) ++ e) ++ f) ++ g)
seven_pieces t0 t1 t2 t3 t4 t5 t6 t7 a b c d e f g one two three four five six seven =
    seven ∙ ap (λ (t : List ℕ). t ++ g) (six ∙ ap (λ (t : List ℕ). t ++ f) (five ∙ ap (λ (t : List ℕ). t ++ e) (four ∙ ap (λ (t : List ℕ). t ++ d) (three ∙ ap (λ (t : List ℕ). t ++ c) (two ∙ ap (λ (t : List ℕ). t ++ b) one)))))
    ∙ simp append_assoc
