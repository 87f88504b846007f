-- An input is gone through line by line.
use Rattle.std.proofs.Common.{◌≡◌, ◌∙◌, sym, ap, refl, ℕ, List, [], ◌∷◌, ◌++◌, ◌-◌, append_assoc, arith, length, true, false, take, drop}
use Rattle.std.proofs.lemmas.List.{length-drop, take_all, take-append-drop}
use Rattle.common_lines.specs.Lines.{lines_of}
use Rattle.replay.specs.Division.{IsBack, after_end, from_words, has_words, is_end_line}

-- what ends bytes
pub back_itself : (bytes : List ℕ) → IsBack bytes bytes
back_itself bytes = ([], refl)

pub back_twice : (bytes mid rest : List ℕ) → IsBack bytes mid → IsBack mid rest → IsBack bytes rest
back_twice bytes mid rest (front, is) (more, at) =
    (front ++ more, is ∙ ap (λ (r : List ℕ). front ++ r) at ∙ sym (append_assoc front more rest))

pub back_drop : (n : ℕ) (bytes : List ℕ) → IsBack bytes (drop n bytes)
back_drop n bytes = (take n bytes, sym (take-append-drop n bytes))

pub back_sliced : (n : ℕ) (bytes : List ℕ) → IsBack bytes (take (length bytes - n) (drop n bytes))
back_sliced n bytes =
    let len = length-drop n bytes in
    let all = take_all (length bytes - n) (drop n bytes) (omega (arith, len)) in
    rw all (back_drop n bytes)

-- what is sought in the lines is there in those that are not looked at yet
pub record IsAlong (sought : List (List ℕ) → List (List ℕ)) (bytes rest : List ℕ) : Type 0 where
  pub back : IsBack bytes rest
  pub same : sought (lines_of rest) ≡ sought (lines_of bytes)

along_more : (sought : List (List ℕ) → List (List ℕ)) (bytes rest line behind : List ℕ) → IsAlong sought bytes rest → lines_of rest ≡ line ∷ lines_of behind → IsBack rest behind → sought (line ∷ lines_of behind) ≡ sought (lines_of behind) → IsAlong sought bytes behind
along_more sought bytes rest line behind along is back passed = record { back = back_twice bytes rest behind along.back back; same = sym passed ∙ ap sought (sym is) ∙ along.same }

along_none : (sought : List (List ℕ) → List (List ℕ)) (bytes rest : List ℕ) → IsAlong sought bytes rest → lines_of rest ≡ [] → sought [] ≡ [] → lines_of rest ≡ sought (lines_of bytes)
along_none sought bytes rest along none nothing = none ∙ sym nothing ∙ ap sought (sym none) ∙ along.same

-- the lines from the first with words on
abbrev pub IsAhead : List ℕ → List ℕ → Type 0
IsAhead = IsAlong from_words

pub with_words : (bytes rest line behind : List ℕ) → IsAhead bytes rest → lines_of rest ≡ line ∷ lines_of behind → has_words line ≡ true → lines_of rest ≡ from_words (lines_of bytes)
with_words bytes rest line behind ahead is has =
    let e : from_words (line ∷ lines_of behind) ≡ line ∷ lines_of behind = rw has refl in
    is ∙ sym e ∙ ap from_words (sym is) ∙ ahead.same

pub without_words : (bytes rest line behind : List ℕ) → IsAhead bytes rest → lines_of rest ≡ line ∷ lines_of behind → IsBack rest behind → has_words line ≡ false → IsAhead bytes behind
without_words bytes rest line behind ahead is back none = along_more from_words bytes rest line behind ahead is back (rw none refl)

pub no_words : (bytes rest : List ℕ) → IsAhead bytes rest → lines_of rest ≡ [] → lines_of rest ≡ from_words (lines_of bytes)
no_words bytes rest ahead none = along_none from_words bytes rest ahead none refl

-- the lines behind the end
abbrev pub IsBefore : List ℕ → List ℕ → Type 0
IsBefore = IsAlong after_end

pub at_end : (bytes rest line behind : List ℕ) → IsBefore bytes rest → lines_of rest ≡ line ∷ lines_of behind → is_end_line line ≡ true → from_words (lines_of behind) ≡ after_end (lines_of bytes)
at_end bytes rest line behind before is end =
    let e : after_end (line ∷ lines_of behind) ≡ from_words (lines_of behind) = rw end refl in
    sym e ∙ ap after_end (sym is) ∙ before.same

pub before_end : (bytes rest line behind : List ℕ) → IsBefore bytes rest → lines_of rest ≡ line ∷ lines_of behind → IsBack rest behind → is_end_line line ≡ false → IsBefore bytes behind
before_end bytes rest line behind before is back other = along_more after_end bytes rest line behind before is back (rw other refl)

pub no_end : (bytes rest : List ℕ) → IsBefore bytes rest → lines_of rest ≡ [] → lines_of rest ≡ after_end (lines_of bytes)
no_end bytes rest before none = along_none after_end bytes rest before none refl
