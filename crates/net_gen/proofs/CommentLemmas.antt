-- The line on a run is a comment.

use Rattle.std.proofs.Common.{◌≡◌, refl, ℕ, ◌+◌, ◌^◌, ◌<◌, ◌≤◌, List, [], ◌∷◌, ◌++◌, All, arith, codes, length, length-append, ltb, true, ◌&&◌}
use Rattle.std.specs.Fmt.{decimal}
use Rattle.std.specs.List.{list_all}
use Rattle.std.proofs.lemmas.Fmt.{length-decimal-le}
use Rattle.std.proofs.lemmas.List.Elements.{All-append, All-cons, All-nil, All-weaker}
use Rattle.common_lines.proofs.SpellLemmas.{IsPrinted, decimal_word, fixed_word}
use Rattle.net_state.specs.declared.ending.Ending.{Ending}
use Rattle.net_state.specs.declared.ending.Ending.TheVariants as ending
use Rattle.net_gen.specs.Summary.{IsComment, counted, end_word, line_on}

-- a byte of a comment
abbrev IsShown : ℕ → Type 0
IsShown byte = (32 ≤ byte) × (byte ≤ 126)

shown : (w : List ℕ) → All IsPrinted w → All IsShown w
shown w are = All-weaker IsPrinted IsShown (λ c is. let h = is.0 in let k = is.1 in (omega arith, omega arith)) w are

-- of words that are short, with how long they are
record IsShort (most : ℕ) (text : List ℕ) : Type 0 where
  bytes : All IsShown text
  few : length text ≤ most

fixed : (w : List ℕ) → list_all (λ c. ltb 44 c && ltb c 127) w ≡ true → 0 < length w → length w ≤ 9 → IsShort 9 w
fixed w test some few = record { bytes = shown w (fixed_word w test some (omega (arith, few))).bytes; few = few }

end_short : (end : Ending) → IsShort 9 (end_word end)
end_short ending.Settled = fixed (codes "settled") refl (omega arith) (omega arith)
end_short ending.Unsettled = fixed (codes "unsettled") refl (omega arith) (omega arith)
end_short ending.Full = fixed (codes "full") refl (omega arith) (omega arith)
end_short (ending.Spent life) = fixed (codes "spent") refl (omega arith) (omega arith)

decimal_short : (n : ℕ) → n < 2 ^ 64 → IsShort 20 (decimal n)
decimal_short n low = record { bytes = shown (decimal n) (decimal_word n low).bytes; few = length-decimal-le 20 n (omega arith) (omega arith) low }

both : (one two : ℕ) (xs ys : List ℕ) → IsShort one xs → IsShort two ys → IsShort (one + two) (xs ++ ys)
both one two xs ys a b = record { bytes = All-append IsShown xs ys a.bytes b.bytes; few = omega (arith, length-append xs ys, a.few, b.few) }

space : IsShort 1 (32 ∷ [])
space = record { bytes = All-cons IsShown 32 [] (omega arith, omega arith) (All-nil IsShown); few = omega arith }

counted_short : (word : List ℕ) (n : ℕ) → IsShort 9 word → n < 2 ^ 64 → IsShort 31 (counted word n)
counted_short word n is low = both 11 20 ((codes " " ++ word) ++ codes " ") (decimal n) (both 10 1 (codes " " ++ word) (codes " ") (both 1 9 (codes " ") word space is) space) (decimal_short n low)

-- the line on a run, of numbers that are not long
pub comment_is : (end : Ending) (tick events delivered dropped : ℕ) → tick < 2 ^ 64 → events < 2 ^ 64 → delivered < 2 ^ 64 → dropped < 2 ^ 64 → IsComment (line_on end tick events delivered dropped)
comment_is end tick events delivered dropped a b c d =
    let p0 = 32 ∷ [] in
    let p1 = p0 ++ end_word end in
    let p2 = p1 ++ counted (codes "tick") tick in
    let p3 = p2 ++ counted (codes "events") events in
    let p4 = p3 ++ counted (codes "delivered") delivered in
    let p5 = p4 ++ counted (codes "dropped") dropped in
    let is : IsShort 134 p5 =
    both 103 31 p4 (counted (codes "dropped") dropped)
    (both 72 31 p3 (counted (codes "delivered") delivered)
    (both 41 31 p2 (counted (codes "events") events)
    (both 10 31 p1 (counted (codes "tick") tick)
    (both 1 9 p0 (end_word end) space (end_short end))
    (counted_short (codes "tick") tick (fixed (codes "tick") refl (omega arith) (omega arith)) a))
    (counted_short (codes "events") events (fixed (codes "events") refl (omega arith) (omega arith)) b))
    (counted_short (codes "delivered") delivered (fixed (codes "delivered") refl (omega arith) (omega arith)) c))
    (counted_short (codes "dropped") dropped (fixed (codes "dropped") refl (omega arith) (omega arith)) d) in
    record { words = p5; parts = refl; printed = is.bytes; few = omega (arith, is.few) }
