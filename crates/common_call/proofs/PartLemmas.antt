-- Parts of a line that are written to a sink in turn.
use Rattle.std.proofs.Common.{◌≡◌, ◌≢◌, ◌∙◌, sym, ap, ℕ, ◌+◌, ◌<◌, ◌≤◌, List, [], ◌++◌, arith, length, length-append, get_or, take, drop}
use Rattle.std.specs.Prelude.{flat_map}
use Rattle.std.proofs.Math.Seq.{take-append-add}
use Rattle.std.proofs.lemmas.List.{take-append-le, take-append-drop}
use Rattle.std.proofs.lemmas.Grind.{flat_map-append}
use Rattle.common_values.proofs.FlatMapLemmas.{flat_map-more}
use Rattle.outside.specs.Told.{Told, Seen, with_back, Gains, GainsFront}
use Rattle.outside.proofs.ToldLemmas.{with_back_twice}

-- one more
pub gains_more : (old mid new : Seen) (xs ys : List ℕ) → Gains old mid xs → Gains mid new ys → Gains old new (xs ++ ys)
gains_more old mid new xs ys one two = two ∙ ap (λ (t : Told). with_back t ys) one ∙ with_back_twice old.told xs ys

-- a front of one more is a front of all
pub front_more : (old mid new : Seen) (xs ys zs : List ℕ) → Gains old mid xs → GainsFront mid new ys → GainsFront old new ((xs ++ ys) ++ zs)
front_more old mid new xs ys zs one front =
    let n = front.0 in
    let few : length xs + n ≤ length (xs ++ ys) = omega (arith, length-append xs ys, front.1) in
    let same : take (length xs + n) ((xs ++ ys) ++ zs) ≡ xs ++ take n ys = take-append-le (length xs + n) (xs ++ ys) zs few ∙ take-append-add xs ys n in (
      length xs + n,
      omega (arith, length-append (xs ++ ys) zs, few),
      gains_more old mid new xs (take n ys) one front.2 ∙ ap (λ (t : List ℕ). with_back old.told t) (sym same),
    )

-- all of them are those up to one, and those after it
pub parts_are : {X : Type 0} (f : X → List ℕ) (parts : List X) (i : ℕ) (d : X) → i < length parts → (flat_map f (take i parts) ++ f (get_or parts i d)) ++ flat_map f (drop (i + 1) parts) ≡ flat_map f parts
parts_are f parts i d low =
    ap (λ (xs : List ℕ). xs ++ flat_map f (drop (i + 1) parts)) (sym (flat_map-more f parts i d low))
    ∙ sym (flat_map-append f (take (i + 1) parts) (drop (i + 1) parts))
    ∙ ap (λ xs. flat_map f xs) (take-append-drop (i + 1) parts)

-- they are some bytes, if one of them is
pub parts_some : {X : Type 0} (f : X → List ℕ) (parts : List X) (i : ℕ) (d : X) → i < length parts → 0 < length (f (get_or parts i d)) → flat_map f parts ≢ []
parts_some f parts i d low some none =
    let front = flat_map f (take i parts) in
    let part = f (get_or parts i d) in
    let back = flat_map f (drop (i + 1) parts) in
    let all : length ((front ++ part) ++ back) ≡ length (flat_map f parts) = ap (λ (xs : List ℕ). length xs) (parts_are f parts i d low) in
    let zero : length (flat_map f parts) ≡ 0 = ap (λ (xs : List ℕ). length xs) none in
    omega (arith, length-append (front ++ part) back, length-append front part, all, zero, some)
