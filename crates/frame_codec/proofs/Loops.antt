-- Reading one value after the other, as a loop does.
use Rattle.std.proofs.Common.{◌≡◌, ℕ, suc, ◌-◌, ◌+◌, ◌≤◌, ◌<◌, ◌==◌, ◌&&◌, ◌||◌, Bool, true, false, nat_lt, get_or, take, drop, length, subst, inl, inr, List, [], ◌∷◌, ◌++◌, Option, Some, None, Err, refl, sym, ap, ◌∙◌, append_assoc, arith}
use Rattle.std.specs.Prelude.{All}
use Rattle.std.specs.List.{flat_map, list_any, slice_set}
use Rattle.std.proofs.lemmas.List.{append-nil, take_more, drop_more, drop_all, flat_map_more, get_or-set_other}
use Rattle.std.proofs.lemmas.List.Folds.{list_any-append}
use Rattle.std.proofs.lemmas.Bool.{le-ltb, lt-ltb, cases_eq, or_right}
use Rattle.std.proofs.lemmas.Bool.Decides.{nat_tests}
use Rattle.std.proofs.lemmas.Grind.{get_or-set_at}
use Rattle.std.proofs.lemmas.List.Elements.{All-append, All-cons, All-nil}
use Rattle.an_base.specs.Values.{PeerAt}
use Rattle.frame_codec.specs.declared.reading.DecodeRefusal.{DecodeRefusal}
use Rattle.frame_codec.specs.declared.reading.DecodeRefusal.TheVariants.{NotAFrame, OutOfMemory}
use Rattle.frame_codec.specs.Reading.{At, ◌>>=◌, ReadsAs, list_at, is_new, are_new}

-- what was read before, and what is still read
abbrev pub with_front : {A : Type 0} → List A → Option (List A × List ℕ) → Option (List A × List ℕ)
with_front front read = read >>= λ x. Some (front ++ x.0, x.1)

regroup : {A : Type 0} (front : List A) (n : A) (read : Option (List A × List ℕ)) → with_front front (read >>= λ x. Some (n ∷ x.0, x.1)) ≡ with_front (front ++ n ∷ []) read
regroup {A} front n (Some x) = ap (λ (ns : List A). Some (ns, x.1)) (simp append_assoc)
regroup front n None = refl

pub goes_on : {A S : Type 0} (one : S → At A) (next : A → S) (s : S) (front : List A) (count i : ℕ) (bytes : List ℕ) (x : A) (after : List ℕ) (total : Option (List A × List ℕ)) → i < count → one s bytes ≡ Some (x, after)
    → with_front front (list_at one next s (count - i) bytes) ≡ total → with_front (front ++ x ∷ []) (list_at one next (next x) (count - (i + 1)) after) ≡ total
unfolding list_at
goes_on one next s front count i bytes x after total lt h so_far =
    let k : count - i ≡ suc (count - (i + 1)) = omega arith in
    let one_more : with_front front (list_at one next s (count - i) bytes) ≡ with_front (front ++ x ∷ []) (list_at one next (next x) (count - (i + 1)) after) = rw (k, h) (regroup front x (list_at one next (next x) (count - (i + 1)) after)) in
    sym one_more ∙ so_far

pub ends : {A B S V : Type 0} (view : V → List A) (see : B → A) (one : S → At A) (next : A → S) (s s0 : S) (e : DecodeRefusal) (front : List A) (count i : ℕ) (old bytes after new : List ℕ) → i < count → ReadsAs see (one s) (Err e) bytes after
    → with_front front (list_at one next s (count - i) bytes) ≡ list_at one next s0 count old → ReadsAs view (list_at one next s0 count) (Err e) old new
unfolding list_at
ends view see one next s s0 OutOfMemory front count i old bytes after new lt h so_far = tt
ends view see one next s s0 NotAFrame front count i old bytes after new lt h so_far =
    let k : count - i ≡ suc (count - (i + 1)) = omega arith in
    let none : with_front front (list_at one next s (count - i) bytes) ≡ None = rw (k, h) refl in
    sym so_far ∙ none

pub is_done : {A S : Type 0} (one : S → At A) (next : A → S) (s : S) (front : List A) (count i : ℕ) (bytes : List ℕ) (total : Option (List A × List ℕ)) → count ≤ i → with_front front (list_at one next s (count - i) bytes) ≡ total → total ≡ Some (front, bytes)
unfolding list_at
is_done {A} one next s front count i bytes total le so_far =
    let k : count - i ≡ 0 = omega arith in
    let all : with_front front (list_at one next s (count - i) bytes) ≡ Some (front, bytes) = rw k (ap (λ (xs : List A). Some (xs, bytes)) (append-nil front)) in
    sym so_far ∙ all

-- one more link above the others
pub links_push : (ks : List PeerAt) (k : PeerAt) (above : ℕ) → All (λ l. l.port ≤ above) ks → above + 1 ≤ k.port → All (λ l. l.port ≤ k.port) (ks ++ k ∷ [])
links_push ks k above low up =
    All-append (λ l. l.port ≤ k.port) ks (k ∷ []) (λ i d lt. omega (arith, low i d lt, up)) (All-cons (λ l. l.port ≤ k.port) k [] (omega arith) (All-nil (λ l. l.port ≤ k.port)))

-- one more spelling at the end
pub puts_more : {A : Type 0} (f : A → List ℕ) (old out new : List ℕ) (xs : List A) (i : ℕ) (x : A) → i < length xs → x ≡ get_or xs i x → out ≡ old ++ flat_map f (take i xs) → new ≡ out ++ f x → new ≡ old ++ flat_map f (take (i + 1) xs)
puts_more {A} f old out new xs i x lt is so_far more =
    let longer : take (i + 1) xs ≡ take i xs ++ x ∷ [] = take_more xs i x lt ∙ ap (λ (y : A). take i xs ++ y ∷ []) (sym is) in
    more ∙ ap (λ (o : List ℕ). o ++ f x) so_far ∙ flat_map_more f old (take i xs) x ∙ ap (λ (ys : List A). old ++ flat_map f ys) (sym longer)

-- and the value has what the others have
pub all_more : {A : Type 0} (P : A → Type 0) (xs : List A) (i : ℕ) (x : A) → i < length xs → x ≡ get_or xs i x → All P (take i xs) → P x → All P (take (i + 1) xs)
all_more {A} P xs i x lt is so_far one =
    let longer : take (i + 1) xs ≡ take i xs ++ x ∷ [] = take_more xs i x lt ∙ ap (λ (y : A). take i xs ++ y ∷ []) (sym is) in
    subst (All P) (sym longer) (All-append P (take i xs) (x ∷ []) so_far (All-cons P x [] one (All-nil P)))

-- ---- numbers that are seen

new_at : (ns : List ℕ) (i : ℕ) → i < length ns → are_new (take i ns) (drop i ns) ≡ (is_new (take i ns) (get_or ns i 0) && are_new (take (i + 1) ns) (drop (i + 1) ns))
unfolding are_new
new_at ns i lt =
    ap (are_new (take i ns)) (drop_more ns i 0 lt) ∙ ap (λ (before : List ℕ). is_new (take i ns) (get_or ns i 0) && are_new before (drop (i + 1) ns)) (sym (take_more ns i 0 lt))

refused : (ns : List ℕ) (i : ℕ) → i < length ns → are_new (take i ns) (drop i ns) ≡ are_new [] ns → is_new (take i ns) (get_or ns i 0) ≡ false → false ≡ are_new [] ns
refused ns i lt so_far stale = sym (sym so_far ∙ new_at ns i lt ∙ ap (λ (b : Bool). b && are_new (take (i + 1) ns) (drop (i + 1) ns)) stale)

pub is_low : (ns : List ℕ) (i : ℕ) → i < length ns → are_new (take i ns) (drop i ns) ≡ are_new [] ns → get_or ns i 0 < 1 → false ≡ are_new [] ns
is_low ns i lt so_far low = let t : nat_lt (get_or ns i 0) 1 ≡ true = lt-ltb _ _ low in refused ns i lt so_far (rw t refl)

pub is_high : (ns : List ℕ) (i : ℕ) → i < length ns → are_new (take i ns) (drop i ns) ≡ are_new [] ns → 1 ≤ get_or ns i 0 → 126 < get_or ns i 0 → false ≡ are_new [] ns
is_high ns i lt so_far low high =
    let l : nat_lt (get_or ns i 0) 1 ≡ false = le-ltb _ _ low in
    let t : nat_lt 126 (get_or ns i 0) ≡ true = lt-ltb _ _ high in
    refused ns i lt so_far (rw (l, t) refl)

-- whether a number is seen is whether it stands before
abbrev pub Seen : List Bool → List ℕ → Type 0
Seen seen before = (k : ℕ) → k < 127 → get_or seen k false ≡ list_any (λ m. m == k) before

pub is_seen : (ns : List ℕ) (i : ℕ) (seen : List Bool) → i < length ns → are_new (take i ns) (drop i ns) ≡ are_new [] ns → 1 ≤ get_or ns i 0 → get_or ns i 0 ≤ 126 → Seen seen (take i ns) → get_or seen (get_or ns i 0) false ≡ true → false ≡ are_new [] ns
is_seen ns i seen lt so_far low high known there =
    let l : nat_lt (get_or ns i 0) 1 ≡ false = le-ltb _ _ low in
    let t : nat_lt 126 (get_or ns i 0) ≡ false = le-ltb _ _ high in
    let s : list_any (λ m. m == get_or ns i 0) (take i ns) ≡ true = sym (known (get_or ns i 0) (omega (arith, high))) ∙ there in
    refused ns i lt so_far (rw (l, t, s) refl)

pub is_fresh : (ns : List ℕ) (i : ℕ) (seen : List Bool) → i < length ns → are_new (take i ns) (drop i ns) ≡ are_new [] ns → 1 ≤ get_or ns i 0 → get_or ns i 0 ≤ 126 → Seen seen (take i ns) → get_or seen (get_or ns i 0) false ≡ false → are_new (take (i + 1) ns) (drop (i + 1) ns) ≡ are_new [] ns
is_fresh ns i seen lt so_far low high known absent =
    let l : nat_lt (get_or ns i 0) 1 ≡ false = le-ltb _ _ low in
    let t : nat_lt 126 (get_or ns i 0) ≡ false = le-ltb _ _ high in
    let s : list_any (λ m. m == get_or ns i 0) (take i ns) ≡ false = sym (known (get_or ns i 0) (omega (arith, high))) ∙ absent in
    let fresh : is_new (take i ns) (get_or ns i 0) ≡ true = rw (l, t, s) refl in
    sym (ap (λ (b : Bool). b && are_new (take (i + 1) ns) (drop (i + 1) ns)) fresh) ∙ sym (new_at ns i lt) ∙ so_far

or_false : (b : Bool) → (b || false) ≡ b
or_false true = refl
or_false false = refl

seen_push : (seen : List Bool) (before : List ℕ) (n : ℕ) → n < length seen → Seen seen before → Seen (slice_set seen n true) (before ++ n ∷ [])
seen_push seen before n within known k lt =
    let joined = list_any-append (λ m. m == k) before (n ∷ []) in
    elim (cases_eq n k) [
      | inl same ↦
          let t : (n == k) ≡ true = grind (arith, nat_tests) in
          get_or-set_at seen n k true false (sym same) within ∙ sym (joined ∙ ap (λ (b : Bool). list_any (λ m. m == k) before || (b || false)) t ∙ or_right (list_any (λ m. m == k) before) true refl)
      | inr other ↦
          let t : (n == k) ≡ false = grind (arith, nat_tests) in
          get_or-set_other seen n k true false (λ e. other (sym e)) ∙ known k lt ∙ sym (joined ∙ ap (λ (b : Bool). list_any (λ m. m == k) before || (b || false)) t ∙ or_false (list_any (λ m. m == k) before))
    ]

pub seen_more : (ns : List ℕ) (i : ℕ) (seen : List Bool) → i < length ns → get_or ns i 0 < length seen → Seen seen (take i ns) → Seen (slice_set seen (get_or ns i 0) true) (take (i + 1) ns)
seen_more ns i seen lt within known = subst (Seen (slice_set seen (get_or ns i 0) true)) (sym (take_more ns i 0 lt)) (seen_push seen (take i ns) (get_or ns i 0) within known)

pub all_seen : (ns : List ℕ) (i : ℕ) → length ns ≤ i → are_new (take i ns) (drop i ns) ≡ are_new [] ns → true ≡ are_new [] ns
unfolding are_new
all_seen ns i le so_far = sym (ap (are_new (take i ns)) (drop_all i ns le)) ∙ so_far
