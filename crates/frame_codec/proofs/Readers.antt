-- What a reader takes from the front of bytes is spelled there, and what is spelled there is taken.
use Rattle.std.proofs.Common.{◌≡◌, ℕ, zero, suc, ◌^◌, ◌<◌, ◌≤◌, ◌&&◌, Bool, true, false, not, cond, nat_lt, List, [], ◌∷◌, ◌++◌, length, get_or, take, drop, Option, Some, None, refl, sym, ap, subst, ◌∙◌, append_assoc, arith, inl, inr}
use Rattle.std.specs.Prelude.{⊤}
use Rattle.std.specs.List.{flat_map}
use Rattle.std.proofs.lemmas.Bool.{cases_lt, ltb-false, le-ltb}
use Rattle.std.proofs.lemmas.Bool.Decides.{nat_tests}
use Rattle.std.proofs.lemmas.Option.{cond_some, same_Some}
use Rattle.std.proofs.lemmas.List.{drop_at, take-append-drop, length-append, length-take, get_or-take, get_or_past}
use Rattle.std.proofs.lemmas.Nat.{be_bytes_4, be_bytes_8}
use Rattle.byteorder.specs.Endian.{big_number, big_bytes}
use Rattle.byteorder.specs.Numbers.{big_from-lt, big_from-take, big_number-reads_back, length-bytes_high_first}
use Rattle.frame_codec.specs.Spelling.{number_bytes}
use Rattle.frame_codec.specs.Frames.{IsWithin, IsCounted}
use Rattle.frame_codec.specs.Reading.{At, ◌>>=◌, both, made, tested, byte_at, number_at, within_at, counted_at, list_at}

abbrev pub IsBytes : List ℕ → Type 0
IsBytes bytes = (i : ℕ) → get_or bytes i 0 < 256

pub IsBytes-after : (x y : List ℕ) → IsBytes (x ++ y) → IsBytes y
IsBytes-after [] y h = h
IsBytes-after (b ∷ x) y h = IsBytes-after x y (λ i. h (suc i))

IsBytes-take : (n : ℕ) (bytes : List ℕ) → IsBytes bytes → IsBytes (take n bytes)
IsBytes-take n bytes h i =
    elim (cases_lt i n) [
      | inl lt ↦ rw (get_or-take n bytes i 0 lt) (h i)
      | inr le ↦ rw (get_or_past (take n bytes) i 0 (omega (arith, length-take n bytes))) (omega arith)
    ]

-- a reader of the values with a property: what it takes is spelled and has it, and what is spelled and has it is taken
pub record IsReader {A : Type 0} (at : At A) (spell : A → List ℕ) (Is : A → Type 0) : Type 0 where
  pub takes : (bytes : List ℕ) (x : A) (rest : List ℕ) → IsBytes bytes → at bytes ≡ Some (x, rest) → (bytes ≡ spell x ++ rest) × Is x
  pub again : (x : A) (rest : List ℕ) → Is x → at (spell x ++ rest) ≡ Some (x, rest)

-- the value of a step that gave one
pub bind_some : {A B : Type 0} (r : Option A) (f : A → Option B) (y : B) → (r >>= f) ≡ Some y → (x : A) × (r ≡ Some x) × (f x ≡ Some y)
bind_some (Some x) f y e = (x, refl, e)
bind_some None f y e = absurd cc

-- a test that passed
pub cond_none : {A : Type 0} (b : Bool) (x y : A) → cond b None (Some x) ≡ Some y → (b ≡ false) × (x ≡ y)
cond_none true x y e = absurd cc
cond_none false x y e = (refl, same_Some x y e)

pub both_reads : {A B : Type 0} {a : At A} {b : At B} {s : A → List ℕ} {t : B → List ℕ} {P : A → Type 0} {Q : B → Type 0} → IsReader a s P → IsReader b t Q → IsReader (both a b) (λ p. s p.0 ++ t p.1) (λ p. P p.0 × Q p.1)
both_reads {A} {B} {a} {b} {s} {t} {P} {Q} ra rb = record {
  takes = λ bytes x rest fits e.
      let u = bind_some (a bytes) (λ x. b x.1 >>= λ y. Some ((x.0, y.0), y.1)) (x, rest) e in
      let v = bind_some (b u.0.1) (λ y. Some ((u.0.0, y.0), y.1)) (x, rest) u.2 in
      let h = ra.takes bytes u.0.0 u.0.1 fits u.1 in
      let k = rb.takes u.0.1 v.0.0 v.0.1 (IsBytes-after (s u.0.0) u.0.1 (subst IsBytes h.0 fits)) v.1 in
      let whole : bytes ≡ (s u.0.0 ++ t v.0.0) ++ v.0.1 = h.0 ∙ ap (λ (r : List ℕ). s u.0.0 ++ r) k.0 ∙ sym (append_assoc (s u.0.0) (t v.0.0) v.0.1) in
      subst (λ (y : (A × B) × List ℕ). (bytes ≡ (s y.0.0 ++ t y.0.1) ++ y.1) × (P y.0.0 × Q y.0.1)) (same_Some ((u.0.0, v.0.0), v.0.1) (x, rest) v.2) (whole, (h.1, k.1));
  again = λ x rest h. ap (both a b) (append_assoc (s x.0) (t x.1) rest) ∙ rw (ra.again x.0 (t x.1 ++ rest) h.0, rb.again x.1 rest h.1) refl;
}

-- f makes the value, and g takes it apart again
pub made_reads : {A B : Type 0} {a : At A} {s : A → List ℕ} {P : A → Type 0} (f : A → B) (g : B → A) (t : B → List ℕ) (Q : B → Type 0) → IsReader a s P → ((x : A) → P x → s x ≡ t (f x)) → ((x : A) → P x → Q (f x)) → ((y : B) → f (g y) ≡ y) → ((y : B) → Q y → P (g y)) → IsReader (made f a) t Q
made_reads {A} {B} {a} {s} {P} f g t Q ra spelled holds back parts = record {
  takes = λ bytes y rest fits e.
      let u = bind_some (a bytes) (λ x. Some (f x.0, x.1)) (y, rest) e in
      let h = ra.takes bytes u.0.0 u.0.1 fits u.1 in
      subst (λ (z : B × List ℕ). (bytes ≡ t z.0 ++ z.1) × Q z.0) (same_Some (f u.0.0, u.0.1) (y, rest) u.2) (h.0 ∙ ap (λ (r : List ℕ). r ++ u.0.1) (spelled u.0.0 h.1), holds u.0.0 h.1);
  again = λ y rest q.
      let e : t y ≡ s (g y) = sym (spelled (g y) (parts y q) ∙ ap t (back y)) in
      let one : made f a (s (g y) ++ rest) ≡ Some (f (g y), rest) = rw (ra.again (g y) rest (parts y q)) refl in
      ap (λ (r : List ℕ). made f a (r ++ rest)) e ∙ one ∙ ap (λ (z : B). Some (z, rest)) (back y);
}

pub tested_reads : {A : Type 0} (t : A → Bool) (a : At A) (s : A → List ℕ) (P Q : A → Type 0) → IsReader a s P → ((x : A) → P x → t x ≡ true → Q x) → ((x : A) → Q x → P x × (t x ≡ true)) → IsReader (tested t a) s Q
tested_reads {A} t a s P Q ra holds passes = record {
  takes = λ bytes x rest fits e.
      let u = bind_some (a bytes) (λ x. cond (t x.0) (Some x) None) (x, rest) e in
      let g = cond_some (t u.0.0) u.0 (x, rest) u.2 in
      let h = ra.takes bytes u.0.0 u.0.1 fits u.1 in
      subst (λ (z : A × List ℕ). (bytes ≡ s z.0 ++ z.1) × Q z.0) g.1 (h.0, holds u.0.0 h.1 g.0);
  again = λ x rest q.
      let p = passes x q in
      rw (ra.again x rest p.0, p.1) refl;
}

-- ---- bytes and numbers

byte_takes : (bytes : List ℕ) (x : ℕ) (rest : List ℕ) → IsBytes bytes → byte_at bytes ≡ Some (x, rest) → (bytes ≡ x ∷ rest) × (x < 256)
byte_takes [] x rest fits e = absurd cc
byte_takes (b ∷ bytes) x rest fits e =
    subst (λ (z : ℕ × List ℕ). (b ∷ bytes ≡ z.0 ∷ z.1) × (z.0 < 256)) (same_Some (b, bytes) (x, rest) e) (refl, fits 0)

pub byte_reads : IsReader byte_at (λ b. b ∷ []) (λ b. b < 256)
byte_reads = record { takes = byte_takes; again = λ x rest h. refl }

within_holds : (least most b : ℕ) → (not (nat_lt b least) && not (nat_lt most b)) ≡ true → IsWithin least most b
within_holds least most b h = (grind (arith, nat_tests), grind (arith, nat_tests))

within_passes : (least most b : ℕ) → IsWithin least most b → (not (nat_lt b least) && not (nat_lt most b)) ≡ true
within_passes least most b h = let l = h.0 in let m = h.1 in grind (arith, nat_tests)

pub within_reads : (least most : ℕ) → most < 256 → IsReader (within_at least most) (λ b. b ∷ []) (IsWithin least most)
within_reads least most top = tested_reads (λ b. not (nat_lt b least) && not (nat_lt most b)) byte_at (λ b. b ∷ []) (λ b. b < 256) (IsWithin least most) byte_reads (λ b p h. within_holds least most b h) (λ b h. (omega (arith, h.1), within_passes least most b h))

-- what is known of numbers of n bytes
pub record IsWide (n limit : ℕ) : Type 0 where
  pub size : 256 ^ n ≡ limit
  pub back : (bytes : List ℕ) → length bytes ≡ n → IsBytes bytes → big_bytes n (big_number n bytes) ≡ bytes

pub wide4 : IsWide 4 (2 ^ 32)
wide4 = record {
  size = refl;
  back = λ bytes len fits. be_bytes_4 bytes (big_number 4 bytes) len fits (omega arith);
}

two_more : (bytes : List ℕ) → IsBytes bytes → IsBytes (0 ∷ 0 ∷ bytes)
two_more bytes fits zero = omega arith
two_more bytes fits (suc zero) = omega arith
two_more bytes fits (suc (suc i)) = fits i

pub wide6 : IsWide 6 (2 ^ 48)
wide6 = record {
  size = refl;
  back = λ bytes len fits. ap (drop 2) (be_bytes_8 (0 ∷ 0 ∷ bytes) (big_number 6 bytes) (omega (arith, len)) (λ i. two_more bytes fits i) (omega arith));
}

pub wide8 : IsWide 8 (2 ^ 64)
wide8 = record {
  size = refl;
  back = λ bytes len fits. be_bytes_8 bytes (big_number 8 bytes) len fits (omega arith);
}

number_takes : (n limit : ℕ) → IsWide n limit → (bytes : List ℕ) (x : ℕ) (rest : List ℕ) → IsBytes bytes → number_at n bytes ≡ Some (x, rest) → (bytes ≡ number_bytes n x ++ rest) × (x < limit)
unfolding number_at number_bytes
number_takes n limit wide bytes x rest fits e =
    let g = cond_none (nat_lt (length bytes) n) (big_number n bytes, drop n bytes) (x, rest) e in
    let long : n ≤ length bytes = ltb-false _ _ g.0 in
    let front : big_bytes n (big_number n bytes) ≡ take n bytes = ap (big_bytes n) (sym (big_from-take 0 n n bytes (omega arith))) ∙ wide.back (take n bytes) (omega (arith, length-take n bytes)) (IsBytes-take n bytes fits) in
    let below : big_number n bytes < limit = subst (λ (m : ℕ). big_number n bytes < m) wide.size (big_from-lt 0 n bytes fits) in
    subst (λ (z : ℕ × List ℕ). (bytes ≡ big_bytes n z.0 ++ z.1) × (z.0 < limit)) g.1 (sym (ap (λ (r : List ℕ). r ++ drop n bytes) front ∙ take-append-drop n bytes), below)

number_again : (n limit : ℕ) → IsWide n limit → (x : ℕ) (rest : List ℕ) → x < limit → number_at n (number_bytes n x ++ rest) ≡ Some (x, rest)
unfolding number_at number_bytes
number_again n limit wide x rest lt =
    let len = length-bytes_high_first n x in
    let long : nat_lt (length (big_bytes n x ++ rest)) n ≡ false = le-ltb _ _ (omega (arith, length-append (big_bytes n x) rest)) in
    rw (long, big_number-reads_back n x rest (rw wide.size lt), drop_at (big_bytes n x) rest n len) refl

pub number_reads : (n limit : ℕ) → IsWide n limit → IsReader (number_at n) (number_bytes n) (λ x. x < limit)
number_reads n limit wide = record { takes = number_takes n limit wide; again = number_again n limit wide }

counted_holds : (n : ℕ) → n < 2 ^ 32 → not (nat_lt n 1) ≡ true → IsCounted n
counted_holds n lt h = (grind (arith, nat_tests), lt)

counted_passes : (n : ℕ) → IsCounted n → (n < 2 ^ 32) × (not (nat_lt n 1) ≡ true)
counted_passes n h = let l = h.0 in (h.1, grind (arith, nat_tests))

pub counted_reads : IsReader counted_at (number_bytes 4) IsCounted
counted_reads = tested_reads (λ n. not (nat_lt n 1)) (number_at 4) (number_bytes 4) (λ x. x < 2 ^ 32) IsCounted (number_reads 4 (2 ^ 32) wide4) counted_holds counted_passes

-- ---- lists

-- each value has what is asked after what is to be known of the one before it, at first s
abbrev pub AreInTurn : {A S : Type 0} → (S → A → Type 0) → (A → S) → S → List A → Type 0
AreInTurn Is next s [] = ⊤
AreInTurn Is next s (x ∷ xs) = Is s x × AreInTurn Is next (next x) xs

list_takes : {A S : Type 0} (one : S → At A) (next : A → S) (spell : A → List ℕ) (Is : S → A → Type 0) → ((s : S) → IsReader (one s) spell (Is s)) → (n : ℕ) (s : S) (bytes : List ℕ) (xs : List A) (rest : List ℕ) → IsBytes bytes → list_at one next s n bytes ≡ Some (xs, rest) → (bytes ≡ flat_map spell xs ++ rest) × ((length xs ≡ n) × AreInTurn Is next s xs)
unfolding list_at
list_takes {A} {S} one next spell Is reads zero s bytes xs rest fits e =
    subst (λ (z : List A × List ℕ). (bytes ≡ flat_map spell z.0 ++ z.1) × ((length z.0 ≡ 0) × AreInTurn Is next s z.0)) (same_Some ([], bytes) (xs, rest) e) (refl, (refl, tt))
list_takes {A} {S} one next spell Is reads (suc n) s bytes xs rest fits e =
    let u = bind_some (one s bytes) (λ first. list_at one next (next first.0) n first.1 >>= λ others. Some (first.0 ∷ others.0, others.1)) (xs, rest) e in
    let v = bind_some (list_at one next (next u.0.0) n u.0.1) (λ others. Some (u.0.0 ∷ others.0, others.1)) (xs, rest) u.2 in
    let h = (reads s).takes bytes u.0.0 u.0.1 fits u.1 in
    let k = list_takes one next spell Is reads n (next u.0.0) u.0.1 v.0.0 v.0.1 (IsBytes-after (spell u.0.0) u.0.1 (subst IsBytes h.0 fits)) v.1 in
    let whole : bytes ≡ flat_map spell (u.0.0 ∷ v.0.0) ++ v.0.1 = h.0 ∙ ap (λ (r : List ℕ). spell u.0.0 ++ r) k.0 ∙ sym (append_assoc (spell u.0.0) (flat_map spell v.0.0) v.0.1) in
    subst (λ (z : List A × List ℕ). (bytes ≡ flat_map spell z.0 ++ z.1) × ((length z.0 ≡ suc n) × AreInTurn Is next s z.0)) (same_Some (u.0.0 ∷ v.0.0, v.0.1) (xs, rest) v.2) (whole, (ap suc k.1.0, (h.1, k.1.1)))

list_again : {A S : Type 0} (one : S → At A) (next : A → S) (spell : A → List ℕ) (Is : S → A → Type 0) → ((s : S) → IsReader (one s) spell (Is s)) → (s : S) (xs : List A) (rest : List ℕ) → AreInTurn Is next s xs → list_at one next s (length xs) (flat_map spell xs ++ rest) ≡ Some (xs, rest)
unfolding list_at
list_again one next spell Is reads s [] rest h = refl
list_again one next spell Is reads s (x ∷ xs) rest h =
    ap (list_at one next s (suc (length xs))) (append_assoc (spell x) (flat_map spell xs) rest) ∙ rw ((reads s).again x (flat_map spell xs ++ rest) h.0, list_again one next spell Is reads (next x) xs rest h.1) refl

pub list_reads : {A S : Type 0} (one : S → At A) (next : A → S) (spell : A → List ℕ) (Is : S → A → Type 0) → ((s : S) → IsReader (one s) spell (Is s)) → (s : S) (n : ℕ) → IsReader (list_at one next s n) (flat_map spell) (λ xs. (length xs ≡ n) × AreInTurn Is next s xs)
list_reads one next spell Is reads s n = record {
  takes = list_takes one next spell Is reads n s;
  again = λ xs rest h. subst (λ (m : ℕ). list_at one next s m (flat_map spell xs ++ rest) ≡ Some (xs, rest)) h.0 (list_again one next spell Is reads s xs rest h.1);
}

-- what a list has, whatever its bytes are
pub list_is : {A S : Type 0} (one : S → At A) (next : A → S) (Is : S → A → Type 0) → ((s : S) (bytes : List ℕ) (x : A) (rest : List ℕ) → one s bytes ≡ Some (x, rest) → Is s x) → (n : ℕ) (s : S) (bytes : List ℕ) (xs : List A) (rest : List ℕ) → list_at one next s n bytes ≡ Some (xs, rest) → (length xs ≡ n) × AreInTurn Is next s xs
unfolding list_at
list_is {A} {S} one next Is holds zero s bytes xs rest e =
    subst (λ (z : List A × List ℕ). (length z.0 ≡ 0) × AreInTurn Is next s z.0) (same_Some ([], bytes) (xs, rest) e) (refl, tt)
list_is {A} {S} one next Is holds (suc n) s bytes xs rest e =
    let u = bind_some (one s bytes) (λ first. list_at one next (next first.0) n first.1 >>= λ others. Some (first.0 ∷ others.0, others.1)) (xs, rest) e in
    let v = bind_some (list_at one next (next u.0.0) n u.0.1) (λ others. Some (u.0.0 ∷ others.0, others.1)) (xs, rest) u.2 in
    let k = list_is one next Is holds n (next u.0.0) u.0.1 v.0.0 v.0.1 v.1 in
    subst (λ (z : List A × List ℕ). (length z.0 ≡ suc n) × AreInTurn Is next s z.0) (same_Some (u.0.0 ∷ v.0.0, v.0.1) (xs, rest) v.2) (ap suc k.0, (holds s bytes u.0.0 u.0.1 u.1, k.1))

-- a count and that many
pub counted_list_reads : {A : Type 0} (least most : ℕ) → most < 256 → (list : ℕ → At (List A)) (spell : A → List ℕ) (Q : List A → Type 0) → ((n : ℕ) → IsReader (list n) (flat_map spell) (λ xs. (length xs ≡ n) × Q xs)) → IsReader (λ bytes. within_at least most bytes >>= λ n. list n.0 n.1) (λ xs. length xs ∷ flat_map spell xs) (λ xs. IsWithin least most (length xs) × Q xs)
counted_list_reads {A} least most top list spell Q reads = record {
  takes = λ bytes xs rest fits e.
      let u = bind_some (within_at least most bytes) (λ n. list n.0 n.1) (xs, rest) e in
      let h = (within_reads least most top).takes bytes u.0.0 u.0.1 fits u.1 in
      let k = (reads u.0.0).takes u.0.1 xs rest (IsBytes-after (u.0.0 ∷ []) u.0.1 (subst IsBytes h.0 fits)) u.2 in
      (h.0 ∙ ap (λ (r : List ℕ). u.0.0 ∷ r) k.0 ∙ ap (λ (n : ℕ). n ∷ (flat_map spell xs ++ rest)) (sym k.1.0), (subst (IsWithin least most) (sym k.1.0) h.1, k.1.1));
  again = λ xs rest h. rw ((within_reads least most top).again (length xs) (flat_map spell xs ++ rest) h.0) ((reads (length xs)).again xs rest (refl, h.1));
}
