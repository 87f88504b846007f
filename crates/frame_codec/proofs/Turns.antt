-- What is above the one before it, each, is in order as a list.
use Rattle.std.proofs.Common.{◌≡◌, ◌≢◌, ℕ, suc, ◌+◌, ◌<◌, ◌==◌, ◌&&◌, true, false, not, nat_lt, List, [], ◌∷◌, ◌++◌, length, get_or, Option, Some, None, refl, sym, subst, append_assoc, arith}
use Rattle.std.specs.Prelude.{All, AllPairs}
use Rattle.an_base.proofs.LifeLemmas.{below_trans}
use Rattle.common_values.proofs.ListLemmas.{AllPairs-head, AllPairs-tail}
use Rattle.std.proofs.lemmas.Bool.{not-true, and_parts, or_parts}
use Rattle.std.proofs.lemmas.List.Elements.{All-nil, All-cons, All-append, All-head, All-tail}
use Rattle.std.proofs.lemmas.List.Quantifiers.{all_pairs_push}
use Rattle.std.proofs.lemmas.List.{append-nil, length-append, get_or_append_left}
use Rattle.std.proofs.Math.Seq.{get_or-append_seam}
use Rattle.std.proofs.lemmas.List.Kept.{AllPairs-cons}
use Rattle.an_base.specs.Values.{LifeId, PeerAt, EntryOf}
use Rattle.an_base.specs.Order.{IsBelow, PortsRise, LivesRise}
use Rattle.frame_codec.specs.Frames.{IsWithin, IsEnd, IsLink, AreLinks, IsEntry, AreEntries}
use Rattle.an_base.specs.Numbers.{AreNumbers}
use Rattle.std.specs.List.{list_any}
use Rattle.std.proofs.lemmas.Bool.Decides.{nat_tests}
use Rattle.frame_codec.specs.Reading.{is_above, is_new, are_new, are_numbers}
use Rattle.frame_codec.proofs.Readers.{AreInTurn}

all_with : {X : Type 0} (P Q : X → Type 0) (xs : List X) → ((x : X) → P x → Q x) → All P xs → All Q xs
all_with P Q xs f h k d lt = f _ (h k d lt)

-- ---- links

-- a link whose port is above this one
pub record LinkAbove (above : ℕ) (k : PeerAt) : Type 0 where
  pub port : IsWithin (above + 1) 12 k.port
  pub peer : IsEnd k.peer

links_are : (above : ℕ) (ks : List PeerAt) → AreInTurn LinkAbove (λ k. k.port) above ks → All IsLink ks × All (λ k. above < k.port) ks × PortsRise ks
links_are above [] h = (All-nil IsLink, All-nil (λ k. above < k.port), λ i j d lt le. absurd (omega (arith, le)))
links_are above (k ∷ ks) h =
    let t = links_are k.port ks h.1 in
    let low : above < k.port = omega (arith, h.0.port.0) in (
      All-cons IsLink k ks (record { port = (omega (arith, h.0.port.0), h.0.port.1); peer = h.0.peer }) t.0,
      All-cons (λ l. above < l.port) k ks low (all_with (λ l. k.port < l.port) (λ l. above < l.port) ks (λ l m. omega (arith, m, low)) t.1),
      AllPairs-cons (λ a b. a.port < b.port) k ks t.1 t.2,
    )

pub links_rise : (ks : List PeerAt) → IsWithin 0 12 (length ks) → AreInTurn LinkAbove (λ k. k.port) 0 ks → AreLinks ks
links_rise ks n h = let t = links_are 0 ks h in record { most = n.1; each = t.0; rising = t.2 }

links_turn : (above : ℕ) (ks : List PeerAt) → All IsLink ks → All (λ k. above < k.port) ks → PortsRise ks → AreInTurn LinkAbove (λ k. k.port) above ks
links_turn above [] is low rise = tt
links_turn above (k ∷ ks) is low rise =
    let one = All-head IsLink k ks is in
    let m = All-head (λ l. above < l.port) k ks low in
    (record { port = (omega (arith, m), one.port.1); peer = one.peer }, links_turn k.port ks (All-tail IsLink k ks is) (AllPairs-head (λ a b. a.port < b.port) k ks rise) (AllPairs-tail (λ a b. a.port < b.port) k ks rise))

pub links_in_turn : (ks : List PeerAt) → AreLinks ks → AreInTurn LinkAbove (λ k. k.port) 0 ks
links_in_turn ks h = links_turn 0 ks h.each (all_with IsLink (λ k. 0 < k.port) ks (λ k l. omega (arith, l.port.0)) h.each) h.rising

-- ---- entries

-- an entry whose life is above this one, where there is one
pub record EntryAbove (above : Option LifeId) (e : EntryOf) : Type 0 where
  pub entry : IsEntry e
  pub low : is_above above e.life ≡ true

above_trans : (above : Option LifeId) (b c : LifeId) → is_above above b ≡ true → IsBelow b c → is_above above c ≡ true
above_trans None b c h k = refl
above_trans (Some a) b c h k = below_trans a b c h k

-- a life above this one, where there is one
abbrev pub LifeAbove : Option LifeId → EntryOf → Type 0
LifeAbove above e = is_above above e.life ≡ true

lives_are : (above : Option LifeId) (es : List EntryOf) → AreInTurn LifeAbove (λ e. Some e.life) above es → All (LifeAbove above) es × LivesRise es
lives_are above [] h = (All-nil (LifeAbove above), λ i j d lt le. absurd (omega (arith, le)))
lives_are above (e ∷ es) h =
    let t = lives_are (Some e.life) es h.1 in (
      All-cons (LifeAbove above) e es h.0 (all_with (LifeAbove (Some e.life)) (LifeAbove above) es (λ f m. above_trans above e.life f.life h.0 m) t.0),
      AllPairs-cons (λ a b. IsBelow a.life b.life) e es t.0 t.1,
    )

pub lives_in_order : (es : List EntryOf) → AreInTurn LifeAbove (λ e. Some e.life) None es → LivesRise es
lives_in_order es h = (lives_are None es h).1

entries_low : (above : Option LifeId) (es : List EntryOf) → AreInTurn EntryAbove (λ e. Some e.life) above es → All IsEntry es × AreInTurn LifeAbove (λ e. Some e.life) above es
entries_low above [] h = (All-nil IsEntry, tt)
entries_low above (e ∷ es) h = let t = entries_low (Some e.life) es h.1 in (All-cons IsEntry e es h.0.entry t.0, (h.0.low, t.1))

pub lives_rise : (es : List EntryOf) → IsWithin 1 126 (length es) → AreInTurn EntryAbove (λ e. Some e.life) None es → AreEntries es
lives_rise es n h = let t = entries_low None es h in record { count = n; each = t.0; rising = lives_in_order es t.1 }

entries_turn : (above : Option LifeId) (es : List EntryOf) → All IsEntry es → All (λ e. is_above above e.life ≡ true) es → LivesRise es → AreInTurn EntryAbove (λ e. Some e.life) above es
entries_turn above [] is low rise = tt
entries_turn above (e ∷ es) is low rise = (
  record { entry = All-head IsEntry e es is; low = All-head (λ f. is_above above f.life ≡ true) e es low },
  entries_turn (Some e.life) es (All-tail IsEntry e es is) (AllPairs-head (λ a b. IsBelow a.life b.life) e es rise) (AllPairs-tail (λ a b. IsBelow a.life b.life) e es rise),
)

pub entries_in_turn : (es : List EntryOf) → AreEntries es → AreInTurn EntryAbove (λ e. Some e.life) None es
entries_in_turn es h = entries_turn None es h.each (λ k d lt. refl) h.rising

-- ---- numbers

-- the number is 1 to 126
abbrev pub IsNumber : ℕ → Type 0
IsNumber n = IsWithin 1 126 n

-- no number before is this one
differs : (before : List ℕ) (n : ℕ) → list_any (λ m. m == n) before ≡ false → All (λ m. m ≢ n) before
differs [] n h = All-nil (λ m. m ≢ n)
differs (m ∷ before) n h =
    let p = or_parts (m == n) (list_any (λ k. k == n) before) h in
    All-cons (λ k. k ≢ n) m before (grind (arith, nat_tests)) (differs before n p.1)

differs_again : (before : List ℕ) (n : ℕ) → All (λ m. m ≢ n) before → list_any (λ m. m == n) before ≡ false
differs_again [] n h = refl
differs_again (m ∷ before) n h =
    let one : (m == n) ≡ false = let d = All-head (λ k. k ≢ n) m before h in grind (arith, nat_tests) in
    rw (one, differs_again before n (All-tail (λ k. k ≢ n) m before h)) refl

new_holds : (before : List ℕ) (n : ℕ) → is_new before n ≡ true → IsNumber n × All (λ m. m ≢ n) before
new_holds before n h =
    let p = and_parts (not (nat_lt n 1) && not (nat_lt 126 n)) (not (list_any (λ m. m == n) before)) h in
    let q = and_parts (not (nat_lt n 1)) (not (nat_lt 126 n)) p.0 in
    ((grind (arith, nat_tests, q.0), grind (arith, nat_tests, q.1)), differs before n (not-true _ p.1))

new_passes : (before : List ℕ) (n : ℕ) → IsNumber n → All (λ m. m ≢ n) before → is_new before n ≡ true
new_passes before n h d =
    let l : nat_lt n 1 ≡ false = let m = h.0 in grind (arith, nat_tests) in
    let t : nat_lt 126 n ≡ false = let m = h.1 in grind (arith, nat_tests) in
    rw (l, t, differs_again before n d) refl

are_new_hold : (before ns : List ℕ) → are_new before ns ≡ true → All IsNumber before → AllPairs (λ a b. a ≢ b) before → All IsNumber (before ++ ns) × AllPairs (λ a b. a ≢ b) (before ++ ns)
unfolding are_new
are_new_hold before [] t h d = (subst (All IsNumber) (sym (append-nil before)) h, subst (AllPairs (λ a b. a ≢ b)) (sym (append-nil before)) d)
are_new_hold before (n ∷ ns) t h d =
    let p = and_parts (is_new before n) (are_new (before ++ n ∷ []) ns) t in
    let one = new_holds before n p.0 in
    let more = are_new_hold (before ++ n ∷ []) ns p.1 (All-append IsNumber before (n ∷ []) h (All-cons IsNumber n [] one.0 (All-nil IsNumber))) (all_pairs_push (λ a b. a ≢ b) before n d one.1) in
    let e = append_assoc before (n ∷ []) ns in
    (subst (All IsNumber) e more.0, subst (AllPairs (λ a b. a ≢ b)) e more.1)

pub numbers_hold : (ns : List ℕ) → IsWithin 1 126 (length ns) → are_numbers ns ≡ true → AreNumbers ns
numbers_hold ns count t =
    let h = are_new_hold [] ns t (All-nil IsNumber) (λ i j d lt le. absurd (omega (arith, le))) in
    record { some = count.0; most = count.1; within = h.0; apart = h.1 }

are_new_pass : (before ns : List ℕ) → All IsNumber (before ++ ns) → AllPairs (λ a b. a ≢ b) (before ++ ns) → are_new before ns ≡ true
unfolding are_new
are_new_pass before [] h d = refl
are_new_pass before (n ∷ ns) h d =
    let e = sym (append_assoc before (n ∷ []) ns) in
    let at : get_or (before ++ n ∷ ns) (length before) n ≡ n = get_or-append_seam before n ns n in
    let long : length (before ++ n ∷ ns) ≡ length before + suc (length ns) = length-append before (n ∷ ns) in
    let within : IsNumber n = subst IsNumber at (h (length before) n (omega (arith, long))) in
    let apart : All (λ m. m ≢ n) before = λ k x lt. subst (λ (m : ℕ). get_or before k x ≢ m) (get_or-append_seam before n ns x) (subst (λ (m : ℕ). m ≢ get_or (before ++ n ∷ ns) (length before) x) (get_or_append_left before (n ∷ ns) x k lt) (d k (length before) x lt (omega (arith, long)))) in
    rw (new_passes before n within apart, are_new_pass (before ++ n ∷ []) ns (subst (All IsNumber) e h) (subst (AllPairs (λ a b. a ≢ b)) e d)) refl

pub numbers_pass : (ns : List ℕ) → AreNumbers ns → are_numbers ns ≡ true
numbers_pass ns h = are_new_pass [] ns h.within h.apart
