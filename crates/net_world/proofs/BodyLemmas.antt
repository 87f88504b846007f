-- The bodies of a frame that is read are within their ranges.

use Rattle.std.specs.Prelude.{◌≡◌, ◌==◌, ◌&&◌, ℕ, zero, suc, nat_lt, not, List, [], ◌∷◌, ◌++◌, length, cond, take, drop, All, Option, Some, None, is_some, Bool, true, false, refl}
use Rattle.std.specs.List.{list_any}
use Rattle.std.proofs.Common.{sym, ◌∙◌, ap, subst, true≢false}
use Rattle.std.proofs.lemmas.Bool.{and_parts, not-true, ltb-false}
use Rattle.std.proofs.lemmas.Option.{cond_some, some_pair_parts}
use Rattle.std.proofs.lemmas.List.{length-take-le}
use Rattle.std.proofs.lemmas.List.Elements.{All-nil, All-cons}
use Rattle.an_base.specs.Values.{EntryOf, LifeId}
use Rattle.an_base.specs.Frames.{CarryOf}
use Rattle.an_base.specs.declared.body.Body.{Body}
use Rattle.an_base.specs.declared.body.Body.TheVariants.{Pos, Answer, Stable, Topo}
use Rattle.an_base.specs.declared.frame.Frame.{Frame}
use Rattle.an_base.specs.declared.frame.Frame.TheVariants.{Carry, Ack, Probe, Reply}
use Rattle.frame_codec.specs.Reading.{At, ◌>>=◌, both, made, tested, list_at, byte_at, within_at, entry_at, entry_of, entry_above_at, entries_from, entries_at, life_at, position_at, links_at, is_new, are_new, are_numbers, bytes_at, numbers_at, topo_of, topo_at, pos_at, answer_at, body_of, body_at, carry_of, carry_at, is_above, ack_of, probe_of, reply_of, ack_at, probe_at, reply_at, frame_of_kind, frame_at, frame_of, number_at, end_at, counted_at}
use Rattle.frame_codec.proofs.Readers.{bind_some}
use Rattle.net_world.specs.Sound.{IsNumber, TopoFits}

-- what a body holds that passed its reader's tests: entries propose numbers of 1 to 126, and a topology has as many of those as entries
abbrev pub BodyFits : Body → Type 0
BodyFits (Pos b) = Unit {0}
BodyFits (Answer b) = Unit {0}
BodyFits (Stable entries) = All (λ e. IsNumber e.proposed) entries
BodyFits (Topo topo) = TopoFits topo

abbrev pub FrameFits : Frame → Type 0
FrameFits (Carry f) = BodyFits f.body
FrameFits (Ack epoch from to n) = Unit {0}
FrameFits (Probe from nonce) = Unit {0}
FrameFits (Reply from to nonce) = Unit {0}

-- what is known of a value that was read
abbrev Gives : {A : Type 0} → (A → Type 0) → At A → Type 0
Gives {A} P a = (bytes : List ℕ) (x : A) (rest : List ℕ) → a bytes ≡ Some (x, rest) → P x

made_gives : {A B : Type 0} (P : A → Type 0) (Q : B → Type 0) (f : A → B) (a : At A) → ((x : A) → P x → Q (f x)) → Gives P a → Gives Q (made f a)
made_gives P Q f a more gives bytes y rest e =
    let u = bind_some (a bytes) (λ x. Some (f x.0, x.1)) (y, rest) e in
    let parts = some_pair_parts (f u.0.0) y u.0.1 rest u.2 in
    subst Q parts.0 (more u.0.0 (gives bytes u.0.0 u.0.1 u.1))

both_gives : {A B : Type 0} (P : A → Type 0) (Q : B → Type 0) (a : At A) (b : At B) → Gives P a → Gives Q b → Gives (λ (p : A × B). P p.0 × Q p.1) (both a b)
both_gives {A} {B} P Q a b first second bytes p rest e =
    let u = bind_some (a bytes) (λ x. b x.1 >>= (λ y. Some ((x.0, y.0), y.1))) (p, rest) e in
    let v = bind_some (b u.0.1) (λ y. Some ((u.0.0, y.0), y.1)) (p, rest) u.2 in
    let parts = some_pair_parts {A = A × B} (u.0.0, v.0.0) p v.0.1 rest v.2 in
    subst (λ (x : A × B). P x.0 × Q x.1) parts.0 (first bytes u.0.0 u.0.1 u.1, second u.0.1 v.0.0 v.0.1 v.1)

tested_gives : {A : Type 0} (P Q : A → Type 0) (t : A → Bool) (a : At A) → ((x : A) → t x ≡ true → P x → Q x) → Gives P a → Gives Q (tested t a)
tested_gives {A} P Q t a more gives bytes y rest e =
    let u = bind_some (a bytes) (λ x. cond (t x.0) (Some x) None) (y, rest) e in
    let parts = cond_some {A = A × List ℕ} (t u.0.0) u.0 (y, rest) u.2 in
    subst Q (ap (λ (p : A × List ℕ). p.0) parts.1) (more u.0.0 parts.0 (gives bytes u.0.0 u.0.1 u.1))

abbrev Known : {A : Type 0} → A → Type 0
Known x = Unit {0}

nothing_known : {A : Type 0} (a : At A) → Gives Known a
nothing_known a bytes x rest e = tt

list_gives : {A S : Type 0} (P : A → Type 0) (one : S → At A) (next : A → S) → ((s : S) → Gives P (one s)) → (n : ℕ) (s : S) → Gives (All P) (list_at one next s n)
unfolding list_at
list_gives {A} P one next gives zero s bytes xs rest e =
    subst (All P) (some_pair_parts {A = List A} [] xs bytes rest e).0 (All-nil P)
list_gives {A} P one next gives (suc n) s bytes xs rest e =
    let u = bind_some (one s bytes) (λ first. list_at one next (next first.0) n first.1 >>= (λ others. Some (first.0 ∷ others.0, others.1))) (xs, rest) e in
    let v = bind_some (list_at one next (next u.0.0) n u.0.1) (λ others. Some (u.0.0 ∷ others.0, others.1)) (xs, rest) u.2 in
    let parts = some_pair_parts {A = List A} (u.0.0 ∷ v.0.0) xs v.0.1 rest v.2 in
    subst (All P) parts.0 (All-cons P u.0.0 v.0.0 (gives s bytes u.0.0 u.0.1 u.1) (list_gives P one next gives n (next u.0.0) u.0.1 v.0.0 v.0.1 v.1))

-- a byte of 1 to 126
number_gives : Gives IsNumber (within_at 1 126)
number_gives = tested_gives Known IsNumber (λ b. not (nat_lt b 1) && not (nat_lt 126 b)) byte_at
    (λ b test _. let parts = and_parts (not (nat_lt b 1)) (not (nat_lt 126 b)) test in (ltb-false b 1 (not-true (nat_lt b 1) parts.0), ltb-false 126 b (not-true (nat_lt 126 b) parts.1)))
    (nothing_known byte_at)

abbrev Proposes : EntryOf → Type 0
Proposes e = IsNumber e.proposed

entry_gives : Gives Proposes entry_at
unfolding entry_at
entry_gives = made_gives (λ p. ((Unit {0} × Unit {0}) × IsNumber p.0.1) × Unit {0}) Proposes entry_of (both (both (both life_at position_at) (within_at 1 126)) links_at) (λ p known. known.0.1)
    (both_gives (λ p. (Unit {0} × Unit {0}) × IsNumber p.1) Known (both (both life_at position_at) (within_at 1 126)) links_at
    (both_gives (λ p. Unit {0} × Unit {0}) IsNumber (both life_at position_at) (within_at 1 126) (both_gives Known Known life_at position_at (nothing_known life_at) (nothing_known position_at)) number_gives)
    (nothing_known links_at))

above_gives : (above : Option LifeId) → Gives Proposes (entry_above_at above)
unfolding entry_above_at
above_gives above = tested_gives Proposes Proposes (λ e. is_above above e.life) entry_at (λ e test known. known) entry_gives

entries_give : Gives (All Proposes) entries_at
unfolding entries_at
entries_give bytes es rest e =
    let u = bind_some (within_at 1 126 bytes) (λ count. entries_from None count.0 count.1) (es, rest) e in
    list_gives Proposes entry_above_at (λ x. Some x.life) above_gives u.0.0 None u.0.1 es rest u.2

-- numbers that passed the test
are_new_within : (before numbers : List ℕ) → are_new before numbers ≡ true → All IsNumber numbers
unfolding are_new
are_new_within before [] test = All-nil IsNumber
are_new_within before (n ∷ numbers) test =
    let p1 = and_parts (is_new before n) (are_new (before ++ n ∷ []) numbers) test in
    let p2 = and_parts (not (nat_lt n 1) && not (nat_lt 126 n)) (not (list_any (λ m. m == n) before)) p1.0 in
    let p3 = and_parts (not (nat_lt n 1)) (not (nat_lt 126 n)) p2.0 in
    All-cons IsNumber n numbers (ltb-false n 1 (not-true (nat_lt n 1) p3.0), ltb-false 126 n (not-true (nat_lt 126 n) p3.1)) (are_new_within (before ++ n ∷ []) numbers p1.1)

abbrev taken_by : Bool → ℕ → List ℕ → Option (List ℕ × List ℕ)
taken_by b count bytes = cond b None (Some (take count bytes, drop count bytes))

bytes_give : (count : ℕ) → Gives (λ xs. length xs ≡ count) (bytes_at count)
bytes_give count bytes xs rest e = by (nat_lt (length bytes) count) refl e where
  by : (b : Bool) → nat_lt (length bytes) count ≡ b → taken_by b count bytes ≡ Some (xs, rest) → length xs ≡ count
  by true short e = absurd (true≢false (sym (ap is_some e)))
  by false fits e = ap (length {A = ℕ}) (sym (some_pair_parts (take count bytes) xs (drop count bytes) rest e).0) ∙ length-take-le count bytes (ltb-false (length bytes) count fits)

record NumbersFit (count : ℕ) (xs : List ℕ) : Type 0 where
  within : All IsNumber xs
  as_many : length xs ≡ count

numbers_give : (count : ℕ) → Gives (NumbersFit count) (numbers_at count)
unfolding numbers_at
numbers_give count = tested_gives (λ xs. length xs ≡ count) (NumbersFit count) are_numbers (bytes_at count) (λ xs test long. record { within = are_new_within [] xs test; as_many = long }) (bytes_give count)

topo_gives : Gives TopoFits topo_at
unfolding topo_at
topo_gives bytes t rest e =
    let u = bind_some (entries_at bytes) (λ entries. numbers_at (length entries.0) entries.1 >>= (λ numbers. Some (topo_of entries.0 numbers.0, numbers.1))) (t, rest) e in
    let v = bind_some (numbers_at (length u.0.0) u.0.1) (λ numbers. Some (topo_of u.0.0 numbers.0, numbers.1)) (t, rest) u.2 in
    let fits = numbers_give (length u.0.0) u.0.1 v.0.0 v.0.1 v.1 in
    subst TopoFits (some_pair_parts (topo_of u.0.0 v.0.0) t v.0.1 rest v.2).0 (record { within = fits.within; as_many = fits.as_many })

either : {A : Type 0} (P : A → Type 0) (b : Bool) (x y : Option (A × List ℕ)) (v : A) (rest : List ℕ) → (x ≡ Some (v, rest) → P v) → (y ≡ Some (v, rest) → P v) → cond b x y ≡ Some (v, rest) → P v
either P true x y v rest first second e = first e
either P false x y v rest first second e = second e

nothing_read : {A : Type 0} (P : A → Type 0) (v : A) (rest : List ℕ) → ◌≡◌ {A = Option (A × List ℕ)} None (Some (v, rest)) → P v
nothing_read P v rest e = absurd (true≢false (sym (ap is_some e)))

body_of_gives : (kind : ℕ) → Gives BodyFits (body_of kind)
body_of_gives kind bytes b rest e =
    either BodyFits (kind == 1) (made Pos pos_at bytes) (cond (kind == 2) (made Answer answer_at bytes) (cond (kind == 3) (made Stable entries_at bytes) (cond (kind == 4) (made Topo topo_at bytes) None))) b rest
    (λ one. made_gives Known BodyFits Pos pos_at (λ x _. tt) (nothing_known pos_at) bytes b rest one)
    (λ more. either BodyFits (kind == 2) (made Answer answer_at bytes) (cond (kind == 3) (made Stable entries_at bytes) (cond (kind == 4) (made Topo topo_at bytes) None)) b rest
    (λ two. made_gives Known BodyFits Answer answer_at (λ x _. tt) (nothing_known answer_at) bytes b rest two)
    (λ others. either BodyFits (kind == 3) (made Stable entries_at bytes) (cond (kind == 4) (made Topo topo_at bytes) None) b rest
    (λ three. made_gives (All Proposes) BodyFits Stable entries_at (λ x known. known) entries_give bytes b rest three)
    (λ last. either BodyFits (kind == 4) (made Topo topo_at bytes) None b rest
    (λ four. made_gives TopoFits BodyFits Topo topo_at (λ x known. known) topo_gives bytes b rest four)
    (nothing_read BodyFits b rest) last) others) more) e

body_gives : Gives BodyFits body_at
unfolding body_at
body_gives bytes b rest e =
    let u = bind_some (byte_at bytes) (λ kind. body_of kind.0 kind.1) (b, rest) e in
    body_of_gives u.0.0 u.0.1 b rest u.2

carry_gives : Gives (λ (f : CarryOf). BodyFits f.body) carry_at
unfolding carry_at
carry_gives = made_gives (λ p. Unit {0} × BodyFits p.1) (λ (f : CarryOf). BodyFits f.body) carry_of (both (both (both (both (number_at 8) end_at) end_at) counted_at) body_at) (λ p known. known.1)
    (both_gives Known BodyFits (both (both (both (number_at 8) end_at) end_at) counted_at) body_at (nothing_known (both (both (both (number_at 8) end_at) end_at) counted_at)) body_gives)

ack_gives : Gives FrameFits ack_at
unfolding ack_at
ack_gives = made_gives Known FrameFits ack_of (both (both (both (number_at 8) end_at) end_at) (number_at 4)) (λ x _. tt) (nothing_known (both (both (both (number_at 8) end_at) end_at) (number_at 4)))

probe_gives : Gives FrameFits probe_at
unfolding probe_at
probe_gives = made_gives Known FrameFits probe_of (both end_at (number_at 8)) (λ x _. tt) (nothing_known (both end_at (number_at 8)))

reply_gives : Gives FrameFits reply_at
unfolding reply_at
reply_gives = made_gives Known FrameFits reply_of (both (both end_at end_at) (number_at 8)) (λ x _. tt) (nothing_known (both (both end_at end_at) (number_at 8)))

kind_gives : (kind : ℕ) → Gives FrameFits (frame_of_kind kind)
kind_gives kind bytes f rest e =
    either FrameFits (kind == 1) (made Carry carry_at bytes) (cond (kind == 2) (ack_at bytes) (cond (kind == 3) (probe_at bytes) (cond (kind == 4) (reply_at bytes) None))) f rest
    (λ one. made_gives (λ (x : CarryOf). BodyFits x.body) FrameFits Carry carry_at (λ x known. known) carry_gives bytes f rest one)
    (λ more. either FrameFits (kind == 2) (ack_at bytes) (cond (kind == 3) (probe_at bytes) (cond (kind == 4) (reply_at bytes) None)) f rest
    (λ two. ack_gives bytes f rest two)
    (λ others. either FrameFits (kind == 3) (probe_at bytes) (cond (kind == 4) (reply_at bytes) None) f rest
    (λ three. probe_gives bytes f rest three)
    (λ last. either FrameFits (kind == 4) (reply_at bytes) None f rest (λ four. reply_gives bytes f rest four) (nothing_read FrameFits f rest) last) others) more) e

-- a frame that was read holds what passed the tests of its reader
pub frame_fits : (bytes : List ℕ) (f : Frame) → frame_of bytes ≡ Some f → FrameFits f
unfolding frame_of frame_at
frame_fits bytes f e =
    let u = bind_some (frame_at bytes) (λ x. cond (length x.1 == 0) (Some x.0) None) f e in
    let g = cond_some (length u.0.1 == 0) u.0.0 f u.2 in
    let v = bind_some (byte_at bytes) (λ kind. frame_of_kind kind.0 kind.1) u.0 u.1 in
    subst FrameFits g.1 (kind_gives v.0.0 v.0.1 u.0.0 u.0.1 v.2)
