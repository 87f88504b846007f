-- What a `Traffic` shows of the packets that it stores.

use Rattle.std.specs.Prelude.{◌≡◌, ◌≢◌, ◌⊎◌, ◌+◌, ◌==◌, ◌<◌, ◌≤◌, ℕ, zero, suc, nat_lt, not, List, [], ◌∷◌, ◌++◌, filter, length, take, drop, insert, cond, slice_get, slice_index_or, Option, Some, None, is_some, unwrap_or, All, AllPairs, true, false, refl, if◌then◌else◌}
use Rattle.std.specs.List.{remove}
use Rattle.std.specs.Option.{option_map}
use Rattle.std.proofs.Common.{sym, ◌∙◌, ap, subst, inl, inr, arith, true≢false}
use Rattle.std.proofs.lemmas.Bool.{eq-eqb, ne_eqb, lt-ltb, le-ltb, cases_eq, cases_lt}
use Rattle.std.proofs.lemmas.Option.{slice_get_within, get_or_from_slice_get}
use Rattle.std.proofs.lemmas.List.{append-nil, map-append, take-append-drop}
use Rattle.std.proofs.lemmas.List.Elements.{All-append, All-cons, All-head, All-tail, All-take, All-drop, filter-append}
use Rattle.std.proofs.lemmas.List.Kept.{AllPairs-cons}
use Rattle.std.proofs.lemmas.List.Edits.{length-insert, length-remove}
use Rattle.std.proofs.lemmas.List.Quantifiers.{all_pairs_remove}
use Rattle.common_values.proofs.PairLemmas.{AllPairs-append}
use Rattle.common_values.proofs.ListLemmas.{AllPairs-head, AllPairs-tail}
use Rattle.slab.specs.Slab.{Slab, get, slab_len, Updates}
use Rattle.host_traffic.specs.declared.traffic.Filed.{Filed}
use Rattle.host_traffic.specs.Packets.{PacketOf, first_packet, packet_of, with_new, without, moved, moved_to}
use Rattle.host_traffic.specs.Filed.{nowhere, stored_at, shown, HasPacket, IsFiled, IsPlaceFor}

abbrev pub Rises : Filed → Filed → Type 0
Rises one other = one.packet < other.packet

-- under its key stands the packet that is shown, which has the number by which it is filed
pub stored_is : (packets : Slab PacketOf) (filed : Filed) → HasPacket packets filed → get packets filed.key ≡ Some (stored_at packets filed)
stored_is packets filed has = has.1 ∙ ap Some (sym (ap (λ (o : Option PacketOf). unwrap_or o nowhere) has.1))

pub number_is : (packets : Slab PacketOf) (filed : Filed) → HasPacket packets filed → (stored_at packets filed).packet ≡ filed.packet
number_is packets filed has = ap (λ (o : Option PacketOf). (unwrap_or o nowhere).packet) has.1 ∙ has.2

-- the first one
pub first_is : (packets : Slab PacketOf) (order : List Filed) → All (HasPacket packets) order → first_packet (shown packets order) ≡ option_map (λ (filed : Filed). filed.packet) (slice_get order 0)
first_is packets [] each = refl
first_is packets (x ∷ xs) each = ap Some (number_is packets x (All-head (HasPacket packets) x xs each))

-- the packet of a number is the one that is filed by it
pub packet_found : (packets : Slab PacketOf) (order : List Filed) (number at : ℕ) (filed : Filed) → All (HasPacket packets) order → AllPairs Rises order → slice_get order at ≡ Some filed → filed.packet ≡ number
    → packet_of number (shown packets order) ≡ Some (stored_at packets filed)
packet_found packets [] number at filed each rising there is = absurd (true≢false (sym (ap is_some there)))
packet_found packets (x ∷ xs) number zero filed each rising there is =
    let same : x ≡ filed = ap (λ (o : Option Filed). unwrap_or o x) there in
    let has : HasPacket packets x = All-head (HasPacket packets) x xs each in
    let test : ((stored_at packets x).packet == number) ≡ true = eq-eqb (stored_at packets x).packet number (number_is packets x has ∙ ap (λ (f : Filed). f.packet) same ∙ is) in
    ap (λ b. cond b (Some (stored_at packets x)) (packet_of number (shown packets xs))) test ∙ ap (λ (f : Filed). Some (stored_at packets f)) same
packet_found packets (x ∷ xs) number (suc at) filed each rising there is =
    let low : at < length xs = slice_get_within xs at filed there in
    let place : slice_index_or xs at filed ≡ filed = get_or_from_slice_get xs at filed filed there in
    let before : x.packet < filed.packet = subst (λ (f : Filed). x.packet < f.packet) place (AllPairs-head Rises x xs rising at filed low) in
    let has = number_is packets x (All-head (HasPacket packets) x xs each) in
    let other : ((stored_at packets x).packet == number) ≡ false = ne_eqb (stored_at packets x).packet number (λ (e : (stored_at packets x).packet ≡ number). absurd (omega (arith, e, has, before, is))) in
    ap (λ b. cond b (Some (stored_at packets x)) (packet_of number (shown packets xs))) other
    ∙ packet_found packets xs number at filed (All-tail (HasPacket packets) x xs each) (AllPairs-tail Rises x xs rising) there is

pub packet_lost : (packets : Slab PacketOf) (order : List Filed) (number : ℕ) → All (HasPacket packets) order → All (λ (filed : Filed). filed.packet ≡ number → ⊥) order → packet_of number (shown packets order) ≡ None
packet_lost packets [] number each none = refl
packet_lost packets (x ∷ xs) number each none =
    let has = number_is packets x (All-head (HasPacket packets) x xs each) in
    let apart = All-head (λ (filed : Filed). filed.packet ≡ number → ⊥) x xs none in
    let other : ((stored_at packets x).packet == number) ≡ false = ne_eqb (stored_at packets x).packet number (λ e. apart (sym has ∙ e)) in
    ap (λ b. cond b (Some (stored_at packets x)) (packet_of number (shown packets xs))) other
    ∙ packet_lost packets xs number (All-tail (HasPacket packets) x xs each) (All-tail (λ (filed : Filed). filed.packet ≡ number → ⊥) x xs none)

-- a key that is new changes nothing that is shown of the others
pub shown_beside : (old new : Slab PacketOf) (order : List Filed) (key : ℕ) (slot : Option PacketOf) → Updates old new key slot → All (λ (filed : Filed). filed.key ≢ key) order → shown new order ≡ shown old order
shown_beside old new [] key slot updates apart = refl
shown_beside old new (x ∷ xs) key slot updates apart =
    let same : get new x.key ≡ get old x.key = updates.others x.key (All-head (λ (filed : Filed). filed.key ≢ key) x xs apart) in
    ap (λ (p : PacketOf). p ∷ shown new xs) (ap (λ (o : Option PacketOf). unwrap_or o nowhere) same)
    ∙ ap (λ (ps : List PacketOf). stored_at old x ∷ ps) (shown_beside old new xs key slot updates (All-tail (λ (filed : Filed). filed.key ≢ key) x xs apart))

-- the packets of lower numbers, and those of higher ones
lower_all : (packets : Slab PacketOf) (order : List Filed) (number : ℕ) → All (HasPacket packets) order → All (λ (filed : Filed). filed.packet < number) order → filter (λ (p : PacketOf). nat_lt p.packet number) (shown packets order) ≡ shown packets order
lower_all packets [] number each low = refl
lower_all packets (x ∷ xs) number each low =
    let has = number_is packets x (All-head (HasPacket packets) x xs each) in
    let is = All-head (λ (filed : Filed). filed.packet < number) x xs low in
    let test : nat_lt (stored_at packets x).packet number ≡ true = lt-ltb (stored_at packets x).packet number (omega (arith, has, is)) in
    ap (λ b. cond b (stored_at packets x ∷ filter (λ (p : PacketOf). nat_lt p.packet number) (shown packets xs)) (filter (λ (p : PacketOf). nat_lt p.packet number) (shown packets xs))) test
    ∙ ap (λ (ps : List PacketOf). stored_at packets x ∷ ps) (lower_all packets xs number (All-tail (HasPacket packets) x xs each) (All-tail (λ (filed : Filed). filed.packet < number) x xs low))

lower_none : (packets : Slab PacketOf) (order : List Filed) (number : ℕ) → All (HasPacket packets) order → All (λ (filed : Filed). number ≤ filed.packet) order → filter (λ (p : PacketOf). nat_lt p.packet number) (shown packets order) ≡ []
lower_none packets [] number each high = refl
lower_none packets (x ∷ xs) number each high =
    let has = number_is packets x (All-head (HasPacket packets) x xs each) in
    let is = All-head (λ (filed : Filed). number ≤ filed.packet) x xs high in
    let test : nat_lt (stored_at packets x).packet number ≡ false = le-ltb (stored_at packets x).packet number (omega (arith, has, is)) in
    ap (λ b. cond b (stored_at packets x ∷ filter (λ (p : PacketOf). nat_lt p.packet number) (shown packets xs)) (filter (λ (p : PacketOf). nat_lt p.packet number) (shown packets xs))) test
    ∙ lower_none packets xs number (All-tail (HasPacket packets) x xs each) (All-tail (λ (filed : Filed). number ≤ filed.packet) x xs high)

higher_all : (packets : Slab PacketOf) (order : List Filed) (number : ℕ) → All (HasPacket packets) order → All (λ (filed : Filed). number < filed.packet) order → filter (λ (p : PacketOf). nat_lt number p.packet) (shown packets order) ≡ shown packets order
higher_all packets [] number each high = refl
higher_all packets (x ∷ xs) number each high =
    let has = number_is packets x (All-head (HasPacket packets) x xs each) in
    let is = All-head (λ (filed : Filed). number < filed.packet) x xs high in
    let test : nat_lt number (stored_at packets x).packet ≡ true = lt-ltb number (stored_at packets x).packet (omega (arith, has, is)) in
    ap (λ b. cond b (stored_at packets x ∷ filter (λ (p : PacketOf). nat_lt number p.packet) (shown packets xs)) (filter (λ (p : PacketOf). nat_lt number p.packet) (shown packets xs))) test
    ∙ ap (λ (ps : List PacketOf). stored_at packets x ∷ ps) (higher_all packets xs number (All-tail (HasPacket packets) x xs each) (All-tail (λ (filed : Filed). number < filed.packet) x xs high))

higher_none : (packets : Slab PacketOf) (order : List Filed) (number : ℕ) → All (HasPacket packets) order → All (λ (filed : Filed). filed.packet < number) order → filter (λ (p : PacketOf). nat_lt number p.packet) (shown packets order) ≡ []
higher_none packets [] number each low = refl
higher_none packets (x ∷ xs) number each low =
    let has = number_is packets x (All-head (HasPacket packets) x xs each) in
    let is = All-head (λ (filed : Filed). filed.packet < number) x xs low in
    let test : nat_lt number (stored_at packets x).packet ≡ false = le-ltb number (stored_at packets x).packet (omega (arith, has, is)) in
    ap (λ b. cond b (stored_at packets x ∷ filter (λ (p : PacketOf). nat_lt number p.packet) (shown packets xs)) (filter (λ (p : PacketOf). nat_lt number p.packet) (shown packets xs))) test
    ∙ higher_none packets xs number (All-tail (HasPacket packets) x xs each) (All-tail (λ (filed : Filed). filed.packet < number) x xs low)

-- packets without a number that none of them has
without_none : (packets : Slab PacketOf) (order : List Filed) (number : ℕ) → All (HasPacket packets) order → All (λ (filed : Filed). filed.packet ≢ number) order → without number (shown packets order) ≡ shown packets order
without_none packets [] number each apart = refl
without_none packets (x ∷ xs) number each apart =
    let has = number_is packets x (All-head (HasPacket packets) x xs each) in
    let differs = All-head (λ (filed : Filed). filed.packet ≢ number) x xs apart in
    let test : ((stored_at packets x).packet == number) ≡ false = ne_eqb (stored_at packets x).packet number (λ e. differs (sym has ∙ e)) in
    ap (λ b. cond (not b) (stored_at packets x ∷ without number (shown packets xs)) (without number (shown packets xs))) test
    ∙ ap (λ (ps : List PacketOf). stored_at packets x ∷ ps) (without_none packets xs number (All-tail (HasPacket packets) x xs each) (All-tail (λ (filed : Filed). filed.packet ≢ number) x xs apart))

-- A new packet stands between those of lower and those of higher numbers.
pub new_shown : (old new : Slab PacketOf) (order : List Filed) (filed : Filed) (packet : PacketOf) (place : ℕ) → All (HasPacket old) order → All (λ (one : Filed). one.packet ≢ filed.packet) order
    → get old filed.key ≡ None → Updates old new filed.key (Some packet) → packet.packet ≡ filed.packet → IsPlaceFor filed.packet order place
    → shown new (insert order place filed) ≡ with_new packet (shown old order)
new_shown old new order filed packet place each apart vacant updates number is =
    let front = take place order in
    let back = drop place order in
    let keys : All (λ (one : Filed). one.key ≢ filed.key) order = λ k d low. λ (e : (slice_index_or order k d).key ≡ filed.key).
    let here = stored_is old (slice_index_or order k d) (each k d low) in
    absurd (true≢false (sym (ap is_some here) ∙ ap (λ (key : ℕ). is_some (get old key)) e ∙ ap is_some vacant)) in
    let here : stored_at new filed ≡ packet = ap (λ (o : Option PacketOf). unwrap_or o nowhere) updates.changed in
    let left : shown new front ≡ shown old front = shown_beside old new front filed.key (Some packet) updates (All-take (λ (one : Filed). one.key ≢ filed.key) place order keys) in
    let right : shown new back ≡ shown old back = shown_beside old new back filed.key (Some packet) updates (All-drop (λ (one : Filed). one.key ≢ filed.key) place order keys) in
    let above : All (λ (one : Filed). filed.packet < one.packet) back = λ k d low.
    let high = is.after k d low in
    let differs : (slice_index_or back k d).packet ≢ filed.packet = All-drop (λ (one : Filed). one.packet ≢ filed.packet) place order apart k d low in
    omega (arith, high, differs) in
    let front_each = All-take (HasPacket old) place order each in
    let back_each = All-drop (HasPacket old) place order each in
    let parts : shown old order ≡ shown old front ++ shown old back = ap (shown old) (sym (take-append-drop place order)) ∙ map-append (stored_at old) front back in
    let lows : filter (λ (p : PacketOf). nat_lt p.packet filed.packet) (shown old order) ≡ shown old front =
    ap (filter (λ (p : PacketOf). nat_lt p.packet filed.packet)) parts ∙ filter-append (λ (p : PacketOf). nat_lt p.packet filed.packet) (shown old front) (shown old back)
    ∙ ap (λ (ps : List PacketOf). ps ++ filter (λ (p : PacketOf). nat_lt p.packet filed.packet) (shown old back)) (lower_all old front filed.packet front_each is.before)
    ∙ ap (λ (ps : List PacketOf). shown old front ++ ps) (lower_none old back filed.packet back_each is.after)
    ∙ append-nil (shown old front) in
    let highs : filter (λ (p : PacketOf). nat_lt filed.packet p.packet) (shown old order) ≡ shown old back =
    ap (filter (λ (p : PacketOf). nat_lt filed.packet p.packet)) parts ∙ filter-append (λ (p : PacketOf). nat_lt filed.packet p.packet) (shown old front) (shown old back)
    ∙ ap (λ (ps : List PacketOf). ps ++ filter (λ (p : PacketOf). nat_lt filed.packet p.packet) (shown old back)) (higher_none old front filed.packet front_each is.before)
    ∙ higher_all old back filed.packet back_each above in
    map-append (stored_at new) front (filed ∷ back)
    ∙ ap (λ (ps : List PacketOf). ps ++ shown new (filed ∷ back)) left
    ∙ ap (λ (ps : List PacketOf). shown old front ++ stored_at new filed ∷ ps) right
    ∙ ap (λ (p : PacketOf). shown old front ++ p ∷ shown old back) here
    ∙ sym (ap (λ (n : ℕ). filter (λ (p : PacketOf). nat_lt p.packet n) (shown old order) ++ packet ∷ filter (λ (p : PacketOf). nat_lt n p.packet) (shown old order)) number
    ∙ ap (λ (ps : List PacketOf). ps ++ packet ∷ filter (λ (p : PacketOf). nat_lt filed.packet p.packet) (shown old order)) lows
    ∙ ap (λ (ps : List PacketOf). shown old front ++ packet ∷ ps) highs)

-- A packet that is filed goes on: under its key it is at its next place, and the others are as they were.
pub moved_shown : (old new : Slab PacketOf) (order : List Filed) (filed : Filed) (far : Option (ℕ × ℕ)) → All (HasPacket old) order → All (λ (one : Filed). one.packet ≡ filed.packet → one.key ≡ filed.key) order
    → All (λ (one : Filed). one.packet ≢ filed.packet → one.key ≢ filed.key) order → Updates old new filed.key (Some (moved_to far (stored_at old filed)))
    → moved filed.packet far (shown old order) ≡ shown new order
moved_shown old new [] filed far each same apart updates = refl
moved_shown old new (x ∷ xs) filed far each same apart updates =
    ap (λ (p : PacketOf). p ∷ moved filed.packet far (shown old xs)) (by (cases_eq x.packet filed.packet))
    ∙ ap (λ (ps : List PacketOf). stored_at new x ∷ ps) (moved_shown old new xs filed far (All-tail (HasPacket old) x xs each) (All-tail (λ (one : Filed). one.packet ≡ filed.packet → one.key ≡ filed.key) x xs same)
    (All-tail (λ (one : Filed). one.packet ≢ filed.packet → one.key ≢ filed.key) x xs apart) updates)
  where
    has : (stored_at old x).packet ≡ x.packet
    has = number_is old x (All-head (HasPacket old) x xs each)

    by : (x.packet ≡ filed.packet) ⊎ (x.packet ≡ filed.packet → ⊥) → (if (stored_at old x).packet == filed.packet then moved_to far (stored_at old x) else stored_at old x) ≡ stored_at new x
    by (inl is) =
        let key : x.key ≡ filed.key = All-head (λ (one : Filed). one.packet ≡ filed.packet → one.key ≡ filed.key) x xs same is in
        let test : ((stored_at old x).packet == filed.packet) ≡ true = eq-eqb (stored_at old x).packet filed.packet (has ∙ is) in
        let there : stored_at old x ≡ stored_at old filed = ap (λ (k : ℕ). unwrap_or (get old k) nowhere) key in
        let now : stored_at new x ≡ moved_to far (stored_at old filed) = ap (λ (k : ℕ). unwrap_or (get new k) nowhere) key ∙ ap (λ (o : Option PacketOf). unwrap_or o nowhere) updates.changed in
        ap (λ b. cond b (moved_to far (stored_at old x)) (stored_at old x)) test ∙ ap (moved_to far) there ∙ sym now
    by (inr other) =
        let key : x.key ≢ filed.key = All-head (λ (one : Filed). one.packet ≢ filed.packet → one.key ≢ filed.key) x xs apart other in
        let test : ((stored_at old x).packet == filed.packet) ≡ false = ne_eqb (stored_at old x).packet filed.packet (λ e. other (sym has ∙ e)) in
        ap (λ b. cond b (moved_to far (stored_at old x)) (stored_at old x)) test ∙ sym (ap (λ (o : Option PacketOf). unwrap_or o nowhere) (updates.others x.key key))

-- A packet that is filed is given up.
pub given_up : (old new : Slab PacketOf) (order : List Filed) (at : ℕ) (filed : Filed) → All (HasPacket old) order → AllPairs Rises order → slice_get order at ≡ Some filed
    → All (λ (one : Filed). one.packet ≢ filed.packet → one.key ≢ filed.key) order → Updates old new filed.key None → without filed.packet (shown old order) ≡ shown new (remove order at)
given_up old new [] at filed each rising there apart updates = absurd (true≢false (sym (ap is_some there)))
given_up old new (x ∷ xs) zero filed each rising there apart updates =
    let same : x ≡ filed = ap (λ (o : Option Filed). unwrap_or o x) there in
    let has = number_is old x (All-head (HasPacket old) x xs each) in
    let each_of = All-tail (HasPacket old) x xs each in
    let later : All (λ (one : Filed). one.packet ≢ filed.packet) xs = λ k d low. λ (e : (slice_index_or xs k d).packet ≡ filed.packet).
    let above = AllPairs-head Rises x xs rising k d low in
    let number : x.packet ≡ filed.packet = ap (λ (f : Filed). f.packet) same in
    absurd (omega (arith, e, above, number)) in
    let keys : All (λ (one : Filed). one.key ≢ filed.key) xs = λ k d low. All-tail (λ (one : Filed). one.packet ≢ filed.packet → one.key ≢ filed.key) x xs apart k d low (later k d low) in
    let test : ((stored_at old x).packet == filed.packet) ≡ true = eq-eqb (stored_at old x).packet filed.packet (has ∙ ap (λ (f : Filed). f.packet) same) in
    ap (λ b. cond (not b) (stored_at old x ∷ without filed.packet (shown old xs)) (without filed.packet (shown old xs))) test
    ∙ without_none old xs filed.packet each_of later ∙ sym (shown_beside old new xs filed.key None updates keys)
given_up old new (x ∷ xs) (suc at) filed each rising there apart updates =
    let low : at < length xs = slice_get_within xs at filed there in
    let place : slice_index_or xs at filed ≡ filed = get_or_from_slice_get xs at filed filed there in
    let before : x.packet < filed.packet = subst (λ (f : Filed). x.packet < f.packet) place (AllPairs-head Rises x xs rising at filed low) in
    let has = number_is old x (All-head (HasPacket old) x xs each) in
    let differs : x.packet ≢ filed.packet = λ (e : x.packet ≡ filed.packet). absurd (omega (arith, e, before)) in
    let key : x.key ≢ filed.key = All-head (λ (one : Filed). one.packet ≢ filed.packet → one.key ≢ filed.key) x xs apart differs in
    let test : ((stored_at old x).packet == filed.packet) ≡ false = ne_eqb (stored_at old x).packet filed.packet (λ e. differs (sym has ∙ e)) in
    let now : stored_at old x ≡ stored_at new x = sym (ap (λ (o : Option PacketOf). unwrap_or o nowhere) (updates.others x.key key)) in
    ap (λ b. cond (not b) (stored_at old x ∷ without filed.packet (shown old xs)) (without filed.packet (shown old xs))) test
    ∙ ap (λ (p : PacketOf). p ∷ without filed.packet (shown old xs)) now
    ∙ ap (λ (ps : List PacketOf). stored_at new x ∷ ps) (given_up old new xs at filed (All-tail (HasPacket old) x xs each) (AllPairs-tail Rises x xs rising) there
    (All-tail (λ (one : Filed). one.packet ≢ filed.packet → one.key ≢ filed.key) x xs apart) updates)

-- packets of different numbers have different keys
pub keys_apart : (packets : Slab PacketOf) (order : List Filed) (filed : Filed) → All (HasPacket packets) order → HasPacket packets filed → All (λ (one : Filed). one.packet ≢ filed.packet → one.key ≢ filed.key) order
keys_apart packets order filed each has k d low differs key =
    let one = slice_index_or order k d in
    let here = number_is packets one (each k d low) in
    let there = number_is packets filed has in
    differs (sym here ∙ ap (λ (key : ℕ). (unwrap_or (get packets key) nowhere).packet) key ∙ there)

-- those of one number have one key
pub keys_same : (order : List Filed) (at : ℕ) (filed : Filed) → AllPairs Rises order → slice_get order at ≡ Some filed → All (λ (one : Filed). one.packet ≡ filed.packet → one.key ≡ filed.key) order
keys_same order at filed rising there k d low number = by (cases_eq k at) where
  place : slice_index_or order at d ≡ filed
  place = get_or_from_slice_get order at filed d there

  by : (k ≡ at) ⊎ (k ≡ at → ⊥) → (slice_index_or order k d).key ≡ filed.key
  by (inl same) = ap (λ (i : ℕ). (slice_index_or order i d).key) same ∙ ap (λ (f : Filed). f.key) place
  by (inr other) = elim (cases_lt k at) [
    | inl before ↦ absurd (let lt = rising k at d before (slice_get_within order at filed there) in let is = ap (λ (f : Filed). f.packet) place in omega (arith, lt, is, number))
    | inr after ↦ absurd (let differs : k ≢ at = other in let gt = rising at k d (omega (arith, after, differs)) low in let is = ap (λ (f : Filed). f.packet) place in omega (arith, gt, is, number))
  ]

-- a part of what rises rises
no_pairs : AllPairs Rises []
no_pairs = λ i j d lt (low : j < 0). absurd (omega (arith, low))

pairs_take : (n : ℕ) (xs : List Filed) → AllPairs Rises xs → AllPairs Rises (take n xs)
pairs_take zero xs rising = no_pairs
pairs_take (suc n) [] rising = no_pairs
pairs_take (suc n) (x ∷ xs) rising = AllPairs-cons Rises x (take n xs) (All-take (Rises x) n xs (AllPairs-head Rises x xs rising)) (pairs_take n xs (AllPairs-tail Rises x xs rising))

pairs_drop : (n : ℕ) (xs : List Filed) → AllPairs Rises xs → AllPairs Rises (drop n xs)
pairs_drop zero xs rising = rising
pairs_drop (suc n) [] rising = no_pairs
pairs_drop (suc n) (x ∷ xs) rising = pairs_drop n xs (AllPairs-tail Rises x xs rising)

-- A packet that is filed anew
pub filed_new : (most capacity : ℕ) (old new : Slab PacketOf) (order : List Filed) (filed : Filed) (packet : PacketOf) (place : ℕ) → IsFiled most old order capacity → length order < most → get old filed.key ≡ None
    → Updates old new filed.key (Some packet) → packet.packet ≡ filed.packet → All (λ (one : Filed). one.packet ≢ filed.packet) order → IsPlaceFor filed.packet order place
    → slab_len new ≡ slab_len old + 1 → new.capacity ≡ old.capacity → IsFiled most new (insert order place filed) capacity
filed_new most capacity old new order filed packet place is room vacant updates number apart at len same =
    let front = take place order in
    let back = drop place order in
    let others : All (HasPacket new) order = λ k d low.
    let one = slice_index_or order k d in
    let has = is.each k d low in
    let key : one.key ≢ filed.key = λ (e : one.key ≡ filed.key). absurd (true≢false (sym (ap is_some has.1) ∙ ap (λ (key : ℕ). is_some (get old key)) e ∙ ap is_some vacant)) in
    (has.0, updates.others one.key key ∙ has.1, has.2) in
    let here : HasPacket new filed = (packet, updates.changed, number) in
    let above : All (λ (one : Filed). filed.packet < one.packet) back = λ k d low.
    let high = at.after k d low in
    let differs : (slice_index_or back k d).packet ≢ filed.packet = All-drop (λ (one : Filed). one.packet ≢ filed.packet) place order apart k d low in
    omega (arith, high, differs) in
    let pairs_front = pairs_take place order is.rising in
    let pairs_back = pairs_drop place order is.rising in
    let few = is.few in
    let count = is.count in
    let size = length-insert order place filed at.within in
    let stored = is.stored_room in
    record {
      each = All-append (HasPacket new) front (filed ∷ back) (All-take (HasPacket new) place order others) (All-cons (HasPacket new) filed back here (All-drop (HasPacket new) place order others));
      rising = AllPairs-append Rises front (filed ∷ back) pairs_front (AllPairs-cons Rises filed back above pairs_back)
          (λ k d low. All-cons (Rises (slice_index_or front k d)) filed back (at.before k d low) (λ i e below. let lt = at.before k d low in let ge = at.after i e below in omega (arith, lt, ge)));
      count = omega (arith, len, count, size);
      few = omega (arith, size, room);
      stored_room = omega (arith, stored, same);
      order_room = is.order_room;
    }

-- one that goes on
pub filed_on : (most capacity : ℕ) (old new : Slab PacketOf) (order : List Filed) (filed : Filed) (packet : PacketOf) → IsFiled most old order capacity → All (λ (one : Filed). one.packet ≡ filed.packet → one.key ≡ filed.key) order
    → All (λ (one : Filed). one.packet ≢ filed.packet → one.key ≢ filed.key) order → Updates old new filed.key (Some packet) → packet.packet ≡ filed.packet → slab_len new ≡ slab_len old → new.capacity ≡ old.capacity
    → IsFiled most new order capacity
filed_on most capacity old new order filed packet is same apart updates number len room =
    let count = is.count in
    let stored = is.stored_room in
    record {
      each = λ k d low. by (slice_index_or order k d) (is.each k d low) (same k d low) (apart k d low) (cases_eq (slice_index_or order k d).packet filed.packet);
      rising = is.rising;
      count = len ∙ count;
      few = is.few;
      stored_room = omega (arith, stored, room);
      order_room = is.order_room;
    }
  where
    by : (one : Filed) → HasPacket old one → (one.packet ≡ filed.packet → one.key ≡ filed.key) → (one.packet ≢ filed.packet → one.key ≢ filed.key) → (one.packet ≡ filed.packet) ⊎ (one.packet ≡ filed.packet → ⊥) → HasPacket new one
    by one has key other (inl e) = (packet, ap (get new) (key e) ∙ updates.changed, number ∙ sym e)
    by one has key other (inr differs) = (has.0, updates.others one.key (other differs) ∙ has.1, has.2)

-- and one that is given up
pub filed_less : (most capacity : ℕ) (old new : Slab PacketOf) (order : List Filed) (at : ℕ) (filed : Filed) → IsFiled most old order capacity → slice_get order at ≡ Some filed
    → All (λ (one : Filed). one.packet ≢ filed.packet → one.key ≢ filed.key) order → Updates old new filed.key None → slab_len new + 1 ≡ slab_len old → new.capacity ≡ old.capacity
    → IsFiled most new (remove order at) capacity
filed_less most capacity old new order at filed is there apart updates len room =
    let low = slice_get_within order at filed there in
    let size = length-remove order at low in
    let count = is.count in
    let few = is.few in
    let stored = is.stored_room in
    record {
      each = each_left old new order at filed is.each is.rising there apart updates;
      rising = all_pairs_remove Rises order at low is.rising;
      count = omega (arith, len, count, size);
      few = omega (arith, size, few);
      stored_room = omega (arith, stored, room);
      order_room = is.order_room;
    }
  where
    each_left : (old new : Slab PacketOf) (order : List Filed) (at : ℕ) (filed : Filed) → All (HasPacket old) order → AllPairs Rises order → slice_get order at ≡ Some filed → All (λ (one : Filed). one.packet ≢ filed.packet → one.key ≢ filed.key) order
        → Updates old new filed.key None → All (HasPacket new) (remove order at)
    each_left old new [] at filed each rising there apart updates = absurd (true≢false (sym (ap is_some there)))
    each_left old new (x ∷ xs) zero filed each rising there apart updates = λ k d low.
        let one = slice_index_or xs k d in
        let has = All-tail (HasPacket old) x xs each k d low in
        let above = AllPairs-head Rises x xs rising k d low in
        let same : x.packet ≡ filed.packet = ap (λ (o : Option Filed). (unwrap_or o x).packet) there in
        let differs : one.packet ≢ filed.packet = λ (e : one.packet ≡ filed.packet). absurd (omega (arith, e, above, same)) in
        (has.0, updates.others one.key (All-tail (λ (one : Filed). one.packet ≢ filed.packet → one.key ≢ filed.key) x xs apart k d low differs) ∙ has.1, has.2)
    each_left old new (x ∷ xs) (suc at) filed each rising there apart updates =
        let low = slice_get_within xs at filed there in
        let place : slice_index_or xs at filed ≡ filed = get_or_from_slice_get xs at filed filed there in
        let before : x.packet < filed.packet = subst (λ (f : Filed). x.packet < f.packet) place (AllPairs-head Rises x xs rising at filed low) in
        let differs : x.packet ≢ filed.packet = λ (e : x.packet ≡ filed.packet). absurd (omega (arith, e, before)) in
        let has = All-head (HasPacket old) x xs each in
        let key = All-head (λ (one : Filed). one.packet ≢ filed.packet → one.key ≢ filed.key) x xs apart differs in
        All-cons (HasPacket new) x (remove xs at) (has.0, updates.others x.key key ∙ has.1, has.2)
        (each_left old new xs at filed (All-tail (HasPacket old) x xs each) (AllPairs-tail Rises x xs rising) there (All-tail (λ (one : Filed). one.packet ≢ filed.packet → one.key ≢ filed.key) x xs apart) updates)
