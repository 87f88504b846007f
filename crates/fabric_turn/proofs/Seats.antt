-- Opening, split, join and close.
use Rattle.std.proofs.Common.{◌≡◌, ◌≢◌, ℕ, zero, suc, ◌+◌, ◌-◌, ◌^◌, ◌<◌, ◌≤◌, Bool, true, false, cond, eqb, ◌⊎◌, List, [], ◌∷◌, ◌++◌, length, set, sym, refl, ap, ◌∙◌, subst, inl, inr, ⊎_elim, arith, length-set, length-append, eq-eqb, ne_eqb, append-nil, append_assoc, Some, nat_lt, lt_of_not-le}
use borrow.Author.Tests.{ltb-true, ltb-false}
use mathlib.Core.Logic.{dite}
use mathlib.Core.Option.{none, some, some-injective, some-ne-none}
use native.Mathlib.Decide.{dec_le, ℕ_discrete}
use lib.ListN.{get_elem?}
use lib.Seq.{set-get_or}
use Rattle.fabric_turn.specs.Plays.{Compares}
use Rattle.atomic_table.specs.Table.{State, Me, opening, step, keeps, Allows, Splits, Joins, Seen, Final}
use Rattle.atomic_table.proofs.Lists.{set_else, at_longer, at_last}
use Rattle.fabric_turn.specs.History.{own_entries}
use Rattle.fabric_turn.specs.Rule.{total_by, is_live, tickets_at, numbers_at, tickets_of, numbers_of, HasNumber, first_view, acting, spare, over, HoldsTicket, HasPlaces, IsSeated, IsKept}
use Rattle.fabric_turn.specs.Seats.{longer_of, ended_caller, unused_callers, remaining_view, new_view, merged_view, compared_view, spent_view, HasAllNumbers}
use Rattle.fabric_turn.specs.declared.view.View.{View}
use Rattle.fabric_turn.specs.declared.view.Ended.{Ended}
use Rattle.fabric_turn.specs.declared.view.Stage.{Stage}
use Rattle.fabric_turn.specs.declared.view.Stage.TheVariants.{Spent, Idle, Waits, Serves}
use Rattle.fabric_turn.proofs.Facts.{total_by-set, total_by-snoc, set_put, seats_stay, own_entries-append, none_of_rest}
use Rattle.fabric_turn.proofs.Steps.{latest_stays, Covered, covered_stays, out_stays, not_serving, rule_with}

module _ {A : Type 0} where
  at_snoc_at : (l : List A) (a b : A) (j : ℕ) → get_elem? (l ++ a ∷ []) j ≡ some b → (get_elem? l j ≡ some b) ⊎ ((j ≡ length l) × (a ≡ b))
  at_snoc_at [] a b zero e = inr (refl, some-injective a b e)
  at_snoc_at [] a b (suc j) e = absurd (some-ne-none b (sym e))
  at_snoc_at (x ∷ xs) a b zero e = inl e
  at_snoc_at (x ∷ xs) a b (suc j) e = ⊎_elim inl (λ (t : (j ≡ length xs) × (a ≡ b)). inr (ap suc t.0, t.1)) (at_snoc_at xs a b j e)

  at_append : (l m : List A) (b : A) (j : ℕ) → get_elem? (l ++ m) j ≡ some b → (get_elem? l j ≡ some b) ⊎ ((i : ℕ) × (get_elem? m i ≡ some b))
  at_append [] m b j e = inr (j, e)
  at_append (x ∷ xs) m b zero e = inl e
  at_append (x ∷ xs) m b (suc j) e = at_append xs m b j e

  prefix_split : (xs ys r q : List A) → xs ++ r ≡ ys ++ q → length xs ≤ length ys → (m : List A) × (ys ≡ xs ++ m)
  prefix_split [] ys r q e h = (ys, refl)
  prefix_split (x ∷ xs) [] r q e h = absurd (omega arith)
  prefix_split (x ∷ xs) (y ∷ ys) r q e h = let t : xs ++ r ≡ ys ++ q = cc in let is : x ≡ y = cc in let p = prefix_split xs ys r q t (omega arith) in (p.0, λ i. sym is i ∷ p.1 i)

  whole_prefix : (xs r log : List A) → xs ++ r ≡ log → length log ≤ length xs → xs ≡ log
  whole_prefix xs [] log e h = sym (append-nil xs) ∙ e
  whole_prefix xs (y ∷ r) log e h = let n = length-append xs (y ∷ r) in let k = ap length e in absurd (omega arith)

  drop_same : (xs ys zs : List A) → xs ++ ys ≡ xs ++ zs → ys ≡ zs
  drop_same [] ys zs e = e
  drop_same (x ∷ xs) ys zs e = let t : xs ++ ys ≡ xs ++ zs = cc in drop_same xs ys zs t

  empty_list : (xs : List A) → length xs ≡ 0 → xs ≡ []
  empty_list [] e = refl
  empty_list (x ∷ xs) e = absurd (omega arith)

module _ {E : Type 0} where
  at_unused : (n k i : ℕ) (x : Ended E) → get_elem? (unused_callers n k) i ≡ some x → (n ≤ x.number) × (x.number < n + k) × (x.mine ≡ [])
  at_unused n zero i x e = absurd (some-ne-none x (sym e))
  at_unused n (suc k) zero x e = let is : ended_caller n [] ≡ x = some-injective (ended_caller n []) x e in let m : n ≡ x.number = ap (λ (y : Ended E). y.number) is in (omega arith, omega arith, sym (ap (λ (y : Ended E). y.mine) is))
  at_unused n (suc k) (suc i) x e = let p = at_unused (suc n) k i x e in let a = p.0 in let b = p.1 in (omega arith, omega arith, p.2)

  longer_by : (P : List E → Type 0) (xs ys : List E) (b : Bool) → nat_lt (length xs) (length ys) ≡ b → (length ys ≤ length xs → P xs) → (length xs < length ys → P ys) → P (cond b ys xs)
  longer_by P xs ys true e a b = b (ltb-true (length xs) (length ys) e)
  longer_by P xs ys false e a b = a (ltb-false (length xs) (length ys) e)

  longer_cases : (P : List E → Type 0) (xs ys : List E) → (length ys ≤ length xs → P xs) → (length xs < length ys → P ys) → P (longer_of xs ys)
  longer_cases P xs ys a b = longer_by P xs ys (nat_lt (length xs) (length ys)) refl a b

length-unused_callers : (E : Type 0) (n k : ℕ) → length (unused_callers {E = E} n k) ≡ k
length-unused_callers E n zero = refl
length-unused_callers E n (suc k) = ap suc (length-unused_callers E (suc n) k)

dead_alive : ¬ (false ≡ true)
dead_alive e = cc

live_size : (st : Stage) (n : ℕ) → is_live st ≡ true → numbers_at st n ≡ n
live_size Spent n e = absurd (dead_alive e)
live_size Idle n e = refl
live_size (Waits t) n e = refl
live_size (Serves t) n e = refl

total_by-at : {A : Type 0} (f : A → ℕ) (l : List A) (i : ℕ) (v : A) → get_elem? l i ≡ some v → f v ≤ total_by f l
total_by-at f [] i v e = absurd (some-ne-none v (sym e))
total_by-at f (x ∷ xs) zero v e = let is : f x ≡ f v = ap f (some-injective x v e) in omega arith
total_by-at f (x ∷ xs) (suc i) v e = let r = total_by-at f xs i v e in omega arith

-- the place of each number, where the number m goes to p
abbrev moved : ℕ → ℕ × ℕ → (ℕ → ℕ × ℕ) → ℕ → ℕ × ℕ
moved m p place n = cond (eqb n m) p (place n)

moved_here : (m : ℕ) (p : ℕ × ℕ) (place : ℕ → ℕ × ℕ) → moved m p place m ≡ p
moved_here m p place = ap (λ b. cond b p (place m)) (eq-eqb m m refl)

moved_else : (m : ℕ) (p : ℕ × ℕ) (place : ℕ → ℕ × ℕ) (n : ℕ) → n ≢ m → moved m p place n ≡ place n
moved_else m p place n ne = ap (λ b. cond b p (place n)) (ne_eqb n m ne)

-- the place of each number, where all of the view a go to the view b as ended
abbrev merged : ℕ → ℕ → (ℕ → ℕ × ℕ) → ℕ → ℕ × ℕ
merged a b place n = cond (eqb (place n).0 a) (b, over) (place n)

merged_here : (a b : ℕ) (place : ℕ → ℕ × ℕ) (n role : ℕ) → place n ≡ (a, role) → merged a b place n ≡ (b, over)
merged_here a b place n role e = ap (λ t. cond t (b, over) (place n)) (eq-eqb (place n).0 a (ap (λ (p : ℕ × ℕ). p.0) e))

merged_else : (a b : ℕ) (place : ℕ → ℕ × ℕ) (n : ℕ) → (place n).0 ≢ a → merged a b place n ≡ place n
merged_else a b place n ne = ap (λ t. cond t (b, over) (place n)) (ne_eqb (place n).0 a ne)

role_apart : (p : ℕ × ℕ) (i j a b : ℕ) → p ≡ (i, a) → a ≢ b → p ≢ (j, b)
role_apart p i j a b e ne f = ne (ap (λ (q : ℕ × ℕ). q.1) (sym e ∙ f))

view_apart : (p : ℕ × ℕ) (i j a b : ℕ) → p ≡ (i, a) → i ≢ j → p ≢ (j, b)
view_apart p i j a b e ne f = ne (ap (λ (q : ℕ × ℕ). q.0) (sym e ∙ f))

module _ {S E D : Type 0} (history : S → List E) (start_of : S → D) (owner : E → ℕ) (callers : ℕ) (start : D) where
  abbrev V : Type 0
  V = View E D

  abbrev St : Type 0
  St = State S V

  abbrev Rule : St → Type 0
  Rule = IsKept history start_of owner callers start

  abbrev Cov : List V → ℕ → Type 0
  Cov = Covered history start_of owner callers start

  abbrev SitsIn : List E → (ℕ → ℕ × ℕ) → ℕ → V → Type 0
  SitsIn log place i v = IsSeated history start_of owner callers start log place i v

  abbrev SitsAt : List E → (ℕ → ℕ × ℕ) → ℕ → V → Type 0
  SitsAt log place i v = is_live v.stage ≡ true → SitsIn log place i v

  abbrev first_place : ℕ → ℕ × ℕ
  first_place n = moved 0 (0, acting) (λ _. (0, spare)) n

  first_sits : 0 < callers → (i : ℕ) (v : V) → get_elem? (first_view callers start ∷ []) i ≡ some v → SitsIn [] first_place i v
  first_sits some_caller zero v at = subst (SitsIn [] first_place 0) (some-injective (first_view callers start) v at) record {
    begun = refl;
    bound = refl;
    below = some_caller;
    made = refl;
    places = record {
      limit = some_caller;
      acts = refl;
      spares = λ n l _. moved_else 0 (0, acting) (λ _. (0, spare)) n (λ e. omega arith);
      ends = λ k x e. absurd (some-ne-none x (sym e));
    };
    sight = record { saw = refl; rest = []; prefix = refl; heard_rest = []; heard_prefix = refl };
  }
  first_sits some_caller (suc i) v at = absurd (some-ne-none v (sym at))

  first_rides : (i : ℕ) (v : V) → get_elem? (first_view callers start ∷ []) i ≡ some v → HoldsTicket 0 0 [] (λ _. 0) i v.seen v.stage
  first_rides zero v at = subst (λ (x : V). HoldsTicket 0 0 [] (λ _. 0) 0 x.seen x.stage) (some-injective (first_view callers start) v at) tt
  first_rides (suc i) v at = absurd (some-ne-none v (sym at))

  first_has : (n : ℕ) → HasNumber (first_view {E = E} callers start) n
  first_has n = dite (ℕ_discrete n 0) inl (λ ne. inr (inl (omega arith)))

  pub opens_keep : (b : S) → 0 < callers → callers < 2 ^ 32 → history b ≡ [] → start_of b ≡ start → Rule (opening (0 ∷ 0 ∷ []) (b ∷ []) (first_view callers start))
  opens_keep b some_caller few empty begun = record {
    drawn = 0;
    served = 0;
    log = [];
    holder = λ _. 0;
    place = first_place;
    two = refl;
    tickets = refl;
    serving = refl;
    few = few;
    counted = refl;
    numbered = omega arith;
    fresh = λ n _. refl;
    beyond = λ n _. refl;
    seated = λ i v at _. first_sits some_caller i v at;
    ticketed = first_rides;
    covers = λ n l. (0, first_view callers start, refl, refl, first_has n);
    latest = (0, first_view callers start, refl, refl, inl refl);
    slot = inl (b, refl, empty, begun);
  }

  -- a view keeps its part of the rule where no number of its own goes elsewhere
  replaced : (log : List E) (place place' : ℕ → ℕ × ℕ) (j : ℕ) (y : V) → ((n role : ℕ) → place n ≡ (j, role) → place' n ≡ place n) → SitsIn log place j y → SitsIn log place' j y
  replaced log place place' j y same q =
      let places : HasPlaces history start_of owner callers start log place' j y.number y.next y.ended = record {
        limit = q.limit;
        acts = same y.number acting q.acts ∙ q.acts;
        spares = λ n a b. let e = q.spares n a b in same n spare e ∙ e;
        ends = λ k x here. let f = q.ends k x here in (same x.number over f.0 ∙ f.0, f.1);
      } in
      assumption (q, places)

  own_start : (seen rest log : List E) (c : ℕ) → seen ++ rest ≡ log → own_entries owner log c ≡ [] → own_entries owner seen c ≡ []
  own_start seen rest log c whole no_entry = let e : own_entries owner seen c ++ own_entries owner rest c ≡ [] = sym (own_entries-append owner seen rest c) ∙ ap (λ h. own_entries owner h c) whole ∙ no_entry in
      let n = length-append (own_entries owner seen c) (own_entries owner rest c) in let k = ap length e in empty_list (own_entries owner seen c) (omega arith)

  -- a number of a view that gave its next one is that, or the view has it
  gave_has : (vs : List V) (id : ℕ) (v : V) (n : ℕ) → get_elem? vs id ≡ some v → is_live v.stage ≡ true → Cov vs n → Cov (set vs id (remaining_view v) ++ new_view v ∷ []) n
  gave_has vs id v n at alive c = dite (ℕ_discrete n v.next)
      (λ e. (length (set vs id (remaining_view v)), new_view v, at_last (set vs id (remaining_view v)) (new_view v) (length (set vs id (remaining_view v))) refl, refl, inl e))
      (λ ne. let d = covered_stays history start_of owner callers start vs id v (remaining_view v) n at alive
      (λ h. ⊎_elim inl (λ u. inr (⊎_elim (λ le. inl (omega arith)) inr u)) h) c in
      (d.0, d.1, at_longer (set vs id (remaining_view v)) (new_view v ∷ []) d.0 d.1 d.2, d.3, d.4))

  pub splits_keep : (id : ℕ) (v : V) → v.stage ≡ Idle → v.next < v.callers → Splits Rule id v (remaining_view v) (new_view v)
  splits_keep id v idle more s r at = let m : ℕ = v.next in let left : V = remaining_view v in let right : V = new_view v in let len : ℕ = length s.views in let vs : List V = set s.views id left in
      let alive : is_live v.stage ≡ true = ap is_live idle in let q = r.seated id v at alive in let same_len = length-set s.views id left in let bound = q.bound in let below : m < callers = omega arith in
      let mine : r.place m ≡ (id, spare) = q.spares m (omega arith) below in let place' : ℕ → ℕ × ℕ = moved m (len, acting) r.place in
      let sums = total_by-set tickets_of s.views id v left at in let sizes = total_by-set numbers_of s.views id v left at in let sums' = total_by-snoc tickets_of vs right in let sizes' = total_by-snoc numbers_of vs right in
      let total_size = r.numbered in let total_out = r.counted in
      let big : numbers_of v ≡ 1 + (v.callers - v.next) + length v.ended = ap (λ st. numbers_at st (1 + (v.callers - v.next) + length v.ended)) idle in
      let small : numbers_of left ≡ 1 + (v.callers - (v.next + 1)) + length v.ended = ap (λ st. numbers_at st (1 + (v.callers - (v.next + 1)) + length v.ended)) idle in
      let one : numbers_of right ≡ 1 = omega arith in let out_left : tickets_of left ≡ tickets_of v = refl in
      let no_entry : own_entries owner r.log m ≡ [] = r.fresh m (ap (λ (p : ℕ × ℕ). p.1) mine) in
      let stays : (j : ℕ) (y : V) → get_elem? vs j ≡ some y → SitsAt r.log place' j y = seats_stay (SitsAt r.log place') s.views id left
      (λ _. record {
        begun = q.begun;
        bound = q.bound;
        below = q.below;
        made = q.made;
        sight = q.sight;
        places = record {
          limit = omega arith;
          acts = moved_else m (len, acting) r.place v.number (λ e. role_apart (r.place v.number) id id acting spare q.acts (λ z. let z' : acting ≡ spare = z in absurd (omega arith)) (ap r.place e ∙ mine)) ∙ q.acts;
          spares = λ n a b. moved_else m (len, acting) r.place n (λ e. omega arith) ∙ q.spares n (omega arith) b;
          ends = λ k x here. let f = q.ends k x here in (moved_else m (len, acting) r.place x.number (λ e. role_apart (r.place x.number) id id over spare f.0 (λ z. let z' : over ≡ spare = z in absurd (omega arith)) (ap r.place e ∙ mine)) ∙ f.0, f.1);
        };
      })
      (λ j y apart here live. replaced r.log r.place place' j y (λ n role e. moved_else m (len, acting) r.place n (λ is. view_apart (r.place n) j id role spare e apart (ap r.place is ∙ mine))) (r.seated j y here live)) in
      let rests : (j : ℕ) (y : V) → get_elem? vs j ≡ some y → HoldsTicket r.drawn r.served r.log r.holder j y.seen y.stage =
      seats_stay (λ j y. HoldsTicket r.drawn r.served r.log r.holder j y.seen y.stage) s.views id left (subst (HoldsTicket r.drawn r.served r.log r.holder id v.seen) (sym idle) tt) (λ j y _. r.ticketed j y) in
      let new : SitsIn r.log place' len right = record {
        begun = q.begun;
        bound = q.bound;
        below = below;
        made = no_entry;
        places = record { limit = omega arith; acts = moved_here m (len, acting) r.place; spares = λ n a b. absurd (omega arith); ends = λ k x here. absurd (some-ne-none x (sym here)) };
        sight = record { saw = own_start v.seen q.rest r.log m q.prefix no_entry; rest = q.rest; prefix = q.prefix; heard_rest = r.log; heard_prefix = refl };
      } in
      let last = latest_stays history start_of owner callers start r.log s.views id v left at refl refl alive r.latest in
      rule_with history start_of owner callers start s r s.homes (vs ++ right ∷ []) place' (omega arith) (omega arith)
      (λ n kind. dite (ℕ_discrete n m)
      (λ e. let z : acting ≡ spare = sym (ap (λ (p : ℕ × ℕ). p.1) (ap place' e ∙ moved_here m (len, acting) r.place)) ∙ kind in absurd (omega arith))
      (λ ne. r.fresh n (ap (λ (p : ℕ × ℕ). p.1) (sym (moved_else m (len, acting) r.place n ne)) ∙ kind)))
      (λ j y here live. ⊎_elim (λ h. stays j y h live) (λ (t : (j ≡ length vs) × (right ≡ y)). subst (λ (p : ℕ × V). SitsIn r.log place' p.0 p.1) (λ i. (sym (t.0 ∙ same_len) i, t.1 i)) new)
      (at_snoc_at vs right y j here))
      (λ j y here. ⊎_elim (λ h. rests j y h) (λ (t : (j ≡ length vs) × (right ≡ y)). subst (λ (x : V). HoldsTicket r.drawn r.served r.log r.holder j x.seen x.stage) t.1 tt) (at_snoc_at vs right y j here))
      (λ n l. gave_has s.views id v n at alive (r.covers n l))
      (last.0, last.1, at_longer vs (right ∷ []) last.0 last.1 last.2, last.3, last.4)
      (⊎_elim inl (λ o. let p = out_stays history start_of owner callers start s.views id v left at (λ t e. not_serving history start_of owner callers start t (sym idle ∙ e)) o in
      inr (p.0, p.1, p.2, at_longer vs (right ∷ []) p.0 p.1 p.3, p.4)) r.slot)

  -- of two beginnings of the history the longer, where one is all of it, is all of it
  longer_whole : (xs ys r q log : List E) → xs ++ r ≡ log → ys ++ q ≡ log → (xs ≡ log) ⊎ (ys ≡ log) → longer_of xs ys ≡ log
  longer_whole xs ys r q log e f one = let a = length-append xs r in let b = length-append ys q in let le = ap length e in let lf = ap length f in longer_cases (λ h. h ≡ log) xs ys
      (λ h. ⊎_elim (λ x. x) (λ y. let ly = ap length y in whole_prefix xs r log e (omega arith)) one)
      (λ h. ⊎_elim (λ x. let lx = ap length x in absurd (omega arith)) (λ y. y) one)

  longer_prefix : (xs ys r q log : List E) → xs ++ r ≡ log → ys ++ q ≡ log → (rest : List E) × (longer_of xs ys ++ rest ≡ log)
  longer_prefix xs ys r q log e f = longer_cases (λ h. (rest : List E) × (h ++ rest ≡ log)) xs ys (λ _. (r, e)) (λ _. (q, f))

  -- who saw all of its entries has seen no more of them in a longer history
  longer_own : (c : ℕ) (mine xs ys r q log : List E) → xs ++ r ≡ log → ys ++ q ≡ log → own_entries owner xs c ≡ mine → own_entries owner log c ≡ mine → own_entries owner (longer_of xs ys) c ≡ mine
  longer_own c mine xs ys r q log e f saw made = longer_cases (λ h. own_entries owner h c ≡ mine) xs ys (λ _. saw) (λ h. let p = prefix_split xs ys r q (e ∙ sym f) (omega arith) in
      let tail : p.0 ++ q ≡ r = drop_same xs (p.0 ++ q) r (sym (append_assoc xs p.0 q) ∙ ap (λ l. l ++ q) (sym p.1) ∙ f ∙ sym e) in
      let no_more : own_entries owner r c ≡ [] = none_of_rest owner xs r log mine c e made saw in
      ap (λ l. own_entries owner l c) p.1 ∙ own_entries-append owner xs p.0 c ∙ ap (λ l. own_entries owner xs c ++ l) (own_start p.0 q r c tail no_more) ∙ append-nil (own_entries owner xs c) ∙ saw)

  joined_rest : (log : List E) (place : ℕ → ℕ × ℕ) (id other : ℕ) (w : V) → SitsIn log place other w → ((n : ℕ) → (place n).1 ≡ spare → own_entries owner log n ≡ [])
      → (i : ℕ) (x : Ended E) → get_elem? (ended_caller w.number w.mine ∷ (w.ended ++ unused_callers w.next (w.callers - w.next))) i ≡ some x
      → (merged other id place x.number ≡ (id, over)) × (own_entries owner log x.number ≡ x.mine)
  joined_rest log place id other w p fresh zero x here = let is : ended_caller w.number w.mine ≡ x = some-injective (ended_caller w.number w.mine) x here in let n : w.number ≡ x.number = ap (λ (y : Ended E). y.number) is in
      (ap (merged other id place) (sym n) ∙ merged_here other id place w.number acting p.acts, ap (own_entries owner log) (sym n) ∙ p.made ∙ ap (λ (y : Ended E). y.mine) is)
  joined_rest log place id other w p fresh (suc i) x here = ⊎_elim
      (λ a. let f = p.ends i x a in (merged_here other id place x.number over f.0, f.1))
      (λ (b : (j : ℕ) × (get_elem? (unused_callers w.next (w.callers - w.next)) j ≡ some x)). let u = at_unused w.next (w.callers - w.next) b.0 x b.1 in let lo : w.next ≤ x.number = u.0 in let hi : x.number < w.next + (w.callers - w.next) = u.1 in
      let bound = p.bound in let limit = p.limit in let at = p.spares x.number lo (omega arith) in (merged_here other id place x.number spare at, fresh x.number (ap (λ (z : ℕ × ℕ). z.1) at) ∙ sym u.2))
      (at_append w.ended _ x i here)

  joined_ends : (log : List E) (place : ℕ → ℕ × ℕ) (id other : ℕ) (v w : V) → id ≢ other → SitsIn log place id v → SitsIn log place other w → ((n : ℕ) → (place n).1 ≡ spare → own_entries owner log n ≡ [])
      → (k : ℕ) (x : Ended E) → get_elem? (v.ended ++ ended_caller w.number w.mine ∷ (w.ended ++ unused_callers w.next (w.callers - w.next))) k ≡ some x
      → (merged other id place x.number ≡ (id, over)) × (own_entries owner log x.number ≡ x.mine)
  joined_ends log place id other v w apart q p fresh k x here = ⊎_elim
      (λ a. let f = q.ends k x a in (merged_else other id place x.number (λ e. apart (ap (λ (z : ℕ × ℕ). z.0) (sym f.0) ∙ e)) ∙ f.0, f.1))
      (λ (b : (i : ℕ) × (get_elem? (ended_caller w.number w.mine ∷ (w.ended ++ unused_callers w.next (w.callers - w.next))) i ≡ some x)). joined_rest log place id other w p fresh b.0 x b.1)
      (at_append v.ended _ x k here)

  unused_at : (n k m : ℕ) → n ≤ m → m < n + k → (i : ℕ) × (x : Ended E) × (get_elem? (unused_callers n k) i ≡ some x) × (x.number ≡ m)
  unused_at n zero m a b = absurd (omega arith)
  unused_at n (suc k) m a b = dite (ℕ_discrete n m) (λ e. (0, ended_caller n [], refl, e)) (λ ne. let r = unused_at (suc n) k m (omega arith) (omega arith) in (suc r.0, r.1, r.2, r.3))

  abbrev EndsAt : List (Ended E) → ℕ → Type 0
  EndsAt l n = (k : ℕ) × (x : Ended E) × (get_elem? l k ≡ some x) × (x.number ≡ n)

  ends_behind : (l m : List (Ended E)) (n : ℕ) → EndsAt m n → EndsAt (l ++ m) n
  ends_behind [] m n e = e
  ends_behind (y ∷ l) m n e = let r = ends_behind l m n e in (suc r.0, r.1, r.2, r.3)

  joined_has : (v w : V) (n : ℕ) → n < w.callers → HasNumber w n → HasNumber (merged_view v w) n
  joined_has v w n below (inl e) = inr (inr (ends_behind v.ended _ n (0, ended_caller w.number w.mine, refl, sym e)))
  joined_has v w n below (inr (inl le)) = let u = unused_at w.next (w.callers - w.next) n le (omega arith) in let r = ends_behind w.ended (unused_callers w.next (w.callers - w.next)) n u in
      inr (inr (ends_behind v.ended _ n (suc r.0, r.1, r.2, r.3)))
  joined_has v w n below (inr (inr e)) = inr (inr (ends_behind v.ended _ n (suc e.0, e.1, at_longer w.ended (unused_callers w.next (w.callers - w.next)) e.0 e.1 e.2, e.3)))

  joined_keeps : (v w : V) (n : ℕ) → HasNumber v n → HasNumber (merged_view v w) n
  joined_keeps v w n (inl e) = inl e
  joined_keeps v w n (inr (inl le)) = inr (inl le)
  joined_keeps v w n (inr (inr e)) = inr (inr (e.0, e.1, at_longer v.ended _ e.0 e.1 e.2, e.3))

  merges_cover : (vs : List V) (id other : ℕ) (v w : V) (n : ℕ) → get_elem? vs id ≡ some v → get_elem? vs other ≡ some w → id ≢ other → is_live v.stage ≡ true → n < w.callers → Cov vs n
      → Cov (set (set vs id (merged_view v w)) other spent_view) n
  merges_cover vs id other v w n at there apart alive below c = let i = c.0 in let x = c.1 in let here : get_elem? (set (set vs id (merged_view v w)) other spent_view) id ≡ some (merged_view v w) = set_else (set vs id (merged_view v w)) other id spent_view apart ∙ set_put vs id v (merged_view v w) at in
      dite (ℕ_discrete i other)
      (λ e. let is : x ≡ w = some-injective x w (sym c.2 ∙ ap (λ (k : ℕ). get_elem? vs k) e ∙ there) in (id, merged_view v w, here, alive, joined_has v w n below (subst (λ (y : V). HasNumber y n) is c.4)))
      (λ ne. dite (ℕ_discrete i id)
      (λ e. let is : x ≡ v = some-injective x v (sym c.2 ∙ ap (λ (k : ℕ). get_elem? vs k) e ∙ at) in (id, merged_view v w, here, alive, joined_keeps v w n (subst (λ (y : V). HasNumber y n) is c.4)))
      (λ ne'. (i, x, set_else (set vs id (merged_view v w)) other i spent_view ne ∙ (set_else vs id i (merged_view v w) ne' ∙ c.2), c.3, c.4)))

  pub joins_keep : (id : ℕ) (v : V) (other : ℕ) (w : V) → v.stage ≡ Idle → w.stage ≡ Idle → v.heard ≡ [] → w.heard ≡ [] → Joins Rule id v other w (merged_view v w) spent_view
  joins_keep id v other w idle idle' quiet quiet' s r at apart there = let both : V = merged_view v w in let vs : List V = set s.views id both in let there' : get_elem? s.views other ≡ some w = sym (set_else s.views id other both apart) ∙ there in
      let apart' : id ≢ other = λ e. apart (sym e) in let alive : is_live v.stage ≡ true = ap is_live idle in let q = r.seated id v at alive in let p = r.seated other w there' (ap is_live idle') in
      let place' : ℕ → ℕ × ℕ = merged other id r.place in
      let sums = total_by-set tickets_of s.views id v both at in let sizes = total_by-set numbers_of s.views id v both at in let sums' = total_by-set tickets_of vs other w spent_view there in let sizes' = total_by-set numbers_of vs other w spent_view there in
      let total_size = r.numbered in let total_out = r.counted in let bound = p.bound in let limit = p.limit in
      let big : numbers_of v ≡ 1 + (v.callers - v.next) + length v.ended = ap (λ st. numbers_at st (1 + (v.callers - v.next) + length v.ended)) idle in
      let big' : numbers_of w ≡ 1 + (w.callers - w.next) + length w.ended = ap (λ st. numbers_at st (1 + (w.callers - w.next) + length w.ended)) idle' in
      let all : numbers_of both ≡ 1 + (v.callers - v.next) + length both.ended = ap (λ st. numbers_at st (1 + (v.callers - v.next) + length both.ended)) idle in
      let len = length-append v.ended (ended_caller w.number w.mine ∷ (w.ended ++ unused_callers w.next (w.callers - w.next))) in let len' = length-append w.ended (unused_callers w.next (w.callers - w.next)) in let len'' = length-unused_callers E w.next (w.callers - w.next) in
      let parts : length both.ended ≡ length v.ended + (1 + (length w.ended + (w.callers - w.next))) = omega arith in
      let out_both : tickets_of both ≡ 0 = ap tickets_at idle in let out_v : tickets_of v ≡ 0 = ap tickets_at idle in let out_w : tickets_of w ≡ 0 = ap tickets_at idle' in
      let empty : r.log ≡ [] → v.seen ≡ r.log = λ e. let n = length-append v.seen q.rest in let m = ap length q.prefix in let k = ap length e in whole_prefix v.seen q.rest r.log q.prefix (omega arith) in
      let mine : SitsIn r.log place' id both = record {
        begun = q.begun;
        bound = q.bound;
        below = q.below;
        made = q.made;
        places = record {
          limit = q.limit;
          acts = merged_else other id r.place v.number (λ e. apart' (ap (λ (z : ℕ × ℕ). z.0) (sym q.acts) ∙ e)) ∙ q.acts;
          spares = λ n a b. let f = q.spares n a b in merged_else other id r.place n (λ e. apart' (ap (λ (z : ℕ × ℕ). z.0) (sym f) ∙ e)) ∙ f;
          ends = joined_ends r.log r.place id other v w apart' q p r.fresh;
        };
        sight = record { saw = q.saw; rest = q.rest; prefix = q.prefix; heard_rest = p.rest; heard_prefix = p.prefix };
      } in
      rule_with history start_of owner callers start s r s.homes (set vs other spent_view) place' (omega arith) (omega arith)
      (λ n kind. dite (ℕ_discrete (r.place n).0 other)
      (λ e. let z : over ≡ spare = sym (ap (λ (z : ℕ × ℕ). z.1) (merged_here other id r.place n (r.place n).1 (λ i. (e i, (r.place n).1)))) ∙ kind in absurd (omega arith))
      (λ ne. r.fresh n (ap (λ (z : ℕ × ℕ). z.1) (sym (merged_else other id r.place n ne)) ∙ kind)))
      (seats_stay (SitsAt r.log place') vs other spent_view (λ dead. absurd (dead_alive dead)) (λ j y ne here live. seats_stay (λ j y. j ≢ other → SitsAt r.log place' j y) s.views id both (λ _ _. mine)
      (λ j y apart_j here ne live. replaced r.log r.place place' j y (λ n role e. merged_else other id r.place n (λ is. ne (ap (λ (z : ℕ × ℕ). z.0) (sym e) ∙ is))) (r.seated j y here live)) j y here ne live))
      (seats_stay (λ j y. HoldsTicket r.drawn r.served r.log r.holder j y.seen y.stage) vs other spent_view tt (λ j y _ here.
      seats_stay (λ j y. HoldsTicket r.drawn r.served r.log r.holder j y.seen y.stage) s.views id both (subst (HoldsTicket r.drawn r.served r.log r.holder id both.seen) (sym idle) tt) (λ j y _. r.ticketed j y) j y here))
      (λ n l. merges_cover s.views id other v w n at there' apart' alive (subst (λ (m : ℕ). n < m) (sym p.bound) l) (r.covers n l))
      (let l = r.latest in let i = l.0 in let x = l.1 in dite (ℕ_discrete i id)
      (λ e. let is : x ≡ v = some-injective x v (sym l.2 ∙ ap (λ (k : ℕ). get_elem? s.views k) e ∙ at) in
      (id, both, set_else vs other id spent_view apart' ∙ set_put s.views id v both at, alive, ⊎_elim (λ a. inl (ap (λ (y : V). y.seen) (sym is) ∙ a)) (λ a. inl (empty (sym a ∙ ap (λ (y : V). y.heard) is ∙ quiet))) l.4))
      (λ ne. dite (ℕ_discrete i other)
      (λ e. let is : x ≡ w = some-injective x w (sym l.2 ∙ ap (λ (k : ℕ). get_elem? s.views k) e ∙ there') in
      (id, both, set_else vs other id spent_view apart' ∙ set_put s.views id v both at, alive, ⊎_elim (λ a. inr (ap (λ (y : V). y.seen) (sym is) ∙ a)) (λ a. inl (empty (sym a ∙ ap (λ (y : V). y.heard) is ∙ quiet'))) l.4))
      (λ ne'. (i, x, set_else vs other i spent_view ne' ∙ (set_else s.views id i both ne ∙ l.2), l.3, l.4))))
      (⊎_elim inl (λ o. inr (out_stays history start_of owner callers start vs other w spent_view there (λ t e. not_serving history start_of owner callers start t (sym idle' ∙ e))
      (out_stays history start_of owner callers start s.views id v both at (λ t e. not_serving history start_of owner callers start t (sym idle ∙ e)) o))) r.slot)

  goes_on_first : (xs ys r q log : List E) → xs ++ r ≡ log → ys ++ q ≡ log → (more : List E) × (longer_of xs ys ≡ xs ++ more)
  goes_on_first xs ys r q log e f = longer_cases (λ h. (more : List E) × (h ≡ xs ++ more)) xs ys (λ _. ([], sym (append-nil xs))) (λ l. prefix_split xs ys r q (e ∙ sym f) (omega arith))

  goes_on_second : (xs ys r q log : List E) → xs ++ r ≡ log → ys ++ q ≡ log → (more : List E) × (longer_of xs ys ≡ ys ++ more)
  goes_on_second xs ys r q log e f = longer_cases (λ h. (more : List E) × (h ≡ ys ++ more)) xs ys (λ l. prefix_split ys xs q r (f ∙ sym e) l) (λ _. ([], sym (append-nil ys)))

  pub compares_keep : (slots id : ℕ) (me : Me S V) → me.0.stage ≡ Idle → Allows Rule slots id me 0 (λ n. n) (Compares owner (step slots 0 0 0 none) me)
  compares_keep slots id me idle s r _ at small = let v = me.0 in let w : V = compared_view v in let alive : is_live v.stage ≡ true = ap is_live idle in let q = r.seated id v at alive in
      let prefix = longer_prefix v.seen v.heard q.rest q.heard_rest r.log q.prefix q.heard_prefix in
      let saw = longer_own v.number v.mine v.seen v.heard q.rest q.heard_rest r.log q.prefix q.heard_prefix q.saw q.made in
      let sums = total_by-set tickets_of s.views id v w at in let sizes = total_by-set numbers_of s.views id v w at in let total_size = r.numbered in let total_out = r.counted in
      let same_size : numbers_of v ≡ numbers_of w = refl in let same_out : tickets_of v ≡ tickets_of w = refl in (
        w,
        keeps,
        tt,
        subst (λ (ws : List ℕ). Rule record { words = ws; homes = s.homes; views = set s.views id w }) (sym (set-get_or s.words 0 0))
            (rule_with history start_of owner callers start s r s.homes (set s.views id w) r.place (omega arith) (omega arith) r.fresh
            (seats_stay (SitsAt r.log r.place) s.views id w (λ _. record { begun = q.begun; bound = q.bound; below = q.below; made = q.made; places = q.places; sight = record { saw = saw; rest = prefix.0; prefix = prefix.1; heard_rest = r.log; heard_prefix = refl } }) (λ j y _. r.seated j y))
            (seats_stay (λ j y. HoldsTicket r.drawn r.served r.log r.holder j y.seen y.stage) s.views id w (subst (HoldsTicket r.drawn r.served r.log r.holder id w.seen) (sym idle) tt) (λ j y _. r.ticketed j y))
            (λ n l. covered_stays history start_of owner callers start s.views id v w n at alive (λ h. h) (r.covers n l))
            (let l = r.latest in let i = l.0 in let x = l.1 in dite (ℕ_discrete i id)
            (λ e. let is : x ≡ v = some-injective x v (sym l.2 ∙ ap (λ (k : ℕ). get_elem? s.views k) e ∙ at) in (
              id,
              w,
              set_put s.views id v w at,
              alive,
              inl (longer_whole v.seen v.heard q.rest q.heard_rest r.log q.prefix q.heard_prefix
                  (⊎_elim (λ a. inl (ap (λ (y : V). y.seen) (sym is) ∙ a)) (λ a. inr (ap (λ (y : V). y.heard) (sym is) ∙ a)) l.4)),
            ))
            (λ ne. (i, x, set_else s.views id i w ne ∙ l.2, l.3, l.4)))
            (⊎_elim inl (λ o. inr (out_stays history start_of owner callers start s.views id v w at (λ t e. not_serving history start_of owner callers start t (sym idle ∙ e)) o)) r.slot)),
        (refl, goes_on_first v.seen v.heard q.rest q.heard_rest r.log q.prefix q.heard_prefix, goes_on_second v.seen v.heard q.rest q.heard_rest r.log q.prefix q.heard_prefix, saw),
      )

  -- where one view has all numbers, each other view is spent
  alone : (vs : List V) (id j : ℕ) (v x : V) → get_elem? vs id ≡ some v → get_elem? vs j ≡ some x → j ≢ id → total_by numbers_of vs ≡ numbers_of v → is_live x.stage ≡ true → ⊥
  alone vs id j v x at here ne all live = let t = total_by-set numbers_of vs id v spent_view at in let u = total_by-at numbers_of (set vs id spent_view) j x (set_else vs id j spent_view ne ∙ here) in let k = live_size x.stage (1 + (x.callers - x.next) + length x.ended) live in omega arith

  -- at the end the value is at home, and stands for what the seat has seen
  pub ends_whole : (id : ℕ) (v : V) → v.stage ≡ Idle → v.heard ≡ [] → HasAllNumbers v → (s : St) → Seen Rule id v s
      → (b : S) × (get_elem? s.homes 0 ≡ some (some b)) × (history b ≡ v.seen) × (v.start ≡ Some (start_of b)) × (own_entries owner v.seen v.number ≡ v.mine)
      × ((k : ℕ) (x : Ended E) → get_elem? v.ended k ≡ some x → own_entries owner v.seen x.number ≡ x.mine) × ((n : ℕ) → v.next ≤ n → own_entries owner v.seen n ≡ []) × ((n : ℕ) → n < v.callers → HasNumber v n)
  ends_whole id v idle quiet all s seen = let r = seen.0 in let at = seen.1 in let alive : is_live v.stage ≡ true = ap is_live idle in let q = r.seated id v at alive in let bound = q.bound in
      let big : numbers_of v ≡ 1 + (v.callers - v.next) + length v.ended = ap (λ st. numbers_at st (1 + (v.callers - v.next) + length v.ended)) idle in let whole : total_by numbers_of s.views ≡ numbers_of v = r.numbered ∙ sym bound ∙ sym all ∙ sym big in
      let empty : r.log ≡ [] → v.seen ≡ r.log = λ e. let n = length-append v.seen q.rest in let m = ap length q.prefix in let k = ap length e in whole_prefix v.seen q.rest r.log q.prefix (omega arith) in let l = r.latest in let same : v.seen ≡ r.log = dite (ℕ_discrete l.0 id) (λ e. let is : l.1 ≡ v = some-injective l.1 v (sym l.2 ∙ ap (λ (k : ℕ). get_elem? s.views k) e ∙ at) in ⊎_elim (λ a. ap (λ (y : V). y.seen) (sym is) ∙ a) (λ a. empty (sym a ∙ ap (λ (y : V). y.heard) is ∙ quiet)) l.4)
      (λ ne. absurd (alone s.views id l.0 v l.1 at l.2 ne whole l.3)) in
      ⊎_elim
      (λ (h : (b : S) × (get_elem? s.homes 0 ≡ some (some b)) × (history b ≡ r.log) × (start_of b ≡ start)). (
        h.0,
        h.1,
        h.2 ∙ sym same,
        q.begun ∙ ap Some (sym h.3),
        q.saw,
        λ k x here. ap (λ g. own_entries owner g x.number) same ∙ (q.ends k x here).1,
        λ n above. ap (λ g. own_entries owner g n) same ∙ dite (dec_le callers n) (r.beyond n) (λ not. r.fresh n (ap (λ (z : ℕ × ℕ). z.1) (q.spares n above (lt_of_not-le not)))),
        λ n l. let c = r.covers n (subst (λ (m : ℕ). n < m) q.bound l) in dite (ℕ_discrete c.0 id)
            (λ e. subst (λ (y : V). HasNumber y n) (some-injective c.1 v (sym c.2 ∙ ap (λ (k : ℕ). get_elem? s.views k) e ∙ at)) c.4)
            (λ ne. absurd (alone s.views id c.0 v c.1 at c.2 ne whole c.3)),
      ))
      (λ (o : (i : ℕ) × (x : V) × (t : ℕ) × (get_elem? s.views i ≡ some x) × (x.stage ≡ Serves t)). dite (ℕ_discrete o.0 id)
      (λ e. let is : o.1 ≡ v = some-injective o.1 v (sym o.3 ∙ ap (λ (k : ℕ). get_elem? s.views k) e ∙ at) in absurd (not_serving history start_of owner callers start o.2 (sym idle ∙ ap (λ (y : V). y.stage) (sym is) ∙ o.4)))
      (λ ne. absurd (alone s.views id o.0 v o.1 at o.3 ne whole (ap is_live o.4))))
      r.slot

  abbrev pub Whole : S → V → Type 0
  Whole b v = (history b ≡ v.seen) × (v.start ≡ Some (start_of b)) × (own_entries owner v.seen v.number ≡ v.mine)
      × ((k : ℕ) (x : Ended E) → get_elem? v.ended k ≡ some x → own_entries owner v.seen x.number ≡ x.mine) × ((n : ℕ) → v.next ≤ n → own_entries owner v.seen n ≡ []) × ((n : ℕ) → n < v.callers → HasNumber v n)

  pub closes_whole : (id : ℕ) (v : V) → v.stage ≡ Idle → v.heard ≡ [] → HasAllNumbers v → (ws : List ℕ) (xs : List S) → Final (Seen Rule id v) ws xs → (b : S) → get_elem? xs 0 ≡ some b → Whole b v
  closes_whole id v idle quiet all ws xs last b at = let s = last.0 in let w = ends_whole id v idle quiet all s last.1 in
      subst (λ (x : S). Whole x v) (some-injective w.0 b (sym (last.4 0 w.0 w.1) ∙ at)) (w.2, w.3, w.4, w.5, w.6, w.7)
