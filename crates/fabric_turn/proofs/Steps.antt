-- Draw, look and pass keep the rule.
use Rattle.std.proofs.Common.{◌≡◌, ◌⊎◌, ◌≢◌, ℕ, ◌+◌, ◌-◌, ◌%◌, ◌^◌, ◌<◌, ◌≤◌, true, cond, eqb, List, [], ◌∷◌, ◌++◌, length, get_or, set, sym, refl, ap, ◌∙◌, subst, inl, inr, ⊎_elim, arith, length-set, get_or-set_other, get_or-set_same, eq-eqb, ne_eqb, append-nil, Some}
use mathlib.Core.Logic.{dite}
use mathlib.Core.Option.{Option, none, some, some-injective}
use native.Mathlib.Decide.{ℕ_discrete}
use lib.ListN.{get_elem?}
use lib.Seq.{set-get_or}
use Rattle.atomic_table.specs.Table.{State, Me, step, keeps, takes, gives, stepped, Allows}
use Rattle.atomic_table.proofs.Lists.{set_again, set_here, set_else, one_turn}
use Rattle.fabric_turn.specs.History.{own_entries, AppendsAtMostOne}
use Rattle.fabric_turn.specs.Rule.{total_by, is_live, tickets_at, numbers_at, tickets_of, numbers_of, HasNumber, acting, spare, over, HoldsTicket, HasPlaces, HasSeen, IsSeated, IsKept}
use Rattle.fabric_turn.specs.Plays.{waiting_view, serving_view, resting_view, Draws, GainsTurn, Looks, PassesTurn}
use Rattle.fabric_turn.specs.declared.view.View.{View}
use Rattle.fabric_turn.specs.declared.view.Ended.{Ended}
use Rattle.fabric_turn.specs.declared.view.Stage.{Stage}
use Rattle.fabric_turn.specs.declared.view.Stage.TheVariants.{Spent, Idle, Waits, Serves}
use Rattle.fabric_turn.proofs.Facts.{total_by-set, total_by-le, set_put, seats_stay, out_le, others_own, none_of_rest, prefix_stays}

module _ {S E D : Type 0} (history : S → List E) (start_of : S → D) (owner : E → ℕ) (callers : ℕ) (start : D) where
  abbrev pub V : Type 0
  V = View E D

  abbrev St : Type 0
  St = State S V

  abbrev M : Type 0
  M = Me S V

  abbrev Rule : St → Type 0
  Rule = IsKept history start_of owner callers start

  abbrev SitsAt : List E → (ℕ → ℕ × ℕ) → ℕ → V → Type 0
  SitsAt log place i v = is_live v.stage ≡ true → IsSeated history start_of owner callers start log place i v

  -- fewer tickets are out than there are callers
  few_out : (s : St) (r : Rule s) → r.drawn ≤ r.served + callers
  few_out s r = let n = total_by-le tickets_of numbers_of (λ v. out_le v.stage (1 + (v.callers - v.next) + length v.ended) (omega arith)) s.views in let a = r.counted in let b = r.numbered in omega arith

  -- the same seat in another stage, and with another history seen
  seated : (log : List E) (place : ℕ → ℕ × ℕ) (i : ℕ) (v : V) (st : Stage) → IsSeated history start_of owner callers start log place i v → IsSeated history start_of owner callers start log place i (record v { stage = st })
  seated log place i v st q = record { begun = q.begun; bound = q.bound; below = q.below; made = q.made; places = q.places; sight = q.sight }

  abbrev pub Latest : List E → List V → Type 0
  Latest log vs = (i : ℕ) × (v : V) × (get_elem? vs i ≡ some v) × (is_live v.stage ≡ true) × ((v.seen ≡ log) ⊎ (v.heard ≡ log))

  pub latest_stays : (log : List E) (vs : List V) (id : ℕ) (v w : V) → get_elem? vs id ≡ some v → w.seen ≡ v.seen → w.heard ≡ v.heard → is_live w.stage ≡ true → Latest log vs → Latest log (set vs id w)
  latest_stays log vs id v w at same same' alive l = let i = l.0 in let x = l.1 in dite (ℕ_discrete i id)
      (λ e. let is : x ≡ v = some-injective x v (sym l.2 ∙ ap (λ (k : ℕ). get_elem? vs k) e ∙ at) in (id, w, set_put vs id v w at, alive, ⊎_elim (λ a. inl (same ∙ ap (λ (y : V). y.seen) (sym is) ∙ a)) (λ a. inr (same' ∙ ap (λ (y : V). y.heard) (sym is) ∙ a)) l.4))
      (λ ne. (i, x, set_else vs id i w ne ∙ l.2, l.3, l.4))

  abbrev pub Covered : List V → ℕ → Type 0
  Covered vs n = (i : ℕ) × (v : V) × (get_elem? vs i ≡ some v) × (is_live v.stage ≡ true) × HasNumber v n

  pub covered_stays : (vs : List V) (id : ℕ) (v w : V) (n : ℕ) → get_elem? vs id ≡ some v → is_live w.stage ≡ true → (HasNumber v n → HasNumber w n) → Covered vs n → Covered (set vs id w) n
  covered_stays vs id v w n at alive has c = let i = c.0 in let x = c.1 in dite (ℕ_discrete i id)
      (λ e. let is : x ≡ v = some-injective x v (sym c.2 ∙ ap (λ (k : ℕ). get_elem? vs k) e ∙ at) in (id, w, set_put vs id v w at, alive, has (subst (λ (y : V). HasNumber y n) is c.4)))
      (λ ne. (i, x, set_else vs id i w ne ∙ c.2, c.3, c.4))

  abbrev pub Out : List V → Type 0
  Out vs = (i : ℕ) × (v : V) × (t : ℕ) × (get_elem? vs i ≡ some v) × (v.stage ≡ Serves t)

  pub out_stays : (vs : List V) (id : ℕ) (v w : V) → get_elem? vs id ≡ some v → ((t : ℕ) → ¬ (v.stage ≡ Serves t)) → Out vs → Out (set vs id w)
  out_stays vs id v w at never o = let i = o.0 in let x = o.1 in dite (ℕ_discrete i id)
      (λ e. let is : x ≡ v = some-injective x v (sym o.3 ∙ ap (λ (k : ℕ). get_elem? vs k) e ∙ at) in absurd (never o.2 (ap (λ (y : V). y.stage) (sym is) ∙ o.4)))
      (λ ne. (i, x, o.2, set_else vs id i w ne ∙ o.3, o.4))

  -- the rule, where words stay and homes and views are others
  pub rule_with : (s : St) (r : Rule s) (homes : List (Option S)) (views : List V) (place : ℕ → ℕ × ℕ) → total_by tickets_of views + r.served ≡ r.drawn → total_by numbers_of views ≡ callers
      → ((n : ℕ) → (place n).1 ≡ spare → own_entries owner r.log n ≡ [])
      → ((i : ℕ) (v : V) → get_elem? views i ≡ some v → SitsAt r.log place i v)
      → ((i : ℕ) (v : V) → get_elem? views i ≡ some v → HoldsTicket r.drawn r.served r.log r.holder i v.seen v.stage)
      → ((n : ℕ) → n < callers → Covered views n) → Latest r.log views
      → ((b : S) × (get_elem? homes 0 ≡ some (some b)) × (history b ≡ r.log) × (start_of b ≡ start)) ⊎ Out views → Rule (record { words = s.words; homes = homes; views = views })
  rule_with s r homes views place counted numbered fresh seated ticketed covers latest slot = record {
    drawn = r.drawn;
    served = r.served;
    log = r.log;
    holder = r.holder;
    place = place;
    two = r.two;
    tickets = r.tickets;
    serving = r.serving;
    few = r.few;
    counted = counted;
    numbered = numbered;
    fresh = fresh;
    beyond = r.beyond;
    seated = seated;
    ticketed = ticketed;
    covers = covers;
    latest = latest;
    slot = slot;
  }

  pub not_serving : (t : ℕ) → ¬ (let x : Stage = Idle in x ≡ Serves t)
  not_serving t e = cc

  waits_not : (t u : ℕ) → ¬ (Waits t ≡ Serves u)
  waits_not t u e = cc

  same_ticket : (t u : ℕ) → Waits t ≡ Waits u → t ≡ u
  same_ticket t u e = cc

  some_inj : {a b : D} → Some a ≡ Some b → a ≡ b
  some_inj e = cc

  same_book : (b b' : S) → ◌≡◌ {A = List (ℕ × S)} ((0, b) ∷ []) ((0, b') ∷ []) → b ≡ b'
  same_book b b' e = ap (λ (l : List (ℕ × S)). (get_or l 0 (0, b)).1) e

  drawn_more : (holder holder' : ℕ → ℕ) (d served : ℕ) (log : List E) (j : ℕ) (seen : List E) → ((t : ℕ) → t < d → holder' t ≡ holder t) → (st : Stage)
      → HoldsTicket d served log holder j seen st → HoldsTicket (d + 1) served log holder' j seen st
  drawn_more h h' d served log j seen same Spent r = tt
  drawn_more h h' d served log j seen same Idle r = tt
  drawn_more h h' d served log j seen same (Waits t) r = let below = r.1 in (r.0, omega arith, same t r.1 ∙ r.2)
  drawn_more h h' d served log j seen same (Serves t) r = let below = r.1 in (r.0, omega arith, same t r.1 ∙ r.2, r.3)

  pub draws_keep : (slots id : ℕ) (me : M) → me.0.stage ≡ Idle → Allows Rule slots id me 0 (λ n. (n + 1) % 2 ^ 64) (Draws (step slots 0 1 0 none) me)
  draws_keep slots id me idle s r _ at small = let v = me.0 in let w : V = waiting_view r.drawn v in let d = r.drawn in let x : ℕ = get_or s.words 0 0 in let two = r.two in let word = r.tickets in
      let alive : is_live v.stage ≡ true = ap is_live idle in let none_out : tickets_of v ≡ 0 = ap tickets_at idle in
      let holder : ℕ → ℕ = λ t. cond (eqb t d) id (r.holder t) in
      let elsewhere : (t : ℕ) → t < d → holder t ≡ r.holder t = λ t l. ap (λ b. cond b id (r.holder t)) (ne_eqb t d (λ e. omega arith)) in
      let sums = total_by-set tickets_of s.views id v w at in let sizes = total_by-set numbers_of s.views id v w at in let total_size = r.numbered in let total_out = r.counted in
      let same_size : numbers_of v ≡ numbers_of w = ap (λ st. numbers_at st (1 + (v.callers - v.next) + length v.ended)) idle in
      let order : r.served ≤ d = omega arith in (
        w,
        keeps,
        tt,
        record {
          drawn = d + 1;
          served = r.served;
          log = r.log;
          holder = holder;
          place = r.place;
          two = length-set s.words 0 ((x + 1) % 2 ^ 64) ∙ two;
          tickets = get_or-set_same s.words 0 ((x + 1) % 2 ^ 64) 0 (omega arith) ∙ (let e : (x + 1) % 18446744073709551616 ≡ (d + 1) % 18446744073709551616 = omega arith in e);
          serving = get_or-set_other s.words 0 1 ((x + 1) % 2 ^ 64) 0 (λ e. omega arith) ∙ r.serving;
          few = r.few;
          counted = omega arith;
          numbered = omega arith;
          fresh = r.fresh;
          beyond = r.beyond;
          seated = seats_stay (SitsAt r.log r.place) s.views id w (λ _. seated r.log r.place id v (Waits d) (r.seated id v at alive)) (λ j y _. r.seated j y);
          ticketed = seats_stay (λ j y. HoldsTicket (d + 1) r.served r.log holder j y.seen y.stage) s.views id w (order, omega arith, ap (λ b. cond b id (r.holder d)) (eq-eqb d d refl))
              (λ j y _ here. drawn_more r.holder holder d r.served r.log j y.seen elsewhere y.stage (r.ticketed j y here));
          covers = λ n l. covered_stays s.views id v w n at refl (λ h. h) (r.covers n l);
          latest = latest_stays r.log s.views id v w at refl refl refl r.latest;
          slot = ⊎_elim inl (λ o. inr (out_stays s.views id v w at (λ t e. not_serving t (sym idle ∙ e)) o)) r.slot;
        },
        (d, r.tickets, refl),
      )

  rides_at : (s : St) (r : Rule s) (id : ℕ) (v : V) (st : Stage) → get_elem? s.views id ≡ some v → v.stage ≡ st → HoldsTicket r.drawn r.served r.log r.holder id v.seen st
  rides_at s r id v st at is = subst (HoldsTicket r.drawn r.served r.log r.holder id v.seen) is (r.ticketed id v at)

  -- the view that has the turn has the ticket that is served
  server : (s : St) (r : Rule s) (id : ℕ) (v : V) (t : ℕ) → get_elem? s.views id ≡ some v → v.stage ≡ Waits t → t ≡ r.served → ¬ Out s.views
  server s r id v t at is now o = let x = o.1 in let a = rides_at s r id v (Waits t) at is in let b = rides_at s r o.0 x (Serves o.2) o.3 o.4 in
      let same : o.0 ≡ id = sym b.2 ∙ ap r.holder (b.0 ∙ sym now) ∙ a.2 in let e : x ≡ v = some-injective x v (sym o.3 ∙ ap (λ (k : ℕ). get_elem? s.views k) same ∙ at) in
      waits_not t o.2 (sym is ∙ ap (λ (y : V). y.stage) (sym e) ∙ o.4)

  -- at the turn: the view takes the value out
  looks_in : (slots id : ℕ) (v : V) (c : List (ℕ × S)) (t : ℕ) (s : St) (r : Rule s) → get_elem? s.views id ≡ some v → v.stage ≡ Waits t → t ≡ r.served
      → (b : S) → get_elem? s.homes 0 ≡ some (some b) → history b ≡ r.log → start_of b ≡ start
      → Rule (stepped s 1 (get_or s.words 1 0) id c (serving_view t (history b) v) (takes 0 b)) × GainsTurn history start_of owner t (v, c) (serving_view t (history b) v, (0, b) ∷ c)
  looks_in slots id v c t s r at is now b home whole begun = let w : V = serving_view t (history b) v in let alive : is_live v.stage ≡ true = ap is_live is in let q = r.seated id v at alive in
      let ride = rides_at s r id v (Waits t) at is in let sums = total_by-set tickets_of s.views id v w at in let sizes = total_by-set numbers_of s.views id v w at in let total_size = r.numbered in let total_out = r.counted in
      let one_out : tickets_of v ≡ 1 = ap tickets_at is in let same_size : numbers_of v ≡ numbers_of w = ap (λ st. numbers_at st (1 + (v.callers - v.next) + length v.ended)) is in
      let prefix : v.seen ++ q.rest ≡ history b = q.prefix ∙ sym whole in
      let sees : HasSeen history start_of owner callers start r.log (history b) v.heard v.number v.mine
      = record { saw = ap (λ h. own_entries owner h v.number) whole ∙ q.made; rest = []; prefix = append-nil (history b) ∙ whole; heard_rest = q.heard_rest; heard_prefix = q.heard_prefix } in (
        subst (λ (ws : List ℕ). Rule record { words = ws; homes = set s.homes 0 none; views = set s.views id w }) (sym (set-get_or s.words 1 0))
            (rule_with s r (set s.homes 0 none) (set s.views id w) r.place (omega arith) (omega arith) r.fresh
            (seats_stay (SitsAt r.log r.place) s.views id w (λ _. record { begun = q.begun; bound = q.bound; below = q.below; made = q.made; places = q.places; sight = sees }) (λ j y _. r.seated j y))
            (seats_stay (λ j y. HoldsTicket r.drawn r.served r.log r.holder j y.seen y.stage) s.views id w (now, ride.1, ride.2, whole) (λ j y _. r.ticketed j y))
            (λ n l. covered_stays s.views id v w n at refl (λ h. h) (r.covers n l))
            (id, w, set_put s.views id v w at, refl, inl whole)
            (inr (id, w, t, set_put s.views id v w at, refl))),
        (b, q.rest, refl, sym prefix, none_of_rest owner v.seen q.rest r.log v.mine v.number q.prefix q.made q.saw, q.begun ∙ ap Some (sym begun), q.saw),
      )

  pub looks_keep : (slots id : ℕ) (me : M) (t : ℕ) → me.0.stage ≡ Waits t → Allows Rule slots id me 1 (λ n. n) (Looks history start_of owner (step slots 1 0 0 none) me)
  looks_keep slots id me t is s r _ at small = let v = me.0 in let x : ℕ = get_or s.words 1 0 in let ride = rides_at s r id v (Waits t) at is in let few = r.few in let room = few_out s r in let word = r.serving in
      let above : r.served ≤ t = ride.0 in let below : t < r.drawn = ride.1 in
      dite (ℕ_discrete t r.served)
      (λ now. let hit : (u : ℕ) → v.stage ≡ Waits u → x ≡ u % 2 ^ 64 = λ u e. word ∙ ap (λ (n : ℕ). n % 2 ^ 64) (sym now ∙ same_ticket t u (sym is ∙ e)) in
      ⊎_elim
      (λ (h : (b : S) × (get_elem? s.homes 0 ≡ some (some b)) × (history b ≡ r.log) × (start_of b ≡ start)). let b = h.0 in let done = looks_in slots id v me.1 t s r at is now b h.1 h.2 h.3 in (
        serving_view t (history b) v,
        takes 0 b,
        h.1,
        done.0,
        λ u e. ((λ _. subst (λ (n : ℕ). GainsTurn history start_of owner n me (serving_view t (history b) v, (0, b) ∷ me.1)) (same_ticket t u (sym is ∙ e)) done.1), λ miss. absurd (miss (hit u e))),
      ))
      (λ (o : Out s.views). absurd (server s r id v t at is now o))
      r.slot)
      (λ later. (
        v,
        keeps,
        tt,
        subst Rule (λ i. record { words = sym (set-get_or s.words 1 0) i; homes = s.homes; views = sym (set_again s.views id v at) i }) r,
        λ u e. (
          (λ hit. let k : r.served % 18446744073709551616 ≡ t % 18446744073709551616 = sym word ∙ hit ∙ ap (λ (n : ℕ). n % 2 ^ 64) (sym (same_ticket t u (sym is ∙ e))) in
              absurd (later (sym (one_turn r.served t 18446744073709551616 above (omega arith) k)))),
          λ _. refl,
        ),
      ))

  -- the places of a seat stay, where no ended caller of it has the entry that comes
  ends_stay : (before after : List E) (place : ℕ → ℕ × ℕ) (i c : ℕ) (v : V) → HasPlaces history start_of owner callers start before place i v.number v.next v.ended → AppendsAtMostOne owner c before after
      → ((x : Ended E) → place x.number ≡ (i, over) → x.number ≢ c) → HasPlaces history start_of owner callers start after place i v.number v.next v.ended
  ends_stay before after place i c v q grows other = record {
    limit = q.limit;
    acts = q.acts;
    spares = q.spares;
    ends = λ k x here. let f = q.ends k x here in (f.0, others_own owner c x.number before after grows (other x f.0) ∙ f.1);
  }

  -- what the other seats know stays so where one entry of another caller comes
  others_sit : (before after : List E) (place : ℕ → ℕ × ℕ) (c id j : ℕ) (y : V) → place c ≡ (id, acting) → j ≢ id → AppendsAtMostOne owner c before after → SitsAt before place j y → SitsAt after place j y
  others_sit before after place c id j y mine apart grows sits alive = let q = sits alive in
      let other : y.number ≢ c = λ e. apart (ap (λ (p : ℕ × ℕ). p.0) (sym q.acts ∙ ap place e ∙ mine)) in let l = prefix_stays owner c y.seen q.rest before after grows q.prefix in let l2 = prefix_stays owner c y.heard q.heard_rest before after grows q.heard_prefix in record {
        begun = q.begun;
        bound = q.bound;
        below = q.below;
        made = others_own owner c y.number before after grows other ∙ q.made;
        places = ends_stay before after place j c y q.places grows (λ x f e. apart (ap (λ (p : ℕ × ℕ). p.0) (sym f ∙ ap place e ∙ mine)));
        sight = record { saw = q.saw; rest = l.0; prefix = l.1; heard_rest = l2.0; heard_prefix = l2.1 };
      }

  others_ride : (drawn served : ℕ) (before after : List E) (holder : ℕ → ℕ) (id j : ℕ) (seen : List E) → holder served ≡ id → j ≢ id → (st : Stage) → HoldsTicket drawn served before holder j seen st
      → HoldsTicket drawn (served + 1) after holder j seen st
  others_ride d served before after holder id j seen held apart Spent r = tt
  others_ride d served before after holder id j seen held apart Idle r = tt
  others_ride d served before after holder id j seen held apart (Waits t) r = let ne : t ≢ served = λ e. apart (sym r.2 ∙ ap holder e ∙ held) in let le : served ≤ t = r.0 in (omega arith, r.1, r.2)
  others_ride d served before after holder id j seen held apart (Serves t) r = absurd (apart (sym r.2 ∙ ap holder r.0 ∙ held))

  passes_on : (slots id : ℕ) (v : V) (t : ℕ) (b : S) → 0 < slots → v.stage ≡ Serves t → AppendsAtMostOne owner v.number v.seen (history b) → v.start ≡ Some (start_of b)
      → Allows Rule slots id (v, (0, b) ∷ []) 1 (λ n. (n + 1) % 2 ^ 64) (λ _ m. m ≡ (resting_view (history b) (own_entries owner (history b) v.number) v, []))
  passes_on slots id v t b room is grown begun s r size_is at small = let h = history b in let w : V = resting_view h (own_entries owner h v.number) v in let x : ℕ = get_or s.words 1 0 in let two = r.two in let word = r.serving in
      let alive : is_live v.stage ≡ true = ap is_live is in let q = r.seated id v at alive in let ride = rides_at s r id v (Serves t) at is in let c = v.number in
      let grows : AppendsAtMostOne owner c r.log h = subst (λ l. AppendsAtMostOne owner c l h) ride.3 grown in
      let sums = total_by-set tickets_of s.views id v w at in let sizes = total_by-set numbers_of s.views id v w at in let total_size = r.numbered in let total_out = r.counted in
      let one_out : tickets_of v ≡ 1 = ap tickets_at is in let same_size : numbers_of v ≡ numbers_of w = ap (λ st. numbers_at st (1 + (v.callers - v.next) + length v.ended)) is in
      let told = prefix_stays owner c v.heard q.heard_rest r.log h grows q.heard_prefix in let held : r.holder r.served ≡ id = ap r.holder (sym ride.0) ∙ ride.2 in (
        w,
        gives,
        tt,
        record {
          drawn = r.drawn;
          served = r.served + 1;
          log = h;
          holder = r.holder;
          place = r.place;
          two = length-set s.words 1 ((x + 1) % 2 ^ 64) ∙ two;
          tickets = get_or-set_other s.words 1 0 ((x + 1) % 2 ^ 64) 0 (λ e. omega arith) ∙ r.tickets;
          serving = get_or-set_same s.words 1 ((x + 1) % 2 ^ 64) 0 (omega arith) ∙ (let e : (x + 1) % 18446744073709551616 ≡ (r.served + 1) % 18446744073709551616 = omega arith in e);
          few = r.few;
          counted = omega arith;
          numbered = omega arith;
          fresh = λ n kind. others_own owner c n r.log h grows (λ e. let z : spare ≡ acting = sym kind ∙ ap (λ k. (r.place k).1) e ∙ ap (λ (p : ℕ × ℕ). p.1) q.acts in absurd (omega arith)) ∙ r.fresh n kind;
          beyond = λ n far. let b = q.below in others_own owner c n r.log h grows (λ e. omega arith) ∙ r.beyond n far;
          seated = seats_stay (SitsAt h r.place) s.views id w (λ _. record {
            begun = q.begun;
            bound = q.bound;
            below = q.below;
            made = refl;
            places = ends_stay r.log h r.place id c v q.places grows (λ y f e. let z : over ≡ acting = sym (ap (λ (p : ℕ × ℕ). p.1) f) ∙ ap (λ n. (r.place n).1) e ∙ ap (λ (p : ℕ × ℕ). p.1) q.acts in absurd (omega arith));
            sight = record { saw = refl; rest = []; prefix = append-nil h; heard_rest = told.0; heard_prefix = told.1 };
          }) (λ j y apart here. others_sit r.log h r.place c id j y q.acts apart grows (r.seated j y here));
          ticketed = seats_stay (λ j y. HoldsTicket r.drawn (r.served + 1) h r.holder j y.seen y.stage) s.views id w tt (λ j y apart here. others_ride r.drawn r.served r.log h r.holder id j y.seen held apart y.stage (r.ticketed j y here));
          covers = λ n l. covered_stays s.views id v w n at refl (λ h. h) (r.covers n l);
          latest = (id, w, set_put s.views id v w at, refl, inl refl);
          slot = inl (b, set_here s.homes 0 (some b) (omega arith), refl, some_inj (sym begun ∙ q.begun));
        },
        refl,
      )

  pub passes_keep : (slots id : ℕ) (me : M) (t : ℕ) (b : S) → 0 < slots → me.1 ≡ (0, b) ∷ [] → me.0.stage ≡ Serves t → AppendsAtMostOne owner me.0.number me.0.seen (history b) → me.0.start ≡ Some (start_of b)
      → Allows Rule slots id me 1 (λ n. (n + 1) % 2 ^ 64) (PassesTurn history owner (step slots 1 1 0 none) me)
  passes_keep slots id me t b room holds is grown begun s r size_is at small =
      subst (λ (c : List (ℕ × S)). (w : V) × (a : Rattle.atomic_table.specs.Table.Act S) × Rattle.atomic_table.specs.Table.Valid s.homes c a × Rule (stepped s 1 ((get_or s.words 1 0 + 1) % 2 ^ 64) id c w a)
      × PassesTurn history owner (step slots 1 1 0 none) (me.0, c) (get_or s.words 1 0) (w, Rattle.atomic_table.specs.Table.carried_after c a)) (sym holds)
      (let p = passes_on slots id me.0 t b room is grown begun s r size_is at small in
      (p.0, p.1, p.2, p.3, λ b' e. p.4 ∙ ap (λ (y : S). (resting_view (history y) (own_entries owner (history y) me.0.number) me.0, let z : List (ℕ × S) = [] in z)) (same_book b b' e)))
