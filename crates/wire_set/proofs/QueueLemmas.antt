use Rattle.std.proofs.Common.{◌≡◌, ◌≢◌, ◌∙◌, sym, ap, subst, refl, ℕ, zero, suc, ◌+◌, ◌-◌, ◌<◌, ◌≤◌, List, [], ◌++◌, length, map, take, drop, arith, slice_index_or, slice_set, Option, Some, None, ◌⊎◌, inl, inr}
use Rattle.std.proofs.lemmas.Bool.{cases_eq, cases_lt}
use Rattle.std.proofs.lemmas.List.{ext_get_or, get_or-set_other, get_or-set_same, get_or_default, get_or_past, get_or-take, get_or-drop, get_or_append_left, get_or-append_right, length-set, length-map, length-append, length-take, length-drop}
use Rattle.std.proofs.Math.ListN.{get_or-map}
use Rattle.std.proofs.lemmas.List.FromFn.{length-map-range_with_len, get_or-map-range_with_len, fill_by_all}
use Rattle.frame_region.specs.Blocks.{after, block}
use Rattle.frame_region.proofs.ChainLemmas.{block_kept}
use Rattle.wire_set.specs.declared.queue.Queue.{Queue}
use Rattle.wire_set.specs.Queues.{QueuesOf, queue_at, slot, IsApart, with_queue, empty, walk, queue_of, item, shown, IsLinked}

-- what is shown of a queue is its walk
pub shown_at : (next : List ℕ) (queues : List Queue) (limit a : ℕ) → queue_at (shown next queues limit) a ≡ walk next (queue_of queues a)
shown_at next queues limit a = get_or-map (walk next) queues a empty

pub walk_length : (next : List ℕ) (q : Queue) → length (walk next q) ≡ q.count
walk_length next q = length-map-range_with_len (λ k. block next q.first k) 0 q.count

pub walk_at : (next : List ℕ) (q : Queue) (k : ℕ) → k < q.count → slice_index_or (walk next q) k 0 ≡ block next q.first k
walk_at next q k below = get_or-map-range_with_len (λ j. block next q.first j) 0 q.count k k 0 below (omega arith)

-- a value of queues, in the places
pub record IsSeen (v : QueuesOf) (next : List ℕ) (queues : List Queue) (limit : ℕ) : Type 0 where
  pub list : (a : ℕ) → queue_at v a ≡ walk next (queue_of queues a)
  pub len : (a : ℕ) → length (queue_at v a) ≡ (queue_of queues a).count
  pub at : (a k : ℕ) → k < (queue_of queues a).count → slot v a k ≡ item next queues a k
  pub queues_len : length v.queues ≡ length queues
  pub places : v.places ≡ limit

seen_shown : (next : List ℕ) (queues : List Queue) (limit : ℕ) → IsSeen (shown next queues limit) next queues limit
seen_shown next queues limit = record {
  list = shown_at next queues limit;
  len = λ a. ap length (shown_at next queues limit a) ∙ walk_length next (queue_of queues a);
  at = λ a k below. ap (λ (l : List ℕ). slice_index_or l k 0) (shown_at next queues limit a) ∙ walk_at next (queue_of queues a) k below;
  queues_len = length-map queues (walk next);
  places = refl;
}

pub seen : {limit : ℕ} (v : QueuesOf) (next : List ℕ) (queues : List Queue) → shown next queues limit ≡ v → IsSeen v next queues limit
seen {limit} v next queues view = subst (λ (w : QueuesOf). IsSeen w next queues limit) view (seen_shown next queues limit)

pub seen_apart : {limit : ℕ} (v : QueuesOf) (slips : List (Option ℕ)) (next : List ℕ) (queues : List Queue) → IsLinked slips next queues limit → IsSeen v next queues limit → IsApart v
seen_apart v slips next queues linked s a b i j below_i below_j same =
    let few_i : i < (queue_of queues a).count = omega (arith, below_i, s.len a) in
    let few_j : j < (queue_of queues b).count = omega (arith, below_j, s.len b) in
    linked.apart a b i j few_i few_j (sym (s.at a i few_i) ∙ same ∙ s.at b j few_j)

-- the queues after one of them is set
pub set_queue : (queues : List Queue) (q : ℕ) (r : Queue) → q < length queues → queue_of (slice_set queues q r) q ≡ r
set_queue queues q r below = get_or-set_same queues q r empty below

pub set_others : (queues : List Queue) (q a : ℕ) (r : Queue) → a ≢ q → queue_of (slice_set queues q r) a ≡ queue_of queues a
set_others queues q a r other = get_or-set_other queues q a r empty other

-- What is shown after one queue changed: the others go as before, and that one is another list
pub shown_set : {limit : ℕ} (v : QueuesOf) (next follow : List ℕ) (queues : List Queue) (q : ℕ) (r : Queue) (slips : List ℕ) → IsSeen v next queues limit → q < length queues
    → walk follow r ≡ slips
    → ((a k : ℕ) → a ≢ q → k < (queue_of queues a).count → item follow queues a k ≡ item next queues a k)
    → shown follow (slice_set queues q r) limit ≡ with_queue q slips v
shown_set {limit} v next follow queues q r slips s below here others =
    ap (λ (l : List (List ℕ)). let w : QueuesOf = record { queues = l; places = limit } in w) lists
    ∙ ap (λ (n : ℕ). let w : QueuesOf = record { queues = slice_set v.queues q slips; places = n } in w) (sym s.places)
  where
    lists : map (walk follow) (slice_set queues q r) ≡ slice_set v.queues q slips
    lists =
        ext_get_or [] (map (walk follow) (slice_set queues q r)) (slice_set v.queues q slips)
        (length-map (slice_set queues q r) (walk follow) ∙ length-set queues q r ∙ sym s.queues_len ∙ sym (length-set v.queues q slips))
        (λ a within. get_or-map (walk follow) (slice_set queues q r) a empty ∙ by a (cases_eq a q))
      where
        by : (a : ℕ) → (a ≡ q) ⊎ (a ≡ q → ⊥) → walk follow (queue_of (slice_set queues q r) a) ≡ slice_index_or (slice_set v.queues q slips) a []
        by a (inl same) =
            ap (λ b. walk follow (queue_of (slice_set queues q r) b)) same
            ∙ ap (walk follow) (set_queue queues q r below)
            ∙ here
            ∙ sym (get_or-set_same v.queues q slips [] (omega (arith, below, s.queues_len)))
            ∙ ap (λ b. slice_index_or (slice_set v.queues q slips) b []) (sym same)
        by a (inr other) =
            ap (walk follow) (set_others queues q a r other)
            ∙ sym (fill_by_all (λ k. block follow (queue_of queues a).first k) (walk next (queue_of queues a)) (queue_of queues a).count 0 (walk_length next (queue_of queues a)) (λ k few. walk_at next (queue_of queues a) k few ∙ sym (others a k other few)))
            ∙ sym (s.list a)
            ∙ sym (get_or-set_other v.queues q a slips [] other)

-- One queue lost the slip at one place: those that it kept stand in it by a shift, and the others stay
pub record Narrows (next follow : List ℕ) (queues : List Queue) (q : ℕ) (r : Queue) (shift : ℕ → ℕ) (gone : ℕ) : Type 0 where
  pub below : q < length queues
  pub places : length follow ≡ length next
  pub others : (a k : ℕ) → a ≢ q → k < (queue_of queues a).count → item follow queues a k ≡ item next queues a k
  pub fewer : r.count < (queue_of queues q).count
  pub here : (k : ℕ) → k < r.count → block follow r.first k ≡ item next queues q (shift k)
  pub less : (k : ℕ) → k < r.count → shift k < (queue_of queues q).count
  pub inj : (i j : ℕ) → shift i ≡ shift j → i ≡ j
  pub gone_below : gone < (queue_of queues q).count
  pub gone_from : (k : ℕ) → shift k ≡ gone → ⊥
  pub last : 1 ≤ r.count → r.last ≡ block follow r.first (r.count - 1)

-- slip number k of queue a is one that was there
record WasThere (next follow : List ℕ) (queues : List Queue) (q : ℕ) (r : Queue) (shift : ℕ → ℕ) (a k : ℕ) : Type 0 where
  pub cases : ((a ≡ q) × (k < r.count) × (item follow (slice_set queues q r) a k ≡ item next queues q (shift k)))
      ⊎ ((a ≢ q) × (k < (queue_of queues a).count) × (item follow (slice_set queues q r) a k ≡ item next queues a k))

was_there : (next follow : List ℕ) (queues : List Queue) (q : ℕ) (r : Queue) (shift : ℕ → ℕ) (gone a k : ℕ) → Narrows next follow queues q r shift gone → k < (queue_of (slice_set queues q r) a).count
    → WasThere next follow queues q r shift a k
was_there next follow queues q r shift gone a k n few = by (cases_eq a q)
  where
    by : (a ≡ q) ⊎ (a ≡ q → ⊥) → WasThere next follow queues q r shift a k
    by (inl same) =
        let rec_is : queue_of (slice_set queues q r) a ≡ r = ap (queue_of (slice_set queues q r)) same ∙ set_queue queues q r n.below in
        let few' : k < r.count = omega (arith, few, ap (λ (x : Queue). x.count) rec_is) in
        record { cases = inl (same, few', ap (λ (x : Queue). block follow x.first k) rec_is ∙ n.here k few') }
    by (inr other) =
        let rec_is : queue_of (slice_set queues q r) a ≡ queue_of queues a = set_others queues q a r other in
        let few' : k < (queue_of queues a).count = omega (arith, few, ap (λ (x : Queue). x.count) rec_is) in
        record { cases = inr (other, few', ap (λ (x : Queue). block follow x.first k) rec_is ∙ n.others a k other few') }

pub narrow_linked : {limit : ℕ} (slips : List (Option ℕ)) (next follow : List ℕ) (queues : List Queue) (q : ℕ) (r : Queue) (shift : ℕ → ℕ) (gone x : ℕ) → IsLinked slips next queues limit → Narrows next follow queues q r shift gone → x ≡ item next queues q gone
    → IsLinked (slice_set slips x None) follow (slice_set queues q r) limit
narrow_linked {limit} slips next follow queues q r shift gone x linked n x_is =
    record {
      size = length-set slips x None ∙ linked.size ∙ sym n.places;
      reached = omega (arith, linked.reached, n.places);
      most = linked.most;
      few = λ a. few_by a (cases_eq a q);
      within = λ a k few. within_by a k (was_there next follow queues q r shift gone a k n few).cases;
      apart = λ a b i j few_i few_j same. apart_by a b i j same (was_there next follow queues q r shift gone a i n few_i).cases (was_there next follow queues q r shift gone b j n few_j).cases;
      there = λ a k few. there_by a k (was_there next follow queues q r shift gone a k n few).cases;
      last = λ a some. last_by a some (cases_eq a q);
    }
  where
    queues' : List Queue
    queues' = slice_set queues q r

    few_by : (a : ℕ) → (a ≡ q) ⊎ (a ≡ q → ⊥) → (queue_of queues' a).count ≤ limit
    few_by a (inl same) = omega (arith, ap (λ (b : ℕ). (queue_of queues' b).count) same, ap (λ (y : Queue). y.count) (set_queue queues q r n.below), n.fewer, linked.few q)
    few_by a (inr other) = omega (arith, ap (λ (y : Queue). y.count) (set_others queues q a r other), linked.few a)

    within_by : (a k : ℕ) → ((a ≡ q) × (k < r.count) × (item follow queues' a k ≡ item next queues q (shift k))) ⊎ ((a ≢ q) × (k < (queue_of queues a).count) × (item follow queues' a k ≡ item next queues a k)) → item follow queues' a k < length follow
    within_by a k (inl at) = omega (arith, at.2, linked.within q (shift k) (n.less k at.1), n.places)
    within_by a k (inr at) = omega (arith, at.2, linked.within a k at.1, n.places)

    apart_by : (a b i j : ℕ) → item follow queues' a i ≡ item follow queues' b j
        → ((a ≡ q) × (i < r.count) × (item follow queues' a i ≡ item next queues q (shift i))) ⊎ ((a ≢ q) × (i < (queue_of queues a).count) × (item follow queues' a i ≡ item next queues a i))
        → ((b ≡ q) × (j < r.count) × (item follow queues' b j ≡ item next queues q (shift j))) ⊎ ((b ≢ q) × (j < (queue_of queues b).count) × (item follow queues' b j ≡ item next queues b j)) → (a ≡ b) × (i ≡ j)
    apart_by a b i j same (inl at_a) (inl at_b) = (at_a.0 ∙ sym at_b.0, n.inj i j (linked.apart q q (shift i) (shift j) (n.less i at_a.1) (n.less j at_b.1) (sym at_a.2 ∙ same ∙ at_b.2)).1)
    apart_by a b i j same (inl at_a) (inr at_b) = absurd (at_b.0 (sym (linked.apart q b (shift i) j (n.less i at_a.1) at_b.1 (sym at_a.2 ∙ same ∙ at_b.2)).0))
    apart_by a b i j same (inr at_a) (inl at_b) = absurd (at_a.0 (linked.apart a q i (shift j) at_a.1 (n.less j at_b.1) (sym at_a.2 ∙ same ∙ at_b.2)).0)
    apart_by a b i j same (inr at_a) (inr at_b) = linked.apart a b i j at_a.1 at_b.1 (sym at_a.2 ∙ same ∙ at_b.2)

    there_by : (a k : ℕ) → ((a ≡ q) × (k < r.count) × (item follow queues' a k ≡ item next queues q (shift k))) ⊎ ((a ≢ q) × (k < (queue_of queues a).count) × (item follow queues' a k ≡ item next queues a k))
        → slice_index_or (slice_set slips x None) (item follow queues' a k) None ≡ Some (item follow queues' a k)
    there_by a k (inl at) =
        ap (λ b. slice_index_or (slice_set slips x None) b None) at.2
        ∙ get_or-set_other slips x (item next queues q (shift k)) None None (λ e. n.gone_from k (linked.apart q q (shift k) gone (n.less k at.1) n.gone_below (e ∙ x_is)).1)
        ∙ linked.there q (shift k) (n.less k at.1)
        ∙ ap (λ (b : ℕ). Some b) (sym at.2)
    there_by a k (inr at) =
        ap (λ b. slice_index_or (slice_set slips x None) b None) at.2
        ∙ get_or-set_other slips x (item next queues a k) None None (λ e. at.0 (linked.apart a q k gone at.1 n.gone_below (e ∙ x_is)).0)
        ∙ linked.there a k at.1
        ∙ ap (λ (b : ℕ). Some b) (sym at.2)

    last_by : (a : ℕ) → 1 ≤ (queue_of queues' a).count → (a ≡ q) ⊎ (a ≡ q → ⊥) → (queue_of queues' a).last ≡ item follow queues' a ((queue_of queues' a).count - 1)
    last_by a some (inl same) =
        let rec_is : queue_of queues' a ≡ r = ap (queue_of queues') same ∙ set_queue queues q r n.below in
        ap (λ (y : Queue). y.last) rec_is ∙ n.last (omega (arith, some, ap (λ (y : Queue). y.count) rec_is)) ∙ sym (ap (λ (y : Queue). block follow y.first (y.count - 1)) rec_is)
    last_by a some (inr other) =
        let rec_is : queue_of queues' a ≡ queue_of queues a = set_others queues q a r other in
        let some' : 1 ≤ (queue_of queues a).count = omega (arith, some, ap (λ (y : Queue). y.count) rec_is) in
        ap (λ (y : Queue). y.last) rec_is ∙ linked.last a some' ∙ sym (n.others a ((queue_of queues a).count - 1) other (omega (arith, some'))) ∙ sym (ap (λ (y : Queue). block follow y.first (y.count - 1)) rec_is)

-- what is shown then, where the list that is left is the one of the kept places
pub narrow_shown : {limit : ℕ} (v : QueuesOf) (next follow : List ℕ) (queues : List Queue) (q : ℕ) (r : Queue) (shift : ℕ → ℕ) (gone : ℕ) (rest : List ℕ) → IsSeen v next queues limit → Narrows next follow queues q r shift gone
    → length rest ≡ r.count → ((k : ℕ) → k < r.count → slice_index_or rest k 0 ≡ slot v q (shift k))
    → shown follow (slice_set queues q r) limit ≡ with_queue q rest v
narrow_shown v next follow queues q r shift gone rest s n long kept =
    shown_set v next follow queues q r rest s n.below
    (sym (fill_by_all (λ k. block follow r.first k) rest r.count 0 long (λ k few. kept k few ∙ s.at q (shift k) (n.less k few) ∙ sym (n.here k few))))
    n.others

-- a queue that has a slip is one of them
pub queue_below : (queues : List Queue) (q : ℕ) → 1 ≤ (queue_of queues q).count → q < length queues
queue_below queues q some = by (cases_lt q (length queues))
  where
    by : (q < length queues) ⊎ (length queues ≤ q) → q < length queues
    by (inl below) = below
    by (inr past) = absurd (omega (arith, some, ap (λ (y : Queue). y.count) (get_or_past queues q empty past)))

-- what follows a block that is there, as it was read
pub read_after : (next : List ℕ) (b x c : ℕ) → b < length next → x ≡ slice_index_or next b x → b ≡ c → x ≡ after next c
read_after next b x c below read same = read ∙ get_or_default next b x (b + 1) below ∙ ap (after next) same

-- the first slip is taken
pub pop_narrows : {limit : ℕ} (slips : List (Option ℕ)) (next : List ℕ) (queues : List Queue) (q : ℕ) (r : Queue) → IsLinked slips next queues limit → 1 ≤ (queue_of queues q).count
    → r.first ≡ after next (queue_of queues q).first → r.last ≡ (queue_of queues q).last → r.count + 1 ≡ (queue_of queues q).count
    → Narrows next next queues q r (λ k. suc k) 0
pop_narrows slips next queues q r linked some first last count = record {
  below = queue_below queues q some;
  places = refl;
  others = λ a k other few. refl;
  fewer = omega (arith, count);
  here = λ k few. ap (λ b. block next b k) first;
  less = λ k few. omega (arith, few, count);
  inj = λ i j same. omega (arith, same);
  gone_below = some;
  gone_from = λ k same. omega (arith, same);
  last = λ some_left.
      last ∙ linked.last q some
      ∙ ap (item next queues q) {x = (queue_of queues q).count - 1} {y = suc (r.count - 1)} (omega (arith, count, some_left))
      ∙ ap (λ b. block next b (r.count - 1)) (sym first);
}

pub shift_second : ℕ → ℕ
shift_second zero = 0
shift_second (suc k) = suc (suc k)

pub shift_second_suc : (k : ℕ) → shift_second (suc k) ≡ suc (suc k)
unfolding shift_second
shift_second_suc k = refl

pub shift_second_zero : shift_second 0 ≡ 0
unfolding shift_second
shift_second_zero = refl

shift_second_inj : (i j : ℕ) → shift_second i ≡ shift_second j → i ≡ j
unfolding shift_second
shift_second_inj zero zero same = refl
shift_second_inj zero (suc j) same = omega (arith, same)
shift_second_inj (suc i) zero same = omega (arith, same)
shift_second_inj (suc i) (suc j) same = omega (arith, same)

pub shift_second_gone : (k : ℕ) → shift_second k ≡ 1 → ⊥
unfolding shift_second
shift_second_gone zero same = omega (arith, same)
shift_second_gone (suc k) same = omega (arith, same)

pub shift_second_less : (k n m : ℕ) → k < n → n + 1 ≡ m → 1 ≤ n → shift_second k < m
unfolding shift_second
shift_second_less zero n m few is some = omega (arith, few, is)
shift_second_less (suc k) n m few is some = omega (arith, few, is)

-- the second slip is taken
pub second_narrows : {limit : ℕ} (slips : List (Option ℕ)) (next : List ℕ) (queues : List Queue) (q second third : ℕ) (r : Queue) → IsLinked slips next queues limit → 2 ≤ (queue_of queues q).count
    → second ≡ after next (queue_of queues q).first → third ≡ after next second
    → r.first ≡ (queue_of queues q).first → (second ≡ (queue_of queues q).last → r.last ≡ (queue_of queues q).first) → (second ≢ (queue_of queues q).last → r.last ≡ (queue_of queues q).last) → r.count + 1 ≡ (queue_of queues q).count
    → Narrows next (slice_set next (queue_of queues q).first third) queues q r shift_second 1
second_narrows slips next queues q second third r linked two second_is third_is first only last count =
    record {
      below = queue_below queues q (omega (arith, two));
      places = length-set next head third;
      others = λ a k other few. block_kept next head third k (queue_of queues a).first (λ j small same. other (linked.apart a q j 0 (omega (arith, small, few)) (omega (arith, two)) same).0);
      fewer = omega (arith, count);
      here = here_by;
      less = λ k few. shift_second_less k r.count (queue_of queues q).count few count (omega (arith, few));
      inj = shift_second_inj;
      gone_below = omega (arith, two);
      gone_from = shift_second_gone;
      last = λ some. last_by some (cases_eq second (queue_of queues q).last);
    }
  where
    head : ℕ
    head = (queue_of queues q).first

    follow : List ℕ
    follow = slice_set next head third

    third_is_item : third ≡ item next queues q 2
    third_is_item = third_is ∙ ap (after next) second_is

    here_by : (k : ℕ) → k < r.count → block follow r.first k ≡ item next queues q (shift_second k)
    here_by zero few = first ∙ ap (item next queues q) (sym shift_second_zero)
    here_by (suc k) few =
        ap (λ b. block follow b (suc k)) first
        ∙ ap (λ b. block follow b k) (get_or-set_same next head third (head + 1) (linked.within q 0 (omega (arith, two))))
        ∙ block_kept next head third k third (λ j small same.
        let two_on : item next queues q (suc (suc j)) ≡ item next queues q 0 = ap (λ b. block next b j) (sym third_is_item) ∙ same in
        let e = (linked.apart q q (suc (suc j)) 0 (omega (arith, small, few, count)) (omega (arith, two)) two_on).1 in omega (arith, e))
        ∙ ap (λ b. block next b k) third_is_item
        ∙ ap (item next queues q) (sym (shift_second_suc k))

    last_by : 1 ≤ r.count → (second ≡ (queue_of queues q).last) ⊎ (second ≡ (queue_of queues q).last → ⊥) → r.last ≡ block follow r.first (r.count - 1)
    last_by some (inl same) =
        let e = (linked.apart q q 1 ((queue_of queues q).count - 1) (omega (arith, two)) (omega (arith, two)) (sym second_is ∙ same ∙ linked.last q (omega (arith, two)))).1 in
        only same ∙ sym first ∙ ap (block follow r.first) {x = 0} {y = r.count - 1} (omega (arith, e, count))
    last_by some (inr other) = by ((queue_of queues q).count - 1) refl
      where
        by : (m : ℕ) → (queue_of queues q).count - 1 ≡ m → r.last ≡ block follow r.first (r.count - 1)
        by zero is = absurd (omega (arith, is, two))
        by (suc zero) is = absurd (other (second_is ∙ ap (item next queues q) {x = 1} {y = (queue_of queues q).count - 1} (omega (arith, is)) ∙ sym (linked.last q (omega (arith, two)))))
        by (suc (suc m)) is =
            last other ∙ linked.last q (omega (arith, two))
            ∙ ap (item next queues q) {x = (queue_of queues q).count - 1} {y = suc (suc m)} is
            ∙ ap (item next queues q) (sym (shift_second_suc m))
            ∙ sym (here_by (suc m) (omega (arith, is, count)))
            ∙ ap (block follow r.first) {x = suc m} {y = r.count - 1} (omega (arith, is, count))

-- a queue that was read, in one that has so many slips
pub record HasRead (slips : List (Option ℕ)) (next : List ℕ) (queues : List Queue) (q n : ℕ) (r : Queue) : Type 0 where
  pub below : q < length queues
  pub is : r ≡ queue_of queues q
  pub some : n ≤ (queue_of queues q).count

pub has_read : {limit : ℕ} (v : QueuesOf) (slips : List (Option ℕ)) (next : List ℕ) (queues : List Queue) (q n : ℕ) (r : Queue) → shown next queues limit ≡ v → n ≤ length (queue_at v q) → 1 ≤ n → r ≡ slice_index_or queues q r → HasRead slips next queues q n r
has_read v slips next queues q n r view some one read =
    let s = seen v next queues view in
    let some' : n ≤ (queue_of queues q).count = omega (arith, some, s.len q) in
    let below : q < length queues = queue_below queues q (omega (arith, some', one)) in
    record { below = below; is = read ∙ get_or_default queues q r empty below; some = some' }

-- the slip in the place of an item
pub slip_there : {limit : ℕ} (slips : List (Option ℕ)) (next : List ℕ) (queues : List Queue) (q k x : ℕ) (d : Option ℕ) → IsLinked slips next queues limit → k < (queue_of queues q).count → x ≡ item next queues q k → d ≡ slice_index_or slips x d → d ≡ Some x
slip_there slips next queues q k x d linked few x_is read =
    read
    ∙ get_or_default slips x d None (omega (arith, x_is, linked.within q k few, linked.size))
    ∙ ap (λ b. slice_index_or slips b None) x_is
    ∙ linked.there q k few
    ∙ ap (λ (b : ℕ). Some b) (sym x_is)

-- the list without its first number, and without its second
pub drop_at : (l : List ℕ) (k : ℕ) → slice_index_or (drop 1 l) k 0 ≡ slice_index_or l (suc k) 0
drop_at l k = get_or-drop 1 l k 0 ∙ ap (λ j. slice_index_or l j 0) {x = 1 + k} {y = suc k} (omega arith)

pub second_length : (l : List ℕ) → 2 ≤ length l → length (take 1 l ++ drop 2 l) + 1 ≡ length l
second_length l two = omega (arith, length-append (take 1 l) (drop 2 l), length-take 1 l, length-drop 2 l, two)

pub second_at : (l : List ℕ) (k : ℕ) → 2 ≤ length l → slice_index_or (take 1 l ++ drop 2 l) k 0 ≡ slice_index_or l (shift_second k) 0
unfolding shift_second
second_at l zero two = get_or_append_left (take 1 l) (drop 2 l) 0 0 (omega (arith, length-take 1 l, two)) ∙ get_or-take 1 l 0 0 (omega arith)
second_at l (suc k) two =
    get_or-append_right (take 1 l) (drop 2 l) 1 (suc k) 0 (omega (arith, length-take 1 l, two)) (omega arith)
    ∙ get_or-drop 2 l (suc k - 1) 0
    ∙ ap (λ j. slice_index_or l j 0) {x = 2 + (suc k - 1)} {y = suc (suc k)} (omega arith)
