use Rattle.std.proofs.Common.{◌≡◌, ◌≢◌, ◌∙◌, sym, ap, subst, refl, ℕ, zero, suc, ◌+◌, ◌-◌, ◌<◌, ◌≤◌, List, [], ◌∷◌, ◌++◌, length, map, replicate, arith, slice_index_or, slice_set, Option, Some, None, ◌⊎◌, inl, inr}
use Rattle.std.proofs.lemmas.Bool.{cases_eq, cases_lt}
use Rattle.std.proofs.lemmas.List.{ext_get_or, get_or-set_other, get_or-set_same, get_or_default, get_or_past, get_or_append_left, get_or_at, get_or-replicate, length-set, length-map, length-append, length-replicate}
use Rattle.std.proofs.Math.ListN.{get_or-map}
use Rattle.std.proofs.lemmas.List.FromFn.{fill_by_all}
use Rattle.frame_region.specs.Blocks.{after, block}
use Rattle.frame_region.proofs.ChainLemmas.{block_next, block_kept}
use Rattle.wire_set.specs.declared.queue.Queue.{Queue}
use Rattle.wire_set.specs.Queues.{QueuesOf, queue_at, IsNew, with_queue, empty, walk, queue_of, item, shown, IsLinked}
use Rattle.wire_set.proofs.QueueLemmas.{IsSeen, seen, set_queue, set_others, shown_set}

-- What is known where a slip is put at the end of a queue: the queue that was read, the place after which it follows, the queue then.
pub record Appends (v : QueuesOf) (slips : List (Option ℕ)) (next : List ℕ) (queues : List Queue) (q x before : ℕ) (r new : Queue) (limit : ℕ) : Type 0 where
  pub linked : IsLinked slips next queues limit
  pub view : shown next queues limit ≡ v
  pub below : q < length v.queues
  pub there : x < length next
  pub room : length (queue_at v q) < v.places
  pub fresh : IsNew x v
  pub read : r ≡ slice_index_or queues q r
  pub none : r.count ≡ 0 → before ≡ x
  pub some : 1 ≤ r.count → before ≡ r.last
  pub first : r.count ≡ 0 → new.first ≡ x
  pub kept : 1 ≤ r.count → new.first ≡ r.first
  pub last : new.last ≡ x
  pub count : new.count ≡ r.count + 1

-- and what follows of the chains then
record Chains (slips : List (Option ℕ)) (next : List ℕ) (queues : List Queue) (q x before : ℕ) (r new : Queue) (limit : ℕ) : Type 0 where
  pub below : q < length queues
  pub read : r ≡ queue_of queues q
  pub here : x < length next
  pub room : r.count < limit
  pub before_below : before < length next
  pub fresh : (a k : ℕ) → k < (queue_of queues a).count → item next queues a k ≡ x → ⊥
  pub others : (a k : ℕ) → a ≢ q → k < (queue_of queues a).count → item (slice_set next before x) queues a k ≡ item next queues a k
  pub same : (k : ℕ) → k < r.count → block (slice_set next before x) new.first k ≡ item next queues q k
  pub end : block (slice_set next before x) new.first r.count ≡ x

chains : {limit : ℕ} (v : QueuesOf) (slips : List (Option ℕ)) (next : List ℕ) (queues : List Queue) (q x before : ℕ) (r new : Queue) → Appends v slips next queues q x before r new limit → Chains slips next queues q x before r new limit
chains {limit} v slips next queues q x before r new p = by r.count refl
  where
    s : IsSeen v next queues limit
    s = seen v next queues p.view

    below : q < length queues
    below = omega (arith, p.below, s.queues_len)

    read : r ≡ queue_of queues q
    read = p.read ∙ get_or_default queues q r empty below

    count : r.count ≡ (queue_of queues q).count
    count = ap (λ (y : Queue). y.count) read

    follow : List ℕ
    follow = slice_set next before x

    fresh : (a k : ℕ) → k < (queue_of queues a).count → item next queues a k ≡ x → ⊥
    fresh a k few same = p.fresh a k (omega (arith, few, s.len a)) (s.at a k few ∙ same)

    by : (n : ℕ) → r.count ≡ n → Chains slips next queues q x before r new limit
    by zero is = record {
      below = below;
      read = read;
      here = p.there;
      room = omega (arith, p.there, p.linked.reached, is);
      before_below = omega (arith, p.none is, p.there);
      fresh = fresh;
      others = λ a k other few. block_kept next before x k (queue_of queues a).first (λ j small same. fresh a j (omega (arith, small, few)) (same ∙ p.none is));
      same = λ k few. absurd (omega (arith, few, is));
      end = ap (block follow new.first) {x = r.count} {y = 0} is ∙ p.first is;
    }
    by (suc n) is =
        let some : 1 ≤ r.count = omega (arith, is) in
        let before_is : before ≡ item next queues q n
        = p.some some ∙ ap (λ (y : Queue). y.last) read ∙ p.linked.last q (omega (arith, some, count)) ∙ ap (item next queues q) {x = (queue_of queues q).count - 1} {y = n} (omega (arith, is, count)) in
        let below_before : before < length next = omega (arith, before_is, p.linked.within q n (omega (arith, is, count))) in
        let first_is : new.first ≡ (queue_of queues q).first = p.kept some ∙ ap (λ (y : Queue). y.first) read in
        let same : (k : ℕ) → k < r.count → block follow new.first k ≡ item next queues q k
        = λ k few. ap (λ b. block follow b k) first_is
        ∙ block_kept next before x k (queue_of queues q).first (λ j small hit.
        let e = (p.linked.apart q q j n (omega (arith, small, few, count)) (omega (arith, is, count)) (hit ∙ before_is)).1 in omega (arith, e, small, few, is)) in
        record {
          below = below;
          read = read;
          here = p.there;
          room = omega (arith, p.room, s.len q, s.places, count);
          before_below = below_before;
          fresh = fresh;
          others = λ a k other few. block_kept next before x k (queue_of queues a).first (λ j small hit. other (p.linked.apart a q j n (omega (arith, small, few)) (omega (arith, is, count)) (hit ∙ before_is)).0);
          same = same;
          end = ap (block follow new.first) {x = r.count} {y = n + 1} (omega (arith, is))
              ∙ sym (block_next follow new.first n)
              ∙ ap (after follow) (same n (omega (arith, is)) ∙ sym before_is)
              ∙ get_or-set_same next before x (before + 1) below_before;
        }

-- slip number k of queue a is one that was there, or the new one
record WasThere (next follow : List ℕ) (queues : List Queue) (q x : ℕ) (r new : Queue) (a k : ℕ) : Type 0 where
  pub cases : ((k < (queue_of queues a).count) × (item follow (slice_set queues q new) a k ≡ item next queues a k))
      ⊎ ((a ≡ q) × (k ≡ r.count) × (item follow (slice_set queues q new) a k ≡ x))

was_there : {limit : ℕ} (v : QueuesOf) (slips : List (Option ℕ)) (next : List ℕ) (queues : List Queue) (q x before : ℕ) (r new : Queue) (a k : ℕ) → Appends v slips next queues q x before r new limit → Chains slips next queues q x before r new limit → k < (queue_of (slice_set queues q new) a).count
    → WasThere next (slice_set next before x) queues q x r new a k
was_there v slips next queues q x before r new a k p h few = by (cases_eq a q)
  where
    follow : List ℕ
    follow = slice_set next before x

    in_q : a ≡ q → (k < r.count) ⊎ (r.count ≤ k) → WasThere next follow queues q x r new a k
    in_q same (inl old) =
        let rec_is : queue_of (slice_set queues q new) a ≡ new = ap (queue_of (slice_set queues q new)) same ∙ set_queue queues q new h.below in
        record { cases = inl (omega (arith, old, ap (λ (y : Queue). y.count) h.read, ap (λ (b : ℕ). (queue_of queues b).count) same), ap (λ (y : Queue). block follow y.first k) rec_is ∙ h.same k old ∙ ap (λ b. item next queues b k) (sym same)) }
    in_q same (inr end) =
        let rec_is : queue_of (slice_set queues q new) a ≡ new = ap (queue_of (slice_set queues q new)) same ∙ set_queue queues q new h.below in
        let k_is : k ≡ r.count = omega (arith, end, few, ap (λ (y : Queue). y.count) rec_is, p.count) in
        record { cases = inr (same, k_is, ap (λ (y : Queue). block follow y.first k) rec_is ∙ ap (block follow new.first) k_is ∙ h.end) }

    by : (a ≡ q) ⊎ (a ≡ q → ⊥) → WasThere next follow queues q x r new a k
    by (inl same) = in_q same (cases_lt k r.count)
    by (inr other) =
        let rec_is : queue_of (slice_set queues q new) a ≡ queue_of queues a = set_others queues q a new other in
        let few' : k < (queue_of queues a).count = omega (arith, few, ap (λ (y : Queue). y.count) rec_is) in
        record { cases = inl (few', ap (λ (y : Queue). block follow y.first k) rec_is ∙ h.others a k other few') }

pub append_linked : {limit : ℕ} (v : QueuesOf) (slips : List (Option ℕ)) (next : List ℕ) (queues : List Queue) (q x before : ℕ) (r new : Queue) → Appends v slips next queues q x before r new limit
    → IsLinked (slice_set slips x (Some x)) (slice_set next before x) (slice_set queues q new) limit
append_linked {limit} v slips next queues q x before r new p =
    record {
      size = length-set slips x (Some x) ∙ p.linked.size ∙ sym long;
      reached = omega (arith, p.linked.reached, long);
      most = p.linked.most;
      few = λ a. few_by a (cases_eq a q);
      within = λ a k few. within_by a k (was_there v slips next queues q x before r new a k p h few).cases;
      apart = λ a b i j few_i few_j same. apart_by a b i j same (was_there v slips next queues q x before r new a i p h few_i).cases (was_there v slips next queues q x before r new b j p h few_j).cases;
      there = λ a k few. there_by a k (was_there v slips next queues q x before r new a k p h few).cases;
      last = λ a some. last_by a some (cases_eq a q);
    }
  where
    h : Chains slips next queues q x before r new limit
    h = chains v slips next queues q x before r new p

    follow : List ℕ
    follow = slice_set next before x

    queues' : List Queue
    queues' = slice_set queues q new

    long : length follow ≡ length next
    long = length-set next before x

    few_by : (a : ℕ) → (a ≡ q) ⊎ (a ≡ q → ⊥) → (queue_of queues' a).count ≤ limit
    few_by a (inl same) = omega (arith, ap (λ (b : ℕ). (queue_of queues' b).count) same, ap (λ (y : Queue). y.count) (set_queue queues q new h.below), p.count, h.room)
    few_by a (inr other) = omega (arith, ap (λ (y : Queue). y.count) (set_others queues q a new other), p.linked.few a)

    within_by : (a k : ℕ) → ((k < (queue_of queues a).count) × (item follow queues' a k ≡ item next queues a k)) ⊎ ((a ≡ q) × (k ≡ r.count) × (item follow queues' a k ≡ x)) → item follow queues' a k < length follow
    within_by a k (inl at) = omega (arith, at.1, p.linked.within a k at.0, long)
    within_by a k (inr at) = omega (arith, at.2, h.here, long)

    apart_by : (a b i j : ℕ) → item follow queues' a i ≡ item follow queues' b j
        → ((i < (queue_of queues a).count) × (item follow queues' a i ≡ item next queues a i)) ⊎ ((a ≡ q) × (i ≡ r.count) × (item follow queues' a i ≡ x))
        → ((j < (queue_of queues b).count) × (item follow queues' b j ≡ item next queues b j)) ⊎ ((b ≡ q) × (j ≡ r.count) × (item follow queues' b j ≡ x)) → (a ≡ b) × (i ≡ j)
    apart_by a b i j same (inl at_a) (inl at_b) = p.linked.apart a b i j at_a.0 at_b.0 (sym at_a.1 ∙ same ∙ at_b.1)
    apart_by a b i j same (inl at_a) (inr at_b) = absurd (h.fresh a i at_a.0 (sym at_a.1 ∙ same ∙ at_b.2))
    apart_by a b i j same (inr at_a) (inl at_b) = absurd (h.fresh b j at_b.0 (sym at_b.1 ∙ sym same ∙ at_a.2))
    apart_by a b i j same (inr at_a) (inr at_b) = (at_a.0 ∙ sym at_b.0, at_a.1 ∙ sym at_b.1)

    there_by : (a k : ℕ) → ((k < (queue_of queues a).count) × (item follow queues' a k ≡ item next queues a k)) ⊎ ((a ≡ q) × (k ≡ r.count) × (item follow queues' a k ≡ x))
        → slice_index_or (slice_set slips x (Some x)) (item follow queues' a k) None ≡ Some (item follow queues' a k)
    there_by a k (inl at) =
        ap (λ b. slice_index_or (slice_set slips x (Some x)) b None) at.1
        ∙ get_or-set_other slips x (item next queues a k) (Some x) None (λ e. h.fresh a k at.0 e)
        ∙ p.linked.there a k at.0
        ∙ ap (λ (b : ℕ). Some b) (sym at.1)
    there_by a k (inr at) =
        ap (λ b. slice_index_or (slice_set slips x (Some x)) b None) at.2
        ∙ get_or-set_same slips x (Some x) None (omega (arith, h.here, p.linked.size))
        ∙ ap (λ (b : ℕ). Some b) (sym at.2)

    last_by : (a : ℕ) → 1 ≤ (queue_of queues' a).count → (a ≡ q) ⊎ (a ≡ q → ⊥) → (queue_of queues' a).last ≡ item follow queues' a ((queue_of queues' a).count - 1)
    last_by a some (inl same) =
        let rec_is : queue_of queues' a ≡ new = ap (queue_of queues') same ∙ set_queue queues q new h.below in
        ap (λ (y : Queue). y.last) rec_is ∙ p.last ∙ sym h.end ∙ ap (block follow new.first) {x = r.count} {y = new.count - 1} (omega (arith, p.count)) ∙ sym (ap (λ (y : Queue). block follow y.first (y.count - 1)) rec_is)
    last_by a some (inr other) =
        let rec_is : queue_of queues' a ≡ queue_of queues a = set_others queues q a new other in
        let some' : 1 ≤ (queue_of queues a).count = omega (arith, some, ap (λ (y : Queue). y.count) rec_is) in
        ap (λ (y : Queue). y.last) rec_is ∙ p.linked.last a some' ∙ sym (h.others a ((queue_of queues a).count - 1) other (omega (arith, some'))) ∙ sym (ap (λ (y : Queue). block follow y.first (y.count - 1)) rec_is)

pub append_shown : {limit : ℕ} (v : QueuesOf) (slips : List (Option ℕ)) (next : List ℕ) (queues : List Queue) (q x before : ℕ) (r new : Queue) → Appends v slips next queues q x before r new limit
    → shown (slice_set next before x) (slice_set queues q new) limit ≡ with_queue q (queue_at v q ++ x ∷ []) v
append_shown {limit} v slips next queues q x before r new p =
    shown_set v next follow queues q new (queue_at v q ++ x ∷ []) s h.below
    (sym (fill_by_all (λ k. block follow new.first k) (queue_at v q ++ x ∷ []) new.count 0 (omega (arith, length-append (queue_at v q) (x ∷ []), s.len q, count, p.count)) (λ k few. by k few (cases_lt k r.count))))
    h.others
  where
    h : Chains slips next queues q x before r new limit
    h = chains v slips next queues q x before r new p

    s : IsSeen v next queues limit
    s = seen v next queues p.view

    follow : List ℕ
    follow = slice_set next before x

    count : r.count ≡ (queue_of queues q).count
    count = ap (λ (y : Queue). y.count) h.read

    by : (k : ℕ) → k < new.count → (k < r.count) ⊎ (r.count ≤ k) → slice_index_or (queue_at v q ++ x ∷ []) k 0 ≡ block follow new.first k
    by k few (inl old) = get_or_append_left (queue_at v q) (x ∷ []) 0 k (omega (arith, old, count, s.len q)) ∙ s.at q k (omega (arith, old, count)) ∙ sym (h.same k old)
    by k few (inr end) =
        let k_is : k ≡ r.count = omega (arith, end, few, p.count) in
        get_or_at (queue_at v q) x [] 0 k (omega (arith, s.len q, count, k_is)) ∙ sym (ap (block follow new.first) k_is ∙ h.end)

-- Empty queues are sound
none_there : (n a : ℕ) → queue_of (replicate n empty) a ≡ empty
none_there n a = by (cases_lt a n)
  where
    by : (a < n) ⊎ (n ≤ a) → queue_of (replicate n empty) a ≡ empty
    by (inl below) = get_or-replicate n a empty empty below
    by (inr past) = get_or_past (replicate n empty) a empty (omega (arith, past, length-replicate {A = Queue} n empty))

pub start_linked : (slips : List (Option ℕ)) (next : List ℕ) (queues : List Queue) (n places : ℕ) → slips ≡ [] → next ≡ [] → places ≤ 1048576 → queues ≡ replicate n empty → IsLinked slips next queues places
start_linked slips next queues n places no_slips no_next most is = subst (λ (l : List Queue). IsLinked slips next l places) (sym is) (record {
  size = ap length no_slips ∙ sym (ap length no_next);
  reached = omega (arith, ap length no_next);
  most = most;
  few = λ a. omega (arith, ap (λ (y : Queue). y.count) (none_there n a));
  within = λ a k few. absurd (omega (arith, few, ap (λ (y : Queue). y.count) (none_there n a)));
  apart = λ a b i j few_i few_j same. absurd (omega (arith, few_i, ap (λ (y : Queue). y.count) (none_there n a)));
  there = λ a k few. absurd (omega (arith, few, ap (λ (y : Queue). y.count) (none_there n a)));
  last = λ a some. absurd (omega (arith, some, ap (λ (y : Queue). y.count) (none_there n a)));
})

pub start_shown : (next : List ℕ) (queues : List Queue) (n places : ℕ) → queues ≡ replicate n empty → shown next queues places ≡ record { queues = replicate n []; places = places }
start_shown next queues n places is =
    ap (λ (l : List Queue). shown next l places) is
    ∙ ap (λ (l : List (List ℕ)). let w : QueuesOf = record { queues = l; places = places } in w) lists
  where
    lists : map (walk next) (replicate n empty) ≡ replicate n []
    lists = ext_get_or [] (map (walk next) (replicate n empty)) (replicate n []) (length-map (replicate n empty) (walk next) ∙ length-replicate {A = Queue} n empty ∙ sym (length-replicate {A = List ℕ} n []))
        (λ a below. get_or-map (walk next) (replicate n empty) a empty ∙ ap (walk next) (none_there n a) ∙ sym (get_or-replicate n a [] [] (omega (arith, below, length-map (replicate n empty) (walk next), length-replicate {A = Queue} n empty))))
