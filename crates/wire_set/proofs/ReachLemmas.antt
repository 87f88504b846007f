use Rattle.std.proofs.Common.{◌≡◌, ◌∙◌, sym, ap, subst, refl, ℕ, zero, suc, ◌+◌, ◌-◌, ◌<◌, ◌≤◌, List, [], ◌∷◌, ◌++◌, length, map, replicate, append_assoc, arith, slice_index_or, Option, Some, None}
use Rattle.std.proofs.lemmas.List.{ext_get_or, get_or_append_left, length-append, length-map, length-replicate, replicate_more}
use Rattle.std.proofs.Math.ListN.{get_or-map}
use Rattle.std.proofs.lemmas.List.FromFn.{fill_by_all}
use Rattle.frame_region.specs.Blocks.{after, block}
use Rattle.wire_set.specs.declared.queue.Queue.{Queue}
use Rattle.wire_set.specs.Queues.{QueuesOf, empty, walk, queue_of, item, shown, IsLinked}
use Rattle.wire_set.proofs.QueueLemmas.{seen, walk_length, walk_at}

-- one more value at the end
pub one_more : {X : Type 0} (l : List X) (x : X) (k n : ℕ) → n ≤ k → (l ++ replicate (k - n) x) ++ x ∷ [] ≡ l ++ replicate (k + 1 - n) x
one_more l x k n least =
    append_assoc l (replicate (k - n) x) (x ∷ [])
    ∙ ap (λ t. l ++ t) (replicate_more (k - n) x)
    ∙ ap (λ m. l ++ replicate m x) {x = k - n + 1} {y = k + 1 - n} (omega (arith, least))

-- a chain that is there goes on as before where there are more places
chain_kept : (next : List ℕ) (n first k : ℕ) → ((j : ℕ) → j < k → block next first j < length next) → block (next ++ replicate n 0) first k ≡ block next first k
chain_kept next n first zero there = refl
chain_kept next n first (suc k) there =
    let here : first < length next = there 0 (omega arith) in
    ap (λ b. block (next ++ replicate n 0) b k) (get_or_append_left next (replicate n 0) (first + 1) first here)
    ∙ chain_kept next n (after next first) k (λ j few. there (suc j) (omega (arith, few)))

items_kept : {limit : ℕ} (slips : List (Option ℕ)) (next : List ℕ) (queues : List Queue) (n : ℕ) → IsLinked slips next queues limit → (a k : ℕ) → k < (queue_of queues a).count → item (next ++ replicate n 0) queues a k ≡ item next queues a k
items_kept slips next queues n linked a k few = chain_kept next n (queue_of queues a).first k (λ j less. linked.within a j (omega (arith, less, few)))

reach_linked : {limit : ℕ} (slips : List (Option ℕ)) (next : List ℕ) (queues : List Queue) (n : ℕ) → IsLinked slips next queues limit → length next + n ≤ limit → IsLinked (slips ++ replicate n None) (next ++ replicate n 0) queues limit
reach_linked slips next queues n linked room =
    record {
      size = omega (arith, length-append slips (replicate n None), length-replicate {A = Option ℕ} n None, long, linked.size);
      reached = omega (arith, long, room);
      most = linked.most;
      few = linked.few;
      within = λ a k few. omega (arith, same a k few, linked.within a k few, long);
      apart = λ a b i j few_i few_j is. linked.apart a b i j few_i few_j (sym (same a i few_i) ∙ is ∙ same b j few_j);
      there = λ a k few.
          ap (λ b. slice_index_or (slips ++ replicate n None) b None) (same a k few)
          ∙ get_or_append_left slips (replicate n None) None (item next queues a k) (omega (arith, linked.within a k few, linked.size))
          ∙ linked.there a k few
          ∙ ap (λ (b : ℕ). Some b) (sym (same a k few));
      last = λ a some. linked.last a some ∙ sym (same a ((queue_of queues a).count - 1) (omega (arith, some)));
    }
  where
    same : (a k : ℕ) → k < (queue_of queues a).count → item (next ++ replicate n 0) queues a k ≡ item next queues a k
    same = items_kept slips next queues n linked

    long : length (next ++ replicate n 0) ≡ length next + n
    long = omega (arith, length-append next (replicate n 0), length-replicate {A = ℕ} n 0)

reach_shown : {limit : ℕ} (slips : List (Option ℕ)) (next : List ℕ) (queues : List Queue) (n : ℕ) → IsLinked slips next queues limit → shown (next ++ replicate n 0) queues limit ≡ shown next queues limit
reach_shown {limit} slips next queues n linked = ap (λ (l : List (List ℕ)). let w : QueuesOf = record { queues = l; places = limit } in w) lists
  where
    follow : List ℕ
    follow = next ++ replicate n 0

    walks : (a : ℕ) → walk follow (queue_of queues a) ≡ walk next (queue_of queues a)
    walks a =
        sym (fill_by_all (λ k. block follow (queue_of queues a).first k) (walk next (queue_of queues a)) (queue_of queues a).count 0 (walk_length next (queue_of queues a))
        (λ k few. walk_at next (queue_of queues a) k few ∙ sym (items_kept slips next queues n linked a k few)))

    lists : map (walk follow) queues ≡ map (walk next) queues
    lists = ext_get_or [] (map (walk follow) queues) (map (walk next) queues) (length-map queues (walk follow) ∙ sym (length-map queues (walk next)))
        (λ a below. get_or-map (walk follow) queues a empty ∙ walks a ∙ sym (get_or-map (walk next) queues a empty))

-- the places up to that of a number are there then, and are sound and show the same
pub reached_by : {limit : ℕ} (v : QueuesOf) (slips more : List (Option ℕ)) (next follow : List ℕ) (queues : List Queue) (number : ℕ) → IsLinked slips next queues limit → shown next queues limit ≡ v → number < v.places
    → more ≡ slips ++ replicate (number + 1 - length next) None → follow ≡ next ++ replicate (number + 1 - length next) 0 → IsLinked more follow queues limit × (shown follow queues limit ≡ v)
reached_by {limit} v slips more next follow queues number linked view below more_is follow_is =
    subst (λ (l : List (Option ℕ)). IsLinked l follow queues limit × (shown follow queues limit ≡ v)) (sym more_is)
    (subst (λ (l : List ℕ). IsLinked (slips ++ replicate n None) l queues limit × (shown l queues limit ≡ v)) (sym follow_is)
    (reach_linked slips next queues n linked (omega (arith, linked.reached, below, (seen v next queues view).places)), reach_shown slips next queues n linked ∙ view))
  where
    n : ℕ
    n = number + 1 - length next
