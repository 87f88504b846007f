use Rattle.std.proofs.Common.{◌≡◌, ◌≢◌, ◌∙◌, sym, ap, subst, refl, ℕ, suc, ◌+◌, ◌-◌, ◌<◌, ◌≤◌, List, ◌++◌, length, take, drop, arith, slice_index_or, slice_set, Option, Some, None}
use Rattle.std.proofs.lemmas.Option.{same_Some}
use Rattle.std.proofs.lemmas.List.{length-drop}
use Rattle.wire_set.specs.declared.queue.Queue.{Queue}
use Rattle.wire_set.specs.Queues.{QueuesOf, queue_at, slot, with_queue, queue_of, item, shown, IsLinked}
use Rattle.wire_set.proofs.QueueLemmas.{seen, HasRead, has_read, slip_there, drop_at, second_at, second_length, read_after, Narrows, narrow_linked, narrow_shown, pop_narrows, second_narrows, shift_second}

-- What is known where the first slip of a queue is taken: the queue that was read, the slip that was there, the one after it.
pub record Pops (v : QueuesOf) (slips : List (Option ℕ)) (next : List ℕ) (queues : List Queue) (q : ℕ) (r : Queue) (found : Option ℕ) (after limit : ℕ) : Type 0 where
  pub linked : IsLinked slips next queues limit
  pub view : shown next queues limit ≡ v
  pub some : 1 ≤ length (queue_at v q)
  pub read : r ≡ slice_index_or queues q r
  pub found_is : found ≡ slice_index_or slips r.first found
  pub after_is : after ≡ slice_index_or next r.first after

abbrev pub popped : Queue → ℕ → Queue
popped r after = record { first = after; last = r.last; count = r.count - 1 }

pub pop_found : {limit : ℕ} (v : QueuesOf) (slips : List (Option ℕ)) (next : List ℕ) (queues : List Queue) (q : ℕ) (r : Queue) (found : Option ℕ) → IsLinked slips next queues limit → shown next queues limit ≡ v → 1 ≤ length (queue_at v q) → r ≡ slice_index_or queues q r → found ≡ slice_index_or slips r.first found → found ≡ Some r.first
pop_found v slips next queues q r found linked view some read found_is =
    let h = has_read v slips next queues q 1 r view some (omega arith) read in
    slip_there slips next queues q 0 r.first found linked h.some (ap (λ (x : Queue). x.first) h.is) found_is

pub pop_first_below : {limit : ℕ} (v : QueuesOf) (slips : List (Option ℕ)) (next : List ℕ) (queues : List Queue) (q : ℕ) (r : Queue) → IsLinked slips next queues limit → shown next queues limit ≡ v → 1 ≤ length (queue_at v q) → r ≡ slice_index_or queues q r → (r.first < length next) × (r.first < length slips) × (q < length queues)
pop_first_below v slips next queues q r linked view some read =
    let h = has_read v slips next queues q 1 r view some (omega arith) read in
    let below : r.first < length next = omega (arith, ap (λ (x : Queue). x.first) h.is, linked.within q 0 h.some) in
    (below, omega (arith, below, linked.size), h.below)

pop_narrow : {limit : ℕ} (v : QueuesOf) (slips : List (Option ℕ)) (next : List ℕ) (queues : List Queue) (q : ℕ) (r : Queue) (found : Option ℕ) (after : ℕ) → Pops v slips next queues q r found after limit → Narrows next next queues q (popped r after) (λ k. suc k) 0
pop_narrow v slips next queues q r found after p =
    let h = has_read v slips next queues q 1 r p.view p.some (omega arith) p.read in
    let first : r.first ≡ (queue_of queues q).first = ap (λ (x : Queue). x.first) h.is in
    let count : r.count ≡ (queue_of queues q).count = ap (λ (x : Queue). x.count) h.is in
    pop_narrows slips next queues q (popped r after) p.linked h.some
    (read_after next r.first after (queue_of queues q).first (omega (arith, first, p.linked.within q 0 h.some)) p.after_is first)
    (ap (λ (x : Queue). x.last) h.is) (omega (arith, count, h.some))

pub pop_linked : {limit : ℕ} (v : QueuesOf) (slips : List (Option ℕ)) (next : List ℕ) (queues : List Queue) (q : ℕ) (r : Queue) (found left : Option ℕ) (after : ℕ) → Pops v slips next queues q r found after limit → left ≡ None
    → IsLinked (slice_set slips r.first left) next (slice_set queues q (popped r after)) limit
pop_linked {limit} v slips next queues q r found left after p left_is =
    let h = has_read v slips next queues q 1 r p.view p.some (omega arith) p.read in
    subst (λ (o : Option ℕ). IsLinked (slice_set slips r.first o) next (slice_set queues q (popped r after)) limit) (sym left_is)
    (narrow_linked slips next next queues q (popped r after) (λ k. suc k) 0 r.first p.linked (pop_narrow v slips next queues q r found after p) (ap (λ (x : Queue). x.first) h.is))

pub pop_shown : {limit : ℕ} (v : QueuesOf) (slips : List (Option ℕ)) (next : List ℕ) (queues : List Queue) (q : ℕ) (r : Queue) (found : Option ℕ) (after : ℕ) → Pops v slips next queues q r found after limit
    → shown next (slice_set queues q (popped r after)) limit ≡ with_queue q (drop 1 (queue_at v q)) v
pop_shown v slips next queues q r found after p =
    let h = has_read v slips next queues q 1 r p.view p.some (omega arith) p.read in
    let s = seen v next queues p.view in
    narrow_shown v next next queues q (popped r after) (λ k. suc k) 0 (drop 1 (queue_at v q)) s (pop_narrow v slips next queues q r found after p)
    (omega (arith, length-drop 1 (queue_at v q), s.len q, ap (λ (x : Queue). x.count) h.is))
    (λ k few. drop_at (queue_at v q) k)

pub pop_slip : {limit : ℕ} (v : QueuesOf) (slips : List (Option ℕ)) (next : List ℕ) (queues : List Queue) (q : ℕ) (r : Queue) (found : Option ℕ) (after slip : ℕ) → Pops v slips next queues q r found after limit → found ≡ Some slip → (slip ≡ slot v q 0) × (slip < v.places)
pop_slip v slips next queues q r found after slip p is =
    let h = has_read v slips next queues q 1 r p.view p.some (omega arith) p.read in
    let s = seen v next queues p.view in
    let same : slip ≡ r.first = same_Some slip r.first (sym is ∙ pop_found v slips next queues q r found p.linked p.view p.some p.read p.found_is) in
    (same ∙ ap (λ (x : Queue). x.first) h.is ∙ sym (s.at q 0 h.some), omega (arith, same, (pop_first_below v slips next queues q r p.linked p.view p.some p.read).0, p.linked.reached, s.places))

-- The same where the second slip is taken: its number, the slip in its place, the number after it, and the queue that is left
pub record Seconds (v : QueuesOf) (slips : List (Option ℕ)) (next : List ℕ) (queues : List Queue) (q : ℕ) (r : Queue) (second : ℕ) (found : Option ℕ) (third : ℕ) (left : Queue) (limit : ℕ) : Type 0 where
  pub linked : IsLinked slips next queues limit
  pub view : shown next queues limit ≡ v
  pub two : 2 ≤ length (queue_at v q)
  pub read : r ≡ slice_index_or queues q r
  pub second_is : second ≡ slice_index_or next r.first second
  pub found_is : found ≡ slice_index_or slips second found
  pub third_is : third ≡ slice_index_or next second third
  pub first : left.first ≡ r.first
  pub only : second ≡ r.last → left.last ≡ r.first
  pub last : second ≢ r.last → left.last ≡ r.last
  pub count : left.count + 1 ≡ r.count

second_item : {limit : ℕ} (slips : List (Option ℕ)) (next : List ℕ) (queues : List Queue) (q : ℕ) (r : Queue) (second : ℕ) → IsLinked slips next queues limit → HasRead slips next queues q 2 r → second ≡ slice_index_or next r.first second → second ≡ item next queues q 1
second_item slips next queues q r second linked h is =
    let first : r.first ≡ (queue_of queues q).first = ap (λ (x : Queue). x.first) h.is in
    read_after next r.first second (queue_of queues q).first (omega (arith, first, linked.within q 0 (omega (arith, h.some)))) is first

pub second_below : {limit : ℕ} (v : QueuesOf) (slips : List (Option ℕ)) (next : List ℕ) (queues : List Queue) (q : ℕ) (r : Queue) (second : ℕ) → IsLinked slips next queues limit → shown next queues limit ≡ v → 2 ≤ length (queue_at v q) → r ≡ slice_index_or queues q r → second ≡ slice_index_or next r.first second
    → (second < length next) × (second < length slips) × (r.first < length next) × (q < length queues) × (1 ≤ r.count)
second_below v slips next queues q r second linked view two read is =
    let h = has_read v slips next queues q 2 r view two (omega arith) read in
    let below : second < length next = omega (arith, second_item slips next queues q r second linked h is, linked.within q 1 (omega (arith, h.some))) in
    (below, omega (arith, below, linked.size), omega (arith, ap (λ (x : Queue). x.first) h.is, linked.within q 0 (omega (arith, h.some))), h.below, omega (arith, ap (λ (x : Queue). x.count) h.is, h.some))

pub second_found : {limit : ℕ} (v : QueuesOf) (slips : List (Option ℕ)) (next : List ℕ) (queues : List Queue) (q : ℕ) (r : Queue) (second : ℕ) (found : Option ℕ) → IsLinked slips next queues limit → shown next queues limit ≡ v → 2 ≤ length (queue_at v q) → r ≡ slice_index_or queues q r → second ≡ slice_index_or next r.first second → found ≡ slice_index_or slips second found → found ≡ Some second
second_found v slips next queues q r second found linked view two read is found_is =
    let h = has_read v slips next queues q 2 r view two (omega arith) read in
    slip_there slips next queues q 1 second found linked (omega (arith, h.some)) (second_item slips next queues q r second linked h is) found_is

second_narrow : {limit : ℕ} (v : QueuesOf) (slips : List (Option ℕ)) (next : List ℕ) (queues : List Queue) (q : ℕ) (r : Queue) (second : ℕ) (found : Option ℕ) (third : ℕ) (left : Queue) → Seconds v slips next queues q r second found third left limit
    → Narrows next (slice_set next r.first third) queues q left shift_second 1
second_narrow v slips next queues q r second found third left p =
    let h = has_read v slips next queues q 2 r p.view p.two (omega arith) p.read in
    let first : r.first ≡ (queue_of queues q).first = ap (λ (x : Queue). x.first) h.is in
    let last : r.last ≡ (queue_of queues q).last = ap (λ (x : Queue). x.last) h.is in
    let b = second_below v slips next queues q r second p.linked p.view p.two p.read p.second_is in
    subst (λ (x : ℕ). Narrows next (slice_set next x third) queues q left shift_second 1) (sym first)
    (second_narrows slips next queues q second third left p.linked h.some
    (second_item slips next queues q r second p.linked h p.second_is)
    (read_after next second third second b.0 p.third_is refl)
    (p.first ∙ first) (λ e. p.only (e ∙ sym last) ∙ first) (λ e. p.last (λ e2. e (e2 ∙ last)) ∙ last)
    (p.count ∙ ap (λ (x : Queue). x.count) h.is))

pub second_linked : {limit : ℕ} (v : QueuesOf) (slips : List (Option ℕ)) (next : List ℕ) (queues : List Queue) (q : ℕ) (r : Queue) (second : ℕ) (found hole : Option ℕ) (third : ℕ) (left : Queue) → Seconds v slips next queues q r second found third left limit → hole ≡ None
    → IsLinked (slice_set slips second hole) (slice_set next r.first third) (slice_set queues q left) limit
second_linked {limit} v slips next queues q r second found hole third left p hole_is =
    let h = has_read v slips next queues q 2 r p.view p.two (omega arith) p.read in
    subst (λ (o : Option ℕ). IsLinked (slice_set slips second o) (slice_set next r.first third) (slice_set queues q left) limit) (sym hole_is)
    (narrow_linked slips next (slice_set next r.first third) queues q left shift_second 1 second p.linked (second_narrow v slips next queues q r second found third left p) (second_item slips next queues q r second p.linked h p.second_is))

pub second_shown : {limit : ℕ} (v : QueuesOf) (slips : List (Option ℕ)) (next : List ℕ) (queues : List Queue) (q : ℕ) (r : Queue) (second : ℕ) (found : Option ℕ) (third : ℕ) (left : Queue) → Seconds v slips next queues q r second found third left limit
    → shown (slice_set next r.first third) (slice_set queues q left) limit ≡ with_queue q (take 1 (queue_at v q) ++ drop 2 (queue_at v q)) v
second_shown v slips next queues q r second found third left p =
    let h = has_read v slips next queues q 2 r p.view p.two (omega arith) p.read in
    let s = seen v next queues p.view in
    narrow_shown v next (slice_set next r.first third) queues q left shift_second 1 (take 1 (queue_at v q) ++ drop 2 (queue_at v q)) s (second_narrow v slips next queues q r second found third left p)
    (omega (arith, second_length (queue_at v q) p.two, s.len q, ap (λ (x : Queue). x.count) h.is, p.count))
    (λ k few. second_at (queue_at v q) k p.two)

pub second_slip : {limit : ℕ} (v : QueuesOf) (slips : List (Option ℕ)) (next : List ℕ) (queues : List Queue) (q : ℕ) (r : Queue) (second : ℕ) (found : Option ℕ) (third : ℕ) (left : Queue) (slip : ℕ) → Seconds v slips next queues q r second found third left limit → found ≡ Some slip → (slip ≡ slot v q 1) × (slip < v.places)
second_slip v slips next queues q r second found third left slip p is =
    let h = has_read v slips next queues q 2 r p.view p.two (omega arith) p.read in
    let s = seen v next queues p.view in
    let same : slip ≡ second = same_Some slip second (sym is ∙ second_found v slips next queues q r second found p.linked p.view p.two p.read p.second_is p.found_is) in
    (same ∙ second_item slips next queues q r second p.linked h p.second_is ∙ sym (s.at q 1 (omega (arith, h.some))), omega (arith, same, (second_below v slips next queues q r second p.linked p.view p.two p.read p.second_is).0, p.linked.reached, s.places))
