use Rattle.std.proofs.Common.{◌≡◌, ◌∙◌, IsSome, sym, ap, subst, refl, ℕ, suc, ◌+◌, ◌-◌, ◌<◌, ◌≤◌, List, [], ◌∷◌, ◌++◌, length, map, take, drop, replicate, arith, slice_index_or, slice_set, Option, Some, None, unwrap_or, ◌⊎◌, inl, inr}
use Rattle.std.proofs.lemmas.Bool.{cases_lt}
use Rattle.std.proofs.lemmas.List.{ext_get_or, get_or-set_same, get_or_past, get_or-replicate, get_or-drop, length-set, length-map, length-replicate, length-drop, take-map, drop-map, map-append, drop-drop, set-set, set-get_or, take_all}
use Rattle.std.proofs.Math.ListN.{get_or-map}
use Rattle.std.proofs.lemmas.List.Sums.{sum_by-append, get_or-le-sum_by, sum_by_more}
use Rattle.std.proofs.lemmas.List.Folds.{sum_by-replicate}
use Rattle.frame_region.specs.Regions.{RegionOf, held_at, bytes_at, with_put, without}
use Rattle.frame_region.specs.Sizes.{blocks_of}
use Rattle.frame_region.proofs.SlipLemmas.{put_held, put_others, free_others, new_is_other}
use Rattle.wire_set.specs.Queues.{QueuesOf, queue_at, slot, IsApart, IsNew, with_queue}
use Rattle.wire_set.specs.Frames.{FramesOf, frames_at, blocks_in, occupied, with_frames, append_to, put_frame, drop_first, clear, move_first, move_second, stored, IsStored}
use Rattle.wire_set.proofs.FrameLemmas.{one_of, IsPart, part_pop, part_second, part_new, more, stored_at, stored_length, stored_frame, rest_stored, append_stored, same_frames, occupied_append, occupied_first, occupied_second}

-- a slip that the region does not have is in no queue
pub fresh_slip : (r : RegionOf) (v : QueuesOf) (slip : ℕ) → IsStored r v → held_at r slip ≡ None → IsNew slip v
fresh_slip r v slip s none a i few same = new_is_other r slip (slot v a i) (s.held a i few) none same

-- there are no more frames in a queue than blocks that they occupy
counted : (r : RegionOf) (l : List ℕ) → ((k : ℕ) → k < length l → 1 ≤ length (bytes_at r (slice_index_or l k 0))) → length l ≤ blocks_in (map (bytes_at r) l)
counted r [] some = omega arith
counted r (x ∷ xs) some =
    omega (arith, counted r xs (λ k few. some (suc k) (omega (arith, few))), sum_by-append blocks_of (bytes_at r x ∷ []) (map (bytes_at r) xs), some 0 (omega arith))

pub few_frames : (r : RegionOf) (v : QueuesOf) (q : ℕ) → IsStored r v → q < length v.queues → 1 ≤ r.free → length (queue_at v q) < v.places
few_frames r v q s below some =
    omega (
      arith,
      counted r (queue_at v q) (λ k few. s.some q k few),
      ap blocks_in (stored_at r v q),
      get_or-le-sum_by blocks_in (stored r v).queues q [] (omega (arith, below, length-map v.queues (map (bytes_at r)))),
      s.total,
      some,
    )

-- A frame was put in the region and its slip in a queue
put_same : (r : RegionOf) (v : QueuesOf) (slip : ℕ) (bytes : List ℕ) → IsStored r v → held_at r slip ≡ None → (a k : ℕ) → k < length (queue_at v a) → held_at (with_put slip bytes r) (slot v a k) ≡ held_at r (slot v a k)
put_same r v slip bytes s none a k few = put_others r slip (slot v a k) bytes (new_is_other r slip (slot v a k) (s.held a k few) none)

pub put_view : (r : RegionOf) (v : QueuesOf) (slip q : ℕ) (bytes : List ℕ) → IsStored r v → slip < length r.held → held_at r slip ≡ None
    → stored (with_put slip bytes r) (with_queue q (queue_at v q ++ slip ∷ []) v) ≡ put_frame q bytes (stored r v)
put_view r v slip q bytes s below none =
    append_stored (with_put slip bytes r) v q slip
    ∙ ap (λ (b : List ℕ). append_to q b (stored (with_put slip bytes r) v)) (ap (λ (o : Option (List ℕ)). unwrap_or o []) (put_held r slip bytes below))
    ∙ ap (λ (l : List (List (List ℕ))). append_to q bytes (let w : FramesOf = record { queues = l; free = r.free - blocks_of bytes; limit = v.places } in w))
    (same_frames r (with_put slip bytes r) v (λ a k few. ap (λ (o : Option (List ℕ)). unwrap_or o []) (put_same r v slip bytes s none a k few)))

pub put_stored : (r : RegionOf) (v : QueuesOf) (slip q : ℕ) (bytes : List ℕ) → IsStored r v → slip < length r.held → held_at r slip ≡ None → 1 ≤ length bytes → blocks_of bytes ≤ r.free → q < length v.queues
    → IsStored (with_put slip bytes r) (with_queue q (queue_at v q ++ slip ∷ []) v)
put_stored r v slip q bytes s below none some room q_below = record {
  size = length-set r.held slip (Some bytes) ∙ s.size;
  held = λ a k few. held_by a k (more v q slip a k q_below few);
  some = λ a k few. some_by a k (more v q slip a k q_below few);
  total = omega (arith, s.total, room, ap occupied (put_view r v slip q bytes s below none), occupied_append (stored r v) q bytes (omega (arith, q_below, length-map v.queues (map (bytes_at r)))));
}
  where
    r' : RegionOf
    r' = with_put slip bytes r

    v' : QueuesOf
    v' = with_queue q (queue_at v q ++ slip ∷ []) v

    held_by : (a k : ℕ) → ((k < length (queue_at v a)) × (slot v' a k ≡ slot v a k)) ⊎ (slot v' a k ≡ slip) → IsSome (held_at r' (slot v' a k))
    held_by a k (inl old) = subst (λ (x : ℕ). IsSome (held_at r' x)) (sym old.1) (subst (λ (o : Option (List ℕ)). IsSome o) (sym (put_same r v slip bytes s none a k old.0)) (s.held a k old.0))
    held_by a k (inr new) = subst (λ (x : ℕ). IsSome (held_at r' x)) (sym new) (subst (λ (o : Option (List ℕ)). IsSome o) (sym (put_held r slip bytes below)) refl)

    some_by : (a k : ℕ) → ((k < length (queue_at v a)) × (slot v' a k ≡ slot v a k)) ⊎ (slot v' a k ≡ slip) → 1 ≤ length (bytes_at r' (slot v' a k))
    some_by a k (inl old) = subst (λ (x : ℕ). 1 ≤ length (bytes_at r' x)) (sym old.1) (subst (λ (o : Option (List ℕ)). 1 ≤ length (unwrap_or o [])) (sym (put_same r v slip bytes s none a k old.0)) (s.some a k old.0))
    some_by a k (inr new) = subst (λ (x : ℕ). 1 ≤ length (bytes_at r' x)) (sym new) (subst (λ (o : Option (List ℕ)). 1 ≤ length (unwrap_or o [])) (sym (put_held r slip bytes below)) some)

-- A slip was taken from its queue and freed
free_same : (r : RegionOf) (v w : QueuesOf) (x : ℕ) → IsPart x v w → (a k : ℕ) → k < length (queue_at w a) → held_at (without x r) (slot w a k) ≡ held_at r (slot w a k)
free_same r v w x part a k few = let m = part.each a k few in free_others r x (slot w a k) (λ hit. m.3 (sym m.2 ∙ hit))

pub dropped_view : (r : RegionOf) (v : QueuesOf) (q : ℕ) → IsApart v → 1 ≤ length (queue_at v q)
    → stored (without (slot v q 0) r) (with_queue q (drop 1 (queue_at v q)) v) ≡ drop_first q (stored r v)
dropped_view r v q apart some =
    ap (λ (l : List (List (List ℕ))). let f : FramesOf = record { queues = l; free = r.free + blocks_of (bytes_at r x); limit = v.places } in f)
    (same_frames r (without x r) w (λ a k few. ap (λ (o : Option (List ℕ)). unwrap_or o []) (free_same r v w x (part_pop v q apart some) a k few)) ∙ ap (λ (f : FramesOf). f.queues) (rest_stored r v q (drop 1 (queue_at v q))))
    ∙ ap (λ (l : List (List ℕ)). let f : FramesOf = record { queues = slice_set (stored r v).queues q l; free = r.free + blocks_of (bytes_at r x); limit = v.places } in f)
    (sym (drop-map (bytes_at r) 1 (queue_at v q)) ∙ ap (λ (l : List (List ℕ)). drop 1 l) (sym (stored_at r v q)))
    ∙ ap (λ (b : List ℕ). let f : FramesOf = record { queues = slice_set (stored r v).queues q (drop 1 (frames_at (stored r v) q)); free = r.free + blocks_of b; limit = v.places } in f)
    (sym (stored_frame r v q 0 some))
  where
    x : ℕ
    x = slot v q 0

    w : QueuesOf
    w = with_queue q (drop 1 (queue_at v q)) v

pub dropped_stored : (r : RegionOf) (v : QueuesOf) (q : ℕ) → IsStored r v → IsApart v → 1 ≤ length (queue_at v q) → IsStored (without (slot v q 0) r) (with_queue q (drop 1 (queue_at v q)) v)
dropped_stored r v q s apart some = record {
  size = length-set r.held x None ∙ s.size;
  held = λ a k few. let m = part.each a k few in subst (λ (o : Option (List ℕ)). IsSome o) (sym (free_same r v w x part a k few ∙ ap (held_at r) m.2)) (s.held a m.0 m.1);
  some = λ a k few. let m = part.each a k few in subst (λ (o : Option (List ℕ)). 1 ≤ length (unwrap_or o [])) (sym (free_same r v w x part a k few ∙ ap (held_at r) m.2)) (s.some a m.0 m.1);
  total = omega (
    arith,
    s.total,
    ap occupied (dropped_view r v q apart some),
    ap blocks_of (stored_frame r v q 0 some),
    occupied_first (stored r v) q (omega (arith, one_of v q some, length-map v.queues (map (bytes_at r)))) (omega (arith, stored_length r v q, some)),
  );
}
  where
    x : ℕ
    x = slot v q 0

    w : QueuesOf
    w = with_queue q (drop 1 (queue_at v q)) v

    part : IsPart x v w
    part = part_pop v q apart some

-- A slip went from its queue to the end of another one
moved_stored : (r : RegionOf) (v w : QueuesOf) (x to : ℕ) → IsStored r v → IsPart x v w → w.places ≡ v.places → IsSome (held_at r x) → 1 ≤ length (bytes_at r x) → to < length w.queues
    → occupied (stored r w) + blocks_of (bytes_at r x) ≡ occupied (stored r v) → IsStored r (with_queue to (queue_at w to ++ x ∷ []) w)
moved_stored r v w x to s part places held some below blocks = record {
  size = s.size ∙ sym places;
  held = λ a k few. held_by a k (more w to x a k below few);
  some = λ a k few. some_by a k (more w to x a k below few);
  total = omega (arith, s.total, blocks, places, ap occupied (append_stored r w to x), occupied_append (stored r w) to (bytes_at r x) (omega (arith, below, length-map w.queues (map (bytes_at r)))));
}
  where
    w' : QueuesOf
    w' = with_queue to (queue_at w to ++ x ∷ []) w

    held_by : (a k : ℕ) → ((k < length (queue_at w a)) × (slot w' a k ≡ slot w a k)) ⊎ (slot w' a k ≡ x) → IsSome (held_at r (slot w' a k))
    held_by a k (inl old) = let m = part.each a k old.0 in subst (λ (y : ℕ). IsSome (held_at r y)) (sym (old.1 ∙ m.2)) (s.held a m.0 m.1)
    held_by a k (inr new) = subst (λ (y : ℕ). IsSome (held_at r y)) (sym new) held

    some_by : (a k : ℕ) → ((k < length (queue_at w a)) × (slot w' a k ≡ slot w a k)) ⊎ (slot w' a k ≡ x) → 1 ≤ length (bytes_at r (slot w' a k))
    some_by a k (inl old) = let m = part.each a k old.0 in subst (λ (y : ℕ). 1 ≤ length (bytes_at r y)) (sym (old.1 ∙ m.2)) (s.some a m.0 m.1)
    some_by a k (inr new) = subst (λ (y : ℕ). 1 ≤ length (bytes_at r y)) (sym new) some

-- the first
first_rest : (r : RegionOf) (v : QueuesOf) (q : ℕ) → stored r (with_queue q (drop 1 (queue_at v q)) v) ≡ with_frames q (drop 1 (frames_at (stored r v) q)) (stored r v)
first_rest r v q =
    rest_stored r v q (drop 1 (queue_at v q))
    ∙ ap (λ (l : List (List ℕ)). with_frames q l (stored r v)) (sym (drop-map (bytes_at r) 1 (queue_at v q)) ∙ ap (λ (l : List (List ℕ)). drop 1 l) (sym (stored_at r v q)))

pub first_stored : (r : RegionOf) (v : QueuesOf) (q to : ℕ) → IsStored r v → IsApart v → 1 ≤ length (queue_at v q) → to < length v.queues
    → IsStored r (with_queue to (queue_at (with_queue q (drop 1 (queue_at v q)) v) to ++ slot v q 0 ∷ []) (with_queue q (drop 1 (queue_at v q)) v))
first_stored r v q to s apart some below =
    moved_stored r v (with_queue q (drop 1 (queue_at v q)) v) (slot v q 0) to s (part_pop v q apart some) refl (s.held q 0 some) (s.some q 0 some)
    (omega (arith, below, length-set v.queues q (drop 1 (queue_at v q))))
    (omega (
      arith,
      ap occupied (first_rest r v q),
      ap blocks_of (stored_frame r v q 0 some),
      occupied_first (stored r v) q (omega (arith, one_of v q some, length-map v.queues (map (bytes_at r)))) (omega (arith, stored_length r v q, some)),
    ))

pub first_view : (r : RegionOf) (v : QueuesOf) (q to : ℕ) → 1 ≤ length (queue_at v q)
    → stored r (with_queue to (queue_at (with_queue q (drop 1 (queue_at v q)) v) to ++ slot v q 0 ∷ []) (with_queue q (drop 1 (queue_at v q)) v)) ≡ move_first q to (stored r v)
first_view r v q to some =
    append_stored r (with_queue q (drop 1 (queue_at v q)) v) to (slot v q 0)
    ∙ ap (λ (f : FramesOf). append_to to (bytes_at r (slot v q 0)) f) (first_rest r v q)
    ∙ ap (λ (b : List ℕ). append_to to b (with_frames q (drop 1 (frames_at (stored r v) q)) (stored r v))) (sym (stored_frame r v q 0 some))

-- the second
second_rest : (r : RegionOf) (v : QueuesOf) (q : ℕ) → stored r (with_queue q (take 1 (queue_at v q) ++ drop 2 (queue_at v q)) v) ≡ with_frames q (take 1 (frames_at (stored r v) q) ++ drop 2 (frames_at (stored r v) q)) (stored r v)
second_rest r v q =
    rest_stored r v q (take 1 (queue_at v q) ++ drop 2 (queue_at v q))
    ∙ ap (λ (l : List (List ℕ)). with_frames q l (stored r v))
    (map-append (bytes_at r) (take 1 (queue_at v q)) (drop 2 (queue_at v q))
    ∙ ap (λ (l : List (List ℕ)). l ++ map (bytes_at r) (drop 2 (queue_at v q))) (sym (take-map (bytes_at r) 1 (queue_at v q)))
    ∙ ap (λ (l : List (List ℕ)). take 1 (map (bytes_at r) (queue_at v q)) ++ l) (sym (drop-map (bytes_at r) 2 (queue_at v q)))
    ∙ ap (λ (l : List (List ℕ)). take 1 l ++ drop 2 l) (sym (stored_at r v q)))

pub second_stored : (r : RegionOf) (v : QueuesOf) (q to : ℕ) → IsStored r v → IsApart v → 2 ≤ length (queue_at v q) → to < length v.queues
    → IsStored r (with_queue to (queue_at (with_queue q (take 1 (queue_at v q) ++ drop 2 (queue_at v q)) v) to ++ slot v q 1 ∷ []) (with_queue q (take 1 (queue_at v q) ++ drop 2 (queue_at v q)) v))
second_stored r v q to s apart two below =
    moved_stored r v (with_queue q (take 1 (queue_at v q) ++ drop 2 (queue_at v q)) v) (slot v q 1) to s (part_second v q apart two) refl (s.held q 1 (omega (arith, two))) (s.some q 1 (omega (arith, two)))
    (omega (arith, below, length-set v.queues q (take 1 (queue_at v q) ++ drop 2 (queue_at v q))))
    (omega (
      arith,
      ap occupied (second_rest r v q),
      ap blocks_of (stored_frame r v q 1 (omega (arith, two))),
      occupied_second (stored r v) q (omega (arith, one_of v q (omega (arith, two)), length-map v.queues (map (bytes_at r)))) (omega (arith, stored_length r v q, two)),
    ))

pub second_view : (r : RegionOf) (v : QueuesOf) (q to : ℕ) → 2 ≤ length (queue_at v q)
    → stored r (with_queue to (queue_at (with_queue q (take 1 (queue_at v q) ++ drop 2 (queue_at v q)) v) to ++ slot v q 1 ∷ []) (with_queue q (take 1 (queue_at v q) ++ drop 2 (queue_at v q)) v)) ≡ move_second q to (stored r v)
second_view r v q to two =
    append_stored r (with_queue q (take 1 (queue_at v q) ++ drop 2 (queue_at v q)) v) to (slot v q 1)
    ∙ ap (λ (f : FramesOf). append_to to (bytes_at r (slot v q 1)) f) (second_rest r v q)
    ∙ ap (λ (b : List ℕ). append_to to b (with_frames q (take 1 (frames_at (stored r v) q) ++ drop 2 (frames_at (stored r v) q)) (stored r v))) (sym (stored_frame r v q 1 (omega (arith, two))))

-- empty queues
none_in : (b : ℕ → List ℕ) (n : ℕ) → map (map b) (replicate n []) ≡ replicate n []
none_in b n =
    ext_get_or [] (map (map b) (replicate n [])) (replicate n []) (length-map (replicate n []) (map b) ∙ length-replicate {A = List ℕ} n [] ∙ sym (length-replicate {A = List (List ℕ)} n []))
    (λ a below. let few : a < n = omega (arith, below, length-map (replicate n []) (map b), length-replicate {A = List ℕ} n []) in
    get_or-map (map b) (replicate n []) a [] ∙ ap (map b) (get_or-replicate n a [] [] few) ∙ sym (get_or-replicate n a [] [] few))

pub start_view : (n blocks : ℕ) → stored (record { held = replicate blocks None; free = blocks }) (record { queues = replicate n []; places = blocks }) ≡ record { queues = replicate n []; free = blocks; limit = blocks }
start_view n blocks =
    let r : RegionOf = record { held = replicate blocks None; free = blocks } in
    ap (λ (l : List (List (List ℕ))). let f : FramesOf = record { queues = l; free = blocks; limit = blocks } in f) (none_in (bytes_at r) n)

none_queued : (n blocks a : ℕ) → queue_at (record { queues = replicate n []; places = blocks }) a ≡ []
none_queued n blocks a = by (cases_lt a n)
  where
    by : (a < n) ⊎ (n ≤ a) → queue_at (record { queues = replicate n []; places = blocks }) a ≡ []
    by (inl below) = get_or-replicate n a [] [] below
    by (inr past) = get_or_past (replicate n []) a [] (omega (arith, past, length-replicate {A = List ℕ} n []))

pub start_stored : (n blocks : ℕ) → IsStored (record { held = replicate blocks None; free = blocks }) (record { queues = replicate n []; places = blocks })
start_stored n blocks = record {
  size = length-replicate {A = Option (List ℕ)} blocks None;
  held = λ a k few. absurd (omega (arith, few, ap length (none_queued n blocks a)));
  some = λ a k few. absurd (omega (arith, few, ap length (none_queued n blocks a)));
  total = omega (arith, ap occupied (start_view n blocks), sum_by-replicate blocks_in n []);
}

-- the first frames of a queue are given up, so many
abbrev pub cleared : ℕ → ℕ → FramesOf → FramesOf
cleared k q w = record (with_frames q (drop k (frames_at w q)) w) { free = w.free + blocks_in (take k (frames_at w q)) }

pub clear_more : (k q : ℕ) (w : FramesOf) → q < length w.queues → k < length (frames_at w q) → drop_first q (cleared k q w) ≡ cleared (k + 1) q w
clear_more k q w below few =
    ap (λ (l : List (List ℕ)). let f : FramesOf = record { queues = slice_set (slice_set w.queues q (drop k (frames_at w q))) q (drop 1 l); free = w.free + blocks_in (take k (frames_at w q)) + blocks_of (slice_index_or l 0 []); limit = w.limit } in f) here
    ∙ ap (λ (l : List (List (List ℕ))). let f : FramesOf = record { queues = l; free = w.free + blocks_in (take k (frames_at w q)) + blocks_of (slice_index_or (drop k (frames_at w q)) 0 []); limit = w.limit } in f)
    (set-set w.queues q (drop k (frames_at w q)) (drop 1 (drop k (frames_at w q))) ∙ ap (λ (l : List (List ℕ)). slice_set w.queues q l) (drop-drop 1 k (frames_at w q)))
    ∙ ap (λ (n : ℕ). let f : FramesOf = record { queues = slice_set w.queues q (drop (k + 1) (frames_at w q)); free = n; limit = w.limit } in f)
    (omega (arith, sum_by_more blocks_of (frames_at w q) k [] few, ap blocks_of (get_or-drop k (frames_at w q) 0 [] ∙ ap (λ j. slice_index_or (frames_at w q) j []) {x = k + 0} {y = k} (omega arith))))
  where
    here : frames_at (cleared k q w) q ≡ drop k (frames_at w q)
    here = get_or-set_same w.queues q (drop k (frames_at w q)) [] below

pub clear_none : (q : ℕ) (w : FramesOf) → w ≡ cleared 0 q w
clear_none q w =
    ap (λ (l : List (List (List ℕ))). let f : FramesOf = record { queues = l; free = w.free; limit = w.limit } in f) (sym (set-get_or w.queues q []))
    ∙ ap (λ (n : ℕ). let f : FramesOf = record { queues = slice_set w.queues q (frames_at w q); free = n; limit = w.limit } in f) (omega arith)

drop_all : (l : List (List ℕ)) → drop (length l) l ≡ []
drop_all [] = refl
drop_all (x ∷ l) = drop_all l

pub clear_all : (q n : ℕ) (w : FramesOf) → n ≡ length (frames_at w q) → cleared n q w ≡ clear q w
clear_all q n w is =
    ap (λ (k : ℕ). cleared k q w) is
    ∙ ap (λ (l : List (List ℕ)). let f : FramesOf = record { queues = slice_set w.queues q l; free = w.free + blocks_in (take (length (frames_at w q)) (frames_at w q)); limit = w.limit } in f) (drop_all (frames_at w q))
    ∙ ap (λ (l : List (List ℕ)). let f : FramesOf = record { queues = slice_set w.queues q []; free = w.free + blocks_in l; limit = w.limit } in f) (take_all (length (frames_at w q)) (frames_at w q) (omega arith))

-- what is seen of the queues
pub seen_length : (f : FramesOf) (r : RegionOf) (v : QueuesOf) (a : ℕ) → stored r v ≡ f → length (frames_at f a) ≡ length (queue_at v a)
seen_length f r v a view = ap (λ (g : FramesOf). length (frames_at g a)) (sym view) ∙ stored_length r v a

pub seen_queues : (f : FramesOf) (r : RegionOf) (v : QueuesOf) → stored r v ≡ f → length f.queues ≡ length v.queues
seen_queues f r v view = ap (λ (g : FramesOf). length g.queues) (sym view) ∙ length-map v.queues (map (bytes_at r))

-- the same with names for what the calls left
pub dropped_by : (f : FramesOf) (r r' : RegionOf) (v v' : QueuesOf) (q x : ℕ) → stored r v ≡ f → IsStored r v → IsApart v → 1 ≤ length (frames_at f q) → x ≡ slot v q 0 → v' ≡ with_queue q (drop 1 (queue_at v q)) v → r' ≡ without x r
    → IsStored r' v' × (stored r' v' ≡ drop_first q f)
dropped_by f r r' v v' q x view s apart some x_is v_is r_is =
    let some' : 1 ≤ length (queue_at v q) = omega (arith, some, seen_length f r v q view) in
    let r_is' : r' ≡ without (slot v q 0) r = r_is ∙ ap (λ (y : ℕ). without y r) x_is in (
      subst (λ (w : QueuesOf). IsStored r' w) (sym v_is) (subst (λ (t : RegionOf). IsStored t (with_queue q (drop 1 (queue_at v q)) v)) (sym r_is') (dropped_stored r v q s apart some')),
      ap (λ (w : QueuesOf). stored r' w) v_is ∙ ap (λ (t : RegionOf). stored t (with_queue q (drop 1 (queue_at v q)) v)) r_is' ∙ dropped_view r v q apart some' ∙ ap (drop_first q) view,
    )

pub first_by : (f : FramesOf) (r : RegionOf) (v w v' : QueuesOf) (q to x : ℕ) → stored r v ≡ f → IsStored r v → IsApart v → 1 ≤ length (frames_at f q) → to < length f.queues → x ≡ slot v q 0 → w ≡ with_queue q (drop 1 (queue_at v q)) v → v' ≡ with_queue to (queue_at w to ++ x ∷ []) w
    → IsStored r v' × (stored r v' ≡ move_first q to f)
first_by f r v w v' q to x view s apart some below x_is w_is v_is =
    let some' : 1 ≤ length (queue_at v q) = omega (arith, some, seen_length f r v q view) in
    let is : v' ≡ with_queue to (queue_at (with_queue q (drop 1 (queue_at v q)) v) to ++ slot v q 0 ∷ []) (with_queue q (drop 1 (queue_at v q)) v)
    = v_is ∙ ap (λ (u : QueuesOf). with_queue to (queue_at u to ++ x ∷ []) u) w_is ∙ ap (λ (y : ℕ). with_queue to (queue_at (with_queue q (drop 1 (queue_at v q)) v) to ++ y ∷ []) (with_queue q (drop 1 (queue_at v q)) v)) x_is in (
      subst (λ (u : QueuesOf). IsStored r u) (sym is) (first_stored r v q to s apart some' (omega (arith, below, seen_queues f r v view))),
      ap (λ (u : QueuesOf). stored r u) is ∙ first_view r v q to some' ∙ ap (move_first q to) view,
    )

pub second_by : (f : FramesOf) (r : RegionOf) (v w v' : QueuesOf) (q to x : ℕ) → stored r v ≡ f → IsStored r v → IsApart v → 2 ≤ length (frames_at f q) → to < length f.queues → x ≡ slot v q 1 → w ≡ with_queue q (take 1 (queue_at v q) ++ drop 2 (queue_at v q)) v → v' ≡ with_queue to (queue_at w to ++ x ∷ []) w
    → IsStored r v' × (stored r v' ≡ move_second q to f)
second_by f r v w v' q to x view s apart two below x_is w_is v_is =
    let two' : 2 ≤ length (queue_at v q) = omega (arith, two, seen_length f r v q view) in
    let is : v' ≡ with_queue to (queue_at (with_queue q (take 1 (queue_at v q) ++ drop 2 (queue_at v q)) v) to ++ slot v q 1 ∷ []) (with_queue q (take 1 (queue_at v q) ++ drop 2 (queue_at v q)) v)
    = v_is ∙ ap (λ (u : QueuesOf). with_queue to (queue_at u to ++ x ∷ []) u) w_is ∙ ap (λ (y : ℕ). with_queue to (queue_at (with_queue q (take 1 (queue_at v q) ++ drop 2 (queue_at v q)) v) to ++ y ∷ []) (with_queue q (take 1 (queue_at v q) ++ drop 2 (queue_at v q)) v)) x_is in (
      subst (λ (u : QueuesOf). IsStored r u) (sym is) (second_stored r v q to s apart two' (omega (arith, below, seen_queues f r v view))),
      ap (λ (u : QueuesOf). stored r u) is ∙ second_view r v q to two' ∙ ap (move_second q to) view,
    )

pub first_fresh : (f : FramesOf) (r : RegionOf) (v w : QueuesOf) (q x : ℕ) → stored r v ≡ f → IsApart v → 1 ≤ length (frames_at f q) → x ≡ slot v q 0 → w ≡ with_queue q (drop 1 (queue_at v q)) v → IsNew x w
first_fresh f r v w q x view apart some x_is w_is =
    let fresh : IsNew (slot v q 0) (with_queue q (drop 1 (queue_at v q)) v) = part_new (slot v q 0) v (with_queue q (drop 1 (queue_at v q)) v) (part_pop v q apart (omega (arith, some, seen_length f r v q view))) in
    subst (λ (u : QueuesOf). IsNew x u) (sym w_is) (subst (λ (y : ℕ). IsNew y (with_queue q (drop 1 (queue_at v q)) v)) (sym x_is) fresh)

pub second_fresh : (f : FramesOf) (r : RegionOf) (v w : QueuesOf) (q x : ℕ) → stored r v ≡ f → IsApart v → 2 ≤ length (frames_at f q) → x ≡ slot v q 1 → w ≡ with_queue q (take 1 (queue_at v q) ++ drop 2 (queue_at v q)) v → IsNew x w
second_fresh f r v w q x view apart two x_is w_is =
    let fresh : IsNew (slot v q 1) (with_queue q (take 1 (queue_at v q) ++ drop 2 (queue_at v q)) v) = part_new (slot v q 1) v (with_queue q (take 1 (queue_at v q) ++ drop 2 (queue_at v q)) v) (part_second v q apart (omega (arith, two, seen_length f r v q view))) in
    subst (λ (u : QueuesOf). IsNew x u) (sym w_is) (subst (λ (y : ℕ). IsNew y (with_queue q (take 1 (queue_at v q) ++ drop 2 (queue_at v q)) v)) (sym x_is) fresh)

pub put_by : (f : FramesOf) (r r' : RegionOf) (v v' : QueuesOf) (q slip : ℕ) (bytes : List ℕ) → stored r v ≡ f → IsStored r v → slip < length r.held → held_at r slip ≡ None → 1 ≤ length bytes → blocks_of bytes ≤ r.free → q < length f.queues → r' ≡ with_put slip bytes r → v' ≡ with_queue q (queue_at v q ++ slip ∷ []) v
    → IsStored r' v' × (stored r' v' ≡ put_frame q bytes f)
put_by f r r' v v' q slip bytes view s below none some room q_below r_is v_is = (
  subst (λ (w : QueuesOf). IsStored r' w) (sym v_is) (subst (λ (t : RegionOf). IsStored t (with_queue q (queue_at v q ++ slip ∷ []) v)) (sym r_is) (put_stored r v slip q bytes s below none some room (omega (arith, q_below, seen_queues f r v view)))),
  ap (λ (w : QueuesOf). stored r' w) v_is ∙ ap (λ (t : RegionOf). stored t (with_queue q (queue_at v q ++ slip ∷ []) v)) r_is ∙ put_view r v slip q bytes s below none ∙ ap (put_frame q bytes) view,
)

pub start_by : (r : RegionOf) (v : QueuesOf) (n blocks : ℕ) → r ≡ record { held = replicate blocks None; free = blocks } → v ≡ record { queues = replicate n []; places = blocks }
    → IsStored r v × (stored r v ≡ record { queues = replicate n []; free = blocks; limit = blocks })
start_by r v n blocks r_is v_is =
    let r0 : RegionOf = record { held = replicate blocks None; free = blocks } in
    let v0 : QueuesOf = record { queues = replicate n []; places = blocks } in (
      subst (λ (u : QueuesOf). IsStored r u) (sym v_is) (subst (λ (t : RegionOf). IsStored t v0) (sym r_is) (start_stored n blocks)),
      ap (λ (u : QueuesOf). stored r u) v_is ∙ ap (λ (t : RegionOf). stored t v0) r_is ∙ start_view n blocks,
    )

pub clear_left : (k q n : ℕ) (f w : FramesOf) → w ≡ cleared k q f → q < length f.queues → n ≡ length (frames_at f q) → k < n → 1 ≤ length (frames_at w q)
clear_left k q n f w is below count few =
    omega (arith, ap (λ (u : FramesOf). length (frames_at u q)) is, ap length (get_or-set_same f.queues q (drop k (frames_at f q)) [] below), length-drop k (frames_at f q), count, few)

-- a frame in a queue has some bytes
pub frame_some : (f : FramesOf) (r : RegionOf) (v : QueuesOf) (q k x : ℕ) (out : List ℕ) → stored r v ≡ f → IsStored r v → k < length (frames_at f q) → x ≡ slot v q k → out ≡ bytes_at r x → 1 ≤ length out
frame_some f r v q k x out view s few x_is out_is =
    omega (arith, s.some q k (omega (arith, few, seen_length f r v q view)), ap (λ (y : ℕ). length (bytes_at r y)) x_is, ap length out_is)
