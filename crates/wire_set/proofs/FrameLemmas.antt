use Rattle.std.proofs.Common.{◌≡◌, ◌≢◌, ◌∙◌, sym, ap, ℕ, suc, ◌+◌, ◌<◌, ◌≤◌, List, [], ◌∷◌, ◌++◌, length, map, take, drop, arith, slice_index_or, ◌⊎◌, inl, inr}
use Rattle.std.proofs.lemmas.Bool.{cases_eq, cases_lt}
use Rattle.std.proofs.lemmas.List.{ext_get_or, get_or-set_other, get_or-set_same, get_or_past, get_or_append_left, get_or_at, get_or-replicate, length-set, length-map, length-append, length-drop, length-replicate, map-set, map-append, take-map, drop-map}
use Rattle.std.proofs.lemmas.List as lists
use Rattle.std.proofs.Math.ListN.{get_or-map}
use Rattle.std.proofs.lemmas.List.Sums.{sum_by-set, sum_by-append, sum_by-drop_more, sum_by-take-drop}
use Rattle.frame_region.specs.Regions.{RegionOf, bytes_at}
use Rattle.frame_region.specs.Sizes.{blocks_of}
use Rattle.wire_set.specs.Queues.{QueuesOf, queue_at, slot, IsApart, IsNew, with_queue}
use Rattle.wire_set.specs.Frames.{FramesOf, frames_at, frame, blocks_in, occupied, with_frames, append_to, stored}
use Rattle.wire_set.proofs.QueueLemmas.{drop_at, second_at, second_length, shift_second, shift_second_less, shift_second_gone}

-- a queue that is not empty is one of them
pub one_of : (v : QueuesOf) (q : ℕ) → 1 ≤ length (queue_at v q) → q < length v.queues
one_of v q some = by (cases_lt q (length v.queues))
  where
    by : (q < length v.queues) ⊎ (length v.queues ≤ q) → q < length v.queues
    by (inl below) = below
    by (inr past) = absurd (omega (arith, some, ap length (get_or_past v.queues q [] past)))

-- each slip of the new queues is one of the old ones in the same queue, and none is x
pub record IsPart (x : ℕ) (old new : QueuesOf) : Type 0 where
  pub each : (a k : ℕ) → k < length (queue_at new a) → (m : ℕ) × (m < length (queue_at old a)) × (slot new a k ≡ slot old a m) × (slot old a m ≢ x)

part_of : (v : QueuesOf) (q gone : ℕ) (rest : List ℕ) (shift : ℕ → ℕ) → IsApart v → gone < length (queue_at v q) → q < length v.queues
    → ((k : ℕ) → k < length rest → shift k < length (queue_at v q)) → ((k : ℕ) → k < length rest → slice_index_or rest k 0 ≡ slot v q (shift k)) → ((k : ℕ) → shift k ≡ gone → ⊥)
    → IsPart (slot v q gone) v (with_queue q rest v)
part_of v q gone rest shift apart within below less kept away = record { each = λ a k few. by a k few (cases_eq a q) }
  where
    by : (a k : ℕ) → k < length (queue_at (with_queue q rest v) a) → (a ≡ q) ⊎ (a ≡ q → ⊥)
        → (m : ℕ) × (m < length (queue_at v a)) × (slot (with_queue q rest v) a k ≡ slot v a m) × (slot v a m ≢ slot v q gone)
    by a k few (inl same) =
        let is : queue_at (with_queue q rest v) a ≡ rest = ap (queue_at (with_queue q rest v)) same ∙ get_or-set_same v.queues q rest [] below in
        let few' : k < length rest = omega (arith, few, ap length is) in (
          shift k,
          omega (arith, less k few', ap (λ b. length (queue_at v b)) same),
          ap (λ (l : List ℕ). slice_index_or l k 0) is ∙ kept k few' ∙ ap (λ b. slot v b (shift k)) (sym same),
          λ hit. away k (apart a q (shift k) gone (omega (arith, less k few', ap (λ b. length (queue_at v b)) same)) within hit).1,
        )
    by a k few (inr other) =
        let is : queue_at (with_queue q rest v) a ≡ queue_at v a = get_or-set_other v.queues q a rest [] other in
        let few' : k < length (queue_at v a) = omega (arith, few, ap length is) in
        (k, few', ap (λ (l : List ℕ). slice_index_or l k 0) is, λ hit. other (apart a q k gone few' within hit).0)

pub part_pop : (v : QueuesOf) (q : ℕ) → IsApart v → 1 ≤ length (queue_at v q) → IsPart (slot v q 0) v (with_queue q (drop 1 (queue_at v q)) v)
part_pop v q apart some =
    part_of v q 0 (drop 1 (queue_at v q)) (λ k. suc k) apart some (one_of v q some) (λ k few. omega (arith, few, length-drop 1 (queue_at v q))) (λ k few. drop_at (queue_at v q) k) (λ k same. omega (arith, same))

pub part_second : (v : QueuesOf) (q : ℕ) → IsApart v → 2 ≤ length (queue_at v q) → IsPart (slot v q 1) v (with_queue q (take 1 (queue_at v q) ++ drop 2 (queue_at v q)) v)
part_second v q apart two =
    part_of v q 1 (take 1 (queue_at v q) ++ drop 2 (queue_at v q)) shift_second apart (omega (arith, two)) (one_of v q (omega (arith, two)))
    (λ k few. shift_second_less k (length (take 1 (queue_at v q) ++ drop 2 (queue_at v q))) (length (queue_at v q)) few (second_length (queue_at v q) two) (omega (arith, few)))
    (λ k few. second_at (queue_at v q) k two) shift_second_gone

pub part_new : (x : ℕ) (v w : QueuesOf) → IsPart x v w → IsNew x w
part_new x v w part a k few hit = let m = part.each a k few in m.3 (sym m.2 ∙ hit)

-- a slip at the end of a queue: each one is an old one, or it
pub more : (w : QueuesOf) (to x a k : ℕ) → to < length w.queues → k < length (queue_at (with_queue to (queue_at w to ++ x ∷ []) w) a)
    → ((k < length (queue_at w a)) × (slot (with_queue to (queue_at w to ++ x ∷ []) w) a k ≡ slot w a k)) ⊎ (slot (with_queue to (queue_at w to ++ x ∷ []) w) a k ≡ x)
more w to x a k below few = by (cases_eq a to)
  where
    w' : QueuesOf
    w' = with_queue to (queue_at w to ++ x ∷ []) w

    in_to : a ≡ to → (k < length (queue_at w to)) ⊎ (length (queue_at w to) ≤ k) → ((k < length (queue_at w a)) × (slot w' a k ≡ slot w a k)) ⊎ (slot w' a k ≡ x)
    in_to same (inl old) =
        let is : queue_at w' a ≡ queue_at w to ++ x ∷ [] = ap (queue_at w') same ∙ get_or-set_same w.queues to (queue_at w to ++ x ∷ []) [] below in
        inl (
          omega (arith, old, ap (λ b. length (queue_at w b)) same),
          ap (λ (l : List ℕ). slice_index_or l k 0) is ∙ get_or_append_left (queue_at w to) (x ∷ []) 0 k old ∙ ap (λ b. slot w b k) (sym same),
        )
    in_to same (inr end) =
        let is : queue_at w' a ≡ queue_at w to ++ x ∷ [] = ap (queue_at w') same ∙ get_or-set_same w.queues to (queue_at w to ++ x ∷ []) [] below in
        inr (ap (λ (l : List ℕ). slice_index_or l k 0) is ∙ get_or_at (queue_at w to) x [] 0 k (omega (arith, end, few, ap length is, length-append (queue_at w to) (x ∷ []))))

    by : (a ≡ to) ⊎ (a ≡ to → ⊥) → ((k < length (queue_at w a)) × (slot w' a k ≡ slot w a k)) ⊎ (slot w' a k ≡ x)
    by (inl same) = in_to same (cases_lt k (length (queue_at w to)))
    by (inr other) =
        let is : queue_at w' a ≡ queue_at w a = get_or-set_other w.queues to a (queue_at w to ++ x ∷ []) [] other in
        inl (omega (arith, few, ap length is), ap (λ (l : List ℕ). slice_index_or l k 0) is)

-- what is stored of a queue
pub stored_at : (r : RegionOf) (v : QueuesOf) (a : ℕ) → frames_at (stored r v) a ≡ map (bytes_at r) (queue_at v a)
stored_at r v a = get_or-map (map (bytes_at r)) v.queues a []

pub stored_length : (r : RegionOf) (v : QueuesOf) (a : ℕ) → length (frames_at (stored r v) a) ≡ length (queue_at v a)
stored_length r v a = ap length (stored_at r v a) ∙ length-map (queue_at v a) (bytes_at r)

pub stored_frame : (r : RegionOf) (v : QueuesOf) (a k : ℕ) → k < length (queue_at v a) → frame (stored r v) a k ≡ bytes_at r (slot v a k)
stored_frame r v a k few = ap (λ (l : List (List ℕ)). slice_index_or l k []) (stored_at r v a) ∙ lists.get_or-map (bytes_at r) (queue_at v a) k 0 [] few

pub rest_stored : (r : RegionOf) (v : QueuesOf) (q : ℕ) (rest : List ℕ) → stored r (with_queue q rest v) ≡ with_frames q (map (bytes_at r) rest) (stored r v)
rest_stored r v q rest = ap (λ (l : List (List (List ℕ))). let w : FramesOf = record { queues = l; free = r.free; limit = v.places } in w) (map-set (map (bytes_at r)) v.queues q rest)

pub append_stored : (r : RegionOf) (v : QueuesOf) (q x : ℕ) → stored r (with_queue q (queue_at v q ++ x ∷ []) v) ≡ append_to q (bytes_at r x) (stored r v)
append_stored r v q x =
    rest_stored r v q (queue_at v q ++ x ∷ [])
    ∙ ap (λ (l : List (List ℕ)). with_frames q l (stored r v)) (map-append (bytes_at r) (queue_at v q) (x ∷ []) ∙ ap (λ (l : List (List ℕ)). l ++ bytes_at r x ∷ []) (sym (stored_at r v q)))

-- frames that are under the same slips in another region
pub same_frames : (r r' : RegionOf) (v : QueuesOf) → ((a k : ℕ) → k < length (queue_at v a) → bytes_at r' (slot v a k) ≡ bytes_at r (slot v a k)) → (stored r' v).queues ≡ (stored r v).queues
same_frames r r' v same =
    ext_get_or [] (map (map (bytes_at r')) v.queues) (map (map (bytes_at r)) v.queues) (length-map v.queues (map (bytes_at r')) ∙ sym (length-map v.queues (map (bytes_at r))))
    (λ a below. stored_at r' v a
    ∙ ext_get_or [] (map (bytes_at r') (queue_at v a)) (map (bytes_at r) (queue_at v a)) (length-map (queue_at v a) (bytes_at r') ∙ sym (length-map (queue_at v a) (bytes_at r)))
    (λ k few. let few' : k < length (queue_at v a) = omega (arith, few, length-map (queue_at v a) (bytes_at r')) in
    lists.get_or-map (bytes_at r') (queue_at v a) k 0 [] few' ∙ same a k few' ∙ sym (lists.get_or-map (bytes_at r) (queue_at v a) k 0 [] few'))
    ∙ sym (stored_at r v a))

-- the blocks of the frames
occupied_set : (w : FramesOf) (q : ℕ) (frames : List (List ℕ)) → q < length w.queues → occupied (with_frames q frames w) + blocks_in (frames_at w q) ≡ occupied w + blocks_in frames
occupied_set w q frames below = sum_by-set blocks_in w.queues q frames [] below

pub occupied_append : (w : FramesOf) (q : ℕ) (bytes : List ℕ) → q < length w.queues → occupied (append_to q bytes w) ≡ occupied w + blocks_of bytes
occupied_append w q bytes below = omega (arith, occupied_set w q (frames_at w q ++ bytes ∷ []) below, sum_by-append blocks_of (frames_at w q) (bytes ∷ []))

pub occupied_first : (w : FramesOf) (q : ℕ) → q < length w.queues → 1 ≤ length (frames_at w q) → occupied (with_frames q (drop 1 (frames_at w q)) w) + blocks_of (frame w q 0) ≡ occupied w
occupied_first w q below some = omega (arith, occupied_set w q (drop 1 (frames_at w q)) below, sum_by-drop_more blocks_of (frames_at w q) 0 [] some)

pub occupied_second : (w : FramesOf) (q : ℕ) → q < length w.queues → 2 ≤ length (frames_at w q) → occupied (with_frames q (take 1 (frames_at w q) ++ drop 2 (frames_at w q)) w) + blocks_of (frame w q 1) ≡ occupied w
occupied_second w q below two =
    omega (
      arith,
      occupied_set w q (take 1 (frames_at w q) ++ drop 2 (frames_at w q)) below,
      sum_by-append blocks_of (take 1 (frames_at w q)) (drop 2 (frames_at w q)),
      sum_by-drop_more blocks_of (frames_at w q) 1 [] (omega (arith, two)),
      sum_by-take-drop blocks_of (frames_at w q) 1,
    )
