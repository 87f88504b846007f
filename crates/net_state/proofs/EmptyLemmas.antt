-- Where no hand is full, the wires are empty exactly where all blocks are free.

use Rattle.std.specs.Prelude.{◌≡◌, ◌⊎◌, ◌+◌, ◌-◌, ◌/◌, ◌%◌, ◌==◌, ◌<◌, ◌≤◌, ℕ, suc, nat_lt, not, List, [], ◌∷◌, All, length, slice_index_or, Bool, true, false, refl}
use Rattle.std.specs.List.{list_any, sum_by}
use Rattle.std.proofs.Common.{true≢false, sym, ◌∙◌, ap, inl, inr, arith}
use Rattle.std.proofs.lemmas.Bool.{and_from, eq-eqb, eqb-true, lt-ltb, not-true, cases_lt}
use Rattle.std.proofs.lemmas.List.{get_or_past}
use Rattle.std.proofs.lemmas.List.Elements.{All-head}
use Rattle.std.proofs.lemmas.List.Folds.{list_any_at, list_any_none}
use Rattle.std.proofs.lemmas.List.FromFn.{get_or-range_with_len, length-range_with_len}
use Rattle.std.proofs.lemmas.List.Sums.{get_or-le-sum_by, sum_by-cons}
use Rattle.port_monitor.specs.Histories.{externals}
use Rattle.frame_region.specs.Sizes.{blocks_of}
use Rattle.wire_set.specs.Frames.{FramesOf, frames_at, blocks_in, occupied}
use Rattle.wire_set.specs.WireState.{is_link, place, side_at, wire_at, hand_of}
use Rattle.switch_core.proofs.SampleLemmas.{port_at}
use Rattle.net_state.specs.Fabric.{FabricOf, station, count, places, full_hands, has_frame, has_frame_for, are_wires_empty}
use Rattle.net_state.specs.Fits.{Fits, wires_at_first}
use Rattle.net_state.proofs.ReadyLemmas.{all_empty}
use Rattle.net_state.proofs.HoldLemmas.{empty_hand, frame_here}
use Rattle.net_state.proofs.WiresLemmas.{link_ports}

-- of the external ports
pub none_external : (q : ℕ → Bool) → list_any q externals ≡ false → (p : ℕ) → 1 ≤ p → p ≤ 12 → q p ≡ false
none_external q none p least most = by (q p) refl
  where
    by : (b : Bool) → q p ≡ b → q p ≡ false
    by true is =
        let at : slice_index_or externals (p - 1) 0 ≡ p = port_at (p - 1) (omega (arith, least, most)) ∙ omega (arith, least) in
        absurd (true≢false (sym (list_any_at q externals (p - 1) 0 (omega (arith, least, most)) (ap q at ∙ is)) ∙ none))
    by false is = is

-- a frame occupies a block, so frames that occupy none are none
empty_queue : (xs : List (List ℕ)) → All (λ x. 1 ≤ length x) xs → blocks_in xs ≤ 0 → xs ≡ []
empty_queue [] some none = refl
empty_queue (x ∷ xs) some none =
    let one = All-head (λ (y : List ℕ). 1 ≤ length y) x xs some in
    let sum : blocks_in (x ∷ xs) ≡ blocks_of x + blocks_in xs = sum_by-cons blocks_of x xs in
    absurd (omega (arith, one, sum, none))

none_at : (f : FramesOf) (q : ℕ) → All (λ x. 1 ≤ length x) (frames_at f q) → occupied f ≡ 0 → frames_at f q ≡ []
none_at f q some none = by (cases_lt q (length f.queues)) where
  by : (q < length f.queues) ⊎ (length f.queues ≤ q) → frames_at f q ≡ []
  by (inl below) = let le = get_or-le-sum_by blocks_in f.queues q [] below in empty_queue (frames_at f q) some (omega (arith, le, none))
  by (inr past) = get_or_past f.queues q [] past

none_occupied : (queues : List (List (List ℕ))) → ((q : ℕ) → slice_index_or queues q [] ≡ []) → sum_by blocks_in queues ≡ 0
none_occupied [] none = refl
none_occupied (x ∷ xs) none =
    let here : blocks_in x ≡ 0 = ap blocks_in (none 0) in
    let rest = none_occupied xs (λ q. none (suc q)) in
    let sum = sum_by-cons blocks_in x xs in
    omega (arith, here, rest, sum)

-- no wire has a frame, for any of its ports
empty_from : (f : FabricOf) → ((s p : ℕ) → has_frame f s p ≡ false) → are_wires_empty f ≡ true
empty_from f none = ap not (list_any_none (has_frame_for f) (places f) (λ k d low. list_any_none (has_frame f (slice_index_or (places f) k d)) externals (λ i e below. none (slice_index_or (places f) k d) (slice_index_or externals i e))))

no_frame : (f : FabricOf) (s p : ℕ) → wire_at f.wires (place s p) ≡ [] → has_frame f s p ≡ false
no_frame f s p none = by (has_frame f s p) refl where
  by : (b : Bool) → has_frame f s p ≡ b → has_frame f s p ≡ false
  by false is = is
  by true is = let some = (frame_here f s p is).1 in let zero_is = ap (length {A = List ℕ}) none in absurd (omega (arith, some, zero_is))

-- where the wires are empty, a port with a link has no frame
no_frame_at : (f : FabricOf) (s p : ℕ) → are_wires_empty f ≡ true → s < count f → 1 ≤ p → p ≤ 12 → has_frame f s p ≡ false
no_frame_at f s p empty below least most =
    let at : slice_index_or (places f) s 0 ≡ s = get_or-range_with_len 0 (count f) s 0 below ∙ omega arith in
    let size = length-range_with_len 0 (count f) in
    none_external (has_frame f s) (by (has_frame_for f s) refl at size) p least most
  where
    by : (b : Bool) → has_frame_for f s ≡ b → slice_index_or (places f) s 0 ≡ s → length (places f) ≡ count f → has_frame_for f s ≡ false
    by false is at size = is
    by true is at size = absurd (true≢false (sym (list_any_at (has_frame_for f) (places f) s 0 (omega (arith, below, size)) (ap (has_frame_for f) at ∙ is)) ∙ not-true (list_any (has_frame_for f) (places f)) empty))

-- then no queue has one
no_queue : (f : FabricOf) → Fits f → full_hands f ≡ 0 → are_wires_empty f ≡ true → (q : ℕ) → frames_at f.wires.frames q ≡ []
no_queue f fits none empty q = by (frames_at f.wires.frames q) refl where
  here : (x : List ℕ) (xs : List (List ℕ)) → frames_at f.wires.frames q ≡ x ∷ xs → (is_link (side_at (wires_at_first f.script) q).far ≡ true) ⊎ (q % 13 ≡ 0) → frames_at f.wires.frames q ≡ []
  here x xs is (inl link) =
      let ports = link_ports f.script fits.script q link in
      let at : place (q / 13) (q % 13) ≡ q = omega arith in
      let linked : is_link (side_at f.wires (place (q / 13) (q % 13))).far ≡ true = ap is_link (ap (λ k. (side_at f.wires k).far) at ∙ fits.fars q) ∙ link in
      let some : nat_lt 0 (length (wire_at f.wires (place (q / 13) (q % 13)))) ≡ true = ap (λ k. nat_lt 0 (length (wire_at f.wires k))) at ∙ ap (λ ys. nat_lt 0 (length ys)) is ∙ lt-ltb 0 (length (x ∷ xs)) (omega arith) in
      absurd (true≢false (sym (and_from (is_link (side_at f.wires (place (q / 13) (q % 13))).far) (nat_lt 0 (length (wire_at f.wires (place (q / 13) (q % 13))))) linked some)
      ∙ no_frame_at f (q / 13) (q % 13) empty ports.0 ports.1 ports.2))
  here x xs is (inr own) = by_place (cases_lt (q / 13) (count f)) where
    by_place : (q / 13 < count f) ⊎ (count f ≤ q / 13) → frames_at f.wires.frames q ≡ []
    by_place (inl below) =
        let at : place (q / 13) 0 ≡ q = omega (arith, own) in
        sym (ap (frames_at f.wires.frames) at) ∙ empty_hand (station f (q / 13)).hand (hand_of f.wires (q / 13)) (all_empty f none (q / 13)) (fits.hands (q / 13) below).holds
    by_place (inr past) = let size = fits.wires_sound.frames.queues in get_or_past f.wires.frames.queues q [] (omega (arith, past, size))

  by : (xs : List (List ℕ)) → frames_at f.wires.frames q ≡ xs → frames_at f.wires.frames q ≡ []
  by [] is = is
  by (x ∷ xs) is = here x xs is ((fits.wires_sound.frames.each q).linked (let size = ap (length {A = List ℕ}) is in omega (arith, size)))

-- all blocks are free exactly where the wires are empty
pub wires_empty_is : (f : FabricOf) → Fits f → full_hands f ≡ 0 → (f.wires.frames.free == f.script.limits.blocks) ≡ are_wires_empty f
wires_empty_is f fits none = by (f.wires.frames.free == f.script.limits.blocks) refl (are_wires_empty f) refl where
  by : (a : Bool) → (f.wires.frames.free == f.script.limits.blocks) ≡ a → (b : Bool) → are_wires_empty f ≡ b → (f.wires.frames.free == f.script.limits.blocks) ≡ are_wires_empty f
  by true is b empty =
      let free = eqb-true f.wires.frames.free f.script.limits.blocks is in
      let limit = fits.wires_sound.frames.limit in
      let blocks = fits.wires_sound.frames.blocks in
      let zero_is : occupied f.wires.frames ≡ 0 = omega (arith, free, limit, blocks) in
      is ∙ sym (empty_from f (λ s p. no_frame f s p (none_at f.wires.frames (place s p) (fits.wires_sound.frames.each (place s p)).bytes zero_is)))
  by false is true empty =
      let zero_is : occupied f.wires.frames ≡ 0 = none_occupied f.wires.frames.queues (no_queue f fits none empty) in
      let limit = fits.wires_sound.frames.limit in
      let blocks = fits.wires_sound.frames.blocks in
      absurd (true≢false (sym (eq-eqb f.wires.frames.free f.script.limits.blocks (omega (arith, zero_is, limit, blocks))) ∙ is))
  by false is false empty = is ∙ sym empty
