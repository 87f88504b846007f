-- Frames on wires: what is put stays and comes, and what is taken goes to the hand.

use Rattle.std.specs.Prelude.{◌≡◌, ◌≢◌, ◌⊎◌, ◌<◌, ◌≤◌, ℕ, nat_lt, not, List, [], ◌∷◌, ◌++◌, length, take, drop, slice_index_or, slice_set, cond, Bool, true, false, refl}
use Rattle.std.specs.List.{list_any}
use Rattle.std.proofs.Common.{true≢false, sym, ◌∙◌, ap, subst, inl, inr, arith}
use Rattle.std.proofs.lemmas.Bool.{false≢true, cases_eq, cases_lt, or_parts}
use Rattle.std.proofs.lemmas.List.{get_or-set_other, get_or-set_same, get_or_past, length-set}
use Rattle.std.proofs.lemmas.List.Folds.{list_any-append}
use Rattle.frame_region.specs.Sizes.{blocks_of}
use Rattle.wire_set.specs.declared.side.Loss.TheVariants.{Down, Told, NoRoom}
use Rattle.wire_set.specs.declared.side.Put.{Put}
use Rattle.wire_set.specs.declared.side.Put.TheVariants.{Kept, Lost}
use Rattle.wire_set.specs.Frames.{FramesOf, frames_at, frame, with_frames, append_to, put_frame, move_first, move_second}
use Rattle.wire_set.specs.WireState.{WiresOf, place, side_at, wire_at, wire_out, is_link, far_place, with_side, less_to_lose, less_to_swap, put_into, what_becomes, is_second, taken_frame, held_from, is_copied, before_copy, copied_from, take_from}
use Rattle.wire_set.proofs.AgreeLemmas.{SameLinks, side_same}
use Rattle.topo_report.proofs.Members.{In, in_left, in_right}
use Rattle.switch_core.specs.Bytes.{BytesOut}
use Rattle.net_state.specs.declared.hand.Hand.{Hand}
use Rattle.net_state.specs.declared.hand.Hand.TheVariants as hand
use Rattle.net_state.specs.Effects.{put_out, all_put_out, released}
use Rattle.net_state.proofs.QueueLemmas.{if_both, release_elsewhere}
use Rattle.net_state.proofs.HoldLemmas.{held_is}
use Rattle.net_state.specs.Lines.{loss_line, lost_line, lost_lines}
use Rattle.net_settling.specs.Disturbances.{is_either, is_lost_by}

-- bytes are on a wire
abbrev pub On : ℕ → List ℕ → WiresOf → Type 0
On q b w = In b (wire_at w q)

-- what is in a queue stays in it where the queue only gets other frames with it
in_past : (v : FramesOf) (q : ℕ) (b : List ℕ) → length v.queues ≤ q → In b (frames_at v q) → ⊥
in_past v q b past i = subst (In b) (get_or_past v.queues q [] past) i

with_keeps : (v : FramesOf) (a q : ℕ) (xs : List (List ℕ)) (b : List ℕ) → (q ≡ a → In b (frames_at v q) → In b xs) → In b (frames_at v q) → In b (frames_at (with_frames a xs v) q)
with_keeps v a q xs b goes i = by (cases_eq q a) (cases_lt q (length v.queues))
  where
    by : (q ≡ a) ⊎ (q ≡ a → ⊥) → (q < length v.queues) ⊎ (length v.queues ≤ q) → In b (frames_at (with_frames a xs v) q)
    by (inl is) (inl low) = subst (In b) (sym (ap (λ n. slice_index_or (slice_set v.queues n xs) q []) (sym is) ∙ get_or-set_same v.queues q xs [] low)) (goes is i)
    by (inl is) (inr past) = absurd (in_past v q b past i)
    by (inr other) low = subst (In b) (sym (get_or-set_other v.queues a q xs [] other)) i

append_keeps : (v : FramesOf) (a q : ℕ) (new b : List ℕ) → In b (frames_at v q) → In b (frames_at (append_to a new v) q)
append_keeps v a q new b i = with_keeps v a q (frames_at v a ++ new ∷ []) b (λ is j. in_left b (frames_at v a) (new ∷ []) (subst (λ (n : ℕ). In b (frames_at v n)) is j)) i

append_comes : (v : FramesOf) (a : ℕ) (new : List ℕ) → a < length v.queues → In new (frames_at (append_to a new v) a)
append_comes v a new low = subst (In new) (sym (get_or-set_same v.queues a (frames_at v a ++ new ∷ []) [] low)) (in_right new (frames_at v a) (new ∷ []) (inl refl))

-- a frame that is put leaves all others
pub put_keeps : (from wire q : ℕ) (new b : List ℕ) (w : WiresOf) → On q b w → On q b (put_into from wire new w)
put_keeps from wire q new b w i =
    if_both (not (side_at w from).is_up) (On q b) w _ i
    (if_both (nat_lt 0 (side_at w wire).lose) (On q b) (with_side wire (less_to_lose (side_at w wire)) w) _ i
    (if_both (nat_lt w.frames.free (blocks_of new)) (On q b) w (record w { frames = put_frame wire new w.frames }) i
    (append_keeps w.frames wire q new b i)))

pub out_keeps : (s q : ℕ) (x : BytesOut) (b : List ℕ) (w : WiresOf) → On q b w → On q b (put_out s x w)
out_keeps s q x b w i = if_both (is_link (side_at w (place s x.port)).far) (On q b) (put_into (place s x.port) (wire_out w s x.port) x.bytes w) w (put_keeps (place s x.port) (wire_out w s x.port) q x.bytes b w i) i

pub all_out_keeps : (s q : ℕ) (xs : List BytesOut) (b : List ℕ) (w : WiresOf) → On q b w → On q b (all_put_out s xs w)
all_out_keeps s q [] b w i = i
all_out_keeps s q (x ∷ xs) b w i = all_out_keeps s q xs b (put_out s x w) (out_keeps s q x b w i)

-- and comes to the wire where it is not lost
put_comes : (from wire : ℕ) (new : List ℕ) (w : WiresOf) → (side_at w from).is_up ≡ true → (side : ℕ) (port : ℕ) → list_any (is_lost_by is_either) (loss_line side port (what_becomes from wire new w)) ≡ false → wire < length w.frames.queues → On wire new (put_into from wire new w)
put_comes from wire new w up side port none low = by_up (side_at w from).is_up up none
  where
    rest : WiresOf
    rest = cond (nat_lt w.frames.free (blocks_of new)) w (record w { frames = put_frame wire new w.frames })

    rest_becomes : Put
    rest_becomes = cond (nat_lt w.frames.free (blocks_of new)) (Lost (NoRoom (blocks_of new) w.frames.free)) Kept

    by_room : (b : Bool) → list_any (is_lost_by is_either) (loss_line side port (cond b (Lost (NoRoom (blocks_of new) w.frames.free)) Kept)) ≡ false → On wire new (cond b w (record w { frames = put_frame wire new w.frames }))
    by_room true e = absurd (true≢false e)
    by_room false e = append_comes w.frames wire new low

    by_told : (b : Bool) → list_any (is_lost_by is_either) (loss_line side port (cond b (Lost Told) rest_becomes)) ≡ false → On wire new (cond b (with_side wire (less_to_lose (side_at w wire)) w) rest)
    by_told true e = absurd (true≢false e)
    by_told false e = by_room (nat_lt w.frames.free (blocks_of new)) e

    by_up : (b : Bool) → b ≡ true → list_any (is_lost_by is_either) (loss_line side port (cond (not b) (Lost Down) (cond (nat_lt 0 (side_at w wire).lose) (Lost Told) rest_becomes))) ≡ false → On wire new (cond (not b) w (cond (nat_lt 0 (side_at w wire).lose) (with_side wire (less_to_lose (side_at w wire)) w) rest))
    by_up true is e = by_told (nat_lt 0 (side_at w wire).lose) e
    by_up false is e = absurd (false≢true is)

-- links stay as they were while frames are put
pub put_links : (from wire : ℕ) (new : List ℕ) (w : WiresOf) → SameLinks w (put_into from wire new w)
put_links from wire new w =
    if_both (not (side_at w from).is_up) (SameLinks w) w _ (record { far = λ b. refl; up = λ b. refl })
    (if_both (nat_lt 0 (side_at w wire).lose) (SameLinks w) (with_side wire (less_to_lose (side_at w wire)) w) _ (side_same w wire (less_to_lose (side_at w wire)) refl refl)
    (if_both (nat_lt w.frames.free (blocks_of new)) (SameLinks w) w (record w { frames = put_frame wire new w.frames }) (record { far = λ b. refl; up = λ b. refl }) (record { far = λ b. refl; up = λ b. refl })))

pub out_links : (s : ℕ) (x : BytesOut) (w : WiresOf) → SameLinks w (put_out s x w)
out_links s x w = if_both (is_link (side_at w (place s x.port)).far) (SameLinks w) (put_into (place s x.port) (wire_out w s x.port) x.bytes w) w (put_links (place s x.port) (wire_out w s x.port) x.bytes w) (record { far = λ b. refl; up = λ b. refl })

pub links_then : (w u v : WiresOf) → SameLinks w u → SameLinks u v → SameLinks w v
links_then w u v a b = record { far = λ n. b.far n ∙ a.far n; up = λ n. b.up n ∙ a.up n }

pub all_out_links : (s : ℕ) (xs : List BytesOut) (w : WiresOf) → SameLinks w (all_put_out s xs w)
all_out_links s [] w = record { far = λ b. refl; up = λ b. refl }
all_out_links s (x ∷ xs) w = links_then w (put_out s x w) (all_put_out s xs (put_out s x w)) (out_links s x w) (all_out_links s xs (put_out s x w))

put_size : (from wire : ℕ) (new : List ℕ) (w : WiresOf) → length (put_into from wire new w).frames.queues ≡ length w.frames.queues
put_size from wire new w =
    if_both (not (side_at w from).is_up) (λ u. length u.frames.queues ≡ length w.frames.queues) w _ refl
    (if_both (nat_lt 0 (side_at w wire).lose) (λ u. length u.frames.queues ≡ length w.frames.queues) (with_side wire (less_to_lose (side_at w wire)) w) _ refl
    (if_both (nat_lt w.frames.free (blocks_of new)) (λ u. length u.frames.queues ≡ length w.frames.queues) w (record w { frames = put_frame wire new w.frames }) refl
    (length-set w.frames.queues wire (frames_at w.frames wire ++ new ∷ []))))

out_size : (s : ℕ) (x : BytesOut) (w : WiresOf) → length (put_out s x w).frames.queues ≡ length w.frames.queues
out_size s x w = if_both (is_link (side_at w (place s x.port)).far) (λ u. length u.frames.queues ≡ length w.frames.queues) (put_into (place s x.port) (wire_out w s x.port) x.bytes w) w (put_size (place s x.port) (wire_out w s x.port) x.bytes w) refl

-- So what goes out by a port whose link is up comes to the wire, where nothing is lost.
here_comes : (s : ℕ) (x : BytesOut) (w : WiresOf) → is_link (side_at w (place s x.port)).far ≡ true → (side_at w (place s x.port)).is_up ≡ true → list_any (is_lost_by is_either) (lost_line s x w) ≡ false → wire_out w s x.port < length w.frames.queues → On (wire_out w s x.port) x.bytes (put_out s x w)
here_comes s x w link up none low = by (is_link (side_at w (place s x.port)).far) link none
  where
    by : (b : Bool) → b ≡ true → list_any (is_lost_by is_either) (cond b (loss_line s x.port (what_becomes (place s x.port) (wire_out w s x.port) x.bytes w)) []) ≡ false → On (wire_out w s x.port) x.bytes (cond b (put_into (place s x.port) (wire_out w s x.port) x.bytes w) w)
    by true is e = put_comes (place s x.port) (wire_out w s x.port) x.bytes w up s x.port e low
    by false is e = absurd (false≢true is)

pub all_out_comes : (s : ℕ) (xs : List BytesOut) (x : BytesOut) (w : WiresOf) → In x xs → is_link (side_at w (place s x.port)).far ≡ true → (side_at w (place s x.port)).is_up ≡ true → list_any (is_lost_by is_either) (lost_lines s xs w) ≡ false
    → wire_out w s x.port < length w.frames.queues → On (wire_out w s x.port) x.bytes (all_put_out s xs w)
all_out_comes s [] x w i link up none low = absurd i
all_out_comes s (y ∷ ys) x w i link up none low = by (λ j. all_out_comes s ys x (put_out s y w) j) i
  where
    parts : (list_any (is_lost_by is_either) (lost_line s y w) ≡ false) × (list_any (is_lost_by is_either) (lost_lines s ys (put_out s y w)) ≡ false)
    parts = or_parts (list_any (is_lost_by is_either) (lost_line s y w)) (list_any (is_lost_by is_either) (lost_lines s ys (put_out s y w))) (sym (list_any-append (is_lost_by is_either) (lost_line s y w) (lost_lines s ys (put_out s y w))) ∙ none)

    same : SameLinks w (put_out s y w)
    same = out_links s y w

    out : wire_out (put_out s y w) s x.port ≡ wire_out w s x.port
    out = ap far_place (same.far (place s x.port))

    Later : Type 0
    Later = In x ys → is_link (side_at (put_out s y w) (place s x.port)).far ≡ true → (side_at (put_out s y w) (place s x.port)).is_up ≡ true → list_any (is_lost_by is_either) (lost_lines s ys (put_out s y w)) ≡ false
        → wire_out (put_out s y w) s x.port < length (put_out s y w).frames.queues → On (wire_out (put_out s y w) s x.port) x.bytes (all_put_out s ys (put_out s y w))

    by : Later → (x ≡ y) ⊎ In x ys → On (wire_out w s x.port) x.bytes (all_put_out s ys (put_out s y w))
    by rest (inl is) =
        all_out_keeps s (wire_out w s x.port) ys x.bytes (put_out s y w)
        (subst (λ (z : BytesOut). On (wire_out w s x.port) x.bytes (put_out s z w)) is
        (here_comes s x w link up (subst (λ (z : BytesOut). list_any (is_lost_by is_either) (lost_line s z w) ≡ false) (sym is) parts.0) low))
    by rest (inr later) =
        let size = out_size s y w in
        subst (λ (q : ℕ). On q x.bytes (all_put_out s ys (put_out s y w))) out
        (rest later (ap is_link (same.far (place s x.port)) ∙ link) (same.up (place s x.port) ∙ up) parts.1 (omega (arith, out, size, low)))

-- what is in hand is given up
pub released_keeps : (h : Hand) (s q : ℕ) (b : List ℕ) (w : WiresOf) → q ≢ place s 0 → On q b w → On q b (released h s w)
released_keeps hand.Empty s q b w other i = i
released_keeps (hand.Clock now samples) s q b w other i = i
released_keeps (hand.Frame port) s q b w other i = subst (In b) (sym (release_elsewhere (place s 0) q w other)) i

pub released_links : (h : Hand) (s : ℕ) (w : WiresOf) → SameLinks w (released h s w)
released_links hand.Empty s w = record { far = λ b. refl; up = λ b. refl }
released_links (hand.Clock now samples) s w = record { far = λ b. refl; up = λ b. refl }
released_links (hand.Frame port) s w = record { far = λ b. refl; up = λ b. refl }

pub released_size : (h : Hand) (s : ℕ) (w : WiresOf) → length (released h s w).frames.queues ≡ length w.frames.queues
released_size hand.Empty s w = refl
released_size (hand.Clock now samples) s w = refl
released_size (hand.Frame port) s w = length-set w.frames.queues (place s 0) []

-- A frame is taken: what was on the wire is on it, or in hand.
first_or : (b : List ℕ) (xs : List (List ℕ)) → In b xs → In b (drop 1 xs) ⊎ (b ≡ slice_index_or xs 0 [])
first_or b [] i = absurd i
first_or b (x ∷ xs) (inl is) = inr is
first_or b (x ∷ xs) (inr i) = inl i

second_or : (b : List ℕ) (xs : List (List ℕ)) → In b xs → In b (take 1 xs ++ drop 2 xs) ⊎ (b ≡ slice_index_or xs 1 [])
second_or b [] i = absurd i
second_or b (x ∷ []) (inl is) = inl (inl is)
second_or b (x ∷ []) (inr i) = absurd i
second_or b (x ∷ y ∷ xs) (inl is) = inl (inl is)
second_or b (x ∷ y ∷ xs) (inr (inl is)) = inr is
second_or b (x ∷ y ∷ xs) (inr (inr i)) = inl (inr i)

moved : (v : FramesOf) (wire to : ℕ) (rest : List (List ℕ)) (bytes : List ℕ) (b : List ℕ) → wire < length v.queues → In b rest → In b (frames_at (append_to to bytes (with_frames wire rest v)) wire)
moved v wire to rest bytes b low i = append_keeps (with_frames wire rest v) to wire bytes b (subst (In b) (sym (get_or-set_same v.queues wire rest [] low)) i)

held_or : (wire to : ℕ) (w : WiresOf) (b : List ℕ) → wire < length w.frames.queues → On wire b w → On wire b (held_from wire to w) ⊎ (b ≡ taken_frame wire w)
held_or wire to w b low i = by (is_second wire w)
  where
    first : In b (drop 1 (frames_at w.frames wire)) ⊎ (b ≡ frame w.frames wire 0) → On wire b (record w { frames = move_first wire to w.frames }) ⊎ (b ≡ frame w.frames wire 0)
    first (inl rest) = inl (moved w.frames wire to (drop 1 (frames_at w.frames wire)) (frame w.frames wire 0) b low rest)
    first (inr is) = inr is

    second : In b (take 1 (frames_at w.frames wire) ++ drop 2 (frames_at w.frames wire)) ⊎ (b ≡ frame w.frames wire 1) → On wire b (record (with_side wire (less_to_swap (side_at w wire)) w) { frames = move_second wire to w.frames }) ⊎ (b ≡ frame w.frames wire 1)
    second (inl rest) = inl (moved w.frames wire to (take 1 (frames_at w.frames wire) ++ drop 2 (frames_at w.frames wire)) (frame w.frames wire 1) b low rest)
    second (inr is) = inr is

    by : (c : Bool) → On wire b (cond c (record (with_side wire (less_to_swap (side_at w wire)) w) { frames = move_second wire to w.frames }) (record w { frames = move_first wire to w.frames })) ⊎ (b ≡ cond c (frame w.frames wire 1) (frame w.frames wire 0))
    by true = second (second_or b (frames_at w.frames wire) i)
    by false = first (first_or b (frames_at w.frames wire) i)

pub copied_keeps : (wire q : ℕ) (new b : List ℕ) (w : WiresOf) → On q b w → On q b (copied_from wire new w)
copied_keeps wire q new b w i = if_both (is_copied wire w) (On q b) (put_into (far_place (side_at w wire).far) wire new (before_copy wire w)) w (put_keeps (far_place (side_at w wire).far) wire q new b (before_copy wire w) i) i

pub taken_or : (wire to : ℕ) (w : WiresOf) (b : List ℕ) → to ≢ wire → to < length w.frames.queues → wire < length w.frames.queues → wire_at w to ≡ [] → On wire b w
    → On wire b (take_from wire to w) ⊎ On to b (take_from wire to w)
taken_or wire to w b other below low empty i = by (held_or wire to w b low i)
  where
    u : WiresOf
    u = held_from wire to w

    by : On wire b u ⊎ (b ≡ taken_frame wire w) → On wire b (take_from wire to w) ⊎ On to b (take_from wire to w)
    by (inl on) = inl (copied_keeps wire wire (taken_frame wire w) b u on)
    by (inr is) = inr (copied_keeps wire to (taken_frame wire w) b u (subst (In b) (sym (held_is wire to w other below empty)) (inl is)))
