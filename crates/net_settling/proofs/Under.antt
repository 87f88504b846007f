-- What is under way to a port, as a set, and what an event makes of it.

use Rattle.std.specs.Prelude.{◌≡◌, ◌⊎◌, ◌||◌, ℕ, List, [], ◌∷◌, length, slice_index_or, cond, Option, Some, None, Bool, true, false, refl}
use Rattle.std.specs.List.{list_any}
use Rattle.std.specs.Option.{option_map_or}
use Rattle.std.proofs.Common.{sym, ◌∙◌, ap, subst, inl, inr, arith}
use Rattle.std.proofs.lemmas.Bool.{false≢true, eqb-true}
use Rattle.an_base.specs.declared.frame.Frame.{Frame}
use Rattle.frame_codec.specs.Reading.{frame_of}
use Rattle.wire_set.specs.WireState.{place, wire_at, hand_of}
use Rattle.topo_report.proofs.Members.{In, in_append, in_left, in_right}
use Rattle.net_state.specs.declared.hand.Hand.{Hand}
use Rattle.net_state.specs.declared.hand.Hand.TheVariants as hand
use Rattle.net_state.specs.Fabric.{FabricOf, station}
use Rattle.net_state.specs.Fits.{HoldsFor}
use Rattle.net_world.specs.World.{WorldOf}
use Rattle.net_settling.specs.Views.{LinkOf, came_by, under_way_to, is_such, is_some_under_way}
use Rattle.net_settling.proofs.Flights.{On}

-- some of a list passes a test exactly where one in it does
pub any_from : {A : Type 0} (test : A → Bool) (xs : List A) → list_any test xs ≡ true → (x : A) × In x xs × (test x ≡ true)
any_from test [] e = absurd (false≢true e)
any_from {A} test (x ∷ xs) e = by (any_from test xs) (test x) refl e
  where
    by : (list_any test xs ≡ true → (y : A) × In y xs × (test y ≡ true)) → (b : Bool) → test x ≡ b → (b || list_any test xs) ≡ true → (y : A) × In y (x ∷ xs) × (test y ≡ true)
    by rest true is e = (x, inl refl, is)
    by rest false is e = let r = rest e in (r.0, inr r.1, r.2)

pub any_in : {A : Type 0} (test : A → Bool) (xs : List A) (x : A) → In x xs → test x ≡ true → list_any test xs ≡ true
any_in test [] x i e = absurd i
any_in test (y ∷ ys) x (inl is) e = ap (λ b. b || list_any test ys) (ap test (sym is) ∙ e)
any_in test (y ∷ ys) x (inr i) e = ap (λ b. test y || b) (any_in test ys x i e) ∙ or_true (test y)
  where
    or_true : (b : Bool) → (b || true) ≡ true
    or_true true = refl
    or_true false = refl

-- What is under way is on the wire, or in hand and came by the port.
pub way_parts : (f : FabricOf) (t q : ℕ) (b : List ℕ) → In b (under_way_to f t q) → On (place t q) b f.wires ⊎ ((came_by q (station f t).hand ≡ true) × In b (hand_of f.wires t))
way_parts f t q b i = by (in_append b (wire_at f.wires (place t q)) _ i)
  where
    by_hand : (c : Bool) → came_by q (station f t).hand ≡ c → In b (cond c (hand_of f.wires t) []) → On (place t q) b f.wires ⊎ ((came_by q (station f t).hand ≡ true) × In b (hand_of f.wires t))
    by_hand true is j = inr (is, j)
    by_hand false is j = absurd j

    by : In b (wire_at f.wires (place t q)) ⊎ In b (cond (came_by q (station f t).hand) (hand_of f.wires t) []) → On (place t q) b f.wires ⊎ ((came_by q (station f t).hand ≡ true) × In b (hand_of f.wires t))
    by (inl on) = inl on
    by (inr j) = by_hand (came_by q (station f t).hand) refl j

pub way_on : (f : FabricOf) (t q : ℕ) (b : List ℕ) → On (place t q) b f.wires → In b (under_way_to f t q)
way_on f t q b i = in_left b (wire_at f.wires (place t q)) _ i

pub way_held : (f : FabricOf) (t q : ℕ) (b : List ℕ) → came_by q (station f t).hand ≡ true → In b (hand_of f.wires t) → In b (under_way_to f t q)
way_held f t q b is i = in_right b (wire_at f.wires (place t q)) _ (subst (λ c. In b (cond c (hand_of f.wires t) [])) (sym is) i)

-- a frame in hand came by its port
pub came_port : (q : ℕ) (h : Hand) → came_by q h ≡ true → h ≡ hand.Frame q
came_port q hand.Empty e = absurd (false≢true e)
came_port q (hand.Clock now samples) e = absurd (false≢true e)
came_port q (hand.Frame p) e = ap hand.Frame (eqb-true p q e)

-- and a hand holds one frame
only_one : (xs : List (List ℕ)) (b : List ℕ) → length xs ≡ 1 → In b xs → b ≡ slice_index_or xs 0 []
only_one [] b one i = absurd i
only_one (x ∷ []) b one (inl is) = is
only_one (x ∷ []) b one (inr i) = absurd i
only_one (x ∷ y ∷ xs) b one i = absurd (omega (arith, one))

pub held_one : (h : Hand) (q : ℕ) (xs : List (List ℕ)) (b : List ℕ) → h ≡ hand.Frame q → HoldsFor h xs → In b xs → b ≡ slice_index_or xs 0 []
held_one h q xs b is holds i = only_one xs b (subst (λ (k : Hand). HoldsFor k xs) is holds) i

-- tests
pub such_way : (test : Frame → Bool) (w : WorldOf) (l : LinkOf) → is_some_under_way test w l ≡ true → (b : List ℕ) × In b (under_way_to w.fabric l.far_place l.far_port) × (is_such test b ≡ true)
such_way test w l e = any_from (is_such test) (under_way_to w.fabric l.far_place l.far_port) e

pub way_such : (test : Frame → Bool) (w : WorldOf) (l : LinkOf) (b : List ℕ) → In b (under_way_to w.fabric l.far_place l.far_port) → is_such test b ≡ true → is_some_under_way test w l ≡ true
way_such test w l b i e = any_in (is_such test) (under_way_to w.fabric l.far_place l.far_port) b i e

pub such_frame : (test : Frame → Bool) (b : List ℕ) (f : Frame) → frame_of b ≡ Some f → test f ≡ true → is_such test b ≡ true
such_frame test b f read e = ap (λ o. option_map_or test o false) read ∙ e

pub frame_such : (test : Frame → Bool) (b : List ℕ) → is_such test b ≡ true → (f : Frame) × (frame_of b ≡ Some f) × (test f ≡ true)
frame_such test b e = by (frame_of b) refl e
  where
    by : (o : Option Frame) → frame_of b ≡ o → option_map_or test o false ≡ true → (f : Frame) × (frame_of b ≡ Some f) × (test f ≡ true)
    by None is e = absurd (false≢true e)
    by (Some f) is e = (f, is, e)
