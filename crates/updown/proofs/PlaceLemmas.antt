use Rattle.std.proofs.Common.{◌≡◌, ◌∙◌, sym, ap, subst, refl, ℕ, ◌+◌, ◌<◌, List, [], ◌∷◌, Option, Some, None, Bool, arith, length, map, inl, inr, get_or}
use Rattle.std.specs.Prelude.{Any, not}
use Rattle.std.specs.List.{prefix_len}
use Rattle.std.specs.Option.{option_and_then}
use Rattle.std.specs.Ordering.{is_eq}
use Rattle.std.proofs.lemmas.Bool.{cases_Bool}
use Rattle.std.proofs.lemmas.Bool.Decides.{nat_tests}
use Rattle.std.proofs.lemmas.List.Sums.{position_or_len_is}
use Rattle.std.proofs.lemmas.Option.{same_Some}
use Rattle.std.proofs.lemmas.List.{length-map, get_or_default}
use Rattle.an_base.specs.Values.{LifeId, EntryOf}
use Rattle.an_base.specs.Order.{life_cmp}
use Rattle.topo_graph.specs.Topology.{nothing, life_at, place_of, far_of, IsGraph}
use Rattle.an_base.proofs.LifeLemmas.{life_passes, lives_differ}
use Rattle.topo_graph.proofs.PlaceLemmas.{place_found, place_is}
use Rattle.topo_graph.proofs.FarLemmas.{link_is_far}
use Rattle.updown.specs.Routes.{HasLink, HasLegal, HasDown, HasLegalFrom, HasDownFrom, IsLeast}
use Rattle.updown.specs.Lengths.{LengthsOf, length_at, AreLengths}
use Rattle.updown.specs.Distances.{place_in, AreDistances}
use Rattle.updown.proofs.LeastLemmas.{least_iff}

-- a port that has a link has a place at both sides
pub link_here : (es : List EntryOf) (life : LifeId) (port : ℕ) → IsGraph es → HasLink es life port → (x y q : ℕ) × (place_of es life ≡ Some x) × (far_of es x port ≡ Some (y, q))
link_here es life port graph (b, link) =
    let f = link_is_far es (record { life = life; port = port }) b graph link in
    (f.0, f.1, b.port, place_found es f.0 life graph.rising f.2 f.4, f.6)

-- a life of the graph has a place
pub life_here : (es : List EntryOf) (life : LifeId) → IsGraph es → Any (λ e. e.life ≡ life) es → (x : ℕ) × (place_of es life ≡ Some x) × (x < length es)
life_here es life graph any =
    let at : life_at es any.0 ≡ life = ap (λ (e : EntryOf). e.life) (get_or_default es any.0 nothing any.1 any.2 ∙ any.3) ∙ any.4 in
    (any.0, place_found es any.0 life graph.rising any.2 at, any.2)

-- the first that passes a test of the image
prefix_map : {X Y : Type 0} (p : Y → Bool) (f : X → Y) (xs : List X) → prefix_len p (map f xs) ≡ prefix_len (λ x. p (f x)) xs
prefix_map p f [] = refl
prefix_map p f (x ∷ xs) = elim (cases_Bool (p (f x))) [
  | inl so ↦ rw so (ap (λ (n : ℕ). 1 + n) (prefix_map p f xs))
  | inr not_so ↦ rw not_so refl
]

-- the place among the lives is that among the entries
place_same : (es : List EntryOf) (life : LifeId) → place_in (map (λ e. e.life) es) life ≡ place_of es life
place_same es life =
    let first = prefix_map (λ l. not (is_eq (life_cmp l life))) (λ (e : EntryOf). e.life) es in
    rw (first, length-map es (λ (e : EntryOf). e.life)) refl

-- what there is from one place to another, of lives
abbrev HasFrom : List EntryOf → LifeId → (ℕ → ℕ → ℕ → Type 0) → LifeId → ℕ → Type 0
HasFrom es to Has life n = (x : ℕ) × (z : ℕ) × (place_of es life ≡ Some x) × (place_of es to ≡ Some z) × Has x z n

-- the distances by lives
pub are_distances : (es : List EntryOf) (to : LifeId) (y : ℕ) (lives : List LifeId) (lengths : LengthsOf) → place_of es to ≡ Some y → lives ≡ map (λ e. e.life) es → AreLengths es y lengths → AreDistances es to (record { lives = lives; lengths = lengths })
are_distances es to y lives lengths at is all = record {
  up = λ life. rw (is, place_same es life) (go (HasLegal es) lengths.up all.up life (place_of es life) refl);
  down = λ life. rw (is, place_same es life) (go (HasDown es) lengths.down all.down life (place_of es life) refl);
}
  where
    go : (Has : ℕ → ℕ → ℕ → Type 0) (known : List (Option ℕ)) → ((x : ℕ) → x < length es → IsLeast (Has x y) (length_at known x)) → (life : LifeId) (o : Option ℕ) → place_of es life ≡ o
        → IsLeast (HasFrom es to Has life) (option_and_then (length_at known) o)
    go Has known least life None e = λ n (x, z, x_is, z_is, has). absurd (cc)
    go Has known least life (Some x) e = least_iff (Has x y) (HasFrom es to Has life) (length_at known x)
        (λ n has. (x, y, e, at, has))
        (λ n (u, z, u_is, z_is, has). subst (λ (a : ℕ). Has a y n) (same_Some u x (sym u_is ∙ e)) (subst (λ (b : ℕ). Has u b n) (same_Some z y (sym z_is ∙ at)) has))
        (least x (place_is es x life e).0)

-- the first life that is this one
pub first_life : (lives : List LifeId) (life : LifeId) (i : ℕ) (d : LifeId) → i < length lives → ((k : ℕ) → k < i → get_or lives k d ≡ life → ⊥) → get_or lives i d ≡ life → Some i ≡ place_in lives life
first_life lives life i d low before at =
    let first = position_or_len_is (λ l. is_eq (life_cmp l life)) lives i d (omega arith) (λ k less. lives_differ (get_or lives k d) life (before k less)) (λ _. life_passes (get_or lives i d) life at) in
    rw first (grind (arith, nat_tests))

-- no life is this one
pub no_life : (lives : List LifeId) (life d : LifeId) → ((k : ℕ) → k < length lives → get_or lives k d ≡ life → ⊥) → None ≡ place_in lives life
no_life lives life d none =
    let first = position_or_len_is (λ l. is_eq (life_cmp l life)) lives (length lives) d (omega arith) (λ k less. lives_differ (get_or lives k d) life (none k less)) (λ low. absurd (omega arith)) in
    rw first (grind (arith, nat_tests))
