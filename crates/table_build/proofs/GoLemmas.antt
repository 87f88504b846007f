-- Ways: as routes, and by their last link.
use Rattle.std.proofs.Common.{◌≡◌, sym, ap, subst, refl, ℕ, ◌<◌, ◌≤◌, List, [], ◌∷◌, ◌++◌, Some, Bool, true, false, arith, length, ◌⊎◌, inl, inr}
use Rattle.an_base.specs.Values.{EntryOf}
use Rattle.topo_graph.specs.Topology.{far_of, IsGraph}
use Rattle.updown.specs.Routes.{is_up_end, LegalRoute, DownRoute}
use Rattle.updown.proofs.RouteLemmas.{legal_first, legal_up, legal_down, legal_none, down_first, down_more, down_none}
use Rattle.table_build.specs.Exits.{LeadsTo}
use Rattle.table_build.specs.Bests.{Goes}
use Rattle.table_build.proofs.LengthLaws.{way_short}

-- the ways that lead downward alone are the routes downward
goes_down : (es : List EntryOf) (ps : List ℕ) (x y : ℕ) → Goes es false true x ps y → DownRoute es x ps y
goes_down es [] x y same = subst (λ (w : ℕ). DownRoute es x [] w) same (down_none es x)
goes_down es (p ∷ ps) x y (z, q, e, inl (up, never, g)) = absurd (cc)
goes_down es (p ∷ ps) x y (z, q, e, inr (down, _, g)) = down_more es x p ps y z q e down (goes_down es ps z y g)

down_goes : (es : List EntryOf) (ps : List ℕ) (x y : ℕ) → DownRoute es x ps y → Goes es false true x ps y
down_goes es [] x y r = r.route
down_goes es (p ∷ ps) x y r = let f = down_first es x p ps y r in (f.0, f.1, f.2, inr (f.3, refl, down_goes es ps f.0 y f.4))

-- all ways are the legal routes
goes_legal : (es : List EntryOf) (ps : List ℕ) (x y : ℕ) → Goes es true true x ps y → LegalRoute es x ps y
goes_legal es [] x y same = subst (λ (w : ℕ). LegalRoute es x [] w) same (legal_none es x)
goes_legal es (p ∷ ps) x y (z, q, e, inl (up, _, g)) = legal_up es x p ps y z q e up (goes_legal es ps z y g)
goes_legal es (p ∷ ps) x y (z, q, e, inr (down, _, g)) = legal_down es x p ps y z q e down (goes_down es ps z y g)

legal_goes : (es : List EntryOf) (ps : List ℕ) (x y : ℕ) → LegalRoute es x ps y → Goes es true true x ps y
legal_goes es [] x y r = r.route
legal_goes es (p ∷ ps) x y r =
    let f = legal_first es x p ps y r in (
      f.0,
      f.1,
      f.2,
      elim f.3 [
        | inl up ↦ inl (up.0, refl, legal_goes es ps f.0 y up.1)
        | inr down ↦ inr (down.0, refl, down_goes es ps f.0 y down.1)
      ],
    )

pub goes_leads : (es : List EntryOf) (up : Bool) (ps : List ℕ) (x y : ℕ) → Goes es up true x ps y → LeadsTo es up x ps y
goes_leads es true ps x y g = goes_legal es ps x y g
goes_leads es false ps x y g = goes_down es ps x y g

pub leads_goes : (es : List EntryOf) (up : Bool) (ps : List ℕ) (x y : ℕ) → LeadsTo es up x ps y → Goes es up true x ps y
leads_goes es true ps x y way = legal_goes es ps x y way
leads_goes es false ps x y way = down_goes es ps x y way

-- a way is one of those of which more may lead upward or downward
pub goes_wider : (es : List EntryOf) (up up' down down' : Bool) (ps : List ℕ) (x y : ℕ) → (up ≡ true → up' ≡ true) → (down ≡ true → down' ≡ true) → Goes es up down x ps y → Goes es up' down' x ps y
goes_wider es up up' down down' [] x y more more' same = same
goes_wider es up up' down down' (p ∷ ps) x y more more' (z, q, e, inl (is, may, g)) = (z, q, e, inl (is, more may, goes_wider es up up' down down' ps z y more more' g))
goes_wider es up up' down down' (p ∷ ps) x y more more' (z, q, e, inr (is, may, g)) = (z, q, e, inr (is, more' may, goes_wider es false false down down' ps z y (λ h. h) more' g))

-- no way is long
pub goes_short : (es : List EntryOf) (up down : Bool) (ps : List ℕ) (x y : ℕ) → IsGraph es → x < length es → Goes es up down x ps y → length ps ≤ 251
goes_short es up down ps x y graph low g =
    let short = way_short es true x y ps graph low (goes_legal es ps x y (goes_wider es up true down true ps x y (λ _. refl) (λ _. refl) g)) in
    omega (arith, graph.most)

-- the ways from x to z that may go before a last link to y: before one upward those that lead upward alone
abbrev pub Before : List EntryOf → Bool → Bool → ℕ → ℕ → ℕ → List ℕ → Type 0
Before es up down x y z ps = ((is_up_end es y z ≡ true) × (up ≡ true) × Goes es up false x ps z) ⊎ ((is_up_end es y z ≡ false) × (down ≡ true) × Goes es up down x ps z)

-- a way ends with a link, upward behind links upward alone
pub goes_last : (es : List EntryOf) (up down : Bool) (ps : List ℕ) (x q y : ℕ) → Goes es up down x (ps ++ q ∷ []) y → (z r : ℕ) × (far_of es z q ≡ Some (y, r)) × Before es up down x y z ps
goes_last es up down [] x q y (w, r, e, inl (is, may, same)) = (x, r, subst (λ (v : ℕ). far_of es x q ≡ Some (v, r)) same e, inl (subst (λ (v : ℕ). is_up_end es v x ≡ true) same is, may, refl))
goes_last es up down [] x q y (w, r, e, inr (is, may, same)) = (x, r, subst (λ (v : ℕ). far_of es x q ≡ Some (v, r)) same e, inr (subst (λ (v : ℕ). is_up_end es v x ≡ false) same is, may, refl))
goes_last es up down (p ∷ ps) x q y (w, s, f, inl (is, may, g)) =
    let l = goes_last es up down ps w q y g in (
      l.0,
      l.1,
      l.2,
      elim l.3 [
        | inl a ↦ inl (a.0, a.1, (w, s, f, inl (is, may, a.2)))
        | inr b ↦ inr (b.0, b.1, (w, s, f, inl (is, may, b.2)))
      ],
    )
goes_last es up down (p ∷ ps) x q y (w, s, f, inr (is, may, g)) =
    let l = goes_last es false down ps w q y g in (
      l.0,
      l.1,
      l.2,
      elim l.3 [
        | inl a ↦ absurd (let no = a.1 in cc)
        | inr b ↦ inr (b.0, b.1, (w, s, f, inr (is, may, b.2)))
      ],
    )

-- and a link goes on from a way
pub goes_on : (es : List EntryOf) (up down : Bool) (ps : List ℕ) (x q y z r : ℕ) → far_of es z q ≡ Some (y, r) → Before es up down x y z ps → Goes es up down x (ps ++ q ∷ []) y
goes_on es up down [] x q y z r e (inl (is, may, same)) = subst (λ (v : ℕ). Goes es up down v (q ∷ []) y) (sym same) (y, r, e, inl (is, may, refl))
goes_on es up down [] x q y z r e (inr (is, may, same)) = subst (λ (v : ℕ). Goes es up down v (q ∷ []) y) (sym same) (y, r, e, inr (is, may, refl))
goes_on es up down (p ∷ ps) x q y z r e (inl (is, may, (w, s, f, inl (is', may', g)))) = (w, s, f, inl (is', may', goes_on es up down ps w q y z r e (inl (is, may, g))))
goes_on es up down (p ∷ ps) x q y z r e (inl (is, may, (w, s, f, inr (is', never, g)))) = absurd (cc)
goes_on es up down (p ∷ ps) x q y z r e (inr (is, may, (w, s, f, inl (is', may', g)))) = (w, s, f, inl (is', may', goes_on es up down ps w q y z r e (inr (is, may, g))))
goes_on es up down (p ∷ ps) x q y z r e (inr (is, may, (w, s, f, inr (is', may', g)))) = (w, s, f, inr (is', may', goes_on es false down ps w q y z r e (inr (is, may, g))))

-- a list has no last item or one
pub with_last : (ps : List ℕ) → (ps ≡ []) ⊎ ((qs : List ℕ) × (q : ℕ) × (ps ≡ qs ++ q ∷ []))
with_last [] = inl refl
with_last (p ∷ ps) = elim (with_last ps) [
  | inl none ↦ inr ([], p, ap (λ (l : List ℕ). p ∷ l) none)
  | inr (qs, q, e) ↦ inr (p ∷ qs, q, ap (λ (l : List ℕ). p ∷ l) e)
]
