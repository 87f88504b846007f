use Rattle.std.proofs.Common.{◌≡◌, ◌≢◌, ◌∙◌, sym, ap, subst, refl, ℕ, suc, ◌<◌, List, [], ◌∷◌, Option, Some, Bool, true, false, arith, length, All, AllPairs, IsTrue, ◌⊎◌, inl, inr, unwrap_or, Less, Equal, Greater}
use Rattle.std.specs.declared.cmp.Ordering.{Ordering}
use Rattle.std.specs.Ordering.{nat_cmp, is_lt, ordering_reverse}
use Rattle.std.specs.Cmp.{IsTotalOrder, then_total, on_total, nat_cmp_total}
use Rattle.std.proofs.lemmas.Bool.{cases_Bool, cases_eq, cases_lt}
use Rattle.std.proofs.lemmas.Bool.Decides.{nat_tests}
use Rattle.std.proofs.lemmas.List.Elements.{All-head, All-tail, All-cons, All-nil, All-weaker}
use Rattle.std.proofs.lemmas.List.Kept.{AllPairs-cons}
use Rattle.an_base.specs.Values.{EntryOf}
use Rattle.common_values.proofs.ListLemmas.{AllPairs-head, AllPairs-tail}
use Rattle.an_base.specs.Order.{life_cmp}
use Rattle.an_base.specs.TotalOrders.{life_total}
use Rattle.an_base.proofs.OrderLaws.{life_apart}
use Rattle.common_values.proofs.OrderingLemmas.{then_equal}
use Rattle.topo_graph.specs.Topology.{life_at, level_at, far_of, IsGraph}
use Rattle.topo_graph.proofs.FarLemmas.{one_place, far_is_link}
use Rattle.topo_graph.proofs.PlaceLemmas.{life_same, rises}
use Rattle.updown.specs.Routes.{height_cmp, is_up_end, next_place, upward, LegalRoute, DownRoute, HasLegal, HasDown}

-- lives rise with the places
pub lives_by_place : (es : List EntryOf) (x y : ℕ) → IsGraph es → x < length es → y < length es → life_cmp (life_at es x) (life_at es y) ≡ nat_cmp x y
lives_by_place es x y graph low high = elim (cases_lt x y) [
  | inl less ↦ rises es x y graph.rising less high ∙ lesser x y less
  | inr more ↦ elim (cases_eq x y) [
    | inl same ↦ ap (λ (n : ℕ). life_cmp (life_at es x) (life_at es n)) (sym same) ∙ life_same (life_at es x) ∙ equal x y same
    | inr other ↦ life_total.antisymm (life_at es x) (life_at es y) ∙ ap ordering_reverse (rises es y x graph.rising (omega arith) low) ∙ greater x y (omega arith)
  ]
]
  where
    lesser : (a b : ℕ) → a < b → Less ≡ nat_cmp a b
    lesser a b less = grind (arith, nat_tests)

    equal : (a b : ℕ) → a ≡ b → Equal ≡ nat_cmp a b
    equal a b same = grind (arith, nat_tests)

    greater : (a b : ℕ) → b < a → Greater ≡ nat_cmp a b
    greater a b less = grind (arith, nat_tests)

-- heights are totally ordered
pub height_total : (es : List EntryOf) → IsTotalOrder (height_cmp es)
height_total es = then_total (on_total (level_at es) nat_cmp_total) (on_total (life_at es) life_total)

-- where neither comes first they are equal
neither : (o p : Ordering) → o ≡ ordering_reverse p → is_lt o ≡ false → is_lt p ≡ false → o ≡ Equal
neither Less p e f g = absurd (cc)
neither Equal p e f g = refl
neither Greater Less e f g = absurd (cc)
neither Greater Equal e f g = absurd (cc)
neither Greater Greater e f g = absurd (cc)

-- of two places one is higher
pub one_higher : (es : List EntryOf) (x z : ℕ) → IsGraph es → x < length es → z < length es → is_up_end es x z ≡ false → is_up_end es z x ≡ false → x ≡ z
one_higher es x z graph low low' not_x not_z =
    let equal = neither (height_cmp es x z) (height_cmp es z x) ((height_total es).antisymm x z) not_x not_z in
    let parts = then_equal (nat_cmp (level_at es x) (level_at es z)) (life_cmp (life_at es x) (life_at es z)) equal in
    one_place es x z graph.rising low low' (life_apart (life_at es x) (life_at es z) parts.1)

-- and not both
not_both : (o p : Ordering) → o ≡ ordering_reverse p → is_lt o ≡ true → is_lt p ≡ false
not_both Less Less e f = absurd (cc)
not_both Less Equal e f = refl
not_both Less Greater e f = refl
not_both Equal p e f = absurd (cc)
not_both Greater p e f = absurd (cc)

pub not_both_higher : (es : List EntryOf) (x z : ℕ) → is_up_end es x z ≡ true → is_up_end es z x ≡ false
not_both_higher es x z up = not_both (height_cmp es x z) (height_cmp es z x) ((height_total es).antisymm x z) up

-- a link leads to another place
pub far_other : (es : List EntryOf) (x p z q : ℕ) → IsGraph es → far_of es x p ≡ Some (z, q) → x ≢ z
far_other es x p z q graph e same =
    let link = (far_is_link es x p z q graph.rising e).2 in
    link.apart (ap (life_at es) same)

-- a link that does not lead up leads down
pub leads_down : (es : List EntryOf) (x p z q : ℕ) → IsGraph es → far_of es x p ≡ Some (z, q) → is_up_end es z x ≡ false → is_up_end es x z ≡ true
leads_down es x p z q graph e not_up = elim (cases_Bool (is_up_end es x z)) [
  | inl down ↦ down
  | inr neither' ↦ (let within = graph.within x p (z, q) e in absurd (far_other es x p z q graph e (one_higher es x z graph within.place within.far_place neither' not_up)))
]

-- where a port leads
pub next_is : (es : List EntryOf) (x p z q : ℕ) → far_of es x p ≡ Some (z, q) → next_place es x p ≡ z
next_is es x p z q e = ap (λ (o : Option (ℕ × ℕ)). (unwrap_or o (x, p)).0) e

-- a later link may lead up only where an earlier one does
abbrev pub FollowsUp : Bool → Bool → Type 0
FollowsUp first later = IsTrue later → IsTrue first

-- no link leads up behind one that does not
none_up : (first : Bool) (later : List Bool) → first ≡ false → All (FollowsUp first) later → All (λ up. up ≡ false) later
none_up first later not_up all = All-weaker (FollowsUp first) (λ up. up ≡ false) (λ up follows. elim (cases_Bool up) [
  | inl is ↦ absurd (let f = follows is in cc)
  | inr is ↦ is
]) later all

-- a route downward has no link that leads up
down_follows : (first : Bool) (later : List Bool) → All (λ up. up ≡ false) later → All (FollowsUp first) later
down_follows first later all = All-weaker (λ up. up ≡ false) (FollowsUp first) (λ up not_up is. absurd (cc)) later all

all_down : (ups : List Bool) → All (λ up. up ≡ false) ups → AllPairs FollowsUp ups
all_down ups all = λ i j d lt low is. absurd (let not_up = all j d low in cc)

-- a route downward begins with a link downward
pub down_first : (es : List EntryOf) (x p : ℕ) (ps : List ℕ) (y : ℕ) → DownRoute es x (p ∷ ps) y → (z q : ℕ) × (far_of es x p ≡ Some (z, q)) × (is_up_end es z x ≡ false) × DownRoute es z ps y
down_first es x p ps y d =
    let z = d.route.0 in
    let q = d.route.1 in
    let e = d.route.2 in
    let same = next_is es x p z q e in (
      z,
      q,
      e,
      subst (λ (n : ℕ). is_up_end es n x ≡ false) same (All-head (λ up. up ≡ false) (is_up_end es (next_place es x p) x) (upward es (next_place es x p) ps) d.down),
      record {
        route = d.route.3;
        down = subst (λ (n : ℕ). All (λ up. up ≡ false) (upward es n ps)) same (All-tail (λ up. up ≡ false) (is_up_end es (next_place es x p) x) (upward es (next_place es x p) ps) d.down);
      },
    )

-- and a link downward goes before it
pub down_more : (es : List EntryOf) (x p : ℕ) (ps : List ℕ) (y z q : ℕ) → far_of es x p ≡ Some (z, q) → is_up_end es z x ≡ false → DownRoute es z ps y → DownRoute es x (p ∷ ps) y
down_more es x p ps y z q e not_up d =
    let same = next_is es x p z q e in
    record {
      route = (z, q, e, d.route);
      down = subst (λ (n : ℕ). All (λ up. up ≡ false) (is_up_end es n x ∷ upward es n ps)) (sym same) (All-cons (λ up. up ≡ false) (is_up_end es z x) (upward es z ps) not_up d.down);
    }

-- a legal route begins with a link upward and is legal behind it, or with one downward and leads down behind it
pub legal_first : (es : List EntryOf) (x p : ℕ) (ps : List ℕ) (y : ℕ) → LegalRoute es x (p ∷ ps) y → (z q : ℕ) × (far_of es x p ≡ Some (z, q)) × (((is_up_end es z x ≡ true) × LegalRoute es z ps y) ⊎ ((is_up_end es z x ≡ false) × DownRoute es z ps y))
legal_first es x p ps y r =
    let z = r.route.0 in
    let q = r.route.1 in
    let e = r.route.2 in
    let same = next_is es x p z q e in
    let pairs : AllPairs FollowsUp (is_up_end es z x ∷ upward es z ps) = subst (λ (n : ℕ). AllPairs FollowsUp (is_up_end es n x ∷ upward es n ps)) same r.legal in (
      z,
      q,
      e,
      elim (cases_Bool (is_up_end es z x)) [
        | inl up ↦ inl (up, record { route = r.route.3; legal = AllPairs-tail FollowsUp (is_up_end es z x) (upward es z ps) pairs })
        | inr down ↦ inr (down, record { route = r.route.3; down = none_up (is_up_end es z x) (upward es z ps) down (AllPairs-head FollowsUp (is_up_end es z x) (upward es z ps) pairs) })
      ],
    )

pub legal_up : (es : List EntryOf) (x p : ℕ) (ps : List ℕ) (y z q : ℕ) → far_of es x p ≡ Some (z, q) → is_up_end es z x ≡ true → LegalRoute es z ps y → LegalRoute es x (p ∷ ps) y
legal_up es x p ps y z q e up r = record {
  route = (z, q, e, r.route);
  legal = subst (λ (n : ℕ). AllPairs FollowsUp (is_up_end es n x ∷ upward es n ps)) (sym (next_is es x p z q e)) (AllPairs-cons FollowsUp (is_up_end es z x) (upward es z ps) (λ k d low _. up) r.legal);
}

pub legal_down : (es : List EntryOf) (x p : ℕ) (ps : List ℕ) (y z q : ℕ) → far_of es x p ≡ Some (z, q) → is_up_end es z x ≡ false → DownRoute es z ps y → LegalRoute es x (p ∷ ps) y
legal_down es x p ps y z q e down r = record {
  route = (z, q, e, r.route);
  legal = subst (λ (n : ℕ). AllPairs FollowsUp (is_up_end es n x ∷ upward es n ps)) (sym (next_is es x p z q e)) (AllPairs-cons FollowsUp (is_up_end es z x) (upward es z ps) (down_follows (is_up_end es z x) (upward es z ps) r.down) (all_down (upward es z ps) r.down));
}

-- no ports are a route
pub legal_none : (es : List EntryOf) (x : ℕ) → LegalRoute es x [] x
legal_none es x = record { route = refl; legal = λ i j d lt low. absurd (omega arith) }

pub down_none : (es : List EntryOf) (x : ℕ) → DownRoute es x [] x
down_none es x = record { route = refl; down = All-nil (λ up. up ≡ false) }

-- a route downward is legal
pub down_legal : (es : List EntryOf) (x : ℕ) (ps : List ℕ) (y : ℕ) → DownRoute es x ps y → LegalRoute es x ps y
down_legal es x ps y d = record { route = d.route; legal = all_down (upward es x ps) d.down }

-- what may follow a port: a route downward behind a link downward
abbrev pub NextDown : List EntryOf → ℕ → ℕ → ℕ → ℕ → Type 0
NextDown es x to p n = (z q : ℕ) × (far_of es x p ≡ Some (z, q)) × (is_up_end es z x ≡ false) × HasDown es z to n

-- or also a legal route behind a link upward
abbrev pub NextLegal : List EntryOf → ℕ → ℕ → ℕ → ℕ → Type 0
NextLegal es x to p n = (z q : ℕ) × (far_of es x p ≡ Some (z, q)) × (((is_up_end es z x ≡ true) × HasLegal es z to n) ⊎ ((is_up_end es z x ≡ false) × HasDown es z to n))

-- routes of no link lead nowhere else, and a longer one goes on behind a port
pub down_zero : (es : List EntryOf) (x to : ℕ) → HasDown es x to 0 → x ≡ to
down_zero es x to ([], len, d) = d.route
down_zero es x to (p ∷ ps, len, d) = absurd (omega arith)

pub down_suc : (es : List EntryOf) (x to n : ℕ) → HasDown es x to (suc n) → (p : ℕ) × NextDown es x to p n
down_suc es x to n ([], len, d) = absurd (omega arith)
down_suc es x to n (p ∷ ps, len, d) = let f = down_first es x p ps to d in (p, (f.0, f.1, f.2, f.3, (ps, omega arith, f.4)))

pub down_on : (es : List EntryOf) (x to n p : ℕ) → NextDown es x to p n → HasDown es x to (suc n)
down_on es x to n p (z, q, e, not_up, (ps, len, d)) = (p ∷ ps, omega arith, down_more es x p ps to z q e not_up d)

pub down_here : (es : List EntryOf) (x to : ℕ) → x ≡ to → HasDown es x to 0
down_here es x to same = ([], refl, subst (λ (y : ℕ). DownRoute es x [] y) same (down_none es x))

pub legal_zero : (es : List EntryOf) (x to : ℕ) → HasLegal es x to 0 → x ≡ to
legal_zero es x to ([], len, r) = r.route
legal_zero es x to (p ∷ ps, len, r) = absurd (omega arith)

pub legal_suc : (es : List EntryOf) (x to n : ℕ) → HasLegal es x to (suc n) → (p : ℕ) × NextLegal es x to p n
legal_suc es x to n ([], len, r) = absurd (omega arith)
legal_suc es x to n (p ∷ ps, len, r) =
    let f = legal_first es x p ps to r in (
      p,
      (
        f.0,
        f.1,
        f.2,
        elim f.3 [
          | inl up ↦ inl (up.0, (ps, omega arith, up.1))
          | inr down ↦ inr (down.0, (ps, omega arith, down.1))
        ],
      ),
    )

pub legal_on : (es : List EntryOf) (x to n p : ℕ) → NextLegal es x to p n → HasLegal es x to (suc n)
legal_on es x to n p (z, q, e, inl (up, (ps, len, r))) = (p ∷ ps, omega arith, legal_up es x p ps to z q e up r)
legal_on es x to n p (z, q, e, inr (down, (ps, len, r))) = (p ∷ ps, omega arith, legal_down es x p ps to z q e down r)

pub legal_here : (es : List EntryOf) (x to : ℕ) → x ≡ to → HasLegal es x to 0
legal_here es x to same = ([], refl, subst (λ (y : ℕ). LegalRoute es x [] y) same (legal_none es x))
