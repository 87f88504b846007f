-- The best of ways: of two sorts of ways, of ways longer by a link, and of no link.
use Rattle.std.proofs.Common.{◌≡◌, ◌≢◌, ◌↔◌, ◌*◌, ◌%◌, ◌^◌, ◌∙◌, sym, ap, subst, refl, ℕ, ◌+◌, ◌<◌, ◌≤◌, List, [], ◌∷◌, ◌++◌, Option, Some, None, Bool, true, false, arith, length-append, ◌⊎◌, inl, inr, get_or, min, max, bit_or}
use Rattle.std.specs.Int.{w16, bit_at}
use Rattle.std.proofs.lemmas.Bool.{cases_eq, cases_lt}
use Rattle.std.proofs.lemmas.Nat.Bits.{bit_at-zero, bit_at-lt, bit_at_or, bit_at_set_same, bit_at_set_other}
use Rattle.table_build.specs.declared.best.Best.{Best}
use Rattle.table_build.specs.Bests.{link_cost, cost_of, HasPort, AreBest, IsBest, IsBetter, IsBetterOf, IsLonger}

-- the same ways have the same best
pub are_iff : (any : Bool) (W V : List ℕ → Type 0) (b : Best) → ((ps : List ℕ) → W ps → V ps) → ((ps : List ℕ) → V ps → W ps) → AreBest any W b → AreBest any V b
are_iff any W V b to back best = record {
  way = (best.way.0, to best.way.0 best.way.1, best.way.2);
  least = λ ps v. best.least ps (back ps v);
  each = λ p has. let e = best.each p has in (e.0, to (p ∷ e.0) e.1, e.2);
  whole = λ p rest v cost. best.whole p rest (back (p ∷ rest) v) cost;
}

pub best_iff : (any : Bool) (W V : List ℕ → Type 0) (o : Option Best) → ((ps : List ℕ) → W ps → V ps) → ((ps : List ℕ) → V ps → W ps) → IsBest any W o → IsBest any V o
best_iff any W V None to back none = λ ps v. none ps (back ps v)
best_iff any W V (Some b) to back best = are_iff any W V b to back best

-- of two sorts of ways
both : (any : Bool) (W V : List ℕ → Type 0) (a b c : Best) → AreBest any W a → AreBest any V b → IsBetter a b c → AreBest any (λ ps. W ps ⊎ V ps) c
both any W V a b c best best' better = record {
  way = elim (cases_lt b.cost a.cost) [
    | inl less ↦ (best'.way.0, inr best'.way.1, best'.way.2 ∙ second (omega arith))
    | inr more ↦ (best.way.0, inl best.way.1, best.way.2 ∙ first (omega arith))
  ];
  least = λ ps way. elim way [
    | inl w ↦ (let l = best.least ps w in let m : min a.cost b.cost ≤ a.cost = omega arith in omega (arith, better.cost))
    | inr v ↦ (let l = best'.least ps v in let m : min a.cost b.cost ≤ b.cost = omega arith in omega (arith, better.cost))
  ];
  each = λ p has. elim ((better.ports p).0 has) [
    | inl one ↦ (let e = best.each p one.1 in (e.0, inl e.1, e.2 ∙ first one.0))
    | inr other ↦ (let e = best'.each p other.1 in (e.0, inr e.1, e.2 ∙ second other.0))
  ];
  whole = λ p rest way cost. elim way [
    | inl w ↦ (
        let l = best.least (p ∷ rest) w in
        let low : a.cost ≤ min a.cost b.cost = omega (arith, better.cost, cost) in
        let le : a.cost ≤ b.cost = omega arith in
        (better.ports p).1 (inl (le, best.whole p rest w (cost ∙ sym (first le)))))
    | inr v ↦ (
        let l = best'.least (p ∷ rest) v in
        let low : b.cost ≤ min a.cost b.cost = omega (arith, better.cost, cost) in
        let le : b.cost ≤ a.cost = omega arith in
        (better.ports p).1 (inr (le, best'.whole p rest v (cost ∙ sym (second le)))))
  ];
}
  where
    first : a.cost ≤ b.cost → a.cost ≡ c.cost
    first le = (let m : min a.cost b.cost ≡ a.cost = omega arith in sym m ∙ sym better.cost)

    second : b.cost ≤ a.cost → b.cost ≡ c.cost
    second le = (let m : min a.cost b.cost ≡ b.cost = omega arith in sym m ∙ sym better.cost)

pub best_either : (any : Bool) (W V : List ℕ → Type 0) (a b o : Option Best) → IsBest any W a → IsBest any V b → IsBetterOf a b o → IsBest any (λ ps. W ps ⊎ V ps) o
best_either any W V None b o none best is = subst (λ (l : Option Best). IsBest any (λ ps. W ps ⊎ V ps) l) (sym is) (best_iff any V (λ ps. W ps ⊎ V ps) b (λ ps v. inr v) (λ ps way. elim way [
  | inl w ↦ absurd (none ps w)
  | inr v ↦ v
]) best)
best_either any W V (Some a) None o best none is = subst (λ (l : Option Best). IsBest any (λ ps. W ps ⊎ V ps) l) (sym is) (are_iff any W (λ ps. W ps ⊎ V ps) a (λ ps w. inl w) (λ ps way. elim way [
  | inl w ↦ w
  | inr v ↦ absurd (none ps v)
]) best)
best_either any W V (Some a) (Some b) o best best' (c, is, better) = subst (λ (l : Option Best). IsBest any (λ ps. W ps ⊎ V ps) l) (sym is) (both any W V a b c best best' better)

-- what a link more costs
cost_last : (any : Bool) (ps : List ℕ) (q : ℕ) → cost_of any (ps ++ q ∷ []) ≡ cost_of any ps + link_cost any
cost_last true ps q = refl
cost_last false ps q = omega (arith, length-append ps (q ∷ []))

cost_none : (any : Bool) → cost_of any [] ≡ 0
cost_none true = refl
cost_none false = refl

-- of ways longer by a link
pub best_longer : (any : Bool) (W : List ℕ → Type 0) (from z port : ℕ) (b c : Best) → (W [] → z ≡ from) → (z ≡ from → W []) → AreBest any W b → IsLonger any from z port b c → AreBest any (λ ps. (qs : List ℕ) × (ps ≡ qs ++ port ∷ []) × W qs) c
best_longer any W from z port b c here there best longer = record {
  way = (best.way.0 ++ port ∷ [], (best.way.0, refl, best.way.1), cost_last any best.way.0 port ∙ more (cost_of any best.way.0) best.way.2);
  least = λ ps (qs, e, w).
      let l = best.least qs w in
      let cost : cost_of any ps ≡ cost_of any qs + link_cost any = ap (cost_of any) e ∙ cost_last any qs port in
      omega (arith, longer.cost);
  each = λ p has. elim ((longer.ports p).0 has) [
    | inl old ↦ (let e = best.each p old in (e.0 ++ port ∷ [], (p ∷ e.0, refl, e.1), cost_last any (p ∷ e.0) port ∙ more (cost_of any (p ∷ e.0)) e.2))
    | inr new ↦ (
        let w = there new.0 in
        let l = best.least [] w in
        let zero : cost_of any [] ≡ b.cost = (let z = cost_none any in omega arith) in
        ([], ([], ap (λ (n : ℕ). n ∷ []) new.1, w), cost_last any [] p ∙ more (cost_of any []) zero))
  ];
  whole = λ p rest (qs, e, w) cost. go p rest qs e w cost;
}
  where
    more : (n : ℕ) → n ≡ b.cost → n + link_cost any ≡ c.cost
    more n is = omega (arith, longer.cost)

    go : (p : ℕ) (rest qs : List ℕ) → p ∷ rest ≡ qs ++ port ∷ [] → W qs → cost_of any (p ∷ rest) ≡ c.cost → HasPort c.ports p
    go p rest [] e w cost = (longer.ports p).1 (inr (here w, ap (λ (l : List ℕ). get_or l 0 p) e))
    go p rest (r ∷ qs) e w cost =
        let same : p ≡ r = ap (λ (l : List ℕ). get_or l 0 p) e in
        let last : cost_of any (p ∷ rest) ≡ cost_of any (r ∷ qs) + link_cost any = ap (cost_of any) e ∙ cost_last any (r ∷ qs) port in
        let old : cost_of any (r ∷ qs) ≡ b.cost = omega (arith, longer.cost) in
        (longer.ports p).1 (inl (subst (λ (n : ℕ). HasPort b.ports n) (sym same) (best.whole r qs w old)))

-- of no link
pub best_none : (any : Bool) (from y : ℕ) → from ≡ y → AreBest any (λ ps. (ps ≡ []) × (from ≡ y)) (record { cost = 0; ports = 0 })
best_none any from y same = record {
  way = ([], (refl, same), cost_none any);
  least = λ ps way. omega arith;
  each = λ p has. absurd (let zero = bit_at-zero p in cc);
  whole = λ p rest way _. absurd (let e = way.0 in cc);
}

max_one : (x y m : ℕ) → m ≡ max x y → x < 2 → y < 2 → m ≡ 1 → (x ≡ 1) ⊎ (y ≡ 1)
max_one x y m is low low' one = grind arith

one_max : (x y m : ℕ) → m ≡ max x y → x < 2 → y < 2 → (x ≡ 1) ⊎ (y ≡ 1) → m ≡ 1
one_max x y m is low low' (inl one) = omega arith
one_max x y m is low low' (inr one) = omega arith

-- the ports of both
or_has : (a b p : ℕ) → HasPort (bit_or a b) p ↔ (HasPort a p ⊎ HasPort b p)
or_has a b p = (
  λ has. max_one (bit_at a p) (bit_at b p) (bit_at (bit_or a b) p) (bit_at_or a b p) (bit_at-lt a p) (bit_at-lt b p) has,
  λ has. one_max (bit_at a p) (bit_at b p) (bit_at (bit_or a b) p) (bit_at_or a b p) (bit_at-lt a p) (bit_at-lt b p) has,
)

pub better_both : (a b : Best) → a.cost ≡ b.cost → IsBetter a b (record { cost = a.cost; ports = bit_or a.ports b.ports })
better_both a b same = record {
  cost = omega arith;
  ports = λ p. (
    λ has. elim ((or_has a.ports b.ports p).0 has) [
      | inl one ↦ inl (omega arith, one)
      | inr other ↦ inr (omega arith, other)
    ],
    λ has. elim has [
      | inl one ↦ (or_has a.ports b.ports p).1 (inl one.1)
      | inr other ↦ (or_has a.ports b.ports p).1 (inr other.1)
    ],
  );
}

-- and a port more
set_has : (ports port p : ℕ) → port < 16 → HasPort (bit_or ports (1 * 2 ^ port % 2 ^ 16)) p ↔ (HasPort ports p ⊎ (p ≡ port))
set_has ports port p within = (
  λ has. elim (cases_eq p port) [
    | inl same ↦ inr same
    | inr other ↦ inl (sym (bit_at_set_other w16 ports port within p other) ∙ has)
  ],
  λ has. elim (cases_eq p port) [
    | inl same ↦ rw same (bit_at_set_same w16 ports port within)
    | inr other ↦ elim has [
      | inl old ↦ bit_at_set_other w16 ports port within p other ∙ old
      | inr same ↦ absurd (other same)
    ]
  ],
)

pub is_longer : (any : Bool) (from z port : ℕ) (b : Best) (ports link : ℕ) → port ≤ 12 → ((z ≡ from) × (ports ≡ bit_or b.ports (1 * 2 ^ port % 2 ^ 16))) ⊎ ((z ≢ from) × (ports ≡ b.ports)) → ((any ≡ true) × (link ≡ 0)) ⊎ ((any ≡ false) × (link ≡ 1)) → IsLonger any from z port b (record { cost = b.cost + link; ports = ports })
is_longer any from z port b ports link low which costs = record {
  cost = ap (λ (n : ℕ). b.cost + n) (elim costs [
    | inl (is, e) ↦ rw is e
    | inr (is, e) ↦ rw is e
  ]);
  ports = λ p. elim which [
    | inl (here, e) ↦ (
        let set = set_has b.ports port p (omega arith) in (
          λ has. elim (set.0 (subst (λ (n : ℕ). HasPort n p) e has)) [
            | inl old ↦ inl old
            | inr new ↦ inr (here, new)
          ],
          λ has. subst (λ (n : ℕ). HasPort n p) (sym e) (set.1 (elim has [
            | inl old ↦ inl old
            | inr new ↦ inr new.1
          ])),
        ))
    | inr (other, e) ↦ (
      λ has. inl (subst (λ (n : ℕ). HasPort n p) e has),
      λ has. elim has [
        | inl old ↦ subst (λ (n : ℕ). HasPort n p) (sym e) old
        | inr new ↦ absurd (other new.0)
      ],
    )
  ];
}
