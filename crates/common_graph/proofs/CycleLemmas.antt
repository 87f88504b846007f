-- The least way down the levels is the least cycle.
use Rattle.std.proofs.Common.{◌≡◌, sym, subst, refl, ℕ, zero, suc, true, ◌-◌, ◌<◌, ◌≤◌, List, [], ◌∷◌, ◌++◌, arith, length, Less, Equal, Greater, inl, inr}
use Rattle.common_values.proofs.OrderingLemmas.{nat_apart}
use Rattle.std.specs.Prelude.{IsTrue}
use Rattle.std.specs.declared.cmp.Ordering.{Ordering}
use Rattle.std.specs.Ordering.{nat_cmp, ordering_then, is_le}
use Rattle.std.specs.Cmp.Lexicographic.{slice_cmp}
use Rattle.std.proofs.lemmas.Bool.{cases_lt}
use Rattle.std.proofs.lemmas.Bool.Decides.{nat_tests}
use Rattle.common_graph.specs.Graph.{GraphOf, LeadsTo, value_at}
use Rattle.common_graph.specs.Cycles.{Path, IsCycle, IsLeastFrom, IsLeastCycle}
use Rattle.common_graph.specs.Search.{Holds, HasPeer, IsNextBelow, Descends, IsLeastCycleFrom}

cmp_le : (x y : ℕ) → x ≤ y → is_le (nat_cmp x y) ≡ true
cmp_le x y h = grind (arith, nat_tests)

le_then : (o rest : Ordering) → IsTrue (is_le o) → (o ≡ Equal → IsTrue (is_le rest)) → IsTrue (is_le (ordering_then o rest))
le_then Less rest le same = refl
le_then Equal rest le same = same refl
le_then Greater rest le same = absurd (cc)

-- tiers never fall along a path
tiers_rise : (graph : GraphOf) (tiers : List ℕ) → Holds graph tiers 0 → (a : ℕ) (cs : List ℕ) (z : ℕ) → Path (LeadsTo graph) a cs z → value_at tiers a ≤ value_at tiers z
tiers_rise graph tiers are a [] z step = let h = are a z step in omega arith
tiers_rise graph tiers are a (c ∷ cs) z (step, path) =
    let up = are a c step in
    let rest = tiers_rise graph tiers are c cs z path in
    omega arith

-- so they are the same all along a cycle
pub cycle_peer : (graph : GraphOf) (tiers : List ℕ) → Holds graph tiers 0 → (c : ℕ) (cs : List ℕ) → IsCycle (LeadsTo graph) c cs → HasPeer graph tiers c
cycle_peer graph tiers are c [] step = (c, step, refl)
cycle_peer graph tiers are c (d ∷ ds) (step, path) =
    let up = are c d step in
    let back = tiers_rise graph tiers are d ds c path in
    (d, step, omega arith)

-- one node more of a descent
descends_more : (graph : GraphOf) (levels : List ℕ) (a n : ℕ) (cs : List ℕ) (z b l : ℕ) → Descends graph levels a n cs z (suc l) → IsNextBelow graph levels z (suc l) b → Descends graph levels a n (cs ++ b ∷ []) b l
descends_more graph levels a n [] z b l (same, is) next =
    let here : IsNextBelow graph levels a n b = subst (λ (k : ℕ). IsNextBelow graph levels a k b) (sym is) (subst (λ (x : ℕ). IsNextBelow graph levels x (suc l) b) (sym same) next) in
    (l, is, here, (refl, refl))
descends_more graph levels a n (c ∷ cs) z b l (m, is, here, rest) next = (m, is, here, descends_more graph levels c m cs z b l rest next)

pub descent_step : (graph : GraphOf) (levels : List ℕ) (a n l : ℕ) (cs : List ℕ) (z next : ℕ) → 0 < l → Descends graph levels a n cs z l → IsNextBelow graph levels z l next → Descends graph levels a n (cs ++ next ∷ []) next (l - 1)
descent_step graph levels a n zero cs z next some descends at = absurd (omega arith)
descent_step graph levels a n (suc m) cs z next some descends at =
    let is : m ≡ suc m - 1 = omega arith in
    subst (λ (k : ℕ). Descends graph levels a n (cs ++ next ∷ []) next k) is (descends_more graph levels a n cs z next m descends at)

descends_length : (graph : GraphOf) (levels : List ℕ) (a n : ℕ) (cs : List ℕ) (z : ℕ) → Descends graph levels a n cs z 0 → length cs ≡ n
descends_length graph levels a n [] z (same, is) = sym is
descends_length graph levels a n (c ∷ cs) z (m, is, here, rest) = let h = descends_length graph levels c m cs z rest in omega arith

module _ (graph : GraphOf) (levels : List ℕ) (start : ℕ) (holds : Holds graph levels 1) (goal : value_at levels start ≡ 0) where
  -- a level is at most the length of a way
  pub low_level : (a : ℕ) (ds : List ℕ) → Path (LeadsTo graph) a ds start → value_at levels a ≤ suc (length ds)
  low_level a [] step = let h = holds a start step in omega arith
  low_level a (d ∷ ds) (step, path) =
      let h = holds a d step in
      let rest = low_level d ds path in
      omega arith

  descends_path : (a n : ℕ) (cs : List ℕ) (z : ℕ) → Descends graph levels a n cs z 0 → LeadsTo graph z start → Path (LeadsTo graph) a cs start
  descends_path a n [] z (same, is) step = subst (λ (x : ℕ). LeadsTo graph x start) (sym same) step
  descends_path a n (c ∷ cs) z (m, is, here, rest) last = (here.step, descends_path c m cs z rest last)

  descends_least : (a n : ℕ) (cs : List ℕ) (z : ℕ) → Descends graph levels a n cs z 0 → (ds : List ℕ) → Path (LeadsTo graph) a ds start → length ds ≡ length cs → IsTrue (is_le (slice_cmp nat_cmp cs ds))
  descends_least a n [] z descends [] path count = refl
  descends_least a n [] z descends (d ∷ ds) path count = absurd (omega arith)
  descends_least a n (b ∷ bs) z descends [] path count = absurd (omega arith)
  descends_least a n (b ∷ bs) z (m, is, here, rest) (d ∷ ds) (step, path) count =
      let low = low_level d ds path in
      let size = descends_length graph levels b m bs z rest in
      let le = here.first d step (omega arith) (omega arith) in
      le_then (nat_cmp b d) (slice_cmp nat_cmp bs ds) (cmp_le b d le)
      (λ equal.
      let one : b ≡ d = nat_apart b d equal in
      descends_least b m bs z rest ds (subst (λ (x : ℕ). Path (LeadsTo graph) x ds start) (sym one) path) (omega arith))

  -- the descent is the least shortest cycle
  pub descent_least : (n : ℕ) (cs : List ℕ) (z : ℕ) → ((next : ℕ) → LeadsTo graph start next → n ≤ value_at levels next) → Descends graph levels start n cs z 0 → LeadsTo graph z start → IsLeastFrom nat_cmp (LeadsTo graph) start cs
  descent_least n cs z bound descends last = record {
    closed = descends_path start n cs z descends last;
    shortest = shorter;
    least = λ ds cycle count. descends_least start n cs z descends ds cycle count;
  }
    where
      shorter : (ds : List ℕ) → IsCycle (LeadsTo graph) start ds → length cs ≤ length ds
      shorter [] step = let size = descends_length graph levels start n cs z descends in let b = bound start step in omega arith
      shorter (d ∷ ds) (step, path) =
          let size = descends_length graph levels start n cs z descends in
          let b = bound d step in
          let low = low_level d ds path in
          omega arith

-- the least cycle from the first node on one is the least
pub cycle_at : (graph : GraphOf) (start : ℕ) (nodes : List ℕ) → ((d : ℕ) (ds : List ℕ) → d < start → IsCycle (LeadsTo graph) d ds → ⊥) → IsLeastCycleFrom graph start nodes → IsLeastCycle nat_cmp (LeadsTo graph) nodes
cycle_at graph start [] none least = absurd least
cycle_at graph start (c ∷ cs) none (same, least) = record {
  from = subst (λ (x : ℕ). IsLeastFrom nat_cmp (LeadsTo graph) x cs) (sym same) least;
  first = λ d ds cycle. elim (cases_lt d start) [
    | inl less ↦ absurd (none d ds less cycle)
    | inr more ↦ cmp_le c d (let e = same in omega arith)
  ];
}

pub path_low : (graph : GraphOf) (a : ℕ) (cs : List ℕ) (z : ℕ) → Path (LeadsTo graph) a cs z → a < length graph.bases
path_low graph a [] z step = step.low
path_low graph a (c ∷ cs) z (step, path) = step.low
