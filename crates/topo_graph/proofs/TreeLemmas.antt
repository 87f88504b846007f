use Rattle.std.proofs.Common.{◌≡◌, ◌∙◌, sym, ap, refl, ℕ, zero, suc, ◌<◌, ◌≤◌, List, Some, arith, length, inl, inr, IsTrue, Less, Equal, Greater}
use Rattle.std.specs.declared.cmp.Ordering.{Ordering}
use Rattle.std.specs.Ordering.{is_le, ordering_reverse}
use Rattle.std.proofs.lemmas.Bool.{cases_eq, cases_lt}
use Rattle.an_base.specs.Values.{EntryOf}
use Rattle.an_base.specs.Order.{life_cmp, LivesRise}
use Rattle.an_base.specs.Tree.{Walk, IsDistance}
use Rattle.an_base.specs.TotalOrders.{life_total}
use Rattle.an_base.proofs.PlaceLaws.{one_level}
use Rattle.topo_graph.specs.Topology.{entry_at, life_at, level_at, network, IsTree, IsGraph}
use Rattle.topo_graph.specs.Stands.{Stands}
use Rattle.topo_graph.proofs.PlaceLemmas.{rises, life_same}

-- the places of entries are ordered as their lives
pub lives_le : (es : List EntryOf) (x y : ℕ) → LivesRise es → y < length es → x ≤ y → IsTrue (is_le (life_cmp (life_at es x) (life_at es y)))
lives_le es x y rising low le = elim (cases_eq x y) [
  | inl same ↦ (let s = life_same (life_at es y) in rw (same, s) refl)
  | inr other ↦ (let r = rises es x y rising (omega arith) low in rw r refl)
]

not_le : (o p : Ordering) → o ≡ ordering_reverse p → p ≡ Less → IsTrue (is_le o) → ⊥
not_le Less p e f le = absurd (let g : Less ≡ Greater = e ∙ ap ordering_reverse f in cc)
not_le Equal p e f le = absurd (let g : Equal ≡ Greater = e ∙ ap ordering_reverse f in cc)
not_le Greater p e f le = absurd (cc)

pub places_le : (es : List EntryOf) (x y : ℕ) → LivesRise es → x < length es → IsTrue (is_le (life_cmp (life_at es x) (life_at es y))) → x ≤ y
places_le es x y rising low le = elim (cases_lt y x) [
  | inl lt ↦ absurd (not_le (life_cmp (life_at es x) (life_at es y)) (life_cmp (life_at es y) (life_at es x)) (life_total.antisymm (life_at es x) (life_at es y)) (rises es y x rising lt low) le)
  | inr ge ↦ ge
]

-- all entries stand
abbrev pub AllStand : List EntryOf → Type 0
AllStand es = (x : ℕ) → x < length es → Stands es x (entry_at es x).position

-- then from each there is a walk as long as its level
walk_up : (es : List EntryOf) → IsGraph es → AllStand es → (n x : ℕ) → x < length es → level_at es x ≡ n → Walk (network es) n x 0
walk_up es graph all zero x low e = elim (cases_eq x 0) [
  | inl same ↦ same
  | inr other ↦ (let b = (all x low).below other in let h = b.1.parent.level in absurd (omega arith))
]
walk_up es graph all (suc n) x low e = elim (cases_eq x 0) [
  | inl same ↦ (let f = ((all x low).first same).0 in absurd (omega arith))
  | inr other ↦ (
      let b = (all x low).below other in
      let h = b.1.parent.level in
      let p = (entry_at es x).position.port in
      let within = graph.within x p (b.0, b.1.parent.port.0) b.1.parent.port.1 in
      (b.0, (p, b.1.parent.port.0, b.1.parent.port.1), walk_up es graph all n b.0 within.far_place (omega arith)))
]

-- and none is shorter
no_shorter : (es : List EntryOf) → IsGraph es → AllStand es → (m x : ℕ) → x < length es → Walk (network es) m x 0 → level_at es x ≤ m
no_shorter es graph all zero x low walk = let f = ((all x low).first walk).0 in omega arith
no_shorter es graph all (suc m) x low (z, (p, q, e), walk) = elim (cases_eq x 0) [
  | inl same ↦ (let f = ((all x low).first same).0 in omega arith)
  | inr other ↦ (
      let b = (all x low).below other in
      let after = (b.1.after p z q e).0 in
      let within = graph.within x p (z, q) e in
      let rest = no_shorter es graph all m z within.far_place walk in
      omega arith)
]

-- so the levels are the distances
distances : (es : List EntryOf) → IsGraph es → AllStand es → (x : ℕ) → x < length es → IsDistance (network es) x 0 (level_at es x)
distances es graph all x low = record {
  walk = walk_up es graph all (level_at es x) x low refl;
  least = λ m walk. no_shorter es graph all m x low walk;
}

-- where all entries stand they are the tree
pub stand_tree : (es : List EntryOf) → IsGraph es → AllStand es → IsTree es
stand_tree es graph all = λ x low.
    let here = all x low in
    let p = (entry_at es x).position in
    record {
      root = here.root;
      level = distances es graph all x low;
      at_root = λ same. let f = here.first same in (f.1, f.2);
      below = λ other.
          let b = here.below other in
          let y = b.0 in
          let parent = b.1.parent in
          let within = graph.within x p.port (y, parent.port.0) parent.port.1 in (
            y,
            record {
              parent = parent.parent;
              nearer = record {
                neighbour = (p.port, parent.port.0, parent.port.1);
                nearer = (level_at es y, parent.level, distances es graph all y within.far_place);
              };
              least = λ z nearer.
                  let o = nearer.neighbour.0 in
                  let q = nearer.neighbour.1 in
                  let z_low = (graph.within x o (z, q) nearer.neighbour.2).far_place in
                  let m : nearer.nearer.0 ≡ level_at es z = one_level (network es) z 0 nearer.nearer.0 (level_at es z) nearer.nearer.2 (distances es graph all z z_low) in
                  let k = nearer.nearer.1 in
                  let after = ((b.1.after o z q nearer.neighbour.2).1 (omega arith)).0 in
                  lives_le es y z graph.rising z_low after;
              port = parent.port;
              least_port = λ o q e. ((b.1.after o y q e).1 parent.level).1 refl;
            },
          );
    }

-- and where they are the tree each stands
pub tree_stands : (es : List EntryOf) → IsGraph es → IsTree es → AllStand es
tree_stands es graph tree = λ x low.
    let here = tree x low in
    record {
      root = here.root;
      first = λ same.
          let least = here.level.least 0 same in
          let at = here.at_root same in
          (omega arith, at.0, at.1);
      below = λ other.
          let b = here.below other in
          let y = b.0 in
          let parent = b.1 in
          let y_low = (graph.within x (entry_at es x).position.port (y, parent.port.0) parent.port.1).far_place in
          let m : parent.nearer.nearer.0 ≡ level_at es y = one_level (network es) y 0 parent.nearer.nearer.0 (level_at es y) parent.nearer.nearer.2 (tree y y_low).level in
          let k = parent.nearer.nearer.1 in (
            y,
            record {
              parent = record {
                port = parent.port;
                level = omega arith;
                parent = parent.parent;
              };
              after = λ o z q e.
                  let z_low = (graph.within x o (z, q) e).far_place in
                  let z_level = (tree z z_low).level in
                  let longer : level_at es x ≤ suc (level_at es z) = here.level.least (suc (level_at es z)) (z, (o, q, e), z_level.walk) in (
                    omega arith,
                    λ level. (
                      places_le es y z graph.rising y_low (parent.least z (record { neighbour = (o, q, e); nearer = (level_at es z, level, z_level) })),
                      λ same. parent.least_port o q (e ∙ ap (λ (n : ℕ). Some (n, q)) (sym same)),
                    ),
                  );
            },
          );
    }
