use Rattle.std.specs.Prelude.{Any}
use Rattle.std.proofs.Common.{◌≡◌, ◌∙◌, sym, subst, refl, ℕ, suc, ◌+◌, ◌<◌, List, [], ◌∷◌, ◌++◌, Option, Some, None, arith, length, get_or, All, inl, inr}
use Rattle.std.proofs.lemmas.Bool.{cases_lt, cases_eq}
use Rattle.std.proofs.lemmas.List.{get_or_past}
use Rattle.std.proofs.lemmas.List.Elements.{All-push, All-weaker, All-get_or, All-nil}
use Rattle.std.proofs.lemmas.List.Quantifiers.{all_pairs_push, Any-push}
use Rattle.an_base.specs.Values.{EntryOf}
use Rattle.an_base.specs.Order.{IsBelow}
use Rattle.an_base.specs.Tree.{IsClosed}
use Rattle.net_graph.specs.Wires.{Wires, IsWired, uid_of, network}
use Rattle.net_graph.specs.Levels.{level_at, AreDistances}
use Rattle.net_graph.specs.Next.{IsNext, IsNextOf}
use Rattle.net_graph.specs.Forest.{IsEntry, IsComponent, RootsBelow, IsForest}
use Rattle.net_graph.specs.Forested.{IsMarked, IsWithout, IsTreeBelow, AreTrees}
use Rattle.common_values.proofs.ListLemmas.{Any-front, Any-weaker}
use Rattle.net_graph.proofs.LevelLemmas.{some_or_none}
use Rattle.net_graph.proofs.FarLemmas.{network_closed}
use Rattle.net_graph.proofs.PlaceLemmas.{level_is}
use Rattle.net_graph.proofs.CollectLemmas.{uid_one, lives_lt}
use Rattle.net_graph.proofs.WalkLemmas.{LeadsBack, walk_back, walk_keeps}

-- the root is the least of its component
pub root_first : (w : Wires) (left levels : List (Option ℕ)) (from r : ℕ) (forest : List (List EntryOf)) → LeadsBack (network w) → AreTrees w left from forest → IsNext w left from (length w.switches) r → AreDistances (network w) r levels → IsNext w levels 0 (length w.switches) r
root_first w left levels from r forest back trees next distances = record {
  below = next.below;
  left = (0, level_is (network w) r levels r 0 distances next.below (record { walk = refl; least = λ m _. omega arith }), omega arith);
  least = λ z in_z is_left.
      let d = (distances.found z is_left.0 is_left.1).0 in
      let to_z = walk_back (network w) is_left.0 z r back d.walk in
      let marked = walk_keeps (network w) (λ (x : ℕ). IsMarked left x) trees.closed is_left.0 r z to_z (next.left.0, next.left.1) in
      next.least z in_z (marked.0, marked.1, trees.above z marked.0 marked.1);
}

-- one more component
pub one_tree : (w : Wires) (left new levels : List (Option ℕ)) (from r : ℕ) (forest : List (List EntryOf)) (entries : List EntryOf) → IsWired w → IsClosed (network w) → LeadsBack (network w) → AreTrees w left from forest → IsNext w left from (length w.switches) r → AreDistances (network w) r levels → IsComponent w r entries → IsWithout left new levels (length w.switches) → ((x l : ℕ) → level_at left x ≡ Some l → x < length w.switches) → AreTrees w new (uid_of w.switches r + 1) (forest ++ entries ∷ [])
one_tree w left new levels from r forest entries wired closed back trees next distances component without within = record {
  trees = All-push (IsTreeBelow w (uid_of w.switches r + 1)) forest entries
      (All-weaker (IsTreeBelow w from) (IsTreeBelow w (uid_of w.switches r + 1)) (λ es h. (h.0, h.1, let k = h.2 in let m = next.left.2 in omega arith)) forest trees.trees)
      (r, component, omega arith);
  rising = all_pairs_push RootsBelow forest entries trees.rising
      (λ k d in_k. rises k d in_k);
  closed = λ x y near marked.
      let was = was_marked x marked in
      let at = trees.closed x y near was in
      elim (some_or_none (level_at levels y)) [
        | inl none ↦ (at.0, without.kept y none ∙ at.1)
        | inr some ↦ absurd (
            let walk = (distances.found y some.0 some.1).0.walk in
            elim (some_or_none (level_at levels x)) [
              | inl no_level ↦ distances.none x (suc some.0) (within x was.0 was.1) no_level (y, near, walk)
              | inr level ↦ (let gone = without.gone x level.0 (within x was.0 was.1) level.1 in let m = marked.1 in cc)
            ])
      ];
  whole = λ x in_x none. elim (some_or_none (level_at levels x)) [
    | inl no_level ↦ Any-front (Any (λ e. e.life ≡ (network w).life x)) forest (entries ∷ []) (trees.whole x in_x (sym (without.kept x no_level) ∙ none))
    | inr level ↦ Any-push (Any (λ e. e.life ≡ (network w).life x)) forest entries (Any-weaker (IsEntry w r x) (λ e. e.life ≡ (network w).life x) (λ e h. h.life) entries (component.whole x level.0 in_x (distances.found x level.0 level.1).0.walk))
  ];
  above = λ x l marked.
      let was = was_marked x (l, marked) in
      let low = trees.above x was.0 was.1 in
      let least = next.least x (within x was.0 was.1) (was.0, was.1, low) in
      elim (cases_eq (uid_of w.switches x) (uid_of w.switches r)) [
        | inl same ↦ absurd (
            let at_r : x ≡ r = uid_one w x r wired (within x was.0 was.1) next.below same in
            let level = level_is (network w) r levels r 0 distances next.below (record { walk = refl; least = λ m _. omega arith }) in
            let gone = without.gone r 0 next.below level in
            let there : level_at new r ≡ Some l = subst (λ (z : ℕ). level_at new z ≡ Some l) at_r marked in
            cc)
        | inr other ↦ omega arith
      ];
}
  where
    was_marked : (x : ℕ) → IsMarked new x → IsMarked left x
    was_marked x marked = elim (some_or_none (level_at levels x)) [
      | inl no_level ↦ (marked.0, sym (without.kept x no_level) ∙ marked.1)
      | inr level ↦ (elim (cases_lt x (length w.switches)) [
        | inl in_x ↦ absurd (let gone = without.gone x level.0 in_x level.1 in let m = marked.1 in cc)
        | inr past ↦ (marked.0, sym (without.later x past) ∙ marked.1)
      ])
    ]

    roots : (d e : EntryOf) (u x v y : ℕ) → IsEntry w u x d → IsEntry w v y e → uid_of w.switches u < uid_of w.switches v → IsBelow d.position.root e.position.root
    roots d e u x v y is_d is_e lt = lives_lt d.position.root e.position.root (uid_of w.switches u) (uid_of w.switches v) is_d.place.root is_e.place.root lt

    rises : (k : ℕ) (a : List EntryOf) → k < length forest → All (λ d. All (λ e. IsBelow d.position.root e.position.root) entries) (get_or forest k a)
    rises k a in_k =
        let tree = All-get_or (IsTreeBelow w from) forest k a in_k trees.trees in
        All-weaker (λ d. (x : ℕ) × (x < (network w).count) × IsEntry w tree.0 x d) (λ d. All (λ e. IsBelow d.position.root e.position.root) entries)
        (λ d h. All-weaker (λ e. (y : ℕ) × (y < (network w).count) × IsEntry w r y e) (λ e. IsBelow d.position.root e.position.root)
        (λ e i. roots d e tree.0 h.0 r i.0 h.2 i.2 (let t = tree.2 in let m = next.left.2 in omega arith)) entries component.only)
        (get_or forest k a) tree.1.only

-- once no switch is left, the trees are the forest
pub all_trees : (w : Wires) (left : List (Option ℕ)) (from : ℕ) (forest : List (List EntryOf)) → AreTrees w left from forest → IsNextOf w left from (length w.switches) None → IsForest w forest
all_trees w left from forest trees none = record {
  components = All-weaker (IsTreeBelow w from) (λ es. (r : ℕ) × IsComponent w r es) (λ es h. (h.0, h.1)) forest trees.trees;
  whole = λ x in_x. elim (some_or_none (level_at left x)) [
    | inl gone ↦ trees.whole x in_x gone
    | inr marked ↦ absurd (none x in_x (marked.0, marked.1, trees.above x marked.0 marked.1))
  ];
  rising = trees.rising;
}

-- a mark is that of a switch that there is
pub marked_within : (marks : List (Option ℕ)) (n x l : ℕ) → length marks ≡ n → level_at marks x ≡ Some l → x < n
marked_within marks n x l len marked = elim (cases_lt x n) [
  | inl low ↦ low
  | inr high ↦ absurd (let past : level_at marks x ≡ None = get_or_past marks x None (omega arith) in cc)
]

-- at first all are left
pub no_trees : (w : Wires) (marks : List (Option ℕ)) → IsWired w → length marks ≡ length w.switches → ((x : ℕ) → x < length w.switches → level_at marks x ≡ Some 0) → AreTrees w marks 0 []
no_trees w marks wired len marked = record {
  trees = All-nil (IsTreeBelow w 0);
  rising = λ i j d low below. absurd (omega arith);
  closed = λ x y near _. (0, marked y (network_closed w wired x near.0 y near.1 near.2));
  whole = λ x in_x none. absurd (let m = marked x in_x in cc);
  above = λ x l _. omega arith;
}
