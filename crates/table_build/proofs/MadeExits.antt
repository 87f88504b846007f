use Rattle.std.proofs.Common.{◌≡◌, ◌≢◌, sym, subst, refl, ℕ, ◌+◌, ◌*◌, ◌<◌, ◌≤◌, List, Option, Some, None, Bool, true, false, not, arith, length, Contains, inl, inr, ◌==◌, ◌↔◌}
use Rattle.common_values.proofs.RangeLemmas.{Contains-kept}
use Rattle.std.specs.Prelude.{if◌then◌else◌, filter}
use Rattle.std.specs.Option.{option_map_or}
use Rattle.std.proofs.lemmas.Bool.{cases_Bool, and_parts, and_from}
use Rattle.std.proofs.lemmas.Bool.Decides.{nat_tests}
use Rattle.std.proofs.lemmas.List.Elements.{All-weaker, filter_passes}
use Rattle.std.proofs.lemmas.List.Kept.{AllPairs-filter}
use Rattle.an_base.specs.Values.{EntryOf}
use Rattle.an_base.specs.Rows.{ExitsRise}
use Rattle.topo_graph.specs.Topology.{far_of, IsGraph}
use Rattle.topo_graph.proofs.FarLemmas.{one_far}
use Rattle.updown.specs.Routes.{is_up_end, HasLegal, HasDown, IsLeast}
use Rattle.updown.proofs.LeastLemmas.{least_iff}
use Rattle.table_build.specs.Exits.{Begins, AreExits, passes}
use Rattle.table_build.proofs.ExitLemmas.{HasWay, exit_is, none_behind, up_not_behind, down_behind, has_way, way_of, Behind}
use Rattle.table_build.proofs.WayLaws.{way_far}
use Rattle.table_build.proofs.LengthLaws.{way_short}
use Rattle.table_build.specs.Made.{exit_ports, leads_in, shortest, left_after, is_exit, exits_to}
use Rattle.table_build.proofs.MadeLists.{range_rising, find_least}
use Rattle.table_build.proofs.ShortestLaws.{found, finds, external}
use Rattle.common_values.proofs.MemberLemmas.{one_rising}

-- the search finds the least length of the ways
pub shortest_least : (es : List EntryOf) (up : Bool) (x y : ℕ) → IsGraph es → x < length es → IsLeast (HasWay es up x y) (shortest es y up x)
shortest_least es up x y graph low =
    least_iff (λ m. (0 ≤ m) × (m < 0 + 2 * length es) × (leads_in es y m up x ≡ true)) (HasWay es up x y) (shortest es y up x)
    (λ n h. let w = found es y n up x h.2 in has_way es up x y n w.0 w.2 w.1)
    (λ n has.
    let w = way_of es up x y n has in
    let len = w.1 in
    let short = way_short es up x y w.0 graph low w.2 in
    (omega arith, omega arith, subst (λ (m : ℕ). leads_in es y m up x ≡ true) w.1 (finds es y up x w.0 graph w.2)))
    (find_least (λ n. leads_in es y n up x) (2 * length es) 0)

-- behind a link upward
above : (es : List EntryOf) (up : Bool) (x y p z q : ℕ) → IsGraph es → far_of es x p ≡ Some (z, q) → is_up_end es z x ≡ true → IsLeast (Behind es up x y p) (if up then shortest es y true z else None)
above es true x y p z q graph e is =
    least_iff (HasLegal es z y) (Behind es true x y p) (shortest es y true z)
    (λ n has. (z, q, e, inl (is, has)))
    (λ n (w, r, f, side). let same = one_far es x p w r z q f e in elim side [
      | inl u ↦ subst (λ (v : ℕ). HasLegal es v y n) same u.1
      | inr d ↦ absurd (let no : is_up_end es z x ≡ false = subst (λ (v : ℕ). is_up_end es v x ≡ false) same d.0 in cc)
    ])
    (shortest_least es true z y graph (graph.within x p (z, q) e).far_place)
above es false x y p z q graph e is = up_not_behind es x y p z q e is

-- behind a link downward
below : (es : List EntryOf) (up : Bool) (x y p z q : ℕ) → IsGraph es → far_of es x p ≡ Some (z, q) → is_up_end es z x ≡ false → IsLeast (Behind es up x y p) (shortest es y false z)
below es true x y p z q graph e is =
    least_iff (HasDown es z y) (Behind es true x y p) (shortest es y false z)
    (λ n has. (z, q, e, inr (is, has)))
    (λ n (w, r, f, side). let same = one_far es x p w r z q f e in elim side [
      | inl u ↦ absurd (let no : is_up_end es z x ≡ true = subst (λ (v : ℕ). is_up_end es v x ≡ true) same u.0 in cc)
      | inr d ↦ subst (λ (v : ℕ). HasDown es v y n) same d.1
    ])
    (shortest_least es false z y graph (graph.within x p (z, q) e).far_place)
below es false x y p z q graph e is = down_behind es x y p z q (shortest es y false z) e is (shortest_least es false z y graph (graph.within x p (z, q) e).far_place)

-- what is left behind a port is the least of what may follow it
left_least : (es : List EntryOf) (up : Bool) (x y p : ℕ) (o : Option (ℕ × ℕ)) → IsGraph es → far_of es x p ≡ o → IsLeast (Behind es up x y p) (option_map_or (left_after es y up x) o None)
left_least es true x y p None graph e = λ n (z, q, f, side). absurd (cc)
left_least es false x y p None graph e = none_behind es x y p e
left_least es up x y p (Some (z, q)) graph e = elim (cases_Bool (is_up_end es z x)) [
  | inl is ↦ subst (λ (b : Bool). IsLeast (Behind es up x y p) (if b then (if up then shortest es y true z else None) else shortest es y false z)) (sym is) (above es up x y p z q graph e is)
  | inr is ↦ subst (λ (b : Bool). IsLeast (Behind es up x y p) (if b then (if up then shortest es y true z else None) else shortest es y false z)) (sym is) (below es up x y p z q graph e is)
]

not_same : (x y : ℕ) → x ≢ y → not (x == y) ≡ true
not_same x y other = grind (arith, nat_tests)

not_true : (x y : ℕ) → not (x == y) ≡ true → x ≢ y
not_true x y test same = grind (arith, nat_tests)

-- the test of a port
pub exit_test : (es : List EntryOf) (any up : Bool) (x y p : ℕ) → IsGraph es → x < length es → (is_exit es any up x y p ≡ true) ↔ Begins es any up x y p
exit_test es any up x y p graph low = (
  λ t. let parts = and_parts (not (x == y)) (passes any left whole) t in (decides (not_true x y parts.0)).0 parts.1,
  λ begins. and_from (not (x == y)) (passes any left whole) (not_same x y begins.other) ((decides begins.other).1 begins),
)
  where
    left : Option ℕ
    left = option_map_or (left_after es y up x) (far_of es x p) None

    whole : Option ℕ
    whole = shortest es y up x

    decides : x ≢ y → (passes any left whole ≡ true) ↔ Begins es any up x y p
    decides other = exit_is es any up x y p left whole (passes any left whole) other (left_least es up x y p (far_of es x p) graph refl) (shortest_least es up x y graph low) refl

exits_among : (es : List EntryOf) (any up : Bool) (x y : ℕ) (ports : List ℕ) → IsGraph es → x < length es → ExitsRise ports → ((p : ℕ) → 1 ≤ p → p ≤ 12 → Contains ports p) → AreExits es any up x y (filter (is_exit es any up x y) ports)
exits_among es any up x y ports graph low rising each = record {
  rising = AllPairs-filter (λ p q. p < q) (is_exit es any up x y) ports rising;
  each = All-weaker (λ p. is_exit es any up x y p ≡ true) (Begins es any up x y) (λ p t. (exit_test es any up x y p graph low).0 t) (filter (is_exit es any up x y) ports) (filter_passes (is_exit es any up x y) ports);
  whole = λ p begins.
      let far = way_far es up x y p begins.rest begins.way in
      let within = graph.within x p (far.0, far.1) far.2 in
      Contains-kept (is_exit es any up x y) ports p (each p within.port_least within.port_most) ((exit_test es any up x y p graph low).1 begins);
}

-- what is made are the exits
pub made_exits : (es : List EntryOf) (any up : Bool) (x y : ℕ) → IsGraph es → x < length es → AreExits es any up x y (exits_to es any up x y)
made_exits es any up x y graph low = exits_among es any up x y exit_ports graph low (range_rising 1 12) external

-- and there are no others
pub one_exits : (es : List EntryOf) (any up : Bool) (x y : ℕ) (ps qs : List ℕ) → AreExits es any up x y ps → AreExits es any up x y qs → ps ≡ qs
one_exits es any up x y ps qs a b =
    one_rising (λ p q. p < q) ps qs (λ p q has has' less more. omega arith) a.rising b.rising
    (λ p has. b.whole p (begins ps a p has))
    (λ p has. a.whole p (begins qs b p has))
  where
    begins : (rs : List ℕ) → AreExits es any up x y rs → (p : ℕ) → Contains rs p → Begins es any up x y p
    begins rs are p (k, low, e) = subst (Begins es any up x y) e (are.each k p low)
