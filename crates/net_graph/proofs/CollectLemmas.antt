use Rattle.std.proofs.Common.{◌≡◌, ◌∙◌, sym, subst, refl, ℕ, zero, suc, ◌+◌, ◌<◌, ◌≤◌, List, [], ◌∷◌, ◌++◌, Option, None, arith, length, length-append, get_or, All, map, inl, inr, IsTrue, Less}
use Rattle.std.specs.Ordering.{is_lt, is_le, nat_cmp, ordering_then}
use Rattle.std.specs.Cmp.{nat_cmp_is}
use Rattle.std.proofs.lemmas.Bool.{cases_lt, cases_order}
use Rattle.std.proofs.lemmas.List.{length-map}
use Rattle.std.proofs.lemmas.List.Elements.{All-push, All-weaker, All-nil, All-cons}
use Rattle.std.proofs.lemmas.List.Quantifiers.{Any-push, all_pairs_push}
use Rattle.an_base.specs.Values.{EntryOf, LifeId}
use Rattle.an_base.specs.Order.{life_cmp, IsBelow}
use Rattle.net_graph.specs.declared.wiring.SwitchAt.{SwitchAt}
use Rattle.net_graph.specs.Wires.{Wires, IsWired, uid_of, uids, network}
use Rattle.net_graph.specs.Levels.{level_at, AreDistances}
use Rattle.net_graph.specs.Next.{IsLeft, IsNext, IsNextOf}
use Rattle.net_graph.specs.Forest.{IsEntry, IsComponent}
use Rattle.net_graph.specs.Collected.{AreBelow}
use Rattle.net_graph.proofs.LevelLemmas.{some_or_none}
use Rattle.net_graph.proofs.PlaceLemmas.{life_le, level_is}
use Rattle.common_values.proofs.ListLemmas.{Any-front}
use Rattle.net_graph.proofs.NextLemmas.{left_count-less, left_count-most}

-- the identifier of a switch that there is
uid_at : (switches : List SwitchAt) (others : List ℕ) (x : ℕ) → x < length switches → uid_of switches x ≡ get_or (map (λ s. s.uid) switches ++ others) x 0
uid_at [] others x below = absurd (omega arith)
uid_at (s ∷ switches) others zero below = refl
uid_at (s ∷ switches) others (suc x) below = uid_at switches others x (omega arith)

-- switches with one identifier are one
pub uid_one : (w : Wires) (x y : ℕ) → IsWired w → x < length w.switches → y < length w.switches → uid_of w.switches x ≡ uid_of w.switches y → x ≡ y
uid_one w x y wired in_x in_y same =
    let hosts = map (λ h. h.uid) w.hosts in
    let a = uid_at w.switches hosts x in_x in
    let b = uid_at w.switches hosts y in_y in
    let few : length w.switches ≤ length (uids w) = omega (arith, length-append (map (λ s. s.uid) w.switches) hosts, length-map w.switches (λ s. s.uid)) in
    elim (cases_order x y) [
      | inl e ↦ e
      | inr (inl lt) ↦ absurd (wired.uids_apart x y 0 lt (omega arith) (sym a ∙ same ∙ b))
      | inr (inr gt) ↦ absurd (wired.uids_apart y x 0 gt (omega arith) (sym b ∙ sym same ∙ a))
    ]

-- lives in their first boot are below one another as their identifiers are
pub life_lt : (u v : ℕ) → u < v → IsTrue (is_lt (ordering_then (nat_cmp u v) (nat_cmp 1 1)))
life_lt u v lt = rw (sym (nat_cmp_is u v Less lt)) refl

-- the same of lives that are known by equations
pub lives_lt : (a b : LifeId) (u v : ℕ) → a ≡ record { uid = u; boot = 1 } → b ≡ record { uid = v; boot = 1 } → u < v → IsBelow a b
lives_lt a b u v p q lt = rw (p, q) (life_lt u v lt)

-- the next member is above those so far
pub rises : (w : Wires) (levels : List (Option ℕ)) (r from x : ℕ) (entries : List EntryOf) (e : EntryOf) → AreBelow w levels r from entries → IsEntry w r x e → from ≤ uid_of w.switches x → All (λ d. IsBelow d.life e.life) entries
rises w levels r from x entries e below is le =
    All-weaker (λ d. (y : ℕ) × (y < length w.switches) × IsEntry w r y d × (uid_of w.switches y < from)) (λ d. IsBelow d.life e.life)
    (λ d h. lives_lt d.life e.life (uid_of w.switches h.0) (uid_of w.switches x) h.2.life is.life (let k = h.3 in omega arith))
    entries below.each

-- with the next member
pub one_more : (w : Wires) (levels : List (Option ℕ)) (r from x : ℕ) (entries : List EntryOf) (e : EntryOf) → IsWired w → AreBelow w levels r from entries → IsNext w levels from (length w.switches) x → IsEntry w r x e → AreBelow w levels r (uid_of w.switches x + 1) (entries ++ e ∷ [])
one_more w levels r from x entries e wired below next is = record {
  each = All-push (λ d. (y : ℕ) × (y < length w.switches) × IsEntry w r y d × (uid_of w.switches y < uid_of w.switches x + 1)) entries e
      (All-weaker (λ d. (y : ℕ) × (y < length w.switches) × IsEntry w r y d × (uid_of w.switches y < from)) (λ d. (y : ℕ) × (y < length w.switches) × IsEntry w r y d × (uid_of w.switches y < uid_of w.switches x + 1))
      (λ d h. (h.0, h.1, h.2, let k = h.3 in let m = next.left.2 in omega arith)) entries below.each)
      (x, next.below, is, omega arith);
  whole = λ y l in_y at low. elim (cases_lt (uid_of w.switches y) from) [
    | inl old ↦ Any-front (IsEntry w r y) entries (e ∷ []) (below.whole y l in_y at old)
    | inr new ↦ (let h = next.least y in_y (l, at, new) in let same : y ≡ x = uid_one w y x wired in_y next.below (omega arith) in Any-push (IsEntry w r y) entries e (subst (λ (z : ℕ). IsEntry w r z e) (sym same) is))
  ];
  rising = all_pairs_push (λ a b. IsBelow a.life b.life) entries e below.rising (rises w levels r from x entries e below is next.left.2);
  few = omega (arith, below.few, left_count-less w levels from x (length w.switches) next.below next.left, length-append entries (e ∷ []));
}

-- the root alone
pub first_only : (w : Wires) (levels : List (Option ℕ)) (r : ℕ) (e : EntryOf) → IsWired w → IsNext w levels 0 (length w.switches) r → IsEntry w r r e → AreBelow w levels r (uid_of w.switches r + 1) (e ∷ [])
first_only w levels r e wired next is = record {
  each = All-cons (λ d. (y : ℕ) × (y < length w.switches) × IsEntry w r y d × (uid_of w.switches y < uid_of w.switches r + 1)) e [] (r, next.below, is, omega arith) (All-nil (λ d. (y : ℕ) × (y < length w.switches) × IsEntry w r y d × (uid_of w.switches y < uid_of w.switches r + 1)));
  whole = λ y l in_y at low. let h = next.least y in_y (l, at, omega arith) in let same : y ≡ r = uid_one w y r wired in_y next.below (omega arith) in (0, e, omega arith, refl, subst (λ (z : ℕ). IsEntry w r z e) (sym same) is);
  rising = λ i j d lt low. absurd (omega arith);
  few = omega (arith, left_count-less w levels 0 r (length w.switches) next.below next.left, left_count-most w levels 0 (length w.switches));
}

-- once no member is left, the entries are the component
pub all_collected : (w : Wires) (levels : List (Option ℕ)) (r from : ℕ) (entries : List EntryOf) → IsWired w → AreDistances (network w) r levels → IsNext w levels 0 (length w.switches) r → AreBelow w levels r from entries → IsNextOf w levels from (length w.switches) None → IsComponent w r entries
all_collected w levels r from entries wired distances next below none = record {
  root = next.below;
  whole = λ x m in_x walk. elim (some_or_none (level_at levels x)) [
    | inl no_level ↦ absurd (distances.none x m in_x no_level walk)
    | inr some ↦ elim (cases_lt (uid_of w.switches x) from) [
      | inl low ↦ below.whole x some.0 in_x some.1 low
      | inr high ↦ absurd (none x in_x (some.0, some.1, high))
    ]
  ];
  only = All-weaker (λ d. (y : ℕ) × (y < length w.switches) × IsEntry w r y d × (uid_of w.switches y < from)) (λ d. (y : ℕ) × (y < length w.switches) × IsEntry w r y d) (λ d h. (h.0, h.1, h.2)) entries below.each;
  rising = below.rising;
  least = All-weaker (λ d. (y : ℕ) × (y < length w.switches) × IsEntry w r y d × (uid_of w.switches y < from)) (λ d. IsTrue (is_le (life_cmp ((network w).life r) d.life)))
      (λ d h. least_at d h.0 h.2.life (next.least h.0 h.1 (left_of h.0 d h.2 h.1))) entries below.each;
}
  where
    least_at : (d : EntryOf) (y : ℕ) → d.life ≡ (network w).life y → uid_of w.switches r ≤ uid_of w.switches y → IsTrue (is_le (life_cmp ((network w).life r) d.life))
    least_at d y is le = rw is (life_le (uid_of w.switches r) (uid_of w.switches y) le)

    left_of : (y : ℕ) (d : EntryOf) → IsEntry w r y d → y < length w.switches → IsLeft w levels 0 y
    left_of y d is in_y = (d.position.level, level_is (network w) r levels y d.position.level distances in_y is.place.level, omega arith)
