use Rattle.std.proofs.Common.{◌≡◌, ◌≢◌, ◌∙◌, sym, ap, refl, ℕ, ◌<◌, List, [], ◌∷◌, ◌++◌, Option, Some, None, arith, length, get_or, AllPairs, Contains, inl, inr, false, cond, map}
use Rattle.std.specs.Prelude.{nat_lt}
use Rattle.std.specs.List.{flat_map, position_or_len}
use Rattle.std.proofs.lemmas.Bool.{cases_Bool}
use Rattle.std.proofs.lemmas.Bool.Decides.{nat_tests}
use Rattle.std.proofs.lemmas.List.{get_or-map, length-map}
use Rattle.std.proofs.lemmas.List.Sums.{position_or_len_is}
use Rattle.std.proofs.lemmas.List.Elements.{All-contains, Contains-append_right}
use Rattle.std.proofs.lemmas.Option.{slice_get_within, get_or_from_slice_get}
use Rattle.net_graph.specs.declared.wiring.HostOn.{HostOn}
use Rattle.net_graph.specs.declared.wiring.Far.{Far}
use Rattle.net_graph.specs.declared.wiring.Far.TheVariants.{Switch, HostAt}
use Rattle.net_graph.specs.Wires.{Wires, IsWired, IsAtFarSide, far_of, host_of, far_or_host, far_at, link_ends, host_end}
use Rattle.common_values.proofs.MemberLemmas.{Contains-map, Contains-cons_cases}
use Rattle.common_values.proofs.PairLemmas.{AllPairs-front}
use Rattle.common_values.proofs.ListLemmas.{AllPairs-head, AllPairs-tail}
use Rattle.net_graph.proofs.FarLemmas.{port_is, port_test, joined, joined_used, joins_far}
use Rattle.net_graph.proofs.HostLemmas.{is_at}

-- of values that are all different none is in two parts of the list
apart_parts : {X : Type 0} (xs ys : List X) (z : X) → AllPairs (λ a b. a ≢ b) (xs ++ ys) → Contains xs z → Contains ys z → ⊥
apart_parts [] ys z apart front back = let l = front.1 in absurd (omega arith)
apart_parts (x ∷ xs) ys z apart front back = elim (Contains-cons_cases x z xs front) [
  | inl is ↦ All-contains (λ y. x ≢ y) (xs ++ ys) z (AllPairs-head (λ a b. a ≢ b) x (xs ++ ys) apart) (Contains-append_right xs ys z back) is
  | inr later ↦ apart_parts xs ys z (AllPairs-tail (λ a b. a ≢ b) x (xs ++ ys) apart) later back
]

-- the second part of a list
AllPairs-back : {X : Type 0} (R : X → X → Type 0) (xs ys : List X) → AllPairs R (xs ++ ys) → AllPairs R ys
AllPairs-back R [] ys pairs = pairs
AllPairs-back R (x ∷ xs) ys pairs = AllPairs-back R xs ys (AllPairs-tail R x (xs ++ ys) pairs)

-- a place before the end is found
found : (n len : ℕ) → n < len → cond (nat_lt n len) (Some n) None ≡ Some n
found n len low = grind (arith, nat_tests)

-- where no port is used twice, a port leads to the host that is on it
host_is : (hosts : List HostOn) (s p h : ℕ) (d : HostOn) → AllPairs (λ a b. a ≢ b) (map host_end hosts) → h < length hosts → host_end (get_or hosts h d) ≡ (s, p) → host_of hosts s p ≡ Some h
host_is hosts s p h d apart low at = ap (λ (n : ℕ). cond (nat_lt n (length hosts)) (Some n) None) first ∙ found h (length hosts) low
  where
    others : (k : ℕ) → k < h → is_at s p (get_or hosts k d) ≡ false
    others k before = elim (cases_Bool (is_at s p (get_or hosts k d))) [
      | inl here ↦ absurd (
          apart k h (host_end d) before (omega (arith, length-map hosts host_end))
          (get_or-map host_end hosts k d (host_end d) (omega arith) ∙ port_is (get_or hosts k d).s (get_or hosts k d).port s p here ∙ sym at ∙ sym (get_or-map host_end hosts h d (host_end d) low)))
      | inr other ↦ other
    ]

    first : position_or_len (is_at s p) hosts ≡ h
    first = position_or_len_is (is_at s p) hosts h d (omega arith) others (λ _. port_test (get_or hosts h d).s (get_or hosts h d).port s p at)

-- a port has one far side
pub one_far : (w : Wires) (s p : ℕ) (f : Far) → IsWired w → IsAtFarSide w s p f → far_at w s p ≡ Some f
one_far w s p (Switch t q) wired any =
    ap (λ (o : Option (ℕ × ℕ)). far_or_host o (host_of w.hosts s p))
    (joins_far w.links s p t q (AllPairs-front (λ a b. a ≢ b) (flat_map link_ends w.links) (map host_end w.hosts) wired.ports_apart) any)
one_far w s p (HostAt h) wired (x, get, at) =
    ap (λ (o : Option (ℕ × ℕ)). far_or_host o (host_of w.hosts s p)) (no_link (far_of w.links s p) refl)
    ∙ ap (λ (o : Option ℕ). far_or_host None o) (host_is w.hosts s p h x (AllPairs-back (λ a b. a ≢ b) (flat_map link_ends w.links) (map host_end w.hosts) wired.ports_apart) within here)
  where
    within : h < length w.hosts
    within = slice_get_within w.hosts h x get

    here : host_end (get_or w.hosts h x) ≡ (s, p)
    here = ap host_end (get_or_from_slice_get w.hosts h x x get) ∙ at

    used : Contains (map host_end w.hosts) (s, p)
    used = Contains-map host_end w.hosts (s, p) (h, x, within, get_or_from_slice_get w.hosts h x x get, at)

    no_link : (o : Option (ℕ × ℕ)) → far_of w.links s p ≡ o → o ≡ None
    no_link None e = refl
    no_link (Some far) e =
        absurd (apart_parts (flat_map link_ends w.links) (map host_end w.hosts) (s, p) wired.ports_apart (joined_used w.links s p far.0 far.1 (joined w.links s p far.0 far.1 e)) used)
