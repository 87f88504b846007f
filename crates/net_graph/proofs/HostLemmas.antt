-- The place of the first host at a port, and what a push changes of it.
use Rattle.std.proofs.Common.{◌≡◌, subst, ℕ, ◌+◌, ◌<◌, ◌≤◌, List, [], ◌∷◌, ◌++◌, Some, None, arith, length, length-append, get_or, Contains, Bool, true, false, ◌==◌, ◌&&◌, cond, map}
use Rattle.std.specs.Prelude.{slice_get, nat_lt, nat_eq}
use Rattle.std.specs.List.{position_or_len}
use Rattle.std.proofs.lemmas.Bool.Decides.{nat_tests}
use Rattle.std.proofs.lemmas.List.Sums.{fails_before_first, prefix_len-le-length}
use Rattle.std.proofs.lemmas.List.Folds.{position_or_len_push}
use Rattle.std.proofs.lemmas.List.Quantifiers.{position-Some}
use Rattle.std.proofs.lemmas.Option.{slice_get-get_or}
use Rattle.net_graph.specs.declared.wiring.HostOn.{HostOn}
use Rattle.net_graph.specs.Wires.{host_of, host_end}
use Rattle.common_values.proofs.MemberLemmas.{Any-from_map}
use Rattle.net_graph.proofs.FarLemmas.{port_is, not_port}

abbrev pub is_at : ℕ → ℕ → HostOn → Bool
is_at s p h = ((h.s == s) && (h.port == p))

-- where nothing is found the first place is past the end
none_found : (n len k : ℕ) → cond (nat_lt n len) (Some n) None ≡ None → k < len → k < n
none_found n len k e low = grind (arith, nat_tests)

-- a host that is found is at the port
pub host_found : (hosts : List HostOn) (s p h : ℕ) → host_of hosts s p ≡ Some h → (x : HostOn) × (h < length hosts) × (slice_get hosts h ≡ Some x) × (host_end x ≡ (s, p))
host_found hosts s p h e =
    let d : HostOn = record { uid = 0; s = 0; port = 0 } in
    let found = position-Some (is_at s p) hosts h d e in
    (get_or hosts h d, found.0, slice_get-get_or hosts h d found.0, port_is (get_or hosts h d).s (get_or hosts h d).port s p found.1)

-- where none is found, no host is at the port
pub no_host : (hosts : List HostOn) (s p : ℕ) → host_of hosts s p ≡ None → Contains (map host_end hosts) (s, p) → ⊥
no_host hosts s p none has =
    let any = Any-from_map host_end hosts (s, p) has in
    let fails = fails_before_first (is_at s p) hosts any.0 any.1 (none_found (position_or_len (is_at s p) hosts) (length hosts) any.0 none any.2) in
    let fails' : is_at s p any.1 ≡ false = subst (λ (x : HostOn). is_at s p x ≡ false) any.3 fails in
    not_port any.1.s any.1.port s p fails' any.4

-- what is found after a push that passes, where nothing was found
pushed_here : (m n len : ℕ) (b : Bool) → n ≤ len → b ≡ true → m ≡ cond (nat_eq n len) (len + cond b 0 1) n → cond (nat_lt n len) (Some n) None ≡ None → cond (nat_lt m (len + 1)) (Some m) None ≡ Some len
pushed_here m n len b le at e f = grind (arith, nat_tests)

-- what is found after a push that fails
pushed_other : (m n len : ℕ) (b : Bool) → n ≤ len → b ≡ false → m ≡ cond (nat_eq n len) (len + cond b 0 1) n → cond (nat_lt m (len + 1)) (Some m) None ≡ cond (nat_lt n len) (Some n) None
pushed_other m n len b le at e = grind (arith, nat_tests)

-- a host that is pushed is found at its port
pub host_here : (hosts : List HostOn) (x : HostOn) (s p : ℕ) → is_at s p x ≡ true → host_of hosts s p ≡ None → host_of (hosts ++ x ∷ []) s p ≡ Some (length hosts)
host_here hosts x s p at none =
    rw (length-append hosts (x ∷ [])) (pushed_here (position_or_len (is_at s p) (hosts ++ x ∷ [])) (position_or_len (is_at s p) hosts) (length hosts) (is_at s p x) (prefix_len-le-length _ hosts) at (position_or_len_push (is_at s p) hosts x) none)

-- and nothing changes at another port
pub host_other : (hosts : List HostOn) (x : HostOn) (s p : ℕ) → is_at s p x ≡ false → host_of (hosts ++ x ∷ []) s p ≡ host_of hosts s p
host_other hosts x s p at =
    rw (length-append hosts (x ∷ [])) (pushed_other (position_or_len (is_at s p) (hosts ++ x ∷ [])) (position_or_len (is_at s p) hosts) (length hosts) (is_at s p x) (prefix_len-le-length _ hosts) at (position_or_len_push (is_at s p) hosts x))
