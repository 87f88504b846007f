use Rattle.std.proofs.Common.{◌≡◌, ◌∙◌, sym, ap, subst, refl, ℕ, ◌-◌, ◌<◌, ◌≤◌, List, [], ◌∷◌, ◌++◌, Option, Some, None, arith, length, length-append, get_or, replicate, Contains, inl, inr, Bool, true, false, ◌==◌, ◌&&◌, map, is_some, IsTrue, ◌↔◌, MatchOption, IfSome, cond}
use Rattle.std.specs.Prelude.{Any}
use Rattle.std.specs.List.{flat_map}
use Rattle.std.proofs.lemmas.Bool.{cases_Bool, cases_lt, cases_eq, and_cases, eqb-true, eqb-false, and_parts}
use Rattle.std.proofs.lemmas.List.{get_or_append_left, get_or_past, get_or-replicate, get_or-append_right}
use Rattle.std.proofs.lemmas.List.Elements.{All-get_or, Contains-append_left, Contains-append_right, Contains-append_cases}
use Rattle.std.proofs.lemmas.Option.{get_or_from_slice_get}
use Rattle.net_graph.specs.declared.wiring.SwitchAt.{SwitchAt}
use Rattle.net_graph.specs.declared.wiring.LinkAt.{LinkAt}
use Rattle.net_graph.specs.declared.wiring.HostOn.{HostOn}
use Rattle.net_graph.specs.declared.wiring.Far.{Far}
use Rattle.net_graph.specs.declared.wiring.Far.TheVariants.{Switch, HostAt}
use Rattle.net_graph.specs.declared.wiring.PortRow.{PortRow}
use Rattle.net_graph.specs.Wires.{Wires, IsWired, IsSwitch, IsLink, IsHost, IsWithin, IsAtFarSide, far_of, host_of, far_or_host, far_at, has_end, has_other_end, a_end, b_end, link_ends, host_end, used_ports, uids}
use Rattle.net_graph.specs.Table.{cell_at, Puts, IsKept}
use Rattle.common_values.proofs.MemberLemmas.{Contains-map, Any-from_map}
use Rattle.net_graph.proofs.FarLemmas.{port_is, joined, joined_used, used_far, far_new_a, far_new_b, far_new_other, far_is}
use Rattle.net_graph.proofs.WiredLemmas.{switch_wired, link_wired, host_wired}
use Rattle.net_graph.proofs.HostLemmas.{is_at, host_found, no_host, host_here, host_other}

-- nothing is at a port that is not used, and what is at one that is used is there by a link or as a host
pub far_meaning : (w : Wires) (s p : ℕ) → MatchOption (far_at w s p) (Contains (used_ports w) (s, p) → ⊥) (IsAtFarSide w s p)
far_meaning w s p = go (far_of w.links s p) (host_of w.hosts s p) refl refl
  where
    go : (f : Option (ℕ × ℕ)) (h : Option ℕ) → far_of w.links s p ≡ f → host_of w.hosts s p ≡ h → MatchOption (far_or_host f h) (Contains (used_ports w) (s, p) → ⊥) (IsAtFarSide w s p)
    go (Some far) h e none = joined w.links s p far.0 far.1 e
    go None (Some h) e f = let x = host_found w.hosts s p h f in (x.0, x.2, x.3)
    go None None e f = λ has. elim (Contains-append_cases (flat_map link_ends w.links) (map host_end w.hosts) (s, p) has) [
      | inl a ↦ used_far w.links s p e a
      | inr b ↦ no_host w.hosts s p f b
    ]

-- what is at the far side is in range
pub far_within : (w : Wires) (s p : ℕ) → IsWired w → IfSome (far_at w s p) (IsWithin w s p)
far_within w s p wired = go (far_of w.links s p) (host_of w.hosts s p) refl refl
  where
    go : (f : Option (ℕ × ℕ)) (h : Option ℕ) → far_of w.links s p ≡ f → host_of w.hosts s p ≡ h → IfSome (far_or_host f h) (IsWithin w s p)
    go (Some far) h e none = far_is w s p far wired e
    go None (Some h) e f =
        let x = host_found w.hosts s p h f in
        let found : IsHost (length w.switches) x.0 = subst (λ (y : HostOn). IsHost (length w.switches) y) (get_or_from_slice_get w.hosts h x.0 x.0 x.2) (All-get_or (IsHost (length w.switches)) w.hosts h x.0 x.1 wired.hosts) in
        let at_s : x.0.s ≡ s = ap (λ (y : ℕ × ℕ). y.0) x.3 in
        let at_p : x.0.port ≡ p = ap (λ (y : ℕ × ℕ). y.1) x.3 in
        let below = found.switch in
        let least = found.port_least in
        let most = found.port_most in
        (omega arith, omega arith, omega arith, x.1)
    go None None e f = tt

-- a port with a link is used
link_used : (w : Wires) (s p : ℕ) (far : ℕ × ℕ) → far_of w.links s p ≡ Some far → Contains (used_ports w) (s, p)
link_used w s p far e = Contains-append_left (flat_map link_ends w.links) (map host_end w.hosts) (s, p) (joined_used w.links s p far.0 far.1 (joined w.links s p far.0 far.1 e))

-- and so is a port with a host
host_used : (w : Wires) (s p h : ℕ) → host_of w.hosts s p ≡ Some h → Contains (used_ports w) (s, p)
host_used w s p h e =
    let x = host_found w.hosts s p h e in
    Contains-append_right (flat_map link_ends w.links) (map host_end w.hosts) (s, p) (Contains-map host_end w.hosts (s, p) (h, x.0, x.1, get_or_from_slice_get w.hosts h x.0 x.0 x.2, x.3))

-- so a port that is not used has no link
pub free_link : (w : Wires) (s p : ℕ) → (Contains (used_ports w) (s, p) → ⊥) → far_of w.links s p ≡ None
free_link w s p free = go (far_of w.links s p) refl
  where
    go : (f : Option (ℕ × ℕ)) → far_of w.links s p ≡ f → f ≡ None
    go None e = refl
    go (Some far) e = absurd (free (link_used w s p far e))

-- nor a host
pub free_host : (w : Wires) (s p : ℕ) → (Contains (used_ports w) (s, p) → ⊥) → host_of w.hosts s p ≡ None
free_host w s p free = go (host_of w.hosts s p) refl
  where
    go : (h : Option ℕ) → host_of w.hosts s p ≡ h → h ≡ None
    go None e = refl
    go (Some h) e = absurd (free (host_used w s p h e))

-- a port is used exactly where something is at its far side
pub used_is : (w : Wires) (s p : ℕ) (o : Option Far) → o ≡ far_at w s p → (IsTrue (is_some o) → Contains (used_ports w) (s, p)) × (Contains (used_ports w) (s, p) → IsTrue (is_some o))
used_is w s p o is = rw is (there (far_of w.links s p) (host_of w.hosts s p) refl refl, λ has. some_of (far_at w s p) (far_meaning w s p) has)
  where
    there : (f : Option (ℕ × ℕ)) (h : Option ℕ) → far_of w.links s p ≡ f → host_of w.hosts s p ≡ h → IsTrue (is_some (far_or_host f h)) → Contains (used_ports w) (s, p)
    there (Some far) h e f some = link_used w s p far e
    there None (Some h) e f some = host_used w s p h f
    there None None e f some = absurd (cc)

    some_of : (o : Option Far) → MatchOption o (Contains (used_ports w) (s, p) → ⊥) (IsAtFarSide w s p) → Contains (used_ports w) (s, p) → IsTrue (is_some o)
    some_of None free has = absurd (free has)
    some_of (Some f) at has = refl

-- a cell after a write
pub cell_put : (old new : List PortRow) (s p : ℕ) (far : Far) (t q : ℕ) → Puts old new s p far → cell_at new t q ≡ cond ((s == t) && (p == q)) (Some far) (cell_at old t q)
cell_put old new s p far t q puts = elim (cases_Bool ((s == t) && (p == q))) [
  | inl at ↦ rw at (let parts = and_parts (s == t) (p == q) at in let one : s ≡ t = eqb-true s t parts.0 in let other : p ≡ q = eqb-true p q parts.1 in rw (← one, ← other) puts.here)
  | inr not ↦ rw not (puts.others t q (elim (and_cases (s == t) (p == q) not) [
    | inl one ↦ inl (λ e. eqb-false s t one (sym e))
    | inr other ↦ inr (λ e. eqb-false p q other (sym e))
  ]))
]

-- with one link more at free ports
pub link_cells : (w : Wires) (l : LinkAt) (rows mid new : List PortRow) → ((s p : ℕ) → cell_at rows s p ≡ far_at w s p) → (Contains (used_ports w) (a_end l) → ⊥) → (Contains (used_ports w) (b_end l) → ⊥) → (a_end l ≡ b_end l → ⊥) → Puts rows mid l.a l.a_port (Switch l.b l.b_port) → Puts mid new l.b l.b_port (Switch l.a l.a_port) → (s p : ℕ) → cell_at new s p ≡ far_at (record { switches = w.switches; links = w.links ++ l ∷ []; hosts = w.hosts }) s p
link_cells w l rows mid new cells a_free b_free apart one other s p = elim (cases_Bool (has_end l s p)) [
  | inl at_a ↦ (
      let at = port_is l.a l.a_port s p at_a in
      let none : far_of w.links s p ≡ None = free_link w s p (λ has. a_free (subst (λ (x : ℕ × ℕ). Contains (used_ports w) x) (sym at) has)) in
      let not_b : has_other_end l s p ≡ false = not_both at in
      cell_put mid new l.b l.b_port (Switch l.a l.a_port) s p other ∙ rw (not_b, far_new_a w.links l s p at_a none) (cell_put rows mid l.a l.a_port (Switch l.b l.b_port) s p one ∙ rw at_a))
  | inr not_a ↦ elim (cases_Bool (has_other_end l s p)) [
    | inl at_b ↦ (
        let at = port_is l.b l.b_port s p at_b in
        let none : far_of w.links s p ≡ None = free_link w s p (λ has. b_free (subst (λ (x : ℕ × ℕ). Contains (used_ports w) x) (sym at) has)) in
        cell_put mid new l.b l.b_port (Switch l.a l.a_port) s p other ∙ rw (at_b, far_new_b w.links l s p not_a at_b none))
    | inr not_b ↦ cell_put mid new l.b l.b_port (Switch l.a l.a_port) s p other ∙ rw (not_b, far_new_other w.links l s p not_a not_b) (cell_put rows mid l.a l.a_port (Switch l.b l.b_port) s p one ∙ rw not_a (cells s p))
  ]
]
  where
    not_both : ◌≡◌ {A = ℕ × ℕ} (l.a, l.a_port) (s, p) → has_other_end l s p ≡ false
    not_both at = elim (cases_Bool (has_other_end l s p)) [
      | inl at_b ↦ absurd (apart (at ∙ sym (port_is l.b l.b_port s p at_b)))
      | inr not_b ↦ not_b
    ]

-- with one host more at a free port
pub host_cells : (w : Wires) (x : HostOn) (rows new : List PortRow) → ((s p : ℕ) → cell_at rows s p ≡ far_at w s p) → (Contains (used_ports w) (host_end x) → ⊥) → Puts rows new x.s x.port (HostAt (length w.hosts)) → (s p : ℕ) → cell_at new s p ≡ far_at (record { switches = w.switches; links = w.links; hosts = w.hosts ++ x ∷ [] }) s p
host_cells w x rows new cells free puts s p = elim (cases_Bool (is_at s p x)) [
  | inl at ↦ (
      let same = port_is x.s x.port s p at in
      let free' : Contains (used_ports w) (s, p) → ⊥ = λ has. free (subst (λ (y : ℕ × ℕ). Contains (used_ports w) y) (sym same) has) in
      cell_put rows new x.s x.port (HostAt (length w.hosts)) s p puts ∙ rw (at, free_link w s p free', host_here w.hosts x s p at (free_host w s p free')))
  | inr not ↦ cell_put rows new x.s x.port (HostAt (length w.hosts)) s p puts ∙ rw (not, host_other w.hosts x s p not) (cells s p)
]

-- an empty row at the end changes no cell
pub row_cells : (rows : List PortRow) (s p : ℕ) → cell_at (rows ++ record { cells = replicate 13 None } ∷ []) s p ≡ cell_at rows s p
row_cells rows s p = elim (cases_lt s (length rows)) [
  | inl low ↦ ap (λ (r : PortRow). get_or r.cells p None) (get_or_append_left rows (empty ∷ []) nothing s low)
  | inr high ↦ row s high ∙ sym (ap (λ (r : PortRow). get_or r.cells p None) (get_or_past rows s nothing high))
]
  where
    nothing : PortRow
    nothing = record { cells = [] }

    empty : PortRow
    empty = record { cells = replicate 13 None }

    none : get_or empty.cells p None ≡ None
    none = elim (cases_lt p 13) [
      | inl low ↦ get_or-replicate 13 p None None low
      | inr high ↦ get_or_past (replicate 13 None) p None high
    ]

    sub_self : length rows - length rows ≡ 0
    sub_self = omega arith

    row : (s : ℕ) → length rows ≤ s → get_or (get_or (rows ++ empty ∷ []) s nothing).cells p None ≡ None
    row s high = elim (cases_eq s (length rows)) [
      | inl same ↦ ap (λ (r : PortRow). get_or r.cells p None) (get_or-append_right rows (empty ∷ []) (length rows) s nothing refl high) ∙ rw same (rw sub_self none)
      | inr past ↦ ap (λ (r : PortRow). get_or r.cells p None) (get_or_past (rows ++ empty ∷ []) s nothing (omega (arith, length-append rows (empty ∷ []))))
    ]

-- what a wiring keeps, with one switch more
pub switch_kept : (w : Wires) (x : SwitchAt) (rows : List PortRow) → IsKept w rows → length w.switches < 126 → IsSwitch x → (Contains (uids w) x.uid → ⊥) → IsKept (record { switches = w.switches ++ x ∷ []; links = w.links; hosts = w.hosts }) (rows ++ record { cells = replicate 13 None } ∷ [])
switch_kept w x rows kept room is new = record {
  wired = switch_wired w x kept.wired room is new;
  count = omega (arith, kept.count, length-append w.switches (x ∷ []), length-append rows (record { cells = replicate 13 None } ∷ []));
  cells = λ s p. row_cells rows s p ∙ kept.cells s p;
}

-- with one link more
pub link_kept : (w : Wires) (l : LinkAt) (rows mid new : List PortRow) → IsKept w rows → IsLink (length w.switches) l → (Contains (used_ports w) (a_end l) → ⊥) → (Contains (used_ports w) (b_end l) → ⊥) → (a_end l ≡ b_end l → ⊥) → Puts rows mid l.a l.a_port (Switch l.b l.b_port) → Puts mid new l.b l.b_port (Switch l.a l.a_port) → IsKept (record { switches = w.switches; links = w.links ++ l ∷ []; hosts = w.hosts }) new
link_kept w l rows mid new kept is a_free b_free apart one other = record {
  wired = link_wired w l kept.wired is a_free b_free apart;
  count = other.count ∙ one.count ∙ kept.count;
  cells = link_cells w l rows mid new kept.cells a_free b_free apart one other;
}

-- with one host more
pub host_kept : (w : Wires) (x : HostOn) (rows new : List PortRow) → IsKept w rows → length w.hosts < 1000 → IsHost (length w.switches) x → (Contains (uids w) x.uid → ⊥) → (Contains (used_ports w) (host_end x) → ⊥) → Puts rows new x.s x.port (HostAt (length w.hosts)) → IsKept (record { switches = w.switches; links = w.links; hosts = w.hosts ++ x ∷ [] }) new
host_kept w x rows new kept room is new_uid free puts = record {
  wired = host_wired w x kept.wired room is new_uid free;
  count = puts.count ∙ kept.count;
  cells = host_cells w x rows new kept.cells free puts;
}

-- an identifier is that of a switch
pub uid_of_switch : (w : Wires) (u : ℕ) (r : Bool) → (IsTrue r → Any (λ s. s.uid ≡ u) w.switches) → r ≡ true → (IsTrue r → Contains (uids w) u) × (Contains (uids w) u → IsTrue r)
uid_of_switch w u r some at =
    (λ t. Contains-append_left (map (λ s. s.uid) w.switches) (map (λ h. h.uid) w.hosts) u (Contains-map (λ s. s.uid) w.switches u (some t)), λ _. at)

-- or else of a host
pub uid_of_host : (w : Wires) (u : ℕ) (q r : Bool) → (Any (λ s. s.uid ≡ u) w.switches → IsTrue q) → q ≡ false → (IsTrue r ↔ Any (λ h. h.uid ≡ u) w.hosts) → (IsTrue r → Contains (uids w) u) × (Contains (uids w) u → IsTrue r)
uid_of_host w u q r switch none host = (
  λ t. Contains-append_right (map (λ s. s.uid) w.switches) (map (λ h. h.uid) w.hosts) u (Contains-map (λ h. h.uid) w.hosts u (host.0 t)),
  λ has. elim (Contains-append_cases (map (λ s. s.uid) w.switches) (map (λ h. h.uid) w.hosts) u has) [
    | inl a ↦ absurd (let t = switch (Any-from_map (λ s. s.uid) w.switches u a) in cc)
    | inr b ↦ host.1 (Any-from_map (λ h. h.uid) w.hosts u b)
  ],
)
