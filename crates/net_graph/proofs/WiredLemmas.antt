use Rattle.std.proofs.Common.{◌≡◌, ◌≢◌, ◌∙◌, sym, ap, subst, ℕ, ◌+◌, ◌<◌, List, [], ◌∷◌, ◌++◌, arith, length, length-append, append_assoc, AllPairs, Contains, inl, inr, map}
use Rattle.std.specs.List.{flat_map}
use Rattle.std.proofs.lemmas.List.{map-append}
use Rattle.std.proofs.lemmas.List.Elements.{All-push, All-weaker, All-nil, Contains-append_left, Contains-append_right, Contains-append_cases}
use Rattle.std.proofs.lemmas.Grind.{flat_map-append}
use Rattle.net_graph.specs.declared.wiring.SwitchAt.{SwitchAt}
use Rattle.net_graph.specs.declared.wiring.LinkAt.{LinkAt}
use Rattle.net_graph.specs.declared.wiring.HostOn.{HostOn}
use Rattle.net_graph.specs.Wires.{Wires, IsWired, IsSwitch, IsLink, IsHost, a_end, b_end, link_ends, host_end, used_ports, uids}
use Rattle.common_values.proofs.MemberLemmas.{Contains-cons_cases}
use Rattle.common_values.proofs.PairLemmas.{apart_insert, apart_push}

-- no wiring keeps all rules
pub no_wires_kept : IsWired (record { switches = []; links = []; hosts = [] })
no_wires_kept = record {
  count = omega arith;
  host_count = omega arith;
  switches = All-nil IsSwitch;
  links = All-nil (IsLink 0);
  hosts = All-nil (IsHost 0);
  uids_apart = λ i j d low high. absurd (omega arith);
  ports_apart = λ i j d low high. absurd (omega arith);
}

-- a wiring with one switch more
pub switch_wired : (w : Wires) (x : SwitchAt) → IsWired w → length w.switches < 126 → IsSwitch x → ¬ Contains (uids w) x.uid → IsWired (record w { switches = w.switches ++ x ∷ [] })
switch_wired w x kept room is new = record {
  count = omega (arith, length-append w.switches (x ∷ []));
  host_count = kept.host_count;
  switches = All-push IsSwitch w.switches x kept.switches is;
  links = All-weaker (IsLink (length w.switches)) (IsLink (length (w.switches ++ x ∷ []))) more_link w.links kept.links;
  hosts = All-weaker (IsHost (length w.switches)) (IsHost (length (w.switches ++ x ∷ []))) more_host w.hosts kept.hosts;
  uids_apart = subst (λ (l : List ℕ). AllPairs (λ a b. a ≢ b) l) (sym uids_are) (apart_insert (map (λ s. s.uid) w.switches) (map (λ h. h.uid) w.hosts) x.uid kept.uids_apart new);
  ports_apart = kept.ports_apart;
}
  where
    one_more : length (w.switches ++ x ∷ []) ≡ length w.switches + 1
    one_more = length-append w.switches (x ∷ [])

    more_link : (l : LinkAt) → IsLink (length w.switches) l → IsLink (length (w.switches ++ x ∷ [])) l
    more_link l old = record { a_below = let h = old.a_below in omega (arith, one_more); b_below = let h = old.b_below in omega (arith, one_more); a_port_least = old.a_port_least; a_port_most = old.a_port_most; b_port_least = old.b_port_least; b_port_most = old.b_port_most }

    more_host : (h : HostOn) → IsHost (length w.switches) h → IsHost (length (w.switches ++ x ∷ [])) h
    more_host h old = record { uid = old.uid; switch = let k = old.switch in omega (arith, one_more); port_least = old.port_least; port_most = old.port_most }

    uids_are : uids (record w { switches = w.switches ++ x ∷ [] }) ≡ map (λ s. s.uid) w.switches ++ (x.uid ∷ map (λ h. h.uid) w.hosts)
    uids_are = ap (λ (l : List ℕ). l ++ map (λ h. h.uid) w.hosts) (map-append (λ s. s.uid) w.switches (x ∷ [])) ∙ append_assoc (map (λ s. s.uid) w.switches) (x.uid ∷ []) (map (λ h. h.uid) w.hosts)

-- with one link more
pub link_wired : (w : Wires) (l : LinkAt) → IsWired w → IsLink (length w.switches) l → ¬ Contains (used_ports w) (a_end l) → ¬ Contains (used_ports w) (b_end l) → a_end l ≢ b_end l → IsWired (record w { links = w.links ++ l ∷ [] })
link_wired w l kept is a_free b_free apart = record {
  count = kept.count;
  host_count = kept.host_count;
  switches = kept.switches;
  links = All-push (IsLink (length w.switches)) w.links l kept.links is;
  hosts = kept.hosts;
  uids_apart = kept.uids_apart;
  ports_apart = subst (λ (ps : List (ℕ × ℕ)). AllPairs (λ a b. a ≢ b) ps) (sym ports_are) (apart_insert links (b_end l ∷ hosts) (a_end l) (apart_insert links hosts (b_end l) kept.ports_apart b_free) a_new);
}
  where
    links : List (ℕ × ℕ)
    links = flat_map link_ends w.links

    hosts : List (ℕ × ℕ)
    hosts = map host_end w.hosts

    a_new : Contains (links ++ (b_end l ∷ hosts)) (a_end l) → ⊥
    a_new has = elim (Contains-append_cases links (b_end l ∷ hosts) (a_end l) has) [
      | inl front ↦ a_free (Contains-append_left links hosts (a_end l) front)
      | inr back ↦ elim (Contains-cons_cases (b_end l) (a_end l) hosts back) [
        | inl same ↦ apart (sym same)
        | inr later ↦ a_free (Contains-append_right links hosts (a_end l) later)
      ]
    ]

    ports_are : used_ports (record w { links = w.links ++ l ∷ [] }) ≡ links ++ (a_end l ∷ b_end l ∷ hosts)
    ports_are = ap (λ (ps : List (ℕ × ℕ)). ps ++ hosts) (flat_map-append link_ends w.links (l ∷ [])) ∙ append_assoc links (a_end l ∷ b_end l ∷ []) hosts

-- with one host more
pub host_wired : (w : Wires) (x : HostOn) → IsWired w → length w.hosts < 1000 → IsHost (length w.switches) x → ¬ Contains (uids w) x.uid → ¬ Contains (used_ports w) (host_end x) → IsWired (record w { hosts = w.hosts ++ x ∷ [] })
host_wired w x kept room is new_uid free = record {
  count = kept.count;
  host_count = omega (arith, length-append w.hosts (x ∷ []));
  switches = kept.switches;
  links = kept.links;
  hosts = All-push (IsHost (length w.switches)) w.hosts x kept.hosts is;
  uids_apart = subst (λ (l : List ℕ). AllPairs (λ a b. a ≢ b) l) (sym uids_are) (apart_push (uids w) x.uid kept.uids_apart new_uid);
  ports_apart = subst (λ (ps : List (ℕ × ℕ)). AllPairs (λ a b. a ≢ b) ps) (sym ports_are) (apart_push (used_ports w) (host_end x) kept.ports_apart free);
}
  where
    uids_are : uids (record w { hosts = w.hosts ++ x ∷ [] }) ≡ uids w ++ x.uid ∷ []
    uids_are = ap (λ (l : List ℕ). map (λ s. s.uid) w.switches ++ l) (map-append (λ h. h.uid) w.hosts (x ∷ [])) ∙ sym (append_assoc (map (λ s. s.uid) w.switches) (map (λ h. h.uid) w.hosts) (x.uid ∷ []))

    ports_are : used_ports (record w { hosts = w.hosts ++ x ∷ [] }) ≡ used_ports w ++ host_end x ∷ []
    ports_are = ap (λ (ps : List (ℕ × ℕ)). flat_map link_ends w.links ++ ps) (map-append host_end w.hosts (x ∷ [])) ∙ sym (append_assoc (flat_map link_ends w.links) (map host_end w.hosts) (host_end x ∷ []))
