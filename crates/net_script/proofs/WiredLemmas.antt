use Rattle.std.proofs.Common.{◌≡◌, sym, ap, subst, refl, ℕ, [], ◌∷◌, ◌++◌, Option, Contains, Bool, true, false}
use Rattle.net_graph.specs.declared.wiring.LinkAt.{LinkAt}
use Rattle.net_graph.specs.declared.wiring.HostOn.{HostOn}
use Rattle.net_graph.specs.Wires.{Wires, far_of, host_of, far_or_host, far_at, has_end, has_other_end, a_end, b_end, host_end, used_ports}
use Rattle.net_graph.proofs.FarLemmas.{port_is, far_new_other}
use Rattle.net_graph.proofs.HostLemmas.{is_at, host_other}
use Rattle.net_graph.proofs.TableLemmas.{used_is}
use Rattle.net_script.specs.Commands.{is_used}

-- a port that is used is one of the used ports
used_port : (w : Wires) (s p : ℕ) → is_used w s p ≡ true → Contains (used_ports w) (s, p)
used_port w s p used = (used_is w s p (far_at w s p) refl).0 used

-- what a used port leads to stays with one link more
pub far_with_link : (w : Wires) (l : LinkAt) (s p : ℕ) → is_used w s p ≡ true → ¬ Contains (used_ports w) (a_end l) → ¬ Contains (used_ports w) (b_end l) → far_at (record w { links = w.links ++ l ∷ [] }) s p ≡ far_at w s p
far_with_link w l s p used a_free b_free = ap (λ (f : Option (ℕ × ℕ)). far_or_host f (host_of w.hosts s p)) (far_new_other w.links l s p (not_a (has_end l s p) refl) (not_b (has_other_end l s p) refl))
  where
    not_a : (b : Bool) → has_end l s p ≡ b → b ≡ false
    not_a true t = absurd (a_free (subst (λ (e : ℕ × ℕ). Contains (used_ports w) e) (sym (port_is l.a l.a_port s p t)) (used_port w s p used)))
    not_a false t = refl

    not_b : (b : Bool) → has_other_end l s p ≡ b → b ≡ false
    not_b true t = absurd (b_free (subst (λ (e : ℕ × ℕ). Contains (used_ports w) e) (sym (port_is l.b l.b_port s p t)) (used_port w s p used)))
    not_b false t = refl

-- and with one host more
pub far_with_host : (w : Wires) (x : HostOn) (s p : ℕ) → is_used w s p ≡ true → ¬ Contains (used_ports w) (host_end x) → far_at (record w { hosts = w.hosts ++ x ∷ [] }) s p ≡ far_at w s p
far_with_host w x s p used free = ap (λ (h : Option ℕ). far_or_host (far_of w.links s p) h) (host_other w.hosts x s p (not_at (is_at s p x) refl))
  where
    not_at : (b : Bool) → is_at s p x ≡ b → b ≡ false
    not_at true t = absurd (free (subst (λ (e : ℕ × ℕ). Contains (used_ports w) e) (sym (port_is x.s x.port s p t)) (used_port w s p used)))
    not_at false t = refl
