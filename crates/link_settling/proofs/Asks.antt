use Rattle.std.specs.Prelude.{Contains}
use Rattle.std.specs.List.{flat_map}
use Rattle.std.proofs.Common.{◌≡◌, ◌≢◌, ◌∙◌, ◌⊎◌, inl, inr, ⊎_elim, sym, ap, subst, ℕ, suc, ◌≤◌, ◌==◌, ◌&&◌, arith, List, [], ◌∷◌, Some, None, true, false, cond}
use Rattle.std.proofs.lemmas.Bool.{cases_Bool, cases_eq, true≢false, eq-eqb}
use Rattle.std.proofs.lemmas.List.Elements.{Contains-append_left, Contains-append_right, Contains-push}
use Rattle.an_base.specs.Values.{EndId}
use Rattle.an_base.specs.declared.frame.Frame.TheVariants.{Probe, Reply}
use Rattle.an_base.specs.declared.port.Sample.{Sample}
use Rattle.port_monitor.specs.declared.port.Phase.TheVariants.{Switch}
use Rattle.port_monitor.specs.Ports.{speaks}
use Rattle.port_monitor.specs.Histories.{externals}
use Rattle.switch_core.specs.Switch.{SwitchOf, end_at, port_of}
use Rattle.switch_core.specs.Steps.{Step, Sent, joins, framed, answer_out, sampled_by, probe_out, probes_at, probes, all_resent, is_change_due, is_spent_by, last_epoch, clocked}
use Rattle.link_settling.proofs.Steps.{same_clock, joined_clock}

-- the probe of a port
abbrev pub probe_by : SwitchOf → ℕ → Sent
probe_by s port = record { port = port; frame = Probe (end_at s port) (port_of s port).far.nonce }

probe_there : (s : SwitchOf) (port : ℕ) → (port_of s port).phase ≡ Switch → Contains (probes_at s port) (probe_by s port)
probe_there s port switch =
    subst (λ phase. Contains (probe_out s port (cond (speaks phase) (Some (port_of s port).far.nonce) None)) (probe_by s port)) (sym switch) (Contains-push [] (probe_by s port))

-- a number among them
abbrev IsIn : ℕ → List ℕ → Type 0
IsIn port [] = ⊥
IsIn port (n ∷ ns) = (n ≡ port) ⊎ IsIn port ns

probes_there : (s : SwitchOf) (port : ℕ) (ports : List ℕ) → IsIn port ports → (port_of s port).phase ≡ Switch → Contains (flat_map (probes_at s) ports) (probe_by s port)
probes_there s port [] one switch = absurd one
probes_there s port (n ∷ ns) one switch = ⊎_elim
    (λ same. Contains-append_left (probes_at s n) (flat_map (probes_at s) ns) (probe_by s port) (subst (λ p. Contains (probes_at s p) (probe_by s port)) (sym same) (probe_there s port switch)))
    (λ later. Contains-append_right (probes_at s n) (flat_map (probes_at s) ns) (probe_by s port) (probes_there s port ns later switch))
    one

is_external : (port : ℕ) → 1 ≤ port → port ≤ 12 → IsIn port externals
is_external port least most =
    ⊎_elim (λ (e : port ≡ 1). inl (sym e)) (λ (n1 : port ≡ 1 → ⊥). ⊎_elim (λ (e : port ≡ 2). inr (inl (sym e))) (λ (n2 : port ≡ 2 → ⊥). ⊎_elim (λ (e : port ≡ 3). inr (inr (inl (sym e)))) (λ (n3 : port ≡ 3 → ⊥). ⊎_elim (λ (e : port ≡ 4). inr (inr (inr (inl (sym e))))) (λ (n4 : port ≡ 4 → ⊥). ⊎_elim (λ (e : port ≡ 5). inr (inr (inr (inr (inl (sym e)))))) (λ (n5 : port ≡ 5 → ⊥). ⊎_elim (λ (e : port ≡ 6). inr (inr (inr (inr (inr (inl (sym e))))))) (λ (n6 : port ≡ 6 → ⊥). ⊎_elim (λ (e : port ≡ 7). inr (inr (inr (inr (inr (inr (inl (sym e)))))))) (λ (n7 : port ≡ 7 → ⊥). ⊎_elim (λ (e : port ≡ 8). inr (inr (inr (inr (inr (inr (inr (inl (sym e))))))))) (λ (n8 : port ≡ 8 → ⊥). ⊎_elim (λ (e : port ≡ 9). inr (inr (inr (inr (inr (inr (inr (inr (inl (sym e)))))))))) (λ (n9 : port ≡ 9 → ⊥). ⊎_elim (λ (e : port ≡ 10). inr (inr (inr (inr (inr (inr (inr (inr (inr (inl (sym e))))))))))) (λ (n10 : port ≡ 10 → ⊥). ⊎_elim (λ (e : port ≡ 11). inr (inr (inr (inr (inr (inr (inr (inr (inr (inr (inl (sym e)))))))))))) (λ (n11 : port ≡ 11 → ⊥). ⊎_elim (λ (e : port ≡ 12). inr (inr (inr (inr (inr (inr (inr (inr (inr (inr (inr (inl (sym e))))))))))))) (λ (n12 : port ≡ 12 → ⊥). absurd (grind (arith, least, most, n1, n2, n3, n4, n5, n6, n7, n8, n9, n10, n11, n12))) (cases_eq port 12)) (cases_eq port 11)) (cases_eq port 10)) (cases_eq port 9)) (cases_eq port 8)) (cases_eq port 7)) (cases_eq port 6)) (cases_eq port 5)) (cases_eq port 4)) (cases_eq port 3)) (cases_eq port 2)) (cases_eq port 1)

-- a port that asks after a clock sends its probe, where the switch is not spent
pub clock_asks : (now port : ℕ) (samples : List Sample) (s : SwitchOf) → 1 ≤ port → port ≤ 12 → is_spent_by s (sampled_by now samples s) ≡ false
    → (port_of (sampled_by now samples s) port).phase ≡ Switch → Contains (clocked now samples s).frames (probe_by (sampled_by now samples s) port)
clock_asks now port samples s least most working switch =
    let x = sampled_by now samples s in
    let there = probes_there x port externals (is_external port least most) switch in
    ⊎_elim
    (λ (due : is_change_due s x ≡ true).
    let left : s.epoch ≢ last_epoch = λ last. true≢false (sym (ap (λ b. b && (s.epoch == last_epoch)) due ∙ eq-eqb s.epoch last_epoch last) ∙ working) in
    subst (λ (step : Step). Contains step.frames (probe_by x port)) (sym (joined_clock now samples s due left)) (Contains-append_left (probes x) (joins (suc s.epoch) x).frames (probe_by x port) there))
    (λ (none : is_change_due s x ≡ false).
    subst (λ (step : Step). Contains step.frames (probe_by x port)) (sym (same_clock now samples s none)) (Contains-append_left (probes x) (all_resent s.card.links x).frames (probe_by x port) there))
    (cases_Bool (is_change_due s x))

-- and answers a probe
pub probe_answered : (port nonce : ℕ) (from : EndId) (s : SwitchOf) → (port_of s port).phase ≡ Switch → Contains (framed port (Probe from nonce) s).frames (record { port = port; frame = Reply (end_at s port) from nonce })
probe_answered port nonce from s switch =
    subst (λ phase. Contains (answer_out port (cond (speaks phase) (Some (Reply (end_at s port) from nonce)) None)) (record { port = port; frame = Reply (end_at s port) from nonce })) (sym switch) (Contains-push [] (record { port = port; frame = Reply (end_at s port) from nonce }))
