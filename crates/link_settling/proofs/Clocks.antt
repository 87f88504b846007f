use Rattle.std.proofs.Common.{◌≡◌, ◌∙◌, ◌⊎◌, inl, inr, sym, refl, ◌+◌, ◌-◌, ◌≤◌, ◌<◌, arith, Bool, true, false, cond}
use Rattle.std.proofs.lemmas.Bool.{leb-true, leb-false}
use Rattle.an_base.specs.declared.port.Sample.{Sample}
use Rattle.an_base.specs.declared.port.Sample.TheVariants as sample
use Rattle.skeptic.specs.Skeptics.{SkepticOf, hold, dwelt, is_over}
use Rattle.connectivity.specs.Connections.{ConnectivityOf}
use Rattle.port_monitor.specs.declared.port.Phase.{Phase}
use Rattle.port_monitor.specs.declared.port.Phase.TheVariants.{Dead, Checking, Host, Switch}
use Rattle.port_monitor.specs.declared.port.Port.{Port}
use Rattle.port_monitor.specs.Ports.{sampled, kept_up}
use Rattle.link_settling.specs.Measures.{clocks_by, clocks_left}
use Rattle.common_values.proofs.TestLemmas.{by_test}
use Rattle.link_settling.proofs.Basics.{hold_most}

-- a clock in the hold
dead_falls : (status : SkepticOf) → status.run < hold status
    → clocks_by (cond (is_over status) Checking Dead) (dwelt status) ≡ clocks_by Dead status - 1
dead_falls status few =
    by_test (λ b. clocks_by (cond b Checking Dead) (record status { run = cond b 0 (status.run + 1) }) ≡ clocks_by Dead status - 1) (is_over status)
    (λ is. let e = leb-true (hold status) (status.run + 1) is in omega (arith, e, few))
    (λ is. let e = leb-false (hold status) (status.run + 1) is in omega (arith, e, few))

-- a clock without a failure brings a port one nearer
up_falls : (phase : Phase) (is_host : Bool) (status : SkepticOf) (far : ConnectivityOf) → (phase ≡ Dead → status.run < hold status)
    → clocks_left (kept_up phase is_host (record { phase = phase; status = status; far = far })) ≡ clocks_by phase status - 1
up_falls Dead is_host status far few = dead_falls status (few refl)
up_falls Checking true status far few = refl
up_falls Checking false status far few = refl
up_falls Host is_host status far few = refl
up_falls Switch is_host status far few = refl

pub sampled_falls : (s : Sample) (p : Port) → (s ≡ sample.Down → ⊥) → (p.phase ≡ Dead → p.status.run < hold p.status) → clocks_left (sampled s p) ≡ clocks_left p - 1
sampled_falls sample.Down p up few = absurd (up refl)
sampled_falls sample.Host p up few = up_falls p.phase true p.status p.far few
sampled_falls sample.Switch p up few = up_falls p.phase false p.status p.far few

-- at most 129
pub clocks_most : (phase : Phase) (status : SkepticOf) → status.level ≤ 7 → clocks_by phase status ≤ 129
clocks_most Dead status most = let h = hold_most status most in omega (arith, h)
clocks_most Checking status most = omega arith
clocks_most Host status most = omega arith
clocks_most Switch status most = omega arith

-- with none left the port is a host's or a switch's
pub known_far : (phase : Phase) (status : SkepticOf) → (phase ≡ Dead → status.run < hold status) → clocks_by phase status ≡ 0 → (phase ≡ Host) ⊎ (phase ≡ Switch)
known_far Dead status few none = let f = few refl in absurd (omega (arith, f, none))
known_far Checking status few none = absurd (omega (arith, none))
known_far Host status few none = inl refl
known_far Switch status few none = inr refl

-- a port that is not down stays what it is, a host's or a switch's
up_host : (phase : Phase) (is_host : Bool) (p : Port) → p.phase ≡ phase → phase ≡ Host → (kept_up phase is_host p).phase ≡ Host
up_host Dead is_host p is host = absurd cc
up_host Checking is_host p is host = absurd cc
up_host Host is_host p is host = is
up_host Switch is_host p is host = absurd cc

pub stays_host : (p : Port) → p.phase ≡ Host → (sampled sample.Host p).phase ≡ Host
stays_host p host = up_host p.phase true p refl host

up_switch : (phase : Phase) (is_host : Bool) (p : Port) → p.phase ≡ phase → phase ≡ Switch → (kept_up phase is_host p).phase ≡ Switch
up_switch Dead is_host p is switch = absurd cc
up_switch Checking is_host p is switch = absurd cc
up_switch Host is_host p is switch = absurd cc
up_switch Switch is_host p is switch = is

pub stays_switch : (p : Port) → p.phase ≡ Switch → (sampled sample.Switch p).phase ≡ Switch
stays_switch p switch = up_switch p.phase false p refl switch

-- and it becomes no host's by a switch, and no switch's by a host
not_over : (P : Phase → Type 0) (b : Bool) → P Checking → P Dead → P (cond b Checking Dead)
not_over P true c d = c
not_over P false c d = d

up_no_host : (phase : Phase) (p : Port) → p.phase ≡ phase → (phase ≡ Host → ⊥) → (kept_up phase false p).phase ≡ Host → ⊥
up_no_host Dead p is never = not_over (λ x. x ≡ Host → ⊥) (is_over p.status) (λ e. cc) (λ e. cc)
up_no_host Checking p is never = λ e. cc
up_no_host Host p is never = λ e. never refl
up_no_host Switch p is never = λ e. let f = sym is ∙ e in cc

up_no_switch : (phase : Phase) (p : Port) → p.phase ≡ phase → (phase ≡ Switch → ⊥) → (kept_up phase true p).phase ≡ Switch → ⊥
up_no_switch Dead p is never = not_over (λ x. x ≡ Switch → ⊥) (is_over p.status) (λ e. cc) (λ e. cc)
up_no_switch Checking p is never = λ e. cc
up_no_switch Host p is never = λ e. let f = sym is ∙ e in cc
up_no_switch Switch p is never = λ e. never refl

pub no_host : (s : Sample) (p : Port) → (s ≡ sample.Host → ⊥) → (p.phase ≡ Host → ⊥) → (sampled s p).phase ≡ Host → ⊥
no_host sample.Down p other never = λ e. cc
no_host sample.Host p other never = λ e. other refl
no_host sample.Switch p other never = up_no_host p.phase p refl never

pub no_switch : (s : Sample) (p : Port) → (s ≡ sample.Switch → ⊥) → (p.phase ≡ Switch → ⊥) → (sampled s p).phase ≡ Switch → ⊥
no_switch sample.Down p other never = λ e. cc
no_switch sample.Host p other never = up_no_switch p.phase p refl never
no_switch sample.Switch p other never = λ e. other refl
