use Rattle.std.proofs.Common.{◌≡◌, ◌≢◌, ◌∙◌, sym, ap, refl, subst, ℕ, suc, ◌+◌, ◌-◌, ◌<◌, ◌≤◌, ◌^◌, ◌==◌, nat_le, arith, List, [], ◌∷◌, ◌++◌, append-nil, add-one, take, take_all, take-suc, get_or, slice_get, Option, Some, None, Bool, true, false, cond}
use Rattle.std.specs.List.{flat_map}
use Rattle.std.proofs.lemmas.Bool.{eqb-true, eqb-false, le-leb, lt-leb}
use Rattle.std.proofs.lemmas.Bool.Decides.{nat_tests}
use Rattle.std.proofs.lemmas.Grind.{flat_map-append}
use Rattle.std.proofs.lemmas.Option.{same_Some}
use Rattle.an_base.specs.Values.{EndId, LifeId}
use Rattle.an_base.specs.declared.frame.Frame.TheVariants.{Probe}
use Rattle.an_base.specs.declared.port.Sample.{Sample}
use Rattle.an_base.specs.declared.port.Sample.TheVariants as sample
use Rattle.frame_codec.specs.Spelling.{spelling}
use Rattle.port_monitor.specs.declared.monitor.Monitor.{Monitor}
use Rattle.port_monitor.specs.declared.port.Port.{Port}
use Rattle.port_monitor.specs.Ports.{probe_of}
use Rattle.port_monitor.specs.Histories.{History, IsAfter, Sampled, port_after, with_happening, externals}
use Rattle.switch_core.specs.declared.control.Control.{Control}
use Rattle.switch_core.specs.Bytes.{BytesOut, all_spelled}
use Rattle.switch_core.specs.Switch.{SwitchOf, port_of}
use Rattle.switch_core.specs.Stands.{Does, Done, HasRoom, IsSame, Stands, probed}
use Rattle.switch_core.specs.Steps.{Sent, Step, probe_out, probes_at, sample_at, sampled_by}
use Rattle.switch_core.proofs.ResendLemmas.{spelled_then}
pub use Rattle.switch_core.proofs.SessionLemmas.{port_at}
use Rattle.switch_core.proofs.StandsLemmas.{stands_same}

-- the ports up to this one were sampled
abbrev pub first_sampled : ℕ → List Sample → (ℕ → History) → ℕ → History
first_sampled n samples histories port = cond (nat_le port n) (Sampled (sample_at samples port) ∷ histories port) (histories port)

-- of a switch
abbrev pub sampled_to : ℕ → ℕ → List Sample → SwitchOf → SwitchOf
sampled_to n now samples s = record s { tick = now; ports = first_sampled n samples s.ports }

-- and their probes went out
abbrev pub probes_to : ℕ → SwitchOf → List Sent
probes_to n s = flat_map (probes_at s) (take n externals)

-- both
abbrev pub probed_to : ℕ → ℕ → List Sample → SwitchOf → Step
probed_to n now samples s = record { switch = sampled_to n now samples s; frames = probes_to n (sampled_by now samples s) }

-- one that comes later is as it was
not_yet : (i port : ℕ) (samples : List Sample) (histories : ℕ → History) → i < port → first_sampled i samples histories port ≡ histories port
not_yet i port samples histories later = ap (λ b. cond b (Sampled (sample_at samples port) ∷ histories port) (histories port)) (lt-leb port i later)

-- one that came before has one happening more
already : (i port : ℕ) (samples : List Sample) (histories : ℕ → History) → port ≤ i → first_sampled i samples histories port ≡ Sampled (sample_at samples port) ∷ histories port
already i port samples histories before = ap (λ b. cond b (Sampled (sample_at samples port) ∷ histories port) (histories port)) (le-leb port i before)

-- the next port is sampled
next_case : (b : Bool) (i q : ℕ) (samples : List Sample) (histories : ℕ → History) → b ≡ (q == suc i) → cond b (Sampled (sample_at samples (suc i)) ∷ first_sampled i samples histories q) (first_sampled i samples histories q) ≡ first_sampled (suc i) samples histories q
next_case true i q samples histories test =
    let same : q ≡ suc i = eqb-true q (suc i) (sym test) in
    ap (λ h. Sampled (sample_at samples (suc i)) ∷ h) (not_yet i q samples histories (omega (arith, same)))
    ∙ ap (λ p. Sampled (sample_at samples p) ∷ histories q) (sym same)
    ∙ sym (already (suc i) q samples histories (omega (arith, same)))
next_case false i q samples histories test =
    let other : q ≢ suc i = eqb-false q (suc i) (sym test) in
    let tests : nat_le q i ≡ nat_le q (suc i) = grind (arith, nat_tests, other) in
    ap (λ b. cond b (Sampled (sample_at samples q) ∷ histories q) (histories q)) tests

-- and so the histories are those of one port more
next_sampled : (i q : ℕ) (samples : List Sample) (histories : ℕ → History) → with_happening (suc i) (Sampled (sample_at samples (suc i))) (first_sampled i samples histories) q ≡ first_sampled (suc i) samples histories q
next_sampled i q samples histories = next_case (q == suc i) i q samples histories refl

-- the ports are those of what happened there
is_after_same : (m : Monitor) (g h : ℕ → History) → ((port : ℕ) → 1 ≤ port → port ≤ 12 → g port ≡ h port) → IsAfter m g → IsAfter m h
is_after_same m g h same is = record {
  ports = λ port least most. is.ports port least most ∙ ap (λ (x : History). Some (port_after (record { life = m.life; port = port }) x)) (same port least most);
}

-- other happenings at another tick
pub stands_ports : (c : Control) (s : SwitchOf) (m : Monitor) (tick now : ℕ) (ports : ℕ → History) → tick ≡ now → Stands c s → m.life ≡ c.monitor.life → IsAfter m ports → Stands (record c { monitor = m; tick = tick }) (record s { tick = now; ports = ports })
stands_ports c s m tick now ports same stands life is = assumption (life ∙ stands.monitor, is, same, stands)

-- at the start
pub sampled_none : (c : Control) (now : ℕ) (samples : List Sample) (out : List BytesOut) → Does (probed_to 0 now samples) c (record c { tick = now }) out out
sampled_none c now samples out s stands = (
  stands_ports c s c.monitor now now (first_sampled 0 samples s.ports) refl stands refl
      (is_after_same c.monitor s.ports (first_sampled 0 samples s.ports) (λ port least most. sym (not_yet 0 port samples s.ports least)) stands.ports),
  sym (append-nil out),
)

-- at the end
pub sampled_all : (old c : Control) (n now : ℕ) (samples : List Sample) (before out : List BytesOut) → 12 ≤ n → Does (probed_to n now samples) old c before out → Does (probed now samples) old c before out
sampled_all old c n now samples before out last does s stands =
    let done = does s stands in
    let to = sampled_to n now samples s in
    let all = sampled_by now samples s in (
      stands_ports c to c.monitor c.tick now all.ports done.0.tick done.0 refl
          (is_after_same c.monitor to.ports all.ports (λ port least most. already n port samples s.ports (omega (arith, most, last))) done.0.ports),
      done.1 ∙ ap (λ ps. before ++ all_spelled (flat_map (probes_at all) ps)) (take_all n externals last),
    )

-- the port that is sampled next was not sampled yet, and so fewer probes went out there than the switch has done works
pub few_probes : (old c : Control) (i port now : ℕ) (samples : List Sample) (before out : List BytesOut) → HasRoom old → i < 12 → port ≡ get_or externals i 0 → Does (probed_to i now samples) old c before out → (p : Port) → slice_get c.monitor.ports (port - 1) ≡ Some p → p.far.nonce < 2 ^ 63
few_probes old c i port now samples before out has low here does p there =
    let s = has.switch in
    let stands = (does s has.stands).0 in
    let place : port ≡ suc i = here ∙ port_at i low in
    let unsampled = not_yet i port samples s.ports (omega (arith, place)) in
    let is : p ≡ port_of s port = same_Some p (port_of s port)
    (sym there ∙ stands.ports.ports port (omega (arith, place)) (omega (arith, place, low))
    ∙ ap (λ (x : History). Some (port_after (record { life = c.monitor.life; port = port }) x)) unsampled
    ∙ ap (λ (l : LifeId). Some (port_after (record { life = l; port = port }) (s.ports port))) stands.monitor) in
    let nonce = ap (λ (q : Port). q.far.nonce) is in
    omega (arith, nonce, has.sound.probes port, has.few)

-- one port more
sampled_next : (old c : Control) (m : Monitor) (s : SwitchOf) (i port at now : ℕ) (samples : List Sample) → port ≡ suc i → at ≡ port - 1 → Stands old (sampled_to i now samples s) → m.life ≡ old.monitor.life
    → IsAfter m (with_happening port (Sampled (get_or samples at sample.Down)) (first_sampled i samples s.ports)) → IsSame (record old { monitor = m }) c → Stands c (sampled_to (suc i) now samples s)
sampled_next old c m s i port at now samples place index stands life is same =
    let after = first_sampled i samples s.ports in
    let there = subst (λ n. IsAfter m (with_happening port (Sampled (get_or samples n sample.Down)) after)) index is in
    let here = subst (λ p. IsAfter m (with_happening p (Sampled (sample_at samples p)) after)) place there in
    let done = is_after_same m (with_happening (suc i) (Sampled (sample_at samples (suc i))) after) (first_sampled (suc i) samples s.ports) (λ q least most. next_sampled i q samples s.ports) here in
    stands_same (record old { monitor = m }) c (sampled_to (suc i) now samples s) same
    (stands_ports old (sampled_to i now samples s) m old.tick now (first_sampled (suc i) samples s.ports) stands.tick stands life done)

-- the number of its probe is that of the port after all
probe_number : (number : Option ℕ) (c : Control) (s : SwitchOf) (i port at now : ℕ) (samples : List Sample) → port ≡ suc i → at ≡ port - 1 → Stands c (sampled_to i now samples s)
    → number ≡ probe_of (port_after (record { life = c.monitor.life; port = port }) (Sampled (get_or samples at sample.Down) ∷ first_sampled i samples s.ports port)) → number ≡ probe_of (port_of (sampled_by now samples s) port)
probe_number number c s i port at now samples place index stands is =
    is ∙ ap (λ (l : LifeId). probe_of (port_after (record { life = l; port = port }) (Sampled (get_or samples at sample.Down) ∷ first_sampled i samples s.ports port))) stands.monitor
    ∙ ap (λ n. probe_of (port_after (record { life = s.life; port = port }) (Sampled (get_or samples n sample.Down) ∷ first_sampled i samples s.ports port))) index
    ∙ ap (λ h. probe_of (port_after (record { life = s.life; port = port }) (Sampled (sample_at samples port) ∷ h))) (not_yet i port samples s.ports (omega (arith, place)))

-- the probes up to the next port
probes_next : (i : ℕ) (s : SwitchOf) → i < 12 → probes_to (suc i) s ≡ probes_to i s ++ probes_at s (suc i)
probes_next i s low =
    ap (flat_map (probes_at s)) (take-suc externals i 0 low)
    ∙ flat_map-append (probes_at s) (take i externals) (get_or externals i 0 ∷ [])
    ∙ ap (λ ps. probes_to i s ++ ps) (append-nil (probes_at s (get_or externals i 0)))
    ∙ ap (λ p. probes_to i s ++ probes_at s p) (port_at i low)

-- what the monitor answers at a sample of a port
pub record IsSampled (old new : Monitor) (port : ℕ) (x : Sample) (number : Option ℕ) : Type 0 where
  pub life : new.life ≡ old.life
  pub after : (histories : ℕ → History) → IsAfter old histories → IsAfter new (with_happening port (Sampled x) histories)
  pub probe : (histories : ℕ → History) → IsAfter old histories → number ≡ probe_of (port_after (record { life = old.life; port = port }) (Sampled x ∷ histories port))

-- the next port was sampled, and its probe went out
probes_more : (old a c : Control) (m : Monitor) (number : Option ℕ) (i port at now : ℕ) (samples : List Sample) (u v w : List BytesOut) → i < 12 → port ≡ get_or externals i 0 → at ≡ port - 1 → Does (probed_to i now samples) old a u v
    → IsSampled a.monitor m port (get_or samples at sample.Down) number → IsSame (record a { monitor = m }) c → ((s : SwitchOf) → s.life ≡ a.life → w ≡ v ++ all_spelled (probe_out s port number)) → Does (probed_to (i + 1) now samples) old c u w
probes_more old a c m number i port at now samples u v w low here index does sampled same out s stands =
    let all = sampled_by now samples s in
    let done = does s stands in
    let place : port ≡ suc i = here ∙ port_at i low in
    let histories = first_sampled i samples s.ports in
    let new = sampled_next a c m s i port at now samples place index done.0 sampled.life (sampled.after histories done.0.ports) same in
    let probe = probe_number number a s i port at now samples place index done.0 (sampled.probe histories done.0.ports) in
    let more : w ≡ v ++ all_spelled (probes_at all (suc i)) =
    out all (sym done.0.life) ∙ ap (λ o. v ++ all_spelled (probe_out all port o)) probe ∙ ap (λ p. v ++ all_spelled (probes_at all p)) place in
    let frames = spelled_then u v w (probes_to i all) (probes_at all (suc i)) done.1 more in
    subst (λ n. Done c u w (probed_to n now samples s)) (sym (add-one i))
    (new, frames ∙ ap (λ xs. u ++ all_spelled xs) (sym (probes_next i all low)))

-- a probe is spelled
probe_put : (number : Option ℕ) (nonce port : ℕ) (from : EndId) (life : LifeId) (v w : List BytesOut) → number ≡ Some nonce → from ≡ record { life = life; port = port } → w ≡ v ++ record { port = port; bytes = spelling (Probe from nonce) } ∷ []
    → (s : SwitchOf) → s.life ≡ life → w ≡ v ++ all_spelled (probe_out s port number)
probe_put number nonce port from life v w is mine put s same =
    put ∙ ap (λ (e : EndId). v ++ record { port = port; bytes = spelling (Probe e nonce) } ∷ []) (mine ∙ ap (λ (l : LifeId). record { life = l; port = port }) (sym same))
    ∙ ap (λ o. v ++ all_spelled (probe_out s port o)) (sym is)

-- or there is none
no_probe : (number : Option ℕ) (port : ℕ) (v : List BytesOut) → number ≡ None → (s : SwitchOf) → v ≡ v ++ all_spelled (probe_out s port number)
no_probe number port v none s = sym (append-nil v) ∙ ap (λ o. v ++ all_spelled (probe_out s port o)) (sym none)

-- a probe of the next port went out
pub probe_sent : (old a c : Control) (m : Monitor) (number : Option ℕ) (i port at now : ℕ) (samples : List Sample) (u v x : List BytesOut) → i < 12 → port ≡ get_or externals i 0 → at ≡ port - 1 → Does (probed_to i now samples) old a u v → IsSampled a.monitor m port (get_or samples at sample.Down) number
    → (nonce : ℕ) (from : EndId) (b : Control) (w : List BytesOut) → number ≡ Some nonce → from ≡ record { life = a.life; port = port } → IsSame (record a { monitor = m }) b → w ≡ v ++ record { port = port; bytes = spelling (Probe from nonce) } ∷ [] → c ≡ b → x ≡ w → Does (probed_to (i + 1) now samples) old c u x
probe_sent old a c m number i port at now samples u v x low here index does sampled nonce from b w is mine same put self out =
    subst (λ (d : Control). Does (probed_to (i + 1) now samples) old d u x) (sym self)
    (probes_more old a b m number i port at now samples u v x low here index does sampled same (probe_put number nonce port from a.life v x is mine (out ∙ put)))

-- or none
pub probe_unsent : (old a c : Control) (m : Monitor) (number : Option ℕ) (i port at now : ℕ) (samples : List Sample) (u v x : List BytesOut) → i < 12 → port ≡ get_or externals i 0 → at ≡ port - 1 → Does (probed_to i now samples) old a u v → IsSampled a.monitor m port (get_or samples at sample.Down) number
    → number ≡ None → c ≡ record a { monitor = m } → x ≡ v → Does (probed_to (i + 1) now samples) old c u x
probe_unsent old a c m number i port at now samples u v x low here index does sampled none self out =
    subst (λ (d : Control). Does (probed_to (i + 1) now samples) old d u x) (sym self)
    (probes_more old a (record a { monitor = m }) m number i port at now samples u v x low here index does sampled refl (λ s same. out ∙ no_probe number port v none s))
