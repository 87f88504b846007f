use Rattle.std.specs.Prelude.{IsTrue}
use Rattle.std.proofs.Common.{◌≡◌, ◌∙◌, ◌⊎◌, inl, inr, ⊎_elim, sym, ap, subst, refl, ℕ, List, [], ◌∷◌, true, false}
use Rattle.std.proofs.lemmas.Bool.{false≢true, true≢false}
use Rattle.an_base.specs.Values.{EndId}
use Rattle.an_base.specs.declared.port.Sample.TheVariants as sample
use Rattle.port_monitor.specs.declared.port.Port.{Port}
use Rattle.port_monitor.specs.Histories.{History, Sampled, Replied, port_after}
use Rattle.link_settling.specs.Links.{with_replies, IsAmong, Speaks, nonce_after, IsTick}
use Rattle.link_settling.specs.Moments.{EndView, tick_begins, Stays, Clocks, FarClocks, Hears, FarHears, Answers, Passes, EndStep, clocks, far_clocks, hears, far_hears, answers, passes, EndRun, rest, then_step, TickEnds}
use Rattle.link_settling.proofs.Ports.{replied_as, replied_phase}

-- the last probe is answered, or on its way, or its reply is
abbrev pub IsUnderWay : EndId → List ℕ → EndView → Type 0
IsUnderWay own nonces v = IsAmong (nonce_after own v.here) nonces ⊎ (IsTrue v.probe ⊎ IsTrue v.reply)

-- what happened at this end in the tick
pub record Came (own far : EndId) (before : History) (v : EndView) : Type 0 where
  pub nonces : List ℕ
  pub happened : v.here ≡ with_replies far nonces (Sampled sample.Switch ∷ before)
  pub under_way : Speaks own v.here → (v.far_has_clocked ≡ true → Speaks far v.there) → IsUnderWay own nonces v

pub record IsInTick (own far : EndId) (before : History) (v : EndView) : Type 0 where
  pub waits : v.has_clocked ≡ false → v.here ≡ before
  pub came : v.has_clocked ≡ true → Came own far before v

pub begins_in : (own far : EndId) (before there : History) → IsInTick own far before (tick_begins before there)
begins_in own far before there = record { waits = λ _. refl; came = λ e. absurd (false≢true e) }

clocks_in : (own far : EndId) (before : History) (v w : EndView) → IsInTick own far before v → Clocks own v w → IsInTick own far before w
clocks_in own far before v w ok t =
    record {
      waits = λ e. absurd (true≢false (sym (ap (λ (x : EndView). x.has_clocked) t.is) ∙ e));
      came = λ _. record {
        nonces = [];
        happened = ap (λ (x : EndView). x.here) t.is ∙ ap (λ h. Sampled sample.Switch ∷ h) (ok.waits t.before);
        under_way = λ speaks _. inr (inl (t.probes speaks));
      };
    }

-- what is under way stays under way
stays_in : (own far : EndId) (before : History) (v w : EndView) → w.here ≡ v.here → w.has_clocked ≡ v.has_clocked → ((v.far_has_clocked ≡ true → Speaks far v.there) → (w.far_has_clocked ≡ true → Speaks far w.there) → (IsTrue v.probe ⊎ IsTrue v.reply) → IsTrue w.probe ⊎ IsTrue w.reply)
    → ((w.far_has_clocked ≡ true → Speaks far w.there) → v.far_has_clocked ≡ true → Speaks far v.there) → IsInTick own far before v → IsInTick own far before w
stays_in own far before v w here clocked way asked ok =
    record {
      waits = λ e. here ∙ ok.waits (sym clocked ∙ e);
      came = λ e.
          let c = ok.came (sym clocked ∙ e) in
          record {
            nonces = c.nonces;
            happened = here ∙ c.happened;
            under_way = λ speaks far_speaks.
                let before_asked = asked far_speaks in
                ⊎_elim (λ among. inl (subst (λ h. IsAmong (nonce_after own h) c.nonces) (sym here) among)) (λ u. inr (way before_asked far_speaks u))
                (c.under_way (subst (Speaks own) here speaks) before_asked);
          };
    }

both_stay : (v w : EndView) → Stays v w → (IsTrue v.probe ⊎ IsTrue v.reply) → IsTrue w.probe ⊎ IsTrue w.reply
both_stay v w s u = ⊎_elim (λ p. inl (s.probe_stays p)) (λ r. inr (s.reply_stays r)) u

far_clocks_in : (own far : EndId) (before : History) (v w : EndView) → IsInTick own far before v → FarClocks v w → IsInTick own far before w
far_clocks_in own far before v w ok t =
    stays_in own far before v w (ap (λ (x : EndView). x.here) t.is) (ap (λ (x : EndView). x.has_clocked) t.is) (λ _ _. both_stay v w t.stays)
    (λ _ e. absurd (false≢true (sym t.before ∙ e))) ok

far_hears_in : (own far : EndId) (before : History) (v w : EndView) → IsInTick own far before v → FarHears own v w → IsInTick own far before w
far_hears_in own far before v w ok t =
    stays_in own far before v w (ap (λ (x : EndView). x.here) t.is) (ap (λ (x : EndView). x.has_clocked) t.is) (λ _ _. both_stay v w t.stays)
    (λ speaks e. sym (replied_phase own t.nonce (port_after far v.there)) ∙ sym (ap (λ (x : EndView). (port_after far x.there).phase) t.is) ∙ speaks (ap (λ (x : EndView). x.far_has_clocked) t.is ∙ e)) ok

answers_in : (own far : EndId) (before : History) (v w : EndView) → IsInTick own far before v → Answers far v w → IsInTick own far before w
answers_in own far before v w ok t =
    stays_in own far before v w (ap (λ (x : EndView). x.here) t.is) (ap (λ (x : EndView). x.has_clocked) t.is) (λ asked _ _. inr (t.replies (asked t.fresh)))
    (λ speaks e. sym (ap (λ (x : EndView). (port_after far x.there).phase) t.is) ∙ speaks (ap (λ (x : EndView). x.far_has_clocked) t.is ∙ e)) ok

passes_in : (own far : EndId) (before : History) (v w : EndView) → IsInTick own far before v → Passes v w → IsInTick own far before w
passes_in own far before v w ok t =
    stays_in own far before v w (ap (λ (x : EndView). x.here) t.is) (ap (λ (x : EndView). x.has_clocked) t.is) (λ _ _. both_stay v w t.stays)
    (λ speaks e. sym (ap (λ (x : EndView). (port_after far x.there).phase) t.is) ∙ speaks (ap (λ (x : EndView). x.far_has_clocked) t.is ∙ e)) ok

-- a reply leaves the number of the last probe
replied_nonce : (own from : EndId) (nonce : ℕ) (history : History) → nonce_after own (Replied from nonce ∷ history) ≡ nonce_after own history
replied_nonce own from nonce history = let r = replied_as from nonce (port_after own history) in ap (λ (p : Port). p.far.nonce) r.1

hears_in : (own far : EndId) (before : History) (v w : EndView) → IsInTick own far before v → Hears own far v w → IsInTick own far before w
hears_in own far before v w ok t =
    let here = ap (λ (x : EndView). x.here) t.is in
    record {
      waits = λ e. absurd (true≢false (sym t.fresh ∙ sym (ap (λ (x : EndView). x.has_clocked) t.is) ∙ e));
      came = λ e.
          let c = ok.came t.fresh in
          let same : nonce_after own w.here ≡ nonce_after own v.here = ap (nonce_after own) here ∙ replied_nonce own far t.nonce v.here in
          record {
            nonces = t.nonce ∷ c.nonces;
            happened = here ∙ ap (λ h. Replied far t.nonce ∷ h) c.happened;
            under_way = λ speaks far_speaks.
                ⊎_elim (λ among. inl (inr (subst (λ n. IsAmong n c.nonces) (sym same) among)))
                (⊎_elim (λ p. inr (inl (t.probe_stays p))) (λ r. ⊎_elim (λ is. inl (inl (is ∙ sym same))) (λ s. inr (inr s)) (t.reply_stays r)))
                (c.under_way (sym (replied_phase far t.nonce (port_after own v.here)) ∙ sym (ap (λ h. (port_after own h).phase) here) ∙ speaks)
                (λ f. sym (ap (λ (x : EndView). (port_after far x.there).phase) t.is) ∙ far_speaks (ap (λ (x : EndView). x.far_has_clocked) t.is ∙ f)));
          };
    }

step_in : (own far : EndId) (before : History) (v w : EndView) → IsInTick own far before v → EndStep own far v w → IsInTick own far before w
step_in own far before v w ok (clocks t) = clocks_in own far before v w ok t
step_in own far before v w ok (far_clocks t) = far_clocks_in own far before v w ok t
step_in own far before v w ok (hears t) = hears_in own far before v w ok t
step_in own far before v w ok (far_hears t) = far_hears_in own far before v w ok t
step_in own far before v w ok (answers t) = answers_in own far before v w ok t
step_in own far before v w ok (passes t) = passes_in own far before v w ok t

pub run_in : (own far : EndId) (before : History) (u v : EndView) → IsInTick own far before u → EndRun own far u v → IsInTick own far before v
run_in own far before u v ok (rest x) = ok
run_in own far before u v ok (then_step a b c run step) = step_in own far before b c (run_in own far before a b ok run) step

-- nothing is under way any more
none_under_way : (own : EndId) (nonces : List ℕ) (v : EndView) → TickEnds v → IsUnderWay own nonces v → IsAmong (nonce_after own v.here) nonces
none_under_way own nonces v ends way = ⊎_elim (λ among. among) (⊎_elim (λ p. absurd (false≢true (sym ends.no_probe ∙ p))) (λ r. absurd (false≢true (sym ends.no_reply ∙ r)))) way

pub run_is_tick : (own far : EndId) (before there : History) (v : EndView) → EndRun own far (tick_begins before there) v → TickEnds v → IsTick own far before v.here v.there
run_is_tick own far before there v run ends =
    let c = (run_in own far before (tick_begins before there) v (begins_in own far before there) run).came ends.here in
    record {
      nonces = c.nonces;
      happened = c.happened;
      answered = λ speaks far_speaks. none_under_way own c.nonces v ends (c.under_way speaks (λ _. far_speaks));
    }
