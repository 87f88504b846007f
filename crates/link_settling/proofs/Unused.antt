use Rattle.std.specs.Prelude.{nat_lt, nat_le}
use Rattle.std.proofs.Common.{◌≡◌, ◌≢◌, ◌∙◌, ⊎_elim, sym, ap, subst, refl, ℕ, suc, ◌==◌, arith, List, [], ◌∷◌, Option, Some, None, true, false, cond}
use Rattle.std.proofs.lemmas.Bool.{cases_eq, cases_Bool, and_parts, eqb-false, ltb-true, leb-true}
use Rattle.std.proofs.lemmas.Option.{none-some}
use Rattle.an_base.specs.Values.{EndId, PeerAt}
use Rattle.an_base.specs.Frames.{CarryOf}
use Rattle.an_base.specs.declared.body.Body.{Body}
use Rattle.an_base.specs.declared.frame.Frame.{Frame}
use Rattle.an_base.specs.declared.frame.Frame.TheVariants.{Carry, Ack, Probe, Reply}
use Rattle.an_base.specs.declared.port.Sample.{Sample}
use Rattle.common_values.proofs.TestLemmas.{by_test}
use Rattle.connectivity.specs.Connections.{is_same_end}
use Rattle.port_monitor.specs.Histories.{Replied, with_happening}
use Rattle.ordered_link.specs.Sending.{Sending, unused, highest, is_outstanding, due}
use Rattle.epoch_core.specs.Log.{OnPort, CardOf}
use Rattle.epoch_core.specs.Epoch.{adds}
use Rattle.switch_core.specs.Switch.{SwitchOf, StartOf, started_as, counts, end_at}
use Rattle.ordered_link.specs.Receiving.{accepted_by}
use Rattle.switch_core.specs.Steps.{Step, still, after, peer_among, pushed_to, pushed, all_pushed, begun, joins, all_added, receives, answers_body, on_carry, framed, sampled_by, sends_again, all_again, resends_on, all_resent, is_change_due, last_epoch, clocked, loaded}
use Rattle.switch_core.proofs.LawLemmas.{ack_only, ack_elsewhere}
use Rattle.link_settling.specs.Moves.{AreUnused}
use Rattle.link_settling.proofs.Steps.{ack_nothing, same_clock, joined_clock, spent_clock}
use Rattle.switch_core.proofs.SessionLemmas.{at_other_port}

-- the card stays, and so does what is sent at a port without a link
record Leaves (s : SwitchOf) (step : Step) : Type 0 where
  card : step.switch.card ≡ s.card
  sent : (p : ℕ) → peer_among s.card.links p ≡ None → step.switch.sendings p ≡ s.sendings p

leaves_still : (s : SwitchOf) → Leaves s (still s)
leaves_still s = record { card = refl; sent = λ p none. refl }

leaves_then : (s : SwitchOf) (first next : Step) → Leaves s first → Leaves first.switch next → Leaves s (after first next)
leaves_then s first next one two = record {
  card = two.card ∙ one.card;
  sent = λ p none. two.sent p (ap (λ (c : CardOf). peer_among c.links p) one.card ∙ none) ∙ one.sent p none;
}

leaves_pushed : (o : Option EndId) (x : OnPort) (s : SwitchOf) → peer_among s.card.links x.port ≡ o → Leaves s (pushed_to o x s)
leaves_pushed None x s is = leaves_still s
leaves_pushed (Some peer) x s is = record {
  card = refl;
  sent = λ p none. at_other_port x.port p _ s.sendings (λ same. none-some peer (sym none ∙ ap (peer_among s.card.links) same ∙ is));
}

leaves_all_pushed : (xs : List OnPort) (s : SwitchOf) → Leaves s (all_pushed xs s)
leaves_all_pushed [] s = leaves_still s
leaves_all_pushed (x ∷ xs) s = leaves_then s (pushed x s) (all_pushed xs (pushed x s).switch) (leaves_pushed (peer_among s.card.links x.port) x s refl) (leaves_all_pushed xs (pushed x s).switch)

leaves_answers : (port k : ℕ) (peer : EndId) (body : Body) (s : SwitchOf) → Leaves s (answers_body port peer k body s)
leaves_answers port k peer body s =
    let l = leaves_all_pushed (all_added s.card port (accepted_by k body (s.receivings port)) s.log) (receives port k body s) in
    record { card = l.card; sent = l.sent }

-- what is sent again is sent on links
again_at_others : (p : ℕ) (l : PeerAt) (ks : List ℕ) (s : SwitchOf) → p ≢ l.port → ((all_again l ks s).switch.sendings p ≡ s.sendings p) × ((all_again l ks s).switch.card ≡ s.card)
again_at_others p l [] s other = (refl, refl)
again_at_others p l (k ∷ ks) s other =
    let r = again_at_others p l ks (sends_again l k s).switch other in
    (r.0 ∙ at_other_port l.port p _ s.sendings other, r.1)

resent_at_others : (p : ℕ) (ls : List PeerAt) (s : SwitchOf) → peer_among ls p ≡ None → ((all_resent ls s).switch.sendings p ≡ s.sendings p) × ((all_resent ls s).switch.card ≡ s.card)
resent_at_others p [] s = λ none. (refl, refl)
resent_at_others p (l ∷ ls) s =
    by_test (λ b. l.port == p ≡ b → cond b (Some l.peer) (peer_among ls p) ≡ None → ((all_resent (l ∷ ls) s).switch.sendings p ≡ s.sendings p) × ((all_resent (l ∷ ls) s).switch.card ≡ s.card)) (l.port == p)
    (λ _ _ none. absurd (none-some l.peer (sym none)))
    (λ _ other none.
    let a = again_at_others p l (due s.tick (s.sendings l.port)) s (λ same. eqb-false l.port p other (sym same)) in
    let r = resent_at_others p ls (resends_on l s).switch none in
    (r.0 ∙ a.0, r.1 ∙ a.1))
    refl

-- so it is always
unused_kept : (s : SwitchOf) (step : Step) → AreUnused s → Leaves s step → AreUnused step.switch
unused_kept s step unsent leaves p none = let e = sym (ap (λ (c : CardOf). peer_among c.links p) leaves.card) ∙ none in leaves.sent p e ∙ unsent p e

joins_unused : (epoch : ℕ) (s : SwitchOf) → AreUnused (joins epoch s).switch
joins_unused epoch s = unused_kept (begun epoch s) (joins epoch s) (λ p none. refl) (leaves_all_pushed (adds (begun epoch s).card []) (begun epoch s))

pub unused_start : (x : StartOf) → AreUnused (started_as x)
unused_start x p none = refl

pub unused_load : (number : ℕ) (s : SwitchOf) → AreUnused s → AreUnused (loaded number s)
unused_load number s unsent = unsent

same_unused : (s x : SwitchOf) (ls : List PeerAt) → ls ≡ x.card.links → AreUnused x → ((p : ℕ) → peer_among ls p ≡ None → ((all_resent ls x).switch.sendings p ≡ x.sendings p) × ((all_resent ls x).switch.card ≡ x.card)) → (all_resent ls x).switch.card ≡ x.card → AreUnused (all_resent ls x).switch
same_unused s x ls is unsent at card p none =
    let e = sym (ap (λ (c : CardOf). peer_among c.links p) card) ∙ none in
    (at p (ap (λ l. peer_among l p) is ∙ e)).0 ∙ unsent p e

resent_card : (ls : List PeerAt) (s : SwitchOf) → (all_resent ls s).switch.card ≡ s.card
resent_card [] s = refl
resent_card (l ∷ ls) s = resent_card ls (resends_on l s).switch ∙ again_card l (due s.tick (s.sendings l.port)) s
  where
    again_card : (l : PeerAt) (ks : List ℕ) (s : SwitchOf) → (all_again l ks s).switch.card ≡ s.card
    again_card l [] s = refl
    again_card l (k ∷ ks) s = again_card l ks (sends_again l k s).switch

pub unused_clock : (now : ℕ) (samples : List Sample) (s : SwitchOf) → AreUnused s → AreUnused (clocked now samples s).switch
unused_clock now samples s unsent =
    let x = sampled_by now samples s in
    ⊎_elim
    (λ (due : is_change_due s x ≡ true). ⊎_elim
    (λ (last : s.epoch ≡ last_epoch). subst (λ (step : Step). AreUnused step.switch) (sym (spent_clock now samples s due last)) unsent)
    (λ left. subst (λ (step : Step). AreUnused step.switch) (sym (joined_clock now samples s due left)) (joins_unused (suc s.epoch) x))
    (cases_eq s.epoch last_epoch))
    (λ (none : is_change_due s x ≡ false). subst (λ (step : Step). AreUnused step.switch) (sym (same_clock now samples s none))
    (same_unused s x s.card.links refl unsent (λ p e. resent_at_others p s.card.links x e) (resent_card s.card.links x)))
    (cases_Bool (is_change_due s x))

carry_unused : (port : ℕ) (f : CarryOf) (s : SwitchOf) → AreUnused s → AreUnused (framed port (Carry f) s).switch
carry_unused port f s unsent =
    by_test (λ b. AreUnused (cond b (on_carry port f s) (still s)).switch) (counts s port f.from f.to)
    (λ _. by_test (λ b. AreUnused (cond b (after (joins f.epoch s) (answers_body port f.from f.number f.body (joins f.epoch s).switch)) (cond (f.epoch == s.epoch) (answers_body port f.from f.number f.body s) (still s))).switch) (nat_lt s.epoch f.epoch)
    (λ _. unused_kept (joins f.epoch s).switch (answers_body port f.from f.number f.body (joins f.epoch s).switch) (joins_unused f.epoch s) (leaves_answers port f.number f.from f.body (joins f.epoch s).switch))
    (λ _. by_test (λ b. AreUnused (cond b (answers_body port f.from f.number f.body s) (still s)).switch) (f.epoch == s.epoch) (λ _. unused_kept s (answers_body port f.from f.number f.body s) unsent (leaves_answers port f.number f.from f.body s)) (λ _. unsent)))
    (λ _. unsent)

none_outstanding : (n : ℕ) (t : Sending) → t ≡ unused → is_outstanding n t ≡ false
none_outstanding n t is = ap (is_outstanding n) is ∙ ⊎_elim
    (λ (out : is_outstanding n unused ≡ true). absurd (
    let a = ltb-true 0 n (and_parts (nat_lt 0 n) (nat_le n (highest unused)) out).0 in
    let b = leb-true n (highest unused) (and_parts (nat_lt 0 n) (nat_le n (highest unused)) out).1 in
    omega (arith, a, b)))
    (λ (no_more : is_outstanding n unused ≡ false). no_more) (cases_Bool (is_outstanding n unused))

ack_unused : (port epoch n : ℕ) (from to : EndId) (s : SwitchOf) → AreUnused s → AreUnused (framed port (Ack epoch from to n) s).switch
ack_unused port epoch n from to s unsent p none =
    let e = sym (ap (λ (x : SwitchOf). peer_among x.card.links p) (ack_only port epoch n from to s)) ∙ none in
    ⊎_elim
    (λ (same : p ≡ port).
    let t = unsent p e in
    ap (λ (step : Step). step.switch.sendings p) (ack_nothing port epoch n from to s (none_outstanding n (s.sendings port) (subst (λ q. s.sendings q ≡ unused) same t))) ∙ t)
    (λ other. ack_elsewhere port epoch n p from to s other ∙ unsent p e)
    (cases_eq p port)

pub unused_frame : (port : ℕ) (frame : Frame) (s : SwitchOf) → AreUnused s → AreUnused (framed port frame s).switch
unused_frame port (Carry f) s unsent = carry_unused port f s unsent
unused_frame port (Ack epoch from to n) s unsent = ack_unused port epoch n from to s unsent
unused_frame port (Probe from nonce) s unsent = unsent
unused_frame port (Reply from to nonce) s unsent =
    by_test (λ b. AreUnused (cond b (still (record s { ports = with_happening port (Replied from nonce) s.ports })) (still s)).switch) (is_same_end to (end_at s port)) (λ _. unsent) (λ _. unsent)
