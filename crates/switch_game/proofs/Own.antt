use Rattle.std.proofs.Common.{◌≡◌, ◌∙◌, sym, ap, refl, subst, ℕ, zero, suc, ◌≤◌, ◌==◌, ◌&&◌, arith, List, [], ◌∷◌, ◌++◌, append-nil, length, length-append, reverse, None, is_some, Bool, true, false, cond, ◌⊎◌, inl, inr}
use Rattle.std.proofs.lemmas.Bool.{and_parts, cond_both, eqb-true, eqb-false, false≢true, true≢false}
use Rattle.an_base.specs.Values.{EndId, LifeId, PeerAt}
use Rattle.an_base.specs.declared.body.Body.{Body}
use Rattle.ordered_link.specs.Sending.{Sending, acknowledge, forget, is_outstanding, may_send, send_again, send_next, due}
use Rattle.ordered_link.specs.Receiving.{Receiving, accepted_by, received}
use Rattle.ordered_link.specs.Session.{IsFrontOf}
use Rattle.epoch_core.specs.Log.{CardOf, Log, on_port}
use Rattle.epoch_core.specs.Epoch.{adds}
use Rattle.switch_core.specs.Switch.{SwitchOf, at_port, good_links, good_peer, started}
use Rattle.switch_core.specs.Steps.{acknowledges, after, all_added, all_again, all_pushed, all_resent, answers_body, begun, fills, joins, log_with, on_ack, peer_among, pushed, receives, resends_on, sends_again, sends_next, still}
use Rattle.switch_core.proofs.WindowLemmas.{SendsUpTo, all_pushed_few, none_more}
use Rattle.switch_core.proofs.LawLemmas.{joins_card, joins_log, joins_pushed, joins_receivings, sent_acked, all_acked}
use Rattle.switch_core.proofs.SoundLemmas.{joins_joined}
use Rattle.switch_core.proofs.FarLemmas.{hears, hears_peer}
use Rattle.switch_core.proofs.LinkLemmas.{hears_links}
use Rattle.switch_core.proofs.SendsLemmas.{IsGrown, all_pushed_on, joins_sends}
use Rattle.switch_game.proofs.Streams.{accepted_else, accepted_here, stream, stream_added, stream_first}
use Rattle.switch_game.proofs.Received.{received_splits}

-- What is always so of the switch of life x: it has the good links in its epoch; what was accepted is what its log has on the
-- port; and what was pushed is what its log sends there.
pub record IsOwn (x : LifeId) (s : SwitchOf) : Type 0 where
  pub life : s.life ≡ x
  pub me : s.card.me ≡ x
  pub links : s.joined ≡ true → s.spent ≡ false → s.card.links ≡ good_links s
  pub no_links : s.joined ≡ false → s.card.links ≡ []
  pub no_peers : s.joined ≡ false → s.spent ≡ false → (port : ℕ) → good_peer s port ≡ None
  pub accepted : (p : ℕ) → (s.receivings p).accepted ≡ reverse (on_port p s.log)
  pub pushed : s.joined ≡ true → (q : ℕ) → is_some (peer_among s.card.links q) ≡ true → (s.sendings q).pushed ≡ stream s.card q s.log

pub own_started : (x : LifeId) (epoch had : ℕ) (any : Bool) → IsOwn x (started x epoch had any)
own_started x epoch had any = record {
  life = refl;
  me = refl;
  links = λ is. absurd (false≢true is);
  no_links = λ _. refl;
  no_peers = λ _ _ port. refl;
  accepted = λ p. refl;
  pushed = λ is. absurd (false≢true is);
}

-- no more was pushed: a front that is no shorter is the whole
front_whole : (xs ys : List Body) → IsFrontOf xs ys → length ys ≤ length xs → ys ≡ xs
front_whole xs ys f few = by f.0 f.1
  where
    by : (more : List Body) → xs ++ more ≡ ys → ys ≡ xs
    by [] is = sym is ∙ append-nil xs
    by (b ∷ more) is = let e = ap length is in let g = length-append xs (b ∷ more) in absurd (omega (arith, e, g, few))

pub pushed_same : (s t : SwitchOf) (q : ℕ) → SendsUpTo none_more s t → IsGrown s t → (t.sendings q).pushed ≡ (s.sendings q).pushed
pushed_same s t q few grown = front_whole (s.sendings q).pushed (t.sendings q).pushed (grown.pushed q) (let e = few.pushed q in omega (arith, e))

-- so it is of one that only sends again, or what waited
own_sends : (x : LifeId) (s : SwitchOf) (ts : ℕ → Sending) → ((q : ℕ) → (ts q).pushed ≡ (s.sendings q).pushed) → IsOwn x s → IsOwn x (record s { sendings = ts })
own_sends x s ts same h =
    let pushed : s.joined ≡ true → (q : ℕ) → is_some (peer_among s.card.links q) ≡ true → (ts q).pushed ≡ stream s.card q s.log = λ joined q linked. same q ∙ h.pushed joined q linked in
    assumption (pushed, h)

pub own_same : (x : LifeId) (s t : SwitchOf) → SendsUpTo none_more s t → IsGrown s t → IsOwn x s → IsOwn x t
own_same x s t few grown h = subst (IsOwn x) (sym few.only) (own_sends x s t.sendings (λ q. pushed_same s t q few grown) h)

-- a reply changes no link
pub own_hears : (x : LifeId) (port nonce : ℕ) (from : EndId) (s : SwitchOf) → IsOwn x s → IsOwn x (hears port from nonce s)
own_hears x port nonce from s h = record {
  life = h.life;
  me = h.me;
  links = λ joined working. h.links joined working ∙ sym (hears_links port nonce from s);
  no_links = h.no_links;
  no_peers = λ not_joined working q. hears_peer port nonce q from s ∙ h.no_peers not_joined working q;
  accepted = h.accepted;
  pushed = h.pushed;
}

-- one that has joined
pub own_joined : (x : LifeId) (epoch : ℕ) (s : SwitchOf) → s.life ≡ x → IsOwn x (joins epoch s).switch
own_joined x epoch s life =
    let t = (joins epoch s).switch in
    let grown = (joins_sends epoch s).grown in
    let ports : good_links t ≡ good_links s = ap good_links (all_pushed_few (adds (begun epoch s).card []) (begun epoch s)).only in
    let joined = joins_joined epoch s in
    record {
      life = grown.life ∙ life;
      me = ap (λ (c : CardOf). c.me) (joins_card epoch s) ∙ life;
      links = λ _ _. ap (λ (c : CardOf). c.links) (joins_card epoch s) ∙ sym ports;
      no_links = λ is. absurd (true≢false (sym joined ∙ is));
      no_peers = λ is. absurd (true≢false (sym joined ∙ is));
      accepted = λ p. ap (λ (r : Receiving). r.accepted) (joins_receivings epoch p s) ∙ ap (λ (l : Log). reverse (on_port p l)) (sym (joins_log epoch s));
      pushed = λ _ q linked. joins_pushed epoch q s ∙ sym (stream_first t.card q) ∙ ap (λ (l : Log). stream t.card q l) (sym (joins_log epoch s));
    }

-- one to whose session a body comes
own_receives : (x : LifeId) (port k : ℕ) (body : Body) (s : SwitchOf) (ts : ℕ → Sending) → s.joined ≡ true → IsOwn x s
    → ((q : ℕ) → is_some (peer_among s.card.links q) ≡ true → (ts q).pushed ≡ (s.sendings q).pushed ++ on_port q (all_added s.card port (accepted_by k body (s.receivings port)) s.log))
    → IsOwn x (record (receives port k body s) { sendings = ts })
own_receives x port k body s ts joined h pushed =
    let t : SwitchOf = record (receives port k body s) { sendings = ts } in
    let accepted : (p : ℕ) → (t.receivings p).accepted ≡ reverse (on_port p t.log) = λ p. by (p == port) p refl in
    let all : (q : ℕ) → is_some (peer_among s.card.links q) ≡ true → (ts q).pushed ≡ stream s.card q t.log =
    λ q linked. pushed q linked ∙ ap (λ (l : List Body). l ++ on_port q (all_added s.card port bodies s.log)) (h.pushed joined q linked) ∙ sym (stream_added s.card q port bodies s.log) in
    let each : t.joined ≡ true → (q : ℕ) → is_some (peer_among t.card.links q) ≡ true → (t.sendings q).pushed ≡ stream t.card q t.log = λ _. all in
    assumption (accepted, each, h)
  where
    bodies : List Body
    bodies = accepted_by k body (s.receivings port)

    here : (received k body (s.receivings port)).accepted ≡ reverse (on_port port (log_with port bodies s.log))
    here = received_splits k body (s.receivings port) ∙ ap (λ (l : List Body). l ++ bodies) (h.accepted port) ∙ sym (accepted_here port bodies s.log)

    by : (b : Bool) (p : ℕ) → b ≡ (p == port) → (cond b (received k body (s.receivings port)) (s.receivings p)).accepted ≡ reverse (on_port p (log_with port bodies s.log))
    by true p test = here ∙ ap (λ (i : ℕ). reverse (on_port i (log_with port bodies s.log))) (sym (eqb-true p port (sym test)))
    by false p test =
        h.accepted p ∙ ap (λ (l : List Body). reverse l) (sym (accepted_else port p bodies s.log (λ same. eqb-false p port (sym test) (sym same))))

pub own_body : (x : LifeId) (port k : ℕ) (peer : EndId) (body : Body) (s : SwitchOf) → s.joined ≡ true → IsOwn x s → IsOwn x (answers_body port peer k body s).switch
own_body x port k peer body s joined h =
    let u = receives port k body s in
    let xs = all_added s.card port (accepted_by k body (s.receivings port)) s.log in
    subst (IsOwn x) (sym (all_pushed_few xs u).only) (own_receives x port k body s (all_pushed xs u).switch.sendings joined h (λ q linked. all_pushed_on xs u q linked))

acked_at : (q port : ℕ) (t : Sending) (ts : ℕ → Sending) → t.acked ≡ (ts port).acked → (at_port port t ts q).acked ≡ (ts q).acked
acked_at q port t ts same = cond_both (q == port) t (ts q) (λ (u : Sending). u.acked ≡ (ts q).acked) (λ test. same ∙ ap (λ (p : ℕ). (ts p).acked) (sym (eqb-true q port test))) (λ _. refl)

pub body_acked : (port k : ℕ) (peer : EndId) (body : Body) (s : SwitchOf) (q : ℕ) → ((answers_body port peer k body s).switch.sendings q).acked ≡ (s.sendings q).acked
body_acked port k peer body s q = all_acked (all_added s.card port (accepted_by k body (s.receivings port)) s.log) (receives port k body s) q

all_again_acked : (l : PeerAt) (ks : List ℕ) (s : SwitchOf) (q : ℕ) → ((all_again l ks s).switch.sendings q).acked ≡ (s.sendings q).acked
all_again_acked l [] s q = refl
all_again_acked l (k ∷ ks) s q = all_again_acked l ks (sends_again l k s).switch q ∙ acked_at q l.port (send_again k s.tick (s.sendings l.port)) s.sendings refl

pub all_resent_acked : (ls : List PeerAt) (s : SwitchOf) (q : ℕ) → ((all_resent ls s).switch.sendings q).acked ≡ (s.sendings q).acked
all_resent_acked [] s q = refl
all_resent_acked (l ∷ ls) s q = all_resent_acked ls (resends_on l s).switch q ∙ all_again_acked l (due s.tick (s.sendings l.port)) s q

fills_acked : (n port : ℕ) (peer : EndId) (s : SwitchOf) (q : ℕ) → ((fills n port peer s).switch.sendings q).acked ≡ (s.sendings q).acked
fills_acked zero port peer s q = refl
fills_acked (suc n) port peer s q =
    fills_acked n port peer (sends_next port peer s).switch q ∙ acked_at q port (send_next s.tick (s.sendings port)) s.sendings (sent_acked (may_send (s.sendings port)) s.tick (s.sendings port))

-- an acknowledgement of this epoch sets it at its port
pub record IsSet (port epoch n : ℕ) (s t : SwitchOf) (q : ℕ) : Type 0 where
  pub port_is : q ≡ port
  pub epoch_is : epoch ≡ s.epoch
  pub acked_is : (t.sendings q).acked ≡ n

abbrev pub KeepsOrSets : ℕ → ℕ → ℕ → SwitchOf → ℕ → SwitchOf → Type 0
KeepsOrSets port epoch n s q t = ((t.sendings q).acked ≡ (s.sendings q).acked) ⊎ IsSet port epoch n s t q

acknowledge_acked : (n now : ℕ) (t : Sending) → ((acknowledge n now t).acked ≡ t.acked) ⊎ ((acknowledge n now t).acked ≡ n)
acknowledge_acked n now t =
    cond_both (is_outstanding n t) (send_next now (forget n t)) t (λ (u : Sending). (u.acked ≡ t.acked) ⊎ (u.acked ≡ n)) (λ _. inr (sent_acked (may_send (forget n t)) now (forget n t))) (λ _. inl refl)

pub on_ack_acked : (port epoch n : ℕ) (peer : EndId) (s : SwitchOf) (q : ℕ) → KeepsOrSets port epoch n s q (on_ack port peer epoch n s).switch
on_ack_acked port epoch n peer s q =
    let first = acknowledges port peer n s in
    cond_both (epoch == s.epoch && is_outstanding n (s.sendings port)) (after first (fills 7 port peer first.switch)) (still s) (λ step. KeepsOrSets port epoch n s q step.switch)
    (λ test. by (q == port) refl (eqb-true epoch s.epoch (and_parts (epoch == s.epoch) (is_outstanding n (s.sendings port)) test).0) (acknowledge_acked n s.tick (s.sendings port)))
    (λ _. inl refl)
  where
    one : SwitchOf
    one = (acknowledges port peer n s).switch

    two : SwitchOf
    two = (fills 7 port peer one).switch

    by : (b : Bool) → b ≡ (q == port) → epoch ≡ s.epoch
        → ((acknowledge n s.tick (s.sendings port)).acked ≡ (s.sendings port).acked) ⊎ ((acknowledge n s.tick (s.sendings port)).acked ≡ n)
        → KeepsOrSets port epoch n s q two
    by true test same (inl kept) = inl (fills_acked 7 port peer one q ∙ acked_at q port (acknowledge n s.tick (s.sendings port)) s.sendings kept)
    by true test same (inr set) =
        inr (record {
          port_is = eqb-true q port (sym test);
          epoch_is = same;
          acked_is = fills_acked 7 port peer one q ∙ ap (λ (c : Bool). (cond c (acknowledge n s.tick (s.sendings port)) (s.sendings q)).acked) (sym test) ∙ set;
        })
    by false test same o = inl (fills_acked 7 port peer one q ∙ ap (λ (c : Bool). (cond c (acknowledge n s.tick (s.sendings port)) (s.sendings q)).acked) (sym test))
