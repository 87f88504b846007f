use Rattle.std.proofs.Common.{◌≡◌, ◌∙◌, sym, ap, refl, subst, ℕ, suc, ◌+◌, ◌*◌, ◌^◌, ◌<◌, ◌≤◌, ◌==◌, arith, List, [], ◌∷◌, length, Any, Some, None, is_some, Bool, true, false, cond, not, ◌&&◌, nat_lt, inl, inr}
use Rattle.std.proofs.lemmas.Bool.{cond_both, eq-eqb, false≢true, true≢false, or_parts, not-false}
use Rattle.an_base.specs.Values.{LifeId, EndId, TopoOf}
use Rattle.an_base.specs.declared.body.Body.{Body}
use Rattle.an_base.specs.declared.frame.Frame.{Frame}
use Rattle.an_base.specs.declared.frame.Frame.TheVariants.{Carry, Ack, Probe, Reply}
use Rattle.an_base.specs.declared.port.Sample.{Sample}
use Rattle.an_base.specs.Frames.{CarryOf}
use Rattle.connectivity.specs.Connections.{is_end, is_same_end}
use Rattle.epoch_core.specs.Log.{CardOf, Log, on_port}
use Rattle.std.specs.Option.{option_or}
use Rattle.epoch_core.specs.Epoch.{adds, finish, finished_as_root, given_by}
use Rattle.switch_core.specs.Switch.{SwitchOf, counts, end_at, finish_of, good_links, good_peer, port_of, ports_of, started}
use Rattle.ordered_link.specs.Receiving.{accepted_by}
use Rattle.switch_core.specs.Steps.{after, are_same_links, all_added, all_pushed, all_resent, answers_body, begun, clocked, framed, goes_on, is_change_due, is_spent_by, joins, loaded, on_ack, on_carry, probes, receives, sample_at, sampled_by, still}
use Rattle.switch_core.specs.Sound.{IsSound, IsSoundBy, all_held, carries, counted}
use Rattle.switch_core.proofs.CountLemmas.{added_few, joining_few, log_length, one_from}
use Rattle.switch_core.proofs.FarLemmas.{hears, hears_nonce, hears_peer, sampled_nonce}
use Rattle.switch_core.proofs.FinishLemmas.{option_or-Some, given_names, root_names}
use Rattle.switch_core.proofs.HeldLemmas.{came_more}
use Rattle.switch_core.proofs.LinkLemmas.{hears_links, links_are}
use Rattle.switch_core.proofs.ReceiveLemmas.{sound_receives}
use Rattle.switch_core.proofs.WindowLemmas.{SendsUpTo, all_pushed_few, all_resent_few, none_more, on_ack_few}

-- what is so stays so
pub more_by : (works carried later most : ℕ) (s : SwitchOf) → works ≤ later → carried ≤ most → IsSoundBy works carried s → IsSoundBy later most s
more_by works carried later most s more more_carried h =
    let probes : (port : ℕ) → (port_of s port).far.nonce ≤ later = λ port. omega (arith, more, h.probes port) in
    let came : s.joined ≡ true → length s.log + all_held s.receivings ≤ most = λ joined. omega (arith, more_carried, h.came joined) in
    assumption (probes, came, h)

pub sound_more : (n m : ℕ) (s : SwitchOf) → n ≤ m → IsSound n s → IsSound m s
sound_more n m s more h = more_by n n m m s more more h

-- the bodies that came in its epoch are those of now and, if that is the epoch of before, those of before
pub in_same : (old new before now : ℕ) → new ≡ old → counted old new before now ≡ before + now
in_same old new before now same = ap (λ b. cond b (before + now) now) (eq-eqb new old same)

least_counted : (old new before now : ℕ) → now ≤ counted old new before now
least_counted old new before now = cond_both (new == old) (before + now) now (λ n. now ≤ n) (λ _. omega arith) (λ _. omega arith)

pub most_counted : (old new before now : ℕ) → counted old new before now ≤ before + now
most_counted old new before now = cond_both (new == old) (before + now) now (λ n. n ≤ before + now) (λ _. omega arith) (λ _. omega arith)

-- so it is enough that it is sound by those of before and now where its epoch is that of before, and by those of now anywhere
same_epoch : (works carried more count old : ℕ) (s : SwitchOf) → s.epoch ≡ old → count ≤ carried + more → IsSoundBy works count s → IsSoundBy works (counted old s.epoch carried more) s
same_epoch works carried more count old s same few h =
    let all = in_same old s.epoch carried more same in
    more_by works count works (counted old s.epoch carried more) s (omega arith) (omega (arith, few, all)) h

new_epoch : (works carried more old : ℕ) (s : SwitchOf) → IsSoundBy works more s → IsSoundBy works (counted old s.epoch carried more) s
new_epoch works carried more old s h = more_by works more works (counted old s.epoch carried more) s (omega arith) (least_counted old s.epoch carried more) h

-- at power-on
pub sound_started : (life : LifeId) (epoch had : ℕ) (any : Bool) → 1 ≤ had → had ≤ 126 → IsSoundBy 0 0 (started life epoch had any)
sound_started life epoch had any least most = record {
  me = refl;
  least = least;
  most = most;
  one_link = λ port. omega arith;
  links = λ _. refl;
  unjoined = λ _ _ port. refl;
  due = λ is. absurd (false≢true is);
  probes = λ port. omega arith;
  windows = λ port. omega arith;
  near = λ port k _. refl;
  came = λ is. absurd (false≢true is);
  pushed = λ port. omega arith;
}

-- bodies are pushed and go out, at most as many as the log allows
sound_sends : (works carried : ℕ) (more : ℕ → ℕ) (old new : SwitchOf) → SendsUpTo more old new → ((port : ℕ) → length (old.sendings port).pushed + more port ≤ 1 + 4 * length old.log) → IsSoundBy works carried old → IsSoundBy works carried new
sound_sends works carried more old new sends few h =
    let pushed : (port : ℕ) → length (new.sendings port).pushed ≤ 1 + 4 * length old.log = λ port. omega (arith, few port, sends.pushed port) in
    subst (IsSoundBy works carried) (sym sends.only) (assumption (sends.windows h.windows, pushed, h))

-- or none more is pushed
sound_sends_none : (works carried : ℕ) (old new : SwitchOf) → SendsUpTo none_more old new → IsSoundBy works carried old → IsSoundBy works carried new
sound_sends_none works carried old new sends h = sound_sends works carried none_more old new sends (λ port. omega (arith, h.pushed port)) h

-- an epoch begins
sound_begun : (works carried epoch : ℕ) (s : SwitchOf) → 1 ≤ s.number → s.number ≤ 126 → ((port : ℕ) → (port_of s port).far.nonce ≤ works) → IsSoundBy works carried (begun epoch s)
sound_begun works carried epoch s least most probes = record {
  me = refl;
  least = least;
  most = most;
  one_link = λ port. one_from 1 port (ports_of s);
  links = λ _. refl;
  unjoined = λ is. absurd (true≢false is);
  due = λ is. is;
  probes = probes;
  windows = λ port. omega arith;
  near = λ port k _. refl;
  came = λ _. omega arith;
  pushed = λ port. omega arith;
}

-- and is joined
joining_sound : (works carried epoch : ℕ) (s : SwitchOf) → 1 ≤ s.number → s.number ≤ 126 → ((port : ℕ) → (port_of s port).far.nonce ≤ works) → IsSoundBy works carried (joins epoch s).switch
joining_sound works carried epoch s least most probes =
    let b = begun epoch s in
    sound_sends works carried (λ port. length (on_port port (adds b.card []))) b (joins epoch s).switch (all_pushed_few (adds b.card []) b)
    (λ port. let few = joining_few b.card port (one_from 1 port (ports_of s)) in omega (arith, few))
    (sound_begun works carried epoch s least most probes)

pub sound_joins : (works carried epoch : ℕ) (s : SwitchOf) → IsSoundBy works carried s → IsSoundBy works carried (joins epoch s).switch
sound_joins works carried epoch s h = joining_sound works carried epoch s h.least h.most h.probes

-- a switch that joins stays spent or not, and has joined
pub joins_spent : (epoch : ℕ) (s : SwitchOf) → (joins epoch s).switch.spent ≡ s.spent
joins_spent epoch s = ap (λ (u : SwitchOf). u.spent) (all_pushed_few (adds (begun epoch s).card []) (begun epoch s)).only

pub joins_joined : (epoch : ℕ) (s : SwitchOf) → (joins epoch s).switch.joined ≡ true
joins_joined epoch s = ap (λ (u : SwitchOf). u.joined) (all_pushed_few (adds (begun epoch s).card []) (begun epoch s)).only

-- in a session that begins there are numbers left for what joining sends
pub numbers_of_joins : (epoch : ℕ) (s : SwitchOf) (q : ℕ) → length ((begun epoch s).sendings q).pushed + length (on_port q (adds (begun epoch s).card [])) ≤ 2 ^ 31
numbers_of_joins epoch s q = let few = joining_few (begun epoch s).card q (one_from 1 q (ports_of s)) in omega (arith, few)

-- a frame of a session counts at no port before the first epoch
counted_by : (b : Bool) (works carried port : ℕ) (from to : EndId) (s : SwitchOf) → s.joined ≡ b → IsSoundBy works carried s → s.spent ≡ false → counts s port from to ≡ true → s.joined ≡ true
counted_by true works carried port from to s joined h working counted = joined
counted_by false works carried port from to s joined h working counted =
    absurd (false≢true (sym (ap (λ o. is_end o from && is_same_end to (end_at s port)) (h.unjoined joined working port)) ∙ counted))

pub counted_joined : (works carried port : ℕ) (from to : EndId) (s : SwitchOf) → IsSoundBy works carried s → s.spent ≡ false → counts s port from to ≡ true → s.joined ≡ true
counted_joined works carried port from to s h working counted = counted_by s.joined works carried port from to s refl h working counted

-- a body comes to a session, and what the accepted ones add goes out
pub sound_body : (works carried port k : ℕ) (peer : EndId) (body : Body) (s : SwitchOf) → 1 ≤ port → port ≤ 12 → s.joined ≡ true → IsSoundBy works carried s → IsSoundBy works (suc carried) (answers_body port peer k body s).switch
sound_body works carried port k peer body s least most joined h =
    let bodies = accepted_by k body (s.receivings port) in
    let xs = all_added s.card port bodies s.log in
    let u = receives port k body s in
    let e = log_length port bodies s.log in
    sound_sends works (suc carried) (λ q. length (on_port q xs)) u (all_pushed xs u).switch (all_pushed_few xs u)
    (λ q. let few = added_few s.card port bodies s.log q (h.one_link q) in omega (arith, e, few, h.pushed q))
    (sound_receives works carried port k body s least most joined h)

-- in each session there are numbers left for what the accepted bodies add
pub numbers_of_body : (works carried port k : ℕ) (body : Body) (s : SwitchOf) → IsSoundBy works carried s → s.joined ≡ true → carried < 2 ^ 28 → 1 ≤ port → port ≤ 12
    → (q : ℕ) → length ((receives port k body s).sendings q).pushed + length (on_port q (all_added s.card port (accepted_by k body (s.receivings port)) s.log)) ≤ 2 ^ 31
numbers_of_body works carried port k body s h joined few least most q =
    let added = added_few s.card port (accepted_by k body (s.receivings port)) s.log q (h.one_link q) in
    let more = came_more port k body s.receivings (h.near port) least most in
    omega (arith, added, more, few, h.came joined, h.pushed q)

-- a body of a session, or of a greater epoch, of which it is the first one
sound_carried : (works carried port : ℕ) (f : CarryOf) (s : SwitchOf) → 1 ≤ port → port ≤ 12 → s.joined ≡ true → IsSoundBy works carried s
    → IsSoundBy works (counted s.epoch (on_carry port f s).switch.epoch carried 1) (on_carry port f s).switch
sound_carried works carried port f s least most joined h =
    let one = joins f.epoch s in
    let later = answers_body port f.from f.number f.body one.switch in
    let here = answers_body port f.from f.number f.body s in
    let epoch : here.switch.epoch ≡ s.epoch = ap (λ (u : SwitchOf). u.epoch) (all_pushed_few (all_added s.card port (accepted_by f.number f.body (s.receivings port)) s.log) (receives port f.number f.body s)).only in
    cond_both (nat_lt s.epoch f.epoch) (after one later) (cond (f.epoch == s.epoch) here (still s)) (λ step. IsSoundBy works (counted s.epoch step.switch.epoch carried 1) step.switch)
    (λ _. new_epoch works carried 1 s.epoch later.switch (sound_body works 0 port f.number f.from f.body one.switch least most (joins_joined f.epoch s) (joining_sound works 0 f.epoch s h.least h.most h.probes)))
    (λ _. cond_both (f.epoch == s.epoch) here (still s) (λ step. IsSoundBy works (counted s.epoch step.switch.epoch carried 1) step.switch)
    (λ _. same_epoch works carried 1 (suc carried) s.epoch here.switch epoch (omega arith) (sound_body works carried port f.number f.from f.body s least most joined h))
    (λ _. same_epoch works carried 1 carried s.epoch s refl (omega arith) h))

-- a reply comes in
sound_hears : (works carried port nonce : ℕ) (from : EndId) (s : SwitchOf) → IsSoundBy works carried s → IsSoundBy works carried (hears port from nonce s)
sound_hears works carried port nonce from s h =
    let t = hears port from nonce s in
    let links : t.spent ≡ false → t.card.links ≡ good_links t = λ working. h.links working ∙ sym (hears_links port nonce from s) in
    let unjoined : t.joined ≡ false → t.spent ≡ false → (q : ℕ) → good_peer t q ≡ None = λ not_joined working q. hears_peer port nonce q from s ∙ h.unjoined not_joined working q in
    let probes : (q : ℕ) → (port_of t q).far.nonce ≤ works = λ q. let e = hears_nonce port nonce q from s in omega (arith, e, h.probes q) in
    assumption (links, unjoined, probes, h)

-- a frame comes in
taken : (works carried port : ℕ) (frame : Frame) (s : SwitchOf) → 1 ≤ port → port ≤ 12 → s.spent ≡ false → IsSoundBy works carried s
    → IsSoundBy works (counted s.epoch (framed port frame s).switch.epoch carried (carries frame)) (framed port frame s).switch
taken works carried port (Carry f) s least most working h =
    cond_both (counts s port f.from f.to) (on_carry port f s) (still s) (λ step. IsSoundBy works (counted s.epoch step.switch.epoch carried 1) step.switch)
    (λ test. sound_carried works carried port f s least most (counted_joined works carried port f.from f.to s h working test) h)
    (λ _. same_epoch works carried 1 carried s.epoch s refl (omega arith) h)
taken works carried port (Ack epoch from to n) s least most working h =
    let few = on_ack_few port epoch n from s in
    cond_both (counts s port from to) (on_ack port from epoch n s) (still s) (λ step. IsSoundBy works (counted s.epoch step.switch.epoch carried 0) step.switch)
    (λ _. same_epoch works carried 0 carried s.epoch (on_ack port from epoch n s).switch (ap (λ (u : SwitchOf). u.epoch) few.only) (omega arith) (sound_sends_none works carried s (on_ack port from epoch n s).switch few h))
    (λ _. same_epoch works carried 0 carried s.epoch s refl (omega arith) h)
taken works carried port (Probe from nonce) s least most working h = same_epoch works carried 0 carried s.epoch s refl (omega arith) h
taken works carried port (Reply from to nonce) s least most working h =
    cond_both (is_same_end to (end_at s port)) (still (hears port from nonce s)) (still s) (λ step. IsSoundBy works (counted s.epoch step.switch.epoch carried 0) step.switch)
    (λ _. same_epoch works carried 0 carried s.epoch (hears port from nonce s) refl (omega arith) (sound_hears works carried port nonce from s h))
    (λ _. same_epoch works carried 0 carried s.epoch s refl (omega arith) h)

pub framed_by : (works carried port : ℕ) (frame : Frame) (s : SwitchOf) → 1 ≤ port → port ≤ 12 → s.spent ≡ false → IsSoundBy works carried s
    → IsSoundBy (works + 1) (counted s.epoch (framed port frame s).switch.epoch carried (carries frame)) (framed port frame s).switch
framed_by works carried port frame s least most working h =
    let t = (framed port frame s).switch in
    let count = counted s.epoch t.epoch carried (carries frame) in
    more_by works count (works + 1) count t (omega arith) (omega arith) (taken works carried port frame s least most working h)

-- which carries one body at most
one_at_most : (frame : Frame) → carries frame ≤ 1
one_at_most (Carry f) = omega arith
one_at_most (Ack epoch from to n) = omega arith
one_at_most (Probe from nonce) = omega arith
one_at_most (Reply from to nonce) = omega arith

pub sound_framed : (works port : ℕ) (frame : Frame) (s : SwitchOf) → 1 ≤ port → port ≤ 12 → s.spent ≡ false → IsSound works s → IsSound (suc works) (framed port frame s).switch
sound_framed works port frame s least most working h =
    let t = (framed port frame s).switch in
    let one = one_at_most frame in
    let few = most_counted s.epoch t.epoch works (carries frame) in
    more_by works (counted s.epoch t.epoch works (carries frame)) (suc works) (suc works) t (omega arith) (omega (arith, one, few)) (taken works works port frame s least most working h)

-- At a clock each port was sampled. All is so but `links` and `unjoined`, which ask nothing of a switch that is spent
sampled : (works carried now : ℕ) (samples : List Sample) (s : SwitchOf) → IsSoundBy works carried s → IsSoundBy (suc works) carried (record (sampled_by now samples s) { spent = true })
sampled works carried now samples s h =
    let t : SwitchOf = record (sampled_by now samples s) { spent = true } in
    let links : t.spent ≡ false → t.card.links ≡ good_links t = λ is. absurd (true≢false is) in
    let unjoined : t.joined ≡ false → t.spent ≡ false → (q : ℕ) → good_peer t q ≡ None = λ _ is. absurd (true≢false is) in
    let probes : (port : ℕ) → (port_of t port).far.nonce ≤ suc works = λ port. let more = sampled_nonce (sample_at samples port) (port_of s port) in omega (arith, more, h.probes port) in
    assumption (links, unjoined, probes, h)

pub sound_sampled : (works now : ℕ) (samples : List Sample) (s : SwitchOf) → IsSound works s → IsSound (suc works) (record (sampled_by now samples s) { spent = true })
sound_sampled works now samples s h = more_by (suc works) works (suc works) (suc works) (record (sampled_by now samples s) { spent = true }) (omega arith) (omega arith) (sampled works works now samples s h)

-- and so of one that has joined with its good links
sound_joined : (works carried : ℕ) (s : SwitchOf) → s.joined ≡ true → (s.spent ≡ false → s.card.links ≡ good_links s) → IsSoundBy works carried (record s { spent = true }) → IsSoundBy works carried s
sound_joined works carried s joined links h =
    let unjoined : s.joined ≡ false → s.spent ≡ false → (q : ℕ) → good_peer s q ≡ None = λ is. absurd (true≢false (sym joined ∙ is)) in
    assumption (links, unjoined, h)

-- where no change is due the epoch was joined, and the good links are those of before
pub unchanged_joined : (before s : SwitchOf) → is_change_due before s ≡ false → before.joined ≡ true
unchanged_joined before s unchanged = not-false before.joined (or_parts (not before.joined) (not (are_same_links (good_links before) (good_links s))) unchanged).0

pub unchanged_links : (before s : SwitchOf) → is_change_due before s ≡ false → good_links before ≡ good_links s
unchanged_links before s unchanged =
    links_are (good_links before) (good_links s)
    (not-false (are_same_links (good_links before) (good_links s)) (or_parts (not before.joined) (not (are_same_links (good_links before) (good_links s))) unchanged).1)

-- so where no change is due a switch that was sampled is sound
unchanged_sound : (works carried now : ℕ) (samples : List Sample) (s : SwitchOf) → is_change_due s (sampled_by now samples s) ≡ false → IsSoundBy works carried s → IsSoundBy (suc works) carried (sampled_by now samples s)
unchanged_sound works carried now samples s unchanged h =
    let u = sampled_by now samples s in
    sound_joined (suc works) carried u (unchanged_joined s u unchanged) (λ working. h.links working ∙ unchanged_links s u unchanged) (sampled works carried now samples s h)

-- behind the probes the next epoch is joined, or what is due is sent again
goes_sound : (works carried now : ℕ) (samples : List Sample) (s : SwitchOf) → IsSoundBy works carried s
    → IsSoundBy (suc works) (counted s.epoch (goes_on s (sampled_by now samples s)).switch.epoch carried 0) (goes_on s (sampled_by now samples s)).switch
goes_sound works carried now samples s h =
    let u = sampled_by now samples s in
    let again = all_resent u.card.links u in
    let few = all_resent_few u.card.links u in
    let there = sampled works carried now samples s h in
    cond_both (is_change_due s u) (joins (suc u.epoch) u) again (λ step. IsSoundBy (suc works) (counted s.epoch step.switch.epoch carried 0) step.switch)
    (λ _. new_epoch (suc works) carried 0 s.epoch (joins (suc u.epoch) u).switch (joining_sound (suc works) 0 (suc u.epoch) u there.least there.most there.probes))
    (λ unchanged. same_epoch (suc works) carried 0 carried s.epoch again.switch (ap (λ (v : SwitchOf). v.epoch) few.only) (omega arith) (sound_sends_none (suc works) carried u again.switch few (unchanged_sound works carried now samples s unchanged h)))

-- a clock comes
comes : (works carried now : ℕ) (samples : List Sample) (s : SwitchOf) → IsSoundBy works carried s
    → IsSoundBy (suc works) (counted s.epoch (clocked now samples s).switch.epoch carried 0) (clocked now samples s).switch
comes works carried now samples s h =
    let u = sampled_by now samples s in
    cond_both (is_spent_by s u) (still (record u { spent = true })) (after (record { switch = u; frames = probes u }) (goes_on s u)) (λ step. IsSoundBy (suc works) (counted s.epoch step.switch.epoch carried 0) step.switch)
    (λ _. same_epoch (suc works) carried 0 carried s.epoch (record u { spent = true }) refl (omega arith) (sampled works carried now samples s h)) (λ _. goes_sound works carried now samples s h)

pub clocked_by : (works carried now : ℕ) (samples : List Sample) (s : SwitchOf) → IsSoundBy works carried s
    → IsSoundBy (works + 1) (counted s.epoch (clocked now samples s).switch.epoch carried 0) (clocked now samples s).switch
clocked_by works carried now samples s h =
    let t = (clocked now samples s).switch in
    let count = counted s.epoch t.epoch carried 0 in
    more_by (suc works) count (works + 1) count t (omega arith) (omega arith) (comes works carried now samples s h)

pub sound_clocked : (works now : ℕ) (samples : List Sample) (s : SwitchOf) → IsSound works s → IsSound (suc works) (clocked now samples s).switch
sound_clocked works now samples s h =
    let t = (clocked now samples s).switch in
    let few = most_counted s.epoch t.epoch works 0 in
    more_by (suc works) (counted s.epoch t.epoch works 0) (suc works) (suc works) t (omega arith) (omega (arith, few)) (comes works works now samples s h)

-- a table is loaded
pub loaded_by : (works carried number : ℕ) (s : SwitchOf) → 1 ≤ number → number ≤ 126 → IsSoundBy works carried s → IsSoundBy works carried (loaded number s)
loaded_by works carried number s least most h =
    let due : (loaded number s).load_due ≡ true → is_some (finish_of (loaded number s)) ≡ true = λ is. absurd (false≢true is) in
    assumption (least, most, due, h)

pub sound_loaded : (works number : ℕ) (s : SwitchOf) → 1 ≤ number → number ≤ 126 → IsSound works s → IsSound works (loaded number s)
sound_loaded works number s least most h = loaded_by works works number s least most h

-- what a switch finishes with names its life: the report of a root has its own entry, and a topology that was given names it
pub finish_named : (c : CardOf) (log : Log) (topo : TopoOf) → finish c log ≡ Some topo → Any (λ e. e.life ≡ c.me) topo.entries
finish_named c [] topo is = root_names c [] topo is
finish_named c (x ∷ log) topo is =
    elim (option_or-Some (finish c log) (option_or (finished_as_root c (x ∷ log)) (given_by c.me x.body)) topo is) [
      | inl before ↦ finish_named c log topo before
      | inr now ↦ elim (option_or-Some (finished_as_root c (x ∷ log)) (given_by c.me x.body) topo now) [
        | inl root ↦ root_names c (x ∷ log) topo root
        | inr given ↦ given_names c.me x.body topo given
      ]
    ]
