-- What each switch was fed with is within its ranges.

use Rattle.std.specs.Prelude.{◌≡◌, ◌+◌, ◌==◌, ◌&&◌, ◌≤◌, ℕ, zero, suc, nat_lt, nat_le, List, [], ◌∷◌, ◌++◌, length, cond, All, Any, IfSome, Option, Some, None, is_some, Bool, true, false, if◌then◌else◌}
use Rattle.std.specs.List.{flat_map}
use Rattle.std.proofs.Common.{sym, ap, subst, arith, true≢false}
use Rattle.std.proofs.lemmas.Bool.{cond_both}
use Rattle.std.proofs.lemmas.Option.{cond_some}
use Rattle.std.proofs.lemmas.List.Elements.{All-nil, All-cons, All-drop, All-push, All-from_recursion, recursion_from_All}
use Rattle.std.specs.List.{AllByRecursion as ByRecursion}
use Rattle.std.specs.declared.cmp.Ordering.{Ordering}
use Rattle.std.specs.declared.cmp.Ordering.TheVariants.{Less, Equal, Greater}
use Rattle.std.specs.Ordering.{is_lt}
use Rattle.an_base.specs.Values.{EndId, EntryOf, LifeId, PeerAt, TopoOf}
use Rattle.an_base.specs.Order.{life_cmp, entry_cmp}
use Rattle.an_base.specs.Frames.{CarryOf}
use Rattle.an_base.specs.declared.body.Body.{Body}
use Rattle.an_base.specs.declared.body.Body.TheVariants.{Pos, Answer, Stable, Topo}
use Rattle.an_base.specs.declared.frame.Frame.{Frame}
use Rattle.an_base.specs.declared.frame.Frame.TheVariants.{Carry, Ack, Probe, Reply}
use Rattle.an_base.specs.declared.port.Sample.{Sample}
use Rattle.connectivity.specs.Connections.{is_same_end}
use Rattle.port_monitor.specs.Histories.{Replied, with_happening}
use Rattle.topo_report.specs.Report.{lesser_entry, put_by, put, least_entries, is_of, kept, report_of}
use Rattle.topo_report.proofs.ReportLaws.{report_of-most}
use Rattle.ordered_link.proofs.KeepLemmas.{verdict_keeps}
use Rattle.ordered_link.specs.Receiving.{Receiving, last, has_come, accept, hold, come, follow_with, follow, verdict, accepted_by, after_verdict, follow_all, received}
use Rattle.ordered_link.specs.declared.receiver.Verdict.{Verdict}
use Rattle.ordered_link.specs.declared.receiver.Verdict.TheVariants as said
use Rattle.epoch_core.specs.Log.{CardOf, Log, OnPort, on_port, last_report}
use Rattle.std.specs.Option.{option_or}
use Rattle.epoch_core.specs.Epoch.{adds, claiming, entries_in, finish, finished_as_root, given_by, is_named, is_root, is_stable, own_entry, report, reported, reported_on, topology_of}
use Rattle.epoch_core.proofs.SettleLemmas.{length-numbering}
use Rattle.switch_numbering.proofs.Differing.{numbers_are}
use Rattle.switch_core.proofs.FinishLemmas.{root_names}
use Rattle.switch_core.specs.Switch.{SwitchOf, counts, end_at, finish_of}
use Rattle.switch_core.specs.Steps.{Step, after, all_added, all_resent, answers_body, begun, clocked, framed, goes_on, is_change_due, is_spent_by, joins, log_with, on_ack, on_carry, probes, receives, sampled_by, still}
use Rattle.switch_core.proofs.WindowLemmas.{OnlySends, all_pushed_few, all_resent_few, on_ack_few}
use Rattle.net_world.specs.Sound.{IsNumber, TopoFits}
use Rattle.net_world.proofs.BodyLemmas.{BodyFits, FrameFits}

-- what a receiver accepted and holds fits
pub record HasFit (r : Receiving) : Type 0 where
  pub accepted : All BodyFits r.accepted
  pub held : (k : ℕ) → IfSome (r.held k) BodyFits

accept_fits : (body : Body) (r : Receiving) → BodyFits body → HasFit r → HasFit (accept body r)
accept_fits body r fits h = record { accepted = All-push BodyFits r.accepted body h.accepted fits; held = h.held }

hold_fits : (k : ℕ) (o : Option Body) (r : Receiving) → IfSome o BodyFits → HasFit r → HasFit (hold k o r)
hold_fits k o r fits h = record { accepted = h.accepted; held = λ j. by j (j == k) } where
  by : (j : ℕ) (b : Bool) → IfSome (cond b o (r.held j)) BodyFits
  by j true = fits
  by j false = h.held j

come_fits : (k : ℕ) (body : Body) (r : Receiving) → BodyFits body → HasFit r → HasFit (come k body r)
come_fits k body r fits h = by (has_come k r) (k == last r + 1) (nat_le k (last r + 8)) where
  by : (a b c : Bool) → HasFit (cond a r (cond b (accept body r) (cond c (hold k (Some body) r) r)))
  by true b c = h
  by false true c = accept_fits body r fits h
  by false false true = hold_fits k (Some body) r fits h
  by false false false = h

follow_with_fits : (o : Option Body) (r : Receiving) → IfSome o BodyFits → HasFit r → HasFit (follow_with o r)
follow_with_fits None r fits h = h
follow_with_fits (Some body) r fits h = hold_fits (last r + 1) None (accept body r) tt (accept_fits body r fits h)

follow_fits : (r : Receiving) → HasFit r → HasFit (follow r)
follow_fits r h = follow_with_fits (r.held (last r + 1)) r (h.held (last r + 1)) h

received_fits : (k : ℕ) (body : Body) (r : Receiving) → BodyFits body → HasFit r → HasFit (received k body r)
received_fits k body r fits h = verdict_keeps HasFit follow_fits (verdict k body r) (come k body r) (come_fits k body r fits h)

-- A switch is fed with bodies that fit, and proposes a number
abbrev pub ItemFits : OnPort → Type 0
ItemFits x = BodyFits x.body

pub record IsFed (y : SwitchOf) : Type 0 where
  pub log : All ItemFits y.log
  pub came : (q : ℕ) → HasFit (y.receivings q)
  pub proposed : IsNumber y.card.proposed

log_fits : (port : ℕ) (bodies : List Body) (log : Log) → ByRecursion BodyFits bodies → All ItemFits log → All ItemFits (log_with port bodies log)
log_fits port [] log fits h = h
log_fits port (body ∷ bodies) log fits h = log_fits port bodies (record { port = port; body = body } ∷ log) fits.1 (All-cons ItemFits (record { port = port; body = body }) log fits.0 h)

only_fed : (s u : SwitchOf) → OnlySends s u → IsFed s → IsFed u
only_fed s u only h = subst IsFed (sym only) (record { log = h.log; came = h.came; proposed = h.proposed })

joins_fed : (epoch : ℕ) (s : SwitchOf) → IsNumber s.number → IsFed (joins epoch s).switch
joins_fed epoch s number = only_fed (begun epoch s) (joins epoch s).switch (all_pushed_few (adds (begun epoch s).card []) (begun epoch s)).only
    (record { log = All-nil ItemFits; came = λ q. record { accepted = All-nil BodyFits; held = λ k. tt }; proposed = number })

body_fed : (port k : ℕ) (peer : EndId) (body : Body) (s : SwitchOf) → BodyFits body → IsFed s → IsFed (answers_body port peer k body s).switch
body_fed port k peer body s fits h =
    let now = received_fits k body (s.receivings port) fits (h.came port) in
    only_fed (receives port k body s) (answers_body port peer k body s).switch (all_pushed_few (all_added s.card port (accepted_by k body (s.receivings port)) s.log) (receives port k body s)).only
    (record {
      log = log_fits port (accepted_by k body (s.receivings port)) s.log (recursion_from_All BodyFits (accepted_by k body (s.receivings port)) (All-drop BodyFits (last (s.receivings port)) (received k body (s.receivings port)).accepted now.accepted)) h.log;
      came = λ q. by q (q == port) now;
      proposed = h.proposed;
    })
  where
    by : (q : ℕ) (b : Bool) → HasFit (received k body (s.receivings port)) → HasFit (cond b (received k body (s.receivings port)) (s.receivings q))
    by q true now = now
    by q false now = h.came q

carry_fed : (port : ℕ) (f : CarryOf) (s : SwitchOf) → BodyFits f.body → IsNumber s.number → IsFed s → IsFed (on_carry port f s).switch
carry_fed port f s fits number h =
    cond_both (nat_lt s.epoch f.epoch) (after (joins f.epoch s) (answers_body port f.from f.number f.body (joins f.epoch s).switch)) (if f.epoch == s.epoch then answers_body port f.from f.number f.body s else still s) (λ (step : Step). IsFed step.switch)
    (λ _. body_fed port f.number f.from f.body (joins f.epoch s).switch fits (joins_fed f.epoch s number))
    (λ _. cond_both (f.epoch == s.epoch) (answers_body port f.from f.number f.body s) (still s) (λ (step : Step). IsFed step.switch) (λ _. body_fed port f.number f.from f.body s fits h) (λ _. h))

pub framed_fed : (port : ℕ) (frame : Frame) (s : SwitchOf) → FrameFits frame → IsNumber s.number → IsFed s → IsFed (framed port frame s).switch
framed_fed port (Carry f) s fits number h =
    cond_both (counts s port f.from f.to) (on_carry port f s) (still s) (λ (step : Step). IsFed step.switch) (λ _. carry_fed port f s fits number h) (λ _. h)
framed_fed port (Ack epoch from to n) s fits number h =
    cond_both (counts s port from to) (on_ack port from epoch n s) (still s) (λ (step : Step). IsFed step.switch) (λ _. only_fed s (on_ack port from epoch n s).switch (on_ack_few port epoch n from s).only h) (λ _. h)
framed_fed port (Probe from nonce) s fits number h = h
framed_fed port (Reply from to nonce) s fits number h =
    cond_both (is_same_end to (end_at s port)) (still (record s { ports = with_happening port (Replied from nonce) s.ports })) (still s) (λ (step : Step). IsFed step.switch)
    (λ _. record { log = h.log; came = h.came; proposed = h.proposed }) (λ _. h)

pub clocked_fed : (now : ℕ) (samples : List Sample) (s : SwitchOf) → IsNumber s.number → IsFed s → IsFed (clocked now samples s).switch
clocked_fed now samples s number h =
    let u = sampled_by now samples s in
    let sampled : IsFed u = record { log = h.log; came = h.came; proposed = h.proposed } in
    cond_both (is_spent_by s u) (still (record u { spent = true })) (after (record { switch = u; frames = probes u }) (goes_on s u)) (λ (step : Step). IsFed step.switch)
    (λ _. record { log = h.log; came = h.came; proposed = h.proposed })
    (λ _. cond_both (is_change_due s u) (joins (suc u.epoch) u) (all_resent u.card.links u) (λ (step : Step). IsFed step.switch)
    (λ _. joins_fed (suc u.epoch) u number) (λ _. only_fed u (all_resent u.card.links u).switch (all_resent_few u.card.links u).only sampled))

-- the report of entries that propose numbers
abbrev Proposes : EntryOf → Type 0
Proposes e = IsNumber e.proposed

lesser_proposes : (e f : EntryOf) → Proposes e → Proposes f → Proposes (lesser_entry e f)
lesser_proposes e f pe pf = by (is_lt (entry_cmp f e)) where
  by : (b : Bool) → Proposes (cond b f e)
  by true = pf
  by false = pe

put_by_propose : (o : Ordering) (e f : EntryOf) (fs more : List EntryOf) → Proposes e → Proposes f → ByRecursion Proposes fs → ByRecursion Proposes more → ByRecursion Proposes (put_by o e f fs more)
put_by_propose Less e f fs more pe pf all rest = (pe, (pf, all))
put_by_propose Equal e f fs more pe pf all rest = (lesser_proposes e f pe pf, all)
put_by_propose Greater e f fs more pe pf all rest = (pf, rest)

put_propose : (e : EntryOf) (fs : List EntryOf) → Proposes e → ByRecursion Proposes fs → ByRecursion Proposes (put e fs)
put_propose e [] pe all = (pe, tt)
put_propose e (f ∷ fs) pe all = put_by_propose (life_cmp e.life f.life) e f fs (put e fs) pe all.0 all.1 (put_propose e fs pe all.1)

least_propose : (es : List EntryOf) → ByRecursion Proposes es → ByRecursion Proposes (least_entries es)
least_propose [] all = tt
least_propose (e ∷ es) all = put_propose e (least_entries es) all.0 (least_propose es all.1)

kept_none : (me : LifeId) (es : List EntryOf) → ByRecursion Proposes es → ByRecursion Proposes (kept me zero es)
kept_none me [] all = tt
kept_none me (e ∷ es) all = by (is_of me e) (kept_none me es all.1) where
  by : (b : Bool) → ByRecursion Proposes (kept me zero es) → ByRecursion Proposes (cond b (e ∷ kept me zero es) (kept me zero es))
  by true rest = (all.0, rest)
  by false rest = rest

kept_propose : (me : LifeId) (n : ℕ) (es : List EntryOf) → ByRecursion Proposes es → ByRecursion Proposes (kept me n es)
kept_propose me zero es all = kept_none me es all
kept_propose me (suc n) [] all = tt
kept_propose me (suc n) (e ∷ es) all = by (is_of me e) (kept_propose me (suc n) es all.1) (kept_propose me n es all.1) where
  by : (b : Bool) → ByRecursion Proposes (kept me (suc n) es) → ByRecursion Proposes (kept me n es) → ByRecursion Proposes (cond b (e ∷ kept me (suc n) es) (e ∷ kept me n es))
  by true same less = (all.0, same)
  by false same less = (all.0, less)

report_propose : (me : LifeId) (es : List EntryOf) → ByRecursion Proposes es → ByRecursion Proposes (report_of me es)
unfolding report_of
report_propose me es all = kept_propose me 125 (least_entries es) (least_propose es all)

-- what was reported comes from bodies
on_port_fit : (port : ℕ) (log : Log) → ByRecursion ItemFits log → ByRecursion BodyFits (on_port port log)
on_port_fit port [] all = tt
on_port_fit port (x ∷ log) all = by (x.port == port) (on_port_fit port log all.1) where
  by : (b : Bool) → ByRecursion BodyFits (on_port port log) → ByRecursion BodyFits (cond b (x.body ∷ on_port port log) (on_port port log))
  by true rest = (all.0, rest)
  by false rest = rest

last_fit : (bodies : List Body) → ByRecursion BodyFits bodies → ByRecursion Proposes (entries_in (last_report bodies))
last_fit [] all = tt
last_fit (Pos b ∷ bs) all = last_fit bs all.1
last_fit (Answer b ∷ bs) all = last_fit bs all.1
last_fit (Stable es ∷ bs) all = recursion_from_All Proposes es all.0
last_fit (Topo t ∷ bs) all = last_fit bs all.1

append_propose : (xs ys : List EntryOf) → ByRecursion Proposes xs → ByRecursion Proposes ys → ByRecursion Proposes (xs ++ ys)
append_propose [] ys a b = b
append_propose (x ∷ xs) ys a b = (a.0, append_propose xs ys a.1 b)

reported_fit : (log : Log) (links : List PeerAt) → ByRecursion ItemFits log → ByRecursion Proposes (flat_map (reported_on log) links)
reported_fit log [] all = tt
reported_fit log (l ∷ links) all = append_propose (reported_on log l) (flat_map (reported_on log) links) (last_fit (on_port l.port log) (on_port_fit l.port log all)) (reported_fit log links all)

root_fits : (c : CardOf) (log : Log) → IsNumber c.proposed → ByRecursion ItemFits log → 1 ≤ length (report c log) → TopoFits (topology_of (report c log))
root_fits c log number all some =
    let es = report c log in
    let proposed : ByRecursion Proposes es = report_propose c.me (own_entry c log ∷ reported c log) (number, reported_fit log (claiming c log) all) in
    let most : length es ≤ 126 = report_of-most c.me (own_entry c log ∷ reported c log) in
    record { within = (numbers_are es some most (All-from_recursion Proposes es proposed)).within; as_many = length-numbering es }

-- so what a fed switch finishes with fits
given_fits : (me : LifeId) (body : Body) (topo : TopoOf) → BodyFits body → given_by me body ≡ Some topo → TopoFits topo
given_fits me (Pos b) topo fits is = absurd (true≢false (sym (ap is_some is)))
given_fits me (Answer b) topo fits is = absurd (true≢false (sym (ap is_some is)))
given_fits me (Stable es) topo fits is = absurd (true≢false (sym (ap is_some is)))
given_fits me (Topo t) topo fits is = subst TopoFits (cond_some (is_named me t) t topo is).1 fits

some_entry : (es : List EntryOf) (me : LifeId) → Any (λ e. e.life ≡ me) es → 1 ≤ length es
some_entry es me any = let lt = any.2 in omega (arith, lt)

as_root_fits : (c : CardOf) (log : Log) (topo : TopoOf) → IsNumber c.proposed → ByRecursion ItemFits log → finished_as_root c log ≡ Some topo → TopoFits topo
as_root_fits c log topo number all is =
    let same = (cond_some (is_stable c log && is_root c log) (topology_of (report c log)) topo is).1 in
    let named : Any (λ e. e.life ≡ c.me) (report c log) = subst (λ (t : TopoOf). Any (λ e. e.life ≡ c.me) t.entries) (sym same) (root_names c log topo is) in
    subst TopoFits same (root_fits c log number all (some_entry (report c log) c.me named))

pub finish_fits : (c : CardOf) (log : Log) (topo : TopoOf) → IsNumber c.proposed → ByRecursion ItemFits log → finish c log ≡ Some topo → TopoFits topo
finish_fits c [] topo number all is = as_root_fits c [] topo number all is
finish_fits c (x ∷ log) topo number all is = first (finish c log) (finished_as_root c (x ∷ log)) (λ t e. finish_fits c log t number all.1 e) (λ t e. as_root_fits c (x ∷ log) t number all e) is where
  first : (a b : Option TopoOf) → ((t : TopoOf) → a ≡ Some t → TopoFits t) → ((t : TopoOf) → b ≡ Some t → TopoFits t) → option_or a (option_or b (given_by c.me x.body)) ≡ Some topo → TopoFits topo
  first (Some t) b before root is = before topo is
  first None (Some t) before root is = root topo is
  first None None before root is = given_fits c.me x.body topo all.0 is

pub fed_finish : (y : SwitchOf) (topo : TopoOf) → IsFed y → finish_of y ≡ Some topo → TopoFits topo
fed_finish y topo fed is = by y.joined is where
  by : (b : Bool) → cond b (finish y.card y.log) None ≡ Some topo → TopoFits topo
  by true now = finish_fits y.card y.log topo fed.proposed (recursion_from_All ItemFits y.log fed.log) now
  by false now = absurd (true≢false (sym (ap is_some now)))
