use Rattle.std.proofs.Common.{◌≡◌, ◌∙◌, sym, ap, subst, refl, arith, ℕ, suc, ◌+◌, ◌≤◌, List, [], ◌∷◌, ◌++◌, Bool, true, false, cond, map, Option, Some, None, append_assoc, append-nil}
use Rattle.std.specs.Prelude.{not, ◌==◌, ◌&&◌, is_some, OnOk, Result}
use Rattle.std.proofs.lemmas.Result.{on_ok_weaker}
use Rattle.an_base.specs.Values.{Place, PeerAt, PosOf, TopoOf}
use Rattle.an_base.specs.declared.body.Body.TheVariants.{Pos, Answer, Topo}
use Rattle.tree_position.specs.declared.offers.Offer.{Offer}
use Rattle.tree_position.specs.Position.{OffersOf, position_of, noted}
use Rattle.epoch_core.specs.declared.ports.Ports.{Ports}
use Rattle.epoch_core.specs.Log.{CardOf, OnPort, Log}
use Rattle.std.specs.Option.{option_or}
use Rattle.epoch_core.specs.Epoch.{position, version, is_same, has_moved, is_stable, is_root, is_named, finish, finished_as_root, given_by, positions_of, positions, told, answer_to, answers, sent_up, sent_down, stable_to_parent, topo_down, passed_on, claiming_among, adds}
use Rattle.epoch_core.specs.Heard.{HasHeard}
use Rattle.epoch_core.specs.StandsFor.{CoreOf, StandsFor, Accepts, offers_of}
use Rattle.epoch_core.specs.Steps.{HasNoted, IsNoTopo, Settles, best_of, is_moved, repositioned, told_by}
use Rattle.epoch_core.proofs.SettleLemmas.{none_left}
use Rattle.epoch_core.proofs.EpochLemmas.{IsQuiet, quiet-topo, offers_of-quiet, position-quiet, version-quiet, told-quiet, noted-is, heard-topo, is_stable-topo, finished_as_root-topo}

-- a body that is neither position nor topology is noted on its port, and the rest is settled
pub accepts_quiet : (old : CoreOf) (ports : Ports) (new : CoreOf) (x : OnPort) (before after : List OnPort) → IsQuiet x.body → IsNoTopo x.body → ((p : Place) → answer_to x.port p x.body ≡ [])
    → ((log : Log) → HasHeard old.ports log → HasHeard ports (x ∷ log)) → Settles (record old { ports = ports }) new before after → Accepts old new x before after
accepts_quiet old ports new x before after quiet plain unanswered heard s = record {
  card = s.card;
  epoch = s.epoch;
  version = let same = s.version in omega arith;
  stands = λ log st. s.stands x log plain (noted_by log st);
  sends = λ log st. s.sends x log plain (noted_by log st) ∙ sym (ap (λ (xs : List OnPort). before ++ xs) (rest log));
}
  where
    c : CardOf
    c = old.card

    noted_by : (log : Log) → StandsFor old log → HasNoted (record old { ports = ports }) x log
    noted_by log st = record {
      offers = st.offers ∙ sym (offers_of-quiet old.card x log quiet);
      ports = heard log st.ports;
      position = st.position ∙ sym (position-quiet old.card x log quiet);
      version = st.version ∙ sym (version-quiet old.card x log quiet);
      stable = st.stable;
      finish = st.finish;
    }

    rest : (log : Log) → adds old.card (x ∷ log) ≡ sent_up old.card x log ++ sent_down old.card x log
    rest log =
        ap (λ (xs : List OnPort). xs ++ (answers old.card x log ++ (sent_up old.card x log ++ sent_down old.card x log))) (told-quiet old.card x log quiet)
        ∙ ap (λ (xs : List OnPort). xs ++ (sent_up old.card x log ++ sent_down old.card x log)) (unanswered (position old.card (x ∷ log)))

-- the same of a core that is settled where memory was found
pub accepts_where : {T E : Type 0} (r : Result T E) (inside old : CoreOf) (ports : Ports) (new : CoreOf) (x : OnPort) (before after : List OnPort) → inside ≡ old → IsQuiet x.body → IsNoTopo x.body → ((p : Place) → answer_to x.port p x.body ≡ [])
    → ((log : Log) → HasHeard inside.ports log → HasHeard ports (x ∷ log)) → OnOk r (Settles (record inside { ports = ports }) new before after) → OnOk r (Accepts old new x before after)
accepts_where r inside old ports new x before after is quiet plain unanswered heard settles =
    on_ok_weaker r (λ s. subst (λ (o : CoreOf). Accepts o new x before after) is (accepts_quiet inside ports new x before after quiet plain unanswered heard s)) settles

-- the offers after a position
offers_noted : (old : CoreOf) (offers : OffersOf) (port : ℕ) (b : PosOf) (log : Log) → StandsFor old log → offers ≡ record old.offers { offered = noted old.offers.links old.offers.offered port (record { root = b.root; level = b.level }) } → offers ≡ offers_of old.card (record { port = port; body = Pos b } ∷ log)
offers_noted old offers port b log st is =
    let next : OffersOf → OffersOf = λ o. record { me = o.me; links = o.links; offered = noted o.links o.offered port (record { root = b.root; level = b.level }) } in
    let made : List (Option Offer) → OffersOf = λ offered. record { me = old.card.me; links = old.card.links; offered = offered } in
    is ∙ ap next st.offers ∙ ap made (noted-is old.card.links port b log)

-- what is told, where the position moved
told_if : (moved : Bool) (v : ℕ) (p : Place) (links : List PeerAt) → cond moved (positions_of (suc v) p links) [] ≡ cond moved (positions_of (cond moved (suc v) v) p links) []
told_if true v p links = refl
told_if false v p links = refl

raised_by_one : (moved : Bool) (v : ℕ) → cond moved (suc v) v ≤ v + 1
raised_by_one true v = omega arith
raised_by_one false v = omega arith

-- a position is noted on its port, followed, told where it changed, and answered, and the rest is settled
pub accepts_position : (old : CoreOf) (offers : OffersOf) (ports : Ports) (moved new : CoreOf) (port : ℕ) (b : PosOf) (before told_too answered_too after : List OnPort)
    → offers ≡ record old.offers { offered = noted old.offers.links old.offers.offered port (record { root = b.root; level = b.level }) }
    → ((log : Log) → HasHeard old.ports log → HasHeard ports (record { port = port; body = Pos b } ∷ log))
    → moved ≡ repositioned (record old { offers = offers; ports = ports })
    → told_too ≡ before ++ told_by (record old { offers = offers; ports = ports })
    → answered_too ≡ told_too ++ record { port = port; body = Answer (record { version = b.version; to_parent = (port == moved.position.port) }) } ∷ []
    → Settles moved new answered_too after → Accepts old new (record { port = port; body = Pos b }) before after
accepts_position old offers ports moved new port b before told_too answered_too after offered heard is tells answers_it s = record {
  card = s.card ∙ ap (λ (o : CoreOf). o.card) is;
  epoch = s.epoch ∙ ap (λ (o : CoreOf). o.epoch) is;
  version = let v = s.version ∙ ap (λ (o : CoreOf). o.version) is in let more = raised_by_one (is_moved mid) old.version in omega (arith, v, more);
  stands = λ log st. s.stands x log tt (noted_by log st);
  sends = λ log st.
      s.sends x log tt (noted_by log st)
      ∙ ap (λ (d : CardOf). answered_too ++ (sent_up d x log ++ sent_down d x log)) (ap (λ (o : CoreOf). o.card) is)
      ∙ ap (λ (xs : List OnPort). xs ++ (sent_up c x log ++ sent_down c x log)) (so_far log st)
      ∙ regroup before (told c x log) (answers c x log) (sent_up c x log ++ sent_down c x log);
}
  where
    x : OnPort
    x = record { port = port; body = Pos b }

    c : CardOf
    c = old.card

    mid : CoreOf
    mid = record old { offers = offers; ports = ports }

    best : (log : Log) → StandsFor old log → best_of mid ≡ position c (x ∷ log)
    best log st = ap (λ (o : OffersOf). position_of o.me o.links o.offered) (offers_noted old offers port b log st offered)

    moves : (log : Log) → StandsFor old log → is_moved mid ≡ has_moved c x log
    moves log st = ap (λ (p : Place). not (is_same p old.position)) (best log st) ∙ ap (λ (p : Place). not (is_same (position c (x ∷ log)) p)) st.position

    raised : (log : Log) → StandsFor old log → cond (is_moved mid) (suc old.version) old.version ≡ version c (x ∷ log)
    raised log st = ap (λ (m : Bool). cond m (suc old.version) old.version) (moves log st) ∙ ap (λ (v : ℕ). cond (has_moved c x log) (suc v) v) st.version

    tells_it : (log : Log) → StandsFor old log → told_by mid ≡ told c x log
    tells_it log st =
        told_if (is_moved mid) old.version (best_of mid) c.links
        ∙ ap (λ (v : ℕ). cond (is_moved mid) (positions_of v (best_of mid) c.links) []) (raised log st)
        ∙ ap (λ (p : Place). cond (is_moved mid) (positions_of (version c (x ∷ log)) p c.links) []) (best log st)
        ∙ ap (λ (m : Bool). cond m (positions c (x ∷ log)) []) (moves log st)

    noted_mid : (log : Log) → StandsFor old log → HasNoted (repositioned mid) x log
    noted_mid log st = record {
      offers = offers_noted old offers port b log st offered;
      ports = heard log st.ports;
      position = best log st;
      version = raised log st;
      stable = st.stable;
      finish = st.finish;
    }

    noted_by : (log : Log) → StandsFor old log → HasNoted moved x log
    noted_by log st = subst (λ (o : CoreOf). HasNoted o x log) (sym is) (noted_mid log st)

    answer_from : Place → List OnPort
    answer_from p = record { port = port; body = Answer (record { version = b.version; to_parent = (port == p.port) }) } ∷ []

    so_far : (log : Log) → StandsFor old log → answered_too ≡ (before ++ told c x log) ++ answers c x log
    so_far log st =
        answers_it
        ∙ ap (λ (xs : List OnPort). xs ++ answer_from moved.position) (tells ∙ ap (λ (xs : List OnPort). before ++ xs) (tells_it log st))
        ∙ ap (λ (p : Place). (before ++ told c x log) ++ answer_from p) (ap (λ (o : CoreOf). o.position) is ∙ best log st)

    regroup : (w y z v : List OnPort) → ((w ++ y) ++ z) ++ v ≡ w ++ (y ++ (z ++ v))
    regroup w y z v = simp append_assoc

-- where the life has finished, or the topology does not name it, nothing changes but the log
same_up : (s r : Bool) (up : List OnPort) → cond (s && not s && r) up [] ≡ []
same_up true r up = refl
same_up false r up = refl

up-topo : (c : CardOf) (port : ℕ) (t : TopoOf) (log : Log) → sent_up c (record { port = port; body = Topo t }) log ≡ []
up-topo c port t log =
    let x : OnPort = record { port = port; body = Topo t } in
    ap (λ (s : Bool). cond (s && not (is_stable c log) && not (is_root c (x ∷ log))) (stable_to_parent c (x ∷ log)) []) (is_stable-topo c port t log)
    ∙ same_up (is_stable c log) (not (is_root c (x ∷ log))) (stable_to_parent c (x ∷ log))

pub adds-topo : (c : CardOf) (port : ℕ) (t : TopoOf) (log : Log) → adds c (record { port = port; body = Topo t } ∷ log) ≡ sent_down c (record { port = port; body = Topo t }) log
adds-topo c port t log =
    let x : OnPort = record { port = port; body = Topo t } in
    ap (λ (xs : List OnPort). xs ++ ([] ++ (sent_up c x log ++ sent_down c x log))) (told-quiet c x log (quiet-topo t))
    ∙ ap (λ (xs : List OnPort). xs ++ sent_down c x log) (up-topo c port t log)

-- a topology is noted nowhere
pub stands-topo : (core : CoreOf) (port : ℕ) (t : TopoOf) (log : Log) (f : Option TopoOf) → StandsFor core log → f ≡ finish core.card (record { port = port; body = Topo t } ∷ log) → StandsFor (record core { finish = f }) (record { port = port; body = Topo t } ∷ log)
stands-topo core port t log f st done =
    let x : OnPort = record { port = port; body = Topo t } in
    record {
      offers = st.offers ∙ sym (offers_of-quiet core.card x log (quiet-topo t));
      ports = heard-topo core.ports port t log st.ports;
      position = st.position ∙ sym (position-quiet core.card x log (quiet-topo t));
      version = st.version ∙ sym (version-quiet core.card x log (quiet-topo t));
      stable = st.stable ∙ sym (is_stable-topo core.card port t log);
      finish = done;
    }

-- the finish with a topology more
first_stays : (f g : Option TopoOf) → is_some f ≡ true → option_or f g ≡ f
first_stays None g some = absurd (cc)
first_stays (Some t) g some = refl

pub finish-finished : (c : CardOf) (x : OnPort) (log : Log) → is_some (finish c log) ≡ true → finish c (x ∷ log) ≡ finish c log
finish-finished c x log some = first_stays (finish c log) (option_or (finished_as_root c (x ∷ log)) (given_by c.me x.body)) some

pub finish-topo : (c : CardOf) (port : ℕ) (t : TopoOf) (log : Log) → finish c log ≡ None → finish c (record { port = port; body = Topo t } ∷ log) ≡ cond (is_named c.me t) (Some t) None
finish-topo c port t log none =
    let x : OnPort = record { port = port; body = Topo t } in
    ap (λ (f : Option TopoOf). option_or f (option_or (finished_as_root c (x ∷ log)) (given_by c.me x.body))) none
    ∙ ap (λ (f : Option TopoOf). option_or f (given_by c.me x.body)) (finished_as_root-topo c port t log none)

down_finished : (c : CardOf) (x : OnPort) (log : Log) (f : Option TopoOf) → is_some f ≡ true → cond (is_some f) [] (topo_down c (x ∷ log) (finish c (x ∷ log))) ≡ []
down_finished c x log f some = ap (λ (b : Bool). cond b [] (topo_down c (x ∷ log) (finish c (x ∷ log)))) some

-- a life that has finished passes over a topology
pub accepts-finished : (old : CoreOf) (port : ℕ) (t : TopoOf) (before : List OnPort) → is_some old.finish ≡ true → Accepts old old (record { port = port; body = Topo t }) before before
accepts-finished old port t before some =
    let x : OnPort = record { port = port; body = Topo t } in
    record {
      card = refl;
      epoch = refl;
      version = omega arith;
      stands = λ log st. stands-topo old port t log old.finish st (st.finish ∙ sym (finish-finished old.card x log (ap is_some (sym st.finish) ∙ some)));
      sends = λ log st. sym (ap (λ (xs : List OnPort). before ++ xs) (adds-topo old.card port t log ∙ down_finished old.card x log (finish old.card log) (ap is_some (sym st.finish) ∙ some)) ∙ append-nil before);
    }

-- and one that has not passes over a topology that does not name it
pub accepts-unnamed : (old : CoreOf) (port : ℕ) (t : TopoOf) (before : List OnPort) → is_some old.finish ≡ false → is_named old.card.me t ≡ false → Accepts old old (record { port = port; body = Topo t }) before before
accepts-unnamed old port t before none unnamed = record {
  card = refl;
  epoch = refl;
  version = omega arith;
  stands = λ log st. stands-topo old port t log old.finish st (none_left old.finish none ∙ sym (stays log st));
  sends = λ log st. sym (ap (λ (xs : List OnPort). before ++ xs) (adds-topo old.card port t log ∙ ap (λ (f : Option TopoOf). cond (is_some f) [] (topo_down old.card (x ∷ log) (finish old.card (x ∷ log)))) (before_none log st) ∙ ap (topo_down old.card (x ∷ log)) (stays log st)) ∙ append-nil before);
}
  where
    x : OnPort
    x = record { port = port; body = Topo t }

    before_none : (log : Log) → StandsFor old log → finish old.card log ≡ None
    before_none log st = sym st.finish ∙ none_left old.finish none

    stays : (log : Log) → StandsFor old log → finish old.card (x ∷ log) ≡ None
    stays log st = finish-topo old.card port t log (before_none log st) ∙ ap (λ (b : Bool). cond b (Some t) None) unnamed

-- one that names it is its finish, and goes on to the links that claim
pub accepts-named : (old new : CoreOf) (port : ℕ) (t : TopoOf) (before after : List OnPort) → is_some old.finish ≡ false → is_named old.card.me t ≡ true → new ≡ record old { finish = Some t }
    → ((log : Log) → HasHeard old.ports log → after ≡ before ++ map (passed_on t) (claiming_among old.card.links log)) → Accepts old new (record { port = port; body = Topo t }) before after
accepts-named old new port t before after none named is passes = record {
  card = ap (λ (o : CoreOf). o.card) is;
  epoch = ap (λ (o : CoreOf). o.epoch) is;
  version = let v = ap (λ (o : CoreOf). o.version) is in omega (arith, v);
  stands = λ log st. subst (λ (o : CoreOf). StandsFor o (x ∷ log)) (sym is) (stands-topo old port t log (Some t) st (sym (done log st)));
  sends = λ log st. passes (x ∷ log) (heard-topo old.ports port t log st.ports) ∙ sym (ap (λ (xs : List OnPort). before ++ xs) (adds-topo old.card port t log ∙ ap (λ (f : Option TopoOf). cond (is_some f) [] (topo_down old.card (x ∷ log) (finish old.card (x ∷ log)))) (before_none log st) ∙ ap (topo_down old.card (x ∷ log)) (done log st)));
}
  where
    x : OnPort
    x = record { port = port; body = Topo t }

    before_none : (log : Log) → StandsFor old log → finish old.card log ≡ None
    before_none log st = sym st.finish ∙ none_left old.finish none

    done : (log : Log) → StandsFor old log → finish old.card (x ∷ log) ≡ Some t
    done log st = finish-topo old.card port t log (before_none log st) ∙ ap (λ (b : Bool). cond b (Some t) None) named
