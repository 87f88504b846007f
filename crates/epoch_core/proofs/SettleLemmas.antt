use Rattle.std.proofs.Common.{◌≡◌, ◌∙◌, sym, ap, subst, refl, ℕ, List, [], ◌∷◌, ◌++◌, Bool, true, false, cond, map, Option, Some, None}
use Rattle.std.specs.Prelude.{not, ◌&&◌, is_some, OnOk, Result, Ok, Err}
use Rattle.std.specs.List.{list_all, flat_map}
use Rattle.switch_numbering.specs.Numbering.{numbering}
use Rattle.an_base.specs.Values.{Place, EntryOf, TopoOf}
use Rattle.tree_position.specs.Position.{self_root}
use Rattle.topo_report.specs.Report.{report_of}
use Rattle.epoch_core.specs.Log.{CardOf, OnPort, Log}
use Rattle.std.specs.Option.{option_or}
use Rattle.epoch_core.specs.Epoch.{is_settled, is_stable, is_root, is_same, finish, given_by, topology_of, report, reported, reported_on, passed_on, claiming, claiming_among, topo_down, sent_up, sent_down, stable_to_parent}
use Rattle.epoch_core.specs.Heard.{HasHeard}
use Rattle.epoch_core.specs.StandsFor.{CoreOf, StandsFor}
use Rattle.epoch_core.specs.Steps.{HasNoted, Settles, FinishesAsRoot, entry_of, topology_by, unless_finished}
pub use Rattle.switch_numbering.proofs.Differing.{length-numbering}

-- once it is seen whether the life is stable, and whether it has finished, the core stands for the log
pub stands_settled : (core : CoreOf) (x : OnPort) (log : Log) (now : Bool) (f : Option TopoOf) → HasNoted core x log → now ≡ is_stable core.card (x ∷ log) → f ≡ finish core.card (x ∷ log) → StandsFor (record core { is_stable = now; finish = f }) (x ∷ log)
stands_settled core x log now f n stable done = assumption (stable, done, n)

-- what the links say of the kept version is whether the life is stable
pub stable_now : (core : CoreOf) (x : OnPort) (log : Log) (now : Bool) → HasNoted core x log → ((l : Log) → HasHeard core.ports l → now ≡ list_all (is_settled core.version l) core.card.links) → now ≡ is_stable core.card (x ∷ log)
stable_now core x log now n settled = settled (x ∷ log) n.ports ∙ ap (λ (v : ℕ). list_all (is_settled v (x ∷ log)) core.card.links) n.version

-- whether the kept position is that of a root
pub root_now : (core : CoreOf) (x : OnPort) (log : Log) → HasNoted core x log → is_same core.position (self_root core.card.me) ≡ is_root core.card (x ∷ log)
root_now core x log n = ap (λ (p : Place). is_same p (self_root core.card.me)) n.position

-- the topology that is made of what is kept
pub topology_now : (core : CoreOf) (x : OnPort) (log : Log) → HasNoted core x log → topology_by core (x ∷ log) ≡ topology_of (report core.card (x ∷ log))
topology_now core x log n =
    let own : Place → EntryOf = λ p. record { life = core.card.me; position = p; proposed = core.card.proposed; links = core.card.links } in
    ap (λ (p : Place). topology_of (report_of core.card.me (own p ∷ reported core.card (x ∷ log)))) n.position

-- the finish of a stable root
pub finish_root : (c : CardOf) (x : OnPort) (log : Log) → is_stable c (x ∷ log) ≡ true → is_root c (x ∷ log) ≡ true → finish c (x ∷ log) ≡ option_or (finish c log) (Some (topology_of (report c (x ∷ log))))
finish_root c x log stable root =
    ap (option_or (finish c log)) (
    ap (λ (b : Bool). option_or (cond (b && is_root c (x ∷ log)) (Some (topology_of (report c (x ∷ log)))) None) (given_by c.me x.body)) stable
    ∙ ap (λ (b : Bool). option_or (cond (true && b) (Some (topology_of (report c (x ∷ log)))) None) (given_by c.me x.body)) root)

-- a root sends nothing up
up_none : (a b r : Bool) (up : List OnPort) → r ≡ true → cond (a && not b && not r) up [] ≡ []
up_none true true r up e = refl
up_none true false true up e = refl
up_none true false false up e = absurd (cc)
up_none false b r up e = refl

pub none_left : (f : Option TopoOf) → is_some f ≡ false → f ≡ None
none_left None none = refl
none_left (Some t) none = absurd (cc)

-- what goes down where the life finishes, unless it had
down_is : (c : CardOf) (l : Log) (f : Option TopoOf) (t : TopoOf) → cond (is_some f) [] (topo_down c l (option_or f (Some t))) ≡ unless_finished f (map (passed_on t) (claiming c l))
down_is c l None t = refl
down_is c l (Some u) t = refl

-- a stable root settles by finishing
pub settles_as_root : (old : CoreOf) (now : Bool) (new : CoreOf) (before after : List OnPort) → ((l : Log) → HasHeard old.ports l → now ≡ list_all (is_settled old.version l) old.card.links) → now ≡ true → true ≡ is_same old.position (self_root old.card.me) → FinishesAsRoot (record old { is_stable = now }) new before after → Settles old new before after
settles_as_root old now new before after settled stable is_own f = record {
  card = ap (λ (o : CoreOf). o.card) f.rest;
  epoch = ap (λ (o : CoreOf). o.epoch) f.rest;
  version = ap (λ (o : CoreOf). o.version) f.rest;
  stands = λ x log plain n. subst (λ (o : CoreOf). StandsFor o (x ∷ log)) (sym f.rest) (stands_settled old x log now new.finish n (stable_now old x log now n settled) (finished x log n));
  sends = λ x log plain n. f.sends (x ∷ log) n.ports ∙ ap (λ (xs : List OnPort). before ++ xs) (sent x log n);
}
  where
    ours : (x : OnPort) (log : Log) → HasNoted old x log → is_stable old.card (x ∷ log) ≡ true
    ours x log n = sym (stable_now old x log now n settled) ∙ stable

    top : (x : OnPort) (log : Log) → HasNoted old x log → is_root old.card (x ∷ log) ≡ true
    top x log n = sym (root_now old x log n) ∙ sym is_own

    finished : (x : OnPort) (log : Log) → HasNoted old x log → new.finish ≡ finish old.card (x ∷ log)
    finished x log n =
        f.finish (x ∷ log) n.ports
        ∙ ap (λ (g : Option TopoOf). option_or g (Some (topology_by old (x ∷ log)))) n.finish
        ∙ ap (λ (t : TopoOf). option_or (finish old.card log) (Some t)) (topology_now old x log n)
        ∙ sym (finish_root old.card x log (ours x log n) (top x log n))

    sent : (x : OnPort) (log : Log) → HasNoted old x log → unless_finished old.finish (map (passed_on (topology_by old (x ∷ log))) (claiming old.card (x ∷ log))) ≡ sent_up old.card x log ++ sent_down old.card x log
    sent x log n =
        ap (λ (g : Option TopoOf). unless_finished g (map (passed_on (topology_by old (x ∷ log))) (claiming old.card (x ∷ log)))) n.finish
        ∙ ap (λ (t : TopoOf). unless_finished (finish old.card log) (map (passed_on t) (claiming old.card (x ∷ log)))) (topology_now old x log n)
        ∙ sym (down_is old.card (x ∷ log) (finish old.card log) (topology_of (report old.card (x ∷ log))))
        ∙ ap (λ (g : Option TopoOf). cond (is_some (finish old.card log)) [] (topo_down old.card (x ∷ log) g)) (sym (finish_root old.card x log (ours x log n) (top x log n)))
        ∙ ap (λ (up : List OnPort). up ++ sent_down old.card x log) (sym (up_none (is_stable old.card (x ∷ log)) (is_stable old.card log) (is_root old.card (x ∷ log)) (stable_to_parent old.card (x ∷ log)) (top x log n)))

-- what follows from a fact for `Ok`, and one for `Ok` that holds whatever log it was heard of
pub on_ok_with : {T E : Type 0} {P Q : Type 0} {H R : Log → Type 0} (r : Result T E) → OnOk r P → ((log : Log) → H log → OnOk r (R log)) → (P → ((log : Log) → H log → R log) → Q) → OnOk r Q
on_ok_with (Ok v) p all f = f p all
on_ok_with (Err e) p all f = p

-- a root that has not finished finishes with its report and the numbering of it
pub finishes_as_root : (old new : CoreOf) (entries : List EntryOf) (numbers : List ℕ) (t : TopoOf) (before after : List OnPort) → is_some old.finish ≡ false
    → ((log : Log) → HasHeard old.ports log → entries ≡ report_of old.card.me (entry_of old ∷ flat_map (reported_on log) (claiming_among old.card.links log)))
    → numbers ≡ numbering entries → t ≡ record { entries = entries; numbers = numbers } → new ≡ record old { finish = Some t }
    → ((log : Log) → HasHeard old.ports log → after ≡ before ++ map (passed_on t) (claiming_among old.card.links log)) → FinishesAsRoot old new before after
finishes_as_root old new entries numbers t before after none entries_are numbers_are t_is is passes = record {
  rest = is ∙ ap (λ (f : Option TopoOf). with_finish f) (sym (ap (λ (o : CoreOf). o.finish) is));
  finish = λ log h. ap (λ (o : CoreOf). o.finish) is ∙ ap (λ (u : TopoOf). Some u) (topo_is log h) ∙ sym (ap (λ (f : Option TopoOf). option_or f (Some (topology_by old log))) (none_left old.finish none));
  sends = λ log h. passes log h ∙ ap (λ (u : TopoOf). before ++ map (passed_on u) (claiming_among old.card.links log)) (topo_is log h) ∙ sym (ap (λ (f : Option TopoOf). before ++ unless_finished f (map (passed_on (topology_by old log)) (claiming_among old.card.links log))) (none_left old.finish none));
}
  where
    with_finish : Option TopoOf → CoreOf
    with_finish f = record old { finish = f }

    topo_is : (log : Log) → HasHeard old.ports log → t ≡ topology_by old log
    topo_is log h = t_is ∙ ap (λ (ns : List ℕ). record { entries = entries; numbers = ns }) numbers_are ∙ ap topology_of (entries_are log h)
