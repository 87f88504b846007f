use Rattle.std.proofs.Common.{◌≡◌, ◌∙◌, sym, ap, subst, refl, arith, ℕ, suc, List, [], ◌∷◌, ◌++◌, Bool, true, false, cond, map, length, append-nil, Option, Some, None}
use Rattle.std.specs.Prelude.{◌==◌, ◌&&◌, replicate}
use Rattle.std.specs.List.{list_all}
use Rattle.std.proofs.lemmas.Bool.Decides.{nat_tests}
use Rattle.an_base.specs.Values.{Place, PeerAt, EntryOf, TopoOf}
use Rattle.tree_position.specs.declared.offers.Offer.{Offer}
use Rattle.tree_position.specs.Position.{OffersOf, candidates, least, self_root}
use Rattle.topo_report.specs.Report.{report_of}
use Rattle.epoch_core.specs.Log.{CardOf, OnPort}
use Rattle.std.specs.Option.{option_or}
use Rattle.epoch_core.specs.Epoch.{offer_on, position, is_same, is_settled, is_root, finish, topology_of, report, reported, positions_of, passed_on, claiming_among, adds}
use Rattle.epoch_core.specs.Heard.{HasHeard}
use Rattle.epoch_core.specs.StandsFor.{CoreOf, StandsFor}
use Rattle.epoch_core.specs.Steps.{FinishesAsRoot, topology_by, unless_finished}
use Rattle.epoch_core.proofs.EpochLemmas.{is_same-itself}

-- nothing is offered at first
offers_none : (links : List PeerAt) → replicate (length links) None ≡ map (offer_on []) links
offers_none [] = refl
offers_none (k ∷ links) = ap (λ (os : List (Option Offer)). None ∷ os) (offers_none links)

candidates_none : (links : List PeerAt) → candidates links (map (offer_on []) links) ≡ []
candidates_none [] = refl
candidates_none (k ∷ links) = candidates_none links

-- so the life is its own root
pub position_none : (c : CardOf) → position c [] ≡ self_root c.me
position_none c = ap (least (self_root c.me)) (candidates_none c.links)

-- and is stable exactly where it has no links
not_zero : (n : ℕ) → (suc n == 0) ≡ false
not_zero n = grind (arith, nat_tests)

stable_none : (links : List PeerAt) → (length links == 0) ≡ list_all (is_settled 1 []) links
stable_none [] = refl
stable_none (k ∷ links) = not_zero (length links)

-- what is kept when a life joins, before it is seen whether it has finished
pub record HasJoined (core : CoreOf) : Type 0 where
  pub offers : core.offers ≡ record { me = core.card.me; links = core.card.links; offered = replicate (length core.card.links) None }
  pub ports : HasHeard core.ports []
  pub position : core.position ≡ self_root core.card.me
  pub version : core.version ≡ 1
  pub stable : core.is_stable ≡ (length core.card.links == 0)
  pub finish : core.finish ≡ None

pub joined_stands : (core : CoreOf) (f : Option TopoOf) → HasJoined core → f ≡ finish core.card [] → StandsFor (record core { finish = f }) []
joined_stands core f j done =
    let made : List (Option Offer) → OffersOf = λ offered. record { me = core.card.me; links = core.card.links; offered = offered } in
    record {
      offers = j.offers ∙ ap made (offers_none core.card.links);
      ports = j.ports;
      position = j.position ∙ sym (position_none core.card);
      version = j.version;
      stable = j.stable ∙ stable_none core.card.links;
      finish = done;
    }

-- with links it has not finished
pub stands_linked : (core : CoreOf) → HasJoined core → (length core.card.links == 0) ≡ false → StandsFor core []
stands_linked core j linked = joined_stands core core.finish j (j.finish ∙ sym (ap (λ (b : Bool). cond (b && is_root core.card []) (Some (topology_of (report core.card []))) None) (sym (stable_none core.card.links) ∙ linked)))

-- without links it finishes at once, alone
alone : (core : CoreOf) → HasJoined core → (length core.card.links == 0) ≡ true → finish core.card [] ≡ Some (topology_of (report core.card []))
alone core j none =
    ap (λ (b : Bool). cond (b && is_root core.card []) (Some (topology_of (report core.card []))) None) (sym (stable_none core.card.links) ∙ none)
    ∙ ap (λ (p : Place). cond (true && is_same p (self_root core.card.me)) (Some (topology_of (report core.card []))) None) (position_none core.card)
    ∙ ap (λ (b : Bool). cond (true && b) (Some (topology_of (report core.card []))) None) (is_same-itself (self_root core.card.me))

topology_alone : (core : CoreOf) → HasJoined core → topology_by core [] ≡ topology_of (report core.card [])
topology_alone core j =
    let own : Place → EntryOf = λ p. record { life = core.card.me; position = p; proposed = core.card.proposed; links = core.card.links } in
    ap (λ (p : Place). topology_of (report_of core.card.me (own p ∷ reported core.card []))) (j.position ∙ sym (position_none core.card))

pub stands_alone : (core new : CoreOf) (before after : List OnPort) → HasJoined core → (length core.card.links == 0) ≡ true → FinishesAsRoot core new before after → StandsFor new []
stands_alone core new before after j none f =
    subst (λ (o : CoreOf). StandsFor o []) (sym f.rest) (joined_stands core new.finish j (
    f.finish [] j.ports
    ∙ ap (λ (g : Option TopoOf). option_or g (Some (topology_by core []))) j.finish
    ∙ ap (λ (t : TopoOf). Some t) (topology_alone core j)
    ∙ sym (alone core j none)))

-- which sends nothing more
no_links : (links : List PeerAt) → (length links == 0) ≡ true → links ≡ []
no_links [] none = refl
no_links (k ∷ links) none = let some = not_zero (length links) in absurd (cc)

nothing_down : (f : Option TopoOf) (t : TopoOf) → unless_finished f (map (passed_on t) []) ≡ []
nothing_down None t = refl
nothing_down (Some u) t = refl

pub sends_alone : (core new : CoreOf) (before after : List OnPort) → HasJoined core → (length core.card.links == 0) ≡ true → FinishesAsRoot core new before after → after ≡ before
sends_alone core new before after j none f =
    f.sends [] j.ports
    ∙ ap (λ (links : List PeerAt). before ++ unless_finished core.finish (map (passed_on (topology_by core [])) (claiming_among links []))) (no_links core.card.links none)
    ∙ ap (λ (xs : List OnPort). before ++ xs) (nothing_down core.finish (topology_by core []))
    ∙ append-nil before

-- joining sends the position as a root
pub adds_none : (c : CardOf) → positions_of 1 (self_root c.me) c.links ≡ adds c []
adds_none c = ap (λ (p : Place). positions_of 1 p c.links) (sym (position_none c))
