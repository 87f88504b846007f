-- Who is let go by a router, and what is kept.
use Rattle.std.proofs.Common.{◌≡◌, ◌∙◌, sym, ap, subst, ℕ, suc, ◌+◌, ◌<◌, List, [], ◌∷◌, ◌++◌, Vec, Global, arith, length, get_or, set, inl, inr}
use Rattle.std.specs.Prelude.{All}
use Rattle.std.specs.Vec.{with_item}
use Rattle.std.proofs.lemmas.Bool.{cases_eq}
use Rattle.std.proofs.lemmas.List.{get_or-append-add, get_or-set_other, get_or-set_same, get_or_append_left, get_or_default, length-append, length-set, set-get_or}
use Rattle.std.proofs.lemmas.List.Elements.{All-append}
use Rattle.fcfc_router.specs.declared.router.Grant.{Grant}
use Rattle.fcfc_router.specs.Router.{Grants, NoneCanGo, RequestOf}
use Rattle.fcfc_router.specs.Shown.{RouterOf}
use Rattle.flow_channels.specs.declared.board.Board.{Board}
use Rattle.flow_channels.specs.declared.board.Packet.{Packet}
use Rattle.flow_channels.specs.declared.tables.Tables.{Tables}
use Rattle.flow_channels.specs.Board.{flow_of, IsAsked, IsKept}
use Rattle.flow_channels.specs.Flows.{FlowOf}
use Rattle.flow_channels.specs.Queue.{QueueOf}
use Rattle.flow_channels.specs.Turns.{AreFree, HasDeparted, IsSame, NoneGoes, router_at}
use Rattle.flow_channels.proofs.BoardLemmas.{made, most_kept}
use Rattle.flow_channels.proofs.TurnLemmas.{free_at}

module _ {X : Type 0} (P : X → Type 0) (older younger : List X) (x : X) (all : All P (older ++ (x ∷ younger))) where
  front : All P older
  front k d low = let n = length-append older (x ∷ younger) in subst P (get_or_append_left older (x ∷ younger) d k low) (all k d (omega arith))

  back : All P younger
  back k d low = let n = length-append older (x ∷ younger) in subst P (get_or-append-add older (x ∷ younger) (suc k) d) (all (length older + suc k) d (omega arith))

  pub all_without : All P (older ++ younger)
  all_without = All-append P older younger front back

pub same_flow : (old new : Board) → IsSame old new → flow_of new ≡ flow_of old
same_flow old new same = let a = same.packets in let b = same.entries in let c = same.queues in let d = same.routers in cc

-- a router is written
pub kept_router : (tables : Tables) (p : Vec Packet Global) (e : Vec ℕ Global) (q : Vec QueueOf Global) (r : Vec RouterOf Global) (at place : ℕ) (old new : RouterOf) → IsKept tables (made p e q r) → at < 127 → place ≡ at → old ≡ get_or r.items place old → new.most ≡ old.most → All (IsAsked tables.exits (made p e q r) at) new.waiting → IsKept tables (made p e q (with_item r place new))
kept_router tables p e q r at place old new kept low place_is old_is most all = record {
  within = kept.within;
  queues = kept.queues;
  routers = length-set r.items place new ∙ kept.routers;
  count = kept.count;
  capacity = kept.capacity;
  few = kept.few;
  targets = kept.targets;
  queued = kept.queued;
  places = kept.places;
  asked = λ b none below. subst (λ (k : ℕ). All (IsAsked tables.exits (made p e q (with_item r place new)) b) (get_or (set r.items k new) b none).waiting) (sym place_is) (elim (cases_eq b at) [
    | inl here ↦ subst (λ (x : ℕ). All (IsAsked tables.exits (made p e q (with_item r place new)) x) (get_or (set r.items at new) x none).waiting) (sym here) (
        let size = kept.routers in
        subst (λ (x : RouterOf). All (IsAsked tables.exits (made p e q (with_item r place new)) at) x.waiting) (sym (get_or-set_same r.items at new none (omega arith))) (λ k d inside. one at (get_or new.waiting k d) (all k d inside)))
    | inr other ↦ subst (λ (x : RouterOf). All (IsAsked tables.exits (made p e q (with_item r place new)) b) x.waiting) (sym (get_or-set_other r.items at b new none other)) (λ k d inside. one b (get_or (get_or r.items b none).waiting k d) (kept.asked b none below k d inside))
  ]);
  most = most_kept tables.wires.items tables.limit place r.items old new kept.routers kept.most (omega arith) old_is most;
}
  where
    one : (b : ℕ) (request : RequestOf) → IsAsked tables.exits (made p e q r) b request → IsAsked tables.exits (made p e q (with_item r place new)) b request
    one b request asked = record { slot = asked.slot; ports = asked.ports }

module _ (tables : Tables) (p : Vec Packet Global) (e : Vec ℕ Global) (q : Vec QueueOf Global) (r : Vec RouterOf Global) (kept : IsKept tables (made p e q r)) (at place : ℕ) (low : at < 127) (place_is : place ≡ at) (old new : RouterOf) (old_is : old ≡ get_or r.items place old) (most : new.most ≡ old.most) where
  nobody : RouterOf
  nobody = record { most = 0; waiting = [] }

  here : old ≡ get_or r.items at old
  here = old_is ∙ ap (λ (k : ℕ). get_or r.items k old) place_is

  pub router_is : router_at (made p e q r) at ≡ old
  router_is = let size = kept.routers in sym (here ∙ get_or_default r.items at old (record { most = 0; waiting = [] }) (omega arith))

  old_asked : All (IsAsked tables.exits (made p e q r) at) old.waiting
  old_asked = subst (λ (x : RouterOf). All (IsAsked tables.exits (made p e q r) at) x.waiting) (sym here) (kept.asked at old low)

  pub kept_granted : (free : ℕ) (grant : Grant) → Grants free old.waiting new.waiting grant → IsKept tables (made p e q (with_item r place new))
  kept_granted free grant grants = kept_router tables p e q r at place old new kept low place_is old_is most (
      subst (λ (ws : List RequestOf). All (IsAsked tables.exits (made p e q r) at) ws) (sym grants.new_is) (
      all_without (IsAsked tables.exits (made p e q r) at) grants.older grants.younger grants.request (subst (λ (ws : List RequestOf). All (IsAsked tables.exits (made p e q r) at) ws) grants.old_is old_asked)))

  pub kept_none : new.waiting ≡ old.waiting → IsKept tables (made p e q (with_item r place new))
  kept_none same = kept_router tables p e q r at place old new kept low place_is old_is most (subst (λ (ws : List RequestOf). All (IsAsked tables.exits (made p e q r) at) ws) (sym same) old_asked)

  pub same_routers : new.waiting ≡ old.waiting → set r.items place new ≡ r.items
  same_routers same =
      let is : new ≡ get_or r.items place old = same_router new old most same ∙ old_is in
      ap (λ (x : RouterOf). set r.items place x) is ∙ set-get_or r.items place old
    where
      same_router : (a b : RouterOf) → a.most ≡ b.most → a.waiting ≡ b.waiting → a ≡ b
      same_router a b m w = ap (λ (n : ℕ). let x : RouterOf = record { most = n; waiting = a.waiting } in x) m ∙ ap (λ (ws : List RequestOf). let x : RouterOf = record { most = b.most; waiting = ws } in x) w

  -- and as seen from the start
  module _ (start : Board) (same : IsSame start (made p e q r)) where
    pub start_router : router_at start at ≡ old
    start_router = ap (λ (rs : List RouterOf). get_or rs at (record { most = 0; waiting = [] })) (sym same.routers) ∙ router_is

    pub start_free : (free : ℕ) → AreFree tables (made p e q r) at free → AreFree tables start at free
    start_free free are = subst (λ (f : FlowOf). free_at tables f at free) (same_flow start (made p e q r) same) are

    pub departed : (exit slot free : ℕ) → NoneGoes tables start at → AreFree tables (made p e q r) at free → Grants free old.waiting new.waiting (record { packet = slot; port = exit }) → HasDeparted tables start (made p e q (with_item r place new)) (record { at = at; exit = exit; slot = slot })
    departed exit slot free before are grants = record {
      at = low;
      before = before;
      free = free;
      are_free = start_free free are;
      router = new;
      most = most ∙ ap (λ (x : RouterOf). x.most) (sym start_router);
      grant = subst (λ (x : RouterOf). Grants free x.waiting new.waiting (record { packet = slot; port = exit })) (sym start_router) grants;
      routers = ap (λ (k : ℕ). set r.items k new) place_is ∙ ap (λ (rs : List RouterOf). set rs at new) same.routers;
      packets = same.packets;
      entries = same.entries;
      queues = same.queues;
    }

    pub still_none : (free : ℕ) → NoneGoes tables start at → AreFree tables (made p e q r) at free → NoneCanGo free old.waiting → NoneGoes tables start (at + 1)
    still_none free before are none b below = elim (cases_eq b at) [
      | inl is ↦ subst (λ (k : ℕ). (f : ℕ) × AreFree tables start k f × NoneCanGo f (router_at start k).waiting) (sym is) (free, start_free free are, subst (λ (x : RouterOf). NoneCanGo free x.waiting) (sym start_router) none)
      | inr other ↦ before b (omega arith)
    ]

    pub still_same : new.waiting ≡ old.waiting → IsSame start (made p e q (with_item r place new))
    still_same is = record { packets = same.packets; entries = same.entries; queues = same.queues; routers = same_routers is ∙ same.routers }
