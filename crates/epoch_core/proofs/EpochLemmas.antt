use Rattle.std.proofs.Common.{◌≡◌, ◌∙◌, sym, ap, refl, arith, ℕ, suc, List, [], ◌∷◌, Bool, true, false, cond, map, Option, Some, None}
use Rattle.std.specs.Prelude.{not, ◌==◌, ◌&&◌, ◌||◌}
use Rattle.std.specs.List.{list_all}
use Rattle.std.specs.Ordering.{is_eq}
use Rattle.std.specs.Cmp.{tied_itself}
use Rattle.std.proofs.lemmas.Bool.Decides.{nat_tests}
use Rattle.an_base.specs.Values.{Place, PeerAt, PosOf, TopoOf}
use Rattle.an_base.specs.declared.body.Body.{Body}
use Rattle.an_base.specs.declared.body.Body.TheVariants.{Pos, Topo}
use Rattle.an_base.proofs.OrderLaws.{position_total}
use Rattle.tree_position.specs.declared.offers.Offer.{Offer}
use Rattle.tree_position.specs.Position.{OffersOf, position_of, noted, self_root}
use Rattle.epoch_core.specs.declared.ports.Heard.{Heard}
use Rattle.epoch_core.specs.declared.ports.Ports.{Ports}
use Rattle.epoch_core.specs.Log.{CardOf, OnPort, Log, on_port, last_pos, last_report}
use Rattle.std.specs.Option.{option_or}
use Rattle.epoch_core.specs.Epoch.{offer_of, offer_on, position, version, has_moved, told, positions, names, is_settled, is_stable, is_root, is_same, finish, finished_as_root, given_by, topology_of, report}
use Rattle.epoch_core.specs.Heard.{heard_of, HasHeard}
use Rattle.epoch_core.specs.StandsFor.{offers_of}

-- two functions that agree give one list
pub map_same : {A B : Type 0} (f g : A → B) (xs : List A) → ((a : A) → f a ≡ g a) → map f xs ≡ map g xs
map_same f g [] same = refl
map_same f g (x ∷ xs) same = let a = same x in let b = map_same f g xs same in cc

-- and two tests that agree one answer
pub list_all_same : {A : Type 0} (f g : A → Bool) (xs : List A) → ((a : A) → f a ≡ g a) → list_all f xs ≡ list_all g xs
list_all_same f g [] same = refl
list_all_same f g (x ∷ xs) same = let a = same x in let b = list_all_same f g xs same in cc

-- a place is the same as itself
pub is_same-itself : (p : Place) → is_same p p ≡ true
is_same-itself p = ap is_eq (tied_itself position_total p)

-- the body is no position
pub record IsQuiet (b : Body) : Type 0 where
  pub quiet : (bs : List Body) → last_pos (b ∷ bs) ≡ last_pos bs

last_pos_if : (here : Bool) (b : Body) (bs : List Body) → IsQuiet b → last_pos (cond here (b ∷ bs) bs) ≡ last_pos bs
last_pos_if true b bs q = q.quiet bs
last_pos_if false b bs q = refl

-- such a body changes no offer
pub offers-quiet : (c : CardOf) (x : OnPort) (log : Log) → IsQuiet x.body → map (offer_on (x ∷ log)) c.links ≡ map (offer_on log) c.links
offers-quiet c x log q = map_same (offer_on (x ∷ log)) (offer_on log) c.links (λ k. ap offer_of (last_pos_if (x.port == k.port) x.body (on_port k.port log) q))

pub offers_of-quiet : (c : CardOf) (x : OnPort) (log : Log) → IsQuiet x.body → offers_of c (x ∷ log) ≡ offers_of c log
offers_of-quiet c x log q =
    let made : List (Option Offer) → OffersOf = λ offered. record { me = c.me; links = c.links; offered = offered } in
    ap made (offers-quiet c x log q)

-- nor the position, nor the version
pub position-quiet : (c : CardOf) (x : OnPort) (log : Log) → IsQuiet x.body → position c (x ∷ log) ≡ position c log
position-quiet c x log q = ap (position_of c.me c.links) (offers-quiet c x log q)

pub has_moved-quiet : (c : CardOf) (x : OnPort) (log : Log) → IsQuiet x.body → has_moved c x log ≡ false
has_moved-quiet c x log q =
    ap (λ (p : Place). not (is_same p (position c log))) (position-quiet c x log q)
    ∙ ap not (is_same-itself (position c log))

pub version-quiet : (c : CardOf) (x : OnPort) (log : Log) → IsQuiet x.body → version c (x ∷ log) ≡ version c log
version-quiet c x log q = ap (λ (b : Bool). cond b (suc (version c log)) (version c log)) (has_moved-quiet c x log q)

-- and tells nothing
pub told-quiet : (c : CardOf) (x : OnPort) (log : Log) → IsQuiet x.body → told c x log ≡ []
told-quiet c x log q = ap (λ (b : Bool). cond b (positions c (x ∷ log)) []) (has_moved-quiet c x log q)

-- the last offers after a position
noted_if : (here : Bool) (b : PosOf) (bs : List Body) → cond here (Some (record { root = b.root; level = b.level })) (offer_of (last_pos bs)) ≡ offer_of (last_pos (cond here (Pos b ∷ bs) bs))
noted_if true b bs = refl
noted_if false b bs = refl

eqb_sym : (a b : ℕ) → (a == b) ≡ (b == a)
eqb_sym a b = grind (arith, nat_tests)

pub noted-is : (links : List PeerAt) (port : ℕ) (b : PosOf) (log : Log) → noted links (map (offer_on log) links) port (record { root = b.root; level = b.level }) ≡ map (offer_on (record { port = port; body = Pos b } ∷ log)) links
noted-is [] port b log = refl
noted-is (k ∷ links) port b log =
    let first = ap (λ (here : Bool). cond here (Some (record { root = b.root; level = b.level })) (offer_of (last_pos (on_port k.port log)))) (eqb_sym k.port port) ∙ noted_if (port == k.port) b (on_port k.port log) in
    let rest = noted-is links port b log in
    cc

-- a topology changes nothing that is kept on a port
topo_if : (here : Bool) (t : TopoOf) (bs : List Body) → heard_of (cond here (Topo t ∷ bs) bs) ≡ heard_of bs
topo_if true t bs = refl
topo_if false t bs = refl

topo_reports : (here : Bool) (t : TopoOf) (bs : List Body) → last_report (cond here (Topo t ∷ bs) bs) ≡ last_report bs
topo_reports true t bs = refl
topo_reports false t bs = refl

pub heard-topo : (ports : Ports) (port : ℕ) (t : TopoOf) (log : Log) → HasHeard ports log → HasHeard ports (record { port = port; body = Topo t } ∷ log)
heard-topo ports port t log h = record {
  heard = λ p. h.heard p ∙ sym (topo_if (port == p) t (on_port p log));
  reports = λ p. h.reports p ∙ sym (topo_reports (port == p) t (on_port p log));
}

pub quiet-topo : (t : TopoOf) → IsQuiet (Topo t)
quiet-topo t = record { quiet = λ bs. refl }

-- nor whether the life is stable or a root
abbrev settled_by : ℕ → Heard → Bool
settled_by v h = names h.answered v && (not h.is_claimed || h.is_fresh)

pub is_stable-topo : (c : CardOf) (port : ℕ) (t : TopoOf) (log : Log) → is_stable c (record { port = port; body = Topo t } ∷ log) ≡ is_stable c log
is_stable-topo c port t log =
    let x : OnPort = record { port = port; body = Topo t } in
    ap (λ (v : ℕ). list_all (is_settled v (x ∷ log)) c.links) (version-quiet c x log (quiet-topo t))
    ∙ list_all_same (is_settled (version c log) (x ∷ log)) (is_settled (version c log) log) c.links (λ k. ap (settled_by (version c log)) (topo_if (port == k.port) t (on_port k.port log)))

pub is_root-topo : (c : CardOf) (port : ℕ) (t : TopoOf) (log : Log) → is_root c (record { port = port; body = Topo t } ∷ log) ≡ is_root c log
is_root-topo c port t log = ap (λ (p : Place). is_same p (self_root c.me)) (position-quiet c (record { port = port; body = Topo t }) log (quiet-topo t))

-- a life that has not finished is no stable root
option_or-first : {A : Type 0} (a b : Option A) → option_or a b ≡ None → a ≡ None
option_or-first None b e = refl
option_or-first (Some a) b e = absurd (cc)

option_or-second : {A : Type 0} (a b : Option A) → option_or a b ≡ None → b ≡ None
option_or-second None b e = e
option_or-second (Some a) b e = absurd (cc)

if_none : {A : Type 0} (b : Bool) (a : A) → cond b (Some a) None ≡ None → b ≡ false
if_none true a e = absurd (cc)
if_none false a e = refl

pub stable_root-unfinished : (c : CardOf) (log : Log) → finish c log ≡ None → (is_stable c log && is_root c log) ≡ false
stable_root-unfinished c [] none = if_none (is_stable c [] && is_root c []) (topology_of (report c [])) none
stable_root-unfinished c (x ∷ log) none =
    if_none (is_stable c (x ∷ log) && is_root c (x ∷ log)) (topology_of (report c (x ∷ log)))
    (option_or-first (finished_as_root c (x ∷ log)) (given_by c.me x.body) (option_or-second (finish c log) (option_or (finished_as_root c (x ∷ log)) (given_by c.me x.body)) none))

-- so a topology makes it no stable root either
pub finished_as_root-topo : (c : CardOf) (port : ℕ) (t : TopoOf) (log : Log) → finish c log ≡ None → finished_as_root c (record { port = port; body = Topo t } ∷ log) ≡ None
finished_as_root-topo c port t log none =
    let x : OnPort = record { port = port; body = Topo t } in
    ap (λ (b : Bool). cond (b && is_root c (x ∷ log)) (Some (topology_of (report c (x ∷ log)))) None) (is_stable-topo c port t log)
    ∙ ap (λ (b : Bool). cond (is_stable c log && b) (Some (topology_of (report c (x ∷ log)))) None) (is_root-topo c port t log)
    ∙ ap (λ (b : Bool). cond b (Some (topology_of (report c (x ∷ log)))) None) (stable_root-unfinished c log none)
