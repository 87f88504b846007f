use Rattle.std.proofs.Common.{◌≡◌, ◌∙◌, ◌⊎◌, inl, inr, sym, ap, refl, subst, ⊎_elim, ℕ, ◌<◌, ◌≤◌, List, [], ◌∷◌, Option, Some, None, Bool, true, false, cond, map, arith}
use Rattle.std.specs.Prelude.{◌==◌, nat_lt}
use Rattle.std.proofs.lemmas.Bool.{cases_lt, ltb-true, lt-ltb}
use Rattle.std.proofs.lemmas.Bool.Decides.{nat_tests}
use Rattle.an_base.specs.Values.{Place, PeerAt, PosOf}
use Rattle.tree_position.specs.Position.{self_root, below_offer, candidate, candidates, lesser}
use Rattle.tree_position.proofs.LeastLemmas.{least_is}
use Rattle.topo_report.proofs.Members.{In, in_from, contains_from, in_append, in_left, in_right}
use Rattle.epoch_core.specs.Log.{CardOf, Log, on_port, last_pos}
use Rattle.epoch_core.specs.Epoch.{offer_of, offer_on, position}
use Rattle.epoch_core.specs.Laws.{IsAtMost}
use Rattle.epoch_core.proofs.LessLemmas.{at_most_trans}
use Rattle.epoch_game.specs.Slice.{link_at}
use Rattle.epoch_game.proofs.Basics.{some_same, number_itself}
use Rattle.epoch_game.proofs.SentLemmas.{RiseFrom}
use Rattle.epoch_game.proofs.Orders.{Before, antisym, not_both, is_lesser, lt_le}

-- what an offer gives behind a link
abbrev pub behind : PeerAt → PosOf → Place
behind k b = below_offer k (record { root = b.root; level = b.level })

-- a link has this offer, which gives a place
pub record Offered (l : Log) (k : PeerAt) (b : PosOf) : Type 0 where
  pub last : last_pos (on_port k.port l) ≡ Some b
  pub level : b.level < 125

-- the candidate of a link
in_candidate : (k : PeerAt) (b : PosOf) (o : Option PosOf) → o ≡ Some b → b.level < 125 → In (behind k b) (candidate k (offer_of o))
in_candidate k b o is low =
    subst (λ (p : Option PosOf). In (behind k b) (candidate k (offer_of p))) (sym is)
    (subst (λ (g : Bool). In (behind k b) (cond g (behind k b ∷ []) [])) (sym (lt-ltb b.level 125 low)) (inl refl))

record FromOffer (k : PeerAt) (o : Option PosOf) (q : Place) : Type 0 where
  told : PosOf
  last : o ≡ Some told
  level : told.level < 125
  is : q ≡ behind k told

from_candidate : (k : PeerAt) (o : Option PosOf) (q : Place) → In q (candidate k (offer_of o)) → FromOffer k o q
from_candidate k None q i = absurd i
from_candidate k (Some b) q i = by (nat_lt b.level 125) refl i
  where
    by : (g : Bool) → nat_lt b.level 125 ≡ g → In q (cond g (behind k b ∷ []) []) → FromOffer k (Some b) q
    by true e (inl is) = record { told = b; last = refl; level = ltb-true b.level 125 e; is = is }
    by true e (inr j) = absurd j
    by false e j = absurd j

in_candidates : (l : Log) (ks : List PeerAt) (k : PeerAt) (b : PosOf) → In k ks → Offered l k b → In (behind k b) (candidates ks (map (offer_on l) ks))
in_candidates l [] k b i o = absurd i
in_candidates l (j ∷ ks) k b (inl e) o =
    in_left (behind k b) (candidate j (offer_on l j)) (candidates ks (map (offer_on l) ks))
    (subst (λ (h : PeerAt). In (behind k b) (candidate h (offer_on l h))) e (in_candidate k b (last_pos (on_port k.port l)) o.last o.level))
in_candidates l (j ∷ ks) k b (inr i) o = in_right (behind k b) (candidate j (offer_on l j)) (candidates ks (map (offer_on l) ks)) (in_candidates l ks k b i o)

-- the link whose offer gave the position
pub record FromLink (c : CardOf) (l : Log) (q : Place) : Type 0 where
  pub link : PeerAt
  pub in_links : In link c.links
  pub told : PosOf
  pub offered : Offered l link told
  pub is : q ≡ behind link told

record FromOne (l : Log) (ks : List PeerAt) (q : Place) : Type 0 where
  link : PeerAt
  in_links : In link ks
  told : PosOf
  offered : Offered l link told
  is : q ≡ behind link told

from_candidates : (l : Log) (ks : List PeerAt) (q : Place) → In q (candidates ks (map (offer_on l) ks)) → FromOne l ks q
from_candidates l [] q i = absurd i
from_candidates l (k ∷ ks) q i =
    ⊎_elim
    (λ j. let f = from_candidate k (last_pos (on_port k.port l)) q j in record { link = k; in_links = inl refl; told = f.told; offered = record { last = f.last; level = f.level }; is = f.is })
    (λ j. let f = from_candidates l ks q j in record { link = f.link; in_links = inr f.in_links; told = f.told; offered = f.offered; is = f.is })
    (in_append q (candidate k (offer_on l k)) (candidates ks (map (offer_on l) ks)) i)

-- the position is at most the own one as a root and what each offer gives, and is one of these
pub at_most_self : (c : CardOf) (l : Log) → IsAtMost (position c l) (self_root c.me)
at_most_self c l =
    let qs = candidates c.links (map (offer_on l) c.links) in
    (least_is (self_root c.me) qs).least (self_root c.me) (contains_from (self_root c.me) (self_root c.me ∷ qs) (inl refl))

pub at_most_offer : (c : CardOf) (l : Log) (k : PeerAt) (b : PosOf) → In k c.links → Offered l k b → IsAtMost (position c l) (behind k b)
at_most_offer c l k b i o =
    let qs = candidates c.links (map (offer_on l) c.links) in
    (least_is (self_root c.me) qs).least (behind k b) (contains_from (behind k b) (self_root c.me ∷ qs) (inr (in_candidates l c.links k b i o)))

pub position_is : (c : CardOf) (l : Log) → (position c l ≡ self_root c.me) ⊎ FromLink c l (position c l)
position_is c l =
    let qs = candidates c.links (map (offer_on l) c.links) in
    ⊎_elim (λ e. inl e)
    (λ i. let f = from_candidates l c.links (position c l) i in inr (record { link = f.link; in_links = f.in_links; told = f.told; offered = f.offered; is = f.is }))
    (in_from (position c l) (self_root c.me ∷ qs) (least_is (self_root c.me) qs).one)

-- after one more offer on a link the position is the lesser of what it was and what the offer gives, where offers on the link only get less, and an offer that gives nothing comes after the position
pub step : (c : CardOf) (l l' : Log) (k0 : PeerAt) (b : PosOf)
    → In k0 c.links
    → ((k : PeerAt) → In k c.links → (k ≡ k0) ⊎ (last_pos (on_port k.port l') ≡ last_pos (on_port k.port l)))
    → last_pos (on_port k0.port l') ≡ Some b
    → ((b0 : PosOf) → last_pos (on_port k0.port l) ≡ Some b0 → IsAtMost (behind k0 b) (behind k0 b0))
    → (125 ≤ b.level → Before (position c l) (behind k0 b))
    → position c l' ≡ lesser (behind k0 b) (position c l)
step c l l' k0 b i0 others is older cut = is_lesser after (behind k0 b) before after_new after_before one
  where
    before : Place
    before = position c l

    after : Place
    after = position c l'

    from_new : IsAtMost (behind k0 b) before → IsAtMost after before
    from_new new_before =
        ⊎_elim
        (λ (lt : b.level < 125). at_most_trans after (behind k0 b) before (at_most_offer c l' k0 b i0 (record { last = is; level = lt })) new_before)
        (λ (ge : 125 ≤ b.level). absurd (not_both before (behind k0 b) (cut ge) new_before))
        (cases_lt b.level 125)

    after_before : IsAtMost after before
    after_before =
        ⊎_elim
        (λ (e : before ≡ self_root c.me). subst (IsAtMost after) (sym e) (at_most_self c l'))
        (λ (w : FromLink c l before).
        ⊎_elim
        (λ (e : w.link ≡ k0).
        let had : last_pos (on_port k0.port l) ≡ Some w.told = subst (λ (i : PeerAt). last_pos (on_port i.port l) ≡ Some w.told) e w.offered.last in
        let at : before ≡ behind k0 w.told = w.is ∙ ap (λ (i : PeerAt). behind i w.told) e in
        from_new (subst (IsAtMost (behind k0 b)) (sym at) (older w.told had)))
        (λ (e : last_pos (on_port w.link.port l') ≡ last_pos (on_port w.link.port l)).
        subst (IsAtMost after) (sym w.is) (at_most_offer c l' w.link w.told w.in_links (record { last = e ∙ w.offered.last; level = w.offered.level })))
        (others w.link w.in_links))
        (position_is c l)

    after_new : IsAtMost after (behind k0 b)
    after_new =
        ⊎_elim
        (λ (lt : b.level < 125). at_most_offer c l' k0 b i0 (record { last = is; level = lt }))
        (λ (ge : 125 ≤ b.level). at_most_trans after before (behind k0 b) after_before (lt_le Rattle.an_base.specs.Order.position_cmp before (behind k0 b) (cut ge)))
        (cases_lt b.level 125)

    one : (after ≡ behind k0 b) ⊎ (after ≡ before)
    one =
        ⊎_elim
        (λ (e : after ≡ self_root c.me). inr (antisym after before after_before (subst (IsAtMost before) (sym e) (at_most_self c l))))
        (λ (w : FromLink c l' after).
        ⊎_elim
        (λ (e : w.link ≡ k0).
        let same : w.told ≡ b = some_same w.told b (sym w.offered.last ∙ ap (λ (i : PeerAt). last_pos (on_port i.port l')) e ∙ is) in
        inl (w.is ∙ ap (λ (i : PeerAt). behind i w.told) e ∙ ap (behind k0) same))
        (λ (e : last_pos (on_port w.link.port l') ≡ last_pos (on_port w.link.port l)).
        inr (antisym after before after_before (subst (IsAtMost before) (sym w.is) (at_most_offer c l w.link w.told w.in_links (record { last = sym e ∙ w.offered.last; level = w.offered.level })))))
        (others w.link w.in_links))
        (position_is c l')

-- links by rising port: a port names one
above : (low : ℕ) (ks : List PeerAt) (k : PeerAt) → RiseFrom low ks → In k ks → low < k.port
above low [] k rise i = absurd i
above low (j ∷ js) k rise (inl e) = subst (λ (h : PeerAt). low < h.port) (sym e) rise.0
above low (j ∷ js) k rise (inr i) = let x = rise.0 in let y = above j.port js k rise.1 i in omega (arith, x, y)

pub port_above : (c : CardOf) (k : PeerAt) → RiseFrom 0 c.links → In k c.links → 0 < k.port
port_above c k rise i = above 0 c.links k rise i

pub one_port : (low : ℕ) (ks : List PeerAt) (k j : PeerAt) → RiseFrom low ks → In k ks → In j ks → k.port ≡ j.port → k ≡ j
one_port low [] k j rise a b e = absurd a
one_port low (i ∷ is) k j rise (inl a) (inl b) e = a ∙ sym b
one_port low (i ∷ is) k j rise (inl a) (inr b) e =
    let x = above i.port is j rise.1 b in
    let y : k.port ≡ i.port = ap (λ (t : PeerAt). t.port) a in
    absurd (omega (arith, x, y, e))
one_port low (i ∷ is) k j rise (inr a) (inl b) e =
    let x = above i.port is k rise.1 a in
    let y : j.port ≡ i.port = ap (λ (t : PeerAt). t.port) b in
    absurd (omega (arith, x, y, e))
one_port low (i ∷ is) k j rise (inr a) (inr b) e = one_port i.port is k j rise.1 a b e

-- so the link at the port of a link is that link
same_port : (a b : ℕ) → (a == b) ≡ true → a < b → ⊥
same_port a b e lt = grind (arith, nat_tests)

pub find_link : (low : ℕ) (ks : List PeerAt) (k : PeerAt) → RiseFrom low ks → In k ks → link_at k.port ks ≡ Some k.peer
find_link low [] k rise i = absurd i
find_link low (j ∷ ks) k rise (inl is) =
    ap (λ (g : Bool). cond g (Some j.peer) (link_at k.port ks)) (ap (λ (a : PeerAt). j.port == a.port) is ∙ number_itself j.port) ∙ ap (λ (a : PeerAt). Some a.peer) (sym is)
find_link low (j ∷ ks) k rise (inr i) = by (j.port == k.port) refl (find_link j.port ks k rise.1 i)
  where
    by : (b : Bool) → (j.port == k.port) ≡ b → link_at k.port ks ≡ Some k.peer → cond b (Some j.peer) (link_at k.port ks) ≡ Some k.peer
    by true e rest = absurd (same_port j.port k.port e (above j.port ks k rise.1 i))
    by false e rest = rest
