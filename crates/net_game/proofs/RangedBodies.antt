-- What is sent on a port is within its ranges, where card and list are.

use Rattle.std.specs.Prelude.{◌≡◌, ◌<◌, ◌≤◌, ◌^◌, ◌==◌, ◌&&◌, not, nat_lt, ℕ, length, map, reverse, List, [], ◌∷◌, ◌++◌, Option, Some, None, is_some, slice_index_or, refl}
use Rattle.std.specs.List.{flat_map}
use Rattle.std.specs.Ordering.{is_lt}
use Rattle.std.proofs.Common.{sym, subst, inl, inr, arith}
use Rattle.std.proofs.lemmas.Bool.{ltb-true, cond_both}
use Rattle.std.proofs.lemmas.List.Elements.{Contains-get_or}
use Rattle.an_base.specs.Values.{LifeId, Place, PeerAt, EntryOf, PosOf, TopoOf}
use Rattle.an_base.specs.Order.{position_cmp}
use Rattle.an_base.specs.declared.body.Body.{Body}
use Rattle.an_base.specs.declared.body.Body.TheVariants.{Pos, Answer, Stable, Topo}
use Rattle.frame_codec.specs.Frames.{IsWithin, IsCounted, IsLife, IsPosition, IsLink, AreLinks, IsEntry, AreEntries, IsPos, IsTopo, IsBody}
use Rattle.tree_position.specs.Position.{self_root, below_offer, candidate, candidates, lesser, least}
use Rattle.topo_report.specs.Report.{report_of}
use Rattle.topo_report.proofs.Members.{in_from}
use Rattle.topo_report.proofs.ReportLaws.{report_is_report, report_of-some, report_of-most}
use Rattle.switch_numbering.proofs.Differing.{numbers_are, length-numbering}
use Rattle.epoch_core.specs.Log.{CardOf, OnPort, Log, on_port, last_pos, last_report}
use Rattle.std.specs.Option.{option_or}
use Rattle.epoch_core.specs.Epoch.{offer_of, offer_on, position, version, own_entry, entries_in, reported_on, reported, report, claiming, given_by, is_named, topology_of, finished_as_root, finish, is_stable, is_root, has_moved, positions_of, positions, told, answer_to, answers, stable_to_parent, sent_up, passed_on, topo_down, sent_down, adds, sent}
use Rattle.epoch_core.proofs.LawLemmas.{version-length}
use Rattle.epoch_game.proofs.Basics.{some_same, none_some}
use Rattle.epoch_game.proofs.Moments.{version_least}
use Rattle.switch_game.proofs.Streams.{stream}
use Rattle.switch_core.proofs.FinishLemmas.{option_or-Some}
use Rattle.net_game.proofs.EachLemmas.{Each, each_append, each_in, each_reverse, each_from}

-- what a life joins with, within its ranges
pub record IsRangedCard (c : CardOf) : Type 0 where
  pub me : IsLife c.me
  pub proposed : IsWithin 1 126 c.proposed
  pub links : AreLinks c.links

-- and what it accepts or sends
abbrev pub AreRanged : List OnPort → Type 0
AreRanged xs = Each (λ x. IsBody x.body) xs

pub each_on_port : (q : ℕ) (xs : List OnPort) → AreRanged xs → Each IsBody (on_port q xs)
each_on_port q [] all = tt
each_on_port q (x ∷ xs) all =
    let rest = each_on_port q xs all.1 in
    cond_both (x.port == q) (x.body ∷ on_port q xs) (on_port q xs) (Each IsBody) (λ _. (all.0, rest)) (λ _. rest)

pos_in : (bs : List Body) (b : PosOf) → Each IsBody bs → last_pos bs ≡ Some b → IsPos b
pos_in [] b all is = absurd (none_some is)
pos_in (Pos a ∷ bs) b all is = subst IsPos (some_same a b is) all.0
pos_in (Answer a ∷ bs) b all is = pos_in bs b all.1 is
pos_in (Stable es ∷ bs) b all is = pos_in bs b all.1 is
pos_in (Topo t ∷ bs) b all is = pos_in bs b all.1 is

report_in : (bs : List Body) (es : List EntryOf) → Each IsBody bs → last_report bs ≡ Some es → AreEntries es
report_in [] es all is = absurd (none_some is)
report_in (Pos a ∷ bs) es all is = report_in bs es all.1 is
report_in (Answer a ∷ bs) es all is = report_in bs es all.1 is
report_in (Stable ds ∷ bs) es all is = subst AreEntries (some_same ds es is) all.0
report_in (Topo t ∷ bs) es all is = report_in bs es all.1 is

-- positions
candidate_ranged : (log : Log) (k : PeerAt) → AreRanged log → IsLink k → Each IsPosition (candidate k (offer_on log k))
candidate_ranged log k all link = by (last_pos (on_port k.port log)) refl
  where
    by : (o : Option PosOf) → last_pos (on_port k.port log) ≡ o → Each IsPosition (candidate k (offer_of o))
    by None is = tt
    by (Some b) is =
        let p = pos_in (on_port k.port log) b (each_on_port k.port log all) is in
        cond_both (nat_lt b.level 125) (below_offer k (record { root = b.root; level = b.level }) ∷ []) [] (Each IsPosition)
        (λ low. (record { root = p.root; level = (omega arith, let l = ltb-true b.level 125 low in omega (arith, l)); parent = link.peer.life; port = (omega arith, link.port.1) }, tt)) (λ _. tt)

candidates_ranged : (log : Log) (links : List PeerAt) → AreRanged log → Each IsLink links → Each IsPosition (candidates links (map (offer_on log) links))
candidates_ranged log [] all each = tt
candidates_ranged log (k ∷ links) all each = each_append IsPosition (candidate k (offer_on log k)) (candidates links (map (offer_on log) links)) (candidate_ranged log k all each.0) (candidates_ranged log links all each.1)

least_ranged : (p : Place) (qs : List Place) → IsPosition p → Each IsPosition qs → IsPosition (least p qs)
least_ranged p [] is all = is
least_ranged p (q ∷ qs) is all = least_ranged (lesser p q) qs (cond_both (is_lt (position_cmp q p)) q p IsPosition (λ _. all.0) (λ _. is)) all.1

pub position_ranged : (c : CardOf) (log : Log) → IsRangedCard c → AreRanged log → IsPosition (position c log)
position_ranged c log card all =
    least_ranged (self_root c.me) (candidates c.links (map (offer_on log) c.links)) (record { root = card.me; level = (omega arith, omega arith); parent = card.me; port = (omega arith, omega arith) })
    (candidates_ranged log c.links all (each_from IsLink c.links card.links.each))

version_counted : (c : CardOf) (log : Log) → length log < 2 ^ 28 → IsCounted (version c log)
version_counted c log few = let a = version_least c log in let b = version-length c log in (a, omega (arith, b, few))

-- reports
entries_each : (o : Option (List EntryOf)) → ((es : List EntryOf) → o ≡ Some es → AreEntries es) → Each IsEntry (entries_in o)
entries_each None are = tt
entries_each (Some es) are = each_from IsEntry es (are es refl).each

reported_each : (log : Log) (links : List PeerAt) → AreRanged log → Each IsEntry (flat_map (reported_on log) links)
reported_each log [] all = tt
reported_each log (k ∷ links) all =
    each_append IsEntry (reported_on log k) (flat_map (reported_on log) links)
    (entries_each (last_report (on_port k.port log)) (λ es is. report_in (on_port k.port log) es (each_on_port k.port log all) is))
    (reported_each log links all)

pub report_ranged : (c : CardOf) (log : Log) → IsRangedCard c → AreRanged log → AreEntries (report c log)
report_ranged c log card all =
    let xs = own_entry c log ∷ reported c log in
    let own : IsEntry (own_entry c log) = record { life = card.me; position = position_ranged c log card all; proposed = card.proposed; links = card.links } in
    let each : Each IsEntry xs = (own, reported_each log (claiming c log) all) in
    let is = report_is_report c.me xs in
    record {
      count = (report_of-some c.me xs (omega arith), report_of-most c.me xs);
      each = λ k d low. each_in IsEntry xs (slice_index_or (report_of c.me xs) k d) each (in_from (slice_index_or (report_of c.me xs) k d) xs (is.taken (slice_index_or (report_of c.me xs) k d) (Contains-get_or (report_of c.me xs) k d low)));
      rising = is.rising;
    }

pub topology_ranged : (c : CardOf) (log : Log) → IsRangedCard c → AreRanged log → IsTopo (topology_of (report c log))
topology_ranged c log card all =
    let are = report_ranged c log card all in
    record {
      entries = are;
      numbers = numbers_are (report c log) are.count.0 are.count.1 (λ k d low. (are.each k d low).proposed);
      as_many = sym (length-numbering (report c log));
    }

-- what a life finishes with
root_ranged : (c : CardOf) (log : Log) (t : TopoOf) → IsRangedCard c → AreRanged log → finished_as_root c log ≡ Some t → IsTopo t
root_ranged c log t card all =
    cond_both (is_stable c log && is_root c log) (Some (topology_of (report c log))) None (λ (o : Option TopoOf). o ≡ Some t → IsTopo t)
    (λ _ is. subst IsTopo (some_same (topology_of (report c log)) t is) (topology_ranged c log card all)) (λ _ is. absurd (none_some is))

given_ranged : (me : LifeId) (b : Body) (t : TopoOf) → IsBody b → given_by me b ≡ Some t → IsTopo t
given_ranged me (Pos b) t ok is = absurd (none_some is)
given_ranged me (Answer b) t ok is = absurd (none_some is)
given_ranged me (Stable es) t ok is = absurd (none_some is)
given_ranged me (Topo u) t ok is = cond_both (is_named me u) (Some u) None (λ (o : Option TopoOf). o ≡ Some t → IsTopo t) (λ _ e. subst IsTopo (some_same u t e) ok) (λ _ e. absurd (none_some e)) is

pub finish_ranged : (c : CardOf) (log : Log) (t : TopoOf) → IsRangedCard c → AreRanged log → finish c log ≡ Some t → IsTopo t
finish_ranged c [] t card all is = root_ranged c [] t card all is
finish_ranged c (x ∷ log) t card all is =
    elim (option_or-Some (finish c log) (option_or (finished_as_root c (x ∷ log)) (given_by c.me x.body)) t is) [
      | inl old ↦ finish_ranged c log t card all.1 old
      | inr new ↦ elim (option_or-Some (finished_as_root c (x ∷ log)) (given_by c.me x.body) t new) [
        | inl root ↦ root_ranged c (x ∷ log) t card all root
        | inr given ↦ given_ranged c.me x.body t all.0 given
      ]
    ]

-- what goes out
positions_ranged : (v : ℕ) (p : Place) (links : List PeerAt) → IsCounted v → IsPosition p → AreRanged (positions_of v p links)
positions_ranged v p [] counted is = tt
positions_ranged v p (k ∷ links) counted is = (record { version = counted; root = is.root; level = is.level }, positions_ranged v p links counted is)

answer_ranged : (port : ℕ) (p : Place) (b : Body) → IsBody b → AreRanged (answer_to port p b)
answer_ranged port p (Pos b) ok = (ok.version, tt)
answer_ranged port p (Answer b) ok = tt
answer_ranged port p (Stable es) ok = tt
answer_ranged port p (Topo t) ok = tt

passed_ranged : (t : TopoOf) (links : List PeerAt) → IsTopo t → AreRanged (map (passed_on t) links)
passed_ranged t [] is = tt
passed_ranged t (k ∷ links) is = (is, passed_ranged t links is)

down_ranged : (c : CardOf) (log : Log) (o : Option TopoOf) → ((t : TopoOf) → o ≡ Some t → IsTopo t) → AreRanged (topo_down c log o)
down_ranged c log None are = tt
down_ranged c log (Some t) are = passed_ranged t (claiming c log) (are t refl)

pub adds_ranged : (c : CardOf) (log : Log) → IsRangedCard c → AreRanged log → length log < 2 ^ 28 → AreRanged (adds c log)
adds_ranged c [] card all few = positions_ranged (version c []) (position c []) c.links (version_counted c [] few) (position_ranged c [] card all)
adds_ranged c (x ∷ log) card all few =
    each_append (λ y. IsBody y.body) (told c x log) (answers c x log ++ (sent_up c x log ++ sent_down c x log))
    (cond_both (has_moved c x log) (positions c (x ∷ log)) [] AreRanged (λ _. positions_ranged (version c (x ∷ log)) (position c (x ∷ log)) c.links (version_counted c (x ∷ log) few) (position_ranged c (x ∷ log) card all)) (λ _. tt))
    (each_append (λ y. IsBody y.body) (answers c x log) (sent_up c x log ++ sent_down c x log)
    (answer_ranged x.port (position c (x ∷ log)) x.body all.0)
    (each_append (λ y. IsBody y.body) (sent_up c x log) (sent_down c x log)
    (cond_both (is_stable c (x ∷ log) && not (is_stable c log) && not (is_root c (x ∷ log))) (stable_to_parent c (x ∷ log)) [] AreRanged (λ _. (report_ranged c (x ∷ log) card all, tt)) (λ _. tt))
    (cond_both (is_some (finish c log)) [] (topo_down c (x ∷ log) (finish c (x ∷ log))) AreRanged (λ _. tt) (λ _. down_ranged c (x ∷ log) (finish c (x ∷ log)) (λ t is. finish_ranged c (x ∷ log) t card all is)))))

sent_ranged : (c : CardOf) (q : ℕ) (log : Log) → IsRangedCard c → AreRanged log → length log < 2 ^ 28 → Each IsBody (sent c q log)
sent_ranged c q [] card all few = each_reverse IsBody (on_port q (adds c [])) (each_on_port q (adds c []) (adds_ranged c [] card all few))
sent_ranged c q (x ∷ log) card all few =
    each_append IsBody (reverse (on_port q (adds c (x ∷ log)))) (sent c q log)
    (each_reverse IsBody (on_port q (adds c (x ∷ log))) (each_on_port q (adds c (x ∷ log)) (adds_ranged c (x ∷ log) card all few)))
    (sent_ranged c q log card all.1 (omega (arith, few)))

-- all that was sent on a port
pub stream_ranged : (c : CardOf) (q : ℕ) (log : Log) → IsRangedCard c → AreRanged log → length log < 2 ^ 28 → Each IsBody (stream c q log)
stream_ranged c q log card all few = each_reverse IsBody (sent c q log) (sent_ranged c q log card all few)

pub on_port_few : (q : ℕ) (xs : List OnPort) → length (on_port q xs) ≤ length xs
on_port_few q [] = omega arith
on_port_few q (x ∷ xs) =
    let rest = on_port_few q xs in
    cond_both (x.port == q) (x.body ∷ on_port q xs) (on_port q xs) (λ (bs : List Body). length bs ≤ length (x ∷ xs)) (λ _. omega (arith, rest)) (λ _. omega (arith, rest))
