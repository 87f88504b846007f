use Rattle.std.proofs.Common.{◌≡◌, ◌∙◌, sym, ap, refl, arith, ℕ, suc, ◌+◌, ◌<◌, ◌≤◌, List, [], ◌∷◌, ◌++◌, Bool, true, false, cond, map, length, get_or, Option, Some, None, reverse}
use Rattle.std.specs.Prelude.{◌==◌, ◌&&◌, not, is_some}
use Rattle.std.proofs.lemmas.Bool.Decides.{nat_tests}
use Rattle.std.proofs.lemmas.List.{reverse-append}
use Rattle.std.proofs.lemmas.List.Kept.{AllPairs-filter}
use Rattle.an_base.specs.Values.{Place, PeerAt, EntryOf, TopoOf}
use Rattle.an_base.specs.Order.{PortsRise}
use Rattle.an_base.specs.declared.body.Body.{Body}
use Rattle.an_base.specs.declared.body.Body.TheVariants.{Pos, Answer, Stable, Topo}
use Rattle.epoch_core.specs.Log.{CardOf, OnPort, Log, on_port, is_claimed}
use Rattle.epoch_core.specs.Epoch.{version, position, report, is_stable, is_root, has_moved, is_named, finish, pos_at, positions_of, told, answer_to, answers, sent_up, sent_down, topo_down, claiming, passed_on, adds, sent, went_out}
use Rattle.epoch_core.specs.Laws.{moves, topos}
use Rattle.epoch_core.proofs.AcceptLemmas.{adds-topo, finish-topo, finish-finished}
use Rattle.std.proofs.lemmas.Bool.{eqb-true}

-- the version counts what changed the position
raised : (b : Bool) (v m : ℕ) → v ≡ 1 + m → cond b (suc v) v ≡ 1 + cond b (suc m) m
raised true v m is = omega arith
raised false v m is = is

pub version-moves : (c : CardOf) (log : Log) → version c log ≡ 1 + moves c log
version-moves c [] = refl
version-moves c (x ∷ log) = raised (has_moved c x log) (version c log) (moves c log) (version-moves c log)

at_most : (b : Bool) (v n : ℕ) → v ≤ 1 + n → cond b (suc v) v ≤ 1 + suc n
at_most true v n low = omega arith
at_most false v n low = omega arith

pub version-length : (c : CardOf) (log : Log) → version c log ≤ 1 + length log
version-length c [] = omega arith
version-length c (x ∷ log) = at_most (has_moved c x log) (version c log) (length log) (version-length c log)

-- a topology that does not name the life
stays_none : (c : CardOf) (port : ℕ) (t : TopoOf) (log : Log) → is_named c.me t ≡ false → (f : Option TopoOf) → finish c log ≡ f → finish c (record { port = port; body = Topo t } ∷ log) ≡ f
stays_none c port t log unnamed None is = finish-topo c port t log is ∙ ap (λ (b : Bool). cond b (Some t) None) unnamed
stays_none c port t log unnamed (Some u) is = finish-finished c (record { port = port; body = Topo t }) log (ap is_some is) ∙ is

pub finish-unnamed : (c : CardOf) (port : ℕ) (t : TopoOf) (log : Log) → is_named c.me t ≡ false → finish c (record { port = port; body = Topo t } ∷ log) ≡ finish c log
finish-unnamed c port t log unnamed = stays_none c port t log unnamed (finish c log) refl

down_same : (c : CardOf) (l : Log) (f : Option TopoOf) → cond (is_some f) [] (topo_down c l f) ≡ []
down_same c l None = refl
down_same c l (Some t) = refl

pub adds-unnamed : (c : CardOf) (port : ℕ) (t : TopoOf) (log : Log) → is_named c.me t ≡ false → adds c (record { port = port; body = Topo t } ∷ log) ≡ []
adds-unnamed c port t log unnamed =
    let x : OnPort = record { port = port; body = Topo t } in
    adds-topo c port t log
    ∙ ap (λ (f : Option TopoOf). cond (is_some (finish c log)) [] (topo_down c (x ∷ log) f)) (finish-unnamed c port t log unnamed)
    ∙ down_same c (x ∷ log) (finish c log)

-- how many topologies there are in two lists one after the other, and in a list turned round
topos-append : (xs ys : List Body) → topos (xs ++ ys) ≡ topos xs + topos ys
topos-append [] ys = omega arith
topos-append (Pos b ∷ xs) ys = topos-append xs ys
topos-append (Answer b ∷ xs) ys = topos-append xs ys
topos-append (Stable es ∷ xs) ys = topos-append xs ys
topos-append (Topo t ∷ xs) ys = let more = topos-append xs ys in omega arith

topos-one : (b : Body) (xs : List Body) → topos (b ∷ xs) ≡ topos xs + topos (b ∷ [])
topos-one (Pos b) xs = omega arith
topos-one (Answer b) xs = omega arith
topos-one (Stable es) xs = omega arith
topos-one (Topo t) xs = omega arith

topos-reverse : (xs : List Body) → topos (reverse xs) ≡ topos xs
topos-reverse [] = refl
topos-reverse (b ∷ xs) = ap topos (reverse-append (b ∷ []) xs) ∙ topos-append (reverse xs) (b ∷ []) ∙ ap (λ (n : ℕ). n + topos (b ∷ [])) (topos-reverse xs) ∙ sym (topos-one b xs)

append_if : (b : Bool) (x : Body) (xs ys zs : List Body) → zs ≡ xs ++ ys → cond b (x ∷ zs) zs ≡ cond b (x ∷ xs) xs ++ ys
append_if true x xs ys zs is = ap (λ (bs : List Body). x ∷ bs) is
append_if false x xs ys zs is = is

-- what is on a port, in two lists one after the other
pub on_port-append : (q : ℕ) (xs ys : List OnPort) → on_port q (xs ++ ys) ≡ on_port q xs ++ on_port q ys
on_port-append q [] ys = refl
on_port-append q (x ∷ xs) ys = append_if (x.port == q) x.body (on_port q xs) (on_port q ys) (on_port q (xs ++ ys)) (on_port-append q xs ys)

-- all that went out, taken on a port and read from the last, is what was sent there
pub sent-went_out : (c : CardOf) (q : ℕ) (log : Log) → sent c q log ≡ reverse (on_port q (went_out c log))
sent-went_out c q [] = refl
sent-went_out c q (x ∷ log) =
    ap (λ (bs : List Body). reverse (on_port q (adds c (x ∷ log))) ++ bs) (sent-went_out c q log)
    ∙ sym (reverse-append (on_port q (went_out c log)) (on_port q (adds c (x ∷ log))))
    ∙ ap reverse (sym (on_port-append q (went_out c log) (adds c (x ∷ log))))

-- no topology goes out on a port with positions, answers and reports
abbrev count : ℕ → List OnPort → ℕ
count q xs = topos (on_port q xs)

count-append : (q : ℕ) (xs ys : List OnPort) → count q (xs ++ ys) ≡ count q xs + count q ys
count-append q xs ys = ap topos (on_port-append q xs ys) ∙ topos-append (on_port q xs) (on_port q ys)

skip_if : (here : Bool) (b : Body) (bs : List Body) → topos (b ∷ bs) ≡ topos bs → topos bs ≡ 0 → topos (cond here (b ∷ bs) bs) ≡ 0
skip_if true b bs same none = same ∙ none
skip_if false b bs same none = none

count-positions : (q v : ℕ) (p : Place) (links : List PeerAt) → count q (positions_of v p links) ≡ 0
count-positions q v p [] = refl
count-positions q v p (k ∷ links) = skip_if (k.port == q) (pos_at v p k).body (on_port q (positions_of v p links)) refl (count-positions q v p links)

count-told : (q : ℕ) (b : Bool) (v : ℕ) (p : Place) (links : List PeerAt) → count q (cond b (positions_of v p links) []) ≡ 0
count-told q true v p links = count-positions q v p links
count-told q false v p links = refl

one_if : (here : Bool) (b : Body) → topos (b ∷ []) ≡ 0 → topos (cond here (b ∷ []) []) ≡ 0
one_if true b none = none
one_if false b none = refl

count-answer : (q port : ℕ) (p : Place) (b : Body) → count q (answer_to port p b) ≡ 0
count-answer q port p (Pos b) = one_if (port == q) (Answer (record { version = b.version; to_parent = (port == p.port) })) refl
count-answer q port p (Answer b) = refl
count-answer q port p (Stable es) = refl
count-answer q port p (Topo t) = refl

count-up : (q : ℕ) (b : Bool) (port : ℕ) (es : List EntryOf) → count q (cond b (record { port = port; body = Stable es } ∷ []) []) ≡ 0
count-up q true port es = one_if (port == q) (Stable es) refl
count-up q false port es = refl

pub other_port : (a q : ℕ) → q < a → (a == q) ≡ false
other_port a q above = grind (arith, nat_tests)

none_above : (t : TopoOf) (q : ℕ) (links : List PeerAt) → ((i : ℕ) (d : PeerAt) → i < length links → q < (get_or links i d).port) → count q (map (passed_on t) links) ≡ 0
none_above t q [] above = refl
none_above t q (k ∷ links) above =
    ap (λ (b : Bool). topos (cond b (Topo t ∷ on_port q (map (passed_on t) links)) (on_port q (map (passed_on t) links)))) (other_port k.port q (above 0 k (omega arith)))
    ∙ none_above t q links (λ i d low. above (suc i) d (omega arith))

one_if_here : (here : Bool) (t : TopoOf) (bs : List Body) → (here ≡ true → topos bs ≡ 0) → topos bs ≤ 1 → topos (cond here (Topo t ∷ bs) bs) ≤ 1
one_if_here true t bs none most = let zero_more = none refl in omega (arith, zero_more)
one_if_here false t bs none most = most

above_first : (k : PeerAt) (q : ℕ) (links : List PeerAt) → PortsRise (k ∷ links) → (k.port == q) ≡ true → (i : ℕ) (d : PeerAt) → i < length links → q < (get_or links i d).port
above_first k q links rise is i d low = let first = rise 0 (suc i) d (omega arith) (omega arith) in let same = eqb-true k.port q is in omega (arith, first, same)

one_at : (t : TopoOf) (q : ℕ) (links : List PeerAt) → PortsRise links → count q (map (passed_on t) links) ≤ 1
one_at t q [] rise = omega arith
one_at t q (k ∷ links) rise =
    one_if_here (k.port == q) t (on_port q (map (passed_on t) links)) (λ is. none_above t q links (above_first k q links rise is))
    (one_at t q links (λ i j d below within. rise (suc i) (suc j) d (omega arith) (omega arith)))

-- what goes down, and what one more item adds
limit : Option TopoOf → ℕ
limit None = 0
limit (Some t) = 1

count-down : (c : CardOf) (q : ℕ) (l : Log) (f : Option TopoOf) → PortsRise c.links → count q (topo_down c l f) ≤ limit f
unfolding limit
count-down c q l None rise = omega arith
count-down c q l (Some t) rise = one_at t q (claiming c l) (AllPairs-filter (λ a b. a.port < b.port) (λ k. is_claimed (on_port k.port l)) c.links rise)

-- a life that has finished sends no more topologies
finished : (c : CardOf) (x : OnPort) (log : Log) (f : Option TopoOf) → finish c log ≡ f → 0 < limit f → limit (finish c (x ∷ log)) ≡ 1
unfolding limit
finished c x log None is some = absurd (omega arith)
finished c x log (Some t) is some = ap limit (finish-finished c x log (ap is_some is) ∙ is)

down_or : (c : CardOf) (q : ℕ) (l : Log) (f g : Option TopoOf) → PortsRise c.links → (0 < limit f → limit g ≡ 1) → limit f + count q (cond (is_some f) [] (topo_down c l g)) ≤ limit g
unfolding limit
down_or c q l None g rise later = let low = count-down c q l g rise in omega (arith, low)
down_or c q l (Some t) g rise later = let one = later (omega arith) in omega (arith, one)

count-adds : (c : CardOf) (q : ℕ) (x : OnPort) (log : Log) → count q (adds c (x ∷ log)) ≡ count q (sent_down c x log)
count-adds c q x log =
    let t = count-told q (has_moved c x log) (version c (x ∷ log)) (position c (x ∷ log)) c.links in
    let a = count-answer q x.port (position c (x ∷ log)) x.body in
    let u = count-up q (is_stable c (x ∷ log) && not (is_stable c log) && not (is_root c (x ∷ log))) (position c (x ∷ log)).port (report c (x ∷ log)) in
    let one = count-append q (told c x log) (answers c x log ++ (sent_up c x log ++ sent_down c x log)) in
    let two = count-append q (answers c x log) (sent_up c x log ++ sent_down c x log) in
    let three = count-append q (sent_up c x log) (sent_down c x log) in
    omega (arith, t, a, u, one, two, three)

topos_sent : (c : CardOf) (q : ℕ) (log : Log) → PortsRise c.links → topos (sent c q log) ≤ limit (finish c log)
topos_sent c q [] rise =
    let none = topos-reverse (on_port q (adds c [])) ∙ count-positions q 1 (position c []) c.links in
    omega (arith, none)
topos_sent c q (x ∷ log) rise =
    let before = topos_sent c q log rise in
    let now = topos-append (reverse (on_port q (adds c (x ∷ log)))) (sent c q log) in
    let turned = topos-reverse (on_port q (adds c (x ∷ log))) in
    let down = count-adds c q x log in
    let most = down_or c q (x ∷ log) (finish c log) (finish c (x ∷ log)) rise (finished c x log (finish c log) refl) in
    omega (arith, before, now, turned, down, most)

limit_one : (f : Option TopoOf) → limit f ≤ 1
unfolding limit
limit_one None = omega arith
limit_one (Some t) = omega arith

pub one_topo : (c : CardOf) (q : ℕ) (log : Log) → PortsRise c.links → topos (sent c q log) ≤ 1
one_topo c q log rise = let most = topos_sent c q log rise in let one = limit_one (finish c log) in omega (arith, most, one)
