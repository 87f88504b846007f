use Rattle.std.proofs.Common.{◌≡◌, ◌∙◌, sym, ap, refl, arith, ℕ, suc, ◌<◌, ◌≤◌, List, [], ◌∷◌, ◌++◌, length, get_or, Bool, true, false, cond, map, filter, Option, Some, None, reverse, append_assoc}
use Rattle.std.specs.Prelude.{◌==◌, ◌&&◌, not, is_some}
use Rattle.std.proofs.lemmas.List.{reverse-append}
use Rattle.an_base.specs.Values.{EndId, Place, PeerAt, EntryOf, TopoOf}
use Rattle.an_base.specs.Order.{PortsRise}
use Rattle.an_base.specs.declared.body.Body.{Body}
use Rattle.an_base.specs.declared.body.Body.TheVariants.{Pos, Answer, Stable, Topo}
use Rattle.epoch_core.specs.Log.{CardOf, OnPort, Log, on_port, is_claimed}
use Rattle.epoch_core.specs.Epoch.{version, position, report, is_stable, is_root, has_moved, finish, pos_at, positions_of, answer_to, told, answers, sent_up, sent_down, topo_down, passed_on, adds, sent}
use Rattle.epoch_core.proofs.LawLemmas.{on_port-append, other_port}
use Rattle.epoch_game.specs.Slice.{link_at}
use Rattle.epoch_game.proofs.Basics.{number_itself}
use Rattle.std.proofs.lemmas.Bool.{eqb-true}

-- the ports rise, from above low
abbrev pub RiseFrom : ℕ → List PeerAt → Type 0
RiseFrom low [] = Unit {0}
RiseFrom low (k ∷ ks) = low < k.port × RiseFrom k.port ks

pub rise_from : (low : ℕ) (ks : List PeerAt) → PortsRise ks → ((i : ℕ) (d : PeerAt) → i < length ks → low < (get_or ks i d).port) → RiseFrom low ks
rise_from low [] rise above = tt
rise_from low (k ∷ ks) rise above = (
  above 0 k (omega arith),
  rise_from k.port ks (λ i j d less within. rise (suc i) (suc j) d (omega arith) (omega arith)) (λ i d within. rise 0 (suc i) d (omega arith) (omega arith)),
)

-- what is made of a link goes out on its port
abbrev KeepsPort : (PeerAt → OnPort) → Type 0
KeepsPort f = (k : PeerAt) → (f k).port ≡ k.port

-- no link is on a port below all of them
nothing_on : (f : PeerAt → OnPort) (g : PeerAt → Bool) (q low : ℕ) (ks : List PeerAt) → KeepsPort f → q ≤ low → RiseFrom low ks → on_port q (map f (filter g ks)) ≡ []
nothing_on f g q low [] keeps below rise = refl
nothing_on f g q low (k ∷ ks) keeps below rise = by (g k) (let above = rise.0 in nothing_on f g q k.port ks keeps (omega arith) rise.1)
  where
    by : (b : Bool) → on_port q (map f (filter g ks)) ≡ [] → on_port q (map f (cond b (k ∷ filter g ks) (filter g ks))) ≡ []
    by true rest =
        ap (λ (h : Bool). cond h ((f k).body ∷ on_port q (map f (filter g ks))) (on_port q (map f (filter g ks)))) (ap (λ (p : ℕ). p == q) (keeps k) ∙ other_port k.port q (let above = rise.0 in omega arith))
        ∙ rest
    by false rest = rest

-- of the links that pass, the one on a port
record OneOn (f : PeerAt → OnPort) (g : PeerAt → Bool) (q : ℕ) (ks : List PeerAt) : Type 0 where
  link : PeerAt
  port : link.port ≡ q
  only : on_port q (map f (filter g ks)) ≡ cond (g link) ((f link).body ∷ []) []

-- the first link is on the port
here : (f : PeerAt → OnPort) (g : PeerAt → Bool) (q : ℕ) (k : PeerAt) (ks : List PeerAt) (b : Bool) → KeepsPort f → RiseFrom k.port ks → k.port ≡ q → on_port q (map f (cond b (k ∷ filter g ks) (filter g ks))) ≡ cond b ((f k).body ∷ []) []
here f g q k ks true keeps rise is =
    ap (λ (h : Bool). cond h ((f k).body ∷ on_port q (map f (filter g ks))) (on_port q (map f (filter g ks)))) (ap (λ (p : ℕ). p == q) (keeps k ∙ is) ∙ number_itself q)
    ∙ ap (λ (bs : List Body). (f k).body ∷ bs) (nothing_on f g q k.port ks keeps (omega arith) rise)
here f g q k ks false keeps rise is = nothing_on f g q k.port ks keeps (omega arith) rise

-- and is not
further : (f : PeerAt → OnPort) (g : PeerAt → Bool) (q : ℕ) (k : PeerAt) (ks : List PeerAt) (b : Bool) → KeepsPort f → (k.port == q) ≡ false → on_port q (map f (cond b (k ∷ filter g ks) (filter g ks))) ≡ on_port q (map f (filter g ks))
further f g q k ks true keeps is = ap (λ (h : Bool). cond h ((f k).body ∷ on_port q (map f (filter g ks))) (on_port q (map f (filter g ks)))) (ap (λ (p : ℕ). p == q) (keeps k) ∙ is)
further f g q k ks false keeps is = refl

one_on : (f : PeerAt → OnPort) (g : PeerAt → Bool) (q low : ℕ) (ks : List PeerAt) (e : EndId) → KeepsPort f → RiseFrom low ks → link_at q ks ≡ Some e → OneOn f g q ks
one_on f g q low [] e keeps rise at = absurd (cc)
one_on f g q low (k ∷ ks) e keeps rise at = by (k.port == q) refl at (λ found. one_on f g q k.port ks e keeps rise.1 found)
  where
    by : (b : Bool) → (k.port == q) ≡ b → cond b (Some k.peer) (link_at q ks) ≡ Some e → (link_at q ks ≡ Some e → OneOn f g q ks) → OneOn f g q (k ∷ ks)
    by true is found rest = record { link = k; port = eqb-true k.port q is; only = here f g q k ks (g k) keeps rise.1 (eqb-true k.port q is) }
    by false is found rest = let r = rest found in record { link = r.link; port = r.port; only = further f g q k ks (g k) keeps is ∙ r.only }

filter-all : {A : Type 0} (xs : List A) → filter (λ x. true) xs ≡ xs
filter-all [] = refl
filter-all (x ∷ xs) = ap (λ ys. x ∷ ys) (filter-all xs)

-- a position as it is told on a port
abbrev pub pos_on : ℕ → Place → ℕ → Body
pos_on v p q = Pos (record { version = v; root = p.root; level = p.level; to_parent = (q == p.port) })

on_port-positions : (v : ℕ) (p : Place) (q : ℕ) (ks : List PeerAt) (e : EndId) → RiseFrom 0 ks → link_at q ks ≡ Some e → on_port q (positions_of v p ks) ≡ pos_on v p q ∷ []
on_port-positions v p q ks e rise at =
    let one = one_on (pos_at v p) (λ k. true) q 0 ks e (λ k. refl) rise at in
    ap (λ (ls : List PeerAt). on_port q (map (pos_at v p) ls)) (sym (filter-all ks)) ∙ one.only ∙ ap (λ (n : ℕ). pos_on v p n ∷ []) one.port

-- the four parts that one more item adds on a port, each of no body or one
abbrev pub told_part : CardOf → OnPort → Log → ℕ → List Body
told_part c x l q = cond (has_moved c x l) (pos_on (version c (x ∷ l)) (position c (x ∷ l)) q ∷ []) []

abbrev pub answer_on : ℕ → Place → Body → List Body
answer_on q p (Pos b) = Answer (record { version = b.version; to_parent = (q == p.port) }) ∷ []
answer_on q p (Answer b) = []
answer_on q p (Stable es) = []
answer_on q p (Topo t) = []

abbrev pub answer_part : CardOf → OnPort → Log → ℕ → List Body
answer_part c x l q = cond (x.port == q) (answer_on q (position c (x ∷ l)) x.body) []

abbrev pub reports : CardOf → OnPort → Log → Bool
reports c x l = is_stable c (x ∷ l) && not (is_stable c l) && not (is_root c (x ∷ l))

abbrev pub up_part : CardOf → OnPort → Log → ℕ → List Body
up_part c x l q = cond (reports c x l) (cond ((position c (x ∷ l)).port == q) (Stable (report c (x ∷ l)) ∷ []) []) []

abbrev pub topo_of : Option TopoOf → Option TopoOf → List Body
topo_of (Some t) now = []
topo_of None None = []
topo_of None (Some t) = Topo t ∷ []

abbrev pub down_part : CardOf → OnPort → Log → ℕ → List Body
down_part c x l q = cond (is_claimed (on_port q (x ∷ l))) (topo_of (finish c l) (finish c (x ∷ l))) []

told_is : (moved : Bool) (v : ℕ) (p : Place) (q : ℕ) (ks : List PeerAt) → on_port q (positions_of v p ks) ≡ pos_on v p q ∷ [] → on_port q (cond moved (positions_of v p ks) []) ≡ cond moved (pos_on v p q ∷ []) []
told_is true v p q ks one = one
told_is false v p q ks one = refl

none_if : {A : Type 0} (h : Bool) → cond {A = List A} h [] [] ≡ []
none_if true = refl
none_if false = refl

answer_flag : (port q v : ℕ) (p : Place) (h : Bool) → (port == q) ≡ h
    → cond h (Answer (record { version = v; to_parent = (port == p.port) }) ∷ []) [] ≡ cond h (Answer (record { version = v; to_parent = (q == p.port) }) ∷ []) []
answer_flag port q v p true is = ap (λ (n : ℕ). Answer (record { version = v; to_parent = (n == p.port) }) ∷ []) (eqb-true port q is)
answer_flag port q v p false is = refl

answer_is : (port q : ℕ) (p : Place) (b : Body) → on_port q (answer_to port p b) ≡ cond (port == q) (answer_on q p b) []
answer_is port q p (Pos b) = answer_flag port q b.version p (port == q) refl
answer_is port q p (Answer b) = sym (none_if (port == q))
answer_is port q p (Stable es) = sym (none_if (port == q))
answer_is port q p (Topo t) = sym (none_if (port == q))

up_is : (up : Bool) (port q : ℕ) (es : List EntryOf) → on_port q (cond up (record { port = port; body = Stable es } ∷ []) []) ≡ cond up (cond (port == q) (Stable es ∷ []) []) []
up_is true port q es = refl
up_is false port q es = refl

down_is : (c : CardOf) (q : ℕ) (l : Log) (e : EndId) (f g : Option TopoOf) → RiseFrom 0 c.links → link_at q c.links ≡ Some e → on_port q (cond (is_some f) [] (topo_down c l g)) ≡ cond (is_claimed (on_port q l)) (topo_of f g) []
down_is c q l e (Some t) g rise at = sym (none_if (is_claimed (on_port q l)))
down_is c q l e None None rise at = sym (none_if (is_claimed (on_port q l)))
down_is c q l e None (Some t) rise at =
    let one = one_on (passed_on t) (λ k. is_claimed (on_port k.port l)) q 0 c.links e (λ k. refl) rise at in
    one.only ∙ ap (λ (n : ℕ). cond (is_claimed (on_port n l)) (Topo t ∷ []) []) one.port

-- a list of no body or one reads the same from both ends
abbrev pub IsShort : List Body → Type 0
IsShort bs = reverse bs ≡ bs

short_if : (h : Bool) (bs : List Body) → IsShort bs → IsShort (cond h bs [])
short_if true bs short = short
short_if false bs short = refl

short_answer : (q : ℕ) (p : Place) (b : Body) → IsShort (answer_on q p b)
short_answer q p (Pos b) = refl
short_answer q p (Answer b) = refl
short_answer q p (Stable es) = refl
short_answer q p (Topo t) = refl

short_topo : (f g : Option TopoOf) → IsShort (topo_of f g)
short_topo (Some t) g = refl
short_topo None None = refl
short_topo None (Some t) = refl

turned : (t a u d s : List Body) → IsShort t → IsShort a → IsShort u → IsShort d → reverse (t ++ (a ++ (u ++ d))) ++ s ≡ d ++ (u ++ (a ++ (t ++ s)))
turned t a u d s et ea eu ed =
    ap (λ (r : List Body). r ++ s) (reverse-append t (a ++ (u ++ d)) ∙ ap (λ (r : List Body). r ++ reverse t) (reverse-append a (u ++ d) ∙ ap (λ (r : List Body). r ++ reverse a) (reverse-append u d)))
    ∙ ap (λ (r : List Body). (((r ++ reverse u) ++ reverse a) ++ reverse t) ++ s) ed
    ∙ ap (λ (r : List Body). (((d ++ r) ++ reverse a) ++ reverse t) ++ s) eu
    ∙ ap (λ (r : List Body). (((d ++ u) ++ r) ++ reverse t) ++ s) ea
    ∙ ap (λ (r : List Body). (((d ++ u) ++ a) ++ r) ++ s) et
    ∙ regroup d u a t s
  where
    regroup : (w y z v s : List Body) → (((w ++ y) ++ z) ++ v) ++ s ≡ w ++ (y ++ (z ++ (v ++ s)))
    regroup w y z v s = simp append_assoc

-- what was sent on a port, part by part
pub sent_first : (c : CardOf) (q : ℕ) (e : EndId) → RiseFrom 0 c.links → link_at q c.links ≡ Some e → sent c q [] ≡ pos_on 1 (position c []) q ∷ []
sent_first c q e rise at = ap reverse (on_port-positions 1 (position c []) q c.links e rise at)

pub sent_more : (c : CardOf) (q : ℕ) (e : EndId) (x : OnPort) (l : Log) → RiseFrom 0 c.links → link_at q c.links ≡ Some e
    → sent c q (x ∷ l) ≡ down_part c x l q ++ (up_part c x l q ++ (answer_part c x l q ++ (told_part c x l q ++ sent c q l)))
sent_more c q e x l rise at =
    ap (λ (bs : List Body). reverse bs ++ sent c q l) parts
    ∙ turned (told_part c x l q) (answer_part c x l q) (up_part c x l q) (down_part c x l q) (sent c q l)
    (short_if (has_moved c x l) (pos_on (version c (x ∷ l)) (position c (x ∷ l)) q ∷ []) refl)
    (short_if (x.port == q) (answer_on q (position c (x ∷ l)) x.body) (short_answer q (position c (x ∷ l)) x.body))
    (short_if (reports c x l) (cond ((position c (x ∷ l)).port == q) (Stable (report c (x ∷ l)) ∷ []) []) (short_if ((position c (x ∷ l)).port == q) (Stable (report c (x ∷ l)) ∷ []) refl))
    (short_if (is_claimed (on_port q (x ∷ l))) (topo_of (finish c l) (finish c (x ∷ l))) (short_topo (finish c l) (finish c (x ∷ l))))
  where
    told_here : on_port q (told c x l) ≡ told_part c x l q
    told_here = told_is (has_moved c x l) (version c (x ∷ l)) (position c (x ∷ l)) q c.links (on_port-positions (version c (x ∷ l)) (position c (x ∷ l)) q c.links e rise at)

    parts : on_port q (adds c (x ∷ l)) ≡ told_part c x l q ++ (answer_part c x l q ++ (up_part c x l q ++ down_part c x l q))
    parts =
        on_port-append q (told c x l) (answers c x l ++ (sent_up c x l ++ sent_down c x l))
        ∙ ap (λ (bs : List Body). bs ++ on_port q (answers c x l ++ (sent_up c x l ++ sent_down c x l))) told_here
        ∙ ap (λ (bs : List Body). told_part c x l q ++ bs)
        (on_port-append q (answers c x l) (sent_up c x l ++ sent_down c x l)
        ∙ ap (λ (bs : List Body). bs ++ on_port q (sent_up c x l ++ sent_down c x l)) (answer_is x.port q (position c (x ∷ l)) x.body)
        ∙ ap (λ (bs : List Body). answer_part c x l q ++ bs)
        (on_port-append q (sent_up c x l) (sent_down c x l)
        ∙ ap (λ (bs : List Body). bs ++ on_port q (sent_down c x l)) (up_is (reports c x l) (position c (x ∷ l)).port q (report c (x ∷ l)))
        ∙ ap (λ (bs : List Body). up_part c x l q ++ bs) (down_is c q (x ∷ l) e (finish c l) (finish c (x ∷ l)) rise at)))
