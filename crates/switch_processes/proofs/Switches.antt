-- Where switches go on from the epochs in which they were, few lives join an epoch, however many there are.

use Rattle.std.proofs.Common.{◌≡◌, ◌∙◌, sym, ap, refl, subst, ℕ, suc, ◌+◌, ◌<◌, ◌≤◌, ◌==◌, arith, List, [], ◌∷◌, ◌++◌, length, length-append, Option, Some, None, ◌⊎◌, inl, inr, Bool, true, false, cond, Contains}
use Rattle.std.proofs.lemmas.Bool.{cases_order, cond_both, eq-eqb, eqb-true, false≢true}
use Rattle.std.proofs.lemmas.Option.{none-some}
use Rattle.std.specs.Ordering.{is_eq}
use Rattle.an_base.specs.Values.{LifeId}
use Rattle.an_base.specs.Order.{life_cmp}
use Rattle.an_base.specs.declared.body.Body.{Body}
use Rattle.an_base.proofs.LifeLemmas.{same_life}
use Rattle.topo_report.proofs.Members.{In, contains_from, in_from, in_left, in_right}
use Rattle.epoch_core.specs.Log.{CardOf}
use Rattle.epoch_game.specs.Slice.{Earlier, Node}
use Rattle.epoch_game.specs.Game.{Game, Play, accepts, after_accept, after_join, begins, joins, loads, none, slice}
use Rattle.epoch_game.proofs.StreamLemmas.{nodes}
use Rattle.epoch_game.proofs.GameLemmas.{play_run}
use Rattle.switch_game.specs.Network.{PowerOn}
use Rattle.switch_game.proofs.Laws.{plays}
use Rattle.switch_processes.specs.Processes.{AreLivesOf, Call, Event, GoOn, HasJoined, HasNoCycle, IsJoinedBy, IsRun, switch_after}
use Rattle.switch_processes.specs.Orders.{game_after, network_after}
use Rattle.switch_processes.proofs.Moments.{event_at}
use Rattle.switch_processes.proofs.Ordered.{happens_to}
use Rattle.switch_processes.proofs.Joined.{IsIn, put_cases}
use Rattle.switch_processes.proofs.Claims.{IsPlayed, is_played, joined_in, not_above}

-- a life joins only epochs above the one in which it was started
abbrev AreAbove : (LifeId → ℕ) → Game → Type 0
AreAbove first g = (x : LifeId) → (first x ≤ g.present x) × ((e : ℕ) → IsIn g x e → first x < e)

join_above : (first : LifeId → ℕ) (g : Game) (x : LifeId) (e : ℕ) (c : CardOf) → g.present x < e → AreAbove first g → AreAbove first (after_join g x e c)
join_above first g x e c high old y = (
  cond_both (is_eq (life_cmp x y)) e (g.present y) (λ (k : ℕ). first y ≤ k) (λ is. here (same_life x y is)) (λ is. (old y).0),
  λ f i. by f (put_cases g e x (record { card = c; log = [] }) y f i.0 i.1),
)
  where
    least : first x < e
    least = let low = (old x).0 in omega (arith, low, high)

    here : x ≡ y → first y ≤ e
    here same = let at = ap first same in omega (arith, least, at)

    by : (f : ℕ) → ((x ≡ y) × (e ≡ f)) ⊎ IsIn g y f → first y < f
    by f (inl w) = let at = ap first w.0 in let is = w.1 in omega (arith, least, at, is)
    by f (inr was) = (old y).1 f was

accept_above : (first : LifeId → ℕ) (g : Game) (x : LifeId) (n m : Node) (p : ℕ) (b : Body) → g.nodes x (g.present x) ≡ Some m → AreAbove first g → AreAbove first (after_accept g x n p b)
accept_above first g x n m p b there old y = (
  (old y).0,
  λ f i. by f (put_cases g (g.present x) x (record { card = n.card; log = record { port = p; body = b } ∷ n.log }) y f i.0 i.1),
)
  where
    least : first x < g.present x
    least = (old x).1 (g.present x) (m, there)

    by : (f : ℕ) → ((x ≡ y) × (g.present x ≡ f)) ⊎ IsIn g y f → first y < f
    by f (inl w) = let at = ap first w.0 in let is = w.1 in omega (arith, least, at, is)
    by f (inr was) = (old y).1 f was

above : (lives : List LifeId) (first : LifeId → ℕ) (g : Game) → Play lives (begins first) g → AreAbove first g
above lives first _ none = λ x. (omega arith, λ e i. absurd (none-some i.0 i.1))
above lives first _ (joins g x e c play may known ok) = join_above first g x e c may.greater (above lives first g play)
above lives first _ (accepts g x z p q n m b play sx sz lx lz next) = accept_above first g x n n p b sx (above lives first g play)
above lives first _ (loads g x n t play sx done fresh) = λ y. ((above lives first g play y).0, λ e i. (above lives first g play y).1 e i)

-- two lives of one switch do not join one epoch
one_joiner : (lives : List LifeId) (on : PowerOn) (did : LifeId → List Call) (p : IsPlayed lives on did) → GoOn lives on did → (e : ℕ) (x y : LifeId) → Contains lives x → Contains lives y → x.uid ≡ y.uid → IsIn (game_after on p.order) x e → IsIn (game_after on p.order) y e → x ≡ y
one_joiner lives on did p goes e x y ix iy same jx jy = by (cases_order x.boot y.boot)
  where
    g : Game
    g = game_after on p.order

    first : (z : LifeId) → IsIn g z e → on.epoch z < e
    first z i = (above lives on.epoch g (plays lives on (network_after on p.order) g (happens_to lives on p.order p.can)) z).1 e i

    apart : (a b c : ℕ) → a ≤ b → b ≤ c → c < a → ⊥
    apart a b c low more high = omega (arith, low, more, high)

    never : (a b : LifeId) → Contains lives a → Contains lives b → a.uid ≡ b.uid → a.boot < b.boot → IsIn g a e → IsIn g b e → ⊥
    never a b ia ib at before ja jb =
        apart e (switch_after on a (did a)).epoch (on.epoch b) (not_above lives on did p a e ja.0 ja.1) (goes a b ia ib at before) (first b jb)

    by : (x.boot ≡ y.boot) ⊎ ((x.boot < y.boot) ⊎ (y.boot < x.boot)) → x ≡ y
    by (inl boot) = λ i. record { uid = same i; boot = boot i }
    by (inr (inl low)) = absurd (never x y ix iy same low jx jy)
    by (inr (inr low)) = absurd (never y x iy ix (sym same) low jy jx)

-- the first life of a switch, among these, that is in the epoch
abbrev pick_by : Option Node → Bool → LifeId → List LifeId → List LifeId
pick_by None is x rest = rest
pick_by (Some n) is x rest = cond is (x ∷ []) rest

abbrev pick : Game → ℕ → ℕ → List LifeId → List LifeId
pick g e uid [] = []
pick g e uid (x ∷ xs) = pick_by (g.nodes x e) (x.uid == uid) x (pick g e uid xs)

picks_one : (g : Game) (e uid : ℕ) (xs : List LifeId) → length (pick g e uid xs) ≤ 1
picks_one g e uid [] = omega arith
picks_one g e uid (x ∷ xs) = by (g.nodes x e) (x.uid == uid) (picks_one g e uid xs)
  where
    by : (o : Option Node) (b : Bool) → length (pick g e uid xs) ≤ 1 → length (pick_by o b x (pick g e uid xs)) ≤ 1
    by None b rest = rest
    by (Some n) true rest = omega arith
    by (Some n) false rest = rest

-- one of them is picked where there is any
record IsPicked (g : Game) (e uid : ℕ) (xs picked : List LifeId) : Type 0 where
  life : LifeId
  among : In life xs
  picks : In life picked
  uid_is : life.uid ≡ uid
  is_in : IsIn g life e

later_pick : (g : Game) (e uid : ℕ) (x : LifeId) (xs ys : List LifeId) → IsPicked g e uid xs ys → IsPicked g e uid (x ∷ xs) ys
later_pick g e uid x xs ys w = record { life = w.life; among = inr w.among; picks = w.picks; uid_is = w.uid_is; is_in = w.is_in }

is_picked : (g : Game) (e uid : ℕ) (xs : List LifeId) (x : LifeId) → In x xs → x.uid ≡ uid → IsIn g x e → IsPicked g e uid xs (pick g e uid xs)
is_picked g e uid [] x i at j = absurd i
is_picked g e uid (y ∷ ys) x i at j = by (g.nodes y e) refl (y.uid == uid) refl i (λ k. is_picked g e uid ys x k at j)
  where
    rest : List LifeId
    rest = pick g e uid ys

    not_here : (n : Node) → x ≡ y → g.nodes y e ≡ None → g.nodes x e ≡ Some n → ⊥
    not_here n same empty is = none-some n (sym empty ∙ ap (λ (z : LifeId). g.nodes z e) (sym same) ∙ is)

    not_false : x ≡ y → (y.uid == uid) ≡ false → ⊥
    not_false same differs = false≢true (sym differs ∙ eq-eqb y.uid uid (ap (λ (z : LifeId). z.uid) (sym same) ∙ at))

    by : (o : Option Node) → g.nodes y e ≡ o → (b : Bool) → (y.uid == uid) ≡ b → (x ≡ y) ⊎ In x ys → (In x ys → IsPicked g e uid ys rest) → IsPicked g e uid (y ∷ ys) (pick_by o b y rest)
    by (Some n) is true its k more = record { life = y; among = inl refl; picks = inl refl; uid_is = eqb-true y.uid uid its; is_in = (n, is) }
    by None is b its (inl same) more = absurd (not_here j.0 same is j.1)
    by None is b its (inr k) more = later_pick g e uid y ys rest (more k)
    by (Some n) is false its (inl same) more = absurd (not_false same its)
    by (Some n) is false its (inr k) more = later_pick g e uid y ys rest (more k)

abbrev picks : Game → ℕ → List LifeId → List ℕ → List LifeId
picks g e xs [] = []
picks g e xs (uid ∷ uids) = pick g e uid xs ++ picks g e xs uids

picks_few : (g : Game) (e : ℕ) (xs : List LifeId) (uids : List ℕ) → length (picks g e xs uids) ≤ length uids
picks_few g e xs [] = omega arith
picks_few g e xs (uid ∷ uids) =
    by (length (pick g e uid xs)) (length (picks g e xs uids)) (length uids) (length (pick g e uid xs ++ picks g e xs uids)) (length-append (pick g e uid xs) (picks g e xs uids)) (picks_one g e uid xs) (picks_few g e xs uids)
  where
    by : (a b c d : ℕ) → d ≡ a + b → a ≤ 1 → b ≤ c → d ≤ suc c
    by a b c d is one few = omega (arith, is, one, few)

in_picks : (g : Game) (e : ℕ) (xs : List LifeId) (uids : List ℕ) (uid : ℕ) (x : LifeId) → In uid uids → In x (pick g e uid xs) → In x (picks g e xs uids)
in_picks g e xs [] uid x i j = absurd i
in_picks g e xs (u ∷ uids) uid x (inl is) j = in_left x (pick g e u xs) (picks g e xs uids) (subst (λ (k : ℕ). In x (pick g e k xs)) is j)
in_picks g e xs (u ∷ uids) uid x (inr i) j = in_right x (pick g e u xs) (picks g e xs uids) (in_picks g e xs uids uid x i j)

-- only lives that do anything join an epoch
pub lives_join : (lives : List LifeId) (on : PowerOn) (did : LifeId → List Call) (sending : Event → Event) (e : ℕ) → IsRun lives on did sending → IsJoinedBy lives on did e
lives_join lives on did sending e run x j = by j.moment j.earlier j.joined
  where
    by : (m : List Call) → Earlier m (did x) → (switch_after on x m).joined ≡ true → Contains lives x
    by [] earlier is = absurd (false≢true is)
    by (c ∷ m) earlier is = run.among (event_at x c m) earlier

-- so as many lives as there are switches join an epoch, at most
pub few_join : (lives : List LifeId) (on : PowerOn) (did : LifeId → List Call) (sending : Event → Event) (uids : List ℕ) (e : ℕ) → IsRun lives on did sending → HasNoCycle did sending → AreLivesOf uids lives → GoOn lives on did
    → (members : List LifeId) × (length members ≤ length uids) × IsJoinedBy members on did e
few_join lives on did sending uids e run acyclic of goes = (picks g e lives uids, picks_few g e lives uids, joined)
  where
    p : IsPlayed lives on did
    p = is_played lives on did sending run acyclic

    g : Game
    g = game_after on p.order

    has : (x : LifeId) → IsIn g x e → Contains lives x
    has x i = (nodes lives (slice e g) (play_run lives on.epoch g e (plays lives on (network_after on p.order) g (happens_to lives on p.order p.can))) x i.0 i.1).1

    joined : (x : LifeId) → HasJoined on did x e → Contains (picks g e lives uids) x
    joined x j =
        let i = joined_in lives on did p x e j in
        let w = is_picked g e x.uid lives x (in_from x lives (has x i)) refl i in
        let same : w.life ≡ x = one_joiner lives on did p goes e w.life x (has w.life w.is_in) (has x i) w.uid_is w.is_in i in
        contains_from x (picks g e lives uids) (in_picks g e lives uids x.uid x (in_from x.uid uids (of x (has x i))) (subst (λ (z : LifeId). In z (pick g e x.uid lives)) same w.picks))
