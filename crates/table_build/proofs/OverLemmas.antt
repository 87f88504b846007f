-- The best ways to a place from those to the places before it, link by link.
use Rattle.std.proofs.Common.{◌≡◌, ◌≢◌, sym, subst, refl, ℕ, ◌+◌, ◌<◌, ◌≤◌, List, [], ◌∷◌, ◌++◌, Option, Some, None, Bool, true, false, arith, length, ◌⊎◌, inl, inr}
use Rattle.std.proofs.lemmas.Bool.{cases_eq}
use Rattle.an_base.specs.Values.{EntryOf}
use Rattle.topo_graph.specs.Topology.{far_of, IsGraph}
use Rattle.topo_graph.proofs.FarLemmas.{far_back}
use Rattle.updown.specs.Routes.{is_up_end}
use Rattle.table_build.specs.declared.best.Best.{Best}
use Rattle.table_build.specs.declared.best.Search.{Search}
use Rattle.table_build.specs.declared.link.Link.{Link}
use Rattle.table_build.specs.declared.link.Links.{Links}
use Rattle.table_build.specs.Bests.{Goes, Over, OverBelow, best_at, climbing, cost_of, AreBest, IsBest, IsBetterOf, IsKnown, IsLonger, KnowsFar}
use Rattle.table_build.specs.Links.{AreLinksBelow, AreThose, link_at}
use Rattle.table_build.proofs.GoLemmas.{goes_short, goes_last, goes_on, goes_wider, with_last}
use Rattle.table_build.proofs.BestLemmas.{are_iff, best_iff, best_either, best_longer, best_none}

-- where no way leads to the far place, none goes over the link
pub none_over : (es : List EntryOf) (search : Search) (bests : List (Option Best)) (link : Link) → IsKnown es search bests link → best_at bests link.place ≡ None → IsBest search.any (Over es search link) None
none_over es search bests link known none = λ ps over. (subst (λ (o : Option Best). IsBest search.any (λ qs. Goes es search.up search.down search.from qs link.place) o) none known.best) over.before over.way

-- else they are longer by the link
pub longer_over : (es : List EntryOf) (search : Search) (bests : List (Option Best)) (link : Link) (b c : Best) → IsKnown es search bests link → best_at bests link.place ≡ Some b → IsLonger search.any search.from link.place link.by b c → IsBest search.any (Over es search link) (Some c)
longer_over es search bests link b c known is longer =
    are_iff search.any (λ ps. (qs : List ℕ) × (ps ≡ qs ++ link.by ∷ []) × Goes es search.up search.down search.from qs link.place) (Over es search link) c
    (λ ps (qs, e, w). record { before = qs; ports = e; way = w })
    (λ ps over. (over.before, over.ports, over.way))
    (best_longer search.any (λ qs. Goes es search.up search.down search.from qs link.place) search.from link.place link.by b c (λ same. sym same) (λ same. sym same)
    (subst (λ (o : Option Best). IsBest search.any (λ qs. Goes es search.up search.down search.from qs link.place) o) is known.best) longer)

cost_low : (any : Bool) (ps : List ℕ) → cost_of any ps ≤ length ps
cost_low true ps = omega arith
cost_low false ps = omega arith

-- none costs much
pub cost_before : (es : List EntryOf) (search : Search) (bests : List (Option Best)) (link : Link) (b : Best) → IsGraph es → search.from < length es → IsKnown es search bests link → best_at bests link.place ≡ Some b → b.cost ≤ 251
cost_before es search bests link b graph low known is =
    let best : AreBest search.any (λ qs. Goes es search.up search.down search.from qs link.place) b = subst (λ (o : Option Best). IsBest search.any (λ qs. Goes es search.up search.down search.from qs link.place) o) is known.best in
    let ps = best.way.0 in
    let short = goes_short es search.up search.down ps search.from link.place graph low best.way.1 in
    let cost = cost_low search.any ps in
    let is = best.way.2 in
    omega arith

-- over one link more
pub over_more : (es : List EntryOf) (search : Search) (links : List Link) (k : ℕ) (link : Link) (a b o : Option Best) → link ≡ link_at links k → IsBest search.any (OverBelow es search links k) a → IsBest search.any (Over es search link) b → IsBetterOf a b o → IsBest search.any (OverBelow es search links (k + 1)) o
over_more es search links k link a b o is best best' better =
    best_iff search.any (λ ps. OverBelow es search links k ps ⊎ Over es search link ps) (OverBelow es search links (k + 1)) o
    (λ ps way. elim way [
      | inl below ↦ (below.0, (let l = below.1 in omega arith), below.2)
      | inr here ↦ (k, omega arith, subst (λ (l : Link). Over es search l ps) is here)
    ])
    (λ ps (j, low, over). elim (cases_eq j k) [
      | inl same ↦ inr (subst (λ (l : Link). Over es search l ps) (sym is) (subst (λ (n : ℕ). Over es search (link_at links n) ps) same over))
      | inr other ↦ inl (j, omega arith, over)
    ])
    (best_either search.any (OverBelow es search links k) (Over es search link) a b o best best' better)

-- the far places of the links are known
pub links_known : (es : List EntryOf) (search : Search) (lower : Bool) (bests : List (Option Best)) (y : ℕ) (links : List Link) → IsGraph es → AreThose es y 13 lower links → KnowsFar es search lower bests y → (k : ℕ) → k < length links → IsKnown es search bests (link_at links k)
links_known es search lower bests y links graph are knows k low =
    let link = are.each k low in
    let at = link_at links k in
    let within = graph.within y link.port (at.place, at.by) link.far in
    record { by = (let most = (graph.within at.place at.by (y, link.port) (far_back es y link.port at.place at.by graph link.far)).port_most in omega arith); best = knows.each link.port at.place at.by link.far link.which }

-- the way of no link
pub none_here : (es : List EntryOf) (any : Bool) (from y : ℕ) → y ≡ from → IsBest any (λ ps. Goes es false false from ps y) (Some (record { cost = 0; ports = 0 }))
none_here es any from y here =
    are_iff any (λ ps. (ps ≡ []) × (from ≡ y)) (λ ps. Goes es false false from ps y) (record { cost = 0; ports = 0 })
    (λ ps none. subst (λ (l : List ℕ). Goes es false false from l y) (sym none.0) none.1)
    (λ ps g. stays ps g)
    (best_none any from y (sym here))
  where
    stays : (ps : List ℕ) → Goes es false false from ps y → (ps ≡ []) × (from ≡ y)
    stays [] g = (refl, g)
    stays (p ∷ ps) (z, q, e, inl (is, never, g)) = absurd (cc)
    stays (p ∷ ps) (z, q, e, inr (is, never, g)) = absurd (cc)

pub none_there : (es : List EntryOf) (any : Bool) (from y : ℕ) → y ≢ from → IsBest any (λ ps. Goes es false false from ps y) None
none_there es any from y other [] same = other (sym same)
none_there es any from y other (p ∷ ps) (z, q, e, inl (is, never, g)) = absurd (cc)
none_there es any from y other (p ∷ ps) (z, q, e, inr (is, never, g)) = absurd (cc)

-- a last link is one of the links
last_over : (es : List EntryOf) (search : Search) (lower : Bool) (links : List Link) (y z q r : ℕ) (qs : List ℕ) → IsGraph es → AreThose es y 13 lower links → far_of es z q ≡ Some (y, r) → is_up_end es y z ≡ lower → Goes es search.up search.down search.from qs z → OverBelow es search links (length links) (qs ++ q ∷ [])
last_over es search lower links y z q r qs graph are far which way =
    let e = far_back es z q y r graph far in
    let within = graph.within y r (z, q) e in
    let there = are.whole r z q (let most = within.port_most in omega arith) e which in (
      there.0,
      there.1,
      subst (λ (l : Link). Over es search l (qs ++ q ∷ [])) (sym there.2) (record { before = qs; ports = refl; way = way }),
    )

-- and each of the links may be the last one
over_last : (es : List EntryOf) (search : Search) (lower : Bool) (links : List Link) (y : ℕ) (ps : List ℕ) → IsGraph es → AreThose es y 13 lower links → OverBelow es search links (length links) ps → (z q r : ℕ) × (qs : List ℕ) × (ps ≡ qs ++ q ∷ []) × (far_of es z q ≡ Some (y, r)) × (is_up_end es y z ≡ lower) × Goes es search.up search.down search.from qs z
over_last es search lower links y ps graph are (k, low, over) =
    let link = are.each k low in
    let at = link_at links k in
    (at.place, at.by, link.port, over.before, over.ports, far_back es y link.port at.place at.by graph link.far, link.which, over.way)

-- the ways upward alone: of no link, and over a link to a lower place
pub climbs : (es : List EntryOf) (from : ℕ) (any : Bool) (links : Links) (y : ℕ) (a b o : Option Best) → IsGraph es → AreLinksBelow es y 13 links → IsBest any (λ ps. Goes es false false from ps y) a → IsBest any (OverBelow es (climbing from any) links.lower.items (length links.lower.items)) b → IsBetterOf a b o → IsBest any (λ ps. Goes es true false from ps y) o
climbs es from any links y a b o graph are best best' better =
    best_iff any (λ ps. Goes es false false from ps y ⊎ OverBelow es (climbing from any) links.lower.items (length links.lower.items) ps) (λ ps. Goes es true false from ps y) o
    (λ ps way. elim way [
      | inl none ↦ goes_wider es false true false false ps from y (λ never. absurd (cc)) (λ h. h) none
      | inr over ↦ (let l = over_last es (climbing from any) true links.lower.items y ps graph are.lower over in
          subst (λ (qs : List ℕ). Goes es true false from qs y) (sym l.4) (goes_on es true false l.3 from l.1 y l.0 l.2 l.5 (inl (l.6, refl, l.7))))
    ])
    (λ ps g. split ps g)
    (best_either any (λ ps. Goes es false false from ps y) (OverBelow es (climbing from any) links.lower.items (length links.lower.items)) a b o best best' better)
  where
    split : (ps : List ℕ) → Goes es true false from ps y → Goes es false false from ps y ⊎ OverBelow es (climbing from any) links.lower.items (length links.lower.items) ps
    split ps g = elim (with_last ps) [
      | inl none ↦ inl (subst (λ (l : List ℕ). Goes es false false from l y) (sym none) (subst (λ (l : List ℕ). Goes es true false from l y) none g))
      | inr (qs, q, is) ↦ (
          let l = goes_last es true false qs from q y (subst (λ (l : List ℕ). Goes es true false from l y) is g) in
          elim l.3 [
            | inl up ↦ inr (subst (λ (l : List ℕ). OverBelow es (climbing from any) links.lower.items (length links.lower.items) l) (sym is) (last_over es (climbing from any) true links.lower.items y l.0 q l.1 qs graph are.lower l.2 up.0 up.2))
            | inr down ↦ absurd (let never = down.1 in cc)
          ])
    ]

-- the ways that may lead downward: those that do not, and over a link to a higher place
pub falls : (es : List EntryOf) (search : Search) (links : Links) (y : ℕ) (a b o : Option Best) → IsGraph es → search.down ≡ true → AreLinksBelow es y 13 links → IsBest search.any (λ ps. Goes es search.up false search.from ps y) a → IsBest search.any (OverBelow es search links.upper.items (length links.upper.items)) b → IsBetterOf a b o → IsBest search.any (λ ps. Goes es search.up search.down search.from ps y) o
falls es search links y a b o graph may are best best' better =
    best_iff search.any (λ ps. Goes es search.up false search.from ps y ⊎ OverBelow es search links.upper.items (length links.upper.items) ps) (λ ps. Goes es search.up search.down search.from ps y) o
    (λ ps way. elim way [
      | inl climb ↦ goes_wider es search.up search.up false search.down ps search.from y (λ h. h) (λ never. absurd (cc)) climb
      | inr over ↦ (let l = over_last es search false links.upper.items y ps graph are.upper over in
          subst (λ (qs : List ℕ). Goes es search.up search.down search.from qs y) (sym l.4) (goes_on es search.up search.down l.3 search.from l.1 y l.0 l.2 l.5 (inr (l.6, may, l.7))))
    ])
    (λ ps g. split ps g)
    (best_either search.any (λ ps. Goes es search.up false search.from ps y) (OverBelow es search links.upper.items (length links.upper.items)) a b o best best' better)
  where
    split : (ps : List ℕ) → Goes es search.up search.down search.from ps y → Goes es search.up false search.from ps y ⊎ OverBelow es search links.upper.items (length links.upper.items) ps
    split ps g = elim (with_last ps) [
      | inl none ↦ inl (subst (λ (l : List ℕ). Goes es search.up false search.from l y) (sym none) (subst (λ (l : List ℕ). Goes es search.up search.down search.from l y) none g))
      | inr (qs, q, is) ↦ (
          let l = goes_last es search.up search.down qs search.from q y (subst (λ (l : List ℕ). Goes es search.up search.down search.from l y) is g) in
          elim l.3 [
            | inl up ↦ inl (subst (λ (l : List ℕ). Goes es search.up false search.from l y) (sym is) (goes_on es search.up false qs search.from q y l.0 l.1 l.2 (inl up)))
            | inr down ↦ inr (subst (λ (l : List ℕ). OverBelow es search links.upper.items (length links.upper.items) l) (sym is) (last_over es search false links.upper.items y l.0 q l.1 qs graph are.upper l.2 down.0 down.2))
          ])
    ]
