-- Hops that follow each other under tables of one epoch and root form a legal route.

use Rattle.std.specs.Prelude.{◌≡◌, ◌⊎◌, ◌/◌, ◌<◌, ◌≤◌, ℕ, List, [], ◌∷◌, ◌++◌, All, length, map, cond, slice_index, Option, Some, Bool, true, false, refl}
use Rattle.std.proofs.Common.{sym, ◌∙◌, ap, subst, inl, inr, arith}
use Rattle.std.proofs.lemmas.List.Elements.{All-cons, All-head, All-tail}
use Rattle.an_base.specs.Values.{LifeId, EntryOf, TopoOf}
use Rattle.an_base.specs.declared.event.Event.{Event}
use Rattle.an_base.specs.declared.event.Event.TheVariants.{Move}
use Rattle.net_graph.specs.declared.wiring.Far.{Far}
use Rattle.net_graph.specs.declared.wiring.Far.TheVariants.{Switch, HostAt}
use Rattle.net_graph.specs.Wires.{far_at, far_or_host, far_of as link_far, host_of, uid_of}
use Rattle.net_graph.proofs.CollectLemmas.{uid_one}
use Rattle.net_graph.proofs.FarLemmas.{to_switch}
use Rattle.net_graph.proofs.FarLemmas.{far_back as link_back}
use Rattle.net_script.specs.Scripts.{ScriptOf, IsScript}
use Rattle.topo_graph.specs.Topology.{far_of, life_at, place_of}
use Rattle.topo_graph.proofs.FarLemmas.{far_back, one_place}
use Rattle.topo_graph.proofs.PlaceLemmas.{place_is}
use Rattle.updown.specs.Routes.{LegalRoute}
use Rattle.updown.proofs.RouteLemmas.{down_legal}
use Rattle.table_build.specs.Exits.{Begins, IsEntry, LeadsTo, may_go_up}
use Rattle.table_build.specs.Laws.{Follows}
use Rattle.table_build.proofs.TableLemmas.{one_number}
use Rattle.table_build.proofs.WayLaws.{follow_way}
use Rattle.switch_numbering.proofs.Differing.{length-numbering}
use Rattle.epoch_game.proofs.Basics.{some_same}
use Rattle.host_traffic.specs.Packets.{PacketOf, row_entry}
use Rattle.net_world.specs.Lines.{root_of}
use Rattle.net_world.specs.Traces.{Hopped, IsHopAt, IsHopOf, LeadAlong, AreLegalRoutes}
use Rattle.net_world.specs.Clauses.{FinishedAt, IsTopology}
use Rattle.net_world.specs.Histories.{switch_after}
use Rattle.net_world.proofs.LawLemmas.{world_is_sound}
use Rattle.net_game.proofs.Firm.{places, AreFirm}
use Rattle.net_game.proofs.ClauseLemmas.{one_picture, topologies}
use Rattle.net_game.proofs.MetLemmas.{boots_rise, far_fits, life_by_boot}
use Rattle.net_game.proofs.NodeLemmas.{MetAt, far_met}
use Rattle.net_game.proofs.GoingLemmas.{IsRowIn, row_at, begins_far, hop_low, hop_finished, IsHop, IsNext, AreNext, IsChain, going}
use Rattle.net_game.proofs.HistoryLemmas.{beginnings}
use Rattle.net_game.proofs.EachLemmas.{Each, all_from}

-- a life is at one place
place_by_life : (script : ScriptOf) → IsScript script → (g h : List Event) (s t : ℕ) → s < places script → t < places script → (switch_after script g s).life ≡ (switch_after script h t).life → s ≡ t
place_by_life script kept g h s t s_low t_low same =
    let uid : uid_of script.wires.switches s ≡ uid_of script.wires.switches t =
    ap (λ (l : LifeId). l.uid) (sym ((world_is_sound script kept g).places s s_low).life ∙ same ∙ ((world_is_sound script kept h).places t t_low).life) in
    uid_one script.wires s t kept.wired s_low t_low uid

-- What lives met at the place of one of them
record MetHere (script : ScriptOf) (n : List Event) (s : ℕ) (x : LifeId) (p : ℕ) (y : LifeId) (q : ℕ) (t : ℕ) (r : ℕ) : Type 0 where
  port : q ≡ r
  before : List Event
  later : List Event
  parts : n ≡ before ++ later
  here : (switch_after script before s).life ≡ x
  there : (switch_after script before t).life ≡ y

met_here : (script : ScriptOf) → IsScript script → (n g : List Event) (s p t r : ℕ) (x y : LifeId) (q : ℕ) → s < places script → (switch_after script g s).life ≡ x → far_at script.wires s p ≡ Some (Switch t r) → MetAt script n x p (record { life = y; port = q }) → MetHere script n s x p y q t r
met_here script kept n g s p t r x y q low now far at =
    let m = at.met in
    let place : at.place ≡ s = place_by_life script kept m.before g at.place s at.low low (m.here ∙ sym now) in
    let link = some_same (Switch m.other q) (Switch t r) (sym m.wired ∙ ap (λ a. far_at script.wires a p) place ∙ far) in
    record {
      port = ap (λ (f : Far). port_in f) link;
      before = m.before;
      later = m.later;
      parts = m.parts;
      here = ap (λ a. (switch_after script m.before a).life) (sym place) ∙ m.here;
      there = ap (λ (f : Far). (switch_after script m.before (place_in f)).life) (sym link) ∙ m.there;
    }
  where
    place_in : Far → ℕ
    place_in (Switch a b) = a
    place_in (HostAt a) = 0

    port_in : Far → ℕ
    port_in (Switch a b) = b
    port_in (HostAt a) = 0

-- A hop with what its table is of
record IsOf (script : ScriptOf) (lives : List LifeId) (h : List Event) (k : ℕ) (t : TopoOf) (x : Hopped) : Type 0 where
  of : IsHopOf script h k x
  topo : x.topo ≡ t

-- Where a hop leads in the topology, the next one begins
hop_links : (script : ScriptOf) (lives : List LifeId) → length lives ≤ 126 → IsScript script → AreFirm script lives → (h : List Event) (k : ℕ) (t : TopoOf) (x y : Hopped) (a b : ℕ) → IsOf script lives h k t x → (later : IsOf script lives h k t y)
    → later.of.made.packet.is_new ≡ false → IsNext script x y → place_of t.entries x.life ≡ Some a → place_of t.entries y.life ≡ Some b → (c q : ℕ) → far_of t.entries a x.exit ≡ Some (c, q) → (d p : ℕ) → far_of t.entries b y.entry ≡ Some (d, p)
    → far_of t.entries a x.exit ≡ Some (b, y.entry)
hop_links script lives few kept firm h k t x y a b of_x of_y old next at_a at_b c q far d p back =
    by (beginnings one.before two.before one.later two.later (sym one.parts ∙ two.parts))
  where
    mx : IsHopAt script of_x.of.before k x
    mx = of_x.of.made

    my : IsHopAt script of_y.of.before k y
    my = of_y.of.made

    n : List Event
    n = of_x.of.before

    m : List Event
    m = of_y.of.before

    x_low : x.place < places script
    x_low = hop_low script kept n k x mx

    y_low : y.place < places script
    y_low = hop_low script kept m k y my

    done_x : FinishedAt script n x.life x.epoch t
    done_x = subst (FinishedAt script n x.life x.epoch) of_x.topo (hop_finished script kept n k x mx)

    done_y : FinishedAt script m y.life y.epoch t
    done_y = subst (FinishedAt script m y.life y.epoch) of_y.topo (hop_finished script kept m k y my)

    is : IsTopology x.life t
    is = topologies script lives few kept firm n x.life x.epoch t done_x

    place_a : (a < length t.entries) × (life_at t.entries a ≡ x.life)
    place_a = place_is t.entries a x.life at_a

    place_b : (b < length t.entries) × (life_at t.entries b ≡ y.life)
    place_b = place_is t.entries b y.life at_b

    there : far_at script.wires y.place y.entry ≡ Some (Switch x.place x.exit)
    there =
        ap (λ (o : Option (ℕ × ℕ)). far_or_host o (host_of script.wires.hosts y.place y.entry))
        (link_back script.wires kept.wired x.place x.exit y.place y.entry (to_switch (link_far script.wires.links x.place x.exit) (host_of script.wires.hosts x.place x.exit) y.place y.entry next))

    -- what they met by the time of the first hop, and by that of the second
    one : MetHere script n x.place x.life x.exit (life_at t.entries c) q y.place y.entry
    one = met_here script kept n n x.place x.exit y.place y.entry x.life (life_at t.entries c) q x_low mx.life next
        (subst (λ (l : LifeId). MetAt script n l x.exit (record { life = life_at t.entries c; port = q })) place_a.1 (far_met script lives few kept firm n x.life x.epoch t done_x is.graph.rising a x.exit c q far))

    two : MetHere script n y.place y.life y.entry (life_at t.entries d) p x.place x.exit
    two = met_here script kept n m y.place y.entry x.place x.exit y.life (life_at t.entries d) p y_low my.life there
        (subst (λ (l : LifeId). MetAt script n l y.entry (record { life = life_at t.entries d; port = p })) place_b.1 (far_met script lives few kept firm n x.life x.epoch t done_x is.graph.rising b y.entry d p back))

    three : MetHere script m x.place x.life x.exit (life_at t.entries c) q y.place y.entry
    three = met_here script kept m n x.place x.exit y.place y.entry x.life (life_at t.entries c) q x_low mx.life next
        (subst (λ (l : LifeId). MetAt script m l x.exit (record { life = life_at t.entries c; port = q })) place_a.1 (far_met script lives few kept firm m y.life y.epoch t done_y is.graph.rising a x.exit c q far))

    c_low : c < length t.entries
    c_low = (is.graph.within a x.exit (c, q) far).far_place

    d_low : d < length t.entries
    d_low = (is.graph.within b y.entry (d, p) back).far_place

    up : (g later : List Event) (s : ℕ) → (switch_after script g s).life.boot ≤ (switch_after script (g ++ later) s).life.boot
    up g later s = boots_rise script g later s

    boot : (l r : LifeId) → l ≡ r → l.boot ≡ r.boot
    boot l r same = ap (λ (z : LifeId). z.boot) same

    by : ((r : List Event) × (two.before ≡ one.before ++ r)) ⊎ ((r : List Event) × (one.before ≡ two.before ++ r)) → far_of t.entries a x.exit ≡ Some (b, y.entry)
    by (inl r) =
        -- the life at the far end of the entry is the one that made the hop
        let first : (switch_after script one.before x.place).life.boot ≤ (switch_after script two.before x.place).life.boot = subst (λ (g : List Event). (switch_after script one.before x.place).life.boot ≤ (switch_after script g x.place).life.boot) (sym r.1) (up one.before r.0 x.place) in
        let last : (switch_after script two.before x.place).life.boot ≤ (switch_after script n x.place).life.boot = subst (λ (g : List Event). (switch_after script two.before x.place).life.boot ≤ (switch_after script g x.place).life.boot) (sym two.parts) (up two.before two.later x.place) in
        let same = boot (switch_after script one.before x.place).life (switch_after script n x.place).life (one.here ∙ sym mx.life) in
        let boots : (switch_after script two.before x.place).life.boot ≡ (switch_after script n x.place).life.boot = omega (arith, first, last, same) in
        let life : life_at t.entries d ≡ life_at t.entries a = sym two.there ∙ life_by_boot script kept two.before n x.place x_low boots ∙ mx.life ∙ sym place_a.1 in
        let place : d ≡ a = one_place t.entries d a is.graph.rising d_low place_a.0 life in
        far_back t.entries b y.entry a x.exit is.graph (back ∙ ap (λ z. Some (z, p)) place ∙ ap (λ z. Some (a, z)) two.port)
    by (inr r) =
        -- the life at the far end of the exit is the one that makes the next hop
        let first : (switch_after script two.before y.place).life.boot ≤ (switch_after script one.before y.place).life.boot = subst (λ (g : List Event). (switch_after script two.before y.place).life.boot ≤ (switch_after script g y.place).life.boot) (sym r.1) (up two.before r.0 y.place) in
        let last : (switch_after script three.before y.place).life.boot ≤ (switch_after script m y.place).life.boot = subst (λ (g : List Event). (switch_after script three.before y.place).life.boot ≤ (switch_after script g y.place).life.boot) (sym three.parts) (up three.before three.later y.place) in
        let mine = boot (switch_after script two.before y.place).life (switch_after script m y.place).life (two.here ∙ sym my.life) in
        let far_one = boot (switch_after script one.before y.place).life (switch_after script three.before y.place).life (one.there ∙ sym three.there) in
        let boots : (switch_after script three.before y.place).life.boot ≡ (switch_after script m y.place).life.boot = omega (arith, first, last, mine, far_one) in
        let life : life_at t.entries c ≡ life_at t.entries b = sym three.there ∙ life_by_boot script kept three.before m y.place y_low boots ∙ my.life ∙ sym place_b.1 in
        let place : c ≡ b = one_place t.entries c b is.graph.rising c_low place_b.0 life in
        far ∙ ap (λ z. Some (z, q)) place ∙ ap (λ z. Some (b, z)) one.port

-- the row of a hop in the topology of its table
row_of : (script : ScriptOf) (lives : List LifeId) (h : List Event) (k : ℕ) (t : TopoOf) (x : Hopped) (of_x : IsOf script lives h k t x) → IsRowIn script t x.life x.exit (row_entry of_x.of.made.packet) (of_x.of.made.packet.address / 16)
row_of script lives h k t x of_x = subst (λ (u : TopoOf). IsRowIn script u x.life x.exit (row_entry of_x.of.made.packet) (of_x.of.made.packet.address / 16)) of_x.topo (row_at script of_x.of.before k x of_x.of.made)

-- the number of a member is told by its place
to_one : (life : LifeId) (t : TopoOf) (a b n : ℕ) → IsTopology life t → a < length t.entries → b < length t.entries → n ≡ slice_index t.numbers a → n ≡ slice_index t.numbers b → a ≡ b
to_one life t a b n is a_low b_low at_a at_b =
    let size = ap (length {A = ℕ}) is.numbers ∙ length-numbering t.entries in
    one_number t.numbers a b is.different (omega (arith, size, a_low)) (omega (arith, size, b_low)) (sym at_a ∙ at_b)

-- What hops follow
record IsRoute (script : ScriptOf) (t : TopoOf) (to entry : ℕ) (x : Hopped) (ys : List Hopped) : Type 0 where
  start : ℕ
  start_is : place_of t.entries x.life ≡ Some start
  end : ℕ
  out : ℕ
  follows : Follows t.entries script.any_routes to start entry (map (λ y. y.exit) (x ∷ ys)) end out
  along : LeadAlong t.entries start (x ∷ ys) end

old_entry : (p : PacketOf) (n : ℕ) → p.is_new ≡ false → p.entry ≡ n → row_entry p ≡ n
old_entry p n old is = ap (λ (b : Bool). cond b 0 p.entry) old ∙ is

entry_far : (es : List EntryOf) (b n : ℕ) → 1 ≤ n → IsEntry es b n → (far : ℕ × ℕ) × (far_of es b n ≡ Some far)
entry_far es b n least (inl none) = absurd (omega (arith, least, none))
entry_far es b n least (inr far) = far

-- the way of a hop towards the member to which the packet goes
record IsWay (script : ScriptOf) (t : TopoOf) (to entry : ℕ) (x : Hopped) : Type 0 where
  place : ℕ
  place_is : place_of t.entries x.life ≡ Some place
  mine : life_at t.entries place ≡ x.life
  entry_is : IsEntry t.entries place entry
  begins : Begins t.entries script.any_routes (may_go_up t.entries place entry) place to x.exit
  far : (z : ℕ) × (q : ℕ) × (far_of t.entries place x.exit ≡ Some (z, q))

way_of : (script : ScriptOf) (lives : List LifeId) → length lives ≤ 126 → IsScript script → AreFirm script lives → (h : List Event) (k address : ℕ) (t : TopoOf) (to : ℕ) → to < length t.entries → address / 16 ≡ slice_index t.numbers to
    → (x : Hopped) (of_x : IsOf script lives h k t x) → of_x.of.made.packet.address ≡ address → IsWay script t to (row_entry of_x.of.made.packet) x
way_of script lives few kept firm h k address t to to_low to_is x of_x address_is =
    let entry = row_entry of_x.of.made.packet in
    let row = row_of script lives h k t x of_x in
    let is : IsTopology x.life t = topologies script lives few kept firm of_x.of.before x.life x.epoch t (subst (FinishedAt script of_x.of.before x.life x.epoch) of_x.topo (hop_finished script kept of_x.of.before k x of_x.of.made)) in
    let target : row.to ≡ to = to_one x.life t row.to to (address / 16) is row.to_low to_low (ap (λ n. n / 16) (sym address_is) ∙ row.number_is) to_is in
    let begins : Begins t.entries script.any_routes (may_go_up t.entries row.place entry) row.place to x.exit = subst (λ (n : ℕ). Begins t.entries script.any_routes (may_go_up t.entries row.place entry) row.place n x.exit) target row.begins in
    record {
      place = row.place;
      place_is = row.place_is;
      mine = (place_is t.entries row.place x.life row.place_is).1;
      entry_is = row.entry_is;
      begins = begins;
      far = begins_far t.entries script.any_routes (may_go_up t.entries row.place entry) row.place to x.exit begins;
    }

route_alone : (script : ScriptOf) (lives : List LifeId) → length lives ≤ 126 → IsScript script → AreFirm script lives → (h : List Event) (k address : ℕ) (t : TopoOf) (to : ℕ) → to < length t.entries → address / 16 ≡ slice_index t.numbers to
    → (x : Hopped) (of_x : IsOf script lives h k t x) → of_x.of.made.packet.address ≡ address → IsRoute script t to (row_entry of_x.of.made.packet) x []
route_alone script lives few kept firm h k address t to to_low to_is x of_x address_is =
    let way = way_of script lives few kept firm h k address t to to_low to_is x of_x address_is in
    record {
      start = way.place;
      start_is = way.place_is;
      end = way.far.0;
      out = way.far.1;
      follows = (way.begins, (way.far.0, way.far.1, way.far.2, (refl, refl)));
      along = (way.mine, (way.far.0, way.far.1, way.far.2, refl));
    }

route_on : (script : ScriptOf) (lives : List LifeId) → length lives ≤ 126 → IsScript script → AreFirm script lives → (h : List Event) (k address : ℕ) (t : TopoOf) (to : ℕ) → to < length t.entries → address / 16 ≡ slice_index t.numbers to
    → (x : Hopped) (of_x : IsOf script lives h k t x) → of_x.of.made.packet.address ≡ address → (y : Hopped) (zs : List Hopped) (of_y : IsOf script lives h k t y) → of_y.of.made.packet.is_new ≡ false → IsNext script x y
    → IsRoute script t to (row_entry of_y.of.made.packet) y zs → IsRoute script t to (row_entry of_x.of.made.packet) x (y ∷ zs)
route_on script lives few kept firm h k address t to to_low to_is x of_x address_is y zs of_y old next rest =
    let way = way_of script lives few kept firm h k address t to to_low to_is x of_x address_is in
    let made = of_y.of.made in
    let entry_is : row_entry made.packet ≡ y.entry = old_entry made.packet y.entry old made.entry in
    let after = row_of script lives h k t y of_y in
    let place : after.place ≡ rest.start = some_same after.place rest.start (sym after.place_is ∙ rest.start_is) in
    let least = (far_fits script kept x.place x.exit y.place y.entry next).port_least in
    let back = entry_far t.entries rest.start y.entry least (subst (λ (e : ℕ). IsEntry t.entries rest.start e) entry_is (subst (λ (b : ℕ). IsEntry t.entries b (row_entry made.packet)) place after.entry_is)) in
    let link = hop_links script lives few kept firm h k t x y way.place rest.start of_x of_y old next way.place_is rest.start_is way.far.0 way.far.1 way.far.2 back.0.0 back.0.1 back.1 in
    record {
      start = way.place;
      start_is = way.place_is;
      end = rest.end;
      out = rest.out;
      follows = (way.begins, (rest.start, y.entry, link, subst (λ (e : ℕ). Follows t.entries script.any_routes to rest.start e (map (λ z. z.exit) (y ∷ zs)) rest.end rest.out) entry_is rest.follows));
      along = (way.mine, (rest.start, y.entry, link, rest.along));
    }

routes : (script : ScriptOf) (lives : List LifeId) → length lives ≤ 126 → IsScript script → AreFirm script lives → (h : List Event) (k address : ℕ) (t : TopoOf) (to : ℕ) → to < length t.entries → address / 16 ≡ slice_index t.numbers to
    → (ys : List Hopped) (x : Hopped) (of_x : IsOf script lives h k t x) → of_x.of.made.packet.address ≡ address → AreNext script h k address x ys → Each (λ y. y.topo ≡ t) ys → IsRoute script t to (row_entry of_x.of.made.packet) x ys
routes script lives few kept firm h k address t to to_low to_is [] x of_x address_is next same = route_alone script lives few kept firm h k address t to to_low to_is x of_x address_is
routes script lives few kept firm h k address t to to_low to_is (y ∷ zs) x of_x address_is next same =
    let of_y : IsOf script lives h k t y = record { of = next.1.is_hop.of; topo = same.0 } in
    route_on script lives few kept firm h k address t to to_low to_is x of_x address_is y zs of_y next.1.old next.0 (routes script lives few kept firm h k address t to to_low to_is zs y of_y next.1.is_hop.address_is next.2 same.1)

-- A part of a chain
next_front : (script : ScriptOf) (h : List Event) (k address : ℕ) (x : Hopped) (ys zs : List Hopped) → AreNext script h k address x (ys ++ zs) → AreNext script h k address x ys
next_front script h k address x [] zs all = tt
next_front script h k address x (y ∷ ys) zs all = (all.0, all.1, next_front script h k address y ys zs all.2)

next_part : (script : ScriptOf) (h : List Event) (k address : ℕ) (x : Hopped) (ys : List Hopped) (y : Hopped) (zs more : List Hopped) → AreNext script h k address x (ys ++ (y ∷ zs) ++ more) → IsHop script h k address y × AreNext script h k address y zs
next_part script h k address x [] y zs more all = (all.1.is_hop, next_front script h k address y zs more all.2)
next_part script h k address x (z ∷ ys) y zs more all = next_part script h k address z ys y zs more all.2

chain_part : (script : ScriptOf) (h : List Event) (k address : ℕ) (xs : List Hopped) (y : Hopped) (zs more : List Hopped) → IsChain script h k address (xs ++ (y ∷ zs) ++ more) → IsHop script h k address y × AreNext script h k address y zs
chain_part script h k address [] y zs more all = (all.0, next_front script h k address y zs more all.1)
chain_part script h k address (x ∷ xs) y zs more all = next_part script h k address x xs y zs more all.1

-- hops under tables of one epoch and root are under tables of one topology
hop_done : (script : ScriptOf) → IsScript script → (h : List Event) (k : ℕ) (x : Hopped) → IsHopOf script h k x → FinishedAt script h x.life x.epoch x.topo
hop_done script kept h k x of = record {
  before = of.before;
  later = Move k ∷ of.later;
  moment = of.parts;
  place = x.place;
  within = hop_low script kept of.before k x of.made;
  life_is = of.made.life;
  epoch_is = of.made.present;
  finished = of.made.finished;
}

abbrev IsUnder : ℕ → LifeId → Hopped → Type 0
IsUnder epoch root x = (x.epoch ≡ epoch) × (root_of x.topo ≡ root)

one_topo : (script : ScriptOf) (lives : List LifeId) → length lives ≤ 126 → IsScript script → AreFirm script lives → (h : List Event) (k epoch : ℕ) (root : LifeId) (x y : Hopped) → IsHopOf script h k x → IsHopOf script h k y → IsUnder epoch root x → IsUnder epoch root y → y.topo ≡ x.topo
one_topo script lives few kept firm h k epoch root x y of_x of_y under_x under_y =
    one_picture script lives few kept firm h y.life x.life epoch y.topo x.topo
    (subst (λ (n : ℕ). FinishedAt script h y.life n y.topo) under_y.0 (hop_done script kept h k y of_y))
    (subst (λ (n : ℕ). FinishedAt script h x.life n x.topo) under_x.0 (hop_done script kept h k x of_x))
    (under_y.1 ∙ sym under_x.1)

all_one : (script : ScriptOf) (lives : List LifeId) → length lives ≤ 126 → IsScript script → AreFirm script lives → (h : List Event) (k address epoch : ℕ) (root : LifeId) (x : Hopped) → IsHopOf script h k x → IsUnder epoch root x
    → (z : Hopped) (ys : List Hopped) → AreNext script h k address z ys → All (IsUnder epoch root) ys → Each (λ y. y.topo ≡ x.topo) ys
all_one script lives few kept firm h k address epoch root x of_x under z [] next all = tt
all_one script lives few kept firm h k address epoch root x of_x under z (y ∷ ys) next all = (
  one_topo script lives few kept firm h k epoch root x y of_x next.1.is_hop.of under (All-head (IsUnder epoch root) y ys all),
  all_one script lives few kept firm h k address epoch root x of_x under y ys next.2 (All-tail (IsUnder epoch root) y ys all),
)

is_legal : (es : List EntryOf) (up : Bool) (x y : ℕ) (ps : List ℕ) → LeadsTo es up x ps y → LegalRoute es x ps y
is_legal es true x y ps way = way
is_legal es false x y ps way = down_legal es x ps y way

-- so they form a legal route
pub legal_routes : (script : ScriptOf) (lives : List LifeId) → length lives ≤ 126 → IsScript script → AreFirm script lives → (h : List Event) → AreLegalRoutes script h
legal_routes script lives few kept firm h k epoch root earlier later first hops is all =
    let go = going script lives few kept firm k h in
    let part = chain_part script h k go.address earlier first hops later (subst (IsChain script h k go.address) is go.chain) in
    let t = first.topo in
    let of_first : IsOf script lives h k t first = record { of = part.0.of; topo = refl } in
    let same = all_one script lives few kept firm h k go.address epoch root first part.0.of (All-head (IsUnder epoch root) first hops all) first hops part.1 (All-tail (IsUnder epoch root) first hops all) in
    let row = row_of script lives h k t first of_first in
    let route = routes script lives few kept firm h k go.address t row.to row.to_low (ap (λ n. n / 16) (sym part.0.address_is) ∙ row.number_is) hops first of_first part.0.address_is part.1 same in
    let topology : IsTopology first.life t = topologies script lives few kept firm h first.life first.epoch t (hop_done script kept h k first part.0.of) in
    let entry = row_entry part.0.of.made.packet in
    record {
      same = All-cons (λ y. y.topo ≡ t) first hops refl (all_from (λ y. y.topo ≡ t) hops same);
      from = route.start;
      to = route.end;
      along = route.along;
      legal = is_legal t.entries (may_go_up t.entries route.start entry) route.start route.end (map (λ y. y.exit) (first ∷ hops))
          (follow_way t.entries script.any_routes row.to route.start entry route.end route.out (map (λ y. y.exit) (first ∷ hops)) topology.graph route.follows);
    }
