-- The steps of the graph are the turns that packets may take.
use Rattle.std.proofs.Common.{◌≡◌, ◌∙◌, sym, ap, subst, refl, ℕ, ◌+◌, ◌-◌, ◌*◌, ◌<◌, Bool, true, false, List, Option, cond, ltb, arith, length, get_or, inl, inr, ◌⊎◌, ◌↔◌, Some, None}
use Rattle.std.specs.Prelude.{IsTrue, MatchOption, is_some, not}
use Rattle.std.proofs.lemmas.Bool.{cases_eq, cases_lt, false≢true}
use Rattle.std.proofs.lemmas.Bool.Decides.{nat_tests}
use Rattle.std.proofs.Math.Nat.{lt_of_mul-lt-mul_right}
use Rattle.common_graph.specs.Graph.{GraphOf, LeadsTo}
use Rattle.fabric_tables.specs.Cells.{CellsOf, TablesOf, place_of, port_of, tables_of}
use Rattle.fabric_model.specs.Fabric.{FabricOf, IsFabric, switch_count}
use Rattle.fabric_routes.specs.declared.hop.Hop.{Hop}
use Rattle.fabric_routes.specs.declared.hop.Hop.TheVariants.{On}
use Rattle.fabric_routes.specs.Found.{IsChannel, number}
use Rattle.fabric_routes.specs.Routes.{Channel, hop, hop_by}
use Rattle.fabric_routes.specs.Waves.{IsGraphOf}
use Rattle.fabric_routes.proofs.ChannelLemmas.{channel_place, on_link, one_channel}
use Rattle.fabric_mixtures.specs.declared.turn.By.{By}
use Rattle.fabric_mixtures.specs.Mixtures.{MayBeFollowed, MayTake}
use Rattle.fabric_mixtures.specs.Steps.{ArePast, AreSteps, IsGrown, IsTurnAt, IsTurnBelow, IsTurnBy, IsTurnFrom, IsTurnTo, by_of}
use Rattle.fabric_mixtures.specs.Verdict.{GoesBy, IsBy, IsTurn}
use Rattle.fabric_mixtures.proofs.MixtureLemmas.{hop_same}
use Rattle.fabric_mixtures.proofs.GrowLemmas.{grown_as, grown_more, grown_none}

-- the switch of a channel is one of the fabric
low : (fabric : FabricOf) → IsFabric fabric → (channel : Channel) → IsChannel fabric channel → channel.switch < switch_count fabric
low fabric fits channel is =
    let place = channel_place fabric fits channel is in
    let less : channel.switch * fabric.most < switch_count fabric * fabric.most = omega arith in
    lt_of_mul-lt-mul_right fabric.most less

-- the steps that a graph without any has gained are those between channels
all_steps : (fabric : FabricOf) (Step : Channel → Channel → Type 0) → ((channel next : Channel) → Step channel next → IsChannel fabric channel × IsChannel fabric next) → (old new : GraphOf) → IsGraphOf fabric old → ((one other : ℕ) → LeadsTo old one other → ⊥) → new.bases ≡ old.bases → ((one other : ℕ) → (LeadsTo new one other ↔ (LeadsTo old one other ⊎ ((channel next : Channel) × Step channel next × (one ≡ number fabric channel) × (other ≡ number fabric next))))) → AreSteps fabric Step new
all_steps fabric Step both old new rows none bases leads_by = record {
  count = ap (λ (xs : List ℕ). length xs) bases ∙ rows.count;
  exact = λ channel next is_channel is_next. (
    λ leads. elim ((leads_by (number fabric channel) (number fabric next)).0 leads) [
      | inl had ↦ absurd (none (number fabric channel) (number fabric next) had)
      | inr (one, other, step, is_one, is_other) ↦ (
          let are = both one other step in
          let first = one_channel fabric channel one is_channel are.0 is_one in
          let second = one_channel fabric next other is_next are.1 is_other in
          subst (λ (a : Channel). Step a next) (sym first) (subst (λ (b : Channel). Step one b) (sym second) step))
    ],
    λ step. (leads_by (number fabric channel) (number fabric next)).1 (inr (channel, next, step, refl, refl)),
  );
  only = λ one other leads. elim ((leads_by one other).0 leads) [
    | inl had ↦ absurd (none one other had)
    | inr (channel, next, step, is_one, is_other) ↦ (channel, next, (both channel next step).0, (both channel next step).1, is_one, is_other)
  ];
}

-- one turn is put in
pub turn_put : (fabric : FabricOf) (first second : TablesOf) (lid at port next next_port after : ℕ) (old new : GraphOf) → hop fabric first at lid ≡ On port next → hop fabric second next lid ≡ On next_port after → ((one other : ℕ) → (LeadsTo new one other ↔ (LeadsTo old one other ⊎ ((one ≡ at * fabric.most + (port - 1)) × (other ≡ next * fabric.most + (next_port - 1)))))) → new.wide ≡ old.wide → new.bases ≡ old.bases → IsGrown (IsTurnBy fabric first second lid at) old new
turn_put fabric first second lid at port next next_port after old new on next_on put wide bases = record {
  leads = λ one other. (
    λ has. elim ((put one other).0 has) [
      | inl had ↦ inl had
      | inr (is_one, is_other) ↦ inr (record { port = port; next = next; on = on; next_port = next_port; after = after; next_on = next_on; is_one = is_one; is_other = is_other })
    ],
    λ either. elim either [
      | inl had ↦ (put one other).1 (inl had)
      | inr turn ↦ (put one other).1 (inr (
          let there = turn.on in
          let p : turn.port ≡ port = cc in
          let n : turn.next ≡ next = cc in
          let further = turn.next_on in
          let q : turn.next_port ≡ next_port = cc in
          let a = turn.is_one in
          let b = turn.is_other in
          (cc, cc)))
    ],
  );
  wide = wide;
  bases = bases;
}

-- a switch that sends what goes to a LID on has a row for it
no_row : (fabric : FabricOf) (switch lid port next : ℕ) → hop_by fabric switch lid None ≡ On port next → ⊥
no_row fabric switch lid port next on = cc

has_row : (fabric : FabricOf) (tables : TablesOf) (switch lid port next : ℕ) → hop fabric tables switch lid ≡ On port next → tables switch lid ≡ None → ⊥
unfolding hop
has_row fabric tables switch lid port next on none = no_row fabric switch lid port next (sym (ap (λ (told : Option ℕ). hop_by fabric switch lid told) none) ∙ on)

pub no_port : (port told : Option ℕ) (none : Bool) → port ≡ told → is_some port ≡ not none → none ≡ true → told ≡ None
no_port port told none is says so = sym is ∙ by port (says ∙ ap not so)
  where
    by : (p : Option ℕ) → is_some p ≡ false → p ≡ None
    by None free = refl
    by (Some n) free = absurd (false≢true (sym free))

-- there is none, since one of the hops does not go on
pub first_ends : (fabric : FabricOf) (first second : TablesOf) (lid at : ℕ) (graph : GraphOf) → ((port next : ℕ) → hop fabric first at lid ≡ On port next → ⊥) → IsGrown (IsTurnBy fabric first second lid at) graph graph
first_ends fabric first second lid at graph ends = grown_none (IsTurnBy fabric first second lid at) graph (λ one other turn. ends turn.port turn.next turn.on)

pub second_ends : (fabric : FabricOf) (first second : TablesOf) (lid at port next : ℕ) (graph : GraphOf) → hop fabric first at lid ≡ On port next → ((next_port after : ℕ) → hop fabric second next lid ≡ On next_port after → ⊥) → IsGrown (IsTurnBy fabric first second lid at) graph graph
second_ends fabric first second lid at port next graph on ends = grown_none (IsTurnBy fabric first second lid at) graph (λ one other turn.
    let there = turn.on in
    let n : turn.next ≡ next = cc in
    ends turn.next_port turn.after (subst (λ (s : ℕ). hop fabric second s lid ≡ On turn.next_port turn.after) n turn.next_on))

module _ (fabric : FabricOf) (old new : TablesOf) where
  -- a turn by one of the tables and then by one of them
  turn_by : (first second : TablesOf) (lid at one other : ℕ) → ((switch port next : ℕ) → hop fabric first switch lid ≡ On port next → MayTake fabric old new lid switch port next) → ((switch port next : ℕ) → hop fabric second switch lid ≡ On port next → MayTake fabric old new lid switch port next) → IsTurnBy fabric first second lid at one other → IsTurnAt fabric old new lid at one other
  turn_by first second lid at one other may next_may turn = record {
    port = turn.port;
    next = turn.next;
    on = may at turn.port turn.next turn.on;
    next_port = turn.next_port;
    after = turn.after;
    next_on = next_may turn.next turn.next_port turn.after turn.next_on;
    is_one = turn.is_one;
    is_other = turn.is_other;
  }

  -- by which of the two the first is taken
  pub from_which : (lid at one other : ℕ) → IsTurnAt fabric old new lid at one other → IsTurnFrom fabric old old new lid at one other ⊎ IsTurnFrom fabric new old new lid at one other
  from_which lid at one other turn = by turn.on turn.next_on
    where
      of : (first second : TablesOf) → hop fabric first at lid ≡ On turn.port turn.next → hop fabric second turn.next lid ≡ On turn.next_port turn.after → IsTurnBy fabric first second lid at one other
      of first second on next_on = record { port = turn.port; next = turn.next; on = on; next_port = turn.next_port; after = turn.after; next_on = next_on; is_one = turn.is_one; is_other = turn.is_other }

      by : MayTake fabric old new lid at turn.port turn.next → MayTake fabric old new lid turn.next turn.next_port turn.after → IsTurnFrom fabric old old new lid at one other ⊎ IsTurnFrom fabric new old new lid at one other
      by (inl on) (inl next_on) = inl (inl (of old old on next_on))
      by (inl on) (inr next_on) = inl (inr (of old new on next_on))
      by (inr on) (inl next_on) = inr (inl (of new old on next_on))
      by (inr on) (inr next_on) = inr (inr (of new new on next_on))

  from_old : (lid at one other : ℕ) → IsTurnFrom fabric old old new lid at one other → IsTurnAt fabric old new lid at one other
  from_old lid at one other (inl turn) = turn_by old old lid at one other (λ s p n on. inl on) (λ s p n on. inl on) turn
  from_old lid at one other (inr turn) = turn_by old new lid at one other (λ s p n on. inl on) (λ s p n on. inr on) turn

  from_new : (lid at one other : ℕ) → IsTurnFrom fabric new old new lid at one other → IsTurnAt fabric old new lid at one other
  from_new lid at one other (inl turn) = turn_by new old lid at one other (λ s p n on. inr on) (λ s p n on. inl on) turn
  from_new lid at one other (inr turn) = turn_by new new lid at one other (λ s p n on. inr on) (λ s p n on. inr on) turn

  pub each_way : (first : TablesOf) (lid at : ℕ) (a b c : GraphOf) → IsGrown (IsTurnBy fabric first old lid at) a b → IsGrown (IsTurnBy fabric first new lid at) b c → IsGrown (IsTurnFrom fabric first old new lid at) a c
  each_way first lid at a b c one two = grown_more (IsTurnBy fabric first old lid at) (IsTurnBy fabric first new lid at) (IsTurnFrom fabric first old new lid at) a b c (λ one other either. either) (λ one other turn. inl turn) (λ one other turn. inr turn) one two

  pub both_ways : (lid at : ℕ) (a b c : GraphOf) → IsGrown (IsTurnFrom fabric old old new lid at) a b → IsGrown (IsTurnFrom fabric new old new lid at) b c → IsGrown (IsTurnAt fabric old new lid at) a c
  both_ways lid at a b c one two = grown_more (IsTurnFrom fabric old old new lid at) (IsTurnFrom fabric new old new lid at) (IsTurnAt fabric old new lid at) a b c (from_which lid at) (from_old lid at) (from_new lid at) one two

  -- the new tables have the same port, or neither has one
  pub same_way : (lid at : ℕ) (a b : GraphOf) → old at lid ≡ new at lid → IsGrown (IsTurnFrom fabric old old new lid at) a b → IsGrown (IsTurnAt fabric old new lid at) a b
  same_way lid at a b same grown = grown_as (IsTurnFrom fabric old old new lid at) (IsTurnAt fabric old new lid at) a b (λ one other turn. elim (from_which lid at one other turn) [
    | inl is ↦ is
    | inr (inl is) ↦ inl (as_old old one other is)
    | inr (inr is) ↦ inr (as_old new one other is)
  ]) (from_old lid at) grown
    where
      as_old : (second : TablesOf) (one other : ℕ) → IsTurnBy fabric new second lid at one other → IsTurnBy fabric old second lid at one other
      as_old second one other turn = record { port = turn.port; next = turn.next; on = hop_same fabric old new at lid same ∙ turn.on; next_port = turn.next_port; after = turn.after; next_on = turn.next_on; is_one = turn.is_one; is_other = turn.is_other }

  pub no_way : (lid at : ℕ) (graph : GraphOf) → old at lid ≡ None → new at lid ≡ None → IsGrown (IsTurnAt fabric old new lid at) graph graph
  no_way lid at graph none none_new = grown_none (IsTurnAt fabric old new lid at) graph (λ one other turn. elim turn.on [
    | inl on ↦ has_row fabric old at lid turn.port turn.next on none
    | inr on ↦ has_row fabric new at lid turn.port turn.next on none_new
  ])

  -- the turns out of the switches so far
  pub none_below : (lid : ℕ) (graph : GraphOf) → IsGrown (IsTurnBelow fabric old new lid 0) graph graph
  none_below lid graph = grown_none (IsTurnBelow fabric old new lid 0) graph (λ one other (at, less, turn). absurd (omega arith))

  pub one_below : (lid at : ℕ) (a b c : GraphOf) → IsGrown (IsTurnBelow fabric old new lid at) a b → IsGrown (IsTurnAt fabric old new lid at) b c → IsGrown (IsTurnBelow fabric old new lid (at + 1)) a c
  one_below lid at a b c before here = grown_more (IsTurnBelow fabric old new lid at) (IsTurnAt fabric old new lid at) (IsTurnBelow fabric old new lid (at + 1)) a b c
      (λ one other (s, less, turn). elim (cases_eq s at) [
        | inl same ↦ inr (subst (λ (k : ℕ). IsTurnAt fabric old new lid k one other) same turn)
        | inr away ↦ inl (s, omega arith, turn)
      ])
      (λ one other (s, less, turn). (s, omega arith, turn))
      (λ one other turn. (at, omega arith, turn)) before here

  -- .. and to the LIDs so far
  pub none_to : (switches : ℕ) (graph : GraphOf) → IsGrown (IsTurnTo fabric old new switches 0) graph graph
  none_to switches graph = grown_none (IsTurnTo fabric old new switches 0) graph (λ one other (lid, less, turn). absurd (omega arith))

  pub one_to : (switches lid : ℕ) (a b c : GraphOf) → IsGrown (IsTurnTo fabric old new switches lid) a b → IsGrown (IsTurnBelow fabric old new lid switches) b c → IsGrown (IsTurnTo fabric old new switches (lid + 1)) a c
  one_to switches lid a b c before here = grown_more (IsTurnTo fabric old new switches lid) (IsTurnBelow fabric old new lid switches) (IsTurnTo fabric old new switches (lid + 1)) a b c
      (λ one other (to, less, turn). elim (cases_eq to lid) [
        | inl same ↦ inr (subst (λ (k : ℕ). IsTurnBelow fabric old new k switches one other) same turn)
        | inr away ↦ inl (to, omega arith, turn)
      ])
      (λ one other (to, less, turn). (to, omega arith, turn))
      (λ one other turn. (lid, omega arith, turn)) before here

  -- channels that may follow one another
  may_channel : (lid switch port next : ℕ) → MayTake fabric old new lid switch port next → (entry : ℕ) × IsChannel fabric (record { switch = switch; port = port })
  may_channel lid switch port next (inl on) = let link = on_link fabric old switch lid port next on in (link.0, record { to = next; entry = link.0; leads = link.1 })
  may_channel lid switch port next (inr on) = let link = on_link fabric new switch lid port next on in (link.0, record { to = next; entry = link.0; leads = link.1 })

  pub are_channels : (channel next : Channel) → MayBeFollowed fabric old new channel next → IsChannel fabric channel × IsChannel fabric next
  are_channels channel next (lid, may) = ((may_channel lid channel.switch channel.port next.switch may.first).1, (may_channel lid next.switch next.port may.after may.second).1)

  -- a LID by which they are has a row
  pub lid_low : (lids : ℕ) → ArePast old new lids → (lid switch port next : ℕ) → MayTake fabric old new lid switch port next → lid < lids
  lid_low lids past lid switch port next may = elim (cases_lt lid lids) [
    | inl less ↦ less
    | inr over ↦ (let none = past switch lid over in elim may [
      | inl on ↦ absurd (has_row fabric old switch lid port next on none.0)
      | inr on ↦ absurd (has_row fabric new switch lid port next on none.1)
    ])
  ]

  pub first_low : IsFabric fabric → (channel next : Channel) → MayBeFollowed fabric old new channel next → channel.switch < switch_count fabric
  first_low fits channel next (lid, may) = low fabric fits channel (may_channel lid channel.switch channel.port next.switch may.first).1

  pub second_low : IsFabric fabric → (channel next : Channel) → MayBeFollowed fabric old new channel next → next.switch < switch_count fabric
  second_low fits channel next (lid, may) = low fabric fits next (may_channel lid next.switch next.port may.after may.second).1

-- a switch that sends what goes to a LID on is one of those that have rows
row_low : (fabric : FabricOf) (cells : CellsOf) (switch lid port next : ℕ) → hop fabric (tables_of cells) switch lid ≡ On port next → switch < cells.switches
unfolding hop
row_low fabric cells switch lid port next on = elim (cases_lt switch cells.switches) [
  | inl less ↦ less
  | inr past ↦ absurd (
      let none : ltb switch cells.switches ≡ false = grind (arith, nat_tests) in
      let missing = ap (λ (b : Bool). hop_by fabric switch lid (cond b (port_of (get_or cells.bytes (place_of cells.switches switch lid) 255)) None)) none in
      let stops : hop_by fabric switch lid None ≡ On port next = sym missing ∙ on in
      cc)
]

module _ (fabric : FabricOf) (old new : CellsOf) (same : switch_count fabric ≡ old.switches) (same_new : switch_count fabric ≡ new.switches) where
  may_low : (lid switch port next : ℕ) → MayTake fabric (tables_of old) (tables_of new) lid switch port next → switch < switch_count fabric
  may_low lid switch port next (inl on) = let low = row_low fabric old switch lid port next on in omega arith
  may_low lid switch port next (inr on) = let low = row_low fabric new switch lid port next on in omega arith

  -- a graph that has gained all turns has just the steps between channels that may follow one another
  pub all_turns : (lids : ℕ) (a b : GraphOf) → ArePast (tables_of old) (tables_of new) lids → IsGraphOf fabric a → ((one other : ℕ) → LeadsTo a one other → ⊥) → IsGrown (IsTurnTo fabric (tables_of old) (tables_of new) (switch_count fabric) lids) a b → AreSteps fabric (MayBeFollowed fabric (tables_of old) (tables_of new)) b
  all_turns lids a b past rows none grown = all_steps fabric (MayBeFollowed fabric (tables_of old) (tables_of new)) (are_channels fabric (tables_of old) (tables_of new)) a b rows none grown.bases (λ one other. (
    λ leads. elim ((grown.leads one other).0 leads) [
      | inl had ↦ inl had
      | inr (lid, less, (at, low_at, turn)) ↦ inr (
        record { switch = at; port = turn.port },
        record { switch = turn.next; port = turn.next_port },
        (lid, record { first = turn.on; after = turn.after; second = turn.next_on }),
        turn.is_one,
        turn.is_other,
      )
    ],
    λ either. elim either [
      | inl had ↦ (grown.leads one other).1 (inl had)
      | inr (channel, next, (lid, may), is_one, is_other) ↦ (grown.leads one other).1 (inr (
        lid,
        lid_low fabric (tables_of old) (tables_of new) lids past lid channel.switch channel.port next.switch may.first,
        (
          channel.switch,
          may_low lid channel.switch channel.port next.switch may.first,
          record { port = channel.port; next = next.switch; on = may.first; next_port = next.port; after = may.after; next_on = may.second; is_one = is_one; is_other = is_other },
        ),
      ))
    ],
  ))

-- by which tables something is so
wrong : false ≡ true → ⊥
wrong is = absurd (cc)

pub by_which : (Old New : Type 0) (old new : Bool) → (IsTrue old ↔ Old) → (IsTrue new ↔ New) → MatchOption (by_of old new) ((Old ⊎ New) → ⊥) (IsBy Old New)
by_which Old New true true is is_new = (is.0 refl, is_new.0 refl)
by_which Old New true false is is_new = (is.0 refl, λ has. wrong (is_new.1 has))
by_which Old New false true is is_new = ((λ has. wrong (is.1 has)), is_new.0 refl)
by_which Old New false false is is_new = λ either. elim either [ inl has ↦ wrong (is.1 has) | inr has ↦ wrong (is_new.1 has) ]

-- what is found for a LID
as_hop : (P : Hop → Type 0) (b : Bool) (does at : Hop) → does ≡ at → (IsTrue b ↔ P does) → (IsTrue b ↔ P at)
as_hop P b does at is tells = subst (λ (h : Hop). IsTrue b ↔ P h) is tells

told_by : (Old New : Type 0) (old new : Bool) (which_is : By) → by_of old new ≡ Some which_is → (IsTrue old ↔ Old) → (IsTrue new ↔ New) → IsBy Old New which_is
told_by Old New old new which_is some is is_new = subst (λ (found : Option By). MatchOption found ((Old ⊎ New) → ⊥) (IsBy Old New)) some (by_which Old New old new is is_new)

module _ (fabric : FabricOf) (old new : TablesOf) (channel next : Channel) (lid at : ℕ) (here : at ≡ lid) (a b c d : Bool) (p q r s : Hop) (is_p : p ≡ hop fabric old channel.switch at) (is_q : q ≡ hop fabric new channel.switch at) (is_r : r ≡ hop fabric old next.switch at) (is_s : s ≡ hop fabric new next.switch at) (tells_a : IsTrue a ↔ (p ≡ On channel.port next.switch)) (tells_b : IsTrue b ↔ (q ≡ On channel.port next.switch)) (tells_c : IsTrue c ↔ ((after : ℕ) × (r ≡ On next.port after))) (tells_d : IsTrue d ↔ ((after : ℕ) × (s ≡ On next.port after))) where
  abbrev To : Hop → Type 0
  To does = does ≡ On channel.port next.switch

  abbrev Past : Hop → Type 0
  Past does = (after : ℕ) × (does ≡ On next.port after)

  first_old : IsTrue a ↔ To (hop fabric old channel.switch lid)
  first_old = as_hop To a p (hop fabric old channel.switch lid) (is_p ∙ ap (λ (n : ℕ). hop fabric old channel.switch n) here) tells_a

  first_new : IsTrue b ↔ To (hop fabric new channel.switch lid)
  first_new = as_hop To b q (hop fabric new channel.switch lid) (is_q ∙ ap (λ (n : ℕ). hop fabric new channel.switch n) here) tells_b

  next_old : IsTrue c ↔ GoesBy fabric old lid next
  next_old = as_hop Past c r (hop fabric old next.switch lid) (is_r ∙ ap (λ (n : ℕ). hop fabric old next.switch n) here) tells_c

  next_new : IsTrue d ↔ GoesBy fabric new lid next
  next_new = as_hop Past d s (hop fabric new next.switch lid) (is_s ∙ ap (λ (n : ℕ). hop fabric new next.switch n) here) tells_d

  pub turn_is : (by_first by_next : By) → by_of a b ≡ Some by_first → by_of c d ≡ Some by_next → IsTurn fabric old new channel next (record { lid = lid; by = by_first; next_by = by_next })
  turn_is by_first by_next some some_next = record {
    by = told_by (To (hop fabric old channel.switch lid)) (To (hop fabric new channel.switch lid)) a b by_first some first_old first_new;
    next_by = told_by (GoesBy fabric old lid next) (GoesBy fabric new lid next) c d by_next some_next next_old next_new;
  }
