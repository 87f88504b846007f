-- What is kept of packets and hosts is kept through each event.
use Rattle.std.proofs.Common.{◌≡◌, ◌≢◌, ◌∙◌, sym, ap, subst, refl, ℕ, zero, suc, ◌+◌, ◌-◌, ◌<◌, ◌≤◌, List, [], ◌∷◌, ◌++◌, Option, Some, None, Bool, true, false, cond, arith, length, append-nil, map, inl, inr}
use Rattle.std.specs.Prelude.{◌==◌, All, count_by, replicate, set, slice_get, unwrap_or}
use Rattle.std.specs.Option.{option_map, option_map_or, option_or}
use Rattle.std.proofs.lemmas.Bool.{cases_eq}
use Rattle.std.proofs.lemmas.Bool.Decides.{nat_tests}
use Rattle.std.proofs.lemmas.List.{get_or-set_same, get_or-set_other, length-map, length-replicate, length-set, length_push, map_push, map-set, set-get_or, get_or-map}
use Rattle.std.specs.List.{flat_map}
use Rattle.std.proofs.lemmas.List.Elements.{All-nil, All-weaker}
use Rattle.std.proofs.lemmas.List.Sums.{count_by-le-length}
use Rattle.std.proofs.lemmas.Option.{slice_get-get_or}
use Rattle.an_base.specs.declared.event.Event.{Event}
use Rattle.an_base.specs.declared.event.Event.TheVariants.{Send, Move}
use Rattle.net_graph.specs.declared.wiring.HostOn.{HostOn}
use Rattle.net_script.specs.Scripts.{IsScript, ScriptOf}
use Rattle.host_names.specs.Caches.{ArrivalOf, choice_of, kept_of, with_arrival}
use Rattle.host_names.proofs.KeptLaws.{one_more}
use Rattle.net_state.specs.Fabric.{FabricOf}
use Rattle.net_state.specs.Effects.{address_of}
use Rattle.fabric_book.specs.Nets.{NetOf, history_of}
use Rattle.replay.proofs.ReplayLemmas.{kept_there}
use Rattle.net_world.specs.Histories.{IsLawful, fabric_of}
use Rattle.net_world.specs.Lines.{lines_of}
use Rattle.net_world.specs.World.{world_after}
use Rattle.net_state.specs.declared.line.Line.{Line}
use Rattle.net_world.proofs.CountLemmas.{lawful_events}
use Rattle.report.specs.declared.naming.Traced.{Traced}
use Rattle.report.specs.Beliefs.{Belief, address_at, address_in, arrival_of, arrivals_by, arrivals_of, belief_by, belief_line, belief_of, belief_text, beliefs_of, counts_by, counts_words, delivery_of, fabric_after, first_move, host_in, is_broadcast, is_host, is_known, is_move_of, sender_by, sender_of, senders, source_of}
use Rattle.report.specs.Moments.{IsHeard, Moment}
use Rattle.report.specs.Remembering.{AreRemembered, AreTraced, CameUntil, KeepBeliefs, Meets, arrival_in, cache_at, choice_at, delivery_in, nothing_sent, own_address, sender_in, source_at, source_with, traced_at, with_arrival_at, with_delivery, with_source}
use Rattle.report.proofs.BeliefLemmas.{arrivals_more, beliefs_more, both_counts, count_push, delivery_told, first_move_more, first_move_same, move_tables, move_tick, packet_within, send_tick, sender_within, senders_more, sent_more, tick_rises}

-- PACKETS

-- where the packet at a place comes from, by what is read there
source_read : (packets : List Traced) (place : ℕ) → source_at packets place ≡ (traced_at packets place).source
source_read [] place = refl
source_read (packet ∷ packets) zero = refl
source_read (packet ∷ packets) (suc place) = source_read packets place

-- a packet that has not moved
source_push : (packets : List Traced) (host place : ℕ) → source_at (packets ++ record { host = host; source = None } ∷ []) place ≡ source_at packets place
source_push [] host zero = refl
source_push [] host (suc place) = refl
source_push (packet ∷ packets) host zero = refl
source_push (packet ∷ packets) host (suc place) = source_push packets host place

-- one that has moved
source_here : (packets : List Traced) (place address : ℕ) → place < length packets → source_at (with_source packets place address) place ≡ Some (source_with packets place address)
source_here packets place address low =
    source_read (with_source packets place address) place
    ∙ ap (λ (t : Traced). t.source) (get_or-set_same packets place (record { host = (traced_at packets place).host; source = Some (source_with packets place address) }) nothing_sent low)

source_else : (packets : List Traced) (place address other : ℕ) → other ≢ place → source_at (with_source packets place address) other ≡ source_at packets other
source_else packets place address other apart =
    source_read (with_source packets place address) other
    ∙ ap (λ (t : Traced). t.source) (get_or-set_other packets place other (record { host = (traced_at packets place).host; source = Some (source_with packets place address) }) nothing_sent apart)
    ∙ sym (source_read packets other)

-- the senders stay
hosts_stay : (packets : List Traced) (place address : ℕ) → place < length packets → map (λ (t : Traced). t.host) (with_source packets place address) ≡ map (λ (t : Traced). t.host) packets
hosts_stay packets place address low =
    let host : Traced → ℕ = λ t. t.host in
    map-set host packets place (record { host = (traced_at packets place).host; source = Some (source_with packets place address) })
    ∙ ap (set (map host packets) place) (sym (get_or-map host packets place nothing_sent 0 low))
    ∙ set-get_or (map host packets) place 0

-- the sender of a packet, as it is kept and as it is defined
sender_is : (script : ScriptOf) (history : List Event) (packets : List Traced) (place : ℕ) → AreTraced script history packets → place < length packets → sender_of script history (place + 1) ≡ Some (sender_in script packets place)
sender_is script history packets place traced low =
    let host : Traced → ℕ = λ t. t.host in
    let there : slice_get (senders history) place ≡ Some (traced_at packets place).host =
    ap (λ (hosts : List ℕ). slice_get hosts place) (sym traced.hosts)
    ∙ slice_get-get_or (map host packets) place 0 (omega (arith, length-map packets host))
    ∙ ap (λ (n : ℕ). Some n) (get_or-map host packets place nothing_sent 0 low) in
    let less : (place + 1) - 1 ≡ place = omega arith in
    ap (λ (n : ℕ). option_map (host_in script) (slice_get (senders history) n)) less
    ∙ ap (option_map (host_in script)) there

-- one packet more
pub send_traced : (script : ScriptOf) (before : List Event) (from to : ℕ) (packets : List Traced) → IsLawful script (before ++ Send from to ∷ []) → AreTraced script before packets → AreTraced script (before ++ Send from to ∷ []) (packets ++ record { host = from; source = None } ∷ [])
send_traced script before from to packets all traced = record {
  hosts = map_push (λ (t : Traced). t.host) packets (record { host = from; source = None })
      ∙ ap (λ (hosts : List ℕ). hosts ++ from ∷ []) traced.hosts ∙ sym (senders_more before (Send from to));
  sources = λ place.
      source_push packets from place ∙ traced.sources place
      ∙ ap (option_map (address_at script (place + 1))) (sym (first_move_same before (Send from to) (place + 1) refl));
  count = let more = sent_more script before (Send from to) all in let pushed = length_push packets (record { host = from; source = None }) in omega (arith, more, pushed, traced.count);
}

-- the address of the sender by the table in use, after the move and before it
address_same : (script : ScriptOf) (before : List Event) (packet : ℕ) (host : HostOn) → IsLawful script (before ++ Move packet ∷ []) → address_in (fabric_after script (before ++ Move packet ∷ [])) host ≡ address_in (fabric_after script before) host
address_same script before packet host all =
    ap (λ table. option_map_or (λ t. address_of t host.port) table 0) (move_tables script before packet host.s all)

own_is_at : (script : ScriptOf) (before : List Event) (packets : List Traced) (place : ℕ) → IsLawful script (before ++ Move (place + 1) ∷ []) → AreTraced script before packets → place < length packets → own_address script (fabric_after script (before ++ Move (place + 1) ∷ [])) packets place ≡ address_at script (place + 1) (record { before = before; event = Move (place + 1) })
own_is_at script before packets place all traced low =
    address_same script before (place + 1) (sender_in script packets place) all
    ∙ ap (λ host. option_map_or (address_in (fabric_after script before)) host 0) (sym (sender_is script before packets place traced low))

-- where it comes from, of what it came from before
first_or : (f : Moment → ℕ) (old : Option ℕ) (was : Option Moment) (now : Moment) (address : ℕ) → old ≡ option_map f was → address ≡ f now → Some (unwrap_or old address) ≡ option_map f (option_or was (Some now))
first_or f old None now address is at = ap (λ (o : Option ℕ). Some (unwrap_or o address)) is ∙ ap (λ (n : ℕ). Some n) at
first_or f old (Some m) now address is at = ap (λ (o : Option ℕ). Some (unwrap_or o address)) is

moved_here : (script : ScriptOf) (before : List Event) (packets : List Traced) (place : ℕ) → IsLawful script (before ++ Move (place + 1) ∷ []) → AreTraced script before packets → place < length packets
    → Some (source_with packets place (own_address script (fabric_after script (before ++ Move (place + 1) ∷ [])) packets place)) ≡ option_map (address_at script (place + 1)) (first_move (before ++ Move (place + 1) ∷ []) (place + 1))
moved_here script before packets place all traced low =
    let now : Moment = record { before = before; event = Move (place + 1) } in
    let address = own_address script (fabric_after script (before ++ Move (place + 1) ∷ [])) packets place in
    let here : is_move_of (place + 1) (Move (place + 1)) ≡ true = grind (arith, nat_tests) in
    first_or (address_at script (place + 1)) (traced_at packets place).source (first_move before (place + 1)) now address
    (sym (source_read packets place) ∙ traced.sources place) (own_is_at script before packets place all traced low)
    ∙ ap (λ (b : Bool). option_map (address_at script (place + 1)) (option_or (first_move before (place + 1)) (cond b (Some now) None))) (sym here)
    ∙ ap (option_map (address_at script (place + 1))) (sym (first_move_more before (Move (place + 1)) (place + 1)))

-- a packet moves
pub move_traced : (script : ScriptOf) (before : List Event) (packets : List Traced) (place : ℕ) → IsLawful script (before ++ Move (place + 1) ∷ []) → AreTraced script before packets → place < length packets
    → AreTraced script (before ++ Move (place + 1) ∷ []) (with_source packets place (own_address script (fabric_after script (before ++ Move (place + 1) ∷ [])) packets place))
move_traced script before packets place all traced low =
    let address = own_address script (fabric_after script (before ++ Move (place + 1) ∷ [])) packets place in
    record {
      hosts = hosts_stay packets place address low ∙ traced.hosts ∙ sym (senders_more before (Move (place + 1)) ∙ append-nil (senders before));
      sources = λ other. elim (cases_eq other place) [
        | inl same ↦ subst (λ (k : ℕ). source_at (with_source packets place address) k ≡ option_map (address_at script (k + 1)) (first_move (before ++ Move (place + 1) ∷ []) (k + 1))) (sym same)
            (source_here packets place address low ∙ moved_here script before packets place all traced low)
        | inr apart ↦ (
            let not_it : is_move_of (other + 1) (Move (place + 1)) ≡ false = grind (arith, nat_tests) in
            source_else packets place address other apart ∙ traced.sources other
            ∙ ap (option_map (address_at script (other + 1))) (sym (first_move_same before (Move (place + 1)) (other + 1) not_it)))
      ];
      count = let more = sent_more script before (Move (place + 1)) all in let long = length-set packets place (record { host = (traced_at packets place).host; source = Some (source_with packets place address) }) in omega (arith, more, long, traced.count);
    }

-- another event
pub other_traced : (script : ScriptOf) (before : List Event) (event : Event) (packets : List Traced) → IsLawful script (before ++ event ∷ []) → sender_by event ≡ [] → ((packet : ℕ) → is_move_of packet event ≡ false) → AreTraced script before packets → AreTraced script (before ++ event ∷ []) packets
other_traced script before event packets all none still traced = record {
  hosts = traced.hosts ∙ sym (senders_more before event ∙ ap (λ (hosts : List ℕ). senders before ++ hosts) none ∙ append-nil (senders before));
  sources = λ place. traced.sources place ∙ ap (option_map (address_at script (place + 1))) (sym (first_move_same before event (place + 1) (still (place + 1))));
  count = let more = sent_more script before event all in let no : length (sender_by event) ≡ 0 = ap length none in omega (arith, more, no, traced.count);
}

-- HOSTS

later : (old new : ℕ) (caches : List (List ArrivalOf)) → old ≤ new → CameUntil old caches → CameUntil new caches
later old new caches rises came = λ host. All-weaker (λ (a : ArrivalOf). a.tick ≤ old) (λ (a : ArrivalOf). a.tick ≤ new) (λ a le. omega arith) (cache_at caches host) (came host)

-- an event by which nothing arrives
pub other_remembered : (script : ScriptOf) (before : List Event) (event : Event) (caches : List (List ArrivalOf)) → IsLawful script (before ++ event ∷ []) → ((host : ℕ) → arrivals_by script host before event ≡ []) → AreRemembered script before caches → AreRemembered script (before ++ event ∷ []) caches
other_remembered script before event caches all none kept = record {
  count = kept.count;
  each = λ host low. kept.each host low ∙ ap kept_of (sym (arrivals_more script before event host ∙ ap (λ (came : List ArrivalOf). came ++ arrivals_of script before host) (none host)));
  ticks = later (fabric_after script before).tick (fabric_after script (before ++ event ∷ [])).tick caches (tick_rises script before event all) kept.ticks;
}

-- what is kept where something arrives at one host
arrives_at : (caches : List (List ArrivalOf)) (arrivals : ℕ → List ArrivalOf) (arrival : ArrivalOf) (to : Option ℕ) (host : ℕ) → host < length caches → cache_at caches host ≡ kept_of (arrivals host)
    → cache_at (with_delivery arrival to caches) host ≡ kept_of (cond (is_host host to) (arrival ∷ []) [] ++ arrivals host)
arrives_at caches arrivals arrival None host low is = is
arrives_at caches arrivals arrival (Some to) host low is = elim (cases_eq to host) [
  | inl same ↦ (
      let test : (to == host) ≡ true = grind (arith, nat_tests) in
      let here : cache_at (with_arrival_at arrival host caches) host ≡ kept_of (arrival ∷ arrivals host) =
      get_or-set_same caches host (with_arrival arrival (cache_at caches host)) [] low ∙ ap (with_arrival arrival) is ∙ sym (one_more arrival (arrivals host)) in
      rw test (subst (λ (k : ℕ). cache_at (with_arrival_at arrival k caches) host ≡ kept_of (arrival ∷ arrivals host)) (sym same) here))
  | inr apart ↦ (
      let test : (to == host) ≡ false = grind (arith, nat_tests) in
      let other : host ≢ to = λ (e : host ≡ to). apart (sym e) in
      rw test (get_or-set_other caches to host (with_arrival arrival (cache_at caches to)) [] other ∙ is))
]

delivered_length : (arrival : ArrivalOf) (to : Option ℕ) (caches : List (List ArrivalOf)) → length (with_delivery arrival to caches) ≡ length caches
delivered_length arrival None caches = refl
delivered_length arrival (Some to) caches = length-set caches to (with_arrival arrival (cache_at caches to))

-- the arrival, as it is kept and as it is defined
from_some : {X : Type 0} (f : X → ℕ) (o : Option X) (n : ℕ) → Some n ≡ option_map f o → option_map_or f o 0 ≡ n
from_some f None n is = absurd (cc)
from_some f (Some x) n is = cc

arrival_is : (script : ScriptOf) (before : List Event) (packets : List Traced) (place : ℕ) → IsLawful script (before ++ Move (place + 1) ∷ []) → AreTraced script before packets → place < length packets
    → arrival_of script before (place + 1) ≡ arrival_in script (fabric_after script (before ++ Move (place + 1) ∷ [])) packets place
arrival_is script before packets place all traced low =
    let after = before ++ Move (place + 1) ∷ [] in
    let sender : option_map_or (λ (h : HostOn). h.uid) (sender_of script before (place + 1)) 0 ≡ (sender_in script packets place).uid =
    ap (λ (o : Option HostOn). option_map_or (λ (h : HostOn). h.uid) o 0) (sender_is script before packets place traced low) in
    let address : source_of script after (place + 1) ≡ source_with packets place (own_address script (fabric_after script after) packets place) =
    from_some (address_at script (place + 1)) (first_move after (place + 1)) _ (moved_here script before packets place all traced low) in
    let tick : (fabric_after script before).tick ≡ (fabric_after script after).tick = sym (move_tick script before (place + 1) all) in
    parts sender address tick
  where
    parts : {u v a b s t : ℕ} → u ≡ v → a ≡ b → s ≡ t → ◌≡◌ {A = ArrivalOf} (record { uid = u; address = a; tick = s }) (record { uid = v; address = b; tick = t })
    parts one two three = cc

pub move_remembered : (script : ScriptOf) (before : List Event) (packets : List Traced) (caches new : List (List ArrivalOf)) (place : ℕ) (lines : List Line) → IsLawful script (before ++ Move (place + 1) ∷ []) → AreTraced script before packets → place < length packets
    → lines ≡ lines_of (world_after script before) (Move (place + 1))
    → new ≡ with_delivery (arrival_in script (fabric_after script (before ++ Move (place + 1) ∷ [])) packets place) (delivery_in lines) caches
    → CameUntil (fabric_after script (before ++ Move (place + 1) ∷ [])).tick new
    → AreRemembered script before caches → AreRemembered script (before ++ Move (place + 1) ∷ []) new
move_remembered script before packets caches new place lines all traced low told is came kept =
    let packet : ℕ = place + 1 in
    let to = delivery_of (fabric_after script before) packet in
    let to_is : delivery_in lines ≡ to = ap delivery_in told ∙ delivery_told (world_after script before) packet in
    let arrival = arrival_of script before packet in
    let now : new ≡ with_delivery arrival to caches = is ∙ ap (λ (o : Option ℕ). with_delivery (arrival_in script (fabric_after script (before ++ Move packet ∷ [])) packets place) o caches) to_is
    ∙ ap (λ (a : ArrivalOf). with_delivery a to caches) (sym (arrival_is script before packets place all traced low)) in
    record {
      count = ap length now ∙ delivered_length arrival to caches ∙ kept.count;
      each = λ host within.
          let here : host < length caches = omega (arith, within, kept.count) in
          ap (λ (cs : List (List ArrivalOf)). cache_at cs host) now
          ∙ arrives_at caches (arrivals_of script before) arrival to host here (kept.each host within)
          ∙ ap kept_of (sym (arrivals_more script before (Move packet) host));
      ticks = came;
    }

-- WHAT IS KEPT

-- an event by which nothing is sent and nothing moves
pub record IsSilent (script : ScriptOf) (before : List Event) (event : Event) : Type 0 where
  pub none : sender_by event ≡ []
  pub still : (packet : ℕ) → is_move_of packet event ≡ false
  pub nothing : (host : ℕ) → arrivals_by script host before event ≡ []
  pub no_belief : belief_by script before event ≡ []

pub silent : (script : ScriptOf) (before : List Event) (event : Event) → ((from to : ℕ) → event ≡ Send from to → ⊥) → ((packet : ℕ) → event ≡ Move packet → ⊥) → IsSilent script before event
silent script before (Send from to) send move = absurd (send from to refl)
silent script before (Move packet) send move = absurd (move packet refl)
silent script before event send move = record { none = refl; still = λ packet. refl; nothing = λ host. refl; no_belief = refl }

-- at the beginning
none_sent : (script : ScriptOf) → (fabric_after script []).sent ≡ 0
unfolding world_after
none_sent script = refl

nothing_at : (n host : ℕ) → cache_at (replicate n []) host ≡ []
nothing_at zero host = refl
nothing_at (suc n) zero = refl
nothing_at (suc n) (suc host) = nothing_at n host

pub nothing_kept : (script own : ScriptOf) (packets : List Traced) (caches : List (List ArrivalOf)) → own ≡ script → packets ≡ [] → caches ≡ replicate (length script.wires.hosts) [] → KeepBeliefs script [] own packets caches 0
unfolding senders first_move arrivals_of beliefs_of
nothing_kept script own packets caches own_is none are =
    let n = length script.wires.hosts in
    let empty : (host : ℕ) → cache_at caches host ≡ [] = λ host. ap (λ (cs : List (List ArrivalOf)). cache_at cs host) are ∙ nothing_at n host in
    record {
      own_is = own_is;
      traced = record {
        hosts = ap (map (λ (t : Traced). t.host)) none;
        sources = λ place. ap (λ (ps : List Traced). source_at ps place) none;
        count = ap length none ∙ sym (none_sent script);
      };
      remembered = record {
        count = ap length are ∙ length-replicate n [];
        each = λ host low. empty host;
        ticks = λ host. subst (λ (came : List ArrivalOf). All (λ (a : ArrivalOf). a.tick ≤ (fabric_after script []).tick) came) (sym (empty host)) (All-nil (λ (a : ArrivalOf). a.tick ≤ (fabric_after script []).tick));
      };
      count = ap length none;
      known_are = refl;
    }

module _ (script : ScriptOf) (before : List Event) (fabric : FabricOf) (place : ℕ) (lines : List Line) (own : ScriptOf) (packets : List Traced) (caches : List (List ArrivalOf)) (known : ℕ) where
  abbrev pub MeetsHere : Event → Type 0
  MeetsHere event = Meets script before event fabric place lines own packets caches known

  -- how many beliefs there are, and how many of a known address
  abbrev pub known_in : List Belief → ℕ
  known_in beliefs = count_by (λ (b : Belief). is_known b.choice) beliefs

  -- a packet is sent
  pub choice_is : (from to : ℕ) → MeetsHere (Send from to) → choice_at own caches from to fabric.tick ≡ (belief_of script before from to).choice
  choice_is from to meets =
      let keeps : cache_at caches from ≡ kept_of (arrivals_of script before from) = meets.keep.remembered.each from (sender_within script before from to meets.can_be meets.lawful) in
      let tick : fabric.tick ≡ (fabric_after script before).tick = ap (λ (f : FabricOf). f.tick) meets.fabric_is ∙ send_tick script before from to meets.lawful in
      ap (λ (came : List ArrivalOf). choice_of came (host_in own to).uid fabric.tick) keeps
      ∙ ap (λ (s : ScriptOf). choice_of (kept_of (arrivals_of script before from)) (host_in s to).uid fabric.tick) meets.keep.own_is
      ∙ ap (choice_of (kept_of (arrivals_of script before from)) (host_in script to).uid) tick

  pub send_keeps : (from to : ℕ) (new : ScriptOf) (more : List Traced) (same : List (List ArrivalOf)) (count : ℕ) → MeetsHere (Send from to) → new ≡ own → same ≡ caches → more ≡ packets ++ record { host = from; source = None } ∷ [] → count ≡ known + cond (is_known (choice_at own caches from to fabric.tick)) 1 0 → KeepBeliefs script (before ++ Send from to ∷ []) new more same count
  send_keeps from to new more same count meets new_is same_is more_are count_is =
      let after = before ++ Send from to ∷ [] in
      let keep = meets.keep in
      let belief = belief_of script before from to in
      let beliefs = beliefs_more script before (Send from to) in
      let one : count ≡ known + cond (is_known belief.choice) 1 0 = count_is ∙ ap (λ c. known + cond (is_known c) 1 0) (choice_is from to meets) in
      record {
        own_is = new_is ∙ keep.own_is;
        traced = subst (AreTraced script after) (sym more_are) (send_traced script before from to packets meets.lawful keep.traced);
        remembered = subst (AreRemembered script after) (sym same_is) (other_remembered script before (Send from to) caches meets.lawful (λ host. refl) keep.remembered);
        count = ap length more_are ∙ length_push packets (record { host = from; source = None }) ∙ ap (λ (n : ℕ). n + 1) keep.count ∙ sym (ap length beliefs ∙ length_push (beliefs_of script before) belief);
        known_are = one ∙ ap (λ (n : ℕ). n + cond (is_known belief.choice) 1 0) keep.known_are ∙ sym (ap known_in beliefs ∙ count_push (λ (b : Belief). is_known b.choice) (beliefs_of script before) belief);
      }

  pub send_told : (from to : ℕ) (text new : List ℕ) → MeetsHere (Send from to) → new ≡ text ++ belief_line own (record { place = place; from = from; to = to; choice = choice_at own caches from to fabric.tick }) → new ≡ text ++ belief_text script (record { before = before; event = Send from to })
  send_told from to text new meets is =
      let belief = belief_of script before from to in
      is ∙ ap (λ (n : ℕ). text ++ belief_line own (record { place = n; from = from; to = to; choice = choice_at own caches from to fabric.tick })) meets.place_is
      ∙ ap (λ c. text ++ belief_line own (record { place = length before + 1; from = from; to = to; choice = c })) (choice_is from to meets)
      ∙ ap (λ (s : ScriptOf). text ++ belief_line s belief) meets.keep.own_is
      ∙ ap (λ (t : List ℕ). text ++ t) (sym (append-nil (belief_line script belief)))

  -- an event of another kind
  pub other_keeps : (event : Event) → MeetsHere event → IsSilent script before event → KeepBeliefs script (before ++ event ∷ []) own packets caches known
  other_keeps event meets quiet =
      let keep = meets.keep in
      let beliefs : beliefs_of script (before ++ event ∷ []) ≡ beliefs_of script before =
      beliefs_more script before event ∙ ap (λ (bs : List Belief). beliefs_of script before ++ bs) quiet.no_belief ∙ append-nil (beliefs_of script before) in
      record {
        own_is = keep.own_is;
        traced = other_traced script before event packets meets.lawful quiet.none quiet.still keep.traced;
        remembered = other_remembered script before event caches meets.lawful quiet.nothing keep.remembered;
        count = keep.count ∙ ap length (sym beliefs);
        known_are = keep.known_are ∙ ap known_in (sym beliefs);
      }

  pub other_told : (event : Event) (text : List ℕ) → belief_by script before event ≡ [] → text ≡ text ++ belief_text script (record { before = before; event = event })
  other_told event text none =
      sym (append-nil text) ∙ ap (λ (bs : List Belief). text ++ flat_map (belief_line script) bs) (sym none)

  -- a packet moves
  pub move_keeps_at : (at : ℕ) (new : ScriptOf) (moved : List Traced) (now : List (List ArrivalOf)) (count : ℕ) → MeetsHere (Move (at + 1)) → new ≡ own → count ≡ known → moved ≡ with_source packets at (own_address own fabric packets at) → now ≡ with_delivery (arrival_in own fabric packets at) (delivery_in lines) caches → CameUntil fabric.tick now
      → KeepBeliefs script (before ++ Move (at + 1) ∷ []) new moved now count
  move_keeps_at at new moved now count meets new_is count_is moved_are now_are came =
      let after = before ++ Move (at + 1) ∷ [] in
      let keep = meets.keep in
      let within = packet_within script before (at + 1) meets.can_be meets.lawful in
      let low : at < length packets = omega (arith, within.1, keep.traced.count) in
      let beliefs : beliefs_of script after ≡ beliefs_of script before = beliefs_more script before (Move (at + 1)) ∙ append-nil (beliefs_of script before) in
      let there : moved ≡ with_source packets at (own_address script (fabric_after script after) packets at) =
      moved_are ∙ ap (λ (s : ScriptOf). with_source packets at (own_address s fabric packets at)) keep.own_is
      ∙ ap (λ (f : FabricOf). with_source packets at (own_address script f packets at)) meets.fabric_is in
      let kept : now ≡ with_delivery (arrival_in script (fabric_after script after) packets at) (delivery_in lines) caches =
      now_are ∙ ap (λ (s : ScriptOf). with_delivery (arrival_in s fabric packets at) (delivery_in lines) caches) keep.own_is
      ∙ ap (λ (f : FabricOf). with_delivery (arrival_in script f packets at) (delivery_in lines) caches) meets.fabric_is in
      let until : CameUntil (fabric_after script after).tick now = subst (λ (f : FabricOf). CameUntil f.tick now) meets.fabric_is came in
      record {
        own_is = new_is ∙ keep.own_is;
        traced = subst (AreTraced script after) (sym there) (move_traced script before packets at meets.lawful keep.traced low);
        remembered = move_remembered script before packets caches now at lines meets.lawful keep.traced low meets.lines_are kept until keep.remembered;
        count = ap length moved_are ∙ length-set packets at _ ∙ keep.count ∙ ap length (sym beliefs);
        known_are = count_is ∙ keep.known_are ∙ ap known_in (sym beliefs);
      }

  -- by its number
  pub move_within : (packet : ℕ) → MeetsHere (Move packet) → (1 ≤ packet) × (packet ≤ length packets)
  move_within packet meets =
      let within = packet_within script before packet meets.can_be meets.lawful in
      (within.0, omega (arith, within.1, meets.keep.traced.count))

  pub move_keeps : (packet : ℕ) (new : ScriptOf) (moved : List Traced) (now : List (List ArrivalOf)) (count : ℕ) → MeetsHere (Move packet) → new ≡ own → count ≡ known → moved ≡ with_source packets (packet - 1) (own_address own fabric packets (packet - 1)) → now ≡ with_delivery (arrival_in own fabric packets (packet - 1)) (delivery_in lines) caches → CameUntil fabric.tick now
      → KeepBeliefs script (before ++ Move packet ∷ []) new moved now count
  move_keeps packet new moved now count meets new_is count_is moved_are now_are came =
      let least = (move_within packet meets).0 in
      let same : (packet - 1) + 1 ≡ packet = omega arith in
      subst (λ (p : ℕ). KeepBeliefs script (before ++ Move p ∷ []) new moved now count) same
      (move_keeps_at (packet - 1) new moved now count (subst (λ (p : ℕ). MeetsHere (Move p)) (sym same) meets) new_is count_is moved_are now_are came)

  -- what came is no later than the fabric behind the event
  pub came_here : (event : Event) → MeetsHere event → CameUntil fabric.tick caches
  came_here event meets =
      subst (λ (f : FabricOf). CameUntil f.tick caches) (sym meets.fabric_is)
      (later (fabric_after script before).tick (fabric_after script (before ++ event ∷ [])).tick caches (tick_rises script before event meets.lawful) meets.keep.remembered.ticks)

  -- how many of a known address there are
  pub known_few : (event : Event) → MeetsHere event → known ≤ length packets
  known_few event meets =
      let few = count_by-le-length (λ (b : Belief). is_known b.choice) (beliefs_of script before) in
      omega (arith, few, meets.keep.count, meets.keep.known_are)

  pub sender_low : (from to : ℕ) → MeetsHere (Send from to) → from < length caches
  sender_low from to meets =
      let low = sender_within script before from to meets.can_be meets.lawful in
      omega (arith, low, meets.keep.remembered.count)

-- what is kept meets the event that a network has made
pub meets_now : (before : List Event) (event : Event) (net : NetOf) (fabric : FabricOf) (place : ℕ) (lines : List Line) (own : ScriptOf) (packets : List Traced) (caches : List (List ArrivalOf)) (known : ℕ) → KeepBeliefs net.script before own packets caches known → IsHeard before event net lines
    → fabric ≡ fabric_of (history_of net) → IsScript fabric.script → place ≡ fabric.events → Meets net.script before event fabric place lines own packets caches known
meets_now before event net fabric place lines own packets caches known keep heard fabric_is kept counted =
    let after = before ++ event ∷ [] in
    let here : fabric ≡ fabric_after net.script after = fabric_is ∙ ap (λ (n : NetOf). fabric_of (history_of n)) heard.made.net_is in
    let can_be : IsScript net.script = kept_there net.script after fabric here kept in
    record {
      keep = keep;
      can_be = can_be;
      lawful = heard.made.lawful;
      fabric_is = here;
      place_is = counted ∙ ap (λ (f : FabricOf). f.events) here ∙ lawful_events net.script can_be after heard.made.lawful ∙ length_push before event;
      lines_are = heard.lines_are;
    }

-- the counts of the last line
pub kept_few : (script : ScriptOf) (history : List Event) (own : ScriptOf) (packets : List Traced) (caches : List (List ArrivalOf)) (known : ℕ) → KeepBeliefs script history own packets caches known → known ≤ length packets
kept_few script history own packets caches known keep =
    let few = count_by-le-length (λ (b : Belief). is_known b.choice) (beliefs_of script history) in
    omega (arith, few, keep.count, keep.known_are)

pub counts_are : (script : ScriptOf) (history : List Event) (own : ScriptOf) (packets : List Traced) (caches : List (List ArrivalOf)) (known sent broadcast : ℕ) → KeepBeliefs script history own packets caches known → sent ≡ length packets → broadcast ≡ sent - known → counts_by sent known broadcast ≡ counts_words (beliefs_of script history)
counts_are script history own packets caches known sent broadcast keep sent_is broadcast_is =
    let beliefs = beliefs_of script history in
    let both = both_counts beliefs in
    let all : sent ≡ length beliefs = sent_is ∙ keep.count in
    let others : broadcast ≡ count_by (λ (b : Belief). is_broadcast b.choice) beliefs = omega (arith, both, all, broadcast_is, keep.known_are) in
    ap (λ (n : ℕ). counts_by n known broadcast) all
    ∙ ap (λ (n : ℕ). counts_by (length beliefs) n broadcast) keep.known_are
    ∙ ap (counts_by (length beliefs) (count_by (λ (b : Belief). is_known b.choice) beliefs)) others
