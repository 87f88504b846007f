-- End ports by their places, ports from which all goes alike, and gates one after another.
use Rattle.std.proofs.Common.{◌≡◌, ◌∙◌, sym, ap, subst, refl, ℕ, ◌+◌, ◌-◌, ◌<◌, ◌≤◌, ◌++◌, [], ◌∷◌, Bool, true, false, cond, eqb, ltb, not, List, Option, Some, None, arith, length, length-append, get_or, set, inl, inr}
use Rattle.std.specs.Prelude.{MatchOption, slice_get}
use Rattle.std.specs.Option.{option_eq}
use Rattle.std.proofs.lemmas.Bool.{cases_eq, cases_lt, eqb-true, le-ltb, lt-ltb, ltb-true}
use Rattle.std.proofs.lemmas.List.{get_or-set_other, get_or-set_same, get_or_append_left}
use Rattle.std.proofs.lemmas.Option.{slice_get-get_or, slice_get_within}
use Rattle.std.proofs.Math.Seq.{get_or-append_seam}
use Rattle.fabric_model.specs.declared.node.EndPort.{EndPort}
use Rattle.fabric_model.specs.declared.node.EndPort.TheVariants.{Host, Switch}
use Rattle.fabric_model.specs.declared.node.Spot.{Spot}
use Rattle.fabric_model.specs.Fabric.{FabricOf, switch_count}
use Rattle.fabric_lane_tables.specs.Lanes.{LaneRowsOf, LanesOf, lane_by, lanes_of, told_row}
use Rattle.fabric_lane_tables.proofs.RowLemmas.{told_none}
use Rattle.fabric_model.specs.declared.traffic.Traffic.{Traffic}
use Rattle.fabric_routes.specs.Routes.{IsSource}
use Rattle.fabric_routes.proofs.StartLemmas.{cabled_low, source_low}
use Rattle.fabric_lane_routes.specs.LaneRoutes.{begin_of}
use Rattle.fabric_lane_waves.specs.LaneGates.{AreAlike, AreGatesBelow, AreLastGates, AreMoreSpots, IsGateFor, IsGateOf, place_in, source_at, source_count}

-- the end port of a place
host_at : (fabric : FabricOf) (end : ℕ) → end < length fabric.cables → source_at fabric end ≡ Host end
host_at fabric end low = ap (λ (b : Bool). cond b (Host end) (Switch (end - length fabric.cables))) (lt-ltb end (length fabric.cables) low)

switch_past : (fabric : FabricOf) (place : ℕ) → length fabric.cables ≤ place → source_at fabric place ≡ Switch (place - length fabric.cables)
switch_past fabric place high = ap (λ (b : Bool). cond b (Host place) (Switch (place - length fabric.cables))) (le-ltb place (length fabric.cables) high)

switch_at_place : (fabric : FabricOf) (switch : ℕ) → source_at fabric (length fabric.cables + switch) ≡ Switch switch
switch_at_place fabric switch =
    let back : length fabric.cables + switch - length fabric.cables ≡ switch = omega arith in
    switch_past fabric (length fabric.cables + switch) (omega arith) ∙ ap Switch back

-- .. and back
host_is : (fabric : FabricOf) (end place : ℕ) (b : Bool) → ltb end (length fabric.cables) ≡ b → cond b (Some end) None ≡ Some place → source_at fabric place ≡ Host end
host_is fabric end place true low is =
    let same : end ≡ place = cc in
    ap (source_at fabric) (sym same) ∙ host_at fabric end (ltb-true end (length fabric.cables) low)
host_is fabric end place false low is = absurd (cc)

switch_is : (fabric : FabricOf) (switch place : ℕ) (b : Bool) → cond b (Some (length fabric.cables + switch)) None ≡ Some place → source_at fabric place ≡ Switch switch
switch_is fabric switch place true is =
    let same : length fabric.cables + switch ≡ place = cc in
    ap (source_at fabric) (sym same) ∙ switch_at_place fabric switch
switch_is fabric switch place false is = absurd (cc)

pub place_is : (fabric : FabricOf) (source : EndPort) (place : ℕ) → place_in fabric source ≡ Some place → source_at fabric place ≡ source
place_is fabric (Host end) place is = host_is fabric end place (ltb end (length fabric.cables)) refl is
place_is fabric (Switch switch) place is = switch_is fabric switch place (ltb switch (switch_count fabric)) is

pub place_back : (fabric : FabricOf) (place : ℕ) → place < source_count fabric → place_in fabric (source_at fabric place) ≡ Some place
place_back fabric place low = elim (cases_lt place (length fabric.cables)) [
  | inl is ↦ ap (place_in fabric) (host_at fabric place is) ∙ ap (λ (b : Bool). cond b (Some place) None) (lt-ltb place (length fabric.cables) is)
  | inr high ↦ (
      let back : length fabric.cables + (place - length fabric.cables) ≡ place = omega arith in
      ap (place_in fabric) (switch_past fabric place high) ∙ ap (λ (b : Bool). cond b (Some (length fabric.cables + (place - length fabric.cables))) None) (lt-ltb (place - length fabric.cables) (switch_count fabric) (omega arith)) ∙ ap (λ (n : ℕ). Some n) back)
]

-- a source has a place
pub source_place : (fabric : FabricOf) (traffic : Traffic) (source : EndPort) → IsSource fabric traffic source → (place : ℕ) × (place < source_count fabric) × (source_at fabric place ≡ source)
source_place fabric traffic (Host end) (switch, is) =
    let low = cabled_low fabric end switch is in
    (end, omega arith, host_at fabric end low)
source_place fabric traffic (Switch switch) is =
    let low = source_low fabric traffic switch is in
    (length fabric.cables + switch, omega arith, switch_at_place fabric switch)

-- the same rows that were told make ports alike
pub rows_alike : (table : LaneRowsOf) (one other : Spot) → one.switch ≡ other.switch → ((port : ℕ) → port < table.most + 1 → told_row table one.switch one.port port ≡ told_row table one.switch other.port port) → AreAlike (lanes_of table) one other
rows_alike table one other same rows = (
  same,
  λ port level.
      let there = ap (λ (s : ℕ). lane_by level (told_row table s other.port port)) same in
      elim (cases_lt port (table.most + 1)) [
        | inl low ↦ ap (lane_by level) (rows port low) ∙ there
        | inr high ↦ ap (lane_by level) (told_none table one.switch one.port port (inr high) ∙ sym (told_none table one.switch other.port port (inr high))) ∙ there
      ],
)

-- rows that are equal
is_true : (b : Bool) → not b ≡ false → b ≡ true
is_true true is = refl
is_true false is = absurd (cc)

row_is : (a b : Option ℕ) → option_eq eqb a b ≡ true → a ≡ b
row_is None None is = refl
row_is None (Some b) is = absurd (cc)
row_is (Some a) None is = absurd (cc)
row_is (Some a) (Some b) is = ap (λ (n : ℕ). Some n) (eqb-true a b is)

pub same_row : (a b : Option ℕ) → not (option_eq eqb a b) ≡ false → a ≡ b
same_row a b is = row_is a b (is_true (option_eq eqb a b) is)

-- one row more that is the same
pub rows_more : (table : LaneRowsOf) (switch one other port : ℕ) → ((k : ℕ) → k < port → told_row table switch one k ≡ told_row table switch other k) → told_row table switch one port ≡ told_row table switch other port → (k : ℕ) → k < port + 1 → told_row table switch one k ≡ told_row table switch other k
rows_more table switch one other port before here k low = elim (cases_eq k port) [
  | inl same ↦ ap (told_row table switch one) same ∙ here ∙ sym (ap (told_row table switch other) same)
  | inr differs ↦ before k (omega arith)
]

-- one element of a list is put, and each is as it has to be
pub put_one : {A : Type 0} (P : ℕ → A → Type 0) (xs : List A) (k : ℕ) (x d : A) → k < length xs → P k x → ((s : ℕ) → s < k → P s (get_or xs s d)) → (s : ℕ) → s < k + 1 → P s (get_or (set xs k x) s d)
put_one P xs k x d low here before s within = elim (cases_eq s k) [
  | inl same ↦ subst (λ (n : ℕ). P n (get_or (set xs k x) n d)) (sym same) (subst (λ y. P k y) (sym (get_or-set_same xs k x d low)) here)
  | inr other ↦ subst (λ y. P s y) (sym (get_or-set_other xs k s x d other)) (before s (omega arith))
]

-- ports stay, or one is pushed
pub same_spots : (switches : ℕ) (spots : List Spot) → AreMoreSpots switches spots spots
same_spots switches spots = record { kept = λ place spot is. is; only = λ place spot is. inl is; few = omega arith }

module _ (switches : ℕ) (old : List Spot) (spot : Spot) (low : spot.switch < switches) where
  abbrev pub pushed : List Spot
  pushed = old ++ spot ∷ []

  pub size_pushed : length pushed ≡ length old + 1
  size_pushed = omega (arith, length-append old (spot ∷ []))

  pub last_pushed : slice_get pushed (length old) ≡ Some spot
  last_pushed = slice_get-get_or pushed (length old) spot (let size = size_pushed in omega arith) ∙ ap (λ (s : Spot). Some s) (get_or-append_seam old spot [] spot)

  kept_pushed : (place : ℕ) → place < length old → slice_get pushed place ≡ slice_get old place
  kept_pushed place within = slice_get-get_or pushed place spot (let size = size_pushed in omega arith) ∙ ap (λ (s : Spot). Some s) (get_or_append_left old (spot ∷ []) spot place within) ∙ sym (slice_get-get_or old place spot within)

  pub more_pushed : AreMoreSpots switches old pushed
  more_pushed = record {
    kept = λ place at is. kept_pushed place (slice_get_within old place at is) ∙ is;
    only = λ place at is. elim (cases_lt place (length old)) [
      | inl before ↦ inl (sym (kept_pushed place before) ∙ is)
      | inr past ↦ (
          let within = slice_get_within pushed place at is in
          let size = size_pushed in
          let last : place ≡ length old = omega arith in
          let same : spot ≡ at = (let e : Some spot ≡ Some at = sym last_pushed ∙ ap (slice_get pushed) (sym last) ∙ is in cc) in
          inr (subst (λ (s : Spot). s.switch < switches) same low))
    ];
    few = (let size = size_pushed in omega arith);
  }

-- the last gates of switches
pub last_kept : (switches : ℕ) (old new : List Spot) (last : List (Option ℕ)) → AreMoreSpots switches old new → AreLastGates old last → AreLastGates new last
last_kept switches old new last more are = λ switch gate is. let (spot, stands, at) = are switch gate is in (spot, more.kept gate spot stands, at)

pub last_put : (switches : ℕ) (old new : List Spot) (last : List (Option ℕ)) (at : ℕ) (spot : Spot) (gate : ℕ) → AreMoreSpots switches old new → AreLastGates old last → at < length last → spot.switch ≡ at → slice_get new gate ≡ Some spot → AreLastGates new (set last at (Some gate))
last_put switches old new last at spot gate more are low same stands = λ switch one is. elim (cases_eq switch at) [
  | inl here ↦ (
      let e : Some gate ≡ Some one = sym (get_or-set_same last at (Some gate) None low) ∙ ap (λ (s : ℕ). get_or (set last at (Some gate)) s None) (sym here) ∙ is in
      let g : gate ≡ one = cc in
      (spot, ap (slice_get new) (sym g) ∙ stands, same ∙ sym here))
  | inr other ↦ last_kept switches old new last more are switch one (sym (get_or-set_other last at switch (Some gate) None other) ∙ is)
]

-- a gate serves as before
for_kept : (lanes : LanesOf) (switches : ℕ) (old new : List Spot) (start : Spot) (gate : ℕ) → AreMoreSpots switches old new → IsGateFor lanes old start gate → IsGateFor lanes new start gate
for_kept lanes switches old new start gate more is = record { spot = is.spot; stands = more.kept gate is.spot is.stands; alike = is.alike }

module _ (fabric : FabricOf) (lanes : LanesOf) (traffic : Traffic) where
  abbrev pub IsGate : List Spot → EndPort → Option ℕ → Type 0
  IsGate spots source gate = MatchOption gate (IsSource fabric traffic source → ⊥) (IsGateOf fabric lanes traffic spots source)

  gate_kept : (switches : ℕ) (old new : List Spot) (source : EndPort) (gate : Option ℕ) → AreMoreSpots switches old new → IsGate old source gate → IsGate new source gate
  gate_kept switches old new source None more is = is
  gate_kept switches old new source (Some gate) more is = record { sends = is.sends; start = is.start; begins = is.begins; serves = for_kept lanes switches old new is.start gate more is.serves }

  -- a gate that is told is that of a source, and there is a port
  pub gate_there : (count : ℕ) (spots : List Spot) (gates : List (Option ℕ)) → AreGatesBelow fabric lanes traffic count spots gates → (place gate : ℕ) → place < count → get_or gates place None ≡ Some gate → IsSource fabric traffic (source_at fabric place) × (gate < length spots)
  gate_there count spots gates are place gate low is =
      let of : IsGateOf fabric lanes traffic spots (source_at fabric place) gate = subst (λ (o : Option ℕ). IsGate spots (source_at fabric place) o) is (are.each place low) in
      (of.sends, slice_get_within spots gate of.serves.spot of.serves.stands)

  pub gates_none : (spots : List Spot) (gates : List (Option ℕ)) → length spots ≡ 0 → AreGatesBelow fabric lanes traffic 0 spots gates
  gates_none spots gates none = record {
    each = λ place low. absurd (omega arith);
    within = λ gate spot is. absurd (let low = slice_get_within spots gate spot is in omega arith);
    few = omega arith;
  }

  pub gates_more : (count : ℕ) (old new : List Spot) (gates : List (Option ℕ)) (gate : Option ℕ) → count < length gates → AreMoreSpots (switch_count fabric) old new → IsGate new (source_at fabric count) gate → AreGatesBelow fabric lanes traffic count old gates → AreGatesBelow fabric lanes traffic (count + 1) new (set gates count gate)
  gates_more count old new gates gate low more is are = record {
    each = put_one (λ (place : ℕ) (g : Option ℕ). IsGate new (source_at fabric place) g) gates count gate None low is
        (λ place before. gate_kept (switch_count fabric) old new (source_at fabric place) (get_or gates place None) more (are.each place before));
    within = λ at spot stands. elim (more.only at spot stands) [
      | inl was ↦ are.within at spot was
      | inr less ↦ less
    ];
    few = (let a = more.few in let b = are.few in omega arith);
  }

-- routes of an end port that is cabled begin somewhere
host_begins : (fabric : FabricOf) (traffic : Traffic) (source : EndPort) → IsSource fabric traffic source → begin_of fabric source ≡ None → ⊥
host_begins fabric traffic (Host end) (switch, is) none = absurd (cc)
host_begins fabric traffic (Switch switch) is none = cc

pub no_begin : (fabric : FabricOf) (traffic : Traffic) (source : EndPort) → begin_of fabric source ≡ None → IsSource fabric traffic source → ⊥
no_begin fabric traffic source none is = host_begins fabric traffic source is none
