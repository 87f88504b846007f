use Rattle.std.proofs.Common.{◌≡◌, ◌∙◌, ◌<◌, ◌≤◌, ◌+◌, ◌-◌, ◌*◌, sym, ap, subst, ℕ, List, Some, Bool, length, get_or, take, drop, arith, inl, inr, ◌⊎◌}
use Rattle.std.specs.Int.{bit_at}
use Rattle.std.specs.Prelude.{slice_get}
use Rattle.std.proofs.lemmas.Bool.{cases_lt}
use Rattle.std.proofs.lemmas.List.{get_or-drop, get_or-take, length-drop, length-take-le}
use Rattle.std.proofs.lemmas.Nat.{row_fits}
use Rattle.std.proofs.lemmas.Option.{slice_get-get_or, slice_get_within}
use Rattle.fabric_model.specs.declared.node.Spot.{Spot}
use Rattle.fabric_routes.specs.Waves.{HasBit}
use Rattle.fabric_lane_waves.specs.declared.block.BlockRoutes.{BlockRoutes}
use Rattle.fabric_lane_waves.specs.LaneBlocks.{AreBegunOf, IsOfGate, IsOfGates}
use Rattle.fabric_lane_waves.specs.LaneSteps.{place_count}
use Rattle.fabric_lane_waves.proofs.BeginLemmas.{begun_as, begun_more, begun_none}
use Rattle.fabric_lane_waves.proofs.start.begin_all.Goals as goal

-- those of the first gates
abbrev First : List Spot → List ℕ → ℕ → ℕ → Spot → ℕ → ℕ → Type 0
First spots sent top end at level bit = (gate : ℕ) × (gate < end) × (slice_get spots gate ≡ Some at) × (level < top) × (bit < 64) × HasBit sent (gate * top + level) bit

some_spot : (a b : Spot) → Some a ≡ Some b → a ≡ b
some_spot a b same = cc

-- the words of a gate are among those of all
within : (gate count top room : ℕ) → gate < count → room ≡ count * top → gate * top + top ≤ room
within gate count top room low size = let row = row_fits gate top count top low (omega arith) in omega arith

module _ (sent : List ℕ) (row top : ℕ) (fits : row + top ≤ length sent) where
  abbrev words : List ℕ
  words = take (row + top - row) (drop row sent)

  size : length words ≡ top
  size =
      let rest = length-drop row sent in
      let all : row + top - row ≡ top = omega arith in
      length-take-le (row + top - row) (drop row sent) (omega arith) ∙ all

  word_at : (level : ℕ) → level < top → get_or words level 0 ≡ get_or sent (row + level) 0
  word_at level low = get_or-take (row + top - row) (drop row sent) level 0 (omega arith) ∙ get_or-drop row sent level 0

  to_all : (level bit : ℕ) → level < top → HasBit words level bit → HasBit sent (row + level) bit
  to_all level bit low has = ap (λ (word : ℕ). bit_at word bit) (sym (word_at level low)) ∙ has

  from_all : (level bit : ℕ) → level < top → HasBit sent (row + level) bit → HasBit words level bit
  from_all level bit low has = ap (λ (word : ℕ). bit_at word bit) (word_at level low) ∙ has

module _ (spots : List Spot) (sent : List ℕ) (top end : ℕ) (fits : end * top + top ≤ length sent) (spot at : Spot) (level bit : ℕ) (here : slice_get spots end ≡ Some spot) where
  split : First spots sent top (end + 1) at level bit → First spots sent top end at level bit ⊎ IsOfGate spot (words sent (end * top) top fits) at level bit
  split (gate, less, stands, below, low, has) = elim (cases_lt gate end) [
    | inl before ↦ inl (gate, before, stands, below, low, has)
    | inr last ↦ (
        let same : gate ≡ end = omega arith in
        inr (
          some_spot at spot (sym stands ∙ ap (slice_get spots) same ∙ here),
          subst (λ (n : ℕ). level < n) (sym (size sent (end * top) top fits)) below,
          low,
          from_all sent (end * top) top fits level bit below (subst (λ (g : ℕ). HasBit sent (g * top + level) bit) same has),
        ))
  ]

  last : IsOfGate spot (words sent (end * top) top fits) at level bit → First spots sent top (end + 1) at level bit
  last (same, less, low, has) =
      let below = subst (λ (n : ℕ). level < n) (size sent (end * top) top fits) less in
      (end, omega arith, here ∙ ap (λ (s : Spot). Some s) (sym same), below, low, to_all sent (end * top) top fits level bit below has)

pub gates-init : goal.gates-init
gates-init c = begun_none c.args.routes.now (First c.args.spots.now c.args.sent.now c.args.top 0) c.args.seen.now c.args.stopped
    (λ at level bit kind. absurd (let low = kind.1 in omega arith))

pub begin-stops-requires-clause-few : goal.begin-stops-requires-clause-few
begin-stops-requires-clause-few c =
    let fits = within c.gates.gate (length c.args.spots.now) c.args.top (length c.args.sent.now) c.gates-test.true c.requires.sent in
    subst (λ (n : ℕ). n ≤ 16) (sym (size c.args.sent.now (c.gates.gate * c.args.top) c.args.top fits)) c.requires.top

pub begin-stops-requires-clause-room : goal.begin-stops-requires-clause-room
begin-stops-requires-clause-room c =
    let fits = within c.gates.gate (length c.args.spots.now) c.args.top (length c.args.sent.now) c.gates-test.true c.requires.sent in
    subst (λ (n : ℕ). place_count c.args.routes.now.routing n ≤ length c.gates.seen) (sym (size c.args.sent.now (c.gates.gate * c.args.top) c.args.top fits))
    (let room = c.requires.room in let same = c.gates.auto.seen in omega arith)

module _ (routes : BlockRoutes) (spots : List Spot) (sent : List ℕ) (top : ℕ) where
  more : (gate : ℕ) (none : Spot) → gate < length spots → (fits : gate * top + top ≤ length sent) → (a b c : List ℕ) (x y z : Bool) → AreBegunOf routes (First spots sent top gate) a b x y → AreBegunOf routes (IsOfGate (get_or spots gate none) (words sent (gate * top) top fits)) b c y z → AreBegunOf routes (First spots sent top (gate + 1)) a c x z
  more gate none low fits a b c x y z before now =
      let here = slice_get-get_or spots gate none low in
      begun_more routes (First spots sent top gate) (IsOfGate (get_or spots gate none) (words sent (gate * top) top fits)) (First spots sent top (gate + 1)) a b c x y z
      (λ at level bit kind. split spots sent top gate fits (get_or spots gate none) at level bit here kind)
      (λ at level bit (one, less, stands, below, low, has). (one, omega arith, stands, below, low, has))
      (λ at level bit kind. last spots sent top gate fits (get_or spots gate none) at level bit here kind)
      before now

pub gates-preserved : goal.gates-preserved
gates-preserved c =
    let fits = within c.gates.gate (length c.args.spots.now) c.args.top (length c.args.sent.now) c.gates-test.true c.requires.sent in
    more c.args.routes.now c.args.spots.now c.args.sent.now c.args.top c.gates.gate _ c.gates-test.true fits c.args.seen.now c.gates.seen c.begin-stops.new.seen c.args.stopped c.gates.stops c.begin-stops.result c.gates.invariant c.begin-stops.ensures

pub returns : goal.returns
returns c = begun_as c.args.routes.now
    (First c.args.spots.now c.args.sent.now c.args.top c.gates.gate) (IsOfGates c.args.spots.now c.args.sent.now c.args.top)
    c.args.seen.now c.gates.seen c.args.stopped c.gates.stops
    (λ at level bit kind. (kind.0, kind.2, kind.3, kind.4, kind.5)) (λ at level bit kind. (kind.0, (let low = slice_get_within c.args.spots.now kind.0 at kind.1 in omega arith), kind.1, kind.2, kind.3, kind.4)) c.gates.invariant
