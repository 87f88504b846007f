use Rattle.std.proofs.Common.{◌≡◌, ◌∙◌, sym, ap, subst, ℕ, ◌+◌, ◌*◌, ◌/◌, ◌%◌, ◌<◌, ◌≤◌, List, [], ◌∷◌, ◌++◌, length, map, replicate, arith, slice_index_or, slice_set, Option, Some, None, Bool, true, false, IfSome, is_some, cond, ◌⊎◌, inl, inr}
use Rattle.std.specs.List.{range_with_len}
use Rattle.std.proofs.lemmas.Bool.{cases_eq, cases_lt, lt-ltb}
use Rattle.std.proofs.lemmas.List.{get_or_default, get_or_past, length-replicate}
use Rattle.std.proofs.lemmas.List.FromFn.{length-map-range_with_len, get_or-map-range_with_len, map-range_with_len_more}
use Rattle.net_graph.specs.declared.wiring.Far.{Far}
use Rattle.net_graph.specs.declared.wiring.Far.TheVariants.{Switch, HostAt}
use Rattle.net_graph.specs.Wires.{Wires, far_at, IsWithin}
use Rattle.wire_set.specs.declared.side.Side.{Side}
use Rattle.wire_set.specs.declared.side.Put.{Put}
use Rattle.wire_set.specs.Frames.{FramesOf}
use Rattle.wire_set.specs.WireState.{WiresOf, place, side_at, unused, is_link, far_place, side_of, start, put_into, what_becomes, less_again, before_copy, copied_from, what_copy_becomes, is_copied, IsSound}

-- a port with a link is one of them
pub link_below : (w : WiresOf) (at : ℕ) → is_link (side_at w at).far ≡ true → at < length w.sides
link_below w at link = by (cases_lt at (length w.sides))
  where
    by : (at < length w.sides) ⊎ (length w.sides ≤ at) → at < length w.sides
    by (inl below) = below
    by (inr past) = let no : false ≡ true = sym (ap (λ (s : Side). is_link s.far) (get_or_past w.sides at unused past)) ∙ link in absurd cc

-- a copy that was told
module _ (w : WiresOf) (sides : List Side) (frames : FramesOf) (wire from : ℕ) (bytes : List ℕ) (s : Side) (view : record { sides = sides; frames = frames } ≡ w)
    (link : is_link (side_at w wire).far ≡ true) (read : s ≡ slice_index_or sides wire s) (some : 0 < s.again) (from_is : from ≡ far_place s.far) where
  abbrev w0 : WiresOf
  w0 = record { sides = sides; frames = frames }

  abbrev after : Side → WiresOf
  after side = record { sides = slice_set sides wire (less_again side); frames = frames }

  s_is : s ≡ side_at w0 wire
  s_is = read ∙ get_or_default sides wire s unused (link_below w0 wire (ap (λ (x : WiresOf). is_link (side_at x wire).far) view ∙ link))

  test : is_copied wire w0 ≡ true
  test = lt-ltb 0 (side_at w0 wire).again (omega (arith, some, ap (λ (t : Side). t.again) s_is))

  pub copied_by : (u : WiresOf) → u ≡ put_into from wire bytes (after s) → u ≡ copied_from wire bytes w
  copied_by u is =
      is
      ∙ ap (λ (f : ℕ). put_into f wire bytes (after s)) from_is
      ∙ ap (λ (t : Side). put_into (far_place t.far) wire bytes (after t)) s_is
      ∙ sym (ap (λ (b : Bool). cond b (put_into (far_place (side_at w0 wire).far) wire bytes (before_copy wire w0)) w0) test)
      ∙ ap (copied_from wire bytes) view

  pub what_by : (r : Put) → r ≡ what_becomes from wire bytes (after s) → Some r ≡ what_copy_becomes wire bytes w
  what_by r is =
      ap (λ (x : Put). Some x) (is
      ∙ ap (λ (f : ℕ). what_becomes f wire bytes (after s)) from_is
      ∙ ap (λ (t : Side). what_becomes (far_place t.far) wire bytes (after t)) s_is)
      ∙ sym (ap (λ (b : Bool). cond b (Some (what_becomes (far_place (side_at w0 wire).far) wire bytes (before_copy wire w0))) None) test)
      ∙ ap (what_copy_becomes wire bytes) view

-- the sides of a wiring, by place
abbrev pub wired_side : Wires → ℕ → Side
wired_side wires at = side_of (far_at wires (at / 13) (at % 13))

pub side_made : (wires : Wires) (at : ℕ) (far : Option Far) (is_up : Bool) → is_up ≡ is_some far → far ≡ far_at wires (at / 13) (at % 13) → record { far = far; is_up = is_up; lose = 0; again = 0; swap = 0 } ≡ wired_side wires at
side_made wires at far is_up up_is far_is =
    ap (λ (b : Bool). let s : Side = record { far = far; is_up = b; lose = 0; again = 0; swap = 0 } in s) up_is ∙ ap side_of far_is

pub sides_more : (wires : Wires) (old new : List Side) (at : ℕ) (side : Side) → old ≡ map (wired_side wires) (range_with_len 0 at) → new ≡ old ++ side ∷ [] → side ≡ wired_side wires at → new ≡ map (wired_side wires) (range_with_len 0 (at + 1))
sides_more wires old new at side old_is new_is side_is =
    new_is ∙ ap (λ (l : List Side). l ++ side ∷ []) old_is ∙ ap (λ (s : Side). map (wired_side wires) (range_with_len 0 at) ++ s ∷ []) side_is
    ∙ sym (map-range_with_len_more (wired_side wires) 0 at at (omega arith))

-- the far end of a link of a wiring has a place
pub far_within : (wires : Wires) (s p : ℕ) (far : Option Far) → IfSome far (IsWithin wires s p) → is_link far ≡ true → far_place far < 13 * length wires.switches
far_within wires s p None within link = absurd cc
far_within wires s p (Some (Switch t q)) within link = omega (arith, within.below, within.port_most)
far_within wires s p (Some (HostAt h)) within link = absurd cc

-- One more of them
pub far_more : (wires : Wires) (at : ℕ) (far : Option Far) → far ≡ far_at wires (at / 13) (at % 13) → IfSome far (IsWithin wires (at / 13) (at % 13))
    → ((k : ℕ) → k < at → is_link (far_at wires (k / 13) (k % 13)) ≡ true → far_place (far_at wires (k / 13) (k % 13)) < 13 * length wires.switches)
    → (k : ℕ) → k < at + 1 → is_link (far_at wires (k / 13) (k % 13)) ≡ true → far_place (far_at wires (k / 13) (k % 13)) < 13 * length wires.switches
far_more wires at far far_is within so_far k below link = by (cases_eq k at)
  where
    by : (k ≡ at) ⊎ (k ≡ at → ⊥) → far_place (far_at wires (k / 13) (k % 13)) < 13 * length wires.switches
    by (inl same) =
        let is : far ≡ far_at wires (k / 13) (k % 13) = far_is ∙ ap (λ j. far_at wires (j / 13) (j % 13)) (sym same) in
        subst (λ (o : Option Far). far_place o < 13 * length wires.switches) is
        (far_within wires (at / 13) (at % 13) far within (ap is_link is ∙ link))
    by (inr other) = so_far k (omega (arith, below, other)) link

-- the state at the beginning
pub begin_by : (wires : Wires) (sides : List Side) (frames : FramesOf) (n blocks : ℕ) → sides ≡ map (wired_side wires) (range_with_len 0 (13 * length wires.switches)) → n ≡ length sides
    → frames ≡ record { queues = replicate n []; free = blocks; limit = blocks }
    → ((k : ℕ) → k < 13 * length wires.switches → is_link (far_at wires (k / 13) (k % 13)) ≡ true → far_place (far_at wires (k / 13) (k % 13)) < 13 * length wires.switches)
    → IsSound (record { sides = sides; frames = frames }) × (record { sides = sides; frames = frames } ≡ start wires blocks)
begin_by wires sides frames n blocks sides_is n_is frames_is far = (
  record {
    size = sym n_is ∙ sym (ap (λ (f : FramesOf). length f.queues) frames_is ∙ length-replicate {A = List (List ℕ)} n []);
    far = λ at link. far_by at link (cases_lt at count);
  },
  ap (λ (l : List Side). let w : WiresOf = record { sides = l; frames = frames } in w) sides_is
      ∙ ap (λ (f : FramesOf). let w : WiresOf = record { sides = map (wired_side wires) (range_with_len 0 count); frames = f } in w) (frames_is ∙ ap (λ (m : ℕ). let f : FramesOf = record { queues = replicate m []; free = blocks; limit = blocks } in f) (n_is ∙ length_is)),
)
  where
    count : ℕ
    count = 13 * length wires.switches

    length_is : length sides ≡ count
    length_is = ap length sides_is ∙ length-map-range_with_len (wired_side wires) 0 count

    w : WiresOf
    w = record { sides = sides; frames = frames }

    far_by : (at : ℕ) → is_link (side_at w at).far ≡ true → (at < count) ⊎ (count ≤ at) → far_place (side_at w at).far < length sides
    far_by at link (inl below) =
        let is : side_at w at ≡ wired_side wires at = ap (λ (l : List Side). slice_index_or l at unused) sides_is ∙ get_or-map-range_with_len (wired_side wires) 0 count at at unused below (omega arith) in
        omega (arith, ap (λ (s : Side). far_place s.far) is, far at below (sym (ap (λ (s : Side). is_link s.far) is) ∙ link), length_is)
    far_by at link (inr past) = absurd (omega (arith, link_below w at link, length_is, past))

-- each port is that of the wiring
pub port_is : (wires : Wires) (blocks s p : ℕ) → s < length wires.switches → p < 13 → side_at (start wires blocks) (place s p) ≡ side_of (far_at wires s p)
port_is wires blocks s p s_below p_below =
    get_or-map-range_with_len (wired_side wires) 0 (13 * length wires.switches) (place s p) (place s p) unused (omega (arith, s_below, p_below)) (omega arith)
    ∙ ap (λ q. side_of (far_at wires q ((13 * s + p) % 13))) {x = (13 * s + p) / 13} {y = s} (omega (arith, p_below))
    ∙ ap (λ q. side_of (far_at wires s q)) {x = (13 * s + p) % 13} {y = p} (omega (arith, p_below))
