use Rattle.std.proofs.Common.{◌≡◌, ◌≢◌, ◌∙◌, sym, ap, subst, refl, ℕ, ◌*◌, ◌/◌, ◌%◌, ◌<◌, ◌≤◌, List, length, arith, slice_set, Option, Some, None, Bool, true, false, not, cond, nat_lt, ◌⊎◌, inl, inr}
use Rattle.std.proofs.lemmas.Bool.{cases_eq, cases_lt}
use Rattle.std.proofs.lemmas.List.{get_or-set_other, get_or-set_same, get_or_past, length-set}
use Rattle.std.proofs.lemmas.List.FromFn.{length-map-range_with_len}
use Rattle.net_graph.specs.declared.wiring.Far.{Far}
use Rattle.net_graph.specs.declared.wiring.Far.TheVariants.{Switch, HostAt}
use Rattle.net_graph.specs.Wires.{Wires, IsWired, far_at, far_of, far_or_host, host_of}
use Rattle.net_graph.proofs.FarLemmas.{far_back, to_switch, far_is}
use Rattle.frame_region.specs.Sizes.{blocks_of}
use Rattle.wire_set.specs.declared.side.Side.{Side}
use Rattle.wire_set.specs.Frames.{FramesOf, put_frame, clear, move_first, move_second}
use Rattle.wire_set.specs.WireState.{WiresOf, AreOne, LinksAgree, place, side_at, unused, is_link, far_place, with_side, side_of, start, put_into, less_to_lose, is_second, less_to_swap, held_from, is_copied, before_copy, copied_from, take_from, taken_frame, with_up, link_set, wires_cleared, fail_at, repair_at, less_again}
use Rattle.wire_set.proofs.WireLemmas.{link_below, port_is, wired_side}

-- what each port has at its far side, and whether its link is up, is as before
pub record SameLinks (w u : WiresOf) : Type 0 where
  pub far : (b : ℕ) → (side_at u b).far ≡ (side_at w b).far
  pub up : (b : ℕ) → (side_at u b).is_up ≡ (side_at w b).is_up

pub same_agrees : (w u : WiresOf) → SameLinks w u → LinksAgree w → LinksAgree u
same_agrees w u s agree at link =
    let one = agree at (ap is_link (sym (s.far at)) ∙ link) in
    let other : far_place (side_at u at).far ≡ far_place (side_at w at).far = ap far_place (s.far at) in
    subst (λ (b : ℕ). AreOne u at b) (sym other) (record {
      link = ap is_link (s.far (far_place (side_at w at).far)) ∙ one.link;
      back = ap far_place (s.far (far_place (side_at w at).far)) ∙ one.back;
      up = s.up (far_place (side_at w at).far) ∙ one.up ∙ sym (s.up at);
    })

-- a port's side is set
pub set_side : (w : WiresOf) (at b : ℕ) (s : Side) → at < length w.sides → b ≡ at → side_at (with_side at s w) b ≡ s
set_side w at b s below same = ap (side_at (with_side at s w)) same ∙ get_or-set_same w.sides at s unused below

pub set_others : (w : WiresOf) (at b : ℕ) (s : Side) → b ≢ at → side_at (with_side at s w) b ≡ side_at w b
set_others w at b s other = get_or-set_other w.sides at b s unused other

-- only what was told changes
pub side_same : (w : WiresOf) (at : ℕ) (s : Side) → s.far ≡ (side_at w at).far → s.is_up ≡ (side_at w at).is_up → SameLinks w (with_side at s w)
side_same w at s far_is up_is = record { far = λ b. far_by b (cases_eq b at) (cases_lt at (length w.sides)); up = λ b. up_by b (cases_eq b at) (cases_lt at (length w.sides)) }
  where
    past_same : (b : ℕ) → b ≡ at → length w.sides ≤ at → side_at (with_side at s w) b ≡ side_at w b
    past_same b same past =
        get_or_past (slice_set w.sides at s) b unused (omega (arith, past, same, length-set w.sides at s)) ∙ sym (get_or_past w.sides b unused (omega (arith, past, same)))

    far_by : (b : ℕ) → (b ≡ at) ⊎ (b ≡ at → ⊥) → (at < length w.sides) ⊎ (length w.sides ≤ at) → (side_at (with_side at s w) b).far ≡ (side_at w b).far
    far_by b (inl same) (inl below) = ap (λ (x : Side). x.far) (set_side w at b s below same) ∙ far_is ∙ ap (λ c. (side_at w c).far) (sym same)
    far_by b (inl same) (inr past) = ap (λ (x : Side). x.far) (past_same b same past)
    far_by b (inr other) within = ap (λ (x : Side). x.far) (set_others w at b s other)

    up_by : (b : ℕ) → (b ≡ at) ⊎ (b ≡ at → ⊥) → (at < length w.sides) ⊎ (length w.sides ≤ at) → (side_at (with_side at s w) b).is_up ≡ (side_at w b).is_up
    up_by b (inl same) (inl below) = ap (λ (x : Side). x.is_up) (set_side w at b s below same) ∙ up_is ∙ ap (λ c. (side_at w c).is_up) (sym same)
    up_by b (inl same) (inr past) = ap (λ (x : Side). x.is_up) (past_same b same past)
    up_by b (inr other) within = ap (λ (x : Side). x.is_up) (set_others w at b s other)

pub side_agrees : (w : WiresOf) (at : ℕ) (s : Side) → s.far ≡ (side_at w at).far → s.is_up ≡ (side_at w at).is_up → LinksAgree w → LinksAgree (with_side at s w)
side_agrees w at s far_is up_is agree = same_agrees w (with_side at s w) (side_same w at s far_is up_is) agree

pub frames_agree : (w : WiresOf) (frames : FramesOf) → LinksAgree w → LinksAgree (record w { frames = frames })
frames_agree w frames agree = same_agrees w (record w { frames = frames }) (record { far = λ b. refl; up = λ b. refl }) agree

if_agrees : (b : Bool) (x y : WiresOf) → LinksAgree x → LinksAgree y → LinksAgree (cond b x y)
if_agrees true x y agree_x agree_y = agree_x
if_agrees false x y agree_x agree_y = agree_y

pub put_agrees : (w : WiresOf) (from wire : ℕ) (bytes : List ℕ) → LinksAgree w → LinksAgree (put_into from wire bytes w)
put_agrees w from wire bytes agree =
    if_agrees (not (side_at w from).is_up) w (cond (nat_lt 0 (side_at w wire).lose) told (cond (nat_lt w.frames.free (blocks_of bytes)) w kept)) agree
    (if_agrees (nat_lt 0 (side_at w wire).lose) told (cond (nat_lt w.frames.free (blocks_of bytes)) w kept)
    (side_agrees w wire (less_to_lose (side_at w wire)) refl refl agree)
    (if_agrees (nat_lt w.frames.free (blocks_of bytes)) w kept agree (frames_agree w (put_frame wire bytes w.frames) agree)))
  where
    told : WiresOf
    told = with_side wire (less_to_lose (side_at w wire)) w

    kept : WiresOf
    kept = record w { frames = put_frame wire bytes w.frames }

held_agrees : (w : WiresOf) (wire hand : ℕ) → LinksAgree w → LinksAgree (held_from wire hand w)
held_agrees w wire hand agree =
    if_agrees (is_second wire w) (record (with_side wire (less_to_swap (side_at w wire)) w) { frames = move_second wire hand w.frames }) (record w { frames = move_first wire hand w.frames })
    (frames_agree (with_side wire (less_to_swap (side_at w wire)) w) (move_second wire hand w.frames) (side_agrees w wire (less_to_swap (side_at w wire)) refl refl agree))
    (frames_agree w (move_first wire hand w.frames) agree)

copied_agrees : (w : WiresOf) (wire : ℕ) (bytes : List ℕ) → LinksAgree w → LinksAgree (copied_from wire bytes w)
copied_agrees w wire bytes agree =
    if_agrees (is_copied wire w) (put_into (far_place (side_at w wire).far) wire bytes (before_copy wire w)) w
    (put_agrees (before_copy wire w) (far_place (side_at w wire).far) wire bytes (side_agrees w wire (less_again (side_at w wire)) refl refl agree)) agree

pub take_agrees : (w : WiresOf) (wire hand : ℕ) → LinksAgree w → LinksAgree (take_from wire hand w)
take_agrees w wire hand agree = copied_agrees (held_from wire hand w) wire (taken_frame wire w) (held_agrees w wire hand agree)

-- one side is set up or down: what is at the far sides stays
pub up_far : (w : WiresOf) (up : Bool) (at b : ℕ) → (side_at (with_up up at w) b).far ≡ (side_at w b).far
up_far w up at b = by (cases_eq b at) (cases_lt at (length w.sides))
  where
    s : Side
    s = record (side_at w at) { is_up = up }

    by : (b ≡ at) ⊎ (b ≡ at → ⊥) → (at < length w.sides) ⊎ (length w.sides ≤ at) → (side_at (with_side at s w) b).far ≡ (side_at w b).far
    by (inl same) (inl below) = ap (λ (x : Side). x.far) (set_side w at b s below same) ∙ ap (λ c. (side_at w c).far) (sym same)
    by (inl same) (inr past) =
        ap (λ (x : Side). x.far) (get_or_past (slice_set w.sides at s) b unused (omega (arith, past, same, length-set w.sides at s)) ∙ sym (get_or_past w.sides b unused (omega (arith, past, same))))
    by (inr other) within = ap (λ (x : Side). x.far) (set_others w at b s other)

-- a host's link
pub alone_agrees : (w : WiresOf) (up : Bool) (at : ℕ) → is_link (side_at w at).far ≡ false → LinksAgree w → LinksAgree (with_up up at w)
alone_agrees w up at no_link agree b link =
    subst (λ (o : ℕ). AreOne u b o) (sym (ap far_place (up_far w up at b))) (record {
      link = ap is_link (up_far w up at other) ∙ one.link;
      back = ap far_place (up_far w up at other) ∙ one.back;
      up = ap (λ (x : Side). x.is_up) (set_others w at other s (λ same. apart other one.link same)) ∙ one.up ∙ sym (ap (λ (x : Side). x.is_up) (set_others w at b s (λ same. apart b link' same)));
    })
  where
    u : WiresOf
    u = with_up up at w

    s : Side
    s = record (side_at w at) { is_up = up }

    link' : is_link (side_at w b).far ≡ true
    link' = ap is_link (sym (up_far w up at b)) ∙ link

    other : ℕ
    other = far_place (side_at w b).far

    one : AreOne w b other
    one = agree b link'

    apart : (c : ℕ) → is_link (side_at w c).far ≡ true → c ≡ at → ⊥
    apart c link_c same = let no : true ≡ false = sym link_c ∙ ap (λ d. is_link (side_at w d).far) same ∙ no_link in cc

-- a link of two switch ports
pub both_agree : (w : WiresOf) (up : Bool) (at far : ℕ) → is_link (side_at w at).far ≡ true → far_place (side_at w at).far ≡ far → LinksAgree w → LinksAgree (with_up up far (with_up up at w))
both_agree w up at far link_at far_is agree b link =
    subst (λ (o : ℕ). AreOne u b o) (sym (ap far_place (far_same b))) (record {
      link = ap is_link (far_same other) ∙ one.link;
      back = ap far_place (far_same other) ∙ one.back;
      up = by (cases_eq b at) (cases_eq b far);
    })
  where
    v : WiresOf
    v = with_up up at w

    u : WiresOf
    u = with_up up far v

    here : AreOne w at far
    here = subst (λ (o : ℕ). AreOne w at o) far_is (agree at link_at)

    at_below : at < length w.sides
    at_below = link_below w at link_at

    far_below : far < length v.sides
    far_below = omega (arith, link_below w far here.link, length-set w.sides at (record (side_at w at) { is_up = up }))

    far_same : (c : ℕ) → (side_at u c).far ≡ (side_at w c).far
    far_same c = up_far v up far c ∙ up_far w up at c

    link' : is_link (side_at w b).far ≡ true
    link' = ap is_link (sym (far_same b)) ∙ link

    other : ℕ
    other = far_place (side_at w b).far

    one : AreOne w b other
    one = agree b link'

    up_at_far : (c : ℕ) → c ≡ far → (side_at u c).is_up ≡ up
    up_at_far c same = ap (λ (x : Side). x.is_up) (set_side v far c (record (side_at v far) { is_up = up }) far_below same)

    up_at : (c : ℕ) → c ≡ at → (c ≡ far) ⊎ (c ≡ far → ⊥) → (side_at u c).is_up ≡ up
    up_at c same (inl also) = up_at_far c also
    up_at c same (inr apart) =
        ap (λ (x : Side). x.is_up) (set_others v far c (record (side_at v far) { is_up = up }) apart)
        ∙ ap (λ (x : Side). x.is_up) (set_side w at c (record (side_at w at) { is_up = up }) at_below same)

    up_else : (c : ℕ) → c ≢ at → c ≢ far → (side_at u c).is_up ≡ (side_at w c).is_up
    up_else c apart_at apart_far =
        ap (λ (x : Side). x.is_up) (set_others v far c (record (side_at v far) { is_up = up }) apart_far ∙ set_others w at c (record (side_at w at) { is_up = up }) apart_at)

    by : (b ≡ at) ⊎ (b ≡ at → ⊥) → (b ≡ far) ⊎ (b ≡ far → ⊥) → (side_at u other).is_up ≡ (side_at u b).is_up
    by (inl same) is_far = up_at_far other (ap (λ c. far_place (side_at w c).far) same ∙ far_is) ∙ sym (up_at b same is_far)
    by (inr apart) (inl same) =
        let other_is : other ≡ at = ap (λ c. far_place (side_at w c).far) same ∙ here.back in
        up_at other other_is (cases_eq other far) ∙ sym (up_at_far b same)
    by (inr apart) (inr apart_far) =
        up_else other
        (λ same. apart_far (sym one.back ∙ ap (λ c. far_place (side_at w c).far) same ∙ far_is))
        (λ same. apart (sym one.back ∙ ap (λ c. far_place (side_at w c).far) same ∙ here.back))
        ∙ one.up ∙ sym (up_else b apart apart_far)

set_agrees_by : (w : WiresOf) (up : Bool) (at : ℕ) (far : Option Far) → (side_at w at).far ≡ far → LinksAgree w → LinksAgree (link_set up far at w)
set_agrees_by w up at None is agree = alone_agrees w up at (ap is_link is) agree
set_agrees_by w up at (Some (HostAt h)) is agree = alone_agrees w up at (ap is_link is) agree
set_agrees_by w up at (Some (Switch t q)) is agree = both_agree w up at (place t q) (ap is_link is) (ap far_place is) agree

cleared_agrees : (w : WiresOf) (at : ℕ) (far : Option Far) → LinksAgree w → LinksAgree (wires_cleared far at w)
cleared_agrees w at None agree = agree
cleared_agrees w at (Some (HostAt h)) agree = agree
cleared_agrees w at (Some (Switch t q)) agree = frames_agree w (clear (place t q) (clear at w.frames)) agree

pub fail_agrees : (w : WiresOf) (at : ℕ) → LinksAgree w → LinksAgree (fail_at at w)
fail_agrees w at agree = cleared_agrees (link_set false (side_at w at).far at w) at (side_at w at).far (set_agrees_by w false at (side_at w at).far refl agree)

pub repair_agrees : (w : WiresOf) (at : ℕ) → LinksAgree w → LinksAgree (repair_at at w)
repair_agrees w at agree = set_agrees_by w true at (side_at w at).far refl agree

-- at the beginning
pub start_agrees : (wires : Wires) (blocks : ℕ) → IsWired wires → LinksAgree (start wires blocks)
start_agrees wires blocks wired at link = by (far_at wires (at / 13) (at % 13)) refl (cases_lt at (13 * length wires.switches))
  where
    w : WiresOf
    w = start wires blocks

    side_is : at < 13 * length wires.switches → side_at w at ≡ side_of (far_at wires (at / 13) (at % 13))
    side_is below = ap (side_at w) {x = at} {y = place (at / 13) (at % 13)} (omega arith) ∙ port_is wires blocks (at / 13) (at % 13) (omega (arith, below)) (omega arith)

    by : (far : Option Far) → far_at wires (at / 13) (at % 13) ≡ far → (at < 13 * length wires.switches) ⊎ (13 * length wires.switches ≤ at) → AreOne w at (far_place (side_at w at).far)
    by far is (inr past) = absurd (omega (arith, past, link_below w at link, length-map-range_with_len (wired_side wires) 0 (13 * length wires.switches)))
    by None is (inl below) = let no : false ≡ true = sym (ap (λ (x : Side). is_link x.far) (side_is below) ∙ ap is_link is) ∙ link in absurd cc
    by (Some (HostAt h)) is (inl below) = let no : false ≡ true = sym (ap (λ (x : Side). is_link x.far) (side_is below) ∙ ap is_link is) ∙ link in absurd cc
    by (Some (Switch t q)) is (inl below) =
        let e : far_of wires.links (at / 13) (at % 13) ≡ Some (t, q) = to_switch (far_of wires.links (at / 13) (at % 13)) (host_of wires.hosts (at / 13) (at % 13)) t q is in
        let range = far_is wires (at / 13) (at % 13) (t, q) wired e in
        let back : far_at wires t q ≡ Some (Switch (at / 13) (at % 13))
        = ap (λ (o : Option (ℕ × ℕ)). far_or_host o (host_of wires.hosts t q)) (far_back wires wired (at / 13) (at % 13) t q e) in
        let here : side_at w at ≡ side_of (Some (Switch t q)) = side_is below ∙ ap side_of is in
        let there : side_at w (place t q) ≡ side_of (Some (Switch (at / 13) (at % 13))) = port_is wires blocks t q range.below (omega (arith, range.port_most)) ∙ ap side_of back in
        subst (λ (o : ℕ). AreOne w at o) (sym (ap (λ (x : Side). far_place x.far) here)) (record {
          link = ap (λ (x : Side). is_link x.far) there;
          back = ap (λ (x : Side). far_place x.far) there ∙ omega arith;
          up = ap (λ (x : Side). x.is_up) there ∙ sym (ap (λ (x : Side). x.is_up) here);
        })
