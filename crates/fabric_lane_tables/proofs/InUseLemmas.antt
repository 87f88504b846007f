-- Levels that are added one after another, those that are given, and those in use.
use Rattle.std.proofs.Common.{◌≡◌, ◌≢◌, ◌∙◌, sym, ap, refl, subst, ℕ, ◌+◌, ◌*◌, ◌/◌, ◌%◌, ◌<◌, ◌≤◌, ◌^◌, ◌&&◌, ◌++◌, ◌∷◌, [], ◌↔◌, Bool, true, false, cond, eqb, ltb, max, Some, None, List, arith, length, inl, inr, ◌⊎◌}
use Rattle.std.specs.Prelude.{◌==◌, bit_or, Contains}
use Rattle.std.specs.Int.{bit_at, trailing_zeros, w16}
use Rattle.std.proofs.lemmas.Bool.{and_parts, cases_eq, cases_lt, eqb-true, false≢true}
use Rattle.std.proofs.lemmas.Bool.Decides.{nat_tests}
use Rattle.std.proofs.lemmas.List.{get_or_past}
use Rattle.std.proofs.lemmas.List.Elements.{Contains-append_left, Contains-push, Contains-push_cases}
use Rattle.std.proofs.Math.Nat.{lt-div-mul-add}
use Rattle.std.proofs.lemmas.Nat.{pow_pos}
use Rattle.std.proofs.lemmas.Nat.Bits.{bit_at-lt, bit_at-pow_other, bit_at-pow_same, bit_at-trailing_zeros, bit_at-zero, bit_at_above, bit_at_cat_low, bit_at_or}
use Rattle.std.proofs.lemmas.Option.{same_Some, none-some, slice_get_within}
use Rattle.fabric_model.specs.declared.node.EndPort.{EndPort}
use Rattle.fabric_model.specs.declared.node.EndPort.TheVariants as port
use Rattle.fabric_model.specs.Fabric.{FabricOf, IsFabric, owner_of, switch_count}
use Rattle.fabric_lane_tables.specs.PathLevels.{HasLevel, IsLevelAdded, IsPlaced, LevelRowsOf, LevelsOf}
use Rattle.fabric_lane_tables.specs.PathLevels.{is_end, place_of_source, told_levels}
use Rattle.fabric_lane_tables.specs.Levels.{filled}
use Rattle.fabric_lane_tables.specs.InUse.{AddsLevels, AreLevelsGiven, AreLevelsInUse, AreLidsOf, AreUsedRows, HasReplyLevel, HasRoom, IsAskedTo}
use Rattle.fabric_lane_tables.specs.InUse.{IsLevelInUse, IsLevelOfPair, IsUsedBelow, IsUsedTo}
use Rattle.fabric_lane_tables.proofs.SelectLemmas.{end_cases, levels_past, levels_outside}

-- bits of one number or another
max_left : (a b : ℕ) → a ≡ 1 → b < 2 → max a b ≡ 1
max_left a b one low = omega arith

max_right : (a b : ℕ) → a < 2 → b ≡ 1 → max a b ≡ 1
max_right a b low one = omega arith

max_one : (a b : ℕ) → a < 2 → b < 2 → max a b ≡ 1 → (a ≡ 1) ⊎ (b ≡ 1)
max_one a b low low_too is = elim (cases_eq a 1) [
  | inl one ↦ inl one
  | inr other ↦ inr (omega arith)
]

pub or_left : (a b k : ℕ) → bit_at a k ≡ 1 → bit_at (bit_or a b) k ≡ 1
or_left a b k has = bit_at_or a b k ∙ max_left (bit_at a k) (bit_at b k) has (bit_at-lt b k)

pub or_right : (a b k : ℕ) → bit_at b k ≡ 1 → bit_at (bit_or a b) k ≡ 1
or_right a b k has = bit_at_or a b k ∙ max_right (bit_at a k) (bit_at b k) (bit_at-lt a k) has

pub or_cases : (a b k : ℕ) → bit_at (bit_or a b) k ≡ 1 → (bit_at a k ≡ 1) ⊎ (bit_at b k ≡ 1)
or_cases a b k has = max_one (bit_at a k) (bit_at b k) (bit_at-lt a k) (bit_at-lt b k) (sym (bit_at_or a b k) ∙ has)

pub no_bit : (k : ℕ) → bit_at 0 k ≡ 1 → ⊥
no_bit k is = absurd (let zero : 0 ≡ 1 = sym (bit_at-zero k) ∙ is in omega arith)

pow_bit : (level k : ℕ) → bit_at (2 ^ level) k ≡ 1 → k ≡ level
pow_bit level k has = elim (cases_eq k level) [
  | inl same ↦ same
  | inr other ↦ absurd (let zero : 0 ≡ 1 = sym (bit_at-pow_other level k other) ∙ has in omega arith)
]

-- one level more
same_end : (a b : EndPort) → is_end a b ≡ true → a ≡ b
same_end a b is = elim (end_cases a b) [
  | inl (same, test) ↦ same
  | inr (differs, test) ↦ absurd (false≢true (sym test ∙ is))
]

end_itself : (a : EndPort) → is_end a a ≡ true
end_itself a = elim (end_cases a a) [
  | inl (same, test) ↦ test
  | inr (differs, test) ↦ absurd (differs refl)
]

abbrev pub IsOneLevel : (source : EndPort) (lid level : ℕ) → EndPort → ℕ → ℕ → Type 0
IsOneLevel source lid level other other_lid k = (other ≡ source) × (other_lid ≡ lid) × (k ≡ level)

module _ (old new : LevelsOf) (source : EndPort) (lid level : ℕ) (fits : level < 16) (is_added : IsLevelAdded old new source lid level) where
  kept_by : (o : EndPort) (l k : ℕ) (b : Bool) → bit_at (old o l) k ≡ 1 → bit_at (cond b (bit_or (old o l) (2 ^ level)) (old o l)) k ≡ 1
  kept_by o l k true has = or_left (old o l) (2 ^ level) k has
  kept_by o l k false has = has

  only_by : (o : EndPort) (l k : ℕ) (b : Bool) → (is_end o source && l == lid) ≡ b → bit_at (cond b (bit_or (old o l) (2 ^ level)) (old o l)) k ≡ 1 → (bit_at (old o l) k ≡ 1) ⊎ IsOneLevel source lid level o l k
  only_by o l k false is has = inl has
  only_by o l k true is has = elim (or_cases (old o l) (2 ^ level) k has) [
    | inl had ↦ inl had
    | inr bit ↦ (let both = and_parts (is_end o source) (l == lid) is in inr (same_end o source both.0, eqb-true l lid both.1, pow_bit level k bit))
  ]

  here : (is_end source source && lid == lid) ≡ true
  here =
      let itself : eqb lid lid ≡ true = grind (arith, nat_tests) in
      ap (λ (b : Bool). b && lid == lid) (end_itself source) ∙ ap (λ (b : Bool). true && b) itself

  there : bit_at (new source lid) level ≡ 1
  there =
      ap (λ (n : ℕ). bit_at n level) (is_added source lid)
      ∙ ap (λ (b : Bool). bit_at (cond b (bit_or (old source lid) (2 ^ level)) (old source lid)) level) here
      ∙ or_right (old source lid) (2 ^ level) level (bit_at-pow_same level)

  pub one_added : AddsLevels old new (IsOneLevel source lid level)
  one_added = record {
    kept = λ o l k has. (has.0, ap (λ (n : ℕ). bit_at n k) (is_added o l) ∙ kept_by o l k (is_end o source && l == lid) has.1);
    added = λ o l k is. subst (λ (p : EndPort). HasLevel new p l k) (sym is.0) (subst (λ (n : ℕ). HasLevel new source n k) (sym is.1) (subst (λ (n : ℕ). HasLevel new source lid n) (sym is.2) (fits, there)));
    only = λ o l k has. elim (only_by o l k (is_end o source && l == lid) refl (sym (ap (λ (n : ℕ). bit_at n k) (is_added o l)) ∙ has.1)) [
      | inl had ↦ inl (has.0, had)
      | inr is ↦ inr is
    ];
  }

-- the LIDs of an end port below one
pub record AreLidsBelow (fabric : FabricOf) (source : EndPort) (lids : List ℕ) (count : ℕ) : Type 0 where
  pub are : (lid : ℕ) → Contains lids lid → owner_of fabric lid ≡ Some source
  pub all : (lid : ℕ) → lid < count → owner_of fabric lid ≡ Some source → Contains lids lid

pub lid_pushed : (fabric : FabricOf) (source : EndPort) (lids : List ℕ) (lid : ℕ) → owner_of fabric lid ≡ Some source → AreLidsBelow fabric source lids lid → AreLidsBelow fabric source (lids ++ lid ∷ []) (lid + 1)
lid_pushed fabric source lids lid owned below = record {
  are = λ other has. elim (Contains-push_cases lids lid other has) [
    | inl had ↦ below.are other had
    | inr same ↦ ap (owner_of fabric) (sym same) ∙ owned
  ];
  all = λ other low has. elim (cases_eq other lid) [
    | inl same ↦ subst (Contains (lids ++ lid ∷ [])) (sym same) (Contains-push lids lid)
    | inr differs ↦ Contains-append_left lids (lid ∷ []) other (below.all other (omega arith) has)
  ];
}

pub lid_passed : (fabric : FabricOf) (source : EndPort) (lids : List ℕ) (lid : ℕ) → (owner_of fabric lid ≡ Some source → ⊥) → AreLidsBelow fabric source lids lid → AreLidsBelow fabric source lids (lid + 1)
lid_passed fabric source lids lid none below = record {
  are = below.are;
  all = λ other low has. elim (cases_eq other lid) [
    | inl same ↦ absurd (none (ap (owner_of fabric) (sym same) ∙ has))
    | inr differs ↦ below.all other (omega arith) has
  ];
}

-- the levels to some LIDs, and to one more
pub asked_more : (told : LevelsOf) (owner : EndPort) (lids : List ℕ) (lid levels word level : ℕ) → level < 16 → word ≡ told owner lid
    → ((bit_at levels level ≡ 1) ↔ IsAskedTo told owner lids level)
    → ((bit_at (bit_or levels word) level ≡ 1) ↔ IsAskedTo told owner (lids ++ lid ∷ []) level)
asked_more told owner lids lid levels word level low is before = (
  (λ has. elim (or_cases levels word level has) [
    | inl had ↦ (let asked = before.0 had in (asked.0, Contains-append_left lids (lid ∷ []) asked.0 asked.1, asked.2))
    | inr bit ↦ (lid, Contains-push lids lid, (low, ap (λ (n : ℕ). bit_at n level) (sym is) ∙ bit))
  ]),
  (λ asked. elim (Contains-push_cases lids lid asked.0 asked.1) [
    | inl had ↦ or_left levels word level (before.1 (asked.0, had, asked.2))
    | inr same ↦ or_right levels word level (ap (λ (n : ℕ). bit_at n level) (is ∙ ap (told owner) same) ∙ asked.2.1)
  ]),
)

-- levels and more levels
pub none_added : (levels : LevelsOf) (P : EndPort → ℕ → ℕ → Type 0) → ((source : EndPort) (lid level : ℕ) → P source lid level → ⊥) → AddsLevels levels levels P
none_added levels P none = record {
  kept = λ source lid level has. has;
  added = λ source lid level is. absurd (none source lid level is);
  only = λ source lid level has. inl has;
}

pub more_added : (a b c : LevelsOf) (P Q R : EndPort → ℕ → ℕ → Type 0) → AddsLevels a b P → AddsLevels b c Q
    → ((source : EndPort) (lid level : ℕ) → R source lid level → P source lid level ⊎ Q source lid level)
    → ((source : EndPort) (lid level : ℕ) → P source lid level → R source lid level)
    → ((source : EndPort) (lid level : ℕ) → Q source lid level → R source lid level)
    → AddsLevels a c R
more_added a b c P Q R one other parts left right = record {
  kept = λ source lid level has. other.kept source lid level (one.kept source lid level has);
  added = λ source lid level is. elim (parts source lid level is) [
    | inl first ↦ other.kept source lid level (one.added source lid level first)
    | inr second ↦ other.added source lid level second
  ];
  only = λ source lid level has. elim (other.only source lid level has) [
    | inl before ↦ (elim (one.only source lid level before) [
      | inl had ↦ inl had
      | inr is ↦ inr (left source lid level is)
    ])
    | inr is ↦ inr (right source lid level is)
  ];
}

pub same_added : (a b : LevelsOf) (P R : EndPort → ℕ → ℕ → Type 0) → AddsLevels a b P
    → ((source : EndPort) (lid level : ℕ) → R source lid level → P source lid level)
    → ((source : EndPort) (lid level : ℕ) → P source lid level → R source lid level)
    → AddsLevels a b R
same_added a b P R one back forth = record {
  kept = one.kept;
  added = λ source lid level is. one.added source lid level (back source lid level is);
  only = λ source lid level has. elim (one.only source lid level has) [
    | inl had ↦ inl had
    | inr is ↦ inr (forth source lid level is)
  ];
}

-- the levels of a pair up to one of them
abbrev pub IsLowLevel : (source : EndPort) (lid levels count : ℕ) → EndPort → ℕ → ℕ → Type 0
IsLowLevel source lid levels count other other_lid level = (other ≡ source) × (other_lid ≡ lid) × (level < count) × (bit_at levels level ≡ 1)

pub low_more : (a b c : LevelsOf) (source : EndPort) (lid levels level : ℕ) → level < 16 → bit_at levels level ≡ 1 → AddsLevels a b (IsLowLevel source lid levels level) → IsLevelAdded b c source lid level → AddsLevels a c (IsLowLevel source lid levels (level + 1))
low_more a b c source lid levels level fits has before added =
    more_added a b c (IsLowLevel source lid levels level) (IsOneLevel source lid level) (IsLowLevel source lid levels (level + 1)) before (one_added b c source lid level fits added)
    (λ o l k is. elim (cases_eq k level) [
      | inl same ↦ inr (is.0, is.1, same)
      | inr other ↦ inl (is.0, is.1, (let less = is.2 in omega arith), is.3)
    ])
    (λ o l k is. (is.0, is.1, (let less = is.2 in omega arith), is.3))
    (λ o l k is. (is.0, is.1, (let same = is.2 in omega arith), ap (bit_at levels) is.2 ∙ has))

pub low_kept : (a b : LevelsOf) (source : EndPort) (lid levels level : ℕ) → (bit_at levels level ≡ 1 → ⊥) → AddsLevels a b (IsLowLevel source lid levels level) → AddsLevels a b (IsLowLevel source lid levels (level + 1))
low_kept a b source lid levels level none before =
    same_added a b (IsLowLevel source lid levels level) (IsLowLevel source lid levels (level + 1)) before
    (λ o l k is. elim (cases_eq k level) [
      | inl same ↦ absurd (none (ap (bit_at levels) (sym same) ∙ is.3))
      | inr other ↦ (is.0, is.1, (let less = is.2 in omega arith), is.3)
    ])
    (λ o l k is. (is.0, is.1, (let less = is.2 in omega arith), is.3))

-- no level is left
pub low_all : (a b : LevelsOf) (source : EndPort) (lid levels level : ℕ) → level ≤ 16 → levels / 2 ^ level ≡ 0 → AddsLevels a b (IsLowLevel source lid levels level) → AddsLevels a b (IsLevelOfPair source lid levels)
low_all a b source lid levels level fits none before =
    let some : 0 < 2 ^ level = pow_pos level in
    let parts = lt-div-mul-add {a = levels} {b = 2 ^ level} some in
    let whole : levels < 0 * 2 ^ level + 2 ^ level = subst (λ (n : ℕ). levels < n * 2 ^ level + 2 ^ level) none parts in
    let small : levels < 2 ^ level = omega (arith, whole) in
    same_added a b (IsLowLevel source lid levels level) (IsLevelOfPair source lid levels) before
    (λ o l k is. elim (cases_lt k level) [
      | inl low ↦ (is.0, is.1, low, is.3)
      | inr past ↦ absurd (let zero : 0 ≡ 1 = sym (bit_at_above levels level k small past) ∙ is.3 in omega arith)
    ])
    (λ o l k is. (is.0, is.1, (let less = is.2 in omega arith), is.3))

-- the levels of an end port to the first LIDs
level_low : (fabric : FabricOf) (given : LevelsOf) (source : EndPort) (lid level : ℕ) → IsLevelInUse fabric true given source lid level → level < 16
level_low fabric given source lid level (inl has) = has.0
level_low fabric given source lid level (inr reply) = let has = reply.1.has in has.0

pub used_more : (fabric : FabricOf) (given a b c : LevelsOf) (source : EndPort) (lid levels : ℕ)
    → ((level : ℕ) → level < 16 → ((bit_at levels level ≡ 1) ↔ IsLevelInUse fabric true given source lid level))
    → AddsLevels a b (IsUsedTo fabric given source lid) → AddsLevels b c (IsLevelOfPair source lid levels)
    → AddsLevels a c (IsUsedTo fabric given source (lid + 1))
used_more fabric given a b c source lid levels bits before added =
    more_added a b c (IsUsedTo fabric given source lid) (IsLevelOfPair source lid levels) (IsUsedTo fabric given source (lid + 1)) before added
    (λ o l k is. elim (cases_eq l lid) [
      | inl same ↦ inr (is.0, same, level_low fabric given o l k is.2, (bits k (level_low fabric given o l k is.2)).1 (subst (λ (p : EndPort). IsLevelInUse fabric true given p lid k) is.0 (subst (λ (n : ℕ). IsLevelInUse fabric true given o n k) same is.2)))
      | inr other ↦ inl (is.0, (let less = is.1 in omega arith), is.2)
    ])
    (λ o l k is. (is.0, (let less = is.1 in omega arith), is.2))
    (λ o l k is. (is.0, (let same = is.1 in omega arith), subst (λ (p : EndPort). IsLevelInUse fabric true given p l k) (sym is.0) (subst (λ (n : ℕ). IsLevelInUse fabric true given source n k) (sym is.1) ((bits k is.2).0 is.3))))

-- the levels of a pair, with those of replies
pub used_none : (fabric : FabricOf) (given : LevelsOf) (source : EndPort) (lid word level : ℕ) → level < 16 → word ≡ given source lid → owner_of fabric lid ≡ None → ((bit_at word level ≡ 1) ↔ IsLevelInUse fabric true given source lid level)
used_none fabric given source lid word level low is none = (
  (λ has. inl (low, ap (λ (n : ℕ). bit_at n level) (sym is) ∙ has)),
  (λ used. elim used [
    | inl has ↦ ap (λ (n : ℕ). bit_at n level) is ∙ has.1
    | inr reply ↦ absurd (none-some reply.1.owner (sym none ∙ reply.1.owns))
  ]),
)

pub used_both : (fabric : FabricOf) (given : LevelsOf) (source owner : EndPort) (lids : List ℕ) (lid word reply level : ℕ) → level < 16 → word ≡ given source lid → owner_of fabric lid ≡ Some owner → AreLidsOf fabric source lids
    → ((bit_at reply level ≡ 1) ↔ IsAskedTo given owner lids level)
    → ((bit_at (bit_or word reply) level ≡ 1) ↔ IsLevelInUse fabric true given source lid level)
used_both fabric given source owner lids lid word reply level low is owns are bits = (
  (λ has. elim (or_cases word reply level has) [
    | inl bit ↦ inl (low, ap (λ (n : ℕ). bit_at n level) (sym is) ∙ bit)
    | inr bit ↦ (let asked = bits.0 bit in inr (refl, record { owner = owner; owns = owns; asked = asked.0; of_source = are.are asked.0 asked.1; has = asked.2 }))
  ]),
  (λ used. elim used [
    | inl has ↦ or_left word reply level (ap (λ (n : ℕ). bit_at n level) is ∙ has.1)
    | inr by ↦ or_right word reply level (bits.1 (by.1.asked, are.all by.1.asked by.1.of_source, subst (λ (p : EndPort). HasLevel given p by.1.asked level) (same_Some by.1.owner owner (sym by.1.owns ∙ owns)) by.1.has))
  ]),
)

-- one end port of a kind more
pub kind_more : (fabric : FabricOf) (given a b c : LevelsOf) (kind : ℕ → EndPort) (place lids : ℕ) → AddsLevels a b (IsUsedBelow fabric given kind place lids) → AddsLevels b c (IsUsedTo fabric given (kind place) lids) → AddsLevels a c (IsUsedBelow fabric given kind (place + 1) lids)
kind_more fabric given a b c kind place lids before added =
    more_added a b c (IsUsedBelow fabric given kind place lids) (IsUsedTo fabric given (kind place) lids) (IsUsedBelow fabric given kind (place + 1) lids) before added
    (λ o l k is. elim (cases_eq is.0.0 place) [
      | inl same ↦ inr (is.0.2 ∙ ap kind same, is.1, is.2)
      | inr other ↦ inl ((is.0.0, (let less = is.0.1 in omega arith), is.0.2), is.1, is.2)
    ])
    (λ o l k is. ((is.0.0, (let less = is.0.1 in omega arith), is.0.2), is.1, is.2))
    (λ o l k is. ((place, (let same = is.0 in omega arith), is.0), is.1, is.2))

-- all end ports, of both kinds
module _ (fabric : FabricOf) (given : LevelsOf) (r : LevelRowsOf) (ends : r.ends ≡ length fabric.cables) (switches : r.switches ≡ switch_count fabric) where
  abbrev Hosts : EndPort → ℕ → ℕ → Type 0
  Hosts = IsUsedBelow fabric given port.Host (length fabric.cables) (64 * r.blocks)

  abbrev Switches : EndPort → ℕ → ℕ → Type 0
  Switches = IsUsedBelow fabric given port.Switch (switch_count fabric) (64 * r.blocks)

  abbrev Used : EndPort → ℕ → ℕ → Type 0
  Used source lid level = IsPlaced r source × (lid < 64 * r.blocks) × IsLevelInUse fabric true given source lid level

  of_kind : (source : EndPort) (lid level : ℕ) → Used source lid level → Hosts source lid level ⊎ Switches source lid level
  of_kind (port.Host end) lid level used = inl ((end, (let low = used.0 in omega arith), refl), used.1, used.2)
  of_kind (port.Switch switch) lid level used = inr ((switch, (let low = used.0 in omega arith), refl), used.1, used.2)

  host_placed : (source : EndPort) (place : ℕ) → place < length fabric.cables → source ≡ port.Host place → IsPlaced r source
  host_placed source place low is = subst (IsPlaced r) (sym is) (omega arith)

  switch_placed : (source : EndPort) (place : ℕ) → place < switch_count fabric → source ≡ port.Switch place → IsPlaced r source
  switch_placed source place low is = subst (IsPlaced r) (sym is) (omega arith)

  pub all_used : (a b : LevelsOf) → ((source : EndPort) (lid : ℕ) → a source lid ≡ 0) → AddsLevels a b Hosts → AddsLevels b (told_levels r) Switches → AreUsedRows fabric given r
  all_used a b none hosts of_switches = record {
    ends = ends;
    switches = switches;
    each = λ source lid level. (
      (λ has. elim (both.only source lid level has) [
        | inl had ↦ absurd (no_bit level (ap (λ (n : ℕ). bit_at n level) (sym (none source lid)) ∙ had.1))
        | inr is ↦ is
      ]),
      both.added source lid level,
    );
  }
    where
      both : AddsLevels a (told_levels r) Used
      both = more_added a b (told_levels r) Hosts Switches Used hosts of_switches of_kind
          (λ o l k is. (host_placed o is.0.0 is.0.1 is.0.2, is.1, is.2))
          (λ o l k is. (switch_placed o is.0.0 is.0.1 is.0.2, is.1, is.2))

-- a number with no bit of 0 to 15, or with one
low_bits : (n k : ℕ) → k < 16 → bit_at n k ≡ bit_at (n % 2 ^ 16) k
low_bits n k low =
    let parts : n ≡ n / 2 ^ 16 * 2 ^ 16 + n % 2 ^ 16 = omega arith in
    ap (λ (m : ℕ). bit_at m k) parts ∙ bit_at_cat_low (n / 2 ^ 16) 16 (n % 2 ^ 16) k low

no_level : (n k : ℕ) → n % 2 ^ 16 ≡ 0 → k < 16 → bit_at n k ≡ 1 → ⊥
no_level n k zero low has = no_bit k (ap (λ (m : ℕ). bit_at m k) (sym zero) ∙ sym (low_bits n k low) ∙ has)

some_level : (n : ℕ) → n % 2 ^ 16 ≢ 0 → (k : ℕ) × (k < 16) × (bit_at n k ≡ 1)
some_level n some =
    let pos : 0 < n % 2 ^ 16 = omega arith in
    let low : n % 2 ^ 16 < 2 ^ 16 = omega arith in
    let first = bit_at-trailing_zeros w16 (n % 2 ^ 16) pos low in
    (trailing_zeros w16 (n % 2 ^ 16), first.0, low_bits n (trailing_zeros w16 (n % 2 ^ 16)) first.0 ∙ first.1)

filled_none : (n silent : ℕ) → n % 2 ^ 16 ≡ 0 → silent < 16 → filled n silent ≡ 2 ^ silent
filled_none n silent zero low =
    let test : (eqb (n % 2 ^ 16) 0 && ltb silent 16) ≡ true = grind (arith, nat_tests) in
    ap (λ (b : Bool). cond b (2 ^ silent) n) test

filled_some : (n silent : ℕ) → n % 2 ^ 16 ≢ 0 → filled n silent ≡ n
filled_some n silent some =
    let test : (eqb (n % 2 ^ 16) 0 && ltb silent 16) ≡ false = grind (arith, nat_tests) in
    ap (λ (b : Bool). cond b (2 ^ silent) n) test

filled_high : (n silent : ℕ) → 16 ≤ silent → filled n silent ≡ n
filled_high n silent high =
    let test : (eqb (n % 2 ^ 16) 0 && ltb silent 16) ≡ false = grind (arith, nat_tests) in
    ap (λ (b : Bool). cond b (2 ^ silent) n) test

-- a pair that has no level has that of silent pairs, and any other one keeps its levels
module _ (levels : LevelsOf) (silent : ℕ) (low : silent < 16) where
  abbrev Filled : LevelsOf
  Filled source lid = filled (levels source lid) silent

  silent_has : (source : EndPort) (lid level : ℕ) → levels source lid % 2 ^ 16 ≡ 0 → silent ≡ level → HasLevel Filled source lid level
  silent_has source lid level zero same = ((omega arith), ap (λ (n : ℕ). bit_at n level) (filled_none (levels source lid) silent zero low) ∙ ap (bit_at (2 ^ silent)) (sym same) ∙ bit_at-pow_same silent)

  is_silent : (source : EndPort) (lid level : ℕ) → levels source lid % 2 ^ 16 ≡ 0 → HasLevel Filled source lid level → silent ≡ level
  is_silent source lid level zero has = sym (pow_bit silent level (ap (λ (n : ℕ). bit_at n level) (sym (filled_none (levels source lid) silent zero low)) ∙ has.1))

  had_level : (source : EndPort) (lid level : ℕ) → levels source lid % 2 ^ 16 ≢ 0 → HasLevel Filled source lid level → HasLevel levels source lid level
  had_level source lid level some has = (has.0, ap (λ (n : ℕ). bit_at n level) (sym (filled_some (levels source lid) silent some)) ∙ has.1)

  keeps_level : (source : EndPort) (lid level : ℕ) → HasLevel levels source lid level → HasLevel Filled source lid level
  keeps_level source lid level has = elim (cases_eq (levels source lid % 2 ^ 16) 0) [
    | inl zero ↦ absurd (no_level (levels source lid) level zero has.0 has.1)
    | inr some ↦ (has.0, ap (λ (n : ℕ). bit_at n level) (filled_some (levels source lid) silent some) ∙ has.1)
  ]

  has_none : (source : EndPort) (lid : ℕ) → ((level : ℕ) → HasLevel levels source lid level → ⊥) → levels source lid % 2 ^ 16 ≡ 0
  has_none source lid none = elim (cases_eq (levels source lid % 2 ^ 16) 0) [
    | inl zero ↦ zero
    | inr some ↦ (let one = some_level (levels source lid) some in absurd (none one.0 (one.1, one.2)))
  ]

  some_filled : (source : EndPort) (lid : ℕ) → (level : ℕ) × HasLevel Filled source lid level
  some_filled source lid = elim (cases_eq (levels source lid % 2 ^ 16) 0) [
    | inl zero ↦ (silent, silent_has source lid silent zero refl)
    | inr some ↦ (let one = some_level (levels source lid) some in (one.0, keeps_level source lid one.0 (one.1, one.2)))
  ]

  -- the levels that are given, if silent pairs have this one
  pub filled_given : AreLevelsGiven (Some silent) levels Filled
  filled_given = record {
    each = λ source lid level. (
      (λ has. elim (cases_eq (levels source lid % 2 ^ 16) 0) [
        | inl zero ↦ inr (ap (λ (n : ℕ). Some n) (is_silent source lid level zero has), λ other had. no_level (levels source lid) other zero had.0 had.1)
        | inr some ↦ inl (had_level source lid level some has)
      ]),
      (λ given. elim given [
        | inl had ↦ keeps_level source lid level had
        | inr mute ↦ silent_has source lid level (has_none source lid (λ other had. mute.1 other had)) (same_Some silent level mute.0)
      ]),
    );
  }

-- .. and if none is given
pub told_given : (told : LevelsOf) → AreLevelsGiven None told told
told_given told = record {
  each = λ source lid level. (
    (λ has. inl has),
    (λ given. elim given [
      | inl has ↦ has
      | inr mute ↦ absurd (none-some level mute.0)
    ]),
  );
}

-- the levels in use, if replies do not count, or if all pairs have the same levels
pub given_used : (fabric : FabricOf) (given : LevelsOf) → AreLevelsInUse fabric false given given
given_used fabric given = record {
  each = λ source lid level. (
    (λ has. inl has),
    (λ used. elim used [
      | inl has ↦ has
      | inr reply ↦ absurd (false≢true reply.0)
    ]),
  );
}

pub same_used : (fabric : FabricOf) (replies : Bool) (word : ℕ) → AreLevelsInUse fabric replies (λ source lid. word) (λ source lid. word)
same_used fabric replies word = record {
  each = λ source lid level. (
    (λ has. inl has),
    (λ used. elim used [
      | inl has ↦ has
      | inr reply ↦ (let by = reply.1 in by.has)
    ]),
  );
}

-- those of a fabric that are kept in rows, with replies
module _ (fabric : FabricOf) (fits : IsFabric fabric) (t r : LevelRowsOf) (room : HasRoom fabric t) (wide : 64 * t.blocks ≤ 64 * r.blocks) where
  abbrev In : EndPort → ℕ → Type 0
  In source lid = IsPlaced r source × (lid < 64 * r.blocks)

  owned_low : (lid : ℕ) (owner : EndPort) → owner_of fabric lid ≡ Some owner → lid < 64 * r.blocks
  owned_low lid owner is = elim (cases_lt lid (length fabric.owners)) [
    | inl low ↦ (let fits = room.lids in omega arith)
    | inr past ↦ absurd (none-some owner (sym (get_or_past fabric.owners lid None past) ∙ is))
  ]

  owner_placed : r.ends ≡ length fabric.cables → r.switches ≡ switch_count fabric → (lid : ℕ) (owner : EndPort) → owner_of fabric lid ≡ Some owner → IsPlaced r owner
  owner_placed ends switches lid (port.Host end) is =
      let owns = (fits.owners lid (port.Host end)).0 is in
      let low = slice_get_within fabric.nodes.ends end owns.0 owns.1 in
      let same = fits.cables in
      omega arith
  owner_placed ends switches lid (port.Switch switch) is =
      let owns = (fits.owners lid (port.Switch switch)).0 is in
      let low = slice_get_within fabric.nodes.switches switch owns.0 owns.1 in
      omega arith

  told_placed : r.ends ≡ length fabric.cables → r.switches ≡ switch_count fabric → (source : EndPort) → IsPlaced t source → IsPlaced r source
  told_placed ends switches (port.Host end) low = let same = room.ends in omega arith
  told_placed ends switches (port.Switch switch) low = let same = room.switches in omega arith

  placed_or : (q : LevelRowsOf) (source : EndPort) → IsPlaced q source ⊎ (IsPlaced q source → ⊥)
  placed_or q (port.Host end) = elim (cases_lt end q.ends) [
    | inl low ↦ inl low
    | inr past ↦ inr (λ low. omega arith)
  ]
  placed_or q (port.Switch switch) = elim (cases_lt switch q.switches) [
    | inl low ↦ inl low
    | inr past ↦ inr (λ low. omega arith)
  ]

  -- rows say nothing of other pairs
  out_of : (q : LevelRowsOf) (source : EndPort) (lid : ℕ) → (IsPlaced q source × (lid < 64 * q.blocks) → ⊥) → told_levels q source lid ≡ 0
  out_of q source lid out = elim (cases_lt lid (64 * q.blocks)) [
    | inl low ↦ levels_outside q source lid (λ placed. out (placed, low))
    | inr past ↦ levels_past q lid (place_of_source q source) past
  ]

  in_or : (source : EndPort) (lid : ℕ) → In source lid ⊎ (In source lid → ⊥)
  in_or source lid = elim (cases_lt lid (64 * r.blocks)) [
    | inl low ↦ (elim (placed_or r source) [
      | inl placed ↦ inl (placed, low)
      | inr not ↦ inr (λ is. not is.0)
    ])
    | inr past ↦ inr (λ is. (let low = is.1 in omega arith))
  ]

  module _ (ends : r.ends ≡ length fabric.cables) (switches : r.switches ≡ switch_count fabric) where
    out_told : (source : EndPort) (lid : ℕ) → (In source lid → ⊥) → told_levels t source lid ≡ 0
    out_told source lid out = out_of t source lid (λ is. out (told_placed ends switches source is.0, (let low = is.1 in omega arith)))

    reply_in : (given : LevelsOf) (source : EndPort) (lid level : ℕ) → HasReplyLevel fabric given source lid level → In source lid
    reply_in given source lid level reply = (owner_placed ends switches reply.asked source reply.of_source, owned_low lid reply.owner reply.owns)

  pub rows_used : AreUsedRows fabric (told_levels t) r → AreLevelsInUse fabric true (told_levels t) (told_levels r)
  rows_used rows = record {
    each = λ source lid level. (
      (λ has. ((rows.each source lid level).0 has).2),
      (λ used. elim (in_or source lid) [
        | inl is ↦ (rows.each source lid level).1 (is.0, is.1, used)
        | inr out ↦ (elim used [
          | inl has ↦ absurd (no_bit level (ap (λ (n : ℕ). bit_at n level) (sym (out_told rows.ends rows.switches source lid out)) ∙ has.1))
          | inr reply ↦ absurd (out (reply_in rows.ends rows.switches (told_levels t) source lid level reply.1))
        ])
      ]),
    );
  }

  -- .. if silent pairs have a level, too
  module _ (silent : ℕ) (low : silent < 16) where
    abbrev Given : LevelsOf
    Given = Filled (told_levels t) silent low

    abbrev Uses : LevelsOf
    Uses = Filled (told_levels r) silent low

    module _ (rows : AreUsedRows fabric Given r) where
      rows_none : (source : EndPort) (lid : ℕ) → (In source lid → ⊥) → told_levels r source lid % 2 ^ 16 ≡ 0
      rows_none source lid out = ap (λ (n : ℕ). n % 2 ^ 16) (out_of r source lid out)

      told_none : (source : EndPort) (lid : ℕ) → (In source lid → ⊥) → told_levels t source lid % 2 ^ 16 ≡ 0
      told_none source lid out = ap (λ (n : ℕ). n % 2 ^ 16) (out_told rows.ends rows.switches source lid out)

      rows_some : (source : EndPort) (lid : ℕ) → In source lid → told_levels r source lid % 2 ^ 16 ≡ 0 → ⊥
      rows_some source lid is zero =
          let one = some_filled (told_levels t) silent low source lid in
          let has = (rows.each source lid one.0).1 (is.0, is.1, inl one.1) in
          no_level (told_levels r source lid) one.0 zero has.0 has.1

      uses_is : (source : EndPort) (lid level : ℕ) → HasLevel Uses source lid level → IsLevelInUse fabric true Given source lid level
      uses_is source lid level has = elim (in_or source lid) [
        | inl is ↦ ((rows.each source lid level).0 (had_level (told_levels r) silent low source lid level (rows_some source lid is) has)).2
        | inr out ↦ inl (silent_has (told_levels t) silent low source lid level (told_none source lid out) (is_silent (told_levels r) silent low source lid level (rows_none source lid out) has))
      ]

      is_used : (source : EndPort) (lid level : ℕ) → IsLevelInUse fabric true Given source lid level → HasLevel Uses source lid level
      is_used source lid level used = elim (in_or source lid) [
        | inl is ↦ keeps_level (told_levels r) silent low source lid level ((rows.each source lid level).1 (is.0, is.1, used))
        | inr out ↦ (elim used [
          | inl has ↦ silent_has (told_levels r) silent low source lid level (rows_none source lid out) (is_silent (told_levels t) silent low source lid level (told_none source lid out) has)
          | inr reply ↦ absurd (out (reply_in rows.ends rows.switches Given source lid level reply.1))
        ])
      ]

      pub filled_used : AreLevelsInUse fabric true Given Uses
      filled_used = record { each = λ source lid level. (uses_is source lid level, is_used source lid level) }

-- a level of those that are filled in is below both counts
pub filled_below : (levels : LevelsOf) (silent count most : ℕ) → ((source : EndPort) (lid level : ℕ) → HasLevel levels source lid level → level < count) → ((level : ℕ) → level < 16 → bit_at (filled 0 silent) level ≡ 1 → level < most) → (source : EndPort) (lid level : ℕ) → HasLevel (λ s l. filled (levels s l) silent) source lid level → level < max count most
filled_below levels silent count most below below_too source lid level has = elim (cases_eq (levels source lid % 2 ^ 16) 0) [
  | inl zero ↦ (elim (cases_lt silent 16) [
    | inl low ↦ (let less = below_too level has.0 (ap (λ (n : ℕ). bit_at n level) (filled_none 0 silent refl low) ∙ ap (λ (n : ℕ). bit_at n level) (sym (filled_none (levels source lid) silent zero low)) ∙ has.1) in omega arith)
    | inr high ↦ absurd (no_level (levels source lid) level zero has.0 (ap (λ (n : ℕ). bit_at n level) (sym (filled_high (levels source lid) silent high)) ∙ has.1))
  ])
  | inr some ↦ (let less = below source lid level (has.0, ap (λ (n : ℕ). bit_at n level) (sym (filled_some (levels source lid) silent some)) ∙ has.1) in omega arith)
]
