-- Another end port is told of, and one level more.
use Rattle.std.proofs.Common.{◌≡◌, ◌≢◌, ◌∙◌, sym, ap, refl, subst, ℕ, ◌+◌, ◌-◌, ◌*◌, ◌/◌, ◌<◌, ◌≤◌, ◌^◌, ◌&&◌, Bool, true, false, cond, eqb, ltb, Option, Some, None, List, arith, length, get_or, set, max, take, ◌++◌, inl, inr, ◌⊎◌}
use Rattle.std.proofs.Math.Seq.{take-append_seam}
use Rattle.std.specs.Prelude.{◌==◌, bit_or}
use Rattle.std.proofs.lemmas.Bool.{cases_eq, cases_lt, ltb-true}
use Rattle.std.proofs.lemmas.Bool.Decides.{nat_tests}
use Rattle.std.proofs.lemmas.List.{get_or-set_other, get_or-set_same, length-set}
use Rattle.std.proofs.lemmas.Nat.{same_from_place, mul-add-lt}
use Rattle.std.proofs.lemmas.Option.{same_Some, none-some}
use Rattle.fabric_model.specs.declared.node.EndPort.{EndPort}
use Rattle.fabric_model.specs.declared.node.EndPort.TheVariants as port
use Rattle.fabric_lane_tables.specs.PathLevels.{AreBlocksOf, AreLevelRows, AreOthersSame, IsLevelAdded, IsPlaced, KeepsBlocks, LevelRowsOf, ReadsBlocks, SaysAsMuch}
use Rattle.fabric_lane_tables.specs.PathLevels.{block_word, is_end, levels_at, levels_here, told_levels, place_of_source, stored_at}
use Rattle.std.specs.Int.{bit_at, w16}
use Rattle.std.proofs.lemmas.Nat.{one_shl}
use Rattle.std.proofs.lemmas.Nat.Bits.{bit_at_above, bit_at_set_other}
use Rattle.fabric_lane_tables.specs.PathLevels.{AreLevelsBelow, ArePlaces, LevelsOf}
use Rattle.fabric_lane_tables.proofs.BlockLemmas.{word_kept, word_of_row}

is_same : (p q : ℕ) → p ≡ q → eqb p q ≡ true
is_same p q same = grind (arith, nat_tests)

is_other : (p q : ℕ) → p ≢ q → eqb p q ≡ false
is_other p q other = grind (arith, nat_tests)

pub here_now : (t : LevelRowsOf) (p lid : ℕ) → p ≡ t.current → levels_here t p lid ≡ get_or t.row lid 0
here_now t p lid same = ap (λ (b : Bool). cond b (get_or t.row lid 0) (stored_at t p lid)) (is_same p t.current same)

pub here_stored : (t : LevelRowsOf) (p lid : ℕ) → p ≢ t.current → levels_here t p lid ≡ stored_at t p lid
here_stored t p lid other = ap (λ (b : Bool). cond b (get_or t.row lid 0) (stored_at t p lid)) (is_other p t.current other)

-- a place of an end port and a LID is one of the places
pub spot_low : (total blocks p lid count : ℕ) → p < total → lid < 64 * blocks → count ≡ total * blocks → p * blocks + lid / 64 < count
spot_low total blocks p lid count low within size =
    let block : lid / 64 < blocks = omega arith in
    let a = mul-add-lt p blocks (lid / 64) total low block in
    omega arith

-- .. and that of another end port is elsewhere
outside : (blocks p q lid : ℕ) → p ≢ q → lid < 64 * blocks → (p * blocks + lid / 64 < q * blocks) ⊎ (q * blocks + blocks ≤ p * blocks + lid / 64)
outside blocks p q lid apart within =
    let block : lid / 64 < blocks = omega arith in
    elim (cases_lt (p * blocks + lid / 64) (q * blocks)) [
      | inl before ↦ inl before
      | inr past ↦ elim (cases_lt (p * blocks + lid / 64) (q * blocks + blocks)) [
        | inl less ↦ (
            let rest : p * blocks + lid / 64 - q * blocks < blocks = omega arith in
            let same : p * blocks + lid / 64 ≡ q * blocks + (p * blocks + lid / 64 - q * blocks) = omega arith in
            absurd (apart (same_from_place p (lid / 64) q (p * blocks + lid / 64 - q * blocks) blocks block rest same).0))
        | inr after ↦ inr after
      ]
    ]

-- what is kept of an end port that was not told last
stored_kept : (old : LevelRowsOf) (ok : AreLevelRows old) (rows : List (List ℕ)) (places : List ℕ) → KeepsBlocks old.rows rows → AreOthersSame old.places places (old.current * old.blocks) old.blocks → (p lid : ℕ) → p ≢ old.current → p < old.ends + old.switches → lid < 64 * old.blocks → block_word rows (get_or places (p * old.blocks + lid / 64) 4294967295) lid ≡ stored_at old p lid
stored_kept old ok rows places kept others p lid other within short =
    ap (λ (n : ℕ). block_word rows n lid) (others (p * old.blocks + lid / 64) (outside old.blocks p old.current lid other short))
    ∙ word_kept old.rows rows kept (get_or old.places (p * old.blocks + lid / 64) 4294967295) lid ok.rows (ok.each (p * old.blocks + lid / 64) (spot_low (old.ends + old.switches) old.blocks p lid (length old.places) within short ok.size))

-- blocks and places of the end port that was told last say nothing yet
pub says_still : (old : LevelRowsOf) → AreLevelRows old → (rows : List (List ℕ)) (given places places_now : List ℕ) → given ≡ old.places → places_now ≡ places → KeepsBlocks old.rows rows → AreOthersSame given places (old.current * old.blocks) old.blocks → SaysAsMuch old (record { ends = old.ends; switches = old.switches; blocks = old.blocks; count = old.count; rows = rows; places = places_now; current = old.current; row = old.row })
says_still old ok rows given places places_now given_is places_is kept others =
    let there = subst (λ (xs : List ℕ). AreOthersSame xs places (old.current * old.blocks) old.blocks) given_is others in
    subst (λ (xs : List ℕ). SaysAsMuch old (record { ends = old.ends; switches = old.switches; blocks = old.blocks; count = old.count; rows = rows; places = xs; current = old.current; row = old.row })) (sym places_is) (record {
      ends = refl;
      switches = refl;
      blocks = refl;
      count = refl;
      levels = λ p lid within short. elim (cases_eq p old.current) [
        | inl last ↦ here_now (record { ends = old.ends; switches = old.switches; blocks = old.blocks; count = old.count; rows = rows; places = places; current = old.current; row = old.row }) p lid last ∙ sym (here_now old p lid last)
        | inr away ↦ here_stored (record { ends = old.ends; switches = old.switches; blocks = old.blocks; count = old.count; rows = rows; places = places; current = old.current; row = old.row }) p lid away ∙ stored_kept old ok rows places kept there p lid away within short ∙ sym (here_stored old p lid away)
      ];
    })

module _ (old : LevelRowsOf) (ok : AreLevelRows old) (rows : List (List ℕ)) (places row : List ℕ) (place : ℕ) (kept : KeepsBlocks old.rows rows) (saved : AreBlocksOf rows places (old.current * old.blocks) old.blocks old.row) (others : AreOthersSame old.places places (old.current * old.blocks) old.blocks) (reads : ReadsBlocks rows places (place * old.blocks) row) (size : length row ≡ 64 * old.blocks) (low : place < old.ends + old.switches) (apart : place ≢ old.current) where
  abbrev new : LevelRowsOf
  new = record { ends = old.ends; switches = old.switches; blocks = old.blocks; count = old.count; rows = rows; places = places; current = place; row = row }

  stored_same : (p lid : ℕ) → p ≢ old.current → p < old.ends + old.switches → lid < 64 * old.blocks → stored_at new p lid ≡ stored_at old p lid
  stored_same p lid other within short = stored_kept old ok rows places kept others p lid other within short

  stored_last : (lid : ℕ) → lid < 64 * old.blocks → stored_at new old.current lid ≡ get_or old.row lid 0
  stored_last lid short =
      let block : lid / 64 < old.blocks = omega arith in
      word_of_row rows old.row (get_or places (old.current * old.blocks + lid / 64) 4294967295) (lid / 64) lid (saved (lid / 64) block) refl

  here_as_before : (p lid : ℕ) → p < old.ends + old.switches → lid < 64 * old.blocks → levels_here new p lid ≡ levels_here old p lid
  here_as_before p lid within short = elim (cases_eq p place) [
    | inl same ↦
        here_now new p lid same
        ∙ reads lid (omega (arith, size))
        ∙ stored_same place lid apart low short
        ∙ ap (λ (n : ℕ). stored_at old n lid) (sym same)
        ∙ sym (here_stored old p lid (λ is. apart (sym same ∙ is)))
    | inr other ↦ here_stored new p lid other ∙ elim (cases_eq p old.current) [
      | inl last ↦ ap (λ (n : ℕ). stored_at new n lid) last ∙ stored_last lid short ∙ sym (here_now old p lid last)
      | inr away ↦ stored_same p lid away within short ∙ sym (here_stored old p lid away)
    ]
  ]

  says_as_much : SaysAsMuch old new
  says_as_much = record { ends = refl; switches = refl; blocks = refl; count = refl; levels = here_as_before }

-- the same, where lists are seen in other ways
pub selected : (old : LevelRowsOf) → AreLevelRows old → (rows : List (List ℕ)) (given held places seen row places_now row_now : List ℕ) (place : ℕ) → given ≡ old.places → held ≡ old.row → seen ≡ places → places_now ≡ places → row_now ≡ row → KeepsBlocks old.rows rows → AreBlocksOf rows places (old.current * old.blocks) old.blocks held → AreOthersSame given places (old.current * old.blocks) old.blocks → ReadsBlocks rows seen (place * old.blocks) row → length row ≡ 64 * old.blocks → place < old.ends + old.switches → place ≢ old.current → SaysAsMuch old (record { ends = old.ends; switches = old.switches; blocks = old.blocks; count = old.count; rows = rows; places = places_now; current = place; row = row_now })
selected old ok rows given held places seen row places_now row_now place given_is held_is seen_is places_is row_is kept saved others reads size low apart =
    let here = subst (λ (xs : List ℕ). AreBlocksOf rows places (old.current * old.blocks) old.blocks xs) held_is saved in
    let there = subst (λ (xs : List ℕ). AreOthersSame xs places (old.current * old.blocks) old.blocks) given_is others in
    let read = subst (λ (xs : List ℕ). ReadsBlocks rows xs (place * old.blocks) row) seen_is reads in
    let alike = says_as_much old ok rows places row place kept here there read size low apart in
    subst (λ (xs : List ℕ). SaysAsMuch old (record { ends = old.ends; switches = old.switches; blocks = old.blocks; count = old.count; rows = rows; places = places_now; current = place; row = xs })) (sym row_is)
    (subst (λ (xs : List ℕ). SaysAsMuch old (record { ends = old.ends; switches = old.switches; blocks = old.blocks; count = old.count; rows = rows; places = xs; current = place; row = row })) (sym places_is) alike)

-- all of a list
pub whole : (n : ℕ) (xs ys : List ℕ) → n ≡ length xs → take n (xs ++ ys) ≡ xs
whole n xs ys is = ap (λ (k : ℕ). take k (xs ++ ys)) is ∙ take-append_seam xs ys

-- where an end port has its place
host_at : (t : LevelRowsOf) (end p : ℕ) (b : Bool) → ltb end t.ends ≡ b → cond b (Some end) None ≡ Some p → (end ≡ p) × (end < t.ends)
host_at t end p true is at = (same_Some end p at, ltb-true end t.ends is)
host_at t end p false is at = absurd (none-some p at)

switch_at : (t : LevelRowsOf) (switch p : ℕ) (b : Bool) → ltb switch t.switches ≡ b → cond b (Some (t.ends + switch)) None ≡ Some p → (t.ends + switch ≡ p) × (switch < t.switches)
switch_at t switch p true is at = (same_Some (t.ends + switch) p at, ltb-true switch t.switches is)
switch_at t switch p false is at = absurd (none-some p at)

pub place_low : (t : LevelRowsOf) (source : EndPort) (p : ℕ) → place_of_source t source ≡ Some p → p < t.ends + t.switches
place_low t (port.Host end) p at = let a = host_at t end p (ltb end t.ends) refl at in omega arith
place_low t (port.Switch switch) p at = let a = switch_at t switch p (ltb switch t.switches) refl at in omega arith

one_source : (t : LevelRowsOf) (one other : EndPort) (p : ℕ) → place_of_source t one ≡ Some p → place_of_source t other ≡ Some p → one ≡ other
one_source t (port.Host end) (port.Host other) p at too =
    let a = host_at t end p (ltb end t.ends) refl at in
    let b = host_at t other p (ltb other t.ends) refl too in
    ap port.Host (a.0 ∙ sym b.0)
one_source t (port.Host end) (port.Switch other) p at too =
    let a = host_at t end p (ltb end t.ends) refl at in
    let b = switch_at t other p (ltb other t.switches) refl too in
    absurd (omega arith)
one_source t (port.Switch switch) (port.Host other) p at too =
    let a = switch_at t switch p (ltb switch t.switches) refl at in
    let b = host_at t other p (ltb other t.ends) refl too in
    absurd (omega arith)
one_source t (port.Switch switch) (port.Switch other) p at too =
    let a = switch_at t switch p (ltb switch t.switches) refl at in
    let b = switch_at t other p (ltb other t.switches) refl too in
    let same : switch ≡ other = omega arith in
    ap port.Switch same

-- end ports are the same, or are not
pub end_cases : (a b : EndPort) → ((a ≡ b) × (is_end a b ≡ true)) ⊎ ((a ≢ b) × (is_end a b ≡ false))
end_cases (port.Host end) (port.Host other) = elim (cases_eq end other) [
  | inl same ↦ inl (ap port.Host same, is_same end other same)
  | inr differs ↦ inr (λ is. differs (cc), is_other end other differs)
]
end_cases (port.Host end) (port.Switch other) = inr (λ is. cc, refl)
end_cases (port.Switch switch) (port.Host other) = inr (λ is. cc, refl)
end_cases (port.Switch switch) (port.Switch other) = elim (cases_eq switch other) [
  | inl same ↦ inl (ap port.Switch same, is_same switch other same)
  | inr differs ↦ inr (λ is. differs (cc), is_other switch other differs)
]

-- what is told of a LID that there is
levels_within : (t : LevelRowsOf) (source : EndPort) (p lid : ℕ) → place_of_source t source ≡ Some p → lid < 64 * t.blocks → told_levels t source lid ≡ levels_here t p lid
levels_within t source p lid at within =
    let b : ltb lid (64 * t.blocks) ≡ true = grind (arith, nat_tests) in
    ap (levels_at t lid) at ∙ ap (λ (c : Bool). cond c (levels_here t p lid) 0) b

pub levels_past : (t : LevelRowsOf) (lid : ℕ) (o : Option ℕ) → 64 * t.blocks ≤ lid → levels_at t lid o ≡ 0
levels_past t lid None past = refl
levels_past t lid (Some p) past =
    let b : ltb lid (64 * t.blocks) ≡ false = grind (arith, nat_tests) in
    ap (λ (c : Bool). cond c (levels_here t p lid) 0) b

-- an end port that has no place sends with no level
pub levels_outside : (t : LevelRowsOf) (source : EndPort) (lid : ℕ) → (IsPlaced t source → ⊥) → told_levels t source lid ≡ 0
levels_outside t (port.Host end) lid none = elim (cases_lt end t.ends) [
  | inl low ↦ absurd (none low)
  | inr past ↦ (
      let b : ltb end t.ends ≡ false = grind (arith, nat_tests) in
      ap (λ (c : Bool). levels_at t lid (cond c (Some end) None)) b)
]
levels_outside t (port.Switch switch) lid none = elim (cases_lt switch t.switches) [
  | inl low ↦ absurd (none low)
  | inr past ↦ (
      let b : ltb switch t.switches ≡ false = grind (arith, nat_tests) in
      ap (λ (c : Bool). levels_at t lid (cond c (Some (t.ends + switch)) None)) b)
]

-- one level more of the end port that is told of
module _ (old : LevelRowsOf) (size : length old.row ≡ 64 * old.blocks) (source : EndPort) (place lid level : ℕ) (at : place_of_source old source ≡ Some place) (now : old.current ≡ place) (low : lid < 64 * old.blocks) where
  abbrev more : LevelRowsOf
  more = record { ends = old.ends; switches = old.switches; blocks = old.blocks; count = old.count; rows = old.rows; places = old.places; current = old.current; row = set old.row lid (bit_or (get_or old.row lid 0) (2 ^ level)) }

  now_here : (l : ℕ) → l < 64 * old.blocks → told_levels old source l ≡ get_or old.row l 0
  now_here l within = levels_within old source place l at within ∙ here_now old place l (sym now)

  now_more : (l : ℕ) → l < 64 * old.blocks → told_levels more source l ≡ get_or (set old.row lid (bit_or (get_or old.row lid 0) (2 ^ level))) l 0
  now_more l within = levels_within more source place l at within ∙ here_now more place l (sym now)

  -- of another end port
  apart_at : (other : EndPort) (l : ℕ) (o : Option ℕ) → place_of_source old other ≡ o → other ≢ source → levels_at more l o ≡ levels_at old l o
  apart_at other l None at_other differs = refl
  apart_at other l (Some p) at_other differs =
      let away : p ≢ old.current = λ same. differs (one_source old other source p at_other (at ∙ ap (λ (n : ℕ). Some n) (sym now ∙ sym same))) in
      ap (λ (n : ℕ). cond (ltb l (64 * old.blocks)) n 0) (here_stored more p l away ∙ sym (here_stored old p l away))

  here_at : (l : ℕ) → told_levels more source l ≡ cond (l == lid) (bit_or (told_levels old source l) (2 ^ level)) (told_levels old source l)
  here_at l = elim (cases_eq l lid) [
    | inl same ↦
        now_more l (omega arith)
        ∙ ap (λ (n : ℕ). get_or (set old.row lid (bit_or (get_or old.row lid 0) (2 ^ level))) n 0) same
        ∙ get_or-set_same old.row lid (bit_or (get_or old.row lid 0) (2 ^ level)) 0 (omega arith)
        ∙ ap (λ (n : ℕ). bit_or n (2 ^ level)) (sym (ap (told_levels old source) same ∙ now_here lid low))
        ∙ sym (ap (λ (b : Bool). cond b (bit_or (told_levels old source l) (2 ^ level)) (told_levels old source l)) (is_same l lid same))
    | inr other ↦ elim (cases_lt l (64 * old.blocks)) [
      | inl within ↦
          now_more l within
          ∙ get_or-set_other old.row lid l (bit_or (get_or old.row lid 0) (2 ^ level)) 0 other
          ∙ sym (now_here l within)
          ∙ sym (ap (λ (b : Bool). cond b (bit_or (told_levels old source l) (2 ^ level)) (told_levels old source l)) (is_other l lid other))
      | inr past ↦
          levels_past more l (place_of_source old source) past
          ∙ sym (levels_past old l (place_of_source old source) past)
          ∙ sym (ap (λ (b : Bool). cond b (bit_or (told_levels old source l) (2 ^ level)) (told_levels old source l)) (is_other l lid other))
    ]
  ]

  level_added : IsLevelAdded (told_levels old) (told_levels more) source lid level
  level_added other l = elim (end_cases other source) [
    | inl (same, is) ↦
        ap (λ (s : EndPort). told_levels more s l) same
        ∙ here_at l
        ∙ sym (ap (λ (s : EndPort). cond (l == lid) (bit_or (told_levels old s l) (2 ^ level)) (told_levels old s l)) same)
        ∙ sym (ap (λ (b : Bool). cond (b && l == lid) (bit_or (told_levels old other l) (2 ^ level)) (told_levels old other l)) is)
    | inr (differs, is) ↦
        apart_at other l (place_of_source old other) refl differs
        ∙ sym (ap (λ (b : Bool). cond (b && l == lid) (bit_or (told_levels old other l) (2 ^ level)) (told_levels old other l)) is)
  ]

-- an end port that is placed has a place
pub not_placed : (t : LevelRowsOf) (source : EndPort) → IsPlaced t source → place_of_source t source ≡ None → ⊥
not_placed t (port.Host end) low none =
    let b : ltb end t.ends ≡ true = grind (arith, nat_tests) in
    let some : place_of_source t (port.Host end) ≡ Some end = ap (λ (c : Bool). cond c (Some end) None) b in
    none-some end (sym none ∙ some)
not_placed t (port.Switch switch) low none =
    let b : ltb switch t.switches ≡ true = grind (arith, nat_tests) in
    let some : place_of_source t (port.Switch switch) ≡ Some (t.ends + switch) = ap (λ (c : Bool). cond c (Some (t.ends + switch)) None) b in
    none-some (t.ends + switch) (sym none ∙ some)

-- the same levels are told
pub place_as : (old new : LevelRowsOf) (source : EndPort) → SaysAsMuch old new → place_of_source new source ≡ place_of_source old source
place_as old next (port.Host end) alike = ap (λ (n : ℕ). cond (ltb end n) (Some end) None) alike.ends
place_as old next (port.Switch switch) alike = ap (λ (n : ℕ). cond (ltb switch n) (Some (next.ends + switch)) None) alike.switches ∙ ap (λ (n : ℕ). cond (ltb switch old.switches) (Some (n + switch)) None) alike.ends

levels_by : (old new : LevelRowsOf) (alike : SaysAsMuch old new) (source : EndPort) (lid : ℕ) (o : Option ℕ) → place_of_source old source ≡ o → levels_at new lid o ≡ levels_at old lid o
levels_by old new alike source lid None at = refl
levels_by old new alike source lid (Some p) at = elim (cases_lt lid (64 * old.blocks)) [
  | inl within ↦
      ap (λ (n : ℕ). cond (ltb lid (64 * n)) (levels_here new p lid) 0) alike.blocks
      ∙ ap (λ (n : ℕ). cond (ltb lid (64 * old.blocks)) n 0) (alike.levels p lid (place_low old source p at) within)
  | inr past ↦ levels_past new lid (Some p) (let same = alike.blocks in omega arith) ∙ sym (levels_past old lid (Some p) past)
]

levels_as : (old new : LevelRowsOf) → SaysAsMuch old new → (source : EndPort) (lid : ℕ) → told_levels new source lid ≡ told_levels old source lid
levels_as old new alike source lid = ap (levels_at new lid) (place_as old new source alike) ∙ levels_by old new alike source lid (place_of_source old source) refl

pub added_after : (old mid : LevelRowsOf) (source : EndPort) (place lid level : ℕ) → SaysAsMuch old mid → length mid.row ≡ 64 * mid.blocks → mid.current ≡ place → place_of_source old source ≡ Some place → lid < 64 * old.blocks → IsLevelAdded (told_levels old) (told_levels (record { ends = mid.ends; switches = mid.switches; blocks = mid.blocks; count = mid.count; rows = mid.rows; places = mid.places; current = mid.current; row = set mid.row lid (bit_or (get_or mid.row lid 0) (2 ^ level)) })) source lid level
added_after old mid source place lid level alike size now at low other l =
    let blocks = alike.blocks in
    level_added mid size source place lid level (place_as old mid source alike ∙ at) now (omega arith) other l
    ∙ ap (λ (n : ℕ). cond (is_end other source && l == lid) (bit_or n (2 ^ level)) n) (levels_as old mid alike other l)

-- what says as much has no level above the others
pub still_fits : (old next : LevelRowsOf) → AreLevelRows old → SaysAsMuch old next → ArePlaces next.rows next.places → length next.places ≡ length old.places → length next.row ≡ 64 * old.blocks → length next.rows ≤ 4294967295 → (next.current < old.ends + old.switches) ⊎ (next.current ≡ 0) → AreLevelRows next
still_fits old next ok alike are same_places size few current =
    let ends = alike.ends in
    let switches = alike.switches in
    let blocks = alike.blocks in
    let count = alike.count in
    let few_ends = ok.few_ends in
    let few_switches = ok.few in
    let few_blocks = ok.low in
    let few_levels = ok.few_levels in
    let all : (next.ends + next.switches) * next.blocks ≡ (old.ends + old.switches) * old.blocks = ap (λ (n : ℕ). (n + next.switches) * next.blocks) ends ∙ ap (λ (n : ℕ). (old.ends + n) * next.blocks) switches ∙ ap (λ (n : ℕ). (old.ends + old.switches) * n) blocks in
    record {
      size = same_places ∙ ok.size ∙ sym all;
      row_size = size ∙ ap (λ (n : ℕ). 64 * n) (sym blocks);
      few_ends = omega arith;
      few = omega arith;
      low = omega arith;
      rows = few;
      each = are;
      current = elim current [
        | inl low ↦ inl (omega arith)
        | inr first ↦ inr first
      ];
      few_levels = omega arith;
      below = λ source lid level has. (let less = ok.below source lid level (has.0, ap (λ (n : ℕ). bit_at n level) (sym (levels_as old next alike source lid)) ∙ has.1) in omega arith);
    }

-- a level more is below as many
level_below : (word level k count : ℕ) → level < 16 → k < 16 → (bit_at word k ≡ 1 → k < count) → bit_at (bit_or word (2 ^ level)) k ≡ 1 → k < max count (level + 1)
level_below word level k count fits low before is = elim (cases_eq k level) [
  | inl same ↦ omega arith
  | inr other ↦ (
      let shift = one_shl level 16 fits in
      let less = before (sym (bit_at_set_other w16 word level fits k other) ∙ ap (λ (n : ℕ). bit_at (bit_or word n) k) shift ∙ is) in
      omega arith)
]

module _ (mid : LevelRowsOf) (ok : AreLevelRows mid) (source : EndPort) (place lid level : ℕ) (at : place_of_source mid source ≡ Some place) (now : mid.current ≡ place) (low : lid < 64 * mid.blocks) (fits : level < 16) where
  abbrev next : LevelRowsOf
  next = record { ends = mid.ends; switches = mid.switches; blocks = mid.blocks; count = max mid.count (level + 1); rows = mid.rows; places = mid.places; current = mid.current; row = set mid.row lid (bit_or (get_or mid.row lid 0) (2 ^ level)) }

  below_by : (other : EndPort) (l k : ℕ) (b : Bool) → (is_end other source && l == lid) ≡ b → k < 16 → bit_at (cond b (bit_or (told_levels mid other l) (2 ^ level)) (told_levels mid other l)) k ≡ 1 → k < max mid.count (level + 1)
  below_by other l k true is small has = level_below (told_levels mid other l) level k mid.count fits small (λ had. ok.below other l k (small, had)) has
  below_by other l k false is small has = let less = ok.below other l k (small, has) in omega arith

  below_more : (other : EndPort) (l k : ℕ) → k < 16 → bit_at (told_levels next other l) k ≡ 1 → k < max mid.count (level + 1)
  below_more other l k small has = below_by other l k (is_end other source && l == lid) refl small (sym (ap (λ (n : ℕ). bit_at n k) (level_added mid ok.row_size source place lid level at now low other l)) ∙ has)

  pub added_fits : AreLevelRows next
  added_fits =
      let few_levels = ok.few_levels in record {
        size = ok.size;
        row_size = length-set mid.row lid (bit_or (get_or mid.row lid 0) (2 ^ level)) ∙ ok.row_size;
        few_ends = ok.few_ends;
        few = ok.few;
        low = ok.low;
        rows = ok.rows;
        each = ok.each;
        current = ok.current;
        few_levels = omega arith;
        below = λ other l k has. below_more other l k has.0 has.1;
      }

-- where nothing is told there is no level
pub none_below : (levels : LevelsOf) (count : ℕ) → ((source : EndPort) (lid : ℕ) → levels source lid ≡ 0) → AreLevelsBelow levels count
none_below levels count none source lid level has =
    let zero : bit_at 0 level ≡ 1 = ap (λ (n : ℕ). bit_at n level) (sym (none source lid)) ∙ has.1 in
    let no : bit_at 0 level ≡ 0 = bit_at_above 0 0 level (omega arith) (omega arith) in
    absurd (omega arith)
