-- The text of the ranks of channels, read again.
use Rattle.std.proofs.Common.{◌≡◌, ◌≢◌, ◌∙◌, sym, ap, subst, refl, ℕ, zero, suc, ◌+◌, ◌-◌, ◌*◌, ◌/◌, ◌%◌, ◌<◌, ◌≤◌, true, false, List, [], ◌∷◌, ◌++◌, length, map, get_or, set, All, Option, Some, None, Ok, arith, inl, inr}
use Rattle.std.specs.Prelude.{nat_eq, replicate, slice_get, unwrap_or}
use Rattle.std.specs.List.{flat_map, join_with_byte, position, range_with_len}
use Rattle.std.specs.Map.{keys_of}
use Rattle.std.proofs.lemmas.Bool.{cases_eq, cases_lt}
use Rattle.std.proofs.lemmas.Bool.Decides.{nat_tests}
use Rattle.std.proofs.lemmas.List.{get_or-map, get_or-replicate, get_or-set_other, get_or-set_same, get_or_past, length-map, length-replicate, length-set}
use Rattle.std.proofs.lemmas.List.Elements.{All-cons, All-nil}
use Rattle.std.proofs.lemmas.List.Kept.{AllPairs-from_increasing}
use Rattle.std.proofs.lemmas.List.Quantifiers.{position-Some}
use Rattle.std.proofs.lemmas.Option.{slice_get-get_or, unwrap_or-slice_get}
use Rattle.common_lines.specs.Chains.{LeadsBy}
use Rattle.common_lines.proofs.LineLemmas.{position_none}
use Rattle.common_lines.proofs.SpellLemmas.{IsWord, lines_of-text}
use Rattle.fabric_model.specs.declared.node.EndPort.TheVariants as port
use Rattle.fabric_model.specs.declared.node.Side.{Side}
use Rattle.fabric_model.specs.declared.node.Side.TheVariants.{Bare, To, End}
use Rattle.fabric_model.specs.declared.node.Switch.{Switch}
use Rattle.fabric_model.specs.Fabric.{FabricOf, IsFabric, guid_in, guid_of, side_of, switch_count, switch_with}
use Rattle.fabric_tables.specs.Cells.{TablesOf}
use Rattle.fabric_model.specs.declared.traffic.Traffic.{Traffic}
use Rattle.fabric_routes.specs.Found.{IsChannel, channel_of, number}
use Rattle.fabric_routes.specs.Routes.{Channel}
use Rattle.fabric_routes.proofs.ChannelLemmas.{channel_place}
use Rattle.fabric_verdict.specs.Verdict.{HasRanks, rank_in, rank_over, spot_at}
use Rattle.fabric_verdict.specs.Verified.{Fall, told_rank}
use Rattle.fabric_verdict.proofs.NumberLemmas.{channel_back}
use Rattle.fabric_verdict.proofs.RankLemmas.{same_fall, told_fall}
use Rattle.fabric_read_ranks.specs.Ranks.{AddsTo, IsRanksText, Told, none_told, put_once, put_over, switch_told, after_said}
use Rattle.fabric_print.specs.declared.ranks.Rank.{Rank}
use Rattle.fabric_print.specs.Ranks.{rank_row, ranks_text}
use Rattle.fabric_judge_commands.specs.Certified.{AreSmall, rank_at, rank_of, ranks_of}
use Rattle.fabric_judge_commands.proofs.RankLemmas.{none_at, number_there, some_at, some_ports, switch_there}
use Rattle.fabric_judge_commands.proofs.TextLemmas.{head_row, head_said, head_words, row_said, row_words}

-- a switch is found by its GUID
equal_keys : (one other : ℕ) → nat_eq one other ≡ true → one ≡ other
equal_keys one other is = grind (arith, nat_tests)

unequal_keys : (one other : ℕ) → nat_eq one other ≡ false → one ≢ other
unequal_keys one other is same = absurd (grind (arith, nat_tests))

module _ (fabric : FabricOf) (is : IsFabric fabric) (switch : ℕ) (low : switch < switch_count fabric) where
  abbrev keys : List ℕ
  keys = keys_of fabric.nodes.switches

  size : length keys ≡ switch_count fabric
  size = length-map fabric.nodes.switches (λ (n : ℕ × Switch). n.0)

  here : (key : ℕ) → get_or keys switch key ≡ guid_of fabric (port.Switch switch)
  here key =
      let other : ℕ × Switch = (key, record { ports = 0; lids = record { base = 0; lmc = 0 } }) in
      get_or-map (λ (n : ℕ × Switch). n.0) fabric.nodes.switches switch other key low ∙ sym (ap guid_in (slice_get-get_or fabric.nodes.switches switch other low))

  alone : (other : ℕ) → other < length keys → get_or keys other 0 ≡ guid_of fabric (port.Switch switch) → other ≡ switch
  alone other within same =
      let own = here 0 in
      let count = size in
      elim (cases_lt other switch) [
        | inl before ↦ absurd (let rises = AllPairs-from_increasing keys is.rising other switch 0 before (omega arith) in omega arith)
        | inr after ↦ elim (cases_lt switch other) [
          | inl past ↦ absurd (let rises = AllPairs-from_increasing keys is.rising switch other 0 past within in omega arith)
          | inr equal ↦ omega arith
        ]
      ]

  found : (at : Option ℕ) → position (nat_eq (guid_of fabric (port.Switch switch))) keys ≡ at → at ≡ Some switch
  found None none = absurd (
      let count = size in
      unequal_keys (guid_of fabric (port.Switch switch)) (get_or keys switch 0) (position_none (nat_eq (guid_of fabric (port.Switch switch))) keys 0 none switch (omega arith)) (sym (here 0)))
  found (Some other) some =
      let at = position-Some (nat_eq (guid_of fabric (port.Switch switch))) keys other 0 some in
      ap (λ (s : ℕ). Some s) (alone other at.0 (sym (equal_keys (guid_of fabric (port.Switch switch)) (get_or keys other 0) at.1)))

  pub switch_found : switch_with fabric (guid_of fabric (port.Switch switch)) ≡ Some switch
  switch_found = found (switch_with fabric (guid_of fabric (port.Switch switch))) refl

over_some : (side : Side) (told : Option ℕ) (rank : ℕ) → rank_over side told ≡ Some rank → (to entry : ℕ) × (side ≡ To to entry)
over_some (To to entry) told rank is = (to, entry, refl)
over_some Bare told rank is = absurd (let none : None ≡ Some rank = is in cc)
over_some (End end) told rank is = absurd (let none : None ≡ Some rank = is in cc)

abbrev blank : Option ℕ
blank = None

none_there : (count place : ℕ) → get_or (replicate count blank) place None ≡ None
none_there count place = elim (cases_lt place count) [
  | inl low ↦ get_or-replicate count place None None low
  | inr high ↦ get_or_past (replicate count blank) place None (let size = length-replicate count blank in omega arith)
]

module _ (fabric : FabricOf) (is : IsFabric fabric) (ranks : List ℕ) (small : AreSmall fabric ranks) where
  abbrev cell : ℕ → Option ℕ
  cell place = rank_in fabric ranks (channel_of (spot_at fabric.most place))

  abbrev at : ℕ → List Rank
  at place = rank_at fabric ranks (spot_at fabric.most place)

  abbrev told : List (Option ℕ) → Told
  told so_far = record { begun = true; ranks = so_far }

  -- the ranks of the first so many places were told
  pub record AreTold (count : ℕ) (so_far : List (Option ℕ)) : Type 0 where
    pub size : length so_far ≡ switch_count fabric * fabric.most
    pub below : (place : ℕ) → place < count → get_or so_far place None ≡ cell place
    pub rest : (place : ℕ) → count ≤ place → get_or so_far place None ≡ None

  -- a rank has its row
  words_at : (place rank : ℕ) → place < switch_count fabric * fabric.most → cell place ≡ Some rank → All IsWord (rank_row (rank_of fabric (spot_at fabric.most place) rank))
  words_at place rank low has =
      let fits = small place rank low has in
      let ports = is.low in
      let some = some_ports fabric place low in
      let out : place % fabric.most < fabric.most = omega arith in
      row_words (rank_of fabric (spot_at fabric.most place) rank) fits.0 (omega arith) fits.1

  -- .. which is read
  adds : (so_far : List (Option ℕ)) (place rank : ℕ) → place < switch_count fabric * fabric.most → cell place ≡ Some rank → get_or so_far place None ≡ None → AddsTo fabric (told so_far) (join_with_byte 32 (rank_row (rank_of fabric (spot_at fabric.most place) rank))) (told (set so_far place (Some rank)))
  adds so_far place rank low has none =
      let fits = small place rank low has in
      let ports = is.low in
      let some = some_ports fabric place low in
      let out : place % fabric.most < fabric.most = omega arith in
      let channel : Channel = channel_of (spot_at fabric.most place) in
      let leads = over_some (side_of fabric (place / fabric.most) (place % fabric.most + 1)) (slice_get ranks (number fabric (channel_of (spot_at fabric.most place)))) rank has in
      let here = number_there fabric place low in
      ap (after_said fabric (told so_far)) (row_said (rank_of fabric (spot_at fabric.most place) rank) fits.0 (omega arith) fits.1)
      ∙ ap (λ (s : Option ℕ). switch_told fabric (told so_far) (place % fabric.most + 1) rank s) (switch_found fabric is (place / fabric.most) (switch_there fabric place low))
      ∙ ap (λ (side : Side). put_over (told so_far) (number fabric (channel_of (spot_at fabric.most place))) rank side) leads.2
      ∙ ap (λ (o : Option ℕ). put_once (told so_far) (number fabric (channel_of (spot_at fabric.most place))) rank o) (ap (λ (p : ℕ). get_or so_far p None) here ∙ none)
      ∙ ap (λ (p : ℕ). Ok (told (set so_far p (Some rank)))) here

  -- one place more
  skip : (count : ℕ) (so_far : List (Option ℕ)) → AreTold count so_far → cell count ≡ None → AreTold (count + 1) so_far
  skip count so_far t none = record {
    size = t.size;
    below = λ place low. elim (cases_eq place count) [
      | inl same ↦ t.rest place (omega arith) ∙ sym none ∙ ap cell (sym same)
      | inr differs ↦ t.below place (omega arith)
    ];
    rest = λ place high. t.rest place (omega arith);
  }

  more : (count rank : ℕ) (so_far : List (Option ℕ)) → AreTold count so_far → count < switch_count fabric * fabric.most → cell count ≡ Some rank → AreTold (count + 1) (set so_far count (Some rank))
  more count rank so_far t low has =
      let size = t.size in
      record {
        size = length-set so_far count (Some rank) ∙ t.size;
        below = λ place before. elim (cases_eq place count) [
          | inl same ↦ ap (λ (p : ℕ). get_or (set so_far count (Some rank)) p None) same ∙ get_or-set_same so_far count (Some rank) None (omega arith) ∙ sym has ∙ ap cell (sym same)
          | inr differs ↦ get_or-set_other so_far count place (Some rank) None differs ∙ t.below place (omega arith)
        ];
        rest = λ place high. get_or-set_other so_far count place (Some rank) None (λ same. absurd (omega arith)) ∙ t.rest place (omega arith);
      }

  -- the rows from a place on
  abbrev rows : ℕ → ℕ → List (List (List ℕ))
  rows first count = map rank_row (flat_map at (range_with_len first count))

  good_at : (count first : ℕ) → first < switch_count fabric * fabric.most → All (All IsWord) (rows (first + 1) count) → (rank : Option ℕ) → cell first ≡ rank → All (All IsWord) (rows first (suc count))
  good_at count first low later None none = subst (λ (rs : List Rank). All (All IsWord) (map rank_row (rs ++ flat_map at (range_with_len (first + 1) count)))) (sym (none_at fabric ranks (spot_at fabric.most first) none)) later
  good_at count first low later (Some rank) has =
      subst (λ (rs : List Rank). All (All IsWord) (map rank_row (rs ++ flat_map at (range_with_len (first + 1) count)))) (sym (some_at fabric ranks (spot_at fabric.most first) rank has))
      (All-cons (All IsWord) (rank_row (rank_of fabric (spot_at fabric.most first) rank)) (rows (first + 1) count) (words_at first rank low has) later)

  rows_good : (count first : ℕ) → first + count ≡ switch_count fabric * fabric.most → All (All IsWord) (rows first count)
  rows_good zero first all = All-nil (All IsWord)
  rows_good (suc count) first all = good_at count first (omega arith) (rows_good count (first + 1) (omega arith)) (cell first) refl

  -- .. lead on to what was told of all
  abbrev Leads : ℕ → ℕ → List (Option ℕ) → Type 0
  Leads first count so_far = (last : List (Option ℕ)) × AreTold (switch_count fabric * fabric.most) last × LeadsBy (AddsTo fabric) (told so_far) (map (join_with_byte 32) (rows first count)) (told last)

  leads_at : (count first : ℕ) (so_far : List (Option ℕ)) → first < switch_count fabric * fabric.most → AreTold first so_far → ((next : List (Option ℕ)) → AreTold (first + 1) next → Leads (first + 1) count next) → (rank : Option ℕ) → cell first ≡ rank → Leads first (suc count) so_far
  leads_at count first so_far low t later None none =
      let rest = later so_far (skip first so_far t none) in
      (rest.0, rest.1, subst (λ (rs : List Rank). LeadsBy (AddsTo fabric) (told so_far) (map (join_with_byte 32) (map rank_row (rs ++ flat_map at (range_with_len (first + 1) count)))) (told rest.0)) (sym (none_at fabric ranks (spot_at fabric.most first) none)) rest.2)
  leads_at count first so_far low t later (Some rank) has =
      let rest = later (set so_far first (Some rank)) (more first rank so_far t low has) in
      let all : LeadsBy (AddsTo fabric) (told so_far) (map (join_with_byte 32) (map rank_row ((rank_of fabric (spot_at fabric.most first) rank ∷ []) ++ flat_map at (range_with_len (first + 1) count)))) (told rest.0) = (told (set so_far first (Some rank)), adds so_far first rank low has (t.rest first (omega arith)), rest.2) in
      (rest.0, rest.1, subst (λ (rs : List Rank). LeadsBy (AddsTo fabric) (told so_far) (map (join_with_byte 32) (map rank_row (rs ++ flat_map at (range_with_len (first + 1) count)))) (told rest.0)) (sym (some_at fabric ranks (spot_at fabric.most first) rank has)) all)

  lead : (count first : ℕ) (so_far : List (Option ℕ)) → first + count ≡ switch_count fabric * fabric.most → AreTold first so_far → Leads first count so_far
  lead zero first so_far all t = let end : first ≡ switch_count fabric * fabric.most = omega arith in (so_far, subst (λ (n : ℕ). AreTold n so_far) end t, refl)
  lead (suc count) first so_far all t = leads_at count first so_far (omega arith) t (λ next told_next. lead count (first + 1) next (omega arith) told_next) (cell first) refl

  -- all that was told
  pub record IsReadBack : Type 0 where
    pub last : List (Option ℕ)
    pub all : AreTold (switch_count fabric * fabric.most) last
    pub reads : IsRanksText fabric (ranks_text (ranks_of fabric ranks)) (map (λ rank. unwrap_or rank 0) last)

  pub read_back : IsReadBack
  read_back =
      let start : AreTold 0 (replicate (switch_count fabric * fabric.most) blank) = record {
        size = length-replicate (switch_count fabric * fabric.most) blank;
        below = λ place low. absurd (omega arith);
        rest = λ place high. none_there (switch_count fabric * fabric.most) place;
      } in
      let all = lead (switch_count fabric * fabric.most) 0 (replicate (switch_count fabric * fabric.most) blank) (omega arith) start in
      let words = All-cons (All IsWord) head_row (rows 0 (switch_count fabric * fabric.most)) head_words (rows_good (switch_count fabric * fabric.most) 0 (omega arith)) in
      let lines = lines_of-text (head_row ∷ rows 0 (switch_count fabric * fabric.most)) words in
      record {
        last = all.0;
        all = all.1;
        reads = record {
          last = told all.0;
          good = subst (λ (ls : List (List ℕ)). LeadsBy (AddsTo fabric) (none_told fabric) ls (told all.0)) (sym lines)
              (told (replicate (switch_count fabric * fabric.most) blank), ap (after_said fabric (none_told fabric)) head_said, all.2);
          begun = refl;
          says = refl;
        };
      }

  abbrev pub read_told : List ℕ
  read_told = map (λ rank. unwrap_or rank 0) read_back.last

  -- of each channel what the list has
  same_told : (channel : Channel) → IsChannel fabric channel → told_rank fabric (map (λ rank. unwrap_or rank 0) read_back.last) channel ≡ told_rank fabric ranks channel
  same_told channel it =
      let place = number fabric channel in
      let low = channel_place fabric is channel it in
      let size = read_back.all.size in
      get_or-map (λ (rank : Option ℕ). unwrap_or rank 0) read_back.last (number fabric channel) None 0 (omega arith)
      ∙ ap (λ (rank : Option ℕ). unwrap_or rank 0) (read_back.all.below (number fabric channel) low)
      ∙ ap (λ (c : Channel). unwrap_or (rank_in fabric ranks c) 0) (channel_back fabric channel it)
      ∙ ap (λ (side : Side). unwrap_or (rank_over side (slice_get ranks (number fabric channel))) 0) it.leads
      ∙ unwrap_or-slice_get ranks (number fabric channel) 0

  -- so they fall where the list's do
  pub read_fall : (tables : TablesOf) (traffic : Traffic) → HasRanks fabric tables traffic ranks → Fall fabric tables traffic (map (λ rank. unwrap_or rank 0) read_back.last)
  read_fall tables traffic has = same_fall fabric tables traffic ranks (map (λ rank. unwrap_or rank 0) read_back.last) (told_fall fabric tables traffic ranks has) same_told
