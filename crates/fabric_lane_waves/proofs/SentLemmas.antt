-- The LIDs to which gates send, end port after end port.
use Rattle.std.proofs.Common.{◌≡◌, ◌≢◌, ◌∙◌, sym, ap, subst, ℕ, ◌+◌, ◌*◌, ◌^◌, ◌<◌, List, Option, Some, None, arith, length, get_or, replicate, inl, inr, ◌↔◌}
use Rattle.std.specs.Int.{bit_at}
use Rattle.std.proofs.lemmas.Bool.{cases_lt}
use Rattle.std.proofs.lemmas.List.{get_or-replicate, get_or_past, length-replicate}
use Rattle.std.proofs.lemmas.Nat.{same_from_place}
use Rattle.std.proofs.lemmas.Nat.Bits.{bit_at-zero}
use Rattle.fabric_tables.specs.Cells.{TablesOf}
use Rattle.fabric_model.specs.declared.node.EndPort.{EndPort}
use Rattle.fabric_model.specs.Fabric.{FabricOf, owner_of}
use Rattle.fabric_lane_tables.specs.PathLevels.{AreLevelsBelow, HasLevel, LevelsOf}
use Rattle.fabric_model.specs.declared.traffic.Traffic.{Traffic}
use Rattle.fabric_routes.specs.Routes.{Sends}
use Rattle.fabric_routes.specs.Waves.{HasBit}
use Rattle.fabric_routes.proofs.WordLemmas.{bit_or_not}
use Rattle.fabric_lane_routes.specs.LaneRoutes.{LaneSends}
use Rattle.fabric_lane_waves.specs.LaneBlocks.{AreOwned, AreSent, AreSetBy, StandsAlready}
use Rattle.fabric_lane_waves.specs.LaneGates.{source_at, source_count}
use Rattle.fabric_lane_waves.proofs.LevelLemmas.{bit_below}
use Rattle.fabric_lane_waves.proofs.SetLemmas.{set_had}

-- words that are 0 have no bit
pub no_bits : (count place bit : ℕ) → HasBit (replicate count 0) place bit → ⊥
no_bits count place bit has =
    let zero : get_or (replicate count 0) place 0 ≡ 0 = elim (cases_lt place count) [
      | inl low ↦ get_or-replicate count place 0 0 low
      | inr high ↦ get_or_past (replicate count 0) place 0 (let size : length (replicate {A = ℕ} count 0) ≡ count = length-replicate count 0 in omega arith)
    ] in
    let none = bit_at-zero bit in
    let same = ap (λ (n : ℕ). bit_at n bit) zero in
    absurd (omega (arith, same, none, has))

some_gate : (a b : ℕ) → Some a ≡ Some b → a ≡ b
some_gate a b same = cc

module _ (fabric : FabricOf) (tables : TablesOf) (traffic : Traffic) (block : ℕ) where
  -- who sends to a LID does not own it
  sends_other : (lid : ℕ) (source : EndPort) → Sends fabric tables traffic lid source → owner_of fabric lid ≢ Some source
  sends_other lid source (inl sends) owns = sends.other (let has = sends.owns in cc)
  sends_other lid source (inr sends) owns = (let none = sends.unowned in cc)

  -- to these LIDs of a block an end port sends, but for its own
  abbrev pub SentByAll : ℕ → EndPort → Type 0
  SentByAll all source = (bit : ℕ) → owner_of fabric (64 * block + bit) ≢ Some source → ((bit_at all bit ≡ 1) ↔ ((bit < 64) × Sends fabric tables traffic (64 * block + bit) source))

  -- the LIDs of a block to which an end port sends: these, without its own
  pub word_sends : (place all word : ℕ) (owned : List ℕ) → place < source_count fabric → AreOwned fabric block owned → all < 2 ^ 64 → SentByAll all (source_at fabric place) → ((bit : ℕ) → ((bit_at word bit ≡ 1) ↔ ((bit_at all bit ≡ 1) × (bit_at (get_or owned place 0) bit ≡ 1 → ⊥)))) → (bit : ℕ) → ((bit_at word bit ≡ 1) ↔ ((bit < 64) × Sends fabric tables traffic (64 * block + bit) (source_at fabric place)))
  word_sends place all word owned low own small is_all is_word bit = (
    λ is. (let both = (is_word bit).0 is in (is_all bit (λ owns. both.1 ((own place bit low (bit_below all 64 bit small both.0)).1 owns))).0 both.0),
    λ (fits, sends).
        let other = sends_other (64 * block + bit) (source_at fabric place) sends in
        (is_word bit).1 ((is_all bit other).1 (fits, sends), λ has. other ((own place bit low fits).0 has)),
  )

  module _ (levels : LevelsOf) (gates : List (Option ℕ)) (top : ℕ) where
    -- one of the first end ports, of a gate, sends with a level
    abbrev pub SentBelow : ℕ → ℕ → ℕ → ℕ → Type 0
    SentBelow end gate level bit = (place : ℕ) × (place < end) × (get_or gates place None ≡ Some gate) × LaneSends fabric tables traffic levels (64 * block + bit) (source_at fabric place) level

    abbrev pub AreSentBelow : ℕ → List ℕ → Type 0
    AreSentBelow end words = (gate level bit : ℕ) → level < top → (HasBit words (gate * top + level) bit ↔ ((bit < 64) × SentBelow end gate level bit))

    pub sent_none : (count : ℕ) → AreSentBelow 0 (replicate count 0)
    sent_none count gate level bit low = (
      λ has. absurd (no_bits count (gate * top + level) bit has),
      λ (fits, (place, before, is, sends)). absurd (omega arith),
    )

    -- one that does not send
    pub sent_skip : (end : ℕ) (words : List ℕ) → get_or gates end None ≡ None → AreSentBelow end words → AreSentBelow (end + 1) words
    sent_skip end words none are gate level bit low = (
      λ has. (let (fits, (place, before, is, sends)) = (are gate level bit low).0 has in (fits, (place, omega arith, is, sends))),
      λ (fits, (place, before, is, sends)). elim (cases_lt place end) [
        | inl less ↦ (are gate level bit low).1 (fits, (place, less, is, sends))
        | inr last ↦ absurd (let same : place ≡ end = omega arith in let there : get_or gates place None ≡ None = ap (λ (k : ℕ). get_or gates k None) same ∙ none in cc)
      ],
    )

    -- .. and one that does
    abbrev pub Sent : ℕ → ℕ → ℕ → ℕ → ℕ → Type 0
    Sent end row word place bit = (level : ℕ) × HasLevel levels (source_at fabric end) (64 * block + bit) level × (place ≡ row + level) × (bit_at word bit ≡ 1)

    pub sent_more : (end of word : ℕ) (old new : List ℕ) → AreLevelsBelow levels top → get_or gates end None ≡ Some of → ((bit : ℕ) → ((bit_at word bit ≡ 1) ↔ ((bit < 64) × Sends fabric tables traffic (64 * block + bit) (source_at fabric end)))) → AreSetBy old new (Sent end (of * top) word) → AreSentBelow end old → AreSentBelow (end + 1) new
    sent_more end of word old new below here is_word more are gate level bit low = (
      λ has. elim ((more.1 (gate * top + level) bit).0 has) [
        | inl had ↦ (let (fits, (place, before, is, sends)) = (are gate level bit low).0 had in (fits, (place, omega arith, is, sends)))
        | inr (with, has_it, at, in_word) ↦ (
            let same = same_from_place gate level of with top low (below (source_at fabric end) (64 * block + bit) with has_it) at in
            let sends = (is_word bit).0 in_word in (
              sends.0,
              (
                end,
                omega arith,
                here ∙ ap (λ (n : ℕ). Some n) (sym same.0),
                record { sends = sends.1; has = subst (λ (l : ℕ). HasLevel levels (source_at fabric end) (64 * block + bit) l) (sym same.1) has_it },
              ),
            ))
      ],
      λ (fits, (place, before, is, sends)). elim (cases_lt place end) [
        | inl less ↦ (more.1 (gate * top + level) bit).1 (inl ((are gate level bit low).1 (fits, (place, less, is, sends))))
        | inr last ↦ (
            let same : place ≡ end = omega arith in
            let one = some_gate gate of (sym is ∙ ap (λ (k : ℕ). get_or gates k None) same ∙ here) in
            let by : LaneSends fabric tables traffic levels (64 * block + bit) (source_at fabric end) level = subst (λ (k : ℕ). LaneSends fabric tables traffic levels (64 * block + bit) (source_at fabric k) level) same sends in
            (more.1 (gate * top + level) bit).1 (inr (level, by.has, ap (λ (k : ℕ). k * top + level) one, (is_word bit).1 (fits, by.sends))))
      ],
    )

    -- what stands already in the words of the gate, since one before sends so
    pub sent_had : (end of word had rest : ℕ) (old new : List ℕ) → ((bit : ℕ) → ((bit_at word bit ≡ 1) ↔ ((bit < 64) × Sends fabric tables traffic (64 * block + bit) (source_at fabric end)))) → ((bit : ℕ) → bit_at had bit ≡ 1 → StandsAlready fabric tables traffic levels block gates end of bit) → ((bit : ℕ) → ((bit_at rest bit ≡ 1) ↔ ((bit_at word bit ≡ 1) × (bit_at had bit ≡ 1 → ⊥)))) → AreLevelsBelow levels top → AreSentBelow end old → AreSetBy old new (Sent end (of * top) rest) → AreSetBy old new (Sent end (of * top) word)
    sent_had end of word had rest old new is_word stood is_rest below are more = set_had (Sent end (of * top) word) (Sent end (of * top) rest) old new
        (λ place bit (level, is, at, in_word). elim (bit_or_not had bit) [
          | inl stands ↦ (
              let s = stood bit stands in
              let with : HasLevel levels (source_at fabric s.before) (64 * block + bit) level = (is.0, ap (λ (n : ℕ). bit_at n level) (sym s.levels_are) ∙ is.1) in
              inr (subst (λ (k : ℕ). HasBit old k bit) (sym at) ((are of level bit (below (source_at fabric end) (64 * block + bit) level is)).1 (((is_word bit).0 in_word).0, (s.before, s.less, s.same, record { sends = s.sends; has = with })))))
          | inr not ↦ inl (level, is, at, (is_rest bit).1 (in_word, not))
        ])
        (λ place bit (level, is, at, in_rest). (level, is, at, ((is_rest bit).0 in_rest).0))
        more

    pub all_sent : (count : ℕ) (words : List ℕ) → AreSentBelow (length gates) words → AreSent fabric tables traffic levels gates count block top words
    all_sent count words are gate level bit within low fits = (
      λ has. (let (fit, (place, before, is, sends)) = (are gate level bit low).0 has in record { place = place; low = before; is = is; sends = sends }),
      λ from. (are gate level bit low).1 (fits, (from.place, from.low, from.is, from.sends)),
    )
