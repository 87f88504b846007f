-- The report of entries for a life: the least entry of each life that occurs, cut to 126 lives.
use Rattle.std.specs.Prelude.{◌≡◌, ◌≢◌, ℕ, zero, suc, ◌≤◌, ◌⊎◌, List, [], ◌∷◌, Bool, not, if◌then◌else◌}
use Rattle.std.specs.Prelude.{filter, length, All, Contains, IsTrue}
use Rattle.std.specs.declared.cmp.Ordering.{Ordering}
use Rattle.std.specs.declared.cmp.Ordering.TheVariants.{Less, Equal, Greater}
use Rattle.std.specs.Ordering.{is_lt, is_le, is_eq}
use Rattle.an_base.specs.Values.{LifeId, EntryOf}
use Rattle.an_base.specs.Order.{life_cmp, entry_cmp, IsBelow, LivesRise}
use Rattle.an_base.specs.declared.limits.TheConstants.{MOST_SWITCHES}
use Rattle.topo_report.specs.declared.report.TheConstants.{MOST_OTHERS}

-- a life, and a report made for it: entries in ascending order of life
pub record ReportOf : Type 0 where
  pub me : LifeId
  pub entries : List EntryOf

-- the lesser of two entries of one life
abbrev pub lesser_entry : EntryOf → EntryOf → EntryOf
lesser_entry one other = if is_lt (entry_cmp other one) then other else one

-- an entry put before, onto or after the first of others, as its life compares to that of the first
abbrev pub put_by : Ordering → EntryOf → EntryOf → List EntryOf → List EntryOf → List EntryOf
put_by Less entry first others behind = entry ∷ first ∷ others
put_by Equal entry first others behind = lesser_entry entry first ∷ others
put_by Greater entry first others behind = first ∷ behind

-- entries in ascending order of life with `entry` added; if its life is there, the lesser of the two entries stays
abbrev pub put : EntryOf → List EntryOf → List EntryOf
put entry [] = entry ∷ []
put entry (first ∷ others) = put_by (life_cmp entry.life first.life) entry first others (put entry others)

-- the least entry of each life that occurs, in ascending order of life
abbrev pub least_entries : List EntryOf → List EntryOf
least_entries [] = []
least_entries (first ∷ others) = put first (least_entries others)

-- whether the entry belongs to life `me`
abbrev pub is_of : LifeId → EntryOf → Bool
is_of me entry = is_eq (life_cmp entry.life me)

-- the entries of life `me`, and the first `room` of the others
abbrev pub kept : LifeId → ℕ → List EntryOf → List EntryOf
kept me room [] = []
kept me zero (first ∷ rest) = if is_of me first then first ∷ kept me zero rest else kept me zero rest
kept me (suc room) (first ∷ rest) =
    if is_of me first then first ∷ kept me (suc room) rest else first ∷ kept me room rest

-- the least entry of each life; of more than 126 lives, those of `me` and the 125 least others
unfoldable pub report_of : LifeId → List EntryOf → List EntryOf
report_of me entries = kept me MOST_OTHERS (least_entries entries)

-- the entries of lives other than `me`
abbrev pub others : LifeId → List EntryOf → List EntryOf
others me entries = filter (λ entry. not (is_of me entry)) entries

-- entry `one` is at most `other`
abbrev pub IsAtMost : EntryOf → EntryOf → Type 0
IsAtMost one other = IsTrue (is_le (entry_cmp one other))

-- the report has an entry of the life of `heard` that is at most `heard`
pub record Covers (report : List EntryOf) (heard : EntryOf) : Type 0 where
  pub entry : EntryOf
  pub kept : Contains report entry
  pub life : entry.life ≡ heard.life
  pub least : IsAtMost entry heard

-- life `life` is cut from the report: it is not `me`, and the report has 125 others, which are all lower
pub record IsCut (me : LifeId) (report : List EntryOf) (life : LifeId) : Type 0 where
  pub other : life ≢ me
  pub full : length (others me report) ≡ MOST_OTHERS
  pub above : All (λ entry. IsBelow entry.life life) (others me report)

-- `report` is the report of the entries for life `me`
pub record IsReport (me : LifeId) (entries report : List EntryOf) : Type 0 where
  -- the lives of the report ascend
  pub rising : LivesRise report
  -- the report keeps at most 125 lives other than `me`
  pub most : length (others me report) ≤ MOST_OTHERS
  -- every entry of the report is one of the entries
  pub taken : (entry : EntryOf) → Contains report entry → Contains entries entry
  -- every entry of the report is the least of its life
  pub least :
      (entry heard : EntryOf) → Contains report entry → Contains entries heard
      → entry.life ≡ heard.life → IsAtMost entry heard
  -- every life of the entries is in the report or cut from it
  pub whole : (heard : EntryOf) → Contains entries heard → Covers report heard ⊎ IsCut me report heard.life

-- `lives` has the lives of all entries and `me`, and is no longer than a network's list of switches
pub record AreLives (me : LifeId) (entries : List EntryOf) (lives : List LifeId) : Type 0 where
  pub most : length lives ≤ MOST_SWITCHES
  pub own : Contains lives me
  pub all : (entry : EntryOf) → Contains entries entry → Contains lives entry.life

-- the lists have the same members
abbrev pub HaveSameMembers : List EntryOf → List EntryOf → Type 0
HaveSameMembers one other =
    ((entry : EntryOf) → Contains one entry → Contains other entry)
    × ((entry : EntryOf) → Contains other entry → Contains one entry)
