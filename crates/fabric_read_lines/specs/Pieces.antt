-- Bytes that come in pieces, and what was read of them. Only values that take lines, and private functions,
-- cite this.
use Rattle.std.specs.Prelude.{◌≡◌, ◌==◌, ◌+◌, ◌<◌, ◌≤◌, ℕ, Bool, List, ◌++◌, length, take, drop, position, ⊤}
use Rattle.std.specs.Prelude.{Option, Some, None}
use Rattle.std.specs.Str.Lines.{strip_carriage_return}
use Rattle.outside.specs.Told.{Seen, Gave}
use Rattle.common_lines.specs.Lines.{lines_of}
use Rattle.common_lines.specs.Chains.{LeadsBy, IsFaultOf}
use Rattle.common_lines.specs.declared.stop.Stop.{Stop}
use Rattle.common_lines.specs.declared.stop.Stop.TheVariants.{Fault, OutOfMemory}
use Rattle.fabric_read_lines.specs.declared.reader.TextRefusal.{TextRefusal}
use Rattle.fabric_read_lines.specs.declared.reader.TextRefusal.TheVariants as refusal
use Rattle.fabric_read_lines.specs.Texts.{IsFaultOfAll, IsTextOf}

-- `lines` are the lines of `front`, whatever follows it
abbrev pub AreLinesOf : List (List ℕ) → List ℕ → Type 0
AreLinesOf lines front = (more : List ℕ) → lines_of (front ++ more) ≡ lines ++ lines_of more

-- whether a byte is a line feed
abbrev pub is_feed : ℕ → Bool
is_feed byte = byte == 10

-- the rejection of a text that was stopped at `line`
abbrev pub refused : {Cause : Type 0} → ℕ → Stop Cause → TextRefusal Cause
refused line (Fault cause) = refusal.Fault line cause
refused line OutOfMemory = refusal.OutOfMemory

-- a source gave `more` bytes, and they were put after the first `count` bytes held
pub record GavePiece (old new : Seen) (held held' : List ℕ) (count more : ℕ) : Type 0 where
  pub piece : List ℕ
  pub gave : Gave old new piece
  pub size : length piece ≡ more
  pub some : 0 < more
  pub within : count + more ≤ length held
  pub are_held : take (count + more) held' ≡ take count held ++ piece

-- `bytes` begin with a line that ends with a line feed at index `end`, and of which `Is` holds
pub record BeginsWith (bytes : List ℕ) (end : ℕ) (Is : List ℕ → Type 0) : Type 0 where
  pub ends : position is_feed bytes ≡ Some end
  pub here : Is (strip_carriage_return (take end bytes))

module _ {State : Type 0} (adds : State → List ℕ → State → Type 0) where
  -- the first line of the bytes, which ends with a line feed at this index, was taken; or nothing was taken
  abbrev pub IsTakenInPlace : List ℕ → (old new : State) → Option ℕ → Type 0
  IsTakenInPlace bytes old new (Some end) = BeginsWith bytes end (λ line. adds old line new)
  IsTakenInPlace bytes old new None = new ≡ old

  -- as `IsTakenInPlace`, but nothing was taken only if no line feed ends the line
  abbrev pub IsFirstTaken : List ℕ → (old new : State) → Option ℕ → Type 0
  IsFirstTaken bytes old new (Some end) = BeginsWith bytes end (λ line. adds old line new)
  IsFirstTaken bytes old new None = (position is_feed bytes ≡ None) × (new ≡ old)

  -- `bytes` were read as far as `rest`: their lines before it are valid and lead to `told`, and `rest` begins
  -- with line number `line`
  pub record IsReadTo (start : State) (bytes rest : List ℕ) (told : State) (line : ℕ) : Type 0 where
    pub front : List ℕ
    pub lines : List (List ℕ)
    pub parts : bytes ≡ front ++ rest
    pub whole : AreLinesOf lines front
    pub good : LeadsBy adds start lines told
    pub number : line ≡ length lines + 1

  -- reading continued from `held` as far as `rest`
  abbrev pub ReadsOn :
      (held : List ℕ) (old : State) (line : ℕ) (new : State) (next : ℕ) (rest : List ℕ) → Type 0
  ReadsOn held old line new next rest =
      (start : State) (bytes : List ℕ) → IsReadTo start bytes held old line
      → IsReadTo start bytes rest new next

  -- reading continued from `held` as far as `rest`, which contains no line feed
  pub record IsReadOn (held : List ℕ) (old : State) (line : ℕ) (new : State) (next : ℕ) (rest : List ℕ)
      : Type 0 where
    pub read : ReadsOn held old line new next rest
    pub cut : position is_feed rest ≡ None
    pub few : next + length rest ≤ line + length held

  -- all lines of `bytes` are valid and lead to `told`, and there are `line` - 1 of them
  pub record AreAllRead (start : State) (bytes : List ℕ) (told : State) (line : ℕ) : Type 0 where
    pub good : LeadsBy adds start (lines_of bytes) told
    pub number : line ≡ length (lines_of bytes) + 1

  -- `rest` is the last line, which no line feed ends, or nothing: with it all is read
  abbrev pub IsLastRead : (rest : List ℕ) (old : State) (line : ℕ) (new : State) (next : ℕ) → Type 0
  IsLastRead rest old line new next =
      (start : State) (bytes : List ℕ) → IsReadTo start bytes rest old line → AreAllRead start bytes new next

-- the first line of the bytes, which a line feed ends, is invalid; or memory ran out
abbrev pub IsFirstFaulty : {State Cause : Type 0} → (State → List ℕ → Cause → Type 0) → List ℕ → State → Stop Cause → Type 0
IsFirstFaulty faulty bytes old (Fault cause) =
    (end : ℕ) × BeginsWith bytes end (λ line. faulty old line cause)
IsFirstFaulty faulty bytes old OutOfMemory = ⊤

module _ {State Cause : Type 0} (adds : State → List ℕ → State → Type 0)
    (faulty : State → List ℕ → Cause → Type 0) (IsEnded : State → Type 0) (no_end : Cause) where
  -- the bytes in `held` have an error in line `here`; or memory ran out
  abbrev pub IsStoppedOn : (held : List ℕ) (old : State) (line here : ℕ) → Stop Cause → Type 0
  IsStoppedOn held old line here (Fault cause) =
      (start : State) (bytes : List ℕ) → IsReadTo adds start bytes held old line
      → IsFaultOfAll adds faulty IsEnded no_end start bytes here cause
  IsStoppedOn held old line here OutOfMemory = ⊤

  -- the last line has an error; or memory ran out
  abbrev pub IsStoppedLast : (rest : List ℕ) (old : State) (line : ℕ) → Stop Cause → Type 0
  IsStoppedLast rest old line (Fault cause) =
      (start : State) (bytes : List ℕ) → IsReadTo adds start bytes rest old line
      → IsFaultOf start adds faulty IsEnded no_end bytes line cause
  IsStoppedLast rest old line OutOfMemory = ⊤

  -- the last line has an error, or the text cannot end there; or memory ran out
  abbrev pub IsUnfinished : (rest : List ℕ) (old : State) (line : ℕ) → TextRefusal Cause → Type 0
  IsUnfinished rest old line (refusal.Fault here cause) =
      (start : State) (bytes : List ℕ) → IsReadTo adds start bytes rest old line
      → IsFaultOf start adds faulty IsEnded no_end bytes here cause
  IsUnfinished rest old line refusal.ReadFault = ⊥
  IsUnfinished rest old line refusal.OutOfMemory = ⊤

-- `rest`, held at the end, holds the last bytes of a text
module _ {State : Type 0} (adds : State → List ℕ → State → Type 0) (IsEnded : State → Type 0) where
  abbrev pub IsFinished : (rest : List ℕ) (old : State) (line : ℕ) (new : State) → Type 0
  IsFinished rest old line new =
      (start : State) (bytes : List ℕ) → IsReadTo adds start bytes rest old line
      → IsTextOf adds IsEnded start bytes new
