-- Texts about a fabric, line by line, and what a source gave of one.
use Rattle.std.specs.Prelude.{◌≡◌, ◌⊎◌, ◌<◌, ◌^◌, ℕ, List, ◌++◌, length, ⊤}
use Rattle.outside.specs.Told.{Seen, Gave, IsAtEnd, Failed}
use Rattle.common_lines.specs.Chains.{LeadsBy, IsFaultOf}
use Rattle.common_lines.specs.Lines.{lines_of}
use Rattle.fabric_read_lines.specs.declared.reader.TextRefusal.{TextRefusal}
use Rattle.fabric_read_lines.specs.declared.reader.TextRefusal.TheVariants as refusal

-- the highest number of bytes of a line, and below, of a text
abbrev pub most_line : ℕ
most_line = 4096

abbrev pub most_bytes : ℕ
most_bytes = 2 ^ 62

-- a kind of text says when a line is valid in a state, to which state it leads, and where the text can end
module _ {State : Type 0} (adds : State → List ℕ → State → Type 0) (IsEnded : State → Type 0) where
  -- `bytes` are a text of the kind, and lead from `start` to `last`
  pub record IsTextOf (start : State) (bytes : List ℕ) (last : State) : Type 0 where
    pub good : LeadsBy adds start (lines_of bytes) last
    pub ended : IsEnded last

  -- a source was read to its end, and the bytes that it gave are such a text
  pub record GaveText (old new : Seen) (start last : State) : Type 0 where
    pub bytes : List ℕ
    pub gave : Gave old new bytes
    pub end : IsAtEnd new
    pub text : IsTextOf start bytes last

-- a kind of text, with the reasons for which a line is invalid in a state, and the reason of a text that was
-- cut off
module _ {State Cause : Type 0} (adds : State → List ℕ → State → Type 0)
    (faulty : State → List ℕ → Cause → Type 0) (IsEnded : State → Type 0) (no_end : Cause) where
  -- the first error of `bytes`, whatever follows them, is in line `line` and for the reason `cause`
  abbrev pub IsFaultOfAll : State → List ℕ → ℕ → Cause → Type 0
  IsFaultOfAll start bytes line cause =
      (more : List ℕ) → IsFaultOf start adds faulty IsEnded no_end (bytes ++ more) line cause

-- a kind of text, also with the reason of a text that is too long
module _ {State Cause : Type 0} (adds : State → List ℕ → State → Type 0)
    (faulty : State → List ℕ → Cause → Type 0) (IsEnded : State → Type 0) (no_end too_many : Cause) where
  -- A source gave bytes that are not a text of the kind: they have this error whatever follows them, or
  -- nothing follows and they have it. Or the source gave too many bytes.
  pub record GaveFault (old new : Seen) (start : State) (line : ℕ) (cause : Cause) : Type 0 where
    pub bytes : List ℕ
    pub gave : Gave old new bytes
    pub fault :
        IsFaultOfAll adds faulty IsEnded no_end start bytes line cause
        ⊎ ((IsAtEnd new × IsFaultOf start adds faulty IsEnded no_end bytes line cause)
        ⊎ ((cause ≡ too_many) × (most_bytes < length bytes)))

  -- why a text was rejected: the bytes of the source have this error, a read failed, or memory ran out
  abbrev pub IsRefusedBy : (old new : Seen) → State → TextRefusal Cause → Type 0
  IsRefusedBy old new start (refusal.Fault line cause) = GaveFault old new start line cause
  IsRefusedBy old new start refusal.ReadFault = Failed old new
  IsRefusedBy old new start refusal.OutOfMemory = ⊤
