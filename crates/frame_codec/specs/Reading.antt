-- Decoding from left to right: a value at the front of bytes, and the bytes after it. Except for `frame_of`, the frame
-- that bytes encode, only functions inside this crate use these definitions.
use Rattle.std.specs.Prelude.{◌≡◌, ◌==◌, ◌&&◌, ℕ, zero, suc, ◌+◌, List, [], ◌∷◌, ◌++◌, length, take, drop}
use Rattle.std.specs.Prelude.{Option, Some, None, Bool, true, not, nat_lt, if◌then◌else◌, ⊤}
use Rattle.std.specs.List.{list_any}
use Rattle.std.specs.Ordering.{is_lt}
use Rattle.std.specs.declared.result.Result.{Result}
use Rattle.std.specs.declared.result.Result.TheVariants.{Ok, Err}
use Rattle.byteorder.specs.Endian.{big_number}
use Rattle.an_base.specs.Values.{LifeId, EndId, Place, PeerAt, EntryOf, PosOf, AnswerOf, TopoOf}
use Rattle.an_base.specs.Order.{life_cmp}
use Rattle.an_base.specs.Frames.{CarryOf}
use Rattle.an_base.specs.declared.limits.TheConstants.{LAST_PORT, MOST_LEVEL, MOST_NUMBER}
use Rattle.an_base.specs.declared.body.Body.{Body}
use Rattle.an_base.specs.declared.body.Body.TheVariants.{Pos, Answer, Stable, Topo}
use Rattle.an_base.specs.declared.frame.Frame.{Frame}
use Rattle.an_base.specs.declared.frame.Frame.TheVariants.{Carry, Ack, Probe, Reply}
use Rattle.frame_codec.specs.declared.reading.DecodeRefusal.{DecodeRefusal}
use Rattle.frame_codec.specs.declared.reading.DecodeRefusal.TheVariants.{NotAFrame, OutOfMemory}

-- a value at the front of bytes, and the bytes after it
abbrev pub At : Type 0 → Type 0
At A = List ℕ → Option (A × List ℕ)

infixl 10 ◌>>=◌
abbrev pub ◌>>=◌ : {A B : Type 0} → Option A → (A → Option B) → Option B
(Some value) >>= next = next value
None >>= next = None

-- one value after another
abbrev pub both : {A B : Type 0} → At A → At B → At (A × B)
both first second bytes = do
  one ← first bytes
  other ← second one.1
  Some ((one.0, other.0), other.1)

-- a value that `make` computes from the one read
abbrev pub made : {A B : Type 0} → (A → B) → At A → At B
made make at bytes = do
  value ← at bytes
  Some (make value.0, value.1)

-- a value that passes a test
abbrev pub tested : {A : Type 0} → (A → Bool) → At A → At A
tested passes at bytes = do
  value ← at bytes
  if passes value.0 then Some value else None

-- a list of given length; each value is read with what is known from the one before it, and the first with `known`
unfoldable pub list_at : {A S : Type 0} → (S → At A) → (A → S) → S → ℕ → At (List A)
list_at one next known zero bytes = Some ([], bytes)
list_at one next known (suc more) bytes = do
  first ← one known bytes
  others ← list_at one next (next first.0) more first.1
  Some (first.0 ∷ others.0, others.1)

-- the call read what `at` reads from the bytes `old`, as `view` sees it, and left the bytes `new`; it returns
-- `NotAFrame` only if `at` reads nothing
abbrev pub ReadsAs : {A B : Type 0} → (A → B) → At B → Result A DecodeRefusal → List ℕ → List ℕ → Type 0
ReadsAs view at (Ok value) old new = at old ≡ Some (view value, new)
ReadsAs view at (Err NotAFrame) old new = at old ≡ None
ReadsAs view at (Err OutOfMemory) old new = ⊤

-- the call read what `at` reads from the bytes `old`, and left the bytes `new`
abbrev pub Reads : {A : Type 0} → At A → Result A DecodeRefusal → List ℕ → List ℕ → Type 0
Reads at result old new = ReadsAs (λ value. value) at result old new

-- a byte
abbrev pub byte_at : At ℕ
byte_at [] = None
byte_at (byte ∷ rest) = Some (byte, rest)

-- a number of `count` bytes, the highest first
unfoldable pub number_at : ℕ → At ℕ
number_at count bytes =
    if nat_lt (length bytes) count then None else Some (big_number count bytes, drop count bytes)

-- a byte from `least` to `most`
abbrev pub within_at : ℕ → ℕ → At ℕ
within_at least most = tested (λ byte. not (nat_lt byte least) && not (nat_lt most byte)) byte_at

-- four bytes that are not 0
abbrev pub counted_at : At ℕ
counted_at = tested (λ number. not (nat_lt number 1)) (number_at 4)

-- a byte that is 0 or 1
abbrev pub truth_at : At Bool
truth_at = made (λ byte. byte == 1) (within_at 0 1)

-- a life from its parts; for each kind of value below, `.._of` makes a value of its parts, and `.._at` reads one, in
-- the order of its encoding
abbrev pub life_of : ℕ × ℕ → LifeId
life_of parts = record { uid = parts.0; boot = parts.1 }

-- a life
unfoldable pub life_at : At LifeId
life_at = made life_of (both (number_at 6) counted_at)

abbrev pub end_of : LifeId × ℕ → EndId
end_of parts = record { life = parts.0; port = parts.1 }

unfoldable pub end_at : At EndId
end_at = made end_of (both life_at (within_at 1 LAST_PORT))

abbrev pub position_of : ((LifeId × ℕ) × LifeId) × ℕ → Place
position_of parts = record { root = parts.0.0.0; level = parts.0.0.1; parent = parts.0.1; port = parts.1 }

unfoldable pub position_at : At Place
position_at =
    made position_of (both (both (both life_at (within_at 0 MOST_LEVEL)) life_at) (within_at 0 LAST_PORT))

abbrev pub link_of : ℕ × EndId → PeerAt
link_of parts = record { port = parts.0; peer = parts.1 }

-- a link whose port is above `above`
unfoldable pub link_above_at : ℕ → At PeerAt
link_above_at above = made link_of (both (within_at (above + 1) LAST_PORT) end_at)

-- links in ascending order of port, all above the port given
abbrev pub links_from : ℕ → ℕ → At (List PeerAt)
links_from = list_at link_above_at (λ link. link.port)

unfoldable pub links_at : At (List PeerAt)
links_at bytes = do
  count ← within_at 0 LAST_PORT bytes
  links_from 0 count.0 count.1

abbrev pub entry_of : ((LifeId × Place) × ℕ) × List PeerAt → EntryOf
entry_of parts = record { life = parts.0.0.0; position = parts.0.0.1; proposed = parts.0.1; links = parts.1 }

unfoldable pub entry_at : At EntryOf
entry_at = made entry_of (both (both (both life_at position_at) (within_at 1 MOST_NUMBER)) links_at)

-- whether the life is above `above`, if there is one
abbrev pub is_above : Option LifeId → LifeId → Bool
is_above None life = true
is_above (Some above) life = is_lt (life_cmp above life)

-- an entry whose life is above `above`, if there is one
unfoldable pub entry_above_at : Option LifeId → At EntryOf
entry_above_at above = tested (λ entry. is_above above entry.life) entry_at

-- entries in ascending order of life, all above the life given, if there is one
abbrev pub entries_from : Option LifeId → ℕ → At (List EntryOf)
entries_from = list_at entry_above_at (λ entry. Some entry.life)

unfoldable pub entries_at : At (List EntryOf)
entries_at bytes = do
  count ← within_at 1 MOST_NUMBER bytes
  entries_from None count.0 count.1

-- whether a number is in its range and differs from those before it
abbrev pub is_new : List ℕ → ℕ → Bool
is_new before number =
    not (nat_lt number 1) && not (nat_lt MOST_NUMBER number)
    && not (list_any (λ other. other == number) before)

-- whether each number of a list is in its range and differs from those before it
unfoldable pub are_new : List ℕ → List ℕ → Bool
are_new before [] = true
are_new before (number ∷ numbers) = is_new before number && are_new (before ++ number ∷ []) numbers

abbrev pub are_numbers : List ℕ → Bool
are_numbers numbers = are_new [] numbers

-- the next `count` bytes
abbrev pub bytes_at : ℕ → At (List ℕ)
bytes_at count bytes = if nat_lt (length bytes) count then None else Some (take count bytes, drop count bytes)

unfoldable pub numbers_at : ℕ → At (List ℕ)
numbers_at count = tested are_numbers (bytes_at count)

abbrev pub pos_of : ((ℕ × LifeId) × ℕ) × Bool → PosOf
pos_of parts = record { version = parts.0.0.0; root = parts.0.0.1; level = parts.0.1; to_parent = parts.1 }

unfoldable pub pos_at : At PosOf
pos_at = made pos_of (both (both (both counted_at life_at) (within_at 0 MOST_LEVEL)) truth_at)

abbrev pub answer_of : ℕ × Bool → AnswerOf
answer_of parts = record { version = parts.0; to_parent = parts.1 }

unfoldable pub answer_at : At AnswerOf
answer_at = made answer_of (both counted_at truth_at)

abbrev pub topo_of : List EntryOf → List ℕ → TopoOf
topo_of entries numbers = record { entries = entries; numbers = numbers }

unfoldable pub topo_at : At TopoOf
topo_at bytes = do
  entries ← entries_at bytes
  numbers ← numbers_at (length entries.0) entries.1
  Some (topo_of entries.0 numbers.0, numbers.1)

-- the content of a body of this kind
abbrev pub body_of : ℕ → At Body
body_of kind bytes =
    if kind == 1 then made Pos pos_at bytes else
    if kind == 2 then made Answer answer_at bytes else
    if kind == 3 then made Stable entries_at bytes else
    if kind == 4 then made Topo topo_at bytes else
    None

unfoldable pub body_at : At Body
body_at bytes = byte_at bytes >>= λ kind. body_of kind.0 kind.1

abbrev pub carry_of : (((ℕ × EndId) × EndId) × ℕ) × Body → CarryOf
carry_of parts =
    record {
      epoch = parts.0.0.0.0;
      from = parts.0.0.0.1;
      to = parts.0.0.1;
      number = parts.0.1;
      body = parts.1;
    }

unfoldable pub carry_at : At CarryOf
carry_at = made carry_of (both (both (both (both (number_at 8) end_at) end_at) counted_at) body_at)

abbrev pub ack_of : ((ℕ × EndId) × EndId) × ℕ → Frame
ack_of parts = Ack parts.0.0.0 parts.0.0.1 parts.0.1 parts.1

unfoldable pub ack_at : At Frame
ack_at = made ack_of (both (both (both (number_at 8) end_at) end_at) (number_at 4))

abbrev pub probe_of : EndId × ℕ → Frame
probe_of parts = Probe parts.0 parts.1

unfoldable pub probe_at : At Frame
probe_at = made probe_of (both end_at (number_at 8))

abbrev pub reply_of : (EndId × EndId) × ℕ → Frame
reply_of parts = Reply parts.0.0 parts.0.1 parts.1

unfoldable pub reply_at : At Frame
reply_at = made reply_of (both (both end_at end_at) (number_at 8))

-- the content of a frame of this kind
abbrev pub frame_of_kind : ℕ → At Frame
frame_of_kind kind bytes =
    if kind == 1 then made Carry carry_at bytes else
    if kind == 2 then ack_at bytes else
    if kind == 3 then probe_at bytes else
    if kind == 4 then reply_at bytes else
    None

unfoldable pub frame_at : At Frame
frame_at bytes = byte_at bytes >>= λ kind. frame_of_kind kind.0 kind.1

-- the frame that `bytes` encode, if they encode one
unfoldable pub frame_of : List ℕ → Option Frame
frame_of bytes = do
  frame ← frame_at bytes
  if length frame.1 == 0 then Some frame.0 else None

-- the result of decoding all of `bytes`
abbrev pub GivesFrame : List ℕ → Result Frame DecodeRefusal → Type 0
GivesFrame bytes (Ok frame) = frame_of bytes ≡ Some frame
GivesFrame bytes (Err NotAFrame) = frame_of bytes ≡ None
GivesFrame bytes (Err OutOfMemory) = ⊤
