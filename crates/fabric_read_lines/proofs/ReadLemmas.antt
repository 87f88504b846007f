-- What was read of what a source gave.
use Rattle.std.proofs.Common.{◌≡◌, ◌∙◌, sym, ap, subst, refl, ℕ, ◌+◌, ◌-◌, ◌<◌, ◌≤◌, ◌^◌, inl, inr, List, ◌++◌, [], arith, length, length-append, length-drop, length-take, take, drop, Some, None, Option, Result, Ok, Err, IfSome}
use Rattle.std.specs.Prelude.{OnOk, OnErr, IfErr}
use Rattle.std.specs.List.{position}
use Rattle.std.specs.Str.Lines.{strip_carriage_return}
use Rattle.std.proofs.lemmas.List.{take_rest, drop-drop, take-append-le}
use Rattle.std.proofs.Math.Seq.{take-append-add}
use borrow.Rule.Slice.PartMut.{put_mid, post_of}
use Rattle.std.proofs.lemmas.List.Quantifiers.{position-Some}
use Rattle.outside.specs.declared.source.Got.{Got}
use Rattle.outside.specs.declared.source.Got.TheVariants.{Part, End, Failed}
use Rattle.outside.specs.Answers.{IfPart}
use Rattle.outside.specs.Told.{Told as Bytes, Seen, Gave, IsAtEnd, Ends, with_front}
use Rattle.outside.proofs.ToldLemmas.{with_front_twice}
use Rattle.common_lines.specs.Stops.{IsStep}
use Rattle.common_lines.specs.declared.stop.Stop.{Stop}
use Rattle.common_lines.specs.declared.stop.Stop.TheVariants.{Fault, OutOfMemory}
use Rattle.fabric_read_lines.specs.declared.reader.TextRefusal.{TextRefusal}
use Rattle.fabric_read_lines.specs.declared.reader.TextRefusal.TheVariants as refusal
use Rattle.fabric_read_lines.specs.Texts.{GaveText, GaveFault, IsRefusedBy}
use Rattle.fabric_read_lines.specs.Pieces.{IsFirstTaken, IsFirstFaulty, BeginsWith, IsReadTo, ReadsOn, IsReadOn, IsLastRead, IsStoppedLast, IsStoppedOn}
use Rattle.fabric_read_lines.specs.Pieces.{GavePiece, IsFinished, IsUnfinished, is_feed, refused}
use Rattle.fabric_read_lines.proofs.PieceLemmas.{read_next, read_more, fault_next, last_read, last_faulty}

-- a piece that is put after the first bytes that are held
pub piece_given : (r : Got) (old new : Seen) (held buf : List ℕ) (count : ℕ) → count < length held → length buf ≡ length held - count → IfPart r (λ n. (1 ≤ n) × (n ≤ length (take (length held - count) (drop count held)))) → IfPart r (λ n. Gave old new (take n buf)) → IfPart r (GavePiece old new held (put_mid count (length held - count) held buf) count)
piece_given (Part n) old new held buf count low size some gave =
    let front : length (take count held) ≡ count = omega (arith, length-take count held, low) in
    let place : count + n ≡ length (take count held) + n = omega (arith, front) in
    let room : n ≤ length held - count = omega (arith, some.1, length-take (length held - count) (drop count held), length-drop count held) in
    let fits : n ≤ length buf = omega (arith, size, room) in
    let back = post_of count (length held - count) held in
    record {
      piece = take n buf;
      gave = gave;
      size = omega (arith, length-take n buf, fits);
      some = omega (arith, some.0);
      within = omega (arith, room, low);
      are_held =
          ap (λ (m : ℕ). take m (take count held ++ (buf ++ back))) place
          ∙ take-append-add (take count held) (buf ++ back) n
          ∙ ap (λ (ys : List ℕ). take count held ++ ys) (take-append-le n buf back fits);
    }
piece_given End old new held buf count low size some gave = tt
piece_given Failed old new held buf count low size some gave = tt

-- more was given
gave_more : (start mid new : Seen) (bytes piece : List ℕ) → Gave start mid bytes → Gave mid new piece → Gave start new (bytes ++ piece)
gave_more start mid new bytes piece gave next = gave ∙ ap (λ (t : Bytes). with_front bytes t) next ∙ with_front_twice bytes piece new.told

-- what was given before a piece, and with it
pub given_more : (start mid new : Seen) (bytes held held' : List ℕ) (count more : ℕ) → Gave start mid bytes → (piece : GavePiece mid new held held' count more) → Gave start new (bytes ++ piece.piece)
given_more start mid new bytes held held' count more gave piece = gave_more start mid new bytes piece.piece gave piece.gave

-- nothing more is given
gave_end : (start mid new : Seen) (bytes : List ℕ) → Gave start mid bytes → Ends mid new → Gave start new bytes
gave_end start mid new bytes gave ends = gave ∙ ap (λ (t : Bytes). with_front bytes t) (sym ends.0)

at_end : (mid new : Seen) → Ends mid new → IsAtEnd new
at_end mid new ends = subst (λ (t : Bytes). IfSome t (λ rest. rest ≡ [])) (sym ends.0) ends.1

module _ {State : Type 0} (adds : State → List ℕ → State → Type 0) where
  -- the first line of what is left after more was read
  pub reads_further : (held : List ℕ) (old mid new : State) (line number from end : ℕ) (found : Option ℕ) → ReadsOn adds held old line mid number (drop from held) → IsFirstTaken adds (take (length held - from) (drop from held)) mid new found → found ≡ Some end → ReadsOn adds held old line new (number + 1) (drop (from + (end + 1)) held) × (from + (end + 1) ≤ length held)
  reads_further held old mid new line number from end found read taken is =
      let first : BeginsWith (drop from held) end (λ here. adds mid here new) = subst (λ (rest : List ℕ). IsFirstTaken adds rest mid new (Some end)) (take_rest held from) (subst (λ (o : Option ℕ). IsFirstTaken adds (take (length held - from) (drop from held)) mid new o) is taken) in
      let within : end < length (drop from held) = (position-Some is_feed (drop from held) end 0 first.ends).0 in (
        λ start bytes begun. subst (λ (rest : List ℕ). IsReadTo adds start bytes rest new (number + 1)) (drop-drop (end + 1) from held) (read_next adds start bytes (drop from held) mid new number end (read start bytes begun) first.ends first.here),
        omega (arith, within, length-drop from held),
      )

  pub reads_all : (held : List ℕ) (old mid new : State) (line number from : ℕ) (found : Option ℕ) → ReadsOn adds held old line mid number (drop from held) → number + (length held - from) ≤ line + length held → IsFirstTaken adds (take (length held - from) (drop from held)) mid new found → found ≡ None → IsReadOn adds held old line new number (drop from held)
  reads_all held old mid new line number from found read few taken is =
      let none = subst (λ (o : Option ℕ). IsFirstTaken adds (take (length held - from) (drop from held)) mid new o) is taken in
      let cut : position is_feed (drop from held) ≡ None = ap (position is_feed) (sym (take_rest held from)) ∙ none.0 in
      subst (λ (s : State). IsReadOn adds held old line s number (drop from held)) (sym none.1) (record { read = read; cut = cut; few = omega (arith, few, length-drop from held) })

  pub held_more : (first : State) (mid new : Seen) (bytes held held' : List ℕ) (count more : ℕ) (told : State) (line : ℕ) → IsReadTo adds first bytes (take count held) told line → (piece : GavePiece mid new held held' count more) → IsReadTo adds first (bytes ++ piece.piece) (take (count + more) held') told line
  held_more first mid new bytes held held' count more told line read piece =
      subst (λ (rest : List ℕ). IsReadTo adds first (bytes ++ piece.piece) rest told line) (sym piece.are_held)
      (read_more adds first bytes (take count held) piece.piece told line read)

module _ {State : Type 0} (adds : State → List ℕ → State → Type 0) (IsEnded : State → Type 0) where
  pub end_told : {Done Cause : Type 0} (r : Result Done (TextRefusal Cause)) (start mid new : Seen) (bytes rest rest' : List ℕ) (first old last : State) (line : ℕ) → Gave start mid bytes → IsReadTo adds first bytes rest old line → Ends mid new → rest' ≡ rest → OnOk r (IsFinished adds IsEnded rest' old line last) → OnOk r (GaveText adds IsEnded start new first last)
  end_told (Ok done) start mid new bytes rest rest' first old last line gave read ends same finished =
      record { bytes = bytes; gave = gave_end start mid new bytes gave ends; end = at_end mid new ends; text = finished first bytes (subst (λ (xs : List ℕ). IsReadTo adds first bytes xs old line) (sym same) read) }
  end_told (Err refused) start mid new bytes rest rest' first old last line gave read ends same finished = tt

-- the first line was taken as what stands before its line feed, or is faulty as that; before it nothing was taken
module _ {State : Type 0} (bytes line : List ℕ) (end : ℕ) (old mid : State) (at : Some end ≡ position is_feed bytes) (is : line ≡ strip_carriage_return (take end bytes)) (same : mid ≡ old) where
  pub first_taken : (adds : State → List ℕ → State → Type 0) (new : State) → adds mid line new → BeginsWith bytes end (λ l. adds old l new)
  first_taken adds new step = record { ends = sym at; here = subst (λ (s : State). adds s (strip_carriage_return (take end bytes)) new) same (subst (λ (l : List ℕ). adds mid l new) is step) }

  pub first_faulty : {Cause : Type 0} (stop : Stop Cause) (faulty : State → List ℕ → Cause → Type 0) (Good : Type 0) → IsStep {Done = Unit {0}} (Err stop) Good (faulty mid line) → IsFirstFaulty faulty bytes old stop
  first_faulty (Fault cause) faulty Good step = (end, record { ends = sym at; here = subst (λ (s : State). faulty s (strip_carriage_return (take end bytes)) cause) same (subst (λ (l : List ℕ). faulty mid l cause) is step) })
  first_faulty OutOfMemory faulty Good step = tt

module _ {State Cause : Type 0} (adds : State → List ℕ → State → Type 0) (faulty : State → List ℕ → Cause → Type 0) (IsEnded : State → Type 0) (no_end : Cause) where
  -- the first line of what is left has a fault
  pub stops_further : (stop : Stop Cause) (held : List ℕ) (old mid : State) (line number from : ℕ) → ReadsOn adds held old line mid number (drop from held) → IsFirstFaulty faulty (take (length held - from) (drop from held)) mid stop → IsStoppedOn adds faulty IsEnded no_end held old line number stop
  stops_further (Fault cause) held old mid line number from read (end, wrong) =
      let first : BeginsWith (drop from held) end (λ here. faulty mid here cause) = subst (λ (rest : List ℕ). BeginsWith rest end (λ here. faulty mid here cause)) (take_rest held from) wrong in
      λ start bytes begun. fault_next adds faulty IsEnded no_end start bytes (drop from held) mid number end cause (read start bytes begun) first.ends first.here
  stops_further OutOfMemory held old mid line number from read wrong = tt

  -- the last line
  pub last_stopped : (stop : Stop Cause) (rest : List ℕ) (old new : State) (line : ℕ) → IsStep {Done = Unit {0}} (Err stop) (adds old rest new) (faulty old rest) → position is_feed rest ≡ None → 0 < length rest → IsStoppedLast adds faulty IsEnded no_end rest old line stop
  last_stopped (Fault cause) rest old new line step none some =
      λ start bytes read. last_faulty adds faulty IsEnded no_end start bytes rest old line cause read none some step
  last_stopped OutOfMemory rest old new line step none some = tt

  module _ (too_many : Cause) where
    -- too many bytes were given
    pub over_many : (start mid new : Seen) (bytes held held' : List ℕ) (count more left line : ℕ) (first : State) → Gave start mid bytes → length bytes + left ≡ 2 ^ 62 → GavePiece mid new held held' count more → left < more → GaveFault adds faulty IsEnded no_end too_many start new first line too_many
    over_many start mid new bytes held held' count more left line first gave all piece over = record {
      bytes = bytes ++ piece.piece;
      gave = given_more start mid new bytes held held' count more gave piece;
      fault = inr (inr (refl, omega (arith, all, over, piece.size, length-append bytes piece.piece)));
    }

    -- what was given has a fault
    pub held_stopped : (stop : Stop Cause) (start mid new : Seen) (bytes held held' : List ℕ) (count more : ℕ) (first old : State) (line here : ℕ) → Gave start mid bytes → IsReadTo adds first bytes (take count held) old line → GavePiece mid new held held' count more → IsStoppedOn adds faulty IsEnded no_end (take (count + more) held') old line here stop → IsRefusedBy adds faulty IsEnded no_end too_many start new first (refused here stop)
    held_stopped (Fault cause) start mid new bytes held held' count more first old line here gave read piece stopped = record {
      bytes = bytes ++ piece.piece;
      gave = given_more start mid new bytes held held' count more gave piece;
      fault = inl (stopped first (bytes ++ piece.piece) (held_more adds first mid new bytes held held' count more old line read piece));
    }
    held_stopped OutOfMemory start mid new bytes held held' count more first old line here gave read piece stopped = tt

    pub end_refused : {Done : Type 0} (r : Result Done (TextRefusal Cause)) (start mid new : Seen) (bytes rest rest' : List ℕ) (first old : State) (line : ℕ) → Gave start mid bytes → IsReadTo adds first bytes rest old line → Ends mid new → rest' ≡ rest → IfErr r (IsUnfinished adds faulty IsEnded no_end rest' old line) → IfErr r (IsRefusedBy adds faulty IsEnded no_end too_many start new first)
    end_refused (Ok done) start mid new bytes rest rest' first old line gave read ends same unfinished = tt
    end_refused (Err (refusal.Fault here cause)) start mid new bytes rest rest' first old line gave read ends same unfinished = record {
      bytes = bytes;
      gave = gave_end start mid new bytes gave ends;
      fault = inr (inl (at_end mid new ends, unfinished first bytes (subst (λ (xs : List ℕ). IsReadTo adds first bytes xs old line) (sym same) read)));
    }
    end_refused (Err refusal.ReadFault) start mid new bytes rest rest' first old line gave read ends same unfinished = absurd unfinished
    end_refused (Err refusal.OutOfMemory) start mid new bytes rest rest' first old line gave read ends same unfinished = tt
