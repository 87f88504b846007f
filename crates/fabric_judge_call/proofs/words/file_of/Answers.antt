use Rattle.std.proofs.Common.{◌≡◌, ◌∙◌, sym, ap, subst, arith, ℕ, List, Option, Some, None}
use Rattle.std.proofs.lemmas.Option.{slice_get-get_or, slice_get_within}
use Rattle.std.specs.Prelude.{MatchOption, slice_index}
use Rattle.fabric_judge_call.specs.declared.words.Call.{Call}
use Rattle.fabric_judge_call.specs.Words.{AreNoCall, IsCall, file_count}
use Rattle.fabric_judge_call.proofs.PlaceLemmas.{has_file}
use Rattle.fabric_judge_call.proofs.WordLemmas.{one_call}
use Rattle.fabric_judge_call.proofs.words.file_of.Goals as goal

-- what is known of the call
of_call : (words : List (List ℕ)) (call told : Option Call) → call ≡ told → MatchOption call (AreNoCall words) (IsCall words) → MatchOption told (AreNoCall words) (IsCall words)
of_call words call told same is = subst (λ (o : Option Call). MatchOption o (AreNoCall words) (IsCall words)) same is

pub returns-in_err-call : goal.returns-in_err-call
returns-in_err-call c = rw c.from_residual.ensures (λ call is. absurd (of_call c.args.words.now c.args.call None c.in_err-call.was c.requires call is))

pub returns-then-file-file_count : goal.returns-then-file-file_count
returns-then-file-file_count c = λ call is. (
    let is_call = of_call c.args.words.now c.args.call (Some c.in_ok-call.call) c.in_ok-call.was c.requires in
    let same : file_count c.in_ok-call.call.task ≡ file_count call.task = ap (λ (k : Call). file_count k.task) (one_call c.args.words.now c.in_ok-call.call call is_call is) in
    omega arith)

pub returns-in-None : goal.returns-in-None
returns-in-None c = λ call is. (
    let words = c.args.words.now in
    let is_call = of_call words c.args.call (Some c.in_ok-call.call) c.in_ok-call.was c.requires in
    let there = has_file words c.in_ok-call.call is_call c.args.file (omega (arith, c.file_count.ensures)) in
    let low = slice_get_within words (slice_index c.in_ok-call.call.files c.args.file) there.0 there.1 in
    absurd (omega (arith, c.in-None.ensures.lookup.3)))

pub returns-in-Some : goal.returns-in-Some
returns-in-Some c = (
  c.in_ok-call.call,
  of_call c.args.words.now c.args.call (Some c.in_ok-call.call) c.in_ok-call.was c.requires,
  omega (arith, c.file_count.ensures),
  slice_get-get_or c.args.words.now (slice_index c.in_ok-call.call.files c.args.file) c.in-Some.word.now c.in-Some.ensures.lookup.3.0 ∙ ap (λ (w : List ℕ). Some w) (sym c.in-Some.ensures.lookup.1),
)
