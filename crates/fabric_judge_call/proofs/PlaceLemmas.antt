-- The files that words say stand at their places.
use Rattle.std.proofs.Common.{◌≡◌, ◌∙◌, sym, ap, subst, refl, ℕ, zero, suc, ◌+◌, ◌<◌, ◌≤◌, List, [], ◌∷◌, ◌++◌, append_assoc, length, length-append, get_or, take, Option, Some, None, Bool, true, false, cond, ◌&&◌, eqb, arith}
use Rattle.std.specs.Prelude.{codes, slice_get, slice_index, unwrap_or, is_none, not}
use Rattle.std.proofs.lemmas.Bool.Decides.{nat_tests}
use Rattle.std.proofs.lemmas.List.{get_or-take, get_or_append_left}
use Rattle.std.proofs.lemmas.Option.{same_Some, none-some, slice_get-get_or}
use Rattle.fabric_model.specs.declared.traffic.Traffic.{Traffic}
use Rattle.fabric_judge_call.specs.declared.said.Said.{Said}
use Rattle.fabric_judge_call.specs.declared.words.Call.{Call}
use Rattle.fabric_judge_call.specs.declared.words.Task.{Task}
use Rattle.fabric_judge_call.specs.Said.{front_of}
use Rattle.fabric_judge_call.specs.Arguments.{AreSaid, Argument, File, Joined, Parted, all_files, all_places, all_words, dashed, places_from, places_in}
use Rattle.fabric_judge_call.specs.Words.{IsCall, call_with, file_count, is_level, may_say, task_word, traffic_at, traffic_for}
use Rattle.fabric_model.specs.declared.traffic.Traffic.TheVariants.{Hosts}
use Rattle.fabric_judge_call.proofs.SaidLemmas.{as_many}

-- words before, and one more
one_more : (before : List (List ℕ)) (word : List ℕ) (place : ℕ) → length before ≡ place → length (before ++ word ∷ []) ≡ place + 1
one_more before word place long = omega (arith, long, length-append before (word ∷ []))

move : (before rest : List (List ℕ)) (word : List ℕ) → (before ++ word ∷ []) ++ rest ≡ before ++ (word ∷ rest)
move before rest word = append_assoc before (word ∷ []) rest

at_end : (before rest : List (List ℕ)) (word : List ℕ) (place : ℕ) → length before ≡ place → slice_get (before ++ (word ∷ rest)) place ≡ Some word
at_end [] rest word place long = subst (λ (p : ℕ). slice_get (word ∷ rest) p ≡ Some word) long refl
at_end (one ∷ before) rest word place long = subst (λ (p : ℕ). slice_get (one ∷ (before ++ (word ∷ rest))) p ≡ Some word) long (at_end before rest word (length before) refl)

-- files that stand one after the other
from_places : (files before : List (List ℕ)) (place k : ℕ) → length before ≡ place → k < length files → slice_get (before ++ files) (get_or (places_from place files) k 0) ≡ slice_get files k
from_places [] before place k long low = absurd (omega arith)
from_places (file ∷ rest) before place zero long low = at_end before rest file place long
from_places (file ∷ rest) before place (suc k) long low =
    ap (λ (ws : List (List ℕ)). slice_get ws (get_or (places_from (place + 1) rest) k 0)) (sym (move before rest file))
    ∙ from_places rest (before ++ file ∷ []) (place + 1) k (one_more before file place long) (omega arith)

pub at_places : (arguments : List Argument) (late : Option (List (List ℕ))) (before : List (List ℕ)) (place k : ℕ) → length before ≡ place → k < length (all_files arguments late) → slice_get (before ++ (all_words arguments ++ dashed late)) (get_or (all_places place arguments late) k 0) ≡ slice_get (all_files arguments late) k
at_places [] None before place k long low = absurd (omega arith)
at_places [] (Some files) before place k long low =
    let here : place + 0 + 1 ≡ place + 1 = omega arith in
    ap (λ (p : ℕ). slice_get (before ++ (codes "--" ∷ files)) (get_or (places_from p files) k 0)) here
    ∙ ap (λ (ws : List (List ℕ)). slice_get ws (get_or (places_from (place + 1) files) k 0)) (sym (move before files (codes "--")))
    ∙ from_places files (before ++ codes "--" ∷ []) (place + 1) k (one_more before (codes "--") place long) low
at_places (File word ∷ rest) late before place zero long low = at_end before (all_words rest ++ dashed late) word place long
at_places (File word ∷ rest) late before place (suc k) long low =
    let words = all_words rest ++ dashed late in
    let here : place + suc (length (all_words rest)) + 1 ≡ place + 1 + length (all_words rest) + 1 = omega arith in
    ap (λ (p : ℕ). slice_get (before ++ (word ∷ words)) (get_or (places_in (place + 1) rest ++ places_from p (unwrap_or late [])) k 0)) here
    ∙ ap (λ (ws : List (List ℕ)). slice_get ws (get_or (all_places (place + 1) rest late) k 0)) (sym (move before words word))
    ∙ at_places rest late (before ++ word ∷ []) (place + 1) k (one_more before word place long) (omega arith)
at_places (Joined option value ∷ rest) late before place k long low =
    let words = all_words rest ++ dashed late in
    let word = front_of option ++ value in
    let here : place + suc (length (all_words rest)) + 1 ≡ place + 1 + length (all_words rest) + 1 = omega arith in
    ap (λ (p : ℕ). slice_get (before ++ (word ∷ words)) (get_or (places_in (place + 1) rest ++ places_from p (unwrap_or late [])) k 0)) here
    ∙ ap (λ (ws : List (List ℕ)). slice_get ws (get_or (all_places (place + 1) rest late) k 0)) (sym (move before words word))
    ∙ at_places rest late (before ++ word ∷ []) (place + 1) k (one_more before word place long) low
at_places (Parted word option value ∷ rest) late before place k long low =
    let words = all_words rest ++ dashed late in
    let here : place + suc (suc (length (all_words rest))) + 1 ≡ place + 2 + length (all_words rest) + 1 = omega arith in
    let longer : length ((before ++ word ∷ []) ++ value ∷ []) ≡ place + 2 = (let e = one_more before word place long in let f = one_more (before ++ word ∷ []) value (place + 1) e in omega arith) in
    ap (λ (p : ℕ). slice_get (before ++ (word ∷ value ∷ words)) (get_or (places_in (place + 2) rest ++ places_from p (unwrap_or late [])) k 0)) here
    ∙ ap (λ (ws : List (List ℕ)). slice_get ws (get_or (all_places (place + 2) rest late) k 0)) (sym (move (before ++ word ∷ []) words value ∙ move before (value ∷ words) word))
    ∙ at_places rest late ((before ++ word ∷ []) ++ value ∷ []) (place + 2) k longer low

and_left : (a b : Bool) → (a && b) ≡ true → a ≡ true
and_left true b is = refl
and_left false b is = is

-- of all that is said
file_place : (places : List ℕ) (k : ℕ) → k < length places → k < 5 → get_or (take 5 (places ++ (0 ∷ 0 ∷ 0 ∷ 0 ∷ 0 ∷ []))) k 0 ≡ get_or places k 0
file_place places k low few = get_or-take 5 (places ++ (0 ∷ 0 ∷ 0 ∷ 0 ∷ 0 ∷ [])) k 0 few ∙ get_or_append_left places (0 ∷ 0 ∷ 0 ∷ 0 ∷ 0 ∷ []) 0 k low

file_at : (first : List ℕ) (rest : List (List ℕ)) (said : Said) (is : AreSaid rest said) (k : ℕ) → k < said.count → (word : List ℕ) × (slice_get (first ∷ rest) (slice_index said.files k) ≡ Some word)
file_at first rest said is k low =
    let places = all_places 1 is.arguments is.late in
    let files = all_files is.arguments is.late in
    let in_files : k < length files = (let count = is.count in omega arith) in
    let in_places : k < length places = omega (arith, as_many is.arguments is.late 1, in_files) in
    let few : k < 5 = (let few = is.few in omega arith) in (
      get_or files k [],
      ap (λ (fs : List ℕ). slice_get (first ∷ rest) (slice_index fs k)) is.files
          ∙ ap (slice_get (first ∷ rest)) (file_place places k in_places few)
          ∙ ap (λ (ws : List (List ℕ)). slice_get (first ∷ ws) (get_or places k 0)) is.are
          ∙ at_places is.arguments is.late (first ∷ []) 1 k refl in_files
          ∙ slice_get-get_or files k [] in_files,
    )

-- a call has its files
then_some : {A : Type 0} (b : Bool) (x : Option A) (one : A) → cond b x None ≡ Some one → (b ≡ true) × (x ≡ Some one)
then_some true x one is = (refl, is)
then_some false x one is = absurd (none-some one is)

enough : (words : List (List ℕ)) (files : ℕ) (said : Said) (traffic : Traffic) → traffic_for words files said ≡ Some traffic → files ≤ said.count
enough words files said traffic is = by (eqb said.count files) refl is
  where
    by : (b : Bool) → eqb said.count files ≡ b → cond b (Some (unwrap_or said.traffic Hosts)) (cond (eqb said.count (files + 1) && (not said.late && is_none said.traffic)) (traffic_at words (slice_index said.files files)) None) ≡ Some traffic → files ≤ said.count
    by true same told = grind (arith, nat_tests)
    by false other told =
        let test = (then_some (eqb said.count (files + 1) && (not said.late && is_none said.traffic)) _ traffic told).0 in
        let one : eqb said.count (files + 1) ≡ true = and_left _ (not said.late && is_none said.traffic) test in
        grind (arith, nat_tests)

call_has : (task : Task) (said : Said) (traffic : Option Traffic) (call : Call) → call_with task said traffic ≡ Some call → (call.task ≡ task) × (call.files ≡ said.files) × ((one : Traffic) × (traffic ≡ Some one))
call_has task said None call is = absurd (none-some call is)
call_has task said (Some traffic) call is =
    let same = sym (same_Some _ call is) in
    (ap (λ (c : Call). c.task) same, ap (λ (c : Call). c.files) same, (traffic, refl))

pub has_file : (words : List (List ℕ)) (call : Call) → IsCall words call → (file : ℕ) → file < file_count call.task → (word : List ℕ) × (slice_get words (slice_index call.files file) ≡ Some word)
has_file words call is file low =
    let (test, told) = then_some (may_say is.task is.said && is_level is.said.silent) (call_with is.task is.said (traffic_for words (file_count is.task) is.said)) call is.is in
    let has = call_has is.task is.said (traffic_for words (file_count is.task) is.said) call told in
    let many = enough words (file_count is.task) is.said has.2.0 has.2.1 in
    let as_task : file_count call.task ≡ file_count is.task = ap file_count has.0 in
    let at = file_at (task_word is.task) is.rest is.said is.says file (omega arith) in
    (at.0, ap (λ (fs : List ℕ). slice_get words (slice_index fs file)) has.1 ∙ ap (λ (ws : List (List ℕ)). slice_get ws (slice_index is.said.files file)) is.are ∙ at.1)
