-- Words are those of one call at most.
use Rattle.std.proofs.Common.{◌≡◌, ◌∙◌, sym, ap, subst, refl, ℕ, ◌+◌, ◌<◌, ◌≤◌, List, [], ◌∷◌, Bool, cond, eqb, ltb, length, get_or, drop, drop-cons, add-one, Option, Some, None, arith}
use Rattle.std.specs.Prelude.{MatchOption, slice_index}
use Rattle.std.specs.Option.{option_and_then}
use Rattle.std.proofs.lemmas.Bool.{le-ltb, lt-ltb}
use Rattle.std.proofs.lemmas.List.{drop_all, drop_at}
use Rattle.std.proofs.lemmas.Option.{same_Some, none-some}
use Rattle.fabric_judge_call.specs.declared.said.Said.{Said}
use Rattle.fabric_judge_call.specs.declared.words.Task.{Task}
use Rattle.fabric_judge_call.specs.declared.words.Task.TheVariants.{Answer, Route, Repair, Repaired, Lanes, LanesDot, Between}
use Rattle.fabric_judge_call.specs.declared.words.Question.TheVariants.{Judge, Ranks, Verify, Dot}
use Rattle.fabric_judge_call.specs.declared.words.Call.{Call}
use Rattle.fabric_judge_call.specs.Arguments.{AreSaid}
use Rattle.fabric_judge_call.specs.Steps.{after_word, is_ended, say}
use Rattle.fabric_judge_call.proofs.SaidLemmas.{bare, one_said}
use Rattle.fabric_judge_call.specs.Words.{AreNoCall, FitsCount, IsCall, settled, task_word}

-- the words of tasks differ in the sum of two letters and of their length, and those with one word in how many follow
task_of_sum : (count sum : ℕ) → Task
task_of_sum count sum =
    cond (eqb sum 211) (Answer Judge) (cond (eqb sum 229) (Answer Ranks) (cond (eqb sum 238) (Answer Verify) (cond (eqb sum 219) (cond (ltb count 4) (Answer Dot) LanesDot) (cond (eqb sum 236) Route (cond (eqb sum 232) Repair (cond (eqb sum 234) Repaired (cond (eqb sum 223) Lanes Between)))))))

sum_of : List ℕ → ℕ
sum_of word = slice_index word 0 + slice_index word 2 + length word

by_sum : (task : Task) (count : ℕ) → FitsCount task count → task_of_sum count (sum_of (task_word task)) ≡ task
unfolding task_of_sum sum_of
by_sum (Answer Judge) count fits = refl
by_sum (Answer Ranks) count fits = refl
by_sum (Answer Verify) count fits = refl
by_sum (Answer Dot) count fits = ap (λ (few : Bool). cond few (Answer Dot) LanesDot) (lt-ltb count 4 fits)
by_sum Route count fits = refl
by_sum Repair count fits = refl
by_sum Repaired count fits = refl
by_sum Lanes count fits = refl
by_sum LanesDot count fits = ap (λ (few : Bool). cond few (Answer Dot) LanesDot) (le-ltb count 4 fits)
by_sum Between count fits = refl

one_task : (one other : Task) (count : ℕ) → FitsCount one count → FitsCount other count → task_word one ≡ task_word other → one ≡ other
one_task one other count fits too same = sym (by_sum one count fits) ∙ ap (λ (w : List ℕ). task_of_sum count (sum_of w)) same ∙ by_sum other count too

-- words and their first one
cut : (words : List (List ℕ)) (first : List ℕ) → 0 < length words → words ≡ get_or words 0 first ∷ drop 1 words
cut [] first some = absurd (omega arith)
cut (word ∷ rest) first some = ap (λ (r : List (List ℕ)). word ∷ r) (sym (drop_at (word ∷ []) rest 1 refl))

-- what words say, if the next one is wrong, and if there is none
pub said_off : (words : List (List ℕ)) (said : Said) (place : ℕ) (word : List ℕ) → place < length words → word ≡ get_or words place word → after_word said.part said place word ≡ None → say said place (drop place words) ≡ None
said_off words said place word low at is =
    let here : drop place words ≡ get_or words place word ∷ drop (place + 1) words = rw (add-one, drop-cons words place word) refl in
    ap (say said place) (here ∙ ap (λ (w : List ℕ). w ∷ drop (place + 1) words) (sym at))
    ∙ ap (λ (o : Option Said). option_and_then (λ (s : Said). say s (place + 1) (drop (place + 1) words)) o) is

pub said_all : (words : List (List ℕ)) (said : Said) (place : ℕ) → length words ≤ place → say said place (drop place words) ≡ cond (is_ended said.part) (Some said) None
said_all words said place past = ap (say said place) (drop_all place words past)

-- a call does not depend on the rest of what is read
settled_bare : (words : List (List ℕ)) (task : Task) (said : Said) → settled words task said ≡ settled words task (bare said)
settled_bare words (Answer question) said = refl
settled_bare words Route said = refl
settled_bare words Repair said = refl
settled_bare words Repaired said = refl
settled_bare words Lanes said = refl
settled_bare words LanesDot said = refl
settled_bare words Between said = refl

-- of a call
module _ (words : List (List ℕ)) (call : Call) (is : IsCall words call) where
  some_words : 0 < length words
  some_words = omega (arith, ap (λ (ws : List (List ℕ)). length ws) is.are)

  says_it : AreSaid (drop 1 words) is.said
  says_it = subst (λ (ws : List (List ℕ)). AreSaid ws is.said) (sym (ap (drop 1) is.are ∙ drop_at (task_word is.task ∷ []) is.rest 1 refl)) is.says

  word_is : (first : List ℕ) → first ≡ get_or words 0 first → first ≡ task_word is.task
  word_is first at = at ∙ ap (λ (ws : List (List ℕ)). get_or ws 0 first) is.are

pub no_words : (words : List (List ℕ)) → length words ≡ 0 → AreNoCall words
no_words words none call is = let some = some_words words call is in absurd (omega arith)

pub no_said : (words : List (List ℕ)) → ((said : Said) → ¬ AreSaid (drop 1 words) said) → AreNoCall words
no_said words none call is = none is.said (says_it words call is)

-- by the first word, and what the others say
module _ (words : List (List ℕ)) (first : List ℕ) (at : first ≡ get_or words 0 first) (some : 0 < length words) (said : Said) (says : AreSaid (drop 1 words) said) where
  same_said : (call : Call) (is : IsCall words call) → bare is.said ≡ bare said
  same_said call is = one_said (drop 1 words) is.said said (says_it words call is) says

  pub no_task : ((task : Task) → first ≡ task_word task → FitsCount task said.count → ⊥) → AreNoCall words
  no_task none call is = none is.task (word_is words call is first at) (subst (λ (s : Said). FitsCount is.task s.count) (same_said call is) is.fits)

  module _ (task : Task) (is_task : first ≡ task_word task) (fits : FitsCount task said.count) where
    same_task : (call : Call) (is : IsCall words call) → is.task ≡ task
    same_task call is = one_task is.task task said.count (subst (λ (s : Said). FitsCount is.task s.count) (same_said call is) is.fits) fits (sym (word_is words call is first at) ∙ is_task)

    pub settled_as : (call : Call) → IsCall words call → settled words task said ≡ Some call
    settled_as call is = sym (ap (λ (t : Task). settled words t is.said) (same_task call is) ∙ settled_bare words task is.said ∙ ap (settled words task) (same_said call is) ∙ sym (settled_bare words task said)) ∙ is.is

    pub no_call : settled words task said ≡ None → AreNoCall words
    no_call none call is = none-some call (sym none ∙ settled_as call is)

    pub is_call : (call : Call) → settled words task said ≡ Some call → IsCall words call
    is_call call settles = record {
      task = task;
      rest = drop 1 words;
      are = cut words first some ∙ ap (λ (w : List ℕ). w ∷ drop 1 words) (sym at ∙ is_task);
      said = said;
      says = says;
      fits = fits;
      is = settles;
    }

    -- what is settled is the call, or there is none
    pub settles : (found : Option Call) → found ≡ settled words task said → MatchOption found (AreNoCall words) (IsCall words)
    settles None is = no_call (sym is)
    settles (Some call) is = is_call call (sym is)

-- no words are two calls
pub one_call : (words : List (List ℕ)) (one other : Call) → IsCall words one → IsCall words other → one ≡ other
one_call words one other is too =
    let first = get_or words 0 [] in
    let at : get_or words 0 [] ≡ get_or words 0 (get_or words 0 []) = ap (λ (ws : List (List ℕ)). get_or ws 0 []) is.are ∙ sym (ap (λ (ws : List (List ℕ)). get_or ws 0 (get_or words 0 [])) is.are) in
    let some = some_words words one is in
    let word : get_or words 0 [] ≡ task_word is.task = ap (λ (ws : List (List ℕ)). get_or ws 0 []) is.are in
    same_Some one other (sym is.is ∙ settled_as words first at some is.said (says_it words one is) is.task word is.fits other too)
