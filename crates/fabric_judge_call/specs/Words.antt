-- The words of a call.

use Rattle.std.specs.Prelude.{◌≡◌, ◌==◌, ◌&&◌, ◌+◌, ◌<◌, ◌≤◌, ℕ, Bool, true, not, List, ◌∷◌, Option, Some, None, codes, if◌then◌else◌, is_none, nat_lt, slice_get, slice_index, unwrap_or, ⊤}
use Rattle.std.specs.Option.{option_and_then}
use Rattle.fabric_model.specs.declared.traffic.Traffic.{Traffic}
use Rattle.fabric_model.specs.declared.traffic.Traffic.TheVariants.{Hosts}
use Rattle.fabric_judge_call.specs.declared.said.Said.{Said}
use Rattle.fabric_judge_call.specs.declared.words.Task.{Task}
use Rattle.fabric_judge_call.specs.declared.words.Task.TheVariants.{Answer, Route, Repair, Repaired, Lanes, LanesDot, Between}
use Rattle.fabric_judge_call.specs.declared.words.Question.{Question}
use Rattle.fabric_judge_call.specs.declared.words.Question.TheVariants.{Judge, Ranks, Verify, Dot}
use Rattle.fabric_judge_call.specs.declared.words.Call.{Call}
use Rattle.fabric_judge_call.specs.Arguments.{AreSaid}
use Rattle.fabric_judge_call.specs.Said.{traffic_named}

-- the word of a task
abbrev pub question_word : Question → List ℕ
question_word Judge = codes "judge"
question_word Ranks = codes "ranks"
question_word Verify = codes "verify"
question_word Dot = codes "dot"

abbrev pub task_word : Task → List ℕ
task_word (Answer question) = question_word question
task_word Route = codes "route"
task_word Repair = codes "repair"
task_word Repaired = codes "repaired"
task_word Lanes = codes "lanes"
task_word LanesDot = codes "dot"
task_word Between = codes "between"

-- how many files a task has: a topology, but for `route` tables too, and besides for `verify` ranks, with lanes these and
-- levels, and for `between` new tables
abbrev pub file_count : Task → ℕ
file_count (Answer Judge) = 2
file_count (Answer Ranks) = 2
file_count (Answer Verify) = 3
file_count (Answer Dot) = 2
file_count Route = 1
file_count Repair = 2
file_count Repaired = 2
file_count Lanes = 4
file_count LanesDot = 4
file_count Between = 3

-- the word `dot` is of two tasks: that with lanes has as many words that are no options as its files at least, the other
-- fewer
abbrev pub FitsCount : Task → ℕ → Type 0
FitsCount (Answer Dot) count = count < 4
FitsCount LanesDot count = 4 ≤ count
FitsCount task count = ⊤

-- the traffic: that of the option; or of one word after the files, before any `--`; or else `hosts`
abbrev pub traffic_at : List (List ℕ) → (place : ℕ) → Option Traffic
traffic_at words place = option_and_then traffic_named (slice_get words place)

abbrev pub traffic_for : List (List ℕ) → (files : ℕ) → Said → Option Traffic
traffic_for words files said =
    if said.count == files then Some (unwrap_or said.traffic Hosts)
    else (if said.count == files + 1 && (not said.late && is_none said.traffic)
    then traffic_at words (slice_index said.files files) else None)

-- which options a task has: those of service levels are of tasks with lanes, and `between` has no traffic
abbrev pub has_no_levels : Said → Bool
has_no_levels said = is_none said.replies && is_none said.silent

abbrev pub may_say : Task → Said → Bool
may_say Lanes said = true
may_say LanesDot said = true
may_say Between said = has_no_levels said && (is_none said.traffic && said.count == 3)
may_say task said = has_no_levels said

-- a service level is one of 0 to 15
abbrev pub is_level : Option ℕ → Bool
is_level None = true
is_level (Some level) = nat_lt level 16

-- the call of a task by what is said, if it is one: replies count if nothing else is said
abbrev pub call_with : Task → Said → Option Traffic → Option Call
call_with task said None = None
call_with task said (Some traffic) =
    Some (record {
      task = task;
      traffic = traffic;
      replies = unwrap_or said.replies true;
      silent = said.silent;
      files = said.files;
    })

abbrev pub settled : List (List ℕ) → Task → Said → Option Call
settled words task said =
    if may_say task said && is_level said.silent
    then call_with task said (traffic_for words (file_count task) said) else None

-- words are a call: the word of its task, and words that say the rest
pub record IsCall (words : List (List ℕ)) (call : Call) : Type 0 where
  pub task : Task
  pub rest : List (List ℕ)
  pub are : words ≡ task_word task ∷ rest
  pub said : Said
  pub says : AreSaid rest said
  pub fits : FitsCount task said.count
  pub is : settled words task said ≡ Some call

abbrev pub AreNoCall : List (List ℕ) → Type 0
AreNoCall words = (call : Call) → ¬ IsCall words call

-- the word of a file of a call, the first one as 0
abbrev pub IsFileOf : List (List ℕ) → (file : ℕ) → (word : List ℕ) → Type 0
IsFileOf words file word =
    (call : Call) × IsCall words call × (file < file_count call.task)
    × (slice_get words (slice_index call.files file) ≡ Some word)
