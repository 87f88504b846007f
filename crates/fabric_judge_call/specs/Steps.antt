-- How words are read, one after the other. Only private functions and proofs cite this.

use Rattle.std.specs.Prelude.{◌&&◌, ◌||◌, ◌+◌, ℕ, Bool, true, false, not, List, [], ◌∷◌, Option, Some, None, codes, if◌then◌else◌, nat_lt, slice_set}
use Rattle.std.specs.Option.{option_and_then}
use Rattle.std.specs.Str.{bytes_eq}
use Rattle.fabric_model.specs.declared.traffic.Traffic.{Traffic}
use Rattle.fabric_judge_call.specs.declared.said.Name.{Name}
use Rattle.fabric_judge_call.specs.declared.said.Name.TheVariants as name
use Rattle.fabric_judge_call.specs.declared.said.Part.{Part}
use Rattle.fabric_judge_call.specs.declared.said.Part.TheVariants.{Any, Of, Files}
use Rattle.fabric_judge_call.specs.declared.said.Said.{Said}
use Rattle.fabric_judge_call.specs.Said.{front_of, is_lone, is_standard, number_named, option_named, replies_named, rest_of, traffic_named}

-- what no words say
abbrev pub nothing_said : Said
nothing_said =
    record {
      part = Any;
      traffic = None;
      replies = None;
      silent = None;
      files = 0 ∷ 0 ∷ 0 ∷ 0 ∷ 0 ∷ [];
      count = 0;
      late = false;
      standard = false;
    }

-- an option with its value, if that is one and the option was not said before
abbrev pub with_traffic : Said → (had value : Option Traffic) → Option Said
with_traffic said None (Some traffic) = Some (record said { part = Any; traffic = Some traffic })
with_traffic said had value = None

abbrev pub with_replies : Said → (had value : Option Bool) → Option Said
with_replies said None (Some replies) = Some (record said { part = Any; replies = Some replies })
with_replies said had value = None

abbrev pub with_silent : Said → (had value : Option ℕ) → Option Said
with_silent said None (Some level) = Some (record said { part = Any; silent = Some level })
with_silent said had value = None

abbrev pub with_value : Said → Name → List ℕ → Option Said
with_value said name.Traffic value = with_traffic said said.traffic (traffic_named value)
with_value said name.Replies value = with_replies said said.replies (replies_named value)
with_value said name.Silent value = with_silent said said.silent (number_named value)

-- a file, by its place among the words: there are five at most, and one of them at most is standard input
abbrev pub with_file : Said → (place : ℕ) (word : List ℕ) → Option Said
with_file said place word =
    if nat_lt said.count 5 && not (said.standard && is_standard word)
    then Some (record said {
      files = slice_set said.files said.count place;
      count = said.count + 1;
      standard = said.standard || is_standard word;
    })
    else None

-- an option with `=` and its value, or else ..
abbrev pub or_value : Said → Name → (value : Option (List ℕ)) (other : Option Said) → Option Said
or_value said name None other = other
or_value said name (Some value) other = with_value said name value

-- a word that may be an option, or a file
abbrev pub with_word : Said → (place : ℕ) (word : List ℕ) → Option Name → Option Said
with_word said place word (Some name) = Some (record said { part = Of name })
with_word said place word None =
    or_value said name.Traffic (rest_of (front_of name.Traffic) word)
    (or_value said name.Replies (rest_of (front_of name.Replies) word)
    (or_value said name.Silent (rest_of (front_of name.Silent) word)
    (if is_lone (rest_of (codes "-") word) then with_file said place word else None)))

-- what is said after a word: that of a file, the value of an option, or any
abbrev pub after_word : Part → Said → (place : ℕ) (word : List ℕ) → Option Said
after_word Files said place word = with_file (record said { late = true }) place word
after_word (Of name) said place word = with_value said name word
after_word Any said place word =
    if bytes_eq word (codes "--") then Some (record said { part = Files })
    else with_word said place word (option_named word)

-- no option lacks its value
abbrev pub is_ended : Part → Bool
is_ended Any = true
is_ended Files = true
is_ended (Of name) = false

-- what words say, the first of which stands at a place
abbrev pub say : Said → (place : ℕ) → List (List ℕ) → Option Said
say said place [] = if is_ended said.part then Some said else None
say said place (word ∷ rest) =
    option_and_then (λ next. say next (place + 1) rest) (after_word said.part said place word)
