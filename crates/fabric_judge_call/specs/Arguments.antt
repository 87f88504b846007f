-- What stands after the word of a command: options and files, in any order, and after `--` files alone.

use Rattle.std.specs.Prelude.{◌≡◌, ◌≤◌, ◌+◌, ℕ, Bool, true, false, List, [], ◌∷◌, ◌++◌, Option, Some, None, IsSome, codes, count_by, if◌then◌else◌, length, take, unwrap_or}
use Rattle.fabric_judge_call.specs.declared.said.Name.{Name}
use Rattle.fabric_judge_call.specs.declared.said.Name.TheVariants as name
use Rattle.fabric_judge_call.specs.declared.said.Said.{Said}
use Rattle.fabric_judge_call.specs.Said.{front_of, is_lone, is_standard, number_named, option_named, replies_named, rest_of, traffic_named}

-- a file; or an option with its value, in one word or in two
pub data Argument : Type 0 where
  File : (word : List ℕ) → Argument
  Joined : (option : Name) (value : List ℕ) → Argument
  Parted : (word : List ℕ) (option : Name) (value : List ℕ) → Argument

-- its words, and those of several
abbrev pub words_in : Argument → List (List ℕ)
words_in (File word) = word ∷ []
words_in (Joined option value) = (front_of option ++ value) ∷ []
words_in (Parted word option value) = word ∷ value ∷ []

abbrev pub all_words : List Argument → List (List ℕ)
all_words [] = []
all_words (argument ∷ rest) = words_in argument ++ all_words rest

-- a file does not begin with a dash, unless it is `-`; of two words the first one is the option
abbrev pub IsArgument : Argument → Type 0
IsArgument (File word) = is_lone (rest_of (codes "-") word) ≡ true
IsArgument (Joined option value) = Unit {0}
IsArgument (Parted word option value) = option_named word ≡ Some option

abbrev pub AreArguments : List Argument → Type 0
AreArguments [] = Unit {0}
AreArguments (argument ∷ rest) = IsArgument argument × AreArguments rest

-- the files among them, and the places of these words if the first word of all stands at a place
abbrev pub files_in : List Argument → List (List ℕ)
files_in [] = []
files_in (File word ∷ rest) = word ∷ files_in rest
files_in (Joined option value ∷ rest) = files_in rest
files_in (Parted word option value ∷ rest) = files_in rest

abbrev pub places_in : ℕ → List Argument → List ℕ
places_in place [] = []
places_in place (File word ∷ rest) = place ∷ places_in (place + 1) rest
places_in place (Joined option value ∷ rest) = places_in (place + 1) rest
places_in place (Parted word option value ∷ rest) = places_in (place + 2) rest

-- the values that are said for an option
abbrev pub is_option : Name → Name → Bool
is_option name.Traffic name.Traffic = true
is_option name.Replies name.Replies = true
is_option name.Silent name.Silent = true
is_option one other = false

abbrev pub values_in : Name → List Argument → List (List ℕ)
values_in asked [] = []
values_in asked (File word ∷ rest) = values_in asked rest
values_in asked (Joined option value ∷ rest) =
    if is_option asked option then value ∷ values_in asked rest else values_in asked rest
values_in asked (Parted word option value ∷ rest) =
    if is_option asked option then value ∷ values_in asked rest else values_in asked rest

-- an option is said once at most, and its value is one
abbrev pub IsSaidBy : {A : Type 0} → (List ℕ → Option A) → List (List ℕ) → Option A → Type 0
IsSaidBy read [] said = said ≡ None
IsSaidBy read (value ∷ []) said = (said ≡ read value) × IsSome said
IsSaidBy read (value ∷ other ∷ rest) said = ⊥

-- `--`, if it stands there, with the files after it; and the places of these
abbrev pub dashed : Option (List (List ℕ)) → List (List ℕ)
dashed None = []
dashed (Some files) = codes "--" ∷ files

abbrev pub places_from : ℕ → List (List ℕ) → List ℕ
places_from place [] = []
places_from place (word ∷ rest) = place ∷ places_from (place + 1) rest

-- all files, and their places
abbrev pub all_files : List Argument → Option (List (List ℕ)) → List (List ℕ)
all_files arguments late = files_in arguments ++ unwrap_or late []

abbrev pub all_places : ℕ → List Argument → Option (List (List ℕ)) → List ℕ
all_places place arguments late =
    places_in place arguments ++ places_from (place + length (all_words arguments) + 1) (unwrap_or late [])

abbrev pub is_some_file : List (List ℕ) → Bool
is_some_file [] = false
is_some_file (file ∷ rest) = true

-- What the words after that of a command say: each option once at most, and five files at most, of which one at most is
-- standard input. The files are told by their places; after the last of these stand zeros.
pub record AreSaid (words : List (List ℕ)) (said : Said) : Type 0 where
  pub arguments : List Argument
  pub late : Option (List (List ℕ))
  pub are : words ≡ all_words arguments ++ dashed late
  pub right : AreArguments arguments
  pub traffic : IsSaidBy traffic_named (values_in name.Traffic arguments) said.traffic
  pub replies : IsSaidBy replies_named (values_in name.Replies arguments) said.replies
  pub silent : IsSaidBy number_named (values_in name.Silent arguments) said.silent
  pub count : said.count ≡ length (all_files arguments late)
  pub few : said.count ≤ 5
  pub files : said.files ≡ take 5 (all_places 1 arguments late ++ (0 ∷ 0 ∷ 0 ∷ 0 ∷ 0 ∷ []))
  pub standard : count_by is_standard (all_files arguments late) ≤ 1
  pub is_late : said.late ≡ is_some_file (unwrap_or late [])
