-- What single words of a call say.

use Rattle.std.specs.Prelude.{◌==◌, ◌||◌, ℕ, Bool, true, false, List, Option, Some, None, codes, drop, if◌then◌else◌, length, take}
use Rattle.std.specs.Str.{bytes_eq}
use Rattle.common_lines.specs.Words.{is_number_in, number_value}
use Rattle.fabric_model.specs.declared.traffic.Traffic.{Traffic}
use Rattle.fabric_model.specs.declared.traffic.Traffic.TheVariants.{Hosts, Lids, Managed, All, Rows}
use Rattle.fabric_judge_commands.specs.Words.{traffic_word}
use Rattle.fabric_judge_call.specs.declared.said.Name.{Name}
use Rattle.fabric_judge_call.specs.declared.said.Name.TheVariants as name

-- the option that a word is, of which the next word is the value
abbrev pub option_named : List ℕ → Option Name
option_named word =
    if bytes_eq word (codes "-t") || bytes_eq word (codes "--traffic") then Some name.Traffic
    else (if bytes_eq word (codes "--replies") then Some name.Replies
    else (if bytes_eq word (codes "--silent") then Some name.Silent else None))

-- the front of a word that says an option and its value
abbrev pub front_of : Name → List ℕ
front_of name.Traffic = codes "--traffic="
front_of name.Replies = codes "--replies="
front_of name.Silent = codes "--silent="

-- what stands in a word after this front
abbrev pub rest_of : (front word : List ℕ) → Option (List ℕ)
rest_of front word =
    if bytes_eq (take (length front) word) front then Some (drop (length front) word) else None

-- the traffic that a word names
abbrev pub traffic_named : List ℕ → Option Traffic
traffic_named word =
    if bytes_eq word (traffic_word Hosts) then Some Hosts
    else (if bytes_eq word (traffic_word Lids) then Some Lids
    else (if bytes_eq word (traffic_word Managed) then Some Managed
    else (if bytes_eq word (traffic_word All) then Some All
    else (if bytes_eq word (traffic_word Rows) then Some Rows else None))))

abbrev pub replies_named : List ℕ → Option Bool
replies_named word =
    if bytes_eq word (codes "yes") then Some true
    else (if bytes_eq word (codes "no") then Some false else None)

-- the number that a word says, if it is below 256
abbrev pub number_named : List ℕ → Option ℕ
number_named word = if is_number_in 0 255 word then Some (number_value word) else None

-- a file that is standard input
abbrev pub is_standard : List ℕ → Bool
is_standard file = bytes_eq file (codes "-")

-- whether a word may be a file: nothing stands after a dash, if it begins with one
abbrev pub is_lone : Option (List ℕ) → Bool
is_lone None = true
is_lone (Some rest) = length rest == 0
