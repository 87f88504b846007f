-- What arguments say is what is read of their words, one after the other.
use Rattle.std.proofs.Common.{◌≡◌, ◌∙◌, sym, ap, subst, refl, ℕ, suc, ◌+◌, ◌<◌, ◌≤◌, inl, inr, List, [], ◌∷◌, ◌++◌, append_assoc, Bool, true, false, cond, ◌&&◌, ◌||◌, eqb, ltb, length, length-append, take, drop, Option, Some, None, arith}
use Rattle.std.specs.Prelude.{IsSome, codes, count_by, not, slice_set, unwrap_or}
use Rattle.std.specs.Int.{from_bool}
use Rattle.std.specs.Option.{option_and_then}
use Rattle.std.specs.Str.{bytes_eq}
use Rattle.std.proofs.lemmas.Bool.{cases_eq}
use Rattle.std.proofs.lemmas.Bool.Decides.{nat_tests}
use Rattle.std.proofs.lemmas.List.{take-append-drop}
use Rattle.std.proofs.lemmas.List.Sums.{sum_by-cons}
use Rattle.std.proofs.lemmas.Option.{same_Some, none-some}
use Rattle.std.proofs.lemmas.Slice.Eq.{bytes_eq-Decides}
use Rattle.fabric_model.specs.declared.traffic.Traffic.{Traffic}
use Rattle.fabric_judge_call.specs.declared.said.Name.{Name}
use Rattle.fabric_judge_call.specs.declared.said.Name.TheVariants as name
use Rattle.fabric_judge_call.specs.declared.said.Part.{Part}
use Rattle.fabric_judge_call.specs.declared.said.Part.TheVariants.{Any, Of, Files}
use Rattle.fabric_judge_call.specs.declared.said.Said.{Said}
use Rattle.fabric_judge_call.specs.Said.{front_of, is_lone, is_standard, number_named, option_named, replies_named, rest_of, traffic_named}
use Rattle.fabric_judge_call.specs.Steps.{after_word, is_ended, nothing_said, or_value, say, with_file, with_replies, with_silent, with_traffic, with_value, with_word}
use Rattle.fabric_judge_call.specs.Arguments.{AreArguments, AreSaid, Argument, File, IsArgument, IsSaidBy, Joined, Parted, all_files, all_places, dashed, files_in, is_option, is_some_file, places_from, places_in, values_in, words_in, all_words}

-- tests
if_some : {A : Type 0} (b : Bool) (x next : A) → cond b (Some x) None ≡ Some next → (b ≡ true) × (next ≡ x)
if_some true x next is = (refl, sym (same_Some x next is))
if_some false x next is = absurd (none-some next is)

and_not : (a z : Bool) → (a && not z) ≡ true → (a ≡ true) × (z ≡ false)
and_not true true is = absurd (cc)
and_not true false is = (refl, refl)
and_not false z is = absurd (cc)

or_true : (a : Bool) → (a || true) ≡ true
or_true true = refl
or_true false = refl

or_false : (a : Bool) → (a || false) ≡ a
or_false true = refl
or_false false = refl

bind_some : {A B : Type 0} (f : A → Option B) (o : Option A) (last : B) → option_and_then f o ≡ Some last → (next : A) × (o ≡ Some next) × (f next ≡ Some last)
bind_some f None last is = absurd (none-some last is)
bind_some f (Some next) last is = (next, refl, is)

-- a word that may be a file is no option, and not `--`
dash_word : (said : Said) (place : ℕ) (cs : List ℕ) → is_lone (rest_of (codes "-") (45 ∷ cs)) ≡ true → after_word Any said place (45 ∷ cs) ≡ with_file said place (45 ∷ cs)
dash_word said place [] lone = refl
dash_word said place (x ∷ xs) lone = absurd (let long : eqb (length (x ∷ xs)) 0 ≡ true = lone in grind (arith, nat_tests))

rest_off : (front : List ℕ) (c : ℕ) (cs : List ℕ) → eqb c 45 ≡ false → rest_of (45 ∷ front) (c ∷ cs) ≡ None
rest_off front c cs apart = rw apart refl

other_word : (said : Said) (place c : ℕ) (cs : List ℕ) → eqb c 45 ≡ false → after_word Any said place (c ∷ cs) ≡ with_file said place (c ∷ cs)
other_word said place c cs apart =
    let word = c ∷ cs in
    let no_dashes : bytes_eq word (codes "--") ≡ false = rw apart refl in
    let no_option : option_named word ≡ None = rw apart refl in
    let file : Option Said = cond (is_lone (rest_of (codes "-") word)) (with_file said place word) None in
    let silent = or_value said name.Silent (rest_of (front_of name.Silent) word) file in
    let replies = or_value said name.Replies (rest_of (front_of name.Replies) word) silent in
    ap (λ (b : Bool). cond b (Some (record said { part = Files })) (with_word said place word (option_named word))) no_dashes
    ∙ ap (with_word said place word) no_option
    ∙ ap (λ (r : Option (List ℕ)). or_value said name.Traffic r replies) (rest_off (codes "-traffic=") c cs apart)
    ∙ ap (λ (r : Option (List ℕ)). or_value said name.Replies r silent) (rest_off (codes "-replies=") c cs apart)
    ∙ ap (λ (r : Option (List ℕ)). or_value said name.Silent r file) (rest_off (codes "-silent=") c cs apart)
    ∙ ap (λ (r : Option (List ℕ)). cond (is_lone r) (with_file said place word) None) (rest_off [] c cs apart)

file_word : (said : Said) (place : ℕ) (word : List ℕ) → is_lone (rest_of (codes "-") word) ≡ true → after_word Any said place word ≡ with_file said place word
file_word said place [] lone = refl
file_word said place (c ∷ cs) lone = elim (cases_eq c 45) [
  | inl same ↦ subst (λ (d : ℕ). is_lone (rest_of (codes "-") (d ∷ cs)) ≡ true → after_word Any said place (d ∷ cs) ≡ with_file said place (d ∷ cs)) (sym same) (dash_word said place cs) lone
  | inr other ↦ other_word said place c cs (grind (arith, nat_tests))
]

-- an option in one word, and in two
joined_word : (said : Said) (place : ℕ) (option : Name) (value : List ℕ) → after_word Any said place (front_of option ++ value) ≡ with_value said option value
joined_word said place name.Traffic value = refl
joined_word said place name.Replies value = refl
joined_word said place name.Silent value = refl

is_word : (one other : List ℕ) → bytes_eq one other ≡ true → one ≡ other
is_word one other same = (bytes_eq-Decides one other).0 same

parted_word : (said : Said) (place : ℕ) (word : List ℕ) (option : Name) → option_named word ≡ Some option → after_word Any said place word ≡ Some (record said { part = Of option })
parted_word said place word option is =
    let no_dashes : bytes_eq word (codes "--") ≡ false = not_dashes (bytes_eq word (codes "--")) refl in
    rw no_dashes (ap (with_word said place word) is)
  where
    not_dashes : (b : Bool) → bytes_eq word (codes "--") ≡ b → b ≡ false
    not_dashes true same = absurd (none-some option (sym (ap option_named (is_word word (codes "--") same)) ∙ is))
    not_dashes false same = refl

-- a file
module _ (said : Said) (place : ℕ) (word : List ℕ) where
  abbrev pub filed : Said
  filed = record said { files = slice_set said.files said.count place; count = said.count + 1; standard = said.standard || is_standard word }

  file_taken : said.count < 5 → (said.standard && is_standard word) ≡ false → with_file said place word ≡ Some filed
  file_taken few one = let low : ltb said.count 5 ≡ true = grind (arith, nat_tests) in rw (low, one) refl

  file_given : (next : Said) → with_file said place word ≡ Some next → (said.count < 5) × ((said.standard && is_standard word) ≡ false) × (next ≡ filed)
  file_given next is =
      let (test, same) = if_some _ filed next is in
      let (low, one) = and_not (ltb said.count 5) (said.standard && is_standard word) test in
      (grind (arith, nat_tests), one, same)

-- a value
abbrev pub valued : Said → Name → List ℕ → Said
valued said name.Traffic value = record said { part = Any; traffic = traffic_named value }
valued said name.Replies value = record said { part = Any; replies = replies_named value }
valued said name.Silent value = record said { part = Any; silent = number_named value }

abbrev pub IsFresh : Said → Name → List ℕ → Type 0
IsFresh said name.Traffic value = (said.traffic ≡ None) × IsSome (traffic_named value)
IsFresh said name.Replies value = (said.replies ≡ None) × IsSome (replies_named value)
IsFresh said name.Silent value = (said.silent ≡ None) × IsSome (number_named value)

traffic_by : (said next : Said) (had value : Option Traffic) → with_traffic said had value ≡ Some next → (had ≡ None) × IsSome value × (next ≡ record said { part = Any; traffic = value })
traffic_by said next None (Some one) is = (refl, refl, sym (same_Some _ next is))
traffic_by said next None None is = absurd (none-some next is)
traffic_by said next (Some had) value is = absurd (none-some next is)

replies_by : (said next : Said) (had value : Option Bool) → with_replies said had value ≡ Some next → (had ≡ None) × IsSome value × (next ≡ record said { part = Any; replies = value })
replies_by said next None (Some one) is = (refl, refl, sym (same_Some _ next is))
replies_by said next None None is = absurd (none-some next is)
replies_by said next (Some had) value is = absurd (none-some next is)

silent_by : (said next : Said) (had value : Option ℕ) → with_silent said had value ≡ Some next → (had ≡ None) × IsSome value × (next ≡ record said { part = Any; silent = value })
silent_by said next None (Some one) is = (refl, refl, sym (same_Some _ next is))
silent_by said next None None is = absurd (none-some next is)
silent_by said next (Some had) value is = absurd (none-some next is)

value_given : (said next : Said) (option : Name) (value : List ℕ) → with_value said option value ≡ Some next → IsFresh said option value × (next ≡ valued said option value)
value_given said next name.Traffic value is = let by = traffic_by said next said.traffic (traffic_named value) is in ((by.0, by.1), by.2)
value_given said next name.Replies value is = let by = replies_by said next said.replies (replies_named value) is in ((by.0, by.1), by.2)
value_given said next name.Silent value is = let by = silent_by said next said.silent (number_named value) is in ((by.0, by.1), by.2)

by_traffic : (said : Said) (had value : Option Traffic) → had ≡ None → IsSome value → with_traffic said had value ≡ Some (record said { part = Any; traffic = value })
by_traffic said None (Some one) none some = refl
by_traffic said None None none some = absurd (cc)
by_traffic said (Some had) value none some = absurd (cc)

by_replies : (said : Said) (had value : Option Bool) → had ≡ None → IsSome value → with_replies said had value ≡ Some (record said { part = Any; replies = value })
by_replies said None (Some one) none some = refl
by_replies said None None none some = absurd (cc)
by_replies said (Some had) value none some = absurd (cc)

by_silent : (said : Said) (had value : Option ℕ) → had ≡ None → IsSome value → with_silent said had value ≡ Some (record said { part = Any; silent = value })
by_silent said None (Some one) none some = refl
by_silent said None None none some = absurd (cc)
by_silent said (Some had) value none some = absurd (cc)

pub value_taken : (said : Said) (option : Name) (value : List ℕ) → IsFresh said option value → with_value said option value ≡ Some (valued said option value)
value_taken said name.Traffic value fresh = by_traffic said said.traffic (traffic_named value) fresh.0 fresh.1
value_taken said name.Replies value fresh = by_replies said said.replies (replies_named value) fresh.0 fresh.1
value_taken said name.Silent value fresh = by_silent said said.silent (number_named value) fresh.0 fresh.1

-- what is said with values, each of an option that was not said before
abbrev pub Adds : {A : Type 0} → (List ℕ → Option A) → List (List ℕ) → (had got : Option A) → Type 0
Adds read [] had got = got ≡ had
Adds read (value ∷ rest) had got = (had ≡ None) × IsSome (read value) × Adds read rest (read value) got

-- places that are put, one after the other
abbrev pub put_places : (places : List ℕ) (count : ℕ) (files : List ℕ) → List ℕ
put_places [] count files = files
put_places (place ∷ rest) count files = put_places rest (count + 1) (slice_set files count place)

-- one file of a list at most is standard input, if one was before, or none
count_more : (word : List ℕ) (rest : List (List ℕ)) → count_by is_standard (word ∷ rest) ≡ cond (is_standard word) 1 0 + count_by is_standard rest
count_more word rest = sum_by-cons (λ (w : List ℕ). cond (is_standard w) 1 0) word rest

standard_on : (had here : Bool) (rest : ℕ) → (had && here) ≡ false → from_bool (had || here) + rest ≤ 1 → from_bool had + (cond here 1 0 + rest) ≤ 1
standard_on true true rest apart few = absurd (cc)
standard_on true false rest apart few = omega arith
standard_on false true rest apart few = omega arith
standard_on false false rest apart few = omega arith

standard_off : (had here : Bool) (rest : ℕ) → from_bool had + (cond here 1 0 + rest) ≤ 1 → ((had && here) ≡ false) × (from_bool (had || here) + rest ≤ 1)
standard_off true true rest few = absurd (omega arith)
standard_off true false rest few = (refl, omega arith)
standard_off false true rest few = (refl, omega arith)
standard_off false false rest few = (refl, omega arith)

standard_more : (had : Bool) (word : List ℕ) (rest : List (List ℕ)) → (had && is_standard word) ≡ false → from_bool (had || is_standard word) + count_by is_standard rest ≤ 1 → from_bool had + count_by is_standard (word ∷ rest) ≤ 1
standard_more had word rest apart few = subst (λ (n : ℕ). from_bool had + n ≤ 1) (sym (count_more word rest)) (standard_on had (is_standard word) (count_by is_standard rest) apart few)

standard_less : (had : Bool) (word : List ℕ) (rest : List (List ℕ)) → from_bool had + count_by is_standard (word ∷ rest) ≤ 1 → ((had && is_standard word) ≡ false) × (from_bool (had || is_standard word) + count_by is_standard rest ≤ 1)
standard_less had word rest few = standard_off had (is_standard word) (count_by is_standard rest) (subst (λ (n : ℕ). from_bool had + n ≤ 1) (count_more word rest) few)

one_bool : (b : Bool) → from_bool b ≤ 1
one_bool true = omega arith
one_bool false = omega arith

-- what files after `--` add to what is said
record AddLate (said : Said) (place : ℕ) (files : List (List ℕ)) (final : Said) : Type 0 where
  traffic : final.traffic ≡ said.traffic
  replies : final.replies ≡ said.replies
  silent : final.silent ≡ said.silent
  count : final.count ≡ said.count + length files
  few : final.count ≤ 5
  files_are : final.files ≡ put_places (places_from place files) said.count said.files
  standard : from_bool said.standard + count_by is_standard files ≤ 1
  is_late : final.late ≡ (said.late || is_some_file files)

late_read : (files : List (List ℕ)) (said final : Said) (place : ℕ) → said.part ≡ Files → said.count ≤ 5 → say said place files ≡ Some final → AddLate said place files final
late_read [] said final place part few says =
    let (ended, same) = if_some (is_ended said.part) said final says in
    let low = one_bool said.standard in
    subst (λ (f : Said). AddLate said place [] f) (sym same) (record {
      traffic = refl;
      replies = refl;
      silent = refl;
      count = omega arith;
      few = few;
      files_are = refl;
      standard = omega arith;
      is_late = sym (or_false said.late);
    })
late_read (word ∷ rest) said final place part few says =
    let late : Said = record said { late = true } in
    let here = ap (λ (p : Part). option_and_then (λ (s : Said). say s (place + 1) rest) (after_word p said place word)) (sym part) ∙ says in
    let (next, took, on) = bind_some (λ (s : Said). say s (place + 1) rest) (with_file late place word) final here in
    let (low, apart, same) = file_given late place word next took in
    let on_filed : say (filed late place word) (place + 1) rest ≡ Some final = subst (λ (s : Said). say s (place + 1) rest ≡ Some final) same on in
    let more = late_read rest (filed late place word) final (place + 1) part (omega arith) on_filed in
    record {
      traffic = more.traffic;
      replies = more.replies;
      silent = more.silent;
      count = (let count = more.count in omega arith);
      few = more.few;
      files_are = more.files_are;
      standard = standard_more said.standard word rest apart more.standard;
      is_late = more.is_late ∙ sym (or_true said.late);
    }

-- what words add to what is said, by their arguments
pub record Leads (said : Said) (place : ℕ) (words : List (List ℕ)) (final : Said) : Type 0 where
  pub arguments : List Argument
  pub late : Option (List (List ℕ))
  pub are : words ≡ all_words arguments ++ dashed late
  pub right : AreArguments arguments
  pub traffic : Adds traffic_named (values_in name.Traffic arguments) said.traffic final.traffic
  pub replies : Adds replies_named (values_in name.Replies arguments) said.replies final.replies
  pub silent : Adds number_named (values_in name.Silent arguments) said.silent final.silent
  pub count : final.count ≡ said.count + length (all_files arguments late)
  pub few : final.count ≤ 5
  pub files : final.files ≡ put_places (all_places place arguments late) said.count said.files
  pub standard : from_bool said.standard + count_by is_standard (all_files arguments late) ≤ 1
  pub is_late : final.late ≡ (said.late || is_some_file (unwrap_or late []))

-- none
none_lead : (said : Said) (place : ℕ) → said.count ≤ 5 → Leads said place [] said
none_lead said place few =
    let low = one_bool said.standard in
    record {
      arguments = [];
      late = None;
      are = refl;
      right = tt;
      traffic = refl;
      replies = refl;
      silent = refl;
      count = omega arith;
      few = few;
      files = refl;
      standard = omega arith;
      is_late = sym (or_false said.late);
    }

-- `--` and files
late_lead : (said final : Said) (place : ℕ) (files : List (List ℕ)) → AddLate (record said { part = Files }) (place + 1) files final → Leads said place (codes "--" ∷ files) final
late_lead said final place files more = record {
  arguments = [];
  late = Some files;
  are = refl;
  right = tt;
  traffic = more.traffic;
  replies = more.replies;
  silent = more.silent;
  count = more.count;
  few = more.few;
  files = more.files_are ∙ ap (λ (p : ℕ). put_places (places_from p files) said.count said.files) (let e : place + 1 ≡ place + 0 + 1 = omega arith in e);
  standard = more.standard;
  is_late = more.is_late;
}

-- a file, and more
file_lead : (said final : Said) (place : ℕ) (word : List ℕ) (rest : List (List ℕ)) → is_lone (rest_of (codes "-") word) ≡ true → (said.standard && is_standard word) ≡ false → Leads (filed said place word) (place + 1) rest final → Leads said place (word ∷ rest) final
file_lead said final place word rest lone apart more = record {
  arguments = File word ∷ more.arguments;
  late = more.late;
  are = ap (λ (ws : List (List ℕ)). word ∷ ws) more.are;
  right = (lone, more.right);
  traffic = more.traffic;
  replies = more.replies;
  silent = more.silent;
  count = (let count = more.count in omega arith);
  few = more.few;
  files = more.files ∙ ap (λ (p : ℕ). put_places (place ∷ places_in (place + 1) more.arguments ++ places_from p (unwrap_or more.late [])) said.count said.files) (omega arith);
  standard = standard_more said.standard word (all_files more.arguments more.late) apart more.standard;
  is_late = more.is_late;
}

-- an option is no file, and says its value alone
record IsOptionOf (argument : Argument) (option : Name) (value : List ℕ) (width : ℕ) : Type 0 where
  right : IsArgument argument
  wide : length (words_in argument) ≡ width
  no_file : (rest : List Argument) → files_in (argument ∷ rest) ≡ files_in rest
  no_place : (place : ℕ) (rest : List Argument) → places_in place (argument ∷ rest) ≡ places_in (place + width) rest
  says : (asked : Name) (rest : List Argument) → values_in asked (argument ∷ rest) ≡ cond (is_option asked option) (value ∷ values_in asked rest) (values_in asked rest)

joined_is : (option : Name) (value : List ℕ) → IsOptionOf (Joined option value) option value 1
joined_is option value = record { right = tt; wide = refl; no_file = λ rest. refl; no_place = λ place rest. refl; says = λ asked rest. refl }

parted_is : (word : List ℕ) (option : Name) (value : List ℕ) → option_named word ≡ Some option → IsOptionOf (Parted word option value) option value 2
parted_is word option value is = record { right = is; wide = refl; no_file = λ rest. refl; no_place = λ place rest. refl; says = λ asked rest. refl }

all_files_on : (argument : Argument) (option : Name) (value : List ℕ) (width : ℕ) → IsOptionOf argument option value width → (rest : List Argument) (late : Option (List (List ℕ))) → all_files (argument ∷ rest) late ≡ all_files rest late
all_files_on argument option value width is rest late = ap (λ (fs : List (List ℕ)). fs ++ unwrap_or late []) (is.no_file rest)

all_places_on : (argument : Argument) (option : Name) (value : List ℕ) (width : ℕ) → IsOptionOf argument option value width → (place : ℕ) (rest : List Argument) (late : Option (List (List ℕ))) → all_places place (argument ∷ rest) late ≡ all_places (place + width) rest late
all_places_on argument option value width is place rest late =
    let long : place + length (words_in argument ++ all_words rest) + 1 ≡ place + width + length (all_words rest) + 1 = omega (arith, is.wide, length-append (words_in argument) (all_words rest)) in
    ap (λ (ps : List ℕ). ps ++ places_from (place + length (words_in argument ++ all_words rest) + 1) (unwrap_or late [])) (is.no_place place rest)
    ∙ ap (λ (p : ℕ). places_in (place + width) rest ++ places_from p (unwrap_or late [])) long

option_lead : (said final : Said) (place width : ℕ) (argument : Argument) (option : Name) (value : List ℕ) (rest : List (List ℕ)) → IsOptionOf argument option value width → IsFresh said option value → Leads (valued said option value) (place + width) rest final → Leads said place (words_in argument ++ rest) final
option_lead said final place width argument name.Traffic value rest is fresh more = record {
  arguments = argument ∷ more.arguments;
  late = more.late;
  are = ap (λ (ws : List (List ℕ)). words_in argument ++ ws) more.are ∙ sym (append_assoc (words_in argument) (all_words more.arguments) (dashed more.late));
  right = (is.right, more.right);
  traffic = subst (λ (vs : List (List ℕ)). Adds traffic_named vs said.traffic final.traffic) (sym (is.says name.Traffic more.arguments)) (fresh.0, fresh.1, more.traffic);
  replies = subst (λ (vs : List (List ℕ)). Adds replies_named vs said.replies final.replies) (sym (is.says name.Replies more.arguments)) more.replies;
  silent = subst (λ (vs : List (List ℕ)). Adds number_named vs said.silent final.silent) (sym (is.says name.Silent more.arguments)) more.silent;
  count = more.count ∙ ap (λ (fs : List (List ℕ)). said.count + length fs) (sym (all_files_on argument name.Traffic value width is more.arguments more.late));
  few = more.few;
  files = more.files ∙ ap (λ (ps : List ℕ). put_places ps said.count said.files) (sym (all_places_on argument name.Traffic value width is place more.arguments more.late));
  standard = subst (λ (fs : List (List ℕ)). from_bool said.standard + count_by is_standard fs ≤ 1) (sym (all_files_on argument name.Traffic value width is more.arguments more.late)) more.standard;
  is_late = more.is_late;
}
option_lead said final place width argument name.Replies value rest is fresh more = record {
  arguments = argument ∷ more.arguments;
  late = more.late;
  are = ap (λ (ws : List (List ℕ)). words_in argument ++ ws) more.are ∙ sym (append_assoc (words_in argument) (all_words more.arguments) (dashed more.late));
  right = (is.right, more.right);
  traffic = subst (λ (vs : List (List ℕ)). Adds traffic_named vs said.traffic final.traffic) (sym (is.says name.Traffic more.arguments)) more.traffic;
  replies = subst (λ (vs : List (List ℕ)). Adds replies_named vs said.replies final.replies) (sym (is.says name.Replies more.arguments)) (fresh.0, fresh.1, more.replies);
  silent = subst (λ (vs : List (List ℕ)). Adds number_named vs said.silent final.silent) (sym (is.says name.Silent more.arguments)) more.silent;
  count = more.count ∙ ap (λ (fs : List (List ℕ)). said.count + length fs) (sym (all_files_on argument name.Replies value width is more.arguments more.late));
  few = more.few;
  files = more.files ∙ ap (λ (ps : List ℕ). put_places ps said.count said.files) (sym (all_places_on argument name.Replies value width is place more.arguments more.late));
  standard = subst (λ (fs : List (List ℕ)). from_bool said.standard + count_by is_standard fs ≤ 1) (sym (all_files_on argument name.Replies value width is more.arguments more.late)) more.standard;
  is_late = more.is_late;
}
option_lead said final place width argument name.Silent value rest is fresh more = record {
  arguments = argument ∷ more.arguments;
  late = more.late;
  are = ap (λ (ws : List (List ℕ)). words_in argument ++ ws) more.are ∙ sym (append_assoc (words_in argument) (all_words more.arguments) (dashed more.late));
  right = (is.right, more.right);
  traffic = subst (λ (vs : List (List ℕ)). Adds traffic_named vs said.traffic final.traffic) (sym (is.says name.Traffic more.arguments)) more.traffic;
  replies = subst (λ (vs : List (List ℕ)). Adds replies_named vs said.replies final.replies) (sym (is.says name.Replies more.arguments)) more.replies;
  silent = subst (λ (vs : List (List ℕ)). Adds number_named vs said.silent final.silent) (sym (is.says name.Silent more.arguments)) (fresh.0, fresh.1, more.silent);
  count = more.count ∙ ap (λ (fs : List (List ℕ)). said.count + length fs) (sym (all_files_on argument name.Silent value width is more.arguments more.late));
  few = more.few;
  files = more.files ∙ ap (λ (ps : List ℕ). put_places ps said.count said.files) (sym (all_places_on argument name.Silent value width is place more.arguments more.late));
  standard = subst (λ (fs : List (List ℕ)). from_bool said.standard + count_by is_standard fs ≤ 1) (sym (all_files_on argument name.Silent value width is more.arguments more.late)) more.standard;
  is_late = more.is_late;
}

valued_part : (said : Said) (option : Name) (value : List ℕ) → (valued said option value).part ≡ Any
valued_part said name.Traffic value = refl
valued_part said name.Replies value = refl
valued_part said name.Silent value = refl

valued_count : (said : Said) (option : Name) (value : List ℕ) → (valued said option value).count ≡ said.count
valued_count said name.Traffic value = refl
valued_count said name.Replies value = refl
valued_count said name.Silent value = refl

-- what stands in a word after a front
rest_given : (front word rest : List ℕ) → rest_of front word ≡ Some rest → word ≡ front ++ rest
rest_given front word rest is =
    let (test, same) = if_some (bytes_eq (take (length front) word) front) (drop (length front) word) rest is in
    let whole = take-append-drop (length front) word in
    sym whole ∙ ap (λ (f : List ℕ). f ++ drop (length front) word) (is_word (take (length front) word) front test) ∙ ap (λ (r : List ℕ). front ++ r) (sym same)

-- what a word may be: `--`, an option of which the value comes next, an option with its value, or a file
data Read (said : Said) (place : ℕ) (word : List ℕ) (next : Said) : Type 0 where
  dashes : word ≡ codes "--" → next ≡ record said { part = Files } → Read said place word next
  named : (option : Name) → option_named word ≡ Some option → next ≡ record said { part = Of option } → Read said place word next
  joined : (option : Name) (value : List ℕ) → word ≡ front_of option ++ value → with_value said option value ≡ Some next → Read said place word next
  file : is_lone (rest_of (codes "-") word) ≡ true → with_file said place word ≡ Some next → Read said place word next

module _ (said : Said) (place : ℕ) (word : List ℕ) (next : Said) where
  read_file : (b : Bool) → is_lone (rest_of (codes "-") word) ≡ b → cond b (with_file said place word) None ≡ Some next → Read said place word next
  read_file true lone is = file lone is
  read_file false lone is = absurd (none-some next is)

  read_front : (option : Name) (rest : Option (List ℕ)) (other : Option Said) → rest_of (front_of option) word ≡ rest → or_value said option rest other ≡ Some next → (other ≡ Some next → Read said place word next) → Read said place word next
  read_front option None other none is go = go is
  read_front option (Some value) other some is go = joined option value (rest_given (front_of option) word value some) is

  read_named : (option : Option Name) → option_named word ≡ option → with_word said place word option ≡ Some next → Read said place word next
  read_named (Some option) is took = named option is (sym (same_Some _ next took))
  read_named None is took =
      read_front name.Traffic (rest_of (front_of name.Traffic) word) _ refl took
      (λ on. read_front name.Replies (rest_of (front_of name.Replies) word) _ refl on
      (λ more. read_front name.Silent (rest_of (front_of name.Silent) word) _ refl more
      (λ last. read_file (is_lone (rest_of (codes "-") word)) refl last)))

  read_any : (b : Bool) → bytes_eq word (codes "--") ≡ b → cond b (Some (record said { part = Files })) (with_word said place word (option_named word)) ≡ Some next → Read said place word next
  read_any true same is = dashes (is_word word (codes "--") same) (sym (same_Some _ next is))
  read_any false same is = read_named (option_named word) refl is

-- where the value of an option is read
record ReadsValue (said : Said) (place : ℕ) (option : Name) (words : List (List ℕ)) (final : Said) : Type 0 where
  value : List ℕ
  rest : List (List ℕ)
  are : words ≡ value ∷ rest
  fresh : IsFresh said option value
  more : Leads (valued said option value) (place + 1) rest final

record Both (words : List (List ℕ)) : Type 0 where
  any : (said final : Said) (place : ℕ) → said.part ≡ Any → said.count ≤ 5 → say said place words ≡ Some final → Leads said place words final
  of : (said final : Said) (place : ℕ) (option : Name) → said.part ≡ Of option → said.count ≤ 5 → say said place words ≡ Some final → ReadsValue said place option words final

ended_of : (part : Part) (option : Name) → part ≡ Of option → is_ended part ≡ false
ended_of part option is = ap is_ended is

at_value : (said next final : Said) (place : ℕ) (option : Name) (value : List ℕ) (rest : List (List ℕ)) → Both rest → said.count ≤ 5 → with_value said option value ≡ Some next → say next (place + 1) rest ≡ Some final → IsFresh said option value × Leads (valued said option value) (place + 1) rest final
at_value said next final place option value rest both few took on =
    let (fresh, same) = value_given said next option value took in
    let on_valued : say (valued said option value) (place + 1) rest ≡ Some final = subst (λ (s : Said). say s (place + 1) rest ≡ Some final) same on in
    let low : (valued said option value).count ≤ 5 = (let e = valued_count said option value in omega arith) in
    (fresh, both.any (valued said option value) final (place + 1) (valued_part said option value) low on_valued)

on_word : (said next final : Said) (place : ℕ) (word : List ℕ) (rest : List (List ℕ)) → Both rest → said.part ≡ Any → said.count ≤ 5 → Read said place word next → say next (place + 1) rest ≡ Some final → Leads said place (word ∷ rest) final
on_word said next final place word rest both part few (dashes is same) on =
    let files : Said = record said { part = Files } in
    let on_files : say files (place + 1) rest ≡ Some final = subst (λ (s : Said). say s (place + 1) rest ≡ Some final) same on in
    subst (λ (w : List ℕ). Leads said place (w ∷ rest) final) (sym is) (late_lead said final place rest (late_read rest files final (place + 1) refl few on_files))
on_word said next final place word rest both part few (named option is same) on =
    let of : Said = record said { part = Of option } in
    let on_of : say of (place + 1) rest ≡ Some final = subst (λ (s : Said). say s (place + 1) rest ≡ Some final) same on in
    let reads = both.of of final (place + 1) option refl few on_of in
    let more = value_lead said final place word option is reads in
    subst (λ (ws : List (List ℕ)). Leads said place (word ∷ ws) final) (sym reads.are) more
  where
    value_lead : (said final : Said) (place : ℕ) (word : List ℕ) (option : Name) → option_named word ≡ Some option → (reads : ReadsValue (record said { part = Of option }) (place + 1) option rest final) → Leads said place (word ∷ reads.value ∷ reads.rest) final
    value_lead said final place word name.Traffic is reads = option_lead said final place 2 (Parted word name.Traffic reads.value) name.Traffic reads.value reads.rest (parted_is word name.Traffic reads.value is) reads.fresh (subst (λ (p : ℕ). Leads (valued said name.Traffic reads.value) p reads.rest final) (omega arith) reads.more)
    value_lead said final place word name.Replies is reads = option_lead said final place 2 (Parted word name.Replies reads.value) name.Replies reads.value reads.rest (parted_is word name.Replies reads.value is) reads.fresh (subst (λ (p : ℕ). Leads (valued said name.Replies reads.value) p reads.rest final) (omega arith) reads.more)
    value_lead said final place word name.Silent is reads = option_lead said final place 2 (Parted word name.Silent reads.value) name.Silent reads.value reads.rest (parted_is word name.Silent reads.value is) reads.fresh (subst (λ (p : ℕ). Leads (valued said name.Silent reads.value) p reads.rest final) (omega arith) reads.more)
on_word said next final place word rest both part few (joined option value is took) on =
    let (fresh, more) = at_value said next final place option value rest both few took on in
    subst (λ (w : List ℕ). Leads said place (w ∷ rest) final) (sym is) (option_lead said final place 1 (Joined option value) option value rest (joined_is option value) fresh more)
on_word said next final place word rest both part few (file lone took) on =
    let (low, apart, same) = file_given said place word next took in
    let on_filed : say (filed said place word) (place + 1) rest ≡ Some final = subst (λ (s : Said). say s (place + 1) rest ≡ Some final) same on in
    file_lead said final place word rest lone apart (both.any (filed said place word) final (place + 1) part (omega arith) on_filed)

all_lead : (words : List (List ℕ)) → Both words
all_lead [] = record {
  any = λ said final place part few says. (let by = if_some (is_ended said.part) said final says in subst (λ (f : Said). Leads said place [] f) (sym by.1) (none_lead said place few));
  of = λ said final place option part few says. (let by = if_some (is_ended said.part) said final says in absurd (let no_end = ended_of said.part option part in let end = by.0 in cc));
}
all_lead (word ∷ rest) = record {
  any = λ said final place part few says. (
      let here = ap (λ (p : Part). option_and_then (λ (s : Said). say s (place + 1) rest) (after_word p said place word)) (sym part) ∙ says in
      let by = bind_some (λ (s : Said). say s (place + 1) rest) (after_word Any said place word) final here in
      on_word said by.0 final place word rest (all_lead rest) part few (read_any said place word by.0 (bytes_eq word (codes "--")) refl by.1) by.2);
  of = λ said final place option part few says. (
      let here = ap (λ (p : Part). option_and_then (λ (s : Said). say s (place + 1) rest) (after_word p said place word)) (sym part) ∙ says in
      let by = bind_some (λ (s : Said). say s (place + 1) rest) (with_value said option word) final here in
      let at = at_value said by.0 final place option word rest (all_lead rest) few by.1 by.2 in
      record { value = word; rest = rest; are = refl; fresh = at.0; more = at.1 });
}

-- what words come to, by their arguments
record Comes (said : Said) (place : ℕ) (arguments : List Argument) (late : Option (List (List ℕ))) (traffic : Option Traffic) (replies : Option Bool) (silent : Option ℕ) : Type 0 where
  final : Said
  says : say said place (all_words arguments ++ dashed late) ≡ Some final
  traffic_is : final.traffic ≡ traffic
  replies_is : final.replies ≡ replies
  silent_is : final.silent ≡ silent
  count : final.count ≡ said.count + length (all_files arguments late)
  files : final.files ≡ put_places (all_places place arguments late) said.count said.files
  is_late : final.late ≡ (said.late || is_some_file (unwrap_or late []))

record LateComes (said : Said) (place : ℕ) (files : List (List ℕ)) : Type 0 where
  final : Said
  says : say said place files ≡ Some final
  add : AddLate said place files final

on_part : (said : Said) (part : Part) (place : ℕ) (word : List ℕ) (rest : List (List ℕ)) (next last : Said) → said.part ≡ part → after_word part said place word ≡ Some next → say next (place + 1) rest ≡ Some last → say said place (word ∷ rest) ≡ Some last
on_part said part place word rest next last is took on =
    ap (λ (p : Part). option_and_then (λ (s : Said). say s (place + 1) rest) (after_word p said place word)) is
    ∙ ap (option_and_then (λ (s : Said). say s (place + 1) rest)) took ∙ on

late_come : (files : List (List ℕ)) (said : Said) (place : ℕ) → said.part ≡ Files → said.count + length files ≤ 5 → from_bool said.standard + count_by is_standard files ≤ 1 → LateComes said place files
late_come [] said place part few one =
    let ended : say said place [] ≡ Some said = ap (λ (p : Part). cond (is_ended p) (Some said) None) part in
    record { final = said; says = ended; add = late_read [] said said place part (omega arith) ended }
late_come (word ∷ rest) said place part few one =
    let late : Said = record said { late = true } in
    let (apart, less) = standard_less said.standard word rest one in
    let next = filed late place word in
    let more = late_come rest next (place + 1) part (omega arith) less in
    let says = on_part said Files place word rest next more.final part (file_taken late place word (omega arith) apart) more.says in
    record { final = more.final; says = says; add = late_read (word ∷ rest) said more.final place part (omega arith) says }

option_come : (said : Said) (place width : ℕ) (argument : Argument) (option : Name) (value : List ℕ) (rest : List Argument) (late : Option (List (List ℕ))) (traffic : Option Traffic) (replies : Option Bool) (silent : Option ℕ) → IsOptionOf argument option value width → (next : Said) → next.count ≡ said.count → next.files ≡ said.files → next.late ≡ said.late → (more : Comes next (place + width) rest late traffic replies silent) → say said place (all_words (argument ∷ rest) ++ dashed late) ≡ Some more.final → Comes said place (argument ∷ rest) late traffic replies silent
option_come said place width argument option value rest late traffic replies silent is next same_count same_files same_late more says = record {
  final = more.final;
  says = says;
  traffic_is = more.traffic_is;
  replies_is = more.replies_is;
  silent_is = more.silent_is;
  count = more.count ∙ ap (λ (n : ℕ). n + length (all_files rest late)) same_count ∙ ap (λ (fs : List (List ℕ)). said.count + length fs) (sym (all_files_on argument option value width is rest late));
  files = more.files ∙ ap (λ (n : ℕ). put_places (all_places (place + width) rest late) n next.files) same_count ∙ ap (put_places (all_places (place + width) rest late) said.count) same_files ∙ ap (λ (ps : List ℕ). put_places ps said.count said.files) (sym (all_places_on argument option value width is place rest late));
  is_late = more.is_late ∙ ap (λ (b : Bool). b || is_some_file (unwrap_or late [])) same_late;
}

-- of arguments that may be said after what is said
record MaySay (said : Said) (arguments : List Argument) (late : Option (List (List ℕ))) (traffic : Option Traffic) (replies : Option Bool) (silent : Option ℕ) : Type 0 where
  right : AreArguments arguments
  traffic_adds : Adds traffic_named (values_in name.Traffic arguments) said.traffic traffic
  replies_add : Adds replies_named (values_in name.Replies arguments) said.replies replies
  silent_adds : Adds number_named (values_in name.Silent arguments) said.silent silent
  few : said.count + length (all_files arguments late) ≤ 5
  one : from_bool said.standard + count_by is_standard (all_files arguments late) ≤ 1

value_may : (said : Said) (argument : Argument) (option : Name) (value : List ℕ) (width : ℕ) (rest : List Argument) (late : Option (List (List ℕ))) (traffic : Option Traffic) (replies : Option Bool) (silent : Option ℕ) → IsOptionOf argument option value width → MaySay said (argument ∷ rest) late traffic replies silent → IsFresh said option value × MaySay (valued said option value) rest late traffic replies silent
value_may said argument name.Traffic value width rest late traffic replies silent is may =
    let adds = subst (λ (vs : List (List ℕ)). Adds traffic_named vs said.traffic traffic) (is.says name.Traffic rest) may.traffic_adds in (
      (adds.0, adds.1),
      record {
        right = may.right.1;
        traffic_adds = adds.2;
        replies_add = subst (λ (vs : List (List ℕ)). Adds replies_named vs said.replies replies) (is.says name.Replies rest) may.replies_add;
        silent_adds = subst (λ (vs : List (List ℕ)). Adds number_named vs said.silent silent) (is.says name.Silent rest) may.silent_adds;
        few = subst (λ (fs : List (List ℕ)). said.count + length fs ≤ 5) (all_files_on argument name.Traffic value width is rest late) may.few;
        one = subst (λ (fs : List (List ℕ)). from_bool said.standard + count_by is_standard fs ≤ 1) (all_files_on argument name.Traffic value width is rest late) may.one;
      },
    )
value_may said argument name.Replies value width rest late traffic replies silent is may =
    let adds = subst (λ (vs : List (List ℕ)). Adds replies_named vs said.replies replies) (is.says name.Replies rest) may.replies_add in (
      (adds.0, adds.1),
      record {
        right = may.right.1;
        traffic_adds = subst (λ (vs : List (List ℕ)). Adds traffic_named vs said.traffic traffic) (is.says name.Traffic rest) may.traffic_adds;
        replies_add = adds.2;
        silent_adds = subst (λ (vs : List (List ℕ)). Adds number_named vs said.silent silent) (is.says name.Silent rest) may.silent_adds;
        few = subst (λ (fs : List (List ℕ)). said.count + length fs ≤ 5) (all_files_on argument name.Replies value width is rest late) may.few;
        one = subst (λ (fs : List (List ℕ)). from_bool said.standard + count_by is_standard fs ≤ 1) (all_files_on argument name.Replies value width is rest late) may.one;
      },
    )
value_may said argument name.Silent value width rest late traffic replies silent is may =
    let adds = subst (λ (vs : List (List ℕ)). Adds number_named vs said.silent silent) (is.says name.Silent rest) may.silent_adds in (
      (adds.0, adds.1),
      record {
        right = may.right.1;
        traffic_adds = subst (λ (vs : List (List ℕ)). Adds traffic_named vs said.traffic traffic) (is.says name.Traffic rest) may.traffic_adds;
        replies_add = subst (λ (vs : List (List ℕ)). Adds replies_named vs said.replies replies) (is.says name.Replies rest) may.replies_add;
        silent_adds = adds.2;
        few = subst (λ (fs : List (List ℕ)). said.count + length fs ≤ 5) (all_files_on argument name.Silent value width is rest late) may.few;
        one = subst (λ (fs : List (List ℕ)). from_bool said.standard + count_by is_standard fs ≤ 1) (all_files_on argument name.Silent value width is rest late) may.one;
      },
    )

valued_files : (said : Said) (option : Name) (value : List ℕ) → (valued said option value).files ≡ said.files
valued_files said name.Traffic value = refl
valued_files said name.Replies value = refl
valued_files said name.Silent value = refl

valued_late : (said : Said) (option : Name) (value : List ℕ) → (valued said option value).late ≡ said.late
valued_late said name.Traffic value = refl
valued_late said name.Replies value = refl
valued_late said name.Silent value = refl

value_of : (said : Said) (option : Name) (value : List ℕ) → IsFresh said option value → with_value (record said { part = Of option }) option value ≡ Some (valued said option value)
value_of said name.Traffic value fresh = value_taken (record said { part = Of name.Traffic }) name.Traffic value fresh
value_of said name.Replies value fresh = value_taken (record said { part = Of name.Replies }) name.Replies value fresh
value_of said name.Silent value fresh = value_taken (record said { part = Of name.Silent }) name.Silent value fresh

all_come : (arguments : List Argument) (late : Option (List (List ℕ))) (said : Said) (place : ℕ) (traffic : Option Traffic) (replies : Option Bool) (silent : Option ℕ) → said.part ≡ Any → MaySay said arguments late traffic replies silent → Comes said place arguments late traffic replies silent
all_come [] None said place traffic replies silent part may = record {
  final = said;
  says = ap (λ (p : Part). cond (is_ended p) (Some said) None) part;
  traffic_is = sym may.traffic_adds;
  replies_is = sym may.replies_add;
  silent_is = sym may.silent_adds;
  count = omega arith;
  files = refl;
  is_late = sym (or_false said.late);
}
all_come [] (Some files) said place traffic replies silent part may =
    let next : Said = record said { part = Files } in
    let more = late_come files next (place + 1) refl may.few may.one in
    record {
      final = more.final;
      says = on_part said Any place (codes "--") files next more.final part refl more.says;
      traffic_is = more.add.traffic ∙ sym may.traffic_adds;
      replies_is = more.add.replies ∙ sym may.replies_add;
      silent_is = more.add.silent ∙ sym may.silent_adds;
      count = more.add.count;
      files = more.add.files_are ∙ ap (λ (p : ℕ). put_places (places_from p files) said.count said.files) (let e : place + 1 ≡ place + 0 + 1 = omega arith in e);
      is_late = more.add.is_late;
    }
all_come (File word ∷ rest) late said place traffic replies silent part may =
    let (apart, less) = standard_less said.standard word (all_files rest late) may.one in
    let next = filed said place word in
    let low : next.count + length (all_files rest late) ≤ 5 = (let few = may.few in omega arith) in
    let more = all_come rest late next (place + 1) traffic replies silent part (record { right = may.right.1; traffic_adds = may.traffic_adds; replies_add = may.replies_add; silent_adds = may.silent_adds; few = low; one = less }) in
    let took = file_word said place word may.right.0 ∙ file_taken said place word (omega arith) apart in
    record {
      final = more.final;
      says = on_part said Any place word (all_words rest ++ dashed late) next more.final part took more.says;
      traffic_is = more.traffic_is;
      replies_is = more.replies_is;
      silent_is = more.silent_is;
      count = (let count = more.count in omega arith);
      files = more.files ∙ ap (λ (p : ℕ). put_places (place ∷ places_in (place + 1) rest ++ places_from p (unwrap_or late [])) said.count said.files) (omega arith);
      is_late = more.is_late;
    }
all_come (Joined option value ∷ rest) late said place traffic replies silent part may =
    let is = joined_is option value in
    let (fresh, after) = value_may said (Joined option value) option value 1 rest late traffic replies silent is may in
    let next = valued said option value in
    let more = all_come rest late next (place + 1) traffic replies silent (valued_part said option value) after in
    option_come said place 1 (Joined option value) option value rest late traffic replies silent is next (valued_count said option value) (valued_files said option value) (valued_late said option value) more
    (on_part said Any place (front_of option ++ value) (all_words rest ++ dashed late) next more.final part (joined_word said place option value ∙ value_taken said option value fresh) more.says)
all_come (Parted word option value ∷ rest) late said place traffic replies silent part may =
    let is = parted_is word option value may.right.0 in
    let (fresh, after) = value_may said (Parted word option value) option value 2 rest late traffic replies silent is may in
    let next = valued said option value in
    let of : Said = record said { part = Of option } in
    let here : place + 1 + 1 ≡ place + 2 = omega arith in
    let more = all_come rest late next (place + 2) traffic replies silent (valued_part said option value) after in
    let on : say next (place + 1 + 1) (all_words rest ++ dashed late) ≡ Some more.final = subst (λ (p : ℕ). say next p (all_words rest ++ dashed late) ≡ Some more.final) (sym here) more.says in
    option_come said place 2 (Parted word option value) option value rest late traffic replies silent is next (valued_count said option value) (valued_files said option value) (valued_late said option value) more
    (on_part said Any place word (value ∷ all_words rest ++ dashed late) of more.final part (parted_word said place word option may.right.0)
    (on_part of (Of option) (place + 1) value (all_words rest ++ dashed late) next more.final refl (value_of said option value fresh) on))

-- an option that is said once at most
said_once : {A : Type 0} (read : List ℕ → Option A) (values : List (List ℕ)) (got : Option A) → Adds read values None got → IsSaidBy read values got
said_once read [] got adds = adds
said_once {A = A} read (value ∷ []) got adds = let some = adds.1 in (adds.2, subst (λ (o : Option A). IsSome o) (sym adds.2) some)
said_once read (value ∷ other ∷ rest) got adds = absurd (let some = adds.1 in let none = adds.2.0 in cc)

once_said : {A : Type 0} (read : List ℕ → Option A) (values : List (List ℕ)) (got : Option A) → IsSaidBy read values got → Adds read values None got
once_said read [] got is = is
once_said {A = A} read (value ∷ []) got is = (refl, subst (λ (o : Option A). IsSome o) is.0 is.1, is.0)
once_said read (value ∷ other ∷ rest) got is = absurd is

-- the places of five files at most
put_zero : (places : List ℕ) → length places ≤ 5 → put_places places 0 (0 ∷ 0 ∷ 0 ∷ 0 ∷ 0 ∷ []) ≡ take 5 (places ++ (0 ∷ 0 ∷ 0 ∷ 0 ∷ 0 ∷ []))
put_zero [] few = refl
put_zero (a ∷ []) few = refl
put_zero (a ∷ b ∷ []) few = refl
put_zero (a ∷ b ∷ c ∷ []) few = refl
put_zero (a ∷ b ∷ c ∷ d ∷ []) few = refl
put_zero (a ∷ b ∷ c ∷ d ∷ e ∷ []) few = refl
put_zero (a ∷ b ∷ c ∷ d ∷ e ∷ f ∷ rest) few = absurd (omega arith)

places_as_files : (arguments : List Argument) (place : ℕ) → length (places_in place arguments) ≡ length (files_in arguments)
places_as_files [] place = refl
places_as_files (File word ∷ rest) place = ap (λ (n : ℕ). suc n) (places_as_files rest (place + 1))
places_as_files (Joined option value ∷ rest) place = places_as_files rest (place + 1)
places_as_files (Parted word option value ∷ rest) place = places_as_files rest (place + 2)

places_as_words : (words : List (List ℕ)) (place : ℕ) → length (places_from place words) ≡ length words
places_as_words [] place = refl
places_as_words (word ∷ rest) place = ap (λ (n : ℕ). suc n) (places_as_words rest (place + 1))

pub as_many : (arguments : List Argument) (late : Option (List (List ℕ))) (place : ℕ) → length (all_places place arguments late) ≡ length (all_files arguments late)
as_many arguments late place =
    let after = place + length (all_words arguments) + 1 in
    let files = unwrap_or late [] in
    omega (arith, length-append (places_in place arguments) (places_from after files), length-append (files_in arguments) files, places_as_files arguments place, places_as_words files after)

few_places : (arguments : List Argument) (late : Option (List (List ℕ))) (place : ℕ) → length (all_files arguments late) ≤ 5 → length (all_places place arguments late) ≤ 5
few_places arguments late place few = omega (arith, as_many arguments late place)

-- what is read of words is what they say
pub sound : (words : List (List ℕ)) (said : Said) → say nothing_said 1 words ≡ Some said → AreSaid words said
sound words said says =
    let lead = (all_lead words).any nothing_said said 1 refl (omega arith) says in
    let count : said.count ≡ length (all_files lead.arguments lead.late) = (let c = lead.count in omega arith) in
    record {
      arguments = lead.arguments;
      late = lead.late;
      are = lead.are;
      right = lead.right;
      traffic = said_once traffic_named (values_in name.Traffic lead.arguments) said.traffic lead.traffic;
      replies = said_once replies_named (values_in name.Replies lead.arguments) said.replies lead.replies;
      silent = said_once number_named (values_in name.Silent lead.arguments) said.silent lead.silent;
      count = count;
      few = lead.few;
      files = lead.files ∙ put_zero (all_places 1 lead.arguments lead.late) (few_places lead.arguments lead.late 1 (let few = lead.few in omega arith));
      standard = (let one = lead.standard in omega arith);
      is_late = lead.is_late;
    }

-- .. but for the part in which the next word stands, and whether some file is standard input
abbrev pub bare : Said → Said
bare said = record said { part = Any; standard = false }

same_bare : (one other : Said) → one.traffic ≡ other.traffic → one.replies ≡ other.replies → one.silent ≡ other.silent → one.files ≡ other.files → one.count ≡ other.count → one.late ≡ other.late → bare one ≡ bare other
same_bare one other traffic replies silent files count late =
    ap (λ (t : Option Traffic). let s : Said = record (bare one) { traffic = t } in s) traffic
    ∙ ap (λ (r : Option Bool). let s : Said = record (bare one) { traffic = other.traffic; replies = r } in s) replies
    ∙ ap (λ (l : Option ℕ). let s : Said = record (bare one) { traffic = other.traffic; replies = other.replies; silent = l } in s) silent
    ∙ ap (λ (fs : List ℕ). let s : Said = record (bare one) { traffic = other.traffic; replies = other.replies; silent = other.silent; files = fs } in s) files
    ∙ ap (λ (n : ℕ). let s : Said = record (bare one) { traffic = other.traffic; replies = other.replies; silent = other.silent; files = other.files; count = n } in s) count
    ∙ ap (λ (b : Bool). let s : Said = record (bare other) { late = b } in s) late

pub complete : (words : List (List ℕ)) (said : Said) → AreSaid words said → (final : Said) × (say nothing_said 1 words ≡ Some final) × (bare final ≡ bare said)
complete words said is =
    let few : length (all_files is.arguments is.late) ≤ 5 = (let count = is.count in let few = is.few in omega arith) in
    let may : MaySay nothing_said is.arguments is.late said.traffic said.replies said.silent = record {
      right = is.right;
      traffic_adds = once_said traffic_named (values_in name.Traffic is.arguments) said.traffic is.traffic;
      replies_add = once_said replies_named (values_in name.Replies is.arguments) said.replies is.replies;
      silent_adds = once_said number_named (values_in name.Silent is.arguments) said.silent is.silent;
      few = omega arith;
      one = (let one = is.standard in omega arith);
    } in
    let come = all_come is.arguments is.late nothing_said 1 said.traffic said.replies said.silent refl may in
    let files = come.files ∙ put_zero (all_places 1 is.arguments is.late) (few_places is.arguments is.late 1 few) ∙ sym is.files in
    let count : come.final.count ≡ said.count = (let c = come.count in let d = is.count in omega arith) in (
      come.final,
      ap (say nothing_said 1) is.are ∙ come.says,
      same_bare come.final said come.traffic_is come.replies_is come.silent_is files count (come.is_late ∙ sym is.is_late),
    )

-- words say one thing
pub one_said : (words : List (List ℕ)) (one other : Said) → AreSaid words one → AreSaid words other → bare one ≡ bare other
one_said words one other is too =
    let (first, says, same) = complete words one is in
    let (second, says_too, also) = complete words other too in
    sym same ∙ ap bare (same_Some first second (sym says ∙ says_too)) ∙ also
