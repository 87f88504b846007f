use Rattle.std.proofs.Common.{◌≡◌, ◌<◌, ◌^◌, take, true}
use Rattle.std.specs.List.{list_all}
use Rattle.std.specs.Char.{is_digit}
use Rattle.std.specs.Str.Parse.{digits_value}
use Rattle.net_names.proofs.word.uid_of.Given as goal

-- the bytes so far are digits, and the identifier is what they say
abbrev pub invariant-digits : goal.invariant-digits
invariant-digits l = record { digits : list_all (λ c. is_digit c 16) (take l.c-index l.word) ≡ true; says : l.uid ≡ digits_value 16 (take l.c-index l.word); below : l.uid < 16 ^ l.c-index }
