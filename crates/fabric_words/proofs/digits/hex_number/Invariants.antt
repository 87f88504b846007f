use Rattle.std.proofs.Common.{◌≡◌, ◌<◌, ◌^◌, take, true}
use Rattle.std.specs.List.{list_all}
use Rattle.std.specs.Char.{is_digit}
use Rattle.std.specs.Str.Parse.{digits_value}
use Rattle.fabric_words.proofs.digits.hex_number.Given as goal

-- the bytes so far are digits, and the number is what they say
abbrev pub invariant-digits : goal.invariant-digits
invariant-digits l = record { digits : list_all (λ c. is_digit c 16) (take l.c-index l.word) ≡ true; says : l.number ≡ digits_value 16 (take l.c-index l.word); below : l.number < 16 ^ l.c-index }
