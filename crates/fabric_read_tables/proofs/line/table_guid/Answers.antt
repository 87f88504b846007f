use Rattle.std.proofs.Common.{◌∙◌, sym, ap, take}
use Rattle.std.specs.Option.{option_and_then}
use Rattle.fabric_words.specs.Digits.{guid}
use Rattle.fabric_read_tables.proofs.SaidLemmas.{front_of}
use Rattle.fabric_read_tables.proofs.line.table_guid.Goals as goal

pub returns : goal.returns
returns c = c.guid.ensures ∙ ap guid (front_of c.in_ok-_front.rest.now c.min.result c.min.ensures) ∙ sym (ap (option_and_then (λ parts. guid (take 16 parts.1))) c.in_ok-_front.ensures)
