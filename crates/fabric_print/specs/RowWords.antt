-- The words of a row, as the program prints them.

use Rattle.std.specs.Prelude.{ℕ, List}
use Rattle.std.specs.Fmt.{decimal}
use Rattle.fabric_print.specs.declared.row.RowWord.{RowWord}
use Rattle.fabric_print.specs.declared.row.RowWord.TheVariants.{Text, Number, Guid, Quoted, Closed, Label, Loop, OnLane}
use Rattle.fabric_print.specs.Answers.{guid_word}
use Rattle.fabric_print.specs.Pictures.{closed_word, label_word, lane_label, loop_word, switch_word}

-- the bytes of a word
abbrev pub word_text : RowWord → List ℕ
word_text (Text bytes) = bytes.now
word_text (Number number) = decimal number
word_text (Guid guid) = guid_word guid
word_text (Quoted guid) = switch_word guid
word_text (Closed guid) = closed_word guid
word_text (Label name) = label_word name.now
word_text (Loop many) = loop_word many
word_text (OnLane lane level) = lane_label lane level
