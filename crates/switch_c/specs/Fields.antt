-- Each byte of each field is the index of the field in its struct, from 1.

use Rattle.std.specs.Prelude.{ℕ, ◌*◌}
use Rattle.switch_c.specs.declared.shown.Shown.{Shown}
use Rattle.switch_c.specs.declared.shown.PortShown.{PortShown}
use Rattle.switch_c.specs.declared.shown.RowShown.{RowShown}
use Rattle.switch_c.specs.declared.shown.MemberShown.{MemberShown}
use Rattle.switch_c.specs.declared.shown.FrameShown.{FrameShown}

-- the number with eight, with four and with two bytes of this value
abbrev pub eight : ℕ → ℕ
eight byte = byte * 72340172838076673

abbrev pub four : ℕ → ℕ
four byte = byte * 16843009

abbrev pub two : ℕ → ℕ
two byte = byte * 257

abbrev pub shown_fields : Shown
shown_fields = record {
  epoch = eight 1;
  table_epoch = eight 2;
  works = eight 3;
  carried = four 4;
  members = four 5;
  number = 6;
  load_due = 7;
  unacked = 8;
  spent = 9;
  noframe = 10;
  lost = 11;
}

abbrev pub port_fields : PortShown
port_fields = record { uid = eight 1; boot = four 2; port = 3; state = 4 }

abbrev pub row_fields : RowShown
row_fields = record { exits = two 1; entry = 2; to = 3 }

abbrev pub member_fields : MemberShown
member_fields = record { uid = eight 1; boot = four 2; number = 3 }

abbrev pub frame_fields : FrameShown
frame_fields = record { length = eight 1; port = 2 }
