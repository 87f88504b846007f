use Rattle.std.proofs.Common.{◌≡◌, false, take}
use Rattle.switch_numbering.specs.Numbering.{is_proposed, proposals}
use Rattle.switch_numbering.proofs.numbering.is_proposed_by.Given as goal

-- none of the entries so far proposes the number
abbrev pub invariant-entries : goal.invariant-entries
invariant-entries l = is_proposed (proposals (take l.entry-index l.entries)) l.number ≡ false
