use Rattle.std.proofs.Common.{◌≡◌, length, arith, subst, sym}
use Rattle.an_base.specs.Numbers.{AreNumbers}
use Rattle.frame_codec.specs.Frames.{IsWithin}
use Rattle.frame_codec.proofs.Turns.{numbers_hold}
use Rattle.frame_codec.proofs.reader.Reader.numbers.Goals as goal

pub new-requires : goal.new-requires
new-requires c =
    let front = c.split_at.result.0.now in
    let long : length front ≡ c.args.count = omega (arith, c.split_at.ensures.front_len) in
    subst AreNumbers (sym c.in_ok-from_slice.ensures.items) (numbers_hold front (subst (IsWithin 1 126) (sym long) c.requires) (sym c.if-not-are_numbers.ensures))
