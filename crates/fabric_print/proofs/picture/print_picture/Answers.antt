use Rattle.std.proofs.Common.{arith}
use Rattle.std.proofs.lemmas.Result.{IfOk-weaker}
use Rattle.fabric_print.proofs.PictureLemmas.{picture_by}
use Rattle.fabric_print.proofs.picture.print_picture.Goals as goal

pub returns : goal.returns
returns c = IfOk-weaker c.print_picture_by.result _ _ (λ text. picture_by c.args.picture.now c.as_bytes.result.now c.len.result c.deref.result.now c.deref-2.result.now text.items c.as_bytes.ensures.value (omega (arith, c.len.ensures, c.args.picture.now.arrows.ok.0)) c.deref.ensures.value c.deref-2.ensures.value) c.print_picture_by.ensures
