use Rattle.std.proofs.Common.{map}
use Rattle.std.proofs.lemmas.Result.{on_ok_weaker}
use Rattle.fabric_print.specs.RowWords.{word_text}
use Rattle.fabric_print.proofs.PictureLemmas.{picture_is}
use Rattle.fabric_print.proofs.picture.push_picture.Goals as goal

pub returns : goal.returns
returns g c = on_ok_weaker c.push_row-3.result (picture_is g.T.HasRow.words (map word_text c.args.title.now) c.args.names.now c.args.channels.now c.args.text.now.items c.push_row.new.text.items c.push_row-2.new.text.items c.push_style.new.text.items c.push_switches.new.text.items c.push_rows.new.text.items c.push_row-3.new.text.items
    c.in_ok-push_row.ensures c.in_ok-push_row-2.ensures c.in_ok-push_style.ensures c.in_ok-push_switches.ensures c.in_ok-push_rows.ensures) c.push_row-3.ensures
