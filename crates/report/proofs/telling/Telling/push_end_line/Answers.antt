use Rattle.std.proofs.Common.{◌++◌, ◌∷◌, [], codes}
use Rattle.report.specs.Events.{ending_words, line_of_end, place_words, spaced}
use Rattle.report.proofs.ToldTexts.{goes_on, three_pieces}
use Rattle.report.proofs.telling.Telling.push_end_line.Goals as goal

pub returns : goal.returns
unfolding line_of_end
returns c =
    let words = ending_words c.args.self.now.script.now c.args.end.now in
    let place = place_words c.args.self.now.course in
    let both = goes_on _ _ _ words place c.in_ok-push_ending.ensures c.in_ok-push_place.ensures in
    three_pieces c.args.text.now.items _ _ _ (codes "end") (spaced (words ++ place)) (10 ∷ []) c.in_ok-extend_from_slice.ensures.items both c.in_ok-push.ensures.items
