use Rattle.std.proofs.Common.{◌∙◌, ap, ℕ, List, [], ◌∷◌, ◌++◌}
use Rattle.table_script.proofs.ShortPairs.{one_port}
use Rattle.table_script.proofs.table_form.one_exit.Goals as goal

pub returns : goal.returns
returns c =
    let d = c.in_ok-port.ensures in
    let p = one_port c.args.c c.in_ok-port.port d.0 d.1 d.2 d.3 in
    (p.0, c.push.ensures ∙ ap (λ (es : List ℕ). es ++ c.in_ok-port.port ∷ []) c.new-exits.ensures ∙ p.1)
