use Rattle.std.proofs.Common.{◌≡◌, ap, ℕ, List, [], ◌∷◌, arith, codes}
use Rattle.std.proofs.lemmas.Slice.Eq.{text_from_reads}
use Rattle.net_script.proofs.form.limit_of.Goals as goal

pub returns-in-events-clause-some : goal.returns-in-events-clause-some
returns-in-events-clause-some c = ap (λ (w : List ℕ). codes "limit" ∷ w ∷ []) (text_from_reads c.args.word.now (codes "events") (omega arith) (omega arith, (omega arith, (omega arith, (omega arith, (omega arith, (omega arith, tt)))))))

pub returns-in-blocks-clause-some : goal.returns-in-blocks-clause-some
returns-in-blocks-clause-some c = ap (λ (w : List ℕ). codes "limit" ∷ w ∷ []) (text_from_reads c.args.word.now (codes "blocks") (omega arith) (omega arith, (omega arith, (omega arith, (omega arith, (omega arith, (omega arith, tt)))))))
