use Rattle.std.proofs.Common.{◌∙◌, ap, map, List, ℕ, Bor, ◌++◌}
use Rattle.journal.specs.Words.{words_of}
use Rattle.journal.proofs.LineLemmas.{cut_more, cut_all}
use Rattle.journal.proofs.line.set_words.Goals as goal

pub words-init : goal.words-init
words-init c = ap (λ (ws : List (Bor (List ℕ))). map (λ w. w.now) ws ++ words_of c.args.line.now) c.clear.ensures.items

pub words-preserved : goal.words-preserved
words-preserved c = ap (λ (ws : List (Bor (List ℕ))). map (λ w. w.now) ws ++ words_of c.in-Some.after.now) c.in_ok-push.ensures.items
    ∙ cut_more c.words.words.items c.in-Some.word (words_of c.args.line.now) (words_of c.words.rest.now) (words_of c.in-Some.after.now) c.words.invariant c.in-Some.ensures.some

pub returns : goal.returns
returns c = ap (λ (ws : List (Bor (List ℕ))). map (λ w. w.now) ws) c.in_ok-push-2.ensures.items
    ∙ cut_all c.words.words.items c.words.rest (words_of c.args.line.now) (words_of c.words.rest.now) c.words.invariant c.in_default.ensures.none
