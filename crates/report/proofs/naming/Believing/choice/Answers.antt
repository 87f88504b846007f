use Rattle.std.proofs.Common.{◌≡◌, ◌∙◌, ◌≤◌, [], sym, ap, subst, ℕ, List, get_or}
use Rattle.std.specs.Prelude.{All}
use Rattle.std.proofs.lemmas.List.{get_or_read}
use Rattle.host_names.specs.Caches.{ArrivalOf}
use Rattle.report.proofs.naming.Believing.choice.Goals as goal

-- all that came to the host came until now
pub choose-requires : goal.choose-requires
choose-requires c =
    let caches = c.args.self.now.caches.items in
    let kept = c.index.result.now in
    let here : kept ≡ get_or caches c.args.from kept = c.index.ensures ∙ ap (λ (k : ℕ). get_or caches k kept) c.from.ensures in
    let read : kept ≡ get_or caches c.args.from [] = get_or_read caches c.args.from kept c.requires.within here [] in
    subst (λ (came : List ArrivalOf). All (λ (a : ArrivalOf). a.tick ≤ c.args.now) came) (sym read) (c.requires.ticks c.args.from)
