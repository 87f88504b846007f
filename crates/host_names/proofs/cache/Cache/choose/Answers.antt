use Rattle.std.proofs.Common.{◌≡◌, ◌≤◌, ◌∙◌, sym, ap}
use Rattle.std.specs.Prelude.{find}
use Rattle.host_names.specs.Caches.{is_from}
use Rattle.host_names.proofs.CacheLemmas.{found_has}
use Rattle.host_names.proofs.cache.Cache.choose.Goals as goal

-- what is found is an arrival that is kept
pub choice_by-requires : goal.choice_by-requires
choice_by-requires c = λ last is.
    let kept : c.deref.result.now ≡ c.args.self.now = c.deref.ensures.value ∙ c.self.view_is in
    found_has (λ arrival. arrival.tick ≤ c.args.now) (is_from c.args.uid) c.args.self.now last c.requires (sym (c.last_of.ensures ∙ ap (find (is_from c.args.uid)) kept) ∙ is)
