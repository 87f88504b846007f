use Rattle.std.proofs.Common.{rules, ◌∙◌, ◌∷◌, sym, ap, arith, take, List, ◌<◌}
use Rattle.std.specs.Prelude.{not, vec_len, vec_capacity}
use Rattle.std.proofs.lemmas.Fn.{filter_same}
use Rattle.host_names.specs.Caches.{ArrivalOf, is_from, with_arrival}
use Rattle.host_names.proofs.CacheLemmas.{put_first}
use Rattle.host_names.proofs.KeptLaws.{one_more}
use Rattle.host_names.proofs.cache.Cache.arrived.Goals as goal

-- the others are kept, at most 15 of them, and the arrival is put in front
pub returns-clause-kept : goal.returns-clause-kept
returns-clause-kept c =
    let arrival : ArrivalOf = record { uid = c.args.uid; address = c.args.address; tick = c.args.now } in
    let others = filter_same _ (λ a. not (is_from c.args.uid a)) _ (λ x b f' k. search rules) _ _ c.retain.ensures.filtered in
    let room : vec_len c.truncate.new.self < vec_capacity c.truncate.new.self = omega arith in
    put_first c.insert-added.result _ _ _ (c.insert-added.ensures.succeeds room) c.insert-added.ensures.items
    ∙ ap (λ (rest : List ArrivalOf). arrival ∷ rest) (c.truncate.ensures.items ∙ ap (take 15) others)
    ∙ ap (with_arrival arrival) c.self.view_is

-- which is what is kept after one arrival more
pub returns-clause-after : goal.returns-clause-after
returns-clause-after c = λ arrivals is.
    let arrival : ArrivalOf = record { uid = c.args.uid; address = c.args.address; tick = c.args.now } in
    returns-clause-kept c ∙ ap (with_arrival arrival) is ∙ sym (one_more arrival arrivals)
