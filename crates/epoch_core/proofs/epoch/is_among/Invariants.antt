use Rattle.std.proofs.Common.{◌≡◌, false, take}
use Rattle.std.specs.List.{list_any}
use Rattle.std.specs.Ordering.{is_eq}
use Rattle.an_base.specs.Order.{life_cmp}
use Rattle.epoch_core.proofs.epoch.is_among.Given as goal

-- none of the entries so far
abbrev pub invariant-entries : goal.invariant-entries
invariant-entries l = list_any (λ e. is_eq (life_cmp e.life l.me)) (take l.entry-index l.entry-items) ≡ false
