-- The orders of lives, ends and links are total.
use Rattle.std.specs.Cmp.{IsTotalOrder, then_total, on_total, nat_cmp_total}
use Rattle.an_base.specs.Order.{life_cmp, end_cmp, link_cmp}

pub life_total : IsTotalOrder life_cmp
life_total =
    then_total (on_total (λ life. life.uid) nat_cmp_total) (on_total (λ life. life.boot) nat_cmp_total)

pub end_total : IsTotalOrder end_cmp
end_total = then_total (on_total (λ end. end.life) life_total) (on_total (λ end. end.port) nat_cmp_total)

pub link_total : IsTotalOrder link_cmp
link_total = then_total (on_total (λ link. link.port) nat_cmp_total) (on_total (λ link. link.peer) end_total)
