-- What each body that follows keeps, all of them keep.

use Rattle.std.specs.Prelude.{ℕ, zero, suc}
use Rattle.ordered_link.specs.Receiving.{Receiving, follow, follow_all, after_verdict}
use Rattle.ordered_link.specs.declared.receiver.Verdict.{Verdict}
use Rattle.ordered_link.specs.declared.receiver.Verdict.TheVariants.{Accepted, Held, Repeat, Ahead}

module _ (P : Receiving → Type 0) (follows : (r : Receiving) → P r → P (follow r)) where
  pub follow_all_keeps : (n : ℕ) (r : Receiving) → P r → P (follow_all n r)
  follow_all_keeps zero r kept = kept
  follow_all_keeps (suc n) r kept = follow_all_keeps n (follow r) (follows r kept)

  pub verdict_keeps : (v : Verdict) (r : Receiving) → P r → P (after_verdict v r)
  verdict_keeps (Accepted body) r kept = follow_all_keeps 7 r kept
  verdict_keeps (Held wanted got) r kept = kept
  verdict_keeps (Repeat last) r kept = kept
  verdict_keeps (Ahead wanted got) r kept = kept
