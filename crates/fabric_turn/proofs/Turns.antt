-- From what the steps tell to what a call tells.
use Rattle.std.proofs.Common.{◌≡◌, ◌≢◌, ℕ, ◌%◌, ◌^◌, List, [], refl, ap, ◌∙◌, subst}
use mathlib.Core.Option.{none}
use Rattle.atomic_table.specs.Table.{Me, step}
use Rattle.fabric_turn.specs.declared.view.View.{View}
use Rattle.fabric_turn.specs.Plays.{waiting_view, Looks, GainsTurn}
use Rattle.fabric_turn.specs.Calls.{TurnComes}

module _ {S E D : Type 0} (history : S → List E) (start_of : S → D) (owner : E → ℕ) where
  abbrev M : Type 0
  M = Me S (View E D)

  abbrev Looked : M → ℕ → M → Type 0
  Looked m r m' = Looks history start_of owner (step 1 1 0 0 none) m r m'

  pub came : (v : View E D) (t r : ℕ) (m m' : M) → m ≡ (waiting_view t v, []) → r ≡ t % 2 ^ 64 → Looked m r m' → TurnComes history start_of owner v m'
  came v t r m m' is hit told = let P : M → Type 0 = λ x. Looked x r m' in let now : P (waiting_view t v, []) = subst P is told in
      let x : GainsTurn history start_of owner t (waiting_view t v, []) m' = (now t refl).0 hit in (t, x.0, x.1, x.2, x.3, x.4, x.5, x.6)

  pub waits_on : (v : View E D) (t r : ℕ) (m m' : M) → m ≡ (waiting_view t v, []) → r ≢ t % 2 ^ 64 → Looked m r m' → m' ≡ (waiting_view t v, [])
  waits_on v t r m m' is miss told = (told t (ap (λ (x : M). x.0.stage) is)).1 miss ∙ is

  pub drawn : (t : ℕ) (m m' : M) → m.1 ≡ [] → m' ≡ (waiting_view t m.0, m.1) → m' ≡ (waiting_view t m.0, [])
  drawn t m m' free is = is ∙ ap (λ (l : List (ℕ × S)). (waiting_view t m.0, l)) free
