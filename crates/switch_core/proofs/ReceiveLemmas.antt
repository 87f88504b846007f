use Rattle.std.proofs.Common.{◌≡◌, ◌∙◌, sym, ap, ℕ, suc, ◌+◌, ◌*◌, ◌≤◌, ◌==◌, arith, length, None, is_some, true, false, not, inl, inr}
use Rattle.std.proofs.lemmas.Bool.{and_parts, cond_both, true≢false, or_cases}
use Rattle.an_base.specs.declared.body.Body.{Body}
use Rattle.epoch_core.specs.Epoch.{finish}
use Rattle.switch_core.specs.Switch.{SwitchOf, finish_of, good_peer}
use Rattle.ordered_link.specs.Receiving.{accepted_by, received}
use Rattle.switch_core.specs.Steps.{finishes_by, log_with, receives}
use Rattle.switch_core.specs.Sound.{IsSoundBy, all_held}
use Rattle.switch_core.proofs.CountLemmas.{log_length}
use Rattle.switch_core.proofs.FinishLemmas.{finish_joined, finish_stays}
use Rattle.switch_core.proofs.HeldLemmas.{IsNear, came_more, received_grows}

-- a load is due where something was finished with
due_with : (works carried port k : ℕ) (body : Body) (s : SwitchOf) → IsSoundBy works carried s → s.joined ≡ true → (receives port k body s).load_due ≡ true → is_some (finish_of (receives port k body s)) ≡ true
due_with works carried port k body s h joined due =
    let bodies = accepted_by k body (s.receivings port) in
    let log = log_with port bodies s.log in
    let some : is_some (finish s.card log) ≡ true = elim (or_cases s.load_due (finishes_by s.card s.log log) due) [
      | inl before ↦ finish_stays s.card port bodies s.log (ap is_some (sym (finish_joined s joined)) ∙ h.due before)
      | inr now ↦ (and_parts (not (is_some (finish s.card s.log))) (is_some (finish s.card log)) now).1
    ]
    in
    ap is_some (finish_joined (receives port k body s) joined) ∙ some

-- a body comes to a session
pub sound_receives : (works carried port k : ℕ) (body : Body) (s : SwitchOf) → 1 ≤ port → port ≤ 12 → s.joined ≡ true → IsSoundBy works carried s → IsSoundBy works (suc carried) (receives port k body s)
sound_receives works carried port k body s least most joined h =
    let r = s.receivings port in
    let e = log_length port (accepted_by k body r) s.log in
    let t = receives port k body s in
    let unjoined : t.joined ≡ false → t.spent ≡ false → (q : ℕ) → good_peer t q ≡ None = λ is. absurd (true≢false (sym joined ∙ is)) in
    let near : (q : ℕ) → IsNear (t.receivings q) = λ q. cond_both (q == port) (received k body r) (s.receivings q) IsNear (λ _. (received_grows k body r (h.near port)).near) (λ _. h.near q) in
    let came : t.joined ≡ true → length t.log + all_held t.receivings ≤ suc carried = λ _. let more = came_more port k body s.receivings (h.near port) least most in omega (arith, e, more, h.came joined) in
    let pushed : (q : ℕ) → length (t.sendings q).pushed ≤ 1 + 4 * length t.log = λ q. omega (arith, e, h.pushed q) in
    assumption (unjoined, due_with works carried port k body s h joined, near, came, pushed, h)
