use Rattle.std.proofs.Common.{◌≡◌, ◌∙◌, sym, ap, subst, ℕ, ◌+◌, ◌-◌, ◌<◌, ◌≤◌, List, [], ◌∷◌, ◌++◌, length, drop, arith, Option, Bool, true, false, cond, take, length-drop, drop-drop, ◌&&◌, nat_lt, nat_le, ◌⊎◌, inl, inr}
use Rattle.std.proofs.lemmas.List.{drop-append-le, length_push, drop-take, take-append-le}
use Rattle.std.proofs.lemmas.Bool.{lt-ltb, le-ltb, le-leb, lt-leb}
use Rattle.std.proofs.Math.Bool.{and-false}
use Rattle.an_base.specs.declared.body.Body.{Body}
use Rattle.ordered_link.specs.Sending.{Sending, SenderOf, IsKeptOf, highest, is_waiting, with_pushed, push, sent_by_push, send_next, next_to_send, is_outstanding, acknowledge, sent_by_ack, forget}

-- what is kept once one more body is pushed
pub kept_pushed : (v w : SenderOf) (s : Sending) (b : Body) → IsKeptOf v s → w.acked ≡ v.acked → w.sent ≡ v.sent → w.bodies ≡ v.bodies ++ b ∷ [] → IsKeptOf w (with_pushed b s)
kept_pushed v w s b k same_acked same_sent bodies =
    record {
      acked = same_acked ∙ k.acked;
      sent = same_sent ∙ k.sent;
      bodies = bodies ∙ ap (λ l. l ++ b ∷ []) k.bodies ∙ sym (drop-append-le s.acked s.pushed (b ∷ []) (omega (arith, k.within)));
      within = let e = length_push s.pushed b in omega (arith, e, k.within);
    }

-- where no body waits, a pushed one is sent as the next
pub pushed_at_once : (v : SenderOf) (number : Option ℕ) (s : Sending) (b : Body) (now : ℕ) → is_waiting s ≡ false → IsKeptOf v (send_next now (with_pushed b s)) × (number ≡ next_to_send (with_pushed b s)) → IsKeptOf v (push b now s) × (number ≡ sent_by_push b s)
pushed_at_once v number s b now none h = (
  subst (λ (w : Bool). IsKeptOf v (cond w (with_pushed b s) (send_next now (with_pushed b s)))) (sym none) h.0,
  subst (λ (w : Bool). number ≡ cond w Option.None (next_to_send (with_pushed b s))) (sym none) h.1,
)

-- the ticks that are left once the first are moved to the end and the count falls
pub rotated : (count outstanding : ℕ) (ticks : List ℕ) → count ≤ outstanding → outstanding ≤ length ticks → take (outstanding - count) (drop count ticks ++ take count ticks) ≡ drop count (take outstanding ticks)
rotated count outstanding ticks least most =
    take-append-le (outstanding - count) (drop count ticks) (take count ticks) (let e = length-drop count ticks in omega (arith, e, least, most))
    ∙ sym (drop-take count (outstanding - count) ticks)
    ∙ ap (λ n. drop count (take n ticks)) (omega (arith, least))

-- what is kept once the first outstanding bodies are acknowledged
pub kept_forgotten : (v w : SenderOf) (s : Sending) (count : ℕ) → IsKeptOf v s → count ≤ length v.sent → w.acked ≡ v.acked + count → w.sent ≡ drop count v.sent → w.bodies ≡ drop count v.bodies → IsKeptOf w (forget (s.acked + count) s)
kept_forgotten v w s count k least acked sent bodies =
    record {
      acked = acked ∙ ap (λ n. n + count) k.acked;
      sent = sent ∙ ap (drop count) k.sent ∙ ap (λ n. drop n s.sent) (omega arith);
      bodies = bodies ∙ ap (drop count) k.bodies ∙ drop-drop count s.acked s.pushed;
      within = let e = length-drop (s.acked + count - s.acked) s.sent in let f = ap length k.sent in omega (arith, e, f, least, k.within);
    }

-- an acknowledgement that does not count changes nothing
pub passed_over : (v : SenderOf) (number : Option ℕ) (s : Sending) (n now : ℕ) → is_outstanding n s ≡ false → IsKeptOf v s → number ≡ Option.None → IsKeptOf v (acknowledge n now s) × (number ≡ sent_by_ack n s)
passed_over v number s n now out kept none = (
  subst (λ (w : Bool). IsKeptOf v (cond w (send_next now (forget n s)) s)) (sym out) kept,
  subst (λ (w : Bool). number ≡ cond w (next_to_send (forget n s)) Option.None) (sym out) none,
)

pub counted : (v : SenderOf) (number : Option ℕ) (s : Sending) (n now : ℕ) → is_outstanding n s ≡ true → IsKeptOf v (send_next now (forget n s)) × (number ≡ next_to_send (forget n s)) → IsKeptOf v (acknowledge n now s) × (number ≡ sent_by_ack n s)
counted v number s n now is_out h = (
  subst (λ (w : Bool). IsKeptOf v (cond w (send_next now (forget n s)) s)) (sym is_out) h.0,
  subst (λ (w : Bool). number ≡ cond w (next_to_send (forget n s)) Option.None) (sym is_out) h.1,
)

-- whether a number is that of an outstanding body, by what is kept
pub outstanding : (v : SenderOf) (s : Sending) (n : ℕ) → IsKeptOf v s → v.acked < n → n ≤ v.acked + length v.sent → is_outstanding n s ≡ true
outstanding v s n k above below =
    let e = ap length k.sent in
    ap (λ b. b && nat_le n (highest s)) (lt-ltb s.acked n (omega (arith, above, k.acked)))
    ∙ le-leb n (highest s) (omega (arith, below, k.acked, e))

pub not_outstanding : (v : SenderOf) (s : Sending) (n : ℕ) → IsKeptOf v s → (n ≤ v.acked) ⊎ (v.acked + length v.sent < n) → is_outstanding n s ≡ false
not_outstanding v s n k (inl below) = ap (λ b. b && nat_le n (highest s)) (le-ltb s.acked n (omega (arith, below, k.acked)))
not_outstanding v s n k (inr above) =
    let e = ap length k.sent in
    ap (λ b. nat_lt s.acked n && b) (lt-leb n (highest s) (omega (arith, above, k.acked, e))) ∙ and-false (nat_lt s.acked n)

-- where as many bodies are outstanding as are kept, none waits
pub none_waits : (v : SenderOf) (s : Sending) → IsKeptOf v s → length v.bodies ≤ length v.sent → is_waiting s ≡ false
none_waits v s k all =
    let e = ap length k.sent in
    let f = ap length k.bodies in
    let g = length-drop s.acked s.pushed in
    le-ltb (highest s) (length s.pushed) (omega (arith, all, e, f, g, k.within))
