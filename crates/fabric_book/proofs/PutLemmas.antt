-- Frames go out in turn.

use Rattle.std.specs.Prelude.{◌≡◌, ◌+◌, ◌++◌, ◌∷◌, ◌<◌, ℕ, List, [], length, slice_index_or, slice_set, take, Option, option_to_list, refl}
use Rattle.std.specs.List.{flat_map}
use Rattle.std.proofs.Common.{sym, ◌∙◌, ap, append_assoc}
use Rattle.std.proofs.lemmas.List.{append-nil, take_more, take_more_set}
use Rattle.std.proofs.lemmas.Grind.{flat_map-append}
use Rattle.wire_set.specs.WireState.{WiresOf}
use Rattle.switch_core.specs.Bytes.{BytesOut}
use Rattle.net_state.specs.Fabric.{FabricOf}
use Rattle.net_state.specs.Effects.{all_put_out, put_out}
use Rattle.net_state.specs.Lines.{lost_line, lost_lines}
use Rattle.net_state.specs.declared.line.Line.{Line}

out-append : (s : ℕ) (xs : List BytesOut) (x : BytesOut) (wires : WiresOf) → all_put_out s (xs ++ x ∷ []) wires ≡ put_out s x (all_put_out s xs wires)
out-append s [] x wires = refl
out-append s (y ∷ xs) x wires = out-append s xs x (put_out s y wires)

lost-append : (s : ℕ) (xs : List BytesOut) (x : BytesOut) (wires : WiresOf) → lost_lines s (xs ++ x ∷ []) wires ≡ lost_lines s xs wires ++ lost_line s x (all_put_out s xs wires)
lost-append s [] x wires = append-nil (lost_line s x wires)
lost-append s (y ∷ xs) x wires =
    ap (λ (more : List Line). lost_line s y wires ++ more) (lost-append s xs x (put_out s y wires)) ∙ sym (append_assoc (lost_line s y wires) (lost_lines s xs (put_out s y wires)) (lost_line s x (all_put_out s xs (put_out s y wires))))

-- one more
front : (frames : List BytesOut) (i : ℕ) (x : BytesOut) → i < length frames → x ≡ slice_index_or frames i x → take (i + 1) frames ≡ take i frames ++ x ∷ []
front frames i x below is = take_more frames i x below ∙ ap (λ (y : BytesOut). take i frames ++ y ∷ []) (sym is)

pub out_more : (s : ℕ) (frames : List BytesOut) (i : ℕ) (x : BytesOut) (first before after : FabricOf) → i < length frames → x ≡ slice_index_or frames i x
    → before ≡ record first { wires = all_put_out s (take i frames) first.wires } → after ≡ record before { wires = put_out s x before.wires }
    → after ≡ record first { wires = all_put_out s (take (i + 1) frames) first.wires }
out_more s frames i x first before after below is was now =
    now ∙ ap (λ (f : FabricOf). record f { wires = put_out s x f.wires }) was
    ∙ ap (λ (w : WiresOf). record first { wires = w }) (sym (ap (λ xs. all_put_out s xs first.wires) (front frames i x below is) ∙ out-append s (take i frames) x first.wires))

pub told_more : (s : ℕ) (frames : List BytesOut) (i : ℕ) (x : BytesOut) (first before : FabricOf) (puts more : List (Option Line)) (told : Option Line) → i < length frames → x ≡ slice_index_or frames i x → i < length puts
    → before ≡ record first { wires = all_put_out s (take i frames) first.wires } → option_to_list told ≡ lost_line s x before.wires → flat_map option_to_list (take i puts) ≡ lost_lines s (take i frames) first.wires → more ≡ slice_set puts i told
    → flat_map option_to_list (take (i + 1) more) ≡ lost_lines s (take (i + 1) frames) first.wires
told_more s frames i x first before puts more told below is within was lost so_far next =
    let told_is : option_to_list told ≡ lost_line s x (all_put_out s (take i frames) first.wires) = lost ∙ ap (λ (f : FabricOf). lost_line s x f.wires) was in
    let all : lost_lines s (take (i + 1) frames) first.wires ≡ lost_lines s (take i frames) first.wires ++ option_to_list told =
    ap (λ xs. lost_lines s xs first.wires) (front frames i x below is) ∙ lost-append s (take i frames) x first.wires ∙ ap (λ (xs : List Line). lost_lines s (take i frames) first.wires ++ xs) (sym told_is) in
    ap (λ (xs : List (Option Line)). flat_map option_to_list (take (i + 1) xs)) next ∙ ap (flat_map option_to_list) (take_more_set puts i told within)
    ∙ flat_map-append option_to_list (take i puts) (told ∷ []) ∙ ap (λ (xs : List Line). flat_map option_to_list (take i puts) ++ xs) (append-nil (option_to_list told))
    ∙ ap (λ (xs : List Line). xs ++ option_to_list told) so_far ∙ sym all

-- as many as a list has places fill it
pub filled : {A : Type 0} (n : ℕ) (xs ys : List A) → length xs ≡ n → take n (xs ++ ys) ≡ xs
filled {A = A} n xs ys is = ap (λ (k : ℕ). take k (xs ++ ys)) (sym is) ∙ all xs where
  all : (zs : List A) → take (length zs) (zs ++ ys) ≡ zs
  all [] = refl
  all (z ∷ zs) = ap (λ (more : List A). z ∷ more) (all zs)
