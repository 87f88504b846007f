-- The entries that had their lines, below a height.
use Rattle.std.proofs.Common.{◌≡◌, refl, ℕ, ◌+◌, ◌*◌, ◌<◌, ◌≤◌, List, [], ◌∷◌, ◌++◌, false, eqb, ◌&&◌, arith}
use Rattle.std.specs.List.{list_any}
use Rattle.std.proofs.lemmas.Bool.Decides.{nat_tests}
use Rattle.std.proofs.lemmas.List.Elements.{All-head, All-push, All-tail}
use Rattle.table_script.specs.declared.table_draft.EntryAt.{EntryAt}
use Rattle.table_script.specs.TableDrafts.{AreEntriesBelow, height_of}
use Rattle.table_script.specs.TableRules.{is_entered}
use Rattle.table_script.specs.TableDrafts.{TableDraftOf}

-- one entry more, below a height that is no lower
pub below_more : (entries : List EntryAt) (one : EntryAt) (top new : ℕ) → AreEntriesBelow top entries → top ≤ new → height_of one < new → AreEntriesBelow new (entries ++ one ∷ [])
below_more entries one top new below rises low = All-push (λ x. height_of x < new) entries one (λ k d inside. let was = below k d inside in omega arith) low

apart : (a b s e top : ℕ) → a * 256 + b < top → top ≤ s * 256 + e → (eqb a s && eqb b e) ≡ false
apart a b s e top low high = grind (arith, nat_tests)

none_such : (entries : List EntryAt) (top s e : ℕ) → AreEntriesBelow top entries → top ≤ s * 256 + e → list_any (λ one. eqb one.s s && eqb one.entry e) entries ≡ false
none_such [] top s e below high = refl
none_such (one ∷ rest) top s e below high =
    let here : (eqb one.s s && eqb one.entry e) ≡ false = apart one.s one.entry s e top (All-head (λ x. height_of x < top) one rest below) high in
    let others = none_such rest top s e (All-tail (λ x. height_of x < top) one rest below) high in
    rw (here, others) refl

-- what stands above all that had their lines had none
pub not_entered : (draft : TableDraftOf) (top s e : ℕ) → AreEntriesBelow top draft.entries → top ≤ s * 256 + e → is_entered draft s e ≡ false
unfolding is_entered
not_entered draft top s e below high = none_such draft.entries top s e below high
