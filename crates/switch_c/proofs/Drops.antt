-- An instance is let go by its own `drop`, which is what `Box::into_raw` asks of the type.
use Rattle.std.proofs.Common.{[], ◌∷◌, refl}
use seplogic.Ra.Ura.{Ura}
use mir.Syntax.{Callee, Dict, impl, method, tnil, dnil}
use prog.Model.{Model}
use prog.Wired.{Wired}
use contract.Running.{Running}
use types.Logic.{Logic}
use denote.Param.{layouts}
use denote.Param.Glue.{Met}
use denote.Triple.Carry.{AllWithin}
use denote.Triple.Clauses.{Ended, Lasts, lasts, at_exit}
use denote.Triple.Walked.{Fit}
use borrow.Fn.Glue.{glue_by, glue_ps}
use borrow.Fn.Impl.{via_longer, method_Known}
use borrow.Fn.Kinds.{ended_of, stays, r_unit}
use borrow.Fn.Run.{Over}
use borrow.Fn.World.{World}
use Rattle.switch_c.proofs.switch_c++instance++Instance+Destruct.drop.Kinds.{ps, r}
use Rattle.switch_c.proofs.switch_c++instance++Instance+Destruct.drop.Met.{met}
use Rattle.switch_c.proofs.switch_c++instance++Instance+Destruct.drop.Reads as reads
use Rattle.switch_c.proofs.switch_c++instance++Instance+Destruct.drop.Symbol.{code, name, as_method}
use Rattle.switch_c.proofs.Boxes.{Item, item_laws}

abbrev pub drop : Dict
drop = impl ("switch_c::switch_c++instance++Instance+Destruct::drop" ∷ []) tnil dnil

abbrev called : Callee
called = method drop 0 (layouts [] tt)

abbrev E : Ended
E = ended_of 0 ps r

module _ {M : Type 1} (𝓤 : Ura M) (𝓛 : Logic 𝓤) (𝓜 : Model 𝓤 𝓛.H) (𝓡 : Running 𝓤 𝓛.H 𝓜) (wired : Wired 𝓡.env code) where
  abbrev world : World
  world = record { M = M; 𝓤 = 𝓤; 𝓛 = 𝓛; 𝓜 = 𝓜; 𝓡 = 𝓡 }

  pub drops : Met 𝓛 𝓜 𝓡 𝓡.env Item drop
  drops =
      glue_by Item item_laws world drop 𝓡.env (λ κs a. Lasts E tt a) (λ κs a. lasts E tt a)
      (λ κs a x ws. Fit E (stays ps) tt a ws × reads.Learnt tt a x (at_exit E tt a ws)) (λ κs a. AllWithin 1 (κs.0, tt) (Item.lives, tt) × Unit {0}) 0 tt (λ κs a h. ((h, tt), tt))
      (via_longer 𝓛 (Over 𝓛 𝓜 𝓡 𝓡.env) 1 (glue_ps Item item_laws) r_unit (λ κs a. Lasts E tt a) (λ κs a. lasts E tt a)
      (λ κs a x ws. Fit E (stays ps) tt a ws × reads.Learnt tt a x (at_exit E tt a ws)) (λ κs a. AllWithin 1 (κs.0, tt) (Item.lives, tt) × Unit {0}) called 0 tt
      (λ κs. tt) (λ κs a. reads.Asked tt a) (λ κs a p. (tt, tt))
      (λ κs bd inside a vss qs. method_Known 0 ps r reads.requires reads.ensures reads.Asked reads.Learnt reads.known world name called
      (as_method 𝓡.env wired called refl) (met 𝓤 𝓛 𝓜 𝓡 wired) ((tt, qs, tt, a, vss), tt)))
