use Rattle.std.proofs.Common.{◌≡◌, sym, refl, Option, Some, None, Bool, true, false, not}
use Rattle.std.specs.Option.{option_or}
use Rattle.common_lines.specs.Faults.{unless}

-- where none of some causes comes, neither the first nor another does
pub no_first : {Cause : Type 0} (a b : Option Cause) → option_or a b ≡ None → (a ≡ None) × (b ≡ None)
no_first None b none = (refl, none)
no_first (Some c) b none = absurd (cc)

-- where a cause does not come what is asked for holds
pub holds : {Cause : Type 0} (b : Bool) (c : Cause) → unless b c ≡ None → b ≡ true
holds true c none = refl
holds false c none = absurd (cc)

-- a cause that comes says that what is asked for does not hold
pub fails : {Cause : Type 0} (b : Bool) (e c : Cause) → unless b e ≡ Some c → (b ≡ false) × (c ≡ e)
fails true e c some = absurd (cc)
fails false e c some = (refl, (let h : Some e ≡ Some c = some in let k : e ≡ c = cc in sym k))

-- nothing is wrong where a test is passed, and where nothing is wrong with each part
pub unless_good : {Cause : Type 0} (b : Bool) (c : Cause) → b ≡ true → unless b c ≡ None
unless_good b c t = rw t refl

pub first_good : {Cause : Type 0} (c rest : Option Cause) → c ≡ None → rest ≡ None → option_or c rest ≡ None
first_good c rest none more = rw (none, more) refl
