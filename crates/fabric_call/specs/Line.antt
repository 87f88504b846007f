-- The text of the line of a status. Only private functions cite this.

use Rattle.std.specs.Prelude.{ℕ, List}
use Rattle.fabric_call.specs.declared.status.Line.{Line}
use Rattle.fabric_call.specs.declared.status.Line.TheVariants.{Plain, Fault}
use Rattle.fabric_call.specs.Status.{refusal_line}

abbrev pub text_of : Line → List ℕ
text_of (Plain text) = text.now
text_of (Fault file line cause) = refusal_line file.now line cause.now
