-- 01's verdict on a table, as the code answers it. Definitions only. Assumes nothing.
use Rattle.rules.specs.Intake as Intake
use Rattle.std.specs.Prelude.{Result, Ok, Err, ⊤}
use Rattle.rules.specs.declared.Refusal.{Refusal}
use Rattle.rules.specs.declared.Refusal.TheVariants as refusal
use Rattle.table.specs.declared.BadTable.{BadTable}
use Rattle.table.specs.declared.BadTable.TheVariants.{TooLarge, Row, Connector, Coupling}

abbrev pub verdict_of : Intake.Verdict → Result ⊤ BadTable
verdict_of Intake.too_large = Err TooLarge
verdict_of (Intake.bad_row k) = Err (Row k)
verdict_of (Intake.bad_connector k) = Err (Connector k)
verdict_of (Intake.bad_coupling k) = Err (Coupling k)
verdict_of (Intake.passed t) = Ok tt

-- "1", "2 at the first bad row", "3 at the first bad connector, or else coupling": `rules/Intake.taken_in` says the same of the verdict
abbrev pub refusal_of : BadTable → Refusal
refusal_of TooLarge = refusal.TooLarge
refusal_of (Row k) = refusal.BadRow
refusal_of (Connector k) = refusal.BadCoupling
refusal_of (Coupling k) = refusal.BadCoupling
