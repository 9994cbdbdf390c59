-- The numbers of the refusals ("Refusal numbers" of 01-scope.md). Assumes nothing.
use Rattle.std.specs.Prelude.{ℕ}
use Rattle.rules.specs.declared.Refusal.{Refusal}
use Rattle.rules.specs.declared.Refusal.TheVariants.{TooLarge, BadRow, BadCoupling, ModelNotFound, InvalidMessage, InvalidModelState, NoQueueRoom, NoMessageRoom, NoServiceTime, BadTime, ClockOverflow, Idle, NoOutRoom, BadBlock, BadState}

abbrev pub number : Refusal → ℕ
number TooLarge = 1
number BadRow = 2
number BadCoupling = 3
number ModelNotFound = 4
number InvalidMessage = 5
number InvalidModelState = 6
number NoQueueRoom = 7
number NoMessageRoom = 8
number NoServiceTime = 9
number BadTime = 10
number ClockOverflow = 11
number Idle = 12
number NoOutRoom = 13
number BadBlock = 14
number BadState = 20
