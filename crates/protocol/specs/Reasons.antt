-- The number of each reason for which a site refuses a call.
use Rattle.std.specs.Prelude.{ℕ}
use Rattle.scripts.specs.Reasons.{script_reason_number}
use Rattle.protocol.specs.declared.types.Reason.{Reason}
use Rattle.protocol.specs.declared.types.Reason.TheVariants.{NoSuchClient, NoSuchService, TransactionOpen, NumbersSpent, NoTransaction, NoSuchPart, SentBefore, NotSent, Answered, NoMessage, ListTooShort, PartPending, NoRoom, WrongPhase, NoSuchDecision, InScript}

abbrev pub reason_number : Reason → ℕ
reason_number NoSuchClient = 1
reason_number NoSuchService = 2
reason_number TransactionOpen = 3
reason_number NumbersSpent = 4
reason_number NoTransaction = 5
reason_number NoSuchPart = 6
reason_number SentBefore = 7
reason_number NotSent = 8
reason_number Answered = 9
reason_number NoMessage = 10
reason_number ListTooShort = 11
reason_number PartPending = 12
reason_number NoRoom = 13
reason_number WrongPhase = 14
reason_number NoSuchDecision = 15
reason_number (InScript reason) = script_reason_number reason
