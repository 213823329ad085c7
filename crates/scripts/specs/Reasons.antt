-- The number of each reason for which a script is refused.
use Rattle.std.specs.Prelude.{ℕ}
use Rattle.scripts.specs.declared.types.ScriptReason.{ScriptReason}
use Rattle.scripts.specs.declared.types.ScriptReason.TheVariants.{UnknownCode, MissingOperands, OperationBeforePart, NoSuchService, EmptyPart, ServiceNamedTwice, TooManyParts, TooManyOperations}

abbrev pub script_reason_number : ScriptReason → ℕ
script_reason_number UnknownCode = 20
script_reason_number MissingOperands = 21
script_reason_number OperationBeforePart = 22
script_reason_number NoSuchService = 23
script_reason_number EmptyPart = 24
script_reason_number ServiceNamedTwice = 25
script_reason_number TooManyParts = 26
script_reason_number TooManyOperations = 27
