-- The command at a place of a script: its code, its operands behind it, and the one table of codes.
use Rattle.std.specs.Prelude.{ℕ, zero, suc, ◌+◌, ◌*◌, ◌^◌, cond, List, length, Some, None, Ok, Err, Option, Result, ◌==◌, nat_lt, slice_index}
use Rattle.scripts.specs.declared.types.Operation.TheVariants.{Look, Put, Need, Add, Drop}
use Rattle.scripts.specs.declared.commands.Command.{Command}
use Rattle.scripts.specs.declared.commands.Command.TheVariants.{Open, Act}
use Rattle.scripts.specs.declared.commands.Spelled.{Spelled}
use Rattle.scripts.specs.declared.types.ScriptReason.{ScriptReason}
use Rattle.scripts.specs.declared.types.ScriptReason.TheVariants.{UnknownCode, MissingOperands}

-- the number that stands in so many bytes from a place on, the greatest byte first
abbrev pub big_endian : (count : ℕ) → List ℕ → (place : ℕ) → ℕ
big_endian zero bytes place = 0
big_endian (suc count) bytes place = slice_index bytes place * 256 ^ count + big_endian count bytes (place + 1)

-- a code's operands, in bytes, and what it says with them
pub record Form : Type 0 where
  pub operands : ℕ
  pub says : Command

abbrev form : ℕ → Command → Option Form
form operands says = Some (record { operands = operands; says = says })

-- the table of codes
abbrev pub form_of : (code service key value : ℕ) → Option Form
form_of code service key value =
    cond (code == 1) (form 1 (Open service))
    (cond (code == 2) (form 8 (Act (Look key)))
    (cond (code == 3) (form 12 (Act (Put key value)))
    (cond (code == 4) (form 12 (Act (Need key value)))
    (cond (code == 5) (form 12 (Act (Add key value)))
    (cond (code == 6) (form 8 (Act (Drop key)))
    None)))))

-- a service is one byte, a key eight, and a value the four behind a key
abbrev pub form_at : List ℕ → ℕ → Option Form
form_at bytes at = form_of (slice_index bytes at) (slice_index bytes (at + 1)) (big_endian 8 bytes (at + 1)) (big_endian 4 bytes (at + 9))

-- the command at a place and the place behind it: the code must be known and the operands be there
abbrev pub command_at : List ℕ → ℕ → Result Spelled ScriptReason
command_at bytes at =
    elim (form_at bytes at) [
      | None ↦ Err UnknownCode
      | Some f ↦ cond (nat_lt (at + f.operands) (length bytes)) (Ok (record { command = f.says; end = at + 1 + f.operands })) (Err MissingOperands)
    ]
