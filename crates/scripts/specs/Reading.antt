-- Reading a script: command by command, each refused or taken into the parts read so far.
use Rattle.std.specs.Prelude.{ℕ, zero, suc, ◌-◌, Bool, cond, ◌&&◌, ◌||◌, List, [], ◌∷◌, ◌++◌, length, Ok, Err, Result, ◌==◌, nat_le, nat_lt, slice_index_or, slice_set}
use Rattle.std.specs.List.{list_any}
use Rattle.scripts.specs.declared.types.Operation.{Operation}
use Rattle.scripts.specs.declared.commands.Command.{Command}
use Rattle.scripts.specs.declared.commands.Command.TheVariants.{Open, Act}
use Rattle.scripts.specs.declared.types.ScriptReason.{ScriptReason}
use Rattle.scripts.specs.declared.types.ScriptReason.TheVariants.{OperationBeforePart, NoSuchService, EmptyPart, ServiceNamedTwice, TooManyParts, TooManyOperations}
use Rattle.scripts.specs.declared.types.ScriptRefusal.{ScriptRefusal}
use Rattle.scripts.specs.Commands.{command_at}

-- a part: its service, the place of its opening code, and its operations in their order
pub record Part : Type 0 where
  pub service : ℕ
  pub place : ℕ
  pub operations : List Operation

abbrev pub opened : (service place : ℕ) → Part
opened service place = record { service = service; place = place; operations = [] }

abbrev pub with_operation : Operation → Part → Part
with_operation operation p = record { service = p.service; place = p.place; operations = p.operations ++ (operation ∷ []) }

abbrev pub none : {X : Type 0} → List X → Bool
none xs = length xs == 0

-- the part that was opened last; operations go to it
abbrev pub newest : List Part → Part
newest parts = slice_index_or parts (length parts - 1) (opened 0 0)

-- the part before has no operation
abbrev pub ends_empty : List Part → Bool
ends_empty parts = nat_lt 0 (length parts) && none (newest parts).operations

abbrev pub with_newest : Operation → List Part → List Part
with_newest operation parts = slice_set parts (length parts - 1) (with_operation operation (newest parts))

abbrev pub named : (service : ℕ) → List Part → Bool
named service parts = list_any (λ p. service == p.service) parts

abbrev pub refused_if : {X : Type 0} → Bool → ScriptReason → Result X ScriptReason → Result X ScriptReason
refused_if test reason otherwise = cond test (Err reason) otherwise

-- the parts once one more is opened
abbrev pub open_part : (services service place : ℕ) → List Part → Result (List Part) ScriptReason
open_part services service place parts =
    refused_if (nat_le services service) NoSuchService
    (refused_if (ends_empty parts) EmptyPart
    (refused_if (named service parts) ServiceNamedTwice
    (refused_if (nat_le 4 (length parts)) TooManyParts
    (Ok (parts ++ (opened service place ∷ []))))))

-- the parts once the newest has one more operation
abbrev pub add_operation : Operation → List Part → Result (List Part) ScriptReason
add_operation operation parts =
    refused_if (none parts) OperationBeforePart
    (refused_if (nat_le 8 (length (newest parts).operations)) TooManyOperations
    (Ok (with_newest operation parts)))

-- the parts once a command at a place is taken in
abbrev pub take_in : (services place : ℕ) → Command → List Part → Result (List Part) ScriptReason
take_in services place (Open service) parts = open_part services service place parts
take_in services place (Act operation) parts = add_operation operation parts

-- how far a script is read: the place of the next command, and the parts before it
pub record Progress : Type 0 where
  pub at : ℕ
  pub parts : List Part

abbrev pub start : Progress
start = record { at = 0; parts = [] }

abbrev pub refused : {X : Type 0} → ScriptReason → (place : ℕ) → Result X ScriptRefusal
refused reason place = Err (record { reason = reason; place = place })

-- one command further, or why not
abbrev pub next_progress : (services : ℕ) → List ℕ → Progress → Result Progress ScriptReason
next_progress services bytes p =
    elim (command_at bytes p.at) [
      | Err reason ↦ Err reason
      | Ok spelled ↦
          elim (take_in services p.at spelled.command p.parts) [
            | Err reason ↦ Err reason
            | Ok parts ↦ Ok (record { at = spelled.end; parts = parts })
          ]
    ]

-- one command further; a refusal blames the place of the command
abbrev pub read_command : (services : ℕ) → List ℕ → Progress → Result Progress ScriptRefusal
read_command services bytes p =
    elim (next_progress services bytes p) [ Err reason ↦ refused reason p.at | Ok further ↦ Ok further ]

-- at the end of a script there must be a part, and the last one must have an operation
abbrev pub end_script : (place : ℕ) → List Part → Result (List Part) ScriptRefusal
end_script place parts = cond (none parts || ends_empty parts) (refused EmptyPart place) (Ok parts)

-- what reading comes to from there on; a command has at least one byte, so as many turns as there are bytes suffice
abbrev pub read_from : (turns services : ℕ) → List ℕ → Progress → Result (List Part) ScriptRefusal
read_from zero services bytes p = end_script (length bytes) p.parts
read_from (suc turns) services bytes p =
    cond (nat_lt p.at (length bytes))
    (elim (read_command services bytes p) [ Err refusal ↦ Err refusal | Ok further ↦ read_from turns services bytes further ])
    (end_script (length bytes) p.parts)

-- a script, with the number of services: its parts, or the first refusal
abbrev pub read_script : (services : ℕ) → List ℕ → Result (List Part) ScriptRefusal
read_script services bytes = read_from (length bytes) services bytes start
