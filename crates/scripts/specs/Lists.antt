-- What a script and its parts mean: the items of their lists.
use Rattle.std.specs.Prelude.{List, map, Ok, Err, Result}
use Rattle.short_lists.specs.declared.short_list.ShortList.{ShortList}
use Rattle.short_lists.specs.ShortList.{listed}
use Rattle.scripts.specs.declared.types.Operation.{Operation}
use Rattle.scripts.specs.declared.types.ScriptRefusal.{ScriptRefusal}
use Rattle.scripts.specs.declared.bounded.TheConstants.{OPERATION_LIMIT}
use Rattle.scripts.specs.declared.bounded.ScriptPart.{ScriptPart}
use Rattle.scripts.specs.declared.bounded.Script.{Script}
use Rattle.scripts.specs.Reading.{Part}

abbrev pub operations_of : ShortList Operation OPERATION_LIMIT → List Operation
operations_of l = listed l

abbrev pub part_of : ScriptPart → Part
part_of p = record { service = p.service; place = p.place; operations = operations_of p.operations }

abbrev pub parts_of : Script → List Part
parts_of s = map part_of (listed s.parts)

-- what reading answered
abbrev pub answer_of : Result Script ScriptRefusal → Result (List Part) ScriptRefusal
answer_of (Ok s) = Ok (parts_of s)
answer_of (Err refusal) = Err refusal
