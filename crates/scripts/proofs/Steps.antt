-- One command of a cursor, and a whole part: reading comes to the same further on.
use Rattle.std.proofs.Common.{◌≡◌, ◌-◌, ◌<◌, length, Ok, Err, Result, ◌∙◌, arith}
use Rattle.scripts.specs.declared.cursor.Cursor.{Cursor}
use Rattle.scripts.specs.declared.types.ScriptRefusal.{ScriptRefusal}
use Rattle.scripts.specs.Cursors.{progress, script_of}
use Rattle.scripts.specs.Steps.{Leads, Reads, Stepped, next_command}
use Rattle.scripts.proofs.Turns.{accepted, read_on, read_refused}

-- what an accepted command leaves
stepped : (from to : Cursor) → from.at < length (script_of from) → to.bytes ≡ from.bytes → to.services ≡ from.services → next_command from ≡ Ok (progress to) → Stepped from to
stepped from to left bytes services ok =
    let a = accepted from.services (script_of from) (progress from) (progress to) ok in
    let on = read_on from.services (script_of from) (length (script_of from) - from.at) (length (script_of from) - to.at) (progress from) (progress to) (omega arith) (omega arith) left ok in
    record {
      onward = record { bytes = bytes; services = services; comes = on ∙ cc; more = omega (arith, a.more); within = a.within };
      more = a.more;
      first = a.first;
      opens = a.opens;
      acts = a.acts;
    }

pub steps : (r : Result (Unit {0}) ScriptRefusal) (from to : Cursor) → from.at < length (script_of from) → to.bytes ≡ from.bytes → to.services ≡ from.services → Leads r (progress to) (next_command from) → Reads Stepped r from to
steps (Ok _) from to left bytes services ok = stepped from to left bytes services ok
steps (Err refusal) from to left bytes services e = read_refused from.services (script_of from) (length (script_of from) - from.at) (progress from) refusal (omega arith) left e
