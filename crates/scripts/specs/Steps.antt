-- How far the steps of a cursor lead: one command, and the operations of a part.
use Rattle.std.specs.Prelude.{◌≡◌, ◌+◌, ◌<◌, true, [], ◌∷◌, ◌++◌, Ok, Err, Result, ◌≢◌, slice_index}
use Rattle.scripts.specs.declared.cursor.Cursor.{Cursor}
use Rattle.scripts.specs.declared.types.ScriptRefusal.{ScriptRefusal}
use Rattle.scripts.specs.Cursors.{Onward, between, code_at, comes_to, headings, progress, script_of}
use Rattle.scripts.specs.Lists.{parts_of}
use Rattle.scripts.specs.Reading.{Progress, none, read_command}

-- one command further
abbrev pub next_command : Cursor → Result Progress ScriptRefusal
next_command c = read_command c.services (script_of c) (progress c)

-- what a step that may be refused leaves
abbrev pub Leads : {X E : Type 0} → Result (Unit {0}) E → X → Result X E → Type 0
Leads (Ok _) after outcome = outcome ≡ Ok after
Leads (Err e) after outcome = outcome ≡ Err e

-- reading went on as told, or is refused
abbrev pub Reads : (Cursor → Cursor → Type 0) → Result (Unit {0}) ScriptRefusal → Cursor → Cursor → Type 0
Reads told (Ok _) from to = told from to
Reads told (Err refusal) from to = comes_to from ≡ Err refusal

-- one command read: it has an operand, the first opens a part, and none but the code 1 does
pub record Stepped (from to : Cursor) : Type 0 where
  pub onward : Onward from to
  pub more : from.at + 1 < to.at
  pub first : none (parts_of from.script) ≡ true → code_at from ≡ 1
  pub opens : code_at from ≡ 1 → headings (parts_of to.script) ≡ headings (parts_of from.script) ++ ((slice_index (script_of from) (from.at + 1), from.at) ∷ [])
  pub acts : (code_at from ≢ 1) → headings (parts_of to.script) ≡ headings (parts_of from.script)

-- the operations of a part read: no part was opened, and one may open there
pub record Passed (from to : Cursor) : Type 0 where
  pub onward : Onward from to
  pub same : headings (parts_of to.script) ≡ headings (parts_of from.script)
  pub ends : between to ≡ true
