-- A place in a script with the parts read before it: what reading comes to from there, and what a reader hands out.
use Rattle.std.specs.Prelude.{◌≡◌, ℕ, ◌-◌, ◌<◌, ◌≤◌, Bool, true, ◌||◌, List, [], ◌∷◌, ◌++◌, map, length, take, drop, Some, None, Ok, Err, Option, Result, ◌==◌, nat_le, slice_index, slice_index_or}
use Rattle.scripts.specs.declared.cursor.Cursor.{Cursor}
use Rattle.scripts.specs.declared.cursor.PartText.{PartText}
use Rattle.scripts.specs.declared.types.ScriptRefusal.{ScriptRefusal}
use Rattle.scripts.specs.Lists.{parts_of}
use Rattle.scripts.specs.Reading.{Part, Progress, none, read_from}

abbrev pub script_of : Cursor → List ℕ
script_of c = c.bytes.now

abbrev pub progress : Cursor → Progress
progress c = record { at = c.at; parts = parts_of c.script }

-- what reading comes to from there on
abbrev pub comes_to : Cursor → Result (List Part) ScriptRefusal
comes_to c = read_from (length (script_of c) - c.at) c.services (script_of c) (progress c)

abbrev pub code_at : Cursor → ℕ
code_at c = slice_index (script_of c) c.at

-- the cursor stands where a part may begin: no part is read yet, or a part opens there, or the script ends
abbrev pub between : Cursor → Bool
between c = none (parts_of c.script) || (nat_le (length (script_of c)) c.at || code_at c == 1)

-- the service and the place of each part
abbrev pub headings : List Part → List (ℕ × ℕ)
headings parts = map (λ p. (p.service, p.place)) parts

-- the same reading, further on
pub record Onward (from to : Cursor) : Type 0 where
  pub bytes : to.bytes ≡ from.bytes
  pub services : to.services ≡ from.services
  pub comes : comes_to from ≡ comes_to to
  pub more : from.at ≤ to.at
  pub within : to.at ≤ length (script_of from)

-- one part read: its text is the stretch of the script from its opening code to where the next part may begin
pub record Handed (part : PartText) (from to : Cursor) : Type 0 where
  pub onward : Onward from to
  pub more : from.at < to.at
  pub ends : between to ≡ true
  pub place : part.place ≡ from.at
  pub text : part.text.now ≡ take (to.at - from.at) (drop from.at (script_of from))
  pub opens : slice_index_or part.text.now 0 0 ≡ 1
  pub service : part.service ≡ slice_index part.text.now 1
  pub heads : headings (parts_of to.script) ≡ headings (parts_of from.script) ++ ((part.service, part.place) ∷ [])

-- a part is handed out, or none is left, or the script is refused
abbrev pub Hands : Result (Option PartText) ScriptRefusal → Cursor → Cursor → Type 0
Hands (Ok (Some part)) from to = Handed part from to
Hands (Ok None) from to = (comes_to from ≡ Ok (parts_of to.script)) × (to ≡ from)
Hands (Err refusal) from to = comes_to from ≡ Err refusal
