-- What holds of every script that is accepted, of every refusal, and of reading itself.
use Rattle.std.specs.Prelude.{◌≡◌, ℕ, ◌+◌, ◌<◌, ◌≤◌, List, length, Ok, Err, ◌≢◌, slice_index_or}
use Rattle.scripts.specs.declared.types.ScriptRefusal.{ScriptRefusal}
use Rattle.scripts.specs.Reading.{Part, opened, start, read_from, read_script}

-- the part with a number, from 0
abbrev pub nth_part : List Part → ℕ → Part
nth_part parts i = slice_index_or parts i (opened 0 0)

-- a part is for a service that there is, and has 1 to 8 operations
pub record LawfulPart (services : ℕ) (p : Part) : Type 0 where
  pub known : p.service < services
  pub some : 1 ≤ length p.operations
  pub few : length p.operations ≤ 8

-- 1 to 4 lawful parts, no two for one service
pub record LawfulParts (services : ℕ) (parts : List Part) : Type 0 where
  pub some : 1 ≤ length parts
  pub few : length parts ≤ 4
  pub each : (i : ℕ) → i < length parts → LawfulPart services (nth_part parts i)
  pub apart : (i j : ℕ) → i < j → j < length parts → (nth_part parts i).service ≢ (nth_part parts j).service

pub record ScriptLaws : Type 0 where
  pub accepted : (services : ℕ) (bytes : List ℕ) (parts : List Part) → read_script services bytes ≡ Ok parts → LawfulParts services parts
  -- more turns change nothing: a script is read to its end
  pub enough : (more services : ℕ) (bytes : List ℕ) → read_from (length bytes + more) services bytes start ≡ read_script services bytes
  -- a refusal blames a command of the script or its end
  pub refused : (services : ℕ) (bytes : List ℕ) (refusal : ScriptRefusal) → read_script services bytes ≡ Err refusal → refusal.place ≤ length bytes
