-- What an accepted command tells: of its bytes, and of the rules that it has passed.
use Rattle.std.proofs.Common.{◌≡◌, ℕ, ◌+◌, ◌<◌, ◌≤◌, false, List, [], ◌∷◌, ◌++◌, length, get_or, Ok, Err, Result, refl, arith}
use Rattle.std.proofs.lemmas.Bool.Decides.{nat_tests}
use Rattle.scripts.specs.declared.commands.Command.TheVariants.{Open, Act}
use Rattle.scripts.specs.declared.types.Operation.{Operation}
use Rattle.scripts.specs.declared.types.ScriptReason.{ScriptReason}
use Rattle.scripts.specs.declared.types.ScriptRefusal.{ScriptRefusal}
use Rattle.scripts.specs.declared.commands.Spelled.{Spelled}
use Rattle.scripts.specs.Commands.{command_at}
use Rattle.scripts.specs.Reading.{Part, Progress, named, newest, opened, with_newest, take_in, next_progress, read_command}

-- how far a command reaches, and that only the code 1 opens a part
pub record Fair (bytes : List ℕ) (at : ℕ) (s : Spelled) : Type 0 where
  pub more : at + 1 < s.end
  pub within : s.end ≤ length bytes
  pub opens : (service : ℕ) → s.command ≡ Open service → (get_or bytes at 0 ≡ 1) × (get_or bytes (at + 1) 0 ≡ service)
  pub acts : (operation : Operation) → s.command ≡ Act operation → get_or bytes at 0 ≡ 1 → ⊥

pub fair : (bytes : List ℕ) (at : ℕ) (s : Spelled) → command_at bytes at ≡ Ok s → Fair bytes at s
fair bytes at s read = record {
  more = grind (arith, nat_tests);
  within = grind (arith, nat_tests);
  opens = λ service is. (grind (arith, nat_tests), grind (arith, nat_tests));
  acts = λ operation is code. let z : ◌≡◌ {A = ℕ} 0 1 = grind (arith, nat_tests) in omega arith;
}

-- what an accepted opening has passed
pub record Opens (services service place : ℕ) (ps parts : List Part) : Type 0 where
  pub known : service < services
  pub filled : 0 < length ps → 1 ≤ length (newest ps).operations
  pub free : named service ps ≡ false
  pub room : length ps < 4
  pub pushed : parts ≡ ps ++ (opened service place ∷ [])

pub opens : (services service place : ℕ) (ps parts : List Part) → take_in services place (Open service) ps ≡ Ok parts → Opens services service place ps parts
opens services service place ps parts into = record {
  known = grind (arith, nat_tests);
  filled = λ some. grind (arith, nat_tests);
  free = grind (arith, nat_tests);
  room = grind (arith, nat_tests);
  pushed = grind (arith, nat_tests);
}

-- what an accepted operation has passed
pub record Acts (operation : Operation) (ps parts : List Part) : Type 0 where
  pub some : 0 < length ps
  pub room : length (newest ps).operations < 8
  pub written : parts ≡ with_newest operation ps

pub acts : (services place : ℕ) (operation : Operation) (ps parts : List Part) → take_in services place (Act operation) ps ≡ Ok parts → Acts operation ps parts
acts services place operation ps parts into = record { some = grind (arith, nat_tests); room = grind (arith, nat_tests); written = grind (arith, nat_tests) }

-- a command was accepted: it was read, and taken in
pub record Came (services : ℕ) (bytes : List ℕ) (p q : Progress) : Type 0 where
  pub spelled : Spelled
  pub read : command_at bytes p.at ≡ Ok spelled
  pub into : take_in services p.at spelled.command p.parts ≡ Ok q.parts
  pub end : q.at ≡ spelled.end

module _ (services : ℕ) (bytes : List ℕ) (p : Progress) where
  came_in : (q : Progress) (s : Spelled) (o : Result (List Part) ScriptReason) → command_at bytes p.at ≡ Ok s → take_in services p.at s.command p.parts ≡ o → read_command services bytes p ≡ Ok q → Came services bytes p q
  came_in q s (Err reason) read into ok = absurd (let z : ◌≡◌ {A = ℕ} 0 1 = grind (arith, nat_tests) in omega arith)
  came_in q s (Ok parts) read into ok = record { spelled = s; read = read; into = grind (arith, nat_tests); end = grind (arith, nat_tests) }

  came_as : (q : Progress) (o : Result Spelled ScriptReason) → command_at bytes p.at ≡ o → read_command services bytes p ≡ Ok q → Came services bytes p q
  came_as q (Err reason) read ok = absurd (let z : ◌≡◌ {A = ℕ} 0 1 = grind (arith, nat_tests) in omega arith)
  came_as q (Ok s) read ok = came_in q s _ read refl ok

  pub came : (q : Progress) → read_command services bytes p ≡ Ok q → Came services bytes p q
  came q ok = came_as q _ refl ok

  refused_as : (refusal : ScriptRefusal) (o : Result Progress ScriptReason) → next_progress services bytes p ≡ o → read_command services bytes p ≡ Err refusal → refusal.place ≡ p.at
  refused_as refusal (Err reason) next no_go = grind (arith, nat_tests)
  refused_as refusal (Ok further) next no_go = grind (arith, nat_tests)

  -- a refused command is blamed at its own place
  pub refused_there : (refusal : ScriptRefusal) → read_command services bytes p ≡ Err refusal → refusal.place ≡ p.at
  refused_there refusal no_go = refused_as refusal _ refl no_go
