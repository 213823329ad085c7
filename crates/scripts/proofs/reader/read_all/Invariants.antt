-- Wherever the loop stands, reading comes to the same.
use Rattle.std.proofs.Common.{◌≡◌, ◌-◌, length}
use Rattle.scripts.specs.Cursors.{comes_to, script_of}
use Rattle.scripts.proofs.reader.read_all.Given as goal

abbrev pub invariant-loop : goal.invariant-loop
invariant-loop l = comes_to l.initial.reader.cursor ≡ comes_to l.reader.cursor

abbrev pub decreases-loop : goal.decreases-loop
decreases-loop l = length (script_of l.reader.cursor) - l.reader.cursor.at
