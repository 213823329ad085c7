-- Wherever the loop stands, reading comes to the same and no part was opened.
use Rattle.std.proofs.Common.{◌≡◌, ◌-◌, length}
use Rattle.scripts.specs.Cursors.{Onward, headings, script_of}
use Rattle.scripts.specs.Lists.{parts_of}
use Rattle.scripts.proofs.cursor.Cursor.pass_operations.Given as goal

abbrev pub invariant-loop-self : goal.invariant-loop-self
invariant-loop-self l = Onward l.initial.self l.self × (headings (parts_of l.self.script) ≡ headings (parts_of l.initial.self.script))

abbrev pub decreases-loop-self : goal.decreases-loop-self
decreases-loop-self l = length (script_of l.self) - l.self.at
