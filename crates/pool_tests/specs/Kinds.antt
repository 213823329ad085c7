-- Whom the two kinds of message fit.
use Rattle.std.specs.Prelude.{ℕ, Bool, ◌&&◌, ◌==◌}
use Rattle.pool_tests.specs.declared.Note.{Note}
use Rattle.pool_tests.specs.declared.Desk.{Desk}
use Rattle.pool_tests.specs.declared.Letter.{Letter}

abbrev pub for_reader : Note → ℕ → Bool
for_reader note reader = note.reader == reader

abbrev pub for_desk : Letter → Desk → Bool
for_desk letter desk = letter.desk.floor == desk.floor && letter.desk.room == desk.room
