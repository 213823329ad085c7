-- What a list of look numbers means: the numbers in use.
use Rattle.std.specs.Prelude.{ℕ, List}
use Rattle.short_lists.specs.ShortList.{listed}
use Rattle.parts.specs.declared.looks.Looks.{Looks}

abbrev pub looks_of : Looks → List ℕ
looks_of l = listed l.numbers
