-- Notes of what a trial altered, oldest first, and the places as they were before.
use Rattle.std.specs.Prelude.{List, [], ◌∷◌, Some, None, Option, slice_set}
use Rattle.short_lists.specs.declared.short_list.ShortList.{ShortList}
use Rattle.short_lists.specs.ShortList.{listed}
use Rattle.stores.specs.declared.notes.Note.{Note}
use Rattle.stores.specs.Places.{Places}

-- the newer notes are taken back before the older ones
abbrev pub rewound : List Note → Places → Places
rewound [] ps = ps
rewound (n ∷ newer) ps = slice_set (rewound newer ps) n.place n.before

-- the notes of the open trial, if one is open
abbrev pub notes_of : Option (ShortList Note 8) → List Note
notes_of None = []
notes_of (Some notes) = listed notes
