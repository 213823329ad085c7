use Rattle.std.proofs.Common.{◌≡◌}
use Rattle.stores.specs.Notes.{rewound}
use Rattle.stores.proofs.notes.rewind.Given as goal

-- the notes still to come lead back from the places as they are to where all notes lead
abbrev pub invariant-loop-note : goal.invariant-loop-note
invariant-loop-note l = rewound l.note-iterator.iter.rest.now l.places ≡ rewound l.notes l.fn.places
