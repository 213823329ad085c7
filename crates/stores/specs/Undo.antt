-- What an undo store means: its places are the working pairs while a trial is open, and the committed
-- pairs are what the notes lead back to.
use Rattle.std.specs.Prelude.{length, Some, None, Option}
use Rattle.short_lists.specs.declared.short_list.ShortList.{ShortList}
use Rattle.short_lists.specs.ShortList.{listed}
use Rattle.stores.specs.declared.notes.Note.{Note}
use Rattle.stores.specs.declared.undo.UndoStore.{UndoStore}
use Rattle.stores.specs.Notes.{notes_of, rewound}
use Rattle.stores.specs.Places.{Places, contents}
use Rattle.stores.specs.Store.{StoreModel, Trial}

-- the trial on these places, one change for each note
abbrev pub noted_trial : Places → Option (ShortList Note 8) → Option Trial
noted_trial places None = None
noted_trial places (Some notes) = Some (record { working = contents places; changes = length (listed notes) })

abbrev pub undo_model : UndoStore → StoreModel
undo_model s =
    record { capacity = 32; committed = contents (rewound (notes_of s.trial) s.pairs.places); trial = noted_trial s.pairs.places s.trial }
