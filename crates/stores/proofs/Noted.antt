-- A change of an undo store's open trial, with its note added.
use Rattle.std.proofs.Common.{◌≡◌, ℕ, ◌<◌, true, not, [], ◌∷◌, ◌++◌, length, take, set, is_some, Some, Ok, sym, ap, ◌∙◌, arith}
use Rattle.std.proofs.lemmas.Bool.Decides.{nat_tests}
use Rattle.short_lists.specs.declared.short_list.ShortList.{ShortList}
use Rattle.short_lists.specs.ShortList.{listed}
use Rattle.stores.specs.declared.notes.Note.{Note}
use Rattle.stores.specs.declared.undo.UndoStore.{UndoStore}
use Rattle.stores.specs.Notes.{notes_of, rewound}
use Rattle.stores.specs.Pairs.{find, insert, erase}
use Rattle.stores.specs.Places.{Places, contents, distinct, no_room}
use Rattle.stores.specs.Rewinds.{rewound_pushed, length_pushed}
use Rattle.stores.specs.Store.{StoreModel, Trial, put_in, drop_in, put_step, drop_step, with_trial}
use Rattle.stores.specs.Undo.{noted_trial, undo_model}

module _ (s : UndoStore) (old new : ShortList Note 8) (note : Note) (after : Places) (trial_open : s.trial ≡ Some old) (room : length (listed old) < 8) (pushed : listed new ≡ take 8 (listed old ++ note ∷ [])) (undone : set after note.place note.before ≡ s.pairs.places) where
  same_committed : rewound (listed new) after ≡ rewound (notes_of s.trial) s.pairs.places
  same_committed =
      rewound_pushed (listed old) (listed new) note after s.pairs.places room pushed undone
      ∙ ap (λ t. rewound (notes_of t) s.pairs.places) (sym trial_open)

  pub still_distinct : distinct (rewound (listed new) after) ≡ true
  still_distinct = ap distinct same_committed ∙ s.rewound_distinct

  abbrev before : Trial
  before = record { working = contents s.pairs.places; changes = length (listed old) }

  abbrev noted : Trial
  noted = record { working = contents after; changes = length (listed new) }

  abbrev model : StoreModel
  model = record { capacity = 32; committed = contents (rewound (listed new) after); trial = Some noted }

  trial_is : (undo_model s).trial ≡ Some before
  trial_is = ap (noted_trial s.pairs.places) trial_open

  model_is : model ≡ with_trial noted (undo_model s)
  model_is = ap (λ c. record { capacity = 32; committed = contents c; trial = Some noted }) same_committed

  pub put_noted : (k v : ℕ) → true ≡ not (no_room k 32 (contents s.pairs.places)) → contents after ≡ insert k v (contents s.pairs.places) → model ≡ (put_step k v (undo_model s)).next
  put_noted k v fits next =
      let longer = length_pushed (listed old) (listed new) note after s.pairs.places room pushed in
      let change : put_in 32 k v before ≡ Ok noted = grind (arith, nat_tests) in
      rw (trial_is, change) model_is

  pub drop_noted : (k : ℕ) → true ≡ is_some (find k (contents s.pairs.places)) → contents after ≡ erase k (contents s.pairs.places) → model ≡ (drop_step k (undo_model s)).next
  drop_noted k there next =
      let longer = length_pushed (listed old) (listed new) note after s.pairs.places room pushed in
      let change : drop_in k before ≡ Ok noted = grind (arith, nat_tests) in
      rw (trial_is, change) model_is
