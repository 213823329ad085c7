-- Notes taken and taken back: the places before the trial stay in reach.
use Rattle.std.specs.Prelude.{◌≡◌, ◌+◌, ◌<◌, List, [], ◌∷◌, ◌++◌, length, take, set, slice_set, refl}
use Rattle.std.proofs.Common.{ap, ◌∙◌, arith, take_all, length-append, length-set}
use Rattle.stores.specs.declared.notes.Note.{Note}
use Rattle.stores.specs.Notes.{rewound}
use Rattle.stores.specs.Places.{Places}

pub length_rewound : (ns : List Note) (ps : Places) → length (rewound ns ps) ≡ length ps
length_rewound [] ps = refl
length_rewound (n ∷ ns) ps = length-set _ _ _ ∙ length_rewound ns ps

-- the newest note is taken back first
pub rewound_push : (ns : List Note) (n : Note) (ps : Places) → rewound (ns ++ n ∷ []) ps ≡ rewound ns (slice_set ps n.place n.before)
rewound_push [] n ps = refl
rewound_push (m ∷ ns) n ps = ap (λ qs. set qs m.place m.before) (rewound_push ns n ps)

-- a change that is noted leaves the places before the trial in reach
pub rewound_noted : (notes : List Note) (n : Note) (after before : Places) → slice_set after n.place n.before ≡ before → rewound (notes ++ n ∷ []) after ≡ rewound notes before
rewound_noted notes n after before undone = rewound_push notes n after ∙ ap (rewound notes) undone

-- so it is in a short list of notes that has room for one more
module _ (old new : List Note) (n : Note) (after before : Places) (room : length old < 8) (pushed : new ≡ take 8 (old ++ n ∷ [])) where
  kept : new ≡ old ++ n ∷ []
  kept = pushed ∙ take_all 8 (old ++ n ∷ []) (grind (arith, length-append))

  pub rewound_pushed : slice_set after n.place n.before ≡ before → rewound new after ≡ rewound old before
  rewound_pushed undone = ap (λ ns. rewound ns after) kept ∙ rewound_noted old n after before undone

  pub length_pushed : length new ≡ length old + 1
  length_pushed = ap length kept ∙ length-append old (n ∷ [])
