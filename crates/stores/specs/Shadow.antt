-- What a shadow store means: the committed places, and the draft's while a trial is open.
use Rattle.std.specs.Prelude.{◌≡◌, Some, None, Ok, Err, Option, Result}
use Rattle.stores.specs.declared.types.StoreRefusal.{StoreRefusal}
use Rattle.stores.specs.declared.shadow.Draft.{Draft}
use Rattle.stores.specs.declared.shadow.ShadowStore.{ShadowStore}
use Rattle.stores.specs.Places.{contents}
use Rattle.stores.specs.Store.{StoreModel, Trial}

abbrev pub draft_trial : Draft → Trial
draft_trial d = record { working = contents d.pairs.places; changes = d.changes }

abbrev pub draft_of : Option Draft → Option Trial
draft_of None = None
draft_of (Some d) = Some (draft_trial d)

abbrev pub shadow_model : ShadowStore → StoreModel
shadow_model s = record { capacity = 16; committed = contents s.committed.places; trial = draft_of s.trial }

-- a change of the open trial, refused or made, answers and leaves what it comes to
abbrev pub Changes : Result (Unit {0}) StoreRefusal → Draft → Draft → Result Trial StoreRefusal → Type 0
Changes answer old new (Ok t) = (answer ≡ Ok tt) × (draft_trial new ≡ t)
Changes answer old new (Err why) = (answer ≡ Err why) × (new ≡ old)
