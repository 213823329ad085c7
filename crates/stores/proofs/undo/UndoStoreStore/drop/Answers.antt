use Rattle.std.proofs.Common.{rules}
use Rattle.stores.proofs.Noted.{still_distinct, drop_noted}
use Rattle.stores.proofs.undo.UndoStoreStore.drop.Goals as goal

pub invariant_of-self-2 : goal.invariant_of-self-2
invariant_of-self-2 c =
    record {
      rewound_distinct = still_distinct c.args.self.now c.in_ok-notes.notes.now c.push.new.self c.in_ok-note.note c.remove.new.self.places (search rules) (search rules) c.push.ensures.items (search rules);
    }

pub returns-clause-next : goal.returns-clause-next
returns-clause-next c =
    drop_noted c.args.self.now c.in_ok-notes.notes.now c.push.new.self c.in_ok-note.note c.remove.new.self.places (search rules) (search rules) c.push.ensures.items (search rules) c.args.key (search rules) (search rules)
