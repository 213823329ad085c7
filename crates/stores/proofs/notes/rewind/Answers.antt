use Rattle.std.proofs.Common.{sym, ap, ◌∙◌}
use Rattle.std.proofs.lemmas.List.{set_past}
use Rattle.stores.specs.Notes.{rewound}
use Rattle.stores.specs.Rewinds.{rewound_push}
use Rattle.stores.proofs.notes.rewind.Goals as goal

pub loop-note-preserved-then-note-places : goal.loop-note-preserved-then-note-places
loop-note-preserved-then-note-places c =
    sym (rewound_push c.next.new.self.iter.rest.now c.in-Some.note.now c.loop-note.places)
    ∙ ap (λ ns. rewound ns c.loop-note.places) (sym c.in-Some.ensures.steps)
    ∙ c.loop-note.invariant

-- a note past the last place alters nothing
pub loop-note-preserved : goal.loop-note-preserved
loop-note-preserved c =
    ap (rewound c.next.new.self.iter.rest.now) (sym (set_past c.loop-note.places _ c.in-Some.note.now.before c.if-note-places.false))
    ∙ sym (rewound_push c.next.new.self.iter.rest.now c.in-Some.note.now c.loop-note.places)
    ∙ ap (λ ns. rewound ns c.loop-note.places) (sym c.in-Some.ensures.steps)
    ∙ c.loop-note.invariant
