use Rattle.std.proofs.Common.{◌≡◌, rules, None, Some, slice_index_or, is_some, not, sym, ap, ◌∙◌, length-set, set-set}
use Rattle.std.proofs.lemmas.List.{set-get_or}
use Rattle.stores.specs.Places.{contents, no_room}
use Rattle.stores.proofs.Writes.{placed, written}
use Rattle.stores.proofs.rows.Row.insert.Goals as goal

pub returns-in_err-place-clause-room : goal.returns-in_err-place-clause-room
returns-in_err-place-clause-room g c =
    let s = c.args.self.now in
    let none : c.from_residual.result ≡ None = search rules in
    ap is_some none ∙ ap is_some c.in_err-place.ensures.answer ∙ placed c.args.pair.key s.places s.keys_distinct
    ∙ ap (λ n. not (no_room c.args.pair.key n (contents s.places))) s.sized

pub invariant_of-self : goal.invariant_of-self
invariant_of-self g c =
    let s = c.args.self.now in
    let put : c.replace-before.new.self ≡ Some c.args.pair = search rules in
    record {
      sized = length-set s.places c.in_ok-place.place _ ∙ s.sized;
      keys_distinct = rw put (written c.args.pair.key s.places s.keys_distinct c.args.pair.value c.in_ok-place.place (sym c.in_ok-place.ensures.answer)).1;
    }

pub returns-clause-room : goal.returns-clause-room
returns-clause-room g c =
    let s = c.args.self.now in
    ap is_some c.in_ok-place.ensures.answer ∙ placed c.args.pair.key s.places s.keys_distinct
    ∙ ap (λ n. not (no_room c.args.pair.key n (contents s.places))) s.sized

pub returns-clause-next : goal.returns-clause-next
returns-clause-next g c =
    let s = c.args.self.now in
    let put : c.replace-before.new.self ≡ Some c.args.pair = search rules in
    rw put (written c.args.pair.key s.places s.keys_distinct c.args.pair.value c.in_ok-place.place (sym c.in_ok-place.ensures.answer)).0

pub returns-clause-undone : goal.returns-clause-undone
returns-clause-undone g c =
    let s = c.args.self.now in
    let stood : c.replace-before.result ≡ slice_index_or s.places c.in_ok-place.place None = search rules in
    rw stood (set-set s.places c.in_ok-place.place _ _ ∙ set-get_or s.places c.in_ok-place.place None)
