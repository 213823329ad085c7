use Rattle.std.proofs.Common.{◌≡◌, rules, None, slice_index_or, is_some, sym, ap, ◌∙◌, length-set, set-set}
use Rattle.std.proofs.lemmas.List.{set-get_or}
use Rattle.stores.proofs.Writes.{held, freed}
use Rattle.stores.proofs.rows.Row.remove.Goals as goal

pub returns-in_err-place-clause-found : goal.returns-in_err-place-clause-found
returns-in_err-place-clause-found g c =
    let none : c.from_residual.result ≡ None = search rules in
    ap is_some none ∙ ap is_some c.in_err-place.ensures.answer ∙ held c.args.key c.args.self.now.places

pub invariant_of-self : goal.invariant_of-self
invariant_of-self g c =
    let s = c.args.self.now in
    let free : c.take-before.new.self ≡ None = search rules in
    record {
      sized = length-set s.places c.in_ok-place.place _ ∙ s.sized;
      keys_distinct = rw free (freed c.args.key s.places s.keys_distinct c.in_ok-place.place (sym c.in_ok-place.ensures.answer)).1;
    }

pub returns-clause-found : goal.returns-clause-found
returns-clause-found g c = ap is_some c.in_ok-place.ensures.answer ∙ held c.args.key c.args.self.now.places

pub returns-clause-next : goal.returns-clause-next
returns-clause-next g c =
    let s = c.args.self.now in
    let free : c.take-before.new.self ≡ None = search rules in
    rw free (freed c.args.key s.places s.keys_distinct c.in_ok-place.place (sym c.in_ok-place.ensures.answer)).0

pub returns-clause-undone : goal.returns-clause-undone
returns-clause-undone g c =
    let s = c.args.self.now in
    let stood : c.take-before.result ≡ slice_index_or s.places c.in_ok-place.place None = search rules in
    rw stood (set-set s.places c.in_ok-place.place _ _ ∙ set-get_or s.places c.in_ok-place.place None)
