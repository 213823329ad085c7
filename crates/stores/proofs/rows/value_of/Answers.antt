use Rattle.std.proofs.Common.{◌≡◌, rules, None, sym, ◌∙◌}
use Rattle.stores.proofs.Writes.{absent, present}
use Rattle.stores.proofs.rows.value_of.Goals as goal

pub returns-in_err-place_of : goal.returns-in_err-place_of
returns-in_err-place_of c =
    let none : c.from_residual.result ≡ None = search rules in
    none ∙ sym (absent c.args.key c.args.places.now (sym c.in_err-place_of.ensures.answer))

pub returns : goal.returns
returns c =
    let there = present c.args.key c.args.places.now c.in_ok-place_of.field-0 (sym c.in_ok-place_of.ensures.answer) in
    let mapped : c.map.result ≡ _ = search rules in
    mapped ∙ there
