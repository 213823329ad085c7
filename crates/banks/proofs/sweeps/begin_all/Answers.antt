use Rattle.std.proofs.Common.{is_err, refl, sym, ap, ◌∙◌, arith}
use Rattle.stores.specs.Store.{roll_back_step}
use Rattle.banks.proofs.Turns.{begun_refused, begun_more, told_none}
use Rattle.banks.proofs.sweeps.begin_all.Goals as goal

pub returns-then-is_err : goal.returns-then-is_err
returns-then-is_err g c =
    let told = begun_refused _ _ _ c.loop-service.invariant _ (omega arith) c.begin.ensures.next (ap is_err (sym c.begin.ensures.answer) ∙ sym c.if-is_err.ensures.value) in
    record { answer = sym told.0; next = c.on_first.ensures refl roll_back_step (λ _ _ _ _ _ called. called.1) ∙ told.1 }

pub loop-service-preserved : goal.loop-service-preserved
loop-service-preserved g c =
    begun_more _ _ _ c.loop-service.invariant _ c.begin.ensures.next (ap is_err (sym c.begin.ensures.answer) ∙ sym c.if-is_err.ensures.value)

pub returns-clause-next : goal.returns-clause-next
returns-clause-next g c = sym (told_none _ _ _ c.loop-service.invariant (omega arith)).1
