-- Every run from an opening is regular: no call comes to a case in which its definition merely chooses an answer.
use Rattle.std.proofs.Common.{◌≡◌, ℕ, List, [], ◌∷◌, is_some, refl, ap, arith}
use Rattle.std.proofs.lemmas.Option.{slice_get_past}
use Rattle.pools.specs.Pools.{fitting}
use Rattle.protocol.specs.declared.types.PartState.TheVariants.{Waiting}
use Rattle.protocol.specs.Site.{Site, request_for, reply_for, opened_site}
use Rattle.protocol.specs.Site.Service.{given, holding, promised}
use Rattle.protocol.specs.Calls.{slot_of, with_state}
use Rattle.protocol.specs.Kept.{due, Kept}
use Rattle.protocol.specs.Law.{tell}
use Rattle.protocol.specs.Ledger.{Ledger, add}
use Rattle.protocol.specs.Never.{held_slot, Regular, RegularRuns}
use Rattle.protocol.specs.Runs.{Call, perform, play}
use Rattle.protocol.proofs.Effects.{kept_sent, sent_waits, unsent_none}
use Rattle.protocol.proofs.KeptFacts.{kept_opened, kept_played}
use Rattle.protocol.proofs.Quiet.{Quiet, quiet_opened, quiet_played}
use Rattle.protocol.proofs.Room.{bounds}
use Rattle.protocol.proofs.Tables.{is_none, first_none, nth_below, beside}
use Rattle.protocol.proofs.Trials.{Trials, trials_opened, trials_played}

pub regular_from : (s : Site) → Kept s → Quiet s → Trials s → Regular s
regular_from s k q t = record {
  stored = λ v service e. let (m, there) = beside s.services s.stores v service k.services e in ap is_some there;
  served = λ c p client parts part e f g. ap is_some (nth_below s.services part.service ((k.parts c client parts e f).known p part g)).1;
  asked = λ v e. ap is_some (nth_below (fitting request_for v s.requests) 0 (omega (arith, k.requests v, ap due e))).1;
  closed = λ v m e f. is_none m.trial (t v given e m f);
  held_open = λ v hold m e f. t v (holding hold) e m f;
  promised_open = λ v hold m e f. t v (promised hold) e m f;
  addressed = λ v hold e. ap is_some (nth_below s.clients hold.transaction.client (q.held v (holding hold) e hold refl).known).1;
  unanswered = λ v hold e. slice_get_past (fitting reply_for (held_slot v hold) s.replies) 0 (omega (arith, (q.held v (holding hold) e hold refl).unanswered));
  request_room = (bounds s k).request_room;
  timeout_room = λ c p client parts part e f g unsent.
      (bounds (with_state c p Waiting client parts part s) (kept_sent c p client parts part s e f g k)).reply_room (slot_of c client part)
      (sent_waits c p client parts part s e f g k) (unsent_none c p client parts part s e f g k unsent);
  reply_room = λ slot waiting none. (bounds s k).reply_room slot waiting (first_none (fitting reply_for slot s.replies) none);
}

pub regular_runs : RegularRuns
regular_runs firsts stores calls eight sound =
    let opened : Kept (opened_site firsts stores) = kept_opened firsts stores eight sound.not_empty sound.not_many in
    regular_from _ (kept_played calls _ opened) (quiet_played calls _ opened (quiet_opened firsts stores)) (trials_played calls _ opened (trials_opened firsts stores))

-- the run that the law tells of is the run that is played
pub told_site : (services : ℕ) (calls : List Call) (s : Site) (l : Ledger) → (tell services calls s l).site ≡ (play calls s).site
told_site services [] s l = refl
told_site services (call ∷ calls) s l = told_site services calls (perform call s).next (add services call (perform call s).answer l)
