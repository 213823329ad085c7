-- What is true of a call's outcome: shown where it is refused and where it goes on.
use Rattle.std.proofs.Common.{◌≡◌, ℕ, ◌+◌, Bool, true, cond, ◌&&◌, eqb, ltb, List, ◌++◌, map, length, is_some, Some, None, Ok, Err, Option, Result, refl, ap, ◌∙◌}
use Rattle.std.proofs.lemmas.Bool.{cond_both}
use Rattle.std.specs.List.{slice_get}
use Rattle.pools.specs.Pools.{put_last, nth_fitting, without_nth}
use Rattle.scripts.specs.declared.types.Operation.{Operation}
use Rattle.scripts.specs.Reading.{Part, read_script}
use Rattle.protocol.specs.declared.types.PartState.{PartState}
use Rattle.protocol.specs.declared.types.PartState.TheVariants.{Unsent, Waiting, Replied, TimedOut}
use Rattle.protocol.specs.declared.types.Reason.{Reason}
use Rattle.protocol.specs.Calls.{Outcome, accept, ordered, done, looked, timed_out, decided, heard, discarded, refuse_at, with_client, with_service, with_requests, with_replies, with_decisions, on_client, on_open, on_part, on_waiting, on_service, with_state, slot_of, unsent, order, posted, send, without_reply, get, expire, pending_from, all_replied, decisions_of, decide, make_ready, make_down, worked, work, still_waits, reply_looks, replied_with, reply, is_for, ended, take_decision, hear}
use Rattle.protocol.specs.Never.{held_slot}
use Rattle.protocol.specs.Site.{Site, Client, OpenPart, Hold, Service, Request, Reply, Decision, Slot, request_for, reply_for, decision_for}
use Rattle.protocol.specs.Site.Service.{down, ready, given, holding, promised}
use Rattle.protocol.proofs.Tables.{is_none}

-- cases of a value, with the equation kept
module _ {Y : Type 0} (P : Y → Type 0) where
  pub by_option : {X : Type 0} (o : Option X) (none : Y) (some : X → Y) → (o ≡ None → P none) → ((x : X) → o ≡ Some x → P (some x)) → P (elim o [ None ↦ none | Some x ↦ some x ])
  by_option None none some n s = n refl
  by_option (Some x) none some n s = s x refl

  pub by_result : {A E : Type 0} (r : Result A E) (ok : A → Y) (err : E → Y) → ((a : A) → r ≡ Ok a → P (ok a)) → ((e : E) → r ≡ Err e → P (err e)) → P (elim r [ Ok a ↦ ok a | Err e ↦ err e ])
  by_result (Ok a) ok err o e = o a refl
  by_result (Err x) ok err o e = e x refl

  pub by_state : (state : PartState) (u w r t : Y) → (state ≡ Unsent → P u) → (state ≡ Waiting → P w) → (state ≡ Replied → P r) → (state ≡ TimedOut → P t) → P (elim state [ Unsent ↦ u | Waiting ↦ w | Replied ↦ r | TimedOut ↦ t ])
  by_state Unsent u w r t pu pw pr pt = pu refl
  by_state Waiting u w r t pu pw pr pt = pw refl
  by_state Replied u w r t pu pw pr pt = pr refl
  by_state TimedOut u w r t pu pw pr pt = pt refl

  pub by_phase : (service : Service) (d r g : Y) (h p : Hold → Y) → (service ≡ down → P d) → (service ≡ ready → P r) → (service ≡ given → P g) → ((hold : Hold) → service ≡ holding hold → P (h hold)) → ((hold : Hold) → service ≡ promised hold → P (p hold)) → P (elim service [ down ↦ d | ready ↦ r | given ↦ g | holding hold ↦ h hold | promised hold ↦ p hold ])
  by_phase down d r g h p pd pr pg ph pp = pd refl
  by_phase ready d r g h p pd pr pg ph pp = pr refl
  by_phase given d r g h p pd pr pg ph pp = pg refl
  by_phase (holding hold) d r g h p pd pr pg ph pp = ph hold refl
  by_phase (promised hold) d r g h p pd pr pg ph pp = pp hold refl

-- a message for a part, and a request for it
abbrev pub reply_to : Slot → Option (List ℕ) → Reply
reply_to slot looks = record { client = slot.client; service = slot.service; number = slot.number; looks = looks }

abbrev pub request_of : Slot → List Operation → Request
request_of slot operations = record { client = slot.client; service = slot.service; number = slot.number; operations = operations }

-- a part's request put into its pool, or a timeout
pub by_posted : (slot : Slot) (operations : List Operation) (s : Site) (P : Site → Type 0)
    → P (with_replies (put_last 32 (reply_to slot None) s.replies) s)
    → (slice_get s.services slot.service ≡ Some ready → P (with_service slot.service given (with_requests (put_last 8 (request_of slot operations) s.requests) s)))
    → P (posted slot operations s)
by_posted slot operations s P timeout asked =
    by_option P (slice_get s.services slot.service) _ _ (λ _. timeout) (λ service there.
    by_phase P service _ _ _ _ _ (λ _. timeout) (λ is_ready. asked (there ∙ ap Some is_ready)) (λ _. timeout) (λ _ _. timeout) (λ _ _. timeout))

-- a service's answer put into its pool, or none
pub by_replied : (slot : Slot) (looks : Option (List ℕ)) (s : Site) (P : Site → Type 0)
    → P s
    → (still_waits slot s ≡ true → nth_fitting reply_for slot 0 s.replies ≡ None → P (with_replies (put_last 32 (reply_to slot looks) s.replies) s))
    → P (replied_with slot looks s)
by_replied slot looks s P silent told =
    cond_both (still_waits slot s) _ _ P (λ waiting.
    cond_both (is_some (nth_fitting reply_for slot 0 s.replies)) _ _ P (λ _. silent) (λ none. told waiting (is_none _ none)))
    (λ _. silent)

-- what is shown of a part of an open transaction that is in this state
abbrev pub AtPart : Site → ℕ → ℕ → PartState → (Client → List OpenPart → OpenPart → Type 0) → Type 0
AtPart s c p state Q = (client : Client) (parts : List OpenPart) (part : OpenPart) → slice_get s.clients c ≡ Some client → client.parts ≡ Some parts → slice_get parts p ≡ Some part → part.state ≡ state → Q client parts part

-- a statement about outcomes that holds of every refusal of the site s: each call, where it is accepted
module _ (s : Site) (P : Outcome → Type 0) (refused : (place : ℕ) (reason : Reason) → P (refuse_at place reason s)) where
  pub by_client : (c : ℕ) (go : Client → Outcome) → ((client : Client) → slice_get s.clients c ≡ Some client → P (go client)) → P (on_client c s go)
  by_client c go each = by_option P (slice_get s.clients c) _ go (λ _. refused 0 _) each

  pub by_open : (c : ℕ) (go : Client → List OpenPart → Outcome) → ((client : Client) (parts : List OpenPart) → slice_get s.clients c ≡ Some client → client.parts ≡ Some parts → P (go client parts)) → P (on_open c s go)
  by_open c go each = by_client c _ (λ client e. by_option P client.parts _ (go client) (λ _. refused 0 _) (λ parts f. each client parts e f))

  pub by_part : (c p : ℕ) (go : Client → List OpenPart → OpenPart → Outcome) → ((client : Client) (parts : List OpenPart) (part : OpenPart) → slice_get s.clients c ≡ Some client → client.parts ≡ Some parts → slice_get parts p ≡ Some part → P (go client parts part)) → P (on_part c p s go)
  by_part c p go each = by_open c _ (λ client parts e f. by_option P (slice_get parts p) _ (go client parts) (λ _. refused 0 _) (λ part g. each client parts part e f g))

  pub by_waiting : (c p : ℕ) (go : Client → List OpenPart → OpenPart → Outcome) → AtPart s c p Waiting (λ client parts part. P (go client parts part)) → P (on_waiting c p s go)
  by_waiting c p go each =
      by_part c p _ (λ client parts part e f g.
      by_state P part.state _ _ _ _ (λ _. refused 0 _) (each client parts part e f g) (λ _. refused 0 _) (λ _. refused 0 _))

  pub by_service : (v : ℕ) (go : Service → Outcome) → ((service : Service) → slice_get s.services v ≡ Some service → P (go service)) → P (on_service v s go)
  by_service v go each = by_option P (slice_get s.services v) _ go (λ _. refused 0 _) each

  by_phases : (v : ℕ) (d r g : Outcome) (h p : Hold → Outcome) → (slice_get s.services v ≡ Some down → P d) → (slice_get s.services v ≡ Some ready → P r) → (slice_get s.services v ≡ Some given → P g) → ((hold : Hold) → slice_get s.services v ≡ Some (holding hold) → P (h hold)) → ((hold : Hold) → slice_get s.services v ≡ Some (promised hold) → P (p hold)) → P (on_service v s (λ service. elim service [ down ↦ d | ready ↦ r | given ↦ g | holding hold ↦ h hold | promised hold ↦ p hold ]))
  by_phases v d r g h p pd pr pg ph pp =
      by_service v _ (λ service e.
      by_phase P service d r g h p (λ is. pd (e ∙ ap Some is)) (λ is. pr (e ∙ ap Some is)) (λ is. pg (e ∙ ap Some is)) (λ hold is. ph hold (e ∙ ap Some is)) (λ hold is. pp hold (e ∙ ap Some is)))

  pub by_decision : (v n : ℕ) (go : Decision → Site → Outcome) → ((d : Decision) → nth_fitting decision_for v n s.decisions ≡ Some d → P (go d (with_decisions (without_nth decision_for v n s.decisions) s))) → P (take_decision v n s go)
  by_decision v n go each = by_option P (nth_fitting decision_for v n s.decisions) _ _ (λ _. refused 0 _) each

  pub by_order : (c : ℕ) (script : List ℕ) → ((client : Client) (parts : List Part) → slice_get s.clients c ≡ Some client → client.parts ≡ None → read_script (length s.services) script ≡ Ok parts → P (accept (ordered client.number) (with_client c (record { number = client.number; parts = Some (map unsent parts) }) s))) → P (order c script s)
  by_order c script each =
      by_client c _ (λ client there.
      by_option P client.parts _ _ (λ idle.
      cond_both (eqb client.number 4294967295) _ _ P (λ _. refused 0 _) (λ _.
      by_result P (read_script (length s.services) script) _ _ (λ parts accepted. each client parts there idle accepted) (λ _ _. refused _ _)))
      (λ _ _. refused 0 _))

  pub by_send : (c p : ℕ) → AtPart s c p Unsent (λ client parts part. P (accept done (posted (slot_of c client part) part.operations (with_state c p Waiting client parts part s)))) → P (send c p s)
  by_send c p each =
      by_part c p _ (λ client parts part e f g.
      by_state P part.state _ _ _ _ (each client parts part e f g) (λ _. refused 0 _) (λ _. refused 0 _) (λ _. refused 0 _))

  pub by_get : (c p room : ℕ)
      → AtPart s c p Waiting (λ client parts part. P (accept timed_out (without_reply (slot_of c client part) (with_state c p TimedOut client parts part s))))
      → AtPart s c p Waiting (λ client parts part. (r : Reply) (looks : List ℕ) → nth_fitting reply_for (slot_of c client part) 0 s.replies ≡ Some r → r.looks ≡ Some looks → P (accept (looked looks) (without_reply (slot_of c client part) (with_state c p Replied client parts part s))))
      → P (get c p room s)
  by_get c p room silent told =
      by_waiting c p _ (λ client parts part e f g waits.
      by_option P (nth_fitting reply_for (slot_of c client part) 0 s.replies) _ _ (λ _. refused 0 _) (λ r taken.
      by_option P r.looks _ _ (λ _. silent client parts part e f g waits) (λ looks looks_are.
      cond_both (ltb room (length looks)) _ _ P (λ _. refused 0 _) (λ _. told client parts part e f g waits r looks taken looks_are))))

  pub by_expire : (c p : ℕ) → AtPart s c p Waiting (λ client parts part. P (accept done (without_reply (slot_of c client part) (with_state c p TimedOut client parts part s)))) → P (expire c p s)
  by_expire c p each = by_waiting c p _ each

  pub by_decide : (c : ℕ) (wish : Bool) → ((client : Client) (parts : List OpenPart) → slice_get s.clients c ≡ Some client → client.parts ≡ Some parts → pending_from 0 parts ≡ None → P (accept (decided (wish && all_replied parts)) (with_decisions (s.decisions ++ decisions_of c client.number (wish && all_replied parts) parts) (with_client c (record { number = client.number + 1; parts = None }) s)))) → P (decide c wish s)
  by_decide c wish each =
      by_open c _ (λ client parts e f.
      by_option P (pending_from 0 parts) _ _ (λ none.
      cond_both (ltb 64 (length s.decisions + length parts)) _ _ P (λ _. refused 0 _) (λ _. each client parts e f none))
      (λ _ _. refused _ _))

  pub by_ready : (v : ℕ) → (slice_get s.services v ≡ Some down → P (accept done (with_service v ready s))) → P (make_ready v s)
  by_ready v each = by_phases v _ _ _ _ _ each (λ _. refused 0 _) (λ _. refused 0 _) (λ _ _. refused 0 _) (λ _ _. refused 0 _)

  pub by_down : (v : ℕ) → (slice_get s.services v ≡ Some ready → P (accept done (with_service v down s))) → P (make_down v s)
  by_down v each = by_phases v _ _ _ _ _ (λ _. refused 0 _) each (λ _. refused 0 _) (λ _ _. refused 0 _) (λ _ _. refused 0 _)

  pub by_work : (v : ℕ) → ((r : Request) → slice_get s.services v ≡ Some given → nth_fitting request_for v 0 s.requests ≡ Some r → P (worked v r s)) → P (work v s)
  by_work v each =
      by_phases v _ _ _ _ _ (λ _. refused 0 _) (λ _. refused 0 _)
      (λ e. by_option P (nth_fitting request_for v 0 s.requests) _ _ (λ _. refused 0 _) (λ r taken. each r e taken))
      (λ _ _. refused 0 _) (λ _ _. refused 0 _)

  pub by_reply : (v : ℕ) (passed : Bool) → ((hold : Hold) → slice_get s.services v ≡ Some (holding hold) → P (accept done (with_service v (promised hold) (replied_with (held_slot v hold) (reply_looks hold.vote passed hold.looks) s)))) → P (reply v passed s)
  by_reply v passed each = by_phases v _ _ _ _ _ (λ _. refused 0 _) (λ _. refused 0 _) (λ _. refused 0 _) each (λ _ _. refused 0 _)

  pub by_hear : (v n : ℕ)
      → ((d : Decision) → nth_fitting decision_for v n s.decisions ≡ Some d → P (accept (heard discarded) (with_decisions (without_nth decision_for v n s.decisions) s)))
      → ((hold : Hold) (d : Decision) → nth_fitting decision_for v n s.decisions ≡ Some d → slice_get s.services v ≡ Some (promised hold) → is_for hold.transaction d ≡ true → P (ended v d.commits (with_decisions (without_nth decision_for v n s.decisions) s)))
      → P (hear v n s)
  by_hear v n drops obeys =
      by_phases v _ _ _ _ _ (λ _. dropped) (λ _. dropped) (λ _. refused 0 _) (λ _ _. refused 0 _)
      (λ hold e. by_decision v n (λ d t. cond (is_for hold.transaction d) (ended v d.commits t) (accept (heard discarded) t)) (λ d taken. cond_both (is_for hold.transaction d) _ _ P (obeys hold d taken e) (λ _. drops d taken)))
    where
      dropped : P (take_decision v n s (λ _ t. accept (heard discarded) t))
      dropped = by_decision v n (λ _ t. accept (heard discarded) t) drops
