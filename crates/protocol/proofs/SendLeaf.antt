-- SEND keeps the invariant: the part waits, and its service is given the request or its client a timeout.
use Rattle.std.proofs.Common.{◌≡◌, ℕ, ◌<◌, List, Some, None, sym, refl, ap, ◌∙◌, subst, arith}
use Rattle.std.proofs.lemmas.Option.{none-some}
use Rattle.std.specs.List.{slice_get}
use Rattle.stores.specs.Store.{StoreModel}
use Rattle.banks.specs.Bank.{BankModel}
use Rattle.pools.specs.Pools.{put_last}
use Rattle.scripts.specs.Reading.{Part}
use Rattle.protocol.specs.declared.types.PartState.TheVariants.{Waiting}
use Rattle.protocol.specs.Calls.{with_service, with_requests, with_replies, with_state, slot_of, posted}
use Rattle.protocol.specs.Kept.{Kept}
use Rattle.protocol.specs.Ledger.{Ledger, with_engagement, engage, sent}
use Rattle.protocol.specs.Ledger.Engagement.{on, engaged}
use Rattle.protocol.specs.Ledger.Fate.{undecided, to_commit}
use Rattle.protocol.specs.Runs.Call.{SEND}
use Rattle.protocol.specs.Site.{Site, Client, OpenPart, Transaction, Service, Request, Reply}
use Rattle.protocol.specs.Site.Service.{down, ready, given, holding, promised}
use Rattle.protocol.proofs.Effects.{kept_sent}
use Rattle.protocol.proofs.Guards.{reply_to, request_of, by_option, by_phase, by_send}
use Rattle.protocol.proofs.Invariant.{named, HasPart, entries, Fits, Asks, Open, Inv, KeptAfter, Keeps}
use Rattle.protocol.proofs.PartPlaces.{entry_part}
use Rattle.protocol.proofs.Phases.{asks_stay, phase_keeps}
use Rattle.protocol.proofs.Pieces.{message_keeps, state_keeps}
use Rattle.protocol.proofs.Tables.{nth_below, beside, put_here, put_there}
use Rattle.protocol.proofs.Taking.{by_last}

-- what the ledger makes of it
sent_is : (l : Ledger) (c p t v : ℕ) (part : Part) → l.newest c ≡ Some t → slice_get (l.parts t) p ≡ Some part → part.service ≡ v → sent c p l ≡ engage t v l
sent_is l c p t v part newest has serves = rw (newest, sent) (rw has (ap (λ x. engage t x l) serves))

-- a request of an entry for a Ready service
module _ (start : BankModel) (s : Site) (l : Ledger) (N : ℕ → Transaction) (r : Request) (t : ℕ) (there : slice_get s.services r.service ≡ Some ready) (low : t < l.entered) (name : N t ≡ named r.client r.number) (pending : l.fate t ≡ undecided) (has_part : HasPart (l.parts t) r.service r.operations) (is_on : l.service r.service ≡ on) (k : Kept s) (I : Inv start s l N) where
  abbrev engaging : Ledger
  engaging = with_engagement r.service (engaged t) l

  request_keeps : Inv start (with_service r.service given (with_requests (put_last 8 r s.requests) s)) engaging N
  request_keeps =
      phase_keeps start s l N r.service ready given (put_last 8 r s.requests) engaging.service k I there (λ h e. grind arith) (λ u other. put_there l.service r.service u (engaged t) other)
      (λ m f. (fits_here m f.1, rw (put_here l.service r.service (engaged t), pending, is_on) refl))
      (by_last (λ x. Asks (entries N l) (engaging.service x.service) x) 8 r s.requests asks_here (asks_stay start s l N r.service ready (engaged t) k I there (λ e. grind arith)))
    where
      uncommitted : l.fate t ≡ to_commit → ⊥
      uncommitted e = grind arith

      fits_here : (n : StoreModel) → n.trial ≡ None → Fits (entries N l) r.service given (engaging.service r.service) n
      fits_here n closed = record {
        entry = t;
        operations = r.operations;
        is_engaged = put_here l.service r.service (engaged t);
        entered = low;
        has_part = has_part;
        unrun = uncommitted;
        closed = closed;
      }

      asks_here : Asks (entries N l) (engaging.service r.service) r
      asks_here = record { entry = t; is_engaged = put_here l.service r.service (engaged t); entered = low; name = name; has_part = has_part }

-- an unsent part is sent
module _ (start : BankModel) (s : Site) (l : Ledger) (N : ℕ → Transaction) (k : Kept s) (I : Inv start s l N) (c p : ℕ) (client : Client) (parts : List OpenPart) (part : OpenPart) (there : slice_get s.clients c ≡ Some client) (is_open : client.parts ≡ Some parts) (has : slice_get parts p ≡ Some part) where
  waiting_keeps : Inv start (with_state c p Waiting client parts part s) l N
  waiting_keeps = state_keeps start s l N I c p client parts part there is_open has Waiting (λ e. grind arith)

  -- the ledger engages its service, if it is on
  posted_keeps : Inv start (posted (slot_of c client part) part.operations (with_state c p Waiting client parts part s)) (sent c p l) N
  posted_keeps =
      by_option So (slice_get s.services v) _ _ (λ e. absurd (missing e)) (λ service at.
      by_phase So service _ _ _ _ _
      (λ is. timeout (rw ((fit service down at is).0, engage) refl))
      (λ is. asked (at ∙ ap Some is) (fit service ready at is).0)
      (λ is. timeout (rw ((fit service given at is).is_engaged, engage) refl))
      (λ hold is. timeout (rw ((fit service (holding hold) at is).is_engaged, engage) refl))
      (λ hold is. timeout (rw ((fit service (promised hold) at is).is_engaged, engage) refl)))
    where
      So : Site → Type 0
      So x = Inv start x (sent c p l) N

      open_entry : Open (entries N l) (l.newest c) c client.number parts
      open_entry = I.opens c client parts there is_open

      t : ℕ
      t = open_entry.entry

      v : ℕ
      v = part.service

      waiting : Site
      waiting = with_state c p Waiting client parts part s

      mine : (q : Part) × (slice_get (l.parts t) p ≡ Some q) × (q.service ≡ v) × (q.operations ≡ part.operations)
      mine = entry_part parts (l.parts t) p part open_entry.parts_alike has

      engages : sent c p l ≡ engage t v l
      engages = sent_is l c p t v mine.0 open_entry.is_newest mine.1 mine.2

      missing : slice_get s.services v ≡ None → ⊥
      missing none =
          let (service, some) = nth_below s.services v ((k.parts c client parts there is_open).known p part has) in
          none-some service (sym none ∙ some)

      store : (service : Service) → slice_get s.services v ≡ Some service → (m : StoreModel) × (slice_get s.stores v ≡ Some m)
      store service at = beside s.services s.stores v service k.services at

      fit : (service phase : Service) (at : slice_get s.services v ≡ Some service) → service ≡ phase → Fits (entries N l) v phase (l.service v) (store service at).0
      fit service phase at is = I.fits v phase (store service at).0 (at ∙ ap Some is) (store service at).1

      message : Reply
      message = reply_to (slot_of c client part) None

      request : Request
      request = request_of (slot_of c client part) part.operations

      timeout : engage t v l ≡ l → So (with_replies (put_last 32 message s.replies) waiting)
      timeout stays =
          subst (λ x. Inv start (with_replies (put_last 32 message s.replies) waiting) x N) (sym (engages ∙ stays))
          (message_keeps start waiting l N message (λ looks e. grind arith) waiting_keeps)

      asked : slice_get s.services v ≡ Some ready → l.service v ≡ on → So (with_service v given (with_requests (put_last 8 request s.requests) waiting))
      asked at is_on =
          let engage_on : engage t v l ≡ with_engagement v (engaged t) l = rw (is_on, engage) refl in
          subst (λ x. Inv start (with_service v given (with_requests (put_last 8 request s.requests) waiting)) x N) (sym (engages ∙ engage_on))
          (request_keeps start waiting l N request t at open_entry.entered open_entry.name open_entry.pending (record { place = p; part = mine.0; there = mine.1; service = mine.2; does = mine.3 }) is_on (kept_sent c p client parts part s there is_open has k) waiting_keeps)

pub send_keeps : (c p : ℕ) → Keeps (SEND c p)
send_keeps c p start s l N k I =
    by_send s (KeptAfter start s l (SEND c p)) (λ _ _. (N, I)) c p (λ client parts part there is_open has _. (N, posted_keeps start s l N k I c p client parts part there is_open has))
