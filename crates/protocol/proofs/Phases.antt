-- A service that changes its phase keeps the invariant, if it answers no open transaction.
use Rattle.std.proofs.Common.{◌≡◌, ℕ, true, ◌≢◌, ◌⊎◌, List, set, Some, None, Option, sym, refl, ap, ◌∙◌, subst, inl, inr, arith}
use Rattle.std.proofs.lemmas.Bool.{cases_eq}
use Rattle.std.proofs.lemmas.Bool.Decides.{nat_tests}
use Rattle.std.proofs.lemmas.Option.{same_Some}
use Rattle.std.specs.Option.{option_map}
use Rattle.std.specs.List.{slice_get, AllByRecursion}
use Rattle.stores.specs.Store.{StoreModel}
use Rattle.banks.specs.Bank.{BankModel}
use Rattle.protocol.specs.Calls.{client_waits}
use Rattle.protocol.specs.Kept.{Kept}
use Rattle.protocol.specs.Ledger.{Ledger, Engagement, Act, put_at}
use Rattle.protocol.specs.Site.{Site, Client, OpenPart, Transaction, Hold, Service, Request, Decision}
use Rattle.protocol.specs.Site.Service.{given, promised}
use Rattle.protocol.proofs.Invariant.{Acted, named, entries, Fits, PromisedYes, Decides, settled_store, Inv, Asks}
use Rattle.protocol.proofs.Lines.{SameEntry, same_entries, same_file, same_right}
use Rattle.protocol.proofs.Pieces.{promise_stays}
use Rattle.protocol.proofs.Room.{bounds}
use Rattle.protocol.proofs.Tables.{put_there, by_place, beside}

-- who waits has an open transaction under that number
waits_open : (v number : ℕ) (o : Option Client) → client_waits v number o ≡ true → (k : Client) × (ps : List OpenPart) × (o ≡ Some k) × (k.parts ≡ Some ps) × (k.number ≡ number)
waits_open v number None w = absurd (grind arith)
waits_open v number (Some k) w = go k.parts refl
  where
    go : (parts : Option (List OpenPart)) → k.parts ≡ parts → (k' : Client) × (ps : List OpenPart) × (Some k ≡ Some k') × (k'.parts ≡ Some ps) × (k'.number ≡ number)
    go None e = absurd (grind (arith, nat_tests))
    go (Some ps) e = (k, ps, refl, e, grind (arith, nat_tests))

-- a site and a ledger once service v is in phase `new`
abbrev pub moved_site : Site → ℕ → Service → List Request → List Decision → BankModel → Site
moved_site s v new requests decisions stores = record { clients = s.clients; services = set s.services v new; requests = requests; replies = s.replies; decisions = decisions; stores = stores }

abbrev pub moved_ledger : Ledger → (ℕ → Engagement) → List Act → Ledger
moved_ledger l engagements acts = record { entered = l.entered; parts = l.parts; newest = l.newest; fate = l.fate; line = l.line; service = engagements; noted = l.noted; acts = acts }

-- what makes the move harmless: the old phase answers no open transaction, what is new fits, the settled pairs stay, and other services do not see it
pub record Harmless (s : Site) (l : Ledger) (N : ℕ → Transaction) (v : ℕ) (new : Service) (requests : List Request) (decisions : List Decision) (stores : BankModel) (engagements : ℕ → Engagement) (acts : List Act) : Type 0 where
  pub old : Service
  pub was : StoreModel
  pub now : StoreModel
  pub there : slice_get s.services v ≡ Some old
  pub store_was : slice_get s.stores v ≡ Some was
  pub store_now : slice_get stores v ≡ Some now
  pub others_stay : (u : ℕ) → u ≢ v → slice_get stores u ≡ slice_get s.stores u
  pub others_engaged : (u : ℕ) → u ≢ v → engagements u ≡ l.service u
  pub not_awaited : (c : ℕ) (k : Client) (ps : List OpenPart) (hold : Hold) → slice_get s.clients c ≡ Some k → k.parts ≡ Some ps → old ≡ promised hold → hold.transaction ≡ named c k.number → ⊥
  pub fits_now : Fits (entries N l) v new (engagements v) now
  pub settles : settled_store l (engagements v) now ≡ settled_store l (l.service v) was
  pub asked : (j : ℕ) (r : Request) → slice_get requests j ≡ Some r → Asks (entries N l) (engagements r.service) r
  pub told : (j : ℕ) (d : Decision) → slice_get decisions j ≡ Some d → Decides (entries N l) d
  pub done : AllByRecursion (Acted l) acts

pub moved : (start : BankModel) (s : Site) (l : Ledger) (N : ℕ → Transaction) (v : ℕ) (new : Service) (requests : List Request) (decisions : List Decision) (stores : BankModel) (engagements : ℕ → Engagement) (acts : List Act) → Kept s → Inv start s l N → Harmless s l N v new requests decisions stores engagements acts → Inv start (moved_site s v new requests decisions stores) (moved_ledger l engagements acts) N
moved start s l N v new requests decisions stores engagements acts k I h = record {
  unique = I.unique;
  pending_open = I.pending_open;
  decided_past = I.decided_past;
  fresh = I.fresh;
  opens = I.opens;
  answered = λ c t p client ps part there is_open has replied newest.
      let (looks, noted, was) = I.answered c t p client ps part there is_open has replied newest in
      (looks, noted, still part.service (named c client.number) looks (λ hold promised_for. h.not_awaited c client ps hold there is_open promised_for) was);
  fits = λ u x m phase store. by_place (λ w y. (n : StoreModel) → slice_get stores w ≡ Some n → Fits (entries N l) w y (engagements w) n) s.services v h.old new h.there fits_here fits_there u x phase m store;
  asks = h.asked;
  says = λ j r looks waits has.
      let (client, ps, there, is_open, number) = waits_open r.service r.number (slice_get s.clients r.client) ((bounds s k).awaited j r waits) in
      still r.service (named r.client r.number) looks (λ hold promised_for same. h.not_awaited r.client client ps hold there is_open promised_for (same ∙ ap (named r.client) (sym number))) (I.says j r looks waits has);
  tells = h.told;
  done = h.done;
  in_line = I.in_line;
  right = same_right l (moved_ledger l engagements acts) start l.line same_line I.right;
  settled = λ u. ap (λ stores. slice_get stores u) (same_file l (moved_ledger l engagements acts) start l.line same_line) ∙ I.settled u ∙ settled u (cases_eq u v);
}
  where
    same_line : AllByRecursion (SameEntry l (moved_ledger l engagements acts)) l.line
    same_line = same_entries l (moved_ledger l engagements acts) l.line refl refl

    -- another service's promise stands, and this one's is none that is awaited
    still : (u : ℕ) (t : Transaction) (looks : List ℕ) → ((hold : Hold) → h.old ≡ promised hold → hold.transaction ≡ t → ⊥) → PromisedYes s.services u t looks → PromisedYes (set s.services v new) u t looks
    still u t looks = promise_stays s.services v u h.old new t looks h.there

    fits_here : (n : StoreModel) → slice_get stores v ≡ Some n → Fits (entries N l) v new (engagements v) n
    fits_here n store =
        let is_now = same_Some h.now n (sym h.store_now ∙ store) in
        subst (Fits (entries N l) v new (engagements v)) is_now h.fits_now

    fits_there : (w : ℕ) (y : Service) → w ≢ v → slice_get s.services w ≡ Some y → (n : StoreModel) → slice_get stores w ≡ Some n → Fits (entries N l) w y (engagements w) n
    fits_there w y other phase n store = subst (λ e. Fits (entries N l) w y e n) (sym (h.others_engaged w other)) (I.fits w y n phase (sym (h.others_stay w other) ∙ store))

    settled : (u : ℕ) → (u ≡ v) ⊎ (u ≡ v → ⊥) → option_map (settled_store l (l.service u)) (slice_get s.stores u) ≡ option_map (settled_store (moved_ledger l engagements acts) (engagements u)) (slice_get stores u)
    settled u (inl same) = rw (same, h.store_was, h.store_now) (ap Some (sym h.settles))
    settled u (inr other) = rw (h.others_engaged u other, h.others_stay u other) refl

-- requests wait for Given services alone, so they do not see the engagement of another
pub asks_stay : (start : BankModel) (s : Site) (l : Ledger) (N : ℕ → Transaction) (v : ℕ) (old : Service) (e : Engagement) → Kept s → Inv start s l N → slice_get s.services v ≡ Some old → (old ≡ given → ⊥) → (j : ℕ) (r : Request) → slice_get s.requests j ≡ Some r → Asks (entries N l) (put_at l.service v e r.service) r
asks_stay start s l N v old e k I there not_given j r waits = subst (λ x. Asks (entries N l) x r) (sym (put_there l.service v r.service e apart)) (I.asks j r waits)
  where
    apart : r.service ≢ v
    apart same = not_given (same_Some old given (sym there ∙ ap (slice_get s.services) (sym same) ∙ (bounds s k).asked j r waits))

-- a service that has promised nothing, and whose store and decisions stay
pub phase_keeps : (start : BankModel) (s : Site) (l : Ledger) (N : ℕ → Transaction) (v : ℕ) (old new : Service) (requests : List Request) (engagements : ℕ → Engagement) → Kept s → Inv start s l N → slice_get s.services v ≡ Some old → ((hold : Hold) → old ≡ promised hold → ⊥) → ((u : ℕ) → u ≢ v → engagements u ≡ l.service u) → ((m : StoreModel) → Fits (entries N l) v old (l.service v) m → Fits (entries N l) v new (engagements v) m × (settled_store l (engagements v) m ≡ settled_store l (l.service v) m)) → ((j : ℕ) (r : Request) → slice_get requests j ≡ Some r → Asks (entries N l) (engagements r.service) r) → Inv start (moved_site s v new requests s.decisions s.stores) (moved_ledger l engagements l.acts) N
phase_keeps start s l N v old new requests engagements k I there not_promised others_engaged fitting asked =
    let (m, stored) = beside s.services s.stores v old k.services there in
    let (fits_now, settles) = fitting m (I.fits v old m there stored) in
    moved start s l N v new requests s.decisions s.stores engagements l.acts k I (record {
      old = old;
      was = m;
      now = m;
      there = there;
      store_was = stored;
      store_now = stored;
      others_stay = λ u _. refl;
      others_engaged = others_engaged;
      not_awaited = λ c client ps hold _ _ phases _. not_promised hold phases;
      fits_now = fits_now;
      settles = settles;
      asked = asked;
      told = I.tells;
      done = I.done;
    })
