-- ORDER keeps the invariant, under names that have grown by one.
use Rattle.std.proofs.Common.{◌≡◌, ℕ, suc, ◌<◌, true, ◌⊎◌, List, [], ◌∷◌, map, is_some, Some, None, sym, refl, ap, ◌∙◌, subst, inl, inr, arith}
use Rattle.std.proofs.ByRecursion.{All-weaker}
use Rattle.std.proofs.lemmas.Bool.{false≢true, cases_eq}
use Rattle.std.proofs.lemmas.Option.{same_Some}
use Rattle.std.specs.List.{slice_get, AllByRecursion}
use Rattle.banks.specs.Bank.{BankModel}
use Rattle.banks.proofs.OneStore.{nth_set_same}
use Rattle.scripts.specs.Reading.{Part}
use Rattle.protocol.specs.declared.types.PartState.TheVariants.{Replied}
use Rattle.protocol.specs.Calls.{with_client, unsent}
use Rattle.protocol.specs.Ledger.{Ledger, put_at, enter}
use Rattle.protocol.specs.Ledger.Fate.{undecided}
use Rattle.protocol.specs.Runs.Call.{ORDER}
use Rattle.protocol.specs.Site.{Site, Client, OpenPart, Transaction}
use Rattle.protocol.proofs.Guards.{by_order}
use Rattle.protocol.proofs.Invariant.{Acted, Committed, named, AlikeParts, entries, Open, Noted, Inv, KeptAfter, Keeps}
use Rattle.protocol.proofs.LaterEntries.{Later, fits_later, open_later, asks_later, decides_later}
use Rattle.protocol.proofs.Lines.{SameEntry, same_right, same_settled, settled_still}
use Rattle.protocol.proofs.Tables.{by_place, put_here, put_there, by_map}

-- a new transaction's parts are those of its script, and none is answered
alike_unsent : (parts : List Part) → AlikeParts (map unsent parts) parts
alike_unsent [] = tt
alike_unsent (p ∷ parts) = (refl, refl, alike_unsent parts)

unsent_silent : (parts : List Part) (p : ℕ) (part : OpenPart) → slice_get (map unsent parts) p ≡ Some part → part.state ≡ Replied → ⊥
unsent_silent parts = by_map (λ part. part.state ≡ Replied → ⊥) unsent parts (λ _ e. grind arith)

-- the ledger with one entry more
abbrev with_entry : ℕ → List Part → Ledger → Ledger
with_entry c parts l = record {
  entered = suc l.entered;
  parts = put_at l.parts l.entered parts;
  newest = put_at l.newest c (Some l.entered);
  fate = l.fate;
  line = l.line;
  service = l.service;
  noted = l.noted;
  acts = l.acts;
}

-- an idle client's new transaction
module _ (start : BankModel) (s : Site) (l : Ledger) (N : ℕ → Transaction) (I : Inv start s l N) (c : ℕ) (client : Client) (parts : List Part) (there : slice_get s.clients c ≡ Some client) (idle : client.parts ≡ None) where
  abbrev new_name : Transaction
  new_name = named c client.number

  abbrev new_names : ℕ → Transaction
  new_names = put_at N l.entered new_name

  abbrev new_ledger : Ledger
  new_ledger = with_entry c parts l

  abbrev new_client : Client
  new_client = record { number = client.number; parts = Some (map unsent parts) }

  old_name : (t : ℕ) → t < l.entered → new_names t ≡ N t
  old_name t low = put_there N l.entered t new_name (λ e. omega arith)

  later : Later (entries N l) (entries new_names new_ledger)
  later = record {
    more = omega arith;
    name = old_name;
    parts = λ t low. put_there l.parts l.entered t parts (λ e. omega arith);
  }

  -- an old entry of an idle client is decided
  not_idle : (t : ℕ) → t < l.entered → (N t).client ≡ c → l.fate t ≡ undecided → ⊥
  not_idle t low mine pending =
      false≢true (ap is_some (sym idle) ∙ (I.pending_open t client low (ap (slice_get s.clients) mine ∙ there) pending).1)

  -- and so has a lower number
  lower : (t : ℕ) → t < l.entered → (N t).client ≡ c → (N t).number < client.number
  lower t low mine = I.decided_past t client low (ap (slice_get s.clients) mine ∙ there) (not_idle t low mine)

  unnamed : (t : ℕ) → t < l.entered → N t ≡ new_name → ⊥
  unnamed t low e =
      omega (arith, lower t low (ap (λ x. x.client) e), ap (λ x. x.number) e)

  abbrev PendingOpen : Transaction → ℕ → Type 0
  PendingOpen n t = (k : Client) → slice_get (with_client c new_client s).clients n.client ≡ Some k → l.fate t ≡ undecided → (n.number ≡ k.number) × (is_some k.parts ≡ true) × (new_ledger.newest n.client ≡ Some t)

  pending_old : (t : ℕ) → t < l.entered → PendingOpen (N t) t
  pending_old t low k e pending =
      by_place (λ d x. (N t).client ≡ d → ((N t).number ≡ x.number) × (is_some x.parts ≡ true) × (new_ledger.newest (N t).client ≡ Some t)) s.clients c client new_client there
      (λ mine. absurd (not_idle t low mine pending))
      (λ d x apart f mine.
      let was = I.pending_open t x low (ap (slice_get s.clients) mine ∙ f) pending in
      (was.0, was.1, put_there l.newest c (N t).client (Some l.entered) (λ q. apart (sym mine ∙ q)) ∙ was.2))
      (N t).client k e refl

  is_new : (k : Client) → slice_get (with_client c new_client s).clients c ≡ Some k → new_client ≡ k
  is_new k e = same_Some new_client k (sym (nth_set_same s.clients c client new_client there) ∙ e)

  pending_new : PendingOpen new_name l.entered
  pending_new k e pending = subst (λ x. (client.number ≡ x.number) × (is_some x.parts ≡ true) × (new_ledger.newest c ≡ Some l.entered)) (is_new k e) (refl, refl, put_here l.newest c (Some l.entered))

  abbrev DecidedPast : Transaction → ℕ → Type 0
  DecidedPast n t = (k : Client) → slice_get (with_client c new_client s).clients n.client ≡ Some k → (l.fate t ≡ undecided → ⊥) → n.number < k.number

  past_old : (t : ℕ) → t < l.entered → DecidedPast (N t) t
  past_old t low k e decided =
      by_place (λ d x. (N t).client ≡ d → (N t).number < x.number) s.clients c client new_client there
      (λ mine. lower t low mine)
      (λ d x apart f mine. I.decided_past t x low (ap (slice_get s.clients) mine ∙ f) decided)
      (N t).client k e refl

  still_pending : l.fate l.entered ≡ undecided
  still_pending = I.fresh l.entered (omega arith)

  -- what holds of each old entry under its name and of the new one holds of every entry
  under_names : (P : Transaction → ℕ → Type 0) → ((t : ℕ) → t < l.entered → P (N t) t) → P new_name l.entered → (t : ℕ) → t < suc l.entered → P (new_names t) t
  under_names P old new t low = go (cases_eq t l.entered)
    where
      go : (t ≡ l.entered) ⊎ (t ≡ l.entered → ⊥) → P (new_names t) t
      go (inl here) = subst (λ x. P (new_names x) x) (sym here) (subst (λ n. P n l.entered) (sym (put_here N l.entered new_name)) new)
      go (inr apart) = let below : t < l.entered = omega arith in subst (λ n. P n t) (sym (old_name t below)) (old t below)

  one_name : (t u : ℕ) → t < suc l.entered → u < suc l.entered → new_names t ≡ new_names u → t ≡ u
  one_name t u low_t low_u =
      under_names (λ n x. n ≡ new_names u → x ≡ u)
      (λ x low. under_names (λ m y. N x ≡ m → x ≡ y) (λ y below_y. I.unique x y low below_y) (λ e. absurd (unnamed x low e)) u low_u)
      (under_names (λ m y. new_name ≡ m → l.entered ≡ y) (λ y below_y e. absurd (unnamed y below_y (sym e))) (λ _. refl) u low_u)
      t low_t

  open_new : (ps : List OpenPart) → Some (map unsent parts) ≡ Some ps → Open (entries new_names new_ledger) (new_ledger.newest c) c client.number ps
  open_new ps e = record {
    entry = l.entered;
    is_newest = put_here l.newest c (Some l.entered);
    entered = omega arith;
    name = put_here N l.entered new_name;
    pending = still_pending;
    parts_alike =
        subst (λ x. AlikeParts x (new_ledger.parts l.entered)) (same_Some _ ps e) (subst (AlikeParts (map unsent parts)) (sym (put_here l.parts l.entered parts)) (alike_unsent parts));
  }

  same_line : AllByRecursion (SameEntry l new_ledger) l.line
  same_line =
      All-weaker (Committed l) (SameEntry l new_ledger) (λ t h. record { parts = later.parts t h.0; noted = refl }) l.line I.in_line

  order_inv : Inv start (with_client c new_client s) new_ledger new_names
  order_inv = record {
    unique = one_name;
    pending_open = λ t k low. under_names PendingOpen pending_old pending_new t low k;
    decided_past = λ t k low. under_names DecidedPast past_old (λ _ _ decided. absurd (decided still_pending)) t low k;
    fresh = λ t high. I.fresh t (omega arith);
    opens = λ d k ps e f.
        by_place (λ b x. (qs : List OpenPart) → x.parts ≡ Some qs → Open (entries new_names new_ledger) (new_ledger.newest b) b x.number qs) s.clients c client new_client there open_new
        (λ b x apart e' qs f'. subst (λ n. Open (entries new_names new_ledger) n b x.number qs) (sym (put_there l.newest c b (Some l.entered) apart)) (open_later later (l.newest b) b x.number qs (I.opens b x qs e' f') refl))
        d k e ps f;
    answered = λ d t p k ps part e f g h i.
        by_place (λ b x. (qs : List OpenPart) → x.parts ≡ Some qs → slice_get qs p ≡ Some part → new_ledger.newest b ≡ Some t → Noted l.noted s.services t p (named b x.number) part) s.clients c client new_client there
        (λ qs f' g' _. absurd (unsent_silent parts p part (ap (λ x. slice_get x p) (same_Some (map unsent parts) qs f') ∙ g') h))
        (λ b x apart e' qs f' g' i'. I.answered b t p x qs part e' f' g' h (sym (put_there l.newest c b (Some l.entered) apart) ∙ i'))
        d k e ps f g i;
    fits = λ v x m e f. fits_later later v x (l.service v) m (λ g _. g.unrun) (I.fits v x m e f);
    asks = λ j r e. asks_later later (l.service r.service) r (I.asks j r e);
    says = I.says;
    tells = λ j d e. decides_later later d (I.tells j d e) refl;
    done = All-weaker (Acted l) (Acted new_ledger) (λ a h. (omega arith, h.1)) l.acts I.done;
    in_line = All-weaker (Committed l) (Committed new_ledger) (λ t h. (omega arith, h.1)) l.line I.in_line;
    right = same_right l new_ledger start l.line same_line I.right;
    settled = λ v. settled_still l new_ledger start l.line same_line v (l.service v) (slice_get s.stores v) (same_settled l new_ledger (λ _. refl) (l.service v)) (I.settled v);
  }

pub order_keeps : (c : ℕ) (script : List ℕ) → Keeps (ORDER c script)
order_keeps c script start s l N k I =
    by_order s (KeptAfter start s l (ORDER c script)) (λ _ _. (N, I)) c script (λ client parts there idle accepted.
    (put_at N l.entered (named c client.number), rw (accepted, enter) (order_inv start s l N I c client parts there idle)))
