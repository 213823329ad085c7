-- Small changes of a site that keep the invariant: a message more or less, a part in another state. And a promise that stands.
use Rattle.std.proofs.Common.{◌≡◌, ℕ, ◌<◌, true, ◌≢◌, List, set, is_some, Some, Option, sym, refl, ap, ◌∙◌, subst}
use Rattle.std.proofs.lemmas.Option.{same_Some}
use Rattle.std.specs.List.{slice_get, AllByRecursion}
use Rattle.std.proofs.ByRecursion.{All-weaker}
use Rattle.banks.specs.Bank.{BankModel}
use Rattle.banks.proofs.OneStore.{nth_set_other}
use Rattle.pools.specs.Pools.{put_last, without_nth}
use Rattle.protocol.specs.declared.types.PartState.{PartState}
use Rattle.protocol.specs.declared.types.PartState.TheVariants.{Replied}
use Rattle.protocol.specs.Calls.{with_replies, with_state, without_reply, with_decisions}
use Rattle.protocol.specs.Ledger.{Ledger}
use Rattle.protocol.specs.Site.{Site, Client, OpenPart, Transaction, Hold, Service, Reply, reply_for, Slot, Decision}
use Rattle.protocol.specs.Site.Service.{promised}
use Rattle.protocol.specs.Ledger.Fate.{undecided}
use Rattle.protocol.proofs.Invariant.{Committed, named, entries, Open, PromisedYes, Noted, Inv, fate_decided, Decides}
use Rattle.protocol.proofs.Lines.{SameEntry, same_right, same_settled, settled_still}
use Rattle.protocol.proofs.PartPlaces.{alike_set}
use Rattle.protocol.proofs.Tables.{by_place}
use Rattle.protocol.proofs.Taking.{left_found, by_last}
use Rattle.protocol.proofs.Waiting.{in_state}

-- a promise to a transaction stands when a service that has promised it nothing changes its phase
pub promise_stays : (services : List Service) (v w : ℕ) (old new : Service) (t : Transaction) (looks : List ℕ) → slice_get services v ≡ Some old → ((hold : Hold) → old ≡ promised hold → hold.transaction ≡ t → ⊥) → PromisedYes services w t looks → PromisedYes (set services v new) w t looks
promise_stays services v w old new t looks there none p = record {
  hold = p.hold;
  there = nth_set_other services v w new apart ∙ p.there;
  transaction = p.transaction;
  vote = p.vote;
  looks_are = p.looks_are;
}
  where
    apart : w ≢ v
    apart same = none p.hold (same_Some old _ (sym there ∙ ap (slice_get services) (sym same) ∙ p.there)) p.transaction

-- other replies and decisions in the pools, each of them true
pub pools_keep : (start : BankModel) (s : Site) (l : Ledger) (N : ℕ → Transaction) (replies : List Reply) (decisions : List Decision) → ((j : ℕ) (r : Reply) (looks : List ℕ) → slice_get replies j ≡ Some r → r.looks ≡ Some looks → PromisedYes s.services r.service (named r.client r.number) looks) → ((j : ℕ) (d : Decision) → slice_get decisions j ≡ Some d → Decides (entries N l) d) → Inv start s l N → Inv start (with_decisions decisions (with_replies replies s)) l N
pools_keep start s l N replies decisions said told I = record {
  unique = I.unique;
  pending_open = I.pending_open;
  decided_past = I.decided_past;
  fresh = I.fresh;
  opens = I.opens;
  answered = I.answered;
  fits = I.fits;
  asks = I.asks;
  says = said;
  tells = told;
  done = I.done;
  in_line = I.in_line;
  right = I.right;
  settled = I.settled;
}

-- a message more, whose look numbers, if it has any, are promised
pub message_keeps : (start : BankModel) (s : Site) (l : Ledger) (N : ℕ → Transaction) (r : Reply) → ((looks : List ℕ) → r.looks ≡ Some looks → PromisedYes s.services r.service (named r.client r.number) looks) → Inv start s l N → Inv start (with_replies (put_last 32 r s.replies) s) l N
message_keeps start s l N r promise I = pools_keep start s l N (put_last 32 r s.replies) s.decisions said I.tells I
  where
    said : (j : ℕ) (x : Reply) (looks : List ℕ) → slice_get (put_last 32 r s.replies) j ≡ Some x → x.looks ≡ Some looks → PromisedYes s.services x.service (named x.client x.number) looks
    said j x looks e has = by_last (λ y. (numbers : List ℕ) → y.looks ≡ Some numbers → PromisedYes s.services y.service (named y.client y.number) numbers) 32 r s.replies promise (λ i y f numbers g. I.says i y numbers f g) j x e looks has

-- a message less
pub gone_keeps : (start : BankModel) (s : Site) (l : Ledger) (N : ℕ → Transaction) (slot : Slot) → Inv start s l N → Inv start (without_reply slot s) l N
gone_keeps start s l N slot I =
    pools_keep start s l N (without_nth reply_for slot 0 s.replies) s.decisions
    (λ j r looks e f. let was = left_found reply_for slot 0 r s.replies j e in I.says was.place r looks was.there f) I.tells I

-- the ledger with other look numbers noted
abbrev pub noting : (ℕ → ℕ → Option (List ℕ)) → Ledger → Ledger
noting noted l = record { entered = l.entered; parts = l.parts; newest = l.newest; fate = l.fate; line = l.line; service = l.service; noted = noted; acts = l.acts }

-- a part of an open transaction in another state
module _ (start : BankModel) (s : Site) (l : Ledger) (N : ℕ → Transaction) (I : Inv start s l N) (c p : ℕ) (client : Client) (parts : List OpenPart) (part : OpenPart) (there : slice_get s.clients c ≡ Some client) (is_open : client.parts ≡ Some parts) (has : slice_get parts p ≡ Some part) where
  abbrev pub opened : Open (entries N l) (l.newest c) c client.number parts
  opened = I.opens c client parts there is_open

  -- another client's newest entry is another
  other_entry : (d u : ℕ) (k : Client) (ps : List OpenPart) → d ≢ c → slice_get s.clients d ≡ Some k → k.parts ≡ Some ps → l.newest d ≡ Some u → u ≢ opened.entry
  other_entry d u k ps apart e f newest same =
      let theirs = I.opens d k ps e f in
      let is : theirs.entry ≡ u = cc (theirs.is_newest, newest) in
      let one : N u ≡ named d k.number = rw is at theirs.name in
      let mine : N u ≡ named c client.number = rw same opened.name in
      apart (ap (λ x. x.client) (sym one ∙ mine))

  -- the state, with what is noted once it is so
  module _ (state : PartState) (noted : ℕ → ℕ → Option (List ℕ)) (elsewhere : (u : ℕ) → u ≢ opened.entry → noted u ≡ l.noted u) (others : (q : ℕ) → q ≢ p → noted opened.entry q ≡ l.noted opened.entry q) (mine : state ≡ Replied → Noted noted s.services opened.entry p (named c client.number) part) where
    abbrev changed : Client
    changed = record { number = client.number; parts = Some (set parts p (in_state state part)) }

    pending_open : (j : ℕ) (k : Client) → slice_get (set s.clients c changed) j ≡ Some k → (u : ℕ) → (N u).client ≡ j → u < l.entered → l.fate u ≡ undecided → ((N u).number ≡ k.number) × (is_some k.parts ≡ true) × (l.newest (N u).client ≡ Some u)
    pending_open =
        by_place (λ j k. (u : ℕ) → (N u).client ≡ j → u < l.entered → l.fate u ≡ undecided → ((N u).number ≡ k.number) × (is_some k.parts ≡ true) × (l.newest (N u).client ≡ Some u)) s.clients c client changed there
        (λ u at below pending. let was = I.pending_open u client below (ap (slice_get s.clients) at ∙ there) pending in (was.0, refl, was.2))
        (λ j k apart e u at below pending. I.pending_open u k below (ap (slice_get s.clients) at ∙ e) pending)

    decided_past : (j : ℕ) (k : Client) → slice_get (set s.clients c changed) j ≡ Some k → (u : ℕ) → (N u).client ≡ j → u < l.entered → (l.fate u ≡ undecided → ⊥) → (N u).number < k.number
    decided_past =
        by_place (λ j k. (u : ℕ) → (N u).client ≡ j → u < l.entered → (l.fate u ≡ undecided → ⊥) → (N u).number < k.number) s.clients c client changed there
        (λ u at below over. I.decided_past u client below (ap (slice_get s.clients) at ∙ there) over)
        (λ j k apart e u at below over. I.decided_past u k below (ap (slice_get s.clients) at ∙ e) over)

    opens : (d : ℕ) (k : Client) → slice_get (set s.clients c changed) d ≡ Some k → (ps : List OpenPart) → k.parts ≡ Some ps → Open (entries N l) (l.newest d) d k.number ps
    opens =
        by_place (λ d k. (ps : List OpenPart) → k.parts ≡ Some ps → Open (entries N l) (l.newest d) d k.number ps) s.clients c client changed there
        (λ ps f. subst (Open (entries N l) (l.newest c) c client.number) (same_Some _ ps f) (record { entry = opened.entry; is_newest = opened.is_newest; entered = opened.entered; name = opened.name; pending = opened.pending; parts_alike = alike_set parts p part state (l.parts opened.entry) has opened.parts_alike }))
        (λ d k apart e ps f. I.opens d k ps e f)

    -- the parts of the client itself
    own_answered : (q : ℕ) (x : OpenPart) → slice_get (set parts p (in_state state part)) q ≡ Some x → x.state ≡ Replied → Noted noted s.services opened.entry q (named c client.number) x
    own_answered =
        by_place (λ q x. x.state ≡ Replied → Noted noted s.services opened.entry q (named c client.number) x) parts p part (in_state state part) has mine
        (λ q x apart e replied. let (looks, was, promise) = I.answered c opened.entry q client parts x there is_open e replied opened.is_newest in (looks, others q apart ∙ was, promise))

    answered : (d : ℕ) (k : Client) → slice_get (set s.clients c changed) d ≡ Some k → (u q : ℕ) (ps : List OpenPart) (x : OpenPart) → k.parts ≡ Some ps → slice_get ps q ≡ Some x → x.state ≡ Replied → l.newest d ≡ Some u → Noted noted s.services u q (named d k.number) x
    answered =
        by_place (λ d k. (u q : ℕ) (ps : List OpenPart) (x : OpenPart) → k.parts ≡ Some ps → slice_get ps q ≡ Some x → x.state ≡ Replied → l.newest d ≡ Some u → Noted noted s.services u q (named d k.number) x) s.clients c client changed there
        (λ u q ps x f g replied newest.
        let same = same_Some (set parts p (in_state state part)) ps f in
        let is : opened.entry ≡ u = cc (opened.is_newest, newest) in
        subst (λ i. Noted noted s.services i q (named c client.number) x) is (own_answered q x (ap (λ xs. slice_get xs q) same ∙ g) replied))
        (λ d k apart e u q ps x f g replied newest.
        let (looks, was, promise) = I.answered d u q k ps x e f g replied newest in
        (looks, ap (λ table. table q) (elsewhere u (other_entry d u k ps apart e f newest)) ∙ was, promise))

    -- an entry in the line is decided, so nothing new is noted of it
    same_line : AllByRecursion (SameEntry l (noting noted l)) l.line
    same_line = All-weaker (Committed l) (SameEntry l (noting noted l)) same l.line I.in_line
      where
        same : (u : ℕ) → Committed l u → SameEntry l (noting noted l) u
        same u h = record { parts = refl; noted = elsewhere u (λ is. fate_decided true (sym h.1 ∙ ap l.fate is ∙ opened.pending)) }

    pub noted_keeps : Inv start (with_state c p state client parts part s) (noting noted l) N
    noted_keeps = record {
      unique = I.unique;
      pending_open = λ u k below e. pending_open (N u).client k e u refl below;
      decided_past = λ u k below e. decided_past (N u).client k e u refl below;
      fresh = I.fresh;
      opens = λ d k ps e f. opens d k e ps f;
      answered = λ d u q k ps x e f g replied newest. answered d k e u q ps x f g replied newest;
      fits = I.fits;
      asks = I.asks;
      says = I.says;
      tells = I.tells;
      done = I.done;
      in_line = I.in_line;
      right = same_right l (noting noted l) start l.line same_line I.right;
      settled = λ v. settled_still l (noting noted l) start l.line same_line v (l.service v) (slice_get s.stores v) (same_settled l (noting noted l) (λ _. refl) (l.service v)) (I.settled v);
    }

  -- a state that is no answer: the ledger stays
  pub state_keeps : (state : PartState) → state ≢ Replied → Inv start (with_state c p state client parts part s) l N
  state_keeps state silent = noted_keeps state l.noted (λ u apart. refl) (λ q apart. refl) (λ e. absurd (silent e))
