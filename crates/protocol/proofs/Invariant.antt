-- What holds between a site and the ledger of its calls at every moment of a run, beside the kept facts.
use Rattle.std.proofs.Common.{◌≡◌, ℕ, ◌<◌, ◌≤◌, Bool, true, false, cond, List, [], ◌∷◌, length, is_some, Some, None, Option, arith}
use Rattle.std.specs.Option.{option_map}
use Rattle.std.specs.List.{slice_get, AllByRecursion}
use Rattle.stores.specs.Store.{StoreModel}
use Rattle.banks.specs.Bank.{BankModel}
use Rattle.scripts.specs.declared.types.Operation.{Operation}
use Rattle.scripts.specs.Reading.{Part}
use Rattle.parts.specs.declared.votes.Vote.TheVariants.{Yes}
use Rattle.protocol.specs.declared.types.PartState.TheVariants.{Replied}
use Rattle.protocol.specs.Calls.{Outcome}
use Rattle.protocol.specs.Kept.{Kept}
use Rattle.protocol.specs.Law.{LineRight, single_file, settled_pairs}
use Rattle.protocol.specs.Ledger.{Ledger, Fate, Engagement, Act, add}
use Rattle.protocol.specs.Ledger.Engagement.{off, on, engaged}
use Rattle.protocol.specs.Ledger.Fate.{undecided, to_commit, to_abort}
use Rattle.protocol.specs.Runs.{Call, perform}
use Rattle.protocol.specs.Site.{Site, Client, OpenPart, Transaction, Hold, Service, Request, Reply, Decision}
use Rattle.protocol.specs.Site.Service.{down, ready, given, holding, promised}
use Rattle.protocol.proofs.SingleFile.{tried}

abbrev pub named : ℕ → ℕ → Transaction
named client number = record { client = client; number = number }

-- an open transaction's parts are those that its script gave
abbrev pub AlikeParts : List OpenPart → List Part → Type 0
AlikeParts [] [] = Unit {0}
AlikeParts [] (p ∷ ps) = ⊥
AlikeParts (o ∷ os) [] = ⊥
AlikeParts (o ∷ os) (p ∷ ps) = (o.service ≡ p.service) × (o.operations ≡ p.operations) × AlikeParts os ps

-- a store with its trial closed
abbrev pub at_rest : StoreModel → StoreModel
at_rest m = record { capacity = m.capacity; committed = m.committed; trial = None }

abbrev pub fate_of : Bool → Fate
fate_of commits = cond commits to_commit to_abort

pub fate_decided : (commits : Bool) → fate_of commits ≡ undecided → ⊥
fate_decided true e = grind arith
fate_decided false e = grind arith

-- an entry's part for a service: its number in the entry, and its operations
pub record HasPart (parts : List Part) (v : ℕ) (operations : List Operation) : Type 0 where
  pub place : ℕ
  pub part : Part
  pub there : slice_get parts place ≡ Some part
  pub service : part.service ≡ v
  pub does : part.operations ≡ operations

-- what is known of entries: the site's names for them, their parts, their fates, how many there are
pub record Entries : Type 0 where
  pub name : ℕ → Transaction
  pub parts : ℕ → List Part
  pub fate : ℕ → Fate
  pub entered : ℕ

abbrev pub entries : (ℕ → Transaction) → Ledger → Entries
entries name l = record { name = name; parts = l.parts; fate = l.fate; entered = l.entered }

-- a service that was given a request of an entry, which is not to commit
pub record Given (E : Entries) (v : ℕ) (e : Engagement) (m : StoreModel) : Type 0 where
  pub entry : ℕ
  pub operations : List Operation
  pub is_engaged : e ≡ engaged entry
  pub entered : entry < E.entered
  pub has_part : HasPart (E.parts entry) v operations
  pub unrun : E.fate entry ≡ to_commit → ⊥
  pub closed : m.trial ≡ None

-- a service that has worked for an entry: its trial is what the part makes of the committed pairs
pub record Held (E : Entries) (v : ℕ) (hold : Hold) (e : Engagement) (m : StoreModel) : Type 0 where
  pub entry : ℕ
  pub operations : List Operation
  pub is_engaged : e ≡ engaged entry
  pub entered : entry < E.entered
  pub name : E.name entry ≡ hold.transaction
  pub has_part : HasPart (E.parts entry) v operations
  pub vote : hold.vote ≡ (tried operations (at_rest m)).vote
  pub looks : hold.looks ≡ (tried operations (at_rest m)).looks
  pub working : m ≡ (tried operations (at_rest m)).next

-- a service's phase, its engagement in the ledger, and its store fit one another
abbrev pub Fits : Entries → ℕ → Service → Engagement → StoreModel → Type 0
Fits E v down e m = (e ≡ off) × (m.trial ≡ None)
Fits E v ready e m = (e ≡ on) × (m.trial ≡ None)
Fits E v given e m = Given E v e m
Fits E v (holding hold) e m = Held E v hold e m
Fits E v (promised hold) e m = Held E v hold e m

-- a client's open transaction is its newest entry, undecided, under the number that the site gave it
pub record Open (E : Entries) (newest : Option ℕ) (c number : ℕ) (parts : List OpenPart) : Type 0 where
  pub entry : ℕ
  pub is_newest : newest ≡ Some entry
  pub entered : entry < E.entered
  pub name : E.name entry ≡ named c number
  pub pending : E.fate entry ≡ undecided
  pub parts_alike : AlikeParts parts (E.parts entry)

-- the service is Promised for that transaction with a yes and these look numbers
pub record PromisedYes (services : List Service) (v : ℕ) (t : Transaction) (looks : List ℕ) : Type 0 where
  pub hold : Hold
  pub there : slice_get services v ≡ Some (promised hold)
  pub transaction : hold.transaction ≡ t
  pub vote : hold.vote ≡ Yes
  pub looks_are : hold.looks ≡ looks

-- look numbers are noted of an entry's part, and its service is so promised with them
abbrev pub Noted : (ℕ → ℕ → Option (List ℕ)) → List Service → ℕ → ℕ → Transaction → OpenPart → Type 0
Noted noted services entry place t part = (looks : List ℕ) × (noted entry place ≡ Some looks) × PromisedYes services part.service t looks

-- a request is for the entry that its service is engaged with
pub record Asks (E : Entries) (e : Engagement) (r : Request) : Type 0 where
  pub entry : ℕ
  pub is_engaged : e ≡ engaged entry
  pub entered : entry < E.entered
  pub name : E.name entry ≡ named r.client r.number
  pub has_part : HasPart (E.parts entry) r.service r.operations

-- a decision is its entry's fate
pub record Decides (E : Entries) (d : Decision) : Type 0 where
  pub entry : ℕ
  pub entered : entry < E.entered
  pub name : E.name entry ≡ named d.client d.number
  pub fate : E.fate entry ≡ fate_of d.commits

-- what a service did with an entry is its fate
abbrev pub Acted : Ledger → Act → Type 0
Acted l a = (a.entry < l.entered) × (l.fate a.entry ≡ fate_of a.commits)

abbrev pub Committed : Ledger → ℕ → Type 0
Committed l t = (t < l.entered) × (l.fate t ≡ to_commit)

-- a store as the single-file run should leave it
abbrev pub settled_store : Ledger → Engagement → StoreModel → StoreModel
settled_store l e m = record { capacity = m.capacity; committed = settled_pairs l e m; trial = None }

pub record Inv (start : BankModel) (s : Site) (l : Ledger) (N : ℕ → Transaction) : Type 0 where
  -- entries and names
  pub unique : (t u : ℕ) → t < l.entered → u < l.entered → N t ≡ N u → t ≡ u
  pub pending_open : (t : ℕ) (k : Client) → t < l.entered → slice_get s.clients (N t).client ≡ Some k → l.fate t ≡ undecided → ((N t).number ≡ k.number) × (is_some k.parts ≡ true) × (l.newest (N t).client ≡ Some t)
  pub decided_past : (t : ℕ) (k : Client) → t < l.entered → slice_get s.clients (N t).client ≡ Some k → (l.fate t ≡ undecided → ⊥) → (N t).number < k.number
  pub fresh : (t : ℕ) → l.entered ≤ t → l.fate t ≡ undecided
  -- clients
  pub opens : (c : ℕ) (k : Client) (ps : List OpenPart) → slice_get s.clients c ≡ Some k → k.parts ≡ Some ps → Open (entries N l) (l.newest c) c k.number ps
  pub answered : (c t p : ℕ) (k : Client) (ps : List OpenPart) (part : OpenPart) → slice_get s.clients c ≡ Some k → k.parts ≡ Some ps → slice_get ps p ≡ Some part → part.state ≡ Replied → l.newest c ≡ Some t → Noted l.noted s.services t p (named c k.number) part
  -- services
  pub fits : (v : ℕ) (x : Service) (m : StoreModel) → slice_get s.services v ≡ Some x → slice_get s.stores v ≡ Some m → Fits (entries N l) v x (l.service v) m
  -- pools
  pub asks : (j : ℕ) (r : Request) → slice_get s.requests j ≡ Some r → Asks (entries N l) (l.service r.service) r
  pub says : (j : ℕ) (r : Reply) (looks : List ℕ) → slice_get s.replies j ≡ Some r → r.looks ≡ Some looks → PromisedYes s.services r.service (named r.client r.number) looks
  pub tells : (j : ℕ) (d : Decision) → slice_get s.decisions j ≡ Some d → Decides (entries N l) d
  -- the law so far
  pub done : AllByRecursion (Acted l) l.acts
  pub in_line : AllByRecursion (Committed l) l.line
  pub right : LineRight l start l.line
  pub settled : (v : ℕ) → slice_get (single_file l start l.line) v ≡ option_map (settled_store l (l.service v)) (slice_get s.stores v)

-- the invariant holds, under some names, of what a call's outcome leaves
abbrev pub KeptAfter : BankModel → Site → Ledger → Call → Outcome → Type 0
KeptAfter start s l call o = (names : ℕ → Transaction) × Inv start o.next (add (length s.services) call o.answer l) names

-- a call keeps the invariant, under names that may have grown by one
abbrev pub Keeps : Call → Type 0
Keeps call = (start : BankModel) (s : Site) (l : Ledger) (N : ℕ → Transaction) → Kept s → Inv start s l N → KeptAfter start s l call (perform call s)
