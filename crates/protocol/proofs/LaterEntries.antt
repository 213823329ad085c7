-- What is said of entries stays true of them, whatever is entered or decided later.
use Rattle.std.proofs.Common.{◌≡◌, ℕ, ◌<◌, ◌≤◌, List, Option, sym, refl, ◌∙◌, subst, arith}
use Rattle.stores.specs.Store.{StoreModel}
use Rattle.scripts.specs.declared.types.Operation.{Operation}
use Rattle.protocol.specs.Ledger.{Engagement}
use Rattle.protocol.specs.Ledger.Fate.{to_commit}
use Rattle.protocol.specs.Site.{OpenPart, Hold, Service, Request, Decision}
use Rattle.protocol.specs.Site.Service.{down, ready, given, holding, promised}
use Rattle.protocol.proofs.Invariant.{AlikeParts, HasPart, Entries, Held, Fits, Open, Asks, Decides, Given}

-- entries later on: the old ones have their names and parts
pub record Later (E F : Entries) : Type 0 where
  pub more : E.entered ≤ F.entered
  pub name : (t : ℕ) → t < E.entered → F.name t ≡ E.name t
  pub parts : (t : ℕ) → t < E.entered → F.parts t ≡ E.parts t

-- what is said of old entries stays true, where it is not about their fates or these stay
module _ {E F : Entries} (G : Later E F) where
  below : (t : ℕ) → t < E.entered → t < F.entered
  below t low = let more = G.more in omega arith

  part_later : (t v : ℕ) (operations : List Operation) → t < E.entered → HasPart (E.parts t) v operations → HasPart (F.parts t) v operations
  part_later t v operations low h = subst (λ ps. HasPart ps v operations) (sym (G.parts t low)) h

  held_later : (v : ℕ) (hold : Hold) (e : Engagement) (m : StoreModel) → Held E v hold e m → Held F v hold e m
  held_later v hold e m h = record {
    entry = h.entry;
    operations = h.operations;
    is_engaged = h.is_engaged;
    entered = below h.entry h.entered;
    name = G.name h.entry h.entered ∙ h.name;
    has_part = part_later h.entry v h.operations h.entered h.has_part;
    vote = h.vote;
    looks = h.looks;
    working = h.working;
  }

  pub fits_later : (v : ℕ) (x : Service) (e : Engagement) (m : StoreModel) → ((g : Given E v e m) → x ≡ given → F.fate g.entry ≡ to_commit → ⊥) → Fits E v x e m → Fits F v x e m
  fits_later v down e m unrun f = f
  fits_later v ready e m unrun f = f
  fits_later v given e m unrun f = record {
    entry = f.entry;
    operations = f.operations;
    is_engaged = f.is_engaged;
    entered = below f.entry f.entered;
    has_part = part_later f.entry v f.operations f.entered f.has_part;
    unrun = unrun f refl;
    closed = f.closed;
  }
  fits_later v (holding hold) e m unrun f = held_later v hold e m f
  fits_later v (promised hold) e m unrun f = held_later v hold e m f

  pub open_later : (newest : Option ℕ) (c number : ℕ) (parts : List OpenPart) (o : Open E newest c number parts) → F.fate o.entry ≡ E.fate o.entry → Open F newest c number parts
  open_later newest c number parts o fate = record {
    entry = o.entry;
    is_newest = o.is_newest;
    entered = below o.entry o.entered;
    name = G.name o.entry o.entered ∙ o.name;
    pending = fate ∙ o.pending;
    parts_alike = subst (λ ps. AlikeParts parts ps) (sym (G.parts o.entry o.entered)) o.parts_alike;
  }

  pub asks_later : (e : Engagement) (r : Request) → Asks E e r → Asks F e r
  asks_later e r a = record {
    entry = a.entry;
    is_engaged = a.is_engaged;
    entered = below a.entry a.entered;
    name = G.name a.entry a.entered ∙ a.name;
    has_part = part_later a.entry r.service r.operations a.entered a.has_part;
  }

  pub decides_later : (d : Decision) (h : Decides E d) → F.fate h.entry ≡ E.fate h.entry → Decides F d
  decides_later d h fate = record {
    entry = h.entry;
    entered = below h.entry h.entered;
    name = G.name h.entry h.entered ∙ h.name;
    fate = fate ∙ h.fate;
  }
