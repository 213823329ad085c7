-- The single-file run and what it shows depend on a ledger's line, parts, looks and fates alone.
use Rattle.std.proofs.Common.{◌≡◌, ℕ, List, [], ◌∷◌, None, Option, sym, refl, ap, ◌∙◌}
use Rattle.std.specs.Option.{option_map}
use Rattle.std.specs.List.{slice_get, AllByRecursion}
use Rattle.stores.specs.Store.{StoreModel}
use Rattle.banks.specs.Bank.{BankModel}
use Rattle.protocol.specs.Law.{LineRight, single_file, settled_by, settled_pairs, commit_parts}
use Rattle.protocol.specs.Ledger.{Ledger, Engagement}
use Rattle.protocol.specs.Ledger.Engagement.{off, on, engaged}
use Rattle.protocol.proofs.Invariant.{settled_store}
use Rattle.protocol.proofs.Tables.{all_at}

-- another ledger with the same parts and looks for an entry
pub record SameEntry (l m : Ledger) (t : ℕ) : Type 0 where
  pub parts : m.parts t ≡ l.parts t
  pub noted : m.noted t ≡ l.noted t

pub same_entries : (l m : Ledger) (line : List ℕ) → m.parts ≡ l.parts → m.noted ≡ l.noted → AllByRecursion (SameEntry l m) line
same_entries l m line parts noted = all_at (SameEntry l m) line (λ _ t _. record { parts = ap (λ table. table t) parts; noted = ap (λ table. table t) noted })

module _ (l m : Ledger) (start : BankModel) where
  pub same_file : (line : List ℕ) → AllByRecursion (SameEntry l m) line → single_file m start line ≡ single_file l start line
  same_file [] same = refl
  same_file (t ∷ line) same = λ i. commit_parts (same.0.parts i) (same_file line same.1 i)

  pub same_right : (line : List ℕ) → AllByRecursion (SameEntry l m) line → LineRight l start line → LineRight m start line
  same_right [] same r = tt
  same_right (t ∷ line) same r = (rw (same.0.noted, same.0.parts, same_file line same.1) r.0, same_right line same.1 r.1)

-- settled pairs depend on fates alone
pub same_settled : (l m : Ledger) → ((t : ℕ) → m.fate t ≡ l.fate t) → (e : Engagement) (x : StoreModel) → settled_pairs m e x ≡ settled_pairs l e x
same_settled l m same off x = refl
same_settled l m same on x = refl
same_settled l m same (engaged t) x = ap (λ f. settled_by f x) (same t)

-- stores settled alike
pub settled_alike : (l m : Ledger) (d e : Engagement) (o : Option StoreModel) → ((x : StoreModel) → settled_pairs m e x ≡ settled_pairs l d x) → option_map (settled_store m e) o ≡ option_map (settled_store l d) o
settled_alike l m d e o same = λ i. option_map (λ x. record { capacity = x.capacity; committed = same x i; trial = None }) o

-- what the line settles in a store it settles still
pub settled_still : (l m : Ledger) (start : BankModel) (line : List ℕ) → AllByRecursion (SameEntry l m) line → (v : ℕ) (e : Engagement) (o : Option StoreModel) → ((x : StoreModel) → settled_pairs m e x ≡ settled_pairs l e x) → slice_get (single_file l start line) v ≡ option_map (settled_store l e) o → slice_get (single_file m start line) v ≡ option_map (settled_store m e) o
settled_still l m start line same v e o alike settled =
    ap (λ stores. slice_get stores v) (same_file l m start line same) ∙ settled ∙ sym (settled_alike l m e e o alike)
