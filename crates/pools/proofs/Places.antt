-- What is known of one place, said of the messages that wait.
use Rattle.std.proofs.Common.{◌≡◌, ℕ, ◌+◌, ◌-◌, ◌<◌, ◌≤◌, Bool, true, List, [], ◌∷◌, ◌++◌, length, get_or, take, drop, set, is_some, is_none, inl, inr, Some, None, Option, sym, refl, ap, ◌∙◌, append_assoc, add-one, arith, length-append, length-drop, take-append-drop, length-take}
use borrow.Rule.Slice.PartMut.{put_mid}
use Rattle.std.proofs.lemmas.List.{append-nil, get_or_read, set_split, drop_more, drop_all, take-set, drop-set}
use Rattle.std.proofs.lemmas.Bool.{true≢false, false≢true, lt-ltb}
use Rattle.pools.specs.Pools.{held, fitting, nth_fitting, without_nth}
use Rattle.std.proofs.lemmas.Bool.{cases_lt, le-ltb}
use Rattle.std.proofs.lemmas.List.Sums.{passes_at_first}
use Rattle.std.specs.List.{position, position_or_len}
use Rattle.pools.specs.Places.{Stands, Vacant, Free}
use Rattle.pools.proofs.Held.{held_append, held_le}
use Rattle.pools.proofs.OnePlace.{fits}
use Rattle.pools.proofs.Laws.{nth_at, without_at}

-- a row is what stands before a place, the place, and what stands behind it
around : {M : Type 0} (ps : List (Option M)) (i : ℕ) (p : Option M) → i < length ps → ((d : Option M) → get_or ps i d ≡ p) → held ps ≡ held (take i ps) ++ held (p ∷ drop (i + 1) ps)
around ps i p within here =
    let whole = sym (take-append-drop i ps) ∙ ap (λ qs. take i ps ++ qs) (drop_more ps i p within ∙ ap (λ q. q ∷ drop (i + 1) ps) (here p)) in
    ap held whole ∙ held_append (take i ps) (p ∷ drop (i + 1) ps)

pub stands : {M P : Type 0} (meets : M → P → Bool) (party : P) (n : ℕ) (ps : List (Option M)) (i : ℕ) (p : Option M) → i < length ps → p ≡ get_or ps i p → fits meets party p ≡ true → length (fitting meets party (held (take i ps))) ≡ n → Stands meets party n ps i
stands meets party n ps i None within read waits older = absurd (false≢true waits)
stands meets party n ps i (Some m) within read waits older =
    let here : (d : Option _) → get_or ps i d ≡ Some m = λ d. sym (get_or_read ps i (Some m) within read d) in
    let whole = around ps i (Some m) within here in
    let nth_is = ap (nth_fitting meets party n) whole ∙ nth_at meets party _ _ m n waits older in
    let removed = ap (without_nth meets party n) whole ∙ without_at meets party _ _ m n waits older in
    let cleared : set ps i None ≡ take i ps ++ (None ∷ drop (i + 1) ps) = rw add-one (set_split ps i None within) in
    record {
      within = within;
      here = λ d. here d ∙ sym nth_is;
      some = λ none. true≢false (ap is_some (sym nth_is ∙ none));
      others = ap held cleared ∙ held_append (take i ps) (None ∷ drop (i + 1) ps) ∙ sym removed;
    }

none_here : {M : Type 0} (p : Option M) → is_none p ≡ true → p ≡ None
none_here None empty = refl
none_here (Some m) empty = absurd (false≢true empty)

vacant : {M : Type 0} (ps : List (Option M)) (i : ℕ) → i < length ps → ((d : Option M) → get_or ps i d ≡ None) → Vacant ps i
vacant ps i within here =
    let lengths = ap length (around ps i None within here) ∙ length-append (held (take i ps)) (held (drop (i + 1) ps)) in
    record {
      within = within;
      here = here;
      room = lt-ltb _ _ (omega (arith, lengths, within, held_le (take i ps), held_le (drop (i + 1) ps), length-take i ps, length-drop (i + 1) ps));
    }

-- where no place is free, as many messages wait as there are places
all_taken : {M : Type 0} (ps : List (Option M)) → length ps ≤ position_or_len is_none ps → length ps ≤ length (held ps)
all_taken [] full = omega arith
all_taken (None ∷ ps) full = absurd (omega arith)
all_taken (Some m ∷ ps) full = omega (arith, all_taken ps (omega arith))

-- what `position` finds
pub free_at : {M : Type 0} (ps : List (Option M)) → Free ps (position is_none ps)
free_at ps = elim (cases_lt (position_or_len is_none ps) (length ps)) as (λ _. Free ps (position is_none ps)) [
  | inl within ↦ rw (lt-ltb _ _ within) (vacant ps _ within (λ d. none_here _ (passes_at_first is_none ps d within)))
  | inr past ↦ rw (le-ltb _ _ past) (le-ltb _ _ (all_taken ps past))
]

past_all : {X : Type 0} (xs : List X) (i : ℕ) → length (drop i xs) ≤ length xs - i
past_all xs i = omega (arith, length-drop i xs)

module _ {M : Type 0} (ps : List (Option M)) (i : ℕ) (v : Vacant ps i) where
  -- m was written there, and the row from there on, tail, was turned by one, to qs
  pub put_there : (m : M) (tail qs : List (Option M)) → tail ≡ drop i (set ps i (Some m)) → qs ≡ drop 1 tail ++ take 1 tail → held (put_mid i (length (set ps i (Some m)) - i) (set ps i (Some m)) qs) ≡ held ps ++ (m ∷ [])
  put_there m tail qs part turned =
      let written = set ps i (Some m) in
      let rest = drop (i + 1) ps in
      let front_kept = take-set ps i (Some m) in
      let tail_is : tail ≡ Some m ∷ rest = part ∙ drop-set ps i (Some m) v.within in
      let turned_is : qs ≡ rest ++ (Some m ∷ []) = turned ∙ ap (λ t. drop 1 t ++ take 1 t) tail_is in
      let none_behind : drop (length written - i) (drop i written) ≡ [] = drop_all _ (drop i written) (past_all written i) in
      let whole : put_mid i (length written - i) written qs ≡ take i ps ++ (rest ++ (Some m ∷ [])) = cc (append-nil (rest ++ (Some m ∷ []))) in
      ap held whole ∙ held_append (take i ps) (rest ++ (Some m ∷ [])) ∙ ap (λ l. held (take i ps) ++ l) (held_append rest (Some m ∷ [])) ∙ sym (append_assoc (held (take i ps)) (held rest) (m ∷ [])) ∙ ap (λ l. l ++ (m ∷ [])) (sym (around ps i None v.within v.here))
