-- A list of limited length never holds more than its limit.
use Rattle.std.specs.Prelude.{◌≡◌, ℕ, ◌≤◌, length, take}
use Rattle.std.proofs.Common.{arith, take_all}
use Rattle.std.proofs.lemmas.List.{length-take-le}
use Rattle.short_lists.specs.declared.short_list.ShortList.{ShortList}
use Rattle.short_lists.specs.ShortList.{listed}

pub listed_few : {T : Type 0} {n : ℕ} (l : ShortList T n) → length (listed l) ≤ n
listed_few l =
    let fits : l.used ≤ length l.items = omega (arith, l.sized) in
    simp length-take-le (omega (arith, l.within))

pub listed_whole : {T : Type 0} {n : ℕ} (l : ShortList T n) → take n (listed l) ≡ listed l
listed_whole {n = n} l = take_all n (listed l) (listed_few l)
