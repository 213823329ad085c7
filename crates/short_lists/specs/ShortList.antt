-- What a list of limited length means: the items in use.
use Rattle.std.specs.Prelude.{ℕ, List, take}
use Rattle.short_lists.specs.declared.short_list.ShortList.{ShortList}

abbrev pub listed : {T : Type 0} {N : ℕ} → ShortList T N → List T
listed l = take l.used l.items
