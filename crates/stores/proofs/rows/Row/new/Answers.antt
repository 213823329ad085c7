use Rattle.std.proofs.lemmas.List.{length-replicate}
use Rattle.stores.proofs.Writes.{contents_free_row, distinct_free_row}
use Rattle.stores.proofs.rows.Row.new.Goals as goal

pub invariant_of-result : goal.invariant_of-result
invariant_of-result g c = record { sized = length-replicate g.row.N _; keys_distinct = distinct_free_row g.row.N }

pub returns : goal.returns
returns g c = contents_free_row g.row.N
