-- The worked examples, computed.
use Rattle.std.proofs.Common.{refl}
use Rattle.protocol.specs.Examples.{Examples}

pub examples : Examples
examples = record {
  empty_script = refl;
  part_without_operation = refl;
  look_without_key = refl;
  unknown_code = refl;
  empty_part_before = refl;
  sum_fits = refl;
  sum_too_large = refl;
  need_absent = refl;
  full_present = refl;
  full_new = refl;
  full_dropped = refl;
  ninth_change = refl;
  ninth_change_full = refl;
  down_service = refl;
  expired_part = refl;
  no_room = refl;
  just_room = refl;
  number_spent = refl;
  last_number = refl;
}
