use Rattle.std.proofs.Common.{◌≡◌, ◌<◌, ◌^◌, drop}
use Rattle.std.specs.Str.Parse.{digits_value, digits_value_after}
use Rattle.std.specs.Str.{all_ascii_digits}
use Rattle.http_wire.proofs.fields.read_length.Given as goal

abbrev pub invariant-loop-digit : goal.invariant-loop-digit
invariant-loop-digit l = record {
  value : digits_value_after 10 l.number (drop l.digit-index l.value) ≡ digits_value 10 l.value;
  digits : all_ascii_digits (drop l.digit-index l.value) ≡ all_ascii_digits l.value;
  bound : l.number < 10 ^ l.digit-index;
}
