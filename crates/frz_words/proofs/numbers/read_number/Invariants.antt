use Rattle.std.proofs.Common.{◌≡◌, ◌<◌, ◌^◌, drop}
use Rattle.std.specs.List.{list_all}
use Rattle.frz_words.specs.Numbers.{is_digit, decimal}
use Rattle.frz_words.proofs.numbers.read_number.Given as goal

abbrev pub invariant-loop-digit : goal.invariant-loop-digit
invariant-loop-digit l = record {
  digits : list_all is_digit (drop l.digit-index l.w) ≡ list_all is_digit l.w;
  same : decimal l.value (drop l.digit-index l.w) ≡ decimal 0 l.w;
  small : l.value < 10 ^ l.digit-index;
}
