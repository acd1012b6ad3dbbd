use Rattle.std.proofs.Common.{◌≡◌, ◌^◌, ◌<◌, drop}
use Rattle.std.specs.Str.{all_ascii_digits}
use Rattle.text.specs.Number.{digits_value}
use Rattle.text.proofs.number.parse_number.Given as goal

abbrev pub invariant-loop-c : goal.invariant-loop-c
invariant-loop-c l =
    (l.n < 2 ^ 64) × (all_ascii_digits (drop l.c-index l.word) ≡ all_ascii_digits l.word) × (digits_value l.n (drop l.c-index l.word) ≡ digits_value 0 l.word)
