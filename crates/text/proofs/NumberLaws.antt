-- Decimal numbers are read back, and a longer number is no smaller.
use Rattle.std.proofs.Common.{◌≡◌, ℕ, ◌+◌, ◌-◌, ◌*◌, ◌^◌, ◌<◌, ◌≤◌, true, false, ◌&&◌, List, [], ◌∷◌, length, get_or, drop, Some, None, sym, ap, ◌∙◌, arith, rules}
use Rattle.std.proofs.lemmas.List.{at_drop_more, at_drop_all}
use Rattle.std.specs.Char.{is_ascii_digit}
use Rattle.std.proofs.lemmas.Bool.Decides.{nat_tests}
use Rattle.std.proofs.lemmas.Str.Parse.{IsNumeralModel, numerals_by_fold, tells_all_ascii_digits}
use Rattle.std.proofs.lemmas.Fmt.{digits_decimal, digits_value-decimal, decimal_nonempty}
use Rattle.std.specs.Str.{all_ascii_digits}
use Rattle.text.specs.Number.{digits_value, number_of, ReadsBack}

own : IsNumeralModel (λ ds. all_ascii_digits ds ≡ true) (digits_value 0)
own = numerals_by_fold _ tells_all_ascii_digits digits_value (search rules)

pub no_smaller : (n : ℕ) (ds : List ℕ) → n ≤ digits_value n ds
no_smaller n [] = omega arith
no_smaller n (c ∷ cs) = omega (arith, no_smaller (10 * n + (c - 48)) cs)

pub reads_back : ReadsBack
reads_back n small =
    let all = digits_decimal own n small in
    let same = digits_value-decimal own n small in
    let some = decimal_nonempty n small in
    grind (arith, nat_tests)

-- a byte that is no digit
pub refuse_byte : (word : List ℕ) (i : ℕ) → i < length word → false ≡ is_ascii_digit (get_or word i 0) → all_ascii_digits (drop i word) ≡ all_ascii_digits word → None ≡ number_of word
refuse_byte word i h t e =
    let step = at_drop_more all_ascii_digits word i 0 h in
    let none : all_ascii_digits word ≡ false = sym e ∙ (step ∙ ap (λ b. b && all_ascii_digits (drop (i + 1) word)) (sym t)) in
    grind (arith, nat_tests)

-- a value that 64 bits do not hold
pub refuse_large : (word : List ℕ) (n i : ℕ) → i < length word → 2 ^ 64 ≤ 10 * n + (get_or word i 0 - 48) → digits_value n (drop i word) ≡ digits_value 0 word → None ≡ number_of word
refuse_large word n i h large e =
    let step = at_drop_more (digits_value n) word i 0 h in
    let least = no_smaller (10 * n + (get_or word i 0 - 48)) (drop (i + 1) word) in
    let big : 2 ^ 64 ≤ digits_value 0 word = omega arith in
    grind (arith, nat_tests)

-- one more digit
pub digit_more : (word : List ℕ) (n m i : ℕ) → i < length word → true ≡ is_ascii_digit (get_or word i 0) → m ≡ 10 * n + (get_or word i 0 - 48) → (all_ascii_digits (drop i word) ≡ all_ascii_digits word) × (digits_value n (drop i word) ≡ digits_value 0 word) → (all_ascii_digits (drop (i + 1) word) ≡ all_ascii_digits word) × (digits_value m (drop (i + 1) word) ≡ digits_value 0 word)
digit_more word n m i h t em e =
    let all = at_drop_more all_ascii_digits word i 0 h in
    let value = at_drop_more (digits_value n) word i 0 h in
    let passed = ap (λ b. b && all_ascii_digits (drop (i + 1) word)) t in
    (passed ∙ (sym all ∙ e.0), ap (λ k. digits_value k (drop (i + 1) word)) em ∙ (sym value ∙ e.1))

-- all digits read
pub digits_all : (word : List ℕ) (n i : ℕ) → length word ≤ i → 0 < length word → n < 2 ^ 64 → (all_ascii_digits (drop i word) ≡ all_ascii_digits word) × (digits_value n (drop i word) ≡ digits_value 0 word) → Some n ≡ number_of word
digits_all word n i h some small e =
    let all : true ≡ all_ascii_digits word = sym (at_drop_all all_ascii_digits word i h) ∙ e.0 in
    let value : n ≡ digits_value 0 word = sym (at_drop_all (digits_value n) word i h) ∙ e.1 in
    grind (arith, nat_tests)
