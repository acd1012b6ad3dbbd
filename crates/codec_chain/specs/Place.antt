-- Where what is decoded is kept: a place among the singles of a stage, in decode order.
use Rattle.std.specs.Prelude.{◌≡◌, ℕ, suc, ◌≤◌, Bool, true, false, cond, ◌&&◌, List, length, drop, Some, None, Option}
use Rattle.std.specs.List.{list_all, range_with_len, position_or_len}
use Rattle.stage.specs.declared.capability.PartialDecoderCapability.{PartialDecoderCapability}

-- every single has both capabilities
abbrev pub all_by_parts : List PartialDecoderCapability → Bool
all_by_parts singles = list_all (λ c. c.partial_read && c.partial_decode) singles

-- the rule for a place i: singles i and later all have partial_decode, and singles after i all have partial_read
abbrev pub meets : List PartialDecoderCapability → ℕ → Bool
meets singles i = list_all (λ c. c.partial_decode) (drop i singles) && list_all (λ c. c.partial_read) (drop (suc i) singles)

-- no place where every single has both, and else the first that meets the rule; where none before it does it is the last place,
-- past which there is no single to ask anything of
abbrev pub cache_index : List PartialDecoderCapability → Option ℕ
cache_index singles =
    cond (all_by_parts singles) None (Some (position_or_len (meets singles) (range_with_len 0 (length singles))))

-- some single lacks a capability, the place meets the rule, and every other that does lies further along
pub record Least (singles : List PartialDecoderCapability) (i : ℕ) : Type 0 where
  pub lacking : all_by_parts singles ≡ false
  pub there : i ≤ length singles
  pub met : meets singles i ≡ true
  pub least : (j : ℕ) → meets singles j ≡ true → i ≤ j

abbrev pub Placed : List PartialDecoderCapability → Option ℕ → Type 0
Placed singles None = all_by_parts singles ≡ true
Placed singles (Some i) = Least singles i
