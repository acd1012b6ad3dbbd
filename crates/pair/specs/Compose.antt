-- One stage after another: the inner encodes first, the outer's singles are undone first.
use Rattle.std.specs.Prelude.{ℕ, ◌+◌, ◌-◌, cond, List, ◌++◌, map, length, Ok, Err, Result, nat_le, nat_lt}
use Rattle.std.specs.Option.{option_or}
use Rattle.form.specs.Refusals.{Refusal}
use Rattle.stage.specs.Stage.{Stage}

-- a refusal whose singles are counted from n singles earlier
abbrev pub shifted : ℕ → Refusal → Refusal
shifted n e = record { number = e.number; values = map (λ k. n + k) e.values }

abbrev pub lifted : ℕ → Result ℕ Refusal → Result ℕ Refusal
lifted n (Ok k) = Ok k
lifted n (Err e) = Err (shifted n e)

module _ {F G H : Type 0} (o : Stage G H) (i : Stage F G) where
  -- the place where the outer is undone
  abbrev pub seam : ℕ
  seam = length o.singles

  -- from place a to place b
  abbrev pub both : F → ℕ → ℕ → List ℕ → List ℕ
  both f a b x =
      cond (nat_le b seam) (o.undone (i.coded f) a b x)
      (cond (nat_le seam a) (i.undone f (a - seam) (b - seam) x)
      (i.undone f 0 (b - seam) (o.undone (i.coded f) a seam x)))

  abbrev pub after : Stage F H
  after = record {
    singles = o.singles ++ i.singles;
    refusal = λ f. option_or (i.refusal f) (o.refusal (i.coded f));
    coded = λ f. o.coded (i.coded f);
    size = λ f k. cond (nat_le k seam) (o.size (i.coded f) k) (i.size f (k - seam));
    encoded = λ f x. o.encoded (i.coded f) (i.encoded f x);
    undone = both;
    passes = λ f k x. cond (nat_lt k seam) (o.passes (i.coded f) k x) (i.passes f (k - seam) x);
  }
