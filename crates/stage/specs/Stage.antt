-- What a coding stage means, and the laws that it keeps. F is the form of what is decoded, G of what is encoded.
use Rattle.std.specs.Prelude.{◌≡◌, ℕ, zero, suc, ◌-◌, ◌^◌, ◌<◌, ◌≤◌, Bool, true, false, cond, List, length, Some, None, Ok, Err, Option, Result, nat_le, slice_index}
use Rattle.form.specs.Answers.{checked}
use Rattle.form.specs.Refusals.{Refusal, failed}
use Rattle.stage.specs.declared.capability.PartialDecoderCapability.{PartialDecoderCapability}

-- each element is a byte
abbrev pub Bytes : List ℕ → Type 0
Bytes xs = (k : ℕ) → k < length xs → slice_index xs k < 256

pub record Stage (F G : Type 0) : Type 0 where
  -- the single codings, in decode order
  pub singles : List PartialDecoderCapability
  -- the number of the refusal of a form, if it is not taken
  pub refusal : F → Option ℕ
  -- the form of the encoded
  pub coded : F → G
  -- how many bytes there are at a place; place k is where the first k singles are undone, and place 0 has the encoded
  pub size : F → ℕ → ℕ
  pub encoded : F → List ℕ → List ℕ
  -- from one place to a later one
  pub undone : F → ℕ → ℕ → List ℕ → List ℕ
  -- the test of a single, on the bytes before it is undone
  pub passes : F → ℕ → List ℕ → Bool

-- the laws, where bF and bG say how many bytes a form has
pub record Laws {F G : Type 0} (bF : F → ℕ) (bG : G → ℕ) (s : Stage F G) : Type 0 where
  -- place 0 has the length of the encoded, the last place that of the decoded, and every place at most 4,096 bytes
  pub first : (f : F) → s.refusal f ≡ None → s.size f 0 ≡ bG (s.coded f)
  pub last : (f : F) → s.refusal f ≡ None → s.size f (length s.singles) ≡ bF f
  pub bound : (f : F) (k : ℕ) → s.refusal f ≡ None → k ≤ length s.singles → s.size f k ≤ 4096
  -- the encoding has the ruled length, and bytes stay bytes
  pub encoded_size : (f : F) (x : List ℕ) → s.refusal f ≡ None → length x ≡ bF f → length (s.encoded f x) ≡ s.size f 0
  pub encoded_bytes : (f : F) (x : List ℕ) → s.refusal f ≡ None → length x ≡ bF f → Bytes x → Bytes (s.encoded f x)
  -- undoing takes every list of its place's length to one of the later place's
  pub undone_size : (f : F) (i j : ℕ) (x : List ℕ) → s.refusal f ≡ None → i ≤ j → j ≤ length s.singles → length x ≡ s.size f i → length (s.undone f i j x) ≡ s.size f j
  pub undone_bytes : (f : F) (i j : ℕ) (x : List ℕ) → s.refusal f ≡ None → i ≤ j → j ≤ length s.singles → length x ≡ s.size f i → Bytes x → Bytes (s.undone f i j x)
  -- from a place to itself nothing changes, and undoing to a middle place and on from there is undoing straight through
  pub undone_none : (f : F) (i : ℕ) (x : List ℕ) → s.refusal f ≡ None → i ≤ length s.singles → length x ≡ s.size f i → s.undone f i i x ≡ x
  pub undone_on : (f : F) (i j k : ℕ) (x : List ℕ) → s.refusal f ≡ None → i ≤ j → j ≤ k → k ≤ length s.singles → length x ≡ s.size f i → s.undone f j k (s.undone f i j x) ≡ s.undone f i k x
  -- undoing an encoding wholly gives the list back
  pub whole : (f : F) (x : List ℕ) → s.refusal f ≡ None → length x ≡ bF f → Bytes x → s.undone f 0 (length s.singles) (s.encoded f x) ≡ x
  -- an encoding passes every test
  pub passing : (f : F) (k : ℕ) (x : List ℕ) → s.refusal f ≡ None → k < length s.singles → length x ≡ bF f → Bytes x → s.passes f k (s.undone f 0 k (s.encoded f x)) ≡ true

-- more than 4,096 bytes at a place are refused with 12
abbrev pub too_long : ℕ → Option ℕ
too_long n = checked (nat_le n 4096) 12 None

-- a count, none where a usize does not hold it
abbrev pub Counted : ℕ → Option ℕ → Type 0
Counted n (Some m) = m ≡ n
Counted n None = 2 ^ 64 ≤ n

-- the first of the n numbers from i on at which p fails
abbrev pub first_false : (ℕ → Bool) → ℕ → ℕ → Option ℕ
first_false p i zero = None
first_false p i (suc n) = cond (p i) (first_false p (suc i) n) (Some i)

-- the first single whose test fails where x at place i is undone to place j
abbrev pub failing : {F G : Type 0} → Stage F G → F → ℕ → ℕ → List ℕ → Option ℕ
failing s f i j x = first_false (λ k. s.passes f k (s.undone f i k x)) i (j - i)

-- with checks off no test counts
abbrev pub tested : Bool → Option ℕ → Option ℕ
tested true o = o
tested false o = None

-- a count of bytes, or the refusal that names a single
abbrev pub answered : Option ℕ → ℕ → Result ℕ Refusal
answered None n = Ok n
answered (Some k) n = Err (failed k)

-- what undoing answers: how many bytes there are then, or with checks on the first single whose test fails
abbrev pub outcome : {F G : Type 0} → Stage F G → F → ℕ → ℕ → Bool → List ℕ → Result ℕ Refusal
outcome s f i j checks x = answered (tested checks (failing s f i j x)) (s.size f j)

-- undoing is never refused with 15
abbrev pub Unfailing : {F G : Type 0} → Stage F G → Type 0
Unfailing {F = F} s = (f : F) (i j : ℕ) (checks : Bool) (x : List ℕ) → outcome s f i j checks x ≡ Ok (s.size f j)
