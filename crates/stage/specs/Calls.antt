-- What the calls of a stage answer, and what they leave in each buffer.
use Rattle.std.specs.Prelude.{◌≡◌, ℕ, Bool, ◌&&◌, List, ◌++◌, length, take, drop, Ok, Err, Result, ◌==◌, nat_le, slice_get}
use Rattle.form.specs.declared.fault.Fault.{Fault}
use Rattle.form.specs.Refusals.{Refusal, told, unless, only_if, or_refused}
use Rattle.stage.specs.declared.capability.PartialDecoderCapability.{PartialDecoderCapability}
use Rattle.stage.specs.Stage.{Stage, outcome}
use Rattle.stage.specs.Single.{Coding}

-- each of the two work buffers has 4,096 bytes
abbrev pub roomy : ℕ → ℕ → Bool
roomy work scratch = nat_le 4096 work && nat_le 4096 scratch

module _ {F G : Type 0} (t : Stage F G) where
  abbrev pub capability_answer : ℕ → Result PartialDecoderCapability Refusal
  capability_answer k = or_refused (slice_get t.singles k) 13

  abbrev pub coded_answer : F → Result G Refusal
  coded_answer f = unless (t.refusal f) (Ok (t.coded f))

  abbrev pub size_answer : F → ℕ → Result ℕ Refusal
  size_answer f k = unless (t.refusal f) (only_if (nat_le k (length t.singles)) 13 (Ok (t.size f k)))

  -- places from which and to which can be undone
  abbrev pub forward : ℕ → ℕ → Bool
  forward i j = nat_le i j && nat_le j (length t.singles)

-- what a call leaves that works on the front of a buffer, with a second one as scratch: an answer, and on Ok the bytes that it
-- counts; past these, in the scratch, and after a refusal both buffers may hold anything
pub record InPlace (answer : Result ℕ Refusal) (result : List ℕ) (behind : List ℕ) (r : Result ℕ Fault) : Type 0 where
  pub answer_is : told r ≡ answer
  pub bytes : (n : ℕ) → r ≡ Ok n → take n behind ≡ result

-- the first n bytes of a buffer become F of them where they stand, or the refusal is 14
abbrev pub FrontTurned : (List ℕ → List ℕ) → ℕ → List ℕ → List ℕ → ℕ → Result ℕ Fault → Type 0
FrontTurned F n before behind scratch r = InPlace (only_if (roomy (length before) scratch) 14 (Ok n)) (F (take n before)) behind r

module _ {F G : Type 0} (bF : F → ℕ) (t : Stage F G) (f : F) where
  -- the first bytes of the buffer are encoded where they stand
  abbrev pub encode_in_place : ℕ → ℕ → Result ℕ Refusal
  encode_in_place buffer scratch = unless (t.refusal f) (only_if (roomy buffer scratch) 14 (Ok (t.size f 0)))

  abbrev pub Encoded : List ℕ → List ℕ → ℕ → Result ℕ Fault → Type 0
  Encoded before behind scratch r = InPlace (encode_in_place (length before) scratch) (t.encoded f (take (bF f) before)) behind r

  -- the first bytes of the buffer are undone from place i to place j where they stand
  abbrev pub undo_in_place : ℕ → ℕ → Bool → List ℕ → ℕ → Result ℕ Refusal
  undo_in_place i j checks before scratch =
      unless (t.refusal f)
      (only_if (forward t i j) 13
      (only_if (roomy (length before) scratch) 14 (outcome t f i j checks (take (t.size f i) before))))

  abbrev pub Undone : ℕ → ℕ → Bool → List ℕ → List ℕ → ℕ → Result ℕ Fault → Type 0
  Undone i j checks before behind scratch r =
      InPlace (undo_in_place i j checks before scratch) (t.undone f i j (take (t.size f i) before)) behind r

  -- from an input into an output, by way of the two work buffers
  abbrev pub encode_answer : List ℕ → ℕ → ℕ → ℕ → Result ℕ Refusal
  encode_answer input out work scratch =
      unless (t.refusal f)
      (only_if (length input == bF f) 13
      (only_if (nat_le (t.size f 0) out && roomy work scratch) 14 (Ok (t.size f 0))))

  abbrev pub undo_answer : ℕ → ℕ → Bool → List ℕ → ℕ → ℕ → ℕ → Result ℕ Refusal
  undo_answer i j checks input out work scratch =
      unless (t.refusal f)
      (only_if (forward t i j && length input == t.size f i) 13
      (only_if (nat_le (t.size f j) out && roomy work scratch) 14 (outcome t f i j checks input)))

-- the output after a call: the result in front of what lay past it, or all as it was
abbrev pub written : Result ℕ Fault → List ℕ → List ℕ → List ℕ
written (Ok n) x old = x ++ drop n old
written (Err e) x old = old

-- the same of a single coding
module _ {F G : Type 0} (bF : F → ℕ) (bG : G → ℕ) (s : Coding F G) (f : F) where
  abbrev pub SingleEncoded : List ℕ → List ℕ → ℕ → Result ℕ Fault → Type 0
  SingleEncoded before behind scratch r =
      InPlace (unless (s.refusal f) (only_if (roomy (length before) scratch) 14 (Ok (bG (s.coded f)))))
      (s.encoded f (take (bF f) before)) behind r

  abbrev pub SingleDecoded : List ℕ → List ℕ → ℕ → Result ℕ Fault → Type 0
  SingleDecoded before behind scratch r =
      InPlace (unless (s.refusal f) (only_if (roomy (length before) scratch) 14 (Ok (bF f))))
      (s.decoded f (take (bG (s.coded f)) before)) behind r

  abbrev pub test_answer : List ℕ → Result Bool Refusal
  test_answer buffer = unless (s.refusal f) (only_if (nat_le 4096 (length buffer)) 14 (Ok (s.test f (take (bG (s.coded f)) buffer))))
