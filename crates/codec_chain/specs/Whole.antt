-- Encoding and decoding whole, of a form that is taken.
use Rattle.std.specs.Prelude.{◌≡◌, ℕ, ◌≤◌, Bool, ◌&&◌, List, length, Ok, Result, ◌==◌, nat_le}
use Rattle.form.specs.Refusals.{Refusal, only_if}
use Rattle.stage.specs.Stage.{Bytes, Stage, failing, tested, answered}
use Rattle.stage.specs.Calls.{roomy}

-- all singles undone
abbrev pub decoded : {F G : Type 0} → Stage F G → F → List ℕ → List ℕ
decoded t f x = t.undone f 0 (length t.singles) x

module _ {F G : Type 0} (bF : F → ℕ) (t : Stage F G) (f : F) where
  -- from an input into an output, by way of the two work buffers
  abbrev pub encode_whole : List ℕ → ℕ → ℕ → ℕ → Result ℕ Refusal
  encode_whole input out work scratch =
      only_if (length input == bF f) 13
      (only_if (nat_le (t.size f 0) out && roomy work scratch) 14 (Ok (t.size f 0)))

  -- the same, or with checks on the refusal that names the first single whose test fails
  abbrev pub decode_whole : Bool → List ℕ → ℕ → ℕ → ℕ → Result ℕ Refusal
  decode_whole checks input out work scratch =
      only_if (length input == t.size f 0) 13
      (only_if (nat_le (bF f) out && roomy work scratch) 14
      (answered (tested checks (failing t f 0 (length t.singles) input)) (bF f)))

  -- an array of the form is encoded to so many bytes as there are at place 0, and these are decoded to the array, with checks on or
  -- off, wherever there is room
  pub record Returns : Type 0 where
    pub counted : (x : List ℕ) → length x ≡ bF f → length (t.encoded f x) ≡ t.size f 0
    pub answers : (x : List ℕ) → length x ≡ bF f → Bytes x → (checks : Bool) (out work scratch : ℕ) → bF f ≤ out → 4096 ≤ work → 4096 ≤ scratch
        → decode_whole checks (t.encoded f x) out work scratch ≡ Ok (bF f)
    pub same : (x : List ℕ) → length x ≡ bF f → Bytes x → decoded t f (t.encoded f x) ≡ x
