-- A stage of one single coding, and the laws that make it one.
use Rattle.std.specs.Prelude.{◌≡◌, ℕ, ◌≤◌, Bool, true, false, cond, List, [], ◌∷◌, length, None, Option, ◌==◌}
use Rattle.stage.specs.declared.capability.PartialDecoderCapability.{PartialDecoderCapability}
use Rattle.stage.specs.Stage.{Bytes, Stage}

-- neither capability: all of the input is read, and all of it is decoded
abbrev pub whole_only : PartialDecoderCapability
whole_only = record { partial_read = false; partial_decode = false }

-- both capabilities: a part can be read and decoded by itself
abbrev pub by_parts : PartialDecoderCapability
by_parts = record { partial_read = true; partial_decode = true }

pub record Coding (F G : Type 0) : Type 0 where
  pub capability : PartialDecoderCapability
  -- the number of the refusal of a form, if it is not taken
  pub refusal : F → Option ℕ
  pub coded : F → G
  pub encoded : F → List ℕ → List ℕ
  pub decoded : F → List ℕ → List ℕ
  -- whether encoded bytes pass
  pub test : F → List ℕ → Bool

-- place 0 has the encoded, place 1 the decoded
abbrev pub single : {F G : Type 0} → (F → ℕ) → (G → ℕ) → Coding F G → Stage F G
single bF bG s = record {
  singles = s.capability ∷ [];
  refusal = s.refusal;
  coded = s.coded;
  size = λ f k. cond (k == 0) (bG (s.coded f)) (bF f);
  encoded = s.encoded;
  undone = λ f i j x. cond (i == j) x (s.decoded f x);
  passes = λ f k x. s.test f x;
}

pub record CodingLaws {F G : Type 0} (bF : F → ℕ) (bG : G → ℕ) (s : Coding F G) : Type 0 where
  pub fits : (f : F) → s.refusal f ≡ None → (bF f ≤ 4096) × (bG (s.coded f) ≤ 4096)
  pub encoded_size : (f : F) (x : List ℕ) → s.refusal f ≡ None → length x ≡ bF f → length (s.encoded f x) ≡ bG (s.coded f)
  pub encoded_bytes : (f : F) (x : List ℕ) → s.refusal f ≡ None → length x ≡ bF f → Bytes x → Bytes (s.encoded f x)
  pub decoded_size : (f : F) (x : List ℕ) → s.refusal f ≡ None → length x ≡ bG (s.coded f) → length (s.decoded f x) ≡ bF f
  pub decoded_bytes : (f : F) (x : List ℕ) → s.refusal f ≡ None → length x ≡ bG (s.coded f) → Bytes x → Bytes (s.decoded f x)
  pub back : (f : F) (x : List ℕ) → s.refusal f ≡ None → length x ≡ bF f → Bytes x → s.decoded f (s.encoded f x) ≡ x
  pub passing : (f : F) (x : List ℕ) → s.refusal f ≡ None → length x ≡ bF f → Bytes x → s.test f (s.encoded f x) ≡ true
