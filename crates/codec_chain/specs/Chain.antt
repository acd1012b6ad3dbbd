-- A chain of codecs as one stage: the array stages encode first, then the bytes stage, then the byte stages.
use Rattle.std.specs.Prelude.{◌≡◌, ℕ, List, ◌++◌, length, None}
use Rattle.std.specs.Option.{option_or}
use Rattle.form.specs.declared.array_form.Form.{Form}
use Rattle.stage.specs.Stage.{Stage}
use Rattle.pair.specs.Compose.{after}
use Rattle.pair.specs.declared.Pair.{Pair}
use Rattle.codec_chain.specs.Whole.{decoded}

abbrev pub chain_stage : {A B S : Type 0} → (A → Stage Form Form) → (B → Stage Form ℕ) → (S → Stage ℕ ℕ) → Pair S (Pair B A) → Stage Form ℕ
chain_stage a b s p = after (s p.outer) (after (b p.inner.outer) (a p.inner.inner))

-- the three stages a, b and s that t is the chain of, in encode order; b codes what a makes of a form, and s what b makes of that
pub record InOrder (a : Stage Form Form) (b : Stage Form ℕ) (s : Stage ℕ ℕ) (t : Stage Form ℕ) : Type 0 where
  -- the singles stand in decode order
  pub singles : t.singles ≡ s.singles ++ (b.singles ++ a.singles)
  -- the first in encode order that refuses is the one that refuses
  pub refuses : (f : Form) → t.refusal f ≡ option_or (a.refusal f) (option_or (b.refusal (a.coded f)) (s.refusal (b.coded (a.coded f))))
  pub encodes : (f : Form) (x : List ℕ) → t.encoded f x ≡ s.encoded (b.coded (a.coded f)) (b.encoded (a.coded f) (a.encoded f x))
  pub decodes : (f : Form) (x : List ℕ) → t.refusal f ≡ None → length x ≡ t.size f 0
      → decoded t f x ≡ decoded a f (decoded b (a.coded f) (decoded s (b.coded (a.coded f)) x))
