-- A word is read as a stage exactly where it is a word of that stage.
use Rattle.std.proofs.Common.{◌≡◌, ℕ, cond, Bool, true, false, List, ◌++◌, ◌⊎◌, inl, inr, length, take, drop, Option, Some, None, codes, sym, refl, ap, ◌∙◌, subst, arith}
use Rattle.std.specs.Option.{option_map, option_and_then, option_or}
use Rattle.std.specs.Str.{bytes_eq}
use Rattle.std.proofs.lemmas.Slice.Eq.{bytes_eq-Decides}
use Rattle.std.proofs.lemmas.List.{take-append-drop}
use Rattle.text.specs.List.{listed, all_said}
use Rattle.text.specs.Number.{number_of}
use Rattle.text.specs.Words.{behind}
use Rattle.bytes_codec.specs.declared.bytes_codec.Endianness.{Endianness}
use Rattle.bytes_codec.specs.declared.bytes_codec.Endianness.TheVariants.{Little, Big}
use Rattle.stage_names.specs.Names.{SaidStage, SaidTranspose, SaidDifference, SaidBytes, SaidShuffle, SaidFletcher32, array_of, endian_of, bytes_of, byte_of, stage_of, IsWordOf, StageWords}

-- a text that is tested for, and what stands behind a front
tested : {A : Type 0} (word text : List ℕ) (x : A) (other : Option A) (y : A) → cond (bytes_eq word text) (Some x) other ≡ Some y → ((word ≡ text) × (x ≡ y)) ⊎ (other ≡ Some y)
tested word text x other y e = by_test (bytes_eq word text) refl e where
  by_test : (b : Bool) → bytes_eq word text ≡ b → cond b (Some x) other ≡ Some y → ((word ≡ text) × (x ≡ y)) ⊎ (other ≡ Some y)
  by_test true t h = inl ((bytes_eq-Decides word text).0 t, grind arith)
  by_test false t h = inr h

fronted : (front word rest : List ℕ) → behind front word ≡ Some rest → word ≡ front ++ rest
fronted front word rest e = by_test (bytes_eq (take (length front) word) front) refl e where
  by_test : (b : Bool) → bytes_eq (take (length front) word) front ≡ b → cond b (Some (drop (length front) word)) None ≡ Some rest → word ≡ front ++ rest
  by_test true t h =
      let same = (bytes_eq-Decides (take (length front) word) front).0 t in
      let left : drop (length front) word ≡ rest = grind arith in
      sym (take-append-drop (length front) word) ∙ (ap (λ xs. xs ++ drop (length front) word) same ∙ ap (λ xs. front ++ xs) left)
  by_test false t h = absurd (grind arith)

-- what an Option is made of
mapped : {A : Type 0} (make : A → SaidStage) (o : Option A) (s : SaidStage) → option_map make o ≡ Some s → (x : A) × (o ≡ Some x) × (make x ≡ s)
mapped make None s e = absurd (grind arith)
mapped make (Some x) s e = (x, refl, grind arith)

chained : {A : Type 0} (f : List ℕ → Option A) (o : Option (List ℕ)) (x : A) → option_and_then f o ≡ Some x → (rest : List ℕ) × (o ≡ Some rest) × (f rest ≡ Some x)
chained f None x e = absurd (grind arith)
chained f (Some rest) x e = (rest, refl, e)

either : (a b : Option SaidStage) (s : SaidStage) → option_or a b ≡ Some s → (a ≡ Some s) ⊎ (b ≡ Some s)
either None b s e = inr e
either (Some x) b s e = inl e

-- the words of each kind
array_words : (word : List ℕ) (s : SaidStage) → array_of word ≡ Some s → IsWordOf s word
array_words word s e = elim (tested word (codes "difference") SaidDifference _ s e) [
  | inl h ↦ subst (λ s. IsWordOf s word) h.1 h.0
  | inr h ↦
      let m = mapped SaidTranspose _ s h in
      let c = chained (λ order. all_said number_of (listed 44 order)) (behind (codes "transpose:") word) m.0 m.1 in
      subst (λ s. IsWordOf s word) m.2 (c.0, fronted (codes "transpose:") word c.0 c.1, c.2)
]

byte_words : (word : List ℕ) (s : SaidStage) → byte_of word ≡ Some s → IsWordOf s word
byte_words word s e = elim (tested word (codes "fletcher32") SaidFletcher32 _ s e) [
  | inl h ↦ subst (λ s. IsWordOf s word) h.1 h.0
  | inr h ↦
      let m = mapped SaidShuffle _ s h in
      let c = chained number_of (behind (codes "shuffle:") word) m.0 m.1 in
      subst (λ s. IsWordOf s word) m.2 (c.0, fronted (codes "shuffle:") word c.0 c.1, c.2)
]

endian_words : (word rest : List ℕ) (endian : Option Endianness) → word ≡ codes "bytes:" ++ rest → endian_of rest ≡ Some endian → IsWordOf (SaidBytes endian) word
endian_words word rest endian w e = elim (tested rest (codes "little") (Some Little) _ endian e) [
  | inl h ↦ subst (λ x. IsWordOf (SaidBytes x) word) h.1 (w ∙ ap (λ xs. codes "bytes:" ++ xs) h.0)
  | inr h ↦ elim (tested rest (codes "big") (Some Big) _ endian h) [
    | inl k ↦ subst (λ x. IsWordOf (SaidBytes x) word) k.1 (w ∙ ap (λ xs. codes "bytes:" ++ xs) k.0)
    | inr k ↦ elim (tested rest (codes "none") None None endian k) [
      | inl l ↦ subst (λ x. IsWordOf (SaidBytes x) word) l.1 (w ∙ ap (λ xs. codes "bytes:" ++ xs) l.0)
      | inr l ↦ absurd (grind arith)
    ]
  ]
]

bytes_words : (word : List ℕ) (s : SaidStage) → bytes_of word ≡ Some s → IsWordOf s word
bytes_words word s e =
    let m = mapped SaidBytes _ s e in
    let c = chained endian_of (behind (codes "bytes:") word) m.0 m.1 in
    subst (λ s. IsWordOf s word) m.2 (endian_words word c.0 m.0 (fronted (codes "bytes:") word c.0 c.1) c.2)

read : (word : List ℕ) (s : SaidStage) → stage_of word ≡ Some s → IsWordOf s word
read word s e = elim (either (bytes_of word) (option_or (byte_of word) (array_of word)) s e) [
  | inl h ↦ bytes_words word s h
  | inr h ↦ elim (either (byte_of word) (array_of word) s h) [
    | inl k ↦ byte_words word s k
    | inr k ↦ array_words word s k
  ]
]

-- the word of a stage is read as that stage
back : (word : List ℕ) (s : SaidStage) → IsWordOf s word → stage_of word ≡ Some s
back word (SaidTranspose order) h = ap stage_of h.1 ∙ ap (option_map SaidTranspose) h.2
back word SaidDifference h = ap stage_of h
back word (SaidBytes (Some Little)) h = ap stage_of h
back word (SaidBytes (Some Big)) h = ap stage_of h
back word (SaidBytes None) h = ap stage_of h
back word (SaidShuffle size) h = ap stage_of h.1 ∙ ap (λ o. option_or (option_map SaidShuffle o) (array_of (codes "shuffle:" ++ h.0))) h.2
back word SaidFletcher32 h = ap stage_of h

pub stage_words : StageWords
stage_words word s = (read word s, back word s)
