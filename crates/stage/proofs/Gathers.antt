-- Bytes put into another order, and back: the laws of every coding that only moves bytes.
use Rattle.std.proofs.Common.{◌≡◌, ℕ, ◌+◌, ◌*◌, ◌/◌, ◌%◌, ◌<◌, ◌≤◌, true, List, length, get_or, None, sym, ap, ◌∙◌, subst, mul_comm, zero-add, arith}
use Rattle.std.proofs.lemmas.Nat.{div-mul-add, mod-mul-add, mul-add-lt, div_below, mod_below, div-add-mod'}
use Rattle.std.proofs.lemmas.List.FromFn.{length-map-range_with_len, get_or-map-range_with_len}
use Rattle.std.proofs.lemmas.List.{ext_get_or}
use Rattle.form.proofs.Shapes.{positive}
use Rattle.stage.specs.Stage.{Bytes}
use Rattle.stage.specs.Single.{Coding, CodingLaws}
use Rattle.stage.specs.Gathers.{gathered, by_element}
use Rattle.stage.proofs.Bytewise.{byte_anywhere}

pub length-gathered : (g : ℕ → ℕ) (n : ℕ) (x : List ℕ) → length (gathered g n x) ≡ n
length-gathered g n x = length-map-range_with_len _ 0 n

pub get_or-gathered : (g : ℕ → ℕ) (n : ℕ) (x : List ℕ) (p : ℕ) → p < n → get_or (gathered g n x) p 0 ≡ get_or x (g p) 0
get_or-gathered g n x p h = get_or-map-range_with_len _ 0 n p p 0 h (zero-add p)

pub Bytes-gathered : (g : ℕ → ℕ) (n : ℕ) (x : List ℕ) → Bytes x → Bytes (gathered g n x)
Bytes-gathered g n x h k l = rw (get_or-gathered g n x k (omega (arith, length-gathered g n x))) (byte_anywhere x h _)

pub gathered_back : (g h : ℕ → ℕ) (n : ℕ) (x : List ℕ) → length x ≡ n → ((p : ℕ) → p < n → (h p < n) × (g (h p) ≡ p)) → gathered h n (gathered g n x) ≡ x
gathered_back g h n x l k =
    ext_get_or 0 _ x (length-gathered h n _ ∙ sym l)
    (λ p lt.
    let lp : p < n = omega (arith, length-gathered h n (gathered g n x)) in
    get_or-gathered h n (gathered g n x) p lp
    ∙ get_or-gathered g n x (h p) (k p lp).0
    ∙ ap (λ v. get_or x v 0) (k p lp).1)

-- n bytes move by `out`, and back by `home`; there are m of them then
pub record Moves (n m : ℕ) (out home : ℕ → ℕ) : Type 0 where
  pub few : n ≤ 4096
  pub same : m ≡ n
  pub back : (p : ℕ) → p < n → (home p < n) × (out (home p) ≡ p)

module _ {F G : Type 0} (bF : F → ℕ) (bG : G → ℕ) (s : Coding F G) (out home : F → ℕ → ℕ) where
  pub gathering_laws : ((f : F) (x : List ℕ) → s.refusal f ≡ None → s.encoded f x ≡ gathered (out f) (bF f) x)
      → ((f : F) (x : List ℕ) → s.refusal f ≡ None → s.decoded f x ≡ gathered (home f) (bF f) x)
      → ((f : F) (x : List ℕ) → s.test f x ≡ true)
      → ((f : F) → s.refusal f ≡ None → Moves (bF f) (bG (s.coded f)) (out f) (home f))
      → CodingLaws bF bG s
  gathering_laws e d t m = record {
    fits = λ f r. let k = m f r in (k.few, subst (λ v. v ≤ 4096) (sym k.same) k.few);
    encoded_size = λ f x r l. ap length (e f x r) ∙ length-gathered (out f) (bF f) x ∙ sym (m f r).same;
    encoded_bytes = λ f x r l h. subst Bytes (sym (e f x r)) (Bytes-gathered (out f) (bF f) x h);
    decoded_size = λ f x r l. ap length (d f x r) ∙ length-gathered (home f) (bF f) x;
    decoded_bytes = λ f x r l h. subst Bytes (sym (d f x r)) (Bytes-gathered (home f) (bF f) x h);
    back = λ f x r l h. d f (s.encoded f x) r ∙ ap (gathered (home f) (bF f)) (e f x r) ∙ gathered_back (out f) (home f) (bF f) x l (m f r).back;
    passing = λ f x r l h. t f (s.encoded f x);
  }

-- place b of row a, where a row has w places and there are h rows
pub inside : (a w b h : ℕ) → a < h → b < w → a * w + b < h * w
inside a w b h la lb = rw (mul_comm h w) (mul-add-lt a w b h la lb)

-- byte b of element e
pub element_byte : (g : ℕ → ℕ) (s e b : ℕ) → b < s → by_element g s (e * s + b) ≡ g e * s + b
element_byte g s e b l = ap (λ v. g v * s + (e * s + b) % s) (div-mul-add e s b l) ∙ ap (λ v. g e * s + v) (mod-mul-add e s b l)

-- c elements move by g, and back by h
pub elements_back : (g h : ℕ → ℕ) (c s : ℕ) → ((e : ℕ) → e < c → (h e < c) × (g (h e) ≡ e)) → (p : ℕ) → p < c * s → (by_element h s p < c * s) × (by_element g s (by_element h s p) ≡ p)
elements_back g h c s k p l =
    let w = (positive c s (omega arith)).1 in
    let e = k (p / s) (div_below p s c w l) in
    let b : p % s < s = mod_below p s w in (
      inside (h (p / s)) s (p % s) c e.0 b,
      element_byte g s (h (p / s)) (p % s) b ∙ ap (λ v. v * s + p % s) e.1 ∙ div-add-mod' p s,
    )
