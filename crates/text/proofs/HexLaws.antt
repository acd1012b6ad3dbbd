-- Hexadecimal is read back, and only what is written is read.
use Rattle.std.proofs.Common.{◌≡◌, ℕ, ◌+◌, ◌*◌, ◌/◌, ◌%◌, ◌<◌, ◌≤◌, List, [], ◌∷◌, ◌++◌, length, get_or, drop, Some, None, Option, sym, refl, ap, ◌∙◌, append_assoc, arith}
use Rattle.std.proofs.lemmas.List.{at_drop_more, append-nil, drop_all}
use Rattle.std.proofs.lemmas.Bool.Decides.{nat_tests}
use Rattle.std.specs.Option.{option_map}
use Rattle.std.specs.List.{AllByRecursion}
use Rattle.text.specs.Hex.{hex_digit, hex_pairs, hex_of, hex_value, byte_of, in_front, hex_bytes, hex_parsed, ReadsBack, OnlyPrinted}

value_digit : (n : ℕ) → n < 16 → hex_value (hex_digit n) ≡ Some n
value_digit n small = grind (arith, nat_tests)

digit_value : (c n : ℕ) → hex_value c ≡ Some n → (hex_digit n ≡ c) × (n < 16)
digit_value c n e = grind (arith, nat_tests)

pairs_back : (bs : List ℕ) → AllByRecursion (λ b. b < 256) bs → hex_bytes (hex_pairs bs) ≡ Some bs
pairs_back [] h = refl
pairs_back (b ∷ bs) h =
    let small : b < 256 = h.0 in
    let high = value_digit (b / 16) (omega arith) in
    let low = value_digit (b % 16) (omega arith) in
    let rest = pairs_back bs h.1 in
    let whole : 16 * (b / 16) + b % 16 ≡ b = omega arith in
    rw (high, low, rest) (ap (λ n. Some (n ∷ bs)) whole)

pub reads_back : ReadsBack
reads_back [] h = refl
reads_back (b ∷ bs) h = pairs_back (b ∷ bs) h

byte_parts : (high low : Option ℕ) (b : ℕ) → byte_of high low ≡ Some b → (h : ℕ) × (l : ℕ) × (high ≡ Some h) × (low ≡ Some l) × (b ≡ 16 * h + l)
byte_parts None low b e = absurd (grind arith)
byte_parts (Some h) None b e = absurd (grind arith)
byte_parts (Some h) (Some l) b e = (h, l, refl, refl, cc)

front_parts : (first : Option ℕ) (rest : Option (List ℕ)) (bs : List ℕ) → in_front first rest ≡ Some bs → (b : ℕ) × (ys : List ℕ) × (first ≡ Some b) × (rest ≡ Some ys) × (bs ≡ b ∷ ys)
front_parts None rest bs e = absurd (grind arith)
front_parts (Some b) None bs e = absurd (grind arith)
front_parts (Some b) (Some ys) bs e = (b, ys, refl, refl, cc)

only_pairs : (w bs : List ℕ) → hex_bytes w ≡ Some bs → hex_pairs bs ≡ w
only_pairs [] bs e = let none : bs ≡ [] = cc in ap hex_pairs none
only_pairs (c ∷ []) bs e = absurd (grind arith)
only_pairs (c ∷ (d ∷ cs)) bs e =
    let p = front_parts (byte_of (hex_value c) (hex_value d)) (hex_bytes cs) bs e in
    let q = byte_parts (hex_value c) (hex_value d) p.0 p.2 in
    let high = digit_value c q.0 q.2 in
    let low = digit_value d q.1 q.3 in
    let first : p.0 / 16 ≡ q.0 = omega (arith, q.4, high.1, low.1) in
    let second : p.0 % 16 ≡ q.1 = omega (arith, q.4, high.1, low.1) in
    let rest = only_pairs cs p.1 p.3 in
    let a : hex_digit (p.0 / 16) ≡ c = ap hex_digit first ∙ high.0 in
    let b : hex_digit (p.0 % 16) ≡ d = ap hex_digit second ∙ low.0 in
    ap hex_pairs p.4 ∙ (cc (a, b, rest))

pub some_pairs : (bs : List ℕ) → 0 < length bs → hex_of bs ≡ hex_pairs bs
some_pairs [] h = absurd (omega arith)
some_pairs (b ∷ bs) h = refl

printed_pairs : (bs : List ℕ) (c : ℕ) (cs : List ℕ) → hex_pairs bs ≡ c ∷ cs → hex_of bs ≡ c ∷ cs
printed_pairs [] c cs e = absurd (grind arith)
printed_pairs (b ∷ bs) c cs e = e

one_printed : (c : ℕ) (bs : List ℕ) → hex_parsed (c ∷ []) ≡ Some bs → (c ≡ 45) × (bs ≡ [])
one_printed c bs e = grind (arith, nat_tests)

pub only_printed : OnlyPrinted
only_printed [] bs e = absurd (grind arith)
only_printed (c ∷ []) bs e =
    let p = one_printed c bs e in
    ap hex_of p.1 ∙ ap (λ n. n ∷ []) (sym p.0)
only_printed (c ∷ (d ∷ cs)) bs e = printed_pairs bs c (d ∷ cs) (only_pairs (c ∷ (d ∷ cs)) bs e)

-- one more byte written
pub write_more : (old items bytes : List ℕ) (i a b : ℕ) → i < length bytes → a ≡ hex_digit (get_or bytes i 0 / 16) → b ≡ hex_digit (get_or bytes i 0 % 16) → items ++ hex_pairs (drop i bytes) ≡ old ++ hex_pairs bytes → ((items ++ (a ∷ [])) ++ (b ∷ [])) ++ hex_pairs (drop (i + 1) bytes) ≡ old ++ hex_pairs bytes
write_more old items bytes i a b h p q e =
    let step = at_drop_more hex_pairs bytes i 0 h in
    let left : ((items ++ (a ∷ [])) ++ (b ∷ [])) ++ hex_pairs (drop (i + 1) bytes) ≡ items ++ (a ∷ (b ∷ hex_pairs (drop (i + 1) bytes))) = simp append_assoc in
    let same : a ∷ (b ∷ hex_pairs (drop (i + 1) bytes)) ≡ hex_pairs (drop i bytes) = cc in
    left ∙ (ap (λ s. items ++ s) same ∙ e)

-- all written
pub write_all : (old items bytes : List ℕ) (i : ℕ) → length bytes ≤ i → 0 < length bytes → items ++ hex_pairs (drop i bytes) ≡ old ++ hex_pairs bytes → items ≡ old ++ hex_of bytes
write_all old items bytes i h some e =
    let none : hex_pairs (drop i bytes) ≡ [] = ap hex_pairs (drop_all i bytes h) in
    let last : items ++ hex_pairs (drop i bytes) ≡ items = ap (λ s. items ++ s) none ∙ append-nil items in
    sym last ∙ (e ∙ ap (λ s. old ++ s) (sym (some_pairs bytes some)))

moved : (items : List ℕ) (b : ℕ) (o : Option (List ℕ)) → option_map (λ ys. (items ++ (b ∷ [])) ++ ys) o ≡ option_map (λ ys. items ++ ys) (in_front (Some b) o)
moved items b None = refl
moved items b (Some ys) = ap Some (append_assoc items (b ∷ []) ys)

-- one more pair read
pub read_more : (word items left rest : List ℕ) (h l b : ℕ) → 2 ≤ length left → rest ≡ drop 2 left → h ≡ get_or left 0 0 → l ≡ get_or left 1 0 → Some b ≡ byte_of (hex_value h) (hex_value l) → option_map (λ ys. items ++ ys) (hex_bytes left) ≡ hex_bytes word → option_map (λ ys. (items ++ (b ∷ [])) ++ ys) (hex_bytes rest) ≡ hex_bytes word
read_more word items [] rest h l b two r eh el eb e = absurd (omega arith)
read_more word items (c ∷ []) rest h l b two r eh el eb e = absurd (omega arith)
read_more word items (c ∷ (d ∷ cs)) rest h l b two r eh el eb e =
    let first : byte_of (hex_value c) (hex_value d) ≡ Some b = sym (cc) in
    let after : hex_bytes rest ≡ hex_bytes cs = ap hex_bytes r in
    rw after (moved items b (hex_bytes cs) ∙ (ap (λ o. option_map (λ ys. items ++ ys) (in_front o (hex_bytes cs))) (sym first) ∙ e))
