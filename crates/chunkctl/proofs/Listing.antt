-- What the singles can do and the lengths at the places, listed one by one.
use Rattle.std.proofs.Common.{◌≡◌, ℕ, ◌+◌, List, [], ◌∷◌, ◌++◌, length, take, map, leb as nat_le, Some, None, Ok, Option, zero-add}
use Rattle.std.specs.List.{range_with_len, slice_get}
use Rattle.std.proofs.lemmas.List.{map-append, take_more}
use Rattle.std.proofs.lemmas.Option.{slice_get_within, get_or_from_slice_get}
use Rattle.std.proofs.lemmas.List.FromFn.{map-range_with_len_more}
use Rattle.form.specs.Refusals.{or_refused}
use Rattle.stage.specs.declared.capability.PartialDecoderCapability.{PartialDecoderCapability}
use Rattle.stage.specs.Stage.{Stage}
use Rattle.stage.specs.Calls.{size_answer}
use Rattle.stage.proofs.Refusing.{unless_ok, only_if_ok}

answered : {X : Type 0} (o : Option X) (x : X) (n : ℕ) → Ok x ≡ or_refused o n → o ≡ Some x
answered None x n e = cc
answered (Some y) x n e = cc

pub capability_more : {T : Type 0} (what : T → PartialDecoderCapability) (singles : List PartialDecoderCapability) (k : ℕ) (found : List T) (one : T) → map what found ≡ take k singles → Ok (what one) ≡ or_refused (slice_get singles k) 13 → map what (found ++ (one ∷ [])) ≡ take (k + 1) singles
capability_more what singles k found one h e =
    let s = answered (slice_get singles k) (what one) 13 e in
    let n = take_more singles k (what one) (slice_get_within singles k (what one) s) in
    let same = get_or_from_slice_get singles k (what one) (what one) s in
    let m = map-append what found (one ∷ []) in
    cc

pub size_more : {F G : Type 0} (t : Stage F G) (f : F) (k n : ℕ) (lengths : List ℕ) → lengths ≡ map (t.size f) (range_with_len 0 k) → Ok n ≡ size_answer t f k → lengths ++ (n ∷ []) ≡ map (t.size f) (range_with_len 0 (k + 1))
size_more t f k n lengths h e =
    let taken = unless_ok (t.refusal f) _ n e in
    let there = only_if_ok (nat_le k (length t.singles)) 13 (Ok (t.size f k)) n taken.1 in
    let same : n ≡ t.size f k = cc (there.1) in
    let more = map-range_with_len_more (t.size f) 0 k k (zero-add k) in
    cc
