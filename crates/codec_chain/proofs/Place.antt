-- The least place that meets the rule, by the definition and by one single after another.
use Rattle.std.proofs.Common.{◌≡◌, ℕ, suc, ◌+◌, ◌<◌, ◌≤◌, Bool, true, false, cond, not, ◌&&◌, List, [], ◌∷◌, ◌++◌, length, get_or, take, drop, Some, None, Ok, Option, Result, sym, refl, ap, ◌∙◌, subst, ⊎_elim, arith, length-append, zero-add}
use Rattle.std.specs.List.{list_all, range_with_len, position_or_len, slice_get}
use Rattle.std.proofs.lemmas.Bool.{both_ways, cases_lt, and_parts, and_from, and_left, and_right, not-true, not-false}
use Rattle.std.proofs.lemmas.List.{drop_all, drop-append-le, take_more, length-take-le}
use Rattle.std.proofs.lemmas.List.Folds.{list_all-append}
use Rattle.std.proofs.lemmas.List.FromFn.{length-range_with_len, get_or-range_with_len}
use Rattle.std.proofs.lemmas.List.Sums.{prefix_len-le-length, fails_before_first, passes_at_first}
use Rattle.std.proofs.lemmas.Option.{get_or_from_slice_get}
use Rattle.form.specs.declared.fault.Fault.{Fault}
use Rattle.form.specs.Refusals.{told, or_refused}
use Rattle.stage.specs.declared.capability.PartialDecoderCapability.{PartialDecoderCapability}
use Rattle.codec_chain.specs.Place.{all_by_parts, meets, cache_index, Placed}

-- the two capabilities that the rule asks for
abbrev decodes : PartialDecoderCapability → Bool
decodes c = c.partial_decode

abbrev reads : PartialDecoderCapability → Bool
reads c = c.partial_read

abbrev both : PartialDecoderCapability → Bool
both c = c.partial_read && c.partial_decode

none_left : (p : PartialDecoderCapability → Bool) (xs : List PartialDecoderCapability) (i : ℕ) → length xs ≤ i → list_all p (drop i xs) ≡ true
none_left p xs i h = ap (list_all p) (drop_all i xs h)

-- past the last single the rule asks for nothing
met_last : (xs : List PartialDecoderCapability) (i : ℕ) → length xs ≤ i → meets xs i ≡ true
met_last xs i h = and_from _ _ (none_left decodes xs i h) (none_left reads xs (suc i) (omega arith))

-- the definition gives the least place
module _ (xs : List PartialDecoderCapability) where
  abbrev places : List ℕ
  places = range_with_len 0 (length xs)

  abbrev first : ℕ
  first = position_or_len (meets xs) places

  first_there : first ≤ length xs
  first_there = omega (arith, prefix_len-le-length (λ i. not (meets xs i)) places, length-range_with_len 0 (length xs))

  -- a place below the last is among those that are tried
  tried : (j : ℕ) → j < length xs → get_or places j 0 ≡ j
  tried j h = get_or-range_with_len 0 (length xs) j 0 h ∙ zero-add j

  first_met : meets xs first ≡ true
  first_met =
      ⊎_elim
      (λ (h : first < length xs).
      ap (meets xs) (sym (tried first h)) ∙ passes_at_first (meets xs) places 0 (omega (arith, length-range_with_len 0 (length xs))))
      (λ (h : length xs ≤ first). met_last xs first h)
      (cases_lt first (length xs))

  first_least : (j : ℕ) → meets xs j ≡ true → first ≤ j
  first_least j m =
      ⊎_elim
      (λ (h : j < first).
      let t = first_there in
      absurd (both_ways (meets xs j) (ap (meets xs) (sym (tried j (omega arith))) ∙ fails_before_first (meets xs) places j 0 h) m))
      (λ (h : first ≤ j). h)
      (cases_lt j first)

  placed_by : (b : Bool) → all_by_parts xs ≡ b → Placed xs (cond b None (Some first))
  placed_by true e = e
  placed_by false e = record { lacking = e; there = first_there; met = first_met; least = first_least }

  pub placed : Placed xs (cache_index xs)
  placed = placed_by (all_by_parts xs) refl

  one_place : (r q : Option ℕ) → Placed xs r → Placed xs q → r ≡ q
  one_place None None a b = refl
  one_place None (Some j) a b = absurd (both_ways _ b.lacking a)
  one_place (Some i) None a b = absurd (both_ways _ a.lacking b)
  one_place (Some i) (Some j) a b =
      let h = a.least j b.met in
      let k = b.least i a.met in
      let e : i ≡ j = omega arith in
      ap Some e

  -- and no other is the least
  pub placed_is : (r : Option ℕ) → Placed xs r → r ≡ cache_index xs
  placed_is r a = one_place r (cache_index xs) a placed

-- one more single
module _ (xs : List PartialDecoderCapability) (c : PartialDecoderCapability) where
  abbrev more : List PartialDecoderCapability
  more = xs ++ c ∷ []

  length_more : length more ≡ length xs + 1
  length_more = length-append xs (c ∷ [])

  all_more : (p : PartialDecoderCapability → Bool) (i : ℕ) → i ≤ length xs → list_all p (drop i more) ≡ (list_all p (drop i xs) && (p c && true))
  all_more p i h = ap (list_all p) (drop-append-le i xs (c ∷ []) h) ∙ list_all-append p (drop i xs) (c ∷ [])

  both_more : all_by_parts more ≡ (all_by_parts xs && (both c && true))
  both_more = list_all-append both xs (c ∷ [])

  met_past : (i : ℕ) → length xs < i → meets more i ≡ true
  met_past i h = met_last more i (omega (arith, length_more))

  lacking_more : both c ≡ false → all_by_parts more ≡ false
  lacking_more e = both_more ∙ and_right _ _ (and_left _ _ e)

  -- a place before a single that does not decode a part does not meet the rule
  not_decoding : c.partial_decode ≡ false → Placed more (Some (length xs + 1))
  not_decoding e = record {
    lacking = lacking_more (and_right c.partial_read _ e);
    there = omega (arith, length_more);
    met = met_past (length xs + 1) (omega arith);
    least = λ j m. ⊎_elim
        (λ (h : length xs < j). omega arith)
        (λ (h : j ≤ length xs).
        absurd (both_ways _ (all_more decodes j h ∙ and_right _ _ (and_left _ _ e)) (and_parts _ _ m).0))
        (cases_lt (length xs) j);
  }

  -- nor does one before the place of a single that does not read a part
  not_reading : c.partial_decode ≡ true → c.partial_read ≡ false → Placed more (Some (length xs))
  not_reading d e = record {
    lacking = lacking_more (and_left _ _ e);
    there = omega (arith, length_more);
    met = and_from _ _
        (all_more decodes (length xs) (omega arith) ∙ and_from _ _ (none_left decodes xs (length xs) (omega arith)) (and_from _ _ d refl))
        (none_left reads more (suc (length xs)) (omega (arith, length_more)));
    least = λ j m. ⊎_elim
        (λ (h : j < length xs).
        absurd (both_ways _ (all_more reads (suc j) (omega arith) ∙ and_right _ _ (and_left _ _ e)) (and_parts _ _ m).1))
        (λ (h : length xs ≤ j). h)
        (cases_lt j (length xs));
  }

  -- a single that has both changes nothing
  meets_more : c.partial_decode ≡ true → c.partial_read ≡ true → (j : ℕ) → meets xs j ≡ true → meets more j ≡ true
  meets_more d e j m =
      let p = and_parts _ _ m in
      and_from _ _
      (⊎_elim
      (λ (h : length xs < j). none_left decodes more j (omega (arith, length_more)))
      (λ (h : j ≤ length xs). all_more decodes j h ∙ and_from _ _ p.0 (and_from _ _ d refl))
      (cases_lt (length xs) j))
      (⊎_elim
      (λ (h : length xs < suc j). none_left reads more (suc j) (omega (arith, length_more)))
      (λ (h : suc j ≤ length xs). all_more reads (suc j) h ∙ and_from _ _ p.1 (and_from _ _ e refl))
      (cases_lt (length xs) (suc j)))

  meets_fewer : (j : ℕ) → meets more j ≡ true → meets xs j ≡ true
  meets_fewer j m =
      let p = and_parts _ _ m in
      and_from _ _
      (⊎_elim
      (λ (h : length xs < j). none_left decodes xs j (omega arith))
      (λ (h : j ≤ length xs). (and_parts _ _ (sym (all_more decodes j h) ∙ p.0)).0)
      (cases_lt (length xs) j))
      (⊎_elim
      (λ (h : length xs < suc j). none_left reads xs (suc j) (omega arith))
      (λ (h : suc j ≤ length xs). (and_parts _ _ (sym (all_more reads (suc j) h) ∙ p.1)).0)
      (cases_lt (length xs) (suc j)))

  having_both : c.partial_decode ≡ true → c.partial_read ≡ true → (o : Option ℕ) → Placed xs o → Placed more o
  having_both d e None a = both_more ∙ and_from _ _ a (and_from _ _ (and_from _ _ e d) refl)
  having_both d e (Some i) a = record {
    lacking = both_more ∙ and_left _ _ a.lacking;
    there = omega (arith, length_more, a.there);
    met = meets_more d e i a.met;
    least = λ j m. a.least j (meets_fewer j m);
  }

known : (o : Option PartialDecoderCapability) (q : Result PartialDecoderCapability Fault) (c : PartialDecoderCapability) → told q ≡ or_refused o 13 → q ≡ Ok c → o ≡ Some c
known None q c e r = let z : or_refused None 13 ≡ Ok c = sym e ∙ ap told r in let y : ◌≡◌ {A = ℕ} 0 1 = cc in absurd (omega arith)
known (Some d) q c e r = let z : or_refused (Some d) 13 ≡ Ok c = sym e ∙ ap told r in cc

-- one turn of the loop: of the first k singles the place is o, and the next is known
module _ (singles : List PartialDecoderCapability) (k : ℕ) (o : Option ℕ) (q : Result PartialDecoderCapability Fault) (c : PartialDecoderCapability) (h : k < length singles) (a : Placed (take k singles) o) (e : told q ≡ or_refused (slice_get singles k) 13) (r : q ≡ Ok c) where
  long : length (take k singles) ≡ k
  long = length-take-le k singles (omega arith)

  next : take (k + 1) singles ≡ take k singles ++ c ∷ []
  next =
      take_more singles k c h
      ∙ ap (λ d. take k singles ++ d ∷ []) (get_or_from_slice_get singles k c c (known (slice_get singles k) q c e r))

  pub past_it : (v : Option ℕ) → not c.partial_decode ≡ true → v ≡ Some (k + 1) → Placed (take (k + 1) singles) v
  past_it v d w =
      subst (Placed (take (k + 1) singles)) (ap (λ n. Some (n + 1)) long ∙ sym w)
      (subst (λ xs. Placed xs (Some (length (take k singles) + 1))) (sym next) (not_decoding (take k singles) c (not-true _ d)))

  pub before_it : (v : Option ℕ) → not c.partial_decode ≡ false → not c.partial_read ≡ true → v ≡ Some k → Placed (take (k + 1) singles) v
  before_it v d f w =
      subst (Placed (take (k + 1) singles)) (ap Some long ∙ sym w)
      (subst (λ xs. Placed xs (Some (length (take k singles)))) (sym next) (not_reading (take k singles) c (not-false _ d) (not-true _ f)))

  pub as_it_was : (v : Option ℕ) → not c.partial_decode ≡ false → not c.partial_read ≡ false → v ≡ o → Placed (take (k + 1) singles) v
  as_it_was v d f w =
      subst (Placed (take (k + 1) singles)) (sym w)
      (subst (λ xs. Placed xs o) (sym next) (having_both (take k singles) c (not-false _ d) (not-false _ f) o a))
